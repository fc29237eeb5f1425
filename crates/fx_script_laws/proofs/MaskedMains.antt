-- A main fiber whose whole term is a mask: with a poll that opens it at once, in another mask, or with two polls in the inverse order.
use Rattle.std.proofs.Common.{◌≡◌, ◌≢◌, ℕ, suc, ◌+◌, ◌≤◌, Bool, false, Option, List, [], ◌∷◌, ◌++◌, All, refl, sym, ◌∙◌, ap, subst, arith}
use Rattle.std.proofs.lemmas.Bool.{ne_eqb}
use Rattle.std.proofs.lemmas.List.Elements.{All-head}
use Rattle.fx_mask.specs.Closing.{Closing, Region, without_region}
use Rattle.fx_term.specs.declared.name_kind.NameKind.{NameKind}
use Rattle.fx_term.specs.declared.name_kind.NameKind.TheVariants as kind
use Rattle.fx_term.specs.declared.node.Arg.TheVariants.{Slot}
use Rattle.fx_term.specs.Need.{need}
use Rattle.fx_term.specs.Scope.{with_name, IsScoped}
use Rattle.fx_term.specs.Term.{Term, Mask, Poll, OnCancel, Masked, Opened, put}
use Rattle.fx_term.proofs.NameUses.{put_other_poll, name_is}
use Rattle.fx_model.specs.Row.{Counts, Label, Silent}
use Rattle.fx_model.specs.Row as rule
use Rattle.fx_model.specs.Origin.{Origin, main_origin}
use Rattle.fx_model.specs.Step.{Progress, Runs, has_ended, Step}
use Rattle.fx_model.specs.Step as step
use Rattle.fx_model.specs.Run.{Leads, IsRun, IsUnrequested, shown}
use Rattle.fx_model.specs.Outside.{Outside, can_step}
use Rattle.fx_model.specs.MaskLaws.{IsPlain, IsScopedWithout}
use Rattle.fx_model.specs.Report.{ReportView, is_requested_in, final_outside}
use Rattle.fx_model.proofs.Alike.{next_regions, Alike, plain_alike}
use Rattle.fx_model.proofs.AlikePlaces.{AreMatching, AreInside}
use Rattle.fx_model.proofs.MaskEntering.{counts_at, MaskLeadsInto, enters_mask, enters_own_poll, enters_finalizer, enters_two, enters_inverse}
use Rattle.fx_model.proofs.MaskedRuns.{entering, inside}
use Rattle.fx_model.proofs.Paths.{no_context}
use Rattle.fx_model.proofs.ShownRuns.{leads_append, Reaches, stays, steps, and_then, enters_silently}
use Rattle.fx_model.proofs.Wrapped.{Wrap, Closes, Opens, Cleans, wrapped}
use Rattle.fx_script_laws.specs.Interchange.{StopsThere, CanComeTo}
use Rattle.fx_script_laws.specs.InScripts.{HaveSameReports}
use Rattle.fx_script_laws.proofs.BesideEnds.{shown_append, not_stopped, come_along}
use Rattle.fx_script_laws.proofs.MainReplaced.{unseen_all, MainsCome, have_same}

abbrev own_poll : List Wrap
own_poll = Opens 0 ∷ Closes 0 ∷ []

in_mask : AreMatching 1 0 own_poll []
in_mask = record { kept = λ r h. refl; kept' = λ r h. refl; same = refl; shut = (refl, tt); shut' = tt; clean = λ h. (tt, tt) }

out_of_mask : AreMatching 0 1 [] own_poll
out_of_mask = record { kept = λ r h. refl; kept' = λ r h. refl; same = refl; shut = tt; shut' = (refl, tt); clean = λ h. (tt, tt) }

-- sides in the other order
turned : {n n' : ℕ} {ws ws' : List Wrap} → AreMatching n n' ws ws' → AreMatching n' n ws' ws
turned m =
    record {
      kept = m.kept';
      kept' = m.kept;
      same = sym m.same;
      shut = m.shut';
      shut' = m.shut;
      clean = λ h. let none = m.clean (m.same ∙ h) in (none.1, none.0);
    }

-- a region that is entered later is not the one that closes the place outside
kept_later : (q r : ℕ) (outer : List Closing) → suc q ≤ r → without_region r (Region q ∷ outer) ≡ Region q ∷ outer
kept_later q r outer h = rw (ne_eqb q r (omega arith)) refl

two_sides : AreMatching 2 1 (Closes 1 ∷ Closes 0 ∷ []) (Closes 0 ∷ [])
two_sides =
    record {
      kept = λ r h. kept_later 1 r (Region 0 ∷ []) h;
      kept' = λ r h. kept_later 0 r [] h;
      same = refl;
      shut = (refl, tt);
      shut' = tt;
      clean = λ h. (tt, tt);
    }

inverse_sides : AreMatching 2 1 (Opens 1 ∷ Opens 0 ∷ Closes 1 ∷ Closes 0 ∷ []) (Closes 0 ∷ [])
inverse_sides =
    record {
      kept = λ r h. kept_later 0 r [] (omega arith);
      kept' = λ r h. kept_later 0 r [] h;
      same = refl;
      shut = (refl, (refl, (refl, tt)));
      shut' = tt;
      clean = λ h. (tt, tt);
    }

module _ (o : Outside) (next end : ℕ) where
  abbrev Comes : Term → Progress → List Label → Type 0
  Comes u q ls = CanComeTo (StopsThere o 0 (has_ended q)) (counts_at 0 next end) (Runs u) (shown ls)

  -- a silent way, and then the rest
  by_way : (q : Progress) {c : Counts} {u v : Term} {ms : List Label} → Reaches (counts_at 0 next end) (Runs u) [] c (Runs v)
      → CanComeTo (StopsThere o 0 (has_ended q)) c (Runs v) ms → CanComeTo (StopsThere o 0 (has_ended q)) (counts_at 0 next end) (Runs u) ms
  by_way q {c} {u} {v} way rest =
      record {
        labels = way.labels ++ rest.labels;
        counts = rest.counts;
        progress = rest.progress;
        run = leads_append (counts_at 0 next end) (Runs u) way.labels rest.labels c rest.counts (Runs v) rest.progress way.leads rest.run;
        shown_is = shown_append way.labels rest.labels ∙ ap (λ (ns : List Label). ns ++ shown rest.labels) way.shown_is ∙ rest.shown_is;
        ends = rest.ends;
      }

  way_in : {p n : ℕ} {a : Term} (ws : List Wrap) (t : Term) → MaskLeadsInto p a n ws t
      → Reaches (counts_at 0 next end) (Runs (Mask p a)) [] (counts_at n next end) (Runs (wrapped ws t))
  way_in ws t into = and_then (steps {l = Silent} (step.row refl rule.mask)) (enters_silently (into next end))

  -- the first fiber begins with a mask, and sees no request; the second comes silently inside its own
  mask_comes : (n n' p : ℕ) (ws ws' : List Wrap) (a t second : Term) → AreMatching n n' ws ws' → Alike n n' t t
      → MaskLeadsInto p a n ws t → Reaches (counts_at 0 next end) (Runs second) [] (counts_at n' next end) (Runs (wrapped ws' t))
      → (ls : List Label) (d : Counts) (q : Progress) → Leads (counts_at 0 next end) (Runs (Mask p a)) ls d q → All IsUnrequested ls
      → can_step o 0 d q ≡ false → Comes second q ls
  mask_comes n n' p ws ws' a t second sides same into way [] d q h unseen unable =
      absurd (not_stopped 1 0 o 0 (counts_at 0 next end) (Mask p a) refl (subst (λ (x : Progress). can_step o 0 (counts_at 0 next end) x ≡ false) h.1
      (subst (λ (x : Counts). can_step o 0 x q ≡ false) h.0 unable)))
  mask_comes n n' p ws ws' a t second sides same into way (l ∷ ls) d q h unseen unable = by_step h.2 h.3 (All-head IsUnrequested l ls unseen)
    where
      by_step : {e : Counts} {m : Progress} {l : Label} → Step (counts_at 0 next end) (Runs (Mask p a)) l e m → Leads e m ls d q → IsUnrequested l
          → Comes second q (l ∷ ls)
      by_step (step.cancelled must) rest none = absurd cc
      by_step (step.seen free open_here) rest none = absurd (none refl)
      by_step (step.row free (rule.inside f e g r)) rest none = absurd (no_context f _ _ refl e)
      by_step (step.row free rule.mask) rest none =
          let within : AreInside n n' ws ws' (wrapped ws t) t t = record { sides = sides; whole_is = refl; are_alike = same } in
          let beside = entering ws ws' (into next end) within (next_regions n n') in
          by_way q way
          (come_along n n' o 0 (counts_at 1 next end) (counts_at n' next end) d (Runs (Masked 0 (put p 0 a))) (Runs (wrapped ws' t)) q ls beside rest unable)

module _ (scope : ℕ → Option NameKind) (p : ℕ) (t : Term) (plain : IsPlain t) (scoped : IsScoped (with_name p kind.OtherPoll scope) t) where
  abbrev masked : Term
  masked = Mask p (Poll (Slot p) t)

  alike_itself : (low low' : ℕ) → Alike low low' t t
  alike_itself low low' = plain_alike low low' (with_name p kind.OtherPoll scope) t plain scoped

  into : MaskLeadsInto p (Poll (Slot p) t) 1 own_poll t
  into = enters_own_poll p t (put_other_poll p (with_name p kind.OtherPoll scope) t (name_is p kind.OtherPoll scope) scoped)

  module _ (o : Outside) (next end : ℕ) where
    in_ : (ls : List Label) (d : Counts) (q : Progress) → Leads (counts_at 0 next end) (Runs t) ls d q → can_step o 0 d q ≡ false
        → Comes o next end masked q ls
    in_ ls d q h unable =
        let within : AreInside 0 1 [] own_poll t t t = record { sides = out_of_mask; whole_is = refl; are_alike = alike_itself 0 1 } in
        let beside = inside [] own_poll within (next_regions 0 1) in
        by_way o next end q (way_in o next end own_poll t into)
        (come_along 0 1 o 0 (counts_at 0 next end) (counts_at 1 next end) d (Runs t) (Runs (Masked 0 (Opened 0 t))) q ls beside h unable)

  module _ (capacities : List ℕ) (may : ℕ → Bool) (r : ReportView) (quiet : is_requested_in r 0 ≡ false) where
    to_plain : MainsCome masked t capacities may r
    to_plain lawful =
        let main = lawful.starters.main in
        let h = lawful.runs.run 0 main.0 main.1 in
        let run : IsRun (main_origin masked) (lawful.runs.labels 0) (lawful.runs.counts 0) (lawful.runs.progress 0) =
        subst (λ (b : Origin). IsRun b (lawful.runs.labels 0) (lawful.runs.counts 0) (lawful.runs.progress 0)) lawful.origins.main h.run in
        mask_comes (final_outside (record { term = masked; capacities = capacities }) r) 1 (1 + need t) 1 0 p own_poll [] (Poll (Slot p) t) t t in_mask
        (alike_itself 1 0) into stays (lawful.runs.labels 0) (lawful.runs.counts 0) (lawful.runs.progress 0) run
        (unseen_all r 0 quiet (lawful.runs.labels 0) (lawful.seen 0 main.0 main.1)) h.unable

    to_masked : MainsCome t masked capacities may r
    to_masked lawful =
        let main = lawful.starters.main in
        let h = lawful.runs.run 0 main.0 main.1 in
        let run : IsRun (main_origin t) (lawful.runs.labels 0) (lawful.runs.counts 0) (lawful.runs.progress 0) =
        subst (λ (b : Origin). IsRun b (lawful.runs.labels 0) (lawful.runs.counts 0) (lawful.runs.progress 0)) lawful.origins.main h.run in
        in_ (final_outside (record { term = t; capacities = capacities }) r) 1 (1 + need t) (lawful.runs.labels 0) (lawful.runs.counts 0)
        (lawful.runs.progress 0) run h.unable

    pub masked_main : HaveSameReports (record { term = masked; capacities = capacities }) (record { term = t; capacities = capacities }) may r
    masked_main = have_same masked t capacities may r refl to_plain to_masked

-- a finalizer at a closed place
finalizer_sides : (f : Term) → AreMatching 1 1 (Cleans f ∷ Closes 0 ∷ []) (Closes 0 ∷ [])
finalizer_sides f =
    record { kept = λ r h. kept_later 0 r [] h; kept' = λ r h. kept_later 0 r [] h; same = refl; shut = (refl, tt); shut' = tt; clean = λ h. absurd cc }

-- two whole terms that begin with a mask and come into the same term, with no region that is told
module _ (n n' p : ℕ) (ws ws' : List Wrap) (a b t : Term) (to_sides : AreMatching n n' ws ws') (from_sides : AreMatching n' n ws' ws)
    (same : (low low' : ℕ) → Alike low low' t t) (into : MaskLeadsInto p a n ws t) (into' : MaskLeadsInto p b n' ws' t) (needs : need a ≡ need b) where
  pub one_for_other : (capacities : List ℕ) (may : ℕ → Bool) (r : ReportView) → is_requested_in r 0 ≡ false → MainsCome (Mask p a) (Mask p b) capacities may r
  one_for_other capacities may r quiet lawful =
      let main = lawful.starters.main in
      let h = lawful.runs.run 0 main.0 main.1 in
      let run : IsRun (main_origin (Mask p a)) (lawful.runs.labels 0) (lawful.runs.counts 0) (lawful.runs.progress 0) =
      subst (λ (x : Origin). IsRun x (lawful.runs.labels 0) (lawful.runs.counts 0) (lawful.runs.progress 0)) lawful.origins.main h.run in
      let o = final_outside (record { term = Mask p a; capacities = capacities }) r in
      let comes = mask_comes o 1 (1 + need a) n n' p ws ws' a t (Mask p b) to_sides (same n n') into (way_in o 1 (1 + need a) ws' t into')
      (lawful.runs.labels 0) (lawful.runs.counts 0) (lawful.runs.progress 0) run
      (unseen_all r 0 quiet (lawful.runs.labels 0) (lawful.seen 0 main.0 main.1)) h.unable in
      subst (λ (m : ℕ). CanComeTo (StopsThere o 0 (has_ended (lawful.runs.progress 0))) (counts_at 0 1 (1 + m)) (Runs (Mask p b))
      (shown (lawful.runs.labels 0))) needs comes

-- and the one for the other is the other for the one
module _ (n n' p : ℕ) (ws ws' : List Wrap) (a b t : Term) (sides : AreMatching n n' ws ws') (same : (low low' : ℕ) → Alike low low' t t)
    (into : MaskLeadsInto p a n ws t) (into' : MaskLeadsInto p b n' ws' t) (needs : need a ≡ need b) (capacities : List ℕ) (may : ℕ → Bool) (r : ReportView)
    (quiet : is_requested_in r 0 ≡ false) where
  masks_have_same : HaveSameReports (record { term = Mask p a; capacities = capacities }) (record { term = Mask p b; capacities = capacities }) may r
  masks_have_same =
      have_same (Mask p a) (Mask p b) capacities may r needs
      (one_for_other n n' p ws ws' a b t sides (turned sides) same into into' needs capacities may r quiet)
      (one_for_other n' n p ws' ws b a t (turned sides) sides same into' into (sym needs) capacities may r quiet)

module _ (scope : ℕ → Option NameKind) (p r : ℕ) (t : Term) (plain : IsPlain t) (other : p ≢ r) (scoped : IsScopedWithout scope p r t) where
  abbrev inner : ℕ → Option NameKind
  inner = with_name p kind.OtherPoll (with_name r kind.OtherPoll scope)

  p_unused : (n : ℕ) → put p n t ≡ t
  p_unused = put_other_poll p inner t (name_is p kind.OtherPoll (with_name r kind.OtherPoll scope)) scoped

  r_unused : (n : ℕ) → put r n t ≡ t
  r_unused = put_other_poll r inner t (rw (ne_eqb r p (λ e. other (sym e))) (name_is r kind.OtherPoll scope)) scoped

  alike_both : (low low' : ℕ) → Alike low low' t t
  alike_both low low' = plain_alike low low' inner t plain scoped

  into_one : MaskLeadsInto p t 1 (Closes 0 ∷ []) t
  into_one = enters_mask p t p_unused

  into_two : MaskLeadsInto p (Mask r t) 2 (Closes 1 ∷ Closes 0 ∷ []) t
  into_two = enters_two p t p_unused r other r_unused

  into_inverse : MaskLeadsInto p (Mask r (Poll (Slot p) (Poll (Slot r) t))) 2 (Opens 1 ∷ Opens 0 ∷ Closes 1 ∷ Closes 0 ∷ []) t
  into_inverse = enters_inverse p t p_unused r other r_unused

  module _ (capacities : List ℕ) (may : ℕ → Bool) (report : ReportView) (quiet : is_requested_in report 0 ≡ false) where
    pub nested_main : HaveSameReports (record { term = Mask p (Mask r t); capacities = capacities }) (record { term = Mask p t; capacities = capacities }) may
        report
    nested_main =
        masks_have_same 2 1 p (Closes 1 ∷ Closes 0 ∷ []) (Closes 0 ∷ []) (Mask r t) t t two_sides alike_both into_two into_one refl capacities may report quiet

    pub inverse_main : HaveSameReports (record { term = Mask p (Mask r (Poll (Slot p) (Poll (Slot r) t))); capacities = capacities })
        (record { term = Mask p t; capacities = capacities }) may report
    inverse_main =
        masks_have_same 2 1 p (Opens 1 ∷ Opens 0 ∷ Closes 1 ∷ Closes 0 ∷ []) (Closes 0 ∷ []) (Mask r (Poll (Slot p) (Poll (Slot r) t))) t t inverse_sides
        alike_both into_inverse into_one refl capacities may report quiet

module _ (scope : ℕ → Option NameKind) (p : ℕ) (t f : Term) (plain : IsPlain t) (scoped : IsScoped (with_name p kind.OtherPoll scope) t) (few : need f ≡ 0)
    (capacities : List ℕ) (may : ℕ → Bool) (report : ReportView) (quiet : is_requested_in report 0 ≡ false) where
  t_unused : (n : ℕ) → put p n t ≡ t
  t_unused = put_other_poll p (with_name p kind.OtherPoll scope) t (name_is p kind.OtherPoll scope) scoped

  alike_one : (low low' : ℕ) → Alike low low' t t
  alike_one low low' = plain_alike low low' (with_name p kind.OtherPoll scope) t plain scoped

  same_need : need t + need f ≡ need t
  same_need = omega (arith, few)

  pub finalizer_main : HaveSameReports (record { term = Mask p (OnCancel t f); capacities = capacities }) (record { term = Mask p t; capacities = capacities })
      may report
  finalizer_main =
      masks_have_same 1 1 p (Cleans (put p 0 f) ∷ Closes 0 ∷ []) (Closes 0 ∷ []) (OnCancel t f) t t (finalizer_sides (put p 0 f)) alike_one
      (enters_finalizer p t t_unused f) (enters_mask p t t_unused) same_need capacities may report quiet
