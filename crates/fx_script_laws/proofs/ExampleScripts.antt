-- Some laws, written out for scripts.
use Rattle.std.proofs.Common.{◌≡◌, ◌≢◌, ℕ, ◌==◌, if◌then◌else◌, Bool, true, false, Option, Some, None, List, [], refl, sym, ◌∙◌, subst}
use Rattle.std.proofs.lemmas.Bool.{eqb-true, ne_eqb}
use Rattle.std.specs.Prelude.{◌↔◌}
use Rattle.fx_term.specs.declared.node.Arg.TheVariants.{Number, Slot}
use Rattle.fx_term.specs.declared.name_kind.NameKind.{NameKind}
use Rattle.fx_term.specs.declared.name_kind.NameKind.TheVariants as kind
use Rattle.fx_term.specs.Scope.{with_name, IsScoped}
use Rattle.fx_term.specs.Need.{need}
use Rattle.fx_term.specs.Term.{Term, Start, OnCancel, For, Mask, Poll, Let, Pure, Bracket, BracketCase}
use Rattle.fx_model.specs.MaskLaws.{forced_after}
use Rattle.fx_model.specs.Report.{ReportView}
use Rattle.fx_model.specs.LawfulReport.{IsLawfulReport}
use Rattle.fx_laws.specs.Names.{without_names}
use Rattle.fx_script_laws.specs.Cover.{Cover, is_closed, is_sealed}
use Rattle.fx_script_laws.specs.Filled.{none_bound, and_bound, IsFilled}
use Rattle.fx_script_laws.specs.Filled as filled
use Rattle.fx_script_laws.specs.Interchange.{Where, EitherWay, AreTheTwo, as_is, with_numbers}
use Rattle.fx_script_laws.specs.InScripts.{IsScriptTerm, HaveSameReports}
use Rattle.fx_script_laws.proofs.RegionLaws.{polled_at_once}
use Rattle.fx_term.proofs.NameUses.{name_is}
use Rattle.std.proofs.lemmas.Option.{none-some}
use Rattle.fx_script_laws.proofs.SameReports.{same_reports, reports_where}
use Rattle.fx_script_laws.proofs.ClosedLaws.{pure_before, finalizer_of_sealed}
use Rattle.fx_script_laws.proofs.OwnNames.{value_given_again}
use Rattle.fx_script_laws.proofs.LawsInScripts.{forced_in_order, guarantee_of_one_release}

-- the two terms themselves
here : {s : Cover} {bound : ℕ → Bool} (t u : Term) → IsFilled (EitherWay (AreTheTwo none_bound t u)) s bound t u
here t u = filled.pair (as_is (with_numbers [] tt (λ x h. refl)))

pub either_order : (i n : ℕ) (a b f d : Term) (capacities : List ℕ) (may : ℕ → Bool) (r : ReportView)
    → IsLawfulReport (record {
      term = Start 0 (OnCancel (For i n (forced_after a (forced_after b f))) (forced_after a (forced_after b f))) d;
      capacities = capacities;
    }) may r
    ↔ IsLawfulReport (record {
      term = Start 0 (OnCancel (For i n (forced_after (forced_after a b) f)) (forced_after (forced_after a b) f)) d;
      capacities = capacities;
    }) may r
either_order i n a b f d capacities may r =
    let t = forced_after a (forced_after b f) in
    let u = forced_after (forced_after a b) f in
    same_reports none_bound t u (forced_in_order a b f).waits (record { term = Start 0 (OnCancel (For i n t) t) d; capacities = capacities })
    (record { term = Start 0 (OnCancel (For i n u) u) d; capacities = capacities }) may r
    (filled.start (filled.oncancel (filled.for_ (here t u)) (here t u)) filled.same) refl

pub guaranteed : (scope : ℕ → Option NameKind) (p x y e : ℕ) (a f b c : Term) (capacities : List ℕ) (may : ℕ → Bool) (r : ReportView)
    → IsScoped (with_name x kind.OtherPoll scope) a → IsScoped (without_names scope x y e) f
    → IsLawfulReport (record { term = Mask p (Let None b (Let None (Bracket None (Pure (Number 0)) a f) c)); capacities = capacities }) may r
    ↔ IsLawfulReport (record { term = Mask p (Let None b (Let None (BracketCase x (Pure (Number 0)) a y f e f f) c)); capacities = capacities }) may r
guaranteed scope p x y e a f b c capacities may r scoped_a scoped_f =
    let t = Bracket None (Pure (Number 0)) a f in
    let u = BracketCase x (Pure (Number 0)) a y f e f f in
    same_reports none_bound t u (guarantee_of_one_release scope x y e a f scoped_a scoped_f).waits
    (record { term = Mask p (Let None b (Let None t c)); capacities = capacities })
    (record { term = Mask p (Let None b (Let None u c)); capacities = capacities }) may r
    (filled.mask (filled.let_ filled.same (filled.let_ (here t u) filled.same))) refl

-- a name that is bound round a place is another one
apart_in : (i x : ℕ) → i ≢ x → (z : ℕ) → and_bound i none_bound z ≡ true → and_bound x none_bound z ≡ false
apart_in i x other z = by_test (z == i) refl
  where
    by_test : (b : Bool) → (z == i) ≡ b → (if b then true else false) ≡ true → and_bound x none_bound z ≡ false
    by_test true e h = rw (ne_eqb z x (λ same. other (sym (eqb-true z i e) ∙ same))) refl
    by_test false e h = absurd cc

pub given_again : (i n x : ℕ) (a b : Term) (capacities : List ℕ) (may : ℕ → Bool) (r : ReportView) → i ≢ x
    → IsLawfulReport (record { term = Let None (For i n (Let (Some x) a (Pure (Slot x)))) b; capacities = capacities }) may r
    ↔ IsLawfulReport (record { term = Let None (For i n a) b; capacities = capacities }) may r
given_again i n x a b capacities may r other =
    let t = Let (Some x) a (Pure (Slot x)) in
    same_reports (and_bound x none_bound) t a (value_given_again x a).waits (record { term = Let None (For i n t) b; capacities = capacities })
    (record { term = Let None (For i n a) b; capacities = capacities }) may r
    (filled.let_ (filled.for_ (filled.pair (as_is (with_numbers [] tt (apart_in i x other))))) filled.same) refl

-- the two terms themselves, at a place that is closed so
closed_here : {there : Cover → Bool} {s : Cover} {bound : ℕ → Bool} (t u : Term) → there s ≡ true
    → IsFilled (EitherWay (Where there (AreTheTwo none_bound t u))) s bound t u
closed_here t u is = filled.pair (as_is (is, with_numbers [] tt (λ x h. refl)))

pub discarded_in_mask : (p n : ℕ) (a b : Term) (capacities : List ℕ) (may : ℕ → Bool) (r : ReportView)
    → IsLawfulReport (record { term = Mask p (Let None b (forced_after (Pure (Number n)) a)); capacities = capacities }) may r
    ↔ IsLawfulReport (record { term = Mask p (Let None b a); capacities = capacities }) may r
discarded_in_mask p n a b capacities may r =
    let t = forced_after (Pure (Number n)) a in
    reports_where is_closed none_bound t a (pure_before n a) (record { term = Mask p (Let None b t); capacities = capacities })
    (record { term = Mask p (Let None b a); capacities = capacities }) may r (filled.mask (filled.let_ filled.same (closed_here t a refl))) refl

pub nested_finalizer : (a b f : Term) (capacities : List ℕ) (may : ℕ → Bool) (r : ReportView) → need f ≡ 0
    → IsLawfulReport (record { term = OnCancel b (OnCancel a f); capacities = capacities }) may r
    ↔ IsLawfulReport (record { term = OnCancel b a; capacities = capacities }) may r
nested_finalizer a b f capacities may r none =
    let t = OnCancel a f in
    reports_where is_sealed none_bound t a (finalizer_of_sealed a f none) (record { term = OnCancel b t; capacities = capacities })
    (record { term = OnCancel b a; capacities = capacities }) may r (filled.oncancel filled.same (closed_here t a refl)) refl

pub polled_in_mask : (scope : ℕ → Option NameKind) (p q : ℕ) (a b c : Term) (capacities : List ℕ) (may : ℕ → Bool) (r : ReportView)
    → IsScoped (with_name q kind.OtherPoll scope) a → IsScriptTerm (Mask p (Let None b (Let None (Mask q (Poll (Slot q) a)) c)))
    → IsScriptTerm (Mask p (Let None b (Let None a c)))
    → HaveSameReports (record { term = Mask p (Let None b (Let None (Mask q (Poll (Slot q) a)) c)); capacities = capacities })
    (record { term = Mask p (Let None b (Let None a c)); capacities = capacities }) may r
polled_in_mask scope p q a b c capacities may r scoped first second =
    let t = Mask q (Poll (Slot q) a) in
    let other : p ≢ q = (λ same. let new : with_name p kind.Poll (λ x. None) q ≡ None = first.1.1.2.0.0 in
    let there : with_name p kind.Poll (λ x. None) p ≡ Some kind.Poll = name_is p kind.Poll (λ x. None) in
    let here : with_name p kind.Poll (λ x. None) p ≡ None = subst (λ (z : ℕ). with_name p kind.Poll (λ x. None) z ≡ None) (sym same) new in
    absurd (none-some kind.Poll (sym here ∙ there))) in
    polled_at_once scope q a scoped (record { term = Mask p (Let None b (Let None t c)); capacities = capacities })
    (record { term = Mask p (Let None b (Let None a c)); capacities = capacities }) may r first second
    (filled.mask (filled.let_ filled.same (filled.let_ (filled.pair (as_is (refl, with_numbers [] tt (apart_in p q other)))) filled.same))) refl
