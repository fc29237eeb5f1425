-- A term that is forced after a value.
use Rattle.std.proofs.Common.{◌≡◌, ℕ, Bool, false, not, None, List, [], ◌∷◌, refl, sym, ◌∙◌, ap, subst}
use Rattle.fx_term.specs.declared.node.Arg.TheVariants.{Number}
use Rattle.fx_term.specs.declared.done.Done.{Done}
use Rattle.fx_term.specs.declared.done.Done.TheVariants.{Val, Err}
use Rattle.fx_term.specs.Term.{Term, Pure, Let, Handle, Finished}
use Rattle.fx_model.specs.Path.{Context, LetIn, HandleIn, plug, is_open, must_cancel}
use Rattle.fx_model.specs.Row.{Counts, Label, Silent, Row, pure, let_value, handle_value, inside}
use Rattle.fx_model.specs.Step.{Progress, Runs, Step, cancelled, seen, row, succeeds, errs}
use Rattle.fx_model.specs.Run.{Leads, shown}
use Rattle.fx_model.specs.MaskLaws.{CanShow, BeginsWithSeen, ShowsAllOf, ShowTheSameUnlessSeenFirst, forced_after}
use Rattle.fx_model.proofs.MaskEntering.{counts_at}
use Rattle.fx_model.proofs.Paths.{no_context, part_row, row_plug, result_has_no_row}
use Rattle.fx_model.proofs.ShownRuns.{Reaches, stays, steps, and_then, HasRun, can_show, before}

-- a row that shows nothing, changes no count, and leads there
abbrev IsSilentTo : Counts → Term → Label → Counts → Term → Type 0
IsSilentTo c v l d u = (l ≡ Silent) × (d ≡ c) × (u ≡ v)

within : (f : Context) {c d : Counts} {l : Label} {w v u : Term} → IsSilentTo c v l d w → u ≡ plug f w → IsSilentTo c (plug f v) l d u
within f h e = (h.0, h.1, e ∙ ap (plug f) h.2)

pure_row : {k : Bool} {c d : Counts} {l : Label} {n : ℕ} {u : Term} → Row k c (Pure (Number n)) l d u → IsSilentTo c (Finished (Val n)) l d u
pure_row pure = (refl, refl, refl)
pure_row (inside f e g r) = absurd (no_context f _ _ refl e)

-- a result in a context has no row of its own
result_inside : (f g : Context) (v : Done) {k : Bool} {c d : Counts} {l : Label} {u a a' : Term} → plug f (Finished v) ≡ plug g a → u ≡ plug g a'
    → Row k c a l d a' → ⊥
result_inside f g v e h r = result_has_no_row (part_row f g (Finished v) e h r).1 refl

handle_row : {k : Bool} {c d : Counts} {l : Label} {n : ℕ} {u : Term} (b : Term) → Row k c (Handle (Pure (Number n)) None b) l d u
    → IsSilentTo c (Handle (Finished (Val n)) None b) l d u
handle_row {n = n} b (inside f e g r) = let p = part_row (HandleIn None b) f (Pure (Number n)) e g r in within (HandleIn None b) (pure_row p.1) p.2

value_row : {k : Bool} {c d : Counts} {l : Label} {n : ℕ} {u : Term} (b : Term) → Row k c (Handle (Finished (Val n)) None b) l d u
    → IsSilentTo c (Finished (Val n)) l d u
value_row b handle_value = (refl, refl, refl)
value_row {n = n} b (inside f e g r) = absurd (result_inside (HandleIn None b) f (Val n) e g r)

-- the rows of the three places before the term is entered
first_row : {k : Bool} {c d : Counts} {l : Label} {n : ℕ} {u : Term} (b t : Term) → Row k c (Let None (Handle (Pure (Number n)) None b) t) l d u
    → IsSilentTo c (Let None (Handle (Finished (Val n)) None b) t) l d u
first_row {n = n} b t (inside f e g r) =
    let p = part_row (LetIn None t) f (Handle (Pure (Number n)) None b) e g r in within (LetIn None t) (handle_row b p.1) p.2

second_row : {k : Bool} {c d : Counts} {l : Label} {n : ℕ} {u : Term} (b t : Term) → Row k c (Let None (Handle (Finished (Val n)) None b) t) l d u
    → IsSilentTo c (Let None (Finished (Val n)) t) l d u
second_row {n = n} b t (inside f e g r) =
    let p = part_row (LetIn None t) f (Handle (Finished (Val n)) None b) e g r in within (LetIn None t) (value_row b p.1) p.2

third_row : {k : Bool} {c d : Counts} {l : Label} {n : ℕ} {u : Term} (t : Term) → Row k c (Let None (Finished (Val n)) t) l d u → IsSilentTo c t l d u
third_row t let_value = (refl, refl, refl)
third_row {n = n} t (inside f e g r) = absurd (result_inside (LetIn None t) f (Val n) e g r)

module _ (c : Counts) (t : Term) where
  -- what a run from there shows, one from the term shows, where no request is seen first
  abbrev ShowsNoMore : Term → Type 0
  ShowsNoMore w = (ls : List Label) (d : Counts) (q : Progress) → Leads c (Runs w) ls d q → (BeginsWithSeen (shown ls) → ⊥) → HasRun c (Runs t) (shown ls)

  shows_itself : ShowsNoMore t
  shows_itself ls d q h unseen = record { counts = d; progress = q; reaches = record { labels = ls; leads = h; shown_is = refl } }

  -- and so from a place whose one row leads there silently
  one_before : (w v : Term) → must_cancel c.known w ≡ false → ((x : Done) → w ≡ Finished x → ⊥)
      → ((k : Bool) (l : Label) (d : Counts) (u : Term) → Row k c w l d u → IsSilentTo c v l d u) → ShowsNoMore v → ShowsNoMore w
  one_before w v free going only rest [] d q h unseen = record { counts = c; progress = Runs t; reaches = stays }
  one_before w v free going only rest (l ∷ ls) d q h unseen = by_step h.2 refl h.3 unseen
    where
      by_step : {p m : Progress} {e : Counts} {l : Label} → Step c p l e m → p ≡ Runs w → Leads e m ls d q → (BeginsWithSeen (shown (l ∷ ls)) → ⊥)
          → HasRun c (Runs t) (shown (l ∷ ls))
      by_step (cancelled {t = x} must) same after un = let s : x ≡ w = cc in let f : must_cancel c.known x ≡ false = rw s free in absurd cc
      by_step (seen f o) same after un = absurd (un tt)
      by_step {e = e} {l = l} (row {t = x} {t' = u} f r) same after un =
          let s : x ≡ w = cc in
          let o = only (not (is_open x)) l e u (subst (λ (y : Term). Row (not (is_open x)) c y l e u) s r) in
          let on : Leads c (Runs v) ls d q = rw (o.1, o.2) at after in
          rw o.0 (rest ls d q on (rw o.0 at un))
      by_step (succeeds {n = n} f) same after un = absurd (going (Val n) cc)
      by_step (errs {n = n} f) same after un = absurd (going (Err n) cc)
      by_step _ same after un = absurd cc

module _ (n : ℕ) (t : Term) (next end : ℕ) where
  forced_shows_no_more : ShowsNoMore (counts_at 0 next end) t (forced_after (Pure (Number n)) t)
  forced_shows_no_more =
      let c = counts_at 0 next end in
      let b = Pure (Number 0) in
      let second = Let None (Handle (Finished (Val n)) None b) t in
      let third = Let None (Finished (Val n)) t in
      let from_third = one_before c t third t refl (λ x e. cc) (λ k l d u r. third_row t r) (shows_itself c t) in
      let from_second = one_before c t second third refl (λ x e. cc) (λ k l d u r. second_row b t r) from_third in
      one_before c t (forced_after (Pure (Number n)) t) second refl (λ x e. cc) (λ k l d u r. first_row b t r) from_second

  way_to_term : Reaches (counts_at 0 next end) (Runs (forced_after (Pure (Number n)) t)) [] (counts_at 0 next end) (Runs t)
  way_to_term =
      let first = steps {l = Silent} (row refl (row_plug (LetIn None t) (row_plug (HandleIn None (Pure (Number 0))) pure))) in
      and_then first (and_then (steps {l = Silent} (row refl (row_plug (LetIn None t) handle_value))) (steps {l = Silent} (row refl let_value)))

-- what the term shows, it shows forced after a value too
pub forced_shows_all : (n : ℕ) (t : Term) → ShowsAllOf (forced_after (Pure (Number n)) t) t
forced_shows_all n t next end ls h =
    can_show h.shown_is
    (before (way_to_term n t next end)
    (record { counts = h.counts; progress = h.progress; reaches = record { labels = h.labels; leads = h.run; shown_is = refl } }))

-- and nothing else, but for what begins with a request that is seen
pub forced_is_identity : (n : ℕ) (t : Term) → ShowTheSameUnlessSeenFirst (forced_after (Pure (Number n)) t) t
forced_is_identity n t next end ls unseen = (to, forced_shows_all n t next end ls)
  where
    to : CanShow (record { term = forced_after (Pure (Number n)) t; next = next; end = end }) ls → CanShow (record { term = t; next = next; end = end }) ls
    to h =
        let unseen' = subst (λ (ms : List Label). BeginsWithSeen ms → ⊥) (sym h.shown_is) unseen in
        can_show h.shown_is (forced_shows_no_more n t next end h.labels h.counts h.progress h.run unseen')
