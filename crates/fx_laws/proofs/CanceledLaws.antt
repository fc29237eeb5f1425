-- `canceled`, and what would come after it.
use Rattle.std.proofs.Common.{◌≡◌, ℕ, Bool, true, false, not, Option, None, List, [], ◌∷◌, ◌++◌, refl, sym, ◌∙◌, ap, subst}
use Rattle.std.specs.Prelude.{◌&&◌, ◌||◌}
use Rattle.fx_term.specs.declared.node.Arg.TheVariants.{Number}
use Rattle.fx_term.specs.declared.done.Done.TheVariants.{Val}
use Rattle.fx_term.specs.declared.event.Event.TheVariants as event
use Rattle.fx_term.specs.Term.{Term, Pure, Canceled, Let, Finished}
use Rattle.fx_model.specs.Path.{Context, CleanupTerm, LetIn, HandleIn, is_open, must_cancel}
use Rattle.fx_model.specs.Row.{Counts, Label, Shows, known_canceled, Row, self_request, inside}
use Rattle.fx_model.specs.Step.{Progress, Runs, CleansUp, row}
use Rattle.fx_model.specs.Run.{Leads}
use Rattle.fx_model.specs.MaskLaws.{forced_after}
use Rattle.fx_model.proofs.Paths.{no_context}
use Rattle.fx_laws.specs.Everywhere.{placed, Place, InTerm, InCleanup, ShowTheSameEverywhere, ShowTheSameWhereOpen}
use Rattle.fx_laws.proofs.Placed.{placed_append, open_placed, must_placed, result_placed, row_placed, RowOfPlaced, moves_in, result_in, row_of_placed}
use Rattle.fx_laws.proofs.Views.{View, HasRun, IsMatched, step_first}
use Rattle.fx_laws.proofs.SamePlaces.{IsSamePlace, same_turned, same_whole, Moves, by_row, by_end, moves_free, place_matched}
use Rattle.fx_laws.proofs.SilentRows.{handle_value_leads, leads_placed}
use Rattle.fx_laws.proofs.Forced.{IsForced, cleans_only, forced_both}
use Rattle.fx_laws.proofs.OnlyRows.{only_self_request, only_placed}
use Rattle.fx_laws.proofs.SameHere.{AreSameHere, one_leads}
use Rattle.fx_laws.proofs.Showing.{showing, shows_too, everywhere}

both_true : (a b e : Bool) → a ≡ true → e ≡ true → (a && (b || e)) ≡ true
both_true true true e p q = refl
both_true true false true p q = refl
both_true true false false p q = absurd cc
both_true false b e p q = absurd cc

must_at_open : (known : Bool) (fs : List Context) → is_open (placed fs Canceled) ≡ true → must_cancel known (placed fs Canceled) ≡ true
must_at_open known fs opened =
    must_placed known fs Canceled ∙ both_true _ known true (sym (open_placed fs Canceled) ∙ opened) refl

-- at an open place it leaves no other step
no_moves : {c d : Counts} {l : Label} {q : Progress} (fs gs : List Context) → is_open (placed fs (placed gs Canceled)) ≡ true
    → Moves c (placed fs (placed gs Canceled)) l d q → ⊥
no_moves {c} fs gs opened m =
    let at = placed_append fs gs Canceled in
    let must = must_at_open c.known (fs ++ gs) (ap is_open at ∙ opened) in
    let free = ap (must_cancel c.known) at ∙ moves_free m in
    absurd (apart must free)
  where
    apart : {b : Bool} → b ≡ true → b ≡ false → ⊥
    apart p q = absurd cc

abbrev IsSelfRequest : Bool → Counts → Label → Counts → Term → Type 0
IsSelfRequest k c l d w = (k ≡ true) × (l ≡ Shows event.SelfRequest) × (d ≡ known_canceled c) × (w ≡ Finished (Val 0))

canceled_row : {k : Bool} {c d : Counts} {l : Label} {w : Term} → Row k c Canceled l d w → IsSelfRequest k c l d w
canceled_row (self_request h) = (h, refl, refl, refl)
canceled_row (inside f e g r) = absurd (no_context f _ _ refl e)

abbrev pub IsSelfRequestIn : List Context → Bool → Counts → Label → Counts → Term → Type 0
IsSelfRequestIn fs k c l d w = (k ≡ true) × (l ≡ Shows event.SelfRequest) × (d ≡ known_canceled c) × (w ≡ placed fs (Finished (Val 0)))

pub only_in : {k : Bool} {c d : Counts} {l : Label} {x w : Term} (fs : List Context) → RowOfPlaced k c fs x l d w → x ≡ Canceled → IsSelfRequestIn fs k c l d w
only_in {k} {c} fs (moves_in {w = w} {l = l} {d = d} r) at =
    let o = canceled_row (subst (λ (z : Term). Row k c z l d w) at r) in (o.0, o.1, o.2, ap (placed fs) o.3)
only_in fs (result_in {w = w}) at = cc

module _ (v : View) (fs gs hs : List Context) (same : IsSamePlace (placed gs Canceled) (placed hs Canceled))
    (next : (c : Counts) → IsMatched v c (Runs (placed fs (placed gs (Finished (Val 0))))) c (Runs (placed fs (placed hs (Finished (Val 0)))))) where
  self_request_matched : (c : Counts) {d : Counts} {x : Term} {l : Label} {q : Progress} → Moves c x l d q → x ≡ placed (fs ++ gs) Canceled
      → (e : Counts) (ls : List Label) (r : Progress) → Leads d q ls e r → HasRun v c (Runs (placed fs (placed hs Canceled))) (v.of (l ∷ ls))
  self_request_matched c {d} {x} {l} (by_row {u = y} free k) at e ls r after =
      let o = only_in (fs ++ gs) (row_of_placed (fs ++ gs) Canceled (subst (λ (z : Term). Row (not (is_open x)) c z l d y) at k)) refl in
      let first = at ∙ placed_append fs gs Canceled in
      let there : y ≡ placed fs (placed gs (Finished (Val 0))) = o.3 ∙ placed_append fs gs (Finished (Val 0)) in
      let whole = same_whole fs same in
      let closed : not (is_open (placed fs (placed hs Canceled))) ≡ true =
      ap not (sym whole.open_is) ∙ ap (λ (z : Term). not (is_open z)) (sym first) ∙ o.0 in
      let free' : must_cancel c.known (placed fs (placed hs Canceled)) ≡ false =
      sym (whole.must c.known) ∙ ap (must_cancel c.known) (sym first) ∙ free in
      let go : Leads (known_canceled c) (Runs (placed fs (placed gs (Finished (Val 0))))) ls e r = rw (sym o.2, sym there) after in
      rw o.1 (step_first v ls (row free' (row_placed fs (row_placed hs (self_request closed)))) (next (known_canceled c) ls e r go))
  self_request_matched c (by_end {w = w} free f k) at e ls r after = let e = (result_placed (fs ++ gs) Canceled w (sym f ∙ at)).1 in cc

canceled_matched : (v : View) (fs gs hs : List Context) (same : IsSamePlace (placed gs Canceled) (placed hs Canceled))
    → ((c : Counts) → IsMatched v c (Runs (placed fs (placed gs (Finished (Val 0))))) c (Runs (placed fs (placed hs (Finished (Val 0))))))
    → (c : Counts) → IsMatched v c (Runs (placed fs (placed gs Canceled))) c (Runs (placed fs (placed hs Canceled)))
canceled_matched v fs gs hs same next =
    place_matched v fs same
    (λ c d e l ls q r m after. self_request_matched v fs gs hs same next c m (sym (placed_append fs gs Canceled)) e ls r after)

cleans_canceled : (k : Option ℕ) (rest : List CleanupTerm) (fs gs : List Context) (c : Counts)
    → IsForced c (CleansUp k (placed fs (placed gs Canceled)) rest) (Shows event.SelfRequest) (known_canceled c)
    (CleansUp k (placed fs (placed gs (Finished (Val 0)))) rest)
cleans_canceled k rest fs gs c = cleans_only k rest (only_placed fs (only_placed gs (only_self_request c)))

-- where what comes after its self-request is the same
canceled_same : (v : View) (place : Place) (gs hs : List Context) → IsSamePlace (placed gs Canceled) (placed hs Canceled)
    → AreSameHere v place (placed gs (Finished (Val 0))) (placed hs (Finished (Val 0))) → AreSameHere v place (placed gs Canceled) (placed hs Canceled)
canceled_same v (InTerm fs) gs hs same next c =
    (canceled_matched v fs gs hs same (λ d. (next d).0) c, canceled_matched v fs hs gs (same_turned same) (λ d. (next d).1) c)
canceled_same v (InCleanup k rest fs) gs hs same next c =
    forced_both v refl (cleans_canceled k rest fs gs c) (cleans_canceled k rest fs hs c) (next (known_canceled c))

pub forced_canceled_is_last : (t : Term) → ShowTheSameEverywhere (forced_after Canceled t) (Let None Canceled t)
forced_canceled_is_last t =
    let handled = leads_placed (LetIn None t ∷ []) (handle_value_leads None 0 (Pure (Number 0))) in
    everywhere (forced_after Canceled t) (Let None Canceled t)
    (λ place. canceled_same showing place (LetIn None t ∷ HandleIn None (Pure (Number 0)) ∷ []) (LetIn None t ∷ [])
    (record { closed = λ outer. refl; leaf_is = refl; clean = refl })
    (one_leads showing place handled (record { closed = λ outer. refl; leaf_is = refl; clean = refl })))

pub canceled_is_last : (t : Term) → ShowTheSameWhereOpen (Let None Canceled t) Canceled
canceled_is_last t fs opened c ls =
    let same : IsSamePlace (Let None Canceled t) Canceled = record { closed = λ outer. refl; leaf_is = refl; clean = refl } in
    let opened' : is_open (placed fs Canceled) ≡ true = sym (same_whole fs same).open_is ∙ opened in (
      shows_too (place_matched showing fs same (λ c d e l ls q r m after. absurd (no_moves fs (LetIn None t ∷ []) opened m)) c),
      shows_too (place_matched showing fs (same_turned same) (λ c d e l ls q r m after. absurd (no_moves fs [] opened' m)) c),
    )
