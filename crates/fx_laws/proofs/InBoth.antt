-- One term in two lists of contexts.
use Rattle.std.proofs.Common.{◌≡◌, Bool, List, [], ◌++◌, refl, sym, ◌∙◌, ap, subst}
use Rattle.fx_term.specs.declared.done.Done.{Done}
use Rattle.fx_term.specs.Term.{Term, Finished}
use Rattle.fx_mask.specs.Closing.{Closing}
use Rattle.fx_model.specs.Path.{Context, CleanupTerm, closed_along, cleanup_terms, is_open, must_cancel}
use Rattle.fx_model.specs.Row.{Counts, Label, known_canceled, Row}
use Rattle.fx_model.specs.Step.{Runs, Unwinds}
use Rattle.fx_laws.specs.Everywhere.{placed}
use Rattle.fx_laws.proofs.Placed.{around, closed_append, around_append, open_placed, must_placed, cleanups_placed}
use Rattle.fx_laws.proofs.Views.{View, IsMatched, itself}
use Rattle.fx_laws.proofs.Inside.{RowIsFollowed, inside_matched}

pub closed_both : (fs gs hs : List Context) → ((outer : List Closing) → closed_along outer gs ≡ closed_along outer hs)
    → closed_along [] (fs ++ gs) ≡ closed_along [] (fs ++ hs)
closed_both fs gs hs closed = closed_append [] fs gs ∙ closed (closed_along [] fs) ∙ sym (closed_append [] fs hs)

pub clean_both : (fs gs hs : List Context) → ((xs : List CleanupTerm) → around gs xs ≡ around hs xs) → (xs : List CleanupTerm)
    → around (fs ++ gs) xs ≡ around (fs ++ hs) xs
clean_both fs gs hs clean xs = around_append fs gs xs ∙ ap (around fs) (clean xs) ∙ sym (around_append fs hs xs)

abbrev pub IsItself : Counts → Counts → Type 0
IsItself c c' = c ≡ c'

abbrev pub IsTheTerm : Term → Term → Type 0
IsTheTerm t t' = t ≡ t'

pub own_result : (w : Done) (t' : Term) → Finished w ≡ t' → t' ≡ Finished w
own_result w t' e = sym e

module _ (v : View) where
  pub own_row : (k : Bool) (c c' d : Counts) (l : Label) (t t' u : Term) → c ≡ c' → t ≡ t' → Row k c t l d u → RowIsFollowed v IsItself IsTheTerm k c' t' l d u
  own_row k c c' d l t t' u near same r =
      let r1 : Row k c' t l d u = subst (λ (e : Counts). Row k e t l d u) near r in
      let r2 : Row k c' t' l d u = subst (λ (y : Term). Row k c' y l d u) same r1 in
      record { label = l; counts = d; term = u; row = r2; seen_is = refl; near = refl; same = refl }

  pub same_cancels : (fs gs : List Context) → ((xs : List CleanupTerm) → around fs xs ≡ around gs xs) → (c : Counts) (xs : List CleanupTerm)
      → IsMatched v c (Unwinds (around fs xs)) c (Unwinds (around gs xs))
  same_cancels fs gs clean c xs = subst (λ (ys : List CleanupTerm). IsMatched v c (Unwinds (around fs xs)) c (Unwinds ys)) (clean xs) (itself v)

  -- both lists close the same, and what comes after a result of the term, or after its clean-ups, is matched
  module _ (fs gs : List Context) (closed : closed_along [] fs ≡ closed_along [] gs)
      (cancels : (c : Counts) (xs : List CleanupTerm) → IsMatched v c (Unwinds (around fs xs)) c (Unwinds (around gs xs)))
      (ends : (c : Counts) (w : Done) → IsMatched v c (Runs (placed fs (Finished w))) c (Runs (placed gs (Finished w)))) where
    must_too : (known : Bool) (t : Term) → must_cancel known (placed fs t) ≡ must_cancel known (placed gs t)
    must_too known t = let p = must_placed known fs t in let q = must_placed known gs t in let s = closed in cc

    open_too : (t : Term) → is_open (placed fs t) ≡ is_open (placed gs t)
    open_too t = let p = open_placed fs t in let q = open_placed gs t in let s = closed in cc

    cancels_too : (c : Counts) (t : Term) → IsMatched v c (Unwinds (cleanup_terms (placed fs t))) c (Unwinds (cleanup_terms (placed gs t)))
    cancels_too c t = rw (cleanups_placed fs t, cleanups_placed gs t) (cancels c (cleanup_terms t))

    must_near : (c c' : Counts) (t t' : Term) → c ≡ c' → t ≡ t' → must_cancel c.known (placed fs t) ≡ must_cancel c'.known (placed gs t')
    must_near c c' t t' near same =
        must_too c.known t ∙ ap (λ (d : Counts). must_cancel d.known (placed gs t)) near ∙ ap (λ (y : Term). must_cancel c'.known (placed gs y)) same

    open_near : (t t' : Term) → t ≡ t' → is_open (placed fs t) ≡ is_open (placed gs t')
    open_near t t' same = open_too t ∙ ap (λ (y : Term). is_open (placed gs y)) same

    cancels_near : (c c' : Counts) (t t' : Term) → c ≡ c' → t ≡ t'
        → IsMatched v c (Unwinds (cleanup_terms (placed fs t))) c' (Unwinds (cleanup_terms (placed gs t')))
    cancels_near c c' t t' near same =
        let here = subst (λ (d : Counts). IsMatched v c (Unwinds (cleanup_terms (placed fs t))) d (Unwinds (cleanup_terms (placed gs t)))) near
        (cancels_too c t) in
        subst (λ (y : Term). IsMatched v c (Unwinds (cleanup_terms (placed fs t))) c' (Unwinds (cleanup_terms (placed gs y)))) same here

    ends_near : (c c' : Counts) → c ≡ c' → (w : Done) → IsMatched v c (Runs (placed fs (Finished w))) c' (Runs (placed gs (Finished w)))
    ends_near c c' near w =
        subst (λ (d : Counts). IsMatched v c (Runs (placed fs (Finished w))) d (Runs (placed gs (Finished w)))) near (ends c w)

    pub itself_matched : (c : Counts) (t : Term) → IsMatched v c (Runs (placed fs t)) c (Runs (placed gs t))
    itself_matched c t =
        inside_matched v IsItself IsTheTerm own_row own_result fs gs (λ d d' e. ap known_canceled e) must_near open_near cancels_near
        ends_near c c t t refl refl
