-- The items that are there among entries.
use Rattle.std.proofs.Common.{◌≡◌, ℕ, suc, ◌+◌, ◌<◌, Option, Some, None, Bool, List, [], ◌∷◌, ◌++◌, length, get_or, take, drop, sym, ◌∙◌, ap, subst, drop-cons}
use Rattle.std.specs.Prelude.{◌↔◌, All, IfSome, IsTrue}
use Rattle.std.proofs.lemmas.List.{take_more, append-nil}
use Rattle.std.proofs.lemmas.List.Elements.{filter_map-append, All-nil, All-cons, All-head, All-tail}
use Rattle.fx_term.specs.Signature.{present}

module _ {X : Type 0} where
  -- with one more entry at the end, or at the beginning
  pub present_push : (entries : List (Option X)) (i : ℕ) (d : Option X) (x : X) → i < length entries → get_or entries i d ≡ Some x
      → present (take (i + 1) entries) ≡ present (take i entries) ++ x ∷ []
  present_push entries i d x lt e =
      ap present (take_more entries i d lt) ∙ filter_map-append (λ entry. entry) (take i entries) (get_or entries i d ∷ [])
      ∙ ap (λ o. present (take i entries) ++ present (o ∷ [])) e

  pub present_skip : (entries : List (Option X)) (i : ℕ) (d : Option X) → i < length entries → get_or entries i d ≡ None
      → present (take (i + 1) entries) ≡ present (take i entries)
  present_skip entries i d lt e =
      ap present (take_more entries i d lt) ∙ filter_map-append (λ entry. entry) (take i entries) (get_or entries i d ∷ [])
      ∙ ap (λ o. present (take i entries) ++ present (o ∷ [])) e ∙ append-nil (present (take i entries))

  pub present_from : (entries : List (Option X)) (i : ℕ) (d : Option X) (x : X) → i < length entries → get_or entries i d ≡ Some x
      → present (drop i entries) ≡ x ∷ present (drop (suc i) entries)
  present_from entries i d x lt e = ap present (drop-cons entries i d lt) ∙ ap (λ o. present (o ∷ drop (suc i) entries)) e

  pub absent_from : (entries : List (Option X)) (i : ℕ) (d : Option X) → i < length entries → get_or entries i d ≡ None
      → present (drop i entries) ≡ present (drop (suc i) entries)
  absent_from entries i d lt e = ap present (drop-cons entries i d lt) ∙ ap (λ o. present (o ∷ drop (suc i) entries)) e

  module _ (P : X → Type 0) where
    -- what holds of each entry that is there holds of each item
    pub all_present : (entries : List (Option X)) → All (λ entry. IfSome entry P) entries → All P (present entries)
    all_present [] h = All-nil P
    all_present (None ∷ entries) h = all_present entries (All-tail (λ entry. IfSome entry P) None entries h)
    all_present (Some x ∷ entries) h =
        let rest = all_present entries (All-tail (λ entry. IfSome entry P) (Some x) entries h) in
        All-cons P x (present entries) (All-head (λ entry. IfSome entry P) (Some x) entries h) rest

    pub all_entries : (entries : List (Option X)) → All P (present entries) → All (λ entry. IfSome entry P) entries
    all_entries [] h = All-nil (λ entry. IfSome entry P)
    all_entries (None ∷ entries) h = All-cons (λ entry. IfSome entry P) None entries tt (all_entries entries h)
    all_entries (Some x ∷ entries) h =
        let rest = all_entries entries (All-tail P x (present entries) h) in
        All-cons (λ entry. IfSome entry P) (Some x) entries (All-head P x (present entries) h) rest

    -- a test of each entry that is there is one of each item of a table
    pub each_item : (entries : List (Option X)) (items : List X) (answer : Bool) → present entries ≡ items
        → IsTrue answer ↔ All (λ entry. IfSome entry P) entries → IsTrue answer ↔ All P items
    each_item entries items answer e h = (λ yes. subst (All P) e (all_present entries (h.0 yes)), λ all. h.1 (all_entries entries (subst (All P) (sym e) all)))
