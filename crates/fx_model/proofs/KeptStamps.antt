-- A fiber that steps keeps its stamps.
use Rattle.std.proofs.Common.{◌≡◌, ℕ, zero, suc, ◌<◌, Some, List, [], ◌∷◌, ◌++◌, length, max, refl, sym, ◌∙◌, ap, subst, arith}
use Rattle.std.specs.Prelude.{slice_get}
use Rattle.std.proofs.lemmas.Option.{none-some, same_Some}
use Rattle.fx_term.specs.declared.event.Event.{Event}
use Rattle.fx_model.specs.Stamps.{HasNoCause, one_more, stamp_before}
use Rattle.fx_term.specs.declared.stamped.Stamped.{Stamped}
use Rattle.fx_term.specs.Stamped.{events_in, stamps_in}
use Rattle.fx_model.specs.KeptStamps.{last_stamp, IsNext, AreKept, number_in}
use Rattle.fx_model.specs.ToldStamps.{OwnStamps}

pub kept_after : (began : ℕ) (xs : List Stamped) (cs : List ℕ) (x : Stamped) (c : ℕ) → AreKept began xs cs → IsNext (last_stamp began xs) x c
    → AreKept began (xs ++ x ∷ []) (cs ++ c ∷ [])
kept_after began [] [] x c k n = (n, tt)
kept_after began (y ∷ xs) (d ∷ cs) x c k n = (k.0, kept_after y.stamp xs cs x c k.1 n)
kept_after began [] (d ∷ cs) x c k n = absurd k
kept_after began (y ∷ xs) [] x c k n = absurd k

-- the stamp before a place, told by the stamps and the first one before them
before_is : (t : ℕ) (ts : List ℕ) (i : ℕ) → number_in (t ∷ ts) i ≡ stamp_before t (number_in ts) i
before_is t ts zero = refl
before_is t ts (suc i) = refl

each_kept : (began : ℕ) (xs : List Stamped) (cs : List ℕ) → AreKept began xs cs → (i : ℕ) → i < length (events_in xs)
    → number_in (stamps_in xs) i ≡ one_more (max (stamp_before began (number_in (stamps_in xs)) i) (number_in cs i))
each_kept began [] [] k i lt = absurd (omega arith)
each_kept began (x ∷ xs) (c ∷ cs) k zero lt = k.0.is
each_kept began (x ∷ xs) (c ∷ cs) k (suc i) lt =
    each_kept x.stamp xs cs k.1 i (omega arith)
    ∙ ap (λ (b : ℕ). one_more (max b (number_in cs i))) (sym (before_is x.stamp (stamps_in xs) i))
each_kept began [] (c ∷ cs) k i lt = absurd k
each_kept began (x ∷ xs) [] k i lt = absurd k

none_kept : (began : ℕ) (xs : List Stamped) (cs : List ℕ) → AreKept began xs cs → (i : ℕ) (e : Event) → slice_get (events_in xs) i ≡ Some e
    → HasNoCause e → number_in cs i ≡ 0
none_kept began [] [] k i e at quiet = absurd (none-some e at)
none_kept began (x ∷ xs) (c ∷ cs) k zero e at quiet = k.0.none (subst HasNoCause (sym (same_Some x.event e at)) quiet)
none_kept began (x ∷ xs) (c ∷ cs) k (suc i) e at quiet = none_kept x.stamp xs cs k.1 i e at quiet
none_kept began [] (c ∷ cs) k i e at quiet = absurd k
none_kept began (x ∷ xs) [] k i e at quiet = absurd k

-- what a fiber keeps is what is told of it alone
pub kept_is_own : (began : ℕ) (xs : List Stamped) (cs : List ℕ) → AreKept began xs cs
    → OwnStamps (events_in xs) began (number_in (stamps_in xs)) (number_in cs)
kept_is_own began xs cs k = record { each = each_kept began xs cs k; none = none_kept began xs cs k }
