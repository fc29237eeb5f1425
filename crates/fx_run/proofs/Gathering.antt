-- What was gathered of fibers, one after the other.
use Rattle.std.proofs.Common.{◌≡◌, ℕ, Some, List, [], ◌∷◌, ◌++◌, map, refl, ap, subst, inl, inr}
use Rattle.std.specs.Prelude.{◌==◌}
use Rattle.std.specs.List.Sorted.{IsStrictlyIncreasing}
use Rattle.std.proofs.lemmas.List.Kept.{AllPairs-from_increasing}
use Rattle.fx_term.specs.Lists.{Among}
use Rattle.fx_term.proofs.ListLaws.{Among-append_left, Among-append_right, Among-append}
use Rattle.fx_fiber.specs.Bare.{BareView}
use Rattle.fx_word.specs.declared.seat_view.SeatView.{SeatView}
use Rattle.fx_word.specs.SeatView as seat
use Rattle.fx_queue.specs.declared.pass_view.PassView.{PassView}
use Rattle.fx_queue.specs.PassView as queue
use Rattle.fx_run.specs.RanFiber.{RanFiber, bares_of, ran_at}
use Rattle.fx_run.specs.Reported.{AreAscending}
use Rattle.fx_run.specs.Gathered.{AreGathered, AreEntries, ArePasses}
use Rattle.fx_run.proofs.Members.{found_is, found_itself}

-- of one fiber its own
pub gathers_first : {A B : Type 0} (had : A → B) (p : A) → AreGathered had (p ∷ []) (had p ∷ [])
gathers_first had p = record {
  there = λ q i. elim i [ inl e ↦ inl (ap had e) | inr j ↦ absurd j ];
  back = λ x i. elim i [ inl same ↦ (p, inl refl, same) | inr j ↦ absurd j ];
}

-- that of one more is taken in, after one's own
pub gathers_one : {A B : Type 0} (had : A → B) (ps : List A) (p : A) (own : B) (taken : List B)
    → AreGathered had ps (own ∷ taken) → AreGathered had (ps ++ p ∷ []) (own ∷ had p ∷ taken)
gathers_one had ps p own taken h = record {
  there = λ q i. elim (Among-append ps (p ∷ []) q i) [
    | inl j ↦ elim (h.there q j) [ inl e ↦ inl e | inr k ↦ inr (inr k) ]
    | inr k ↦ elim k [ inl e ↦ inr (inl (ap had e)) | inr none ↦ absurd none ]
  ];
  back = λ x i. elim i [
    | inl same ↦ (let b = h.back x (inl same) in (b.0, Among-append_left ps (p ∷ []) b.0 b.1, b.2))
    | inr j ↦ elim j [
      | inl same ↦ (p, Among-append_right ps (p ∷ []) p (inl refl), same)
      | inr k ↦ (let b = h.back x (inr k) in (b.0, Among-append_left ps (p ∷ []) b.0 b.1, b.2))
    ]
  ];
}

numbers : (ps : List RanFiber) → map (λ (x : BareView). x.id) (bares_of ps) ≡ map (λ (p : RanFiber). p.bare.id) ps
numbers [] = refl
numbers (p ∷ ps) = ap (λ (ns : List ℕ). p.bare.id ∷ ns) (numbers ps)

module _ (ps : List RanFiber) (ascending : AreAscending (bares_of ps)) where
  -- a fiber given is found by its number
  pub given_is_found : (p : RanFiber) → Among p ps → ran_at ps p.bare.id ≡ Some p
  given_is_found p i =
      found_itself (λ (x : RanFiber). x.bare.id) ps (AllPairs-from_increasing _ (subst IsStrictlyIncreasing (numbers ps) ascending)) p i

  -- whose it is that was gathered
  pub record IsOf {B : Type 0} (had : RanFiber → B) (x : B) : Type 0 where
    pub fiber : RanFiber
    pub at : ran_at ps fiber.bare.id ≡ Some fiber
    pub is : x ≡ had fiber

  module _ {B : Type 0} (had : RanFiber → B) (gathered : List B) (h : AreGathered had ps gathered) where
    pub gathered_of : (f : ℕ) (p : RanFiber) → ran_at ps f ≡ Some p → Among (had p) gathered
    gathered_of f p at = h.there p (found_is (λ (x : RanFiber). x.bare.id == f) ps p at).1

    pub whose : (x : B) → Among x gathered → IsOf had x
    whose x i = let b = h.back x i in record { fiber = b.0; at = given_is_found b.0 b.1; is = b.2 }

-- the same of seats and of passes, which had taken in none
pub seat_first : (p : RanFiber) (v : SeatView) → v.own ≡ p.words → v.taken ≡ [] → AreEntries (p ∷ []) v
seat_first p v own none = rw (own, none) (gathers_first (λ (x : RanFiber). x.words) p)

pub seat_one_more : (ps : List RanFiber) (p : RanFiber) (v w : SeatView) → AreEntries ps v → w.own ≡ p.words → w.taken ≡ []
    → AreEntries (ps ++ p ∷ []) (seat.joined v w)
seat_one_more ps p v w h own none = rw (own, none) (gathers_one (λ (x : RanFiber). x.words) ps p v.own v.taken h)

pub pass_first : (q : ℕ) (p : RanFiber) (v : PassView) → v.own ≡ p.passes q → v.taken ≡ [] → ArePasses q (p ∷ []) v
pass_first q p v own none = rw (own, none) (gathers_first (λ (x : RanFiber). x.passes q) p)

pub pass_one_more : (q : ℕ) (ps : List RanFiber) (p : RanFiber) (v w : PassView) → ArePasses q ps v → w.own ≡ p.passes q → w.taken ≡ []
    → ArePasses q (ps ++ p ∷ []) (queue.joined v w)
pass_one_more q ps p v w h own none = rw (own, none) (gathers_one (λ (x : RanFiber). x.passes q) ps p v.own v.taken h)
