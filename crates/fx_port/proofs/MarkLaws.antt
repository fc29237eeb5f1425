-- Marks, and the numbers that are marked.
use Rattle.std.proofs.Common.{◌≡◌, ◌≢◌, ℕ, ◌+◌, ◌<◌, ◌≤◌, Bool, true, false, List, [], ◌∷◌, ◌++◌, ◌⊎◌}
use Rattle.std.proofs.Common.{inl, inr, ⊎_elim, ◌||◌, ◌-◌, length, max, get_or, set, take, replicate, zero, suc, refl, sym, ◌∙◌, ap, subst, arith}
use Rattle.std.proofs.lemmas.Bool.{cases_lt}
use Rattle.std.proofs.lemmas.List.{get_or-set_same, get_or-set_other, ext_get_or, length-append, length-replicate, length-set, set_past}
use mathlib.Core.Logic.{dite}
use native.Mathlib.Decide.{ℕ_discrete}
use Rattle.fx_term.specs.Lists.{Among}
use Rattle.fx_term.proofs.ListLaws.{Among-append_left, Among-append_right, Among-append}
use Rattle.fx_queue.specs.WaitRing.{Apart}
use Rattle.fx_port.specs.Marks.{is_marked, lengthened, joined_marks, AreBefore, IsEndOf, AreListed, KeepsMarks}

no_mark : {P : Type 0} → false ≡ true → P
no_mark e = let z : ⊥ = cc in absurd z

pub unmarked : (n f : ℕ) → is_marked (replicate n false) f ≡ false
unmarked zero f = refl
unmarked (suc n) zero = refl
unmarked (suc n) (suc f) = unmarked n f

pub marked_within : (marks : List Bool) (f : ℕ) → is_marked marks f ≡ true → f < length marks
marked_within [] f e = no_mark e
marked_within (x ∷ marks) zero e = omega arith
marked_within (x ∷ marks) (suc f) e = let k = marked_within marks f e in omega (arith, k)

pub mark_there : (marks : List Bool) (f : ℕ) → f < length marks → is_marked (set marks f true) f ≡ true
mark_there marks f lt = get_or-set_same marks f true false lt

pub mark_stays : (marks : List Bool) (f : ℕ) → KeepsMarks marks (set marks f true)
mark_stays marks f g m = dite (ℕ_discrete g f)
    (λ e. ap (is_marked (set marks f true)) e ∙ mark_there marks f (subst (λ (k : ℕ). k < length marks) e (marked_within marks g m)))
    (λ n. get_or-set_other marks f g true false n ∙ m)

pub keeps : (marks marks' : List Bool) (f : ℕ) → marks' ≡ set marks f true → KeepsMarks marks marks'
keeps marks marks' f e g m = ap (λ (l : List Bool). is_marked l g) e ∙ mark_stays marks f g m

-- what is marked afterwards
pub mark_cases : (marks : List Bool) (f g : ℕ) → is_marked (set marks f true) g ≡ true → (g ≡ f) ⊎ (is_marked marks g ≡ true)
mark_cases marks f g m = dite (ℕ_discrete g f) inl (λ n. inr (sym (get_or-set_other marks f g true false n) ∙ m))

-- the end of the marks, where one more number is marked
pub end_after : (marks : List Bool) (f end : ℕ) → f < length marks → IsEndOf end marks → IsEndOf (max end (f + 1)) (set marks f true)
end_after marks f end lt h = record {
  past = λ g m. elim (mark_cases marks f g m) [
    | inl e ↦ (omega (arith, e))
    | inr was ↦ (let k = h.past g was in omega (arith, k))
  ];
  least = λ k all. let one = all f (mark_there marks f lt) in let others = h.least k (λ g m. all g (mark_stays marks f g m)) in omega (arith, one, others);
}

-- a mark that was taken off is no more
mark_gone : (marks : List Bool) (f g : ℕ) → is_marked marks f ≡ true → is_marked (set marks f false) g ≡ true → g ≢ f
mark_gone marks f g there m e = no_mark (sym (get_or-set_same marks f false false (marked_within marks f there))
    ∙ (ap (is_marked (set marks f false)) (sym e) ∙ m))

apart_more : (l : List ℕ) (x : ℕ) → Apart l → (Among x l → ⊥) → Apart (l ++ x ∷ [])
apart_more [] x a n = ((λ i. i), tt)
apart_more (y ∷ l) x a n = (
  (λ i. ⊎_elim a.0 (λ j. ⊎_elim (λ e. n (inl (sym e))) (λ z. z) j) (Among-append l (x ∷ []) y i)),
  apart_more l x a.1 (λ i. n (inr i)),
)

apart_last : (l : List ℕ) (x : ℕ) → Apart (l ++ x ∷ []) → Apart l × (Among x l → ⊥)
apart_last [] x a = (tt, λ i. i)
apart_last (y ∷ l) x a = let r = apart_last l x a.1 in (
  ((λ i. a.0 (Among-append_left l (x ∷ []) y i)), r.0),
  (λ i. ⊎_elim (λ e. a.0 (Among-append_right l (x ∷ []) y (inl (sym e)))) r.1 i),
)

pub none_listed : (n : ℕ) → AreListed (replicate n false) []
none_listed n = record {
  marked = λ f i. absurd i;
  listed = λ f m. no_mark (sym (unmarked n f) ∙ m);
  apart = tt;
}

pub one_more : (marks : List Bool) (numbers : List ℕ) (f : ℕ) → f < length marks → is_marked marks f ≡ false → AreListed marks numbers
    → AreListed (set marks f true) (numbers ++ f ∷ [])
one_more marks numbers f lt new h = record {
  marked = λ g i. ⊎_elim (λ j. mark_stays marks f g (h.marked g j))
      (λ j. ⊎_elim (λ e. ap (is_marked (set marks f true)) e ∙ mark_there marks f lt) absurd j) (Among-append numbers (f ∷ []) g i);
  listed = λ g m. ⊎_elim (λ e. Among-append_right numbers (f ∷ []) g (inl e)) (λ w. Among-append_left numbers (f ∷ []) g (h.listed g w))
      (mark_cases marks f g m);
  apart = apart_more numbers f h.apart (λ i. no_mark (sym new ∙ h.marked f i));
}

module _ (marks : List Bool) (numbers rest : List ℕ) (f : ℕ) (is : numbers ≡ rest ++ f ∷ []) (h : AreListed marks numbers) where
  pub last_marked : is_marked marks f ≡ true
  last_marked = h.marked f (subst (Among f) (sym is) (Among-append_right rest (f ∷ []) f (inl refl)))

  apart : Apart rest × (Among f rest → ⊥)
  apart = apart_last rest f (subst Apart is h.apart)

  pub one_less : AreListed (set marks f false) rest
  one_less = record {
    marked = λ g i. get_or-set_other marks f g false false (λ e. apart.1 (subst (λ (k : ℕ). Among k rest) e i))
        ∙ h.marked g (subst (Among g) (sym is) (Among-append_left rest (f ∷ []) g i));
    listed = λ g m. let n : g ≢ f = mark_gone marks f g last_marked m in
        ⊎_elim (λ i. i) (λ j. ⊎_elim (λ e. absurd (n e)) absurd j)
        (Among-append rest (f ∷ []) g (subst (Among g) is (h.listed g (sym (get_or-set_other marks f g false false n) ∙ m))));
    apart = apart.0;
  }

pub none_marked : (marks : List Bool) → AreListed marks [] → (f : ℕ) → is_marked marks f ≡ false
none_marked marks h f = by_mark (is_marked marks f) refl
  where
    by_mark : (b : Bool) → is_marked marks f ≡ b → b ≡ false
    by_mark false e = refl
    by_mark true e = absurd (h.listed f e)

pub none_end : (n : ℕ) → IsEndOf 0 (replicate n false)
none_end n = record { past = λ f e. no_mark (sym (unmarked n f) ∙ e); least = λ k h. omega arith }

-- how many are marked
abbrev marks_in : List Bool → ℕ
marks_in [] = 0
marks_in (true ∷ marks) = suc (marks_in marks)
marks_in (false ∷ marks) = marks_in marks

marks_fit : (marks : List Bool) → marks_in marks ≤ length marks
marks_fit [] = omega arith
marks_fit (true ∷ marks) = let k = marks_fit marks in omega (arith, k)
marks_fit (false ∷ marks) = let k = marks_fit marks in omega (arith, k)

marks_after : (marks : List Bool) (f : ℕ) → is_marked marks f ≡ true → marks_in marks ≡ marks_in (set marks f false) + 1
marks_after [] f e = no_mark e
marks_after (true ∷ marks) zero e = omega arith
marks_after (false ∷ marks) zero e = no_mark e
marks_after (true ∷ marks) (suc f) e = let k = marks_after marks f e in omega (arith, k)
marks_after (false ∷ marks) (suc f) e = marks_after marks f e

marks_miss : (marks : List Bool) (f : ℕ) → f < length marks → is_marked marks f ≡ false → marks_in marks < length marks
marks_miss [] f lt e = absurd (omega (arith, lt))
marks_miss (true ∷ marks) zero lt e = no_mark (sym e)
marks_miss (false ∷ marks) zero lt e = let k = marks_fit marks in omega (arith, k)
marks_miss (true ∷ marks) (suc f) lt e = let k = marks_miss marks f (omega (arith, lt)) e in omega (arith, k)
marks_miss (false ∷ marks) (suc f) lt e = let k = marks_miss marks f (omega (arith, lt)) e in omega (arith, k)

listed_few : (marks : List Bool) (numbers : List ℕ) → ((g : ℕ) → Among g numbers → is_marked marks g ≡ true) → Apart numbers
    → length numbers ≤ marks_in marks
listed_few marks [] h a = omega arith
listed_few marks (x ∷ numbers) h a =
    let rest : (g : ℕ) → Among g numbers → is_marked (set marks x false) g ≡ true =
    λ g i. get_or-set_other marks x g false false (λ e. a.0 (subst (λ (k : ℕ). Among k numbers) e i)) ∙ h g (inr i) in
    let k = listed_few (set marks x false) numbers rest a.1 in
    let c = marks_after marks x (h x (inl refl)) in
    omega (arith, k, c)

-- where a number is not marked, not all are listed
pub has_room : (marks : List Bool) (numbers : List ℕ) (f : ℕ) → f < length marks → is_marked marks f ≡ false → AreListed marks numbers
    → length numbers < length marks
has_room marks numbers f lt new h =
    let k = listed_few marks numbers h.marked h.apart in
    let m = marks_miss marks f lt new in
    omega (arith, k, m)

-- the mark that is read at a place
pub mark_read : (marks : List Bool) (k : ℕ) (m : Bool) → k < length marks → m ≡ get_or marks k m → is_marked marks k ≡ m
mark_read [] k m lt e = absurd (omega (arith, lt))
mark_read (x ∷ marks) zero m lt e = sym e
mark_read (x ∷ marks) (suc k) m lt e = mark_read marks k m (omega (arith, lt)) e

-- one more place of the other row is looked at
pub joined_none : (marks : List Bool) → joined_marks marks [] ≡ marks
joined_none [] = refl
joined_none (m ∷ marks) = refl

or_false : (m : Bool) → (m || false) ≡ m
or_false true = refl
or_false false = refl

or_true : (m : Bool) → (m || true) ≡ true
or_true true = refl
or_true false = refl

pub joined_marked : (marks other : List Bool) (k : ℕ) → is_marked other k ≡ true
    → set (joined_marks marks (take k other)) k true ≡ joined_marks marks (take (suc k) other)
joined_marked marks [] k e = no_mark e
joined_marked [] (n ∷ other) zero e = refl
joined_marked [] (n ∷ other) (suc k) e = refl
joined_marked (m ∷ marks) (n ∷ other) zero e = λ i. (sym (or_true m) ∙ ap (λ (b : Bool). m || b) (sym e)) i ∷ sym (joined_none marks) i
joined_marked (m ∷ marks) (n ∷ other) (suc k) e = ap (λ l. (m || n) ∷ l) (joined_marked marks other k e)

pub joined_unmarked : (marks other : List Bool) (k : ℕ) → is_marked other k ≡ false
    → joined_marks marks (take k other) ≡ joined_marks marks (take (suc k) other)
joined_unmarked marks [] zero e = refl
joined_unmarked marks [] (suc k) e = refl
joined_unmarked [] (n ∷ other) zero e = refl
joined_unmarked [] (n ∷ other) (suc k) e = refl
joined_unmarked (m ∷ marks) (n ∷ other) zero e = λ i. (sym (or_false m) ∙ ap (λ (b : Bool). m || b) (sym e)) i ∷ sym (joined_none marks) i
joined_unmarked (m ∷ marks) (n ∷ other) (suc k) e = ap (λ l. (m || n) ∷ l) (joined_unmarked marks other k e)

pub joined_long : (marks other : List Bool) → length (joined_marks marks other) ≡ length marks
joined_long [] other = refl
joined_long (m ∷ marks) [] = refl
joined_long (m ∷ marks) (n ∷ other) = ap suc (joined_long marks other)

-- past the last mark of the other row nothing is added
pub joined_whole : (marks other : List Bool) (end : ℕ) → AreBefore end other → joined_marks marks (take end other) ≡ joined_marks marks other
joined_whole [] other end h = refl
joined_whole (m ∷ marks) [] zero h = refl
joined_whole (m ∷ marks) [] (suc end) h = refl
joined_whole (m ∷ marks) (true ∷ other) zero h = absurd (let z = h 0 refl in omega (arith, z))
joined_whole (m ∷ marks) (false ∷ other) zero h =
    λ i. sym (or_false m) i ∷ (sym (joined_none marks) ∙ joined_whole marks other 0 (λ f e. let z = h (suc f) e in omega (arith, z))) i
joined_whole (m ∷ marks) (n ∷ other) (suc end) h =
    ap (λ l. (m || n) ∷ l) (joined_whole marks other end (λ f e. let k = h (suc f) e in omega (arith, k)))

-- what is marked in the joined row
pub joined_from : (marks other : List Bool) (f : ℕ) → is_marked (joined_marks marks other) f ≡ true
    → (is_marked marks f ≡ true) ⊎ (is_marked other f ≡ true)
joined_from [] other f e = no_mark e
joined_from (m ∷ marks) [] f e = inl e
joined_from (true ∷ marks) (n ∷ other) zero e = inl refl
joined_from (false ∷ marks) (n ∷ other) zero e = inr e
joined_from (m ∷ marks) (n ∷ other) (suc f) e = joined_from marks other f e

pub joined_keeps : (marks other : List Bool) → KeepsMarks marks (joined_marks marks other)
joined_keeps [] other f e = no_mark e
joined_keeps (m ∷ marks) [] f e = e
joined_keeps (true ∷ marks) (n ∷ other) zero e = refl
joined_keeps (false ∷ marks) (n ∷ other) zero e = no_mark e
joined_keeps (m ∷ marks) (n ∷ other) (suc f) e = joined_keeps marks other f e

pub joined_takes : (marks other : List Bool) (f : ℕ) → f < length marks → is_marked other f ≡ true → is_marked (joined_marks marks other) f ≡ true
joined_takes [] other f lt e = absurd (omega (arith, lt))
joined_takes (m ∷ marks) [] f lt e = no_mark e
joined_takes (m ∷ marks) (n ∷ other) zero lt e = ap (λ (b : Bool). m || b) e ∙ or_true m
joined_takes (m ∷ marks) (n ∷ other) (suc f) lt e = joined_takes marks other f (omega (arith, lt)) e

-- a lengthened row has the same marks
pub long_marked : (marks : List Bool) (k f : ℕ) → is_marked (marks ++ replicate k false) f ≡ is_marked marks f
long_marked [] k f = unmarked k f
long_marked (m ∷ marks) k zero = refl
long_marked (m ∷ marks) k (suc f) = long_marked marks k f

pub long_end : (marks : List Bool) (n end : ℕ) → IsEndOf end marks → IsEndOf end (lengthened n marks)
long_end marks n end h = record {
  past = λ f e. h.past f (sym (long_marked marks (n - length marks) f) ∙ e);
  least = λ k all. h.least k (λ f e. all f (long_marked marks (n - length marks) f ∙ e));
}

pub long_length : (marks : List Bool) (n : ℕ) → length marks ≤ n → length (lengthened n marks) ≡ n
long_length marks n few =
    let long = length-append marks (replicate (n - length marks) false) in
    let rest = length-replicate (n - length marks) false in
    omega (arith, long, rest, few)

long_set : (marks rest : List Bool) (f : ℕ) → f < length marks → set (marks ++ rest) f true ≡ set marks f true ++ rest
long_set [] rest f lt = absurd (omega (arith, lt))
long_set (m ∷ marks) rest zero lt = refl
long_set (m ∷ marks) rest (suc f) lt = ap (λ l. m ∷ l) (long_set marks rest f (omega (arith, lt)))

-- a number of the run that may be marked has its place in the row
pub long_mark : (n : ℕ) (marks : List Bool) (f : ℕ) → length marks ≤ n → (f < n → f < length marks)
    → lengthened n (set marks f true) ≡ set (lengthened n marks) f true
long_mark n marks f few room = elim (cases_lt f (length marks)) [
  | inl lt ↦ ap (λ (k : ℕ). set marks f true ++ replicate (n - k) false) (length-set marks f true)
      ∙ sym (long_set marks (replicate (n - length marks) false) f lt)
  | inr le ↦ (let past : n ≤ f = elim (cases_lt f n) [ inl lt ↦ (let z = room lt in absurd (omega (arith, z, le))) | inr beyond ↦ beyond ] in
      let long = long_length marks n few in
      ap (lengthened n) (set_past marks f true le) ∙ sym (set_past (lengthened n marks) f true (omega (arith, past, long))))
]

pub long_none : (n k : ℕ) (marks : List Bool) → marks ≡ replicate k false → k ≤ n → lengthened n marks ≡ replicate n false
long_none n k marks is few =
    let long = ap length is ∙ length-replicate k false in
    let whole = long_length marks n (omega (arith, long, few)) in
    ext_get_or false (lengthened n marks) (replicate n false) (whole ∙ sym (length-replicate n false))
    (λ f below. long_marked marks (n - length marks) f ∙ ap (λ l. is_marked l f) is ∙ unmarked k f ∙ sym (unmarked n f))

-- a new row takes what the other one of its length has marked
joined_none_yet : (other : List Bool) → joined_marks (replicate (length other) false) other ≡ other
joined_none_yet [] = refl
joined_none_yet (n ∷ other) = ap (λ l. n ∷ l) (joined_none_yet other)

pub joined_new : (n : ℕ) (marks other : List Bool) → marks ≡ replicate n false → n ≡ length other → joined_marks marks other ≡ other
joined_new n marks other is long =
    ap (λ l. joined_marks l other) (is ∙ ap (λ (k : ℕ). replicate k false) long) ∙ joined_none_yet other
