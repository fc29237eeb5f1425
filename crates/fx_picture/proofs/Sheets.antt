-- Which events share a row.
use Rattle.std.proofs.Common.{◌≡◌, ℕ, zero, suc, ◌<◌, ◌≤◌, ◌⊎◌, Bool, true, false, Some, List, [], ◌∷◌, ◌++◌, ◌&&◌, ◌==◌}
use Rattle.std.proofs.Common.{◌-◌, refl, sym, ap, subst, ◌∙◌, length, length-drop, drop, map, arith, inl, inr, slice_get, append_assoc}
use Rattle.std.specs.Prelude.{min, nat_lt, nat_le}
use Rattle.std.proofs.lemmas.Bool.{cases_Bool, cases_order, eqb-true, eqb-false, and_parts, ltb-true, both_ways}
use Rattle.std.proofs.lemmas.List.{map-append}
use Rattle.std.proofs.lemmas.Option.{slice_get_within}
use Rattle.fx_order.specs.declared.occurrence.Occurrence.{Occurrence}
use Rattle.fx_picture.specs.declared.drawn.Drawn.{Drawn}
use Rattle.fx_picture.specs.declared.stood.Stood.{Stood}
use Rattle.fx_picture.specs.declared.tail.Tail.{Tail}
use Rattle.fx_picture.specs.declared.tail.TheConstants.{LEAST_RUN}
use Rattle.fx_picture.specs.Folds.{is_quiet, quiet_at, tail_by, next_tail, tail_from, no_tail, tail_of, run_below}
use Rattle.fx_picture.specs.Folds.{joins_above, with_row, rows_with, sheet_from, sheet_of, event_of}
use Rattle.fx_picture.specs.IsFolded.{SharesRow, IsRun}

-- a run is no shorter with what goes on with it
pub run_grows : (stood : List Stood) (f n : ℕ) (os : List Occurrence) → n ≤ run_below stood f n os
run_grows stood f n [] = omega arith
run_grows stood f n (o ∷ os) = elim (cases_Bool (o.fiber == f)) [
  | inl here ↦ elim (cases_Bool (is_quiet stood o)) [
    | inl quiet ↦ rw (here, quiet) (let more = run_grows stood f (suc n) os in omega arith)
    | inr loud ↦ rw (here, loud) (omega arith)
  ]
  | inr other ↦ rw other (run_grows stood f n os)
]

-- what stands last in a lane, where each event is marked as it is
marked_from : (stood : List Stood) (f : ℕ) (t : Tail) (xs : List Drawn) → tail_by f t xs (map (quiet_at stood) xs) ≡ tail_from stood f t xs
marked_from stood f t [] = refl
marked_from stood f t (x ∷ xs) = marked_from stood f (next_tail stood f t x) xs

pub tail_marked : (stood : List Stood) (f : ℕ) (xs : List Drawn) (quiet : List Bool) → quiet ≡ map (quiet_at stood) xs
    → tail_by f no_tail xs quiet ≡ tail_of stood f xs
tail_marked stood f xs quiet each = rw each (marked_from stood f no_tail xs)

pub marked_next : (stood : List Stood) (xs : List Drawn) (x : Drawn) (quiet : List Bool) → quiet ≡ map (quiet_at stood) xs
    → quiet ++ quiet_at stood x ∷ [] ≡ map (quiet_at stood) (xs ++ x ∷ [])
marked_next stood xs x quiet each = ap (λ (l : List Bool). l ++ quiet_at stood x ∷ []) each ∙ sym (map-append (quiet_at stood) xs (x ∷ []))

-- below the last of them nothing comes
pub tail_ends : (f : ℕ) (t : Tail) (xs : List Drawn) (quiet : List Bool) (n : ℕ) → n ≡ min (length xs) (length quiet)
    → tail_by f t (drop n xs) (drop n quiet) ≡ t
tail_ends f t xs quiet n end =
    let events : length (drop n xs) ≡ length xs - n = length-drop n xs in
    let marks : length (drop n quiet) ≡ length quiet - n = length-drop n quiet in
    none_left (drop n xs) (drop n quiet) (omega arith)
  where
    none_left : (ys : List Drawn) (qs : List Bool) → min (length ys) (length qs) ≡ 0 → tail_by f t ys qs ≡ t
    none_left [] qs none = refl
    none_left (y ∷ ys) [] none = refl
    none_left (y ∷ ys) (q ∷ qs) none = absurd (omega arith)

-- what is one of these or the last
of_pushed : {A : Type 0} (xs : List A) (n : A) (i : ℕ) (x : A) → slice_get (xs ++ n ∷ []) i ≡ Some x
    → (slice_get xs i ≡ Some x) ⊎ ((i ≡ length xs) × (x ≡ n))
of_pushed [] n zero x is = inr (refl, cc is)
of_pushed [] n (suc i) x is = absurd (cc is)
of_pushed (y ∷ xs) n zero x is = inl is
of_pushed (y ∷ xs) n (suc i) x is = elim (of_pushed xs n i x is) [
  | inl h ↦ inl h
  | inr h ↦ inr ((let e = h.0 in omega arith), h.1)
]

module _ (stood : List Stood) where
  -- what is drawn is the list
  same_from : (above : List Drawn) (rows : ℕ) (os : List Occurrence) → map event_of (sheet_from stood above rows os).drawn ≡ map event_of above ++ os
  same_from above rows [] = simp (append_nil_is (map event_of above))
    where
      append_nil_is : (xs : List Occurrence) → xs ++ [] ≡ xs
      append_nil_is [] = refl
      append_nil_is (x ∷ xs) = ap (λ (l : List Occurrence). x ∷ l) (append_nil_is xs)
  same_from above rows (o ∷ os) =
      same_from (above ++ with_row stood above rows o os ∷ []) (rows_with stood above rows o os) os
      ∙ ap (λ (l : List Occurrence). l ++ os) (map-append event_of above (with_row stood above rows o os ∷ []))
      ∙ append_assoc (map event_of above) (o ∷ []) os

  pub same_events : (list : List Occurrence) → map event_of (sheet_of stood list).drawn ≡ list
  same_events list = same_from [] 0 list

  -- the last of fiber f among these, which is quiet and stands in that row
  record IsLast (f row : ℕ) (xs : List Drawn) : Type 0 where
    place : ℕ
    at : Drawn
    is : slice_get xs place ≡ Some at
    of_fiber : at.event.fiber ≡ f
    quiet : is_quiet stood at.event ≡ true
    in_row : at.row ≡ row
    none_after : (k : ℕ) (z : Drawn) → place < k → slice_get xs k ≡ Some z → z.event.fiber ≡ f → ⊥

  record HasNone (f : ℕ) (t : Tail) (xs : List Drawn) : Type 0 where
    same : tail_from stood f t xs ≡ t
    none : (k : ℕ) (z : Drawn) → slice_get xs k ≡ Some z → z.event.fiber ≡ f → ⊥

  last_here : (f row : ℕ) (x : Drawn) (xs : List Drawn) → x.event.fiber ≡ f → is_quiet stood x.event ≡ true → x.row ≡ row
      → ((k : ℕ) (z : Drawn) → slice_get xs k ≡ Some z → z.event.fiber ≡ f → ⊥) → IsLast f row (x ∷ xs)
  last_here f row x xs of quiet here none =
      record { place = 0; at = x; is = refl; of_fiber = of; quiet = quiet; in_row = here; none_after = after }
    where
      after : (k : ℕ) (z : Drawn) → 0 < k → slice_get (x ∷ xs) k ≡ Some z → z.event.fiber ≡ f → ⊥
      after zero z lt is same = absurd (omega arith)
      after (suc k) z lt is same = none k z is same

  last_later : (f row : ℕ) (x : Drawn) (xs : List Drawn) → IsLast f row xs → IsLast f row (x ∷ xs)
  last_later f row x xs l =
      record { place = suc l.place; at = l.at; is = l.is; of_fiber = l.of_fiber; quiet = l.quiet; in_row = l.in_row; none_after = after }
    where
      after : (k : ℕ) (z : Drawn) → suc l.place < k → slice_get (x ∷ xs) k ≡ Some z → z.event.fiber ≡ f → ⊥
      after zero z lt is same = absurd (omega arith)
      after (suc k) z lt is same = l.none_after k z (omega arith) is same

  none_later : (f : ℕ) (t : Tail) (x : Drawn) (xs : List Drawn) → next_tail stood f t x ≡ t → (x.event.fiber ≡ f → ⊥) → HasNone f (next_tail stood f t x) xs
      → HasNone f t (x ∷ xs)
  none_later f t x xs still other h = record { same = h.same ∙ still; none = none }
    where
      none : (k : ℕ) (z : Drawn) → slice_get (x ∷ xs) k ≡ Some z → z.event.fiber ≡ f → ⊥
      none zero z is same = let e : x ≡ z = cc is in other (ap (λ (w : Drawn). w.event.fiber) e ∙ same)
      none (suc k) z is same = h.none k z is same

  -- a tail that is quiet is that of the last one, or of what was there before
  last_of : (f : ℕ) (t : Tail) (xs : List Drawn) → 0 < (tail_from stood f t xs).run → IsLast f (tail_from stood f t xs).row xs ⊎ HasNone f t xs
  last_of f t [] quiet = inr (record { same = refl; none = λ k z is same. absurd (cc is) })
  last_of f t (x ∷ xs) quiet = elim (last_of f (next_tail stood f t x) xs quiet) [
    | inl l ↦ inl (last_later f _ x xs l)
    | inr h ↦ elim (cases_Bool (x.event.fiber == f)) [
      | inl here ↦ elim (cases_Bool (is_quiet stood x.event)) [
        | inl q ↦ (let next : next_tail stood f t x ≡ record { run = suc t.run; row = x.row } = rw (here, q) refl in
            inl (last_here f _ x xs (eqb-true x.event.fiber f here) q (sym (ap (λ (u : Tail). u.row) (h.same ∙ next))) h.none))
        | inr q ↦ (let next : next_tail stood f t x ≡ record { run = 0; row = x.row } = rw (here, q) refl in
            let none : (tail_from stood f (next_tail stood f t x) xs).run ≡ 0 = ap (λ (u : Tail). u.run) (h.same ∙ next) in absurd (omega arith))
      ]
      | inr other ↦ inr (none_later f t x xs (rw other refl) (eqb-false x.event.fiber f other) h)
    ]
  ]

  -- what makes a list of drawn events sound, below so many rows
  pub record IsSound (above : List Drawn) (rows : ℕ) : Type 0 where
    pub below : (k : ℕ) (x : Drawn) → slice_get above k ≡ Some x → x.row < rows
    pub runs : (i j : ℕ) (x y : Drawn) → SharesRow above i j x y → IsRun stood above i j x y
    pub down : (i j : ℕ) (x y : Drawn) → i < j → slice_get above i ≡ Some x → slice_get above j ≡ Some y → is_quiet stood y.event ≡ false → x.row < y.row

  -- one more event goes into the row of the last one of its lane, which is quiet as it is, or into a new row
  data Goes (above : List Drawn) (rows : ℕ) (n : Drawn) : ℕ → Type 0 where
    along : is_quiet stood n.event ≡ true → IsLast n.event.fiber n.row above → Goes above rows n rows
    alone : n.row ≡ rows → Goes above rows n (suc rows)

module _ (stood : List Stood) (above : List Drawn) (rows : ℕ) (sound : IsSound stood above rows) (n : Drawn) where
  all : List Drawn
  all = above ++ n ∷ []

  below_next : (next : ℕ) → Goes stood above rows n next → (k : ℕ) (x : Drawn) → slice_get (above ++ n ∷ []) k ≡ Some x → x.row < next
  below_next next (along quiet last) k x is = elim (of_pushed above n k x is) [
    | inl h ↦ sound.below k x h
    | inr h ↦ (let lt = sound.below last.place last.at last.is in
        let e = ap (λ (w : Drawn). w.row) h.1 in let same = last.in_row in omega arith)
  ]
  below_next next (alone new) k x is = elim (of_pushed above n k x is) [
    | inl h ↦ (let lt = sound.below k x h in omega arith)
    | inr h ↦ (let e = ap (λ (w : Drawn). w.row) h.1 in omega arith)
  ]

  -- an event above another one of these stands among these
  old : (i j : ℕ) (x : Drawn) → i < j → j ≤ length above → slice_get (above ++ n ∷ []) i ≡ Some x → slice_get above i ≡ Some x
  old i j x lt le is = elim (of_pushed above n i x is) [ inl h ↦ h | inr h ↦ (let e = h.0 in absurd (omega arith)) ]

  old_run : (i j : ℕ) (x y : Drawn) → i < j → j ≤ length above → IsRun stood above i j x y → IsRun stood (above ++ n ∷ []) i j x y
  old_run i j x y lt le r = record {
    one_lane = r.one_lane;
    first_quiet = r.first_quiet;
    second_quiet = r.second_quiet;
    whole = λ k z a b is. r.whole k z a b (old k j z b le is);
  }

  -- with the last of its lane, and with one above or below that
  with_last : (quiet : is_quiet stood n.event ≡ true) (last : IsLast stood n.event.fiber n.row above) (x : Drawn) → x ≡ last.at
      → IsRun stood (above ++ n ∷ []) last.place (length above) x n
  with_last quiet last x same = record {
    one_lane = ap (λ (w : Drawn). w.event.fiber) same ∙ last.of_fiber;
    first_quiet = ap (λ (w : Drawn). is_quiet stood w.event) same ∙ last.quiet;
    second_quiet = quiet;
    whole = λ k z a b is lane. absurd (last.none_after k z a (old k (length above) z b (omega arith) is)
        (lane ∙ ap (λ (w : Drawn). w.event.fiber) same ∙ last.of_fiber));
  }

  above_last : (quiet : is_quiet stood n.event ≡ true) (last : IsLast stood n.event.fiber n.row above) (i : ℕ) (x : Drawn) → i < last.place
      → IsRun stood above i last.place x last.at → x.row ≡ n.row → IsRun stood (above ++ n ∷ []) i (length above) x n
  above_last quiet last i x lt r row = record {
    one_lane = r.one_lane ∙ last.of_fiber;
    first_quiet = r.first_quiet;
    second_quiet = quiet;
    whole = whole;
  }
    where
      whole : (k : ℕ) (z : Drawn) → i < k → k < length above → slice_get (above ++ n ∷ []) k ≡ Some z → z.event.fiber ≡ x.event.fiber → z.row ≡ x.row
      whole k z a b is lane =
          let here = old k (length above) z b (omega arith) is in
          elim (cases_order k last.place) [
            | inl e ↦ (let same : Some z ≡ Some last.at = sym here ∙ ap (slice_get above) e ∙ last.is in
                let e' : z ≡ last.at = cc same in ap (λ (w : Drawn). w.row) e' ∙ last.in_row ∙ sym row)
            | inr (inl lt') ↦ r.whole k z a lt' here lane
            | inr (inr gt) ↦ absurd (last.none_after k z gt here (lane ∙ r.one_lane ∙ last.of_fiber))
          ]

  with_next : (next : ℕ) → Goes stood above rows n next → (i : ℕ) (x : Drawn) → i < length above → slice_get above i ≡ Some x → x.row ≡ n.row
      → IsRun stood (above ++ n ∷ []) i (length above) x n
  with_next next (alone new) i x lt is row = (let b = sound.below i x is in absurd (omega arith))
  with_next next (along quiet last) i x lt is row = elim (cases_order i last.place) [
    | inl e ↦ (let same : Some x ≡ Some last.at = sym is ∙ ap (slice_get above) e ∙ last.is in
        let e' : x ≡ last.at = cc same in
        subst (λ (p : ℕ). IsRun stood (above ++ n ∷ []) p (length above) x n) (sym e) (with_last quiet last x e'))
    | inr (inl a) ↦ above_last quiet last i x a
        (sound.runs i last.place x last.at (record { order = a; first = is; second = last.is; row = row ∙ sym last.in_row })) row
    | inr (inr b) ↦ (let r = sound.runs last.place i last.at x (record { order = b; first = last.is; second = is; row = last.in_row ∙ sym row }) in
        absurd (last.none_after i x b is (sym r.one_lane ∙ last.of_fiber)))
  ]

  runs_next : (next : ℕ) → Goes stood above rows n next → (i j : ℕ) (x y : Drawn) → SharesRow (above ++ n ∷ []) i j x y → IsRun stood (above ++ n ∷ []) i j x y
  runs_next next goes i j x y s = elim (of_pushed above n j y s.second) [
    | inl h ↦ (let lt = s.order in let le = slice_get_within above j y h in
        old_run i j x y s.order (omega arith)
        (sound.runs i j x y (record { order = s.order; first = old i j x s.order (omega arith) s.first; second = h; row = s.row })))
    | inr h ↦ (let lt = s.order in let e = h.0 in let same : y ≡ n = h.1 in
        subst (λ (p : ℕ). IsRun stood (above ++ n ∷ []) i p x y) (sym e)
        (subst (λ (w : Drawn). IsRun stood (above ++ n ∷ []) i (length above) x w) (sym same)
        (with_next next goes i x (omega arith) (old i j x s.order (omega arith) s.first) (s.row ∙ ap (λ (w : Drawn). w.row) same))))
  ]

  down_next : (next : ℕ) → Goes stood above rows n next → (i j : ℕ) (x y : Drawn) → i < j → slice_get (above ++ n ∷ []) i ≡ Some x
      → slice_get (above ++ n ∷ []) j ≡ Some y → is_quiet stood y.event ≡ false → x.row < y.row
  down_next next goes i j x y lt is_x is_y loud = elim (of_pushed above n j y is_y) [
    | inl h ↦ (let le = slice_get_within above j y h in sound.down i j x y lt (old i j x lt (omega arith) is_x) h loud)
    | inr h ↦ (let e = h.0 in below_new goes x (old i j x lt (omega arith) is_x) (ap (λ (w : Drawn). is_quiet stood w.event) (sym h.1) ∙ loud) h.1)
  ]
    where
      below_new : {m : ℕ} → Goes stood above rows n m → (w : Drawn) → slice_get above i ≡ Some w → is_quiet stood n.event ≡ false → y ≡ n → w.row < y.row
      below_new (along quiet last) w is off same = absurd (both_ways (is_quiet stood n.event) off quiet)
      below_new (alone new) w is off same = (let b = sound.below i w is in let e = ap (λ (v : Drawn). v.row) same in omega arith)

  sound_next : (next : ℕ) → Goes stood above rows n next → IsSound stood (above ++ n ∷ []) next
  sound_next next goes = record { below = below_next next goes; runs = runs_next next goes; down = down_next next goes }

module _ (stood : List Stood) where
  -- where the code puts it
  goes_by : (above : List Drawn) (rows : ℕ) (o : Occurrence) (os : List Occurrence)
      → Goes stood above rows (with_row stood above rows o os) (rows_with stood above rows o os)
  goes_by above rows o os = elim (cases_Bool (joins_above stood above rows o os)) [
    | inl does ↦ joined does
    | inr other ↦ rw other (alone refl)
  ]
    where
      joined : joins_above stood above rows o os ≡ true → Goes stood above rows (with_row stood above rows o os) (rows_with stood above rows o os)
      joined j =
          let tail = tail_of stood o.fiber above in
          let both = and_parts (is_quiet stood o && nat_lt 0 tail.run) (nat_le LEAST_RUN (run_below stood o.fiber (suc tail.run) os)) j in
          let parts = and_parts (is_quiet stood o) (nat_lt 0 tail.run) both.0 in
          let lt : 0 < tail.run = ltb-true 0 tail.run parts.1 in
          elim (last_of stood o.fiber no_tail above lt) [
            | inl last ↦ rw j (along parts.0 last)
            | inr none ↦ (let e : tail.run ≡ 0 = ap (λ (u : Tail). u.run) none.same in absurd (omega arith))
          ]

  sound_from : (above : List Drawn) (rows : ℕ) (os : List Occurrence) → IsSound stood above rows
      → IsSound stood (sheet_from stood above rows os).drawn (sheet_from stood above rows os).rows
  sound_from above rows [] sound = sound
  sound_from above rows (o ∷ os) sound =
      sound_from (above ++ with_row stood above rows o os ∷ []) (rows_with stood above rows o os) os
      (sound_next stood above rows sound (with_row stood above rows o os) (rows_with stood above rows o os) (goes_by above rows o os))

  none_sound : IsSound stood [] 0
  none_sound = record {
    below = λ k x is. absurd (cc is);
    runs = λ i j x y s. absurd (cc s.first);
    down = λ i j x y lt is. absurd (cc is);
  }

  pub sheet_is_sound : (list : List Occurrence) → IsSound stood (sheet_of stood list).drawn (sheet_of stood list).rows
  sheet_is_sound list = sound_from [] 0 list none_sound
