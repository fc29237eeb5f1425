-- Texts and what reading gives of each, by computation.
use Rattle.std.proofs.Common.{
  ◌≡◌,
  ℕ,
  zero,
  suc,
  ◌+◌,
  ◌≤◌,
  ◌<◌,
  Some,
  None,
  List,
  [],
  ◌∷◌,
  ◌++◌,
  length,
  map,
  take,
  replicate,
  codes,
  nat_lt,
  true,
  false,
  Result,
  Ok,
  Err,
  refl,
  ◌∙◌,
  ap,
  arith,
}
use Rattle.std.specs.List.{concat}
use Rattle.std.proofs.lemmas.Bool.{lt-ltb, le-ltb}
use Rattle.std.proofs.lemmas.List.{length-append, length-replicate}
use Rattle.fx_term.specs.declared.node.Arg.TheVariants.{Number, Slot}
use Rattle.fx_term.specs.Term.{Term, Pure, Raise, Canceled, Never, Cede, Let, Handle, If, For, Mask, Poll, OnCancel, Bracket, BracketCase, Start, Join, Cancel}
use Rattle.fx_term.specs.Term.{First}
use Rattle.fx_text.specs.declared.fault.TextFault.{TextFault}
use Rattle.fx_text.specs.declared.fault.TextKind.{TextKind}
use Rattle.fx_text.specs.declared.fault.TextKind.TheVariants as kind
use Rattle.fx_text.specs.Token.{after_spaces, next}
use Rattle.fx_text.specs.Reading.{
  Meaning,
  opening_at,
  closing_at,
  value_at,
  count_at,
  name_at,
  binder_at,
  form_at,
  groups_within,
  group_at,
  capacity_at,
  top_opening_at,
  top_form_at,
  declaration_at,
  queues_within,
  script_at,
  reading,
}

abbrev fault : TextKind → ℕ → Result Meaning TextFault
fault k at = Err (record { kind = k; at = at })

abbrev means : Term → Result Meaning TextFault
means t = Ok (record { queues = []; term = t })

-- ---- scripts

pure_row : reading (codes "(main (pure 5))") ≡ means (Pure (Number 5))
unfolding next opening_at closing_at value_at binder_at form_at top_form_at group_at top_opening_at queues_within script_at
pure_row = refl

greatest_number_row : reading (codes "(main (pure 018446744073709551615))") ≡ means (Pure (Number 18446744073709551615))
unfolding next opening_at closing_at value_at binder_at form_at top_form_at group_at top_opening_at queues_within script_at
greatest_number_row = refl

canceled_row : reading (codes "(main(canceled ) )") ≡ means Canceled
unfolding next opening_at closing_at value_at binder_at form_at top_form_at group_at top_opening_at queues_within script_at
canceled_row = refl

let_row : reading (codes "(main (let x (pure 4) (raise x)))") ≡ means (Let (Some 0) (Pure (Number 4)) (Raise (Slot 0)))
unfolding next opening_at closing_at value_at binder_at form_at top_form_at group_at top_opening_at queues_within script_at
let_row = refl

handle_row : reading (codes "(main (handle (raise 3) e (pure e)))") ≡ means (Handle (Raise (Number 3)) (Some 0) (Pure (Slot 0)))
unfolding next opening_at closing_at value_at binder_at form_at top_form_at group_at top_opening_at queues_within script_at
handle_row = refl

form_as_name_row : reading (codes "(main (let pure (pure 1) (pure pure)))") ≡ means (Let (Some 0) (Pure (Number 1)) (Pure (Slot 0)))
unfolding next opening_at closing_at value_at binder_at form_at top_form_at group_at top_opening_at queues_within script_at
form_as_name_row = refl

-- a name is taken again where the first one is out of scope
reused_name_row : reading (codes "(main (let x (let x (pure 1) (pure x)) (pure x)))")
    ≡ means (Let (Some 0) (Let (Some 0) (Pure (Number 1)) (Pure (Slot 0))) (Pure (Slot 0)))
unfolding next opening_at closing_at value_at binder_at form_at top_form_at group_at top_opening_at queues_within script_at
reused_name_row = refl

-- names are numbered from the outermost on
two_names_row : reading (codes "(main (let x (pure 1) (handle (raise x) y (let z (pure y) (raise x)))))")
    ≡ means (Let (Some 0) (Pure (Number 1)) (Handle (Raise (Slot 0)) (Some 1) (Let (Some 2) (Pure (Slot 1)) (Raise (Slot 0)))))
unfolding next opening_at closing_at value_at binder_at form_at top_form_at group_at top_opening_at queues_within script_at
two_names_row = refl

seq_row : reading (codes "(main (seq (pure 1) (pure 2) (pure 3)))") ≡ means (Let None (Pure (Number 1)) (Let None (Pure (Number 2)) (Pure (Number 3))))
unfolding next opening_at closing_at value_at form_at top_form_at groups_within group_at top_opening_at queues_within script_at
seq_row = refl

one_part_row : reading (codes "(main (seq (pure 1)))") ≡ means (Pure (Number 1))
unfolding next opening_at closing_at value_at form_at top_form_at groups_within group_at top_opening_at queues_within script_at
one_part_row = refl

mask_row : reading (codes "(main (mask p (poll p (canceled))))") ≡ means (Mask 0 (Poll (Slot 0) Canceled))
unfolding next opening_at closing_at name_at binder_at form_at top_form_at group_at top_opening_at queues_within script_at
mask_row = refl

on_cancel_row : reading (codes "(main (oncancel (canceled) (raise 9)))") ≡ means (OnCancel Canceled (Raise (Number 9)))
unfolding next opening_at closing_at value_at form_at top_form_at group_at top_opening_at queues_within script_at
on_cancel_row = refl

-- polls and values are numbered together
poll_among_values_row : reading (codes "(main (let x (pure 1) (mask p (let y (poll p (pure x)) (pure y)))))")
    ≡ means (Let (Some 0) (Pure (Number 1)) (Mask 1 (Let (Some 2) (Poll (Slot 1) (Pure (Slot 0))) (Pure (Slot 2)))))
unfolding next opening_at closing_at value_at name_at binder_at form_at top_form_at group_at top_opening_at queues_within script_at
poll_among_values_row = refl

start_row : reading (codes "(main (start h (pure 1) (start k (cancel h) (first k h))))")
    ≡ means (Start 0 (Pure (Number 1)) (Start 1 (Cancel (Slot 0)) (First (Slot 1) (Slot 0))))
unfolding next opening_at closing_at value_at count_at name_at binder_at form_at top_form_at groups_within group_at top_opening_at queues_within script_at
start_row = refl

join_row : reading (codes "(main (start h (pure 1) (join h (x (pure x)) (y (raise y)) (never))))")
    ≡ means (Start 0 (Pure (Number 1)) (Join (Slot 0) 1 (Pure (Slot 1)) 1 (Raise (Slot 1)) Never))
unfolding next opening_at closing_at value_at count_at name_at binder_at form_at top_form_at groups_within group_at top_opening_at queues_within script_at
join_row = refl

-- the poll of another fiber is unknown, and its name stays taken
foreign_poll_row : reading (codes "(main (mask p (start h (poll p (pure 1)) (pure 2))))") ≡ fault kind.Unknown 29
unfolding next opening_at closing_at value_at count_at name_at binder_at form_at top_form_at groups_within group_at top_opening_at queues_within script_at
foreign_poll_row = refl

foreign_name_row : reading (codes "(main (mask p (start h (mask p (pure 1)) (pure 2))))") ≡ fault kind.Taken 29
unfolding next opening_at closing_at value_at count_at name_at binder_at form_at top_form_at groups_within group_at top_opening_at queues_within script_at
foreign_name_row = refl

-- the first form to close that can start too many fibers, at its `(`
many_fibers_row : reading (codes "(main (for i 4096 (start h (pure i) (pure 0))))") ≡ fault kind.Need 6
unfolding next opening_at closing_at value_at count_at name_at binder_at form_at top_form_at groups_within group_at top_opening_at queues_within script_at
many_fibers_row = refl

many_fibers_inside_row : reading (codes "(main (seq (cede) (for i 4096 (start h (cede) (cede))) (foo)))") ≡ fault kind.Need 18
unfolding next opening_at closing_at value_at count_at name_at binder_at form_at top_form_at groups_within group_at top_opening_at queues_within script_at
many_fibers_inside_row = refl

most_fibers_row : reading (codes "(main (for i 4095 (start h (pure i) (pure 0))))") ≡ means (For 0 4095 (Start 1 (Pure (Slot 0)) (Pure (Number 0))))
unfolding next opening_at closing_at value_at count_at name_at binder_at form_at top_form_at groups_within group_at top_opening_at queues_within script_at
most_fibers_row = refl

-- of its releases the one that can start the most fibers counts
case_many_fibers_row : reading (codes "(main (bracketcase x (cede) (for i 4000 (start h (cede) (cede))) (y (for j 95 (start h (cede) (cede))))"
    ++ codes " (z (for j 96 (start h (cede) (cede)))) (cede)))") ≡ fault kind.Need 6
unfolding next opening_at closing_at value_at count_at name_at binder_at form_at top_form_at groups_within group_at top_opening_at queues_within script_at
case_many_fibers_row = refl

case_most_fibers_row : reading (codes "(main (bracketcase x (cede) (for i 4000 (start h (cede) (cede))) (y (for j 95 (start h (cede) (cede))))"
    ++ codes " (z (for j 95 (start h (cede) (cede)))) (cede)))")
    ≡ means (BracketCase 0 Cede (For 1 4000 (Start 2 Cede Cede)) 1 (For 2 95 (Start 3 Cede Cede)) 1 (For 2 95 (Start 3 Cede Cede)) Cede)
unfolding next opening_at closing_at value_at count_at name_at binder_at form_at top_form_at groups_within group_at top_opening_at queues_within script_at
case_most_fibers_row = refl

-- a race is what stands for it, whose names are new ones
race_row : reading (codes "(main (let y (pure 7) (race (pure y) (let z (raise y) (pure z)))))")
    ≡ reading (codes "(main (let y (pure 7) (mask p (start l (pure y) (start r (let z (raise y) (pure z)) (let w (oncancel (poll p ("
    ++ codes "first l r)) (seq (cancel l) (cancel r))) (if w (join r (x (seq (cancel l) (pure x))) (e (seq (cancel l) (raise"
    ++ codes " e))) (oncancel (poll p (join l (x (pure x)) (e (raise e)) (seq (canceled) (never)))) (seq (cancel l) (cancel "
    ++ codes "r)))) (join l (x (seq (cancel r) (pure x))) (e (seq (cancel r) (raise e))) (oncancel (poll p (join r (x (pure "
    ++ codes "x)) (e (raise e)) (seq (canceled) (never)))) (seq (cancel l) (cancel r)))))))))))")
unfolding next opening_at closing_at value_at count_at name_at binder_at form_at top_form_at groups_within group_at top_opening_at queues_within script_at
race_row = refl

-- a poll from outside of a race is unknown in both parts, and its name stays taken there
race_left_poll_row : reading (codes "(main (mask p (race (poll p (cede)) (cede))))") ≡ fault kind.Unknown 26
unfolding next opening_at closing_at value_at count_at name_at binder_at form_at top_form_at groups_within group_at top_opening_at queues_within script_at
race_left_poll_row = refl

race_right_poll_row : reading (codes "(main (mask p (race (cede) (poll p (cede)))))") ≡ fault kind.Unknown 33
unfolding next opening_at closing_at value_at count_at name_at binder_at form_at top_form_at groups_within group_at top_opening_at queues_within script_at
race_right_poll_row = refl

race_taken_row : reading (codes "(main (mask p (race (mask p (cede)) (cede))))") ≡ fault kind.Taken 26
unfolding next opening_at closing_at value_at count_at name_at binder_at form_at top_form_at groups_within group_at top_opening_at queues_within script_at
race_taken_row = refl

if_row : reading (codes "(main (let x (pure 1) (if x (never) (cede))))") ≡ means (Let (Some 0) (Pure (Number 1)) (If (Slot 0) Never Cede))
unfolding next opening_at closing_at value_at count_at name_at binder_at form_at top_form_at groups_within group_at top_opening_at queues_within script_at
if_row = refl

for_row : reading (codes "(main (for i 1000 (for j 1000 (pure i))))") ≡ means (For 0 1000 (For 1 1000 (Pure (Slot 0))))
unfolding next opening_at closing_at value_at count_at name_at binder_at form_at top_form_at groups_within group_at top_opening_at queues_within script_at
for_row = refl

-- the turns of loops that stand side by side are not multiplied
loops_in_order_row : reading (codes "(main (seq (for i 1000000 (cede)) (for i 1000000 (cede))))") ≡ means (Let None (For 0 1000000 Cede) (For 0 1000000 Cede))
unfolding next opening_at closing_at value_at count_at name_at binder_at form_at top_form_at groups_within group_at top_opening_at queues_within script_at
loops_in_order_row = refl

no_turn_row : reading (codes "(main (for i 0 (for j 1000000 (cede))))") ≡ means (For 0 0 (For 1 1000000 Cede))
unfolding next opening_at closing_at value_at count_at name_at binder_at form_at top_form_at groups_within group_at top_opening_at queues_within script_at
no_turn_row = refl

bracket_row : reading (codes "(main (bracket x (pure 1) (pure x) (raise x)))") ≡ means (Bracket (Some 0) (Pure (Number 1)) (Pure (Slot 0)) (Raise (Slot 0)))
unfolding next opening_at closing_at value_at count_at name_at binder_at form_at top_form_at groups_within group_at top_opening_at queues_within script_at
bracket_row = refl

bracket_case_row : reading (codes "(main (bracketcase x (pure 1) (pure x) (y (pure y)) (z (raise z)) (pure x)))")
    ≡ means (BracketCase 0 (Pure (Number 1)) (Pure (Slot 0)) 1 (Pure (Slot 1)) 1 (Raise (Slot 1)) (Pure (Slot 0)))
unfolding next opening_at closing_at value_at count_at name_at binder_at form_at top_form_at groups_within group_at top_opening_at queues_within script_at
bracket_case_row = refl

-- the names of the groups of a `bracketcase` may be equal, since neither is in scope of the other
bracket_case_same_names_row : reading (codes "(main (let w (pure 1) (bracketcase x (pure w) (pure x) (y (raise x)) (y (pure y)) (cede))))")
    ≡ means (Let (Some 0) (Pure (Number 1)) (BracketCase 1 (Pure (Slot 0)) (Pure (Slot 1)) 2 (Raise (Slot 1)) 2 (Pure (Slot 2)) Cede))
unfolding next opening_at closing_at value_at count_at name_at binder_at form_at top_form_at groups_within group_at top_opening_at queues_within script_at
bracket_case_same_names_row = refl

guarantee_row : reading (codes "(main (guarantee (pure 1) (raise 2)))") ≡ means (Bracket None (Pure (Number 0)) (Pure (Number 1)) (Raise (Number 2)))
unfolding next opening_at closing_at value_at count_at name_at binder_at form_at top_form_at groups_within group_at top_opening_at queues_within script_at
guarantee_row = refl

forcer_row : reading (codes "(main (forcer (raise 1) (pure 2)))") ≡ means (Let None (Handle (Raise (Number 1)) None (Pure (Number 0))) (Pure (Number 2)))
unfolding next opening_at closing_at value_at count_at name_at binder_at form_at top_form_at groups_within group_at top_opening_at queues_within script_at
forcer_row = refl

using_row : reading (codes "(main (using ((x (pure 1) (pure x)) (y (raise x) (raise y))) (pure y)))")
    ≡ means (Bracket (Some 0) (Pure (Number 1)) (Bracket (Some 1) (Raise (Slot 0)) (Pure (Slot 1)) (Raise (Slot 1))) (Pure (Slot 0)))
unfolding next opening_at closing_at value_at count_at name_at binder_at form_at top_form_at groups_within group_at top_opening_at queues_within script_at
using_row = refl

-- ---- refusals, by kind

byte_row : reading (codes "(main (pure 5))" ++ 0 ∷ []) ≡ fault kind.Byte 15
unfolding next opening_at closing_at value_at binder_at form_at top_form_at group_at top_opening_at queues_within script_at
byte_row = refl

number_row : reading (codes "(main (pure 18446744073709551616))") ≡ fault kind.Number 12
unfolding next opening_at closing_at value_at binder_at form_at top_form_at group_at top_opening_at queues_within script_at
number_row = refl

number_before_place_row : reading (codes "(main (pure 5) 5a") ≡ fault kind.Number 15
unfolding next opening_at closing_at value_at binder_at form_at top_form_at group_at top_opening_at queues_within script_at
number_before_place_row = refl

form_row : reading (codes "(main (foo))") ≡ fault kind.Form 7
unfolding next opening_at closing_at value_at binder_at form_at top_form_at group_at top_opening_at queues_within script_at
form_row = refl

unwanted_row : reading (codes "(main (pure))") ≡ fault kind.Unwanted 11
unfolding next opening_at closing_at value_at binder_at form_at top_form_at group_at top_opening_at queues_within script_at
unwanted_row = refl

unknown_row : reading (codes "(main (pure x))") ≡ fault kind.Unknown 12
unfolding next opening_at closing_at value_at binder_at form_at top_form_at group_at top_opening_at queues_within script_at
unknown_row = refl

first_part_row : reading (codes "(main (let x (pure x) (pure 1)))") ≡ fault kind.Unknown 19
unfolding next opening_at closing_at value_at binder_at form_at top_form_at group_at top_opening_at queues_within script_at
first_part_row = refl

taken_row : reading (codes "(main (let x (pure 1) (let x (pure 2) (pure x))))") ≡ fault kind.Taken 27
unfolding next opening_at closing_at value_at binder_at form_at top_form_at group_at top_opening_at queues_within script_at
taken_row = refl

poll_as_value_row : reading (codes "(main (mask p (pure p)))") ≡ fault kind.Unknown 20
unfolding next opening_at closing_at value_at name_at binder_at form_at top_form_at group_at top_opening_at queues_within script_at
poll_as_value_row = refl

value_as_poll_row : reading (codes "(main (let x (pure 1) (poll x (pure 2))))") ≡ fault kind.Unknown 28
unfolding next opening_at closing_at value_at name_at binder_at form_at top_form_at group_at top_opening_at queues_within script_at
value_as_poll_row = refl

poll_taken_row : reading (codes "(main (mask p (mask p (pure 1))))") ≡ fault kind.Taken 20
unfolding next opening_at closing_at value_at name_at binder_at form_at top_form_at group_at top_opening_at queues_within script_at
poll_taken_row = refl

no_part_row : reading (codes "(main (seq))") ≡ fault kind.Unwanted 10
unfolding next opening_at closing_at form_at top_form_at groups_within group_at top_opening_at queues_within script_at
no_part_row = refl

own_acquire_row : reading (codes "(main (bracket x (pure x) (pure x) (pure x)))") ≡ fault kind.Unknown 23
unfolding next opening_at closing_at value_at count_at name_at binder_at form_at top_form_at groups_within group_at top_opening_at queues_within script_at
own_acquire_row = refl

case_own_acquire_row : reading (codes "(main (bracketcase x (pure x) (pure 2) (y (pure y)) (z (pure z)) (pure x)))") ≡ fault kind.Unknown 27
unfolding next opening_at closing_at value_at count_at name_at binder_at form_at top_form_at groups_within group_at top_opening_at queues_within script_at
case_own_acquire_row = refl

-- the value of the use is known in its own group alone
case_other_group_row : reading (codes "(main (bracketcase x (pure 1) (pure 2) (y (pure y)) (z (pure y)) (pure x)))") ≡ fault kind.Unknown 61
unfolding next opening_at closing_at value_at count_at name_at binder_at form_at top_form_at groups_within group_at top_opening_at queues_within script_at
case_other_group_row = refl

case_after_groups_row : reading (codes "(main (bracketcase x (pure 1) (pure 2) (y (pure y)) (z (pure z)) (pure y)))") ≡ fault kind.Unknown 71
unfolding next opening_at closing_at value_at count_at name_at binder_at form_at top_form_at groups_within group_at top_opening_at queues_within script_at
case_after_groups_row = refl

case_taken_row : reading (codes "(main (bracketcase x (pure 1) (pure 2) (x (pure x)) (z (pure z)) (pure x)))") ≡ fault kind.Taken 40
unfolding next opening_at closing_at value_at count_at name_at binder_at form_at top_form_at groups_within group_at top_opening_at queues_within script_at
case_taken_row = refl

case_second_taken_row : reading (codes "(main (bracketcase x (pure 1) (pure 2) (y (pure y)) (x (pure x)) (pure x)))") ≡ fault kind.Taken 53
unfolding next opening_at closing_at value_at count_at name_at binder_at form_at top_form_at groups_within group_at top_opening_at queues_within script_at
case_second_taken_row = refl

case_missing_group_row : reading (codes "(main (bracketcase x (pure 1) (pure 2) (y (pure y)) (pure x)))") ≡ fault kind.Unwanted 58
unfolding next opening_at closing_at value_at count_at name_at binder_at form_at top_form_at groups_within group_at top_opening_at queues_within script_at
case_missing_group_row = refl

resource_own_acquire_row : reading (codes "(main (using ((x (pure x) (pure x))) (pure x)))") ≡ fault kind.Unknown 23
unfolding next opening_at closing_at value_at count_at name_at binder_at form_at top_form_at groups_within group_at top_opening_at queues_within script_at
resource_own_acquire_row = refl

-- a resource is not in scope in those before it
later_resource_row : reading (codes "(main (using ((x (pure y) (pure x)) (y (pure 1) (pure y))) (pure x)))") ≡ fault kind.Unknown 23
unfolding next opening_at closing_at value_at count_at name_at binder_at form_at top_form_at groups_within group_at top_opening_at queues_within script_at
later_resource_row = refl

resource_taken_row : reading (codes "(main (using ((x (pure 1) (pure x)) (x (pure 1) (pure x))) (pure x)))") ≡ fault kind.Taken 37
unfolding next opening_at closing_at value_at count_at name_at binder_at form_at top_form_at groups_within group_at top_opening_at queues_within script_at
resource_taken_row = refl

no_resource_row : reading (codes "(main (using () (pure 1)))") ≡ fault kind.Unwanted 14
unfolding next opening_at closing_at value_at count_at name_at binder_at form_at top_form_at groups_within group_at top_opening_at queues_within script_at
no_resource_row = refl

no_list_row : reading (codes "(main (using x (pure 1)))") ≡ fault kind.Unwanted 13
unfolding next opening_at closing_at value_at count_at name_at binder_at form_at top_form_at groups_within group_at top_opening_at queues_within script_at
no_list_row = refl

group_of_more_row : reading (codes "(main (using ((x (pure 1) (pure x) (pure 2))) (pure x)))") ≡ fault kind.Unwanted 35
unfolding next opening_at closing_at value_at count_at name_at binder_at form_at top_form_at groups_within group_at top_opening_at queues_within script_at
group_of_more_row = refl

group_of_less_row : reading (codes "(main (using ((x (pure 1))) (pure x)))") ≡ fault kind.Unwanted 25
unfolding next opening_at closing_at value_at count_at name_at binder_at form_at top_form_at groups_within group_at top_opening_at queues_within script_at
group_of_less_row = refl

out_of_resources_row : reading (codes "(main (seq (using ((x (pure 1) (pure x))) (pure x)) (pure x)))") ≡ fault kind.Unknown 58
unfolding next opening_at closing_at value_at count_at name_at binder_at form_at top_form_at groups_within group_at top_opening_at queues_within script_at
out_of_resources_row = refl

count_row : reading (codes "(main (for i i (pure 1)))") ≡ fault kind.Unwanted 13
unfolding next opening_at closing_at value_at count_at name_at binder_at form_at top_form_at groups_within group_at top_opening_at queues_within script_at
count_row = refl

size_row : reading (codes "(main (for i 1000001 (pure 1)))") ≡ fault kind.Size 13
unfolding next opening_at closing_at value_at count_at name_at binder_at form_at top_form_at groups_within group_at top_opening_at queues_within script_at
size_row = refl

greatest_size_row : reading (codes "(main (for i 18446744073709551615 (pure 1)))") ≡ fault kind.Size 13
unfolding next opening_at closing_at value_at count_at name_at binder_at form_at top_form_at groups_within group_at top_opening_at queues_within script_at
greatest_size_row = refl

number_before_size_row : reading (codes "(main (for i 18446744073709551616 (pure 1)))") ≡ fault kind.Number 13
unfolding next opening_at closing_at value_at count_at name_at binder_at form_at top_form_at groups_within group_at top_opening_at queues_within script_at
number_before_size_row = refl

turns_row : reading (codes "(main (for i 1000 (for j 1001 (pure 1))))") ≡ fault kind.Size 25
unfolding next opening_at closing_at value_at count_at name_at binder_at form_at top_form_at groups_within group_at top_opening_at queues_within script_at
turns_row = refl

turns_of_none_row : reading (codes "(main (for i 0 (for j 1000001 (pure 1))))") ≡ fault kind.Size 22
unfolding next opening_at closing_at value_at count_at name_at binder_at form_at top_form_at groups_within group_at top_opening_at queues_within script_at
turns_of_none_row = refl

-- the turns go through all forms between the loops
turns_through_forms_row : reading (codes "(main (for i 1000 (using ((x (cede) (oncancel (cede) (for j 1001 (pure 1))))) (cede))))") ≡ fault kind.Size 60
unfolding next opening_at closing_at value_at count_at name_at binder_at form_at top_form_at groups_within group_at top_opening_at queues_within script_at
turns_through_forms_row = refl

own_loop_row : reading (codes "(main (for i 1 (for i 1 (pure 1))))") ≡ fault kind.Taken 20
unfolding next opening_at closing_at value_at count_at name_at binder_at form_at top_form_at groups_within group_at top_opening_at queues_within script_at
own_loop_row = refl

after_main_row : reading (codes "(main (pure 5)) 1") ≡ fault kind.Main 16
unfolding next opening_at closing_at value_at binder_at form_at top_form_at group_at top_opening_at queues_within script_at
after_main_row = refl

-- the first bytes of a script, from none on
first_bytes_row : map (λ n. reading (take n (codes "(main (pure 5))"))) (0 ∷ 1 ∷ 2 ∷ 3 ∷ 4 ∷ 5 ∷ 6 ∷ 7 ∷ 8 ∷ 9 ∷ 10 ∷ 11 ∷ 12 ∷ 13 ∷ 14 ∷ [])
    ≡ (fault kind.Main 0 ∷ fault kind.Ended 1 ∷ fault kind.Form 1 ∷ fault kind.Form 1 ∷ fault kind.Form 1 ∷ fault kind.Ended 5 ∷ fault kind.Ended 6 ∷ fault
    kind.Ended 7 ∷ fault kind.Form 7 ∷ fault kind.Form 7 ∷ fault kind.Form 7 ∷ fault kind.Ended 11 ∷ fault kind.Ended 12 ∷ fault kind.Ended 13 ∷ fault
    kind.Ended 14 ∷ [])
unfolding next opening_at closing_at value_at binder_at form_at top_form_at group_at top_opening_at queues_within script_at
first_bytes_row = refl

-- ---- 100 open parentheses

abbrev times : ℕ → List ℕ → List ℕ
times n piece = concat (replicate n piece)

too_deep_row : reading (codes "(main " ++ times 100 (codes "(handle ")) ≡ fault kind.Depth 798
unfolding next opening_at closing_at value_at binder_at form_at top_form_at group_at top_opening_at queues_within script_at
too_deep_row = refl

-- the parentheses of the list and of its groups are open too
too_deep_list_row : reading (codes "(main " ++ times 98 (codes "(handle ") ++ codes "(using (") ≡ fault kind.Depth 797
unfolding next opening_at closing_at value_at count_at name_at binder_at form_at top_form_at groups_within group_at top_opening_at queues_within script_at
too_deep_list_row = refl

too_deep_group_row : reading (codes "(main " ++ times 97 (codes "(handle ") ++ codes "(using ((") ≡ fault kind.Depth 790
unfolding next opening_at closing_at value_at count_at name_at binder_at form_at top_form_at groups_within group_at top_opening_at queues_within script_at
too_deep_group_row = refl

too_deep_acquire_row : reading (codes "(main " ++ times 96 (codes "(handle ") ++ codes "(using ((x (") ≡ fault kind.Depth 785
unfolding next opening_at closing_at value_at count_at name_at binder_at form_at top_form_at groups_within group_at top_opening_at queues_within script_at
too_deep_acquire_row = refl

unwanted_deep_row : reading (codes "(main " ++ times 97 (codes "(handle ") ++ codes "(using (x") ≡ fault kind.Unwanted 790
unfolding next opening_at closing_at value_at count_at name_at binder_at form_at top_form_at groups_within group_at top_opening_at queues_within script_at
unwanted_deep_row = refl

after_list_row : reading (codes "(main " ++ times 96 (codes "(handle ") ++ codes "(using ((x ") ≡ fault kind.Ended 785
unfolding next opening_at closing_at value_at count_at name_at binder_at form_at top_form_at groups_within group_at top_opening_at queues_within script_at
after_list_row = refl

-- the list is closed where the resources are used
used_deep_row : reading (codes "(main " ++ times 95 (codes "(handle ") ++ codes "(using ((x (cede) (cede))) (handle (handle (handle (") ≡ fault kind.Depth 817
unfolding next opening_at closing_at value_at count_at name_at binder_at form_at top_form_at groups_within group_at top_opening_at queues_within script_at
used_deep_row = refl

ended_deep_row : reading (codes "(main " ++ times 99 (codes "(handle ")) ≡ fault kind.Ended 798
unfolding next opening_at closing_at value_at binder_at form_at top_form_at group_at top_opening_at queues_within script_at
ended_deep_row = refl

handles : ℕ → Term
handles zero = Pure (Number 1)
handles (suc n) = Handle (handles n) (Some 0) (Pure (Slot 0))

deepest_row : reading (codes "(main " ++ times 98 (codes "(handle ") ++ codes "(pure 1)" ++ times 98 (codes " e (pure e))") ++ codes ")") ≡ means (handles 98)
unfolding next opening_at closing_at value_at binder_at form_at top_form_at group_at top_opening_at queues_within script_at handles
deepest_row = refl

-- ---- queues

queues_row : reading (codes "(queue q 1) (queue main 01024)(main (pure 5))")
    ≡ Ok (record { queues = (codes "q", 1) ∷ (codes "main", 1024) ∷ []; term = Pure (Number 5) })
unfolding next opening_at closing_at value_at binder_at capacity_at form_at group_at top_opening_at top_form_at declaration_at queues_within script_at
queues_row = refl

-- a queue may hold from 1 to 1,024 elements
no_room_row : reading (codes "(queue q 0) (main (pure 1))") ≡ fault kind.Size 9
unfolding next closing_at binder_at capacity_at top_opening_at top_form_at declaration_at queues_within script_at
no_room_row = refl

too_large_row : reading (codes "(queue q 1025) (main (pure 1))") ≡ fault kind.Size 9
unfolding next closing_at binder_at capacity_at top_opening_at top_form_at declaration_at queues_within script_at
too_large_row = refl

-- the name of a queue is taken in all that follows, and is no value's
second_queue_row : reading (codes "(queue q 1) (queue q 1) (main (pure 1))") ≡ fault kind.Taken 19
unfolding next closing_at binder_at capacity_at top_opening_at top_form_at declaration_at queues_within script_at
second_queue_row = refl

name_of_queue_row : reading (codes "(queue q 1) (main (let q (pure 1) (pure 2)))") ≡ fault kind.Taken 23
unfolding next opening_at closing_at binder_at capacity_at form_at group_at top_opening_at top_form_at declaration_at queues_within script_at
name_of_queue_row = refl

queue_as_value_row : reading (codes "(queue q 1) (main (pure q))") ≡ fault kind.Unknown 24
unfolding next opening_at closing_at value_at binder_at capacity_at form_at group_at top_opening_at top_form_at declaration_at queues_within script_at
queue_as_value_row = refl

-- the seventeenth queue is one too many, at its word
many_queues_row : reading (codes "(queue a 1)(queue b 1)(queue c 1)(queue d 1)(queue e 1)(queue f 1)(queue g 1)(queue h 1)(queue i 1)"
    ++ codes "(queue j 1)(queue k 1)(queue l 1)(queue m 1)(queue n 1)(queue o 1)(queue p 1)(queue q 1)(main (pure 1))") ≡ fault kind.Queues 177
unfolding next closing_at binder_at capacity_at top_opening_at top_form_at declaration_at queues_within script_at
many_queues_row = refl

-- ---- 65,536 bytes

too_long_row : (text : List ℕ) → 65536 < length text → reading text ≡ fault kind.Length 65536
too_long_row text h = let p : nat_lt 65536 (length text) ≡ true = lt-ltb _ _ h in rw p refl

abbrev spaces : ℕ → List ℕ
spaces n = replicate n 32

only_spaces : (n : ℕ) → after_spaces (spaces n) ≡ []
only_spaces zero = refl
only_spaces (suc n) = only_spaces n

spaces_first : (n : ℕ) (text : List ℕ) → after_spaces (spaces n ++ text) ≡ after_spaces text
spaces_first zero text = refl
spaces_first (suc n) text = spaces_first n text

spaces_row : (n : ℕ) → n ≤ 65536 → reading (spaces n) ≡ fault kind.Main n
unfolding next top_opening_at queues_within script_at
spaces_row n h = let long : length (spaces n) ≡ n = length-replicate n 32 in
    let short : nat_lt 65536 (length (spaces n)) ≡ false = le-ltb _ _ (omega arith) in
    rw (short, only_spaces n) (ap (λ (at : ℕ). fault kind.Main at) (omega arith))

-- a script is the same after spaces, up to the last byte that a text may have
padded_row : (n : ℕ) (text : List ℕ) (m : Meaning) → n + length text ≤ 65536 → script_at text ≡ Ok m → reading (spaces n ++ text) ≡ Ok m
unfolding next top_opening_at queues_within script_at
padded_row n text m h e =
    let long : length (spaces n ++ text) ≡ n + length text = length-append (spaces n) text ∙ ap (λ (k : ℕ). k + length text) (length-replicate n 32) in
    let short : nat_lt 65536 (length (spaces n ++ text)) ≡ false = le-ltb _ _ (omega arith) in
    rw (short, spaces_first n text, e) refl

-- fifteen bytes after up to 65,521 spaces
longest_row : (n : ℕ) → n ≤ 65521 → reading (spaces n ++ codes "(main (pure 5))") ≡ means (Pure (Number 5))
unfolding next opening_at closing_at value_at binder_at form_at top_form_at group_at top_opening_at queues_within script_at
longest_row n h = padded_row n (codes "(main (pure 5))") (record { queues = []; term = Pure (Number 5) }) (omega arith) refl
