-- A machine on the way of the run that picks choose, with what is told of those that were passed over so far.
use Rattle.std.proofs.Common.{◌≡◌, ℕ, ◌+◌, ◌<◌, ◌≤◌, Option, Some, None, List, [], ◌∷◌, ◌++◌, length, refl, sym, ◌∙◌, ap, subst, append-nil, append_assoc}
use Rattle.std.proofs.Common.{arith}
use Rattle.std.proofs.lemmas.List.{length-append}
use Rattle.std.specs.Prelude.{IfSome}
use Rattle.fx_term.specs.declared.node.Node.{Node}
use Rattle.fx_term.specs.Script.{ScriptView}
use Rattle.fx_text.specs.declared.pick.Pick.{Pick}
use Rattle.fx_text.specs.declared.pick.Pick.TheVariants as pick
use Rattle.fx_plain.specs.declared.passed.Why.{Why}
use Rattle.fx_plain.specs.declared.passed.PassedOver.{PassedOver}
use Rattle.fx_plain.specs.declared.plain_machine.PlainMachine.{PlainMachine}
use Rattle.fx_plain.specs.WholeMachine.{WholeMachine, Move, opening}
use Rattle.fx_plain.specs.Chosen.{IsChosen, IsReplay}
use Rattle.fx_plain.specs.Chosen as chosen
use Rattle.fx_plain.specs.OnTheWay.{IsOnTheWay}
use Rattle.fx_plain.specs.PassedPicks.{Skipped, passed_over, number_of, IsWhy, IsToldOf, TellsPassed}
use Rattle.fx_plain.specs.TakenPick.{Takes, told_after}
use Rattle.fx_plain.specs.TakenPick as takes
use Rattle.fx_plain.specs.PlainMachine.{StandsForRun, StandsForSome, IsUnderWay, IsTaken}
use Rattle.fx_plain.proofs.OnTheWay.{way_begins, after_step, after_skipped_step, after_request, after_skipped_request}
use Rattle.fx_plain.proofs.OneRun.{one_step}

abbrev skipped_at : ℕ → Pick → WholeMachine → Skipped
skipped_at place p m = record { place = place; pick = p; machine = m }

-- these are passed over by picks alone, the first of which has that place
pub data Passes (s : ScriptView) : ℕ → List Pick → WholeMachine → List Skipped → Type 0 where
  ends : {place : ℕ} {m : WholeMachine} → Passes s place [] m []
  goes : {place : ℕ} {p : Pick} {ps : List Pick} {m m' : WholeMachine} {xs : List Skipped} → Takes s m p None m' → Passes s (place + 1) ps m' xs
      → Passes s place (p ∷ ps) m xs
  passes : {place : ℕ} {p : Pick} {ps : List Pick} {why : Why} {m m' : WholeMachine} {xs : List Skipped} → Takes s m p (Some why) m'
      → Passes s (place + 1) ps m' xs → Passes s place (p ∷ ps) m (skipped_at place p m ∷ xs)

module _ (s : ScriptView) where
  -- a pick that is passed over leaves the machine as it is, and its reason is so
  passed_same : {m m' : WholeMachine} {p : Pick} {why : Why} → Takes s m p (Some why) m' → (m' ≡ m) × IsWhy s m (number_of p) why
  passed_same (takes.no_step cannot why) = (refl, why)
  passed_same (takes.no_request past) = (refl, past)

  -- the way by a pick
  taken_way : (all left : List Pick) {m m' : WholeMachine} {p : Pick} {why : Option Why} → Takes s m p why m' → IsOnTheWay s all (p ∷ left) m
      → IsOnTheWay s all left m'
  taken_way all left (takes.step {f = f} {l = l} {m' = m'} made) way = after_step s all _ f left l m' way made
  taken_way all left (takes.no_step {f = f} cannot why) way = after_skipped_step s all _ f left way cannot
  taken_way all left (takes.request {f = f} below) way = after_request s all _ f left way below
  taken_way all left (takes.no_request {f = f} past) way = after_skipped_request s all _ f left way past

  -- a run passes over what its picks do
  same_passed : {ps : List Pick} {m last : WholeMachine} {vs : List Move} (place : ℕ) (c : IsChosen s ps m vs last) (xs : List Skipped)
      → Passes s place ps m xs → passed_over place c ≡ xs
  same_passed place (chosen.step {f = f} {l = l} {ps = ps} {m = m} {m' = m'} made rest) xs (goes (takes.step {l = l'} {m' = m''} made') more) =
      same_passed (place + 1) rest xs (subst (λ (n : WholeMachine). Passes s (place + 1) ps n xs) (one_step s m f l' l m'' m' made' made) more)
  same_passed place (chosen.step made rest) xs (passes (takes.no_step cannot why) more) =
      absurd (let can = made.can in cc)
  same_passed place (chosen.no_step cannot rest) xs (goes (takes.step made) more) = absurd (let can = made.can in cc)
  same_passed place (chosen.no_step {f = f} {m = m} cannot rest) xs (passes {xs = ys} (takes.no_step cannot' why) more) =
      ap (λ (zs : List Skipped). skipped_at place (pick.Step f) m ∷ zs) (same_passed (place + 1) rest ys more)
  same_passed place (chosen.request below rest) xs (goes (takes.request below') more) = same_passed (place + 1) rest xs more
  same_passed place (chosen.request below rest) xs (passes (takes.no_request past) more) = absurd (omega arith)
  same_passed place (chosen.no_request past rest) xs (goes (takes.request below) more) = absurd (omega arith)
  same_passed place (chosen.no_request {f = f} {m = m} past rest) xs (passes {xs = ys} (takes.no_request past') more) =
      ap (λ (zs : List Skipped). skipped_at place (pick.Cancel f) m ∷ zs) (same_passed (place + 1) rest ys more)
  same_passed place (chosen.least is made rest) xs ends = refl
  same_passed place (chosen.halts none) xs ends = refl

  one_more : (n : ℕ) (x : Skipped) (xs : List Skipped) → length xs ≡ n → length (xs ++ x ∷ []) ≡ n + 1
  one_more n x xs e = length-append xs (x ∷ []) ∙ ap (λ (k : ℕ). k + 1) e

  -- what is told of one more
  told_one_more : (xs : List Skipped) (told : Option PassedOver) (place : ℕ) (p : Pick) (m : WholeMachine) (why : Why) → IsWhy s m (number_of p) why
      → IsToldOf s xs told → IsToldOf s (xs ++ skipped_at place p m ∷ []) (told_after told place p (Some why))
  told_one_more [] None place p m why so tells = record { count_is = refl; place_is = refl; pick_is = refl; why = so }
  told_one_more (x ∷ xs) (Some told) place p m why so tells = record {
    count_is = sym (one_more told.count (skipped_at place p m) (x ∷ xs) (sym tells.count_is));
    place_is = tells.place_is;
    pick_is = tells.pick_is;
    why = tells.why;
  }
  told_one_more [] (Some told) place p m why so tells = absurd tells
  told_one_more (x ∷ xs) None place p m why so tells = absurd tells

  told_count : (xs : List Skipped) (told : Option PassedOver) → IsToldOf s xs told → IfSome told (λ t. t.count ≡ length xs)
  told_count [] None tells = tt
  told_count (x ∷ xs) (Some told) tells = tells.count_is
  told_count [] (Some told) tells = absurd tells
  told_count (x ∷ xs) None tells = tt

module _ {J : Type 0} (nodes : List Node) (s : ScriptView) (all : List Pick) where
  -- a machine that has taken so many of the picks, with what is told of those of them that were passed over
  pub record IsPickedWay (taken : ℕ) (left : List Pick) (told : Option PassedOver) (p : PlainMachine J) : Type 0 where
    pub machine : WholeMachine
    pub stands : StandsForRun nodes s p machine
    pub way : IsOnTheWay s all left machine
    pub passed : List Skipped
    pub on : (xs : List Skipped) → Passes s (taken + 1) left machine xs → Passes s 1 all (opening s) (passed ++ xs)
    pub tells : IsToldOf s passed told
    pub few : length passed ≤ taken

  pub picked_begins : (p : PlainMachine J) → StandsForRun nodes s p (opening s) → IsPickedWay 0 all None p
  picked_begins p so = record {
    machine = opening s;
    stands = so;
    way = way_begins s all;
    passed = [];
    on = λ xs h. h;
    tells = tt;
    few = omega arith;
  }

  pub picked_on : (taken : ℕ) (p : Pick) (left : List Pick) (told : Option PassedOver) (why : Option Why) (r r' : PlainMachine J)
      → ((m : WholeMachine) → StandsForRun nodes s r m → IsTaken nodes s m p why r') → IsPickedWay taken (p ∷ left) told r
      → IsPickedWay (taken + 1) left (told_after told (taken + 1) p why) r'
  picked_on taken p left told why r r' takes u = by_why why (takes u.machine u.stands)
    where
      by_why : (why : Option Why) → IsTaken nodes s u.machine p why r' → IsPickedWay (taken + 1) left (told_after told (taken + 1) p why) r'
      by_why None t = record {
        machine = t.machine;
        stands = t.stands;
        way = taken_way s all left t.takes u.way;
        passed = u.passed;
        on = λ xs h. u.on xs (goes t.takes h);
        tells = u.tells;
        few = let few = u.few in omega arith;
      }
      by_why (Some why) t = record {
        machine = t.machine;
        stands = t.stands;
        way = taken_way s all left t.takes u.way;
        passed = u.passed ++ skipped_at (taken + 1) p u.machine ∷ [];
        on = λ xs h. rw (append_assoc u.passed (skipped_at (taken + 1) p u.machine ∷ []) xs)
            (u.on (skipped_at (taken + 1) p u.machine ∷ xs) (passes t.takes h));
        tells = told_one_more s u.passed told (taken + 1) p u.machine why (passed_same s t.takes).1 u.tells;
        few = let few = u.few in let e = one_more s (length u.passed) (skipped_at (taken + 1) p u.machine) u.passed refl in omega arith;
      }

  -- fewer than this place
  pub few_told : (taken : ℕ) (left : List Pick) (told : Option PassedOver) (p : PlainMachine J) → IsPickedWay taken left told p
      → IfSome told (λ t. t.count < taken + 1)
  few_told taken left None p u = tt
  few_told taken left (Some told) p u = let e = told_count s u.passed (Some told) u.tells in let few = u.few in omega arith

  pub picked_some : (taken : ℕ) (left : List Pick) (told : Option PassedOver) (p : PlainMachine J) → IsPickedWay taken left told p → StandsForSome nodes p
  picked_some taken left told p u = (s, u.machine, u.stands)

  -- once all are taken it goes on to its halt
  pub picked_way : (taken : ℕ) (told : Option PassedOver) (p : PlainMachine J) → IsPickedWay taken [] told p → IsUnderWay nodes s all [] p
  picked_way taken told p u = record { machine = u.machine; stands = u.stands; way = u.way }

  -- and what is told then is told of the run
  pub tells_passed : (taken : ℕ) (told : Option PassedOver) (p : PlainMachine J) {moves : List Move} {last : WholeMachine} → IsPickedWay taken [] told p
      → IsChosen s all (opening s) moves last → TellsPassed s all told
  tells_passed taken told p {moves = moves} {last = last} u c = record {
    moves = moves;
    last = last;
    chosen = c;
    tells = subst (λ (xs : List Skipped). IsToldOf s xs told)
        (sym (append-nil u.passed) ∙ sym (same_passed s 1 c (u.passed ++ []) (u.on [] ends))) u.tells;
  }
