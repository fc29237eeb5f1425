-- In a run that picks choose each get takes the front of its queue, whose put is told as its cause.
use Rattle.std.proofs.Common.{◌≡◌, ℕ, ◌+◌, ◌<◌, ◌==◌, Option, Some, List, [], ◌∷◌, ◌++◌, length, map, drop, refl, sym, ap, subst, ◌∙◌}
use Rattle.std.proofs.Common.{append-nil, append_assoc, arith, inl, inr}
use Rattle.std.specs.Prelude.{if◌then◌else◌}
use Rattle.std.proofs.lemmas.Bool.{cases_eq, eq-eqb, ne_eqb}
use Rattle.std.proofs.lemmas.List.{map-append, length-append}
use Rattle.std.proofs.lemmas.List.Elements.{filter_map-append}
use Rattle.fx_term.specs.declared.node.Node.{Node}
use Rattle.fx_term.specs.declared.event.Event.{Event}
use Rattle.fx_term.specs.declared.event.Event.TheVariants as event
use Rattle.fx_term.specs.Element.{Element}
use Rattle.fx_term.specs.Queue.{value_put, values_put}
use Rattle.fx_term.specs.Script.{ScriptView}
use Rattle.fx_model.specs.Causes.{value_got, values_got}
use Rattle.fx_model.specs.Row.{Label, Shows, Learns}
use Rattle.fx_model.proofs.StepLabels.{IsProper, step_tells}
use Rattle.fx_text.specs.declared.pick.Pick.{Pick}
use Rattle.fx_plain.specs.declared.told.MadeStep.{MadeStep}
use Rattle.fx_plain.specs.declared.told.Told.{Told}
use Rattle.fx_plain.specs.declared.told.Told.TheVariants.{Step, Request, Passed}
use Rattle.fx_plain.specs.WholeMachine.{WholeMachine, Move, FiberSteps, IsAnswered, front, next_item, queues_after}
use Rattle.fx_plain.specs.Chosen.{IsChosen}
use Rattle.fx_plain.specs.Chosen as chosen
use Rattle.fx_plain.specs.ToldRun.{happenings, shown_by, one_shown, AreTold, TellsRun}
use Rattle.fx_picture.specs.declared.stood.EventAt.{EventAt}
use Rattle.fx_command.specs.SoFar.{SoFarView, nothing_shown, next_of, held_in, front_of}
use Rattle.fx_command.specs.StoodEvents.{shown_when}
use Rattle.fx_command.specs.TakesInOrder.{one_cause, causes_when, causes_told, all_shown, TakesInOrder}
use Rattle.fx_command.proofs.HeldPuts.{set_here, set_there, still_within, from_nothing, none_held, as_many}

abbrev value_of : Element → ℕ
value_of x = x.value

-- what a step with this event does to queue q, where that holds these values before and those after: its puts come behind what is held, and its gets are taken
-- from the front; and as many puts are told to be held as there are elements
record Moved (q : ℕ) (s s' : SoFarView) (e : Option Event) (before after : List Element) : Type 0 where
  values : map value_of before ++ values_put q (one_shown e) ≡ values_got q (one_shown e) ++ map value_of after
  held : length (held_in s'.queues q) ≡ length after
  each : length (causes_when q s e) ≡ length (values_got q (one_shown e))

module _ (q : ℕ) (s : SoFarView) (within : q < length s.queues) (f : ℕ) (queues : ℕ → List Element)
    (held : length (held_in s.queues q) ≡ length (queues q)) where
  abbrev Moves : Event → List Element → Type 0
  Moves e after = Moved q s (shown_when s f (Some e)) (Some e) (queues q) after

  put_here : (n : ℕ) (x : Element) → x.value ≡ n → Moves (event.Put q n) (queues q ++ x ∷ [])
  put_here n x is = record {
    values = rw (eq-eqb q q refl) (ap (λ (v : ℕ). map value_of (queues q) ++ v ∷ []) (sym is) ∙ sym (map-append value_of (queues q) (x ∷ [])));
    held = ap length (set_here s.queues q (held_in s.queues q ++ next_of s f ∷ []) within)
        ∙ length-append (held_in s.queues q) (next_of s f ∷ []) ∙ ap (λ (k : ℕ). k + 1) held ∙ sym (length-append (queues q) (x ∷ []));
    each = refl;
  }

  put_there : (p n : ℕ) → (p ≡ q → ⊥) → Moves (event.Put p n) (queues q)
  put_there p n other = record {
    values = rw (ne_eqb p q other) (append-nil (map value_of (queues q)));
    held = ap length (set_there s.queues p q (held_in s.queues p ++ next_of s f ∷ []) other) ∙ held;
    each = refl;
  }

  put_moves : (p n : ℕ) (x : Element) → x.value ≡ n → Moves (event.Put p n) (if q == p then queues p ++ x ∷ [] else queues q)
  put_moves p n x is = elim (cases_eq p q) [
    | inl same ↦ rw (same, eq-eqb q q refl) (put_here n x is)
    | inr other ↦ rw (ne_eqb q p (λ same. other (sym same))) (put_there p n other)
  ]

  front_is : (n : ℕ) (xs : List Element) → front xs ≡ Some n → map value_of xs ≡ n ∷ map value_of (drop 1 xs)
  front_is n [] is = absurd (cc is)
  front_is n (x ∷ xs) is = let same : x.value ≡ n = cc is in ap (λ (v : ℕ). v ∷ map value_of xs) same

  one_front : (xs : List Element) (ys : List EventAt) (n : ℕ) → front xs ≡ Some n → length ys ≡ length xs → length (one_cause (front_of ys)) ≡ 1
  one_front [] ys n is many = absurd (cc is)
  one_front (x ∷ xs) [] n is many = absurd (cc many)
  one_front (x ∷ xs) (y ∷ ys) n is many = refl

  one_less : (xs : List Element) (ys : List EventAt) → length ys ≡ length xs → length (drop 1 ys) ≡ length (drop 1 xs)
  one_less [] [] many = refl
  one_less [] (y ∷ ys) many = absurd (cc many)
  one_less (x ∷ xs) [] many = absurd (cc many)
  one_less (x ∷ xs) (y ∷ ys) many = omega (arith, many)

  got_here : (n : ℕ) → front (queues q) ≡ Some n → Moves (event.Got q n) (drop 1 (queues q))
  got_here n is = record {
    values = rw (eq-eqb q q refl) (append-nil (map value_of (queues q)) ∙ front_is n (queues q) is);
    held = ap length (set_here s.queues q (drop 1 (held_in s.queues q)) within) ∙ one_less (queues q) (held_in s.queues q) held;
    each = rw (eq-eqb q q refl) (one_front (queues q) (held_in s.queues q) n is held);
  }

  got_there : (p n : ℕ) → (p ≡ q → ⊥) → Moves (event.Got p n) (queues q)
  got_there p n other = record {
    values = rw (ne_eqb p q other) (append-nil (map value_of (queues q)));
    held = ap length (set_there s.queues p q (drop 1 (held_in s.queues p)) other) ∙ held;
    each = rw (ne_eqb p q other) refl;
  }

  got_moves : (p n : ℕ) → front (queues p) ≡ Some n → Moves (event.Got p n) (if q == p then drop 1 (queues p) else queues q)
  got_moves p n is = elim (cases_eq p q) [
    | inl same ↦ rw (same, eq-eqb q q refl) (got_here n (rw same at is))
    | inr other ↦ rw (ne_eqb q p (λ same. other (sym same))) (got_there p n other)
  ]

  label_moves : (m : WholeMachine) (spec : ScriptView) → m.queues ≡ queues → (ls : List Label) (l : Label) → IsProper l → IsAnswered spec m f l
      → Moved q s (shown_when s f (shown_by l)) (shown_by l) (queues q) (queues_after f ls l queues q)
  label_moves m spec is ls (Shows (event.Put p n)) proper answered = put_moves p n (next_item f ls p n) refl
  label_moves m spec is ls (Shows (event.Got p n)) proper answered =
      got_moves p n (subst (λ (all : ℕ → List Element). front (all p) ≡ Some n) is answered)
  label_moves m spec is ls (Learns g o (event.Put p n)) proper answered = absurd proper
  label_moves m spec is ls (Learns g o (event.Got p n)) proper answered = absurd proper
  label_moves m spec is ls _ proper answered = record { values = append-nil (map value_of (queues q)); held = held; each = refl }

-- two steps after each other
joined : (before p ps g gs between after : List ℕ) → before ++ p ≡ g ++ between → between ++ ps ≡ gs ++ after
    → before ++ (p ++ ps) ≡ (g ++ gs) ++ after
joined before p ps g gs between after first second =
    sym (append_assoc before p ps) ∙ ap (λ (l : List ℕ). l ++ ps) first ∙ append_assoc g between ps ∙ ap (λ (l : List ℕ). g ++ l) second
    ∙ sym (append_assoc g gs after)

-- so it is with all that is told of a run from a machine on, where so many puts are told to be held in queue q as it has elements
record MovesOn (q : ℕ) (s : SoFarView) (told : List Told) (before after : List Element) : Type 0 where
  values : map value_of before ++ values_put q (all_shown told) ≡ values_got q (all_shown told) ++ map value_of after
  each : length (causes_told q s told) ≡ length (values_got q (all_shown told))

module _ (nodes : List Node) (spec : ScriptView) (q : ℕ) where
  abbrev AsMany : SoFarView → WholeMachine → Type 0
  AsMany s m = length (held_in s.queues q) ≡ length (m.queues q)

  more : (s : SoFarView) (f : ℕ) (e : Option Event) (told : List Told) (before between after : List Element)
      → Moved q s (shown_when s f e) e before between → MovesOn q (shown_when s f e) told between after
      → (map value_of before ++ values_put q (one_shown e ++ all_shown told) ≡ values_got q (one_shown e ++ all_shown told) ++ map value_of after)
      × (length (causes_when q s e ++ causes_told q (shown_when s f e) told) ≡ length (values_got q (one_shown e ++ all_shown told)))
  more s f e told before between after moved on = rw
      (filter_map-append (value_put q) (one_shown e) (all_shown told), filter_map-append (value_got q) (one_shown e) (all_shown told)) (
        joined (map value_of before) (values_put q (one_shown e)) (values_put q (all_shown told)) (values_got q (one_shown e))
            (values_got q (all_shown told)) (map value_of between) (map value_of after) moved.values on.values,
        length-append (causes_when q s e) (causes_told q (shown_when s f e) told)
            ∙ omega (arith, moved.each, on.each)
            ∙ sym (length-append (values_got q (one_shown e)) (values_got q (all_shown told))),
      )

  stepped : (m m' last : WholeMachine) (f : ℕ) (l : Label) (st : FiberSteps spec m f l m') (t : MadeStep) (told : List Told) (s : SoFarView)
      → q < length s.queues → AsMany s m → t.fiber ≡ f → t.event ≡ shown_by l
      → ((s' : SoFarView) → q < length s'.queues → AsMany s' m' → MovesOn q s' told (m'.queues q) (last.queues q))
      → MovesOn q s (Step t ∷ told) (m.queues q) (last.queues q)
  stepped m m' last f l st t told s within many is_fiber is_event rest =
      let moved = label_moves q s within f m.queues many m spec refl st.fiber.labels l (step_tells st.step).proper st.answered in
      let made : Moved q s (shown_when s f (shown_by l)) (shown_by l) (m.queues q) (m'.queues q) =
      subst (λ (n : WholeMachine). Moved q s (shown_when s f (shown_by l)) (shown_by l) (m.queues q) (n.queues q)) (sym st.after) moved in
      let told_so : Moved q s (shown_when s t.fiber t.event) t.event (m.queues q) (m'.queues q) = rw (is_fiber, is_event) made in
      let both =
      more s t.fiber t.event told (m.queues q) (m'.queues q) (last.queues q) told_so
      (rest (shown_when s t.fiber t.event) (still_within q s within (Step t)) told_so.held) in
      record { values = both.0; each = both.1 }

  run_moves : (place : ℕ) {ps : List Pick} {m last : WholeMachine} {vs : List Move} (c : IsChosen spec ps m vs last) (told : List Told)
      → AreTold nodes spec (happenings place c) told → (s : SoFarView) → q < length s.queues → AsMany s m
      → MovesOn q s told (m.queues q) (last.queues q)
  run_moves place {last = last} (chosen.step {f = f} {l = l} {m = m} {m' = m'} made rest) (Step t ∷ told) are s within many =
      stepped m m' last f l made.steps t told s within many are.0.fiber are.0.event
      (λ s' within' many'. run_moves (place + 1) rest told are.1 s' within' many')
  run_moves place (chosen.no_step cannot rest) (Passed t ∷ told) are s within many =
      let on = run_moves (place + 1) rest told are.1 s within many in record { values = on.values; each = on.each }
  run_moves place (chosen.request below rest) (Request h ∷ told) are s within many =
      let on = run_moves (place + 1) rest told are.1 s within many in record { values = on.values; each = on.each }
  run_moves place (chosen.no_request past rest) (Passed t ∷ told) are s within many =
      let on = run_moves (place + 1) rest told are.1 s within many in record { values = on.values; each = on.each }
  run_moves place {last = last} (chosen.least {f = f} {l = l} {m = m} {m' = m'} is made rest) (Step t ∷ told) are s within many =
      stepped m m' last f l made.steps t told s within many are.0.fiber are.0.event
      (λ s' within' many'. run_moves place rest told are.1 s' within' many')
  run_moves place (chosen.halts {m = m} none) [] are s within many = record { values = append-nil (map value_of (m.queues q)); each = refl }
  run_moves place (chosen.halts none) (t ∷ told) are s within many = absurd are
  run_moves place c [] are s within many = absurd are
  run_moves place c (t ∷ told) are s within many = absurd are.0

  pub takes_in_order : (ps : List Pick) (told : List Told) (fibers queues : ℕ) → TellsRun nodes spec ps told → q < queues → TakesInOrder fibers queues q told
  takes_in_order ps told fibers queues t below =
      let many = as_many queues in
      let none : length (held_in (nothing_shown fibers queues).queues q) ≡ 0 = ap length (none_held queues q) in
      let on = run_moves 1 t.chosen told t.tells (nothing_shown fibers queues) (omega arith) none in
      record {
        puts = from_nothing fibers queues q told below;
        left = map value_of (t.last.queues q);
        values = on.values;
        each = on.each;
      }
