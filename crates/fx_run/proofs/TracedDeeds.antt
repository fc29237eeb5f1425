-- Where a trace tells of a refusal or a start, so do the deeds, and those before it did at each queue what the trace tells before.
use Rattle.std.proofs.Common.{◌≡◌, ℕ, List, [], ◌∷◌, ◌++◌, refl, sym, ◌∙◌, ap, subst}
use Rattle.std.proofs.lemmas.List.{append_assoc}
use Rattle.std.proofs.lemmas.List.Elements.{filter_map-append}
use Rattle.fx_term.specs.declared.begin.Begin.{Begin}
use Rattle.fx_term.specs.declared.node.Node.{Node}
use Rattle.fx_term.specs.declared.outcome.Outcome.{Outcome}
use Rattle.fx_term.specs.declared.event.Event.{Event}
use Rattle.fx_term.specs.declared.event.Event.TheVariants as event
use Rattle.fx_term.specs.Queue.{queue_event, queue_events}
use Rattle.fx_model.specs.Row.{Counts, Label, Silent, Shows, Learns, Starts}
use Rattle.fx_model.specs.Step.{Progress}
use Rattle.fx_model.specs.Run.{Leads, events}
use Rattle.fx_model.proofs.StepLabels.{IsProper, step_tells}
use Rattle.fx_fiber.specs.Deed.{Deed, Started, FoundFull, FoundEmpty, AreDeedsOf, AreDeeds, deeds_of_event, queue_deed, queue_deeds}
use Rattle.fx_port.specs.PassesAgree.{Refusal, Full, Empty}
use Rattle.fx_run.specs.Refusals.{refused}
use Rattle.fx_run.proofs.QueueDeeds.{queue_label}

abbrev pub found_so : Refusal → ℕ → Deed
found_so Full q = FoundFull q
found_so Empty q = FoundEmpty q

found_by : (k : Refusal) (q : ℕ) → deeds_of_event (refused k q) ≡ found_so k q ∷ []
found_by Full q = refl
found_by Empty q = refl

not_learnt : (k : Refusal) (q f : ℕ) (o : Outcome) (e : Event) → IsProper (Learns f o e) → e ≡ refused k q → ⊥
not_learnt Full q f o e p is = subst (λ (x : Event). IsProper (Learns f o x)) is p
not_learnt Empty q f o e p is = subst (λ (x : Event). IsProper (Learns f o x)) is p

abbrev is_start : Event → Type 0
is_start (event.Start f) = Unit {0}
is_start _ = ⊥

not_started : (k : Refusal) (q f : ℕ) → event.Start f ≡ refused k q → ⊥
not_started Full q f is = subst is_start is tt
not_started Empty q f is = subst is_start is tt

-- the deeds before the one that tells of a refusal did at each queue what the trace before it tells
pub record FoundAt (ds : List Deed) (d : Deed) (f : ℕ) (before : List Event) : Type 0 where
  pub earlier : List Deed
  pub later : List Deed
  pub is : ds ≡ earlier ++ d ∷ later
  pub same : (q : ℕ) → queue_deeds q f earlier ≡ queue_events q f before

head_same : (d e : Event) (xs ys : List Event) → d ∷ xs ≡ e ∷ ys → d ≡ e
head_same d e xs ys p = ap head p
  where
    head : List Event → Event
    head [] = d
    head (x ∷ l) = x

tail_same : (d e : Event) (xs ys : List Event) → d ∷ xs ≡ e ∷ ys → xs ≡ ys
tail_same d e xs ys p = ap tail p
  where
    tail : List Event → List Event
    tail [] = []
    tail (x ∷ l) = l

module _ (nodes : List Node) (f : ℕ) (found : Deed) where
  -- a label that shows an event comes before the deed
  past_label : (l : Label) (v : Event) (first rest ds : List Deed) (before : List Event) → IsProper l → AreDeedsOf nodes l first → events (l ∷ []) ≡ v ∷ []
      → ds ≡ first ++ rest → FoundAt rest found f before → FoundAt ds found f (v ∷ before)
  past_label l v first rest ds before proper here shows is h = record {
    earlier = first ++ h.earlier;
    later = h.later;
    is = is ∙ (ap (λ xs. first ++ xs) h.is ∙ sym (append_assoc first h.earlier (found ∷ h.later)));
    same = λ r. filter_map-append (queue_deed r f) first h.earlier
        ∙ (ap (λ xs. xs ++ queue_deeds r f h.earlier) (queue_label nodes r f l first proper here ∙ ap (queue_events r f) shows)
        ∙ (ap (λ xs. queue_events r f (v ∷ []) ++ xs) (h.same r) ∙ sym (filter_map-append (queue_event r f) (v ∷ []) before)));
  }

  here_found : (first rest ds : List Deed) → first ≡ found ∷ [] → ds ≡ first ++ rest → FoundAt ds found f []
  here_found first rest ds one is = record { earlier = []; later = rest; is = is ∙ ap (λ xs. xs ++ rest) one; same = λ r. refl }

module _ (nodes : List Node) (f : ℕ) (k : Refusal) (q : ℕ) where
  past : (l : Label) (v : Event) (first rest ds : List Deed) (before : List Event) → IsProper l → AreDeedsOf nodes l first → events (l ∷ []) ≡ v ∷ []
      → ds ≡ first ++ rest → FoundAt rest (found_so k q) f before → FoundAt ds (found_so k q) f (v ∷ before)
  past = past_label nodes f (found_so k q)

  pub found_at : (c d : Counts) (p r : Progress) (ls : List Label) (ds : List Deed) → Leads c p ls d r → AreDeeds nodes ls ds → (before after : List Event)
      → events ls ≡ before ++ refused k q ∷ after → FoundAt ds (found_so k q) f before
  found_at c d p r [] ds run e [] after is = let z : ⊥ = cc in absurd z
  found_at c d p r [] ds run e (v ∷ before) after is = let z : ⊥ = cc in absurd z
  found_at c d p r (Silent ∷ ls) ds run (first, rest, here, later, e) before after is =
      subst (λ xs. FoundAt xs (found_so k q) f before) (sym (e ∙ ap (λ xs. xs ++ rest) here))
      (found_at run.0 d run.1 r ls rest run.3 later before after is)
  found_at c d p r (Shows v ∷ ls) ds run (first, rest, here, later, e) [] after is =
      here_found nodes f (found_so k q) first rest ds (here ∙ (ap deeds_of_event (head_same v (refused k q) (events ls) after is) ∙ found_by k q)) e
  found_at c d p r (Shows v ∷ ls) ds run (first, rest, here, later, e) (w ∷ before) after is =
      past (Shows v) w first rest ds before (step_tells run.2).proper here (ap (λ (x : Event). x ∷ []) (head_same v w (events ls) _ is)) e
      (found_at run.0 d run.1 r ls rest run.3 later before after (tail_same v w (events ls) _ is))
  found_at c d p r (Learns g o v ∷ ls) ds run (first, rest, here, later, e) [] after is =
      absurd (not_learnt k q g o v (step_tells run.2).proper (head_same v (refused k q) (events ls) after is))
  found_at c d p r (Learns g o v ∷ ls) ds run (first, rest, here, later, e) (w ∷ before) after is =
      past (Learns g o v) w first rest ds before (step_tells run.2).proper here (ap (λ (x : Event). x ∷ []) (head_same v w (events ls) _ is)) e
      (found_at run.0 d run.1 r ls rest run.3 later before after (tail_same v w (events ls) _ is))
  found_at c d p r (Starts g b ∷ ls) ds run (first, rest, here, later, e) [] after is =
      absurd (not_started k q g (head_same (event.Start g) (refused k q) (events ls) after is))
  found_at c d p r (Starts g b ∷ ls) ds run (first, rest, here, later, e) (w ∷ before) after is =
      past (Starts g b) w first rest ds before (step_tells run.2).proper here (ap (λ (x : Event). x ∷ []) (head_same (event.Start g) w (events ls) _ is)) e
      (found_at run.0 d run.1 r ls rest run.3 later before after (tail_same (event.Start g) w (events ls) _ is))

started_is : (g h : ℕ) → event.Start g ≡ event.Start h → g ≡ h
started_is g h is = ap number is
  where
    number : Event → ℕ
    number (event.Start n) = n
    number _ = g

-- where a trace tells of a start, so do the deeds
module _ (nodes : List Node) (f g : ℕ) where
  abbrev StartedAt : List Deed → List Event → Type 0
  StartedAt ds before = (b : Begin) × FoundAt ds (Started g b) f before

  past_start : (l : Label) (v : Event) (first rest ds : List Deed) (before : List Event) → IsProper l → AreDeedsOf nodes l first → events (l ∷ []) ≡ v ∷ []
      → ds ≡ first ++ rest → StartedAt rest before → StartedAt ds (v ∷ before)
  past_start l v first rest ds before proper here shows is h =
      (h.0, past_label nodes f (Started g h.0) l v first rest ds before proper here shows is h.1)

  pub started_at : (c d : Counts) (p r : Progress) (ls : List Label) (ds : List Deed) → Leads c p ls d r → AreDeeds nodes ls ds → (before after : List Event)
      → events ls ≡ before ++ event.Start g ∷ after → StartedAt ds before
  started_at c d p r [] ds run e [] after is = let z : ⊥ = cc in absurd z
  started_at c d p r [] ds run e (v ∷ before) after is = let z : ⊥ = cc in absurd z
  started_at c d p r (Silent ∷ ls) ds run (first, rest, here, later, e) before after is =
      subst (λ xs. StartedAt xs before) (sym (e ∙ ap (λ xs. xs ++ rest) here)) (started_at run.0 d run.1 r ls rest run.3 later before after is)
  started_at c d p r (Shows v ∷ ls) ds run (first, rest, here, later, e) [] after is =
      absurd (subst (λ (x : Event). IsProper (Shows x)) (head_same v (event.Start g) (events ls) after is) (step_tells run.2).proper)
  started_at c d p r (Shows v ∷ ls) ds run (first, rest, here, later, e) (w ∷ before) after is =
      past_start (Shows v) w first rest ds before (step_tells run.2).proper here (ap (λ (x : Event). x ∷ []) (head_same v w (events ls) _ is)) e
      (started_at run.0 d run.1 r ls rest run.3 later before after (tail_same v w (events ls) _ is))
  started_at c d p r (Learns h o v ∷ ls) ds run (first, rest, here, later, e) [] after is =
      absurd (subst (λ (x : Event). IsProper (Learns h o x)) (head_same v (event.Start g) (events ls) after is) (step_tells run.2).proper)
  started_at c d p r (Learns h o v ∷ ls) ds run (first, rest, here, later, e) (w ∷ before) after is =
      past_start (Learns h o v) w first rest ds before (step_tells run.2).proper here (ap (λ (x : Event). x ∷ []) (head_same v w (events ls) _ is)) e
      (started_at run.0 d run.1 r ls rest run.3 later before after (tail_same v w (events ls) _ is))
  started_at c d p r (Starts h b ∷ ls) ds run (first, rest, (begin, same, here), later, e) [] after is =
      let is_that = started_is h g (head_same (event.Start h) (event.Start g) (events ls) after is) in
      (begin, here_found nodes f (Started g begin) first rest ds (here ∙ ap (λ (n : ℕ). Started n begin ∷ []) is_that) e)
  started_at c d p r (Starts h b ∷ ls) ds run (first, rest, here, later, e) (w ∷ before) after is =
      past_start (Starts h b) w first rest ds before (step_tells run.2).proper here
      (ap (λ (x : Event). x ∷ []) (head_same (event.Start h) w (events ls) _ is)) e
      (started_at run.0 d run.1 r ls rest run.3 later before after (tail_same (event.Start h) w (events ls) _ is))
