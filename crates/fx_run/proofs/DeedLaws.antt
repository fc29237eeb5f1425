-- The deeds of a run, label by label.
use Rattle.std.proofs.Common.{◌≡◌, ℕ, Option, Some, None, List, [], ◌∷◌, ◌++◌, refl, sym, ◌∙◌, ap, subst, inl, inr}
use Rattle.std.specs.List.{filter_map, cons_option}
use Rattle.std.proofs.lemmas.Option.{none-some, same_Some}
use Rattle.std.proofs.lemmas.List.Elements.{filter_map-append}
use Rattle.fx_term.specs.declared.node.Node.{Node}
use Rattle.fx_term.specs.declared.begin.Begin.{Begin}
use Rattle.fx_term.specs.declared.outcome.Outcome.{Outcome}
use Rattle.fx_term.specs.declared.event.Event.{Event}
use Rattle.fx_term.specs.declared.event.Event.TheVariants as event
use Rattle.fx_model.specs.Row.{Label, Silent, Shows, Learns, Starts}
use Rattle.fx_model.specs.Run.{events}
use Rattle.fx_model.specs.Origin.{Origin, origin_of}
use Rattle.fx_fiber.specs.Deed.{Deed, Started, Requested, Saw, FoundEnded, Ended, AreDeedsOf, AreDeeds}
use Rattle.fx_model.proofs.OutcomeLaws.{end_of}
use Rattle.fx_term.specs.Lists.{Among}
use Rattle.fx_run.proofs.Members.{among_filter_map, Source, source}

-- what a label and a deed tell alike
abbrev pub end_deed : Deed → Option Outcome
end_deed (Ended o) = Some o
end_deed _ = None

abbrev pub request_of : Label → Option ℕ
request_of (Shows (event.Request f)) = Some f
request_of _ = None

abbrev pub request_deed : Deed → Option ℕ
request_deed (Requested f) = Some f
request_deed _ = None

abbrev pub saw_of : Label → Option ℕ
saw_of (Shows event.Seen) = Some 0
saw_of _ = None

abbrev pub saw_deed : Deed → Option ℕ
saw_deed Saw = Some 0
saw_deed _ = None

abbrev pub learnt_of : Label → Option (ℕ × Outcome)
learnt_of (Learns f o e) = Some (f, o)
learnt_of _ = None

abbrev pub learnt_deed : Deed → Option (ℕ × Outcome)
learnt_deed (FoundEnded f o) = Some (f, o)
learnt_deed _ = None

abbrev pub start_of : Label → Option (ℕ × Origin)
start_of (Starts f b) = Some (f, b)
start_of _ = None

abbrev pub start_deed : List Node → Deed → Option (ℕ × Origin)
start_deed nodes (Started f b) = Some (f, origin_of nodes b)
start_deed nodes _ = None

-- a reading of deeds and one of labels tell the same of each label and its deeds
abbrev ReadAlike : {B : Type 0} → List Node → (Deed → Option B) → (Label → Option B) → Type 0
ReadAlike nodes h k = (l : Label) (ds : List Deed) → AreDeedsOf nodes l ds → filter_map h ds ≡ cons_option (k l) []

alike : {B : Type 0} (nodes : List Node) (h : Deed → Option B) (k : Label → Option B) → ReadAlike nodes h k
    → (ls : List Label) (ds : List Deed) → AreDeeds nodes ls ds → filter_map h ds ≡ filter_map k ls
alike nodes h k each [] ds e = ap (filter_map h) e
alike {B = B} nodes h k each (l ∷ ls) ds (first, rest, here, later, e) =
    ap (filter_map h) e ∙ filter_map-append h first rest ∙ by_label (k l) (each l first here) (alike nodes h k each ls rest later)
  where
    by_label : (o : Option B) → filter_map h first ≡ cons_option o [] → filter_map h rest ≡ filter_map k ls
        → filter_map h first ++ filter_map h rest ≡ cons_option o (filter_map k ls)
    by_label None p q = cc
    by_label (Some x) p q = rw (p, q) refl

end_each : (nodes : List Node) → ReadAlike nodes end_deed end_of
end_each nodes Silent ds e = ap (filter_map end_deed) e
end_each nodes (Learns f o v) ds e = ap (filter_map end_deed) e
end_each nodes (Starts f b) ds (begin, same, e) = ap (filter_map end_deed) e
end_each nodes (Shows (event.Ended o)) ds e = ap (filter_map end_deed) e
end_each nodes (Shows _) ds e = ap (filter_map end_deed) e

request_each : (nodes : List Node) → ReadAlike nodes request_deed request_of
request_each nodes Silent ds e = ap (filter_map request_deed) e
request_each nodes (Learns f o v) ds e = ap (filter_map request_deed) e
request_each nodes (Starts f b) ds (begin, same, e) = ap (filter_map request_deed) e
request_each nodes (Shows (event.Request f)) ds e = ap (filter_map request_deed) e
request_each nodes (Shows event.Seen) ds e = ap (filter_map request_deed) e
request_each nodes (Shows _) ds e = ap (filter_map request_deed) e

saw_each : (nodes : List Node) → ReadAlike nodes saw_deed saw_of
saw_each nodes Silent ds e = ap (filter_map saw_deed) e
saw_each nodes (Learns f o v) ds e = ap (filter_map saw_deed) e
saw_each nodes (Starts f b) ds (begin, same, e) = ap (filter_map saw_deed) e
saw_each nodes (Shows (event.Request f)) ds e = ap (filter_map saw_deed) e
saw_each nodes (Shows event.Seen) ds e = ap (filter_map saw_deed) e
saw_each nodes (Shows _) ds e = ap (filter_map saw_deed) e

learnt_each : (nodes : List Node) → ReadAlike nodes learnt_deed learnt_of
learnt_each nodes Silent ds e = ap (filter_map learnt_deed) e
learnt_each nodes (Learns f o v) ds e = ap (filter_map learnt_deed) e
learnt_each nodes (Starts f b) ds (begin, same, e) = ap (filter_map learnt_deed) e
learnt_each nodes (Shows (event.Request f)) ds e = ap (filter_map learnt_deed) e
learnt_each nodes (Shows event.Seen) ds e = ap (filter_map learnt_deed) e
learnt_each nodes (Shows _) ds e = ap (filter_map learnt_deed) e

start_each : (nodes : List Node) → ReadAlike nodes (start_deed nodes) start_of
start_each nodes Silent ds e = ap (filter_map (start_deed nodes)) e
start_each nodes (Learns f o v) ds e = ap (filter_map (start_deed nodes)) e
start_each nodes (Starts f b) ds (begin, same, e) = ap (filter_map (start_deed nodes)) e ∙ ap one same
  where
    one : Origin → List (ℕ × Origin)
    one c = (f, c) ∷ []
start_each nodes (Shows (event.Request f)) ds e = ap (filter_map (start_deed nodes)) e
start_each nodes (Shows event.Seen) ds e = ap (filter_map (start_deed nodes)) e
start_each nodes (Shows _) ds e = ap (filter_map (start_deed nodes)) e

module _ (nodes : List Node) (ls : List Label) (ds : List Deed) (are : AreDeeds nodes ls ds) where
  -- the label that tells what a deed does, and the deed that does what a label tells
  label_of : {B : Type 0} (h : Deed → Option B) (k : Label → Option B) → ReadAlike nodes h k → (d : Deed) (x : B) → Among d ds → h d ≡ Some x → Source k ls x
  label_of {B = B} h k each d x i e = source k ls x (subst (λ (xs : List B). Among x xs) (alike nodes h k each ls ds are) (among_filter_map h ds d x i e))

  deed_of : {B : Type 0} (h : Deed → Option B) (k : Label → Option B) → ReadAlike nodes h k → (l : Label) (x : B) → Among l ls → k l ≡ Some x → Source h ds x
  deed_of {B = B} h k each l x i e =
      source h ds x (subst (λ (xs : List B). Among x xs) (sym (alike nodes h k each ls ds are)) (among_filter_map k ls l x i e))

  -- the end that was told
  pub end_shown : (o : Outcome) → Among (Ended o) ds → Source end_of ls o
  end_shown o i = label_of end_deed end_of (end_each nodes) (Ended o) o i refl

  request_label : (l : Label) (f : ℕ) → request_of l ≡ Some f → Among l ls → Among (Shows (event.Request f)) ls
  request_label (Shows (event.Request g)) f e i = subst (λ (n : ℕ). Among (Shows (event.Request n)) ls) (same_Some g f e) i
  request_label _ f e i = absurd (none-some f e)

  pub request_shown : (f : ℕ) → Among (Requested f) ds → Among (Shows (event.Request f)) ls
  request_shown f i =
      let s = label_of request_deed request_of (request_each nodes) (Requested f) f i refl in request_label s.item f s.gives s.among

  saw_from : (d : Deed) → saw_deed d ≡ Some 0 → Among d ds → Among Saw ds
  saw_from Saw e i = i
  saw_from _ e i = absurd (none-some 0 e)

  -- what a label shows was done
  pub saw_done : Among (Shows event.Seen) ls → Among Saw ds
  saw_done i = let s = deed_of saw_deed saw_of (saw_each nodes) (Shows event.Seen) 0 i refl in saw_from s.item s.gives s.among

  learnt_from : (d : Deed) (f : ℕ) (o : Outcome) → learnt_deed d ≡ Some (f, o) → Among d ds → Among (FoundEnded f o) ds
  learnt_from (FoundEnded g v) f o e i = subst (λ (x : ℕ × Outcome). Among (FoundEnded x.0 x.1) ds) (same_Some (g, v) (f, o) e) i
  learnt_from _ f o e i = absurd (none-some (f, o) e)

  pub learnt_done : (f : ℕ) (o : Outcome) (e : Event) → Among (Learns f o e) ls → Among (FoundEnded f o) ds
  learnt_done f o e i =
      let s = deed_of learnt_deed learnt_of (learnt_each nodes) (Learns f o e) (f, o) i refl in learnt_from s.item f o s.gives s.among

  -- a start, and what was given to it
  pub record StartDone (f : ℕ) (b : Origin) : Type 0 where
    pub begin : Begin
    pub done : Among (Started f begin) ds
    pub is : origin_of nodes begin ≡ b

  start_from : (d : Deed) (f : ℕ) (b : Origin) → start_deed nodes d ≡ Some (f, b) → Among d ds → StartDone f b
  start_from (Started g c) f b e i =
      let p : (g, origin_of nodes c) ≡ (f, b) = same_Some (g, origin_of nodes c) (f, b) e in
      record { begin = c; done = subst (λ (n : ℕ). Among (Started n c) ds) (ap (λ (x : ℕ × Origin). x.0) p) i; is = ap (λ (x : ℕ × Origin). x.1) p }
  start_from _ f b e i = absurd (none-some (f, b) e)

  pub start_done : (f : ℕ) (b : Origin) → Among (Starts f b) ls → StartDone f b
  start_done f b i =
      let s = deed_of (start_deed nodes) start_of (start_each nodes) (Starts f b) (f, b) i refl in start_from s.item f b s.gives s.among

  start_label : (l : Label) (f : ℕ) (b : Origin) → start_of l ≡ Some (f, b) → Among l ls → Among (Starts f b) ls
  start_label (Starts g c) f b e i = subst (λ (x : ℕ × Origin). Among (Starts x.0 x.1) ls) (same_Some (g, c) (f, b) e) i
  start_label _ f b e i = absurd (none-some (f, b) e)

  pub start_shown : (f : ℕ) (b : Begin) → Among (Started f b) ds → Among (Starts f (origin_of nodes b)) ls
  start_shown f b i =
      let s = label_of (start_deed nodes) start_of (start_each nodes) (Started f b) (f, origin_of nodes b) i refl in
      start_label s.item f (origin_of nodes b) s.gives s.among

-- an event that a label shows is in the trace
pub shown : (ls : List Label) (e : Event) → Among (Shows e) ls → Among e (events ls)
shown [] e i = absurd i
shown (Shows v ∷ ls) e (inl same) = inl (shown_same e v same)
  where
    event_of : Label → Event
    event_of (Shows w) = w
    event_of _ = event.Seen

    shown_same : (e v : Event) → Shows e ≡ Shows v → e ≡ v
    shown_same e v p = ap event_of p
shown (Shows v ∷ ls) e (inr i) = inr (shown ls e i)
shown (Silent ∷ ls) e (inl same) = cc
shown (Silent ∷ ls) e (inr i) = shown ls e i
shown (Learns f o v ∷ ls) e (inl same) = cc
shown (Learns f o v ∷ ls) e (inr i) = inr (shown ls e i)
shown (Starts f b ∷ ls) e (inl same) = cc
shown (Starts f b ∷ ls) e (inr i) = inr (shown ls e i)

pub started_in_trace : (ls : List Label) (f : ℕ) (b : Origin) → Among (Starts f b) ls → Among (event.Start f) (events ls)
started_in_trace [] f b i = absurd i
started_in_trace (Shows v ∷ ls) f b (inl same) = cc
started_in_trace (Shows v ∷ ls) f b (inr i) = inr (started_in_trace ls f b i)
started_in_trace (Silent ∷ ls) f b (inl same) = cc
started_in_trace (Silent ∷ ls) f b (inr i) = started_in_trace ls f b i
started_in_trace (Learns g o v ∷ ls) f b (inl same) = cc
started_in_trace (Learns g o v ∷ ls) f b (inr i) = inr (started_in_trace ls f b i)
started_in_trace (Starts g c ∷ ls) f b (inl same) = inl (by_number (Starts f b) (Starts g c) same)
  where
    start_number : Label → ℕ
    start_number (Starts h a) = h
    start_number _ = 0

    by_number : (l m : Label) → l ≡ m → event.Start (start_number l) ≡ event.Start (start_number m)
    by_number l m p = ap (λ (k : Label). event.Start (start_number k)) p
started_in_trace (Starts g c ∷ ls) f b (inr i) = inr (started_in_trace ls f b i)
