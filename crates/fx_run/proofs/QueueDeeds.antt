-- What a run did to a queue is what its trace does there.
use Rattle.std.proofs.Common.{◌≡◌, ℕ, List, [], ◌∷◌, ◌++◌, refl, sym, ◌∙◌, ap}
use Rattle.std.proofs.lemmas.List.Elements.{filter_map-append}
use Rattle.fx_term.specs.declared.node.Node.{Node}
use Rattle.fx_term.specs.declared.event.Event.TheVariants as event
use Rattle.fx_term.specs.declared.queue_event.QueueEvent.{QueueEvent}
use Rattle.fx_term.specs.Queue.{queue_event, queue_events}
use Rattle.fx_model.specs.Row.{Counts, Label, Silent, Shows, Learns, Starts}
use Rattle.fx_model.specs.Step.{Progress}
use Rattle.fx_model.specs.Run.{Leads, events}
use Rattle.fx_fiber.specs.Deed.{Deed, AreDeedsOf, AreDeeds, queue_deed, queue_deeds}
use Rattle.fx_model.proofs.StepLabels.{IsProper, step_tells}

-- so it is for one label: a queue that was found full or empty is no event of it
pub queue_label : (nodes : List Node) (q f : ℕ) (l : Label) (ds : List Deed) → IsProper l → AreDeedsOf nodes l ds
    → queue_deeds q f ds ≡ queue_events q f (events (l ∷ []))
queue_label nodes q f Silent ds p e = ap (queue_deeds q f) e
queue_label nodes q f (Starts g b) ds p (begin, same, e) = ap (queue_deeds q f) e
queue_label nodes q f (Shows (event.Put r n)) ds p e = ap (queue_deeds q f) e
queue_label nodes q f (Shows (event.Got r n)) ds p e = ap (queue_deeds q f) e
queue_label nodes q f (Shows _) ds p e = ap (queue_deeds q f) e
queue_label nodes q f (Learns g o (event.Joined k v)) ds p e = ap (queue_deeds q f) e
queue_label nodes q f (Learns g o (event.Awaited k)) ds p e = ap (queue_deeds q f) e
queue_label nodes q f (Learns g o (event.First k)) ds p e = ap (queue_deeds q f) e
queue_label nodes q f (Learns g o _) ds p e = absurd p

queue_more : (q f : ℕ) (l : Label) (ls : List Label)
    → queue_events q f (events (l ∷ ls)) ≡ queue_events q f (events (l ∷ [])) ++ queue_events q f (events ls)
queue_more q f Silent ls = refl
queue_more q f (Shows e) ls = filter_map-append (queue_event q f) (e ∷ []) (events ls)
queue_more q f (Learns g o e) ls = filter_map-append (queue_event q f) (e ∷ []) (events ls)
queue_more q f (Starts g b) ls = filter_map-append (queue_event q f) (event.Start g ∷ []) (events ls)

pub queue_done : (nodes : List Node) (q f : ℕ) (c d : Counts) (p r : Progress) (ls : List Label) (ds : List Deed) → Leads c p ls d r
    → AreDeeds nodes ls ds → queue_deeds q f ds ≡ queue_events q f (events ls)
queue_done nodes q f c d p r [] ds run e = ap (queue_deeds q f) e
queue_done nodes q f c d p r (l ∷ ls) ds run (first, rest, here, later, e) =
    ap (queue_deeds q f) e ∙ filter_map-append (queue_deed q f) first rest
    ∙ both (queue_label nodes q f l first (step_tells run.2).proper here) (queue_done nodes q f run.0 d run.1 r ls rest run.3 later)
    ∙ sym (queue_more q f l ls)
  where
    both : {a b x y : List QueueEvent} → a ≡ x → b ≡ y → a ++ b ≡ x ++ y
    both s t = cc
