-- The stamps of a run, step by step, and the numbers of its deeds.
use Rattle.std.proofs.Common.{◌≡◌, ℕ, List, [], ◌∷◌, ◌++◌, max, refl, sym, ◌∙◌, ap, subst, append_assoc, append-nil, arith}
use Rattle.std.proofs.lemmas.List.{map-append}
use Rattle.fx_term.specs.declared.node.Node.{Node}
use Rattle.fx_term.specs.declared.event.Event.{Event}
use Rattle.fx_term.specs.declared.event.Event.TheVariants as event
use Rattle.fx_term.specs.declared.stamped.Stamped.{Stamped}
use Rattle.fx_term.specs.Stamped.{events_in, stamps_in}
use Rattle.fx_model.specs.Row.{Label, Silent, Shows, Learns, Starts}
use Rattle.fx_model.specs.Run.{events, shown}
use Rattle.fx_model.specs.Stamps.{HasNoCause, one_more}
use Rattle.fx_model.proofs.ShownLabels.{shown_append}
use Rattle.fx_fiber.specs.Deed.{Deed, AreDeedsOf}
use Rattle.fx_fiber.specs.StampedDeed.{StampedDeed, deeds_of, numbered, BeginsWith, AreNumbered}
use Rattle.fx_fiber.specs.StampedRun.{next_stamp, IsUncaused, IsNext, Tells, AreStamped, last_of, stamped_event, stamp_of_event, clock_after}

pub max_with_nothing : (k : ℕ) → k ≡ max k 0
max_with_nothing k = omega arith

-- a clock that is raised by no cause stays
pub unraised : (k k' cause : ℕ) → k' ≡ max k cause → cause ≡ 0 → k' ≡ k
unraised k k' cause raised none = omega arith

pub next_is : (own k : ℕ) → own ≡ one_more k → own ≡ next_stamp k 0
next_is own k is = is ∙ ap one_more (max_with_nothing k)

pub last_append : (before : ℕ) (ss : List ℕ) (t : ℕ) → last_of before (ss ++ t ∷ []) ≡ t
last_append before [] t = refl
last_append before (s ∷ ss) t = last_append s ss t

-- the trace after one more step, as its events and as its stamps
pub events_more : (trace : List Stamped) (own : ℕ) (l : Label) → events_in (trace ++ stamped_event own l) ≡ events_in trace ++ events (l ∷ [])
events_more trace own l = map-append (λ (x : Stamped). x.event) trace (stamped_event own l) ∙ ap (λ (es : List Event). events_in trace ++ es) (by_label l)
  where
    by_label : (l : Label) → events_in (stamped_event own l) ≡ events (l ∷ [])
    by_label Silent = refl
    by_label (Shows e) = refl
    by_label (Learns f o e) = refl
    by_label (Starts f b) = refl

pub stamps_more : (trace : List Stamped) (own : ℕ) (l : Label) → stamps_in (trace ++ stamped_event own l) ≡ stamps_in trace ++ stamp_of_event own l
stamps_more trace own l = map-append (λ (x : Stamped). x.stamp) trace (stamped_event own l) ∙ ap (λ (ss : List ℕ). stamps_in trace ++ ss) (by_label l)
  where
    by_label : (l : Label) → stamps_in (stamped_event own l) ≡ stamp_of_event own l
    by_label Silent = refl
    by_label (Shows e) = refl
    by_label (Learns f o e) = refl
    by_label (Starts f b) = refl

-- the clock after one more step is the last stamp
pub clock_more : (l : Label) (before k cause : ℕ) (ss : List ℕ) → (IsUncaused l → cause ≡ 0) → k ≡ last_of before ss
    → clock_after l (max k cause) ≡ last_of before (ss ++ stamp_of_event (next_stamp k cause) l)
clock_more Silent before k cause ss none e = unraised k (max k cause) cause refl (none tt) ∙ e ∙ sym (ap (last_of before) (append-nil ss))
clock_more (Shows v) before k cause ss none e = sym (last_append before ss (next_stamp k cause))
clock_more (Learns f o v) before k cause ss none e = sym (last_append before ss (next_stamp k cause))
clock_more (Starts f b) before k cause ss none e = sym (last_append before ss (next_stamp k cause))

pub deeds_append : (xs ys : List StampedDeed) → deeds_of (xs ++ ys) ≡ deeds_of xs ++ deeds_of ys
deeds_append xs ys = map-append (λ (d : StampedDeed). d.deed) xs ys

-- numbers change nothing of the deeds
pub deeds_numbered : (own cause : ℕ) (ds : List Deed) → deeds_of (numbered own cause ds) ≡ ds
deeds_numbered own cause [] = refl
deeds_numbered own cause (d ∷ ds) = ap (λ (es : List Deed). d ∷ es) (deeds_numbered own cause ds)

-- whom these deeds start begins with this stamp
abbrev pub AllBeginWith : ℕ → List Deed → Type 0
AllBeginWith own [] = Unit {0}
AllBeginWith own (d ∷ ds) = BeginsWith d own × AllBeginWith own ds

are_numbered : (own cause : ℕ) (ds : List Deed) → AllBeginWith own ds → AreNumbered own cause (numbered own cause ds)
are_numbered own cause [] h = tt
are_numbered own cause (d ∷ ds) h = (record { is = refl; begins = h.0 }, are_numbered own cause ds h.1)

module _ (nodes : List Node) where
  -- one more label that shows an event
  one_more_stamp : (before : ℕ) (ls : List Label) (ss cs : List ℕ) (ds : List StampedDeed) (l : Label) (stamp cause : ℕ) (first : List StampedDeed)
      → AreStamped nodes before ls ss cs ds → IsNext (last_of before ss) l stamp cause → Tells nodes l stamp cause first
      → AreStamped nodes before (ls ++ l ∷ []) (ss ++ stamp ∷ []) (cs ++ cause ∷ []) (ds ++ first)
  one_more_stamp before [] [] [] ds l stamp cause first h next tells =
      (first, [], next, tells, refl, ap (λ (xs : List StampedDeed). xs ++ first) h ∙ sym (append-nil first))
  one_more_stamp before (k ∷ ls) (s ∷ ss) (c ∷ cs) ds l stamp cause first (own, rest, here, told, later, e) next tells = (
    own,
    rest ++ first,
    here,
    told,
    one_more_stamp s ls ss cs rest l stamp cause first later next tells,
    ap (λ (xs : List StampedDeed). xs ++ first) e ∙ append_assoc own rest first,
  )
  one_more_stamp before [] (s ∷ ss) cs ds l stamp cause first h next tells = absurd h
  one_more_stamp before [] [] (c ∷ cs) ds l stamp cause first h next tells = absurd h
  one_more_stamp before (k ∷ ls) [] cs ds l stamp cause first h next tells = absurd h
  one_more_stamp before (k ∷ ls) (s ∷ ss) [] ds l stamp cause first h next tells = absurd h

  module _ (before k cause : ℕ) (ls : List Label) (ss cs : List ℕ) (ds : List StampedDeed) (es : List Deed) (h : AreStamped nodes before (shown ls) ss cs ds)
      (clocked : k ≡ last_of before ss) (begin : AllBeginWith (next_stamp k cause) es) where
    one_shown : (l : Label) (e : Event) → events (l ∷ []) ≡ e ∷ [] → (HasNoCause e → cause ≡ 0) → AreDeedsOf nodes l es
        → shown (ls ++ l ∷ []) ≡ shown ls ++ l ∷ []
        → AreStamped nodes before (shown (ls ++ l ∷ [])) (ss ++ next_stamp k cause ∷ []) (cs ++ cause ∷ []) (ds ++ numbered (next_stamp k cause) cause es)
    one_shown l e shows none are same =
        rw same (one_more_stamp before (shown ls) ss cs ds l (next_stamp k cause) cause (numbered (next_stamp k cause) cause es) h
        (record { event = e; shows = shows; is = ap (λ (b : ℕ). next_stamp b cause) clocked; none = none })
        (record {
          are_deeds = subst (λ (xs : List Deed). AreDeedsOf nodes l xs) (sym (deeds_numbered (next_stamp k cause) cause es)) are;
          are_numbered = are_numbered (next_stamp k cause) cause es begin;
        }))

    -- one more step, with its deeds
    pub stamped_more : (l : Label) → AreDeedsOf nodes l es → (IsUncaused l → cause ≡ 0)
        → AreStamped nodes before (shown (ls ++ l ∷ [])) (ss ++ stamp_of_event (next_stamp k cause) l) (cs ++ stamp_of_event cause l)
        (ds ++ numbered (next_stamp k cause) cause es)
    stamped_more Silent are none = rw (shown_append ls (Silent ∷ []), append-nil (shown ls), append-nil ss, append-nil cs, are, append-nil ds) h
    stamped_more (Shows e) are none = one_shown (Shows e) e refl none are (shown_append ls (Shows e ∷ []))
    stamped_more (Learns f o e) are none = one_shown (Learns f o e) e refl none are (shown_append ls (Learns f o e ∷ []))
    stamped_more (Starts f b) are none = one_shown (Starts f b) (event.Start f) refl none are (shown_append ls (Starts f b ∷ []))
