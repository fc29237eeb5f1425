-- What a race is: two fibers, of which the first to succeed or err gives the outcome, while the other is canceled.
use Rattle.std.specs.Prelude.{ℕ, ◌+◌, Some, None}
use Rattle.fx_term.specs.declared.node.Arg.TheVariants.{Slot}
use Rattle.fx_term.specs.Term.{Term, Pure, Raise, Canceled, Never, Let, If, Mask, Poll, OnCancel, Start, Join, Cancel, First}
use Rattle.fx_text.specs.declared.reader.races.RaceSlots.{RaceSlots}

-- the slots of its names, from that of its mask on
abbrev pub race_slots : ℕ → RaceSlots
race_slots p = record { mask = p; left = p + 1; right = p + 2; ended = p + 3; number = p + 4 }

-- both fibers are canceled, and each is waited for
abbrev pub cancel_both : RaceSlots → Term
cancel_both s = Let None (Cancel (Slot s.left)) (Cancel (Slot s.right))

-- the outcome of a fiber; where that was canceled, the race cancels itself too
abbrev pub outcome_of : RaceSlots → ℕ → Term
outcome_of s f = Join (Slot f) s.number (Pure (Slot s.number)) s.number (Raise (Slot s.number)) (Let None Canceled Never)

-- What is done where fiber a has ended first. If it succeeded or erred, b is canceled and that is the outcome; if it was canceled, the outcome is that of b,
-- and a request that comes meanwhile cancels both
abbrev pub decided : RaceSlots → ℕ → ℕ → Term
decided s a b = Join (Slot a) s.number (Let None (Cancel (Slot b)) (Pure (Slot s.number))) s.number (Let None (Cancel (Slot b)) (Raise (Slot s.number)))
    (OnCancel (Poll (Slot s.mask) (outcome_of s b)) (cancel_both s))

-- waits until one has ended; where that is canceled, both are
abbrev pub waited : RaceSlots → Term
waited s = OnCancel (Poll (Slot s.mask) (First (Slot s.left) (Slot s.right))) (cancel_both s)

-- and goes on by which one it was
abbrev pub deciding : RaceSlots → Term
deciding s = Let (Some s.ended) (waited s)
    (If (Slot s.ended) (decided s s.right s.left) (decided s s.left s.right))

abbrev pub race : RaceSlots → Term → Term → Term
race s a b = Mask s.mask (Start s.left a (Start s.right b (deciding s)))
