-- Two words of a fiber: its state, and the number that it ended with.
use Rattle.std.specs.Prelude.{ℕ, ◌+◌, ◌*◌, Bool, true, false, Option, Some, None}
use Rattle.fx_term.specs.declared.outcome.Outcome.{Outcome}
use Rattle.fx_term.specs.declared.outcome.Outcome.TheVariants.{Succeeded, Errored, Canceled}
use Rattle.fx_word.specs.declared.state_word.EndKind.{EndKind}
use Rattle.fx_word.specs.declared.state_word.EndKind.TheVariants as kind

abbrev pub end_kind : Outcome → EndKind
end_kind (Succeeded x) = kind.Succeeded
end_kind (Errored x) = kind.Errored
end_kind Canceled = kind.Canceled

abbrev pub kind_in : Option Outcome → Option EndKind
kind_in None = None
kind_in (Some o) = Some (end_kind o)

-- the number that a fiber ended with, 0 where it was canceled
abbrev pub value_of : Outcome → ℕ
value_of (Succeeded x) = x
value_of (Errored x) = x
value_of Canceled = 0

abbrev pub number_of : EndKind → ℕ
number_of kind.Succeeded = 1
number_of kind.Errored = 2
number_of kind.Canceled = 3

-- the two done bits, above the request bit
abbrev pub done_bits : Option Outcome → ℕ
done_bits None = 0
done_bits (Some o) = 2 * number_of (end_kind o)

abbrev pub request_bit : Bool → ℕ
request_bit false = 0
request_bit true = 1

-- the state word of a fiber that is requested or not, and ended so or has not ended
abbrev pub state_word : Bool → Option Outcome → ℕ
state_word b o = request_bit b + done_bits o
