-- Rows of a fiber that is known to be canceled, and of one that is not.
use Rattle.std.proofs.Common.{◌≡◌, Bool, true, refl}
use Rattle.fx_term.specs.Term.{Term}
use Rattle.fx_model.specs.Row.{Counts, Label, Row}
use Rattle.fx_model.specs.Row as rule

-- the same counts but for what is known
abbrev pub with_known : Bool → Counts → Counts
with_known b c = record c { known = b }

-- the same row of a fiber of which this is known
pub record IsRowToo (k b : Bool) (c : Counts) (t : Term) (l : Label) (d : Counts) (u : Term) : Type 0 where
  pub known : Bool
  pub row : Row k (with_known b c) t l (with_known known d) u
  pub stays : b ≡ true → known ≡ true
  pub kept : c.known ≡ true → d.known ≡ true

so : {k b : Bool} {c d : Counts} {t u : Term} {l : Label} → (c.known ≡ true → d.known ≡ true) → Row k (with_known b c) t l (with_known b d) u
    → IsRowToo k b c t l d u
so {b = b} kept r = record { known = b; row = r; stays = λ e. e; kept = kept }

pub row_known : {k : Bool} (b : Bool) {c d : Counts} {t u : Term} {l : Label} → Row k c t l d u → IsRowToo k b c t l d u
row_known b rule.pure = so (λ e. e) rule.pure
row_known b rule.raise = so (λ e. e) rule.raise
row_known b rule.cede = so (λ e. e) rule.cede
row_known b (rule.self_request h) = record { known = true; row = rule.self_request h; stays = λ e. refl; kept = λ e. refl }
row_known b rule.if_not_zero = so (λ e. e) rule.if_not_zero
row_known b rule.if_zero = so (λ e. e) rule.if_zero
row_known b rule.for_begins = so (λ e. e) rule.for_begins
row_known b (rule.loop_turns h) = so (λ e. e) (rule.loop_turns h)
row_known b (rule.loop_ends h) = so (λ e. e) (rule.loop_ends h)
row_known b rule.let_value = so (λ e. e) rule.let_value
row_known b rule.let_error = so (λ e. e) rule.let_error
row_known b rule.handle_value = so (λ e. e) rule.handle_value
row_known b rule.handle_error = so (λ e. e) rule.handle_error
row_known b rule.mask = so (λ e. e) rule.mask
row_known b rule.poll = so (λ e. e) rule.poll
row_known b rule.masked_ends = so (λ e. e) rule.masked_ends
row_known b rule.opened_ends = so (λ e. e) rule.opened_ends
row_known b rule.oncancel_ends = so (λ e. e) rule.oncancel_ends
row_known b rule.acquired = so (λ e. e) rule.acquired
row_known b rule.acquire_fails = so (λ e. e) rule.acquire_fails
row_known b rule.acquired_case = so (λ e. e) rule.acquired_case
row_known b rule.acquire_case_fails = so (λ e. e) rule.acquire_case_fails
row_known b rule.used = so (λ e. e) rule.used
row_known b rule.use_succeeded = so (λ e. e) rule.use_succeeded
row_known b rule.use_erred = so (λ e. e) rule.use_erred
row_known b rule.released = so (λ e. e) rule.released
row_known b rule.start = so (λ e. e) rule.start
row_known b rule.joined = so (λ e. e) rule.joined
row_known b rule.request = so (λ e. e) rule.request
row_known b rule.awaited = so (λ e. e) rule.awaited
row_known b rule.first_left = so (λ e. e) rule.first_left
row_known b rule.first_right = so (λ e. e) rule.first_right
row_known b rule.offered = so (λ e. e) rule.offered
row_known b rule.tried_offer = so (λ e. e) rule.tried_offer
row_known b rule.refused = so (λ e. e) rule.refused
row_known b rule.taken = so (λ e. e) rule.taken
row_known b rule.tried_take = so (λ e. e) rule.tried_take
row_known b rule.found_empty = so (λ e. e) rule.found_empty
row_known b (rule.inside f e g r) =
    let i = row_known b r in record { known = i.known; row = rule.inside f e g i.row; stays = i.stays; kept = i.kept }
