-- A fiber that waits can step exactly where what it waits for has come.
use Rattle.std.proofs.Common.{◌≡◌, ℕ, Bool, true, false, Some, None, refl, sym, ◌∙◌, ap}
use Rattle.std.specs.Prelude.{◌&&◌, ◌||◌, not}
use Rattle.std.proofs.lemmas.Option.{none-some, same_Some}
use Rattle.fx_term.specs.declared.name_kind.NameKind.TheVariants as kind
use Rattle.fx_term.specs.declared.node.Arg.TheVariants.{Number, Slot}
use Rattle.fx_term.specs.Term.{Term, Never, Offer, Take, Join, Await, First}
use Rattle.fx_model.specs.Path.{leaf, is_open, must_cancel}
use Rattle.fx_model.specs.Row.{Counts}
use Rattle.fx_model.specs.Step.{Progress, Runs, Unwinds, CleansUp, HasEnded}
use Rattle.fx_model.specs.Outside.{Outside, leaf_can_step, can_step}
use Rattle.fx_model.specs.declared.source.Source.{Source}
use Rattle.fx_model.specs.declared.source.Source.TheVariants.{Nothing, Outcome, Either, Room, Element}
use Rattle.fx_model.specs.Waiting.{wait_at}
use Rattle.fx_model.specs.Scopes.{IsClosedTerm}
use Rattle.fx_model.specs.WaitsFor.{has_come, IsWaiting}

waits_as : (o : Outside) (t : Term) (v w : Source) → Some v ≡ Some w → leaf_can_step o t ≡ has_come o v → leaf_can_step o t ≡ has_come o w
waits_as o t v w e h = h ∙ ap (has_come o) (same_Some v w e)

pub leaf_waits : (o : Outside) (t : Term) (w : Source) → wait_at t ≡ Some w → leaf_can_step o t ≡ has_come o w
leaf_waits o Never w e = waits_as o Never Nothing w e refl
leaf_waits o (Join (Number f) x a y b d) w e = waits_as o (Join (Number f) x a y b d) (Outcome f) w e refl
leaf_waits o (Await f) w e = waits_as o (Await f) (Outcome f) w e refl
leaf_waits o (First (Number f) (Number g)) w e = waits_as o (First (Number f) (Number g)) (Either f g) w e refl
leaf_waits o (Offer q v) w e = waits_as o (Offer q v) (Room q) w e refl
leaf_waits o (Take q) w e = waits_as o (Take q) (Element q) w e refl
leaf_waits o _ w e = absurd (none-some w e)

-- a leaf without a name that does not wait goes on
pub leaf_goes_on : (o : Outside) (t : Term) → IsClosedTerm t → wait_at t ≡ None → true ≡ leaf_can_step o t
leaf_goes_on o Never h e = absurd (none-some Nothing (sym e))
leaf_goes_on o (Join (Number f) x a y b d) h e = absurd (none-some (Outcome f) (sym e))
leaf_goes_on o (Join (Slot z) x a y b d) h e = absurd (none-some kind.Fiber h.0)
leaf_goes_on o (Await f) h e = absurd (none-some (Outcome f) (sym e))
leaf_goes_on o (First (Number f) (Number g)) h e = absurd (none-some (Either f g) (sym e))
leaf_goes_on o (First (Slot z) g) h e = absurd (none-some kind.Fiber h.0)
leaf_goes_on o (First (Number f) (Slot z)) h e = absurd (none-some kind.Fiber h.1)
leaf_goes_on o (Offer q v) h e = absurd (none-some (Room q) (sym e))
leaf_goes_on o (Take q) h e = absurd (none-some (Element q) (sym e))
leaf_goes_on o _ h e = refl

neither : (m free asked goes : Bool) → m ≡ false → ((free && not m) ≡ true → asked ≡ false) → (m || (free && asked) || goes) ≡ goes
neither true free asked goes e h = absurd cc
neither false true asked goes e h = rw (h refl) refl
neither false false asked goes e h = refl

-- a fiber that waits can step exactly where that has come
pub waiting_steps : (o : Outside) (f : ℕ) (c : Counts) (p : Progress) (w : Source) → IsWaiting (o.is_requested f) c p w → can_step o f c p ≡ has_come o w
waiting_steps o f c (Runs t) w h =
    neither (must_cancel c.known t) (is_open t) (o.is_requested f) (leaf_can_step o (leaf t)) h.free h.unasked ∙ leaf_waits o (leaf t) w h.leaf
waiting_steps o f c (CleansUp k t rest) w h = leaf_waits o (leaf t) w h.leaf
waiting_steps o f c (Unwinds rest) w h = absurd (none-some w h.leaf)
waiting_steps o f c (HasEnded x) w h = absurd (none-some w h.leaf)
