-- Which nodes a form makes: its own, or those of the forms that it is short for.
use Rattle.std.specs.Prelude.{Bool, true, false, Some, None}
use Rattle.fx_term.specs.declared.node.Node.{Node}
use Rattle.fx_term.specs.declared.node.Node.TheVariants as node
use Rattle.fx_places.specs.declared.form.Form.{Form}
use Rattle.fx_places.specs.declared.form.Form.TheVariants as form

abbrev pub race_makes : Node → Bool
race_makes (node.Pure a) = true
race_makes (node.Raise a) = true
race_makes node.Canceled = true
race_makes node.Never = true
race_makes (node.Let a b c) = true
race_makes (node.If a b c) = true
race_makes (node.Mask a b) = true
race_makes (node.Poll a b) = true
race_makes (node.OnCancel a b) = true
race_makes (node.Start a b c) = true
race_makes (node.Join a b c d e f) = true
race_makes (node.Cancel a) = true
race_makes (node.First a b) = true
race_makes _ = false

abbrev pub makes : Form → Node → Bool
makes form.Pure (node.Pure a) = true
makes form.Raise (node.Raise a) = true
makes form.Canceled node.Canceled = true
makes form.Never node.Never = true
makes form.Cede node.Cede = true
makes form.Seq (node.Let None a b) = true
makes form.Let (node.Let (Some a) b c) = true
makes form.Handle (node.Handle a (Some b) c) = true
makes form.If (node.If a b c) = true
makes form.For (node.For a b c) = true
makes form.Mask (node.Mask a b) = true
makes form.Poll (node.Poll a b) = true
makes form.OnCancel (node.OnCancel a b) = true
makes form.Bracket (node.Bracket (Some a) b c d) = true
makes form.BracketCase (node.BracketCase a b c d e f g h) = true
makes form.Guarantee (node.Pure a) = true
makes form.Guarantee (node.Bracket None a b c) = true
makes form.Forcer (node.Pure a) = true
makes form.Forcer (node.Handle a None b) = true
makes form.Forcer (node.Let None a b) = true
makes form.Using (node.Bracket (Some a) b c d) = true
makes form.Start (node.Start a b c) = true
makes form.Join (node.Join a b c d e f) = true
makes form.Cancel (node.Cancel a) = true
makes form.First (node.First a b) = true
makes form.Race n = race_makes n
makes form.Offer (node.Offer a b) = true
makes form.Take (node.Take a) = true
makes form.TryOffer (node.TryOffer a b) = true
makes form.TryTake (node.TryTake a b c d) = true
makes _ _ = false
