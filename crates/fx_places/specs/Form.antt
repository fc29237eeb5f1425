-- The forms of a term, by their words.
use Rattle.std.specs.Prelude.{ℕ, List, [], ◌∷◌, codes}
use Rattle.fx_places.specs.declared.form.Form.{Form}
use Rattle.fx_places.specs.declared.form.Form.TheVariants as form

-- all forms
abbrev pub forms : List Form
forms = form.Pure ∷ form.Raise ∷ form.Canceled ∷ form.Never ∷ form.Cede ∷ form.Seq ∷ form.Let ∷ form.Handle ∷ form.If ∷ form.For ∷ form.Mask ∷ form.Poll ∷
    form.OnCancel ∷ form.Bracket ∷ form.BracketCase ∷ form.Guarantee ∷ form.Forcer ∷ form.Using ∷ form.Start ∷ form.Join ∷ form.Cancel ∷ form.First ∷
    form.Race ∷ form.Offer ∷ form.Take ∷ form.TryOffer ∷ form.TryTake ∷ []

abbrev pub word_of : Form → List ℕ
word_of form.Pure = codes "pure"
word_of form.Raise = codes "raise"
word_of form.Canceled = codes "canceled"
word_of form.Never = codes "never"
word_of form.Cede = codes "cede"
word_of form.Seq = codes "seq"
word_of form.Let = codes "let"
word_of form.Handle = codes "handle"
word_of form.If = codes "if"
word_of form.For = codes "for"
word_of form.Mask = codes "mask"
word_of form.Poll = codes "poll"
word_of form.OnCancel = codes "oncancel"
word_of form.Bracket = codes "bracket"
word_of form.BracketCase = codes "bracketcase"
word_of form.Guarantee = codes "guarantee"
word_of form.Forcer = codes "forcer"
word_of form.Using = codes "using"
word_of form.Start = codes "start"
word_of form.Join = codes "join"
word_of form.Cancel = codes "cancel"
word_of form.First = codes "first"
word_of form.Race = codes "race"
word_of form.Offer = codes "offer"
word_of form.Take = codes "take"
word_of form.TryOffer = codes "tryoffer"
word_of form.TryTake = codes "trytake"
