-- The forms of a term: what each consists of, where each part stands, and the term that it is.
use Rattle.std.specs.Prelude.{ℕ, Some, None, List, [], ◌∷◌, codes}
use Rattle.fx_term.specs.declared.node.Arg.{Arg}
use Rattle.fx_term.specs.declared.node.Arg.TheVariants as arg
use Rattle.fx_term.specs.Term.{Term, Pure, Raise, Canceled, Never, Cede, Let, Handle, If, For, Mask, Poll, OnCancel, Bracket, BracketCase, Start, Join, Cancel}
use Rattle.fx_term.specs.Term.{First, Offer, TryOffer, Take, TryTake}
use Rattle.fx_term.specs.declared.name_kind.NameKind.{NameKind}
use Rattle.fx_term.specs.declared.name_kind.NameKind.TheVariants as kind
use Rattle.fx_text.specs.declared.form.Form.{Form}
use Rattle.fx_text.specs.declared.form.Form.TheVariants as form
use Rattle.fx_text.specs.Scope.{Scope, top, slot, under, elsewhere, left_of_race, right_of_race, repeated}
use Rattle.fx_text.specs.Race.{race_slots, race}
use Rattle.fx_text.specs.Group.{Group, OfTerm, OfResource, OfResources, OfOutcome, Resource, Content, under_all}

-- What is still to come of a group, in the order of the text. What is read of a part is handed to the parts after it
pub data Shape (g : Group) : Type 0 where
  ends : Content g → Shape g  -- `)`, and the group is this
  word : (Form → Shape g) → Shape g  -- the word of a form
  value : Scope → (Arg → Shape g) → Shape g  -- a number, or the name of a value
  count : Scope → (ℕ → Shape g) → Shape g  -- a number, as the count of a loop
  name : NameKind → Scope → (ℕ → Shape g) → Shape g  -- the name of one of that kind
  queue : Scope → (ℕ → Shape g) → Shape g  -- the name of a queue
  binder : Scope → (List ℕ → Shape g) → Shape g  -- a name that is not in scope
  group : (h : Group) → Scope → (Content h → Shape g) → Shape g  -- a group
  -- any number of groups, up to a `)`, each in the scope of the names that those before bind for it
  groups : (h : Group) → Scope → (List (Content h) → Shape g) → Shape g

-- a term
abbrev pub term : {g : Group} → Scope → (Term → Shape g) → Shape g
term p go = group OfTerm p go

-- any number of terms, up to a `)`
abbrev pub terms : {g : Group} → Scope → (List Term → Shape g) → Shape g
terms p go = groups OfTerm p go

-- all forms
abbrev pub forms : List Form
forms = form.Pure ∷ form.Raise ∷ form.Canceled ∷ form.Never ∷ form.Cede ∷ form.Seq ∷ form.Let ∷ form.Handle ∷ form.If ∷ form.For ∷ form.Mask ∷ form.Poll ∷
    form.OnCancel ∷ form.Bracket ∷ form.BracketCase ∷ form.Guarantee ∷ form.Forcer ∷ form.Using ∷ form.Start ∷ form.Join ∷ form.Cancel ∷ form.First ∷
    form.Race ∷ form.Offer ∷ form.Take ∷ form.TryOffer ∷ form.TryTake ∷ []

abbrev pub word_of : Form → List ℕ
word_of form.Pure = codes "pure"
word_of form.Raise = codes "raise"
word_of form.Canceled = codes "canceled"
word_of form.Never = codes "never"
word_of form.Cede = codes "cede"
word_of form.Seq = codes "seq"
word_of form.Let = codes "let"
word_of form.Handle = codes "handle"
word_of form.If = codes "if"
word_of form.For = codes "for"
word_of form.Mask = codes "mask"
word_of form.Poll = codes "poll"
word_of form.OnCancel = codes "oncancel"
word_of form.Bracket = codes "bracket"
word_of form.BracketCase = codes "bracketcase"
word_of form.Guarantee = codes "guarantee"
word_of form.Forcer = codes "forcer"
word_of form.Using = codes "using"
word_of form.Start = codes "start"
word_of form.Join = codes "join"
word_of form.Cancel = codes "cancel"
word_of form.First = codes "first"
word_of form.Race = codes "race"
word_of form.Offer = codes "offer"
word_of form.Take = codes "take"
word_of form.TryOffer = codes "tryoffer"
word_of form.TryTake = codes "trytake"

-- one after another, for the last one's value
abbrev pub seq : Term → List Term → Term
seq a [] = a
seq a (b ∷ bs) = Let None a (seq b bs)

-- the value 0
abbrev pub pure_zero : Term
pure_zero = Pure (arg.Number 0)

-- the term with these resources acquired before it, and released after it in the inverse order
abbrev pub using : List Resource → Term → Term
using [] t = t
using (r ∷ rs) t = Bracket (Some r.slot) r.acquire (using rs t) r.release

-- the table of forms
abbrev pub shape : Form → Scope → Shape OfTerm
shape form.Pure p = value p λ v. ends (Pure v)
shape form.Raise p = value p λ v. ends (Raise v)
shape form.Canceled p = ends Canceled
shape form.Never p = ends Never
shape form.Cede p = ends Cede
shape form.Seq p = term p λ a. terms p λ bs. ends (seq a bs)
shape form.Let p = binder p λ x. term p λ a. term (under kind.Value x p) λ b. ends (Let (Some (slot p)) a b)
shape form.Handle p = term p λ a. binder p λ x. term (under kind.Value x p) λ b. ends (Handle a (Some (slot p)) b)
shape form.If p = value p λ v. term p λ a. term p λ b. ends (If v a b)
shape form.For p = binder p λ x. count p λ n. term (repeated n (under kind.Value x p)) λ a. ends (For (slot p) n a)
shape form.Mask p = binder p λ x. term (under kind.Poll x p) λ a. ends (Mask (slot p) a)
shape form.Poll p = name kind.Poll p λ x. term p λ a. ends (Poll (arg.Slot x) a)
shape form.OnCancel p = term p λ a. term p λ f. ends (OnCancel a f)
shape form.Bracket p = binder p λ x. term p λ a. term (under kind.Value x p) λ u. term (under kind.Value x p) λ r. ends (Bracket (Some (slot p)) a u r)
shape form.BracketCase p = binder p λ x. term p λ a. term (under kind.Value x p) λ u. group OfOutcome (under kind.Value x p) λ s.
    group OfOutcome (under kind.Value x p) λ e. term (under kind.Value x p) λ d.
    ends (BracketCase (slot p) a u (slot (under kind.Value x p)) s (slot (under kind.Value x p)) e d)
shape form.Guarantee p = term p λ a. term p λ f. ends (Bracket None pure_zero a f)
shape form.Forcer p = term p λ a. term p λ b. ends (Let None (Handle a None pure_zero) b)
shape form.Using p = group OfResources p λ rs. term (under_all rs p) λ t. ends (using rs t)
shape form.Start p = binder p λ h. term (elsewhere p) λ a. term (under kind.Fiber h p) λ b. ends (Start (slot p) a b)
shape form.Join p = name kind.Fiber p λ f. group OfOutcome p λ a. group OfOutcome p λ b. term p λ c.
    ends (Join (arg.Slot f) (slot p) a (slot p) b c)
shape form.Cancel p = name kind.Fiber p λ f. ends (Cancel (arg.Slot f))
shape form.First p = name kind.Fiber p λ f. name kind.Fiber p λ g. ends (First (arg.Slot f) (arg.Slot g))
shape form.Race p = term (left_of_race p) λ a. term (right_of_race p) λ b. ends (race (race_slots (slot p)) a b)
shape form.Offer p = queue p λ q. value p λ v. ends (Offer q v)
shape form.Take p = queue p λ q. ends (Take q)
shape form.TryOffer p = queue p λ q. value p λ v. ends (TryOffer q v)
shape form.TryTake p = queue p λ q. binder p λ x. term (under kind.Value x p) λ a. term p λ b. ends (TryTake q (slot p) a b)

-- what stands in the parentheses of a group
abbrev pub content : (g : Group) → Scope → Shape g
content OfTerm p = word λ f. shape f p
content OfResource p = binder p λ x. term p λ a. term (under kind.Value x p) λ r. ends (record { name = x; slot = slot p; acquire = a; release = r })
content OfOutcome p = binder p λ x. term (under kind.Value x p) λ t. ends t
content OfResources p = group OfResource p λ r. groups OfResource (under kind.Value r.name p) λ rs. ends (r ∷ rs)

-- main, which is its term, in the scope of the names of these queues
abbrev pub main_shape : List (List ℕ) → Shape OfTerm
main_shape queues = term (top queues) λ t. ends t
