-- No part of a script's term can use more fiber numbers than the most: each form was tested, and what a form stands for uses no more than the form.
use Rattle.std.proofs.Common.{◌≡◌, ℕ, ◌+◌, ◌≤◌, true, List, [], ◌∷◌, arith}
use Rattle.std.specs.List.{AllByRecursion}
use Rattle.std.proofs.lemmas.Bool.{leb-true}
use Rattle.fx_term.specs.Term.{Term}
use Rattle.fx_term.specs.Need.{need, most_need, NeedsFew}
use Rattle.fx_term.specs.declared.node.Arg.{Arg}
use Rattle.fx_text.specs.declared.form.Form.{Form}
use Rattle.fx_text.specs.declared.form.Form.TheVariants as form
use Rattle.fx_text.specs.Token.{Token}
use Rattle.fx_text.specs.Limits.{most_open}
use Rattle.fx_text.specs.declared.reader.races.RaceSlots.{RaceSlots}
use Rattle.fx_text.specs.Scope.{Scope, top, slot}
use Rattle.fx_text.specs.Race.{race_slots, cancel_both, outcome_of, decided, deciding, race}
use Rattle.fx_text.specs.Queues.{names_of}
use Rattle.fx_text.specs.Group.{Group, OfTerm, OfResource, OfResources, OfOutcome, Resource, Content, needs_few}
use Rattle.fx_text.specs.Shape.{Shape, ends, word, value, count, name, queue, binder, group, groups, seq, using, shape, content, main_shape}
use Rattle.fx_text.specs.Meaning.{Meaning}
use Rattle.fx_text.specs.Grammar.{Spells, ends_so, word_so, value_so, count_so, name_so, queue_so, binder_so, group_so, groups_end, groups_more, IsScript}

-- no part of what stands in a group can use more than the most
abbrev FewIn : (g : Group) → Content g → Type 0
FewIn OfTerm t = NeedsFew t
FewIn OfResource r = NeedsFew r.acquire × NeedsFew r.release
FewIn OfResources rs = AllByRecursion (λ (r : Resource). NeedsFew r.acquire × NeedsFew r.release) rs
FewIn OfOutcome t = NeedsFew t

-- so it is of a group of this shape that was tested itself, where it is so of its parts
abbrev KeepsFew : (g : Group) → Shape g → Type 0
KeepsFew g (ends x) = needs_few g x ≡ true → FewIn g x
KeepsFew g (word go) = (f : Form) → KeepsFew g (go f)
KeepsFew g (value p go) = (v : Arg) → KeepsFew g (go v)
KeepsFew g (count p go) = (n : ℕ) → KeepsFew g (go n)
KeepsFew g (name k p go) = (x : ℕ) → KeepsFew g (go x)
KeepsFew g (queue p go) = (q : ℕ) → KeepsFew g (go q)
KeepsFew g (binder p go) = (b : List ℕ) → KeepsFew g (go b)
KeepsFew g (group h p go) = (a : Content h) → FewIn h a → KeepsFew g (go a)
KeepsFew g (groups h p go) = (every : List (Content h)) → AllByRecursion (FewIn h) every → KeepsFew g (go every)

seq_few : (a : Term) (bs : List Term) → NeedsFew a → AllByRecursion NeedsFew bs → need (seq a bs) ≤ most_need → NeedsFew (seq a bs)
seq_few a [] first each few = first
seq_few a (b ∷ bs) first each few = (few, first, seq_few b bs each.0 each.1 (omega arith))

using_few : (rs : List Resource) (t : Term) → FewIn OfResources rs → NeedsFew t → need (using rs t) ≤ most_need → NeedsFew (using rs t)
using_few [] t each used few = used
using_few (r ∷ rs) t each used few = (few, each.0.0, using_few rs t each.1 used (omega arith), each.0.1)

-- a race starts two fibers
race_few : (s : RaceSlots) (a b : Term) → NeedsFew a → NeedsFew b → need (race s a b) ≤ most_need → NeedsFew (race s a b)
race_few s a b first second few = (few, (omega arith, first, (omega arith, second, nothing)))
  where
    outcome : (f : ℕ) → NeedsFew (outcome_of s f)
    outcome f = (omega arith, tt, tt, (omega arith, tt, tt))

    both : NeedsFew (cancel_both s)
    both = (omega arith, tt, tt)

    one : (f g : ℕ) → NeedsFew (decided s f g)
    one f g = (omega arith, (omega arith, tt, tt), (omega arith, tt, tt), (omega arith, (omega arith, outcome g), both))

    nothing : NeedsFew (deciding s)
    nothing = (omega arith, (omega arith, (omega arith, tt), both), (omega arith, one s.right s.left, one s.left s.right))

form_few : (f : Form) (p : Scope) → KeepsFew OfTerm (shape f p)
form_few form.Pure p = λ v few. tt
form_few form.Raise p = λ v few. tt
form_few form.Canceled p = λ few. tt
form_few form.Never p = λ few. tt
form_few form.Cede p = λ few. tt
form_few form.Seq p = λ a first bs each few. seq_few a bs first each (leb-true _ _ few)
form_few form.Let p = λ x a first b second few. (leb-true _ _ few, first, second)
form_few form.Handle p = λ a first x b second few. (leb-true _ _ few, first, second)
form_few form.If p = λ v a first b second few. (leb-true _ _ few, first, second)
form_few form.For p = λ x n a first few. (leb-true _ _ few, first)
form_few form.Mask p = λ x a first few. (leb-true _ _ few, first)
form_few form.Poll p = λ x a first few. (leb-true _ _ few, first)
form_few form.OnCancel p = λ a first f second few. (leb-true _ _ few, first, second)
form_few form.Bracket p = λ x a first u second r third few. (leb-true _ _ few, first, second, third)
form_few form.BracketCase p = λ x a first u second s third e fourth d fifth few. (leb-true _ _ few, first, second, third, fourth, fifth)
form_few form.Guarantee p = λ a first f second few. (leb-true _ _ few, tt, first, second)
form_few form.Forcer p = λ a first b second few. let h : need a + 0 + need b ≤ most_need = leb-true _ _ few in (h, (omega arith, first, tt), second)
form_few form.Using p = λ rs each t used few. using_few rs t each used (leb-true _ _ few)
form_few form.Start p = λ h a first b second few. (leb-true _ _ few, first, second)
form_few form.Join p = λ f a first b second c third few. (leb-true _ _ few, first, second, third)
form_few form.Cancel p = λ f few. tt
form_few form.First p = λ f g few. tt
form_few form.Race p = λ a first b second few. race_few (race_slots (slot p)) a b first second (leb-true _ _ few)
form_few form.Offer p = λ q v few. tt
form_few form.Take p = λ q few. tt
form_few form.TryOffer p = λ q v few. tt
form_few form.TryTake p = λ q x a first b second few. (leb-true _ _ few, first, second)

content_few : (g : Group) (p : Scope) → KeepsFew g (content g p)
content_few OfTerm p = λ f. form_few f p
content_few OfResource p = λ x a first r second few. (first, second)
content_few OfResources p = λ r one rs each few. (one, each)
content_few OfOutcome p = λ x t inside few. inside

spelled_few : {g : Group} {room : ℕ} {s : Shape g} {ks : List Token} {x : Content g} → Spells g room s ks x → needs_few g x ≡ true → KeepsFew g s → FewIn g x
spelled_few ends_so few m = m few
spelled_few (word_so f e more) few m = spelled_few more few (m f)
spelled_few (value_so v e more) few m = spelled_few more few (m v)
spelled_few (count_so n e more) few m = spelled_few more few (m n)
spelled_few (name_so i e more) few m = spelled_few more few (m i)
spelled_few (queue_so q e more) few m = spelled_few more few (m q)
spelled_few (binder_so b e more) few m = spelled_few more few (m b)
spelled_few (group_so {h = h} {p = p} left a inner ks e within tested more whole) few m =
    spelled_few more few (m a (spelled_few within tested (content_few h p)))
spelled_few (groups_end more) few m = spelled_few more few (m [] tt)
spelled_few (groups_more more) few m = spelled_few more few (λ a first others each. m (a ∷ others) (first, each))

-- the term of main is a form that was tested
main_few : (queues : List (List ℕ)) (t : Term) (room : ℕ) (ks : List Token) → Spells OfTerm room (main_shape queues) ks t → NeedsFew t
main_few queues t room ks (group_so left a inner rest e within tested ends_so whole) = spelled_few within tested (content_few OfTerm (top queues))

pub script_needs_few : (text : List ℕ) (m : Meaning) → IsScript text m → NeedsFew m.term
script_needs_few text m s = main_few (names_of m.queues) m.term most_open s.tokens s.main
