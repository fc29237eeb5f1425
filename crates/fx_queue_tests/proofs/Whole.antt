-- A first pass that has taken in all that it split off.
use Rattle.std.proofs.Common.{◌≡◌, ℕ, List, [], ◌∷◌, ◌++◌, inl, inr, ⊎_elim, refl, sym, ◌∙◌, ap, subst}
use Rattle.fx_term.specs.Lists.{Among}
use Rattle.fx_term.proofs.ListLaws.{Among-append_right}
use Rattle.fx_queue.specs.declared.entry.Entry.{Entry}
use Rattle.fx_queue.specs.declared.pass_view.PassView.{PassView}
use Rattle.fx_queue.specs.PassView.{In, joined, IsWhole}
use Rattle.fx_queue.specs.Queues.{HeldPass, IsSameFiber}

pub same_then : (s t u : HeldPass) → IsSameFiber s t → IsSameFiber t u → IsSameFiber s u
same_then s t u a b = record {
  table = b.table ∙ a.table;
  cap = b.cap ∙ a.cap;
  id = b.id ∙ a.id;
  next = b.next ∙ a.next;
  end = b.end ∙ a.end;
  parts = b.parts ∙ a.parts;
  taken = b.taken ∙ a.taken;
}

-- the pass of the fiber i, which has split off none and taken in none
pub record IsLeaf (v : PassView) (i : ℕ) : Type 0 where
  pub id : v.own.id ≡ i
  pub parts : v.own.parts ≡ []
  pub taken : v.taken ≡ []

pub leaf_by : (s t : HeldPass) (i : ℕ) → s.view.own.id ≡ i → s.view.own.parts ≡ [] → s.view.taken ≡ [] → IsSameFiber s t → IsLeaf t.view i
leaf_by s t i id parts taken same = record { id = same.id ∙ id; parts = same.parts ∙ parts; taken = same.taken ∙ taken }

-- the numbers of l have entries in the view, and no entry but its own has parts
pub record Grown (v : PassView) (l : List ℕ) : Type 0 where
  pub root : v.own.id ≡ 0
  pub each : (i : ℕ) → Among i l → (d : Entry) × In d v × (d.id ≡ i)
  pub flat : (e : Entry) → Among e v.taken → e.parts ≡ []

pub grown_none : (v : PassView) → v.own.id ≡ 0 → v.taken ≡ [] → Grown v []
grown_none v root taken = record { root = root; each = λ i m. absurd m; flat = λ e k. absurd (subst (λ (l : List Entry). Among e l) taken k) }

pub grown_leaf : (v w : PassView) (i : ℕ) (l : List ℕ) → Grown v l → IsLeaf w i → Grown (joined v w) (i ∷ l)
grown_leaf v w i l g leaf = record {
  root = g.root;
  each = λ j m. ⊎_elim (λ e. (w.own, inr (inl refl), leaf.id ∙ sym e))
      (λ t. let d = g.each j t in (d.0, ⊎_elim inl (λ k. inr (inr (Among-append_right w.taken v.taken d.0 k))) d.1, d.2)) m;
  flat = λ e k. ⊎_elim
      (λ t. g.flat e t)
      (λ y. ap (λ (u : Entry). u.parts) y ∙ leaf.parts)
      (⊎_elim (λ y. inr y) (λ y. inl y) (subst (λ (t : List Entry). Among e ((w.own ∷ t) ++ v.taken)) leaf.taken k));
}

-- a first pass whose parts were all taken in, and have split off none, is whole
pub whole_grown : (v : PassView) (l : List ℕ) → Grown v l → ((i : ℕ) → Among i v.own.parts → Among i l) → IsWhole v
whole_grown v l g all = (
  g.root,
  λ e k i m. ⊎_elim
      (λ y. g.each i (all i (subst (λ (u : Entry). Among i u.parts) y m)))
      (λ t. absurd (subst (λ (p : List ℕ). Among i p) (g.flat e t) m)) k,
)
