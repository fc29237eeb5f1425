use Rattle.std.proofs.Common.{◌≡◌, ◌∙◌, ℕ, List, [], ◌∷◌, inl, inr, ⊎_elim, refl, sym, ap, subst}
use Rattle.fx_term.specs.Lists.{Among}
use Rattle.fx_queue.specs.declared.pass_view.PassView.{PassView}
use Rattle.fx_queue.specs.PassView.{first_view, kept_part, IsWhole}
use Rattle.fx_queue.specs.Queues.{HeldPass, IsSameFiber, kept_pass, given_pass, joined_pass}
use Rattle.fx_queue_tests.proofs.Whole.{same_then, IsLeaf, leaf_by, Grown, grown_none, grown_leaf, whole_grown}
use Rattle.fx_queue_tests.proofs.queue.four_threads.nothing_is_lost_and_nothing_comes_twice.Goals as goal

leaf_of : (end i : ℕ) (m s t : HeldPass) → m.view.own.next ≡ i → s ≡ given_pass end m → IsSameFiber s t → IsLeaf t.view i
leaf_of end i m s t next e same = leaf_by s t i (ap (λ (u : HeldPass). u.view.own.id) e
    ∙ next) (ap (λ (u : HeldPass). u.view.own.parts) e) (ap (λ (u : HeldPass). u.view.taken) e) same

view_of : (end : ℕ) (m n : HeldPass) (v : PassView) → m.view ≡ v → n ≡ kept_pass end m → n.view ≡ kept_part end v
view_of end m n v e f = ap (λ (u : HeldPass). u.view) f ∙ ap (kept_part end) e

grows : (m t n : HeldPass) (i : ℕ) (l : List ℕ) → Grown m.view l → IsLeaf t.view i → n ≡ joined_pass m t → Grown n.view (i ∷ l)
grows m t n i l g leaf e = subst (λ (v : PassView). Grown v (i ∷ l)) (sym (ap (λ (u : HeldPass). u.view) e)) (grown_leaf m.view t.view i l g leaf)

same_parts : (m t n : HeldPass) → n ≡ joined_pass m t → n.view.own.parts ≡ m.view.own.parts
same_parts m t n e = ap (λ (u : HeldPass). u.view.own.parts) e

turned : (i : ℕ) → Among i (1 ∷ 2 ∷ 3 ∷ 4 ∷ []) → Among i (4 ∷ 3 ∷ 2 ∷ 1 ∷ [])
turned i m =
    ⊎_elim (λ e. inr (inr (inr (inl e)))) (λ m. ⊎_elim (λ e. inr (inr (inl e))) (λ m. ⊎_elim (λ e. inr (inl e)) (λ m. ⊎_elim (λ e. inl e) (λ z.
    absurd z) m) m) m) m

module _ (m0 m1 m2 m3 m4 m5 a b c d a' b' c' d' g1 g2 g3 g4 : HeldPass) (e0 : m0.view ≡ first_view 8 5)
    (e1 : m1 ≡ kept_pass 2 m0) (ea : a ≡ given_pass 2 m0) (e2 : m2 ≡ kept_pass 3 m1) (eb : b ≡ given_pass 3 m1)
    (e3 : m3 ≡ kept_pass 4 m2) (ec : c ≡ given_pass 4 m2) (e4 : m4 ≡ kept_pass 5 m3) (ed : d ≡ given_pass 5 m3)
    (sm : IsSameFiber m4 m5) (sa : IsSameFiber a a') (sb : IsSameFiber b b') (sc : IsSameFiber c c') (sd : IsSameFiber d d')
    (f1 : g1 ≡ joined_pass m5 a') (f2 : g2 ≡ joined_pass g1 b') (f3 : g3 ≡ joined_pass g2 c') (f4 : g4 ≡ joined_pass g3 d') where
  v1 : m1.view ≡ kept_part 2 (first_view 8 5)
  v1 = view_of 2 m0 m1 (first_view 8 5) e0 e1

  v2 : m2.view ≡ kept_part 3 (kept_part 2 (first_view 8 5))
  v2 = view_of 3 m1 m2 _ v1 e2

  v3 : m3.view ≡ kept_part 4 (kept_part 3 (kept_part 2 (first_view 8 5)))
  v3 = view_of 4 m2 m3 _ v2 e3

  v4 : m4.view ≡ kept_part 5 (kept_part 4 (kept_part 3 (kept_part 2 (first_view 8 5))))
  v4 = view_of 5 m3 m4 _ v3 e4

  all_grown : Grown g4.view (4 ∷ 3 ∷ 2 ∷ 1 ∷ [])
  all_grown = grows g3 d' g4 4 _ (grows g2 c' g3 3 _ (grows g1 b' g2 2 _ (grows m5 a' g1 1 _
      (grown_none m5.view (sm.id ∙ ap (λ (v : PassView). v.own.id) v4) (sm.taken ∙ ap (λ (v : PassView). v.taken) v4))
      (leaf_of 2 1 m0 a a' (ap (λ (v : PassView). v.own.next) e0) ea sa) f1)
      (leaf_of 3 2 m1 b b' (ap (λ (v : PassView). v.own.next) v1) eb sb) f2)
      (leaf_of 4 3 m2 c c' (ap (λ (v : PassView). v.own.next) v2) ec sc) f3)
      (leaf_of 5 4 m3 d d' (ap (λ (v : PassView). v.own.next) v3) ed sd) f4

  parts : g4.view.own.parts ≡ 1 ∷ 2 ∷ 3 ∷ 4 ∷ []
  parts = same_parts g3 d' g4 f4 ∙ (same_parts g2 c' g3 f3 ∙ (same_parts g1 b' g2 f2
      ∙ (same_parts m5 a' g1 f1 ∙ (sm.parts ∙ ap (λ (v : PassView). v.own.parts) v4))))

  whole : IsWhole g4.view
  whole = whole_grown g4.view _ all_grown (λ i m. turned i (subst (λ (l : List ℕ). Among i l) parts m))

pub close-requires-clause-whole : goal.close-requires-clause-whole
close-requires-clause-whole g c =
    let same = c.exchange-putters.ensures in
    let more = c.take_three_each-takers.ensures in
    whole _ _ _ _ _ _ _ _ _ _ _ _ _ _ _ _ _ _ c.in_ok-queue.ensures.3
    c.pass-one.ensures.kept c.pass-one.ensures.given c.pass-two.ensures.kept c.pass-two.ensures.given
    c.pass-three.ensures.kept c.pass-three.ensures.given c.pass-four.ensures.kept c.pass-four.ensures.given
    c.put-main.ensures same.0 same.1 (same_then _ _ _ same.2 more.0) (same_then _ _ _ same.3 more.1) refl c.gathered-put.ensures refl c.gathered-taken.ensures
