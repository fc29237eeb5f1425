-- The ring of those that wait, after a fiber was listed or taken off.
use Rattle.std.proofs.Common.{not, ◌≡◌, ◌≢◌, ℕ, ◌+◌, ◌<◌, ◌≤◌, Bool, true, false, List, [], ◌∷◌, ◌++◌, ◌⊎◌}
use Rattle.std.proofs.Common.{inl, inr, ⊎_elim, length, get_or, set, replicate, append-nil, refl, sym, ◌∙◌, ap, subst, arith, zero, suc}
use Rattle.std.proofs.lemmas.List.{length-set, length-replicate, get_or-set_same, get_or-set_other}
use mathlib.Core.Logic.{dite}
use native.Mathlib.Decide.{ℕ_discrete}
use Rattle.fx_queue.specs.declared.link.Link.{Link}
use Rattle.fx_term.specs.Lists.{Among}
use Rattle.fx_queue.specs.WaitRing.{lone_link, link_at, afters, befores, IsPath, Apart, Lists}
use Rattle.fx_term.proofs.ListLaws.{Among-append, Among-append_left, Among-append_right}

-- the last of i and xs
abbrev last_of : ℕ → List ℕ → ℕ
last_of i [] = i
last_of i (x ∷ xs) = last_of x xs

last_among : (i : ℕ) (xs : List ℕ) → Among (last_of i xs) (i ∷ xs)
last_among i [] = inl refl
last_among i (x ∷ xs) = inr (last_among x xs)

-- the neighbour of the end
path_last : (ls : List Link) (i : ℕ) (xs : List ℕ) (j : ℕ) → IsPath ls i xs j → (link_at ls j).before ≡ last_of i xs
path_last ls i [] j p = p.1
path_last ls i (x ∷ xs) j p = path_last ls x xs j p.2

-- a path in two
cut_path : (ls : List Link) (i : ℕ) (xs : List ℕ) (f : ℕ) (ys : List ℕ) (j : ℕ) → IsPath ls i (xs ++ f ∷ ys) j → IsPath ls i xs f × IsPath ls f ys j
cut_path ls i [] f ys j p = ((p.0, p.1), p.2)
cut_path ls i (x ∷ xs) f ys j p = let t = cut_path ls x xs f ys j p.2 in ((p.0, p.1, t.0), t.1)

join_path : (ls : List Link) (i : ℕ) (xs : List ℕ) (f : ℕ) (ys : List ℕ) (j : ℕ) → IsPath ls i xs f → IsPath ls f ys j → IsPath ls i (xs ++ f ∷ ys) j
join_path ls i [] f ys j p q = (p.0, p.1, q)
join_path ls i (x ∷ xs) f ys j p q = (p.0, p.1, join_path ls x xs f ys j p.2 q)

-- the same links along it
same_path : (ls ms : List Link) (i : ℕ) (xs : List ℕ) (j : ℕ)
    → ((k : ℕ) → Among k (i ∷ xs) → (link_at ms k).after ≡ (link_at ls k).after)
    → ((k : ℕ) → Among k xs → (link_at ms k).before ≡ (link_at ls k).before)
    → (link_at ms j).before ≡ (link_at ls j).before
    → IsPath ls i xs j → IsPath ms i xs j
same_path ls ms i [] j a b e p = (a i (inl refl) ∙ p.0, e ∙ p.1)
same_path ls ms i (x ∷ xs) j a b e p = (
  a i (inl refl) ∙ p.0,
  b x (inl refl) ∙ p.1,
  same_path ls ms x xs j (λ k h. a k (inr h)) (λ k h. b k (inr h)) e p.2,
)

-- the end of a path is another
turned : (ls ms : List Link) (i : ℕ) (xs : List ℕ) (f s : ℕ) → Apart (i ∷ xs)
    → (link_at ms (last_of i xs)).after ≡ s → (link_at ms s).before ≡ last_of i xs
    → ((k : ℕ) → Among k (i ∷ xs) → k ≢ last_of i xs → (link_at ms k).after ≡ (link_at ls k).after)
    → ((k : ℕ) → Among k xs → (link_at ms k).before ≡ (link_at ls k).before)
    → IsPath ls i xs f → IsPath ms i xs s
turned ls ms i [] f s u a b c d p = (a, b)
turned ls ms i (x ∷ xs) f s u a b c d p = (
  c i (inl refl) (λ y. u.0 (subst (λ (k : ℕ). Among k (x ∷ xs)) (sym y) (last_among x xs))) ∙ p.0,
  d x (inl refl) ∙ p.1,
  turned ls ms x xs f s u.1 a b (λ k h. c k (inr h)) (λ k h. d k (inr h)) p.2,
)

apart_left : (xs ys : List ℕ) → Apart (xs ++ ys) → Apart xs
apart_left [] ys u = tt
apart_left (x ∷ xs) ys u = ((λ h. u.0 (Among-append_left xs ys x h)), apart_left xs ys u.1)

apart_right : (xs ys : List ℕ) → Apart (xs ++ ys) → Apart ys
apart_right [] ys u = u
apart_right (x ∷ xs) ys u = apart_right xs ys u.1

-- what stands before f isn't behind it, nor f
apart_both : (xs : List ℕ) (ys : List ℕ) (k : ℕ) → Apart (xs ++ ys) → Among k xs → Among k ys → ⊥
apart_both [] ys k u h l = absurd h
apart_both (x ∷ xs) ys k u h l = ⊎_elim (λ e. u.0 (Among-append_right xs ys x (subst (λ (j : ℕ). Among j ys) e l))) (λ t. apart_both xs ys k u.1 t l) h

apart_snoc : (xs : List ℕ) (f : ℕ) → Apart xs → (Among f xs → ⊥) → Apart (xs ++ f ∷ [])
apart_snoc [] f u n = ((λ h. h), tt)
apart_snoc (x ∷ xs) f u n = (
  (λ h. ⊎_elim u.0 (λ t. ⊎_elim (λ e. n (inl (sym e))) (λ z. z) t) (Among-append xs (f ∷ []) x h)),
  apart_snoc xs f u.1 (λ h. n (inr h)),
)

apart_without : (xs : List ℕ) (f : ℕ) (ys : List ℕ) → Apart (xs ++ f ∷ ys) → Apart (xs ++ ys)
apart_without [] f ys u = u.1
apart_without (x ∷ xs) f ys u = (
  (λ h. u.0 (⊎_elim (λ t. Among-append_left xs (f ∷ ys) x t) (λ t. Among-append_right xs (f ∷ ys) x (inr t)) (Among-append xs ys x h))),
  apart_without xs f ys u.1,
)

-- links after a write
at_same : (ls : List Link) (i j : ℕ) (l : Link) → i < length ls → j ≡ i → link_at (set ls i l) j ≡ l
at_same ls i j l lt e = ap (λ (k : ℕ). link_at (set ls i l) k) e ∙ get_or-set_same ls i l (lone_link i) lt

at_other : (ls : List Link) (i j : ℕ) (l : Link) → j ≢ i → link_at (set ls i l) j ≡ link_at ls j
at_other ls i j l n = get_or-set_other ls i j l (lone_link j) n

module _ (ls : List Link) (i : ℕ) (lt : i < length ls) (x : ℕ) where
  after_here : (j : ℕ) → j ≡ i → (link_at (afters ls i x) j).after ≡ x
  after_here j e = ap (λ (l : Link). l.after) (at_same ls i j _ lt e)

  after_else : (j : ℕ) → j ≢ i → (link_at (afters ls i x) j).after ≡ (link_at ls j).after
  after_else j n = ap (λ (l : Link). l.after) (at_other ls i j _ n)

  after_before : (j : ℕ) → (link_at (afters ls i x) j).before ≡ (link_at ls j).before
  after_before j = dite (ℕ_discrete j i) (λ e. ap (λ (l : Link). l.before) (at_same ls i j _ lt e) ∙ ap (λ (k : ℕ). (link_at ls k).before) (sym e))
      (λ n. ap (λ (l : Link). l.before) (at_other ls i j _ n))

  after_listed : (j : ℕ) → (link_at (afters ls i x) j).listed ≡ (link_at ls j).listed
  after_listed j = dite (ℕ_discrete j i) (λ e. ap (λ (l : Link). l.listed) (at_same ls i j _ lt e) ∙ ap (λ (k : ℕ). (link_at ls k).listed) (sym e))
      (λ n. ap (λ (l : Link). l.listed) (at_other ls i j _ n))

  before_here : (j : ℕ) → j ≡ i → (link_at (befores ls i x) j).before ≡ x
  before_here j e = ap (λ (l : Link). l.before) (at_same ls i j _ lt e)

  before_else : (j : ℕ) → j ≢ i → (link_at (befores ls i x) j).before ≡ (link_at ls j).before
  before_else j n = ap (λ (l : Link). l.before) (at_other ls i j _ n)

  before_after : (j : ℕ) → (link_at (befores ls i x) j).after ≡ (link_at ls j).after
  before_after j = dite (ℕ_discrete j i) (λ e. ap (λ (l : Link). l.after) (at_same ls i j _ lt e) ∙ ap (λ (k : ℕ). (link_at ls k).after) (sym e))
      (λ n. ap (λ (l : Link). l.after) (at_other ls i j _ n))

  before_listed : (j : ℕ) → (link_at (befores ls i x) j).listed ≡ (link_at ls j).listed
  before_listed j = dite (ℕ_discrete j i) (λ e. ap (λ (l : Link). l.listed) (at_same ls i j _ lt e) ∙ ap (λ (k : ℕ). (link_at ls k).listed) (sym e))
      (λ n. ap (λ (l : Link). l.listed) (at_other ls i j _ n))

-- the fiber f is listed as the last
module _ (ls : List Link) (h : ℕ) (xs : List ℕ) (was : Lists ls h xs) (f : ℕ) (below : f < h) (new : Among f xs → ⊥) where
  abbrev p : ℕ
  p = (link_at ls h).before

  p_last : p ≡ last_of h xs
  p_last = path_last ls h xs h was.path

  p_in : Among p (h ∷ xs)
  p_in = subst (λ (k : ℕ). Among k (h ∷ xs)) (sym p_last) (last_among h xs)

  not_f : (k : ℕ) → Among k (h ∷ xs) → k ≢ f
  not_f k m e = ⊎_elim (λ y. omega (arith, y, e, below)) (λ t. new (subst (λ (j : ℕ). Among j xs) e t)) m

  in_links : (k : ℕ) → Among k (h ∷ xs) → k < length ls
  in_links k m = let long = was.long in ⊎_elim {C = k < length ls} (λ y. omega (arith, y, long)) (λ t. let lt = was.within k t in omega (arith, lt, long)) m

  abbrev ls1 : List Link
  ls1 = set ls f (record { before = p; after = h; listed = true })

  f_lt : f < length ls
  f_lt = let long = was.long in omega (arith, below, long)

  long1 : length ls1 ≡ length ls
  long1 = length-set ls f _

  p_lt : p < length ls1
  p_lt = subst (λ (n : ℕ). p < n) (sym long1) (in_links p p_in)

  abbrev ls2 : List Link
  ls2 = afters ls1 p f

  long2 : length ls2 ≡ length ls
  long2 = length-set ls1 p _ ∙ long1

  h_lt : h < length ls2
  h_lt = let long = was.long in let l2 = long2 in omega (arith, long, l2)

  abbrev pub ls3 : List Link
  ls3 = befores ls2 h f

  after3 : (k : ℕ) → k ≢ p → k ≢ f → (link_at ls3 k).after ≡ (link_at ls k).after
  after3 k n m = before_after ls2 h h_lt f k ∙ (after_else ls1 p p_lt f k n ∙ ap (λ (l : Link). l.after) (at_other ls f k _ m))

  before3 : (k : ℕ) → k ≢ h → k ≢ f → (link_at ls3 k).before ≡ (link_at ls k).before
  before3 k n m = before_else ls2 h h_lt f k n ∙ (after_before ls1 p p_lt f k ∙ ap (λ (l : Link). l.before) (at_other ls f k _ m))

  listed3 : (k : ℕ) → (link_at ls3 k).listed ≡ (link_at ls1 k).listed
  listed3 k = before_listed ls2 h h_lt f k ∙ after_listed ls1 p p_lt f k

  h_apart : Apart (h ∷ xs)
  h_apart = ((λ m. let lt = was.within h m in omega (arith, lt)), was.apart)

  f_not_h : f ≢ h
  f_not_h e = omega (arith, e, below)

  path3 : IsPath ls3 h (xs ++ f ∷ []) h
  path3 = join_path ls3 h xs f [] h
      (turned ls ls3 h xs h f h_apart
      (ap (λ (k : ℕ). (link_at ls3 k).after) (sym p_last) ∙ (before_after ls2 h h_lt f p ∙ after_here ls1 p p_lt f p refl))
      (before_else ls2 h h_lt f f f_not_h ∙ (after_before ls1 p p_lt f f ∙ (ap (λ (l : Link). l.before) (at_same ls f f _ f_lt refl) ∙ p_last)))
      (λ k m n. after3 k (λ e. n (e ∙ p_last)) (not_f k m))
      (λ k m. before3 k (λ e. let lt = was.within k m in omega (arith, e, lt)) (not_f k (inr m)))
      was.path) (
        before_after ls2 h h_lt f f ∙ (after_else ls1 p p_lt f f (λ e. not_f p p_in (sym e)) ∙ ap (λ (l : Link). l.after) (at_same ls f f _ f_lt refl)),
        before_here ls2 h h_lt f h refl,
      )

  pub lists_more : Lists ls3 h (xs ++ f ∷ [])
  lists_more = record {
    long = length-set ls2 h _ ∙ (long2 ∙ was.long);
    path = path3;
    apart = apart_snoc xs f was.apart new;
    within =
        λ x m. ⊎_elim {C = x < h} (was.within x)
        (λ t. ⊎_elim {C = x < h} (λ e. subst (λ (k : ℕ). k < h) (sym e) below) (λ z. absurd z) t) (Among-append xs (f ∷ []) x m);
    listed = λ x m. listed3 x ∙ ⊎_elim (λ t. ap (λ (l : Link). l.listed) (at_other ls f x _ (not_f x (inr t))) ∙ was.listed x t)
        (λ t. ⊎_elim (λ e. ap (λ (l : Link). l.listed) (at_same ls f x _ f_lt e)) (λ z. absurd z) t) (Among-append xs (f ∷ []) x m);
    free = λ x lt n. listed3 x ∙ (ap (λ (l : Link). l.listed) (at_other ls f x _ (λ e. n (Among-append_right xs (f ∷ []) x (inl e))))
        ∙ was.free x lt (λ t. n (Among-append_left xs (f ∷ []) x t)));
  }

abbrev first_of : List ℕ → ℕ → ℕ
first_of [] h = h
first_of (z ∷ zs) h = z

path_first : (ls : List Link) (i : ℕ) (xs : List ℕ) (j : ℕ) → IsPath ls i xs j → (link_at ls i).after ≡ first_of xs j
path_first ls i [] j p = p.0
path_first ls i (x ∷ xs) j p = p.0

first_in : (xs : List ℕ) (h : ℕ) → (first_of xs h ≡ h) ⊎ Among (first_of xs h) xs
first_in [] h = inl refl
first_in (x ∷ xs) h = inr (inl refl)

-- the fiber f, which stands between ys and zs, is taken off
module _ (ls : List Link) (h : ℕ) (ys : List ℕ) (f : ℕ) (zs : List ℕ) (was : Lists ls h (ys ++ f ∷ zs)) where
  halves : IsPath ls h ys f × IsPath ls f zs h
  halves = cut_path ls h ys f zs h was.path

  abbrev q : ℕ
  q = (link_at ls f).before

  abbrev s : ℕ
  s = (link_at ls f).after

  q_last : q ≡ last_of h ys
  q_last = path_last ls h ys f halves.0

  s_first : s ≡ first_of zs h
  s_first = path_first ls f zs h halves.1

  in_ys : (k : ℕ) → Among k ys → Among k (ys ++ f ∷ zs)
  in_ys k m = Among-append_left ys (f ∷ zs) k m

  in_zs : (k : ℕ) → Among k zs → Among k (ys ++ f ∷ zs)
  in_zs k m = Among-append_right ys (f ∷ zs) k (inr m)

  f_in : Among f (ys ++ f ∷ zs)
  f_in = Among-append_right ys (f ∷ zs) f (inl refl)

  f_low : f < h
  f_low = was.within f f_in

  ys_not_f : (k : ℕ) → Among k ys → k ≢ f
  ys_not_f k m e = apart_both ys (f ∷ zs) k was.apart m (inl e)

  zs_not_f : (k : ℕ) → Among k zs → k ≢ f
  zs_not_f k m e = (apart_right ys (f ∷ zs) was.apart).0 (subst (λ (j : ℕ). Among j zs) e m)

  ys_zs : (k : ℕ) → Among k ys → Among k zs → ⊥
  ys_zs k m n = apart_both ys (f ∷ zs) k was.apart m (inr n)

  q_in : Among q (h ∷ ys)
  q_in = subst (λ (k : ℕ). Among k (h ∷ ys)) (sym q_last) (last_among h ys)

  q_not_f : q ≢ f
  q_not_f e = ⊎_elim (λ y. let lt = f_low in omega (arith, e, y, lt)) (λ t. ys_not_f q t e) q_in

  s_in : (s ≡ h) ⊎ Among s zs
  s_in = ⊎_elim (λ y. inl (s_first ∙ y)) (λ t. inr (subst (λ (k : ℕ). Among k zs) (sym s_first) t)) (first_in zs h)

  s_not_f : s ≢ f
  s_not_f e = ⊎_elim (λ y. let lt = f_low in omega (arith, e, y, lt)) (λ t. zs_not_f s t e) s_in

  q_lt : q < length ls
  q_lt =
      let long = was.long in ⊎_elim {C = q < length ls} (λ y. omega (arith, y, long)) (λ t. let lt = was.within q (in_ys q t) in omega (arith, lt, long)) q_in

  abbrev ks1 : List Link
  ks1 = afters ls q s

  s_lt : s < length ks1
  s_lt = let long = was.long in let l1 = length-set ls q (record (link_at ls q) { after = s }) in
      ⊎_elim {C = s < length ks1} (λ y. omega (arith, y, long, l1)) (λ t. let lt = was.within s (in_zs s t) in omega (arith, lt, long, l1)) s_in

  abbrev ks2 : List Link
  ks2 = befores ks1 s q

  abbrev pub ks3 : List Link
  ks3 = set ks2 f (lone_link f)

  long3 : length ks3 ≡ h + 1
  long3 = length-set ks2 f _ ∙ (length-set ks1 s _ ∙ (length-set ls q _ ∙ was.long))

  f_lt2 : f < length ks2
  f_lt2 = let lt = f_low in let l = length-set ks2 f (lone_link f) in let m = long3 in omega (arith, lt, l, m)

  after_k : (k : ℕ) → k ≢ f → k ≢ q → (link_at ks3 k).after ≡ (link_at ls k).after
  after_k k n m = ap (λ (l : Link). l.after) (at_other ks2 f k _ n) ∙ (before_after ks1 s s_lt q k ∙ after_else ls q q_lt s k m)

  before_k : (k : ℕ) → k ≢ f → k ≢ s → (link_at ks3 k).before ≡ (link_at ls k).before
  before_k k n m = ap (λ (l : Link). l.before) (at_other ks2 f k _ n) ∙ (before_else ks1 s s_lt q k m ∙ after_before ls q q_lt s k)

  listed_k : (k : ℕ) → k ≢ f → (link_at ks3 k).listed ≡ (link_at ls k).listed
  listed_k k n = ap (λ (l : Link). l.listed) (at_other ks2 f k _ n) ∙ (before_listed ks1 s s_lt q k ∙ after_listed ls q q_lt s k)

  h_ys : Apart (h ∷ ys)
  h_ys = ((λ m. let lt = was.within h (in_ys h m) in omega (arith, lt)), apart_left ys (f ∷ zs) was.apart)

  not_s : (k : ℕ) → Among k ys → k ≢ s
  not_s k m e = ⊎_elim (λ y. let lt = was.within k (in_ys k m) in omega (arith, e, y, lt)) (λ t. ys_zs k m (subst (λ (j : ℕ). Among j zs) (sym e) t)) s_in

  h_not_f : h ≢ f
  h_not_f e = let lt = f_low in omega (arith, e, lt)

  not_f_in : (k : ℕ) → Among k (h ∷ ys) → k ≢ f
  not_f_in k m = ⊎_elim {C = k ≢ f} (λ y e. h_not_f (sym y ∙ e)) (λ t. ys_not_f k t) m

  front : IsPath ks3 h ys s
  front = turned ls ks3 h ys f s h_ys
      (ap (λ (k : ℕ). (link_at ks3 k).after) (sym q_last) ∙ (ap (λ (l : Link). l.after) (at_other ks2 f q _ q_not_f) ∙ (before_after ks1 s s_lt q q
      ∙ after_here ls q q_lt s q refl)))
      (ap (λ (l : Link). l.before) (at_other ks2 f s _ s_not_f) ∙ (before_here ks1 s s_lt q s refl ∙ q_last))
      (λ k m n. after_k k (not_f_in k m) (λ e. n (e ∙ q_last)))
      (λ k m. before_k k (ys_not_f k m) (not_s k m))
      halves.0

  zs_not_q : (k : ℕ) → Among k zs → k ≢ q
  zs_not_q k m e = ⊎_elim (λ y. let lt = was.within k (in_zs k m) in omega (arith, e, y, lt)) (λ t. ys_zs q t (subst (λ (j : ℕ). Among j zs) e m)) q_in

  whole_path : (ws : List ℕ) → ws ≡ zs → IsPath ls f ws h → IsPath ks3 h (ys ++ ws) h
  whole_path [] e t = subst (λ (l : List ℕ). IsPath ks3 h l h) (sym (append-nil ys)) (subst (λ (k : ℕ). IsPath ks3 h ys k) t.0 front)
  whole_path (z ∷ ws) e t =
      let at_z : s ≡ z = t.0 in
      let in_ws : (k : ℕ) → Among k (z ∷ ws) → Among k zs = λ k m. subst (λ (l : List ℕ). Among k l) e m in
      let apart_ws : Apart (z ∷ ws) = subst Apart (sym e) (apart_right ys (f ∷ zs) was.apart).1 in
      join_path ks3 h ys z ws h (subst (λ (k : ℕ). IsPath ks3 h ys k) at_z front)
      (same_path ls ks3 z ws h
      (λ k m. after_k k (zs_not_f k (in_ws k m)) (zs_not_q k (in_ws k m)))
      (λ k m. before_k k (zs_not_f k (in_ws k (inr m))) (λ y. apart_ws.0 (subst (λ (j : ℕ). Among j ws) (y ∙ at_z) m)))
      (before_k h h_not_f (λ y. let lt = was.within z (in_zs z (in_ws z (inl refl))) in omega (arith, y, at_z, lt)))
      t.2)

  still : (k : ℕ) → Among k (ys ++ zs) → Among k (ys ++ f ∷ zs)
  still k m = ⊎_elim (in_ys k) (in_zs k) (Among-append ys zs k m)

  still_not_f : (k : ℕ) → Among k (ys ++ zs) → k ≢ f
  still_not_f k m = ⊎_elim {C = k ≢ f} (ys_not_f k) (zs_not_f k) (Among-append ys zs k m)

  pub lists_less : Lists ks3 h (ys ++ zs)
  lists_less = record {
    long = long3;
    path = whole_path zs refl halves.1;
    apart = apart_without ys f zs was.apart;
    within = λ x m. was.within x (still x m);
    listed = λ x m. listed_k x (still_not_f x m) ∙ was.listed x (still x m);
    free = λ x lt n. dite (ℕ_discrete x f)
        (λ e. ap (λ (l : Link). l.listed) (at_same ks2 f x _ f_lt2 e))
        (λ m. listed_k x m ∙ was.free x lt (λ t. ⊎_elim (λ y. n (Among-append_left ys zs x y))
        (λ y. ⊎_elim (λ z. m z) (λ z. n (Among-append_right ys zs x z)) y) (Among-append ys (f ∷ zs) x t)));
  }

all_alike : (m k : ℕ) (d l : Link) → k < m → get_or (replicate m l) k d ≡ l
all_alike zero k d l lt = absurd (omega (arith, lt))
all_alike (suc m) zero d l lt = refl
all_alike (suc m) (suc k) d l lt = all_alike m k d l (omega (arith, lt))

pub none_waits : (h n : ℕ) (ls : List Link) → n ≡ h + 1 → ls ≡ replicate n (record { before = h; after = h; listed = false }) → Lists ls h []
none_waits h n ls e is = subst (λ (l : List Link). Lists l h []) (sym is) record {
  long = length-replicate n _ ∙ e;
  path = (
    ap (λ (l : Link). l.after) (all_alike n h (lone_link h) _ (omega (arith, e))),
    ap (λ (l : Link). l.before) (all_alike n h (lone_link h) _ (omega (arith, e))),
  );
  apart = tt;
  within = λ x m. absurd m;
  listed = λ x m. absurd m;
  free = λ x lt m. ap (λ (l : Link). l.listed) (all_alike n x (lone_link x) _ (omega (arith, lt, e)));
}

-- a fiber is listed or not
pub find : (f : ℕ) (xs : List ℕ) → ((ys : List ℕ) × (zs : List ℕ) × (xs ≡ ys ++ f ∷ zs)) ⊎ (Among f xs → ⊥)
find f [] = inr (λ m. m)
find f (x ∷ xs) = dite (ℕ_discrete x f)
    (λ e. inl ([], xs, ap (λ (k : ℕ). k ∷ xs) e))
    (λ n. ⊎_elim (λ t. inl (x ∷ t.0, t.1, ap (λ l. x ∷ l) t.2)) (λ t. inr (λ m. ⊎_elim (λ e. n (sym e)) t m)) (find f xs))

-- the same of links that are known by equations
pub listed_by : (ls n1 n2 n3 : List Link) (h f : ℕ) (last : Link) (xs : List ℕ) → Lists ls h xs → f < h → (Among f xs → ⊥) → last ≡ link_at ls h
    → n1 ≡ set ls f (record { before = last.before; after = h; listed = true }) → n2 ≡ afters n1 last.before f → n3 ≡ befores n2 h f
    → Lists n3 h (xs ++ f ∷ [])
listed_by ls n1 n2 n3 h f last xs was below new e0 e1 e2 e3 =
    let a1 : n1 ≡ set ls f (record { before = (link_at ls h).before; after = h; listed = true }) = e1
    ∙ (λ i. set ls f (record { before = (e0 i).before; after = h; listed = true })) in
    let a2 : n2 ≡ afters (set ls f (record { before = (link_at ls h).before; after = h; listed = true })) (link_at ls h).before f = e2
    ∙ (λ i. afters (a1 i) (e0 i).before f) in
    subst (λ (l : List Link). Lists l h (xs ++ f ∷ [])) (sym (e3 ∙ ap (λ (l : List Link). befores l h f) a2)) (lists_more ls h xs was f below new)

pub removed_by : (ls n1 n2 n3 : List Link) (h f : ℕ) (link : Link) (ys zs : List ℕ) → Lists ls h (ys ++ f ∷ zs) → link ≡ link_at ls f
    → n1 ≡ afters ls link.before link.after → n2 ≡ befores n1 link.after link.before → n3 ≡ set n2 f (lone_link f) → Lists n3 h (ys ++ zs)
removed_by ls n1 n2 n3 h f link ys zs was e0 e1 e2 e3 =
    let a1 : n1 ≡ afters ls (link_at ls f).before (link_at ls f).after = e1 ∙ (λ i. afters ls (e0 i).before (e0 i).after) in
    let a2 : n2 ≡ befores (afters ls (link_at ls f).before (link_at ls f).after) (link_at ls f).after (link_at ls f).before = e2
    ∙ (λ i. befores (a1 i) (e0 i).after (e0 i).before) in
    subst (λ (l : List Link). Lists l h (ys ++ zs)) (sym (e3 ∙ ap (λ (l : List Link). set l f (lone_link f)) a2)) (lists_less ls h ys f zs was)

pub must_be : (ls : List Link) (h f : ℕ) (ys zs : List ℕ) → Lists ls h (ys ++ f ∷ zs) → (f < h) × ((link_at ls f).listed ≡ true)
must_be ls h f ys zs was = let m = Among-append_right ys (f ∷ zs) f (inl refl) in (was.within f m, was.listed f m)

pub not_true : (b : Bool) → not b ≡ true → b ≡ true → ⊥
not_true true e f = let z : ⊥ = cc in z
not_true false e f = let z : ⊥ = cc in z

pub none_first : (ls : List Link) (h : ℕ) → Lists ls h [] → (link_at ls h).after ≡ h
none_first ls h was = was.path.0

pub one_first : (ls : List Link) (h x : ℕ) (xs : List ℕ) → Lists ls h (x ∷ xs) → (link_at ls h).after ≡ x
one_first ls h x xs was = was.path.0

pub true_false : {P : Type 0} (b : Bool) → b ≡ true → b ≡ false → P
true_false b t f = let e : true ≡ false = sym t ∙ f in let z : ⊥ = cc in absurd z

-- what waits after a call of a fiber below the head, and of one that isn't
pub after_add : (ls ls' : List Link) (h h' f : ℕ) → Dec (f < h)
    → ((xs : List ℕ) → Lists ls h xs → Among f xs → Lists ls' h' xs)
    → ((xs : List ℕ) → Lists ls h xs → f < h → (Among f xs → ⊥) → Lists ls' h' (xs ++ f ∷ []))
    → (h ≤ f → (ls' ≡ ls) × (h' ≡ h))
    → (xs : List ℕ) × Lists ls h xs → (xs : List ℕ) × Lists ls' h' xs
after_add ls ls' h h' f (yes lt) listed last beyond was = ⊎_elim
    (λ t. (was.0, listed was.0 was.1 (subst (λ (l : List ℕ). Among f l) (sym t.2) (Among-append_right t.0 (f ∷ t.1) f (inl refl)))))
    (λ n. (was.0 ++ f ∷ [], last was.0 was.1 lt n)) (find f was.0)
after_add ls ls' h h' f (no ge) listed last beyond was =
    let e = beyond (omega (arith, ge)) in
    (was.0, subst (λ (l : List Link). Lists l h' was.0) (sym e.0) (subst (λ (k : ℕ). Lists ls k was.0) (sym e.1) was.1))

pub after_remove : (ls ls' : List Link) (h h' f : ℕ)
    → ((ys zs : List ℕ) → Lists ls h (ys ++ f ∷ zs) → Lists ls' h' (ys ++ zs))
    → ((xs : List ℕ) → Lists ls h xs → (Among f xs → ⊥) → Lists ls' h' xs)
    → (xs : List ℕ) × Lists ls h xs → (xs : List ℕ) × Lists ls' h' xs
after_remove ls ls' h h' f there absent was = ⊎_elim
    (λ t. (t.0 ++ t.1, there t.0 t.1 (subst (λ (l : List ℕ). Lists ls h l) t.2 was.1)))
    (λ n. (was.0, absent was.0 was.1 n)) (find f was.0)

pub after_first : (ls ls' : List Link) (h h' : ℕ) (xs : List ℕ)
    → (Lists ls h [] → Lists ls' h' [])
    → ((x : ℕ) (rest : List ℕ) → Lists ls h (x ∷ rest) → Lists ls' h' rest)
    → Lists ls h xs → (ys : List ℕ) × Lists ls' h' ys
after_first ls ls' h h' [] none first was = ([], none was)
after_first ls ls' h h' (x ∷ xs) none first was = (xs, first x xs was)
