-- Laws of registers in place of names.
use Rattle.std.specs.Prelude.{◌≡◌, ℕ, suc, ◌≤◌, Bool, true, false, if◌then◌else◌, ◌==◌, nat_lt, Some, None, List, slice_index}
use Rattle.std.proofs.Common.{refl, sym, ◌∙◌, ap, arith}
use Rattle.std.proofs.lemmas.Bool.{ltb-true, ltb-false, lt-ltb, eqb-true, eqb-false}
use Rattle.std.proofs.lemmas.Bool.Decides.{nat_tests}
use Rattle.fx_term.specs.declared.node.Arg.{Arg}
use Rattle.fx_term.specs.declared.node.Arg.TheVariants.{Number, Slot}
use Rattle.fx_term.specs.Term.{Term, Pure, Raise, Let, Handle, If, For, Mask, Poll, OnCancel, Bracket, BracketCase, Start, Join, Cancel}
use Rattle.fx_term.specs.Term.{First, Offer, TryOffer, TryTake, Masked, Opened, InUse, InUseCase, InRelease, Loop, put_arg, put}
use Rattle.fx_term.specs.Fill.{fill_arg, lower, fill, AgreeBelow}
use Rattle.fx_term.specs.Scope.{IsArgBelow, HasLevels}

-- a binder at the bound, or above it, leaves the names below the bound
pub lower_above : (l x : ℕ) → l ≤ x → lower l x ≡ l
lower_above l x h = grind (arith, nat_tests)

pub lower_below : (l x : ℕ) → x ≤ l → lower l x ≡ x
lower_below l x h = grind (arith, nat_tests)

lower_le : (l x : ℕ) → lower l x ≤ l
lower_le l x = grind (arith, nat_tests)

agree_lower : (e x : ℕ) (ns ms : List ℕ) → AgreeBelow e ns ms → AgreeBelow (lower e x) ns ms
agree_lower e x ns ms h i p = let q = lower_le e x in h i (omega arith)

fill_arg_agree : (e : ℕ) (ns ms : List ℕ) (a : Arg) → AgreeBelow e ns ms → fill_arg e ns a ≡ fill_arg e ms a
fill_arg_agree e ns ms (Number n) h = refl
fill_arg_agree e ns ms (Slot x) h = by_test (nat_lt x e) refl
  where
    by_test : (b : Bool) → nat_lt x e ≡ b → (if b then Number (slice_index ns x) else Slot x) ≡ (if b then Number (slice_index ms x) else Slot x)
    by_test true t = ap Number (h x (ltb-true x e t))
    by_test false t = refl

-- only the numbers below the bound are put in
pub fill_agree : (e : ℕ) (ns ms : List ℕ) (t : Term) → AgreeBelow e ns ms → fill e ns t ≡ fill e ms t
fill_agree e ns ms (Pure a) h = let p = fill_arg_agree e ns ms a h in cc
fill_agree e ns ms (Raise a) h = let p = fill_arg_agree e ns ms a h in cc
fill_agree e ns ms (Let None a b) h = let p = fill_agree e ns ms a h in let q = fill_agree e ns ms b h in cc
fill_agree e ns ms (Let (Some x) a b) h = let p = fill_agree e ns ms a h in let q = fill_agree (lower e x) ns ms b (agree_lower e x ns ms h) in cc
fill_agree e ns ms (Handle a None b) h = let p = fill_agree e ns ms a h in let q = fill_agree e ns ms b h in cc
fill_agree e ns ms (Handle a (Some x) b) h = let p = fill_agree e ns ms a h in let q = fill_agree (lower e x) ns ms b (agree_lower e x ns ms h) in cc
fill_agree e ns ms (If v a b) h = let o = fill_arg_agree e ns ms v h in let p = fill_agree e ns ms a h in let q = fill_agree e ns ms b h in cc
fill_agree e ns ms (For x c a) h = let q = fill_agree (lower e x) ns ms a (agree_lower e x ns ms h) in cc
fill_agree e ns ms (Mask x a) h = let q = fill_agree (lower e x) ns ms a (agree_lower e x ns ms h) in cc
fill_agree e ns ms (Poll v a) h = let o = fill_arg_agree e ns ms v h in let p = fill_agree e ns ms a h in cc
fill_agree e ns ms (OnCancel a b) h = let p = fill_agree e ns ms a h in let q = fill_agree e ns ms b h in cc
fill_agree e ns ms (Bracket None a b c) h = let p = fill_agree e ns ms a h in let q = fill_agree e ns ms b h in let r = fill_agree e ns ms c h in cc
fill_agree e ns ms (Bracket (Some x) a b c) h =
    let k = agree_lower e x ns ms h in let p = fill_agree e ns ms a h in let q = fill_agree (lower e x) ns ms b k in let r = fill_agree (lower e x) ns ms c k in
    cc
fill_agree e ns ms (BracketCase x a u y b z c d) h =
    let k = agree_lower e x ns ms h in let o = fill_agree e ns ms a h in let p = fill_agree (lower e x) ns ms u k in
    let q = fill_agree (lower (lower e x) y) ns ms b (agree_lower (lower e x) y ns ms k) in
    let r = fill_agree (lower (lower e x) z) ns ms c (agree_lower (lower e x) z ns ms k) in
    let s = fill_agree (lower e x) ns ms d k in cc
fill_agree e ns ms (Start x a b) h = let p = fill_agree e ns ms a h in let q = fill_agree (lower e x) ns ms b (agree_lower e x ns ms h) in cc
fill_agree e ns ms (Join v x a y b c) h =
    let o = fill_arg_agree e ns ms v h in let p = fill_agree (lower e x) ns ms a (agree_lower e x ns ms h) in
    let q = fill_agree (lower e y) ns ms b (agree_lower e y ns ms h) in let r = fill_agree e ns ms c h in cc
fill_agree e ns ms (Cancel v) h = let o = fill_arg_agree e ns ms v h in cc
fill_agree e ns ms (First v w) h = let o = fill_arg_agree e ns ms v h in let p = fill_arg_agree e ns ms w h in cc
fill_agree e ns ms (Offer k v) h = let o = fill_arg_agree e ns ms v h in cc
fill_agree e ns ms (TryOffer k v) h = let o = fill_arg_agree e ns ms v h in cc
fill_agree e ns ms (TryTake k x a b) h = let p = fill_agree (lower e x) ns ms a (agree_lower e x ns ms h) in let q = fill_agree e ns ms b h in cc
fill_agree e ns ms (Masked k a) h = let p = fill_agree e ns ms a h in cc
fill_agree e ns ms (Opened k a) h = let p = fill_agree e ns ms a h in cc
fill_agree e ns ms (InUse k a b) h = let p = fill_agree e ns ms a h in let q = fill_agree e ns ms b h in cc
fill_agree e ns ms (InUseCase k a y b z c d) h =
    let o = fill_agree e ns ms a h in let p = fill_agree (lower e y) ns ms b (agree_lower e y ns ms h) in
    let q = fill_agree (lower e z) ns ms c (agree_lower e z ns ms h) in let r = fill_agree e ns ms d h in cc
fill_agree e ns ms (InRelease k a v) h = let p = fill_agree e ns ms a h in cc
fill_agree e ns ms (Loop x k c a) h = let q = fill_agree (lower e x) ns ms a (agree_lower e x ns ms h) in cc
fill_agree e ns ms _ h = refl

fill_arg_scope : (d l : ℕ) (ns : List ℕ) (a : Arg) → IsArgBelow d a → d ≤ l → fill_arg l ns a ≡ fill_arg d ns a
fill_arg_scope d l ns (Number n) s h = refl
fill_arg_scope d l ns (Slot x) s h = let p : nat_lt x d ≡ true = lt-ltb x d s in let q : nat_lt x l ≡ true = lt-ltb x l (omega arith) in rw (p, q)

lower_scope : (d l x : ℕ) → x ≡ d → d ≤ l → lower l x ≡ lower d x
lower_scope d l x e h = lower_below l x (omega arith) ∙ sym (lower_below d x (omega arith))

under : (d l x : ℕ) (ns : List ℕ) (t : Term) → x ≡ d → d ≤ l → fill (lower l x) ns t ≡ fill (lower d x) ns t
under d l x ns t e h = ap (λ (b : ℕ). fill b ns t) (lower_scope d l x e h)

under_both : (d l x y : ℕ) (ns : List ℕ) (t : Term) → x ≡ d → d ≤ l → fill (lower (lower l x) y) ns t ≡ fill (lower (lower d x) y) ns t
under_both d l x y ns t e h = ap (λ (b : ℕ). fill (lower b y) ns t) (lower_scope d l x e h)

-- in a term whose free names are below d, a bound above d puts in no more
pub fill_scope : (d l : ℕ) (ns : List ℕ) (t : Term) → HasLevels d t → d ≤ l → fill l ns t ≡ fill d ns t
fill_scope d l ns (Pure a) s h = let p = fill_arg_scope d l ns a s h in cc
fill_scope d l ns (Raise a) s h = let p = fill_arg_scope d l ns a s h in cc
fill_scope d l ns (Let None a b) s h = let p = fill_scope d l ns a s.0 h in let q = fill_scope d l ns b s.2 h in cc
fill_scope d l ns (Let (Some x) a b) s h = let p = fill_scope d l ns a s.0 h in let q = under d l x ns b s.1 h in cc
fill_scope d l ns (Handle a None b) s h = let p = fill_scope d l ns a s.0 h in let q = fill_scope d l ns b s.2 h in cc
fill_scope d l ns (Handle a (Some x) b) s h = let p = fill_scope d l ns a s.0 h in let q = under d l x ns b s.1 h in cc
fill_scope d l ns (If v a b) s h = let o = fill_arg_scope d l ns v s.0 h in let p = fill_scope d l ns a s.1 h in let q = fill_scope d l ns b s.2 h in cc
fill_scope d l ns (For x c a) s h = let q = under d l x ns a s.0 h in cc
fill_scope d l ns (Mask x a) s h = let q = under d l x ns a s.0 h in cc
fill_scope d l ns (Poll v a) s h = let o = fill_arg_scope d l ns v s.0 h in let p = fill_scope d l ns a s.1 h in cc
fill_scope d l ns (OnCancel a b) s h = let p = fill_scope d l ns a s.0 h in let q = fill_scope d l ns b s.1 h in cc
fill_scope d l ns (Bracket None a b c) s h = let p = fill_scope d l ns a s.0 h in let q = fill_scope d l ns b s.2 h in let r = fill_scope d l ns c s.3 h in cc
fill_scope d l ns (Bracket (Some x) a b c) s h = let p = fill_scope d l ns a s.0 h in let q = under d l x ns b s.1 h in let r = under d l x ns c s.1 h in cc
fill_scope d l ns (BracketCase x a u y b z c e) s h =
    let o = fill_scope d l ns a s.0 h in let p = under d l x ns u s.1 h in let q = under_both d l x y ns b s.1 h in
    let r = under_both d l x z ns c s.1 h in let t = under d l x ns e s.1 h in cc
fill_scope d l ns (Start x a b) s h = let p = fill_scope d l ns a s.0 h in let q = under d l x ns b s.1 h in cc
fill_scope d l ns (Join v x a y b c) s h =
    let o = fill_arg_scope d l ns v s.0 h in let p = under d l x ns a s.1 h in let q = under d l y ns b s.3 h in let r = fill_scope d l ns c s.5 h in cc
fill_scope d l ns (Cancel v) s h = let o = fill_arg_scope d l ns v s h in cc
fill_scope d l ns (First v w) s h = let o = fill_arg_scope d l ns v s.0 h in let p = fill_arg_scope d l ns w s.1 h in cc
fill_scope d l ns (Offer k v) s h = let o = fill_arg_scope d l ns v s h in cc
fill_scope d l ns (TryOffer k v) s h = let o = fill_arg_scope d l ns v s h in cc
fill_scope d l ns (TryTake k x a b) s h = let p = under d l x ns a s.0 h in let q = fill_scope d l ns b s.2 h in cc
fill_scope d l ns (Masked k a) s h = absurd s
fill_scope d l ns (Opened k a) s h = absurd s
fill_scope d l ns (InUse k a b) s h = absurd s
fill_scope d l ns (InUseCase k a y b z c e) s h = absurd s
fill_scope d l ns (InRelease k a v) s h = absurd s
fill_scope d l ns (Loop x k c a) s h = absurd s
fill_scope d l ns _ s h = refl

-- the numbers above the free names of a term make no difference
pub fill_same : (d l m : ℕ) (ns ms : List ℕ) (t : Term) → HasLevels d t → d ≤ l → d ≤ m → AgreeBelow d ns ms → fill l ns t ≡ fill m ms t
fill_same d l m ns ms t s h k e = fill_scope d l ns t s h ∙ fill_agree d ns ms t e ∙ sym (fill_scope d m ms t s k)

module _ (x n : ℕ) (ns ms : List ℕ) (below : AgreeBelow x ns ms) (at : slice_index ms x ≡ n) where
  put_fill_arg : (a : Arg) → put_arg x n (fill_arg x ns a) ≡ fill_arg (suc x) ms a
  put_fill_arg (Number m) = refl
  put_fill_arg (Slot y) = by_order (nat_lt y x) refl (y == x) refl (nat_lt y (suc x)) refl
    where
      by_order : (b : Bool) → nat_lt y x ≡ b → (c : Bool) → (y == x) ≡ c → (d : Bool) → nat_lt y (suc x) ≡ d
          → put_arg x n (if b then Number (slice_index ns y) else Slot y) ≡ (if d then Number (slice_index ms y) else Slot y)
      by_order true p c q true r = ap Number (below y (ltb-true y x p))
      by_order true p c q false r = let u = ltb-true y x p in let v = ltb-false y (suc x) r in absurd (omega arith)
      by_order false p true q true r = rw q (ap Number (sym at ∙ ap (λ (i : ℕ). slice_index ms i) (sym (eqb-true y x q))))
      by_order false p true q false r = let u = eqb-true y x q in let v = ltb-false y (suc x) r in absurd (omega arith)
      by_order false p false q true r = let u = ltb-false y x p in let v = ltb-true y (suc x) r in let w = eqb-false y x q in absurd (w (omega arith))
      by_order false p false q false r = rw q refl

  lower_x : (d y : ℕ) → y ≡ d → suc x ≤ d → lower x y ≡ x
  lower_x d y e h = lower_above x y (omega arith)

  lower_suc_x : (d y : ℕ) → y ≡ d → suc x ≤ d → lower (suc x) y ≡ suc x
  lower_suc_x d y e h = lower_above (suc x) y (omega arith)

  put_under : (d y : ℕ) (t : Term) → y ≡ d → suc x ≤ d → put x n (fill x ns t) ≡ fill (suc x) ms t
      → put x n (fill (lower x y) ns t) ≡ fill (lower (suc x) y) ms t
  put_under d y t e h p = rw (lower_x d y e h, lower_suc_x d y e h) p

  put_under_both : (d y z : ℕ) (t : Term) → y ≡ d → z ≡ suc d → suc x ≤ d → put x n (fill x ns t) ≡ fill (suc x) ms t
      → put x n (fill (lower (lower x y) z) ns t) ≡ fill (lower (lower (suc x) y) z) ms t
  put_under_both d y z t e g h p = rw (lower_x d y e h, lower_suc_x d y e h) (put_under (suc d) z t g (omega arith) p)

  -- a number put for the first name above those that are filled fills that name too
  pub put_fill : (d : ℕ) (t : Term) → HasLevels d t → suc x ≤ d → put x n (fill x ns t) ≡ fill (suc x) ms t
  put_fill d (Pure a) s h = let p = put_fill_arg a in cc
  put_fill d (Raise a) s h = let p = put_fill_arg a in cc
  put_fill d (Let None a b) s h = let p = put_fill d a s.0 h in let q = put_fill d b s.2 h in cc
  put_fill d (Let (Some y) a b) s h = let p = put_fill d a s.0 h in let q = put_under d y b s.1 h (put_fill (suc d) b s.2 (omega arith)) in cc
  put_fill d (Handle a None b) s h = let p = put_fill d a s.0 h in let q = put_fill d b s.2 h in cc
  put_fill d (Handle a (Some y) b) s h = let p = put_fill d a s.0 h in let q = put_under d y b s.1 h (put_fill (suc d) b s.2 (omega arith)) in cc
  put_fill d (If v a b) s h = let o = put_fill_arg v in let p = put_fill d a s.1 h in let q = put_fill d b s.2 h in cc
  put_fill d (For y c a) s h = let q = put_under d y a s.0 h (put_fill (suc d) a s.1 (omega arith)) in cc
  put_fill d (Mask y a) s h = let q = put_under d y a s.0 h (put_fill (suc d) a s.1 (omega arith)) in cc
  put_fill d (Poll v a) s h = let o = put_fill_arg v in let p = put_fill d a s.1 h in cc
  put_fill d (OnCancel a b) s h = let p = put_fill d a s.0 h in let q = put_fill d b s.1 h in cc
  put_fill d (Bracket None a b c) s h = let p = put_fill d a s.0 h in let q = put_fill d b s.2 h in let r = put_fill d c s.3 h in cc
  put_fill d (Bracket (Some y) a b c) s h =
      let p = put_fill d a s.0 h in
      let q = put_under d y b s.1 h (put_fill (suc d) b s.2 (omega arith)) in
      let r = put_under d y c s.1 h (put_fill (suc d) c s.3 (omega arith)) in cc
  put_fill d (BracketCase y a u z b w c e) s h =
      let o = put_fill d a s.0 h in
      let p = put_under d y u s.1 h (put_fill (suc d) u s.2 (omega arith)) in
      let q = put_under_both d y z b s.1 s.3 h (put_fill (suc (suc d)) b s.4 (omega arith)) in
      let r = put_under_both d y w c s.1 s.5 h (put_fill (suc (suc d)) c s.6 (omega arith)) in
      let t = put_under d y e s.1 h (put_fill (suc d) e s.7 (omega arith)) in cc
  put_fill d (Start y a b) s h = let p = put_fill d a s.0 h in let q = put_under d y b s.1 h (put_fill (suc d) b s.2 (omega arith)) in cc
  put_fill d (Join v y a z b c) s h =
      let o = put_fill_arg v in
      let p = put_under d y a s.1 h (put_fill (suc d) a s.2 (omega arith)) in
      let q = put_under d z b s.3 h (put_fill (suc d) b s.4 (omega arith)) in
      let r = put_fill d c s.5 h in cc
  put_fill d (Cancel v) s h = let o = put_fill_arg v in cc
  put_fill d (First v w) s h = let o = put_fill_arg v in let p = put_fill_arg w in cc
  put_fill d (Offer k v) s h = let o = put_fill_arg v in cc
  put_fill d (TryOffer k v) s h = let o = put_fill_arg v in cc
  put_fill d (TryTake k y a b) s h = let p = put_under d y a s.0 h (put_fill (suc d) a s.1 (omega arith)) in let q = put_fill d b s.2 h in cc
  put_fill d (Masked k a) s h = absurd s
  put_fill d (Opened k a) s h = absurd s
  put_fill d (InUse k a b) s h = absurd s
  put_fill d (InUseCase k a y b z c e) s h = absurd s
  put_fill d (InRelease k a v) s h = absurd s
  put_fill d (Loop y k c a) s h = absurd s
  put_fill d _ s h = refl
