-- A term of which no name is filled.
use Rattle.std.proofs.Common.{◌≡◌, ℕ, false, Some, None, List, refl, arith}
use Rattle.std.specs.Prelude.{nat_lt}
use Rattle.std.proofs.lemmas.Bool.Decides.{nat_tests}
use Rattle.fx_term.specs.declared.node.Arg.{Arg}
use Rattle.fx_term.specs.declared.node.Arg.TheVariants.{Number, Slot}
use Rattle.fx_term.specs.Term.{Term, Pure, Raise, Let, Handle, If, For, Mask, Poll, OnCancel, Bracket, BracketCase, Start, Join}
use Rattle.fx_term.specs.Term.{Cancel, First, Offer, TryOffer, TryTake, Masked, Opened, InUse, InUseCase, InRelease, Loop}
use Rattle.fx_term.specs.Fill.{fill_arg, lower, fill}
use Rattle.fx_term.proofs.FillLaws.{lower_above}

none_below : (x : ℕ) → nat_lt x 0 ≡ false
none_below x = grind (arith, nat_tests)

fill_arg_none : (ns : List ℕ) (a : Arg) → fill_arg 0 ns a ≡ a
fill_arg_none ns (Number n) = refl
fill_arg_none ns (Slot x) = rw (none_below x) refl

under_none : (ns : List ℕ) (x : ℕ) (t : Term) → fill 0 ns t ≡ t → fill (lower 0 x) ns t ≡ t
under_none ns x t e = rw (lower_above 0 x (omega arith)) e

under_both_none : (ns : List ℕ) (x y : ℕ) (t : Term) → fill 0 ns t ≡ t → fill (lower (lower 0 x) y) ns t ≡ t
under_both_none ns x y t e = rw (lower_above 0 x (omega arith)) (under_none ns y t e)

-- it stays as it is
pub fill_none : (ns : List ℕ) (t : Term) → fill 0 ns t ≡ t
fill_none ns (Pure a) = let p = fill_arg_none ns a in cc
fill_none ns (Raise a) = let p = fill_arg_none ns a in cc
fill_none ns (Let None a b) = let p = fill_none ns a in let q = fill_none ns b in cc
fill_none ns (Let (Some x) a b) = let p = fill_none ns a in let q = under_none ns x b (fill_none ns b) in cc
fill_none ns (Handle a None b) = let p = fill_none ns a in let q = fill_none ns b in cc
fill_none ns (Handle a (Some x) b) = let p = fill_none ns a in let q = under_none ns x b (fill_none ns b) in cc
fill_none ns (If v a b) = let o = fill_arg_none ns v in let p = fill_none ns a in let q = fill_none ns b in cc
fill_none ns (For x c a) = let p = under_none ns x a (fill_none ns a) in cc
fill_none ns (Mask x a) = let p = under_none ns x a (fill_none ns a) in cc
fill_none ns (Poll v a) = let o = fill_arg_none ns v in let p = fill_none ns a in cc
fill_none ns (OnCancel a b) = let p = fill_none ns a in let q = fill_none ns b in cc
fill_none ns (Bracket None a b c) = let p = fill_none ns a in let q = fill_none ns b in let r = fill_none ns c in cc
fill_none ns (Bracket (Some x) a b c) = let p = fill_none ns a in let q = under_none ns x b (fill_none ns b) in let r = under_none ns x c (fill_none ns c) in cc
fill_none ns (BracketCase x a u y b z c d) =
    let o = fill_none ns a in let p = under_none ns x u (fill_none ns u) in let q = under_both_none ns x y b (fill_none ns b) in
    let r = under_both_none ns x z c (fill_none ns c) in let s = under_none ns x d (fill_none ns d) in cc
fill_none ns (Start x a b) = let p = fill_none ns a in let q = under_none ns x b (fill_none ns b) in cc
fill_none ns (Join v x a y b c) =
    let o = fill_arg_none ns v in let p = under_none ns x a (fill_none ns a) in let q = under_none ns y b (fill_none ns b) in let r = fill_none ns c in cc
fill_none ns (Cancel v) = let o = fill_arg_none ns v in cc
fill_none ns (First v w) = let o = fill_arg_none ns v in let p = fill_arg_none ns w in cc
fill_none ns (Offer k v) = let o = fill_arg_none ns v in cc
fill_none ns (TryOffer k v) = let o = fill_arg_none ns v in cc
fill_none ns (TryTake k x a b) = let p = under_none ns x a (fill_none ns a) in let q = fill_none ns b in cc
fill_none ns (Masked k a) = let p = fill_none ns a in cc
fill_none ns (Opened k a) = let p = fill_none ns a in cc
fill_none ns (InUse k a b) = let p = fill_none ns a in let q = fill_none ns b in cc
fill_none ns (InUseCase k a y b z c d) =
    let o = fill_none ns a in let p = under_none ns y b (fill_none ns b) in let q = under_none ns z c (fill_none ns c) in let r = fill_none ns d in cc
fill_none ns (InRelease k a v) = let p = fill_none ns a in cc
fill_none ns (Loop x k c a) = let p = under_none ns x a (fill_none ns a) in cc
fill_none ns _ = refl
