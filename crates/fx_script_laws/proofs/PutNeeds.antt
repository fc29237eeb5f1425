-- A number for a name leaves it as it is how many fiber numbers a term uses. (fx_model has this lemma for itself, and shares it with nobody.)
use Rattle.std.proofs.Common.{◌≡◌, ℕ, refl}
use Rattle.fx_term.specs.Term.{Term, Let, Handle, If, For, Mask, Poll, OnCancel, Bracket, BracketCase, Start, Join, TryTake, Masked, Opened, InUse}
use Rattle.fx_term.specs.Term.{InUseCase, InRelease, Loop, put}
use Rattle.fx_term.specs.Need.{need}

-- a number for a name leaves the need as it is
pub put_need : (x n : ℕ) (t : Term) → need (put x n t) ≡ need t
put_need x n (Let y a b) = let p = put_need x n a in let q = put_need x n b in cc
put_need x n (Handle a y b) = let p = put_need x n a in let q = put_need x n b in cc
put_need x n (If v a b) = let p = put_need x n a in let q = put_need x n b in cc
put_need x n (For y c a) = let p = put_need x n a in cc
put_need x n (Mask y a) = let p = put_need x n a in cc
put_need x n (Poll v a) = let p = put_need x n a in cc
put_need x n (OnCancel a b) = let p = put_need x n a in let q = put_need x n b in cc
put_need x n (Bracket y a b c) = let p = put_need x n a in let q = put_need x n b in let r = put_need x n c in cc
put_need x n (BracketCase y a u z b w c d) =
    let o = put_need x n a in let p = put_need x n u in let q = put_need x n b in let r = put_need x n c in let s = put_need x n d in cc
put_need x n (Start y a b) = let p = put_need x n a in let q = put_need x n b in cc
put_need x n (Join v y a z b c) = let p = put_need x n a in let q = put_need x n b in let r = put_need x n c in cc
put_need x n (TryTake k y a b) = let p = put_need x n a in let q = put_need x n b in cc
put_need x n (Masked k a) = let p = put_need x n a in cc
put_need x n (Opened k a) = let p = put_need x n a in cc
put_need x n (InUse k a b) = let p = put_need x n a in let q = put_need x n b in cc
put_need x n (InUseCase k a y b z c d) = let p = put_need x n a in let q = put_need x n b in let r = put_need x n c in let s = put_need x n d in cc
put_need x n (InRelease k a v) = let p = put_need x n a in cc
put_need x n (Loop y k c a) = let p = put_need x n a in cc
put_need x n _ = refl
