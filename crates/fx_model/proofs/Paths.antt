-- The path of a term: one context more, and the whole path.
use Rattle.std.proofs.Common.{◌≡◌, Bool, List, [], ◌∷◌, refl, sym, ◌∙◌, ap}
use Rattle.fx_term.specs.declared.done.Done.{Done}
use Rattle.fx_term.specs.Term.{Term, Let, Handle, OnCancel, Bracket, BracketCase, Finished, Masked, Opened, InUse, InUseCase, InRelease}
use Rattle.fx_mask.specs.Closing.{Closing}
use Rattle.fx_model.specs.Path.{Context, LetIn, HandleIn, OnCancelIn, AcquireIn, AcquireCaseIn, MaskedIn, OpenedIn, InUseIn, InUseCaseIn, InReleaseIn, plug}
use Rattle.fx_model.specs.Path.{path, leaf, closed_under, closed_regions, cleanups_with, cleanup_terms}
use Rattle.fx_model.specs.Row.{Counts, Label, Row, inside}

pub path_plug : (f : Context) (a : Term) → path (plug f a) ≡ f ∷ path a
path_plug (LetIn x b) a = refl
path_plug _ a = refl

pub leaf_plug : (f : Context) (a : Term) → leaf (plug f a) ≡ leaf a
leaf_plug (LetIn x b) a = refl
leaf_plug _ a = refl

pub closed_plug : (outer : List Closing) (f : Context) (a : Term) → closed_regions outer (plug f a) ≡ closed_regions (closed_under outer f) a
closed_plug outer (LetIn x b) a = refl
closed_plug outer _ a = refl

pub cleanups_plug : (f : Context) (a : Term) → cleanup_terms (plug f a) ≡ cleanups_with f (cleanup_terms a)
cleanups_plug (LetIn x b) a = refl
cleanups_plug _ a = refl

-- a term without contexts is its own leaf
pub bare_leaf : (t : Term) → path t ≡ [] → leaf t ≡ t
bare_leaf (Let x a b) e = absurd cc
bare_leaf (Handle a x b) e = absurd cc
bare_leaf (OnCancel a f) e = absurd cc
bare_leaf (Bracket x a u r) e = absurd cc
bare_leaf (BracketCase x a u y s z f d) e = absurd cc
bare_leaf (Masked r a) e = absurd cc
bare_leaf (Opened r a) e = absurd cc
bare_leaf (InUse k a r) e = absurd cc
bare_leaf (InUseCase k a y s z f d) e = absurd cc
bare_leaf (InRelease k a v) e = absurd cc
bare_leaf _ e = refl

-- a term with a context round its leaf is no other
pub no_context : (f : Context) (a t : Term) → path t ≡ [] → t ≡ plug f a → ⊥
no_context f a t none e = let p = path_plug f a in let q = ap path e in cc

pub same_context : (f g : Context) (a b : Term) → plug f a ≡ plug g b → f ≡ g
same_context f g a b e = let p = path_plug f a in let q = path_plug g b in let r = ap path e in cc

pub same_part : (f : Context) (a b : Term) → plug f a ≡ plug f b → a ≡ b
same_part (LetIn x c) a b e = cc
same_part _ a b e = cc

-- what holds of each term without contexts, and of a context where it holds of its part, holds of all terms
pub along_path : (P : Term → Type 0) → ((f : Context) (a : Term) → P a → P (plug f a)) → ((t : Term) → path t ≡ [] → P t) → (t : Term) → P t
along_path P more bare (Let x a b) = more (LetIn x b) a (along_path P more bare a)
along_path P more bare (Handle a x b) = more (HandleIn x b) a (along_path P more bare a)
along_path P more bare (OnCancel a f) = more (OnCancelIn f) a (along_path P more bare a)
along_path P more bare (Bracket x a u r) = more (AcquireIn x u r) a (along_path P more bare a)
along_path P more bare (BracketCase x a u y s z e d) = more (AcquireCaseIn x u y s z e d) a (along_path P more bare a)
along_path P more bare (Masked r a) = more (MaskedIn r) a (along_path P more bare a)
along_path P more bare (Opened r a) = more (OpenedIn r) a (along_path P more bare a)
along_path P more bare (InUse k a r) = more (InUseIn k r) a (along_path P more bare a)
along_path P more bare (InUseCase k a y s z e d) = more (InUseCaseIn k y s z e d) a (along_path P more bare a)
along_path P more bare (InRelease k a v) = more (InReleaseIn k v) a (along_path P more bare a)
along_path P more bare t = bare t refl

-- a row of the part is one of the whole
pub row_plug : (f : Context) {k : Bool} {c d : Counts} {l : Label} {a a' : Term} → Row k c a l d a' → Row k c (plug f a) l d (plug f a')
row_plug f r = inside f refl refl r

-- and only that, where it is one of a part at all
pub part_row : (f g : Context) (t : Term) {k : Bool} {c d : Counts} {l : Label} {u a a' : Term} → plug f t ≡ plug g a → u ≡ plug g a' → Row k c a l d a'
    → (w : Term) × Row k c t l d w × (u ≡ plug f w)
part_row f g t {a = a} {a' = a'} e h r =
    let same : g ≡ f = sym (same_context f g t a e) in
    let part : t ≡ a = same_part f t a (rw same at e) in
    (a', rw part r, h ∙ ap (λ (x : Context). plug x a') same)

-- no row of the table is that of a result
pub result_has_no_row : {k : Bool} {c d : Counts} {l : Label} {t u : Term} {v : Done} → Row k c t l d u → t ≡ Finished v → ⊥
result_has_no_row {v = v} (inside f {a = a} e g r) h = no_context f a (Finished v) refl (let p = h in cc)
result_has_no_row _ h = cc
