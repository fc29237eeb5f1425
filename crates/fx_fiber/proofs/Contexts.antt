-- What the contexts round a term do to its path.
use Rattle.std.proofs.Common.{◌≡◌, ℕ, Bool, true, false, Option, Some, List, [], ◌∷◌, ◌++◌, refl, sym, ◌∙◌, ap, append_assoc, append-nil}
use Rattle.std.specs.Prelude.{◌&&◌, ◌||◌, slice_get}
use Rattle.fx_term.specs.declared.node.NodeId.{NodeId}
use Rattle.fx_term.specs.declared.node.Node.{Node}
use Rattle.fx_term.specs.declared.node.Node.TheVariants as node
use Rattle.fx_term.specs.Term.{Term}
use Rattle.fx_mask.specs.Closing.{Closing, Region, Seal, is_none_closed}
use Rattle.fx_mask.proofs.Closing.{without_innermost}
use Rattle.fx_frames.specs.declared.frame.Frame.{Frame}
use Rattle.fx_frames.specs.declared.frame.Frame.TheVariants as frame
use Rattle.fx_frames.specs.Frames.{cleanups_of}
use Rattle.fx_fiber.specs.declared.machine.unwound.Unwound.{Unwound}
use Rattle.fx_model.specs.Path.{CleanupTerm, Finalizer, Release, closed_under, closed_regions}
use Rattle.fx_model.specs.Path.{cleanups_with, cleanup_terms, leaf, is_canceled_form, is_open, must_cancel}
use Rattle.fx_model.specs.Row.{Counts, Label, Row}
use Rattle.fx_fiber.specs.Machine.{filled, acquire_in, acquire_case_in, use_case_in, all_but_innermost, outside_frame, context_of, in_frame, within}
use Rattle.fx_fiber.specs.Machine.{cleanup_terms_of}
use Rattle.fx_fiber.specs.Sound.{closed_outside, IsClosedBy, AreClosedBy}
use Rattle.fx_model.proofs.Paths.{leaf_plug, closed_plug, cleanups_plug, row_plug}

module _ (nodes : List Node) (ns : List ℕ) where
  -- a row of the term inside is a row of the whole
  pub row_within : (k : Bool) (c d : Counts) (l : Label) (fs : List Frame) (cs : List Closing) (t t' : Term)
      → Row k c t l d t' → Row k c (within nodes ns fs cs t) l d (within nodes ns fs cs t')
  row_within k c d l [] cs t t' r = r
  row_within k c d l (f ∷ fs) cs t t' r = row_within k c d l fs (outside_frame f cs) _ _ (row_plug (context_of nodes ns cs f) r)

  pub leaf_within : (fs : List Frame) (cs : List Closing) (t : Term) → leaf (within nodes ns fs cs t) ≡ leaf t
  leaf_within [] cs t = refl
  leaf_within (f ∷ fs) cs t = leaf_within fs (outside_frame f cs) (in_frame nodes ns cs f t) ∙ leaf_plug (context_of nodes ns cs f) t

  sealed_in_bracket : (o : Option Node) (outer : List Closing) → closed_under outer (acquire_in nodes ns o) ≡ Seal ∷ outer
  sealed_in_bracket (Some (node.Bracket x a u v)) outer = refl
  sealed_in_bracket o outer = refl

  sealed_in_case : (o : Option Node) (outer : List Closing) → closed_under outer (acquire_case_in nodes ns o) ≡ Seal ∷ outer
  sealed_in_case (Some (node.BracketCase x a u y s z e d)) outer = refl
  sealed_in_case o outer = refl

  open_in_use_case : (k : ℕ) (d : NodeId) (o : Option Node) (outer : List Closing) → closed_under outer (use_case_in nodes ns k d o) ≡ outer
  open_in_use_case k d (Some (node.BracketCase x a u y s z e c)) outer = refl
  open_in_use_case k d o outer = refl

  closed_in : (f : Frame) (cs : List Closing) → IsClosedBy f cs → closed_under (outside_frame f cs) (context_of nodes ns cs f) ≡ cs
  closed_in (frame.Acquire id) cs h = rw h.1 (sealed_in_bracket (slice_get nodes id.0) h.0)
  closed_in (frame.AcquireCase id) cs h = rw h.1 (sealed_in_case (slice_get nodes id.0) h.0)
  closed_in (frame.UsingCase k id d) cs h = open_in_use_case k d (slice_get nodes id.0) cs
  closed_in (frame.Releasing q v) cs h = rw h.1 refl
  closed_in frame.Masked cs h = rw h.2 refl
  closed_in (frame.Opened q true) cs h = without_innermost q.0 cs
  closed_in (frame.Opened q false) cs h = h
  closed_in _ cs h = refl

  -- what the path closes is what is closed inside
  pub closed_within : (outside : List Closing) (fs : List Frame) (cs : List Closing) (t : Term)
      → AreClosedBy outside fs cs → closed_regions outside (within nodes ns fs cs t) ≡ closed_regions cs t
  closed_within outside [] cs t h = ap (λ (c : List Closing). closed_regions c t) (sym h)
  closed_within outside (f ∷ fs) cs t h =
      closed_within outside fs (outside_frame f cs) (in_frame nodes ns cs f t) h.1
      ∙ closed_plug (outside_frame f cs) (context_of nodes ns cs f) t
      ∙ ap (λ (c : List Closing). closed_regions c t) (closed_in f cs h.0)

  none_of_bracket : (o : Option Node) (xs : List CleanupTerm) → cleanups_with (acquire_in nodes ns o) xs ≡ xs
  none_of_bracket (Some (node.Bracket x a u v)) xs = refl
  none_of_bracket o xs = refl

  none_of_case : (o : Option Node) (xs : List CleanupTerm) → cleanups_with (acquire_case_in nodes ns o) xs ≡ xs
  none_of_case (Some (node.BracketCase x a u y s z e d)) xs = refl
  none_of_case o xs = refl

  one_of_use_case : (k : ℕ) (d : NodeId) (o : Option Node) (xs : List CleanupTerm)
      → cleanups_with (use_case_in nodes ns k d o) xs ≡ xs ++ Release k (filled nodes ns d) ∷ []
  one_of_use_case k d (Some (node.BracketCase x a u y s z e c)) xs = refl
  one_of_use_case k d o xs = refl

  cleanups_in : (f : Frame) (cs : List Closing) (xs : List CleanupTerm) (rest : List Frame)
      → cleanups_with (context_of nodes ns cs f) xs ++ cleanup_terms_of nodes ns (cleanups_of rest)
      ≡ xs ++ cleanup_terms_of nodes ns (cleanups_of (f ∷ rest))
  cleanups_in (frame.OnCancel f) cs xs rest = append_assoc xs (Finalizer (filled nodes ns f) ∷ []) (cleanup_terms_of nodes ns (cleanups_of rest))
  cleanups_in (frame.Using k r) cs xs rest = append_assoc xs (Release k (filled nodes ns r) ∷ []) (cleanup_terms_of nodes ns (cleanups_of rest))
  cleanups_in (frame.AcquireCase id) cs xs rest = rw (none_of_case (slice_get nodes id.0) xs) refl
  cleanups_in (frame.UsingCase k id d) cs xs rest =
      rw (one_of_use_case k d (slice_get nodes id.0) xs)
      (append_assoc xs (Release k (filled nodes ns d) ∷ []) (cleanup_terms_of nodes ns (cleanups_of rest)))
  cleanups_in (frame.Acquire id) cs xs rest = rw (none_of_bracket (slice_get nodes id.0) xs) refl
  cleanups_in _ cs xs rest = refl

  clean_in : (f : Frame) (cs : List Closing) (t : Term) (rest : List Frame)
      → cleanup_terms (in_frame nodes ns cs f t) ++ cleanup_terms_of nodes ns (cleanups_of rest)
      ≡ cleanup_terms t ++ cleanup_terms_of nodes ns (cleanups_of (f ∷ rest))
  clean_in f cs t rest = rw (cleanups_plug (context_of nodes ns cs f) t) (cleanups_in f cs (cleanup_terms t) rest)

  -- the clean-ups of the path are those inside, and then those of the contexts
  pub clean_within : (fs : List Frame) (cs : List Closing) (t : Term)
      → cleanup_terms (within nodes ns fs cs t) ≡ cleanup_terms t ++ cleanup_terms_of nodes ns (cleanups_of fs)
  clean_within [] cs t = sym (append-nil (cleanup_terms t))
  clean_within (f ∷ fs) cs t = clean_within fs (outside_frame f cs) (in_frame nodes ns cs f t) ∙ clean_in f cs t fs

  module _ (fs : List Frame) (cs : List Closing) (t : Term) (closed : AreClosedBy [] fs cs) (stays : closed_regions cs t ≡ cs) where
    -- whether the place is open is seen from what is closed inside
    pub open_within : is_open (within nodes ns fs cs t) ≡ is_none_closed cs
    open_within = ap is_none_closed (closed_within [] fs cs t closed ∙ stays)

    -- and whether cancellation is the one rule from that and the leaf
    pub must_within : (known : Bool) → leaf t ≡ t → must_cancel known (within nodes ns fs cs t) ≡ (is_none_closed cs && (known || is_canceled_form t))
    must_within known is_leaf =
        let p = open_within in
        let q : leaf (within nodes ns fs cs t) ≡ t = leaf_within fs cs t ∙ is_leaf in
        cc

-- a seal is among what is closed
abbrev HasSeal : List Closing → Type 0
HasSeal [] = ⊥
HasSeal (Seal ∷ cs) = Unit {0}
HasSeal (Region r ∷ cs) = HasSeal cs

seal_outside : (cs : List Closing) → HasSeal (all_but_innermost cs) → HasSeal cs
seal_outside [] s = absurd s
seal_outside (Seal ∷ cs) s = tt
seal_outside (Region r ∷ cs) s = s

seal_out : (f : Frame) (cs : List Closing) → IsClosedBy f cs → HasSeal (outside_frame f cs) → HasSeal cs
seal_out (frame.Acquire id) cs h s = seal_outside cs s
seal_out (frame.AcquireCase id) cs h s = seal_outside cs s
seal_out (frame.Releasing k v) cs h s = seal_outside cs s
seal_out frame.Masked cs h s = seal_outside cs s
seal_out (frame.Opened q true) cs h s = s
seal_out (frame.Opened q false) cs h s = s
seal_out _ cs h s = s

seal_within : (fs : List Frame) (cs : List Closing) → AreClosedBy (Seal ∷ []) fs cs → HasSeal cs
seal_within [] cs h = rw h tt
seal_within (f ∷ fs) cs h = seal_out f cs h.0 (seal_within fs (outside_frame f cs) h.1)

closed_by_seal : (cs : List Closing) → HasSeal cs → is_none_closed cs ≡ false
closed_by_seal [] h = absurd h
closed_by_seal (c ∷ cs) h = refl

-- no poll opens a place inside a clean-up
pub cleanup_is_closed : (fs : List Frame) (cs : List Closing) (left : Unwound) → AreClosedBy (closed_outside (Some left)) fs cs → is_none_closed cs ≡ false
cleanup_is_closed fs cs left h = closed_by_seal cs (seal_within fs cs h)
