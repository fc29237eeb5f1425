-- The numbers above the names in scope make no difference, and a number put for the name of a part that waits is one more register.
use Rattle.std.specs.Prelude.{slice_get}
use Rattle.std.proofs.Common.{◌≡◌, ℕ, suc, ◌≤◌, Option, Some, None, List, [], ◌∷◌, length, refl, sym, ◌∙◌, ap, arith}
use Rattle.fx_term.specs.declared.node.NodeId.{NodeId}
use Rattle.fx_term.specs.declared.node.Node.{Node}
use Rattle.fx_term.specs.declared.node.Node.TheVariants as node
use Rattle.fx_term.specs.Term.{Term, Let, Handle, OnCancel, InUse, Loop, put, put_named}
use Rattle.fx_term.specs.Fill.{AgreeBelow}
use Rattle.fx_term.specs.Registers.{with_number}
use Rattle.fx_term.specs.Scope.{bound_under, HasLevels}
use Rattle.fx_term.specs.Meaning.{term_of}
use Rattle.fx_term.proofs.FillLaws.{lower_above, lower_below, fill_agree, fill_scope, fill_same, put_fill}
use Rattle.fx_term.proofs.RegisterLaws.{agree_below, number_at, length_with}
use Rattle.fx_mask.specs.Closing.{Closing}
use Rattle.fx_frames.specs.declared.frame.Frame.{Frame}
use Rattle.fx_frames.specs.declared.frame.Frame.TheVariants as frame
use Rattle.fx_frames.specs.declared.cleanup.Cleanup.{Cleanup}
use Rattle.fx_frames.specs.declared.cleanup.Cleanup.TheVariants as cleanup
use Rattle.fx_frames.specs.Frames.{cleanups_of}
use Rattle.fx_fiber.specs.declared.machine.unwound.Unwound.{Unwound}
use Rattle.fx_model.specs.Path.{Context, plug, CleanupTerm, Finalizer, Release}
use Rattle.fx_model.specs.Step.{CleansUp}
use Rattle.fx_fiber.specs.Machine.{filled, waiting, waiting_inner, loop_of, bracket_of, acquire_case_in, use_case_in, outside_frame, in_frame, within}
use Rattle.fx_fiber.specs.Machine.{cleanup_term, cleanup_terms_of, running}
use Rattle.fx_fiber.specs.Sound.{left_of, IsNode, IsBound, IsLoopIn, IsBracketIn, IsCaseIn, IsUseCaseIn, IsFrameIn, IsCleanupIn, AreCleanupsIn, AreFramesIn}

pub cleanups_up : (nodes : List Node) (d e : ℕ) (cs : List Cleanup) → AreCleanupsIn nodes d cs → d ≤ e → AreCleanupsIn nodes e cs
cleanups_up nodes d e [] h p = tt
cleanups_up nodes d e (c ∷ cs) h p = (h.0, (let q = h.1 in omega arith), h.2, h.3)

pub frames_up : (nodes : List Node) (d e : ℕ) (fs : List Frame) (left : List Cleanup) → AreFramesIn nodes d fs left → d ≤ e → AreFramesIn nodes e fs left
frames_up nodes d e [] left h p = cleanups_up nodes d e left h p
frames_up nodes d e (f ∷ fs) left h p = (h.0, (let q = h.1 in omega arith), h.2, h.3)

-- the release after cancellation is in scope where the use of its `bracketcase` is
canceled_in : (nodes : List Node) (bound : ℕ) (canceled : NodeId) (o : Option Node) → IsUseCaseIn nodes bound canceled o → IsNode nodes bound canceled
canceled_in nodes bound canceled (Some (node.BracketCase x a u y s z e d)) h = h.2
canceled_in nodes bound canceled o h = absurd h

-- contexts that are given up leave their clean-ups in scope
pub cleanups_in : (nodes : List Node) (d : ℕ) (fs : List Frame) → AreFramesIn nodes d fs [] → AreCleanupsIn nodes d (cleanups_of fs)
cleanups_in nodes d [] h = tt
cleanups_in nodes d (frame.Let x b ∷ fs) h = cleanups_up nodes h.0 d (cleanups_of fs) (cleanups_in nodes h.0 fs h.3) h.1
cleanups_in nodes d (frame.Handle x b ∷ fs) h = cleanups_up nodes h.0 d (cleanups_of fs) (cleanups_in nodes h.0 fs h.3) h.1
cleanups_in nodes d (frame.OnCancel f ∷ fs) h = (h.0, h.1, h.2, cleanups_in nodes h.0 fs h.3)
cleanups_in nodes d (frame.Acquire id ∷ fs) h = cleanups_up nodes h.0 d (cleanups_of fs) (cleanups_in nodes h.0 fs h.3) h.1
cleanups_in nodes d (frame.Using k r ∷ fs) h = (h.0, h.1, h.2, cleanups_in nodes h.0 fs h.3)
cleanups_in nodes d (frame.AcquireCase id ∷ fs) h = cleanups_up nodes h.0 d (cleanups_of fs) (cleanups_in nodes h.0 fs h.3) h.1
cleanups_in nodes d (frame.UsingCase k id c ∷ fs) h =
    (h.0, h.1, canceled_in nodes h.0 c (slice_get nodes id.0) h.2, cleanups_in nodes h.0 fs h.3)
cleanups_in nodes d (frame.Releasing k v ∷ fs) h = cleanups_up nodes h.0 d (cleanups_of fs) (cleanups_in nodes h.0 fs h.3) h.1
cleanups_in nodes d (frame.Loop id turn ∷ fs) h = cleanups_up nodes h.0 d (cleanups_of fs) (cleanups_in nodes h.0 fs h.3) h.1
cleanups_in nodes d (frame.Masked ∷ fs) h = cleanups_up nodes h.0 d (cleanups_of fs) (cleanups_in nodes h.0 fs h.3) h.1
cleanups_in nodes d (frame.Opened r b ∷ fs) h = cleanups_up nodes h.0 d (cleanups_of fs) (cleanups_in nodes h.0 fs h.3) h.1

agree_down : (d e : ℕ) (ns ms : List ℕ) → AgreeBelow d ns ms → e ≤ d → AgreeBelow e ns ms
agree_down d e ns ms h p i q = h i (omega arith)

-- two lists of registers that agree on the names in scope
module _ (nodes : List Node) (ns ms : List ℕ) where
  pub filled_same : (e : ℕ) (id : NodeId) → IsNode nodes e id → e ≤ length ns → e ≤ length ms → AgreeBelow e ns ms → filled nodes ns id ≡ filled nodes ms id
  filled_same e id s p q h = fill_same e (length ns) (length ms) ns ms (term_of nodes id.0) s.levels p q h

  waiting_same : (e : ℕ) (x : Option ℕ) (b : NodeId) → IsBound nodes e x b → e ≤ length ns → e ≤ length ms → AgreeBelow e ns ms
      → waiting nodes ns x b ≡ waiting nodes ms x b
  waiting_same e None b s p q h = filled_same e b s.node p q h
  waiting_same e (Some x) b s p q h =
      let at = s.binder in
      let u : x ≤ length ns = omega arith in
      let v : x ≤ length ms = omega arith in
      rw (lower_below (length ns) x u, lower_below (length ms) x v, at) (fill_agree e ns ms (term_of nodes b.0) h)

  -- a part under two binders
  inner_same : (e x : ℕ) (y : ℕ) (b : NodeId) → x ≡ e → IsBound nodes (suc e) (Some y) b → e ≤ length ns → e ≤ length ms → AgreeBelow e ns ms
      → waiting_inner nodes ns x y b ≡ waiting_inner nodes ms x y b
  inner_same e x y b at s p q h =
      let inside = s.binder in
      let u : x ≤ length ns = omega arith in
      let v : x ≤ length ms = omega arith in
      let up : x ≤ y = omega arith in
      rw (lower_below (length ns) x u, lower_below (length ms) x v, lower_above x y up, at) (fill_agree e ns ms (term_of nodes b.0) h)

  case_same : (e : ℕ) (o : Option Node) → IsCaseIn nodes e o → e ≤ length ns → e ≤ length ms → AgreeBelow e ns ms
      → acquire_case_in nodes ns o ≡ acquire_case_in nodes ms o
  case_same e (Some (node.BracketCase x a u y b z c d)) s p q h =
      let at = s.0.binder in
      let used = waiting_same e (Some x) u s.0 p q h in
      let success = inner_same e x y b at s.1 p q h in
      let failure = inner_same e x z c at s.2 p q h in
      let canceled = waiting_same e (Some x) d s.3 p q h in
      cc
  case_same e o s p q h = absurd s

  use_case_same : (e k : ℕ) (d : NodeId) (o : Option Node) → IsUseCaseIn nodes e d o → e ≤ length ns → e ≤ length ms → AgreeBelow e ns ms
      → use_case_in nodes ns k d o ≡ use_case_in nodes ms k d o
  use_case_same e k d (Some (node.BracketCase x a u y b z c w)) s p q h =
      let success = waiting_same e (Some y) b s.0 p q h in
      let failure = waiting_same e (Some z) c s.1 p q h in
      let canceled = filled_same e d s.2 p q h in
      cc
  use_case_same e k d o s p q h = absurd s

  bracket_same : (e : ℕ) (o : Option Node) (t : Term) → IsBracketIn nodes e o → e ≤ length ns → e ≤ length ms → AgreeBelow e ns ms
      → bracket_of nodes ns o t ≡ bracket_of nodes ms o t
  bracket_same e (Some (node.Bracket x a u r)) t s p q h =
      let used = waiting_same e x u s.0 p q h in
      let released = waiting_same e x r s.1 p q h in
      cc
  bracket_same e o t s p q h = refl

  pub loop_same : (e : ℕ) (o : Option Node) (turn : ℕ) → IsLoopIn nodes e o → e ≤ length ns → e ≤ length ms → AgreeBelow e ns ms
      → loop_of nodes ns o turn ≡ loop_of nodes ms o turn
  loop_same e (Some (node.For i n a)) turn s p q h = ap (λ (w : Term). Loop i turn n w) (waiting_same e (Some i) a s p q h)
  loop_same e o turn s p q h = refl

  frame_same : (e : ℕ) (cs : List Closing) (f : Frame) (t : Term) → IsFrameIn nodes e f → e ≤ length ns → e ≤ length ms → AgreeBelow e ns ms
      → in_frame nodes ns cs f t ≡ in_frame nodes ms cs f t
  frame_same e cs (frame.Let x b) t s p q h = ap (λ (w : Term). Let x t w) (waiting_same e x b s p q h)
  frame_same e cs (frame.Handle x b) t s p q h = ap (λ (w : Term). Handle t x w) (waiting_same e x b s p q h)
  frame_same e cs (frame.OnCancel f) t s p q h = ap (λ (w : Term). OnCancel t w) (filled_same e f s p q h)
  frame_same e cs (frame.Acquire id) t s p q h = bracket_same e (slice_get nodes id.0) t s p q h
  frame_same e cs (frame.Using k r) t s p q h = ap (λ (w : Term). InUse k t w) (filled_same e r s p q h)
  frame_same e cs (frame.AcquireCase id) t s p q h = ap (λ (f : Context). plug f t) (case_same e (slice_get nodes id.0) s p q h)
  frame_same e cs (frame.UsingCase k id d) t s p q h = ap (λ (f : Context). plug f t) (use_case_same e k d (slice_get nodes id.0) s p q h)
  frame_same e cs (frame.Releasing k v) t s p q h = refl
  frame_same e cs (frame.Loop id turn) t s p q h = ap (λ (w : Term). Let None t w) (loop_same e (slice_get nodes id.0) turn s p q h)
  frame_same e cs frame.Masked t s p q h = refl
  frame_same e cs (frame.Opened r b) t s p q h = refl

  cleanup_same : (e : ℕ) (c : Cleanup) → IsCleanupIn nodes e c → e ≤ length ns → e ≤ length ms → AgreeBelow e ns ms
      → cleanup_term nodes ns c ≡ cleanup_term nodes ms c
  cleanup_same e (cleanup.Finalizer f) s p q h = ap Finalizer (filled_same e f s p q h)
  cleanup_same e (cleanup.Release k r) s p q h = ap (λ (w : Term). Release k w) (filled_same e r s p q h)

  cleanups_same : (d : ℕ) (left : List Cleanup) → AreCleanupsIn nodes d left → d ≤ length ns → d ≤ length ms → AgreeBelow d ns ms
      → cleanup_terms_of nodes ns left ≡ cleanup_terms_of nodes ms left
  cleanups_same d [] s p q h = refl
  cleanups_same d (c ∷ left) s p q h =
      let e_le = s.1 in
      let u : s.0 ≤ length ns = omega arith in
      let v : s.0 ≤ length ms = omega arith in
      let k = agree_down d s.0 ns ms h e_le in
      let first = cleanup_same s.0 c s.2 u v k in
      let rest = cleanups_same s.0 left s.3 u v k in
      cc

  pub running_same : (d : ℕ) (fs : List Frame) (cs : List Closing) (left : Option Unwound) (t : Term) → AreFramesIn nodes d fs (left_of left)
      → d ≤ length ns → d ≤ length ms → AgreeBelow d ns ms
      → running nodes ns left (within nodes ns fs cs t) ≡ running nodes ms left (within nodes ms fs cs t)
  running_same d [] cs None t s p q h = refl
  running_same d [] cs (Some c) t s p q h = ap (λ (xs : List CleanupTerm). CleansUp c.resource t xs) (cleanups_same d c.left s p q h)
  running_same d (f ∷ fs) cs left t s p q h =
      let e : ℕ = s.0 in
      let e_le : e ≤ d = s.1 in
      let u : e ≤ length ns = omega arith in
      let v : e ≤ length ms = omega arith in
      let k = agree_down d e ns ms h e_le in
      running_same e fs (outside_frame f cs) left (in_frame nodes ns cs f t) s.3 u v k
      ∙ ap (λ (w : Term). running nodes ms left (within nodes ms fs (outside_frame f cs) w)) (frame_same e cs f t s.2 u v k)

-- a number put for the name of a part that waits: the part goes on with one more register
module _ (nodes : List Node) (ns : List ℕ) (n e : ℕ) (b : NodeId) (fits : e ≤ length ns) where
  pub part_named : (x : Option ℕ) → IsBound nodes e x b → put_named x n (waiting nodes ns x b) ≡ filled nodes (with_number x n ns) b
  part_named None s = refl
  part_named (Some x) s =
      let at = s.binder in
      let h : x ≤ length ns = omega arith in
      let levels : HasLevels (suc x) (term_of nodes b.0) = rw at s.node.levels in
      let len = length_with x n ns h in
      let filled_same = fill_scope (suc x) (length (with_number (Some x) n ns)) (with_number (Some x) n ns) (term_of nodes b.0) levels (omega arith) in
      rw (lower_below (length ns) x h)
      (put_fill x n ns (with_number (Some x) n ns) (agree_below x n ns h) (number_at x n ns h) (suc x) (term_of nodes b.0) levels (omega arith)
      ∙ sym filled_same)

  -- the same of a part that waits under one more binder
  pub inner_named : (x y : ℕ) → x ≡ e → IsBound nodes (suc e) (Some y) b
      → put x n (waiting_inner nodes ns x y b) ≡ waiting nodes (with_number (Some x) n ns) (Some y) b
  inner_named x y at s =
      let inside = s.binder in
      let h : x ≤ length ns = omega arith in
      let ms : List ℕ = with_number (Some x) n ns in
      let len = length_with x n ns h in
      let levels : HasLevels (suc (suc x)) (term_of nodes b.0) = rw (← at) at s.node.levels in
      let up : x ≤ y = omega arith in
      let reaches : y ≤ length ms = omega arith in
      let same : y ≡ suc x = omega arith in
      rw (lower_below (length ns) x h, lower_above x y up, lower_below (length ms) y reaches, same)
      (put_fill x n ns ms (agree_below x n ns h) (number_at x n ns h) (suc (suc x)) (term_of nodes b.0) levels (omega arith))

  -- a register for the name changes nothing outside its scope
  pub running_bound : (x : Option ℕ) (fs : List Frame) (cs : List Closing) (left : Option Unwound) (t : Term) → IsBound nodes e x b
      → AreFramesIn nodes e fs (left_of left)
      → running nodes ns left (within nodes ns fs cs t) ≡ running nodes (with_number x n ns) left (within nodes (with_number x n ns) fs cs t)
  running_bound None fs cs left t s outer = refl
  running_bound (Some x) fs cs left t s outer =
      let at = s.binder in
      let h : x ≤ length ns = omega arith in
      let len = length_with x n ns h in
      let outer' : AreFramesIn nodes x fs (left_of left) = rw at outer in
      running_same nodes ns (with_number (Some x) n ns) x fs cs left t outer' h (omega arith) (agree_below x n ns h)

  -- the fiber where the part goes on, inside a context of its own
  pub running_named : (wrap : Term → Term) (x : Option ℕ) (fs : List Frame) (cs : List Closing) (left : Option Unwound) → IsBound nodes e x b
      → AreFramesIn nodes e fs (left_of left)
      → running nodes ns left (within nodes ns fs cs (wrap (put_named x n (waiting nodes ns x b)))) ≡ running nodes (with_number x n ns) left
      (within nodes (with_number x n ns) fs cs (wrap (filled nodes (with_number x n ns) b)))
  running_named wrap x fs cs left s outer =
      running_bound x fs cs left (wrap (put_named x n (waiting nodes ns x b))) s outer
      ∙ ap (λ (w : Term). running nodes (with_number x n ns) left (within nodes (with_number x n ns) fs cs (wrap w))) (part_named x s)

-- there are registers for one name more
pub fits_named : (x : Option ℕ) (n e : ℕ) (ns : List ℕ) (nodes : List Node) (b : NodeId) → IsBound nodes e x b → e ≤ length ns
    → bound_under e x ≤ length (with_number x n ns)
fits_named None n e ns nodes b s fits = fits
fits_named (Some x) n e ns nodes b s fits = let at = s.binder in let h : x ≤ length ns = omega arith in let len = length_with x n ns h in omega arith

pub under_above : (x : Option ℕ) (e : ℕ) → e ≤ bound_under e x
under_above None e = omega arith
under_above (Some x) e = omega arith
