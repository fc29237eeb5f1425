-- A fiber that began at a scoped term keeps to scoped terms, and to numbers of fibers that were given to it.
use Rattle.std.proofs.Common.{◌≡◌, ℕ, ◌<◌, ◌≤◌, Bool, true, Option, Some, None, List, [], ◌∷◌, All, arith}
use Rattle.std.proofs.lemmas.List.Elements.{All-nil, All-cons}
use Rattle.fx_term.specs.declared.outcome.Outcome.{Outcome}
use Rattle.fx_term.specs.declared.outcome.Outcome.TheVariants as outcome
use Rattle.fx_term.specs.declared.event.Event.TheVariants as event
use Rattle.fx_term.specs.Term.{Term, Let, Handle, OnCancel, Bracket, BracketCase, Masked, Opened, InUse, InUseCase, InRelease, put, put_named}
use Rattle.fx_term.specs.declared.name_kind.NameKind.{NameKind}
use Rattle.fx_term.specs.declared.name_kind.NameKind.TheVariants as kind
use Rattle.fx_term.specs.Scope.{with_name, with_named, IsScoped}
use Rattle.fx_model.specs.Path.{Context, LetIn, HandleIn, OnCancelIn, AcquireIn, AcquireCaseIn, InUseIn, InUseCaseIn, plug, cleanups_with, leaf}
use Rattle.fx_model.specs.Origin.{Origin}
use Rattle.fx_model.specs.Row.{Counts, Label, Shows, Starts, Row, part_after}
use Rattle.fx_model.specs.Row as row
use Rattle.fx_model.specs.Step.{Progress, Runs, Unwinds, CleansUp, HasEnded, AreAll, leaf_at, Step}
use Rattle.fx_model.specs.Step as step
use Rattle.fx_model.specs.Run.{first_counts, Leads, IsRun}
use Rattle.fx_model.specs.Scopes.{UsesGiven, IsScopedOver, IsProgressScopedOver, StartsScopedOver}
use Rattle.fx_term.proofs.NameUses.{scoped_name_used}
use Rattle.fx_model.proofs.Cleanups.{all_on_path}
use Rattle.fx_model.proofs.PutScopes.{put_scoped, put_given}
use Rattle.fx_model.proofs.StepLabels.{step_next}

-- a fiber takes numbers of its range, and gives none back
leads_next : (c d : Counts) (p q : Progress) (ls : List Label) → Leads c p ls d q → c.next ≤ d.next
leads_next c d p q [] r = rw r.0 (omega arith)
leads_next c d p q (l ∷ ls) r = let here = step_next r.2 in let rest = leads_next r.0 d r.1 q ls r.3 in omega arith

module _ (is_given : ℕ → Bool) where
  put_over : (k : NameKind) (x n : ℕ) (t : Term) → (k ≡ kind.Fiber → is_given n ≡ true) → IsScoped (with_name x k (λ y. None)) t → UsesGiven is_given t
      → IsScopedOver is_given (put x n t)
  put_over k x n t g s u = (put_scoped x n (λ y. None) k t s, put_given x n is_given k t (scoped_name_used (λ y. None) k x t s) g u)

  put_value : (x n : ℕ) (t : Term) → IsScoped (with_name x kind.Value (λ y. None)) t → UsesGiven is_given t → IsScopedOver is_given (put x n t)
  put_value x n t s u = put_over kind.Value x n t (λ e. absurd cc) s u

  put_named_value : (x : Option ℕ) (n : ℕ) (t : Term) → IsScoped (with_named x kind.Value (λ y. None)) t → UsesGiven is_given t
      → IsScopedOver is_given (put_named x n t)
  put_named_value None n t s u = (s, u)
  put_named_value (Some x) n t s u = put_value x n t s u

  branch_over : (o : Outcome) (x e : ℕ) (a b c : Term) → IsScoped (with_name x kind.Value (λ y. None)) a → UsesGiven is_given a
      → IsScoped (with_name e kind.Value (λ y. None)) b → UsesGiven is_given b → IsScopedOver is_given c → IsScopedOver is_given (part_after o x a e b c)
  branch_over (outcome.Succeeded n) x e a b c s u t v h = put_value x n a s u
  branch_over (outcome.Errored n) x e a b c s u t v h = put_value e n b t v
  branch_over outcome.Canceled x e a b c s u t v h = h

  -- the part of a context that runs, and the whole with another in its place
  inside_over : (f : Context) (a : Term) → IsScopedOver is_given (plug f a)
      → IsScopedOver is_given a × ((b : Term) → IsScopedOver is_given b → IsScopedOver is_given (plug f b))
  inside_over (LetIn x b) a h = ((h.0.0, h.1.0), λ t k. ((k.0, h.0.1, h.0.2), (k.1, h.1.1)))
  inside_over (HandleIn x b) a h = ((h.0.0, h.1.0), λ t k. ((k.0, h.0.1, h.0.2), (k.1, h.1.1)))
  inside_over (OnCancelIn f) a h = ((h.0.0, h.1.0), λ t k. ((k.0, h.0.1), (k.1, h.1.1)))
  inside_over (AcquireIn x u r) a h = ((h.0.0, h.1.0), λ t k. ((k.0, h.0.1, h.0.2, h.0.3), (k.1, h.1.1, h.1.2)))
  inside_over (AcquireCaseIn x u y s z e d) a h =
      ((h.0.0, h.1.0), λ t k. ((k.0, h.0.1, h.0.2, h.0.3, h.0.4, h.0.5, h.0.6, h.0.7), (k.1, h.1.1, h.1.2, h.1.3, h.1.4)))
  inside_over (InUseIn i r) a h = ((h.0.0, h.1.0), λ t k. ((k.0, h.0.1), (k.1, h.1.1)))
  inside_over (InUseCaseIn i y s z e d) a h =
      ((h.0.0, h.1.0), λ t k. ((k.0, h.0.1, h.0.2, h.0.3, h.0.4, h.0.5), (k.1, h.1.1, h.1.2, h.1.3)))
  inside_over _ a h = (h, λ t k. k)

  -- so is the leaf of a term
  pub leaf_over : (t : Term) → IsScopedOver is_given t → IsScopedOver is_given (leaf t)
  leaf_over (Let x a b) h = leaf_over a (h.0.0, h.1.0)
  leaf_over (Handle a x b) h = leaf_over a (h.0.0, h.1.0)
  leaf_over (OnCancel a f) h = leaf_over a (h.0.0, h.1.0)
  leaf_over (Bracket x a u r) h = leaf_over a (h.0.0, h.1.0)
  leaf_over (BracketCase x a u y s z e d) h = leaf_over a (h.0.0, h.1.0)
  leaf_over (Masked r a) h = leaf_over a h
  leaf_over (Opened r a) h = leaf_over a h
  leaf_over (InUse k a r) h = leaf_over a (h.0.0, h.1.0)
  leaf_over (InUseCase k a y s z e d) h = leaf_over a (h.0.0, h.1.0)
  leaf_over (InRelease k a v) h = leaf_over a h
  leaf_over t h = h

  -- and that of what a fiber runs
  pub leaf_at_over : (p : Progress) (t : Term) → leaf_at p ≡ Some t → IsProgressScopedOver is_given p → IsScopedOver is_given t
  leaf_at_over (Runs a) t e h = let same : leaf a ≡ t = cc in rw (← same) (leaf_over a h)
  leaf_at_over (CleansUp k a rest) t e h = let same : leaf a ≡ t = cc in rw (← same) (leaf_over a h.0)
  leaf_at_over (Unwinds rest) t e h = absurd cc
  leaf_at_over (HasEnded o) t e h = absurd cc

  -- the numbers that a step takes were given
  abbrev pub GivesTaken : Counts → Counts → Type 0
  GivesTaken c d = (f : ℕ) → c.next ≤ f → f < d.next → is_given f ≡ true

  row_over : {k : Bool} {c d : Counts} {l : Label} {t t' : Term} → Row k c t l d t' → GivesTaken c d → IsScopedOver is_given t
      → IsScopedOver is_given t' × StartsScopedOver is_given l
  row_over row.if_not_zero g h = ((h.0.1, h.1.0), tt)
  row_over row.if_zero g h = ((h.0.2, h.1.1), tt)
  row_over row.for_begins g h = (h, tt)
  row_over (row.loop_turns {i = i} {k = j} {t = a} e) g h = let p = put_value i j a h.0.1 h.1 in (((p.0, tt, h.0), (p.1, h.1)), tt)
  row_over (row.let_value {x = x} {n = n} {b = b}) g h = (put_named_value x n b h.0.2 h.1.1, tt)
  row_over (row.handle_error {x = x} {e = e} {b = b}) g h = (put_named_value x e b h.0.2 h.1.1, tt)
  row_over {c = c} (row.mask {p = p} {t = a}) g h = (put_over kind.Poll p c.masks a (λ e. absurd cc) h.0.1 h.1, tt)
  row_over row.poll g h = ((h.0.1, h.1), tt)
  row_over (row.acquired {x = x} {n = n} {u = u} {r = r}) g h =
      let p = put_named_value x n u h.0.2 h.1.1 in
      let q = put_named_value x n r h.0.3 h.1.2 in
      (((p.0, q.0), (p.1, q.1)), tt)
  row_over row.used g h = ((h.0.1, h.1.1), tt)
  row_over {c = c} (row.acquired_case {x = x} {y = y} {z = z} {n = n} {u = u} {s = s} {e = e} {d = d}) g h =
      (put_value x n (InUseCase c.acquired u y s z e d) (h.0.2, h.0.3, h.0.4, h.0.5, h.0.6, h.0.7) (h.1.1, h.1.2, h.1.3, h.1.4), tt)
  row_over (row.use_succeeded {y = y} {n = n} {s = s}) g h = (put_value y n s h.0.2 h.1.1, tt)
  row_over (row.use_erred {z = z} {i = i} {e = e}) g h = (put_value z i e h.0.4 h.1.2, tt)
  row_over {c = c} (row.start {h = x} {a = a} {b = b}) g h =
      (put_over kind.Fiber x c.next b (λ e. g c.next (omega arith) (omega arith)) h.0.2 h.1.1, (h.0.0, h.1.0))
  row_over (row.joined {x = x} {e = e} {a = a} {b = b} {d = d} {o = o}) g h = (branch_over o x e a b d h.0.2 h.1.1 h.0.4 h.1.2 (h.0.5, h.1.3), tt)
  row_over row.request g h = ((tt, h.1), tt)
  row_over (row.tried_take {n = n} {x = x} {a = a}) g h = (put_value x n a h.0.1 h.1.0, tt)
  row_over row.found_empty g h = ((h.0.2, h.1.1), tt)
  row_over (row.inside f {a = a} {a' = a'} e j r) g h =
      let p = inside_over f a (rw e at h) in
      let q = row_over r g p.0 in
      rw j (p.1 a' q.0, q.1)
  row_over _ g h = ((tt, tt), tt)

  part_over : (f : Context) (a : Term) → IsScopedOver is_given (plug f a) → IsScopedOver is_given a × AreAll (IsScopedOver is_given) (cleanups_with f [])
  part_over (OnCancelIn f) a h = ((h.0.0, h.1.0), ((h.0.1, h.1.1), tt))
  part_over (InUseIn k r) a h = ((h.0.0, h.1.0), ((h.0.1, h.1.1), tt))
  part_over (InUseCaseIn k y s z e d) a h = ((h.0.0, h.1.0), ((h.0.5, h.1.3), tt))
  part_over f a h = ((inside_over f a h).0, tt)

  pub step_over : {c d : Counts} {p q : Progress} {l : Label} → Step c p l d q → GivesTaken c d → IsProgressScopedOver is_given p
      → IsProgressScopedOver is_given q × StartsScopedOver is_given l
  step_over (step.cancelled {t = t} m) g h = (all_on_path (IsScopedOver is_given) (IsScopedOver is_given) part_over t h, tt)
  step_over (step.seen m o) g h = (h, tt)
  step_over (step.row m r) g h = row_over r g h
  step_over (step.succeeds m) g h = (tt, tt)
  step_over (step.errs m) g h = (tt, tt)
  step_over step.finalizer g h = (h, tt)
  step_over step.release g h = (h, tt)
  step_over (step.cleans r) g h = let k = row_over r g h.0 in ((k.0, h.1), k.1)
  step_over step.finalizer_ends g h = (h.1, tt)
  step_over step.release_ends g h = (h.1, tt)
  step_over step.unwound g h = (tt, tt)

  leads_over : (c d : Counts) (p q : Progress) (ls : List Label) → Leads c p ls d q → GivesTaken c d → IsProgressScopedOver is_given p
      → IsProgressScopedOver is_given q
  leads_over c d p q [] r g h = rw r.1 h
  leads_over c d p q (l ∷ ls) r g h =
      let after = leads_next r.0 d r.1 q ls r.3 in
      let before = step_next r.2 in
      let here = step_over r.2 (λ f low high. g f low (omega arith)) h in
      leads_over r.0 d r.1 q ls r.3 (λ f low high. g f (omega arith) high) here.0

  starts_over : (c d : Counts) (p q : Progress) (ls : List Label) → Leads c p ls d q → GivesTaken c d → IsProgressScopedOver is_given p
      → All (StartsScopedOver is_given) ls
  starts_over c d p q [] r g h = All-nil (StartsScopedOver is_given)
  starts_over c d p q (l ∷ ls) r g h =
      let after = leads_next r.0 d r.1 q ls r.3 in
      let before = step_next r.2 in
      let here = step_over r.2 (λ f low high. g f low (omega arith)) h in
      All-cons (StartsScopedOver is_given) l ls here.1 (starts_over r.0 d r.1 q ls r.3 (λ f low high. g f (omega arith) high) here.0)

  -- a label that requests a fiber has a number that was given
  abbrev pub RequestsGiven : Label → Type 0
  RequestsGiven (Shows (event.Request f)) = is_given f ≡ true
  RequestsGiven _ = Unit {0}

  row_requests : {k : Bool} {c d : Counts} {l : Label} {t t' : Term} → Row k c t l d t' → IsScopedOver is_given t → RequestsGiven l
  row_requests row.request h = h.1
  row_requests (row.inside f {a = a} e j r) h = row_requests r (inside_over f a (rw e at h)).0
  row_requests _ h = tt

  step_requests : {c d : Counts} {p q : Progress} {l : Label} → Step c p l d q → IsProgressScopedOver is_given p → RequestsGiven l
  step_requests (step.row m r) h = row_requests r h
  step_requests (step.cleans r) h = row_requests r h.0
  step_requests _ h = tt

  requests_over : (c d : Counts) (p q : Progress) (ls : List Label) → Leads c p ls d q → GivesTaken c d → IsProgressScopedOver is_given p
      → All RequestsGiven ls
  requests_over c d p q [] r g h = All-nil RequestsGiven
  requests_over c d p q (l ∷ ls) r g h =
      let after = leads_next r.0 d r.1 q ls r.3 in
      let before = step_next r.2 in
      let here = step_over r.2 (λ f low high. g f low (omega arith)) h in
      All-cons RequestsGiven l ls (step_requests r.2 h) (requests_over r.0 d r.1 q ls r.3 (λ f low high. g f (omega arith) high) here.0)

-- from a scoped term on
pub run_stays_scoped : (is_given : ℕ → Bool) (b : Origin) (ls : List Label) (d : Counts) (q : Progress) → IsScopedOver is_given b.term
    → ((f : ℕ) → b.next ≤ f → f < d.next → is_given f ≡ true) → IsRun b ls d q → IsProgressScopedOver is_given q
run_stays_scoped is_given b ls d q h g r = leads_over is_given (first_counts b) d (Runs b.term) q ls r g h

pub run_starts_scoped : (is_given : ℕ → Bool) (b : Origin) (ls : List Label) (d : Counts) (q : Progress) → IsScopedOver is_given b.term
    → ((f : ℕ) → b.next ≤ f → f < d.next → is_given f ≡ true) → IsRun b ls d q → All (StartsScopedOver is_given) ls
run_starts_scoped is_given b ls d q h g r = starts_over is_given (first_counts b) d (Runs b.term) q ls r g h

-- each fiber that it requests was given
pub run_requests_given : (is_given : ℕ → Bool) (b : Origin) (ls : List Label) (d : Counts) (q : Progress) → IsScopedOver is_given b.term
    → ((f : ℕ) → b.next ≤ f → f < d.next → is_given f ≡ true) → IsRun b ls d q → All (RequestsGiven is_given) ls
run_requests_given is_given b ls d q h g r = requests_over is_given (first_counts b) d (Runs b.term) q ls r g h
