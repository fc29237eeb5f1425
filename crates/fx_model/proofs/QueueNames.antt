-- A term that names queues below a bound shows only events that do, and starts only such terms.
use Rattle.std.proofs.Common.{ℕ, ◌≤◌, arith, Bool, Option, Some, None, List, [], ◌∷◌, All}
use Rattle.std.proofs.lemmas.List.Elements.{All-nil, All-cons, All-head, All-tail, All-weaker}
use Rattle.fx_term.specs.declared.outcome.Outcome.{Outcome}
use Rattle.fx_term.specs.declared.outcome.Outcome.TheVariants as outcome
use Rattle.fx_term.specs.declared.event.Event.TheVariants as event
use Rattle.fx_term.specs.Term.{Term, Let, Handle, If, For, Mask, Poll, OnCancel, Bracket, BracketCase, Start, Join, Offer, TryOffer, Take, TryTake, Masked}
use Rattle.fx_term.specs.Term.{Opened, InUse, InUseCase, InRelease, Loop, put, put_named}
use Rattle.fx_term.specs.QueuesNamed.{NamesQueuesBelow, NamesQueueBelow}
use Rattle.fx_model.specs.Path.{Context, OnCancelIn, AcquireIn, AcquireCaseIn, MaskedIn, OpenedIn, InUseIn, InUseCaseIn, InReleaseIn, plug, cleanups_with}
use Rattle.fx_model.specs.Row.{Counts, Label, Silent, Shows, Learns, Starts, part_after, Row}
use Rattle.fx_model.specs.Row as row
use Rattle.fx_model.specs.Step.{Progress, Runs, AreAll, IsProgressOf, Step}
use Rattle.fx_model.specs.Step as step
use Rattle.fx_model.specs.Origin.{Origin}
use Rattle.fx_model.specs.Run.{Leads, IsRun, events, first_counts}
use Rattle.fx_model.proofs.Cleanups.{all_on_path}
use Rattle.fx_model.proofs.StartLaws.{StartsSo}

-- a greater bound does as well
module _ (n k : ℕ) (le : n ≤ k) where
  below_more : (t : Term) → NamesQueuesBelow n t → NamesQueuesBelow k t
  below_more (Let x a b) h = (below_more a h.0, below_more b h.1)
  below_more (Handle a x b) h = (below_more a h.0, below_more b h.1)
  below_more (If v a b) h = (below_more a h.0, below_more b h.1)
  below_more (For i c a) h = below_more a h
  below_more (Mask p a) h = below_more a h
  below_more (Poll p a) h = below_more a h
  below_more (OnCancel a f) h = (below_more a h.0, below_more f h.1)
  below_more (Bracket x a u r) h = (below_more a h.0, below_more u h.1, below_more r h.2)
  below_more (BracketCase x a u y s z e d) h = (below_more a h.0, below_more u h.1, below_more s h.2, below_more e h.3, below_more d h.4)
  below_more (Start i a b) h = (below_more a h.0, below_more b h.1)
  below_more (Join f x a e b c) h = (below_more a h.0, below_more b h.1, below_more c h.2)
  below_more (Offer q v) h = omega arith
  below_more (TryOffer q v) h = omega arith
  below_more (Take q) h = omega arith
  below_more (TryTake q x a b) h = (let lt = h.0 in omega arith, below_more a h.1, below_more b h.2)
  below_more (Masked r a) h = below_more a h
  below_more (Opened r a) h = below_more a h
  below_more (InUse j a r) h = (below_more a h.0, below_more r h.1)
  below_more (InUseCase j a y s z e d) h = (below_more a h.0, below_more s h.1, below_more e h.2, below_more d h.3)
  below_more (InRelease j a v) h = below_more a h
  below_more (Loop i j c a) h = below_more a h
  below_more _ h = tt

pub names_below_more : (t : Term) (n k : ℕ) → n ≤ k → NamesQueuesBelow n t → NamesQueuesBelow k t
names_below_more t n k le = below_more n k le t

module _ (n : ℕ) where
  -- what the label shows names such queues, and what it starts does
  abbrev pub LabelNamesBelow : Label → Type 0
  LabelNamesBelow Silent = Unit {0}
  LabelNamesBelow (Shows e) = NamesQueueBelow n e
  LabelNamesBelow (Learns f o e) = NamesQueueBelow n e
  LabelNamesBelow (Starts f b) = NamesQueuesBelow n b.term

  -- what a fiber runs names such queues, and so do the clean-ups that are left
  abbrev pub ProgressNamesBelow : Progress → Type 0
  ProgressNamesBelow p = IsProgressOf (NamesQueuesBelow n) (NamesQueuesBelow n) p

  -- a number for a name leaves the queues as they are
  put_names : (x v : ℕ) (t : Term) → NamesQueuesBelow n t → NamesQueuesBelow n (put x v t)
  put_names x v (Let y a b) h = (put_names x v a h.0, put_names x v b h.1)
  put_names x v (Handle a y b) h = (put_names x v a h.0, put_names x v b h.1)
  put_names x v (If w a b) h = (put_names x v a h.0, put_names x v b h.1)
  put_names x v (For i c a) h = put_names x v a h
  put_names x v (Mask p a) h = put_names x v a h
  put_names x v (Poll p a) h = put_names x v a h
  put_names x v (OnCancel a f) h = (put_names x v a h.0, put_names x v f h.1)
  put_names x v (Bracket y a u r) h = (put_names x v a h.0, put_names x v u h.1, put_names x v r h.2)
  put_names x v (BracketCase y a u z s w e d) h =
      (put_names x v a h.0, put_names x v u h.1, put_names x v s h.2, put_names x v e h.3, put_names x v d h.4)
  put_names x v (Start i a b) h = (put_names x v a h.0, put_names x v b h.1)
  put_names x v (Join f y a e b c) h = (put_names x v a h.0, put_names x v b h.1, put_names x v c h.2)
  put_names x v (Offer q w) h = h
  put_names x v (TryOffer q w) h = h
  put_names x v (Take q) h = h
  put_names x v (TryTake q y a b) h = (h.0, put_names x v a h.1, put_names x v b h.2)
  put_names x v (Masked r a) h = put_names x v a h
  put_names x v (Opened r a) h = put_names x v a h
  put_names x v (InUse k a r) h = (put_names x v a h.0, put_names x v r h.1)
  put_names x v (InUseCase k a y s z e d) h = (put_names x v a h.0, put_names x v s h.1, put_names x v e h.2, put_names x v d h.3)
  put_names x v (InRelease k a w) h = put_names x v a h
  put_names x v (Loop i k c a) h = put_names x v a h
  put_names x v _ h = tt

  put_named_names : (x : Option ℕ) (v : ℕ) (t : Term) → NamesQueuesBelow n t → NamesQueuesBelow n (put_named x v t)
  put_named_names None v t h = h
  put_named_names (Some x) v t h = put_names x v t h

  -- the branch that is chosen
  branch_names : (o : Outcome) (x e : ℕ) (a b c : Term) → NamesQueuesBelow n a × NamesQueuesBelow n b × NamesQueuesBelow n c
      → NamesQueuesBelow n (part_after o x a e b c)
  branch_names (outcome.Succeeded v) x e a b c h = put_names x v a h.0
  branch_names (outcome.Errored v) x e a b c h = put_names e v b h.1
  branch_names outcome.Canceled x e a b c h = h.2

  -- the part of a context that runs, and the whole with another in its place
  names_inside : (f : Context) (a : Term) → NamesQueuesBelow n (plug f a)
      → NamesQueuesBelow n a × ((b : Term) → NamesQueuesBelow n b → NamesQueuesBelow n (plug f b))
  names_inside (AcquireIn x u r) a h = (h.0, λ b k. (k, h.1, h.2))
  names_inside (AcquireCaseIn x u y s z e d) a h = (h.0, λ b k. (k, h.1, h.2, h.3, h.4))
  names_inside (InUseCaseIn i y s z e d) a h = (h.0, λ b k. (k, h.1, h.2, h.3))
  names_inside (MaskedIn r) a h = (h, λ b k. k)
  names_inside (OpenedIn r) a h = (h, λ b k. k)
  names_inside (InReleaseIn i v) a h = (h, λ b k. k)
  names_inside _ a h = (h.0, λ b k. (k, h.1))

  -- each row of the table
  row_names : {k : Bool} {c d : Counts} {l : Label} {t t' : Term} → Row k c t l d t' → NamesQueuesBelow n t → NamesQueuesBelow n t' × LabelNamesBelow l
  row_names row.if_not_zero h = (h.0, tt)
  row_names row.if_zero h = (h.1, tt)
  row_names row.for_begins h = (h, tt)
  row_names (row.loop_turns {i = i} {k = j} {t = a} lt) h = ((put_names i j a h, h), tt)
  row_names (row.let_value {x = x} {n = v} {b = b}) h = (put_named_names x v b h.1, tt)
  row_names (row.handle_error {x = x} {e = e} {b = b}) h = (put_named_names x e b h.1, tt)
  row_names {c = c} (row.mask {p = p} {t = a}) h = (put_names p c.masks a h, tt)
  row_names row.poll h = (h, tt)
  row_names (row.acquired {x = x} {n = v} {u = u} {r = r}) h = ((put_named_names x v u h.1, put_named_names x v r h.2), tt)
  row_names row.used h = (h.1, tt)
  row_names {c = c} (row.acquired_case {x = x} {y = y} {z = z} {n = v} {u = u} {s = s} {e = e} {d = d}) h =
      (put_names x v (InUseCase c.acquired u y s z e d) (h.1, h.2, h.3, h.4), tt)
  row_names (row.use_succeeded {y = y} {n = v} {s = s}) h = (put_names y v s h.1, tt)
  row_names (row.use_erred {z = z} {i = v} {e = e}) h = (put_names z v e h.2, tt)
  row_names {c = c} (row.start {h = i} {b = b}) h = (put_names i c.next b h.1, h.0)
  row_names (row.joined {x = x} {e = e} {a = a} {b = b} {d = g} {o = o}) h = (branch_names o x e a b g h, tt)
  row_names row.offered h = (tt, h)
  row_names row.tried_offer h = (tt, h)
  row_names row.refused h = (tt, h)
  row_names row.taken h = (tt, h)
  row_names (row.tried_take {n = v} {x = x} {a = a}) h = (put_names x v a h.1, h.0)
  row_names row.found_empty h = (h.2, h.0)
  row_names {t = t} {t' = t'} (row.inside f {a = a} {a' = a'} e g r) h =
      let around = names_inside f a (rw e at h) in
      let inner = row_names r around.0 in
      (rw g (around.1 a' inner.0), inner.1)
  row_names _ h = (tt, tt)

  cleanup_part : (f : Context) (a : Term) → NamesQueuesBelow n (plug f a) → NamesQueuesBelow n a × AreAll (NamesQueuesBelow n) (cleanups_with f [])
  cleanup_part (OnCancelIn f) a h = (h.0, (h.1, tt))
  cleanup_part (InUseIn k r) a h = (h.0, (h.1, tt))
  cleanup_part (InUseCaseIn k y s z e d) a h = (h.0, (h.3, tt))
  cleanup_part f a h = ((names_inside f a h).0, tt)

  -- each step of a fiber
  pub step_names : {c d : Counts} {p q : Progress} {l : Label} → Step c p l d q → ProgressNamesBelow p → ProgressNamesBelow q × LabelNamesBelow l
  step_names (step.cancelled {t = t} m) h = (all_on_path (NamesQueuesBelow n) (NamesQueuesBelow n) cleanup_part t h, tt)
  step_names (step.seen m o) h = (h, tt)
  step_names (step.row m r) h = row_names r h
  step_names step.finalizer h = (h, tt)
  step_names step.release h = (h, tt)
  step_names (step.cleans r) h = let inner = row_names r h.0 in ((inner.0, h.1), inner.1)
  step_names step.finalizer_ends h = (h.1, tt)
  step_names step.release_ends h = (h.1, tt)
  step_names _ h = (tt, tt)

  -- the labels of a run that begins at such a term
  leads_name : (c d : Counts) (p q : Progress) (ls : List Label) → Leads c p ls d q → ProgressNamesBelow p → All LabelNamesBelow ls
  leads_name c d p q [] r h = All-nil LabelNamesBelow
  leads_name c d p q (l ∷ ls) r h =
      let next = step_names r.2 h in
      All-cons LabelNamesBelow l ls next.1 (leads_name r.0 d r.1 q ls r.3 next.0)

  run_labels_name : (b : Origin) (ls : List Label) (d : Counts) (q : Progress) → NamesQueuesBelow n b.term → IsRun b ls d q → All LabelNamesBelow ls
  run_labels_name b ls d q h r = leads_name (first_counts b) d (Runs b.term) q ls r h

  -- and so does what it comes to
  leads_named : (c d : Counts) (p q : Progress) (ls : List Label) → Leads c p ls d q → ProgressNamesBelow p → ProgressNamesBelow q
  leads_named c d p q [] r h = rw r.1 h
  leads_named c d p q (l ∷ ls) r h = leads_named r.0 d r.1 q ls r.3 (step_names r.2 h).0

  pub run_stays_named : (b : Origin) (ls : List Label) (d : Counts) (q : Progress) → NamesQueuesBelow n b.term → IsRun b ls d q → ProgressNamesBelow q
  run_stays_named b ls d q h r = leads_named (first_counts b) d (Runs b.term) q ls r h

  -- what it starts begins at such a term
  start_names : (l : Label) → LabelNamesBelow l → StartsSo (λ b. NamesQueuesBelow n b.term) l
  start_names (Starts f b) h = h
  start_names _ h = tt

  pub run_starts_named : (b : Origin) (ls : List Label) (d : Counts) (q : Progress) → NamesQueuesBelow n b.term → IsRun b ls d q
      → All (StartsSo (λ b. NamesQueuesBelow n b.term)) ls
  run_starts_named b ls d q h r = All-weaker LabelNamesBelow (StartsSo (λ b. NamesQueuesBelow n b.term)) start_names ls (run_labels_name b ls d q h r)

  -- and its trace names such queues
  events_name : (ls : List Label) → All LabelNamesBelow ls → All (NamesQueueBelow n) (events ls)
  events_name [] all = All-nil (NamesQueueBelow n)
  events_name (Silent ∷ ls) all = events_name ls (All-tail LabelNamesBelow Silent ls all)
  events_name (Shows e ∷ ls) all =
      All-cons (NamesQueueBelow n) e (events ls) (All-head LabelNamesBelow (Shows e) ls all) (events_name ls (All-tail LabelNamesBelow (Shows e) ls all))
  events_name (Learns f o e ∷ ls) all =
      All-cons (NamesQueueBelow n) e (events ls) (All-head LabelNamesBelow (Learns f o e) ls all)
      (events_name ls (All-tail LabelNamesBelow (Learns f o e) ls all))
  events_name (Starts f b ∷ ls) all =
      All-cons (NamesQueueBelow n) (event.Start f) (events ls) tt (events_name ls (All-tail LabelNamesBelow (Starts f b) ls all))

  pub run_names : (b : Origin) (ls : List Label) (d : Counts) (q : Progress) → NamesQueuesBelow n b.term → IsRun b ls d q
      → All (NamesQueueBelow n) (events ls)
  run_names b ls d q h r = events_name ls (run_labels_name b ls d q h r)
