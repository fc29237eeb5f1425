-- The laws of terms that can be put for one another.
use Rattle.std.proofs.Common.{◌≡◌, ℕ, Bool, true, Option, Some, None, List, [], ◌∷◌, refl, sym, ap, subst, arith}
use Rattle.fx_term.specs.declared.node.Arg.TheVariants.{Number}
use Rattle.fx_term.specs.declared.done.Done.{Done}
use Rattle.fx_term.specs.declared.done.Done.TheVariants.{Val, Err}
use Rattle.fx_term.specs.declared.event.Event.TheVariants as event
use Rattle.fx_term.specs.declared.name_kind.NameKind.{NameKind}
use Rattle.fx_term.specs.declared.name_kind.NameKind.TheVariants as kind
use Rattle.fx_term.specs.Term.{Term, Pure, Canceled, Cede, Let, Bracket, BracketCase, Finished, InUse, InUseCase, InRelease, put, put_named}
use Rattle.fx_term.specs.Need.{need}
use Rattle.fx_term.specs.Scope.{with_name, with_named, IsScoped}
use Rattle.fx_term.proofs.NameUses.{IsUsedAs, IsBinderUsedAs, scoped_used, scoped_binder_used, put_used, put_binder_used, put_unused, name_is}
use Rattle.fx_model.specs.Path.{Context, LetIn, HandleIn, AcquireIn, AcquireCaseIn, InUseIn, InUseCaseIn}
use Rattle.fx_model.specs.Row.{Counts, Label, Shows, Row, known_canceled}
use Rattle.fx_model.specs.Row as rule
use Rattle.fx_model.specs.MaskLaws.{forced_after}
use Rattle.fx_laws.specs.Names.{without_names}
use Rattle.fx_laws.specs.Everywhere.{placed}
use Rattle.fx_laws.proofs.Placed.{result_placed, row_placed, row_of_placed}
use Rattle.fx_laws.proofs.SilentRows.{pure_leads, let_value_leads, let_error_leads, handle_value_leads, handle_error_leads}
use Rattle.fx_laws.proofs.SilentRows.{leads_placed}
use Rattle.fx_laws.proofs.MonadLaws.{cede_leads}
use Rattle.fx_laws.proofs.CanceledLaws.{only_in}
use Rattle.fx_laws.proofs.BracketLaws.{acquire_fails_leads, kept_under}
use Rattle.fx_laws.proofs.CaseSteps.{acquired_leads, used_leads, case_fails_leads, case_acquired_leads, succeeded_leads, erred_leads}
use Rattle.fx_laws.proofs.CaseLaws.{unused_put}
use Rattle.fx_script_laws.specs.Filled.{none_bound}
use Rattle.fx_script_laws.specs.Interchange.{AreInterchangeable}
use Rattle.fx_script_laws.proofs.Followed.{IsFollowed, by_row}
use Rattle.fx_script_laws.proofs.Spots.{IsSameSpot}
use Rattle.fx_script_laws.proofs.EachFollows.{EachFollows, itself, turned_each, spot_by, one_leads, both_step, both_lead, both_inside, interchangeable}

-- three terms, each forced after the one before
module _ (b f : Term) where
  abbrev nothing : Term
  nothing = Pure (Number 0)

  abbrev from_left : List Context
  from_left = LetIn None f ∷ HandleIn None nothing ∷ LetIn None b ∷ HandleIn None nothing ∷ []

  abbrev from_right : List Context
  from_right = LetIn None (forced_after b f) ∷ HandleIn None nothing ∷ []

  abbrev inner : List Context
  inner = LetIn None f ∷ HandleIn None nothing ∷ LetIn None b ∷ []

  value_dropped : (n : ℕ) → EachFollows (Let None (Finished (Val n)) (forced_after b f)) (placed inner (Finished (Val n)))
  value_dropped n =
      both_lead (let_value_leads None n (forced_after b f)) (leads_placed (LetIn None f ∷ HandleIn None nothing ∷ []) (let_value_leads None n b))
      (spot_by (λ outer. refl) refl refl (λ o. refl)) (itself (forced_after b f))

  forced_ends : (w : Done) → EachFollows (placed from_right (Finished w)) (placed from_left (Finished w))
  forced_ends (Val n) =
      both_lead (leads_placed (LetIn None (forced_after b f) ∷ []) (handle_value_leads None n nothing)) (leads_placed inner (handle_value_leads None n nothing))
      (spot_by (λ outer. refl) refl refl (λ o. refl)) (value_dropped n)
  forced_ends (Err n) =
      both_lead (leads_placed (LetIn None (forced_after b f) ∷ []) (handle_error_leads None n nothing)) (leads_placed inner (handle_error_leads None n nothing))
      (spot_by (λ outer. refl) refl refl (λ o. refl))
      (both_lead (leads_placed (LetIn None (forced_after b f) ∷ []) (pure_leads 0)) (leads_placed inner (pure_leads 0))
      (spot_by (λ outer. refl) refl refl (λ o. refl)) (value_dropped 0))

data ForcedInOrder : Term → Term → Type 0 where
  forced : (a b f : Term) → ForcedInOrder (forced_after a (forced_after b f)) (forced_after (forced_after a b) f)

forced_put : (x n : ℕ) (t u : Term) → ForcedInOrder t u → ForcedInOrder (put x n t) (put x n u)
forced_put x n t u (forced a b f) = forced (put x n a) (put x n b) (put x n f)

forced_need : (t u : Term) → ForcedInOrder t u → need t ≡ need u
forced_need t u (forced a b f) = omega arith

forced_follows : (t u : Term) → ForcedInOrder t u → EachFollows t u
forced_follows t u (forced a b f) = both_inside (from_right b f) (from_left b f) (λ outer. refl) (λ xs. refl) (forced_ends b f) a

pub forced_in_order : (a b f : Term) → AreInterchangeable none_bound (forced_after a (forced_after b f)) (forced_after (forced_after a b) f)
forced_in_order a b f =
    interchangeable ForcedInOrder forced_put forced_need forced_follows (forced_after a (forced_after b f)) (forced_after (forced_after a b) f) (forced a b f)

-- three terms, each with the value of the one before
put_in_let : (x y : Option ℕ) (n : ℕ) (b f : Term) → put_named x n f ≡ f → put_named x n (Let y b f) ≡ Let y (put_named x n b) f
put_in_let None y n b f h = refl
put_in_let (Some x) y n b f h = ap (λ (g : Term). Let y (put_named (Some x) n b) g) h

module _ (x y : Option ℕ) (b f : Term) (unused : (n : ℕ) → put_named x n f ≡ f) where
  bound_ends : (w : Done) → EachFollows (Let x (Finished w) (Let y b f)) (Let y (Let x (Finished w) b) f)
  bound_ends (Val n) =
      both_lead (let_value_leads x n (Let y b f)) (leads_placed (LetIn y f ∷ []) (let_value_leads x n b)) (spot_by (λ outer. refl) refl refl (λ o. refl))
      (subst (λ (t : Term). EachFollows t (Let y (put_named x n b) f)) (sym (put_in_let x y n b f (unused n))) (itself (Let y (put_named x n b) f)))
  bound_ends (Err e) =
      both_lead (let_error_leads x e (Let y b f)) (leads_placed (LetIn y f ∷ []) (let_error_leads x e b)) (spot_by (λ outer. refl) refl refl (λ o. refl))
      (turned_each (one_leads (let_error_leads y e f) (spot_by (λ outer. refl) refl refl (λ o. refl)) (itself (Finished (Err e)))))

data BoundInOrder : Term → Term → Type 0 where
  bound : (x y : Option ℕ) (a b f : Term) → IsBinderUsedAs kind.OtherPoll x f → BoundInOrder (Let x a (Let y b f)) (Let y (Let x a b) f)

bound_put : (z n : ℕ) (t u : Term) → BoundInOrder t u → BoundInOrder (put z n t) (put z n u)
bound_put z n t u (bound x y a b f h) = bound x y (put z n a) (put z n b) (put z n f) (put_binder_used z kind.OtherPoll x n f h)

bound_need : (t u : Term) → BoundInOrder t u → need t ≡ need u
bound_need t u (bound x y a b f h) = omega arith

not_named : (x : Option ℕ) (f : Term) → IsBinderUsedAs kind.OtherPoll x f → (n : ℕ) → put_named x n f ≡ f
not_named None f h n = refl
not_named (Some x) f h n = put_unused x n f h

bound_follows : (t u : Term) → BoundInOrder t u → EachFollows t u
bound_follows t u (bound x y a b f h) =
    both_inside (LetIn x (Let y b f) ∷ []) (LetIn y f ∷ LetIn x b ∷ []) (λ outer. refl) (λ xs. refl) (bound_ends x y b f (not_named x f h)) a

pub bound_in_order : (scope : ℕ → Option NameKind) (x y : Option ℕ) (a b f : Term) → IsScoped (with_named x kind.OtherPoll scope) f
    → AreInterchangeable none_bound (Let x a (Let y b f)) (Let y (Let x a b) f)
bound_in_order scope x y a b f scoped =
    interchangeable BoundInOrder bound_put bound_need bound_follows (Let x a (Let y b f)) (Let y (Let x a b) f)
    (bound x y a b f (scoped_binder_used scope kind.OtherPoll x f scoped))

-- `canceled` in contexts of which it goes on to the same
module _ (gs hs : List Context) (spot : IsSameSpot (placed gs Canceled) (placed hs Canceled))
    (next : IsFollowed IsSameSpot (placed gs (Finished (Val 0))) (placed hs (Finished (Val 0)))) where
  abbrev IsRowOfCanceled : Bool → Counts → Label → Counts → Term → Type 0
  IsRowOfCanceled k c l d w = (k ≡ true) × (l ≡ Shows event.SelfRequest) × (d ≡ known_canceled c) × (w ≡ placed gs (Finished (Val 0)))

  row_is : (k : Bool) (c d : Counts) (l : Label) (t1 : Term) → Row k c (placed gs Canceled) l d t1 → IsRowOfCanceled k c l d t1
  row_is k c d l t1 r = only_in gs (row_of_placed gs Canceled r) refl

  canceled_follows : IsFollowed IsSameSpot (placed gs Canceled) (placed hs Canceled)
  canceled_follows =
      by_row spot (λ w e. let f = (result_placed gs Canceled w (sym e)).1 in cc) (λ k c d l t1 r. placed hs (Finished (Val 0)))
      (λ k c d l t1 r. let o = row_is k c d l t1 r in rw (o.1, o.2) (row_placed hs (rule.self_request o.0)))
      (λ k c d l t1 r. let o = row_is k c d l t1 r in rw o.3 next)

data ForcedCanceled : Term → Term → Type 0 where
  canceled_first : (a : Term) → ForcedCanceled (forced_after Canceled a) (Let None Canceled a)

canceled_put : (x n : ℕ) (t u : Term) → ForcedCanceled t u → ForcedCanceled (put x n t) (put x n u)
canceled_put x n t u (canceled_first a) = canceled_first (put x n a)

canceled_need : (t u : Term) → ForcedCanceled t u → need t ≡ need u
canceled_need t u (canceled_first a) = omega arith

canceled_each : (t u : Term) → ForcedCanceled t u → EachFollows t u
canceled_each t u (canceled_first a) =
    let handled = one_leads (leads_placed (LetIn None a ∷ []) (handle_value_leads None 0 (Pure (Number 0)))) (spot_by (λ outer. refl) refl refl (λ o. refl))
    (itself (Let None (Finished (Val 0)) a)) in
    record {
      to = canceled_follows (LetIn None a ∷ HandleIn None (Pure (Number 0)) ∷ []) (LetIn None a ∷ []) (spot_by (λ outer. refl) refl refl (λ o. refl))
          handled.to;
      from = canceled_follows (LetIn None a ∷ []) (LetIn None a ∷ HandleIn None (Pure (Number 0)) ∷ []) (spot_by (λ outer. refl) refl refl (λ o. refl))
          handled.from;
    }

pub forced_canceled : (a : Term) → AreInterchangeable none_bound (forced_after Canceled a) (Let None Canceled a)
forced_canceled a =
    interchangeable ForcedCanceled canceled_put canceled_need canceled_each (forced_after Canceled a) (Let None Canceled a) (canceled_first a)

data CedeIsPure : Term → Term → Type 0 where
  ceded : CedeIsPure Cede (Pure (Number 0))

ceded_put : (x n : ℕ) (t u : Term) → CedeIsPure t u → CedeIsPure (put x n t) (put x n u)
ceded_put x n t u ceded = ceded

ceded_need : (t u : Term) → CedeIsPure t u → need t ≡ need u
ceded_need t u ceded = refl

ceded_each : (t u : Term) → CedeIsPure t u → EachFollows t u
ceded_each t u ceded = both_lead cede_leads (pure_leads 0) (spot_by (λ outer. refl) refl refl (λ o. refl)) (itself (Finished (Val 0)))

pub cede_is_pure : AreInterchangeable none_bound Cede (Pure (Number 0))
cede_is_pure = interchangeable CedeIsPure ceded_put ceded_need ceded_each Cede (Pure (Number 0)) ceded

-- a bracket whose releases are all the same one
module _ (k y z : ℕ) (r : Term) (unused_y : (n : ℕ) → put y n r ≡ r) (unused_z : (n : ℕ) → put z n r ≡ r) where
  same_release : (q : Term) (w : Done) → q ≡ r → EachFollows (InRelease k r w) (InRelease k q w)
  same_release q w e = subst (λ (p : Term). EachFollows (InRelease k r w) (InRelease k p w)) (sym e) (itself (InRelease k r w))

  use_ends : (w : Done) → EachFollows (InUse k (Finished w) r) (InUseCase k (Finished w) y r z r r)
  use_ends (Val n) =
      both_step (used_leads k (Val n) r) (succeeded_leads y z r r r k n) (spot_by (λ outer. refl) refl refl (λ o. refl))
      (λ b. same_release (put y n r) (Val n) (unused_y n))
  use_ends (Err i) =
      both_step (used_leads k (Err i) r) (erred_leads y z r r r k i) (spot_by (λ outer. refl) refl refl (λ o. refl))
      (λ b. same_release (put z i r) (Err i) (unused_z i))

  use_follows : (u : Term) → EachFollows (InUse k u r) (InUseCase k u y r z r r)
  use_follows = both_inside (InUseIn k r ∷ []) (InUseCaseIn k y r z r r ∷ []) (λ outer. refl) (λ xs. refl) use_ends

module _ (v : Option ℕ) (x y z : ℕ) (u r : Term) (use_put : (m : ℕ) → put x m u ≡ put_named v m u)
    (release_put : (m : ℕ) → put x m r ≡ put_named v m r) (unused_y : (m n : ℕ) → put y n (put_named v m r) ≡ put_named v m r)
    (unused_z : (m n : ℕ) → put z n (put_named v m r) ≡ put_named v m r) where
  acquired_follows : (k m : ℕ) → EachFollows (InUse k (put_named v m u) (put_named v m r)) (InUseCase k (put x m u) y (put x m r) z (put x m r) (put x m r))
  acquired_follows k m = rw (use_put m, release_put m) (use_follows k y z (put_named v m r) (unused_y m) (unused_z m) (put_named v m u))

  acquire_ends : (w : Done) → EachFollows (Bracket v (Finished w) u r) (BracketCase x (Finished w) u y r z r r)
  acquire_ends (Val m) =
      both_step (acquired_leads v m u r) (case_acquired_leads y z r r r x m u) (spot_by (λ outer. refl) refl refl (λ o. refl))
      (λ b. acquired_follows b.acquired m)
  acquire_ends (Err i) =
      both_lead (acquire_fails_leads v i u r) (case_fails_leads y z r r r x i u) (spot_by (λ outer. refl) refl refl (λ o. refl)) (itself (Finished (Err i)))

  bracket_follows : (a : Term) → EachFollows (Bracket v a u r) (BracketCase x a u y r z r r)
  bracket_follows = both_inside (AcquireIn v u r ∷ []) (AcquireCaseIn x u y r z r r ∷ []) (λ outer. refl) (λ xs. refl) acquire_ends

data HasOneRelease : Term → Term → Type 0 where
  named : (x y z : ℕ) (a u r : Term) → IsUsedAs kind.OtherPoll y r → IsUsedAs kind.OtherPoll z r
      → HasOneRelease (Bracket (Some x) a u r) (BracketCase x a u y r z r r)
  unnamed : (x y z : ℕ) (a u r : Term) → IsUsedAs kind.OtherPoll x u → IsUsedAs kind.OtherPoll x r → IsUsedAs kind.OtherPoll y r → IsUsedAs kind.OtherPoll z r
      → HasOneRelease (Bracket None a u r) (BracketCase x a u y r z r r)

release_put_too : (w n : ℕ) (t u : Term) → HasOneRelease t u → HasOneRelease (put w n t) (put w n u)
release_put_too w n t s (named x y z a u r p q) =
    named x y z (put w n a) (put w n u) (put w n r) (put_used y kind.OtherPoll w n r p) (put_used z kind.OtherPoll w n r q)
release_put_too w n t s (unnamed x y z a u r i j p q) =
    unnamed x y z (put w n a) (put w n u) (put w n r) (put_used x kind.OtherPoll w n u i) (put_used x kind.OtherPoll w n r j)
    (put_used y kind.OtherPoll w n r p) (put_used z kind.OtherPoll w n r q)

release_need : (t u : Term) → HasOneRelease t u → need t ≡ need u
release_need t s (named x y z a u r p q) = grind arith
release_need t s (unnamed x y z a u r i j p q) = grind arith

release_each : (t u : Term) → HasOneRelease t u → EachFollows t u
release_each t s (named x y z a u r p q) =
    bracket_follows (Some x) x y z u r (λ m. refl) (λ m. refl) (λ m n. unused_put x y m n r p) (λ m n. unused_put x z m n r q) a
release_each t s (unnamed x y z a u r i j p q) =
    bracket_follows None x y z u r (λ m. put_unused x m u i) (λ m. put_unused x m r j) (λ m n. put_unused y n r p) (λ m n. put_unused z n r q) a

pub bracket_of_one_release : (scope : ℕ → Option NameKind) (x y z : ℕ) (a u r : Term)
    → IsScoped (with_name y kind.OtherPoll (with_name z kind.OtherPoll scope)) r
    → AreInterchangeable none_bound (Bracket (Some x) a u r) (BracketCase x a u y r z r r)
bracket_of_one_release scope x y z a u r scoped =
    let last = with_name z kind.OtherPoll scope in
    let there = with_name y kind.OtherPoll last in
    interchangeable HasOneRelease release_put_too release_need release_each (Bracket (Some x) a u r) (BracketCase x a u y r z r r)
    (named x y z a u r (scoped_used y there kind.OtherPoll r (name_is y kind.OtherPoll last) scoped)
    (scoped_used z there kind.OtherPoll r (kept_under y z last (name_is z kind.OtherPoll scope)) scoped))

pub guarantee_of_one_release : (scope : ℕ → Option NameKind) (x y z : ℕ) (a f : Term) → IsScoped (with_name x kind.OtherPoll scope) a
    → IsScoped (without_names scope x y z) f
    → AreInterchangeable none_bound (Bracket None (Pure (Number 0)) a f) (BracketCase x (Pure (Number 0)) a y f z f f)
guarantee_of_one_release scope x y z a f scoped_a scoped_f =
    let last = with_name z kind.OtherPoll scope in
    let under = with_name y kind.OtherPoll last in
    let there = with_name x kind.OtherPoll under in
    let z_there = kept_under x z under (kept_under y z last (name_is z kind.OtherPoll scope)) in
    let y_there = kept_under x y under (name_is y kind.OtherPoll last) in
    interchangeable HasOneRelease release_put_too release_need release_each (Bracket None (Pure (Number 0)) a f)
    (BracketCase x (Pure (Number 0)) a y f z f f)
    (unnamed x y z (Pure (Number 0)) a f (scoped_used x (with_name x kind.OtherPoll scope) kind.OtherPoll a (name_is x kind.OtherPoll scope) scoped_a)
    (scoped_used x there kind.OtherPoll f (name_is x kind.OtherPoll under) scoped_f)
    (scoped_used y there kind.OtherPoll f y_there scoped_f) (scoped_used z there kind.OtherPoll f z_there scoped_f))
