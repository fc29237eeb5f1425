-- A sweep tries one fiber after the other; one that finds no fiber that can step leaves all fibers, and none of them can.
use Rattle.std.proofs.Common.{◌≡◌, ℕ, Bool, true, false, Option, List, [], ◌∷◌, ◌++◌, append_assoc, map, length, All, refl, sym, ◌∙◌, ap, subst, cond, arith}
use Rattle.std.specs.Prelude.{not}
use Rattle.std.specs.List.{filter}
use Rattle.std.specs.List.Sorted.{IsStrictlyIncreasing}
use Rattle.std.proofs.lemmas.List.Elements.{All-nil, All-cons, filter-append}
use Rattle.fx_term.specs.declared.node.Node.{Node}
use Rattle.fx_term.specs.declared.outcome.Outcome.{Outcome}
use Rattle.fx_term.specs.Script.{ScriptView}
use Rattle.fx_fiber.specs.Fiber.{FiberView}
use Rattle.fx_port.specs.PortView.{PortView}
use Rattle.fx_run.specs.Sweep.{ClosedLists, can_go, is_unable, closed_of, NoneCanGo, IsSwept, events_of}
use Rattle.fx_run.specs.Tally.{TallyView, empty_tally, with_live, with_lives}
use Rattle.fx_run.specs.Flows.{with_moves, rests_in, rests_of}
use Rattle.fx_run.proofs.SweepLaws.{told_outcomes, told_requested}
use Rattle.fx_run.proofs.FlowLaws.{counted_rests, moves_append}

-- what passes of the next one comes after what passed of those before it
pub next_passes : {A : Type 0} (test : A → Bool) (kept more : List A) (x : A) (xs rest all : List A) → rest ≡ x ∷ xs
    → more ≡ kept ++ filter test (x ∷ []) → kept ++ filter test rest ≡ filter test all → more ++ filter test xs ≡ filter test all
next_passes {A} test kept more x xs rest all is put so =
    ap (λ (l : List A). l ++ filter test xs) put
    ∙ append_assoc kept (filter test (x ∷ [])) (filter test xs)
    ∙ ap (λ (l : List A). kept ++ l) (sym (filter-append test (x ∷ []) xs) ∙ ap (filter test) (sym is))
    ∙ so

-- where none passes, each fails
module _ {A : Type 0} (test : A → Bool) where
  pub record NonePasses (xs : List A) : Type 0 where
    pub each : All (λ x. test x ≡ false) xs
    pub whole : filter (λ x. not (test x)) xs ≡ xs

  pub none_passes : (xs : List A) → filter test xs ≡ [] → NonePasses xs
  none_passes [] e = record { each = All-nil (λ x. test x ≡ false); whole = refl }
  none_passes (x ∷ xs) e = by_test (test x) refl e (none_passes xs)
    where
      by_test : (b : Bool) → test x ≡ b → cond b (x ∷ filter test xs) (filter test xs) ≡ [] → (filter test xs ≡ [] → NonePasses xs) → NonePasses (x ∷ xs)
      by_test true is e rest = absurd (let z : ⊥ = cc in z)
      by_test false is e rest = record {
        each = All-cons (λ x. test x ≡ false) x xs is (rest e).each;
        whole = ap (λ b. cond (not b) (x ∷ filter (λ x. not (test x)) xs) (filter (λ x. not (test x)) xs)) is ∙ ap (λ ys. x ∷ ys) (rest e).whole;
      }

module _ (nodes : List Node) (s : ScriptView) (unable : List (FiberView PortView)) (swept : IsSwept nodes s [] unable) where
  none : NonePasses (can_go nodes (closed_of s swept.fibers)) swept.fibers
  none = none_passes (can_go nodes (closed_of s swept.fibers)) swept.fibers (sym swept.able_are)

  all_unable : swept.fibers ≡ unable
  all_unable = sym (swept.unable_are ∙ none.whole)

  pub still_ascending : IsStrictlyIncreasing (map (λ (f : FiberView PortView). f.port.words.own.id) unable)
  still_ascending =
      subst (λ (fs : List (FiberView PortView)). IsStrictlyIncreasing (map (λ (f : FiberView PortView). f.port.words.own.id) fs)) all_unable swept.ascending

  pub none_can_go : NoneCanGo nodes s unable
  none_can_go = subst (λ (fs : List (FiberView PortView)). NoneCanGo nodes s fs) all_unable none.each

-- the queues' counters have what the events of all fibers told
pub lives_moved : (fs : List (FiberView PortView)) (t : TallyView) → (with_lives fs t).flows ≡ with_moves (events_of fs) t.flows
lives_moved [] t = refl
lives_moved (f ∷ fs) t = lives_moved fs (with_live f t) ∙ sym (moves_append f.trace (events_of fs) t.flows)

-- the rests that they tell
pub told_rests : (s : ScriptView) (fs : List (FiberView PortView))
    → rests_in (with_lives fs (empty_tally s)).flows ≡ rests_of (length s.capacities) (events_of fs)
told_rests s fs = ap rests_in (lives_moved fs (empty_tally s)) ∙ counted_rests (length s.capacities) (events_of fs)

-- lists that are what the fibers told are what they have come to
pub closed_parts : (s : ScriptView) (fs : List (FiberView PortView)) (c : ClosedLists) (t : TallyView) → t ≡ with_lives fs (empty_tally s)
    → c.caps ≡ s.capacities → c.rests ≡ rests_in t.flows → c.outcomes ≡ t.ledger.outcomes → c.requested ≡ t.ledger.requested → c ≡ closed_of s fs
closed_parts s fs c t told caps rests outcomes requested =
    by_parts caps (rests ∙ ap (λ (t : TallyView). rests_in t.flows) told ∙ told_rests s fs)
    (outcomes ∙ ap (λ (t : TallyView). t.ledger.outcomes) told ∙ told_outcomes s fs)
    (requested ∙ ap (λ (t : TallyView). t.ledger.requested) told ∙ told_requested s fs)
  where
    by_parts : {a a' b b' : List ℕ} {d d' : List (Option Outcome)} {e e' : List Bool} → a ≡ a' → b ≡ b' → d ≡ d' → e ≡ e'
        → ◌≡◌ {A = ClosedLists} (record { caps = a; rests = b; outcomes = d; requested = e }) (record { caps = a'; rests = b'; outcomes = d'; requested = e' })
    by_parts p q r u = cc

-- fibers that were parted by what they have come to are swept
pub swept_so : (nodes : List Node) (s : ScriptView) (fs seen able unable : List (FiberView PortView)) (lists : ClosedLists)
    → IsStrictlyIncreasing (map (λ (f : FiberView PortView). f.port.words.own.id) fs) → seen ≡ fs → lists ≡ closed_of s seen
    → able ≡ filter (can_go nodes lists) fs → unable ≡ filter (is_unable nodes lists) fs → IsSwept nodes s able unable
swept_so nodes s fs seen able unable lists rise is come able_are unable_are =
    let lists_are : lists ≡ closed_of s fs = come ∙ ap (closed_of s) is in
    record {
      fibers = fs;
      ascending = rise;
      able_are = able_are ∙ ap (λ (l : ClosedLists). filter (can_go nodes l) fs) lists_are;
      unable_are = unable_are ∙ ap (λ (l : ClosedLists). filter (is_unable nodes l) fs) lists_are;
    }

no_more : {A : Type 0} (xs : List A) → length xs ≡ 0 → xs ≡ []
no_more [] e = refl
no_more (x ∷ xs) e = absurd (omega arith)

-- a sweep that found none
pub found_none : (nodes : List Node) (s : ScriptView) (able unable : List (FiberView PortView)) → length able ≡ 0
    → IsSwept nodes s able unable → IsSwept nodes s [] unable
found_none nodes s able unable none swept = subst (λ (fs : List (FiberView PortView)). IsSwept nodes s fs unable) (no_more able none) swept
