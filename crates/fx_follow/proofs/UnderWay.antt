-- Fibers are followed one after the other.
use Rattle.std.proofs.Common.{◌≡◌, ℕ, ◌+◌, ◌<◌, ◌≤◌, Option, List, [], ◌∷◌, ◌++◌, length, take, get_or, refl, sym, ◌∙◌, ap, subst, inl, inr, ⊎_elim, All}
use Rattle.std.specs.Global.{Vec}
use Rattle.std.proofs.lemmas.List.{take_more, take_all, map-append, nil_from_length}
use Rattle.std.proofs.lemmas.List.Elements.{All-nil, All-push, All-weaker}
use Rattle.fx_term.specs.declared.node.Node.{Node}
use Rattle.fx_term.specs.declared.node.NodeId.{NodeId}
use Rattle.fx_term.specs.Lists.{Among}
use Rattle.fx_term.specs.Script.{ScriptView}
use Rattle.fx_term.specs.Term.{Term}
use Rattle.fx_term.proofs.ListLaws.{Among-append_left, Among-append_right, Among-append}
use Rattle.fx_model.specs.Origin.{Origin, main_origin}
use Rattle.fx_model.specs.Outside.{Outside}
use Rattle.fx_model.specs.Report.{FiberReportView, ReportView, final_outside}
use Rattle.fx_model.specs.Row.{Counts, Label, Silent, Shows, Learns, Starts}
use Rattle.fx_model.specs.Run.{first_counts}
use Rattle.fx_model.specs.Step.{Runs}
use Rattle.fx_fiber.specs.Fiber.{FiberView, progress, IsAtFirst}
use Rattle.fx_fiber.specs.PortFacts.{Facts}
use Rattle.fx_follow.specs.Trails.{IsChild, StartsOneOf, IsTrail, IsWhole}
use Rattle.fx_follow.specs.Followed.{FiberRun, IsFollowed, AreEach, HasRunOf, StartsRun, AreFollowed, stands_of}
use Rattle.fx_follow.specs.Waiting.{IsTakenOut, HasRunOrWaits, StartsRunOrWaiting, IsUnderWay}
use Rattle.fx_follow.specs.declared.stand.Stand.{Stand}

same_term : (t u : Term) → Runs t ≡ Runs u → t ≡ u
same_term t u e = cc

-- a fiber before its first step begins in one way
same_origin : (nodes : List Node) (f : FiberView Facts) (a b : Origin) → IsAtFirst nodes a f → IsAtFirst nodes b f → a ≡ b
same_origin nodes f a b one other =
    let counts : first_counts a ≡ first_counts b = sym one.counts ∙ other.counts in
    let term : a.term ≡ b.term = same_term a.term b.term (sym one.progress_is ∙ other.progress_is) in
    let next : a.next ≡ b.next = ap (λ (c : Counts). c.next) counts in
    let end : a.end ≡ b.end = ap (λ (c : Counts). c.end) counts in
    ap (λ (t : Term). record { term = t; next = a.next; end = a.end }) term
    ∙ ap (λ (n : ℕ). record { term = b.term; next = n; end = a.end }) next
    ∙ ap (λ (n : ℕ). record { term = b.term; next = b.next; end = n }) end

-- one more
each_more : (nodes : List Node) (o : Outside) (xs : List FiberReportView) (told : List (List Stand)) (runs : List FiberRun) (x : FiberReportView)
    (stands : List Stand) (run : FiberRun) → AreEach nodes o xs told runs → IsFollowed nodes o x stands run
    → AreEach nodes o (xs ++ x ∷ []) (told ++ stands ∷ []) (runs ++ run ∷ [])
each_more nodes o [] [] [] x stands run each one = (one, tt)
each_more nodes o (y ∷ ys) (t ∷ ts) (r ∷ rs) x stands run each one = (each.0, each_more nodes o ys ts rs x stands run each.1 one)
each_more nodes o [] (t ∷ ts) runs x stands run each one = absurd each
each_more nodes o [] [] (r ∷ rs) x stands run each one = absurd each
each_more nodes o (y ∷ ys) [] runs x stands run each one = absurd each
each_more nodes o (y ∷ ys) (t ∷ ts) [] x stands run each one = absurd each

among_last : {A : Type 0} (xs : List A) (x : A) → Among x (xs ++ x ∷ [])
among_last xs x = Among-append_right xs (x ∷ []) x (inl refl)

-- the fiber that was taken out, with its trail
module _ (nodes : List Node) (s : ScriptView) (r : ReportView) (xs : List FiberReportView) (told : List (List Stand)) (old new : List (FiberView Facts))
    (x : FiberReportView) (first : FiberView Facts) (is : first.port.number ≡ x.id) (out : IsTakenOut first old new)
    (f : FiberView Facts) (last : Option NodeId) (stands : List Stand) (children : List (FiberView Facts))
    (whole : IsWhole nodes (final_outside s r) x f) (way : IsUnderWay nodes s r xs told old) (b : Origin) (begins : IsAtFirst nodes b first)
    (trail : IsTrail nodes (final_outside s r).outcome b f last stands children) where
  abbrev run_of : FiberRun
  run_of = record { number = x.id; origin = b; labels = trail.labels; counts = f.counts; progress = progress nodes f }

  abbrev runs_now : List FiberRun
  runs_now = way.runs ++ run_of ∷ []

  followed : IsFollowed nodes (final_outside s r) x stands run_of
  followed = record {
    number = refl;
    leads = (last, trail.leads);
    trace = trail.trace ∙ whole.trace;
    state = whole.state;
    unable = whole.unable;
    learnt = trail.learnt;
  }

  -- who was known is known still
  known : (g : ℕ) (a : Origin) → HasRunOrWaits nodes way.runs old g a → HasRunOrWaits nodes runs_now (new ++ children) g a
  known g a (inl has) = inl (has.0, Among-append_left way.runs (run_of ∷ []) has.0 has.1, has.2, has.3)
  known g a (inr waits) = elim (out.stays waits.0 waits.1) [
    | inl same ↦ (let child : IsChild nodes g a first = subst (IsChild nodes g a) same waits.2 in
        inl (run_of, among_last way.runs run_of, sym is ∙ child.number, same_origin nodes first b a begins child.first))
    | inr stays ↦ inr (waits.0, Among-append_left new children waits.0 stays, waits.2)
  ]

  start_known : (l : Label) → StartsRunOrWaiting nodes way.runs old l → StartsRunOrWaiting nodes runs_now (new ++ children) l
  start_known (Starts g a) h = known g a h
  start_known Silent h = tt
  start_known (Shows e) h = tt
  start_known (Learns g o e) h = tt

  start_waits : (l : Label) → StartsOneOf nodes children l → StartsRunOrWaiting nodes runs_now (new ++ children) l
  start_waits (Starts g a) h = inr (h.0, Among-append_right new children h.0 h.1, h.2)
  start_waits Silent h = tt
  start_waits (Shows e) h = tt
  start_waits (Learns g o e) h = tt

  goes_on_from : IsUnderWay nodes s r (xs ++ x ∷ []) (told ++ stands ∷ []) (new ++ children)
  goes_on_from = record {
    runs = runs_now;
    each = each_more nodes (final_outside s r) xs told way.runs x stands run_of way.each followed;
    main = known 0 (main_origin s.term) way.main;
    starts = All-push (λ (run : FiberRun). All (StartsRunOrWaiting nodes runs_now (new ++ children)) run.labels) way.runs run_of
        (All-weaker (λ (run : FiberRun). All (StartsRunOrWaiting nodes way.runs old) run.labels)
        (λ (run : FiberRun). All (StartsRunOrWaiting nodes runs_now (new ++ children)) run.labels)
        (λ run h. All-weaker (StartsRunOrWaiting nodes way.runs old) (StartsRunOrWaiting nodes runs_now (new ++ children)) start_known run.labels h)
        way.runs way.starts)
        (All-weaker (StartsOneOf nodes children) (StartsRunOrWaiting nodes runs_now (new ++ children)) start_waits trail.labels trail.starts);
    begun = λ g among. ⊎_elim (λ h. way.begun g (out.none_comes g h)) (λ h. trail.begun g h) (Among-append new children g among);
  }

-- one more fiber is followed
pub goes_on : (nodes : List Node) (s : ScriptView) (r : ReportView) (xs : List FiberReportView) (told : List (List Stand)) (old new : List (FiberView Facts))
    (x : FiberReportView) (first : FiberView Facts) → first.port.number ≡ x.id → IsTakenOut first old new
    → (f : FiberView Facts) (last : Option NodeId) (stands : List Stand) (children : List (FiberView Facts)) → IsWhole nodes (final_outside s r) x f
    → ((b : Origin) → IsAtFirst nodes b first → IsTrail nodes (final_outside s r).outcome b f last stands children)
    → IsUnderWay nodes s r xs told old → IsUnderWay nodes s r (xs ++ x ∷ []) (told ++ stands ∷ []) (new ++ children)
goes_on nodes s r xs told old new x first is out f last stands children whole trail way =
    let begun = way.begun first out.was_there in
    goes_on_from nodes s r xs told old new x first is out f last stands children whole way begun.0 begun.1 (trail begun.0 begun.1)

-- at first the main fiber waits alone
pub begins : (nodes : List Node) (s : ScriptView) (r : ReportView) (main : FiberView Facts) → IsChild nodes 0 (main_origin s.term) main
    → IsUnderWay nodes s r [] [] (main ∷ [])
begins nodes s r main child = record {
  runs = [];
  each = tt;
  main = inr (main, inl refl, child);
  starts = All-nil (λ (run : FiberRun). All (StartsRunOrWaiting nodes [] (main ∷ [])) run.labels);
  begun = λ f among. elim among [
    | inl same ↦ (main_origin s.term, subst (IsAtFirst nodes (main_origin s.term)) (sym same) child.first)
    | inr none ↦ absurd none
  ];
}

has_run : (nodes : List Node) (runs : List FiberRun) (g : ℕ) (b : Origin) → HasRunOrWaits nodes runs [] g b → HasRunOf runs g b
has_run nodes runs g b (inl has) = has
has_run nodes runs g b (inr waits) = absurd waits.1

start_has_run : (nodes : List Node) (runs : List FiberRun) (l : Label) → StartsRunOrWaiting nodes runs [] l → StartsRun runs l
start_has_run nodes runs (Starts g b) h = has_run nodes runs g b h
start_has_run nodes runs Silent h = tt
start_has_run nodes runs (Shows e) h = tt
start_has_run nodes runs (Learns g o e) h = tt

-- where nobody waits any more, all are followed
ends : (nodes : List Node) (s : ScriptView) (r : ReportView) (told : List (List Stand)) → IsUnderWay nodes s r r.fibers told []
    → AreFollowed nodes s r told
ends nodes s r told way = record {
  runs = way.runs;
  each = way.each;
  main = has_run nodes way.runs 0 (main_origin s.term) way.main;
  starts = All-weaker (λ (run : FiberRun). All (StartsRunOrWaiting nodes way.runs []) run.labels) (λ (run : FiberRun). All (StartsRun way.runs) run.labels)
      (λ run h. All-weaker (StartsRunOrWaiting nodes way.runs []) (StartsRun way.runs) (start_has_run nodes way.runs) run.labels h)
      way.runs way.starts;
}

-- the same of one more fiber of the report, in their order
pub one_more : (nodes : List Node) (s : ScriptView) (r : ReportView) (i : ℕ) (x : FiberReportView) (told all : List (Vec Stand)) (stands : Vec Stand)
    (waiting : List (FiberView Facts)) → i < length r.fibers → x ≡ get_or r.fibers i x → all ≡ told ++ stands ∷ []
    → IsUnderWay nodes s r (take i r.fibers ++ x ∷ []) (stands_of told ++ stands.items ∷ []) waiting
    → IsUnderWay nodes s r (take (i + 1) r.fibers) (stands_of all) waiting
one_more nodes s r i x told all stands waiting below at more way =
    let taken : take (i + 1) r.fibers ≡ take i r.fibers ++ x ∷ [] =
    take_more r.fibers i x below ∙ ap (λ (y : FiberReportView). take i r.fibers ++ y ∷ []) (sym at) in
    let listed : stands_of all ≡ stands_of told ++ stands.items ∷ [] = ap stands_of more ∙ map-append (λ (v : Vec Stand). v.items) told (stands ∷ []) in
    subst (λ (xs : List FiberReportView). IsUnderWay nodes s r xs (stands_of all) waiting) (sym taken)
    (subst (λ (ts : List (List Stand)). IsUnderWay nodes s r (take i r.fibers ++ x ∷ []) ts waiting) (sym listed) way)

-- all of them, where nobody waits any more
pub all_followed : (nodes : List Node) (s : ScriptView) (r : ReportView) (i : ℕ) (told : List (List Stand)) (waiting : List (FiberView Facts))
    → length r.fibers ≤ i → length waiting ≡ 0 → IsUnderWay nodes s r (take i r.fibers) told waiting → AreFollowed nodes s r told
all_followed nodes s r i told waiting past none way =
    ends nodes s r told
    (subst (λ (fs : List (FiberView Facts)). IsUnderWay nodes s r r.fibers told fs) (nil_from_length waiting none)
    (subst (λ (xs : List FiberReportView). IsUnderWay nodes s r xs told waiting) (take_all i r.fibers past) way))
