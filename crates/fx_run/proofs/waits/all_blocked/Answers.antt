use Rattle.std.proofs.Common.{◌≡◌, ◌+◌, List, [], ◌∷◌, ◌++◌, Option, option_map, All, take, sym, ◌∙◌, ap, subst, append-nil}
use Rattle.std.specs.Prelude.{IfSome}
use Rattle.std.specs.List.{cons_option}
use Rattle.std.proofs.lemmas.List.Elements.{All-nil, All-cons, All-append}
use Rattle.fx_report.specs.declared.blocked.Blocked.{Blocked}
use Rattle.fx_report.specs.declared.wait.Wait.{Wait}
use Rattle.fx_report.specs.Waits.{waits_in}
use Rattle.fx_report.proofs.BlockedFibers.{waits_append}
use Rattle.fx_run.specs.RunWaits.{all_waits, StandsAs, StandsAmong}
use Rattle.fx_run.proofs.RunWaits.{one_more}
use Rattle.fx_run.proofs.waits.all_blocked.Goals.{in-Some+in_ok-push, in_default}
use Rattle.fx_run.proofs.waits.all_blocked.Goals as goal

pub loop-k-preserved : goal.loop-k-preserved
loop-k-preserved c =
    let bares = c.args.bares.now in
    let k = c.loop-k.k in
    let x = c.index-bares-k.result in
    let before : List Wait = all_waits (take k bares) in
    let wait_in : Option Blocked → Option Wait = option_map (λ (b : Blocked). b.wait) in
    let more : all_waits (take (k + 1) bares) ≡ before ++ cons_option (wait_in c.blocked.result) [] =
    one_more bares k x c.loop-k-test.true c.index-bares-k.is ∙ ap (λ (o : Option Wait). before ++ cons_option o []) (sym c.blocked.ensures.wait) in
    elim c.match-blocked.branch [
      | in-Some+in_ok-push w ↦
          let items = ap (λ v. v.items) w.all-is ∙ w.in_ok-push.ensures.items in
          let b = w.in-Some.it in
          let stands : StandsAs x b = subst (λ (o : Option Blocked). IfSome o (StandsAs x)) w.in-Some.is c.blocked.ensures.node in (
            ap waits_in items ∙ waits_append c.loop-k.all.items b ∙ ap (λ (ws : List Wait). ws ++ b.wait ∷ []) c.loop-k.invariant.0
                ∙ ap (λ (o : Option Blocked). before ++ cons_option (wait_in o) []) (sym w.in-Some.is) ∙ sym more,
            subst (All (StandsAmong bares)) (sym items)
                (All-append (StandsAmong bares) c.loop-k.all.items (b ∷ []) c.loop-k.invariant.1
                (All-cons (StandsAmong bares) b [] (x, (k, c.loop-k-test.true, sym c.index-bares-k.is), stands) (All-nil (StandsAmong bares)))),
          )
      | in_default w ↦
          let items = ap (λ v. v.items) w.all-is in (
            ap waits_in items ∙ c.loop-k.invariant.0 ∙ sym (append-nil before)
                ∙ ap (λ (o : Option Blocked). before ++ cons_option (wait_in o) []) (sym w.in_default.is) ∙ sym more,
            subst (All (StandsAmong bares)) (sym items) c.loop-k.invariant.1,
          )
    ]
