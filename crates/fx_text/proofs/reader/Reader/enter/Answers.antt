use Rattle.std.proofs.Common.{◌≡◌, List, [], ◌∷◌, ◌++◌, length, take, refl, sym, ◌∙◌, ap, subst, arith, append_assoc}
use Rattle.std.proofs.lemmas.List.{take_all, length-append}
use Rattle.std.proofs.Math.Seq.{take-append_seam}
use Rattle.fx_term.specs.declared.name_kind.NameKind.TheVariants as kind
use Rattle.fx_text.specs.declared.reader.head.Inner.{Inner}
use Rattle.fx_text.specs.declared.scope.Bound.{Bound as CodeBound}
use Rattle.fx_text.specs.Head.{Enters}
use Rattle.fx_text.specs.Scope.{Scope, under, elsewhere}
use Rattle.fx_text.proofs.ScopeLaws.{scope_outside, scope_nameless}
use Rattle.fx_text.proofs.reader.Reader.enter.Goals as goal

pub returns-in-Elsewhere : goal.returns-in-Elsewhere
returns-in-Elsewhere c =
    let old = c.args.self.now in
    let all : c.len-self.result ≡ length old.names.items = omega (arith, c.len-self.ensures, old.names.ok.0) in
    subst (λ (i : Inner). Enters i old (record old { place = record old.place { foreign = c.len-self.result } })) (sym c.in-Elsewhere.is) (record {
      scope = scope_outside old.names.items old.place _ all;
      names = take_all (length old.names.items) old.names.items (omega arith);
      longer = omega arith;
      nodes = refl;
      needs = refl;
      outside = omega (arith, all);
      some_turns = c.requires.some;
      few_turns = c.requires.few;
      few_queues = c.requires.queues;
    })

pub returns-in_ok-push-in-RaceLeft : goal.returns-in_ok-push-in-RaceLeft
returns-in_ok-push-in-RaceLeft c =
    let old = c.args.self.now in
    let new = c.push-in-RaceLeft.new.self in
    let b = c.nameless.result in
    let pushed = c.in_ok-push-in-RaceLeft.ensures.items in
    let all : c.len-self-in-RaceLeft.result ≡ length new.items = omega (arith, c.len-self-in-RaceLeft.ensures, new.ok.0) in
    subst (λ (i : Inner). Enters i old (record old { names = new; place = record old.place { foreign = c.len-self-in-RaceLeft.result } }))
    (sym c.in-RaceLeft.is) (record {
      scope = scope_outside new.items old.place _ all
          ∙ ap elsewhere (scope_nameless old.names.items new.items b kind.Poll old.place c.requires.outside pushed
          c.nameless.ensures.name c.nameless.ensures.kind);
      names = ap (take (length old.names.items)) pushed ∙ take-append_seam old.names.items (b ∷ []);
      longer = omega (arith, ap length pushed, length-append old.names.items (b ∷ []));
      nodes = refl;
      needs = refl;
      outside = omega (arith, all);
      some_turns = c.requires.some;
      few_turns = c.requires.few;
      few_queues = c.requires.queues;
    })

pub returns-in_ok-push-in-RaceRight-2 : goal.returns-in_ok-push-in-RaceRight-2
returns-in_ok-push-in-RaceRight-2 c =
    let old = c.args.self.now in
    let one = c.push-in-RaceRight.new.self in
    let new = c.push-in-RaceRight-2.new.self in
    let poll = c.nameless-in-RaceRight.result in
    let fiber = c.nameless-in-RaceRight-2.result in
    let first = c.in_ok-push-in-RaceRight.ensures.items in
    let second = c.in_ok-push-in-RaceRight-2.ensures.items in
    let pushed : new.items ≡ old.names.items ++ poll ∷ fiber ∷ [] = second ∙ ap (λ (l : List CodeBound). l ++ fiber ∷ []) first
    ∙ append_assoc old.names.items (poll ∷ []) (fiber ∷ []) in
    let all : c.len-self-in-RaceRight.result ≡ length new.items = omega (arith, c.len-self-in-RaceRight.ensures, new.ok.0) in
    let le = c.requires.outside in
    subst (λ (i : Inner). Enters i old (record old { names = new; place = record old.place { foreign = c.len-self-in-RaceRight.result } }))
    (sym c.in-RaceRight.is) (record {
      scope = scope_outside new.items old.place _ all
          ∙ ap elsewhere (scope_nameless one.items new.items fiber kind.Fiber old.place
          (omega (arith, ap length first, length-append old.names.items (poll ∷ []))) second
          c.nameless-in-RaceRight-2.ensures.name c.nameless-in-RaceRight-2.ensures.kind
          ∙ ap (λ (p : Scope). under kind.Fiber [] p) (scope_nameless old.names.items one.items poll kind.Poll old.place le first
          c.nameless-in-RaceRight.ensures.name c.nameless-in-RaceRight.ensures.kind));
      names = ap (take (length old.names.items)) pushed ∙ take-append_seam old.names.items (poll ∷ fiber ∷ []);
      longer = omega (arith, ap length pushed, length-append old.names.items (poll ∷ fiber ∷ []));
      nodes = refl;
      needs = refl;
      outside = omega (arith, all);
      some_turns = c.requires.some;
      few_turns = c.requires.few;
      few_queues = c.requires.queues;
    })
