use Rattle.fx_term.specs.declared.done.Done.TheVariants.{Err}
use Rattle.fx_frames.specs.declared.frame.Frame.TheVariants as frame
use Rattle.fx_model.specs.Row.{use_erred}
use Rattle.fx_fiber.proofs.Cases.{failure_bound, release_reaches, begins_sound, begins_step}
use Rattle.fx_fiber.proofs.machine.Machine.use_erred.Goals as goal

pub into_release-requires-clause-inside : goal.into_release-requires-clause-inside
into_release-requires-clause-inside g c =
    let inside = c.requires.3 in (frame.UsingCase c.args.resource c.requires.0 c.requires.1, inside.outer, inside.frames)

pub into_release-requires-clause-reaches : goal.into_release-requires-clause-reaches
into_release-requires-clause-reaches g c =
    let under = failure_bound g.nodes c.requires.0 c.requires.1 c.args.name c.args.release c.requires.2 in
    release_reaches g.nodes c.args.self.now c.requires.0 c.args.resource c.requires.1 (Err c.args.e) c.args.name c.args.release c.args.e c.requires.3 under

pub returns-clause-ok : goal.returns-clause-ok
returns-clause-ok g c =
    let id = c.requires.0 in
    let canceled = c.requires.1 in
    let has = c.requires.2 in
    let inside = c.requires.3 in
    let under = failure_bound g.nodes id canceled c.args.name c.args.release has in (
      record {
        sound =
            rw (c.in_ok-into_release.ensures.ok _ _ inside.frames)
            (begins_sound g.nodes c.args.self.now id c.args.resource canceled (Err c.args.e) c.args.name c.args.release c.args.e inside under);
        rule =
            rw (c.in_ok-into_release.ensures.ok _ _ inside.frames)
            (begins_step g.nodes c.args.self.now id c.args.resource canceled (Err c.args.e) c.args.name c.args.release c.args.e inside under
            (λ k. rw has.6 use_erred));
        is_local = tt;
      },
      tt,
    )
