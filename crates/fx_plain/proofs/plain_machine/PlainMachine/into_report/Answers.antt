use Rattle.std.proofs.Common.{◌∙◌, map, sym, ap}
use Rattle.std.proofs.lemmas.Simd.{map-map}
use Rattle.fx_term.specs.Element.{elements_of}
use Rattle.fx_plain.proofs.PlainMachineReports.{is_replay}
use Rattle.fx_plain.proofs.plain_machine.PlainMachine.into_report.Goals as goal

pub returns-clause-replay : goal.returns-clause-replay
returns-clause-replay g c = λ s all u.
    is_replay g.J.CodeBrand.nodes s c.args.self u.machine u.stands _ _ _ c.in_ok-reports_of.ensures
    (sym (map-map elements_of _ _) ∙ ap (map elements_of) c.in_ok-into_left.ensures ∙ map-map elements_of _ _)
    c.in_ok-outside.ensures all u.way c.requires
