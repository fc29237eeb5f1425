use Rattle.std.proofs.Common.{rules, ◌<◌, [], length, refl}
use Rattle.fx_command.proofs.Fetched.{read_whole}
use Rattle.fx_command.proofs.command.expected_of.Goals as goal

pub returns-in_default-clause-found : goal.returns-in_default-clause-found
returns-in_default-clause-found g c = rw (c.in_default.is, c.new.ensures.items) (record { text = []; is = refl; holds = refl })

pub returns-clause-found : goal.returns-clause-found
returns-clause-found g c =
    let short : length c.in_ok-text.text.items < 67108865 = search rules in
    rw c.in-Some.is (read_whole 67108865 _ _ c.in_ok-text.ensures.text short)
