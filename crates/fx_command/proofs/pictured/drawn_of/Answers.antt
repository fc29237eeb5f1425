use Rattle.std.proofs.Common.{rules}
use Rattle.fx_command.proofs.PictureWords.{drawn_with, refused_with}
use Rattle.fx_command.proofs.pictured.drawn_of.Goals as goal

pub returns-in-Some : goal.returns-in-Some
returns-in-Some c = drawn_with _ _ _ _ _ _ _ _ (search rules) c.status_after.ensures

pub returns-in_ok-from_str-in-None : goal.returns-in_ok-from_str-in-None
returns-in_ok-from_str-in-None c =
    refused_with _ _ _ _ _ _ _ _ (search rules) c.in_ok-from_str-in-None.ensures.ok c.new.ensures.bytes
