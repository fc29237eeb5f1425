-- The closings that the code's members stand for.
use Rattle.std.specs.Prelude.{if◌then◌else◌, ◌==◌, ◌-◌, ◌^◌, List, map, reverse}
use Rattle.fx_mask.specs.Closing.{Closing, Region, Seal}
use Rattle.fx_mask.specs.declared.member.Member.{Member}

-- the greatest number is that of a seal
abbrev pub closing_of : Member → Closing
closing_of m = if m.number == 2 ^ 64 - 1 then Seal else Region m.number

-- of a list that has the innermost last
abbrev pub closings_of : List Member → List Closing
closings_of members = reverse (map closing_of members)
