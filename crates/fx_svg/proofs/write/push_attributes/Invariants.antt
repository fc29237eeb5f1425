use Rattle.std.proofs.Common.{◌≡◌, ◌++◌, map, take, string_bytes}
use Rattle.std.specs.List.{flat_map}
use Rattle.fx_svg.specs.Content.{view_attribute, attribute_text}
use Rattle.fx_svg.proofs.write.push_attributes.Given as goal

abbrev pub invariant-loop-attribute : goal.invariant-loop-attribute
invariant-loop-attribute l = string_bytes l.text ≡ string_bytes l.fn.text ++ flat_map attribute_text (map view_attribute (take l.attribute-index l.attributes))
