-- Trees of elements, and their text.
use Rattle.std.specs.Prelude.{ℕ, List, [], ◌∷◌, ◌++◌, codes, decimal}
use Rattle.std.specs.List.{flat_map}
use Rattle.fx_svg.specs.declared.tag.Tag.{Tag}
use Rattle.fx_svg.specs.declared.key.Key.{Key}
use Rattle.fx_svg.specs.declared.attribute.Value.{Value}
use Rattle.fx_svg.specs.declared.attribute.Value.TheVariants.{Number, Words}
use Rattle.fx_svg.specs.declared.attribute.Attribute.{Attribute}
use Rattle.fx_svg.specs.Names.{tag_name, key_name}
use Rattle.fx_svg.specs.Escaped.{escaped}

-- an attribute, and the words that it is set to
pub record AttributeView : Type 0 where
  pub key : Key
  pub value : List ℕ

abbrev pub value_words : Value → List ℕ
value_words (Number n) = decimal n
value_words (Words words) = words.now

abbrev pub view_attribute : Attribute → AttributeView
view_attribute a = record { key = a.key; value = value_words a.value }

-- what stands in an element: nothing, words, an element, or one content after another
pub data Content : Type 0 where
  nothing : Content
  words : List ℕ → Content
  element : Tag → List AttributeView → Content → Content
  both : Content → Content → Content

-- a content for each, in their order
abbrev pub each : {A : Type 0} → (A → Content) → List A → Content
each f [] = nothing
each f (x ∷ xs) = both (f x) (each f xs)

abbrev pub attribute_text : AttributeView → List ℕ
attribute_text a = codes " " ++ key_name a.key ++ codes "=\"" ++ escaped a.value ++ codes "\""

abbrev pub start_tag : Tag → List AttributeView → List ℕ
start_tag tag attributes = codes "<" ++ tag_name tag ++ flat_map attribute_text attributes ++ codes ">"

-- with the end of the line
abbrev pub end_tag : Tag → List ℕ
end_tag tag = codes "</" ++ tag_name tag ++ codes ">\n"

abbrev pub rendering : Content → List ℕ
rendering nothing = []
rendering (words ws) = escaped ws
rendering (element tag attributes inside) = start_tag tag attributes ++ rendering inside ++ end_tag tag
rendering (both a b) = rendering a ++ rendering b
