-- What a reader makes of tags.
use Rattle.std.proofs.Common.{◌≡◌, ℕ, Bool, true, false, not, ◌&&◌, List, [], ◌∷◌, ◌++◌, refl, ap, ◌∙◌}
use Rattle.std.specs.Prelude.{codes, bytes_eq}
use Rattle.std.specs.List.{flat_map}
use Rattle.fx_svg.specs.declared.tag.Tag.{Tag}
use Rattle.fx_svg.specs.declared.tag.Tag.TheVariants as tag
use Rattle.fx_svg.specs.declared.key.Key.{Key}
use Rattle.fx_svg.specs.declared.key.Key.TheVariants as key
use Rattle.fx_svg.specs.Names.{tag_name, key_name}
use Rattle.fx_svg.specs.Escaped.{escaped}
use Rattle.fx_svg.specs.Content.{AttributeView, attribute_text, end_tag}
use Rattle.fx_svg.specs.WellFormed.{Opened, Inside, Opening, InStart, InEnd, InTag, InKey, InValue, is_one_of, ended_in, behind, are_new, keys_of}
use Rattle.fx_svg.proofs.Reading.{behind-append, in_value, words_read}

-- a name that is read in a start tag, and in an end tag, within these
record IsRead (outer : List (List ℕ)) (name : List ℕ) : Type 0 where
  in_start : behind (Opening outer) name ≡ InStart outer name
  in_end : behind (InEnd outer []) name ≡ InEnd outer name

tag_read : (t : Tag) (outer : List (List ℕ)) → IsRead outer (tag_name t)
tag_read tag.Svg outer = record { in_start = refl; in_end = refl }
tag_read tag.Title outer = record { in_start = refl; in_end = refl }
tag_read tag.Description outer = record { in_start = refl; in_end = refl }
tag_read tag.Style outer = record { in_start = refl; in_end = refl }
tag_read tag.Definitions outer = record { in_start = refl; in_end = refl }
tag_read tag.Marker outer = record { in_start = refl; in_end = refl }
tag_read tag.Group outer = record { in_start = refl; in_end = refl }
tag_read tag.Rectangle outer = record { in_start = refl; in_end = refl }
tag_read tag.Line outer = record { in_start = refl; in_end = refl }
tag_read tag.Path outer = record { in_start = refl; in_end = refl }
tag_read tag.Circle outer = record { in_start = refl; in_end = refl }
tag_read tag.Text outer = record { in_start = refl; in_end = refl }

-- the keys that were read, and this one
abbrev with_key : Opened → List ℕ → Opened
with_key o name = record o { keys = name ∷ o.keys }

key_of : (o : Opened) (x : ℕ) (xs : List ℕ) → behind (InKey o []) (x ∷ xs) ≡ InKey o (x ∷ xs) → is_one_of o.keys (x ∷ xs) ≡ false
    → behind (InKey o []) (x ∷ xs ++ codes "=\"") ≡ InValue (with_key o (x ∷ xs))
key_of o x xs read new = behind-append (x ∷ xs) (codes "=\"") (InKey o []) ∙ ap (λ q. behind q (codes "=\"")) read ∙ rw new

key_read : (k : Key) (o : Opened) → is_one_of o.keys (key_name k) ≡ false → behind (InKey o []) (key_name k ++ codes "=\"") ≡ InValue (with_key o (key_name k))
key_read key.Namespace o new = key_of o _ _ refl new
key_read key.Role o new = key_of o _ _ refl new
key_read key.ViewBox o new = key_of o _ _ refl new
key_read key.Width o new = key_of o _ _ refl new
key_read key.Height o new = key_of o _ _ refl new
key_read key.Id o new = key_of o _ _ refl new
key_read key.Class o new = key_of o _ _ refl new
key_read key.X o new = key_of o _ _ refl new
key_read key.Y o new = key_of o _ _ refl new
key_read key.X1 o new = key_of o _ _ refl new
key_read key.Y1 o new = key_of o _ _ refl new
key_read key.X2 o new = key_of o _ _ refl new
key_read key.Y2 o new = key_of o _ _ refl new
key_read key.CenterX o new = key_of o _ _ refl new
key_read key.CenterY o new = key_of o _ _ refl new
key_read key.Radius o new = key_of o _ _ refl new
key_read key.Way o new = key_of o _ _ refl new
key_read key.PointX o new = key_of o _ _ refl new
key_read key.PointY o new = key_of o _ _ refl new
key_read key.MarkerWidth o new = key_of o _ _ refl new
key_read key.MarkerHeight o new = key_of o _ _ refl new
key_read key.Orient o new = key_of o _ _ refl new

-- an attribute that is new to its tag
attribute_read : (a : AttributeView) (o : Opened) → is_one_of o.keys (key_name a.key) ≡ false
    → behind (InTag o) (attribute_text a) ≡ InTag (with_key o (key_name a.key))
attribute_read a o new =
    let value = with_key o (key_name a.key) in
    behind-append (codes " " ++ key_name a.key ++ codes "=\"" ++ escaped a.value) (codes "\"") (InTag o)
    ∙ ap (λ q. behind q (codes "\"")) (behind-append (codes " " ++ key_name a.key ++ codes "=\"") (escaped a.value) (InTag o)
    ∙ ap (λ q. behind q (escaped a.value)) (key_read a.key o new) ∙ words_read a.value (InValue value) (in_value value))

new_first : (x y : Bool) → not x && y ≡ true → (x ≡ false) × (y ≡ true)
new_first true y e = absurd (cc e)
new_first false y e = (refl, e)

attributes_read : (attributes : List AttributeView) (o : Opened) → are_new o.keys (keys_of attributes) ≡ true
    → behind (behind (InTag o) (flat_map attribute_text attributes)) (codes ">") ≡ Inside (o.name ∷ o.round)
attributes_read [] o new = refl
attributes_read (a ∷ attributes) o new =
    let first = new_first _ _ new in
    ap (λ q. behind q (codes ">")) (behind-append (attribute_text a) (flat_map attribute_text attributes) (InTag o)
    ∙ ap (λ q. behind q (flat_map attribute_text attributes)) (attribute_read a o first.0))
    ∙ attributes_read attributes (with_key o (key_name a.key)) first.1

-- behind its name a start tag goes on as behind an attribute
goes_on_as_tag : (x : ℕ) (xs : List ℕ) (outer : List (List ℕ)) (attributes : List AttributeView)
    → behind (behind (InStart outer (x ∷ xs)) (flat_map attribute_text attributes)) (codes ">")
    ≡ behind (behind (InTag (record { round = outer; name = x ∷ xs; keys = [] })) (flat_map attribute_text attributes)) (codes ">")
goes_on_as_tag x xs outer [] = refl
goes_on_as_tag x xs outer (a ∷ attributes) = refl

-- each name has a first letter, and is itself
start_by : (t : Tag) (P : List ℕ → Type 0) → ((x : ℕ) (xs : List ℕ) → P (x ∷ xs)) → P (tag_name t)
start_by tag.Svg P each = each _ _
start_by tag.Title P each = each _ _
start_by tag.Description P each = each _ _
start_by tag.Style P each = each _ _
start_by tag.Definitions P each = each _ _
start_by tag.Marker P each = each _ _
start_by tag.Group P each = each _ _
start_by tag.Rectangle P each = each _ _
start_by tag.Line P each = each _ _
start_by tag.Path P each = each _ _
start_by tag.Circle P each = each _ _
start_by tag.Text P each = each _ _

bytes_eq_self : (t : Tag) → bytes_eq (tag_name t) (tag_name t) ≡ true
bytes_eq_self tag.Svg = refl
bytes_eq_self tag.Title = refl
bytes_eq_self tag.Description = refl
bytes_eq_self tag.Style = refl
bytes_eq_self tag.Definitions = refl
bytes_eq_self tag.Marker = refl
bytes_eq_self tag.Group = refl
bytes_eq_self tag.Rectangle = refl
bytes_eq_self tag.Line = refl
bytes_eq_self tag.Path = refl
bytes_eq_self tag.Circle = refl
bytes_eq_self tag.Text = refl

end_by : (t : Tag) (P : List ℕ → Type 0) → ((x : ℕ) (xs : List ℕ) → bytes_eq (x ∷ xs) (x ∷ xs) ≡ true → P (x ∷ xs)) → P (tag_name t)
end_by t P each = start_by t (λ name. bytes_eq name name ≡ true → P name) each (bytes_eq_self t)

started : (x : ℕ) (xs : List ℕ) (outer : List (List ℕ)) (attributes : List AttributeView) → are_new [] (keys_of attributes) ≡ true
    → behind (behind (InStart outer (x ∷ xs)) (flat_map attribute_text attributes)) (codes ">") ≡ Inside ((x ∷ xs) ∷ outer)
started x xs outer attributes new = goes_on_as_tag x xs outer attributes ∙ attributes_read attributes (record { round = outer; name = x ∷ xs; keys = [] }) new

-- a start tag, behind its `<`
pub start_read : (t : Tag) (outer : List (List ℕ)) (attributes : List AttributeView) → are_new [] (keys_of attributes) ≡ true
    → behind (behind (behind (Opening outer) (tag_name t)) (flat_map attribute_text attributes)) (codes ">") ≡ Inside (tag_name t ∷ outer)
start_read t outer attributes new =
    ap (λ q. behind (behind q (flat_map attribute_text attributes)) (codes ">")) (tag_read t outer).in_start
    ∙ start_by t (λ name. behind (behind (InStart outer name) (flat_map attribute_text attributes)) (codes ">") ≡ Inside (name ∷ outer))
    (λ x xs. started x xs outer attributes new)

ended_line : (outer : List (List ℕ)) → behind (ended_in outer) (codes "\n") ≡ ended_in outer
ended_line [] = refl
ended_line (name ∷ outer) = refl

-- an end tag, with the end of its line
pub end_read : (t : Tag) (outer : List (List ℕ)) → behind (Inside (tag_name t ∷ outer)) (end_tag t) ≡ ended_in outer
end_read t outer =
    behind-append (tag_name t) (codes ">\n") (InEnd (tag_name t ∷ outer) [])
    ∙ ap (λ q. behind q (codes ">\n")) (tag_read t (tag_name t ∷ outer)).in_end
    ∙ end_by t (λ name. behind (InEnd (name ∷ outer) name) (codes ">\n") ≡ ended_in outer) (λ x xs same. rw same (ended_line outer))
