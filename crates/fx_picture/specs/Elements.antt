-- What a picture is made of.
use Rattle.std.specs.Prelude.{ℕ, ◌-◌, ◌*◌, List, [], ◌∷◌, decimal}
use Rattle.fx_svg.specs.declared.tag.Tag.TheVariants as tag
use Rattle.fx_svg.specs.declared.key.Key.{Key}
use Rattle.fx_svg.specs.declared.key.Key.TheVariants as key
use Rattle.fx_picture.specs.declared.elements.TheConstants.{HALF_WIDTH, HALF_HEIGHT}
use Rattle.fx_svg.specs.Content.{AttributeView, Content, nothing, words, element}

-- an attribute that is set to words, and one that is set to a number
abbrev pub set_to : Key → List ℕ → AttributeView
set_to k ws = record { key = k; value = ws }

abbrev pub number_of : Key → ℕ → AttributeView
number_of k n = record { key = k; value = decimal n }

-- words in the picture
abbrev pub label : List ℕ → ℕ → ℕ → List ℕ → Content
label class x y ws = element tag.Text (set_to key.Class class ∷ number_of key.X x ∷ number_of key.Y y ∷ []) (words ws)

-- a line from one point to another, in which something may stand
abbrev pub line_with : Content → List ℕ → ℕ → ℕ → ℕ → ℕ → Content
line_with inside class x1 y1 x2 y2 =
    element tag.Line (set_to key.Class class ∷ number_of key.X1 x1 ∷ number_of key.Y1 y1 ∷ number_of key.X2 x2 ∷ number_of key.Y2 y2 ∷ []) inside

abbrev pub line : List ℕ → ℕ → ℕ → ℕ → ℕ → Content
line = line_with nothing

-- the box of several events, round its middle
abbrev pub box : ℕ → ℕ → Content
box x y = element tag.Rectangle
    (number_of key.X (x - HALF_WIDTH) ∷ number_of key.Y (y - HALF_HEIGHT) ∷ number_of key.Width (2 * HALF_WIDTH)
    ∷ number_of key.Height (2 * HALF_HEIGHT) ∷ []) nothing
