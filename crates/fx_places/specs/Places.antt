-- Where a form stands in a text, and the places of the nodes of a code.
use Rattle.std.specs.Prelude.{◌≡◌, ℕ, ◌+◌, true, IfSome, All, List, [], ◌∷◌, ◌++◌, length, map, slice_get}
use Rattle.fx_term.specs.declared.node.Node.{Node}
use Rattle.fx_text.specs.Token.{Name, next}
use Rattle.fx_text.specs.declared.position.Position.{Position}
use Rattle.fx_places.specs.declared.place.FormPlace.{FormPlace}
use Rattle.fx_places.specs.Position.{line_after, column_after}
use Rattle.fx_places.specs.Form.{word_of}
use Rattle.fx_places.specs.Makes.{makes}

-- this rest of the text stands at that line and column: those that the bytes before it come to
pub record StandsAt (text rest : List ℕ) (position : Position) : Type 0 where
  pub before : List ℕ
  pub is : text ≡ before ++ rest
  pub line : position.line ≡ line_after 1 before
  pub column : position.column ≡ column_after 1 before

-- a `(` of the text stands there, and the next token is the word of that form
pub record IsFormPlace (text : List ℕ) (place : FormPlace) : Type 0 where
  pub inside : List ℕ
  pub stands : StandsAt text (40 ∷ inside) place.position
  pub word : (next inside).token ≡ Name (word_of place.form)

-- the node of this number is one that the form makes
abbrev pub IsMadeAt : List Node → ℕ → FormPlace → Type 0
IsMadeAt nodes id place = IfSome (slice_get nodes id) (λ node. makes place.form node ≡ true)

-- so are those from this number on
abbrev pub AreMadeFrom : List Node → ℕ → List FormPlace → Type 0
AreMadeFrom nodes id [] = Unit {0}
AreMadeFrom nodes id (place ∷ places) = IsMadeAt nodes id place × AreMadeFrom nodes (id + 1) places

-- a place for each node: a form of the text, which makes such a node
pub record ArePlaces (text : List ℕ) (nodes : List Node) (places : List FormPlace) : Type 0 where
  pub all : length places ≡ length nodes
  pub forms : All (IsFormPlace text) places
  pub made : AreMadeFrom nodes 0 places

-- where they stand
abbrev pub positions_of : List FormPlace → List Position
positions_of places = map (λ (place : FormPlace). place.position) places
