-- Which text is a well-formed document of XML, told by reading it byte by byte. What is read is a plain part of XML, so each text that is accepted is one:
-- elements with start and end tags, attributes after one space each, words and references; no declaration, no comment, and bytes that are no text in UTF-8
-- are for the type of the text to refuse.
use Rattle.std.specs.Prelude.{ℕ, ◌==◌, nat_le, Bool, true, false, not, ◌&&◌, ◌||◌, List, [], ◌∷◌, ◌++◌, codes, map, bytes_eq, if◌then◌else◌}
use Rattle.std.specs.List.{list_any}
use Rattle.fx_svg.specs.Names.{key_name}
use Rattle.fx_svg.specs.Content.{AttributeView, Content, nothing, words, element, both}

-- A start tag: the names of the elements that are open round it, the innermost first; its own name; and its attributes so far
pub record Opened : Type 0 where
  pub round : List (List ℕ)
  pub name : List ℕ
  pub keys : List (List ℕ)

-- Where a reader stands: before the document; in an element, of those that are open; behind a `<`; in the name of a start tag or of an end tag; behind the name
-- or an attribute of a start tag; in the name of an attribute; behind its `=`; in its value; in a reference, with where it goes on behind it; after the
-- document; or at what no document has
pub data Place : Type 0 where
  Before : Place
  Inside : List (List ℕ) → Place
  Opening : List (List ℕ) → Place
  InStart : List (List ℕ) → List ℕ → Place
  InEnd : List (List ℕ) → List ℕ → Place
  InTag : Opened → Place
  InKey : Opened → List ℕ → Place
  AtValue : Opened → Place
  InValue : Opened → Place
  InReference : Place → List ℕ → Place
  After : Place
  Refused : Place

abbrev pub is_letter : ℕ → Bool
is_letter b = (nat_le 65 b && nat_le b 90) || (nat_le 97 b && nat_le b 122)

-- a name goes on with this byte: it begins with a letter, and has letters, digits and dashes
abbrev pub goes_on : List ℕ → ℕ → Bool
goes_on [] b = is_letter b
goes_on (x ∷ xs) b = is_letter b || (nat_le 48 b && nat_le b 57) || b == 45

abbrev pub is_one_of : List (List ℕ) → List ℕ → Bool
is_one_of names name = list_any (bytes_eq name) names

-- the names of characters
abbrev pub references : List (List ℕ)
references = codes "amp" ∷ codes "lt" ∷ codes "gt" ∷ codes "quot" ∷ codes "apos" ∷ codes "#9" ∷ codes "#10" ∷ codes "#13" ∷ []

-- a byte that words may have as it is
abbrev pub is_plain : ℕ → Bool
is_plain b = nat_le 32 b && not (b == 62)

-- the element has ended, within these
abbrev pub ended_in : List (List ℕ) → Place
ended_in [] = After
ended_in (name ∷ round) = Inside (name ∷ round)

-- an end tag of this name, within these
abbrev pub ended_by : List (List ℕ) → List ℕ → Place
ended_by [] name = Refused
ended_by (inner ∷ round) name = if bytes_eq inner name then ended_in round else Refused

abbrev pub one_more : List ℕ → ℕ → List ℕ
one_more name b = name ++ b ∷ []

abbrev pub in_start : List (List ℕ) → List ℕ → ℕ → Place
in_start round name b =
    if goes_on name b then InStart round (one_more name b)
    else if b == 62 then Inside (name ∷ round)
    else if b == 32 then InKey (record { round = round; name = name; keys = [] }) []
    else Refused

abbrev pub in_key : Opened → List ℕ → ℕ → Place
in_key o key b =
    if goes_on key b then InKey o (one_more key b)
    else if (b == 61) && not (is_one_of o.keys key) && not (bytes_eq key []) then AtValue (record o { keys = key ∷ o.keys })
    else Refused

-- where the reader stands behind this byte
abbrev pub step : Place → ℕ → Place
step Before b = if b == 60 then Opening [] else Refused
step (Inside outer) b =
    if b == 60 then Opening outer
    else if b == 38 then InReference (Inside outer) []
    else if is_plain b || b == 10 then Inside outer
    else Refused
step (Opening outer) b = if b == 47 then InEnd outer [] else if is_letter b then InStart outer (b ∷ []) else Refused
step (InStart round name) b = in_start round name b
step (InEnd outer name) b = if goes_on name b then InEnd outer (one_more name b) else if b == 62 then ended_by outer name else Refused
step (InTag o) b = if b == 62 then Inside (o.name ∷ o.round) else if b == 32 then InKey o [] else Refused
step (InKey o key) b = in_key o key b
step (AtValue o) b = if b == 34 then InValue o else Refused
step (InValue o) b =
    if b == 34 then InTag o
    else if b == 38 then InReference (InValue o) []
    else if is_plain b && not (b == 60) then InValue o
    else Refused
step (InReference back name) b = if b == 59 then (if is_one_of references name then back else Refused) else InReference back (one_more name b)
step After b = if b == 10 then After else Refused
step Refused b = Refused

-- behind these bytes
abbrev pub behind : Place → List ℕ → Place
behind p [] = p
behind p (b ∷ bs) = behind (step p b) bs

abbrev pub is_after : Place → Bool
is_after After = true
is_after _ = false

unfoldable pub is_well_formed : List ℕ → Bool
is_well_formed text = is_after (behind Before text)

-- no name comes twice, and none is one of those that were seen
abbrev pub are_new : List (List ℕ) → List (List ℕ) → Bool
are_new seen [] = true
are_new seen (name ∷ names) = not (is_one_of seen name) && are_new (name ∷ seen) names

abbrev pub keys_of : List AttributeView → List (List ℕ)
keys_of attributes = map (λ (a : AttributeView). key_name a.key) attributes

-- no element has an attribute twice
abbrev pub has_distinct_keys : Content → Bool
has_distinct_keys nothing = true
has_distinct_keys (words ws) = true
has_distinct_keys (element tag attributes inside) = are_new [] (keys_of attributes) && has_distinct_keys inside
has_distinct_keys (both a b) = has_distinct_keys a && has_distinct_keys b
