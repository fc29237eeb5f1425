-- A rendering is read as what it is of.
use Rattle.std.proofs.Common.{◌≡◌, ℕ, Bool, true, false, ◌&&◌, List, [], ◌∷◌, ◌++◌, refl, ap, ◌∙◌}
use Rattle.std.specs.Prelude.{codes}
use Rattle.std.specs.List.{flat_map}
use Rattle.fx_svg.specs.declared.tag.Tag.{Tag}
use Rattle.fx_svg.specs.Names.{tag_name}
use Rattle.fx_svg.specs.Content.{AttributeView, Content, nothing, words, element, both, attribute_text, end_tag, rendering}
use Rattle.fx_svg.specs.WellFormed.{Inside, Opening, ended_in, is_after, behind, are_new, keys_of, has_distinct_keys, is_well_formed}
use Rattle.fx_svg.proofs.Reading.{behind-append, in_element, words_read}
use Rattle.fx_svg.proofs.Tags.{start_read, end_read}

both_true : (x y : Bool) → x && y ≡ true → (x ≡ true) × (y ≡ true)
both_true true y e = (refl, e)
both_true false y e = absurd (cc e)

-- an element whose inside leaves the reader in it, behind its `<`
element_read : (t : Tag) (attributes : List AttributeView) (inside : List ℕ) (outer : List (List ℕ)) → are_new [] (keys_of attributes) ≡ true
    → behind (Inside (tag_name t ∷ outer)) inside ≡ Inside (tag_name t ∷ outer)
    → behind (Opening outer) (tag_name t ++ flat_map attribute_text attributes ++ codes ">" ++ inside ++ end_tag t) ≡ ended_in outer
element_read t attributes inside outer new within =
    behind-append (tag_name t ++ flat_map attribute_text attributes ++ codes ">" ++ inside) (end_tag t) (Opening outer)
    ∙ ap (λ q. behind q (end_tag t)) (behind-append (tag_name t ++ flat_map attribute_text attributes ++ codes ">") inside (Opening outer)
    ∙ ap (λ q. behind q inside) (behind-append (tag_name t ++ flat_map attribute_text attributes) (codes ">") (Opening outer)
    ∙ ap (λ q. behind q (codes ">")) (behind-append (tag_name t) (flat_map attribute_text attributes) (Opening outer)) ∙ start_read t outer attributes new)
    ∙ within) ∙ end_read t outer

-- content leaves the reader in the element where it stands
content_read : (c : Content) (name : List ℕ) (outer : List (List ℕ)) → has_distinct_keys c ≡ true
    → behind (Inside (name ∷ outer)) (rendering c) ≡ Inside (name ∷ outer)
content_read nothing name outer new = refl
content_read (words ws) name outer new = words_read ws (Inside (name ∷ outer)) (in_element (name ∷ outer))
content_read (element t attributes inside) name outer new =
    let parts = both_true _ _ new in
    element_read t attributes (rendering inside) (name ∷ outer) parts.0 (content_read inside (tag_name t) (name ∷ outer) parts.1)
content_read (both a b) name outer new =
    let parts = both_true _ _ new in
    behind-append (rendering a) (rendering b) (Inside (name ∷ outer))
    ∙ ap (λ q. behind q (rendering b)) (content_read a name outer parts.0) ∙ content_read b name outer parts.1

pub well_formed : (t : Tag) (attributes : List AttributeView) (inside : Content) → has_distinct_keys (element t attributes inside) ≡ true
    → is_well_formed (rendering (element t attributes inside)) ≡ true
unfolding is_well_formed
well_formed t attributes inside new =
    let parts = both_true _ _ new in
    ap is_after (element_read t attributes (rendering inside) [] parts.0 (content_read inside (tag_name t) [] parts.1))
