-- A blob is longer than the values of its tree.
use Rattle.std.proofs.Common.{◌≡◌, ℕ, ◌+◌, ◌≤◌, List, [], ◌∷◌, ◌++◌, length, refl, arith, length-append}
use Rattle.dt_tree.specs.declared.property.Property.{Property}
use Rattle.dt_tree.specs.NodeData.{NodeData, Siblings, none, more}
use Rattle.dt_tree.specs.TreeData.{TreeData}
use Rattle.dt_live.specs.Builder.Sizes.{size_among, size_below, size_of}
use Rattle.dt_blob.specs.BigEndian.{word}
use Rattle.dt_blob.specs.Blob.{blob_of, header, padding, reservations, structure_from, strings_after, token_bytes, names_in}
use Rattle.dt_blob.specs.Strings.{offset_in, with_names}
use Rattle.dt_blob.specs.Token.{Token, begin_node, end_node, property, nop, end, property_tokens, sibling_tokens, tokens_of, tree_tokens}

-- how many bytes the values of tokens have
abbrev valued : List Token → ℕ
valued [] = 0
valued (begin_node name ∷ ts) = valued ts
valued (end_node ∷ ts) = valued ts
valued (property name value ∷ ts) = length value + valued ts
valued (nop ∷ ts) = valued ts
valued (end ∷ ts) = valued ts

valued-both : (xs ys : List Token) → valued (xs ++ ys) ≡ valued xs + valued ys
valued-both [] ys = omega arith
valued-both (begin_node name ∷ xs) ys = valued-both xs ys
valued-both (end_node ∷ xs) ys = valued-both xs ys
valued-both (property name value ∷ xs) ys = omega (arith, valued-both xs ys)
valued-both (nop ∷ xs) ys = valued-both xs ys
valued-both (end ∷ xs) ys = valued-both xs ys

of_properties : (ps : List Property) → valued (property_tokens ps) ≡ size_of ps
of_properties [] = refl
of_properties (p ∷ ps) = omega (arith, of_properties ps)

of_siblings : (f : Siblings) → valued (sibling_tokens f) ≡ size_among f
of_siblings none = refl
of_siblings (more n p c rest) =
    omega (arith, valued-both (property_tokens p) (sibling_tokens c ++ end_node ∷ sibling_tokens rest), valued-both (sibling_tokens c) (end_node ∷ sibling_tokens rest), of_properties p, of_siblings c, of_siblings rest)

of_tree : (b : NodeData) → valued (tree_tokens b) ≡ size_below b
of_tree b =
    omega (arith, valued-both (tokens_of b) (end ∷ []), valued-both (property_tokens b.properties) (sibling_tokens b.children ++ end_node ∷ []), valued-both (sibling_tokens b.children) (end_node ∷ []), of_properties b.properties, of_siblings b.children)

spelled : (strings : List ℕ) (ts : List Token) → valued ts ≤ length (structure_from strings ts)
spelled strings [] = omega arith
spelled strings (begin_node name ∷ ts) = omega (arith, length-append (token_bytes strings (begin_node name)) (structure_from strings ts), spelled strings ts)
spelled strings (end_node ∷ ts) = omega (arith, length-append (token_bytes strings end_node) (structure_from strings ts), spelled strings ts)
spelled strings (property name value ∷ ts) =
    let at = word (offset_in strings name) in
    let more_strings = strings_after strings (property name value) in
    omega (arith, length-append (token_bytes strings (property name value)) (structure_from more_strings ts), length-append (word 3) (word (length value) ++ (at ++ (value ++ padding (length value)))), length-append (word (length value)) (at ++ (value ++ padding (length value))), length-append at (value ++ padding (length value)), length-append value (padding (length value)), spelled more_strings ts)
spelled strings (nop ∷ ts) = omega (arith, length-append (token_bytes strings nop) (structure_from strings ts), spelled strings ts)
spelled strings (end ∷ ts) = omega (arith, length-append (token_bytes strings end) (structure_from strings ts), spelled strings ts)

pub values-fit : (t : TreeData) → size_below t.root ≤ length (blob_of t)
values-fit t =
    let tokens = tree_tokens t.root in
    let structure = structure_from [] tokens in
    let strings = with_names [] (names_in tokens) in
    let reserved = reservations t.reserves in
    omega (arith, of_tree t.root, spelled [] tokens, length-append structure strings, length-append reserved (structure ++ strings), length-append (header t.boot_cpu (length reserved) (length structure) (length strings)) (reserved ++ (structure ++ strings)))
