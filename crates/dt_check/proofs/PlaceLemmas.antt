-- The first node with a phandle, node by node.
use Rattle.std.proofs.Common.{◌≡◌, ◌∙◌, ℕ, ◌+◌, ◌<◌, Bool, true, false, if◌then◌else◌, List, ◌∷◌, length, drop, get_or, Option, Some, None, sym, ap, refl}
use Rattle.std.proofs.lemmas.List.{at_drop_more}
use Rattle.dt_tree.specs.Phandle.{or_else}
use Rattle.dt_check.specs.Nodes.{PlacedData, has_phandle, place_from}
use Rattle.dt_check.specs.Private.Places.{own_place}

-- what is kept, else this place, else one behind it
pub kept-then : (kept : Option ℕ) (has : Bool) (place : ℕ) (rest : Option ℕ)
    → or_else (or_else kept (if has then Some place else None)) rest ≡ or_else kept (if has then Some place else rest)
kept-then (Some x) has place rest = refl
kept-then None true place rest = refl
kept-then None false place rest = refl

-- one node more
pub kept-next : (q place : ℕ) (nodes : List PlacedData) (p : PlacedData) (old new whole : Option ℕ) → place < length nodes → p ≡ get_or nodes place p
    → new ≡ or_else old (own_place p.node.properties place q)
    → or_else old (place_from place q (drop place nodes)) ≡ whole
    → or_else new (place_from (place + 1) q (drop (place + 1) nodes)) ≡ whole
kept-next q place nodes p old new whole inside is kept left =
    let rest = place_from (place + 1) q (drop (place + 1) nodes) in
    ap (λ o. or_else o rest) kept
    ∙ kept-then old (has_phandle q p) place rest
    ∙ ap (λ (n : PlacedData). or_else old (place_from place q (n ∷ drop (place + 1) nodes))) is
    ∙ sym (at_drop_more (λ ps. or_else old (place_from place q ps)) nodes place p inside)
    ∙ left
