-- Where a node ends: Devicetree Specification v0.4, section 5.4.2.
use Rattle.std.specs.Prelude.{ℕ, zero, suc, List, [], ◌∷◌, Option, Some, None}
use Rattle.dt_blob.specs.Token.{Token, begin_node, end_node, property, nop, end}

-- the tokens behind the end of the node in which these stand, so many nodes below which are open
abbrev pub closed : ℕ → List Token → Option (List Token)
closed d [] = None
closed d (begin_node name ∷ ts) = closed (suc d) ts
closed zero (end_node ∷ ts) = Some ts
closed (suc d) (end_node ∷ ts) = closed d ts
closed d (property name value ∷ ts) = closed d ts
closed d (nop ∷ ts) = None
closed d (end ∷ ts) = None
