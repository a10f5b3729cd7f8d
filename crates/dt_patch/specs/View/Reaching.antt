-- Which tokens stand before an offset of the structure block, and before a node and a property of a tree: Devicetree Specification
-- v0.4, section 5.4.
use Rattle.std.specs.Prelude.{◌≡◌, ℕ, ◌≤◌, ◌-◌, List, [], ◌∷◌, ◌++◌, length, take, drop, Option, Result, IsOkAnd, IfSome, if◌then◌else◌}
use Rattle.std.specs.Option.{option_map_or}
use Rattle.std.specs.Str.{bytes_eq}
use Rattle.dt_tree.specs.declared.property.Property.{Property}
use Rattle.dt_tree.specs.NodeData.{NodeData, Siblings, none, more, node_data}
use Rattle.dt_tree.specs.PathMap.{child_named}
use Rattle.dt_blob.specs.Holds.{Spells, SpellsToken, without_nops}
use Rattle.dt_blob.specs.Token.{Token, begin_node, property, property_tokens, tokens_of}
use Rattle.dt_patch.specs.declared.view.error.ViewError.{ViewError}
use Rattle.dt_patch.specs.declared.view.nodes.NodeOffset.{NodeOffset}
use Rattle.dt_patch.specs.declared.view.view.View.{View}

-- from its beginning up to the offset the structure block spells these tokens, NOPs left out
pub record Reached (view : View) (at : ℕ) (tokens : List Token) : Type 0 where
  pub all : List Token
  pub spells : Spells view.strings.now all (take at view.structure.now)
  pub kept : without_nops all ≡ tokens
  pub inside : at ≤ length view.structure.now

-- from one offset up to another one token is spelled
abbrev pub IsSpelled : View → ℕ → Token → ℕ → Type 0
IsSpelled view at token next = SpellsToken view.strings.now token (take (next - at) (drop at view.structure.now))

-- the nodes side by side before the one of this name
abbrev pub before_child : Siblings → List ℕ → List Token
before_child none k = []
before_child (more n p c rest) k = if bytes_eq n k then [] else tokens_of (node_data n p c) ++ before_child rest k

-- what stands in a node's tokens before those of the node that is reached from it by these names
abbrev pub before_node : NodeData → List (List ℕ) → List Token
before_node node [] = []
before_node node (k ∷ ks) =
    begin_node node.name ∷ (property_tokens node.properties ++ (before_child node.children k ++ option_map_or (λ c. before_node c ks) (child_named node.children k) []))

-- the properties before the one of this name
abbrev pub before_property : List Property → List ℕ → List Token
before_property [] k = []
before_property (p ∷ ps) k = if bytes_eq p.name k then [] else property p.name p.value ∷ before_property ps k

-- the place that is told, if any, has these tokens before it
abbrev pub TellsReached : View → Result (Option NodeOffset) ViewError → List Token → Type 0
TellsReached view answer tokens = IsOkAnd answer (λ place. IfSome place (λ p. Reached view p.at tokens))
