-- The tokens of the structure block (Devicetree Specification v0.4, section 5.4) and those of a tree.
use Rattle.std.specs.Prelude.{ℕ, List, [], ◌∷◌, ◌++◌}
use Rattle.dt_tree.specs.declared.property.Property.{Property}
use Rattle.dt_tree.specs.NodeData.{NodeData, Siblings, none, more}

-- names are bytes here; the block holds a property's name as an offset into the strings block
pub data Token : Type 0 where
  begin_node : (name : List ℕ) → Token
  end_node : Token
  property : (name : List ℕ) → (value : List ℕ) → Token
  nop : Token
  end : Token

-- properties in order, before the tokens that follow
abbrev pub property_tokens : List Property → List Token
property_tokens [] = []
property_tokens (p ∷ ps) = property p.name p.value ∷ property_tokens ps

-- nodes side by side: each is its begin, its properties, its children and its end
abbrev pub sibling_tokens : Siblings → List Token
sibling_tokens none = []
sibling_tokens (more name properties children rest) =
    begin_node name ∷ (property_tokens properties ++ (sibling_tokens children ++ end_node ∷ sibling_tokens rest))

-- a node
abbrev pub tokens_of : NodeData → List Token
tokens_of node = begin_node node.name ∷ (property_tokens node.properties ++ (sibling_tokens node.children ++ end_node ∷ []))

-- the whole block of a root, without NOP
abbrev pub tree_tokens : NodeData → List Token
tree_tokens root = tokens_of root ++ end ∷ []
