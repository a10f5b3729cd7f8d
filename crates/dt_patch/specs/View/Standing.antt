-- What stands at an offset of the structure block: Devicetree Specification v0.4, section 5.4.
use Rattle.std.specs.Prelude.{◌≡◌, ℕ, Bool, true, false, List, [], ◌∷◌, ◌++◌, drop}
use Rattle.dt_tree.specs.declared.property.Property.{Property}
use Rattle.dt_tree.specs.NodeData.{NodeData, Siblings, none, more}
use Rattle.dt_blob.specs.Holds.{Spells, without_nops}
use Rattle.dt_blob.specs.Token.{Token, begin_node, end_node, property, nop, end, property_tokens, sibling_tokens, tokens_of}
use Rattle.dt_patch.specs.declared.view.view.View.{View}

-- the bytes begin with the spelling of these tokens, NOPs left out, and of others behind them
pub record Begins (strings bytes : List ℕ) (tokens : List Token) : Type 0 where
  pub all : List Token
  pub front : List ℕ
  pub behind : List ℕ
  pub after : List Token
  pub is : bytes ≡ front ++ behind
  pub spells : Spells strings all front
  pub kept : without_nops all ≡ tokens ++ after

-- these tokens stand from an offset on
abbrev pub Ahead : View → ℕ → List Token → Type 0
Ahead view at tokens = Begins view.strings.now (drop at view.structure.now) tokens

-- the node stands there
abbrev pub StandsAt : View → ℕ → NodeData → Type 0
StandsAt view at node = Ahead view at (tokens_of node)

-- what can stand behind the last of nodes side by side
abbrev pub ends : Token → Bool
ends (begin_node name) = false
ends end_node = true
ends (property name value) = false
ends nop = false
ends end = true

-- these nodes stand there side by side, up to the end of their parent or of the block
abbrev pub StandFrom : View → ℕ → Siblings → Type 0
StandFrom view at none = ⊥
StandFrom view at (more name ps children rest) =
    (last : Token) × (ends last ≡ true) × Ahead view at (sibling_tokens (more name ps children rest) ++ last ∷ [])

-- what can stand behind the last property of a node
abbrev pub ends_properties : Token → Bool
ends_properties (begin_node name) = true
ends_properties end_node = true
ends_properties (property name value) = false
ends_properties nop = false
ends_properties end = false

-- these properties stand there, up to the last one of their node
abbrev pub PropertiesFrom : View → ℕ → List Property → Type 0
PropertiesFrom view at [] = ⊥
PropertiesFrom view at (p ∷ ps) = (next : Token) × (ends_properties next ≡ true) × Ahead view at (property_tokens (p ∷ ps) ++ next ∷ [])

-- no node begins there
abbrev pub HasNoNode : View → ℕ → Type 0
HasNoNode view at = (name : List ℕ) → Ahead view at (begin_node name ∷ []) → ⊥

-- no property begins there
abbrev pub HasNoProperty : View → ℕ → Type 0
HasNoProperty view at = (name value : List ℕ) → Ahead view at (property name value ∷ []) → ⊥
