-- What a reader of tokens learns.
use Rattle.std.specs.Prelude.{◌≡◌, ℕ, ◌-◌, ◌≤◌, ◌<◌, true, false, List, [], ◌∷◌, ◌++◌, length, take, drop, Some}
use Rattle.dt_tree.specs.declared.property.Property.{Property}
use Rattle.dt_tree.specs.NodeData.{Siblings}
use Rattle.dt_blob.specs.Holds.{Spells, is_nop, without_nops}
use Rattle.dt_blob.specs.Token.{Token, begin_node, property, property_tokens, sibling_tokens}
use Rattle.dt_patch.specs.declared.view.view.View.{View}
use Rattle.dt_patch.specs.View.Ending.{closed}
use Rattle.dt_patch.specs.View.Reaching.{IsSpelled, Reached}
use Rattle.dt_patch.specs.View.Standing.{Ahead}

-- no token stands there
abbrev pub StandsNothing : View → ℕ → Type 0
StandsNothing view from = (u : Token) (us : List Token) → Ahead view from (u ∷ us) → ⊥

-- a token stands there, and ends at an offset
pub record Reads (view : View) (from : ℕ) (t : Token) (next : ℕ) : Type 0 where
  pub ahead : is_nop t ≡ false → (u : Token) (us : List Token) → Ahead view from (u ∷ us) → (t ≡ u) × Ahead view next us
  pub ahead_nop : is_nop t ≡ true → (u : Token) (us : List Token) → Ahead view from (u ∷ us) → Ahead view next (u ∷ us)
  pub back : is_nop t ≡ false → (us : List Token) → Ahead view next us → Ahead view from (t ∷ us)
  pub back_nop : is_nop t ≡ true → (us : List Token) → Ahead view next us → Ahead view from us
  pub reach : is_nop t ≡ false → (ts : List Token) → Reached view from ts → Reached view next (ts ++ t ∷ [])
  pub reach_nop : is_nop t ≡ true → (ts : List Token) → Reached view from ts → Reached view next ts
  pub spelled : IsSpelled view from t next
  pub further : from < next
  pub inside : next ≤ length view.structure.now

-- from one offset up to another these tokens are spelled, NOPs left out
pub record Through (view : View) (from next : ℕ) (tokens : List Token) : Type 0 where
  pub all : List Token
  pub spells : Spells view.strings.now all (take (next - from) (drop from view.structure.now))
  pub kept : without_nops all ≡ tokens

-- the tokens up to an offset end with the end of the node in which they stand
pub record Ends (view : View) (from next : ℕ) : Type 0 where
  pub tokens : List Token
  pub through : Through view from next tokens
  pub closes : closed 0 tokens ≡ Some []

-- the first one that is no NOP begins at an offset, and ends at another
pub record Finds (view : View) (from : ℕ) (t : Token) (at next : ℕ) : Type 0 where
  pub ahead : (u : Token) (us : List Token) → Ahead view from (u ∷ us) → (t ≡ u) × Ahead view at (u ∷ us) × Ahead view next us
  pub back : (us : List Token) → Ahead view next us → Ahead view from (t ∷ us)
  pub reach : (ts : List Token) → Reached view from ts → Reached view at ts × Reached view next (ts ++ t ∷ [])
  pub spelled : IsSpelled view at t next
  pub through : Through view from next (t ∷ [])
  pub begins : from ≤ at
  pub further : at < next
  pub inside : next ≤ length view.structure.now

-- a token that is no NOP begins right there
pub record Starts (view : View) (at : ℕ) : Type 0 where
  pub token : Token
  pub next : ℕ
  pub spelled : IsSpelled view at token next
  pub further : at < next
  pub inside : next ≤ length view.structure.now
  pub some : is_nop token ≡ false

-- a node of this name begins there
pub record Opens (view : View) (from : ℕ) (name : List ℕ) (at next : ℕ) : Type 0 where
  pub ahead : (n : List ℕ) (us : List Token) → Ahead view from (begin_node n ∷ us) → (name ≡ n) × Ahead view at (begin_node n ∷ us) × Ahead view next us
  pub stands : Ahead view from (begin_node name ∷ [])
  pub reach : (ts : List Token) → Reached view from ts → Reached view at ts × Reached view next (ts ++ begin_node name ∷ [])
  pub starts : Starts view at
  pub further : from < next

-- a property stands there, and ends at an offset
pub record Has (view : View) (from : ℕ) (name value : List ℕ) (next : ℕ) : Type 0 where
  pub ahead : (n v : List ℕ) (us : List Token) → Ahead view from (property n v ∷ us) → (name ≡ n) × (value ≡ v) × Ahead view next us
  pub stands : Ahead view from (property name value ∷ [])

-- what stands inside a node, or behind a child of it
abbrev pub inside_tokens : List Property → Siblings → Token → List Token
inside_tokens ps nodes last = property_tokens ps ++ (sibling_tokens nodes ++ last ∷ [])
