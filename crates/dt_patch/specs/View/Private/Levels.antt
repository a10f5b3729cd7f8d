-- How deep tokens lead, and which of them opened the node that is round what comes.
use Rattle.std.specs.Prelude.{◌≡◌, ℕ, zero, suc, Bool, true, false, ◌==◌, List, [], ◌∷◌, ◌++◌, Option, Some, None}
use Rattle.dt_blob.specs.Holds.{is_nop}
use Rattle.dt_blob.specs.Token.{Token, begin_node, end_node, property, nop, end}
use Rattle.dt_patch.specs.declared.view.view.View.{View}
use Rattle.dt_patch.specs.View.Private.Reading.{Starts}
use Rattle.dt_patch.specs.View.Reaching.{Reached}
use Rattle.dt_patch.specs.View.Standing.{Ahead}

-- how many nodes are open behind these tokens, of so many before
abbrev pub levels_after : ℕ → List Token → Option ℕ
levels_after n [] = Some n
levels_after n (begin_node name ∷ ts) = levels_after (suc n) ts
levels_after zero (end_node ∷ ts) = None
levels_after (suc n) (end_node ∷ ts) = levels_after n ts
levels_after n (property name value ∷ ts) = levels_after n ts
levels_after n (nop ∷ ts) = None
levels_after n (end ∷ ts) = None

abbrev pub or_here : Bool → Token → Option (List Token) → Option (List Token)
or_here here t (Some ts) = Some (t ∷ ts)
or_here true t None = Some []
or_here false t None = None

-- the tokens before the last beginning of a node of this depth
abbrev pub last_open : ℕ → ℕ → List Token → Option (List Token)
last_open depth n [] = None
last_open depth n (begin_node name ∷ ts) = or_here (suc n == depth) (begin_node name) (last_open depth (suc n) ts)
last_open depth zero (end_node ∷ ts) = None
last_open depth (suc n) (end_node ∷ ts) = or_here false end_node (last_open depth n ts)
last_open depth n (property name value ∷ ts) = or_here false (property name value) (last_open depth n ts)
last_open depth n (nop ∷ ts) = None
last_open depth n (end ∷ ts) = None

-- a token stands at the place, these stand before it, and others are ahead of it
pub record Lies (view : View) (place : ℕ) (before : List Token) (t : Token) (ts : List Token) : Type 0 where
  pub some : is_nop t ≡ false
  pub reached : Reached view place before
  pub starts : Starts view place
  pub ahead : Ahead view 0 (before ++ t ∷ ts)
