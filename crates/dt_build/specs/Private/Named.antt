-- What is true of each name of a tree, and what stands in it once (Devicetree Specification v0.4, sections 2.2.1, 2.2.4 and 6.2).
use Rattle.std.specs.Prelude.{◌≡◌, ◌≤◌, ℕ, true, false, List, [], ◌∷◌, length}
use Rattle.std.specs.Str.{bytes_eq}
use Rattle.dt_tree.specs.Name.{is_name}
use Rattle.dt_source.specs.TreeMeaning.Paths.{Path}
use Rattle.dt_source.specs.TreeMeaning.Syntax.{Target, OfLabel, OfPath, Piece, Plain, PhandleOf, PathOf, Stored}
use Rattle.dt_source.specs.TreeMeaning.Edits.{Definition, Label, State, is_of}
use Rattle.dt_live.proofs.Each.{Each}

abbrev pub IsName : List ℕ → Type 0
IsName n = is_name n ≡ true

-- each stands so to all behind it
abbrev pub InPairs : {A : Type 0} → (A → A → Type 0) → List A → Type 0
InPairs R [] = Unit {0}
InPairs R (x ∷ xs) = Each (R x) xs × InPairs R xs

-- the names of the path are so, and there are at most 64
abbrev pub IsNamedPath : (List ℕ → Type 0) → Path → Type 0
IsNamedPath N q = Each N q × (length q ≤ 64)

-- the later property has another node or another name
abbrev pub HasOtherKey : {V : Type 0} → Definition V → Definition V → Type 0
HasOtherKey e x = is_of x.path x.name e ≡ false

-- the later label is another word
abbrev pub IsOtherWord : Label → Label → Type 0
IsOtherWord l x = bytes_eq x.label l.label ≡ false

-- N is true of each name, and W of each value
pub record IsNamed {V : Type 0} (N : List ℕ → Type 0) (W : V → Type 0) (s : State V) : Type 0 where
  pub nodes : Each (IsNamedPath N) s.nodes
  pub properties : Each (λ e. N e.name × W e.value) s.properties
  pub labels : Each (λ l. N l.label × IsNamedPath N l.path) s.labels
  pub keys : InPairs HasOtherKey s.properties
  pub words : InPairs IsOtherWord s.labels

-- a label that a reference has
abbrev pub IsNamedTarget : (List ℕ → Type 0) → Target → Type 0
IsNamedTarget N (OfLabel l) = N l
IsNamedTarget N (OfPath t) = Unit {0}

abbrev pub IsNamedPiece : (List ℕ → Type 0) → Piece → Type 0
IsNamedPiece N (Plain b) = Unit {0}
IsNamedPiece N (PhandleOf t) = IsNamedTarget N t
IsNamedPiece N (PathOf t) = IsNamedTarget N t
IsNamedPiece N (Stored at offset length) = Unit {0}

abbrev pub IsNamedValue : (List ℕ → Type 0) → List Piece → Type 0
IsNamedValue N v = Each (IsNamedPiece N) v
