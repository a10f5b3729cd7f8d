-- What a source says (Devicetree Specification v0.4, section 6.3): V is what stands for the value of a property.
use Rattle.std.specs.Prelude.{ℕ, Bool, List, [], ◌∷◌, Option}

-- what a reference names: a label, or the text of a path
pub data Target : Type 0 where
  OfLabel : (label : List ℕ) → Target
  OfPath : (path : List ℕ) → Target

-- A part of a value: bytes, a reference in cells, one outside, or a part of a file, which only dtc's language has (dtc 1.6,
-- Documentation/dts-format.txt: `/incbin/`): by the place of its `/incbin/` in the text, from an offset on, so many bytes or all.
pub data Piece : Type 0 where
  Plain : (bytes : List ℕ) → Piece
  PhandleOf : (target : Target) → Piece
  PathOf : (target : Target) → Piece
  Stored : (at offset : ℕ) (length : Option ℕ) → Piece

-- a statement of a body, and a body; `omitted` says that `/omit-if-no-ref/` stands before a node, which only dtc's language has
mutual
  pub data Entry (V : Type 0) : Type 0 where
    Defines : (name : List ℕ) (value : V) → Entry V
    Undefines : (name : List ℕ) → Entry V
    Child : (omitted : Bool) (labels : List (List ℕ)) (name : List ℕ) (body : Body V) → Entry V
    Removes : (name : List ℕ) → Entry V

  pub data Body (V : Type 0) : Type 0 where
    Done : Body V
    Then : (first : Entry V) (others : Body V) → Body V

abbrev pub body_of : {V : Type 0} → List (Entry V) → Body V
body_of [] = Done
body_of (e ∷ es) = Then e (body_of es)

-- an item of a source; `Omits`, which only dtc's language has, is `/omit-if-no-ref/` before a reference
pub data Edit : Type 0 where
  Rooted : (body : Body (List Piece)) → Edit
  Extends : (labels : List (List ℕ)) (target : Target) (body : Body (List Piece)) → Edit
  Deletes : (target : Target) → Edit
  Omits : (target : Target) → Edit

pub record Meaning : Type 0 where
  pub plugin : Bool
  pub reserves : List (ℕ × ℕ)
  pub items : List Edit
