-- When bytes hold a tree: Devicetree Specification v0.4, chapter 5.
use Rattle.std.specs.Prelude.{◌≡◌, ℕ, ◌+◌, ◌^◌, ◌%◌, ◌<◌, Bool, true, false, not, ◌==◌, nat_le, List, [], ◌∷◌, ◌++◌, length, drop, None, IsTrue, if◌then◌else◌}
use Rattle.std.specs.List.{list_all}
use Rattle.std.specs.Option.{option_map_or}
use Rattle.dt_tree.specs.NodeData.{NodeData}
use Rattle.dt_tree.specs.TreeData.{TreeData, IsTree, is_reserve}
use Rattle.dt_blob.specs.declared.read_header.Header.{Header}
use Rattle.dt_blob.specs.BigEndian.{word, double_word}
use Rattle.dt_blob.specs.Format.{begin_node_word, end_node_word, property_word, nop_word, end_word}
use Rattle.dt_blob.specs.HeaderWords.{header_of, header_fault, strings_of, structure_of, reserves_of}
use Rattle.dt_blob.specs.Token.{Token, begin_node, end_node, property, nop, end, tokens_of}

-- a name ends at its zero byte, so it has none
abbrev pub has_no_zero : List ℕ → Bool
has_no_zero name = list_all (λ b. not (b == 0)) name

-- less than a word of any bytes, after n bytes, up to a multiple of four
abbrev pub Pads : ℕ → List ℕ → Type 0
Pads n padding = (length padding < 4) × ((n + length padding) % 4 ≡ 0)

-- the name and a zero byte stand at a place of the strings
abbrev pub Names : List ℕ → ℕ → List ℕ → Type 0
Names strings place name = (rest : List ℕ) × (drop place strings ≡ name ++ 0 ∷ rest) × IsTrue (has_no_zero name)

-- the bytes spell a token (section 5.4.1)
abbrev pub SpellsToken : List ℕ → Token → List ℕ → Type 0
SpellsToken strings (begin_node name) bytes =
    (padding : List ℕ) × (bytes ≡ word begin_node_word ++ (name ++ 0 ∷ padding)) × Pads (length name + 1) padding × IsTrue (has_no_zero name)
SpellsToken strings end_node bytes = bytes ≡ word end_node_word
SpellsToken strings (property name value) bytes =
    (place : ℕ) × (padding : List ℕ) × (bytes ≡ word property_word ++ (word (length value) ++ (word place ++ (value ++ padding))))
    × (length value < 2 ^ 32) × (place < 2 ^ 32) × Pads (length value) padding × Names strings place name
SpellsToken strings nop bytes = bytes ≡ word nop_word
SpellsToken strings end bytes = bytes ≡ word end_word

-- the bytes spell tokens, one after the other
abbrev pub Spells : List ℕ → List Token → List ℕ → Type 0
Spells strings [] bytes = bytes ≡ []
Spells strings (t ∷ ts) bytes = (first : List ℕ) × (others : List ℕ) × (bytes ≡ first ++ others) × SpellsToken strings t first × Spells strings ts others

abbrev pub is_nop : Token → Bool
is_nop nop = true
is_nop (begin_node name) = false
is_nop end_node = false
is_nop (property name value) = false
is_nop end = false

abbrev pub without_nops : List Token → List Token
without_nops [] = []
without_nops (t ∷ ts) = if is_nop t then without_nops ts else t ∷ without_nops ts

-- the bytes spell a root and its end
abbrev pub SpellsRoot : List ℕ → NodeData → List ℕ → Type 0
SpellsRoot strings root bytes = (ts : List Token) × Spells strings (ts ++ end ∷ []) bytes × (without_nops ts ≡ tokens_of root)

-- the structure block may have this size: the header's, or in version 16, whose header has none, any inside the blob
abbrev pub is_structure_size : Header → ℕ → Bool
is_structure_size h size = option_map_or (λ n. size == n) h.structure_size (nat_le (h.structure_at + size) h.size)

-- a range that may be the structure block spells a root and its end
abbrev pub StructureSpells : List ℕ → NodeData → Type 0
StructureSpells bytes root =
    (size : ℕ) × IsTrue (is_structure_size (header_of bytes) size) × SpellsRoot (strings_of bytes) root (structure_of size bytes)

-- the bytes begin with these pairs, none of them zeros, and a pair of zeros (section 5.3)
abbrev pub Reserves : List (ℕ × ℕ) → List ℕ → Type 0
Reserves [] bytes = (rest : List ℕ) × (bytes ≡ double_word 0 ++ (double_word 0 ++ rest))
Reserves (r ∷ rs) bytes = (rest : List ℕ) × (bytes ≡ double_word (r.0) ++ (double_word (r.1) ++ rest)) × (r.0 < 2 ^ 64) × (r.1 < 2 ^ 64) × IsTrue (is_reserve r) × Reserves rs rest

-- no pair of zeros ends the pairs that the bytes begin with
abbrev pub HaveNoEnd : List ℕ → Type 0
HaveNoEnd bytes = (rs : List (ℕ × ℕ)) → Reserves rs bytes → ⊥

-- the bytes hold the tree
pub record Holds (bytes : List ℕ) (tree : TreeData) : Type 0 where
  pub header : header_fault bytes ≡ None
  pub reserves : Reserves tree.reserves (reserves_of bytes)
  pub structure : StructureSpells bytes tree.root
  pub boot_cpu : tree.boot_cpu ≡ (header_of bytes).boot_cpu
  pub limits : IsTree tree
