-- Properties and nodes that become NOPs, so that nothing moves: Devicetree Specification v0.4, section 5.4.1, FDT_NOP; libfdt's `fdt_wip.c`.
use Rattle.std.specs.Prelude.{◌≡◌, ◌⊎◌, ℕ, zero, suc, ◌+◌, ◌-◌, ◌/◌, ◌≤◌, ◌<◌, List, [], ◌∷◌, ◌++◌, length, take, drop, Some, None}
use Rattle.dt_blob.specs.declared.error.BlobError.{BlobError}
use Rattle.dt_blob.specs.declared.error.BlobError.TheVariants.{BadToken}
use Rattle.dt_blob.specs.BigEndian.{word}
use Rattle.dt_blob.specs.Blocks.{structure_in}
use Rattle.dt_blob.specs.Format.{nop_word}
use Rattle.dt_blob.specs.HeaderWords.{header_fault, header_of, strings_of}
use Rattle.dt_blob.specs.Holds.{Spells, SpellsToken, without_nops}
use Rattle.dt_blob.specs.Token.{Token, begin_node, property}
use Rattle.dt_patch.specs.View.Ending.{closed}
use Rattle.dt_patch.specs.declared.error.PatchError.{PatchError}
use Rattle.dt_patch.specs.declared.error.PatchError.TheVariants.{BadOffset, Blob}

-- so many NOPs
abbrev pub nops : ℕ → List ℕ
nops zero = []
nops (suc n) = word nop_word ++ nops n

-- the bytes with NOPs from one offset of the structure block up to another, and all else as it was
abbrev pub with_nops : ℕ → ℕ → List ℕ → List ℕ
with_nops at next bytes =
    let from = (header_of bytes).structure_at + at in
    take from bytes ++ (nops ((next - at) / 4) ++ drop (from + (next - at)) bytes)

-- ---- what a blob's structure block has right at an offset, up to another

-- a property
pub record HasProperty (strings structure : List ℕ) (at next : ℕ) : Type 0 where
  pub name : List ℕ
  pub value : List ℕ
  pub spelled : SpellsToken strings (property name value) (take (next - at) (drop at structure))
  pub further : at < next
  pub inside : next ≤ length structure

-- the beginning of a node
pub record HasBeginning (strings structure : List ℕ) (at next : ℕ) : Type 0 where
  pub name : List ℕ
  pub spelled : SpellsToken strings (begin_node name) (take (next - at) (drop at structure))
  pub further : at < next
  pub inside : next ≤ length structure

-- a node with all below it, NOPs in between too
pub record HasNode (strings structure : List ℕ) (at next : ℕ) : Type 0 where
  pub name : List ℕ
  pub tokens : List Token
  pub spelled : Spells strings (begin_node name ∷ tokens) (take (next - at) (drop at structure))
  pub closes : closed 0 (without_nops tokens) ≡ Some []
  pub further : at < next
  pub inside : next ≤ length structure

-- ---- what a call makes of a blob, and why it makes nothing

-- what stands at the offset, as it is asked, becomes NOPs, and no other byte another
pub record IsNopped (Has : List ℕ → List ℕ → ℕ → ℕ → Type 0) (old : List ℕ) (at : ℕ) (new : List ℕ) : Type 0 where
  pub next : ℕ
  pub stood : Has (strings_of old) (structure_in old) at next
  pub is : new ≡ with_nops at next old

abbrev pub HasNone : (List ℕ → List ℕ → ℕ → ℕ → Type 0) → List ℕ → ℕ → Type 0
HasNone Has bytes at = (next : ℕ) → Has (strings_of bytes) (structure_in bytes) at next → ⊥

-- the header has a fault
abbrev pub HasHeaderFault : List ℕ → PatchError → Type 0
HasHeaderFault bytes e = (fault : BlobError) × (e ≡ Blob fault) × (header_fault bytes ≡ Some fault)

-- nothing of the kind begins right at the offset
abbrev pub HasNothing : (List ℕ → List ℕ → ℕ → ℕ → Type 0) → List ℕ → ℕ → PatchError → Type 0
HasNothing Has bytes at e = (e ≡ BadOffset) × (header_fault bytes ≡ None) × HasNone Has bytes at

-- a node begins there, and never ends
abbrev pub HasNoEnd : List ℕ → ℕ → PatchError → Type 0
HasNoEnd bytes at e = (e ≡ Blob BadToken) × (header_fault bytes ≡ None) × (next : ℕ) × HasBeginning (strings_of bytes) (structure_in bytes) at next × HasNone HasNode bytes at

abbrev pub RefusesProperty : List ℕ → ℕ → PatchError → Type 0
RefusesProperty bytes at e = HasHeaderFault bytes e ⊎ HasNothing HasProperty bytes at e

abbrev pub RefusesNode : List ℕ → ℕ → PatchError → Type 0
RefusesNode bytes at e = HasHeaderFault bytes e ⊎ (HasNothing HasBeginning bytes at e ⊎ HasNoEnd bytes at e)
