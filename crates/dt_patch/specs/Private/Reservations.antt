-- Where the reserved memory stands in a blob, and what takes the place of a part of it: Devicetree Specification v0.4, section 5.3.
use Rattle.std.specs.Prelude.{◌≡◌, ℕ, ◌+◌, ◌-◌, ◌≤◌, ◌^◌, max, List, ◌++◌}
use Rattle.dt_blob.specs.BigEndian.{double_word}
use Rattle.dt_blob.specs.HeaderWords.{word_at}
use Rattle.dt_patch.specs.declared.view.view.View.{View}
use Rattle.dt_patch.specs.declared.layout.Layout.{Layout}
use Rattle.dt_patch.specs.declared.reserving.ReserveList.{ReserveList}
use Rattle.dt_patch.specs.declared.splicing.Gap.{Gap}
use Rattle.dt_patch.specs.declared.splicing.Span.{Span}
use Rattle.dt_patch.specs.Private.Planning.{IsPlan}

-- an address and a size
abbrev pub pair_bytes : ℕ × ℕ → List ℕ
pair_bytes pair = double_word (pair.0) ++ double_word (pair.1)

-- the blocks stand in order, and the list begins there and has so many bytes
pub record IsList (bytes : List ℕ) (l : ReserveList) : Type 0 where
  pub view : View
  pub planned : IsPlan bytes view (record { layout = l.layout; span = record { at = 0; next = 0 } })
  pub size : planned.reserved ≡ l.size
  pub at : l.at ≡ word_at 16 bytes

-- the blocks stand apart in a blob that has so many bytes of room, and the part inside the list
pub record AreListed (l : ReserveList) (part : Span) (size room : ℕ) : Type 0 where
  pub first : part.at ≤ part.next
  pub inside : l.at + part.next ≤ l.layout.structure_at
  pub apart : l.layout.structure_at + l.layout.structure_size ≤ l.layout.strings_at
  pub strings : l.layout.strings_at + l.layout.strings_size ≤ l.layout.size
  pub whole : l.layout.size ≤ room
  pub bounded : room ≤ 2 ^ 28
  pub header : 40 ≤ l.at
  pub few : size ≤ 16

-- how many bytes are wanted where so many take the place of the part
abbrev pub pairs_wanted : ReserveList → Span → ℕ → ℕ
pairs_wanted l part size = l.layout.strings_at + l.layout.strings_size - (part.next - part.at) + size

-- where the blocks stand then
abbrev pub relisted : ReserveList → Span → ℕ → Layout
relisted l part size =
    let old = part.next - part.at in
    record {
      size = max l.layout.size (pairs_wanted l part size);
      structure_at = l.layout.structure_at - old + size;
      structure_size = l.layout.structure_size;
      strings_at = l.layout.strings_at - old + size;
      strings_size = l.layout.strings_size;
    }

pub record IsPairGap (l : ReserveList) (part : Span) (size room : ℕ) (g : Gap) : Type 0 where
  pub at : g.at ≡ l.at + part.at
  pub next : g.next ≡ l.at + part.next
  pub end : g.end ≡ l.layout.strings_at + l.layout.strings_size
  pub fits : pairs_wanted l part size ≤ room
  pub layout : g.layout ≡ relisted l part size
