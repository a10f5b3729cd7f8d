-- What a header without a fault says.
use Rattle.std.proofs.Common.{◌≡◌, ℕ, ◌+◌, ◌-◌, ◌%◌, ◌^◌, ◌≤◌, true, not, ◌&&◌, ◌||◌, ◌==◌, List, length, Option, Some, None, sym, subst, arith}
use Rattle.std.specs.Prelude.{if◌then◌else◌, nat_lt, nat_le, unwrap_or}
use Rattle.dt_blob.specs.declared.error.BlobError.{BlobError}
use Rattle.dt_blob.specs.declared.error.BlobError.TheVariants.{TooLarge, Truncated, BadMagic, BadVersion, BadLayout}
use Rattle.dt_blob.specs.declared.read_header.Header.{Header}
use Rattle.dt_blob.specs.HeaderWords.{header_of, is_laid_out, fault_in, header_fault}
use Rattle.dt_blob.specs.Steps.Reading.{room_of}
use Rattle.dt_blob.proofs.Tests.{not_below, at_most, both, not_false, no_fault}

pub record AreInPlace (h : Header) (len : ℕ) : Type 0 where
  pub whole : 40 ≤ len
  pub size : h.size ≤ len
  pub structure : h.structure_at ≤ h.size
  pub room : h.structure_at + room_of h ≤ h.size
  pub strings : h.strings_at + h.strings_size ≤ h.size

begins_inside : (at size : ℕ) (o : Option ℕ) → at + unwrap_or o 0 ≤ size → at ≤ size
begins_inside at size None h = omega arith
begins_inside at size (Some n) h = omega arith

room_inside : (at size : ℕ) (o : Option ℕ) → at + unwrap_or o 0 ≤ size → at + unwrap_or o (size - at) ≤ size
room_inside at size None h = omega arith
room_inside at size (Some n) h = h

-- the tests from the last one back
abbrev layout_fault : Header → Option BlobError
layout_fault h = if not (is_laid_out h) then Some BadLayout else None

abbrev size_fault : Header → ℕ → Option BlobError
size_fault h len = if nat_lt len h.size then Some Truncated else layout_fault h

abbrev version_fault : Header → ℕ → Option BlobError
version_fault h len = if nat_lt h.version 16 || nat_lt 17 h.last_compatible then Some BadVersion else size_fault h len

in_place_in : (h : Header) (len : ℕ) → 40 ≤ len → fault_in h len ≡ None → AreInPlace h len
in_place_in h len w e =
    let c = no_fault (not (h.magic == 0xd00dfeed)) BadMagic (version_fault h len) e in
    let d = no_fault (nat_lt h.version 16 || nat_lt 17 h.last_compatible) BadVersion (size_fault h len) (c.1) in
    let f = no_fault (nat_lt len h.size) Truncated (layout_fault h) (d.1) in
    let g = no_fault {E = BlobError} (not (is_laid_out h)) BadLayout None (f.1) in
    let all : is_laid_out h ≡ true = not_false (is_laid_out h) (g.0) in
    let p = both (nat_le 40 h.size && nat_le (h.structure_at + unwrap_or h.structure_size 0) h.size && nat_le (h.strings_at + h.strings_size) h.size && h.structure_at % 4 == 0) (h.reserves_at % 8 == 0) all in
    let q = both (nat_le 40 h.size && nat_le (h.structure_at + unwrap_or h.structure_size 0) h.size && nat_le (h.strings_at + h.strings_size) h.size) (h.structure_at % 4 == 0) (p.0) in
    let r = both (nat_le 40 h.size && nat_le (h.structure_at + unwrap_or h.structure_size 0) h.size) (nat_le (h.strings_at + h.strings_size) h.size) (q.0) in
    let s = both (nat_le 40 h.size) (nat_le (h.structure_at + unwrap_or h.structure_size 0) h.size) (r.0) in
    record {
      whole = w;
      size = not_below len h.size (f.0);
      structure = begins_inside h.structure_at h.size h.structure_size (at_most (h.structure_at + unwrap_or h.structure_size 0) h.size (s.1));
      room = room_inside h.structure_at h.size h.structure_size (at_most (h.structure_at + unwrap_or h.structure_size 0) h.size (s.1));
      strings = at_most (h.strings_at + h.strings_size) h.size (r.1);
    }

pub in_place : (bytes : List ℕ) → header_fault bytes ≡ None → AreInPlace (header_of bytes) (length bytes)
unfolding header_fault
in_place bytes e =
    let a = no_fault (nat_lt (2 ^ 28) (length bytes)) TooLarge (if nat_lt (length bytes) 40 then Some Truncated else fault_in (header_of bytes) (length bytes)) e in
    let b = no_fault (nat_lt (length bytes) 40) Truncated (fault_in (header_of bytes) (length bytes)) (a.1) in
    in_place_in (header_of bytes) (length bytes) (not_below (length bytes) 40 (b.0)) (b.1)

-- the same of a header that was read
pub in_place_as : (bytes : List ℕ) (h : Header) → h ≡ header_of bytes → header_fault bytes ≡ None → AreInPlace h (length bytes)
in_place_as bytes h e f = subst (λ (x : Header). AreInPlace x (length bytes)) (sym e) (in_place bytes f)
