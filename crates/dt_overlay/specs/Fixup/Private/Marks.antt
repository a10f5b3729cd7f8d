-- The bytes of a fixup site, and whether one of them was taken before (dt-object-internal, section 2).
use Rattle.std.specs.Prelude.{◌≡◌, ◌==◌, ℕ, ◌+◌, Bool, ◌&&◌, ◌||◌, Option, nat_le, nat_lt}
use Rattle.dt_overlay.specs.declared.fixup.patched_overlay.Change.{Change}
use Rattle.dt_overlay.specs.declared.fixup.patched_overlay.PatchedOverlay.{PatchedOverlay}
use Rattle.dt_overlay.specs.Fixup.PatchedOverlay.{change_at}
use Rattle.dt_overlay.specs.Fixup.Private.Steps.{is_marked}

-- byte i is one of the four at an offset
abbrev pub is_inside : ℕ → ℕ → Bool
is_inside o i = nat_le o i && nat_lt i (o + 4)

-- one of the four bytes at an offset is marked
abbrev pub is_taken : Option Change → ℕ → Bool
is_taken c o = is_marked c o || is_marked c (o + 1) || is_marked c (o + 2) || is_marked c (o + 3)

-- the four bytes at an offset of a value have marks, beside those that had
abbrev pub Marks : ℕ → Option Change → Option Change → Type 0
Marks o old new = (i : ℕ) → is_marked new i ≡ (is_inside o i || is_marked old i)

-- all bytes have the marks that they had
abbrev pub KeepsMarks : PatchedOverlay → PatchedOverlay → Type 0
KeepsMarks old new = (k i : ℕ) → is_marked (change_at new k) i ≡ is_marked (change_at old k) i

-- the four bytes at an offset of property n have marks too
abbrev pub MarksSite : ℕ → ℕ → PatchedOverlay → PatchedOverlay → Type 0
MarksSite n o old new = (k i : ℕ) → is_marked (change_at new k) i ≡ (((k == n) && is_inside o i) || is_marked (change_at old k) i)

-- and so they have where they were free
abbrev pub MarksFree : Bool → ℕ → ℕ → PatchedOverlay → PatchedOverlay → Type 0
MarksFree free n o old new = (k i : ℕ) → is_marked (change_at new k) i ≡ ((free && (k == n) && is_inside o i) || is_marked (change_at old k) i)
