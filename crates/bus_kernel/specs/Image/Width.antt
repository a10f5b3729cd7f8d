-- The word size of a kernel.
use Rattle.std.specs.Prelude.{ℕ, List, [], ◌∷◌, Option, Some, None, if◌then◌else◌, codes}
use Rattle.bus_kernel.specs.Image.Magic.{has_at}
use Rattle.bus_kernel.specs.declared.image.width.Width.{Width}
use Rattle.bus_kernel.specs.declared.image.width.Width.TheVariants.{Four, Eight}

-- the bytes of a pointer
abbrev pub bytes_of : Width → ℕ
bytes_of Four = 4
bytes_of Eight = 8

-- the class of an ELF file (ELF-64 Object File Format 1.5, section 4: ELFCLASS32 is 1, ELFCLASS64 is 2)
abbrev pub elf_width : List ℕ → Option Width
elf_width image = if has_at 4 (1 ∷ []) image then Some Four else (if has_at 4 (2 ∷ []) image then Some Eight else None)

-- an arm64 Image (Linux: Documentation/arm64/booting.rst) has pointers of eight bytes, an ELF file those of its class
abbrev pub told_width : List ℕ → Option Width
told_width image =
    if has_at 56 (codes "ARMd") image then Some Eight else
    (if has_at 0 (127 ∷ codes "ELF") image then elf_width image else None)
