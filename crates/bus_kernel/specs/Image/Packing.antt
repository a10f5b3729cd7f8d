-- What packs an image, by magic numbers.
use Rattle.std.specs.Prelude.{ℕ, List, [], ◌∷◌, ◌&&◌, ◌||◌, if◌then◌else◌, codes}
use Rattle.bus_kernel.specs.Image.Magic.{has_at}
use Rattle.bus_kernel.specs.declared.image.packing.Packing.{Packing}
use Rattle.bus_kernel.specs.declared.image.packing.Packing.TheVariants.{Plain, Gzip, Xz, Lzma, Lz4, Zstd, Bzip2, ArmZImage, EfiZboot}

-- Compressed files: gzip (RFC 1952, section 2.3.1), xz (The .xz File Format, section 2.1.1.1), lzma as Linux makes it, both lz4 frames
-- (LZ4 Frame Format, sections General Structure and Legacy frame), zstd (RFC 8878, section 3.1.1), bzip2
abbrev pub compressed : List ℕ → Packing
compressed image =
    if has_at 0 (31 ∷ 139 ∷ []) image then Gzip else
    (if has_at 0 (253 ∷ 55 ∷ 122 ∷ 88 ∷ 90 ∷ 0 ∷ []) image then Xz else
    (if has_at 0 (93 ∷ 0 ∷ 0 ∷ []) image then Lzma else
    (if has_at 0 (2 ∷ 33 ∷ 76 ∷ 24 ∷ []) image || has_at 0 (4 ∷ 34 ∷ 77 ∷ 24 ∷ []) image then Lz4 else
    (if has_at 0 (40 ∷ 181 ∷ 47 ∷ 253 ∷ []) image then Zstd else
    (if has_at 0 (codes "BZh") image then Bzip2 else Plain)))))

-- kernels that unpack themselves come first (Linux: arch/arm/boot/compressed/head.S; drivers/firmware/efi/libstub/zboot-header.S)
abbrev pub packing_of : List ℕ → Packing
packing_of image =
    if has_at 0 (codes "MZ") image && has_at 4 (codes "zimg") image then EfiZboot else
    (if has_at 36 (24 ∷ 40 ∷ 111 ∷ 1 ∷ []) image then ArmZImage else compressed image)
