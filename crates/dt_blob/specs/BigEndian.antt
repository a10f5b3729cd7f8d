-- Numbers as a blob holds them, the highest byte first (Devicetree Specification v0.4, section 5.1).
use Rattle.std.specs.Prelude.{ℕ, List}
use Rattle.byteorder.specs.Endian.{big_bytes}

-- 32 bits
unfoldable pub word : ℕ → List ℕ
word x = big_bytes 4 x

-- 64 bits
unfoldable pub double_word : ℕ → List ℕ
double_word x = big_bytes 8 x
