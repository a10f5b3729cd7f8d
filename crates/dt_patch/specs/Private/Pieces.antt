-- What is written into the structure block: Devicetree Specification v0.4, section 5.4.1.
use Rattle.std.specs.Prelude.{ℕ, List, ◌++◌, length}
use Rattle.dt_blob.specs.BigEndian.{word}
use Rattle.dt_blob.specs.Blob.{padding}

-- a property, by the place of its name in the strings
abbrev pub property_bytes : ℕ → List ℕ → List ℕ
property_bytes place value = word 3 ++ (word (length value) ++ (word place ++ (value ++ padding (length value))))
