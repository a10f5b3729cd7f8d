-- The rule of make that names what a file was made of, in the form of dtc's -d.
use Rattle.std.specs.Prelude.{ℕ, ◌==◌, if◌then◌else◌, List, [], ◌∷◌, ◌++◌}

-- a byte of a path: a space stands behind a backslash
abbrev pub escaped_byte : ℕ → List ℕ
escaped_byte byte = if byte == 32 then 92 ∷ 32 ∷ [] else byte ∷ []

abbrev pub escaped : List ℕ → List ℕ
escaped [] = []
escaped (byte ∷ rest) = escaped_byte byte ++ escaped rest

-- files, a space before each
abbrev pub listed : List (List ℕ) → List ℕ
listed [] = []
listed (file ∷ files) = 32 ∷ escaped file ++ listed files

-- the file that is made, a colon, and the files that it was made of
abbrev pub rule_of : List ℕ → List (List ℕ) → List ℕ
rule_of out files = escaped out ++ 58 ∷ listed files ++ 10 ∷ []
