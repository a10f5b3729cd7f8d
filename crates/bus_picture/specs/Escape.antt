-- Text between the marks of HTML (WHATWG, "Character references"), and of Graphviz's labels that are like it.
use Rattle.std.specs.Prelude.{◌≡◌, ℕ, Bool, true, ◌==◌, ◌||◌, not, if◌then◌else◌, List, [], ◌∷◌, flat_map, codes}
use Rattle.std.specs.List.{list_all}

-- the byte, or the reference that stands for it where it means something in a mark: & < > and quotes
abbrev pub escaped_byte : ℕ → List ℕ
escaped_byte b =
    if b == 38 then codes "&amp;"
    else (if b == 60 then codes "&lt;"
    else (if b == 62 then codes "&gt;"
    else (if b == 34 then codes "&quot;"
    else (if b == 39 then codes "&#39;"
    else b ∷ []))))

abbrev pub escaped : List ℕ → List ℕ
escaped bytes = flat_map escaped_byte bytes

-- it neither opens nor ends a mark, nor a quoted value
abbrev pub is_plain : ℕ → Bool
is_plain b = not (b == 60 || (b == 62 || (b == 34 || b == 39)))

abbrev pub EscapedIsPlain : Type 0
EscapedIsPlain = (bytes : List ℕ) → list_all is_plain (escaped bytes) ≡ true
