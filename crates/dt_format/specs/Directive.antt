-- Lines of the preprocessor's (C11, 6.10). A property's name may begin with the same sign, as `#address-cells`.
use Rattle.std.specs.Prelude.{ℕ, nat_eq, Bool, true, ◌||◌, List, [], ◌∷◌, codes, if◌then◌else◌}
use Rattle.std.specs.Cmp.Lexicographic.{pointwise}
use Rattle.dt_format.specs.Bytes.{is_letter, is_white}

-- the identifier at the front
unfoldable pub word_of : List ℕ → List ℕ
word_of [] = []
word_of (c ∷ s) = if is_letter c then c ∷ word_of s else []

abbrev pub is_word : List ℕ → List ℕ → Bool
is_word word name = pointwise nat_eq word name

-- a condition's (6.10.1)
abbrev pub names_branch : List ℕ → Bool
names_branch w =
    is_word w (codes "if") || is_word w (codes "ifdef") || is_word w (codes "ifndef") || is_word w (codes "elif")
    || is_word w (codes "else") || is_word w (codes "endif")

-- another's (6.10.2 to 6.10.6; `warning` and `include_next` are gcc's)
abbrev pub names_other : List ℕ → Bool
names_other w =
    is_word w (codes "include") || is_word w (codes "define") || is_word w (codes "undef") || is_word w (codes "line")
    || is_word w (codes "error") || is_word w (codes "warning") || is_word w (codes "pragma") || is_word w (codes "include_next")

-- White space follows, or nothing: an empty directive (6.10.7), a line marker, or a name behind blanks.
abbrev pub is_free : List ℕ → Bool
is_free [] = true
is_free (c ∷ s) = is_white c

-- A number sign at the front of a line, before this text, begins a directive.
abbrev pub is_directive : List ℕ → Bool
is_directive s = is_free s || (names_branch (word_of s) || names_other (word_of s))
