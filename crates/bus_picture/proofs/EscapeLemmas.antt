-- What is escaped has no byte of a mark.
use Rattle.std.proofs.Common.{◌≡◌, ℕ, Bool, true, false, List, [], ◌∷◌, ◌++◌, refl, sym, ap, ap₂, ◌∙◌, arith}
use Rattle.std.specs.Prelude.{◌==◌, ◌&&◌, ◌||◌, not, cond, flat_map, codes}
use Rattle.std.specs.List.{list_all}
use Rattle.std.proofs.lemmas.List.Folds.{list_all-append}
use Rattle.bus_picture.specs.Escape.{escaped, escaped_byte, is_plain}

plain_rest : (b : ℕ) → (b == 60) ≡ false → (b == 62) ≡ false → (b == 34) ≡ false → (b == 39) ≡ false → list_all is_plain (b ∷ []) ≡ true
plain_rest b low high quote single =
    ap (λ (t : Bool). not t && true)
    (ap (λ (t : Bool). t || ((b == 62) || ((b == 34) || (b == 39)))) low ∙ ap (λ (t : Bool). t || ((b == 34) || (b == 39))) high
    ∙ ap (λ (t : Bool). t || (b == 39)) quote ∙ single)

byte_is_plain : (b : ℕ) → list_all is_plain (escaped_byte b) ≡ true
byte_is_plain b = by (b == 38) (b == 60) refl (b == 62) refl (b == 34) refl (b == 39) refl
  where
    by : (amp low : Bool) → (b == 60) ≡ low → (high : Bool) → (b == 62) ≡ high → (quote : Bool) → (b == 34) ≡ quote → (single : Bool) → (b == 39) ≡ single
        → list_all is_plain (cond amp (codes "&amp;") (cond low (codes "&lt;") (cond high (codes "&gt;") (cond quote (codes "&quot;") (cond single (codes "&#39;") (b ∷ []))))))
        ≡ true
    by true low l high h quote q single s = refl
    by false true l high h quote q single s = refl
    by false false l true h quote q single s = refl
    by false false l false h true q single s = refl
    by false false l false h false q true s = refl
    by false false l false h false q false s = plain_rest b l h q s

pub is_plain_all : (bytes : List ℕ) → list_all is_plain (escaped bytes) ≡ true
is_plain_all [] = refl
is_plain_all (b ∷ bytes) = list_all-append is_plain (escaped_byte b) (escaped bytes) ∙ ap₂ (λ x y. x && y) (byte_is_plain b) (is_plain_all bytes)
