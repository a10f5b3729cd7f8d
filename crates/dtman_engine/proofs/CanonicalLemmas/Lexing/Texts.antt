-- Strings, whatever stands behind them.
use Rattle.std.proofs.Common.{◌≡◌, ℕ, Bool, true, false, eqb, List, [], ◌∷◌, ◌++◌, refl, append_assoc, arith}
use Rattle.std.specs.Prelude.{◌||◌}
use Rattle.std.specs.List.{list_all}
use Rattle.std.proofs.lemmas.Bool.{and_parts, or_parts}
use Rattle.std.proofs.lemmas.Bool.Decides.{nat_tests}
use Rattle.dt_blob.specs.SourceText.{is_printable}
use Rattle.dt_text.specs.declared.lexeme.lexeme.Kind.TheVariants as kinds
use Rattle.dt_text.specs.Lexeme.Fronts.{is_empty, closes}
use Rattle.dt_text.specs.Lexeme.Families.{first_at, kind_of}
use Rattle.dtman_engine.specs.Canonical.Private.Lexed.{escaped, quoted}
use Rattle.dtman_engine.proofs.CanonicalLemmas.Lexing.Segments.{Here}
use Rattle.dtman_engine.proofs.CanonicalLemmas.Lexing.Marks.{at_value, plain_no_gap, ends_any}

pub printable_some : (b : ℕ) → is_printable b ≡ true → eqb b 0 ≡ false
printable_some b e = grind (arith, nat_tests)

-- a quotation mark ends a string
pub string_closes : (held t : List ℕ) → list_all is_printable held ≡ true → closes 34 false (escaped held ++ 34 ∷ t) ≡ is_empty t
unfolding closes
string_closes [] t e = refl
string_closes (b ∷ held) t e = go (string_closes held t (and_parts (is_printable b) (list_all is_printable held) e).1) (eqb b 34 || eqb b 92) refl
  where
    some : eqb b 0 ≡ false
    some = printable_some b (and_parts (is_printable b) (list_all is_printable held) e).0

    go : closes 34 false (escaped held ++ 34 ∷ t) ≡ is_empty t → (m : Bool) → (eqb b 34 || eqb b 92) ≡ m → closes 34 false (escaped (b ∷ held) ++ 34 ∷ t) ≡ is_empty t
    go more true f = rw (some, f) more
    go more false f = let p = or_parts (eqb b 34) (eqb b 92) f in let q = p.0 in let r = p.1 in rw (some, f, q, r) more

pub text_here : (n : ℕ) (held t : List ℕ) → list_all is_printable held ≡ true → Here (at_value n) kinds.Text (quoted held) t
unfolding kind_of first_at
text_here n held t e = record {
  over = plain_no_gap 34 ((escaped held ++ 34 ∷ []) ++ t) refl refl refl;
  is = let k = string_closes held [] e in rw k refl;
  ends = ends_any (kind_of (at_value n)) (quoted held) t (λ c u. let k = string_closes held (c ∷ u) e in rw (append_assoc (escaped held) (34 ∷ []) (c ∷ u), k) refl);
}
