-- The strings of a value, one by one: how they are spelled and what they say.
use Rattle.std.proofs.Common.{◌≡◌, ℕ, Bool, true, false, eqb, List, [], ◌∷◌, ◌++◌, length, refl, sym, ap, ◌∙◌, append_assoc}
use Rattle.std.specs.List.{list_all}
use Rattle.std.proofs.lemmas.Bool.{and_from, cond-true, cond-false, true≢false, eqb-true}
use Rattle.std.proofs.lemmas.List.Folds.{list_all-append}
use Rattle.dt_blob.specs.SourceText.{is_printable, are_strings}
use Rattle.dt_text.specs.declared.lexeme.lexeme.Kind.TheVariants as kinds
use Rattle.dtman_engine.specs.Canonical.Private.Lexed.{Segment, Blanks, Word, string_parts, quoted}
use Rattle.dtman_engine.proofs.CanonicalLemmas.Lexing.Strings.{FirstByte, first_byte}

-- ---- cut into strings

-- strings, each with a zero byte behind it
abbrev pub strung : List (List ℕ) → List ℕ
strung [] = []
strung (s ∷ ss) = s ++ 0 ∷ strung ss

abbrev pub all_printable : List (List ℕ) → Bool
all_printable ss = list_all (λ s. list_all is_printable s) ss

-- a comma before each string
abbrev pub further : List (List ℕ) → List Segment
further [] = []
further (s ∷ ss) = Word kinds.Comma (44 ∷ []) ∷ Blanks (32 ∷ []) ∷ Word kinds.Text (quoted s) ∷ further ss

pub record Cut (held bytes : List ℕ) (parts : List Segment) (s : List ℕ) (ss : List (List ℕ)) : Type 0 where
  pub printable : list_all is_printable s ≡ true
  pub others : all_printable ss ≡ true
  pub bytes_are : held ++ bytes ≡ s ++ 0 ∷ strung ss
  pub parts_are : parts ≡ Word kinds.Text (quoted s) ∷ further ss

pub record CutBehind (bytes : List ℕ) (ss : List (List ℕ)) : Type 0 where
  pub others : all_printable ss ≡ true
  pub bytes_are : bytes ≡ strung ss
  pub parts_are : string_parts true [] bytes ≡ further ss

-- inside a string, or behind one
abbrev CutBy : Bool → List ℕ → List ℕ → Type 0
CutBy true held bytes = (s : List ℕ) × (ss : List (List ℕ)) × Cut held bytes (string_parts false held bytes) s ss
CutBy false held bytes = (ss : List (List ℕ)) × CutBehind bytes ss

-- the parts before and behind a byte
ended : (b : ℕ) (held bytes : List ℕ) → eqb b 0 ≡ true → string_parts false held (b ∷ bytes) ≡ Word kinds.Text (quoted held) ∷ string_parts true [] bytes
ended b held bytes z = cond-true (eqb b 0) _ _ z

going : (b : ℕ) (held bytes : List ℕ) → eqb b 0 ≡ false → string_parts false held (b ∷ bytes) ≡ string_parts false (held ++ b ∷ []) bytes
going b held bytes z = cond-false (eqb b 0) _ _ z

more_printable : (held : List ℕ) (b : ℕ) → list_all is_printable held ≡ true → is_printable b ≡ true → list_all is_printable (held ++ b ∷ []) ≡ true
more_printable held b p e = list_all-append is_printable held (b ∷ []) ∙ and_from (list_all is_printable held) (list_all is_printable (b ∷ [])) p (and_from (is_printable b) true e refl)

cut : (begun : Bool) (held bytes : List ℕ) → list_all is_printable held ≡ true → are_strings begun bytes ≡ true → CutBy begun held bytes
cut true held [] p e = absurd cc
cut false held [] p e = ([], record { others = refl; bytes_are = refl; parts_are = refl })
cut true held (b ∷ bytes) p e = go (eqb b 0) refl (cut false [] bytes refl) (cut true (held ++ b ∷ []) bytes)
  where
    f : FirstByte true b bytes
    f = first_byte true b bytes e

    go : (z : Bool) → eqb b 0 ≡ z → (are_strings false bytes ≡ true → CutBy false [] bytes) → (list_all is_printable (held ++ b ∷ []) ≡ true → are_strings true bytes ≡ true → CutBy true (held ++ b ∷ []) bytes) → CutBy true held (b ∷ bytes)
    go true z over on =
        let r = over (f.ends z).1 in
        let zero = eqb-true b 0 z in (
          held,
          r.0,
          record {
            printable = p;
            others = r.1.others;
            bytes_are = ap (λ (x : ℕ). held ++ x ∷ bytes) zero ∙ ap (λ (t : List ℕ). held ++ 0 ∷ t) r.1.bytes_are;
            parts_are = ended b held bytes z ∙ ap (λ (x : List Segment). Word kinds.Text (quoted held) ∷ x) r.1.parts_are;
          },
        )
    go false z over on =
        let g = f.goes_on z in
        let r = on (more_printable held b p g.0) g.1 in (
          r.0,
          r.1,
          record {
            printable = r.2.printable;
            others = r.2.others;
            bytes_are = sym (append_assoc held (b ∷ []) bytes) ∙ r.2.bytes_are;
            parts_are = going b held bytes z ∙ r.2.parts_are;
          },
        )
cut false held (b ∷ bytes) p e = go (eqb b 0) refl (cut true (b ∷ []) bytes)
  where
    f : FirstByte false b bytes
    f = first_byte false b bytes e

    go : (z : Bool) → eqb b 0 ≡ z → (list_all is_printable (b ∷ []) ≡ true → are_strings true bytes ≡ true → CutBy true (b ∷ []) bytes) → CutBy false held (b ∷ bytes)
    go true z on = absurd (true≢false (sym (f.ends z).0))
    go false z on =
        let g = f.goes_on z in
        let r = on (and_from (is_printable b) true g.0 refl) g.1 in (
          r.0 ∷ r.1,
          record {
            others = and_from (list_all is_printable r.0) (all_printable r.1) r.2.printable r.2.others;
            bytes_are = r.2.bytes_are;
            parts_are = ap (λ (x : List Segment). Word kinds.Comma (44 ∷ []) ∷ Blanks (32 ∷ []) ∷ x) (going b [] bytes z ∙ r.2.parts_are);
          },
        )

-- strings from the first on
pub cut_first : (value : List ℕ) → eqb (length value) 0 ≡ false → are_strings false value ≡ true → (s : List ℕ) × (ss : List (List ℕ)) × Cut [] value (string_parts false [] value) s ss
cut_first [] some e = absurd cc
cut_first (b ∷ bytes) some e = go (eqb b 0) refl (cut true (b ∷ []) bytes)
  where
    f : FirstByte false b bytes
    f = first_byte false b bytes e

    go : (z : Bool) → eqb b 0 ≡ z → (list_all is_printable (b ∷ []) ≡ true → are_strings true bytes ≡ true → CutBy true (b ∷ []) bytes) → (s : List ℕ) × (ss : List (List ℕ)) × Cut [] (b ∷ bytes) (string_parts false [] (b ∷ bytes)) s ss
    go true z on = absurd (true≢false (sym (f.ends z).0))
    go false z on =
        let g = f.goes_on z in
        let r = on (and_from (is_printable b) true g.0 refl) g.1 in
        (r.0, r.1, record { printable = r.2.printable; others = r.2.others; bytes_are = r.2.bytes_are; parts_are = going b [] bytes z ∙ r.2.parts_are })
