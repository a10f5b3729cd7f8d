-- A name before a byte that stands in no name.
use Rattle.std.proofs.Common.{◌≡◌, ℕ, ◌≤◌, ◌<◌, Bool, true, false, eqb, leb, ltb, List, [], ◌∷◌, ◌++◌, length, Some, None, refl, sym, ◌∙◌, arith, ◌⊎◌, inl, inr}
use Rattle.std.specs.Prelude.{◌&&◌, IsTrue}
use Rattle.std.specs.List.{list_all}
use Rattle.std.proofs.lemmas.Bool.{and_parts, and_from, le-leb, ltb-false, ne_eqb}
use Rattle.std.proofs.lemmas.Bool.Decides.{nat_tests}
use Rattle.dt_text.specs.declared.lexeme.language.Language.TheVariants.{Profile}
use Rattle.dt_tree.specs.Name as tree
use Rattle.dt_text.specs.declared.lexeme.lexeme.Kind.TheVariants as kinds
use Rattle.dt_text.specs.declared.lexeme.families.First.TheVariants as firsts
use Rattle.dt_text.specs.Lexeme.Bytes.{is_blank, is_letter, is_word, is_name}
use Rattle.dt_text.specs.Lexeme.Fronts.{ends, ends_label}
use Rattle.dt_text.specs.Lexeme.Gaps.{NoGap, begins_digit, begins_line, begins_comment}
use Rattle.dt_text.specs.Lexeme.Families.{first_at, kind_by, kind_of}
use Rattle.dtman_engine.proofs.CanonicalLemmas.Lexing.Segments.{Here}
use Rattle.dtman_engine.proofs.CanonicalLemmas.Lexing.Marks.{at_name}

-- ---- bytes

name_byte : (c : ℕ) → tree.is_name_byte c ≡ true → is_name c ≡ true
name_byte c e = grind (arith, nat_tests)

name_no_blank : (c : ℕ) → is_name c ≡ true → is_blank c ≡ false
name_no_blank c e = grind (arith, nat_tests)

name_no : (c d : ℕ) → is_name c ≡ true → is_name d ≡ false → eqb c d ≡ false
name_no c d e f = go (eqb c d) refl
  where
    go : (b : Bool) → eqb c d ≡ b → b ≡ false
    go true g = let k : c ≡ d = grind (arith, nat_tests) in absurd (cc)
    go false g = refl

all_names : (s : List ℕ) → list_all tree.is_name_byte s ≡ true → list_all is_name s ≡ true
all_names [] e = refl
all_names (c ∷ s) e =
    let p = and_parts (tree.is_name_byte c) (list_all tree.is_name_byte s) e in
    and_from (is_name c) (list_all is_name s) (name_byte c p.0) (all_names s p.1)

-- what a lawful name is, by the bytes of a source
pub record IsNamed (name : List ℕ) : Type 0 where
  pub some : 0 < length name
  pub short : length name ≤ 255
  pub all : list_all is_name name ≡ true

pub named : (name : List ℕ) → tree.is_name name ≡ true → IsNamed name
named [] e = absurd cc
named (c ∷ s) e = go (ltb 255 (length (c ∷ s))) refl
  where
    some : eqb (length (c ∷ s)) 0 ≡ false
    some = ne_eqb (length (c ∷ s)) 0 (λ k. omega arith)

    go : (b : Bool) → ltb 255 (length (c ∷ s)) ≡ b → IsNamed (c ∷ s)
    go true f = let k : tree.is_name (c ∷ s) ≡ false = rw (some, f) refl in absurd cc
    go false f = record { some = omega arith; short = ltb-false 255 (length (c ∷ s)) f; all = all_names (c ∷ s) (let k : tree.is_name (c ∷ s) ≡ list_all tree.is_name_byte (c ∷ s) = rw (some, f) refl in sym k ∙ e) }

-- ---- what may stand behind a name

-- A byte that stands in no name and is no colon, and no digit behind it.
pub record Separates (c : ℕ) (t : List ℕ) : Type 0 where
  pub no_name : is_name c ≡ false
  pub no_colon : eqb c 58 ≡ false
  pub no_digit : begins_digit t ≡ false

no_word : (c : ℕ) → is_name c ≡ false → is_word c ≡ false
no_word c e = go (is_word c) refl
  where
    go : (b : Bool) → is_word c ≡ b → b ≡ false
    go true f = let k : is_name c ≡ true = rw f refl in absurd cc
    go false f = refl

-- no label
no_label_nil : (s : List ℕ) → list_all is_name s ≡ true → ends_label s ≡ false
unfolding ends
no_label_nil [] e = refl
no_label_nil (d ∷ s) e =
    let p = and_parts (is_name d) (list_all is_name s) e in
    let colon = name_no d 58 p.0 refl in
    let more = no_label_nil s p.1 in
    rw (colon, more) (right (is_word d))
  where
    right : (b : Bool) → (b && false) ≡ false
    right true = refl
    right false = refl

no_label : (s : List ℕ) (c : ℕ) (u : List ℕ) → list_all is_name s ≡ true → is_name c ≡ false → eqb c 58 ≡ false → ends_label (s ++ c ∷ u) ≡ false
unfolding ends
no_label [] c u e f g = let k = no_word c f in rw (g, k) refl
no_label (d ∷ s) c u e f g =
    let p = and_parts (is_name d) (list_all is_name s) e in
    let colon = name_no d 58 p.0 refl in
    let more = no_label s c u p.1 f g in
    rw (colon, more) (right (is_word d))
  where
    right : (b : Bool) → (b && false) ≡ false
    right true = refl
    right false = refl

-- no longer name
no_more : (s : List ℕ) (c : ℕ) (u : List ℕ) → is_name c ≡ false → list_all is_name (s ++ c ∷ u) ≡ false
no_more [] c u e = rw e refl
no_more (d ∷ s) c u e = let more = no_more s c u e in rw more (right (is_name d))
  where
    right : (b : Bool) → (b && false) ≡ false
    right true = refl
    right false = refl

-- ---- the lexeme

name_first : (n c : ℕ) → is_name c ≡ true → (first_at (at_name n) c ≡ firsts.Letter) ⊎ (first_at (at_name n) c ≡ firsts.Other)
unfolding first_at
name_first n c e = go (is_letter c) refl
  where
    quote : eqb c 34 ≡ false
    quote = name_no c 34 e refl

    solidus : eqb c 47 ≡ false
    solidus = name_no c 47 e refl

    ampersand : eqb c 38 ≡ false
    ampersand = name_no c 38 e refl

    go : (b : Bool) → is_letter c ≡ b → (first_at (at_name n) c ≡ firsts.Letter) ⊎ (first_at (at_name n) c ≡ firsts.Other)
    go true f = inl (rw (quote, solidus, ampersand, f) refl)
    go false f = inr (rw (quote, solidus, ampersand, e, f) refl)

name_is : (n c : ℕ) (s : List ℕ) → is_name c ≡ true → list_all is_name s ≡ true → length s ≤ 254 → kind_of (at_name n) (c ∷ s) ≡ Some kinds.Name
unfolding kind_of
name_is n c s e f le = go (name_first n c e)
  where
    short : leb (length s) 254 ≡ true
    short = le-leb (length s) 254 le

    go : (first_at (at_name n) c ≡ firsts.Letter) ⊎ (first_at (at_name n) c ≡ firsts.Other) → kind_by (first_at (at_name n) c) s ≡ Some kinds.Name
    go (inl k) = let none = no_label_nil s f in rw (k, none, f, short) refl
    go (inr k) = rw (k, f, short) refl

name_ends : (n c : ℕ) (s : List ℕ) (d : ℕ) (u : List ℕ) → is_name c ≡ true → list_all is_name s ≡ true → is_name d ≡ false → eqb d 58 ≡ false → kind_of (at_name n) (c ∷ s ++ d ∷ u) ≡ None
unfolding kind_of
name_ends n c s d u e f g h = go (name_first n c e)
  where
    all : list_all is_name (s ++ d ∷ u) ≡ false
    all = no_more s d u g

    go : (first_at (at_name n) c ≡ firsts.Letter) ⊎ (first_at (at_name n) c ≡ firsts.Other) → kind_by (first_at (at_name n) c) (s ++ d ∷ u) ≡ None
    go (inl k) = let none = no_label s d u f g h in rw (k, none, all) refl
    go (inr k) = rw (k, all) refl

-- A name begins neither a comment nor the marker of a line.
name_no_gap : (c : ℕ) (s : List ℕ) (d : ℕ) (t : List ℕ) → is_name c ≡ true → list_all is_name s ≡ true → begins_digit t ≡ false → NoGap Profile (c ∷ s ++ d ∷ t)
name_no_gap c s d t e f g = record { blank = name_no_blank c e; line = line s f; comment = comment s }
  where
    solidus : eqb c 47 ≡ false
    solidus = name_no c 47 e refl

    line : (s : List ℕ) → list_all is_name s ≡ true → begins_line Profile (c ∷ s ++ d ∷ t) ≡ false
    line [] f = rw (solidus, g) (both (eqb c 35) (eqb d 32))
      where
        both : (a b : Bool) → (a && b && false) ≡ false
        both true true = refl
        both true false = refl
        both false b = refl
    line (x ∷ s) f = let space = name_no x 32 (and_parts (is_name x) (list_all is_name s) f).0 refl in rw (solidus, space) (middle (eqb c 35) (begins_digit (s ++ d ∷ t)))
      where
        middle : (a b : Bool) → (a && false && b) ≡ false
        middle true b = refl
        middle false b = refl

    comment : (s : List ℕ) → begins_comment (c ∷ s ++ d ∷ t) ≡ false
    comment [] = rw solidus refl
    comment (x ∷ s) = rw solidus refl

pub name_here : (n : ℕ) (name : List ℕ) (d : ℕ) (t : List ℕ) → IsTrue (tree.is_name name) → Separates d t → Here (at_name n) kinds.Name name (d ∷ t)
name_here n [] d t lawful h = absurd cc
name_here n (c ∷ s) d t lawful h =
    let k : IsNamed (c ∷ s) = named (c ∷ s) lawful in
    let p = and_parts (is_name c) (list_all is_name s) k.all in
    record { over = name_no_gap c s d t p.0 p.1 h.no_digit; is = name_is n c s p.0 p.1 (omega (arith, k.short)); ends = λ u. name_ends n c s d u p.0 p.1 h.no_name h.no_colon }
