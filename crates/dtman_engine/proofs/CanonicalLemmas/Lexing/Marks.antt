-- Punctuation and keywords, whatever stands behind them.
use Rattle.std.proofs.Common.{◌≡◌, ℕ, suc, ◌+◌, ◌-◌, false, eqb, List, [], ◌∷◌, ◌++◌, Option, None, refl, arith}
use Rattle.std.specs.Prelude.{codes}
use Rattle.dt_text.specs.declared.lexeme.language.Language.TheVariants.{Profile}
use Rattle.dt_text.specs.declared.lexeme.lexeme.Kind.{Kind}
use Rattle.dt_text.specs.declared.lexeme.lexeme.Kind.TheVariants as kinds
use Rattle.dt_text.specs.declared.lexeme.context.Mode.TheVariants as modes
use Rattle.dt_text.specs.declared.lexeme.context.Context.{Context}
use Rattle.dt_text.specs.Lexeme.Bytes.{is_blank}
use Rattle.dt_text.specs.Lexeme.Gaps.{NoGap}
use Rattle.dt_text.specs.Lexeme.Families.{kind_of, first_at, slashed}
use Rattle.dt_text.specs.Lexeme.Contexts.{start, step}
use Rattle.dtman_engine.proofs.CanonicalLemmas.Lexing.Segments.{Ends, Here}

-- ---- fixup sites

abbrev pub at_value : ℕ → Context
at_value n = record { language = Profile; braces = n; parens = 0; mode = modes.Value }

abbrev pub at_name : ℕ → Context
at_name n = record { language = Profile; braces = n; parens = 0; mode = modes.Name }

abbrev pub at_byte : ℕ → Context
at_byte n = record { language = Profile; braces = n; parens = 0; mode = modes.Byte }

-- ---- no gap

-- A byte that is neither blank nor `/` nor `#` begins none.
pub plain_no_gap : (b : ℕ) (t : List ℕ) → is_blank b ≡ false → eqb b 47 ≡ false → eqb b 35 ≡ false → NoGap Profile (b ∷ t)
plain_no_gap b [] e f g = record { blank = e; line = refl; comment = refl }
plain_no_gap b (c ∷ t) e f g = record { blank = e; line = rw (f, g) refl; comment = rw f refl }

-- ---- punctuation

-- what may stand behind any lexeme
pub ends_any : (f : List ℕ → Option Kind) (bs t : List ℕ) → ((c : ℕ) (u : List ℕ) → f (bs ++ c ∷ u) ≡ None) → Ends f bs t
ends_any f bs [] h = tt
ends_any f bs (c ∷ t) h = λ u. h c u

pub semicolon : (n : ℕ) (t : List ℕ) → Here (at_value n) kinds.Semicolon (codes ";") t
unfolding kind_of first_at
semicolon n t = record { over = plain_no_gap 59 t refl refl refl; is = refl; ends = ends_any (kind_of (at_value n)) (codes ";") t (λ c u. refl) }

pub end_square : (n : ℕ) (t : List ℕ) → Here (at_byte n) kinds.EndSquare (codes "]") t
unfolding kind_of first_at
end_square n t = record { over = plain_no_gap 93 t refl refl refl; is = refl; ends = ends_any (kind_of (at_byte n)) (codes "]") t (λ c u. refl) }

pub brace : (n : ℕ) (t : List ℕ) → Here (at_value n) kinds.Brace (codes "{") t
unfolding kind_of first_at
brace n t = record { over = plain_no_gap 123 t refl refl refl; is = refl; ends = ends_any (kind_of (at_value n)) (codes "{") t (λ c u. refl) }

pub end_brace : (n : ℕ) (t : List ℕ) → Here (at_name n) kinds.EndBrace (codes "}") t
unfolding kind_of first_at
end_brace n t = record { over = plain_no_gap 125 t refl refl refl; is = refl; ends = ends_any (kind_of (at_name n)) (codes "}") t (λ c u. refl) }

pub equals : (n : ℕ) (t : List ℕ) → Here (at_value n) kinds.Equals (codes "=") t
unfolding kind_of first_at
equals n t = record { over = plain_no_gap 61 t refl refl refl; is = refl; ends = ends_any (kind_of (at_value n)) (codes "=") t (λ c u. refl) }

pub comma : (n : ℕ) (t : List ℕ) → Here (at_value n) kinds.Comma (codes ",") t
unfolding kind_of first_at
comma n t = record { over = plain_no_gap 44 t refl refl refl; is = refl; ends = ends_any (kind_of (at_value n)) (codes ",") t (λ c u. refl) }

pub less : (n : ℕ) (t : List ℕ) → Here (at_value n) kinds.Less (codes "<") t
unfolding kind_of first_at
less n t = record { over = plain_no_gap 60 t refl refl refl; is = refl; ends = ends_any (kind_of (at_value n)) (codes "<") t (λ c u. refl) }

pub greater : (n : ℕ) (t : List ℕ) → Here (at_value n) kinds.Greater (codes ">") t
unfolding kind_of first_at
greater n t = record { over = plain_no_gap 62 t refl refl refl; is = refl; ends = ends_any (kind_of (at_value n)) (codes ">") t (λ c u. refl) }

pub square : (n : ℕ) (t : List ℕ) → Here (at_value n) kinds.Square (codes "[") t
unfolding kind_of first_at
square n t = record { over = plain_no_gap 91 t refl refl refl; is = refl; ends = ends_any (kind_of (at_value n)) (codes "[") t (λ c u. refl) }

-- ---- keywords, and the root's slash

pub version : (t : List ℕ) → Here (start Profile) kinds.Version (codes "/dts-v1/") t
unfolding kind_of first_at slashed
version t = record { over = record { blank = refl; line = refl; comment = refl }; is = refl; ends = ends_any (kind_of (start Profile)) (codes "/dts-v1/") t (λ c u. refl) }

pub mem_reserve : (t : List ℕ) → Here (start Profile) kinds.MemReserve (codes "/memreserve/") t
unfolding kind_of first_at slashed
mem_reserve t = record { over = record { blank = refl; line = refl; comment = refl }; is = refl; ends = ends_any (kind_of (start Profile)) (codes "/memreserve/") t (λ c u. refl) }

pub slash : (t : List ℕ) → Here (start Profile) kinds.Slash (codes "/") (32 ∷ t)
unfolding kind_of first_at slashed
slash t = record { over = record { blank = refl; line = refl; comment = refl }; is = refl; ends = λ u. refl }

-- ---- the context behind

module _ (n : ℕ) where
  pub after_name : step (at_name n) kinds.Name ≡ at_value n
  unfolding step
  after_name = refl

  pub after_equals : step (at_value n) kinds.Equals ≡ at_value n
  unfolding step
  after_equals = refl

  pub after_comma : step (at_value n) kinds.Comma ≡ at_value n
  unfolding step
  after_comma = refl

  pub after_text : step (at_value n) kinds.Text ≡ at_value n
  unfolding step
  after_text = refl

  pub after_less : step (at_value n) kinds.Less ≡ at_value n
  unfolding step
  after_less = refl

  pub after_greater : step (at_value n) kinds.Greater ≡ at_value n
  unfolding step
  after_greater = refl

  pub after_literal : step (at_value n) kinds.Literal ≡ at_value n
  unfolding step
  after_literal = refl

  pub after_square : step (at_value n) kinds.Square ≡ at_byte n
  unfolding step
  after_square = refl

  pub after_pair : step (at_byte n) kinds.Pair ≡ at_byte n
  unfolding step
  after_pair = refl

  pub after_end_square : step (at_byte n) kinds.EndSquare ≡ at_value n
  unfolding step
  after_end_square = refl

  pub after_semicolon : step (at_value (suc n)) kinds.Semicolon ≡ at_name (suc n)
  unfolding step
  after_semicolon = refl

  pub after_brace : step (at_value n) kinds.Brace ≡ at_name (suc n)
  unfolding step
  after_brace = let e : n + 1 ≡ suc n = omega arith in rw e refl

  pub after_end_brace : step (at_name (suc n)) kinds.EndBrace ≡ at_value n
  unfolding step
  after_end_brace = let e : suc n - 1 ≡ n = omega arith in rw e refl
