-- A text in parts, each of which stands where it is.
use Rattle.std.proofs.Common.{◌≡◌, ℕ, zero, suc, ◌+◌, ◌<◌, ◌≤◌, true, List, [], ◌∷◌, ◌++◌, length, take, Option, Some, None, refl, sym, ap, subst, ◌∙◌, arith, append_assoc, length-append}
use Rattle.std.specs.List.{list_all}
use Rattle.std.proofs.lemmas.Bool.{and_parts}
use Rattle.std.proofs.Math.Seq.{take-append_seam, drop-append_seam}
use Rattle.dt_text.specs.declared.lexeme.language.Language.{Language}
use Rattle.dt_text.specs.declared.lexeme.language.Language.TheVariants.{Profile, Dtc}
use Rattle.dt_text.specs.declared.lexeme.lexeme.Lexeme.{Lexeme}
use Rattle.dt_text.specs.declared.lexeme.lexeme.Kind.{Kind}
use Rattle.dt_text.specs.declared.lexeme.context.Context.{Context}
use Rattle.dt_text.specs.Lexeme.Bytes.{is_blank}
use Rattle.dt_text.specs.Lexeme.Gaps.{blank, nothing, IsGap, NoGap}
use Rattle.dt_text.specs.Lexeme.Families.{IsLongest, kind_of}
use Rattle.dt_text.specs.Lexeme.Contexts.{step}
use Rattle.dt_text.specs.Lexeme.Lexemes.{Left}
use Rattle.dtman_engine.specs.Canonical.Private.Lexed.{Segment, Blanks, Word, bytes_of, written, placed}

-- ---- parts behind parts

pub written_append : (a b : List Segment) → written (a ++ b) ≡ written a ++ written b
unfolding written
written_append [] b = refl
written_append (s ∷ a) b = ap (λ (t : List ℕ). bytes_of s ++ t) (written_append a b) ∙ sym (append_assoc (bytes_of s) (written a) (written b))

-- ---- blanks in front

blank_gap : (language : Language) (b : ℕ) (t s : List ℕ) → is_blank b ≡ true → IsGap language t s → IsGap language (b ∷ t) s
blank_gap language b t s e h = record { gap = blank e h.gap; over = h.over }

pub left_blank : (total : ℕ) (context : Context) (b : ℕ) (t : List ℕ) (ls : List Lexeme) → is_blank b ≡ true → Left total context t ls → Left total context (b ∷ t) ls
unfolding Left
left_blank total context b t [] e h = blank_gap context.language b t [] e h
left_blank total context b t (l ∷ ls) e (s, n, gap, longest, from, to, more) = (s, n, blank_gap context.language b t s e gap, longest, from, to, more)

pub left_blanks : (total : ℕ) (context : Context) (bs t : List ℕ) (ls : List Lexeme) → list_all is_blank bs ≡ true → Left total context t ls → Left total context (bs ++ t) ls
left_blanks total context [] t ls e h = h
left_blanks total context (b ∷ bs) t ls e h =
    let p = and_parts (is_blank b) (list_all is_blank bs) e in
    left_blank total context b (bs ++ t) ls p.0 (left_blanks total context bs t ls p.1 h)

-- ---- the longest lexeme

-- With this text's first byte and more behind them the bytes are no lexeme.
abbrev pub Ends : (List ℕ → Option Kind) → List ℕ → List ℕ → Type 0
Ends f bs [] = Unit {0}
Ends f bs (c ∷ t) = (u : List ℕ) → f (bs ++ c ∷ u) ≡ None

take_more : (f : List ℕ → Option Kind) (bs t : List ℕ) → Ends f bs t → (m : ℕ) → length bs < m → m ≤ length (bs ++ t) → f (take m (bs ++ t)) ≡ None
take_more f [] [] h m lt le = absurd (omega arith)
take_more f [] (c ∷ t) h zero lt le = absurd (omega arith)
take_more f [] (c ∷ t) h (suc m) lt le = h (take m t)
take_more f (b ∷ bs) t h zero lt le = absurd (omega arith)
take_more f (b ∷ bs) t h (suc m) lt le = take_more (λ u. f (b ∷ u)) bs t (further t h) m (omega arith) (omega arith)
  where
    further : (t : List ℕ) → Ends f (b ∷ bs) t → Ends (λ u. f (b ∷ u)) bs t
    further [] h = tt
    further (c ∷ t) h = h

pub longest_of : (f : List ℕ → Option Kind) (bs t : List ℕ) (k : Kind) → f bs ≡ Some k → Ends f bs t → IsLongest f (bs ++ t) k (length bs)
longest_of f bs t k e h = record { within = omega (arith, length-append bs t); is = ap f (take-append_seam bs t) ∙ e; longest = take_more f bs t h }

-- ---- each part stands

-- These bytes are a lexeme in this context, behind no gap, and with what is behind them they are none.
pub record Here (context : Context) (k : Kind) (bs t : List ℕ) : Type 0 where
  pub over : NoGap context.language (bs ++ t)
  pub is : kind_of context bs ≡ Some k
  pub ends : Ends (kind_of context) bs t

-- From this context on the parts are blanks and the lexemes that they are said to be, with this text behind them.
unfoldable pub Stands : Context → List Segment → Type 0
Stands context [] = Unit {0}
Stands context (Blanks bs ∷ ss) = (list_all is_blank bs ≡ true) × Stands context ss
Stands context (Word k bs ∷ ss) = Here context k bs (written ss) × Stands (step context k) ss

no_gap_at_end : (language : Language) → NoGap language []
no_gap_at_end Profile = record { blank = refl; line = refl; comment = refl }
no_gap_at_end Dtc = record { blank = refl; line = refl; comment = refl }

-- Parts that stand are the lexemes of their text.
pub lexed : (total p : ℕ) (context : Context) (ss : List Segment) → Stands context ss → p + length (written ss) ≡ total → Left total context (written ss) (placed p ss)
unfolding written placed Left Stands
lexed total p context [] h e = record { gap = nothing; over = no_gap_at_end context.language }
lexed total p context (Blanks bs ∷ ss) h e =
    left_blanks total context bs (written ss) (placed (p + length bs) ss) h.0 (lexed total (p + length bs) context ss h.1 (omega (arith, e, length-append bs (written ss))))
lexed total p context (Word k bs ∷ ss) h e =
    let n = length-append bs (written ss) in
    let next = lexed total (p + length bs) (step context k) ss h.1 (omega (arith, e, n)) in
    (bs ++ written ss, length bs, record { gap = nothing; over = h.0.over }, longest_of (kind_of context) bs (written ss) k h.0.is h.0.ends, omega (arith, e), omega (arith, e), subst (λ (t : List ℕ). Left total (step context k) t (placed (p + length bs) ss)) (sym (drop-append_seam bs (written ss))) next)
