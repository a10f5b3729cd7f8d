-- What the lexemes of a text in parts are in that text.
use Rattle.std.proofs.Common.{◌≡◌, ℕ, ◌+◌, ◌-◌, List, [], ◌∷◌, ◌++◌, length, drop, refl, sym, ap, ◌∙◌, subst, arith}
use Rattle.std.specs.Prelude.{slice_range}
use Rattle.std.proofs.Math.Seq.{take-append_seam, drop-append_seam}
use Rattle.std.proofs.lemmas.List.{drop-drop}
use Rattle.dt_text.specs.declared.lexeme.lexeme.Lexeme.{Lexeme}
use Rattle.dt_text.specs.declared.lexeme.lexeme.Kind.{Kind}
use Rattle.dtman_engine.specs.Canonical.Private.Lexed.{Segment, Blanks, Word, bytes_of, written, past, lexeme_at, placed}

-- ---- parts behind parts

pub past_append : (p : ℕ) (a b : List Segment) → past p (a ++ b) ≡ past (past p a) b
unfolding past
past_append p [] b = refl
past_append p (s ∷ a) b = past_append (p + length (bytes_of s)) a b

pub placed_append : (p : ℕ) (a b : List Segment) → placed p (a ++ b) ≡ placed p a ++ placed (past p a) b
unfolding past placed
placed_append p [] b = refl
placed_append p (Blanks bs ∷ a) b = placed_append (p + length bs) a b
placed_append p (Word k bs ∷ a) b = ap (λ (ls : List Lexeme). lexeme_at p k bs ∷ ls) (placed_append (p + length bs) a b)

-- ---- parts at their place

-- From this place on the text is that of the parts.
pub record At (text : List ℕ) (p : ℕ) (ss : List Segment) : Type 0 where
  pub is : drop p text ≡ written ss

pub drop_more : (text : List ℕ) (p : ℕ) (bs t : List ℕ) → drop p text ≡ bs ++ t → drop (p + length bs) text ≡ t
drop_more text p bs t e = sym (drop-drop (length bs) p text) ∙ ap (drop (length bs)) e ∙ drop-append_seam bs t

pub slice_front : (text : List ℕ) (p : ℕ) (bs t : List ℕ) → drop p text ≡ bs ++ t → slice_range text p (p + length bs) ≡ bs
slice_front text p bs t e =
    let n : p + length bs - p ≡ length bs = omega arith in
    rw (n, e) (take-append_seam bs t)

module _ (text : List ℕ) where
  pub at_next : (p : ℕ) (s : Segment) (ss : List Segment) → At text p (s ∷ ss) → At text (p + length (bytes_of s)) ss
  unfolding written
  at_next p s ss h = record { is = drop_more text p (bytes_of s) (written ss) h.is }

  pub at_past : (p : ℕ) (a b : List Segment) → At text p (a ++ b) → At text (past p a) b
  unfolding past
  at_past p [] b h = h
  at_past p (s ∷ a) b h = at_past (p + length (bytes_of s)) a b (at_next p s (a ++ b) h)

  pub at_word : (p : ℕ) (k : Kind) (bs : List ℕ) (ss : List Segment) → At text p (Word k bs ∷ ss) → slice_range text p (p + length bs) ≡ bs
  unfolding written
  at_word p k bs ss h = slice_front text p bs (written ss) h.is

  pub at_same : (p : ℕ) (a b : List Segment) → a ≡ b → At text p a → At text p b
  at_same p a b e h = subst (λ (x : List Segment). At text p x) e h
