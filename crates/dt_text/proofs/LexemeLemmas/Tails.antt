-- What a gap or a lexeme leaves of a text is its end.
use Rattle.std.proofs.Common.{◌≡◌, ℕ, ◌+◌, ◌-◌, ◌≤◌, Bool, true, false, cond, eqb, List, [], ◌∷◌, ◌++◌, length, take, drop, Some, refl, sym, ap, subst, ◌∙◌, append_assoc, length-append, arith, inl, inr}
use Rattle.std.proofs.Math.Seq.{drop-append_seam}
use Rattle.std.proofs.lemmas.List.{take-append-drop, drop-drop, drop-take}
use Rattle.std.specs.Prelude.{slice_range}
use Rattle.std.proofs.lemmas.Bool.{cases_lt}
use Rattle.dt_text.specs.declared.lexeme.language.Language.{Language}
use Rattle.dt_text.specs.Lexeme.Gaps.{comment_end, line_end, ends_comment, Gap, nothing, blank, line, comment, IsGap}
use Rattle.dt_text.proofs.LexemeLemmas.Runs.{take_within}

-- The first text ends in the second.
abbrev pub EndsIn : List ℕ → List ℕ → Type 0
EndsIn whole part = (front : List ℕ) × (whole ≡ front ++ part)

pub ends_self : (s : List ℕ) → EndsIn s s
ends_self s = ([], refl)

pub ends_drop : (n : ℕ) (s : List ℕ) → EndsIn s (drop n s)
ends_drop n s = (take n s, sym (take-append-drop n s))

pub ends_on : (s t u : List ℕ) → EndsIn s t → EndsIn t u → EndsIn s u
ends_on s t u (f, e) (g, k) = (f ++ g, e ∙ ap (λ (x : List ℕ). f ++ x) k ∙ sym (append_assoc f g u))

ends_more : (c : ℕ) (s t : List ℕ) → EndsIn s t → EndsIn (c ∷ s) t
ends_more c s t (f, e) = (c ∷ f, ap (λ (x : List ℕ). c ∷ x) e)

-- the end of a text, by its length
pub ends_at : (whole part : List ℕ) → EndsIn whole part → drop (length whole - length part) whole ≡ part
ends_at whole part (f, e) =
    let n : length whole - length part ≡ length f = omega (arith, ap length e, length-append f part) in
    ap (λ (k : ℕ). drop k whole) n ∙ ap (λ (x : List ℕ). drop (length f) x) e ∙ drop-append_seam f part

-- ---- gaps

some_is : (s t : List ℕ) → Some s ≡ Some t → s ≡ t
some_is s t e = cc

comment_ends : (s m : List ℕ) → comment_end s ≡ Some m → EndsIn s m
unfolding comment_end
comment_ends [] m e = absurd cc
comment_ends (c ∷ []) m e = absurd cc
comment_ends (c ∷ d ∷ s) m e = go (ends_comment (c ∷ d ∷ s)) refl (comment_ends (d ∷ s) m)
  where
    go : (b : Bool) → ends_comment (c ∷ d ∷ s) ≡ b → (comment_end (d ∷ s) ≡ Some m → EndsIn (d ∷ s) m) → EndsIn (c ∷ d ∷ s) m
    go true h next =
        let k : Some s ≡ Some m = subst (λ (x : Bool). cond x (Some s) (comment_end (d ∷ s)) ≡ Some m) h e in
        (c ∷ d ∷ [], ap (λ (x : List ℕ). c ∷ d ∷ x) (some_is s m k))
    go false h next =
        let k : comment_end (d ∷ s) ≡ Some m = subst (λ (x : Bool). cond x (Some s) (comment_end (d ∷ s)) ≡ Some m) h e in
        ends_more c (d ∷ s) m (next k)

line_ends : (s : List ℕ) → EndsIn s (line_end s)
unfolding line_end
line_ends [] = ([], refl)
line_ends (c ∷ s) = go (eqb c 10) (line_ends s)
  where
    go : (b : Bool) → EndsIn s (line_end s) → EndsIn (c ∷ s) (cond b (c ∷ s) (line_end s))
    go true next = ends_self (c ∷ s)
    go false next = ends_more c s (line_end s) next

pub gap_ends : (language : Language) (s t : List ℕ) → IsGap language s t → EndsIn s t
gap_ends language s t h = go s t h.gap
  where
    go : (s t : List ℕ) → Gap language s t → EndsIn s t
    go s t nothing = ends_self s
    go s t (blank b g) = ends_on s (drop 1 s) t (ends_drop 1 s) (go (drop 1 s) t g)
    go s t (line b g) = ends_on s (drop 2 s) t (ends_drop 2 s) (ends_on (drop 2 s) (line_end (drop 2 s)) t (line_ends (drop 2 s)) (go (line_end (drop 2 s)) t g))
    go s t (comment {m = m} b c g) = ends_on s (drop 2 s) t (ends_drop 2 s) (ends_on (drop 2 s) m t (comment_ends (drop 2 s) m c) (go m t g))

-- ---- what stands between two places

-- Between two places of the front of n bytes stands what stands there in the text, from where the front begins.
pub cut : (text s : List ℕ) (start n a b i j : ℕ) → drop start text ≡ s → b ≤ n → i ≡ start + a → j ≡ start + b → slice_range (take n s) a b ≡ slice_range text i j
cut text s start n a b i j e le ei ej =
    elim (cases_lt b a) [
      | inl lt ↦
          let none : b - a ≡ 0 = omega arith in
          let none' : j - i ≡ 0 = omega arith in
          ap (λ (k : ℕ). take k (drop a (take n s))) none ∙ ap (λ (k : ℕ). take k (drop i text)) (sym none')
      | inr le' ↦
          let all : n ≡ a + (n - a) = omega arith in
          let same : j - i ≡ b - a = omega arith in
          let inside : drop a (take n s) ≡ take (n - a) (drop a s) = ap (λ (k : ℕ). drop a (take k s)) all ∙ drop-take a (n - a) s in
          let behind : drop a s ≡ drop i text = ap (λ (x : List ℕ). drop a x) (sym e) ∙ drop-drop a start text ∙ ap (λ (k : ℕ). drop k text) (sym ei) in
          ap (λ (x : List ℕ). take (b - a) x) inside ∙ take_within (b - a) (n - a) (drop a s) (omega arith) ∙ ap (λ (x : List ℕ). take (b - a) x) behind ∙ ap (λ (k : ℕ). take k (drop i text)) (sym same)
    ]
