-- A text has one list of lexemes, and a loop that takes the longest lexeme each time finds it.
use Rattle.std.proofs.Common.{◌≡◌, ℕ, zero, suc, ◌+◌, ◌-◌, ◌<◌, ◌≤◌, false, List, [], ◌∷◌, ◌++◌, length, take, drop, Option, Some, None, refl, sym, ap, subst, ◌∙◌, arith, inl, inr, append_assoc, eqb, ◌⊎◌}
use Rattle.std.proofs.lemmas.List.{append-nil}
use Rattle.dt_text.specs.declared.lexeme.lexeme.Kind.{Kind}
use Rattle.dt_text.specs.declared.lexeme.lexeme.Kind.TheVariants.{Brace, EndBrace, Paren, EndParen}
use Rattle.dt_text.specs.declared.lexeme.lexeme.Lexeme.{Lexeme}
use Rattle.dt_text.specs.declared.lexeme.language.Language.{Language}
use Rattle.dt_text.specs.declared.lexeme.context.Context.{Context}
use Rattle.dt_text.specs.Lexeme.Gaps.{IsGap, SkipsGap, BreaksOff}
use Rattle.dt_text.specs.Lexeme.Families.{Longest, IsLongest, kind_of}
use Rattle.dt_text.specs.Lexeme.Contexts.{start, step}
use Rattle.dt_text.specs.Lexeme.Lexemes.{Left, Lexemes, HasNone, BreaksAt, LeftTo, LexemesTo}
use Rattle.dt_text.proofs.LexemeLemmas.GapEnds.{one_end}
use Rattle.dt_text.proofs.LexemeLemmas.Runs.{one_longest}

-- a lexeme has at least one byte
pub some_byte : (context : Context) (s : List ℕ) (k : Kind) (n : ℕ) → IsLongest (kind_of context) s k n → 1 ≤ n
unfolding kind_of
some_byte context s k zero h = absurd (cc (h.is))
some_byte context s k (suc n) h = omega arith

-- the lexeme that stands there
abbrev pub lexeme_at : ℕ → List ℕ → Kind → ℕ → Lexeme
lexeme_at total s k n = record { kind = k; start = total - length s; end = total - length s + n }

lexeme_is : (l : Lexeme) (k : Kind) (a b : ℕ) → l.kind ≡ k → l.start ≡ a → l.end ≡ b → l ≡ record { kind = k; start = a; end = b }
lexeme_is l k a b e f g =
    let L : Kind → ℕ → ℕ → Lexeme = λ k a b. record { kind = k; start = a; end = b } in
    ap (λ (x : Kind). L x l.start l.end) e ∙ ap (λ (x : ℕ). L k x l.end) f ∙ ap (L k a) g

left_more : (total : ℕ) (context : Context) (left s : List ℕ) (k : Kind) (n : ℕ) (ls : List Lexeme) → IsGap context.language left s → IsLongest (kind_of context) s k n → Left total (step context k) (drop n s) ls → Left total context left (lexeme_at total s k n ∷ ls)
unfolding Left
left_more total context left s k n ls g h r = (s, n, g, h, refl, refl, r)

to_more : (total stop : ℕ) (context : Context) (left s : List ℕ) (k : Kind) (n : ℕ) (ls : List Lexeme) → IsGap context.language left s → IsLongest (kind_of context) s k n → LeftTo total stop (step context k) (drop n s) ls → LeftTo total stop context left (lexeme_at total s k n ∷ ls)
unfolding LeftTo
to_more total stop context left s k n ls g h r = (s, n, g, h, refl, refl, r)

to_end : (total : ℕ) (context : Context) (left s : List ℕ) → BreaksAt context left s → LeftTo total (total - length s) context left []
unfolding LeftTo
to_end total context left s b = (s, b, refl)

empty_longest : (context : Context) (s : List ℕ) (k : Kind) (n : ℕ) → IsLongest (kind_of context) s k n → s ≡ [] → ⊥
empty_longest context s k n h e = omega (arith, h.within, some_byte context s k n h, ap length e)

left_less : (total : ℕ) (context : Context) (left s : List ℕ) (k : Kind) (n : ℕ) (all : List Lexeme) → IsGap context.language left s → IsLongest (kind_of context) s k n → Left total context left all
    → (ls : List Lexeme) × (all ≡ lexeme_at total s k n ∷ ls) × Left total (step context k) (drop n s) ls
unfolding Left
left_less total context left s k n [] g h r = absurd (empty_longest context s k n h (one_end context.language left s [] g r))
left_less total context left s k n (l ∷ ls) g h r =
    let e : r.0 ≡ s = one_end context.language left r.0 s r.2 g in
    let h' = subst (λ (x : List ℕ). IsLongest (kind_of context) x l.kind r.1) e r.3 in
    let u = one_longest (kind_of context) s l.kind k r.1 n h' h in
    let place_is : l ≡ lexeme_at total s k n = lexeme_is l k _ _ u.0 (r.4 ∙ ap (λ (x : List ℕ). total - length x) e) (r.5 ∙ ap (λ (x : List ℕ). total - length x + r.1) e ∙ ap (λ (m : ℕ). total - length s + m) u.1) in
    (ls, ap (λ (x : Lexeme). x ∷ ls) place_is, subst (λ (m : ℕ). Left total (step context k) (drop m s) ls) u.1 (subst (λ (j : Kind). Left total (step context j) (drop r.1 s) ls) u.0 (subst (λ (x : List ℕ). Left total (step context l.kind) (drop r.1 x) ls) e r.6)))

pub left_none : (total : ℕ) (context : Context) (left : List ℕ) (ls : List Lexeme) → SkipsGap context.language left None → Left total context left ls → ⊥
unfolding Left
left_none total context left [] g r = g [] r
left_none total context left (l ∷ ls) g r = g r.0 r.2

pub left_lost : (total : ℕ) (context : Context) (left s : List ℕ) (ls : List Lexeme) → IsGap context.language left s → (s ≡ [] → ⊥) → Longest (kind_of context) s None → Left total context left ls → ⊥
unfolding Left
left_lost total context left s [] g ne h r = ne (one_end context.language left s [] g r)
left_lost total context left s (l ∷ ls) g ne h r =
    let e : r.0 ≡ s = one_end context.language left r.0 s r.2 g in
    let h' = subst (λ (x : List ℕ). IsLongest (kind_of context) x l.kind r.1) e r.3 in
    cc (h r.1 h'.within, h'.is)

left_done : (total : ℕ) (context : Context) (left : List ℕ) → IsGap context.language left [] → Left total context left []
unfolding Left
left_done total context left g = g

one_left : (a b : List Lexeme) (total : ℕ) (context : Context) (left : List ℕ) → Left total context left a → Left total context left b → a ≡ b
unfolding Left
one_left [] [] total context left r q = refl
one_left [] (l ∷ b) total context left r q = absurd (empty_longest context q.0 l.kind q.1 q.3 (one_end context.language left q.0 [] q.2 r))
one_left (l ∷ a) b total context left r q =
    let p = left_less total context left r.0 l.kind r.1 b r.2 r.3 q in
    let i = one_left a p.0 total (step context l.kind) (drop r.1 r.0) r.6 p.2 in
    ap (λ (x : Lexeme). x ∷ a) (lexeme_is l l.kind _ _ refl r.4 r.5) ∙ ap (λ (x : List Lexeme). lexeme_at total r.0 l.kind r.1 ∷ x) i ∙ sym p.1

-- A text has one list of lexemes at most.
pub one_list : (language : Language) (text : List ℕ) (a b : List Lexeme) → Lexemes language text a → Lexemes language text b → a ≡ b
unfolding Lexemes
one_list language text a b r q = one_left a b (length text) (start language) text r q

-- ---- a loop

-- What is left of the text has the lexemes behind those that were found.
pub record Scans (language : Language) (text : List ℕ) (found : List Lexeme) (context : Context) (left : List ℕ) : Type 0 where
  pub to : (ls : List Lexeme) → Left (length text) context left ls → Lexemes language text (found ++ ls)
  pub of : (all : List Lexeme) → Lexemes language text all → (ls : List Lexeme) × (all ≡ found ++ ls) × Left (length text) context left ls
  pub front : (ls : List Lexeme) (stop : ℕ) → LeftTo (length text) stop context left ls → LexemesTo language stop text (found ++ ls)

pub scans_start : (language : Language) (text : List ℕ) → Scans language text [] (start language) text
unfolding Lexemes LexemesTo
scans_start language text = record { to = λ ls r. r; of = λ all r. (all, refl, r); front = λ ls stop r. r }

pub scans_more : (language : Language) (text : List ℕ) (found : List Lexeme) (context : Context) (left s : List ℕ) (k : Kind) (n : ℕ) → IsGap context.language left s → IsLongest (kind_of context) s k n
    → Scans language text found context left → Scans language text (found ++ lexeme_at (length text) s k n ∷ []) (step context k) (drop n s)
scans_more language text found context left s k n g h i = record {
  to = λ ls r. subst (λ (x : List Lexeme). Lexemes language text x) (sym (append_assoc found (lexeme_at (length text) s k n ∷ []) ls)) (i.to (lexeme_at (length text) s k n ∷ ls) (left_more (length text) context left s k n ls g h r));
  of = of;
  front = λ ls stop r. subst (λ (x : List Lexeme). LexemesTo language stop text x) (sym (append_assoc found (lexeme_at (length text) s k n ∷ []) ls)) (i.front (lexeme_at (length text) s k n ∷ ls) stop (to_more (length text) stop context left s k n ls g h r));
}
  where
    of : (all : List Lexeme) → Lexemes language text all → (ls : List Lexeme) × (all ≡ (found ++ lexeme_at (length text) s k n ∷ []) ++ ls) × Left (length text) (step context k) (drop n s) ls
    of all r =
        let p = i.of all r in
        let q = left_less (length text) context left s k n p.0 g h p.2 in
        (q.0, p.1 ∙ ap (λ (x : List Lexeme). found ++ x) q.1 ∙ sym (append_assoc found (lexeme_at (length text) s k n ∷ []) q.0), q.2)

pub scans_done : (language : Language) (text : List ℕ) (found : List Lexeme) (context : Context) (left : List ℕ) → IsGap context.language left [] → Scans language text found context left → Lexemes language text found
scans_done language text found context left g i = subst (λ (x : List Lexeme). Lexemes language text x) (append-nil found) (i.to [] (left_done (length text) context left g))

-- What was found stands before the place where the text breaks off.
scans_to : (language : Language) (text : List ℕ) (found : List Lexeme) (context : Context) (left s : List ℕ) → BreaksAt context left s → Scans language text found context left → LexemesTo language (length text - length s) text found
scans_to language text found context left s b i = subst (λ (x : List Lexeme). LexemesTo language (length text - length s) text x) (append-nil found) (i.front [] (length text - length s) (to_end (length text) context left s b))

pub scans_none : (language : Language) (text : List ℕ) (found : List Lexeme) (context : Context) (left s : List ℕ) → SkipsGap context.language left None → BreaksOff context.language left s → Scans language text found context left → HasNone language text × LexemesTo language (length text - length s) text found
scans_none language text found context left s g b i = (none, scans_to language text found context left s (inl b) i)
  where
    none : HasNone language text
    none all r = let p = i.of all r in left_none (length text) context left p.0 g p.2

pub scans_lost : (language : Language) (text : List ℕ) (found : List Lexeme) (context : Context) (left s : List ℕ) → IsGap context.language left s → (s ≡ [] → ⊥) → Longest (kind_of context) s None → Scans language text found context left → HasNone language text × LexemesTo language (length text - length s) text found
scans_lost language text found context left s g ne h i = (none, scans_to language text found context left s (inr (g, ne, h)) i)
  where
    none : HasNone language text
    none all r = let p = i.of all r in left_lost (length text) context left s p.0 g ne h p.2

pub step_braces : (p : Context) (k : Kind) → (step p k).braces ≤ p.braces + 1
unfolding step
step_braces p Brace = omega arith
step_braces p EndBrace = omega arith
step_braces p _ = omega arith

pub step_parens : (p : Context) (k : Kind) → (step p k).parens ≤ p.parens + 1
unfolding step
step_parens p Paren = omega arith
step_parens p EndParen = omega arith
step_parens p _ = omega arith

pub not_empty : (s : List ℕ) → eqb (length s) 0 ≡ false → s ≡ [] → ⊥
not_empty [] e h = cc
not_empty (c ∷ s) e h = cc
