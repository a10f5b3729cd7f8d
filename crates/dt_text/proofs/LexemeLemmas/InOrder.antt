-- The places of a text's lexemes grow.
use Rattle.std.proofs.Common.{ℕ, ◌-◌, ◌≤◌, List, [], ◌∷◌, length, drop, subst, arith}
use Rattle.std.proofs.lemmas.List.{length-drop}
use Rattle.dt_text.specs.declared.lexeme.lexeme.Lexeme.{Lexeme}
use Rattle.dt_text.specs.declared.lexeme.language.Language.{Language}
use Rattle.dt_text.specs.declared.lexeme.context.Context.{Context}
use Rattle.dt_text.specs.Lexeme.Contexts.{start, step}
use Rattle.dt_text.specs.Lexeme.Lexemes.{Left, Lexemes}
use Rattle.dt_text.specs.Lexeme.Order.{Above}
use Rattle.dt_text.proofs.LexemeLemmas.GapEnds.{gap_shorter}
use Rattle.dt_text.proofs.LexemeLemmas.Scanning.{some_byte}

pub above_lower : (p q : ℕ) (ls : List Lexeme) → p ≤ q → Above q ls → Above p ls
unfolding Above
above_lower p q [] le h = tt
above_lower p q (l ∷ ls) le h = (omega (arith, h.0), h.1, h.2)

left_above : (total : ℕ) (context : Context) (text : List ℕ) (ls : List Lexeme) → length text ≤ total → Left total context text ls → Above (total - length text) ls
unfolding Left Above
left_above total context text [] le h = tt
left_above total context text (l ∷ ls) le (s, n, gap, longest, from, to, more) =
    let shorter = gap_shorter context.language text s gap in
    let some = some_byte context s l.kind n longest in
    let within = longest.within in
    let left = length-drop n s in
    let next = left_above total (step context l.kind) (drop n s) ls (omega (arith, left, shorter)) more in
    (omega (arith, from, shorter), omega (arith, from, to, some), subst (λ (q : ℕ). Above q ls) (omega (arith, left, to, within, shorter)) next)

pub lexemes_above : (language : Language) (text : List ℕ) (ls : List Lexeme) → Lexemes language text ls → Above 0 ls
unfolding Lexemes
lexemes_above language text ls h = above_lower 0 (length text - length text) ls (omega arith) (left_above (length text) (start language) text ls (omega arith) h)

-- a text has no more lexemes than bytes
left_few : (total : ℕ) (context : Context) (text : List ℕ) (ls : List Lexeme) → Left total context text ls → length ls ≤ length text
unfolding Left
left_few total context text [] gap = omega arith
left_few total context text (l ∷ ls) (s, n, gap, longest, from, to, more) =
    omega (arith, gap_shorter context.language text s gap, some_byte context s l.kind n longest, longest.within, length-drop n s, left_few total (step context l.kind) (drop n s) ls more)

pub lexemes_few : (language : Language) (text : List ℕ) (ls : List Lexeme) → Lexemes language text ls → length ls ≤ length text
unfolding Lexemes
lexemes_few language text ls h = left_few (length text) (start language) text ls h
