-- Statements, one after the other.
use Rattle.std.proofs.Common.{◌≡◌, ℕ, zero, suc, ◌-◌, ◌<◌, Bool, false, List, [], ◌∷◌, ◌++◌, length, Option, Some, None, Ok, Err, refl, sym, ap, ◌∙◌, append_assoc, arith}
use Rattle.std.specs.Prelude.{fold}
use Rattle.std.proofs.lemmas.List.{append-nil}
use Rattle.dt_text.specs.declared.lexeme.language.Language.{Language}
use Rattle.dt_text.specs.declared.lexeme.lexeme.Lexeme.{Lexeme}
use Rattle.dt_text.specs.declared.lexeme.lexeme.Fault.{Fault}
use Rattle.dt_text.specs.declared.lexeme.lexeme.ReadError.{ReadError}
use Rattle.dt_text.specs.declared.lexeme.lexeme.ReadError.TheVariants as errors
use Rattle.dt_text.specs.Expression.Reading.{too_deep}
use Rattle.dt_source.specs.Reading.Several.{earlier, Part, many, Fails}
use Rattle.dt_source.specs.TreeMeaning.Syntax.{Piece, Entry}
use Rattle.dt_source.specs.Reading.Bodies.{after, statement_at, body_below, body_at}
use Rattle.dt_source.specs.Reading.Loops.{folded}
use Rattle.dt_source.proofs.Loops.{many_more, many_end, many_fails}

abbrev pub snoc : {A : Type 0} → List A → A → List A
snoc xs x = xs ++ x ∷ []

pub snoc_all : {A : Type 0} (b xs : List A) → fold snoc b xs ≡ b ++ xs
snoc_all b [] = sym (append-nil b)
snoc_all b (x ∷ xs) = snoc_all (b ++ x ∷ []) xs ∙ append_assoc b (x ∷ []) xs

pub snoc_read : {A : Type 0} (read : Part (List A)) → folded snoc [] None read ≡ read
snoc_read {A = A} (Ok y) = ap (λ (x : List A). Ok (x, y.1, y.2)) (snoc_all [] y.0)
snoc_read (Err r) = refl

abbrev pub statements_left : Language → List ℕ → ℕ → ℕ → Bool → List Lexeme → Part (List (Entry (List Piece)))
statements_left language text depth n nodes ts = many after (statement_at language text (body_below language text depth)) n nodes ts

pub statements_begin : (language : Language) (text : List ℕ) (depth : ℕ) (ts : List Lexeme) → (n : ℕ) × (length ts < n) × (folded snoc [] None (statements_left language text depth n false ts) ≡ body_at language text depth ts)
unfolding body_at
statements_begin language text depth ts = (suc (length ts), omega arith, snoc_read (statements_left language text depth (suc (length ts)) false ts))

pub statements_more : (language : Language) (text : List ℕ) (depth n : ℕ) (nodes : Bool) (left : List Lexeme) (front : List (Entry (List Piece))) (f : Option Fault) (e : Entry (List Piece)) (g : Option Fault) (rest : List Lexeme) (total : Part (List (Entry (List Piece))))
    → statement_at language text (body_below language text depth) nodes left ≡ Ok (Some e, g, rest) → length rest < length left → length left < n → folded snoc front f (statements_left language text depth n nodes left) ≡ total
    → (m : ℕ) × (length rest < m) × (folded snoc (front ++ e ∷ []) (earlier f g) (statements_left language text depth m (after nodes e) rest) ≡ total)
statements_more language text depth n nodes left front f e g rest total = many_more after (statement_at language text (body_below language text depth)) snoc n nodes left front f e g rest total

pub statements_end : (language : Language) (text : List ℕ) (depth n : ℕ) (nodes : Bool) (left : List Lexeme) (front : List (Entry (List Piece))) (f g : Option Fault) (rest : List Lexeme) (total : Part (List (Entry (List Piece))))
    → statement_at language text (body_below language text depth) nodes left ≡ Ok (None, g, rest) → length left < n → folded snoc front f (statements_left language text depth n nodes left) ≡ total → total ≡ Ok (front, earlier f g, rest)
statements_end language text depth n nodes left front f g rest total = many_end after (statement_at language text (body_below language text depth)) snoc n nodes left front f g rest total

pub statements_fail : (language : Language) (text : List ℕ) (depth n : ℕ) (nodes : Bool) (left : List Lexeme) (front : List (Entry (List Piece))) (f : Option Fault) (x : ReadError) (total : Part (List (Entry (List Piece))))
    → Fails x (statement_at language text (body_below language text depth) nodes left) → length left < n → folded snoc front f (statements_left language text depth n nodes left) ≡ total → Fails x total
statements_fail language text depth n nodes left front f errors.NoMemory total h k t = tt
statements_fail language text depth n nodes left front f (errors.Refused r) total h k t = many_fails after (statement_at language text (body_below language text depth)) snoc n nodes left front f r total h k t

pub body_below_none : (language : Language) (text : List ℕ) (d : ℕ) (t : Lexeme) (ts : List Lexeme) → d ≡ 0 → body_below language text d t ts ≡ Err (too_deep t)
unfolding body_below
body_below_none language text zero t ts e = refl
body_below_none language text (suc d) t ts e = absurd (omega arith)

pub body_below_some : (language : Language) (text : List ℕ) (d : ℕ) (t : Lexeme) (ts : List Lexeme) → 0 < d → body_below language text d t ts ≡ body_at language text (d - 1) ts
unfolding body_below body_at
body_below_some language text zero t ts h = absurd (omega arith)
body_below_some language text (suc d) t ts h = let e : suc d - 1 ≡ d = omega arith in rw e refl
