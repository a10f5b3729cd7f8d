-- Reading lexemes from left to right: what was read and the lexemes behind it, or why nothing can be read.
use Rattle.std.specs.Prelude.{◌≡◌, ℕ, List, [], ◌∷◌, Result, Ok, Err}
use Rattle.dt_text.specs.declared.lexeme.lexeme.Lexeme.{Lexeme}
use Rattle.dt_text.specs.declared.lexeme.lexeme.Refusal.{Refusal}
use Rattle.dt_text.specs.declared.lexeme.lexeme.RefusalKind.TheVariants.{Syntax, TooDeep}

infixl 10 ◌>>=◌
abbrev pub ◌>>=◌ : {A B : Type 0} → Result A Refusal → (A → Result B Refusal) → Result B Refusal
(Ok x) >>= f = f x
(Err e) >>= f = Err e

-- what was read, and the lexemes after it
abbrev pub Read : Type 0 → Type 0
Read A = Result (A × List Lexeme) Refusal

-- the place of the first lexeme; where none is left, a number behind each place of a text
abbrev pub front_place : List Lexeme → ℕ
front_place [] = 4294967295
front_place (t ∷ ts) = t.start

-- The first of these lexemes can't stand here, or there is none.
abbrev pub syntax_at : List Lexeme → Refusal
syntax_at ts = record { kind = Syntax; place = front_place ts }

-- This lexeme nests too deep.
abbrev pub too_deep : Lexeme → Refusal
too_deep t = record { kind = TooDeep; place = t.start }

-- What a function returned, seen by view, is what reading gives.
abbrev pub Gives : {X Y : Type 0} → (X → Y) → Result X Refusal → Result Y Refusal → Type 0
Gives view (Ok x) read = read ≡ Ok (view x)
Gives view (Err e) read = read ≡ Err e
