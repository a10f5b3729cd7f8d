-- One thing after the other, read.
use Rattle.std.specs.Prelude.{◌≡◌, ℕ, zero, suc, List, [], ◌∷◌, Option, Some, None, Result, Ok, Err}
use Rattle.dt_text.specs.declared.lexeme.lexeme.Lexeme.{Lexeme}
use Rattle.dt_text.specs.declared.lexeme.lexeme.Fault.{Fault}
use Rattle.dt_text.specs.declared.lexeme.lexeme.Refusal.{Refusal}
use Rattle.dt_text.specs.declared.lexeme.lexeme.ReadError.{ReadError}
use Rattle.dt_text.specs.declared.lexeme.lexeme.ReadError.TheVariants as errors
use Rattle.dt_text.specs.Expression.Reading.{◌>>=◌, syntax_at}

-- the first of two faults
abbrev pub earlier : Option Fault → Option Fault → Option Fault
earlier None g = g
earlier (Some f) g = Some f

-- what was read, its first fault, and the lexemes after it
abbrev pub Part : Type 0 → Type 0
Part A = Result (A × Option Fault × List Lexeme) Refusal

abbrev pub with_item : {A B : Type 0} → Option A → B → (A → B) → B
with_item None b f = b
with_item (Some a) b f = f a

-- At most n of them, up to where one more is none. How one is read may hang on a state, which goes on with each.
unfoldable pub many : {A S : Type 0} → (S → A → S) → (S → List Lexeme → Part (Option A)) → ℕ → S → List Lexeme → Part (List A)
many next one zero s ts = Err (syntax_at ts)
many next one (suc n) s ts = one s ts >>= λ x. with_item x.0 (Ok ([], x.1, x.2)) (λ a. many next one n (next s a) x.2 >>= λ y. Ok (a ∷ y.0, earlier x.1 y.1, y.2))

-- What a function returned, seen by view, is what reading gives, unless memory ran out.
abbrev pub Fails : {Y : Type 0} → ReadError → Result Y Refusal → Type 0
Fails errors.NoMemory read = Unit {0}
Fails (errors.Refused r) read = read ≡ Err r

abbrev pub Reads : {X Y : Type 0} → (X → Y) → Result X ReadError → Result Y Refusal → Type 0
Reads view (Ok x) read = read ≡ Ok (view x)
Reads view (Err e) read = Fails e read
