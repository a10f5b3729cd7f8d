use Rattle.std.proofs.Common.{◌≡◌, ◌≤◌, ◌-◌, ℕ, List, [], ◌∷◌, length, get_or, take, drop, Option, Err, refl, sym, ap, ◌∙◌, arith}
use Rattle.std.proofs.lemmas.List.{take_rest}
use Rattle.std.proofs.lemmas.Result.{err_from_is_err_and}
use Rattle.dt_text.specs.declared.lexeme.language.Language.{Language}
use Rattle.dt_text.specs.declared.lexeme.lexeme.Lexeme.{Lexeme}
use Rattle.dt_text.specs.declared.lexeme.lexeme.Fault.{Fault}
use Rattle.dt_text.specs.declared.lexeme.lexeme.Kind.{Kind}
use Rattle.dt_text.specs.declared.lexeme.lexeme.Kind.TheVariants.{Brace}
use Rattle.dt_text.specs.declared.lexeme.lexeme.ReadError.{ReadError}
use Rattle.dt_text.specs.declared.lexeme.lexeme.ReadError.TheVariants as errors
use Rattle.dt_text.specs.Expression.Reading.{◌>>=◌, syntax_at}
use Rattle.dt_source.specs.declared.body.TheConstants.{MAX_BODY_DEPTH}
use Rattle.dt_source.specs.Reading.Several.{Part, Fails}
use Rattle.dt_source.specs.TreeMeaning.Syntax.{Piece, Entry, Body, body_of}
use Rattle.dt_source.specs.Reading.Bodies.{body_at, ended_by}
use Rattle.dt_source.specs.Reading.Whole.{brace_kind, brace_at}
use Rattle.dt_source.proofs.source.brace.Goals as goal

inner : (language : Language) (text : List ℕ) (ts : List Lexeme) (d : Lexeme) → 1 ≤ length ts → (get_or ts 0 d).kind ≡ Brace → brace_at language text ts ≡ (body_at language text MAX_BODY_DEPTH (take (length ts - 1) (drop 1 ts)) >>= λ y. ended_by (body_of y.0) y.1 y.2)
unfolding brace_at
inner language text [] d h k = absurd (omega arith)
inner language text (t ∷ ts) d h k = ap (λ (x : Kind). brace_kind language text x t ts) k ∙ ap (λ (x : List Lexeme). brace_kind language text Brace t x) (sym (take_rest (t ∷ ts) 1))

fails : (x : ReadError) (read : Part (List (Entry (List Piece)))) → Fails x read → Fails x (◌>>=◌ {B = Body (List Piece) × Option Fault × List Lexeme} read (λ y. ended_by (body_of y.0) y.1 y.2))
fails errors.NoMemory read e = tt
fails (errors.Refused r) read e = rw e refl

pub returns-in_err-found-in-Brace-clause-gives : goal.returns-in_err-found-in-Brace-clause-gives
returns-in_err-found-in-Brace-clause-gives c =
    let p = err_from_is_err_and c.from_residual.result c.from_residual.ensures.1 in
    rw (p.1, p.2, inner c.args.language c.args.text.now c.args.ts.now _ c.in-len1-up.len_at_least c.in-Brace.is) (fails c.in_err-found-in-Brace.field-0.0 _ c.in_err-found-in-Brace.ensures.gives)

pub returns-in_ok-found-in-Brace-clause-gives : goal.returns-in_ok-found-in-Brace-clause-gives
returns-in_ok-found-in-Brace-clause-gives c =
    rw (inner c.args.language c.args.text.now c.args.ts.now _ c.in-len1-up.len_at_least c.in-Brace.is, c.in_ok-found-in-Brace.ensures.gives) c.end_body.ensures.gives

other : (language : Language) (text : List ℕ) (ts : List Lexeme) (d : Lexeme) → 1 ≤ length ts → ((get_or ts 0 d).kind ≡ Brace → ⊥) → brace_at language text ts ≡ Err (syntax_at ts)
unfolding brace_at
other language text [] d h n = absurd (omega arith)
other language text (t ∷ ts) d h n = go t.kind n
  where
    go : (k : Kind) → (k ≡ Brace → ⊥) → brace_kind language text k t ts ≡ Err (syntax_at (t ∷ ts))
    go Brace n = absurd (n refl)
    go _ n = refl

pub returns-in_default-clause-gives : goal.returns-in_default-clause-gives
returns-in_default-clause-gives c = rw c.syntax_at-in_default.ensures (other c.args.language c.args.text.now c.args.ts.now _ c.in-len1-up.len_at_least c.in_default.not-Brace)
