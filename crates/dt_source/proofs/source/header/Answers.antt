use Rattle.std.proofs.Common.{◌≡◌, ◌≤◌, ◌-◌, Bool, List, [], ◌∷◌, length, get_or, take, drop, Ok, Option, Some, None, Result, refl, sym, ap, ◌∙◌, arith}
use Rattle.std.proofs.lemmas.List.{take_rest}
use Rattle.std.proofs.lemmas.Result.{err_from_is_err_and}
use Rattle.dt_text.specs.declared.lexeme.lexeme.Lexeme.{Lexeme}
use Rattle.dt_text.specs.declared.lexeme.lexeme.Refusal.{Refusal}
use Rattle.dt_text.specs.declared.lexeme.lexeme.Kind.{Kind}
use Rattle.dt_text.specs.declared.lexeme.lexeme.Kind.TheVariants.{Version}
use Rattle.dt_text.specs.Expression.Reading.{◌>>=◌, Read}
use Rattle.dt_source.specs.Reading.Several.{Part}
use Rattle.dt_source.specs.Reading.Bodies.{semicolon_at}
use Rattle.dt_source.specs.Reading.Whole.{plugin_at, header_kind, header_at}
use Rattle.dt_source.proofs.source.header.Goals as goal

abbrev said : Read Bool → Part (Option Bool)
said read = read >>= λ x. Ok (Some x.0, None, x.1)

abbrev ended : Result (List Lexeme) Refusal → Part (Option Bool)
ended rest = rest >>= λ a. said (plugin_at a)

begins : (ts : List Lexeme) (d : Lexeme) → 1 ≤ length ts → (get_or ts 0 d).kind ≡ Version → header_at ts ≡ ended (semicolon_at (take (length ts - 1) (drop 1 ts)))
unfolding header_at
begins [] d h k = absurd (omega arith)
begins (t ∷ ts) d h k = ap (λ (x : Kind). header_kind x t ts) k ∙ ap (λ (x : List Lexeme). ended (semicolon_at x)) (sym (take_rest (t ∷ ts) 1))

pub returns-in_err-rest-in-Version-clause-gives : goal.returns-in_err-rest-in-Version-clause-gives
returns-in_err-rest-in-Version-clause-gives c =
    let p = err_from_is_err_and c.from_residual.result c.from_residual.ensures.1 in
    rw (p.1, p.2) (begins c.args.ts.now _ c.in-len1-up.len_at_least c.in-Version.is ∙ ap ended c.in_err-rest-in-Version.ensures.gives)

pub returns-in_err-said-in-Version-clause-gives : goal.returns-in_err-said-in-Version-clause-gives
returns-in_err-said-in-Version-clause-gives c =
    let p = err_from_is_err_and c.from_residual-in_err-said-in-Version.result c.from_residual-in_err-said-in-Version.ensures.1 in
    rw (p.1, p.2) (begins c.args.ts.now _ c.in-len1-up.len_at_least c.in-Version.is ∙ ap ended c.in_ok-rest-in-Version.ensures.gives ∙ ap said c.in_err-said-in-Version.ensures.gives)

pub returns-in_ok-said-in-Version-clause-gives : goal.returns-in_ok-said-in-Version-clause-gives
returns-in_ok-said-in-Version-clause-gives c = begins c.args.ts.now _ c.in-len1-up.len_at_least c.in-Version.is ∙ ap ended c.in_ok-rest-in-Version.ensures.gives ∙ ap said c.in_ok-said-in-Version.ensures.gives

other : (ts : List Lexeme) (d : Lexeme) → 1 ≤ length ts → ((get_or ts 0 d).kind ≡ Version → ⊥) → header_at ts ≡ Ok (None, None, ts)
unfolding header_at
other [] d h n = absurd (omega arith)
other (t ∷ ts) d h n = go t.kind n
  where
    go : (k : Kind) → (k ≡ Version → ⊥) → header_kind k t ts ≡ Ok (None, None, (t ∷ ts))
    go Version n = absurd (n refl)
    go _ n = refl

pub returns-in_default-clause-gives : goal.returns-in_default-clause-gives
returns-in_default-clause-gives c = other c.args.ts.now _ c.in-len1-up.len_at_least c.in_default.not-Version
