use Rattle.std.proofs.Common.{◌≡◌, ◌≤◌, ◌-◌, ℕ, List, [], ◌∷◌, length, get_or, take, drop, Ok, Option, Some, Result, refl, sym, ap, ◌∙◌, arith}
use Rattle.std.proofs.lemmas.List.{take_rest}
use Rattle.std.proofs.lemmas.Result.{err_from_is_err_and}
use Rattle.dt_text.specs.declared.lexeme.lexeme.Lexeme.{Lexeme}
use Rattle.dt_text.specs.declared.lexeme.lexeme.Refusal.{Refusal}
use Rattle.dt_text.specs.declared.lexeme.lexeme.Kind.{Kind}
use Rattle.dt_text.specs.declared.lexeme.lexeme.Kind.TheVariants.{MemReserve}
use Rattle.dt_text.specs.Expression.Values.{Value}
use Rattle.dt_text.specs.Expression.Reading.{◌>>=◌}
use Rattle.dt_source.specs.Pieces.{fault_in}
use Rattle.dt_source.specs.Reading.Several.{earlier, Part}
use Rattle.dt_source.specs.Reading.Whole.{reserve_kind, reserve_with}
use Rattle.dt_source.proofs.source.reserve_with.Goals as goal

begins : (text : List ℕ) (whole ts : List Lexeme) (d : Lexeme) → 1 ≤ length ts → (get_or ts 0 d).kind ≡ MemReserve → reserve_with text whole ts ≡ reserve_kind text whole MemReserve (take (length ts - 1) (drop 1 ts))
begins text whole [] d h k = absurd (omega arith)
begins text whole (t ∷ ts) d h k = ap (λ (x : Kind). reserve_kind text whole x ts) k ∙ ap (λ (x : List Lexeme). reserve_kind text whole MemReserve x) (sym (take_rest (t ∷ ts) 1))

-- both numbers, where a semicolon follows them
abbrev both : Value → Value → Result (List Lexeme) Refusal → Part (Option (Value × Value))
both x y rest = rest >>= λ r. Ok (Some (x, y), earlier (fault_in x) (fault_in y), r)

pub returns-in_err-address-in-MemReserve-clause-gives : goal.returns-in_err-address-in-MemReserve-clause-gives
returns-in_err-address-in-MemReserve-clause-gives c =
    let p = err_from_is_err_and c.from_residual.result c.from_residual.ensures.1 in
    rw (p.1, p.2) (begins c.args.text.now c.args.whole.now c.args.ts.now _ c.in-len1-up.len_at_least c.in-MemReserve.is ∙ rw c.in_err-address-in-MemReserve.ensures.gives refl)

pub returns-in_err-size-in-MemReserve-clause-gives : goal.returns-in_err-size-in-MemReserve-clause-gives
returns-in_err-size-in-MemReserve-clause-gives c =
    let p = err_from_is_err_and c.from_residual-in_err-size-in-MemReserve.result c.from_residual-in_err-size-in-MemReserve.ensures.1 in
    rw (p.1, p.2) (begins c.args.text.now c.args.whole.now c.args.ts.now _ c.in-len1-up.len_at_least c.in-MemReserve.is ∙ rw (c.in_ok-address-in-MemReserve.ensures.gives, c.in_err-size-in-MemReserve.ensures.gives) refl)

pub returns-in_err-rest-in-MemReserve-clause-gives : goal.returns-in_err-rest-in-MemReserve-clause-gives
returns-in_err-rest-in-MemReserve-clause-gives c =
    let p = err_from_is_err_and c.from_residual-in_err-rest-in-MemReserve.result c.from_residual-in_err-rest-in-MemReserve.ensures.1 in
    rw (p.1, p.2) (begins c.args.text.now c.args.whole.now c.args.ts.now _ c.in-len1-up.len_at_least c.in-MemReserve.is ∙ rw (c.in_ok-address-in-MemReserve.ensures.gives, c.in_ok-size-in-MemReserve.ensures.gives) (ap (both c.in_ok-address-in-MemReserve.address c.in_ok-size-in-MemReserve.size) c.in_err-rest-in-MemReserve.ensures.gives))

pub returns-in_ok-rest-in-MemReserve-clause-gives : goal.returns-in_ok-rest-in-MemReserve-clause-gives
returns-in_ok-rest-in-MemReserve-clause-gives c =
    begins c.args.text.now c.args.whole.now c.args.ts.now _ c.in-len1-up.len_at_least c.in-MemReserve.is ∙ rw (c.in_ok-address-in-MemReserve.ensures.gives, c.in_ok-size-in-MemReserve.ensures.gives) (ap (both c.in_ok-address-in-MemReserve.address c.in_ok-size-in-MemReserve.size) c.in_ok-rest-in-MemReserve.ensures.gives ∙ rw (c.earlier-fault.ensures, c.fault_in.ensures, c.fault_in-in-MemReserve.ensures) refl)
