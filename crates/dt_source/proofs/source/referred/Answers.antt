use Rattle.std.proofs.Common.{◌≡◌, ◌≤◌, ◌-◌, ◌⊎◌, inl, inr, ℕ, List, [], ◌∷◌, length, get_or, take, drop, None, Err, refl, sym, ap, ◌∙◌, arith}
use Rattle.std.proofs.lemmas.List.{take_rest}
use Rattle.dt_text.specs.declared.lexeme.lexeme.Lexeme.{Lexeme}
use Rattle.dt_text.specs.declared.lexeme.lexeme.Kind.{Kind}
use Rattle.dt_text.specs.declared.lexeme.lexeme.Kind.TheVariants.{Reference, PathReference}
use Rattle.dt_text.specs.Expression.Reading.{syntax_at}
use Rattle.dt_source.specs.Pieces.{target_of}
use Rattle.dt_source.specs.Reading.Bodies.{ended_by}
use Rattle.dt_source.specs.Reading.Whole.{referred_kind, referred_at}
use Rattle.dt_source.proofs.source.referred.Goals as goal

refers : (text : List ℕ) (ts : List Lexeme) (d : Lexeme) → 1 ≤ length ts → ((get_or ts 0 d).kind ≡ Reference) ⊎ ((get_or ts 0 d).kind ≡ PathReference)
    → referred_at text ts ≡ ended_by (target_of text (get_or ts 0 d)) None (take (length ts - 1) (drop 1 ts))
refers text [] d h k = absurd (omega arith)
refers text (t ∷ ts) d h (inl k) = ap (λ (x : Kind). referred_kind text x t ts) k ∙ ap (λ (x : List Lexeme). ended_by (target_of text t) None x) (sym (take_rest (t ∷ ts) 1))
refers text (t ∷ ts) d h (inr k) = ap (λ (x : Kind). referred_kind text x t ts) k ∙ ap (λ (x : List Lexeme). ended_by (target_of text t) None x) (sym (take_rest (t ∷ ts) 1))

other : (text : List ℕ) (ts : List Lexeme) (d : Lexeme) → 1 ≤ length ts → ((get_or ts 0 d).kind ≡ Reference → ⊥) → ((get_or ts 0 d).kind ≡ PathReference → ⊥) → referred_at text ts ≡ Err (syntax_at ts)
other text [] d h n m = absurd (omega arith)
other text (t ∷ ts) d h n m = go t.kind n m
  where
    go : (k : Kind) → (k ≡ Reference → ⊥) → (k ≡ PathReference → ⊥) → referred_kind text k t ts ≡ Err (syntax_at (t ∷ ts))
    go Reference n m = absurd (n refl)
    go PathReference n m = absurd (m refl)
    go _ n m = refl

pub returns-in-Reference-clause-gives : goal.returns-in-Reference-clause-gives
returns-in-Reference-clause-gives c = rw (refers c.args.text.now c.args.ts.now _ c.in-len1-up.len_at_least c.in-Reference.is) c.end_reference.ensures.gives

pub returns-in_default-clause-gives : goal.returns-in_default-clause-gives
returns-in_default-clause-gives c = rw c.syntax_at-in_default.ensures (other c.args.text.now c.args.ts.now _ c.in-len1-up.len_at_least c.in_default.not-Reference c.in_default.not-PathReference)
