use Rattle.std.proofs.Common.{◌≡◌, ◌≤◌, ◌-◌, ℕ, List, [], ◌∷◌, length, get_or, take, drop, Err, refl, sym, ap, ◌∙◌, arith}
use Rattle.std.proofs.lemmas.List.{take_rest}
use Rattle.dt_text.specs.declared.lexeme.language.Language.{Language}
use Rattle.dt_text.specs.declared.lexeme.lexeme.Lexeme.{Lexeme}
use Rattle.dt_text.specs.declared.lexeme.lexeme.Kind.{Kind}
use Rattle.dt_text.specs.declared.lexeme.lexeme.Kind.TheVariants.{Text, Reference, PathReference, Square, Less, Bits, IncludeBinary}
use Rattle.dt_text.specs.Expression.Reading.{syntax_at}
use Rattle.dt_source.specs.Reading.Bodies.{piece_by, piece_at}
use Rattle.dt_source.proofs.pieces.piece.Goals as goal

begins : (language : Language) (text : List ℕ) (ts : List Lexeme) (d : Lexeme) (k : Kind) → 1 ≤ length ts → (get_or ts 0 d).kind ≡ k → piece_at language text ts ≡ piece_by language text k (get_or ts 0 d) (take (length ts - 1) (drop 1 ts))
unfolding piece_at
begins language text [] d k h e = absurd (omega arith)
begins language text (t ∷ ts) d k h e = ap (λ (x : Kind). piece_by language text x t ts) e ∙ ap (λ (x : List Lexeme). piece_by language text k t x) (sym (take_rest (t ∷ ts) 1))

pub returns-in-Less-clause-gives : goal.returns-in-Less-clause-gives
returns-in-Less-clause-gives c = rw (begins c.args.language c.args.text.now c.args.ts.now _ Less c.in-len1-up.len_at_least c.in-Less.is) c.cells.ensures.gives

other : (language : Language) (text : List ℕ) (ts : List Lexeme) (d : Lexeme) → 1 ≤ length ts → ((get_or ts 0 d).kind ≡ Text → ⊥) → ((get_or ts 0 d).kind ≡ Reference → ⊥) → ((get_or ts 0 d).kind ≡ PathReference → ⊥) → ((get_or ts 0 d).kind ≡ Square → ⊥) → ((get_or ts 0 d).kind ≡ Less → ⊥) → ((get_or ts 0 d).kind ≡ Bits → ⊥) → ((get_or ts 0 d).kind ≡ IncludeBinary → ⊥) → piece_at language text ts ≡ Err (syntax_at ts)
unfolding piece_at
other language text [] d h n0 n1 n2 n3 n4 n5 n6 = absurd (omega arith)
other language text (t ∷ ts) d h n0 n1 n2 n3 n4 n5 n6 = go t.kind n0 n1 n2 n3 n4 n5 n6
  where
    go : (k : Kind) → (k ≡ Text → ⊥) → (k ≡ Reference → ⊥) → (k ≡ PathReference → ⊥) → (k ≡ Square → ⊥) → (k ≡ Less → ⊥) → (k ≡ Bits → ⊥) → (k ≡ IncludeBinary → ⊥) → piece_by language text k t ts ≡ Err (syntax_at (t ∷ ts))
    go Text n0 n1 n2 n3 n4 n5 n6 = absurd (n0 refl)
    go Reference n0 n1 n2 n3 n4 n5 n6 = absurd (n1 refl)
    go PathReference n0 n1 n2 n3 n4 n5 n6 = absurd (n2 refl)
    go Square n0 n1 n2 n3 n4 n5 n6 = absurd (n3 refl)
    go Less n0 n1 n2 n3 n4 n5 n6 = absurd (n4 refl)
    go Bits n0 n1 n2 n3 n4 n5 n6 = absurd (n5 refl)
    go IncludeBinary n0 n1 n2 n3 n4 n5 n6 = absurd (n6 refl)
    go _ n0 n1 n2 n3 n4 n5 n6 = refl

pub returns-in_default-clause-gives : goal.returns-in_default-clause-gives
returns-in_default-clause-gives c = rw (c.syntax_at-in_default.ensures, other c.args.language c.args.text.now c.args.ts.now _ c.in-len1-up.len_at_least c.in_default.not-Text c.in_default.not-Reference c.in_default.not-PathReference c.in_default.not-Square c.in_default.not-Less c.in_default.not-Bits c.in_default.not-IncludeBinary) refl
