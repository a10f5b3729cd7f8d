use Rattle.std.proofs.Common.{◌≡◌, ◌≤◌, ◌-◌, ◌⊎◌, inl, inr, ℕ, List, [], ◌∷◌, length, get_or, take, drop, refl, sym, ap, ◌∙◌, arith}
use Rattle.std.proofs.lemmas.List.{take_rest}
use Rattle.dt_text.specs.declared.lexeme.language.Language.{Language}
use Rattle.dt_text.specs.declared.lexeme.lexeme.Lexeme.{Lexeme}
use Rattle.dt_text.specs.declared.lexeme.lexeme.Kind.{Kind}
use Rattle.dt_text.specs.declared.lexeme.lexeme.Kind.TheVariants.{Reference, PathReference}
use Rattle.dt_source.specs.Reading.Whole.{extend_at, unlabelled_item, item_kind, item_with}
use Rattle.dt_source.proofs.source.item_with.Goals as goal

refers : (language : Language) (text : List ℕ) (ls ts : List Lexeme) (d : Lexeme) → 1 ≤ length ts → ((get_or ts 0 d).kind ≡ Reference) ⊎ ((get_or ts 0 d).kind ≡ PathReference)
    → item_with language text ls ts ≡ extend_at language text ls (get_or ts 0 d) (take (length ts - 1) (drop 1 ts))
refers language text ls [] d h k = absurd (omega arith)
refers language text ls (t ∷ ts) d h (inl k) = ap (λ (x : Kind). item_kind language text ls x t ts) k ∙ ap (λ (x : List Lexeme). extend_at language text ls t x) (sym (take_rest (t ∷ ts) 1))
refers language text ls (t ∷ ts) d h (inr k) = ap (λ (x : Kind). item_kind language text ls x t ts) k ∙ ap (λ (x : List Lexeme). extend_at language text ls t x) (sym (take_rest (t ∷ ts) 1))

other : (language : Language) (text : List ℕ) (ls ts : List Lexeme) (d : Lexeme) → 1 ≤ length ts → ((get_or ts 0 d).kind ≡ Reference → ⊥) → ((get_or ts 0 d).kind ≡ PathReference → ⊥)
    → item_with language text ls ts ≡ unlabelled_item language text ls (get_or ts 0 d).kind (get_or ts 0 d) (take (length ts - 1) (drop 1 ts))
other language text ls [] d h n m = absurd (omega arith)
other language text ls (t ∷ ts) d h n m = go t.kind n m ∙ ap (λ (x : List Lexeme). unlabelled_item language text ls t.kind t x) (sym (take_rest (t ∷ ts) 1))
  where
    go : (k : Kind) → (k ≡ Reference → ⊥) → (k ≡ PathReference → ⊥) → item_kind language text ls k t ts ≡ unlabelled_item language text ls k t ts
    go Reference n m = absurd (n refl)
    go PathReference n m = absurd (m refl)
    go _ n m = refl

pub returns-in-Reference-clause-gives : goal.returns-in-Reference-clause-gives
returns-in-Reference-clause-gives c = rw (refers c.args.language c.args.text.now c.args.labels.now c.args.ts.now _ c.in-len1-up.len_at_least c.in-Reference.is) c.extend.ensures.gives

pub returns-in_default-clause-gives : goal.returns-in_default-clause-gives
returns-in_default-clause-gives c = rw (other c.args.language c.args.text.now c.args.labels.now c.args.ts.now _ c.in-len1-up.len_at_least c.in_default.not-Reference c.in_default.not-PathReference) c.unlabelled.ensures.gives
