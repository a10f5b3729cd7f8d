-- Reading one thing after the other, a step at a time.
use Rattle.std.proofs.Common.{◌≡◌, ℕ, zero, suc, ◌<◌, List, ◌∷◌, length, Option, Some, None, Ok, Err, refl, sym, ap, ◌∙◌, arith}
use Rattle.std.specs.Prelude.{fold}
use Rattle.dt_text.specs.declared.lexeme.lexeme.Lexeme.{Lexeme}
use Rattle.dt_text.specs.declared.lexeme.lexeme.Fault.{Fault}
use Rattle.dt_text.specs.declared.lexeme.lexeme.Refusal.{Refusal}
use Rattle.dt_text.specs.Expression.Reading.{◌>>=◌}
use Rattle.dt_source.specs.Reading.Several.{earlier, Part, many}
use Rattle.dt_source.specs.Reading.Loops.{folded}

pub earlier_assoc : (f g h : Option Fault) → earlier f (earlier g h) ≡ earlier (earlier f g) h
earlier_assoc None g h = refl
earlier_assoc (Some f) g h = refl

pub earlier_none : (f : Option Fault) → earlier f None ≡ f
earlier_none None = refl
earlier_none (Some f) = refl

regroup : {A B : Type 0} (comb : B → A → B) (b : B) (a : A) (f g : Option Fault) (read : Part (List A)) → folded comb b f (read >>= λ y. Ok (a ∷ y.0, earlier g y.1, y.2)) ≡ folded comb (comb b a) (earlier f g) read
regroup comb b a f g (Ok y) = ap (λ (x : Option Fault). Ok (fold comb (comb b a) y.0, x, y.2)) (earlier_assoc f g y.1)
regroup comb b a f g (Err x) = refl

-- One more was read.
pub many_more : {A B S : Type 0} (next : S → A → S) (one : S → List Lexeme → Part (Option A)) (comb : B → A → B) (n : ℕ) (s : S) (left : List Lexeme) (b : B) (f : Option Fault) (a : A) (g : Option Fault) (rest : List Lexeme) (total : Part B)
    → one s left ≡ Ok (Some a, g, rest) → length rest < length left → length left < n → folded comb b f (many next one n s left) ≡ total
    → (m : ℕ) × (length rest < m) × (folded comb (comb b a) (earlier f g) (many next one m (next s a) rest) ≡ total)
unfolding many
many_more next one comb zero s left b f a g rest total h l k t = absurd (omega arith)
many_more next one comb (suc n) s left b f a g rest total h l k t =
    let step : folded comb b f (many next one (suc n) s left) ≡ folded comb (comb b a) (earlier f g) (many next one n (next s a) rest) = rw h (regroup comb b a f g (many next one n (next s a) rest)) in
    (n, omega arith, sym step ∙ t)

-- There was none.
pub many_end : {A B S : Type 0} (next : S → A → S) (one : S → List Lexeme → Part (Option A)) (comb : B → A → B) (n : ℕ) (s : S) (left : List Lexeme) (b : B) (f g : Option Fault) (rest : List Lexeme) (total : Part B)
    → one s left ≡ Ok (None, g, rest) → length left < n → folded comb b f (many next one n s left) ≡ total → total ≡ Ok (b, earlier f g, rest)
unfolding many
many_end next one comb zero s left b f g rest total h k t = absurd (omega arith)
many_end next one comb (suc n) s left b f g rest total h k t =
    let step : folded comb b f (many next one (suc n) s left) ≡ Ok (b, earlier f g, rest) = rw h refl in
    sym t ∙ step

-- It was refused.
pub many_fails : {A B S : Type 0} (next : S → A → S) (one : S → List Lexeme → Part (Option A)) (comb : B → A → B) (n : ℕ) (s : S) (left : List Lexeme) (b : B) (f : Option Fault) (r : Refusal) (total : Part B)
    → one s left ≡ Err r → length left < n → folded comb b f (many next one n s left) ≡ total → total ≡ Err r
unfolding many
many_fails next one comb zero s left b f r total h k t = absurd (omega arith)
many_fails next one comb (suc n) s left b f r total h k t =
    let step : folded comb b f (many next one (suc n) s left) ≡ Err r = rw h refl in
    sym t ∙ step
