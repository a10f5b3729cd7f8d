-- Reading by depth and by rank, a step at a time.
use Rattle.std.proofs.Common.{◌≡◌, ◌⊎◌, inl, inr, subst, ℕ, zero, suc, ◌-◌, ◌<◌, ◌≤◌, List, length, Err, refl, arith}
use Rattle.std.proofs.lemmas.Bool.{cases_lt}
use Rattle.dt_text.specs.declared.lexeme.lexeme.Lexeme.{Lexeme}
use Rattle.dt_text.specs.declared.lexeme.lexeme.Refusal.{Refusal}
use Rattle.dt_text.specs.Expression.Expression.{Making}
use Rattle.dt_text.specs.Expression.Reading.{◌>>=◌, too_deep}
use Rattle.dt_text.specs.Expression.ReadingExpressions.{Reader, more, levels, expr_below, unary_below, expr_at, unary_at}

pub expr_below_none : {A : Type 0} (m : Making A) (d : ℕ) (t : Lexeme) (ts : List Lexeme) → d ≡ 0 → expr_below m d t ts ≡ Err (too_deep t)
unfolding expr_below
expr_below_none m zero t ts e = refl
expr_below_none m (suc d) t ts e = absurd (omega arith)

pub unary_below_none : {A : Type 0} (m : Making A) (d : ℕ) (t : Lexeme) (ts : List Lexeme) → d ≡ 0 → unary_below m d t ts ≡ Err (too_deep t)
unfolding unary_below
unary_below_none m zero t ts e = refl
unary_below_none m (suc d) t ts e = absurd (omega arith)

pub expr_below_some : {A : Type 0} (m : Making A) (d : ℕ) (t : Lexeme) (ts : List Lexeme) → 0 < d → expr_below m d t ts ≡ expr_at m (d - 1) ts
unfolding expr_below expr_at unary_at
expr_below_some m zero t ts h = absurd (omega arith)
expr_below_some m (suc d) t ts h = let e : suc d - 1 ≡ d = omega arith in rw e refl

pub unary_below_some : {A : Type 0} (m : Making A) (d : ℕ) (t : Lexeme) (ts : List Lexeme) → 0 < d → unary_below m d t ts ≡ unary_at m (d - 1) ts
unfolding unary_below unary_at
unary_below_some m zero t ts h = absurd (omega arith)
unary_below_some m (suc d) t ts h = let e : suc d - 1 ≡ d = omega arith in rw e refl

pub levels_none : {A : Type 0} (m : Making A) (unary : Reader A) (r : ℕ) (ts : List Lexeme) → r ≡ 0 → levels m unary r ts ≡ unary ts
unfolding levels
levels_none m unary zero ts e = refl
levels_none m unary (suc r) ts e = absurd (omega arith)

pub levels_some : {A : Type 0} (m : Making A) (unary : Reader A) (r : ℕ) (ts : List Lexeme) → 1 ≤ r → levels m unary r ts ≡ (levels m unary (r - 1) ts >>= λ x. more m (levels m unary (r - 1)) r (length x.1) x.0 x.1)
unfolding levels
levels_some m unary zero ts h = absurd (omega arith)
levels_some m unary (suc r) ts h = let e : suc r - 1 ≡ r = omega arith in rw e refl

-- what is refused stays so at each further rank
pub levels_refused : {A : Type 0} (m : Making A) (unary : Reader A) (q r : ℕ) (ts : List Lexeme) (e : Refusal) → r ≤ q → levels m unary r ts ≡ Err e → levels m unary q ts ≡ Err e
unfolding levels
levels_refused m unary zero zero ts e h f = f
levels_refused m unary zero (suc r) ts e h f = absurd (omega arith)
levels_refused m unary (suc q) r ts e h f = go (cases_lt q r) (levels_refused m unary q r ts e)
  where
    go : (q < r) ⊎ (r ≤ q) → (r ≤ q → levels m unary r ts ≡ Err e → levels m unary q ts ≡ Err e) → levels m unary (suc q) ts ≡ Err e
    go (inr le) at = let below : levels m unary q ts ≡ Err e = at le f in rw below refl
    go (inl lt) at = let same : r ≡ suc q = omega arith in subst (λ (x : ℕ). levels m unary x ts ≡ Err e) same f
