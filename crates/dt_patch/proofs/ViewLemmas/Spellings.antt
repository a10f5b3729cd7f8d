-- Bytes that spell tokens, a front of them and what is behind it.
use Rattle.std.proofs.Common.{◌≡◌, ℕ, Bool, true, false, List, [], ◌∷◌, ◌++◌, length, Some, refl, ap, sym, subst, ◌∙◌, arith, append_assoc}
use Rattle.std.proofs.lemmas.Option.{some_pair_parts}
use Rattle.std.proofs.lemmas.List.{append-nil, length-append}
use Rattle.dt_blob.specs.Holds.{Spells, SpellsToken, is_nop, without_nops}
use Rattle.dt_blob.specs.Steps.Reading.{token_at}
use Rattle.dt_blob.specs.Token.{Token}
use Rattle.dt_blob.proofs.Spelled.{token_long}
use Rattle.dt_blob.proofs.TokenLists.{first_again}

pub record Rest (strings : List ℕ) (a b : List Token) (y : List ℕ) : Type 0 where
  pub rest : List Token
  pub is : b ≡ a ++ rest
  pub spells : Spells strings rest y

pub rest_of : (strings : List ℕ) (a b : List Token) (x y : List ℕ) → Spells strings a x → Spells strings b (x ++ y) → Rest strings a b y
rest_of strings [] b x y s r = record { rest = b; is = refl; spells = subst (λ (z : List ℕ). Spells strings b (z ++ y)) s r }
rest_of strings (u ∷ a) [] x y s r = absurd (omega (arith, ap length r, length-append x y, ap length (s.2), length-append (s.0) (s.1), token_long strings (s.0) u (s.3)))
rest_of strings (u ∷ a) (v ∷ b) x y s r =
    let one : token_at strings (x ++ y) ≡ Some (u, s.1 ++ y) = first_again strings (s.0) (s.1) x y u (s.2) (s.3) in
    let all : token_at strings ((x ++ y) ++ []) ≡ Some (v, r.1 ++ []) = first_again strings (r.0) (r.1) (x ++ y) [] v (r.2) (r.3) in
    let two : token_at strings (x ++ y) ≡ Some (v, r.1) = ap (token_at strings) (sym (append-nil (x ++ y))) ∙ all ∙ ap (λ (z : List ℕ). Some (v, z)) (append-nil (r.1)) in
    let p = some_pair_parts u v (s.1 ++ y) (r.1) (sym one ∙ two) in
    let i = rest_of strings a b (s.1) y (s.4) (subst (Spells strings b) (sym (p.1)) (r.4)) in
    record { rest = i.rest; is = ap (λ (z : Token). z ∷ b) (sym (p.0)) ∙ ap (λ (z : List Token). u ∷ z) i.is; spells = i.spells }

pub joined : (strings : List ℕ) (a b : List Token) (x y : List ℕ) → Spells strings a x → Spells strings b y → Spells strings (a ++ b) (x ++ y)
joined strings [] b x y s r = subst (λ (z : List ℕ). Spells strings b (z ++ y)) (sym s) r
joined strings (u ∷ a) b x y s r = (s.0, s.1 ++ y, ap (λ (z : List ℕ). z ++ y) (s.2) ∙ append_assoc (s.0) (s.1) y, s.3, joined strings a b (s.1) y (s.4) r)

pub alone : (strings : List ℕ) (t : Token) (x : List ℕ) → SpellsToken strings t x → Spells strings (t ∷ []) x
alone strings t x s = (x, [], sym (append-nil x), s, refl)

pub kept_append : (a b : List Token) → without_nops (a ++ b) ≡ without_nops a ++ without_nops b
kept_append [] b = refl
kept_append (u ∷ a) b = by_kind (is_nop u) refl (kept_append a b) where
  by_kind : (t : Bool) → is_nop u ≡ t → without_nops (a ++ b) ≡ without_nops a ++ without_nops b → without_nops ((u ∷ a) ++ b) ≡ without_nops (u ∷ a) ++ without_nops b
  by_kind true e ih = rw e ih
  by_kind false e ih = rw e (ap (λ (x : List Token). u ∷ x) ih)
