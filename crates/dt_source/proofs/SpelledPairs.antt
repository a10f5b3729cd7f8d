-- Byte strings that are read are spelled, and the other way round.
use Rattle.std.proofs.Common.{◌≡◌, ℕ, suc, ◌<◌, ◌≤◌, List, [], ◌∷◌, length, map, Ok, Option, Some, None, refl, sym, ap, subst, ◌∙◌, arith, inl, inr}
use Rattle.std.specs.Prelude.{flat_map}
use Rattle.dt_text.specs.declared.lexeme.lexeme.Lexeme.{Lexeme}
use Rattle.dt_text.specs.declared.lexeme.lexeme.Fault.{Fault}
use Rattle.dt_text.specs.declared.lexeme.lexeme.Kind.{Kind}
use Rattle.dt_text.specs.declared.lexeme.lexeme.Kind.TheVariants.{Label, Pair, EndSquare}
use Rattle.dt_text.specs.Expression.Expression.{Begins}
use Rattle.dt_source.specs.Reading.Several.{many}
use Rattle.dt_source.specs.Sequences.{SpellsEach}
use Rattle.dt_source.specs.Strings.{pair_byte}
use Rattle.dt_source.specs.Order.{first_of}
use Rattle.dt_source.specs.Reading.Bodies.{stays, pair_by, pair_at, pairs_at}
use Rattle.dt_source.specs.Words.{concat}
use Rattle.dt_source.specs.Source.{IsPair, OnePair, pair_by_kind, pair_bytes}
use Rattle.dt_text.proofs.ExpressionLemmas.Sound.{bind_ok}
use Rattle.dt_source.proofs.Several as several

abbrev no_faults : Lexeme → List Fault
no_faults l = []

none_of : (ls : List Lexeme) → first_of (flat_map no_faults ls) ≡ None
none_of [] = refl
none_of (l ∷ ls) = none_of ls

abbrev PairFound : List ℕ → List Lexeme → Option (List ℕ) → Option Fault → List Lexeme → Type 0
PairFound text ts None f rest = Begins ts EndSquare rest × (f ≡ None)
PairFound text ts (Some b) f rest = several.One OnePair (pair_bytes text) no_faults ts b f rest

found : (text : List ℕ) (ts : List Lexeme) (a b : Option (List ℕ)) (f g : Option Fault) (r q : List Lexeme) → PairFound text ts a f r → several.part a f r ≡ several.part b g q → PairFound text ts b g q
found text ts a b f g r q h e =
    let p = several.part_is a b f g r q e in
    subst (λ (x : Option (List ℕ)). PairFound text ts x g q) p.0 (subst (λ (x : Option Fault). PairFound text ts a x q) p.1 (subst (λ (x : List Lexeme). PairFound text ts a f x) p.2 h))

pair_sound : (text : List ℕ) (ts : List Lexeme) (o : Option (List ℕ)) (f : Option Fault) (rest : List Lexeme) → pair_at text ts ≡ Ok (o, f, rest) → PairFound text ts o f rest
pair_sound text [] o f rest e = absurd cc
pair_sound text (t ∷ ts) o f rest e = go t.kind refl e
  where
    go : (k : Kind) → t.kind ≡ k → pair_by text k t ts ≡ Ok (o, f, rest) → PairFound text (t ∷ ts) o f rest
    go EndSquare k e = found text (t ∷ ts) None o None f ts rest ((k, refl), refl) e
    go Pair k e = found text (t ∷ ts) (Some (pair_byte text t ∷ [])) o None f ts rest (record { tree = t; spells = (inl k, refl); value_is = ap (pair_by_kind text t) k; fault_is = refl }) e
    go Label k e = found text (t ∷ ts) (Some []) o None f ts rest (record { tree = t; spells = (inr k, refl); value_is = ap (pair_by_kind text t) k; fault_is = refl }) e
    go _ k e = absurd cc

pub record PairsFound (text : List ℕ) (ts : List Lexeme) (bs : List ℕ) (f : Option Fault) (rest : List Lexeme) : Type 0 where
  pub trees : List Lexeme
  pub mid : List Lexeme
  pub spells : SpellsEach OnePair trees ts mid
  pub ends : Begins mid EndSquare rest
  pub said_is : concat (map (pair_bytes text) trees) ≡ bs
  pub fault_is : f ≡ None

pub pairs_sound : (text : List ℕ) (ts : List Lexeme) (bs : List ℕ) (f : Option Fault) (rest : List Lexeme) → pairs_at text ts ≡ Ok (bs, f, rest) → PairsFound text ts bs f rest
unfolding pairs_at
pairs_sound text ts bs f rest e =
    let b = bind_ok (many stays (λ s ts. pair_at text ts) (suc (length ts)) tt ts) (λ y. Ok (concat y.0, y.1, y.2)) (bs, f, rest) e in
    let p = several.part_is (concat b.0.0) bs b.0.1 f b.0.2 rest b.2 in
    let m = several.many_sound (pair_at text) OnePair (pair_bytes text) no_faults (λ ts rest. Begins ts EndSquare rest) (λ ts a f rest e. pair_sound text ts (Some a) f rest e) (λ ts f rest e. pair_sound text ts None f rest e) (suc (length ts)) ts b.0.0 b.0.1 b.0.2 b.1 in
    record {
      trees = m.trees;
      mid = m.mid;
      spells = m.spells;
      ends = subst (λ (r : List Lexeme). Begins m.mid EndSquare r) p.2 m.ends;
      said_is = ap concat m.values_are ∙ p.0;
      fault_is = sym p.1 ∙ sym m.fault_is ∙ none_of m.trees;
    }

pair_again : (text : List ℕ) (t : Lexeme) (ts : List Lexeme) → IsPair t.kind → pair_at text (t ∷ ts) ≡ Ok (Some (pair_bytes text t), None, ts)
pair_again text t ts (inl k) = ap (λ (x : Kind). pair_by text x t ts) k ∙ sym (ap (λ (x : Kind). several.part (Some (pair_by_kind text t x)) None ts) k)
pair_again text t ts (inr k) = ap (λ (x : Kind). pair_by text x t ts) k ∙ sym (ap (λ (x : Kind). several.part (Some (pair_by_kind text t x)) None ts) k)

end_again : (text : List ℕ) (ts rest : List Lexeme) → Begins ts EndSquare rest → pair_at text ts ≡ Ok (None, None, rest)
end_again text [] rest h = absurd h
end_again text (t ∷ ts) rest h = ap (λ (x : Kind). pair_by text x t ts) h.0 ∙ rw (h.1) refl

one_shorter : (l : Lexeme) (ts rest : List Lexeme) → OnePair l ts rest → length rest < length ts
one_shorter l ts rest h = omega (arith, ap length h.1)

pub pairs_again : (text : List ℕ) (ls ts mid rest : List Lexeme) → SpellsEach OnePair ls ts mid → Begins mid EndSquare rest → pairs_at text ts ≡ Ok (concat (map (pair_bytes text) ls), None, rest)
unfolding pairs_at
pairs_again text ls ts mid rest h g =
    let all = several.many_again (pair_at text) OnePair (pair_bytes text) no_faults (λ ts. Unit {0}) (λ i ts rest h u. ap (pair_at text) h.1 ∙ pair_again text i rest h.0) (λ i ts rest h. tt) one_shorter ls (suc (length ts)) ts mid rest (omega arith) h tt (end_again text mid rest g) in
    let none = none_of ls in
    rw (all, none) refl

pub pairs_shorter : (ls ts rest : List Lexeme) → SpellsEach OnePair ls ts rest → length rest ≤ length ts
unfolding SpellsEach
pairs_shorter [] ts rest h = omega (arith, ap length h)
pairs_shorter (l ∷ ls) ts rest h = omega (arith, one_shorter l ts h.0 h.1, pairs_shorter ls h.0 rest h.2)
