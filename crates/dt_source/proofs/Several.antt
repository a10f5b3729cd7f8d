-- Things that are read one after the other, and things that are spelled so.
use Rattle.std.proofs.Common.{◌≡◌, ℕ, zero, suc, ◌<◌, List, [], ◌∷◌, ◌++◌, length, map, Ok, Option, Some, None, refl, sym, ap, subst, ◌∙◌, arith}
use Rattle.std.specs.Prelude.{flat_map}
use Rattle.dt_text.specs.declared.lexeme.lexeme.Lexeme.{Lexeme}
use Rattle.dt_text.specs.declared.lexeme.lexeme.Fault.{Fault}
use Rattle.dt_text.specs.Expression.Reading.{◌>>=◌}
use Rattle.dt_source.specs.Reading.Several.{earlier, Part, with_item, many}
use Rattle.dt_source.specs.Sequences.{SpellsEach}
use Rattle.dt_source.specs.Order.{first_of}
use Rattle.dt_source.specs.Reading.Bodies.{stays}
use Rattle.dt_text.proofs.ExpressionLemmas.Sound.{bind_ok, ok_is}

pub first_of_both : (a b : List Fault) → first_of (a ++ b) ≡ earlier (first_of a) (first_of b)
first_of_both [] b = refl
first_of_both (f ∷ a) b = refl

abbrev pub part : {A : Type 0} → A → Option Fault → List Lexeme → Part A
part a f r = Ok (a, f, r)

pub part_is : {A : Type 0} (a b : A) (f g : Option Fault) (r q : List Lexeme) → part a f r ≡ part b g q → (a ≡ b) × (f ≡ g) × (r ≡ q)
part_is {A = A} a b f g r q e =
    let p : ◌≡◌ {A = A × Option Fault × List Lexeme} (a, f, r) (b, g, q) = ok_is (a, f, r) (b, g, q) e in
    (ap (λ (x : A × Option Fault × List Lexeme). x.0) p, ap (λ (x : A × Option Fault × List Lexeme). x.1) p, ap (λ (x : A × Option Fault × List Lexeme). x.2) p)

abbrev pub just : {A : Type 0} → A → Option A
just x = Some x

-- ---- what is read is spelled so

pub record One {A I : Type 0} (Spell : I → List Lexeme → List Lexeme → Type 0) (value : I → A) (faults : I → List Fault) (ts : List Lexeme) (a : A) (f : Option Fault) (rest : List Lexeme) : Type 0 where
  pub tree : I
  pub spells : Spell tree ts rest
  pub value_is : value tree ≡ a
  pub fault_is : first_of (faults tree) ≡ f

pub one_to : {A I : Type 0} (Spell : I → List Lexeme → List Lexeme → Type 0) (value : I → A) (faults : I → List Fault) (ts : List Lexeme) (a b : A) (f g : Option Fault) (r q : List Lexeme)
    → One Spell value faults ts a f r → part a f r ≡ part b g q → One Spell value faults ts b g q
one_to Spell value faults ts a b f g r q o e =
    let p = part_is a b f g r q e in
    record { tree = o.tree; spells = subst (Spell o.tree ts) p.2 o.spells; value_is = o.value_is ∙ p.0; fault_is = o.fault_is ∙ p.1 }

pub record Many {A I : Type 0} (Spell : I → List Lexeme → List Lexeme → Type 0) (value : I → A) (faults : I → List Fault) (End : List Lexeme → List Lexeme → Type 0) (ts : List Lexeme) (xs : List A) (f : Option Fault) (rest : List Lexeme) : Type 0 where
  pub trees : List I
  pub mid : List Lexeme
  pub spells : SpellsEach Spell trees ts mid
  pub ends : End mid rest
  pub values_are : map value trees ≡ xs
  pub fault_is : first_of (flat_map faults trees) ≡ f

abbrev several : {A : Type 0} → (List Lexeme → Part (Option A)) → ℕ → List Lexeme → Part (List A)
several one n ts = many stays (λ s ts. one ts) n tt ts

none_sound : {A I : Type 0} (Spell : I → List Lexeme → List Lexeme → Type 0) (value : I → A) (faults : I → List Fault) (End : List Lexeme → List Lexeme → Type 0) (ts : List Lexeme)
    (g : Option Fault) (r : List Lexeme) (xs : List A) (f : Option Fault) (rest : List Lexeme) → End ts r × (g ≡ None) → part [] g r ≡ part xs f rest → Many Spell value faults End ts xs f rest
unfolding SpellsEach
none_sound Spell value faults End ts g r xs f rest l e =
    let p = part_is [] xs g f r rest e in
    record { trees = []; mid = ts; spells = refl; ends = subst (End ts) p.2 l.0; values_are = p.0; fault_is = sym l.1 ∙ p.1 }

some_sound : {A I : Type 0} (Spell : I → List Lexeme → List Lexeme → Type 0) (value : I → A) (faults : I → List Fault) (End : List Lexeme → List Lexeme → Type 0) (ts : List Lexeme)
    (a : A) (g : Option Fault) (r : List Lexeme) (bs : List A) (h : Option Fault) (q : List Lexeme) (xs : List A) (f : Option Fault) (rest : List Lexeme)
    → One Spell value faults ts a g r → Many Spell value faults End r bs h q → part (a ∷ bs) (earlier g h) q ≡ part xs f rest → Many Spell value faults End ts xs f rest
unfolding SpellsEach
some_sound {A = A} Spell value faults End ts a g r bs h q xs f rest o m e =
    let p = part_is (a ∷ bs) xs (earlier g h) f q rest e in
    record {
      trees = o.tree ∷ m.trees;
      mid = m.mid;
      spells = (r, o.spells, m.spells);
      ends = subst (End m.mid) p.2 m.ends;
      values_are = ap (λ (x : A). x ∷ map value m.trees) o.value_is ∙ ap (λ (ys : List A). a ∷ ys) m.values_are ∙ p.0;
      fault_is = first_of_both (faults o.tree) (flat_map faults m.trees) ∙ ap (λ (x : Option Fault). earlier x (first_of (flat_map faults m.trees))) o.fault_is ∙ ap (earlier g) m.fault_is ∙ p.1;
    }

pub many_sound : {A I : Type 0} (one : List Lexeme → Part (Option A)) (Spell : I → List Lexeme → List Lexeme → Type 0) (value : I → A) (faults : I → List Fault) (End : List Lexeme → List Lexeme → Type 0)
    → ((ts : List Lexeme) (a : A) (f : Option Fault) (rest : List Lexeme) → one ts ≡ Ok (Some a, f, rest) → One Spell value faults ts a f rest)
    → ((ts : List Lexeme) (f : Option Fault) (rest : List Lexeme) → one ts ≡ Ok (None, f, rest) → End ts rest × (f ≡ None))
    → (n : ℕ) (ts : List Lexeme) (xs : List A) (f : Option Fault) (rest : List Lexeme) → many stays (λ s ts. one ts) n tt ts ≡ Ok (xs, f, rest)
    → Many Spell value faults End ts xs f rest
unfolding many
many_sound one Spell value faults End each last zero ts xs f rest e = absurd cc
many_sound {A = A} one Spell value faults End each last (suc n) ts xs f rest e =
    let b = bind_ok (one ts) (λ x. with_item {B = Part (List A)} x.0 (Ok ([], x.1, x.2)) (λ a. several one n x.2 >>= λ y. Ok (a ∷ y.0, earlier x.1 y.1, y.2))) (xs, f, rest) e in
    go (λ r bs h q k. many_sound one Spell value faults End each last n r bs h q k) b.0.0 b.0.1 b.0.2 b.1 b.2
  where
    go : ((r : List Lexeme) (bs : List A) (h : Option Fault) (q : List Lexeme) → several one n r ≡ Ok (bs, h, q) → Many Spell value faults End r bs h q)
        → (o : Option A) (g : Option Fault) (r : List Lexeme) → one ts ≡ Ok (o, g, r)
        → with_item {B = Part (List A)} o (Ok ([], g, r)) (λ a. several one n r >>= λ y. Ok (a ∷ y.0, earlier g y.1, y.2)) ≡ Ok (xs, f, rest) → Many Spell value faults End ts xs f rest
    go next None g r h k = none_sound Spell value faults End ts g r xs f rest (last ts g r h) k
    go next (Some a) g r h k =
        let b = bind_ok (several one n r) (λ y. Ok (a ∷ y.0, earlier g y.1, y.2)) (xs, f, rest) k in
        some_sound Spell value faults End ts a g r b.0.0 b.0.1 b.0.2 xs f rest (each ts a g r h) (next r b.0.0 b.0.1 b.0.2 b.1) b.2

-- ---- what is spelled is read

-- What may follow one of them may stand before them all.
pub each_can : {I : Type 0} (Spell : I → List Lexeme → List Lexeme → Type 0) (Can : List Lexeme → Type 0) → ((i : I) (ts rest : List Lexeme) → Spell i ts rest → Can ts)
    → (is : List I) (ts rest : List Lexeme) → SpellsEach Spell is ts rest → Can rest → Can ts
unfolding SpellsEach
each_can Spell Can begins [] ts rest h c = subst Can (sym h) c
each_can Spell Can begins (i ∷ is) ts rest h c = begins i ts h.0 h.1

pub many_again : {A I : Type 0} (one : List Lexeme → Part (Option A)) (Spell : I → List Lexeme → List Lexeme → Type 0) (value : I → A) (faults : I → List Fault) (Can : List Lexeme → Type 0)
    → ((i : I) (ts rest : List Lexeme) → Spell i ts rest → Can rest → one ts ≡ Ok (Some (value i), first_of (faults i), rest))
    → ((i : I) (ts rest : List Lexeme) → Spell i ts rest → Can ts)
    → ((i : I) (ts rest : List Lexeme) → Spell i ts rest → length rest < length ts)
    → (is : List I) (n : ℕ) (ts mid rest : List Lexeme) → length ts < n → SpellsEach Spell is ts mid → Can mid → one mid ≡ Ok (None, None, rest)
    → many stays (λ s ts. one ts) n tt ts ≡ Ok (map value is, first_of (flat_map faults is), rest)
unfolding many SpellsEach
many_again one Spell value faults Can each begins shorter is zero ts mid rest lt h c e = absurd (omega arith)
many_again one Spell value faults Can each begins shorter [] (suc n) ts mid rest lt h c e = let e' : one ts ≡ Ok (None, None, rest) = ap one h ∙ e in rw e' refl
many_again one Spell value faults Can each begins shorter (i ∷ is) (suc n) ts mid rest lt h c e =
    let first = each i ts h.0 h.1 (each_can Spell Can begins is h.0 mid h.2 c) in
    let others = many_again one Spell value faults Can each begins shorter is n h.0 mid rest (omega (arith, shorter i ts h.0 h.1)) h.2 c e in
    let faults_are = first_of_both (faults i) (flat_map faults is) in
    rw (first, others, faults_are) refl
