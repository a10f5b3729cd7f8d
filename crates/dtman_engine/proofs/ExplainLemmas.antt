-- The name by a number among some faults and others behind them.
use Rattle.std.specs.Prelude.{◌≡◌, ℕ, Bool, true, false, List, [], ◌∷◌, ◌++◌, Option, Some, None, option_map}
use Rattle.std.specs.Option.{option_or}
use Rattle.std.proofs.Common.{refl, ◌∙◌, ap, ap₂, cond, eqb}
use Rattle.dtman_engine.specs.Explain.{name_in}
use Rattle.dtman_engine.specs.Fault.{FaultValue}

step : (test : Bool) (name : List ℕ) (rest other all : Option (List ℕ)) → option_or rest other ≡ all → option_or (cond test (Some name) rest) other ≡ cond test (Some name) all
step true name rest other all is = refl
step false name rest other all is = is

name-or : (xs ys : List FaultValue) (n : ℕ) → option_or (name_in xs n) (name_in ys n) ≡ name_in (xs ++ ys) n
name-or [] ys n = refl
name-or (f ∷ xs) ys n = step (eqb n f.number) f.name (name_in xs n) (name_in ys n) (name_in (xs ++ ys) n) (name-or xs ys n)

map-or : {A B : Type 0} (g : A → B) (a b : Option A) → option_map g (option_or a b) ≡ option_or (option_map g a) (option_map g b)
map-or g None b = refl
map-or g (Some x) b = refl

pub named-or : {A : Type 0} (g : A → List ℕ) (answer a b : Option A) (xs ys : List FaultValue) (n : ℕ)
    → answer ≡ option_or a b → option_map g a ≡ name_in xs n → option_map g b ≡ name_in ys n → option_map g answer ≡ name_in (xs ++ ys) n
named-or g answer a b xs ys n is one two = ap (option_map g) is ∙ map-or g a b ∙ ap₂ option_or one two ∙ name-or xs ys n
