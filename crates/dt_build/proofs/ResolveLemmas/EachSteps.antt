-- One thing after the other, up to the first fault.
use Rattle.std.proofs.Common.{◌≡◌, ℕ, ◌+◌, ◌<◌, List, [], ◌∷◌, ◌++◌, length, get_or, drop, map, Result, Ok, Err, refl, sym, ap, ◌∙◌, append_assoc, append-nil}
use Rattle.std.proofs.lemmas.List.{at_drop_more}
use Rattle.dt_source.specs.TreeMeaning.Statements.{Fault}
use Rattle.dt_tree.specs.Steps.{then_do, each}
use Rattle.dt_build.specs.declared.resolve.error.BuildErrorKind.{BuildErrorKind}
use Rattle.dt_build.specs.Resolve.BuildFault.{IsFault}
use Rattle.dt_build.proofs.ResolveLemmas.Faults.{fault-then, fault-same}

then-itself : {A : Type 0} (r : Result A Fault) → r ≡ then_do r (λ a. Ok a)
then-itself (Ok a) = refl
then-itself (Err f) = refl

module _ {A B : Type 0} (f : A → Result B Fault) where
  -- what is done so far and what the rest gives is what all give
  abbrev pub IsSoFar : List B → List A → List A → Type 0
  IsSoFar bs left all = each f all ≡ then_do (each f left) (λ cs. Ok (bs ++ cs))

  pub so-far-none : (all : List A) → IsSoFar [] all all
  so-far-none all = then-itself (each f all)

  moved : (b : B) (bs : List B) (r : Result (List B) Fault) → then_do (then_do r (λ cs. Ok (b ∷ cs))) (λ cs. Ok (bs ++ cs)) ≡ then_do r (λ cs. Ok ((bs ++ b ∷ []) ++ cs))
  moved b bs (Ok cs) = ap (λ xs. Ok xs) (sym (append_assoc bs (b ∷ []) cs))
  moved b bs (Err e) = refl

  pub so-far-more : (bs : List B) (x : A) (xs all : List A) (b : B) → IsSoFar bs (x ∷ xs) all → f x ≡ Ok b → IsSoFar (bs ++ b ∷ []) xs all
  so-far-more bs x xs all b so e =
      so ∙ ap (λ r. then_do (then_do r (λ c. then_do (each f xs) (λ cs. Ok (c ∷ cs)))) (λ cs. Ok (bs ++ cs))) e ∙ moved b bs (each f xs)

  pub so-far-all : (bs : List B) (all : List A) → IsSoFar bs [] all → each f all ≡ Ok bs
  so-far-all bs all so = so ∙ ap (λ xs. Ok xs) (append-nil bs)

  pub so-far-stops : (bs : List B) (x : A) (xs all : List A) (e : BuildErrorKind) → IsSoFar bs (x ∷ xs) all → IsFault e (f x) → IsFault e (each f all)
  so-far-stops bs x xs all e so fault =
      fault-same e (then_do (each f (x ∷ xs)) (λ cs. Ok (bs ++ cs))) (each f all) so
      (fault-then e (each f (x ∷ xs)) (λ cs. Ok (bs ++ cs)) (fault-then e (f x) (λ c. then_do (each f xs) (λ cs. Ok (c ∷ cs))) fault))

-- what is left of a list that is read
pub left-read : {A B : Type 0} (g : A → B) (items : List A) (i : ℕ) (x : A) → i < length items → x ≡ get_or items i x → map g (drop i items) ≡ g x ∷ map g (drop (i + 1) items)
left-read {A} g items i x within is = at_drop_more (map g) items i x within ∙ ap (λ (y : A). g y ∷ map g (drop (i + 1) items)) (sym is)
