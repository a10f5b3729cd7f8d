-- Steps one after the other, up to the first fault.
use Rattle.std.specs.Prelude.{List, [], ◌∷◌, Result, Ok, Err}

-- what comes next, unless there is a fault
abbrev pub then_do : {A B E : Type 0} → Result A E → (A → Result B E) → Result B E
then_do (Err e) next = Err e
then_do (Ok a) next = next a

-- what each one comes to
abbrev pub each : {A B E : Type 0} → (A → Result B E) → List A → Result (List B) E
each f [] = Ok []
each f (a ∷ as') = then_do (f a) (λ b. then_do (each f as') (λ bs. Ok (b ∷ bs)))

-- a state that each one changes in turn
abbrev pub fold : {A S E : Type 0} → (A → S → Result S E) → List A → S → Result S E
fold f [] s = Ok s
fold f (a ∷ as') s = then_do (f a s) (fold f as')
