-- Of a list those that pass a test, each as what it is listed as.
use Rattle.std.specs.Prelude.{Bool, List, [], ◌∷◌, if◌then◌else◌}

abbrev pub listed : {A B : Type 0} → (A → Bool) → (A → B) → List A → List B
listed passes made [] = []
listed passes made (x ∷ xs) = if passes x then made x ∷ listed passes made xs else listed passes made xs
