-- One node more that is named, and one number more that is taken.
use Rattle.std.proofs.Common.{◌≡◌, ◌≢◌, ℕ, zero, suc, ◌+◌, ◌<◌, ◌==◌, ◌||◌, Bool, true, false, List, [], ◌∷◌, ◌++◌, length, get_or, set, drop, if◌then◌else◌, refl, sym, ap, ◌∙◌, append_assoc}
use Rattle.std.proofs.lemmas.Bool.{eqb-true, eq-eqb}
use Rattle.std.proofs.lemmas.List.{at_drop_more, get_or-set_same, get_or-set_other}
use Rattle.dt_build.specs.Resolve.Private.Wanted.{free_after, new_rows}

-- the first number from n on that isn't taken
abbrev pub free_from : (ℕ → Bool) → ℕ → ℕ → ℕ
free_from taken zero n = n
free_from taken (suc tries) n = if taken n then free_from taken tries (n + 1) else n

pub free-is : (taken : ℕ → Bool) (tries n : ℕ) → free_from taken tries (n + 1) ≡ free_after taken tries n
free-is taken zero n = refl
free-is taken (suc tries) n = ap (λ m. if taken (n + 1) then m else n + 1) (free-is taken tries (n + 1))

pub free-step : (taken : ℕ → Bool) (tries left n : ℕ) → tries ≡ suc left → taken n ≡ true → free_from taken left (n + 1) ≡ free_from taken tries n
free-step taken tries left n e h = sym (ap (λ t. free_from taken t n) e ∙ ap (λ b. if b then free_from taken left (n + 1) else n) h)

pub free-here : (taken : ℕ → Bool) (tries left n : ℕ) → tries ≡ suc left → taken n ≡ false → n ≡ free_from taken tries n
free-here taken tries left n e h = sym (ap (λ t. free_from taken t n) e ∙ ap (λ b. if b then free_from taken left (n + 1) else n) h)

marked-by : (known : List Bool) (n m : ℕ) → n < length known → (b : Bool) → (m == n) ≡ b → get_or (set known n true) m false ≡ (b || get_or known m false)
marked-by known n m within true e = ap (λ k. get_or (set known n true) k false) (eqb-true m n e) ∙ get_or-set_same known n true false within
marked-by known n m within false e =
    let other : m ≢ n = λ is. absurd (cc (eq-eqb m n is)) in
    get_or-set_other known n m true false other

abbrev at : List Bool → ℕ → Bool
at known m = get_or known m false

abbrev also : ℕ → List Bool → ℕ → Bool
also n known m = (m == n) || get_or known m false

marked : (known : List Bool) (n : ℕ) → n < length known → at (set known n true) ≡ also n known
marked known n within = λ i m. marked-by known n m within (m == n) refl i

module _ (known : List Bool) (nodes named : List ℕ) (k : ℕ) (whole : List ℕ) (below : k < length named)
    (so_far : nodes ++ new_rows (λ m. get_or known m false) (drop k named) ≡ whole) where
  abbrev node : ℕ
  node = get_or named k 0

  abbrev rest : List ℕ
  rest = drop (k + 1) named

  at-node : nodes ++ new_rows (λ m. get_or known m false) (node ∷ rest) ≡ whole
  at-node = sym (at_drop_more (λ (ns : List ℕ). nodes ++ new_rows (λ m. get_or known m false) ns) named k 0 below) ∙ so_far

  by-known : (b : Bool) → get_or known node false ≡ b → nodes ++ (if b then new_rows (λ m. get_or known m false) rest else node ∷ new_rows (λ m. (m == node) || get_or known m false) rest) ≡ whole
  by-known b e = ap (λ c. nodes ++ (if c then new_rows (λ m. get_or known m false) rest else node ∷ new_rows (λ m. (m == node) || get_or known m false) rest)) (sym e) ∙ at-node

  pub want-known : get_or known node false ≡ true → nodes ++ new_rows (λ m. get_or known m false) rest ≡ whole
  want-known e = by-known true e

  pub want-more : node < length known → get_or known node false ≡ false → (nodes ++ node ∷ []) ++ new_rows (λ m. get_or (set known node true) m false) rest ≡ whole
  want-more within e =
      append_assoc nodes (node ∷ []) (new_rows (λ m. get_or (set known node true) m false) rest)
      ∙ ap (λ f. nodes ++ node ∷ new_rows f rest) (marked known node within) ∙ by-known false e
