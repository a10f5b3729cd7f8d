-- How many names a path has.
use Rattle.std.proofs.Common.{◌≡◌, ℕ, ◌<◌, ◌≤◌, Bool, true, false, ◌==◌, List, [], ◌∷◌, length, drop, refl, ap, arith}
use Rattle.std.specs.List.{slice_split}
use Rattle.std.proofs.lemmas.List.Splits.{length-slice_split}
use Rattle.dt_tree.specs.Path.{is_slash, names_behind, path_names}
use Rattle.dt_blob.proofs.Tests.{equal}

pub one_byte : (path : List ℕ) → length path < 2 → length (path_names path) ≡ 0
one_byte [] h = refl
one_byte (b ∷ []) h = refl
one_byte (b ∷ c ∷ rest) h = absurd (omega arith)

names_more : (c : ℕ) (rest : List ℕ) → names_behind (c ∷ rest) ≡ slice_split is_slash (c ∷ rest)
names_more c rest = by_test (length (c ∷ rest) == 0) refl where
  by_test : (t : Bool) → (length (c ∷ rest) == 0) ≡ t → names_behind (c ∷ rest) ≡ slice_split is_slash (c ∷ rest)
  by_test true e = absurd (let none : length (c ∷ rest) ≡ 0 = equal (length (c ∷ rest)) 0 e in omega (arith, none))
  by_test false e = rw e refl

-- a longer path has those behind its first slash
pub names_of_long : (path : List ℕ) → 2 ≤ length path → path_names path ≡ slice_split is_slash (drop 1 path)
names_of_long [] h = absurd (omega arith)
names_of_long (b ∷ []) h = absurd (omega arith)
names_of_long (b ∷ c ∷ rest) h = names_more c rest

pub some_names : (path : List ℕ) → 2 ≤ length path → length (path_names path) ≡ 0 → ⊥
some_names path h e =
    let same : length (path_names path) ≡ length (slice_split is_slash (drop 1 path)) = ap length (names_of_long path h) in
    omega (arith, same, e, length-slice_split is_slash (drop 1 path))
