-- The index from strings to drivers, string by string.
use Rattle.std.proofs.Common.{◌≡◌, refl, ℕ, Bool, true, false, List, [], ◌∷◌, Option, None, Some}
use Rattle.std.specs.Prelude.{is_some}
use Rattle.std.specs.Map.{lookup}
use Rattle.std.specs.Option.{option_copied}
use Rattle.std.specs.Borrow.{Bor}
use Rattle.std.specs.Str.{bytes_eq}
use Rattle.indexmap.specs.IndexMap.{insert_entry}
use Rattle.bus_drivers.specs.Private.Matching.{driver_found, found_with}

abbrev Entries : Type 0
Entries = List (Bor (List ℕ) × Bor (List ℕ))

abbrev key_eq : Bor (List ℕ) → Bor (List ℕ) → Bool
key_eq a b = bytes_eq a.now b.now

-- a new string stands last
pub found-inserted : (es : Entries) (k v : Bor (List ℕ)) (q : List ℕ) → driver_found es k.now ≡ None
    → driver_found (insert_entry key_eq es k v) q ≡ found_with (driver_found es q) v.now (k.now ∷ []) q
found-inserted [] k v q new = by_test (bytes_eq q k.now) refl where
  by_test : (t : Bool) → bytes_eq q k.now ≡ t → driver_found (insert_entry key_eq [] k v) q ≡ found_with (driver_found [] q) v.now (k.now ∷ []) q
  by_test true e = rw e refl
  by_test false e = rw e refl
found-inserted (e ∷ es) k v q new = by_tests (bytes_eq k.now e.0.now) (bytes_eq q e.0.now) refl refl (found-inserted es k v q) where
  by_tests : (a b : Bool) → bytes_eq k.now e.0.now ≡ a → bytes_eq q e.0.now ≡ b
      → (driver_found es k.now ≡ None → driver_found (insert_entry key_eq es k v) q ≡ found_with (driver_found es q) v.now (k.now ∷ []) q)
      → driver_found (insert_entry key_eq (e ∷ es) k v) q ≡ found_with (driver_found (e ∷ es) q) v.now (k.now ∷ []) q
  by_tests true b f g rest = absurd (let h = rw f at new in cc)
  by_tests false true f g rest = rw (f, g) refl
  by_tests false false f g rest = rw (f, g) (rest (rw f at new))

-- a string that a look-up doesn't find
pub absent : (es : Entries) (k : List ℕ) → is_some (lookup (λ key. bytes_eq k key.now) es) ≡ false → driver_found es k ≡ None
absent es k h = by (lookup (λ key. bytes_eq k key.now) es) h where
  by : (o : Option (Bor (List ℕ))) → is_some o ≡ false → option_copied o ≡ None
  by None e = refl
  by (Some x) e = cc
