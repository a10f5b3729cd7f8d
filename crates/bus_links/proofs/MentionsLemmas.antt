-- Devices that are mentioned in two parts.
use Rattle.std.proofs.Common.{◌≡◌, refl, ℕ, List, [], ◌∷◌, ◌++◌}
use Rattle.bus_drivers.specs.Private.Suppliers.{Suppliers, with_mention, with_mentions}

pub with_mentions-append : (s : Suppliers) (ds es : List ℕ) → with_mentions s (ds ++ es) ≡ with_mentions (with_mentions s ds) es
with_mentions-append s [] es = refl
with_mentions-append s (d ∷ ds) es = with_mentions-append (with_mention s d) ds es
