-- The properties of a whole live tree, row by row.
use Rattle.std.proofs.Common.{◌≡◌, ℕ, zero, suc, ◌+◌, ◌<◌, List, [], ◌∷◌, map, length, slice_index_or, replicate, Option, None, refl, ap, ap₂, ◌∙◌, arith}
use Rattle.dt_source.specs.TreeMeaning.Paths.{Path}
use Rattle.dt_source.specs.TreeMeaning.Edits.{definition}
use Rattle.dt_live.specs.declared.live_tree.PropertyRow.{PropertyRow}
use Rattle.dt_live.specs.Rows.{property_at}
use Rattle.dt_live.specs.ByRow.{lent}
use Rattle.dt_live.specs.Flattened.{Lent}
use Rattle.dt_live.proofs.WholeRows.{entry}
use Rattle.dt_overlay.specs.Fixup.PatchedOverlay.{patched_from}

-- rows with the values that they lend
pub from-listed : (path : ℕ → Path) (value : ℕ → List ℕ) (k : ℕ) (rs : List (PropertyRow Lent)) → ((i : ℕ) → i < length rs → value (k + i) ≡ lent (property_at rs i).value)
    → patched_from path value k rs ≡ map (entry path) rs
from-listed path value k [] same = refl
from-listed path value k (r ∷ rs) same =
    ap₂ (λ v es. definition (path r.node) r.name.now v ∷ es) (ap value (omega arith) ∙ same 0 (omega arith))
    (from-listed path value (k + 1) rs (λ i below. ap value (omega arith) ∙ same (suc i) (omega (arith, below))))

-- ---- a patched overlay at the start
abbrev pub nones : {A : Type 0} → ℕ → List (Option A)
nones n = replicate n None

pub none-of : {A : Type 0} (n k : ℕ) → slice_index_or (nones {A = A} n) k None ≡ None
none-of zero k = refl
none-of (suc n) zero = refl
none-of (suc n) (suc k) = none-of n k
