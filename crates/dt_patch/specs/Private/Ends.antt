-- Why nothing has an end to which it can become NOPs.
use Rattle.std.specs.Prelude.{◌≡◌, ◌⊎◌, ℕ}
use Rattle.dt_blob.specs.declared.error.BlobError.TheVariants.{BadToken}
use Rattle.dt_patch.specs.declared.error.PatchError.{PatchError}
use Rattle.dt_patch.specs.declared.error.PatchError.TheVariants.{BadOffset, Blob}
use Rattle.dt_patch.specs.declared.view.view.View.{View}
use Rattle.dt_patch.specs.Nopping.{HasBeginning, HasNode, HasProperty}

abbrev pub IsNoProperty : View → ℕ → PatchError → Type 0
IsNoProperty view at e = (e ≡ BadOffset) × ((next : ℕ) → HasProperty view.strings.now view.structure.now at next → ⊥)

abbrev pub IsNoNode : View → ℕ → PatchError → Type 0
IsNoNode view at e =
    ((e ≡ BadOffset) × ((next : ℕ) → HasBeginning view.strings.now view.structure.now at next → ⊥))
    ⊎ ((e ≡ Blob BadToken) × (next : ℕ) × HasBeginning view.strings.now view.structure.now at next × ((end : ℕ) → HasNode view.strings.now view.structure.now at end → ⊥))
