-- One step up to the root from where a device stands.
use Rattle.std.proofs.Common.{◌≡◌, refl, ℕ, zero, suc, ◌-◌, ◌<◌, ◌==◌, Bool, true, false, List, arith}
use Rattle.bus_links.specs.Bindings.LinkNodes.{LinkNode, node_at}
use Rattle.bus_links.specs.Links.{lets_below, reached_within}

module _ (nodes : List LinkNode) (early buses : List Bool) where
  pub reached-root : (left place : ℕ) → 0 < left → (place == 0) ≡ true → reached_within nodes early buses left place ≡ true
  reached-root zero place h z = absurd (omega arith)
  reached-root (suc k) place h z = rw z refl

  pub reached-not : (left place : ℕ) → 0 < left → (place == 0) ≡ false → lets_below nodes early buses place ≡ false → reached_within nodes early buses left place ≡ false
  reached-not zero place h z t = absurd (omega arith)
  reached-not (suc k) place h z t = rw z (rw t refl)

  pub reached-on : (left place : ℕ) → 0 < left → (place == 0) ≡ false → lets_below nodes early buses place ≡ true
      → reached_within nodes early buses (left - 1) (node_at nodes place).above ≡ reached_within nodes early buses left place
  reached-on zero place h z t = absurd (omega arith)
  reached-on (suc k) place h z t = let one : suc k - 1 ≡ k = omega arith in rw one (rw z (rw t refl))
