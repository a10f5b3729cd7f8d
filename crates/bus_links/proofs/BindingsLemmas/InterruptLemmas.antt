-- One step to an interrupt parent, along the rows of a map, and to a controller.
use Rattle.std.proofs.Common.{◌≡◌, refl, ℕ, zero, suc, ◌+◌, ◌-◌, ◌<◌, ◌≤◌, ◌==◌, nat_le, ◌&&◌, Bool, true, false, List, ◌∷◌, length, take, drop, Some, None, arith}
use Rattle.std.specs.Prelude.{codes}
use Rattle.std.proofs.lemmas.Bool.Decides.{nat_tests}
use Rattle.bus_drivers.specs.Nodes.{is_okay}
use Rattle.bus_links.specs.Bindings.LinkNodes.{LinkNode, node_at}
use Rattle.bus_links.specs.Bindings.Interrupts.{has, towards, parent_within, agrees, Parent, parent_in, Asked, row_within, is_controller, asked_next, controller_within, number_at, address_cells_within, first_byte, padded}

module _ (nodes : List LinkNode) where
  pub parent-none : (left place : ℕ) → 0 < left → towards nodes place ≡ None → parent_within nodes left place ≡ None
  parent-none zero place h e = absurd (omega arith)
  parent-none (suc k) place h e = rw e refl

  pub parent-found : (left place p : ℕ) → 0 < left → towards nodes place ≡ Some p → has nodes p (codes "#interrupt-cells") ≡ true → parent_within nodes left place ≡ Some p
  parent-found zero place p h e t = absurd (omega arith)
  parent-found (suc k) place p h e t = rw e (rw t refl)

  pub parent-on : (left place p : ℕ) → 0 < left → towards nodes place ≡ Some p → has nodes p (codes "#interrupt-cells") ≡ false → parent_within nodes (left - 1) p ≡ parent_within nodes left place
  parent-on zero place p h e t = absurd (omega arith)
  parent-on (suc k) place p h e t = let one : suc k - 1 ≡ k = omega arith in rw one (rw e (rw t refl))

  module _ (masks key : List ℕ) where
    pub row-short : (left : ℕ) (rows : List ℕ) → nat_le (length key + 8) (length rows) ≡ false → row_within nodes masks key left rows ≡ None
    row-short zero rows s = refl
    row-short (suc k) rows s = rw s refl

    pub row-bad : (left : ℕ) (rows : List ℕ) → parent_in nodes (drop (length key) rows) ≡ None → row_within nodes masks key left rows ≡ None
    row-bad zero rows p = refl
    row-bad (suc k) rows p = by (nat_le (length key + 8) (length rows)) refl where
      by : (t : Bool) → nat_le (length key + 8) (length rows) ≡ t → row_within nodes masks key (suc k) rows ≡ None
      by true is = rw is (rw p refl)
      by false is = rw is refl

    pub row-here : (left : ℕ) (rows : List ℕ) (p : Parent) → 0 < left → nat_le (length key + 8) (length rows) ≡ true → parent_in nodes (drop (length key) rows) ≡ Some p
        → (agrees masks key rows && is_okay (node_at nodes p.node).properties) ≡ true
        → row_within nodes masks key left rows ≡ Some (record { place = p.node; key = take p.bytes (drop (length key + 4) rows) })
    row-here zero rows p h s e t = absurd (omega arith)
    row-here (suc k) rows p h s e t = rw s (rw e (rw t refl))

    pub row-on : (left : ℕ) (rows : List ℕ) (p : Parent) → 0 < left → nat_le (length key + 8) (length rows) ≡ true → parent_in nodes (drop (length key) rows) ≡ Some p
        → (agrees masks key rows && is_okay (node_at nodes p.node).properties) ≡ false
        → row_within nodes masks key (left - 1) (drop (length key + 4 + p.bytes) rows) ≡ row_within nodes masks key left rows
    row-on zero rows p h s e t = absurd (omega arith)
    row-on (suc k) rows p h s e t = let one : suc k - 1 ≡ k = omega arith in rw one (rw s (rw e (rw t refl)))

  pub controller-here : (left place : ℕ) (key : List ℕ) → 0 < left → is_controller nodes place ≡ true → controller_within nodes left place key ≡ Some place
  controller-here zero place key h t = absurd (omega arith)
  controller-here (suc k) place key h t = rw t refl

  pub controller-none : (left place : ℕ) (key : List ℕ) → 0 < left → is_controller nodes place ≡ false → asked_next nodes place key ≡ None → controller_within nodes left place key ≡ None
  controller-none zero place key h t e = absurd (omega arith)
  controller-none (suc k) place key h t e = rw t (rw e refl)

  pub controller-same : (left place : ℕ) (key : List ℕ) (a : Asked) → 0 < left → is_controller nodes place ≡ false → asked_next nodes place key ≡ Some a → (a.place == place) ≡ true
      → controller_within nodes left place key ≡ Some place
  controller-same zero place key a h t e s = absurd (omega arith)
  controller-same (suc k) place key a h t e s = rw t (rw e (rw s refl))

  pub controller-on : (left place : ℕ) (key : List ℕ) (a : Asked) → 0 < left → is_controller nodes place ≡ false → asked_next nodes place key ≡ Some a → (a.place == place) ≡ false
      → controller_within nodes (left - 1) a.place a.key ≡ controller_within nodes left place key
  controller-on zero place key a h t e s = absurd (omega arith)
  controller-on (suc k) place key a h t e s = let one : suc k - 1 ≡ k = omega arith in rw one (rw t (rw e (rw s refl)))

  pub cells-here : (left place : ℕ) → 0 < left → has nodes place (codes "#address-cells") ≡ true → address_cells_within nodes left place ≡ number_at nodes place (codes "#address-cells") 2
  cells-here zero place h t = absurd (omega arith)
  cells-here (suc k) place h t = rw t refl

  pub cells-on : (left place : ℕ) → 0 < left → has nodes place (codes "#address-cells") ≡ false → (place == 0) ≡ false
      → address_cells_within nodes (left - 1) (node_at nodes place).above ≡ address_cells_within nodes left place
  cells-on zero place h t s = absurd (omega arith)
  cells-on (suc k) place h t s = let one : suc k - 1 ≡ k = omega arith in rw one (rw t (rw s refl))

pub padded-on : (left : ℕ) (rest : List ℕ) → 0 < left → padded left rest ≡ first_byte rest ∷ padded (left - 1) (drop 1 rest)
padded-on zero rest h = absurd (omega arith)
padded-on (suc k) rest h = let one : suc k - 1 ≡ k = omega arith in rw one refl

pub le-test : (a b : ℕ) → a ≤ b → nat_le a b ≡ true
le-test a b h = grind (arith, nat_tests)
