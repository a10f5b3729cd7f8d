-- What contracts see of a tree: the memory that is reserved, the processor that boots, and the root
-- (Devicetree Specification v0.4, sections 5.2 and 5.3).
use Rattle.std.specs.Prelude.{◌≡◌, ℕ, ◌^◌, ◌<◌, Bool, not, ◌&&◌, ◌==◌, List, [], ◌∷◌, IsTrue, refl}
use Rattle.std.specs.List.{list_all}
use Rattle.std.specs.Coded.{Coded, code_by, coded×, coded_ℕ, coded_list}
use Rattle.dt_tree.specs.NodeData.{NodeData}
use Rattle.dt_tree.specs.NodeCode.{coded_node}
use Rattle.dt_tree.specs.Sound.{IsSound}

pub record TreeData : Type 0 where
  pub reserves : List (ℕ × ℕ)
  pub boot_cpu : ℕ
  pub root : NodeData

abbrev pub tree_data : List (ℕ × ℕ) → ℕ → NodeData → TreeData
tree_data r b n = record { reserves = r; boot_cpu = b; root = n }

abbrev pub coded_tree : Coded TreeData
coded_tree =
    code_by (List (ℕ × ℕ) × (ℕ × NodeData)) (coded× (coded_list (coded× coded_ℕ coded_ℕ)) (coded× coded_ℕ coded_node))
    (λ t. (t.reserves, (t.boot_cpu, t.root))) (λ p. record { reserves = p.0; boot_cpu = p.1.0; root = p.1.1 }) (λ _. refl)

-- an address and a size that don't end the list
abbrev pub is_reserve : ℕ × ℕ → Bool
is_reserve r = not (r.0 == 0 && r.1 == 0)

-- addresses and sizes of 64 bits
abbrev pub AreLong : List (ℕ × ℕ) → Type 0
AreLong [] = Unit {0}
AreLong (r ∷ rs) = (r.0 < 2 ^ 64) × (r.1 < 2 ^ 64) × AreLong rs

-- what is true of each tree
pub record IsTree (t : TreeData) : Type 0 where
  pub no_end : IsTrue (list_all is_reserve t.reserves)
  pub long : AreLong t.reserves
  pub boot_cpu_fits : t.boot_cpu < 2 ^ 32
  pub no_name : t.root.name ≡ []
  pub sound : IsSound t.root
