-- A node with all below it, as rows that stand together (Devicetree Specification v0.4, sections 2.2 and 5.4).
use Rattle.std.specs.Prelude.{ℕ, ◌+◌, ◌≤◌, ◌<◌, Bool, ◌&&◌, nat_le, length}
use Rattle.dt_live.specs.declared.live_tree.LiveTree.{LiveTree}
use Rattle.dt_live.specs.Rows.{node_path, property_at}
use Rattle.dt_live.specs.Flattened.{Lent}

-- the nodes behind node n, up to node e, have longer paths than n has, and the next one hasn't
pub record IsRun (d : LiveTree Lent) (n e : ℕ) : Type 0 where
  pub from : n ≤ e
  pub known : e ≤ length d.nodes.items
  pub longer : (m : ℕ) → n < m → m ≤ e → length (node_path d n) < length (node_path d m)
  pub ends : e < length d.nodes.items → length (node_path d (e + 1)) ≤ length (node_path d n)

-- the number is one of those from n to e
abbrev pub is_from_to : ℕ → ℕ → ℕ → Bool
is_from_to n e m = nat_le n m && nat_le m e

-- the rows from low on, short of high, are those of the nodes from n to e
pub record ArePropertiesOf (d : LiveTree Lent) (n e low high : ℕ) : Type 0 where
  pub from : low ≤ high
  pub known : high ≤ length d.properties.items
  pub before : (i : ℕ) → i < low → (property_at d.properties.items i).node < n
  pub inside : (i : ℕ) → low ≤ i → i < high → (n ≤ (property_at d.properties.items i).node) × ((property_at d.properties.items i).node ≤ e)
  pub behind : (i : ℕ) → high ≤ i → i < length d.properties.items → e < (property_at d.properties.items i).node
