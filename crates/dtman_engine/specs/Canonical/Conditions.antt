-- When the canonical source of a tree means that tree (Devicetree Specification v0.4, section 2.3.3): a source says nothing of the
-- processor that boots, and each property `phandle` outside the reserved nodes is a phandle of one node.
use Rattle.std.specs.Prelude.{◌≡◌, ℕ, List, Some, codes, IsSome}
use Rattle.dt_tree.specs.PathMap.{PathMap, path_map}
use Rattle.dt_tree.specs.Phandle.{is_reserved, phandle_at}
use Rattle.dt_tree.specs.TreeData.{TreeData}
use Rattle.std.specs.Prelude.{false}

pub record HasSourcePhandles (m : PathMap (List ℕ)) : Type 0 where
  pub lawful : (path : List (List ℕ)) → is_reserved path ≡ false → IsSome (m.value path (codes "phandle")) → IsSome (phandle_at m path)
  pub apart : (p q : List (List ℕ)) (h : ℕ) → phandle_at m p ≡ Some h → phandle_at m q ≡ Some h → p ≡ q

pub record IsSourceTree (t : TreeData) : Type 0 where
  pub boots : t.boot_cpu ≡ 0
  pub phandles : HasSourcePhandles (path_map t.root)
