-- What a tree is made of whose values are copied (Devicetree Specification v0.4, section 6.3).
use Rattle.std.specs.Prelude.{None}
use Rattle.dt_live.specs.declared.live_tree.LiveTree.{LiveTree}
use Rattle.dt_live.specs.Flattened.{Lent, lists}
use Rattle.dt_live.specs.Making.Made.{Made}

-- no node gets a phandle
abbrev pub copied : LiveTree Lent → Made
copied d = record { lists = lists d; plain = (lists d).properties; new_phandle = λ n. None }
