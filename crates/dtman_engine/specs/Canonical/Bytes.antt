-- Trees whose values have bytes. Of others the canonical text has digits that no source has.
use Rattle.std.specs.Prelude.{ℕ, nat_lt, Bool, true, ◌&&◌, List, IsTrue}
use Rattle.std.specs.List.{list_all}
use Rattle.dt_tree.specs.declared.property.Property.{Property}
use Rattle.dt_tree.specs.NodeData.{Siblings, none, more}
use Rattle.dt_tree.specs.TreeData.{TreeData}

-- numbers below 256
abbrev pub are_bytes : List ℕ → Bool
are_bytes bytes = list_all (λ b. nat_lt b 256) bytes

abbrev pub have_bytes : List Property → Bool
have_bytes ps = list_all (λ p. are_bytes p.value) ps

abbrev pub hold_bytes : Siblings → Bool
hold_bytes none = true
hold_bytes (more n p c rest) = have_bytes p && (hold_bytes c && hold_bytes rest)

abbrev pub HasBytes : TreeData → Type 0
HasBytes t = IsTrue (have_bytes t.root.properties && hold_bytes t.root.children)
