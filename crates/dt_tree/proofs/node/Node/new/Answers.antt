use Rattle.std.proofs.Common.{◌≡◌, Bool, true, false, not, Some, None, if◌then◌else◌, nat_lt, refl, sym, ◌∙◌, arith}
use Rattle.std.proofs.lemmas.Bool.Decides.{nat_tests}
use Rattle.dt_tree.specs.declared.error.TreeError.TheVariants.{BadName, DuplicateProperty, DuplicateNode, TooDeep}
use Rattle.dt_tree.specs.Fault.{are_named, fault_of}
use Rattle.dt_tree.specs.NodeData.{siblings, child_names, property_names, height_of}
use Rattle.dt_tree.specs.Sound.{are_distinct}
use Rattle.dt_tree.proofs.node.Node.new.Goals as goal

faultless : (a b d e : Bool) → (if not a then Some BadName else (if not b then Some DuplicateProperty else (if not d then Some DuplicateNode else (if e then Some TooDeep else None)))) ≡ None → (a ≡ true) × (b ≡ true) × (d ≡ true) × (e ≡ false)
faultless false b d e h = absurd (let bad : Some BadName ≡ None = h in cc bad)
faultless true false d e h = absurd (let bad : Some DuplicateProperty ≡ None = h in cc bad)
faultless true true false e h = absurd (let bad : Some DuplicateNode ≡ None = h in cc bad)
faultless true true true true h = absurd (let bad : Some TooDeep ≡ None = h in cc bad)
faultless true true true false h = (refl, refl, refl, refl)

pub from_distinct-requires : goal.from_distinct-requires
from_distinct-requires c =
    let ps = c.args.properties.items in
    let bs = c.args.children.items in
    let whole : fault_of ps bs ≡ None = sym (λ j. fault_of (c.as_slice.ensures.value j) (c.as_slice-2.ensures.value j)) ∙ c.in_ok-check_parts.ensures in
    let f = faultless (are_named bs) (are_distinct (property_names ps)) (are_distinct (child_names (siblings bs))) (nat_lt 64 (height_of (siblings bs))) whole in
    let low = f.3 in
    record { named = f.0; properties = f.1; children = f.2; height = grind (arith, nat_tests) }
