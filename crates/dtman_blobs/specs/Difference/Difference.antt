-- What one of two trees has and the other hasn't: a property, or a node with all below it, in the node at a path.
use Rattle.std.specs.Prelude.{◌≡◌, ◌⊎◌, ℕ, Bool, List, refl}
use Rattle.std.proofs.Common.{inl, inr}
use Rattle.std.specs.Coded.{Coded, code_by, coded×, coded⊎, coded_ℕ, coded_bool, coded_list}
use Rattle.dt_tree.specs.declared.property.Property.{Property}
use Rattle.dt_tree.specs.NodeData.{NodeData}
use Rattle.dt_tree.specs.NodeCode.{coded_node}

pub data Thing : Type 0 where
  property : Property → Thing
  node : NodeData → Thing

-- it is the first tree's, or the second's
pub record DifferenceData : Type 0 where
  pub is_first : Bool
  pub path : List ℕ
  pub thing : Thing

abbrev coded_property : Coded Property
coded_property =
    code_by (List ℕ × List ℕ) (coded× (coded_list coded_ℕ) (coded_list coded_ℕ)) (λ p. (p.name, p.value)) (λ q. record { name = q.0; value = q.1 }) (λ _. refl)

abbrev either : Thing → Property ⊎ NodeData
either (property p) = inl p
either (node b) = inr b

abbrev thing_of : Property ⊎ NodeData → Thing
thing_of (inl p) = property p
thing_of (inr b) = node b

pub thing_back : (t : Thing) → thing_of (either t) ≡ t
thing_back (property p) = refl
thing_back (node b) = refl

abbrev coded_thing : Coded Thing
coded_thing = code_by (Property ⊎ NodeData) (coded⊎ coded_property coded_node) either thing_of thing_back

abbrev pub coded_difference : Coded DifferenceData
coded_difference =
    code_by (Bool × (List ℕ × Thing)) (coded× coded_bool (coded× (coded_list coded_ℕ) coded_thing))
    (λ d. (d.is_first, (d.path, d.thing))) (λ p. record { is_first = p.0; path = p.1.0; thing = p.1.1 }) (λ _. refl)
