-- How the logic stores a node.
use Rattle.std.specs.Prelude.{◌≡◌, ℕ, List}
use Rattle.std.proofs.Common.{refl, ap}
use Rattle.std.specs.Coded.{Coded, code_by, coded×, coded_ℕ, coded_list}
use base.Stored.{Gv, gnil, gnum, gcons}
use Rattle.dt_tree.specs.declared.property.Property.{Property}
use Rattle.dt_tree.specs.contracts.property.Property as property
use Rattle.dt_tree.specs.NodeData.{Siblings, none, more, NodeData}

abbrev head : Gv → Gv
head gnil = gnil
head (gnum n) = gnil
head (gcons a b) = a

abbrev tail : Gv → Gv
tail gnil = gnil
tail (gnum n) = gnil
tail (gcons a b) = b

abbrev coded_names : Coded (List ℕ)
coded_names = coded_list coded_ℕ

abbrev pub coded_properties : Coded (List Property)
coded_properties = coded_list property.the_row.coded

abbrev pub siblings_code : Siblings → Gv
siblings_code none = gnil
siblings_code (more n p c rest) = gcons (gcons (coded_names.code n) (coded_properties.code p)) (gcons (siblings_code c) (siblings_code rest))

pub siblings_code_inj : (x y : Siblings) → siblings_code x ≡ siblings_code y → x ≡ y
siblings_code_inj none none p = refl
siblings_code_inj none (more n' p' c' r') e = absurd (cc)
siblings_code_inj (more n p c r) none e = absurd (cc)
siblings_code_inj (more n p c r) (more n' p' c' r') e = λ i.
    more (coded_names.inj n n' (ap (λ g. head (head g)) e) i) (coded_properties.inj p p' (ap (λ g. tail (head g)) e) i)
    (siblings_code_inj c c' (ap (λ g. head (tail g)) e) i) (siblings_code_inj r r' (ap (λ g. tail (tail g)) e) i)

abbrev pub coded_siblings : Coded Siblings
coded_siblings = record { code = siblings_code; inj = siblings_code_inj }

abbrev pub coded_node : Coded NodeData
coded_node =
    code_by (List ℕ × (List Property × Siblings)) (coded× coded_names (coded× coded_properties coded_siblings))
    (λ b. (b.name, (b.properties, b.children))) (λ p. record { name = p.0; properties = p.1.0; children = p.1.1 }) (λ _. refl)
