-- The walk for the greatest phandle finds it.
use Rattle.std.proofs.Common.{◌≡◌, ℕ, ◌<◌, ◌≤◌, max, Bool, true, false, ◌⊎◌, inl, inr, List, [], ◌∷◌, Option, Some, None, nat_le, refl, sym, ◌∙◌, subst, arith}
use Rattle.std.specs.Option.{option_map_or}
use Rattle.std.specs.Str.{bytes_eq}
use Rattle.std.proofs.lemmas.Slice.Eq.{bytes_eq-Decides}
use Rattle.std.proofs.lemmas.Bool.Decides.{nat_tests}
use Rattle.dt_tree.specs.declared.property.Property.{Property}
use Rattle.dt_tree.specs.NodeData.{Siblings, none, more, NodeData, node_data, child_names}
use Rattle.dt_tree.specs.PathMap.{path_map}
use Rattle.dt_tree.specs.Phandle.{phandle_at, IsGreatest, phandle_of}
use Rattle.dt_tree.specs.Private.PhandleWalk.{phandle_or_zero, unreserved, greatest_among, greatest_below, greatest_in_tree}
use Rattle.dt_tree.specs.Sound.{is_among}
use Rattle.dt_tree.proofs.PhandleLaws.{IsApart, apart, phandle_there, only_children, there_among, among_apart, first_in_there, other_in_there}
use Rattle.dt_tree.proofs.Places.{IsSoundInside, some_inj}
use Rattle.dt_tree.proofs.ReservedLaws.{outside, there-outside, apart-unreserved}

abbrev PathNames : Type 0
PathNames = List (List ℕ)

pub record IsGreatestIn (b : NodeData) (h : ℕ) : Type 0 where
  pub bound : (path : PathNames) (g : ℕ) → phandle_there b path ≡ Some g → g ≤ h
  pub reached : (h ≡ 0) ⊎ ((path : PathNames) × (phandle_there b path ≡ Some h))

-- the greater of two
pub greater_of : (m n : ℕ) → (m ≤ n) × (max m n ≡ n) ⊎ (n < m) × (max m n ≡ m)
greater_of m n = by_test (nat_le m n) refl where
  by_test : (t : Bool) → nat_le m n ≡ t → (m ≤ n) × (max m n ≡ n) ⊎ (n < m) × (max m n ≡ m)
  by_test true e = let h : m ≤ n = grind (arith, nat_tests) in inl (h, omega arith)
  by_test false e = let h : n < m = grind (arith, nat_tests) in inr (h, omega arith)

or_zero_some : (o : Option ℕ) (h : ℕ) → o ≡ Some h → option_map_or (λ g. g) o 0 ≡ h
or_zero_some None h e = absurd (cc e)
or_zero_some (Some g) h e = some_inj g h e

or_zero_above : (o : Option ℕ) (n : ℕ) → n < option_map_or (λ g. g) o 0 → o ≡ Some (option_map_or (λ g. g) o 0)
or_zero_above None n l = absurd (omega arith)
or_zero_above (Some g) n l = refl

-- ---- a node, from its children
module _ (n : List ℕ) (p : List Property) (c : Siblings) (w : IsGreatestIn (only_children c) (greatest_among c)) where
  bound_below : (path : PathNames) (g : ℕ) → phandle_there (node_data n p c) path ≡ Some g → g ≤ max (phandle_or_zero p) (greatest_among c)
  bound_below [] g e = let is = or_zero_some (phandle_of p) g e in omega (arith, is)
  bound_below (y ∷ ys) g e = let low = w.bound (y ∷ ys) g e in omega (arith, low)

  reached_below : (path : PathNames) → phandle_there (only_children c) path ≡ Some (greatest_among c) → phandle_there (node_data n p c) path ≡ Some (greatest_among c)
  reached_below [] e = absurd (let bad : None ≡ Some (greatest_among c) = e in cc bad)
  reached_below (y ∷ ys) e = e

  from_child : phandle_or_zero p ≤ greatest_among c → (greatest_among c ≡ 0) ⊎ ((path : PathNames) × (phandle_there (only_children c) path ≡ Some (greatest_among c)))
      → (greatest_among c ≡ 0) ⊎ ((path : PathNames) × (phandle_there (node_data n p c) path ≡ Some (greatest_among c)))
  from_child l (inl e) = inl e
  from_child l (inr e) = inr (e.0, reached_below e.0 e.1)

  greater_below : (phandle_or_zero p ≤ greatest_among c) × (max (phandle_or_zero p) (greatest_among c) ≡ greatest_among c) ⊎ (greatest_among c < phandle_or_zero p) × (max (phandle_or_zero p) (greatest_among c) ≡ phandle_or_zero p)
      → (greatest_below (node_data n p c) ≡ 0) ⊎ ((path : PathNames) × (phandle_there (node_data n p c) path ≡ Some (greatest_below (node_data n p c))))
  greater_below (inl l) = rw l.1 (from_child l.0 w.reached)
  greater_below (inr l) = rw l.1 (inr ([], or_zero_above (phandle_of p) (greatest_among c) l.0))

  pub below-greatest : IsGreatestIn (node_data n p c) (greatest_below (node_data n p c))
  below-greatest = record { bound = bound_below; reached = greater_below (greater_of (phandle_or_zero p) (greatest_among c)) }

-- ---- children, from the first and the others
module _ (n : List ℕ) (p : List Property) (c rest : Siblings) (alone : is_among n (child_names rest) ≡ false) (w : IsGreatestIn (node_data n p c) (greatest_below (node_data n p c)))
    (v : IsGreatestIn (only_children rest) (greatest_among rest)) where
  abbrev all : Siblings
  all = more n p c rest

  bound_at : (y : List ℕ) (ys : PathNames) (g : ℕ) (t : Bool) → bytes_eq n y ≡ t → phandle_there (only_children all) (y ∷ ys) ≡ Some g → g ≤ max (greatest_below (node_data n p c)) (greatest_among rest)
  bound_at y ys g true e is =
      let same : n ≡ y = (bytes_eq-Decides n y).0 e in
      let is' : phandle_there (only_children all) (n ∷ ys) ≡ Some g = subst (λ (z : List ℕ). phandle_there (only_children all) (z ∷ ys) ≡ Some g) (sym same) is in
      let low = w.bound ys g (sym (first_in_there n p c rest ys) ∙ is') in
      omega (arith, low)
  bound_at y ys g false e is = let low = v.bound (y ∷ ys) g (sym (other_in_there n p c rest y ys e) ∙ is) in omega (arith, low)

  bound_all : (path : PathNames) (g : ℕ) → phandle_there (only_children all) path ≡ Some g → g ≤ max (greatest_below (node_data n p c)) (greatest_among rest)
  bound_all [] g e = absurd (let bad : None ≡ Some g = e in cc bad)
  bound_all (y ∷ ys) g e = bound_at y ys g (bytes_eq n y) refl e

  reached_other : (path : PathNames) (g : ℕ) → phandle_there (only_children rest) path ≡ Some g → phandle_there (only_children all) path ≡ Some g
  reached_other [] g e = absurd (let bad : None ≡ Some g = e in cc bad)
  reached_other (y ∷ ys) g e = other_in_there n p c rest y ys (among_apart n y (child_names rest) alone (there_among rest y ys g e) _ refl) ∙ e

  from_other : (greatest_among rest ≡ 0) ⊎ ((path : PathNames) × (phandle_there (only_children rest) path ≡ Some (greatest_among rest)))
      → (greatest_among rest ≡ 0) ⊎ ((path : PathNames) × (phandle_there (only_children all) path ≡ Some (greatest_among rest)))
  from_other (inl e) = inl e
  from_other (inr e) = inr (e.0, reached_other e.0 (greatest_among rest) e.1)

  from_first : (greatest_below (node_data n p c) ≡ 0) ⊎ ((path : PathNames) × (phandle_there (node_data n p c) path ≡ Some (greatest_below (node_data n p c))))
      → (greatest_below (node_data n p c) ≡ 0) ⊎ ((path : PathNames) × (phandle_there (only_children all) path ≡ Some (greatest_below (node_data n p c))))
  from_first (inl e) = inl e
  from_first (inr e) = inr (n ∷ e.0, first_in_there n p c rest e.0 ∙ e.1)

  greater_all : (greatest_below (node_data n p c) ≤ greatest_among rest) × (max (greatest_below (node_data n p c)) (greatest_among rest) ≡ greatest_among rest)
      ⊎ (greatest_among rest < greatest_below (node_data n p c)) × (max (greatest_below (node_data n p c)) (greatest_among rest) ≡ greatest_below (node_data n p c))
      → (max (greatest_below (node_data n p c)) (greatest_among rest) ≡ 0) ⊎ ((path : PathNames) × (phandle_there (only_children all) path ≡ Some (max (greatest_below (node_data n p c)) (greatest_among rest))))
  greater_all (inl l) = rw l.1 (from_other v.reached)
  greater_all (inr l) = rw l.1 (from_first w.reached)

  pub among_more-greatest : IsGreatestIn (only_children all) (greatest_among all)
  among_more-greatest = record { bound = bound_all; reached = greater_all (greater_of (greatest_below (node_data n p c)) (greatest_among rest)) }

pub among-greatest : (f : Siblings) → IsApart f → IsGreatestIn (only_children f) (greatest_among f)
among-greatest none a = record { bound = bound_none; reached = inl refl } where
  bound_none : (path : PathNames) (g : ℕ) → phandle_there (only_children none) path ≡ Some g → g ≤ 0
  bound_none [] g e = absurd (let bad : None ≡ Some g = e in cc bad)
  bound_none (y ∷ ys) g e = absurd (let bad : None ≡ Some g = e in cc bad)
among-greatest (more n p c rest) a = among_more-greatest n p c rest a.0 (below-greatest n p c (among-greatest c a.1)) (among-greatest rest a.2)

-- the answer for the whole tree
pub tree_greatest : (b : NodeData) → IsSoundInside b → IsGreatest (path_map b) (greatest_in_tree b)
tree_greatest b s =
    let w = below-greatest b.name b.properties (unreserved b.children) (among-greatest (unreserved b.children) (apart-unreserved b.children (apart b.children s.siblings.distinct s.below))) in
    record { bound = λ path g e. w.bound path g (sym (there-outside b path) ∙ e); reached = lift (greatest_in_tree b) w.reached } where
      lift : (g : ℕ) → (g ≡ 0) ⊎ ((path : PathNames) × (phandle_there (outside b) path ≡ Some g)) → (g ≡ 0) ⊎ ((path : PathNames) × (phandle_at (path_map b) path ≡ Some g))
      lift g (inl e) = inl e
      lift g (inr e) = inr (e.0, there-outside b e.0 ∙ e.1)
