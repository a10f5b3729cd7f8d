-- One property or one child put in, taken out or replaced, at its place.
use Rattle.std.proofs.Common.{◌≡◌, ℕ, ◌+◌, ◌<◌, true, false, List, [], ◌∷◌, ◌++◌, length, get_or, Option, Some, None, refl, ap, arith}
use Rattle.std.proofs.Math.ListN.{set}
use Rattle.std.proofs.lemmas.Grind.{common_steps}
use Rattle.std.specs.List.{remove}
use Rattle.dt_tree.specs.declared.property.Property.{Property}
use Rattle.dt_tree.specs.NodeData.{Siblings, none, more, NodeData, node_data, siblings, child_names, property_names}
use Rattle.dt_tree.specs.PathMap.{child_named}
use Rattle.dt_tree.specs.Private.Edits.{place_of, put_property, drop_property, push_child, drop_child, change_child}
use Rattle.dt_tree.specs.Sound.{is_among}
use Rattle.dt_tree.proofs.AtPlace.{AreNamesOf, at_place, no_place}

pub named_properties : AreNamesOf property_names (λ p. p.name)
named_properties = record { nil = refl; cons = λ p ps. refl }

abbrev pub names_of : List NodeData → List (List ℕ)
names_of bs = child_names (siblings bs)

-- the node of this name among them
abbrev pub child_in : List NodeData → List ℕ → Option NodeData
child_in bs k = child_named (siblings bs) k

pub named_children : AreNamesOf names_of (λ b. b.name)
named_children = record { nil = refl; cons = λ b bs. refl }

-- a place behind the first
pub set-later : {X : Type 0} (x : X) (xs : List X) (j : ℕ) (y : X) → set (x ∷ xs) (j + 1) y ≡ x ∷ set xs j y
set-later x xs j y = grind (arith, common_steps)

pub get-later : {X : Type 0} (x : X) (xs : List X) (j : ℕ) (d : X) → get_or (x ∷ xs) (j + 1) d ≡ get_or xs j d
get-later x xs j d = grind (arith, common_steps)

-- ---- a property
pub record IsPropertyAt (k : List ℕ) (ps : List Property) (at : ℕ) : Type 0 where
  pub in_range : at < length ps
  pub there : is_among k (property_names ps) ≡ true
  pub put : (p : Property) (v : List ℕ) → p ≡ get_or ps at p → set ps at (record { name = p.name; value = v }) ≡ put_property (record { name = k; value = v }) ps
  pub dropped : remove ps at ≡ drop_property k ps

pub property_at : (k : List ℕ) (ps : List Property) (at : ℕ) → place_of (property_names ps) k ≡ Some at → IsPropertyAt k ps at
property_at k = at_place property_names (λ p. p.name) named_properties k (IsPropertyAt k)
    (λ x xs e. record {
      in_range = omega arith;
      there = rw e refl;
      put = λ p v is. let is' : p ≡ x = is in rw (e, is') refl;
      dropped = rw e refl;
    })
    (λ x xs j e h. record {
      in_range = let i = h.in_range in grind (arith, i);
      there = rw e h.there;
      put = λ p v is. let r = h.put p v (grind (arith, common_steps, is)) in grind (arith, common_steps, r, e);
      dropped = let r = h.dropped in grind (arith, common_steps, r, e);
    })

pub record IsNoProperty (k : List ℕ) (ps : List Property) : Type 0 where
  pub absent : is_among k (property_names ps) ≡ false
  pub put : (v : List ℕ) → ps ++ record { name = k; value = v } ∷ [] ≡ put_property (record { name = k; value = v }) ps
  pub dropped : ps ≡ drop_property k ps

pub no_property : (k : List ℕ) (ps : List Property) → place_of (property_names ps) k ≡ None → IsNoProperty k ps
no_property k = no_place property_names (λ p. p.name) named_properties k (IsNoProperty k)
    (record { absent = refl; put = λ v. refl; dropped = refl })
    (λ x xs e h. record {
      absent = rw e h.absent;
      put = λ v. rw e (ap (λ (l : List Property). x ∷ l) (h.put v));
      dropped = rw e (ap (λ (l : List Property). x ∷ l) h.dropped);
    })

-- ---- a child
pub record IsChildAt (k : List ℕ) (bs : List NodeData) (at : ℕ) : Type 0 where
  pub in_range : at < length bs
  pub there : is_among k (names_of bs) ≡ true
  pub found : (b : NodeData) → b ≡ get_or bs at b → child_named (siblings bs) k ≡ Some b
  pub changed : (f : NodeData → NodeData) (b b' : NodeData) → b ≡ get_or bs at b → b' ≡ f b → siblings (set bs at b') ≡ change_child k f (siblings bs)
  pub kept : (b : NodeData) → b ≡ get_or bs at b → set bs at b ≡ bs
  pub dropped : siblings (remove bs at) ≡ drop_child k (siblings bs)

pub child_at : (k : List ℕ) (bs : List NodeData) (at : ℕ) → place_of (names_of bs) k ≡ Some at → IsChildAt k bs at
child_at k = at_place names_of (λ b. b.name) named_children k (IsChildAt k)
    (λ x xs e. record {
      in_range = omega arith;
      there = rw e refl;
      found = λ b is. let is' : b ≡ x = is in rw (e, is') refl;
      changed = λ f b b' is is'. let there : b ≡ x = is in rw (e, is', there) refl;
      kept = λ b is. let is' : b ≡ x = is in rw is' refl;
      dropped = rw e refl;
    })
    (λ x xs j e h. record {
      in_range = let i = h.in_range in grind (arith, i);
      there = rw e h.there;
      found = λ b is. let r = h.found b (grind (arith, common_steps, is)) in rw e r;
      changed = λ f b b' is is'. let r = h.changed f b b' (grind (arith, common_steps, is)) is' in grind (arith, common_steps, r, e);
      kept = λ b is. let r = h.kept b (grind (arith, common_steps, is)) in grind (arith, common_steps, r, e);
      dropped = let r = h.dropped in grind (arith, common_steps, r, e);
    })

pub record IsNoChild (k : List ℕ) (bs : List NodeData) : Type 0 where
  pub absent : is_among k (names_of bs) ≡ false
  pub missing : child_named (siblings bs) k ≡ None
  pub dropped : siblings bs ≡ drop_child k (siblings bs)

pub no_child : (k : List ℕ) (bs : List NodeData) → place_of (names_of bs) k ≡ None → IsNoChild k bs
no_child k = no_place names_of (λ b. b.name) named_children k (IsNoChild k)
    (record { absent = refl; missing = refl; dropped = refl })
    (λ x xs e h. record {
      absent = rw e h.absent;
      missing = rw e h.missing;
      dropped = rw e (ap (λ (f : Siblings). more x.name x.properties x.children f) h.dropped);
    })

pub pushed : (k : List ℕ) (bs : List NodeData) → siblings (bs ++ node_data k [] none ∷ []) ≡ push_child k (siblings bs)
pushed k [] = refl
pushed k (b ∷ bs) = ap (λ (f : Siblings). more b.name b.properties b.children f) (pushed k bs)
