-- What stands at each path after a change of the node at one path.
use Rattle.std.proofs.Common.{◌≡◌, ℕ, Bool, true, false, ◌&&◌, List, [], ◌∷◌, ◌++◌, Option, Some, None, if◌then◌else◌, is_some, option_and_then, refl, ap, sym, ◌∙◌, append-nil}
use Rattle.std.specs.Option.{option_map, option_map_or}
use Rattle.std.specs.Str.{bytes_eq}
use Rattle.std.proofs.lemmas.Slice.Eq.{bytes_eq-Decides}
use Rattle.dt_tree.specs.declared.property.Property.{Property}
use Rattle.dt_tree.specs.Changes.{same_path, is_within}
use Rattle.dt_tree.specs.NodeData.{Siblings, none, more, NodeData, node_data, child_names, property_names}
use Rattle.dt_tree.specs.PathMap.{PathMap, child_named, node_at, value_of, path_map}
use Rattle.dt_tree.specs.Private.Edits.{change_child, change_at}
use Rattle.dt_tree.proofs.NameLists.{bytes_eq-sym}

-- a node without what is below its children
abbrev pub look : NodeData → List Property × List (List ℕ)
look b = (b.properties, child_names b.children)

abbrev pub look_at : NodeData → List (List ℕ) → Option (List Property × List (List ℕ))
look_at b q = option_map look (node_at b q)

-- what follows the first path in the second, where that begins with it
abbrev pub behind : List (List ℕ) → List (List ℕ) → Option (List (List ℕ))
behind [] q = Some q
behind (x ∷ xs) [] = None
behind (x ∷ xs) (y ∷ ys) = if bytes_eq x y then behind xs ys else None

pub same-behind : (path r q : List (List ℕ)) → same_path (path ++ r) q ≡ option_map_or (same_path r) (behind path q) false
same-behind [] r q = refl
same-behind (x ∷ xs) r [] = refl
same-behind (x ∷ xs) r (y ∷ ys) = at_head _ refl (same-behind xs r ys) where
  at_head : (t : Bool) → bytes_eq x y ≡ t → same_path (xs ++ r) ys ≡ option_map_or (same_path r) (behind xs ys) false → (bytes_eq x y && same_path (xs ++ r) ys) ≡ option_map_or (same_path r) (if bytes_eq x y then behind xs ys else None) false
  at_head true e ih = rw e ih
  at_head false e ih = rw e refl

pub same-end : (path q : List (List ℕ)) → same_path path q ≡ option_map_or (same_path []) (behind path q) false
same-end path q = ap (λ (p : List (List ℕ)). same_path p q) (sym (append-nil path)) ∙ same-behind path [] q

pub within-behind : (path r q : List (List ℕ)) → is_within (path ++ r) q ≡ option_map_or (is_within r) (behind path q) false
within-behind [] r q = refl
within-behind (x ∷ xs) r [] = refl
within-behind (x ∷ xs) r (y ∷ ys) = at_head _ refl (within-behind xs r ys) where
  at_head : (t : Bool) → bytes_eq x y ≡ t → is_within (xs ++ r) ys ≡ option_map_or (is_within r) (behind xs ys) false → (bytes_eq x y && is_within (xs ++ r) ys) ≡ option_map_or (is_within r) (if bytes_eq x y then behind xs ys else None) false
  at_head true e ih = rw e ih
  at_head false e ih = rw e refl

pub same_path-eq : (p q : List (List ℕ)) → same_path p q ≡ true → p ≡ q
same_path-eq [] [] e = refl
same_path-eq [] (y ∷ ys) e = absurd (cc e)
same_path-eq (x ∷ xs) [] e = absurd (cc e)
same_path-eq (x ∷ xs) (y ∷ ys) e = at_head _ refl e (same_path-eq xs ys) where
  at_head : (t : Bool) → bytes_eq x y ≡ t → (bytes_eq x y && same_path xs ys) ≡ true → (same_path xs ys ≡ true → xs ≡ ys) → x ∷ xs ≡ y ∷ ys
  at_head true f e ih = let h = (bytes_eq-Decides x y).0 f in let r = ih (rw f at e) in λ i. h i ∷ r i
  at_head false f e ih = absurd (let bad : false ≡ true = rw f at e in cc bad)

-- ---- the change
module _ (k : List ℕ) (g : NodeData → NodeData) (named : (b : NodeData) → (g b).name ≡ b.name) where
  names_at : (n : List ℕ) (p : List Property) (c rest : Siblings) (t : Bool) → bytes_eq n k ≡ t → child_names (change_child k g rest) ≡ child_names rest → child_names (change_child k g (more n p c rest)) ≡ n ∷ child_names rest
  names_at n p c rest true e ih = rw e (ap (λ (x : List ℕ). x ∷ child_names rest) (named (node_data n p c)))
  names_at n p c rest false e ih = rw e (ap (λ (x : List (List ℕ)). n ∷ x) ih)

  pub child_names-change : (f : Siblings) → child_names (change_child k g f) ≡ child_names f
  child_names-change none = refl
  child_names-change (more n p c rest) = names_at n p c rest _ refl (child_names-change rest)

  none_either : {A : Type 0} (t : Bool) → ◌≡◌ {A = Option A} None (if t then None else None)
  none_either true = refl
  none_either false = refl

  child_at : (n : List ℕ) (p : List Property) (c rest : Siblings) (y : List ℕ) (t : Bool) → bytes_eq n k ≡ t → (u : Bool) → bytes_eq n y ≡ u
      → child_named (change_child k g rest) y ≡ (if bytes_eq k y then option_map g (child_named rest y) else child_named rest y)
      → child_named (change_child k g (more n p c rest)) y ≡ (if bytes_eq k y then option_map g (child_named (more n p c rest) y) else child_named (more n p c rest) y)
  child_at n p c rest y true e u f ih = by_name u f where
    same : n ≡ k
    same = (bytes_eq-Decides n k).0 e

    by_name : (u : Bool) → bytes_eq n y ≡ u → child_named (change_child k g (more n p c rest)) y ≡ (if bytes_eq k y then option_map g (child_named (more n p c rest) y) else child_named (more n p c rest) y)
    by_name true f =
        let gy = ap (λ (m : List ℕ). bytes_eq m y) (named (node_data n p c)) ∙ f in
        let ky = ap (λ (m : List ℕ). bytes_eq m y) (sym same) ∙ f in
        rw (e, gy, f, ky) refl
    by_name false f =
        let gy = ap (λ (m : List ℕ). bytes_eq m y) (named (node_data n p c)) ∙ f in
        let ky = ap (λ (m : List ℕ). bytes_eq m y) (sym same) ∙ f in
        rw (e, gy, f, ky) refl
  child_at n p c rest y false e true f ih =
      let same : n ≡ y = (bytes_eq-Decides n y).0 f in
      let ky = bytes_eq-sym y k false (ap (λ (m : List ℕ). bytes_eq m k) (sym same) ∙ e) in
      rw (e, f, ky) refl
  child_at n p c rest y false e false f ih = rw (e, f) ih

  pub child_named-change : (f : Siblings) (y : List ℕ) → child_named (change_child k g f) y ≡ (if bytes_eq k y then option_map g (child_named f y) else child_named f y)
  child_named-change none y = none_either (bytes_eq k y)
  child_named-change (more n p c rest) y = child_at n p c rest y _ refl _ refl (child_named-change rest y)

pub change_at-name : (path : List (List ℕ)) (g : NodeData → NodeData) → ((b : NodeData) → (g b).name ≡ b.name) → (b : NodeData) → (change_at path g b).name ≡ b.name
change_at-name [] g named b = named b
change_at-name (x ∷ xs) g named b = refl

-- the part of a path behind the changed node shows that node changed; other paths show what they showed
pub look_at-change : (g : NodeData → NodeData) (named : (b : NodeData) → (g b).name ≡ b.name) (path q : List (List ℕ)) (b : NodeData) → look_at (change_at path g b) q ≡ option_map_or (λ rest. option_and_then (λ n. look_at (g n) rest) (node_at b path)) (behind path q) (look_at b q)
look_at-change g named [] q b = refl
look_at-change g named (x ∷ xs) [] b = ap (λ (ns : List (List ℕ)). Some (b.properties, ns)) (child_names-change x (change_at xs g) (change_at-name xs g named) b.children)
look_at-change g named (x ∷ xs) (y ∷ ys) b =
    ap (λ (o : Option NodeData). option_map look (option_and_then (λ c. node_at c ys) o)) (child_named-change x (change_at xs g) (change_at-name xs g named) b.children y)
    ∙ at_head _ refl (λ c. look_at-change g named xs ys c) where
      none_in : (o : Option (List (List ℕ))) → ◌≡◌ {A = Option (List Property × List (List ℕ))} None (option_map_or (λ rest. None) o None)
      none_in None = refl
      none_in (Some r) = refl

      at_child : (o : Option NodeData) → ((c : NodeData) → look_at (change_at xs g c) ys ≡ option_map_or (λ rest. option_and_then (λ n. look_at (g n) rest) (node_at c xs)) (behind xs ys) (look_at c ys))
          → option_map look (option_and_then (λ c. node_at c ys) (option_map (change_at xs g) o))
          ≡ option_map_or (λ rest. option_and_then (λ n. look_at (g n) rest) (option_and_then (λ c. node_at c xs) o)) (behind xs ys) (option_map look (option_and_then (λ c. node_at c ys) o))
      at_child None ih = none_in (behind xs ys)
      at_child (Some c) ih = ih c

      at_head : (t : Bool) → bytes_eq x y ≡ t → ((c : NodeData) → look_at (change_at xs g c) ys ≡ option_map_or (λ rest. option_and_then (λ n. look_at (g n) rest) (node_at c xs)) (behind xs ys) (look_at c ys))
          → option_map look (option_and_then (λ c. node_at c ys) (if bytes_eq x y then option_map (change_at xs g) (child_named b.children y) else child_named b.children y))
          ≡ option_map_or (λ rest. option_and_then (λ n. look_at (g n) rest) (option_and_then (λ c. node_at c xs) (child_named b.children x))) (if bytes_eq x y then behind xs ys else None) (option_map look (option_and_then (λ c. node_at c ys) (child_named b.children y)))
      at_head true e ih = let same : x ≡ y = (bytes_eq-Decides x y).0 e in rw (e, same) (at_child (child_named b.children y) ih)
      at_head false e ih = rw e refl

-- a path behind another shows what its rest shows from there
pub look-behind : (path q rest : List (List ℕ)) (b n : NodeData) → behind path q ≡ Some rest → node_at b path ≡ Some n → look_at b q ≡ look_at n rest
look-behind [] q rest b n e is = let q_is : q ≡ rest = cc e in let b_is : b ≡ n = cc is in rw (q_is, b_is) refl
look-behind (x ∷ xs) [] rest b n e is = absurd (cc e)
look-behind (x ∷ xs) (y ∷ ys) rest b n e is = at_head _ refl e (λ c. look-behind xs ys rest c n) where
  at_child : (o : Option NodeData) → ((c : NodeData) → behind xs ys ≡ Some rest → node_at c xs ≡ Some n → look_at c ys ≡ look_at n rest) → behind xs ys ≡ Some rest → option_and_then (λ c. node_at c xs) o ≡ Some n → option_map look (option_and_then (λ c. node_at c ys) o) ≡ look_at n rest
  at_child None ih e is = absurd (cc is)
  at_child (Some c) ih e is = ih c e is

  at_head : (t : Bool) → bytes_eq x y ≡ t → (if bytes_eq x y then behind xs ys else None) ≡ Some rest → ((c : NodeData) → behind xs ys ≡ Some rest → node_at c xs ≡ Some n → look_at c ys ≡ look_at n rest) → look_at b (y ∷ ys) ≡ look_at n rest
  at_head true f e ih = let same : x ≡ y = (bytes_eq-Decides x y).0 f in at_child (child_named b.children y) ih (rw f at e) (rw same at is)
  at_head false f e ih = absurd (let bad : None ≡ Some rest = rw f at e in cc bad)

-- ---- the map of what each path shows
abbrev pub map_of : (List (List ℕ) → Option (List Property × List (List ℕ))) → PathMap (List ℕ)
map_of show = record {
  has = λ q. is_some (show q);
  properties = λ q. option_map (λ l. property_names l.0) (show q);
  children = λ q. option_map (λ l. l.1) (show q);
  value = λ q j. option_and_then (λ l. value_of l.0 j) (show q);
}

pub path_map-look : (b : NodeData) → path_map b ≡ map_of (look_at b)
path_map-look b = λ i. record { has = λ q. has (node_at b q) i; properties = λ q. properties (node_at b q) i; children = λ q. children (node_at b q) i; value = λ q j. value j (node_at b q) i } where
  has : (o : Option NodeData) → is_some o ≡ is_some (option_map look o)
  has None = refl
  has (Some n) = refl

  properties : (o : Option NodeData) → option_map property_names (option_map (λ (n : NodeData). n.properties) o) ≡ option_map (λ l. property_names l.0) (option_map look o)
  properties None = refl
  properties (Some n) = refl

  children : (o : Option NodeData) → option_map (λ (n : NodeData). child_names n.children) o ≡ option_map (λ l. l.1) (option_map look o)
  children None = refl
  children (Some n) = refl

  value : (j : List ℕ) (o : Option NodeData) → option_and_then (λ ps. value_of ps j) (option_map (λ (n : NodeData). n.properties) o) ≡ option_and_then (λ l. value_of l.0 j) (option_map look o)
  value j None = refl
  value j (Some n) = refl
