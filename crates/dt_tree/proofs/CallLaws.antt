-- The answers of the calls that change a tree, in terms of its path map.
use Rattle.std.proofs.Common.{◌≡◌, ℕ, suc, ◌+◌, ◌-◌, ◌≤◌, max, Bool, true, false, not, ◌==◌, List, [], ◌∷◌, length, Option, Some, None, Result, Ok, Err, OnOk, MatchResult, IsErr, inl, inr, if◌then◌else◌, is_some, option_and_then, nat_lt, refl, ap, sym, ◌∙◌, subst, arith}
use Rattle.std.specs.declared.alloc.Global.{Global}
use Rattle.std.specs.Option.{option_map, option_map_or}
use Rattle.std.specs.Result.{IsErrAnd}
use Rattle.std.specs.Str.{bytes_eq}
use Rattle.std.proofs.lemmas.Bool.Decides.{nat_tests}
use Rattle.dt_tree.specs.declared.error.TreeError.{TreeError}
use Rattle.dt_tree.specs.declared.error.TreeError.TheVariants.{DuplicateNode, TooDeep, NoSuchPath}
use Rattle.dt_tree.specs.declared.node.changing.Edit.{Edit}
use Rattle.dt_tree.specs.declared.node.changing.Edit.TheVariants.{AddChild}
use Rattle.dt_tree.specs.Changes.{IsRefusal, path_fault, child_fault, with_nodes}
use Rattle.dt_tree.specs.NodeData.{Siblings, none, more, NodeData, node_data, child_names, property_names, height_of}
use Rattle.dt_tree.specs.PathMap.{PathMap, child_named, node_at, path_map, tree_map, is_listed}
use Rattle.dt_tree.specs.Private.Edits.{IsWhy, grows, edit_fault, was_there, fault_at, there_at}
use Rattle.dt_tree.specs.Sound.{is_among}
use Rattle.dt_tree.specs.TreeData.{TreeData, tree_data}

-- ---- the node at the path
pub standing : (b : NodeData) (path : List (List ℕ)) → path_fault (path_map b) path ≡ None → (n : NodeData) × (node_at b path ≡ Some n)
standing b path e = at_node (node_at b path) refl e where
  at_node : (o : Option NodeData) → node_at b path ≡ o → (if is_some o then None else Some NoSuchPath) ≡ None → (n : NodeData) × (node_at b path ≡ Some n)
  at_node None f e = absurd (let bad : Some NoSuchPath ≡ None = e in cc bad)
  at_node (Some n) f e = (n, f)

-- an edit that no node refuses
pub fault-path : (e : Edit) → ((room : ℕ) (n : NodeData) → edit_fault e room n ≡ None) → (path : List (List ℕ)) (room : ℕ) (b : NodeData) → fault_at path e room b ≡ path_fault (path_map b) path
fault-path e fine [] room b = fine room b
fault-path e fine (k ∷ ks) room b = at_child (child_named b.children k) (λ c. fault-path e fine ks (room - 1) c) where
  at_child : (o : Option NodeData) → ((c : NodeData) → fault_at ks e (room - 1) c ≡ path_fault (path_map c) ks) → option_map_or (fault_at ks e (room - 1)) o (Some NoSuchPath) ≡ (if is_some (option_and_then (λ c. node_at c ks) o) then None else Some NoSuchPath)
  at_child None ih = refl
  at_child (Some c) ih = ih c

pub child_height : (f : Siblings) (k : List ℕ) (c : NodeData) → child_named f k ≡ Some c → height_of c.children + 1 ≤ height_of f
child_height none k c e = absurd (cc e)
child_height (more n p d rest) k c e = at_head _ refl e (child_height rest k c) where
  at_head : (t : Bool) → bytes_eq n k ≡ t → (if bytes_eq n k then Some (node_data n p d) else child_named rest k) ≡ Some c → (child_named rest k ≡ Some c → height_of c.children + 1 ≤ height_of rest) → height_of c.children + 1 ≤ max (height_of d + 1) (height_of rest)
  at_head true f e ih =
      let is : Some (node_data n p d) ≡ Some c = rw f at e in
      let c_is : node_data n p d ≡ c = cc is in
      let h : height_of d ≡ height_of c.children = ap (λ (b : NodeData). height_of b.children) c_is in
      omega (arith, h)
  at_head false f e ih = let h = ih (rw f at e) in omega (arith, h)

room_left : (room : ℕ) → (if room == 0 then Some TooDeep else None) ≡ (if nat_lt 0 room then None else Some TooDeep)
room_left room = grind (arith, nat_tests)

one_less : (n room : ℕ) → 1 ≤ room → nat_lt n (room - 1) ≡ nat_lt (suc n) room
one_less n room h = grind (arith, nat_tests)

-- a child that is refused
abbrev child_fault_in : List (List ℕ) → List ℕ → ℕ → Option NodeData → Option TreeError
child_fault_in path k room o =
    if not (is_some o) then Some NoSuchPath
    else (if is_listed k (option_map (λ (n : NodeData). child_names n.children) o) then Some DuplicateNode
    else (if nat_lt (length path) room then None else Some TooDeep))

pub fault-child : (a : Global) (k : List ℕ) (path : List (List ℕ)) (room : ℕ) (b : NodeData) → height_of b.children ≤ room → fault_at path (AddChild a k) room b ≡ child_fault_in path k room (node_at b path)
fault-child a k [] room b h = ap (λ (x : Option TreeError). if is_among k (child_names b.children) then Some DuplicateNode else x) (room_left room)
fault-child a k (x ∷ xs) room b h = at_child (child_named b.children x) refl (λ c l. fault-child a k xs (room - 1) c l) where
  at_child : (o : Option NodeData) → child_named b.children x ≡ o → ((c : NodeData) → height_of c.children ≤ room - 1 → fault_at xs (AddChild a k) (room - 1) c ≡ child_fault_in xs k (room - 1) (node_at c xs))
      → option_map_or (fault_at xs (AddChild a k) (room - 1)) o (Some NoSuchPath) ≡ child_fault_in (x ∷ xs) k room (option_and_then (λ c. node_at c xs) o)
  at_child None e ih = refl
  at_child (Some c) e ih =
      let l = child_height b.children x c e in
      let less = one_less (length xs) room (omega (arith, l, h)) in
      ih c (omega (arith, l, h)) ∙ ap (λ (t : Bool). if not (is_some (node_at c xs)) then Some NoSuchPath else (if is_listed k (option_map (λ (n : NodeData). child_names n.children) (node_at c xs)) then Some DuplicateNode else (if t then None else Some TooDeep))) less

-- where there is no fault, the node is there and has no such child
pub free : (b : NodeData) (path : List (List ℕ)) (k : List ℕ) → child_fault (path_map b) path k ≡ None → (n : NodeData) × (node_at b path ≡ Some n) × (is_among k (child_names n.children) ≡ false)
free b path k e = at_node (node_at b path) refl e where
  at_node : (o : Option NodeData) → node_at b path ≡ o → child_fault_in path k 64 o ≡ None → (n : NodeData) × (node_at b path ≡ Some n) × (is_among k (child_names n.children) ≡ false)
  at_node None f e = absurd (let bad : Some NoSuchPath ≡ None = e in cc bad)
  at_node (Some n) f e = (n, f, by_test _ refl e) where
    by_test : (t : Bool) → is_among k (child_names n.children) ≡ t → (if is_among k (child_names n.children) then Some DuplicateNode else (if nat_lt (length path) 64 then None else Some TooDeep)) ≡ None → is_among k (child_names n.children) ≡ false
    by_test true g e = absurd (let bad : Some DuplicateNode ≡ None = rw g at e in cc bad)
    by_test false g e = g

-- ---- whether it was there
pub property-there : (k : List ℕ) (e : Edit) → ((n : NodeData) → was_there e n ≡ is_among k (property_names n.properties)) → (path : List (List ℕ)) (b : NodeData) → there_at path e b ≡ is_listed k ((path_map b).properties path)
property-there k e is [] b = is b
property-there k e is (x ∷ xs) b = at_child (child_named b.children x) (property-there k e is xs) where
  at_child : (o : Option NodeData) → ((c : NodeData) → there_at xs e c ≡ is_listed k ((path_map c).properties xs)) → option_map_or (there_at xs e) o false ≡ is_listed k (option_map property_names (option_map (λ (n : NodeData). n.properties) (option_and_then (λ c. node_at c xs) o)))
  at_child None ih = refl
  at_child (Some c) ih = ih c

pub child-there : (k : List ℕ) (e : Edit) → ((n : NodeData) → was_there e n ≡ is_among k (child_names n.children)) → (path : List (List ℕ)) (b : NodeData) → there_at path e b ≡ is_listed k ((path_map b).children path)
child-there k e is [] b = is b
child-there k e is (x ∷ xs) b = at_child (child_named b.children x) (child-there k e is xs) where
  at_child : (o : Option NodeData) → ((c : NodeData) → there_at xs e c ≡ is_listed k ((path_map c).children xs)) → option_map_or (there_at xs e) o false ≡ is_listed k (option_map (λ (n : NodeData). child_names n.children) (option_and_then (λ c. node_at c xs) o))
  at_child None ih = refl
  at_child (Some c) ih = ih c

-- ---- the tree's map, from its nodes'
pub of_nodes : (t new : TreeData) (root : NodeData) (change : PathMap (List ℕ) → PathMap (List ℕ)) → new ≡ tree_data t.reserves t.boot_cpu root → path_map root ≡ change (path_map t.root) → tree_map new ≡ with_nodes change (tree_map t)
of_nodes t new root change is e = ap tree_map is ∙ (λ i. record { nodes = e i; reserves = t.reserves; boot_cpu = t.boot_cpu })

-- ---- answers
pub on_ok : (r : Result Bool TreeError) (A B G : Type 0) (W : TreeError → Type 0) (T : Bool → Type 0) → OnOk r A → MatchResult r (λ there. B × T there) W → (A → B → G) → OnOk r G
on_ok (Ok x) A B G W T a m f = f a m.0
on_ok (Err e) A B G W T a m f = tt

pub answered : (edit : Edit) (fault' fault : Option TreeError) (there' there : Bool) (r : Result Bool TreeError) → grows edit ≡ false → fault' ≡ fault → there' ≡ there
    → MatchResult r (λ x. (fault' ≡ None) × (x ≡ there')) (λ e. IsWhy edit fault' e) → MatchResult r (λ x. (fault ≡ None) × (x ≡ there)) (λ e. fault ≡ Some e)
answered edit fault' fault there' there (Ok x) g f t m = (sym f ∙ m.0, m.1 ∙ t)
answered edit fault' fault there' there (Err e) g f t (inl h) = sym f ∙ h
answered edit fault' fault there' there (Err e) g f t (inr h) = absurd (let bad : false ≡ true = sym g ∙ h.1 in cc bad)

pub refused : (edit : Edit) (fault' fault : Option TreeError) (e : TreeError) → fault' ≡ fault → IsWhy edit fault' e → IsRefusal fault e
refused edit fault' fault e f (inl h) = inl (sym f ∙ h)
refused edit fault' fault e f (inr h) = inr (sym f ∙ h.0, h.2)

pub passed_on : (P : Unit {0} → Type 0) (Q : TreeError → Type 0) (e : TreeError) (r : Result (Unit {0}) TreeError) → IsErr r → IsErrAnd r (λ x. x ≡ e) → Q e → MatchResult r P Q
passed_on P Q e (Ok x) h k q = absurd (cc h)
passed_on P Q e (Err x) h k q = subst Q (sym k) q
