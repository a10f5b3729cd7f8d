-- What a look-up by a path says of the reasons not to change a blob.
use Rattle.std.proofs.Common.{◌≡◌, ℕ, ◌<◌, ◌≤◌, Bool, true, false, List, [], ◌∷◌, length, Option, Some, None, refl, sym, subst, ◌∙◌, arith}
use Rattle.std.specs.Prelude.{◌==◌, nat_lt}
use Rattle.dt_tree.specs.Name.{is_name}
use Rattle.dt_tree.specs.NodeData.{NodeData, child_names}
use Rattle.dt_tree.specs.Path.{is_path, path_names}
use Rattle.dt_tree.specs.PathMap.{node_at, value_of}
use Rattle.dt_tree.specs.Sound.{is_among}
use Rattle.dt_blob.proofs.Tests.{equal, test_below, test_equal, test_not_below}
use Rattle.dt_patch.specs.declared.error.PatchError.{PatchError}
use Rattle.dt_patch.specs.declared.error.PatchError.TheVariants.{BadName, BadPath, Exists, NoNode, NoProperty, OtherLength, Root, TooDeep, Unordered}
use Rattle.dt_patch.specs.Adding.{growth_fault}
use Rattle.dt_patch.specs.Removing.{absence_fault, removal_fault}
use Rattle.dt_patch.specs.Setting.{length_fault, missing, or_unordered, path_fault, place_fault, value_fault}

-- what isn't false is true
pub true_else : (b : Bool) → (b ≡ false → ⊥) → b ≡ true
true_else true n = refl
true_else false n = absurd (n refl)

pub bad_path : (root : NodeData) (path : List ℕ) → is_path path ≡ false → path_fault root path ≡ Some BadPath
bad_path root path e = rw e refl

pub no_node : (root : NodeData) (path : List ℕ) → is_path path ≡ true → node_at root (path_names path) ≡ None → path_fault root path ≡ Some NoNode
no_node root path e f = rw (e, f) refl

-- what the path's fault says of what is looked for at it
by_path : (P : Option PatchError → Type 0) (root : NodeData) (path : List ℕ) (e : PatchError) → (is_path path ≡ false → P (Some BadPath)) → (is_path path ≡ true → node_at root (path_names path) ≡ None → P (Some NoNode)) → path_fault root path ≡ Some e → P (Some e)
by_path P root path e bad none f = by_test (is_path path) refl f where
  by_node : (o : Option NodeData) → node_at root (path_names path) ≡ o → is_path path ≡ true → missing (node_at root (path_names path)) ≡ Some e → P (Some e)
  by_node None h t g = let same : Some NoNode ≡ Some e = (rw h at g) in subst P same (none t h)
  by_node (Some d) h t g = absurd (let no : None ≡ Some e = (rw h at g) in cc no)

  by_test : (t : Bool) → is_path path ≡ t → path_fault root path ≡ Some e → P (Some e)
  by_test false h g = let same : Some BadPath ≡ Some e = (rw h at g) in subst P same (bad h)
  by_test true h g = by_node (node_at root (path_names path)) refl h (rw h at g)

pub no_value : (root : NodeData) (path name : List ℕ) (n : ℕ) (e : PatchError) → path_fault root path ≡ Some e → value_fault root path name n ≡ Some e
no_value root path name n e f = by_path (λ (o : Option PatchError). value_fault root path name n ≡ o) root path e (λ h. rw h refl) (λ h g. rw (h, g) refl) f

pub no_place : (root : NodeData) (path name : List ℕ) (e : PatchError) → path_fault root path ≡ Some e → place_fault root path name ≡ Some e
no_place root path name e f = by_path (λ (o : Option PatchError). place_fault root path name ≡ o) root path e (λ h. rw h refl) (λ h g. rw (h, g) refl) f

pub bad_name : (root node : NodeData) (path name : List ℕ) → is_path path ≡ true → node_at root (path_names path) ≡ Some node → is_name name ≡ false → place_fault root path name ≡ Some BadName
bad_name root node path name e f g = rw (e, f, g) refl

pub no_property : (root node : NodeData) (path name : List ℕ) (n : ℕ) → is_path path ≡ true → node_at root (path_names path) ≡ Some node → value_of node.properties name ≡ None → value_fault root path name n ≡ Some NoProperty
no_property root node path name n e f g = rw (e, f, g) refl

pub by_length : (root node : NodeData) (path name value : List ℕ) (n : ℕ) → is_path path ≡ true → node_at root (path_names path) ≡ Some node → value_of node.properties name ≡ Some value → value_fault root path name n ≡ length_fault (Some value) n
by_length root node path name value n e f g = rw (e, f, g) refl

pub told_first : (fault : Option PatchError) (e : PatchError) (b : Bool) → fault ≡ Some e → or_unordered fault b ≡ Some e
told_first fault e b f = rw f refl

pub same_length : (value : List ℕ) (n : ℕ) → length value ≡ n → length_fault (Some value) n ≡ None
same_length value n e = let same : (length value == n) ≡ true = test_equal (length value) n e in rw same refl

pub other_length : (value : List ℕ) (n : ℕ) → (length value ≡ n → ⊥) → length_fault (Some value) n ≡ Some OtherLength
other_length value n d = by_test (length value == n) refl where
  by_test : (t : Bool) → (length value == n) ≡ t → length_fault (Some value) n ≡ Some OtherLength
  by_test true e = absurd (d (equal (length value) n e))
  by_test false e = rw e refl

pub then_ordered : (fault : Option PatchError) (b : Bool) → fault ≡ None → b ≡ true → or_unordered fault b ≡ None
then_ordered fault b f e = rw (f, e) refl

pub then_unordered : (fault : Option PatchError) (b : Bool) → fault ≡ None → b ≡ false → or_unordered fault b ≡ Some Unordered
then_unordered fault b f e = rw (f, e) refl

-- ---- what is taken out

pub is_there : (root node : NodeData) (path name value : List ℕ) → is_path path ≡ true → node_at root (path_names path) ≡ Some node → value_of node.properties name ≡ Some value → absence_fault root path name ≡ None
is_there root node path name value e f g = rw (e, f, g) refl

-- a value that isn't set to any length isn't there
pub is_absent : (root : NodeData) (path name : List ℕ) (e : PatchError) → ((n : ℕ) → value_fault root path name n ≡ Some e) → absence_fault root path name ≡ Some e
is_absent root path name e f = by_path_test (is_path path) refl where
  by_value : (node : NodeData) (o : Option (List ℕ)) → is_path path ≡ true → node_at root (path_names path) ≡ Some node → value_of node.properties name ≡ o → absence_fault root path name ≡ Some e
  by_value node None h g v = let told : Some NoProperty ≡ Some e = rw (h, g, v) at (f 0) in rw (h, g, v) told
  by_value node (Some value) h g v =
      let told : length_fault (Some value) (length value) ≡ Some e = rw (h, g, v) at (f (length value)) in
      absurd (let bad : None ≡ Some e = sym (same_length value (length value) refl) ∙ told in cc bad)

  by_node : (o : Option NodeData) → is_path path ≡ true → node_at root (path_names path) ≡ o → absence_fault root path name ≡ Some e
  by_node None h g = let told : Some NoNode ≡ Some e = rw (h, g) at (f 0) in rw (h, g) told
  by_node (Some node) h g = by_value node (value_of node.properties name) h g refl

  by_path_test : (t : Bool) → is_path path ≡ t → absence_fault root path name ≡ Some e
  by_path_test false h = let told : Some BadPath ≡ Some e = rw h at (f 0) in rw h told
  by_path_test true h = by_node (node_at root (path_names path)) h refl

-- the root's path has no names
pub is_root : (root : NodeData) (path : List ℕ) → is_path path ≡ true → length (path_names path) ≡ 0 → removal_fault root path ≡ Some Root
is_root root path e h = let none : (length (path_names path) == 0) ≡ true = test_equal (length (path_names path)) 0 h in rw (e, none) refl

not_root : (path : List ℕ) → (length (path_names path) ≡ 0 → ⊥) → (length (path_names path) == 0) ≡ false
not_root path d = by_test (length (path_names path) == 0) refl where
  by_test : (t : Bool) → (length (path_names path) == 0) ≡ t → (length (path_names path) == 0) ≡ false
  by_test true e = absurd (d (equal (length (path_names path)) 0 e))
  by_test false e = e

pub is_removed : (root node : NodeData) (path : List ℕ) → is_path path ≡ true → (length (path_names path) ≡ 0 → ⊥) → node_at root (path_names path) ≡ Some node → removal_fault root path ≡ None
is_removed root node path e d f = let some = not_root path d in rw (e, some, f) refl

-- where a path has no node, it is none or leads past the root
pub isnt_removed : (root : NodeData) (path : List ℕ) (e : PatchError) → path_fault root path ≡ Some e → removal_fault root path ≡ Some e
isnt_removed root path e f = by_path (λ (o : Option PatchError). removal_fault root path ≡ o) root path e (λ h. rw h refl) (λ h g. let some = not_root path (λ z. nowhere z g) in rw (h, some, g) refl) f where
  nowhere : length (path_names path) ≡ 0 → node_at root (path_names path) ≡ None → ⊥
  nowhere z g = by_names (path_names path) z g where
    by_names : (ns : List (List ℕ)) → length ns ≡ 0 → node_at root ns ≡ None → ⊥
    by_names [] h i = cc i
    by_names (n ∷ ns) h i = omega (arith, h)

-- ---- what is added

pub isnt_grown : (root : NodeData) (path name : List ℕ) (e : PatchError) → path_fault root path ≡ Some e → growth_fault root path name ≡ Some e
isnt_grown root path name e f = by_path (λ (o : Option PatchError). growth_fault root path name ≡ o) root path e (λ h. rw h refl) (λ h g. rw (h, g) refl) f

pub bad_child : (root node : NodeData) (path name : List ℕ) → is_path path ≡ true → node_at root (path_names path) ≡ Some node → is_name name ≡ false → growth_fault root path name ≡ Some BadName
bad_child root node path name e f g = rw (e, f, g) refl

pub known_child : (root node : NodeData) (path name : List ℕ) → is_path path ≡ true → node_at root (path_names path) ≡ Some node → is_name name ≡ true → is_among name (child_names node.children) ≡ true → growth_fault root path name ≡ Some Exists
known_child root node path name e f g h = rw (e, f, g, h) refl

pub deep_child : (root node : NodeData) (path name : List ℕ) → is_path path ≡ true → node_at root (path_names path) ≡ Some node → is_name name ≡ true → is_among name (child_names node.children) ≡ false → 64 ≤ length (path_names path) → growth_fault root path name ≡ Some TooDeep
deep_child root node path name e f g h l = let t : nat_lt (length (path_names path)) 64 ≡ false = test_not_below (length (path_names path)) 64 l in rw (e, f, g, h, t) refl

pub new_child : (root node : NodeData) (path name : List ℕ) → is_path path ≡ true → node_at root (path_names path) ≡ Some node → is_name name ≡ true → is_among name (child_names node.children) ≡ false → length (path_names path) < 64 → growth_fault root path name ≡ None
new_child root node path name e f g h l = let t : nat_lt (length (path_names path)) 64 ≡ true = test_below (length (path_names path)) 64 l in rw (e, f, g, h, t) refl
