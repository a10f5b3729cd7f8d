-- The order, the targets and what was found, of what is left.
use Rattle.std.proofs.Common.{◌≡◌, ◌==◌, ◌&&◌, ℕ, Bool, true, false, List, [], ◌∷◌, length, map, Option, Some, None, if◌then◌else◌, refl, sym, ap, ap₂, ◌∙◌, subst, arith}
use Rattle.std.specs.Prelude.{All}
use Rattle.std.specs.List.{filter}
use Rattle.std.proofs.lemmas.Bool.{eqb-true}
use Rattle.std.proofs.lemmas.List.Elements.{filter_passes}
use Rattle.dt_source.specs.TreeMeaning.Paths.{Path}
use Rattle.dt_source.specs.TreeMeaning.Edits.{Definition, definition}
use Rattle.dt_source.specs.TreeMeaning.References.{in_order, preorder}
use Rattle.dt_source.specs.TreeMeaning.DtcResolved.{is_left}
use Rattle.dt_live.specs.declared.live_tree.LiveTree.{LiveTree}
use Rattle.dt_live.specs.declared.preorder.properties.NodeProperty.{NodeProperty}
use Rattle.dt_live.specs.Preorder.{definition_of}
use Rattle.dt_live.specs.Rows.{IsLiveTree, IsNode, is_standing, node_path, state_of}
use Rattle.dt_live.proofs.Each.{Each, each-all, each-kept, each-more, each-of}
use Rattle.dt_build.specs.Edit.Said.{Parts}
use Rattle.dt_build.specs.declared.resolve.gathered.Rest.{Rest}
use Rattle.dt_build.specs.Resolve.Founds.{found_properties}
use Rattle.dt_build.specs.Resolve.Gathered.{IsAmong}
use Rattle.dt_build.specs.Resolve.Targets.{IsKnown}
use Rattle.dt_build.specs.Resolve.Private.Gathering.{IsInOrder, IsWithout, founds_in, paths_in}
use Rattle.dt_build.specs.Resolve.Private.Gone.{IsThereIn, Leaves, left_targets}
use Rattle.dt_build.proofs.ResolveLemmas.GoneNodes.{root-left}
use Rattle.dt_build.proofs.ResolveLemmas.LeftFounds.{each-target, left-founds}
use Rattle.dt_build.proofs.ResolveLemmas.LeftRows.{filter-every, leaves-none}
use Rattle.dt_build.proofs.ResolveLemmas.LeftWalk.{nodes-left, order-left}

map-by : {A B : Type 0} (f : A → B) (t : A → Bool) (u : B → Bool) (x : A) (xs : List A) → map f (filter t xs) ≡ filter u (map f xs) → (b : Bool)
    → map f (if b then x ∷ filter t xs else filter t xs) ≡ (if b then f x ∷ filter u (map f xs) else filter u (map f xs))
map-by f t u x xs rest true = ap (λ ys. f x ∷ ys) rest
map-by f t u x xs rest false = rest

pub map-left : {A B : Type 0} (f : A → B) (t : A → Bool) (u : B → Bool) (xs : List A) → Each (λ x. t x ≡ u (f x)) xs → map f (filter t xs) ≡ filter u (map f xs)
map-left f t u [] h = refl
map-left f t u (x ∷ xs) h = map-by f t u x xs (map-left f t u xs h.1) (t x) ∙ ap (λ b. if b then f x ∷ filter u (map f xs) else filter u (map f xs)) h.0

pub each-both : {A : Type 0} (P Q : A → Type 0) (xs : List A) → Each P xs → Each Q xs → Each (λ x. P x × Q x) xs
each-both P Q [] a b = tt
each-both P Q (x ∷ xs) a b = ((a.0, b.0), each-both P Q xs a.1 b.1)

pub nothing-in : {A : Type 0} (xs : List A) → (length xs == 0) ≡ true → xs ≡ []
nothing-in [] e = refl
nothing-in (x ∷ xs) e = absurd (omega (arith, eqb-true (length (x ∷ xs)) 0 e))

-- where nothing goes, all is as it was
pub without-none : (d : LiveTree Parts) (x : Rest) (gone : List ℕ) → gone ≡ [] → IsInOrder d x → IsWithout gone d x d x
without-none d x gone none order = subst (λ (ns : List ℕ). IsWithout ns d x d x) (sym none) (record {
  rows = leaves-none d;
  order = order;
  founds = sym (filter-every (λ e. is_left [] e.path) (λ e. refl) (founds_in d x));
  among = λ test all. all;
})

module _ (gone : List ℕ) (old new : LiveTree Parts) (sound : IsLiveTree old) (each : Each (IsThereIn old) gone) (left : Leaves (paths_in old gone) old new) where
  abbrev G : List Path
  G = paths_in old gone

  pub same-paths : node_path new ≡ node_path old
  same-paths = λ i k. left.rows.paths k i

  pub agrees : (n : ℕ) → IsNode old n → is_standing old n ≡ true → is_standing new n ≡ is_left G (node_path old n)
  agrees n known up = left.rows.stand n known ∙ ap (λ b. b && is_left G (node_path old n)) up

  pub node-new : (n : ℕ) → IsNode old n → IsNode new n
  node-new n known = omega (arith, known, left.rows.count)

  pub target-new : (t : Option ℕ) → IsKnown old t → IsKnown new t
  target-new None known = tt
  target-new (Some n) known = node-new n known

  module _ (was now : Rest) (order : IsInOrder old was) (nodes : now.in_preorder.nodes.items ≡ filter (is_standing new) was.in_preorder.nodes.items)
      (properties : now.in_preorder.properties.items ≡ filter (λ x. is_standing new x.node) was.in_preorder.properties.items)
      (targets : now.targets.items ≡ left_targets (is_standing new) was.in_preorder.properties.items was.targets.items) where
    abbrev ns : List ℕ
    ns = was.in_preorder.nodes.items

    abbrev xs : List (NodeProperty Parts)
    xs = was.in_preorder.properties.items

    nodes-agree : Each (λ n. is_standing new n ≡ is_left G (node_path old n)) ns
    nodes-agree =
        each-more (λ n. IsNode old n × (is_standing old n ≡ true)) (λ n. is_standing new n ≡ is_left G (node_path old n)) ns (λ n h. agrees n h.0 h.1)
        (each-both (λ n. IsNode old n) (λ n. is_standing old n ≡ true) ns (each-of (λ n. IsNode old n) ns order.known) (each-of (λ n. is_standing old n ≡ true) ns order.there))

    properties-agree : Each (λ x. is_standing new x.node ≡ is_left G (node_path old x.node)) xs
    properties-agree =
        each-more (λ x. IsNode old x.node × (is_standing old x.node ≡ true)) (λ x. is_standing new x.node ≡ is_left G (node_path old x.node)) xs (λ x h. agrees x.node h.0 h.1)
        (each-both (λ x. IsNode old x.node) (λ x. is_standing old x.node ≡ true) xs (each-of (λ x. IsNode old x.node) xs order.owners) (each-of (λ x. is_standing old x.node ≡ true) xs order.stand))

    root : is_left G [] ≡ true
    root = root-left old sound gone each

    nodes-new : map (node_path new) now.in_preorder.nodes.items ≡ preorder (state_of new).nodes
    nodes-new =
        ap₂ (λ (f : ℕ → Path) ms. map f ms) same-paths nodes
        ∙ map-left (node_path old) (is_standing new) (is_left G) ns nodes-agree
        ∙ ap (filter (is_left G)) order.nodes ∙ sym (nodes-left G (state_of old) root) ∙ ap (λ s. preorder s.nodes) (sym left.state)

    abbrev by_paths : (ℕ → Path) → NodeProperty Parts → Definition Parts
    by_paths path x = definition (path x.node) x.name.now x.value

    properties-new : map (definition_of new) now.in_preorder.properties.items ≡ in_order (state_of new)
    properties-new =
        ap₂ (λ (f : ℕ → Path) ys. map (by_paths f) ys) same-paths properties
        ∙ map-left (by_paths (node_path old)) (λ x. is_standing new x.node) (λ e. is_left G e.path) xs properties-agree
        ∙ ap (filter (λ e. is_left G e.path)) order.properties ∙ sym (order-left G (state_of old) root) ∙ ap in_order (sym left.state)

    order-new : IsInOrder new now
    order-new = record {
      nodes = nodes-new;
      known = each-all (λ n. IsNode new n) now.in_preorder.nodes.items (subst (λ (ms : List ℕ). Each (λ n. IsNode new n) ms) (sym nodes)
          (each-kept (λ n. IsNode new n) (is_standing new) ns (each-more (λ n. IsNode old n) (λ n. IsNode new n) ns node-new (each-of (λ n. IsNode old n) ns order.known))));
      there = subst (λ (ms : List ℕ). All (λ n. is_standing new n ≡ true) ms) (sym nodes) (filter_passes (is_standing new) ns);
      properties = properties-new;
      owners = each-all (λ x. IsNode new x.node) now.in_preorder.properties.items (subst (λ (ys : List (NodeProperty Parts)). Each (λ x. IsNode new x.node) ys) (sym properties)
          (each-kept (λ x. IsNode new x.node) (λ x. is_standing new x.node) xs (each-more (λ x. IsNode old x.node) (λ x. IsNode new x.node) xs (λ x known. node-new x.node known) (each-of (λ x. IsNode old x.node) xs order.owners))));
      stand = subst (λ (ys : List (NodeProperty Parts)). All (λ x. is_standing new x.node ≡ true) ys) (sym properties) (filter_passes (λ x. is_standing new x.node) xs);
      targets = each-all (IsKnown new) now.targets.items (subst (λ (ts : List (Option ℕ)). Each (IsKnown new) ts) (sym targets)
          (each-more (IsKnown old) (IsKnown new) (left_targets (is_standing new) xs was.targets.items) target-new (each-target (IsKnown old) tt (is_standing new) xs was.targets.items order.targets)));
    }

    pub without : IsWithout gone old was new now
    without = record {
      rows = left;
      order = order-new;
      founds =
          ap₂ (λ (f : ℕ → Path) ys. found_properties f ys now.targets.items) same-paths properties
          ∙ ap (found_properties (node_path old) (filter (λ x. is_standing new x.node) xs)) targets
          ∙ left-founds (node_path old) (is_standing new) (is_left G) xs properties-agree was.targets.items;
      among = λ test all. each-all (IsAmong test) now.targets.items (subst (λ (ts : List (Option ℕ)). Each (IsAmong test) ts) (sym targets) (each-target (IsAmong test) tt (is_standing new) xs was.targets.items all));
    }
