-- One node of the local fixups, as code makes it.
use Rattle.std.proofs.Common.{◌≡◌, ℕ, ◌+◌, ◌-◌, ◌≤◌, ◌<◌, ◌==◌, Bool, true, false, List, [], ◌∷◌, ◌++◌, length, get_or, set, take, Result, Ok, Err, if◌then◌else◌, refl, sym, ap, ◌∙◌, subst, arith}
use Rattle.std.specs.Prelude.{IfOk}
use Rattle.std.specs.List.{list_any}
use Rattle.std.proofs.lemmas.Bool.{eqb-true}
use Rattle.std.proofs.lemmas.List.{get_or_default, length-set}
use Rattle.dt_tree.specs.declared.property.Property.{Property}
use Rattle.dt_tree.specs.NodeData.{NodeData}
use Rattle.dt_source.specs.TreeMeaning.Paths.{Path, is_listed}
use Rattle.dt_source.specs.TreeMeaning.References.{held}
use Rattle.dt_source.specs.TreeMeaning.Resolved.{fronts, is_too_deep, names_taken}
use Rattle.dt_live.specs.declared.live_tree.NodeRow.{NodeRow}
use Rattle.dt_live.specs.Rows.{climb, is_standing, node_path, path_of, row_at}
use Rattle.dt_live.specs.Builder.Lists.{defined_at, with_last}
use Rattle.dt_live.specs.Builder.Builders.{built_lists, last_path}
use Rattle.dt_live.proofs.BuilderLemmas.Pushes.{IsNext}
use Rattle.dt_live.proofs.BuilderLemmas.MakingWalk.{some-node}
use Rattle.dt_live.proofs.BlankRows.{blank_row}
use Rattle.dt_build.specs.Edit.Said.{tree_of}
use Rattle.dt_build.specs.declared.draft.Draft.{Draft}
use Rattle.dt_build.specs.declared.local_properties.LocalFixup.{LocalFixup}
use Rattle.dt_build.specs.Private.Made.{lists}
use Rattle.dt_build.specs.Private.FixupSites.{key_at}
use Rattle.dt_build.specs.Private.LocalFixups.{AreListsFrom, AreMadeTo, AreMarks, all_local, has_local, local_definitions, local_path}
use Rattle.dt_build.specs.Private.NodePhandles.{path_at}
use Rattle.dt_build.specs.Private.Ready.{IsReady}
use Rattle.dt_live.proofs.MakingNodes.{count, deep, name-read, parts, path-is}
use Rattle.dt_build.proofs.MakingNodes.{order-of}
use Rattle.dt_build.proofs.LocalMarks.{at-set}
use Rattle.dt_build.proofs.LocalPushes.{mark-is, local-more, local-next, last_node-more, other-node}

pub ok-both : {A E : Type 0} (P Q R : A → Type 0) → ((a : A) → P a → Q a → R a) → (r : Result A E) → IfOk r P → IfOk r Q → IfOk r R
ok-both P Q R f (Ok a) h k = f a h k
ok-both P Q R f (Err e) h k = tt

pub lists-kept : (ls : List (List Property)) (i n : ℕ) (e : List Property) → i < length ls → (n == i) ≡ false → get_or (set ls i e) n [] ≡ get_or ls n []
lists-kept ls i n e within other = at-set ls i n e [] within ∙ ap (λ t. if t then e else get_or ls n []) other

pub not-zero : (n : ℕ) → 1 ≤ n → (n == 0) ≡ false
not-zero n some = by_test (n == 0) refl where
  by_test : (t : Bool) → (n == 0) ≡ t → t ≡ false
  by_test true e = let none : n ≡ 0 = eqb-true n 0 e in absurd (omega (arith, some, none))
  by_test false e = refl

pub first-node : (p : Draft) → IsReady p → 1 ≤ length p.in_preorder.nodes.items
first-node p ready = omega (arith, count (order-of p ready), some-node (tree_of p.live).nodes)

pub marks-are : (p : Draft) (marks : List Bool) (xs ys : List LocalFixup) → local_definitions p xs ≡ all_local p → ys ≡ xs → length marks ≡ length p.live.nodes.items + 1
    → ((j : ℕ) → is_standing p.live j ≡ true → get_or marks j false ≡ list_any (λ x. is_listed (node_path p.live j) (fronts (key_at p x.property).path)) ys) → AreMarks p marks
marks-are p marks xs ys are same long all = record {
  count = long;
  marks = λ n some there. mark-is p (node_path p.live n) some xs are (get_or marks n false) (all n there ∙ ap (list_any (λ x. is_listed (node_path p.live n) (fronts (key_at p x.property).path))) same);
}

module _ (p : Draft) (ready : IsReady p) (k : ℕ) (some : 1 ≤ k) (below : k < length p.in_preorder.nodes.items) (n : ℕ) (there : n ≡ get_or p.in_preorder.nodes.items k n) where
  pub node-is : n ≡ get_or p.in_preorder.nodes.items k 0
  node-is = there ∙ get_or_default p.in_preorder.nodes.items k n 0 below

  pub node-known : n ≤ length p.live.nodes.items
  node-known = omega (arith, node-is, ready.known k 0 below)

  pub node-stands : is_standing p.live n ≡ true
  node-stands = ap (is_standing p.live) node-is ∙ ready.there k 0 below

  pub mark-read : (marks : List Bool) → AreMarks p marks → get_or marks n false ≡ has_local p (path_at p k)
  mark-read marks are = are.marks n (deep (order-of p ready) k some below n there) node-stands ∙ ap (has_local p) (sym (path-is (order-of p ready) k some below n there))

  pub own-read : (ls : List (List Property)) (ps : List Property) → AreListsFrom k p ls → ps ≡ get_or ls n [] → defined_at (local_path (path_at p k)) ps ≡ held (all_local p) (local_path (path_at p k))
  own-read ls ps h is = ap (defined_at (local_path (path_at p k))) (is ∙ ap (λ m. get_or ls m []) node-is) ∙ h.lists k (omega arith) below

  -- the properties of the node are taken out
  pub lists-next : (symbols : Bool) → names_taken symbols p.plugin (tree_of p.live) ≡ false → list_any is_too_deep (lists symbols p).nodes ≡ false → p.plugin ≡ true → (ls new : List (List Property)) (taken : List Property)
      → new ≡ set ls n taken → AreListsFrom k p ls → AreListsFrom (k + 1) p new
  lists-next symbols free shallow plugin ls new taken put h = record {
    count = ap length put ∙ length-set ls n taken ∙ h.count;
    lists = λ j past less.
        let m = get_or p.in_preorder.nodes.items j 0 in
        let other = other-node symbols p ready free shallow plugin k j (omega (arith, past)) less in
        ap (λ (vs : List (List Property)). defined_at (local_path (path_at p j)) (get_or vs m [])) put
        ∙ ap (defined_at (local_path (path_at p j))) (lists-kept ls n m taken (omega (arith, h.count, node-known)) (ap (λ i. m == i) node-is ∙ other))
        ∙ h.lists j (omega (arith, past)) less;
  }

  module _ (symbols : Bool) (free : names_taken symbols p.plugin (tree_of p.live) ≡ false) (shallow : list_any is_too_deep (lists symbols p).nodes ≡ false) (plugin : p.plugin ≡ true) (on : has_local p (path_at p k) ≡ true)
      (bs : List NodeData) (made : AreMadeTo symbols p k bs)
      (all : List NodeRow) (same : all ≡ p.live.nodes.items) (name : List ℕ) (read : name ≡ (get_or all (n - 1) blank_row).name.now) (depth : ℕ) (depth_is : depth ≡ length (path_of p.live.nodes.items n)) where
    pub fits : IsNext (last_path bs) (built_lists bs).nodes (depth + 1) name (local_path (path_at p k))
    fits =
        let rows = p.live.nodes.items in
        let above : Path = climb (n - 1) rows (row_at rows (n - 1)).parent in
        let path : path_at p k ≡ path_of rows n = path-is (order-of p ready) k some below n there in
        let is : path_at p k ≡ above ++ name ∷ [] = path ∙ parts (order-of p ready) k some below n there ∙ ap (λ m. above ++ m ∷ []) (sym (name-read (order-of p ready) k some below n there all same name read)) in
        subst (λ (before : List Path). IsNext (last_path bs) before (depth + 1) name (local_path (path_at p k))) (sym (ap (λ r. r.nodes) made.made))
        (local-next symbols p ready free shallow plugin k below on (last_path bs) above name (depth + 1) made.last_node is (omega (arith, depth_is, ap length path)))

    pub pushed : (new : List NodeData) (ps : List Property) → defined_at (local_path (path_at p k)) ps ≡ held (all_local p) (local_path (path_at p k))
        → built_lists new ≡ with_last (take (depth + 1 - 1) (last_path bs) ++ name ∷ []) ps (built_lists bs) → last_path new ≡ take (depth + 1 - 1) (last_path bs) ++ name ∷ []
        → AreMadeTo symbols p (k + 1) new
    pushed new ps own is last_is = record {
      made = is ∙ ap (λ q. with_last q ps (built_lists bs)) fits.at ∙ ap (with_last (local_path (path_at p k)) ps) made.made
          ∙ local-more symbols p ready free shallow plugin k below on ps own;
      last_node = last_is ∙ fits.at ∙ last_node-more symbols p ready free shallow plugin k below on;
    }
