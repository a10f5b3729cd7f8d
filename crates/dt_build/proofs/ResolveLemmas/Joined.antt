-- Phandles and targets together.
use Rattle.std.proofs.Common.{◌≡◌, ℕ, ◌==◌, ◌++◌, ◌&&◌, ◌||◌, not, Bool, true, false, if◌then◌else◌, List, [], ◌∷◌, length, map, Result, Ok, Err, refl, sym, ap, ap₂, ◌∙◌}
use Rattle.std.specs.List.{list_any}
use Rattle.std.specs.Prelude.{All}
use Rattle.std.proofs.lemmas.List.{length-map}
use Rattle.dt_tree.specs.Steps.{then_do}
use Rattle.dt_source.specs.TreeMeaning.Edits.{Definition}
use Rattle.dt_source.specs.TreeMeaning.Statements.{Fault, ReservedName}
use Rattle.dt_source.specs.TreeMeaning.Phandles.{PathPhandle, assigned, labelled, named_in_cells, new_ones}
use Rattle.dt_source.specs.TreeMeaning.References.{Found, preorder}
use Rattle.dt_live.specs.declared.live_tree.LiveTree.{LiveTree}
use Rattle.dt_live.specs.Index.{row_of}
use Rattle.dt_live.specs.Rows.{IsLiveTree, IsNode, is_standing, node_path, path_of, state_of}
use Rattle.dt_build.specs.Edit.Said.{Parts, tree_of}
use Rattle.dt_build.specs.declared.resolve.error.BuildErrorKind.{BuildErrorKind}
use Rattle.dt_build.specs.declared.resolve.node_phandles.Given.{Given}
use Rattle.dt_build.specs.declared.resolve.node_phandles.NodePhandle.{NodePhandle}
use Rattle.dt_build.specs.declared.resolve.references.Targets.{Targets}
use Rattle.dt_build.specs.Resolve.BuildFault.{IsFault}
use Rattle.dt_build.specs.Resolve.NodePhandles.{AreStanding, path_phandle_of}
use Rattle.dt_build.specs.Resolve.Targets.{AreFound}
use Rattle.dt_build.specs.Resolve.Private.Wanted.{HasTaken, free_after, is_taken, labelled_rows, new_phandles, new_rows, assigned_rows, numbered, phandles_of}
use Rattle.dt_live.proofs.Each.{Each, each-all, each-append, each-kept, each-of, each-when}
use Rattle.dt_tree.specs.Phandle.{is_reserved}
use Rattle.std.specs.List.{filter}
use Rattle.std.proofs.lemmas.List.{map-append}
use Rattle.dt_source.specs.TreeMeaning.Paths.{same_path}
use Rattle.dt_build.proofs.ResolveLemmas.LabelledPaths.{labelled-same}
use Rattle.dt_build.proofs.ResolveLemmas.Faults.{fault-same}
use Rattle.dt_build.proofs.ResolveLemmas.PathPhandles.{EachStands, each-assigned, given-same, news-same, phandles-same}

-- what is named is a node
pub named-within : (P : ℕ → Type 0) (d : LiveTree Parts) (symbols : Bool) (cells order : List ℕ) → All P cells → All P order → Each P (cells ++ (if symbols then labelled_rows d order else []))
named-within P d symbols cells order a b =
    each-append P cells (if symbols then labelled_rows d order else []) (each-of P cells a)
    (each-when P symbols (labelled_rows d order) (each-kept P (λ n. list_any (λ r. r.node == n) d.labels.items && not (is_reserved (node_path d n))) order (each-of P order b)))

when-labelled : (d : LiveTree Parts) → IsLiveTree d → (symbols : Bool) (order : List ℕ) → EachStands d.nodes.items order → map (node_path d) order ≡ preorder (state_of d).nodes
    → map (node_path d) (if symbols then labelled_rows d order else []) ≡ (if symbols then labelled (tree_of d) else [])
when-labelled d sound true order up at =
    labelled-same d.nodes.items (row_of d.node_rows) sound.grown sound.nodes d.labels.items order up
    ∙ ap (filter (λ p. list_any (λ l. same_path p l.path) (state_of d).labels && not (is_reserved p))) at
when-labelled d sound false order up at = refl

-- those that are named, by their paths
pub named-paths : (d : LiveTree Parts) → IsLiveTree d → (es : List (Definition (List Found))) (t : Targets) → AreFound d es t → (symbols : Bool) (order : List ℕ) → All (λ n. is_standing d n ≡ true) order → map (node_path d) order ≡ preorder (state_of d).nodes
    → map (node_path d) (t.cells.items ++ (if symbols then labelled_rows d order else [])) ≡ named_in_cells es ++ (if symbols then labelled (tree_of d) else [])
named-paths d sound es t at symbols order there nodes =
    map-append (node_path d) t.cells.items (if symbols then labelled_rows d order else [])
    ∙ ap₂ (λ a b. a ++ b) at.cells (when-labelled d sound symbols order (each-of (λ n. is_standing d n ≡ true) order there) nodes)

-- ---- each that has a phandle is a node of the tree
new-by : (P : ℕ → Type 0) (known : ℕ → Bool) (n : ℕ) (ns : List ℕ) (b : Bool) → P n → Each P (new_rows known ns) → Each P (new_rows (λ m. (m == n) || known m) ns)
    → Each P (if b then new_rows known ns else n ∷ new_rows (λ m. (m == n) || known m) ns)
new-by P known n ns true h old more = old
new-by P known n ns false h old more = (h, more)

each-new : (P : ℕ → Type 0) (known : ℕ → Bool) (ns : List ℕ) → Each P ns → Each P (new_rows known ns)
each-new P known [] h = tt
each-new P known (n ∷ ns) h = new-by P known n ns (known n) h.0 (each-new P known ns h.1) (each-new P (λ m. (m == n) || known m) ns h.1)

each-row : (P : ℕ → Type 0) (taken : ℕ → Bool) (tries n : ℕ) (ks : List ℕ) → Each P ks → Each (λ (x : NodePhandle). P x.node) (assigned_rows taken tries n ks)
each-row P taken tries n [] h = tt
each-row P taken tries n (k ∷ ks) h = (h.0, each-row P taken tries (free_after taken tries n) ks h.1)

-- ---- nodes that get numbers
module _ (d : LiveTree Parts) (sound : IsLiveTree d) (given : Given) (up : AreStanding d.nodes.items given.phandles.items) (taken : HasTaken d.nodes.items given) (last : ℕ)
    (nodes : List ℕ) (known : All (λ n. IsNode d n) nodes) (there : All (λ n. is_standing d n ≡ true) nodes) where
  abbrev xs : List PathPhandle
  xs = phandles_of d.nodes.items given

  abbrev wants : List ℕ
  wants = new_rows (λ n. list_any (λ x. x.node == n) given.phandles.items) nodes

  abbrev rows : List NodePhandle
  rows = new_phandles given last wants

  wants-same : map (path_of d.nodes.items) wants ≡ new_ones (map (λ x. x.path) xs) (map (node_path d) nodes)
  wants-same =
      news-same d.nodes.items (row_of d.node_rows) sound.grown sound.nodes (λ n. list_any (λ x. x.node == n) given.phandles.items) (map (λ x. x.path) xs)
      (given-same d.nodes.items (row_of d.node_rows) sound.grown sound.nodes given.phandles.items (each-assigned d.nodes.items given.phandles.items up.stand)) nodes
      (each-of (λ n. is_standing d n ≡ true) nodes there)

  pub all-numbered : map (path_phandle_of d.nodes.items) rows ≡ numbered xs last (map (node_path d) nodes)
  all-numbered =
      phandles-same d.nodes.items (is_taken given.taken) xs (length given.phandles.items) taken (sym (length-map given.phandles.items (path_phandle_of d.nodes.items))) last wants
      ∙ ap (assigned xs last) wants-same

  pub all-standing : AreStanding d.nodes.items rows
  all-standing = record {
    known = each-all (λ (x : NodePhandle). IsNode d x.node) rows
        (each-row (λ n. IsNode d n) (is_taken given.taken) (length given.phandles.items) last wants (each-new (λ n. IsNode d n) (λ n. list_any (λ x. x.node == n) given.phandles.items) nodes (each-of (λ n. IsNode d n) nodes known)));
    stand = each-all (λ (x : NodePhandle). is_standing d x.node ≡ true) rows
        (each-row (λ n. is_standing d n ≡ true) (is_taken given.taken) (length given.phandles.items) last wants (each-new (λ n. is_standing d n ≡ true) (λ n. list_any (λ x. x.node == n) given.phandles.items) nodes (each-of (λ n. is_standing d n ≡ true) nodes there)));
  }

-- a fault of the references, where the phandles have none
pub fault-behind : (e : BuildErrorKind) (r : Result (List PathPhandle) Fault) (q : Result (List (Definition (List Found))) Fault) (given : List PathPhandle) → r ≡ Ok given → IsFault e q → IsFault e (then_do r (λ _. q))
fault-behind e r q given is fault = fault-same e q (then_do r (λ _. q)) (ap (λ x. then_do x (λ _. q)) is) fault

-- behind a name that is free
pub free-fault : (e : BuildErrorKind) (b : Bool) (r : Result (List (Definition (List Found))) Fault) → b ≡ false → IsFault e r → IsFault e (if b then Err ReservedName else r)
free-fault e b r free fault = fault-same e r (if b then Err ReservedName else r) (ap (λ c. if c then Err ReservedName else r) free) fault
