-- What is gathered of a tree that stands is what the meaning gathers.
use Rattle.dt_live.proofs.NodesStanding.{there-by}
use Rattle.dt_live.proofs.Climbs.{one-node}
use Rattle.dt_live.specs.Index.{row_of}
use Rattle.std.proofs.Common.{◌≡◌, ◌≤◌, ◌&&◌, ◌||◌, not, ℕ, Bool, true, false, List, [], ◌∷◌, ◌++◌, length, map, Option, Result, Ok, Err, Vec, if◌then◌else◌, refl, sym, ap, ap₂, ◌∙◌, true≢false, arith, Some, None, subst}
use Rattle.std.specs.Prelude.{All}
use Rattle.std.specs.Global.{Global}
use Rattle.std.specs.List.{filter, list_any}
use Rattle.std.proofs.lemmas.Bool.{and_parts}
use Rattle.std.proofs.lemmas.List.{map-append}
use Rattle.dt_tree.specs.Phandle.{is_reserved}
use Rattle.dt_tree.specs.Steps.{then_do}
use Rattle.dt_source.specs.TreeMeaning.Paths.{Path, is_listed}
use Rattle.dt_source.specs.TreeMeaning.Syntax.{Piece}
use Rattle.dt_source.specs.TreeMeaning.Edits.{Definition, State, counted}
use Rattle.dt_source.specs.TreeMeaning.Phandles.{PathPhandle, path_phandle}
use Rattle.dt_source.specs.TreeMeaning.References.{Found, preorder, references}
use Rattle.dt_source.specs.TreeMeaning.Resolved.{names_taken, when}
use Rattle.dt_source.specs.TreeMeaning.Statements.{Fault, ReservedName}
use Rattle.dt_source.specs.TreeMeaning.DtcEdits.{DtcTree, ever_labelled}
use Rattle.dt_source.specs.TreeMeaning.DtcStatements.{dtc_state}
use Rattle.dt_source.specs.TreeMeaning.DtcPhandles.{asks_for_own, given_by_both, numbers_of_cells, numbers_of_symbols}
use Rattle.dt_source.specs.TreeMeaning.DtcResolved as meaning
use Rattle.dt_source.specs.TreeMeaning.DtcResolved.{fixed_up, goes, is_left, rest_of, symbol_nodes}
use Rattle.dt_live.specs.declared.live_tree.LiveTree.{LiveTree}
use Rattle.dt_live.specs.Rows.{IsLiveTree, IsNode, is_standing, node_path, state_of}
use Rattle.dt_live.proofs.Each.{Each, each-all, each-append, each-more, each-of}
use Rattle.dt_build.specs.declared.edit.standing.Standing.{Standing}
use Rattle.dt_build.specs.Edit.Said.{Parts, read, read_definition, tree_of}
use Rattle.dt_build.specs.Edit.Standing.{IsStandingOf}
use Rattle.dt_build.proofs.EditLemmas.Reading.{filter-read}
use Rattle.dt_build.specs.declared.resolve.error.BuildErrorKind.{BuildErrorKind}
use Rattle.dt_build.specs.declared.resolve.gathered.Gathering.{Gathering}
use Rattle.dt_build.specs.declared.resolve.gathered.Numbered.{Numbered}
use Rattle.dt_build.specs.declared.resolve.gathered.Rest.{Rest}
use Rattle.dt_build.specs.declared.resolve.node_phandles.NodePhandle.{NodePhandle}
use Rattle.dt_build.specs.Resolve.BuildFault.{IsFault}
use Rattle.dt_build.specs.Resolve.Gathered.{HaveStood, IsAmong, IsGathered, all_gathered}
use Rattle.dt_build.specs.Resolve.NodePhandles.{path_phandle_of}
use Rattle.dt_build.specs.Resolve.Targets.{IsKnown, IsThere}
use Rattle.dt_build.specs.Resolve.Private.Gathering.{Extends, IsAsFound, IsFixed, IsNumbered, IsWithout, all_numbers, fixed_in, founds_in, paths_in, phandles_in, whole}
use Rattle.dt_build.specs.Resolve.Private.Gone.{IsThereIn, LeavesRows, gone_rows, is_marked, left_of}
use Rattle.dt_build.specs.Resolve.Private.SymbolNumbers.{left_numbers, symbol_numbers}
use Rattle.dt_build.specs.Resolve.Private.Wanted.{marked_rows}
use Rattle.dt_build.proofs.ResolveLemmas.Counted.{counted-references}
use Rattle.dt_build.proofs.ResolveLemmas.Faults.{fault-same, fault-then}
use Rattle.dt_build.proofs.ResolveLemmas.GoneNodes.{gone-paths, root-left, stands-known}
use Rattle.dt_build.proofs.ResolveLemmas.LeftRows.{filter-every, listed-left, state-none}
use Rattle.dt_build.proofs.ResolveLemmas.Without.{each-both, map-left}

-- ---- references found anew
pub fixed-true : (plugin : Bool) (s : State (List Piece)) (es : List (Definition (List Found))) → plugin ≡ true → references true s ≡ Ok es → fixed_up plugin s ≡ Ok (when plugin (filter (λ e. not (asks_for_own e)) es))
fixed-true true s es is found = ap (λ r. then_do r (λ ds. Ok (filter (λ e. not (asks_for_own e)) ds))) found
fixed-true false s es is found = absurd (true≢false (sym is))

pub fixed-fault : (plugin : Bool) (s : State (List Piece)) (e : BuildErrorKind) → plugin ≡ true → IsFault e (references true s) → IsFault e (fixed_up plugin s)
fixed-fault true s e is fault = fault-then e (references true s) (λ ds. Ok (filter (λ x. not (asks_for_own x)) ds)) fault
fixed-fault false s e is fault = absurd (true≢false (sym is))

counted-fixed : (n : ℕ) (s : State (List Piece)) (plugin : Bool) → fixed_up plugin (counted n s) ≡ fixed_up plugin s
counted-fixed n s true = ap (λ r. then_do r (λ ds. Ok (filter (λ x. not (asks_for_own x)) ds))) (counted-references n s true)
counted-fixed n s false = refl

-- targets that stand pass
one-among : (d : LiveTree Parts) (test : ℕ → Bool) → ((n : ℕ) → IsNode d n → is_standing d n ≡ true → test n ≡ true) → (t : Option ℕ) → IsKnown d t × IsThere d t → IsAmong test t
one-among d test up None h = tt
one-among d test up (Some n) h = up n h.0 h.1

pub anew-among : (d : LiveTree Parts) (test : ℕ → Bool) → ((n : ℕ) → IsNode d n → is_standing d n ≡ true → test n ≡ true) → (ts : List (Option ℕ)) → All (IsKnown d) ts → All (IsThere d) ts → All (IsAmong test) ts
anew-among d test up ts known there =
    each-all (IsAmong test) ts
    (each-more (λ t. IsKnown d t × IsThere d t) (IsAmong test) ts (one-among d test up) (each-both (IsKnown d) (IsThere d) ts (each-of (IsKnown d) ts known) (each-of (IsThere d) ts there)))

-- ---- faults
fault-more : {A B C : Type 0} (e : BuildErrorKind) (r : Result A Fault) (f : A → Result B Fault) (k : A → B → Result C Fault) → IsFault e (then_do r f) → IsFault e (then_do r (λ a. then_do (f a) (k a)))
fault-more e (Ok a) f k fault = fault-then e (f a) (k a) fault
fault-more {A} {B} {C} e (Err x) f k fault = fault-then {A = B} {B = C} e (Err x) (λ _. Err x) fault

-- ---- what is left, as the source says it
left-read : (gone : List Path) (n : ℕ) (s : State Parts) → rest_of gone (counted n (read s)) ≡ counted n (read (left_of gone s))
left-read gone n s =
    ap (λ ps. record { nodes = filter (is_left gone) s.nodes; properties = ps; labels = filter (λ l. is_left gone l.path) s.labels; fragments = n })
    (filter-read read_definition (λ e. is_left gone e.path) s.properties)

-- ---- numbers behind those of cells
module _ (d new : LiveTree Parts) {plugin : Bool} (x : Numbered) (numbered : IsNumbered plugin d x) {gone : List Path} (rows : LeavesRows gone d.nodes.items new.nodes.items) (ys : List NodePhandle) (extends : Extends new x.of_cells.items ys) where
  abbrev more : List NodePhandle
  more = extends.more

  pub extends-known : All (λ y. IsNode new y.node) ys
  extends-known = subst (λ (zs : List NodePhandle). All (λ y. IsNode new y.node) zs) (sym extends.items)
      (each-all (λ (y : NodePhandle). IsNode new y.node) (x.of_cells.items ++ more)
      (each-append (λ y. IsNode new y.node) x.of_cells.items more
      (each-more (λ y. IsNode d y.node) (λ y. IsNode new y.node) x.of_cells.items (λ y known. omega (arith, known, rows.count)) (each-of (λ y. IsNode d y.node) x.of_cells.items numbered.numbered.known))
      (each-of (λ y. IsNode new y.node) more extends.standing.known)))

  pub extends-stood : All (λ y. is_standing d y.node ≡ true) ys
  extends-stood = subst (λ (zs : List NodePhandle). All (λ y. is_standing d y.node ≡ true) zs) (sym extends.items)
      (each-all (λ (y : NodePhandle). is_standing d y.node ≡ true) (x.of_cells.items ++ more)
      (each-append (λ y. is_standing d y.node ≡ true) x.of_cells.items more
      (each-of (λ y. is_standing d y.node ≡ true) x.of_cells.items numbered.numbered.stand)
      (each-more (λ y. IsNode new y.node × (is_standing new y.node ≡ true)) (λ y. is_standing d y.node ≡ true) more
      (λ y h.
      let known : y.node ≤ length d.nodes.items = omega (arith, h.0, rows.count) in
      (and_parts (is_standing d y.node) (is_left gone (node_path d y.node)) (sym (rows.stand y.node known) ∙ h.1)).0)
      (each-both (λ y. IsNode new y.node) (λ y. is_standing new y.node ≡ true) more (each-of (λ y. IsNode new y.node) more extends.standing.known) (each-of (λ y. is_standing new y.node ≡ true) more extends.standing.stand)))))

any-by : {A B : Type 0} (f : A → B) (t : A → Bool) (u : B → Bool) (xs : List A) → Each (λ x. t x ≡ u (f x)) xs → list_any t xs ≡ list_any u (map f xs)
any-by f t u [] h = refl
any-by f t u (x ∷ xs) h = ap₂ (λ a b. a || b) h.0 (any-by f t u xs h.1)

module _ (symbols plugin : Bool) (t : DtcTree) (s : Standing) (of : IsStandingOf s t) (free : names_taken symbols plugin (tree_of s.live) ≡ false) where
  abbrev d : LiveTree Parts
  d = s.live

  start : all_gathered symbols plugin t ≡ then_do (references plugin (tree_of d)) (λ es. then_do (given_by_both es []) (λ given. meaning.gathered symbols plugin t es given))
  start =
      ap (λ b. if b then Err ReservedName else then_do (references plugin (dtc_state t)) (λ es. then_do (given_by_both es []) (λ given. meaning.gathered symbols plugin t es given)))
      (ap (names_taken symbols plugin) of.tree ∙ free)
      ∙ ap (λ r. then_do r (λ es. then_do (given_by_both es []) (λ given. meaning.gathered symbols plugin t es given)))
      (ap (references plugin) of.tree ∙ counted-references t.fragments (tree_of d) plugin)

  pub cells-fault : (e : BuildErrorKind) → IsFault e (then_do (references plugin (tree_of d)) (λ es. given_by_both es [])) → IsFault e (all_gathered symbols plugin t)
  cells-fault e fault =
      fault-same e _ (all_gathered symbols plugin t) start
      (fault-more e (references plugin (tree_of d)) (λ es. given_by_both es []) (λ es given. meaning.gathered symbols plugin t es given) fault)

  module _ (x : Numbered) (numbered : IsNumbered plugin d x) (gone : List ℕ) (goes_rows : gone ≡ gone_rows s x.rest.targets.items symbols) (each-gone : Each (IsThereIn d) gone) (new : LiveTree Parts) (now : Rest) (without : IsWithout gone d x.rest new now) where
    abbrev es : List (Definition (List Found))
    es = founds_in d x.rest

    abbrev given : List PathPhandle
    given = phandles_in d x.given.items

    abbrev G : List Path
    G = filter (goes symbols t es) (dtc_state t).nodes

    gone-same : paths_in d gone ≡ G
    gone-same =
        ap (paths_in d) goes_rows ∙ gone-paths s t of symbols es x.rest.targets.items (each-of (IsThere d) x.rest.targets.items numbered.there) numbered.named
        ∙ ap (λ u. filter (goes symbols t es) u.nodes) (sym of.tree)

    rest-same : rest_of G (dtc_state t) ≡ counted t.fragments (tree_of new)
    rest-same =
        ap₂ (λ g u. rest_of g u) (sym gone-same) of.tree ∙ left-read (paths_in d gone) t.fragments (state_of d)
        ∙ ap (λ u. counted t.fragments (read u)) (sym without.rows.state)

    -- ---- the meaning
    abbrev of_cells : List PathPhandle
    of_cells = numbers_of_cells given es

    abbrev kept : List PathPhandle
    kept = filter (λ y. is_left G y.path) (given ++ of_cells)

    abbrev of_symbols : List PathPhandle
    of_symbols = numbers_of_symbols kept of_cells (when symbols (symbol_nodes t (rest_of G (dtc_state t))))

    abbrev meant : List (Definition (List Found)) → meaning.Gathered
    meant fixed = record {
      rest = rest_of G (dtc_state t);
      values = filter (λ e. is_left G e.path) es;
      fixed = fixed;
      given = given;
      new = of_cells ++ of_symbols;
    }

    all-is : all_gathered symbols plugin t ≡ then_do (fixed_up plugin (tree_of new)) (λ fixed. Ok (meant fixed))
    all-is =
        start ∙ ap (λ r. then_do r (λ ds. then_do (given_by_both ds []) (λ given. meaning.gathered symbols plugin t ds given))) numbered.found
        ∙ ap (λ r. then_do r (λ given. meaning.gathered symbols plugin t es given)) numbered.given
        ∙ ap (λ r. then_do r (λ fixed. Ok (meant fixed))) (ap (fixed_up plugin) rest-same ∙ counted-fixed t.fragments (tree_of new) plugin)

    pub anew-fault : (e : BuildErrorKind) → IsFault e (fixed_up plugin (tree_of new)) → IsFault e (all_gathered symbols plugin t)
    anew-fault e fault = fault-same e _ (all_gathered symbols plugin t) all-is (fault-then e (fixed_up plugin (tree_of new)) (λ fixed. Ok (meant fixed)) fault)

    -- where nothing went, all is as it was found
    pub as-found : IsAsFound plugin gone new now
    as-found none =
        let at : state_of new ≡ state_of d = without.rows.state ∙ ap (λ ns. left_of (paths_in d ns) (state_of d)) none ∙ sym (state-none (state_of d)) in
        let same : es ≡ founds_in new now =
        sym (filter-every (λ e. is_left [] e.path) (λ e. refl) es) ∙ ap (λ ns. filter (λ e. is_left (paths_in d ns) e.path) es) (sym none) ∙ sym without.founds in
        ap (λ u. references plugin (read u)) at ∙ numbered.found ∙ ap (λ ds. Ok ds) same

    -- ---- rows
    moved : (xs : List NodePhandle) → phandles_in new xs ≡ phandles_in d xs
    moved xs = ap (λ (f : ℕ → Path). map (λ y. path_phandle (f y.node) y.phandle) xs) (λ i k. without.rows.rows.paths k i)

    cells-same : phandles_in new x.of_cells.items ≡ of_cells
    cells-same = moved x.of_cells.items ∙ numbered.of_cells

    left-same : left_numbers new (x.given.items ++ x.of_cells.items) ≡ kept
    left-same =
        let xs = x.given.items ++ x.of_cells.items in
        let known : Each (λ y. IsNode d y.node × (is_standing d y.node ≡ true)) xs =
        each-append (λ y. IsNode d y.node × (is_standing d y.node ≡ true)) x.given.items x.of_cells.items
        (each-both (λ y. IsNode d y.node) (λ y. is_standing d y.node ≡ true) x.given.items (each-of (λ y. IsNode d y.node) x.given.items numbered.owners.known) (each-of (λ y. is_standing d y.node ≡ true) x.given.items numbered.owners.stand))
        (each-both (λ y. IsNode d y.node) (λ y. is_standing d y.node ≡ true) x.of_cells.items (each-of (λ y. IsNode d y.node) x.of_cells.items numbered.numbered.known) (each-of (λ y. is_standing d y.node ≡ true) x.of_cells.items numbered.numbered.stand)) in
        moved (filter (λ y. is_standing new y.node) xs)
        ∙ map-left (path_phandle_of d.nodes.items) (λ y. is_standing new y.node) (λ y. is_left (paths_in d gone) y.path) xs
        (each-more (λ y. IsNode d y.node × (is_standing d y.node ≡ true)) (λ y. is_standing new y.node ≡ is_left (paths_in d gone) (node_path d y.node)) xs
        (λ y h. without.rows.rows.stand y.node h.0 ∙ ap (λ b. b && is_left (paths_in d gone) (node_path d y.node)) h.1) known)
        ∙ ap₂ (λ g ys. filter (λ y. is_left g y.path) ys) gone-same
        (map-append (path_phandle_of d.nodes.items) x.given.items x.of_cells.items ∙ ap (λ ys. given ++ ys) numbered.of_cells)

    -- each node that is left ever had a label where it is marked so
    abbrev order : List ℕ
    order = now.in_preorder.nodes.items

    marks-same : Each (λ n. is_marked s.labelled.items n ≡ ever_labelled t (node_path new n)) order
    marks-same =
        each-more (λ n. IsNode new n × (is_standing new n ≡ true)) (λ n. is_marked s.labelled.items n ≡ ever_labelled t (node_path new n)) order
        (λ n h.
        let known : n ≤ length d.nodes.items = omega (arith, h.0, without.rows.rows.count) in
        let up = (and_parts (is_standing d n) (is_left (paths_in d gone) (node_path d n)) (sym (without.rows.rows.stand n known) ∙ h.1)).0 in
        of.labelled.marks n known up ∙ ap (ever_labelled t) (sym (without.rows.rows.paths n)))
        (each-both (λ n. IsNode new n) (λ n. is_standing new n ≡ true) order (each-of (λ n. IsNode new n) order without.order.known) (each-of (λ n. is_standing new n ≡ true) order without.order.there))

    nodes-same : map (node_path new) order ≡ preorder (rest_of G (dtc_state t)).nodes
    nodes-same = without.order.nodes ∙ ap (λ u. preorder u.nodes) (sym rest-same)

    marked-paths : map (node_path new) (marked_rows new (is_marked s.labelled.items) order) ≡ symbol_nodes t (rest_of G (dtc_state t))
    marked-paths =
        map-left (node_path new) (λ n. is_marked s.labelled.items n && not (is_reserved (node_path new n))) (λ p. ever_labelled t p && not (is_reserved p)) order
        (each-more (λ n. is_marked s.labelled.items n ≡ ever_labelled t (node_path new n))
        (λ n. (is_marked s.labelled.items n && not (is_reserved (node_path new n))) ≡ (ever_labelled t (node_path new n) && not (is_reserved (node_path new n)))) order
        (λ n h. ap (λ b. b && not (is_reserved (node_path new n))) h) marks-same)
        ∙ ap (filter (λ p. ever_labelled t p && not (is_reserved p))) nodes-same

    symbols-by : (b : Bool) → (if b then symbol_numbers new x.given.items x.of_cells.items (marked_rows new (is_marked s.labelled.items) order) else [])
        ≡ numbers_of_symbols kept of_cells (when b (symbol_nodes t (rest_of G (dtc_state t))))
    symbols-by true =
        ap₂ (λ ks cs. numbers_of_symbols ks cs (map (node_path new) (marked_rows new (is_marked s.labelled.items) order))) left-same cells-same
        ∙ ap (numbers_of_symbols kept of_cells) marked-paths
    symbols-by false = refl

    -- ---- the nodes that stood
    left-listed : (n : ℕ) → is_standing d n ≡ true → is_standing new n ≡ is_listed (node_path new n) ([] ∷ (rest_of G (dtc_state t)).nodes)
    left-listed n up =
        let known = stands-known d of.sound n up in
        let there = there-by d.nodes.items (row_of d.node_rows) of.sound.grown of.sound.nodes (length d.nodes.items) n known up in
        without.rows.rows.stand n known ∙ ap (λ b. b && is_left (paths_in d gone) (node_path d n)) up
        ∙ sym (listed-left (is_left (paths_in d gone)) (node_path d n) (root-left d of.sound gone each-gone) (state_of d).nodes there)
        ∙ ap₂ (λ p ns. is_listed p ([] ∷ ns)) (sym (without.rows.rows.paths n)) (ap (λ u. u.nodes) (sym without.rows.state) ∙ ap (λ u. u.nodes) (sym rest-same))

    module _ (sound : IsLiveTree new) (anew : Option (Vec (Option ℕ) Global)) (fixed : IsFixed plugin new now anew) (numbers : Vec NodePhandle Global)
        (numbers-are : phandles_in new numbers.items ≡ all_numbers new order s.labelled.items x.given.items x.of_cells.items symbols) (numbers-known : All (λ y. IsNode new y.node) numbers.items) (numbers-stood : All (λ y. is_standing d y.node ≡ true) numbers.items)
        (labelled : Bool) (labelled-is : labelled ≡ list_any (is_marked s.labelled.items) order) where
      abbrev gathering : Gathering
      gathering = record { rest = now; anew = anew; given = x.given; new = numbers; labelled = labelled }

      among-of : (target : Option ℕ) → IsThere d target → IsAmong (is_standing d) target
      among-of None up = tt
      among-of (Some n) up = up

      targets-among : All (IsAmong (is_standing d)) now.targets.items
      targets-among = without.among (is_standing d) (each-all (IsAmong (is_standing d)) x.rest.targets.items
          (each-more (IsThere d) (IsAmong (is_standing d)) x.rest.targets.items among-of (each-of (IsThere d) x.rest.targets.items numbered.there)))

      still-there : (n : ℕ) → IsNode new n → is_standing new n ≡ true → is_standing d n ≡ true
      still-there n known up =
          let inside : n ≤ length d.nodes.items = omega (arith, known, without.rows.rows.count) in
          (and_parts (is_standing d n) (is_left (paths_in d gone) (node_path d n)) (sym (without.rows.rows.stand n inside) ∙ up)).0

      have-stood : HaveStood (rest_of G (dtc_state t)).nodes (whole new gathering)
      have-stood = record {
        stood = is_standing d;
        once = λ n m a b same.
            one-node d.nodes.items (row_of d.node_rows) of.sound.grown of.sound.nodes n n m (omega arith) a b
            (sym (without.rows.rows.paths n) ∙ same ∙ without.rows.rows.paths m);
        left = left-listed;
        still = still-there;
        targets = targets-among;
        anew = fixed.among (is_standing d) still-there targets-among;
        given = numbered.owners.stand;
        new = numbers-stood;
      }

      is-gathered : IsGathered plugin t (meant (fixed_in plugin new now anew)) (whole new gathering)
      is-gathered = record {
        sound = sound;
        rest = rest-same;
        nodes = without.order.nodes;
        known = without.order.known;
        there = without.order.there;
        properties = without.order.properties;
        owners = without.order.owners;
        stand = without.order.stand;
        values = ap (λ g. filter (λ e. is_left g e.path) es) (sym gone-same) ∙ sym without.founds;
        targets = without.order.targets;
        fixed = refl;
        anew = fixed.targets;
        given = moved x.given.items;
        given_known = λ k y below. omega (arith, numbered.owners.known k y below, without.rows.rows.count);
        new = numbers-are ∙ ap₂ (λ a b. a ++ b) cells-same (symbols-by symbols);
        new_known = numbers-known;
        before = have-stood;
        labelled = labelled-is ∙ any-by (node_path new) (is_marked s.labelled.items) (ever_labelled t) order marks-same ∙ ap (list_any (ever_labelled t)) nodes-same;
      }

      pub gathers : (m : meaning.Gathered) × (all_gathered symbols plugin t ≡ Ok m) × IsGathered plugin t m (whole new gathering)
      gathers = (meant (fixed_in plugin new now anew), all-is ∙ ap (λ r. then_do r (λ ds. Ok (meant ds))) fixed.fixed, is-gathered)
