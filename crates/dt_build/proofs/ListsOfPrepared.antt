-- The lists of a draft: they are its resolved tree, each property stands at a node of theirs, and no name stands
-- twice at one.
use Rattle.std.proofs.Common.{◌≡◌, ◌≤◌, ℕ, suc, Bool, true, false, ◌&&◌, ◌||◌, List, [], ◌∷◌, ◌++◌, map, length, Ok, Err, Vec, if◌then◌else◌, refl, sym, ap, ap₂, ◌∙◌, subst, arith}
use Rattle.std.specs.Prelude.{All}
use Rattle.std.specs.Global.{Global}
use Rattle.std.specs.Str.{bytes_eq}
use Rattle.std.specs.List.{list_any, flat_map}
use Rattle.dt_tree.specs.Steps.{then_do}
use Rattle.dt_tree.specs.NodeData.{NodeData}
use Rattle.dt_tree.specs.PathMap.{path_map}
use Rattle.dt_tree.specs.Sound.{are_distinct, IsSound}
use Rattle.dt_source.specs.TreeMeaning.Names.{symbols_name, fixups_name, local_fixups_name}
use Rattle.dt_source.specs.TreeMeaning.Paths.{Path, same_path, is_listed}
use Rattle.dt_source.specs.TreeMeaning.Syntax.{Meaning}
use Rattle.dt_source.specs.TreeMeaning.Edits.{Definition, Label}
use Rattle.dt_source.specs.TreeMeaning.Statements.{TooDeep}
use Rattle.dt_source.specs.TreeMeaning.References.{Found, held, preorder}
use Rattle.dt_source.specs.TreeMeaning.Fixups.{sites, fixups, local_fixups}
use Rattle.dt_source.specs.TreeMeaning.Resolved.{Resolved, is_too_deep, names_taken, phandle_property, put_together, resolved, resolved_state, shallow, symbol, when, with_bytes, with_more}
use Rattle.dt_source.specs.TreeMeaning.MapOf.{map_of}
use Rattle.dt_live.specs.declared.live_tree.NodeRow.{NodeRow}
use Rattle.dt_live.specs.Rows.{path_of, stands, standing}
use Rattle.dt_live.proofs.PathsDown.{node-listed}
use Rattle.dt_live.proofs.Each.{Each, each-all, each-append, each-more, each-same}
use Rattle.dt_build.specs.Edit.Said.{tree_of}
use Rattle.dt_build.specs.declared.resolve.node_phandles.NodePhandle.{NodePhandle}
use Rattle.dt_build.specs.declared.resolve.prepared.Prepared.{Prepared}
use Rattle.dt_build.specs.declared.draft.Draft.{Draft}
use Rattle.dt_build.specs.Private.Drafts.{drafted}
use Rattle.dt_build.specs.Resolve.NodePhandles.{AreStanding, path_phandle_of}
use Rattle.dt_build.specs.Resolve.Prepared.{IsPrepared}
use Rattle.dt_live.specs.Builder.Standing.{AreNodes, behind_root, walked}
use Rattle.dt_live.specs.Builder.Sizes.{size_in, size_below}
use Rattle.dt_live.proofs.BuilderLemmas.Orders.{map-walked}
use Rattle.dt_live.proofs.BuilderLemmas.PathFacts.{same-is, listed-first, listed-next}
use Rattle.dt_live.proofs.BuilderLemmas.Standing.{listed-both}
use Rattle.dt_live.proofs.BuilderLemmas.SizesOfMaps.{once-by_names, sizes-of-lists}
use Rattle.dt_build.specs.Private.Made.{added_phandles, all_phandles, bare_node, fixed, fixup_lists, founds, given_phandles, lists, made_sites, made_properties, new_phandles, own, plain_lists, plain_properties, symbol_lists, with_nodes}
use Rattle.dt_build.specs.Private.Ready.{IsReady}
use Rattle.dt_build.proofs.FixupLists.{fixups-at, fixups-distinct, fixups-under}
use Rattle.dt_build.proofs.LocalLists.{local_fixups-distinct, local_fixups-under}
use Rattle.dt_build.proofs.MoreLists.{AllUnder, IsUnder, IsWhole, other-child, shallow-child, under-at, whole-bare, whole-more, whole-none}
use Rattle.dt_build.proofs.Ready.{added-is, fixed-is, founds-are}
use Rattle.dt_build.proofs.Shallow.{fixups-free, local-free, put-by, state-resolved, symbols-free}
use Rattle.dt_build.proofs.SymbolsLast.{symbols_path, bare-none, bare-walked, nodes-none, symbols-elsewhere, symbols-held, symbols-walked, with-none}
use Rattle.dt_build.proofs.WalkOrder.{AllAt, AreOrdered, in-walk, walk-ordered}

-- ---- the resolved tree
-- in the profile there is no node of symbols without a label
none-bare : (symbols : Bool) (r : Resolved) → with_nodes (when symbols []) r ≡ r
none-bare true r = nodes-none r
none-bare false r = nodes-none r

module _ (symbols : Bool) (m : Meaning) (es : List (Definition (List Found))) (from : Prepared) (is : IsPrepared symbols m es from) (added : Vec NodePhandle Global) (same : added.items ≡ from.resolution.new.items) where
  abbrev p : Draft
  p = drafted from added

  abbrev with_sites : List (Definition (List Found)) → Resolved → Resolved
  with_sites fs r = let xs = when p.plugin (sites (all_phandles p) fs) in with_more (local_fixups xs []) (with_more (fixups xs []) r)

  drafted-lists : lists symbols p
      ≡ with_sites (founds p)
      (with_more (when symbols (map symbol (tree_of p.live).labels)) (record { nodes = (tree_of p.live).nodes; properties = plain_properties p ++ map phandle_property (new_phandles p) }))
  drafted-lists =
      ap₂ with_sites (fixed-is from added)
      (none-bare symbols (with_more (when symbols (map symbol (tree_of p.live).labels)) (plain_lists p))
      ∙ ap (λ xs. with_more (when symbols (map symbol (tree_of p.live).labels)) (record { nodes = (tree_of p.live).nodes; properties = plain_properties p ++ map phandle_property xs }))
      (added-is from added same))

  pub prepared-site_list : resolved symbols m ≡ shallow (lists symbols p)
  prepared-site_list =
      let s = tree_of p.live in
      let all = is.resolved in
      ap (λ r. then_do r (resolved_state symbols m.plugin)) is.edited
      ∙ state-resolved symbols m.plugin is.fragments s es (given_phandles p) all.free all.given all.found
      ∙ ap₂ (λ b ns. shallow (put_together symbols b s es (given_phandles p) ns)) (sym is.plugin) (sym all.new)
      ∙ ap (λ fs. shallow (put_together symbols p.plugin s fs (given_phandles p) (new_phandles p))) (sym (founds-are symbols m es from is added same))
      ∙ ap shallow (put-by symbols p.plugin s (founds p) (given_phandles p) (new_phandles p))
      ∙ ap shallow (sym drafted-lists)

  pub prepared-resolved : list_any is_too_deep (lists symbols p).nodes ≡ false → resolved symbols m ≡ Ok (lists symbols p)
  prepared-resolved fits = prepared-site_list ∙ ap (λ t. if t then Err TooDeep else Ok (lists symbols p)) fits

abbrev pub IsAt : {V : Type 0} → List Path → Definition V → Type 0
IsAt nodes e = is_listed e.path nodes ≡ true

-- ---- what is walked is at nodes of the walk
module _ {V : Type 0} where
  at-first : (x : Path) (xs : List Path) (es : List (Definition V)) → AllAt x es → Each (IsAt (x ∷ xs)) es
  at-first x xs es at = each-more (λ e. e.path ≡ x) (IsAt (x ∷ xs)) es (λ e is. ap (λ q. is_listed q (x ∷ xs)) is ∙ listed-first x xs) at

  ordered-there : (order : List Path) (es : List (Definition V)) → AreOrdered order es → Each (IsAt order) es
  ordered-there [] es ordered = subst (λ (ds : List (Definition V)). Each (IsAt []) ds) (sym ordered) tt
  ordered-there (x ∷ xs) es ordered =
      let p = ordered.0 in
      subst (λ (ds : List (Definition V)). Each (IsAt (x ∷ xs)) ds) (sym p.parts)
      (each-append (IsAt (x ∷ xs)) p.first p.others (at-first x xs p.first p.at)
      (each-more (IsAt xs) (IsAt (x ∷ xs)) p.others (λ e there. listed-next e.path x xs there) (ordered-there xs p.others ordered.1)))

  pub walk-there : (nodes : List Path) → AreNodes nodes → (es : List (Definition V)) → flat_map (held es) (preorder nodes) ≡ es → Each (IsAt ([] ∷ nodes)) es
  walk-there nodes are es same =
      each-more (IsAt (preorder nodes)) (IsAt ([] ∷ nodes)) es (λ e there. sym (in-walk nodes are e.path) ∙ there)
      (ordered-there (preorder nodes) es (subst (λ (ds : List (Definition V)). AreOrdered (preorder nodes) ds) same (walk-ordered es (preorder nodes))))

-- ---- phandles of nodes are at nodes
assigned-there : (rows : List NodeRow) (xs : List NodePhandle) → AreStanding rows xs → Each (IsAt ([] ∷ standing (path_of rows) (stands rows) (length rows))) (map phandle_property (map (path_phandle_of rows) xs))
assigned-there rows [] up = tt
assigned-there rows (x ∷ xs) up = (
  node-listed rows x.node (up.known 0 x (omega arith)) (up.stand 0 x (omega arith)),
  assigned-there rows xs (record { known = λ i y below. up.known (suc i) y (omega arith); stand = λ i y below. up.stand (suc i) y (omega arith) }),
)

module _ (p : Draft) (are : AreNodes (tree_of p.live).nodes) (same : flat_map (held (founds p)) (preorder (tree_of p.live).nodes) ≡ founds p) (up : AreStanding p.live.nodes.items p.added.items) where
  abbrev there : List Path
  there = [] ∷ (tree_of p.live).nodes

  made-each : Each (IsAt there) (made_properties p)
  made-each =
      each-append (IsAt there) (map (with_bytes (all_phandles p)) (founds p)) (map phandle_property (added_phandles p))
      (each-same (IsAt there) (with_bytes (all_phandles p)) (founds p) (walk-there (tree_of p.live).nodes are (founds p) same))
      (assigned-there p.live.nodes.items p.added.items up)

  -- each property that is made is at a node
  pub made-there : All (λ e. is_listed e.path ([] ∷ (tree_of p.live).nodes) ≡ true) (made_properties p)
  made-there = each-all (IsAt there) (made_properties p) made-each

-- ---- symbols
names-symbols : (ls : List Label) → map (λ e. e.name) (map symbol ls) ≡ map (λ l. l.label) ls
names-symbols [] = refl
names-symbols (l ∷ ls) = ap (λ ns. l.label ∷ ns) (names-symbols ls)

pub symbols-at : (ls : List Label) → Each (λ e. e.path ≡ symbols_path) (map symbol ls)
symbols-at [] = tt
symbols-at (l ∷ ls) = (refl, symbols-at ls)

symbols-under : (ls : List Label) → AllUnder symbols_name (map symbol ls)
symbols-under ls = each-more (λ e. e.path ≡ symbols_path) (λ e. IsUnder symbols_name e.path) (map symbol ls) (λ e at. under-at symbols_name e.path at) (symbols-at ls)

when-under : (t : Bool) (ls : List Label) → AllUnder symbols_name (when t (map symbol ls))
when-under true ls = symbols-under ls
when-under false ls = tt

symbols-distinct : (ls : List Label) → are_distinct (map (λ l. l.label) ls) ≡ true → (q : Path) → are_distinct (map (λ e. e.name) (held (map symbol ls) q)) ≡ true
symbols-distinct ls labels q = by_same (same_path q symbols_path) refl where
  by_same : (t : Bool) → same_path q symbols_path ≡ t → are_distinct (map (λ e. e.name) (held (map symbol ls) q)) ≡ true
  by_same true same =
      ap (λ x. are_distinct (map (λ e. e.name) (held (map symbol ls) x))) (same-is q symbols_path same)
      ∙ ap (λ es. are_distinct (map (λ e. e.name) es)) (symbols-held ls) ∙ ap are_distinct (names-symbols ls) ∙ labels
  by_same false other = ap (λ es. are_distinct (map (λ e. e.name) es)) (symbols-elsewhere ls q other)

-- ---- the lists
module _ (symbols : Bool) (p : Draft) (ready : IsReady p) (free : names_taken symbols p.plugin (tree_of p.live) ≡ false) where
  abbrev labels : List Label
  labels = (tree_of p.live).labels

  plain-whole : IsWhole (plain_lists p)
  plain-whole = record { nodes = ready.standing; there = made-there p ready.standing ready.walked ready.added; apart = ready.apart }

  pub symbols-whole : IsWhole (symbol_lists symbols p)
  symbols-whole = by_symbols symbols p.labelled labels free ready.labels_apart where
    -- the node of these labels is there
    some-whole : (ls : List Label) → names_taken true p.plugin (tree_of p.live) ≡ false → are_distinct (map (λ l. l.label) ls) ≡ true → IsWhole (with_more (map symbol ls) (plain_lists p))
    some-whole ls free apart =
        whole-more (plain_lists p) symbols_name (map symbol ls) (symbols-free p.plugin (tree_of p.live) free) (symbols-under ls) plain-whole (symbols-distinct ls apart)
        (shallow-child (plain_lists p) symbols_name (map symbol ls) ready.standing.shallow (symbols-at ls))

    by_symbols : (t labelled : Bool) (ls : List Label) → names_taken t p.plugin (tree_of p.live) ≡ false → are_distinct (map (λ l. l.label) ls) ≡ true
        → IsWhole (with_nodes (when t (bare_node labelled ls)) (with_more (when t (map symbol ls)) (plain_lists p)))
    by_symbols false labelled ls free apart = subst IsWhole (sym (nodes-none (with_more [] (plain_lists p)))) (whole-none (plain_lists p) plain-whole)
    by_symbols true false ls free apart = subst IsWhole (sym (nodes-none (with_more (map symbol ls) (plain_lists p)))) (some-whole ls free apart)
    by_symbols true true (l ∷ ls) free apart = subst IsWhole (sym (nodes-none (with_more (map symbol (l ∷ ls)) (plain_lists p)))) (some-whole (l ∷ ls) free apart)
    by_symbols true true [] free apart =
        subst (λ r. IsWhole (with_nodes (symbols_path ∷ []) r)) (sym (with-none (plain_lists p)))
        (whole-bare (plain_lists p) symbols_name (symbols-free p.plugin (tree_of p.live) free) plain-whole)

  -- no other child of the root is there for symbols
  bare-other : (t labelled : Bool) (ls : List Label) (m : List ℕ) → bytes_eq m symbols_name ≡ false → is_listed (m ∷ []) (when t (bare_node labelled ls)) ≡ false
  bare-other false labelled ls m other = refl
  bare-other true false ls m other = refl
  bare-other true true (l ∷ ls) m other = refl
  bare-other true true [] m other = ap (λ b. (b && true) || false) other

  symbols-other : (m : List ℕ) → bytes_eq symbols_name m ≡ false → bytes_eq m symbols_name ≡ false → is_listed (m ∷ []) (tree_of p.live).nodes ≡ false → is_listed (m ∷ []) (symbol_lists symbols p).nodes ≡ false
  symbols-other m other turned gone =
      listed-both (m ∷ []) (with_more (when symbols (map symbol labels)) (plain_lists p)).nodes (when symbols (bare_node p.labelled labels))
      ∙ ap₂ (λ a b. a || b) (other-child (plain_lists p) symbols_name (when symbols (map symbol labels)) (when-under symbols labels) m other gone) (bare-other symbols p.labelled labels m turned)

  -- the nodes of fixups and of local fixups are new, where they are made
  pub fixups-new : p.plugin ≡ true → is_listed (fixups_name ∷ []) (symbol_lists symbols p).nodes ≡ false
  fixups-new plugin =
      symbols-other fixups_name refl refl
      (fixups-free symbols (tree_of p.live) (ap (λ b. names_taken symbols b (tree_of p.live)) (sym plugin) ∙ free))

  pub local-new : p.plugin ≡ true → is_listed (local_fixups_name ∷ []) (fixup_lists symbols p).nodes ≡ false
  local-new plugin =
      other-child (symbol_lists symbols p) fixups_name (fixups (made_sites p) []) (fixups-under (made_sites p)) local_fixups_name refl
      (symbols-other local_fixups_name refl refl
      (local-free symbols (tree_of p.live) (ap (λ b. names_taken symbols b (tree_of p.live)) (sym plugin) ∙ free)))

  pub fixups-whole : IsWhole (fixup_lists symbols p)
  fixups-whole = by_plugin p.plugin refl where
    by_plugin : (b : Bool) → p.plugin ≡ b → IsWhole (with_more (fixups (when b (sites (all_phandles p) (fixed p))) []) (symbol_lists symbols p))
    by_plugin false is = whole-none (symbol_lists symbols p) symbols-whole
    by_plugin true is =
        let xs = sites (all_phandles p) (fixed p) in
        whole-more (symbol_lists symbols p) fixups_name (fixups xs []) (fixups-new is) (fixups-under xs) symbols-whole (fixups-distinct xs)
        (shallow-child (symbol_lists symbols p) fixups_name (fixups xs []) symbols-whole.nodes.shallow (fixups-at xs))

  -- each property is at a node, and no name stands twice at one
  module _ (fits : list_any is_too_deep (lists symbols p).nodes ≡ false) where
    pub lists-whole : IsWhole (lists symbols p)
    lists-whole = by_plugin p.plugin refl fits where
      by_plugin : (b : Bool) → p.plugin ≡ b → list_any is_too_deep (with_more (local_fixups (when b (sites (all_phandles p) (fixed p))) []) (fixup_lists symbols p)).nodes ≡ false
          → IsWhole (with_more (local_fixups (when b (sites (all_phandles p) (fixed p))) []) (fixup_lists symbols p))
      by_plugin false is fits = whole-none (fixup_lists symbols p) fixups-whole
      by_plugin true is fits =
          let xs = sites (all_phandles p) (fixed p) in
          whole-more (fixup_lists symbols p) local_fixups_name (local_fixups xs []) (local-new is) (local_fixups-under xs) fixups-whole (local_fixups-distinct xs) fits

    -- no tree with this map has shorter values
    pub lists-within : (b : NodeData) → IsSound b → path_map b ≡ map_of (lists symbols p) → size_in (lists symbols p).properties ≤ size_below b
    lists-within b sound same = sizes-of-lists b (lists symbols p) sound same (once-by_names (lists symbols p).properties lists-whole.apart) lists-whole.there

    -- siblings come in order of definition
    pub map-lists_walked : map_of (walked (lists symbols p)) ≡ map_of (lists symbols p)
    map-lists_walked = sym (map-walked (lists symbols p) lists-whole.nodes)

-- ---- the symbols in the order of the walk
module _ (p : Draft) (ready : IsReady p) (free : names_taken true p.plugin (tree_of p.live) ≡ false) where
  abbrev walked_with : List Label → Resolved
  walked_with xs = record { nodes = behind_root (preorder (tree_of p.live).nodes) ++ (symbols_name ∷ []) ∷ []; properties = flat_map (own p) (preorder (tree_of p.live).nodes) ++ map symbol xs }

  abbrev symbols_of : List Label → Resolved
  symbols_of xs = with_nodes (bare_node p.labelled xs) (with_more (map symbol xs) (plain_lists p))

  pub walked-lists : (l : Label) (ls : List Label) → (tree_of p.live).labels ≡ l ∷ ls → walked (symbol_lists true p) ≡ walked_with (tree_of p.live).labels
  walked-lists l ls are =
      ap (λ xs. walked (symbols_of xs)) are
      ∙ ap walked (ap (λ ps. with_nodes ps (with_more (map symbol (l ∷ ls)) (plain_lists p))) (bare-none p.labelled l ls) ∙ nodes-none (with_more (map symbol (l ∷ ls)) (plain_lists p)))
      ∙ symbols-walked (plain_lists p) ready.standing (symbols-free p.plugin (tree_of p.live) free) (made-there p ready.standing ready.walked ready.added) l ls
      ∙ ap walked_with (sym are)

  pub walked-bare : p.labelled ≡ true → (tree_of p.live).labels ≡ [] → walked (symbol_lists true p) ≡ walked_with (tree_of p.live).labels
  walked-bare labelled none =
      ap (λ xs. walked (symbols_of xs)) none
      ∙ ap walked (ap₂ (λ b r. with_nodes (bare_node b []) r) labelled (with-none (plain_lists p)))
      ∙ bare-walked (plain_lists p) ready.standing (symbols-free p.plugin (tree_of p.live) free) (made-there p ready.standing ready.walked ready.added)
      ∙ ap walked_with (sym none)

-- without symbols, or without their node, there is nothing more
pub lists-bare : (symbols : Bool) (p : Draft) → when symbols (map symbol (tree_of p.live).labels) ≡ [] → when symbols (bare_node p.labelled (tree_of p.live).labels) ≡ [] → symbol_lists symbols p ≡ plain_lists p
lists-bare symbols p none bare = ap₂ (λ ps es. with_nodes ps (with_more es (plain_lists p))) bare none ∙ nodes-none (with_more [] (plain_lists p)) ∙ with-none (plain_lists p)

pub lists-unwanted : (symbols : Bool) (p : Draft) → symbols ≡ false → symbol_lists symbols p ≡ plain_lists p
lists-unwanted symbols p unwanted = ap (λ t. symbol_lists t p) unwanted ∙ lists-bare false p refl refl

-- an ordinary source has no fixups
pub lists-ordinary : (symbols : Bool) (p : Draft) → p.plugin ≡ false → lists symbols p ≡ symbol_lists symbols p
lists-ordinary symbols p ordinary =
    ap (λ b. let xs = when b (sites (all_phandles p) (fixed p)) in with_more (local_fixups xs []) (with_more (fixups xs []) (symbol_lists symbols p))) ordinary
    ∙ with-none (with_more [] (symbol_lists symbols p)) ∙ with-none (symbol_lists symbols p)
