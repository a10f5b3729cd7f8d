-- What is gathered of a lawful source in dtc's language is ready to be made into a tree.
use Rattle.std.proofs.Common.{◌≡◌, ℕ, ◌==◌, Bool, true, false, not, ◌&&◌, ◌||◌, List, [], ◌∷◌, ◌++◌, map, drop, Option, Some, None, Ok, Vec, if◌then◌else◌, codes, refl, sym, ap, ap₂, ◌∙◌, subst, true≢false, append-nil, arith}
use Rattle.std.specs.Prelude.{All}
use Rattle.std.specs.Global.{Global}
use Rattle.std.specs.Int.{to_be_bytes, w32}
use Rattle.std.specs.List.{filter, flat_map, list_all, list_any}
use Rattle.std.specs.Str.{bytes_eq}
use Rattle.std.proofs.lemmas.Bool.{and_parts, eqb-true, eq-eqb}
use Rattle.dt_tree.specs.Name.{is_name}
use Rattle.dt_tree.specs.Sound.{are_distinct}
use Rattle.dt_source.specs.TreeMeaning.Paths.{Path, same_path, is_listed}
use Rattle.dt_source.specs.TreeMeaning.Syntax.{Piece}
use Rattle.dt_source.specs.TreeMeaning.Edits.{Definition, has_node}
use Rattle.dt_source.specs.TreeMeaning.Fixups.{phandle_of}
use Rattle.dt_source.specs.TreeMeaning.Phandles.{PathPhandle}
use Rattle.dt_source.specs.TreeMeaning.References.{Found, held, in_order, preorder, references}
use Rattle.dt_source.specs.TreeMeaning.Resolved.{phandle_property, when, with_bytes}
use Rattle.dt_source.specs.TreeMeaning.DtcEdits.{DtcTree}
use Rattle.dt_source.specs.TreeMeaning.DtcPhandles.{asks_for_own}
use Rattle.dt_source.specs.TreeMeaning.DtcResolved as meaning
use Rattle.dt_source.specs.TreeMeaning.DtcResolved.{fixed_up, has_own, repeats_name}
use Rattle.dt_live.specs.declared.live_tree.LiveTree.{LiveTree}
use Rattle.dt_live.specs.declared.preorder.properties.NodeProperty.{NodeProperty}
use Rattle.dt_live.specs.Rows.{IsNode, is_standing, node_path}
use Rattle.dt_live.proofs.Each.{Each, each-all, each-kept, each-more, each-of}
use Rattle.dt_live.proofs.PathTests.{same-is, same-itself}
use Rattle.dt_live.proofs.Runs.{HasName, all-named as runs-named}
use Rattle.dt_build.specs.Edit.Said.{Parts, tree_of}
use Rattle.dt_live.specs.Builder.Standing.{AreNodes}
use Rattle.dt_live.proofs.BuilderLemmas.InTurn.{each-once}
use Rattle.dt_build.specs.declared.resolve.gathered.Gathered.{Gathered}
use Rattle.dt_build.specs.declared.resolve.node_phandles.NodePhandle.{NodePhandle}
use Rattle.dt_build.specs.Resolve.Founds.{all_uses, found_properties}
use Rattle.dt_build.specs.Resolve.Gathered.{IsAmong, IsGathered, all_gathered, targets_anew}
use Rattle.dt_build.specs.Resolve.NodePhandles.{AreStanding, path_phandle_of}
use Rattle.dt_build.specs.Resolve.Private.ReadProperty.{read_property}
use Rattle.dt_build.specs.Resolve.Targets.{IsToldApart}
use Rattle.dt_build.proofs.ResolveLemmas.GoneNodes.{stands-known}
use Rattle.dt_build.proofs.ResolveLemmas.PathPhandles.{turned}
use Rattle.dt_build.proofs.ResolveLemmas.ReadOrder.{read-order}
use Rattle.dt_build.proofs.ResolveLemmas.Without.{each-both, map-left}
use Rattle.dt_build.specs.declared.draft.Draft.{Draft}
use Rattle.dt_build.specs.Private.DtcDrafts.{dtc_drafted, has_own_row, is_added, kept_properties, repeats}
use Rattle.dt_build.specs.Private.FirstPhandle.{IsByPath, IsOfPath, first_phandle, number_of}
use Rattle.dt_build.specs.Private.Made.{added_phandles, all_phandles, fixed, founds, is_fixed, new_phandles, own}
use Rattle.dt_build.specs.Private.Ready.{AreNamed, IsNamedFound, IsReady}
use Rattle.dt_build.proofs.ApartKeys.{distinct-held, distinct-words, pairs-in-order}
use Rattle.dt_build.proofs.ApartLists.{InPairs, each-passed, pairs-from, pairs-same}
use Rattle.dt_build.proofs.ApartPhandles.{bare, paths}
use Rattle.dt_build.proofs.DtcFounds.{bare-read, is_kept, kept-founds, kept-turned, walk-kept, walked-found}
use Rattle.dt_build.proofs.DtcGathered.{fixed-is, news-apart, news-unseen}
use Rattle.dt_build.proofs.DtcNumbers.{made-apart, number-passed}
use Rattle.dt_build.proofs.FoundNames.{founds-named}
use Rattle.dt_build.proofs.NamedEdits.{HasOtherKey, IsNamed, IsNamedPath, IsNamedValue, counted-named, did, ok-is}
use Rattle.dt_build.proofs.NamedSources.{IsName, named_path-named}
use Rattle.dt_build.proofs.NodePhandleSteps.{number-behind}
use Rattle.dt_build.proofs.Ready.{node_property-named}

-- a lawful tree that is gathered, and the parts of its draft
pub record IsDtcGathered (symbols plugin : Bool) (processor : ℕ) (t : DtcTree) (meant : meaning.Gathered) (x : Gathered) : Type 0 where
  pub all : all_gathered symbols plugin t ≡ Ok meant
  pub is : IsGathered plugin t meant x
  pub properties : Vec (NodeProperty Parts) Global
  pub added : Vec NodePhandle Global
  pub are_kept : properties.items ≡ kept_properties x.live x.in_preorder.properties.items
  pub are_added : added.items ≡ filter (is_added x.live (has_own_row x.in_preorder.properties.items)) x.new.items
  pub named : IsNamed IsName (IsNamedValue IsName) meant.rest
  pub nodes : AreNodes meant.rest.nodes
  pub at_nodes : Each (λ l. has_node l.path meant.rest ≡ true) meant.rest.labels

module _ {symbols plugin : Bool} {processor : ℕ} {t : DtcTree} {meant : meaning.Gathered} {x : Gathered} (g : IsDtcGathered symbols plugin processor t meant x) where
  abbrev is : IsGathered plugin t meant x
  is = g.is

  abbrev named : IsNamed IsName (IsNamedValue IsName) meant.rest
  named = g.named

  abbrev pub d : LiveTree Parts
  d = x.live

  abbrev pub p : Draft
  p = dtc_drafted plugin processor x g.properties g.added

  abbrev xs : List (NodeProperty Parts)
  xs = x.in_preorder.properties.items

  -- ---- the tree that is left
  pub left-is : meant.rest.nodes ≡ (tree_of d).nodes
  left-is = ap (λ s. s.nodes) is.rest

  pub are : AreNodes (tree_of d).nodes
  are = subst AreNodes left-is g.nodes

  names : IsNamed IsName (IsNamedValue IsName) (tree_of d)
  names = counted-named IsName t.fragments (tree_of d) (subst (IsNamed IsName (IsNamedValue IsName)) is.rest named)

  read : map (read_property d.nodes.items) xs ≡ in_order (tree_of d)
  read = read-order d xs is.properties

  -- ---- nodes that stood, told apart
  abbrev stood : ℕ → Bool
  stood = is.before.stood

  pub told : (n m : ℕ) → stood n ≡ true → stood m ≡ true → (n == m) ≡ same_path (node_path d n) (node_path d m)
  told n m a b = by (n == m) refl where
    by : (e : Bool) → (n == m) ≡ e → e ≡ same_path (node_path d n) (node_path d m)
    by true same = sym (ap (λ k. same_path (node_path d n) (node_path d k)) (sym (eqb-true n m same)) ∙ same-itself (node_path d n))
    by false other = sym (differ (same_path (node_path d n) (node_path d m)) refl) where
      differ : (e : Bool) → same_path (node_path d n) (node_path d m) ≡ e → e ≡ false
      differ true same = absurd (true≢false (sym (eq-eqb n m (is.before.once n m a b (same-is (node_path d n) (node_path d m) same))) ∙ other))
      differ false same = refl

  standing-stood : (n : ℕ) → IsNode d n → is_standing d n ≡ true → stood n ≡ true
  standing-stood n known up = is.before.still n known up

  -- ---- numbers by rows
  one-by : (y : NodePhandle) (first : ℕ) (ns : List PathPhandle) (k : ℕ) (b : Bool) → to_be_bytes w32 first ≡ to_be_bytes w32 (phandle_of ns (node_path d k))
      → to_be_bytes w32 (if b then y.phandle else first) ≡ to_be_bytes w32 (if b then y.phandle else phandle_of ns (node_path d k))
  one-by y first ns k true e = refl
  one-by y first ns k false e = e

  first-is : (ys : List NodePhandle) → Each (λ y. stood y.node ≡ true) ys → (k n : ℕ) (ns : List PathPhandle) → stood k ≡ true → to_be_bytes w32 n ≡ to_be_bytes w32 (phandle_of ns (node_path d k))
      → to_be_bytes w32 (first_phandle ys k n) ≡ to_be_bytes w32 (phandle_of (map (path_phandle_of d.nodes.items) ys ++ ns) (node_path d k))
  first-is [] each k n ns up e = e
  first-is (y ∷ ys) each k n ns up e =
      one-by y (first_phandle ys k n) (map (path_phandle_of d.nodes.items) ys ++ ns) k (k == y.node) (first-is ys each.1 k n ns up e)
      ∙ ap (λ b. to_be_bytes w32 (if b then y.phandle else phandle_of (map (path_phandle_of d.nodes.items) ys ++ ns) (node_path d k))) (told k y.node up each.0)

  pub of-path : (k : ℕ) → stood k ≡ true → IsOfPath p k
  of-path k up =
      first-is x.given.items (each-of (λ (y : NodePhandle). stood y.node ≡ true) x.given.items is.before.given) k (first_phandle x.new.items k 4294967295) (new_phandles p) up
      (first-is x.new.items (each-of (λ (y : NodePhandle). stood y.node ≡ true) x.new.items is.before.new) k 4294967295 [] up refl
      ∙ ap (λ ns. to_be_bytes w32 (phandle_of ns (node_path d k))) (append-nil (new_phandles p)))

  by-path : (target : Option ℕ) → IsAmong stood target → IsByPath p target
  by-path None up = tt
  by-path (Some k) up = of-path k up

  -- ---- numbers that get a property
  abbrev pub here : Path → Bool
  here q = is_listed q ([] ∷ meant.rest.nodes) && not (list_any (λ e. bytes_eq e.name (codes "phandle") && same_path e.path q) meant.values)

  owner-stood : Each (λ y. stood y.node ≡ true) xs
  owner-stood =
      each-more (λ y. IsNode d y.node × (is_standing d y.node ≡ true)) (λ y. stood y.node ≡ true) xs (λ y h. standing-stood y.node h.0 h.1)
      (each-both (λ y. IsNode d y.node) (λ y. is_standing d y.node ≡ true) xs (each-of (λ y. IsNode d y.node) xs is.owners) (each-of (λ y. is_standing d y.node ≡ true) xs is.stand))

  own-same : (n : ℕ) → stood n ≡ true → (ys : List (NodeProperty Parts)) → Each (λ y. stood y.node ≡ true) ys → (ts : List (Option ℕ))
      → has_own_row ys n ≡ list_any (λ e. bytes_eq e.name (codes "phandle") && same_path e.path (node_path d n)) (found_properties (node_path d) ys ts)
  own-same n up [] h ts = refl
  own-same n up (y ∷ ys) h ts = ap₂ (λ a b. (bytes_eq y.name.now (codes "phandle") && a) || b) (told y.node n h.0 up) (own-same n up ys h.1 (drop (all_uses y.value.now.parts.items) ts))

  here-same : (y : NodePhandle) → stood y.node ≡ true → is_added d (has_own_row xs) y ≡ here (node_path d y.node)
  here-same y up =
      ap₂ (λ a b. a && not b) (is.before.left y.node up)
      (own-same y.node up xs owner-stood x.targets.items ∙ ap (list_any (λ e. bytes_eq e.name (codes "phandle") && same_path e.path (node_path d y.node))) (sym is.values))

  pub added-are : added_phandles p ≡ filter (λ y. here y.path) meant.new
  added-are =
      ap (map (path_phandle_of d.nodes.items)) g.are_added
      ∙ map-left (path_phandle_of d.nodes.items) (is_added d (has_own_row xs)) (λ y. here y.path) x.new.items
      (each-more (λ y. stood y.node ≡ true) (λ y. is_added d (has_own_row xs) y ≡ here (node_path d y.node)) x.new.items here-same (each-of (λ (y : NodePhandle). stood y.node ≡ true) x.new.items is.before.new))
      ∙ ap (filter (λ y. here y.path)) is.new

  left-here : (q : Path) → here q ≡ true → is_listed q ([] ∷ meant.rest.nodes) ≡ true
  left-here q h = (and_parts (is_listed q ([] ∷ meant.rest.nodes)) (not (list_any (λ e. bytes_eq e.name (codes "phandle") && same_path e.path q) meant.values)) h).0

  here-of : (q : Path) (ns : List PathPhandle) → is_listed q (paths (filter (λ y. here y.path) ns)) ≡ true → here q ≡ true
  here-of q [] l = absurd (true≢false (sym l))
  here-of q (n ∷ ns) l = by (here n.path) refl l (here-of q ns) where
    by : (b : Bool) → here n.path ≡ b → is_listed q (paths (if b then n ∷ filter (λ y. here y.path) ns else filter (λ y. here y.path) ns)) ≡ true
        → (is_listed q (paths (filter (λ y. here y.path) ns)) ≡ true → here q ≡ true) → here q ≡ true
    by true h l rest = same (same_path q n.path) refl l where
      same : (c : Bool) → same_path q n.path ≡ c → (c || is_listed q (paths (filter (λ y. here y.path) ns))) ≡ true → here q ≡ true
      same true e l = ap here (same-is q n.path e) ∙ h
      same false e l = rest l
    by false h l rest = rest l

  numbers-added : (k : ℕ) → is_standing d k ≡ true → is_listed (node_path d k) (paths (added_phandles p)) ≡ true
      → to_be_bytes w32 (number_of p k) ≡ to_be_bytes w32 (phandle_of (added_phandles p) (node_path d k))
  numbers-added k up there =
      let q = node_path d k in
      let listed : is_listed q (paths (filter (λ y. here y.path) meant.new)) ≡ true = ap (λ ns. is_listed q (paths ns)) (sym added-are) ∙ there in
      of-path k (standing-stood k (known-of k up) up)
      ∙ ap (to_be_bytes w32)
      (ap₂ (λ a b. phandle_of (a ++ b) q) is.given is.new
      ∙ number-behind q meant.given meant.new (news-unseen symbols plugin t meant g.all here left-here q listed)
      ∙ sym (number-passed here q meant.new (here-of q meant.new listed))
      ∙ ap (λ ns. phandle_of ns q) (sym added-are)) where
        known-of : (n : ℕ) → is_standing d n ≡ true → IsNode d n
        known-of n up = stands-known d is.sound n up

  -- ---- what is found
  abbrev all-founds : List (Definition (List Found))
  all-founds = found_properties (node_path d) xs x.targets.items

  abbrev all-anew : List (Definition (List Found))
  all-anew = found_properties (node_path d) xs (targets_anew x.targets.items x.anew)

  pub founds-are : founds p ≡ filter is_kept all-founds
  founds-are = ap (λ ys. found_properties (node_path d) ys x.targets.items) g.are_kept ∙ kept-founds d xs x.targets.items

  pub fixed-are : fixed p ≡ filter (is_fixed true) (filter is_kept all-anew)
  fixed-are = ap (filter (is_fixed true)) (ap (λ ys. found_properties (node_path d) ys (targets_anew x.targets.items x.anew)) g.are_kept ∙ kept-founds d xs (targets_anew x.targets.items x.anew))

  walked-kept : (f : Definition (List Found) → Bool) (fs : List (Definition (List Found))) → flat_map (held fs) (preorder (tree_of d).nodes) ≡ fs → flat_map (held (filter f fs)) (preorder (tree_of d).nodes) ≡ filter f fs
  walked-kept f fs same = walk-kept f fs (preorder (tree_of d).nodes) ∙ ap (filter f) same

  pub walked-founds : flat_map (held (founds p)) (preorder (tree_of d).nodes) ≡ founds p
  walked-founds =
      ap (λ fs. flat_map (held fs) (preorder (tree_of d).nodes)) founds-are
      ∙ walked-kept is_kept all-founds (walked-found d are xs read x.targets.items) ∙ sym founds-are

  walked-fixed : flat_map (held (fixed p)) (preorder (tree_of d).nodes) ≡ fixed p
  walked-fixed =
      ap (λ fs. flat_map (held fs) (preorder (tree_of d).nodes)) fixed-are
      ∙ walked-kept (is_fixed true) (filter is_kept all-anew) (walked-kept is_kept all-anew (walked-found d are xs read (targets_anew x.targets.items x.anew))) ∙ sym fixed-are

  -- ---- keys
  founds-apart : InPairs HasOtherKey all-founds
  founds-apart =
      pairs-from HasOtherKey bare all-founds
      (subst (InPairs HasOtherKey) (sym (bare-read d.nodes.items xs x.targets.items ∙ ap (map bare) read))
      (pairs-same HasOtherKey bare (in_order (tree_of d)) (pairs-in-order (tree_of d).properties (preorder (tree_of d).nodes) (each-once (tree_of d).nodes are) names.keys)))

  none-own : Each (λ y. has_own all-founds y ≡ false) (filter (λ y. here y.path) meant.new)
  none-own = each-passed (λ y. has_own all-founds y ≡ false) (λ y. here y.path) meant.new
      (λ y h. ap (λ fs. has_own fs y) (sym is.values)
      ∙ not-true-of (has_own meant.values y) (and_parts (is_listed y.path ([] ∷ meant.rest.nodes)) (not (has_own meant.values y)) h).1) where
        not-true-of : (b : Bool) → not b ≡ true → b ≡ false
        not-true-of true e = absurd (true≢false (sym e))
        not-true-of false e = refl

  names-apart : (q : Path) → are_distinct (map (λ e. e.name) (own p q)) ≡ true
  names-apart q =
      ap₂ (λ fs ns. are_distinct (map (λ e. e.name) (held (map (with_bytes (all_phandles p)) fs ++ map phandle_property ns) q))) founds-are added-are
      ∙ distinct-held q (map (with_bytes (all_phandles p)) (filter is_kept all-founds) ++ map phandle_property (filter (λ y. here y.path) meant.new))
      (made-apart (all_phandles p) all-founds is_kept (filter (λ y. here y.path) meant.new) founds-apart (news-apart symbols plugin t meant g.all here left-here) none-own)

  -- ---- names
  kept-each : (P : NodeProperty Parts → Type 0) → Each P xs → All P g.properties.items
  kept-each P h = subst (λ (ys : List (NodeProperty Parts)). All P ys) (sym g.are_kept) (each-all P (kept_properties d xs) (each-kept P (λ y. not (repeats d y)) xs h))

  abbrev HasNames : Definition (List Found) → Type 0
  HasNames e = All IsNamedFound e.value

  elsewhere-by : (b : Bool) → plugin ≡ b → All HasNames (when b (fixed p))
  elsewhere-by false e = λ k y below. absurd (omega (arith, below))
  elsewhere-by true e =
      let again = did (references true meant.rest) (λ fs. Ok (filter (λ f. not (asks_for_own f)) fs)) meant.fixed (ap (λ c. fixed_up c meant.rest) (sym e) ∙ fixed-is symbols plugin t meant g.all) in
      let found = each-of HasNames again.0 (founds-named true meant.rest again.0 named.properties again.1) in
      let same : filter (λ f. not (asks_for_own f)) again.0 ≡ filter (is_fixed true) all-anew =
      ok-is (filter (λ f. not (asks_for_own f)) again.0) meant.fixed again.2 ∙ is.fixed ∙ ap (λ c. when c (filter (λ f. not (asks_for_own f)) all-anew)) e in
      let left = subst (λ (fs : List (Definition (List Found))). Each HasNames fs) same (each-kept HasNames (λ f. not (asks_for_own f)) again.0 found) in
      each-all HasNames (fixed p)
      (subst (λ (fs : List (Definition (List Found))). Each HasNames fs) (kept-turned is_kept (is_fixed true) all-anew ∙ sym fixed-are) (each-kept HasNames is_kept (filter (is_fixed true) all-anew) left))

  all-named : AreNamed p
  all-named = record {
    nodes = each-all (λ q. list_all is_name q ≡ true) (tree_of d).nodes (each-more (IsNamedPath IsName) (λ q. list_all is_name q ≡ true) (tree_of d).nodes (λ q h. named_path-named q h.0) names.nodes);
    properties = kept-each (λ y. is_name y.name.now ≡ true)
        (node_property-named d.nodes.items xs
        (subst (λ (ds : List (Definition (List Piece))). Each HasName ds) (sym read)
        (runs-named (tree_of d).properties (preorder (tree_of d).nodes)
        (each-more (λ e. IsName e.name × IsNamedValue IsName e.value) HasName (tree_of d).properties (λ e h. h.0) names.properties))));
    labels = each-all (λ l. is_name l.label ≡ true) (tree_of d).labels
        (each-more (λ l. IsName l.label × IsNamedPath IsName l.path) (λ l. is_name l.label ≡ true) (tree_of d).labels (λ l h. h.0) names.labels);
    elsewhere = elsewhere-by plugin refl;
  }

  -- ---- rows
  told-apart : (n : ℕ) → stood n ≡ true → (target : Option ℕ) → IsAmong stood target → IsToldApart d n target
  told-apart n up None among = tt
  told-apart n up (Some m) among = turned m n ∙ told n m up among

  abbrev anew : List (Option ℕ)
  anew = targets_anew x.targets.items x.anew

  added-standing : AreStanding d.nodes.items g.added.items
  added-standing =
      let test = is_added d (has_own_row xs) in
      let passed = each-passed (λ y. is_standing d y.node ≡ true) test x.new.items (λ y h. (and_parts (is_standing d y.node) (not (has_own_row xs y.node)) h).0) in
      let known = each-kept (λ (y : NodePhandle). IsNode d y.node) test x.new.items (each-of (λ (y : NodePhandle). IsNode d y.node) x.new.items is.new_known) in
      record {
        known = subst (λ (ys : List NodePhandle). All (λ y. IsNode d y.node) ys) (sym g.are_added) (each-all (λ (y : NodePhandle). IsNode d y.node) (filter test x.new.items) known);
        stand = subst (λ (ys : List NodePhandle). All (λ y. is_standing d y.node ≡ true) ys) (sym g.are_added) (each-all (λ (y : NodePhandle). is_standing d y.node ≡ true) (filter test x.new.items) passed);
      }

  pub dtc-ready : IsReady p
  dtc-ready = record {
    sound = is.sound;
    nodes = is.nodes;
    known = is.known;
    there = is.there;
    owners = kept-each (λ y. IsNode d y.node) (each-of (λ (y : NodeProperty Parts). IsNode d y.node) xs is.owners);
    stand = kept-each (λ y. is_standing d y.node ≡ true) (each-of (λ (y : NodeProperty Parts). is_standing d y.node ≡ true) xs is.stand);
    targets_known = is.targets;
    told_apart = λ asks. kept-each (λ y. All (IsToldApart d y.node) anew)
        (each-more (λ y. stood y.node ≡ true) (λ y. All (IsToldApart d y.node) anew) xs
        (λ y up. each-all (IsToldApart d y.node) anew (each-more (IsAmong stood) (IsToldApart d y.node) anew (told-apart y.node up) (each-of (IsAmong stood) anew is.before.anew))) owner-stood);
    anew_known = is.anew;
    given_known = is.given_known;
    new_known = is.new_known;
    numbered = each-all (IsByPath p) x.targets.items (each-more (IsAmong stood) (IsByPath p) x.targets.items by-path (each-of (IsAmong stood) x.targets.items is.before.targets));
    added = added-standing;
    added_numbers = numbers-added;
    standing = are;
    named = all-named;
    apart = names-apart;
    labels_apart = distinct-words (tree_of d).labels names.words;
    walked = walked-founds;
    fixed_walked = walked-fixed;
  }
