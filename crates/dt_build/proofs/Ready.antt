-- A lawful source that is prepared is ready to be made into a tree.
use Rattle.std.proofs.Common.{◌≡◌, ℕ, suc, Bool, true, false, List, [], ◌∷◌, ◌++◌, length, map, Option, Some, None, Ok, Vec, refl, sym, ap, ◌∙◌, subst, true≢false, arith}
use Rattle.std.specs.Prelude.{All}
use Rattle.std.specs.Global.{Global}
use Rattle.std.specs.Int.{to_be_bytes, w32}
use Rattle.std.specs.List.{flat_map, list_all}
use Rattle.dt_tree.specs.Name.{is_name}
use Rattle.dt_source.specs.declared.tree.Source.{Source}
use Rattle.dt_source.specs.Lawful.{IsLawful}
use Rattle.dt_source.specs.Meaning.{meaning_of}
use Rattle.dt_source.specs.TreeMeaning.Paths.{Path, is_listed}
use Rattle.dt_tree.specs.Sound.{are_distinct}
use Rattle.dt_source.specs.TreeMeaning.Syntax.{Meaning, Piece}
use Rattle.dt_source.specs.TreeMeaning.Fixups.{phandle_of}
use Rattle.dt_source.specs.TreeMeaning.Resolved.{phandle_property, when}
use Rattle.dt_source.specs.TreeMeaning.Edits.{Definition}
use Rattle.dt_tree.specs.Steps.{each}
use Rattle.dt_source.specs.TreeMeaning.References.{Found, found_value, held, in_order, preorder, references}
use Rattle.dt_source.specs.TreeMeaning.Phandles.{assigned, wanted}
use Rattle.dt_live.specs.Index.{row_of}
use Rattle.dt_live.specs.declared.live_tree.NodeRow.{NodeRow}
use Rattle.dt_live.specs.declared.preorder.properties.NodeProperty.{NodeProperty}
use Rattle.dt_live.specs.Rows.{is_standing, node_path, path_of}
use Rattle.dt_build.specs.Edit.Said.{Parts, tree_of}
use Rattle.dt_live.proofs.Each.{Each, each-all, each-more, each-of}
use Rattle.dt_live.proofs.Runs.{HasName, all-named as runs-named}
use Rattle.dt_live.specs.Builder.Standing.{are_apart, AreNodes}
use Rattle.dt_live.proofs.NodesStanding.{are-nodes, there-by}
use Rattle.dt_build.specs.declared.resolve.node_phandles.NodePhandle.{NodePhandle}
use Rattle.dt_build.specs.declared.resolve.prepared.Prepared.{Prepared}
use Rattle.dt_build.specs.Resolve.NodePhandles.{AreStanding, path_phandle_of}
use Rattle.dt_build.specs.Resolve.Prepared.{IsPrepared}
use Rattle.dt_build.specs.Resolve.Private.ReadProperty.{read_property}
use Rattle.dt_build.specs.Resolve.Targets.{IsThere}
use Rattle.dt_build.proofs.ResolveLemmas.FoundProperties.{properties-found}
use Rattle.dt_build.proofs.ResolveLemmas.LeftRows.{filter-every}
use Rattle.dt_build.proofs.ResolveLemmas.ReadOrder.{read-order}
use Rattle.dt_build.specs.declared.draft.Draft.{Draft}
use Rattle.dt_build.specs.Private.Drafts.{drafted}
use Rattle.dt_build.specs.Private.FirstPhandle.{IsByPath, number_of}
use Rattle.dt_build.specs.Private.Made.{added_phandles, fixed, founds, given_phandles, is_fixed, new_phandles, plain_properties}
use Rattle.dt_build.specs.Private.Ready.{AreNamed, IsNamedFound, IsReady}
use Rattle.dt_build.proofs.ApartKeys.{distinct-words}
use Rattle.dt_build.proofs.ApartMade.{listed-in-order, names-apart}
use Rattle.dt_build.proofs.ApartPhandles.{AreNew, apart-of, new-phandles, paths}
use Rattle.dt_build.proofs.FoundNames.{founds-named}
use Rattle.dt_build.proofs.NamedEdits.{IsNamedPath, IsNamed, IsNamedValue, edits-named, listed-so}
use Rattle.dt_build.proofs.NodePhandleSteps.{number-behind, number-is}
use Rattle.dt_build.proofs.NamedSources.{IsName, items-named, names-brought, named_path-named, edits-shallow}

-- ---- what is not of the other language
pub fixed-is : (p : Prepared) (added : Vec NodePhandle Global) → fixed (drafted p added) ≡ founds (drafted p added)
fixed-is p added = filter-every (is_fixed false) (λ e. refl) (founds (drafted p added))

pub added-is : (p : Prepared) (added : Vec NodePhandle Global) → added.items ≡ p.resolution.new.items → added_phandles (drafted p added) ≡ new_phandles (drafted p added)
added-is p added same = ap (map (path_phandle_of p.live.nodes.items)) same

all-when : {A : Type 0} (P : A → Type 0) (b : Bool) (xs : List A) → All P xs → All P (when b xs)
all-when P true xs all = all
all-when P false xs all = λ k y below. absurd (omega (arith, below))

-- ---- names
pub node_property-named : (nodes : List NodeRow) (xs : List (NodeProperty Parts)) → Each HasName (map (read_property nodes) xs) → Each (λ x. is_name x.name.now ≡ true) xs
node_property-named nodes [] h = tt
node_property-named nodes (x ∷ xs) h = (h.0, node_property-named nodes xs h.1)

-- ---- of any source
module _ (symbols : Bool) (m : Meaning) (es : List (Definition (List Found))) (p : Prepared) (is : IsPrepared symbols m es p) (added : Vec NodePhandle Global) (same : added.items ≡ p.resolution.new.items) where
  found-here : references p.plugin (tree_of p.live) ≡ Ok es
  found-here = ap (λ b. references b (tree_of p.live)) is.plugin ∙ is.resolved.found

  abbrev pub made : Draft
  made = drafted p added

  pub founds-are : founds made ≡ es
  founds-are =
      sym (properties-found m.plugin (tree_of p.live) p.live.nodes.items p.in_preorder.properties.items es
      (ap (each (found_value m.plugin (tree_of p.live))) (read-order p.live p.in_preorder.properties.items is.properties) ∙ is.resolved.found)
      p.resolution.targets.all.items is.resolved.targets.all)

  pub found-all : references p.plugin (tree_of p.live) ≡ Ok (founds made)
  found-all = found-here ∙ ap (λ xs. Ok xs) (sym founds-are)

  pub standing-all : AreNodes (tree_of p.live).nodes
  standing-all =
      are-nodes p.live.nodes.items (row_of p.live.node_rows) is.sound.grown is.sound.nodes (length p.live.nodes.items)
      (edits-shallow m is.fragments (tree_of p.live) is.edited)

  -- ---- new phandles
  abbrev nodes : List Path
  nodes = (tree_of p.live).nodes

  new-is : new_phandles made ≡ assigned (given_phandles made) 0 (wanted symbols (tree_of p.live) (given_phandles made) (founds made))
  new-is = is.resolved.new ∙ ap (λ fs. assigned (given_phandles made) 0 (wanted symbols (tree_of p.live) (given_phandles made) fs)) (sym founds-are)

  new-nodes : AreNew (given_phandles made) (new_phandles made)
  new-nodes = new-phandles symbols p.plugin (tree_of p.live) (in_order (tree_of p.live)) (founds made) (given_phandles made) (new_phandles made) found-all new-is

  -- no node gets two
  pub new-apart : are_apart (paths (new_phandles made)) ≡ true
  new-apart = apart-of (paths (new_phandles made)) new-nodes.apart

  -- no node gets one that has one
  pub new-free : (q : Path) → is_listed q (paths (new_phandles made)) ≡ true → is_listed q (paths (given_phandles made)) ≡ false
  new-free q there = listed-so (λ x. is_listed x (paths (given_phandles made)) ≡ false) q (paths (new_phandles made)) new-nodes.unseen there

  each-there : (xs : List NodePhandle) → AreStanding p.live.nodes.items xs → Each (λ q. is_listed q (preorder nodes) ≡ true) (paths (map (path_phandle_of p.live.nodes.items) xs))
  each-there [] up = tt
  each-there (x ∷ xs) up = (
    sym (listed-in-order nodes standing-all (path_of p.live.nodes.items x.node))
        ∙ there-by p.live.nodes.items (row_of p.live.node_rows) is.sound.grown is.sound.nodes (length p.live.nodes.items) x.node (up.known 0 x (omega arith)) (up.stand 0 x (omega arith)),
    each-there xs (record { known = λ k y below. up.known (suc k) y (omega arith); stand = λ k y below. up.stand (suc k) y (omega arith) }),
  )

  -- each node that gets one is met in the walk, and so is each that has one
  pub new-there : (q : Path) → is_listed q (paths (new_phandles made)) ≡ true → is_listed q (preorder nodes) ≡ true
  new-there q there = listed-so (λ x. is_listed x (preorder nodes) ≡ true) q (paths (new_phandles made)) (each-there p.resolution.new.items is.new) there

  pub given-there : (q : Path) → is_listed q (paths (given_phandles made)) ≡ true → is_listed q (preorder nodes) ≡ true
  given-there q there = listed-so (λ x. is_listed x (preorder nodes) ≡ true) q (paths (given_phandles made)) (each-there p.resolution.given.phandles.items is.given) there

  -- ---- numbers
  by-path : (t : Option ℕ) → IsThere p.live t → IsByPath made t
  by-path None up = tt
  by-path (Some k) up = number-is made is.sound is.given is.new k up

  numbers-added : (k : ℕ) → is_standing p.live k ≡ true → is_listed (node_path p.live k) (paths (added_phandles made)) ≡ true
      → to_be_bytes w32 (number_of made k) ≡ to_be_bytes w32 (phandle_of (added_phandles made) (node_path p.live k))
  numbers-added k up there =
      let q = node_path p.live k in
      number-is made is.sound is.given is.new k up
      ∙ ap (to_be_bytes w32) (number-behind q (given_phandles made) (new_phandles made) (new-free q (ap (λ xs. is_listed q (paths xs)) (sym (added-is p added same)) ∙ there))
      ∙ ap (λ xs. phandle_of xs q) (sym (added-is p added same)))

  -- ---- of a lawful one
  module _ (named : IsNamed IsName (IsNamedValue IsName) (tree_of p.live)) (walked : flat_map (held (founds made)) (preorder nodes) ≡ founds made) where
    all-named : AreNamed made
    all-named = record {
      nodes = each-all (λ q. list_all is_name q ≡ true) nodes (each-more (IsNamedPath IsName) (λ q. list_all is_name q ≡ true) nodes (λ q h. named_path-named q h.0) named.nodes);
      properties = each-all (λ x. is_name x.name.now ≡ true) p.in_preorder.properties.items
          (node_property-named p.live.nodes.items p.in_preorder.properties.items
          (subst (λ (ds : List (Definition (List Piece))). Each HasName ds) (sym (read-order p.live p.in_preorder.properties.items is.properties))
          (runs-named (tree_of p.live).properties (preorder (tree_of p.live).nodes)
          (each-more (λ e. IsName e.name × IsNamedValue IsName e.value) HasName (tree_of p.live).properties (λ e h. h.0) named.properties))));
      labels = each-all (λ l. is_name l.label ≡ true) (tree_of p.live).labels
          (each-more (λ l. IsName l.label × IsNamedPath IsName l.path) (λ l. is_name l.label ≡ true) (tree_of p.live).labels (λ l h. h.0) named.labels);
      elsewhere = all-when (λ e. All IsNamedFound e.value) p.plugin (fixed made)
          (subst (λ (fs : List (Definition (List Found))). All (λ e. All IsNamedFound e.value) fs) (sym (fixed-is p added)) (founds-named p.plugin (tree_of p.live) (founds made) named.properties found-all));
    }

    named-ready : IsReady made
    named-ready = record {
      sound = is.sound;
      nodes = is.nodes;
      known = is.known;
      there = is.there;
      owners = is.owners;
      stand = is.stand;
      targets_known = is.targets_known;
      told_apart = λ asks. absurd (true≢false (sym asks));
      anew_known = is.targets_known;
      given_known = is.given.known;
      new_known = is.new.known;
      numbered = each-all (IsByPath made) p.resolution.targets.all.items
          (each-more (IsThere p.live) (IsByPath made) p.resolution.targets.all.items by-path (each-of (IsThere p.live) p.resolution.targets.all.items is.targets_there));
      added = subst (AreStanding p.live.nodes.items) (sym same) is.new;
      added_numbers = numbers-added;
      standing = standing-all;
      named = all-named;
      apart = λ q.
          ap (λ xs. are_distinct (map (λ e. e.name) (held (plain_properties made ++ map phandle_property xs) q))) (added-is p added same)
          ∙ names-apart symbols p.plugin (tree_of p.live) standing-all named.keys (given_phandles made) (new_phandles made) (founds made) is.resolved.given found-all new-is q;
      labels_apart = distinct-words (tree_of p.live).labels named.words;
      walked = walked;
      fixed_walked = ap (λ fs. flat_map (held fs) (preorder nodes)) (fixed-is p added) ∙ walked ∙ sym (fixed-is p added);
    }

-- a lawful source
pub ready : (symbols : Bool) (source : Source) (es : List (Definition (List Found))) (p : Prepared) → IsPrepared symbols (meaning_of source) es p → IsLawful (meaning_of source)
    → (added : Vec NodePhandle Global) → added.items ≡ p.resolution.new.items
    → flat_map (held (founds (drafted p added))) (preorder (tree_of p.live).nodes) ≡ founds (drafted p added) → IsReady (drafted p added)
ready symbols source es p is lawful added same walked =
    named-ready symbols (meaning_of source) es p is added same
    (edits-named IsName names-brought (meaning_of source) is.fragments (tree_of p.live) (items-named (meaning_of source).items lawful.items) is.edited) walked
