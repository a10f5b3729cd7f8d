-- A child in the body with which its parent begins.
use Rattle.std.proofs.Common.{◌≡◌, ℕ, suc, ◌<◌, ◌≤◌, Bool, true, false, not, ◌&&◌, nat_le, List, [], ◌∷◌, ◌++◌, length, map, slice_set, Option, Some, None, Ok, Err, Bor, if◌then◌else◌, refl, sym, ap, ap₂, ◌∙◌, subst, arith}
use Rattle.std.specs.Prelude.{slice_index_or}
use Rattle.std.proofs.lemmas.Bool.{le-leb, lt-leb}
use Rattle.dt_source.specs.TreeMeaning.Paths.{Path, same_path}
use Rattle.dt_source.specs.TreeMeaning.Syntax.{Piece}
use Rattle.dt_source.specs.TreeMeaning.Statements.{DuplicateInBody}
use Rattle.dt_source.specs.TreeMeaning.Places.{Row, row, place, has_two_places}
use Rattle.dt_source.specs.TreeMeaning.DtcEdits.{DtcTree, made_node, node_has_place, node_stands, unmade_node}
use Rattle.dt_live.specs.Index.{is_key}
use Rattle.dt_live.specs.Rows.{Found}
use Rattle.dt_live.specs.declared.placed.place.Place.{Place}
use Rattle.dt_live.specs.declared.placed.placed_tree.PlacedTree.{PlacedTree}
use Rattle.dt_live.specs.declared.placed.table.Entry.TheVariants.{New}
use Rattle.dt_live.specs.declared.placed.table.Table.{Table}
use Rattle.dt_live.specs.Placed.Rows.{holds, is_made, is_there, made_at, path_of, place_at}
use Rattle.dt_live.specs.Placed.Tables.{Enters, HasKey, IsTable, found_in, hidden, rows_in}
use Rattle.dt_live.specs.Placed.PlacedTrees.{AreSound, IsOwner, IsPlacedTree, IsStanding, child_path, dtc_tree, node_path, node_seen}
use Rattle.dt_live.specs.Placed.PlacedEdits.{Grows, IsFresh, IsMade, Keeps}
use Rattle.dt_live.proofs.PlacedLemmas.NodeSteps.{root-place, root-stands, root-two}
use Rattle.dt_live.proofs.PlacedLemmas.NodesAdded.{IsBase, fresh-added, grows-added, keeps-added, marks-added, mid-base, old-base, path-last-is, sound-added, standing-last, tree-added}
use Rattle.dt_live.proofs.PlacedLemmas.Owners.{child-of-key, key-of-child, standing-owner}
use Rattle.dt_live.proofs.PlacedLemmas.PlaceClimbs.{holds-step}
use Rattle.dt_live.proofs.PlacedLemmas.PropertyEdits.{early-node, first-node, removed-gone}
use Rattle.dt_live.proofs.PlacedLemmas.RowTables.{table-again, table-new}
use Rattle.dt_live.proofs.PlacedLemmas.SeenRows.{seen-has-none, seen-has-some, seen-one-gone, seen-one-none, seen-one-some, seen-two-again, seen-two-none, seen-two-single}

pub not-root : (p : Path) (n : List ℕ) → same_path (p ++ n ∷ []) [] ≡ false
not-root [] n = refl
not-root (x ∷ p) n = refl

-- a row was added: what there was, with it behind
pub record IsAdded {V : Type 0} (d : PlacedTree V) (parent : ℕ) (name : Bor (List ℕ)) (made : ℕ) (nodes : List (Place ℕ)) (found : Found) : Type 0 where
  pub r : Place ℕ
  pub owner : r.owner ≡ parent
  pub named : r.name.now ≡ name.now
  pub time : r.made ≡ made
  pub kept : r.removed ≡ false
  pub base : List (Place ℕ)
  pub ground : IsBase (rows_in d.nodes) base (found_in d.nodes) parent r.name.now
  pub is : nodes ≡ base ++ r ∷ []
  pub table : IsTable nodes found
  pub noted : (n : ℕ) (k : List ℕ) → found n k ≡ (if is_key r.owner r.name.now n k then Some (length (rows_in d.nodes)) else found_in d.nodes n k)

module _ {V : Type 0} (d : PlacedTree V) (sound : IsPlacedTree d) (parent : ℕ) (standing : IsStanding d parent) (name : Bor (List ℕ)) where
  abbrev nodes : List (Place ℕ)
  nodes = rows_in d.nodes

  abbrev found : Found
  found = found_in d.nodes

  abbrev entry : Option ℕ → ℕ → Place ℕ
  entry value made = record { owner = parent; name = name; value = value; made = made; removed = false; again = false }

  pub mine : IsOwner nodes found parent
  mine = standing-owner nodes found sound.tables.nodes_table sound.tables.grown sound.tables.node_owners parent standing.known standing.there

  -- ---- how a row is added
  pub added-new : (value : Option ℕ) (made i : ℕ) (new : Table ℕ) → Enters (entry value made) d.nodes new (New i) → IsAdded d parent name made (rows_in new) (found_in new)
  added-new value made i new e =
      let noted : (n : ℕ) (k : List ℕ) → found_in new n k ≡ (if is_key parent name.now n k then Some (length nodes) else found n k) = λ n k. e.3 n k ∙ ap (λ m. if is_key parent name.now n k then Some m else found n k) e.1 in
      record {
        r = entry value made;
        owner = refl;
        named = refl;
        time = refl;
        kept = refl;
        base = nodes;
        ground = old-base nodes found parent name.now sound.tables.grown e.0;
        is = e.2;
        table = subst (λ (rs : List (Place ℕ)). IsTable rs (found_in new)) (sym e.2) (table-new nodes (entry value made) found (found_in new) sound.tables.nodes_table e.0 refl noted);
        noted = noted;
      }

  module _ (i : ℕ) (has : found parent name.now ≡ Some i) where
    pub known-row : i < length nodes
    known-row = (sound.tables.nodes_table.right parent name.now i has).0

    pub key : HasKey nodes i parent name.now
    key = (sound.tables.nodes_table.right parent name.now i has).1

    pub holds-row : (b : Bool) → is_made nodes (place_at nodes i) ≡ b → holds nodes (suc i) ≡ b
    holds-row b e =
        holds-step nodes sound.tables.grown i ∙ ap₂ (λ x n. x && holds nodes n) e key.0 ∙ ap (λ x. b && x) standing.there ∙ and-true b where
          and-true : (b : Bool) → (b && true) ≡ b
          and-true true = refl
          and-true false = refl

    pub added-again : (value : Option ℕ) (made : ℕ) (mid new : Table ℕ) → rows_in mid ≡ nodes → found_in mid ≡ found → IsFresh d parent → is_made nodes (place_at nodes i) ≡ false
        → rows_in new ≡ slice_set (rows_in mid) i (hidden (place_at (rows_in mid) i)) ++ (record (place_at (rows_in mid) i) { value = value; made = made; removed = false; again = true }) ∷ []
        → ((n : ℕ) (k : List ℕ) → found_in new n k ≡ (if is_key (place_at (rows_in mid) i).owner (place_at (rows_in mid) i).name.now n k then Some (length (rows_in mid)) else found_in mid n k))
        → IsAdded d parent name made (rows_in new) (found_in new)
    added-again value made mid new same same_found fresh away at noted =
        let x = place_at nodes i in
        let r : Place ℕ = record x { value = value; made = made; removed = false; again = true } in
        let h = hidden x in
        let at' : rows_in new ≡ slice_set nodes i h ++ r ∷ [] = at ∙ ap (λ (rs : List (Place ℕ)). slice_set rs i (hidden (place_at rs i)) ++ (record (place_at rs i) { value = value; made = made; removed = false; again = true }) ∷ []) same in
        let noted' : (n : ℕ) (k : List ℕ) → found_in new n k ≡ (if is_key x.owner x.name.now n k then Some (length nodes) else found n k) =
        λ n k. noted n k ∙ ap₂ (λ (rs : List (Place ℕ)) (fs : Found). if is_key (place_at rs i).owner (place_at rs i).name.now n k then Some (length rs) else fs n k) same same_found in
        let none = holds-row false away in
        record {
          r = r;
          owner = key.0;
          named = key.1;
          time = refl;
          kept = refl;
          base = slice_set nodes i h;
          ground = mid-base nodes found parent x.name.now i known-row sound.tables.grown (ap (found parent) key.1 ∙ has) none (fresh i key.0 none);
          is = at';
          table = subst (λ (rs : List (Place ℕ)). IsTable rs (found_in new)) (sym at')
              (table-again nodes i h r found (found_in new) sound.tables.nodes_table known-row (ap₂ found key.0 key.1 ∙ has) refl refl refl refl refl refl refl noted');
          noted = noted';
        }

  -- ---- what is there
  there-by : (r : Place ℕ) (m : ℕ) (b : Bool) → r.owner ≡ parent → r.made ≡ m → r.removed ≡ false → nat_le (made_at nodes parent) m ≡ b → is_there nodes r ≡ b
  there-by r m b owner made kept e =
      ap₂ (λ x n. (not x && nat_le (made_at nodes n) r.made) && holds nodes n) kept owner
      ∙ ap (λ t. nat_le (made_at nodes parent) t && holds nodes parent) made
      ∙ ap₂ (λ x y. x && y) e standing.there ∙ and-true b where
        and-true : (b : Bool) → (b && true) ≡ b
        and-true true = refl
        and-true false = refl

  module _ (made : ℕ) (rows : List (Place ℕ)) (at : Found) (a : IsAdded d parent name made rows at) where
    pub now-there : d.clock ≤ made → is_there nodes a.r ≡ true
    now-there late = there-by a.r made true a.owner a.time a.kept (le-leb (made_at nodes parent) made (omega (arith, early-node d sound parent standing name parent, late)))

    pub never-there : made ≡ 0 → is_there nodes a.r ≡ false
    never-there none = there-by a.r made false a.owner a.time a.kept (lt-leb (made_at nodes parent) made (omega (arith, first-node d sound parent standing name, none)))

    pub tables-after : (clock : ℕ) → made ≤ clock → d.clock ≤ clock → AreSound rows at (rows_in d.properties) (found_in d.properties) (rows_in d.labels) (found_in d.labels) clock
    tables-after clock early later = sound-added d sound parent standing a.r a.owner a.base rows at a.ground a.is a.table a.noted mine clock (omega (arith, a.time, early)) later

    pub marks-after : (k : ℕ) → IsOwner rows at (slice_index_or d.marks.items k 0)
    marks-after = marks-added d sound parent standing a.r a.owner a.base rows at a.ground a.is a.table a.noted mine

    module _ (d' : PlacedTree V) (ns : rows_in d'.nodes ≡ rows) where
      pub keeps-after : (n : ℕ) → Keeps n d d'
      keeps-after = keeps-added d sound parent standing a.r a.owner a.base rows at a.ground a.is a.table a.noted mine d' ns

      pub grows-after : (is_there nodes a.r ≡ false → made ≡ 0) → Grows d d'
      grows-after never = grows-added d sound parent standing a.r a.owner a.base rows at a.ground a.is a.table a.noted mine d' ns (λ e. a.time ∙ never e)

      pub fresh-after : IsFresh d' (suc (length nodes))
      fresh-after = fresh-added d sound parent standing a.r a.owner a.base rows at a.ground a.is a.table a.noted mine d' ns

      pub made-after : d.clock ≤ made → IsMade d' parent (suc (length nodes)) (child_path d parent name.now)
      made-after late = record {
        behind = omega (arith, standing.known);
        standing = standing-last d sound parent standing a.r a.owner a.base rows at a.ground a.is a.table a.noted mine d' ns (now-there late);
        path = path-last-is d sound parent standing a.r a.owner a.base rows at a.ground a.is a.table a.noted mine d' ns ∙ ap (λ n. path_of nodes parent ++ n ∷ []) a.named;
      }

      pub tree-after : (read : V → List Piece) (b : Bool) → is_there nodes a.r ≡ b → d'.properties ≡ d.properties → d'.labels ≡ d.labels → d'.marks ≡ d.marks → d'.fragments ≡ d.fragments → d'.begun ≡ d.begun
          → dtc_tree read d' ≡ record (dtc_tree read d) { nodes = (dtc_tree read d).nodes ++ (record { what = child_path d parent name.now; stands = b }) ∷ [] }
      tree-after read b there ps ls ms fs bs =
          tree-added d sound parent standing a.r a.owner a.base rows at a.ground a.is a.table a.noted mine read b there d' ns ps ls ms fs bs
          ∙ ap (λ n. record (dtc_tree read d) { nodes = (dtc_tree read d).nodes ++ (record { what = path_of nodes parent ++ n ∷ []; stands = b }) ∷ [] }) a.named

  -- ---- what the meaning asks of the tree
  module _ (read : V → List Piece) where
    abbrev t : DtcTree
    t = dtc_tree read d

    abbrev q : Path
    q = child_path d parent name.now

    abbrev f : Place ℕ → Row Path
    f = node_seen nodes

    pub to : (j : ℕ) → same_path q (f (place_at nodes j)).what ≡ true → HasKey nodes j parent name.now
    to = key-of-child nodes found sound.tables.nodes_table sound.tables.grown sound.tables.node_owners parent mine name.now

    pub of : (j : ℕ) → HasKey nodes j parent name.now → same_path q (f (place_at nodes j)).what ≡ true
    of = child-of-key nodes found sound.tables.nodes_table sound.tables.grown sound.tables.node_owners parent mine name.now

    pub gone : (j : ℕ) → (place_at nodes j).removed ≡ true → (f (place_at nodes j)).stands ≡ false
    gone j = removed-gone nodes (place_at nodes j)

    root-no : same_path q [] ≡ false
    root-no = not-root (node_path d parent) name.now

    pub stands-none : found parent name.now ≡ None → node_stands q t ≡ false
    stands-none none = root-stands (same_path q) root-no d.begun (map f nodes) ∙ seen-one-none nodes found sound.tables.nodes_table parent name.now f (same_path q) to of gone none

    stands-by : (i : ℕ) → found parent name.now ≡ Some i → (b : Bool) → is_made nodes (place_at nodes i) ≡ b → (f (place_at nodes i)).stands ≡ b
    stands-by i has b e = sym (holds-step nodes sound.tables.grown i) ∙ holds-row i has b e

    pub stands-some : (i : ℕ) → found parent name.now ≡ Some i → is_made nodes (place_at nodes i) ≡ true → node_stands q t ≡ true
    stands-some i has e = root-stands (same_path q) root-no d.begun (map f nodes) ∙ seen-one-some nodes found sound.tables.nodes_table parent name.now f (same_path q) to of gone i has (stands-by i has true e)

    pub stands-gone : (i : ℕ) → found parent name.now ≡ Some i → is_made nodes (place_at nodes i) ≡ false → node_stands q t ≡ false
    stands-gone i has e = root-stands (same_path q) root-no d.begun (map f nodes) ∙ seen-one-gone nodes found sound.tables.nodes_table parent name.now f (same_path q) to of gone i has (stands-by i has false e)

    pub place-none : found parent name.now ≡ None → node_has_place q t ≡ false
    place-none none = root-place (same_path q) root-no d.begun (map f nodes) ∙ seen-has-none nodes found sound.tables.nodes_table parent name.now f (same_path q) to of gone none

    pub place-some : (i : ℕ) → found parent name.now ≡ Some i → node_has_place q t ≡ true
    place-some i has = root-place (same_path q) root-no d.begun (map f nodes) ∙ seen-has-some nodes found sound.tables.nodes_table parent name.now f (same_path q) to of gone i has

    pub two-single : (i : ℕ) → found parent name.now ≡ Some i → (place_at nodes i).again ≡ false → has_two_places (same_path q) t.nodes ≡ false
    two-single i has one = root-two (same_path q) root-no d.begun (map f nodes) ∙ seen-two-single nodes found sound.tables.nodes_table parent name.now f (same_path q) to of gone i has one

    pub two-again : (i : ℕ) → found parent name.now ≡ Some i → (place_at nodes i).again ≡ true → has_two_places (same_path q) t.nodes ≡ true
    two-again i has twice = root-two (same_path q) root-no d.begun (map f nodes) ∙ seen-two-again nodes found sound.tables.nodes_table parent name.now f (same_path q) to of gone i has twice

    pub two-none : found parent name.now ≡ None → has_two_places (same_path q) t.nodes ≡ false
    two-none none = root-two (same_path q) root-no d.begun (map f nodes) ∙ seen-two-none nodes found sound.tables.nodes_table parent name.now f (same_path q) to of gone none

    -- ---- in a first body
    pub new-made : (t' : DtcTree) → node_stands q t ≡ false → t' ≡ record t { nodes = t.nodes ++ row q ∷ [] } → made_node true q t ≡ Ok t'
    new-made t' none e = ap (λ b. if b then Err DuplicateInBody else Ok (record t { nodes = t.nodes ++ row q ∷ [] })) none ∙ ap (λ x. Ok x) (sym e)

    pub new-refused : node_stands q t ≡ true → made_node true q t ≡ Err DuplicateInBody
    new-refused there = ap (λ b. if b then Err DuplicateInBody else Ok (record t { nodes = t.nodes ++ row q ∷ [] })) there

    pub new-reserved : (t' : DtcTree) → node_stands q t ≡ false → t' ≡ record t { nodes = t.nodes ++ place q ∷ [] } → unmade_node true q t ≡ Ok t'
    new-reserved t' none e = ap (λ b. if b then Err DuplicateInBody else Ok (record t { nodes = t.nodes ++ place q ∷ [] })) none ∙ ap (λ x. Ok x) (sym e)

    pub reserve-refused : node_stands q t ≡ true → unmade_node true q t ≡ Err DuplicateInBody
    reserve-refused there = ap (λ b. if b then Err DuplicateInBody else Ok (record t { nodes = t.nodes ++ place q ∷ [] })) there
