-- What stands is the tree that the rows leave.
use Rattle.std.proofs.Common.{◌≡◌, Bool, true, false, not, List, [], ◌∷◌, length, map, reverse, if◌then◌else◌, refl, sym, ap, ap₂, ◌∙◌, true≢false, arith}
use Rattle.std.specs.List.{filter, flat_map}
use Rattle.std.proofs.lemmas.Bool.{and_parts}
use Rattle.dt_source.specs.TreeMeaning.Paths.{Path, is_listed, same_path}
use Rattle.dt_source.specs.TreeMeaning.Syntax.{Piece}
use Rattle.dt_source.specs.TreeMeaning.Edits.{Definition, Label, State, counted}
use Rattle.dt_source.specs.TreeMeaning.Places.{what_stands}
use Rattle.dt_source.specs.TreeMeaning.References.{preorder}
use Rattle.dt_source.specs.TreeMeaning.DtcEdits.{all_below}
use Rattle.dt_source.specs.TreeMeaning.DtcStatements.{dtc_labels, dtc_state, label_twice}
use Rattle.dt_source.proofs.TreeMeaningLemmas.SeenNodes.{not-true}
use Rattle.dt_source.proofs.TreeMeaningLemmas.DtcLists.{InPairs, none-so}
use Rattle.dt_source.proofs.TreeMeaningLemmas.DtcOrder.{ordered-once, preorder-apart}
use Rattle.dt_source.proofs.TreeMeaningLemmas.DtcSound.{listed-at}
use Rattle.dt_source.proofs.TreeMeaningLemmas.DtcSteps.{IsOther}
use Rattle.dt_live.specs.Rows.{state_of}
use Rattle.dt_live.specs.Builder.Standing.{are_apart}
use Rattle.dt_live.specs.declared.placed.placed_tree.PlacedTree.{PlacedTree}
use Rattle.dt_live.specs.declared.placed.shown.Shown.{Shown}
use Rattle.dt_live.specs.Placed.Tables.{found_in, rows_in}
use Rattle.dt_live.specs.Placed.PlacedTrees.{IsPlacedTree, dtc_tree, property_seen}
use Rattle.dt_live.specs.Placed.Shown.{AreNodeRows, AreShown, first_standing}
use Rattle.dt_live.specs.Placed.Standing.{HasNodesOf, HasProperties, ordered_labels, read_with, shown_labels, state_read, worn_labels}
use Rattle.dt_live.proofs.PlacedLemmas.PlacesDown.{at-root}
use Rattle.dt_live.proofs.PlacedLemmas.Preorders.{apart-first, below-standing}

-- ---- no label is there twice in the order of the symbols that isn't in the order of places
paths-apart : (ps : List Path) → are_apart ps ≡ true → InPairs IsOther ps
paths-apart [] e = tt
paths-apart (p ∷ ps) e =
    let parts = and_parts (not (is_listed p ps)) (are_apart ps) e in
    (none-so (same_path p) ps (sym (listed-at p ps) ∙ not-true (is_listed p ps) parts.0), paths-apart ps parts.1)

module _ {V : Type 0} (d : PlacedTree V) (sound : IsPlacedTree d) where
  abbrev standing_nodes : List Path
  standing_nodes = first_standing (rows_in d.nodes) (length (rows_in d.nodes))

  rows-are : AreNodeRows (rows_in d.nodes) (found_in d.nodes)
  rows-are = record { table = sound.tables.nodes_table; grown = sound.tables.grown; owners = sound.tables.node_owners }

  pub ordered-twice : label_twice (ordered_labels d) ≡ true → label_twice (worn_labels d) ≡ true
  ordered-twice e = by_test (label_twice (worn_labels d)) refl where
    by_test : (b : Bool) → label_twice (worn_labels d) ≡ b → b ≡ true
    by_test true is = refl
    by_test false is =
        absurd (true≢false (sym e
        ∙ ordered-once (worn_labels d) (preorder standing_nodes) is
        (preorder-apart standing_nodes (paths-apart standing_nodes (apart-first (rows_in d.nodes) (found_in d.nodes) rows-are (length (rows_in d.nodes)) (omega arith))))))

  -- ---- it is the tree of the meaning
  module _ (read : V → List Piece) where
    below : all_below (dtc_tree read d) ≡ standing_nodes
    below = below-standing (rows_in d.nodes) sound.tables.grown d.begun

    labels-in-order : (b : Bool) → d.begun ≡ b → dtc_labels (dtc_tree read d) ≡ shown_labels d
    labels-in-order true e =
        ap (λ ps. flat_map (λ p. filter (λ l. same_path p l.path) (reverse (worn_labels d))) ps)
        (ap (λ b. if b then preorder (all_below (dtc_tree read d)) else []) (at-root d sound read true e).0 ∙ ap preorder below)
        ∙ ap (λ b. if b then ordered_labels d else []) (sym e)
    labels-in-order false e =
        ap (λ ps. flat_map (λ p. filter (λ l. same_path p l.path) (reverse (worn_labels d))) ps)
        (ap (λ b. if b then preorder (all_below (dtc_tree read d)) else []) (at-root d sound read false e))
        ∙ ap (λ b. if b then ordered_labels d else []) (sym e)

    pub state-left : (s : Shown V) → HasNodesOf d s → read_with read (state_of s.live).properties ≡ what_stands (map (property_seen read (rows_in d.nodes)) (rows_in d.properties)) → (state_of s.live).labels ≡ shown_labels d
        → dtc_state (dtc_tree read d) ≡ counted d.fragments (state_read read (state_of s.live))
    state-left s shown properties labels =
        let make : List Path → List (Definition (List Piece)) → List Label → State (List Piece) = λ ps es ls. record { nodes = ps; properties = es; labels = ls; fragments = d.fragments } in
        ap₂ (λ ps es. make ps es (dtc_labels (dtc_tree read d))) (below ∙ sym shown.nodes_shown) (sym properties)
        ∙ ap (λ ls. make (state_of s.live).nodes (read_with read (state_of s.live).properties) ls) (labels-in-order d.begun refl ∙ sym labels)

-- before the first property only nodes are shown
pub none-more : {V : Type 0} (d : PlacedTree V) (s : Shown V) → AreShown (rows_in d.nodes) (length (rows_in d.nodes)) s → HasProperties d 0 s
none-more {V = V} d s shown = record {
  shown = record { numbered = shown.numbered; nodes_shown = ap (λ (x : State V). x.nodes) shown.state };
  properties_shown = λ read. ap (λ (x : State V). read_with read x.properties) shown.state;
  unlabelled = ap (λ (x : State V). x.labels) shown.state;
}
