use Rattle.std.proofs.Common.{◌≡◌, ℕ, List, Some, Ok, true, slice_set, refl, sym, ap, ap₂, ◌∙◌, subst, arith, if◌then◌else◌}
use Rattle.std.specs.Prelude.{slice_index_or}
use Rattle.std.proofs.lemmas.List.{get_or_default, set-get_or}
use Rattle.dt_source.specs.TreeMeaning.DtcEdits.{without_all_within}
use Rattle.dt_live.specs.declared.placed.place.Place.{Place}
use Rattle.dt_live.specs.Placed.Rows.{no_place, place_at}
use Rattle.dt_live.specs.Placed.Tables.{found_in, rows_in}
use Rattle.dt_live.specs.Placed.PlacedTrees.{AreSound, IsOwner, child_path, dtc_tree}
use Rattle.std.specs.Vec.{with_item}
use Rattle.dt_live.proofs.PlacedLemmas.NewNodes.{key, known-row, two-again, two-single}
use Rattle.dt_live.proofs.PlacedLemmas.NodesMade.{path-row, tree-same}
use Rattle.dt_live.proofs.PlacedLemmas.NodesRemoved.{keeps-removed, marks-removed, nothing-removed, sound-removed, tree-removed}
use Rattle.dt_live.proofs.placed.placed_tree.PlacedTree.remove_child.Goals as goal

pub index_mut-place-requires : goal.index_mut-place-requires
index_mut-place-requires g c =
    let d = c.args.self.now in
    omega (arith, known-row d c.requires.sound c.args.parent c.requires.parent c.args.name c.in-Some.row (sym c.in-Some.ensures), d.nodes.rows.ok)

pub returns-then-not-place-clause-sound : goal.returns-then-not-place-clause-sound
returns-then-not-place-clause-sound g c =
    let d = c.args.self.now in
    let i = c.in-Some.row in
    let has : found_in d.nodes c.args.parent c.args.name.now ≡ Some i = sym c.in-Some.ensures in
    let known = known-row d c.requires.sound c.args.parent c.requires.parent c.args.name i has in
    let k = key d c.requires.sound c.args.parent c.requires.parent c.args.name i has in
    let counted : found_in d.nodes (place_at (rows_in d.nodes) i).owner (place_at (rows_in d.nodes) i).name.now ≡ Some i = ap₂ (found_in d.nodes) k.0 k.1 ∙ has in
    let y = c.index_mut-place.result.now in
    let ys : y ≡ place_at (rows_in d.nodes) i = c.index_mut-place.ensures.value ∙ get_or_default (rows_in d.nodes) i y no_place known in
    let r : Place ℕ = record y { removed = true } in
    record { tables = sound-removed d c.requires.sound i known counted r (ap (λ z. z.owner) ys) (ap (λ z. z.name.now) ys) (ap (λ z. z.made) ys) (ap (λ z. z.again) ys) refl; marks = marks-removed d c.requires.sound i known counted r (ap (λ z. z.owner) ys) (ap (λ z. z.name.now) ys) (ap (λ z. z.made) ys) (ap (λ z. z.again) ys) refl; single = c.requires.sound.single; chained = c.requires.sound.chained; valued = c.requires.sound.valued }

pub returns-then-not-place-clause-keeps : goal.returns-then-not-place-clause-keeps
returns-then-not-place-clause-keeps g c =
    let d = c.args.self.now in
    let i = c.in-Some.row in
    let has : found_in d.nodes c.args.parent c.args.name.now ≡ Some i = sym c.in-Some.ensures in
    let known = known-row d c.requires.sound c.args.parent c.requires.parent c.args.name i has in
    let k = key d c.requires.sound c.args.parent c.requires.parent c.args.name i has in
    let counted : found_in d.nodes (place_at (rows_in d.nodes) i).owner (place_at (rows_in d.nodes) i).name.now ≡ Some i = ap₂ (found_in d.nodes) k.0 k.1 ∙ has in
    let y = c.index_mut-place.result.now in
    let ys : y ≡ place_at (rows_in d.nodes) i = c.index_mut-place.ensures.value ∙ get_or_default (rows_in d.nodes) i y no_place known in
    let r : Place ℕ = record y { removed = true } in
    keeps-removed d c.requires.sound i known counted r (ap (λ z. z.owner) ys) (ap (λ z. z.name.now) ys) (ap (λ z. z.made) ys) (ap (λ z. z.again) ys) refl c.args.parent (omega (arith, c.requires.sound.tables.grown i, k.0)) (record d { nodes = record d.nodes { rows = with_item d.nodes.rows i r } }) refl

pub returns-then-not-place-clause-tree : goal.returns-then-not-place-clause-tree
returns-then-not-place-clause-tree g c =
    let d = c.args.self.now in
    let i = c.in-Some.row in
    let has : found_in d.nodes c.args.parent c.args.name.now ≡ Some i = sym c.in-Some.ensures in
    let known = known-row d c.requires.sound c.args.parent c.requires.parent c.args.name i has in
    let k = key d c.requires.sound c.args.parent c.requires.parent c.args.name i has in
    let counted : found_in d.nodes (place_at (rows_in d.nodes) i).owner (place_at (rows_in d.nodes) i).name.now ≡ Some i = ap₂ (found_in d.nodes) k.0 k.1 ∙ has in
    let y = c.index_mut-place.result.now in
    let ys : y ≡ place_at (rows_in d.nodes) i = c.index_mut-place.ensures.value ∙ get_or_default (rows_in d.nodes) i y no_place known in
    let r : Place ℕ = record y { removed = true } in
    λ read. ap (λ b. Ok (if b then dtc_tree read d else without_all_within (child_path d c.args.parent c.args.name.now) (dtc_tree read d)))
    (two-single d c.requires.sound c.args.parent c.requires.parent c.args.name read i has (sym (ap (λ z. z.again) ys) ∙ c.if-not-place.true))
    ∙ ap (λ q. Ok (without_all_within q (dtc_tree read d))) (sym (path-row d c.requires.sound c.args.parent c.requires.parent c.args.name i has))
    ∙ ap (λ t. Ok t) (sym (tree-removed d c.requires.sound i known counted r (ap (λ z. z.owner) ys) (ap (λ z. z.name.now) ys) (ap (λ z. z.made) ys) (ap (λ z. z.again) ys) refl read (record d { nodes = record d.nodes { rows = with_item d.nodes.rows i r } }) refl refl refl refl refl refl))

pub returns-else-not-place-clause-sound : goal.returns-else-not-place-clause-sound
returns-else-not-place-clause-sound g c =
    let d = c.args.self.now in
    let i = c.in-Some.row in
    let has : found_in d.nodes c.args.parent c.args.name.now ≡ Some i = sym c.in-Some.ensures in
    let known = known-row d c.requires.sound c.args.parent c.requires.parent c.args.name i has in
    let k = key d c.requires.sound c.args.parent c.requires.parent c.args.name i has in
    let counted : found_in d.nodes (place_at (rows_in d.nodes) i).owner (place_at (rows_in d.nodes) i).name.now ≡ Some i = ap₂ (found_in d.nodes) k.0 k.1 ∙ has in
    let y = c.index_mut-place.result.now in
    let ys : y ≡ place_at (rows_in d.nodes) i = c.index_mut-place.ensures.value ∙ get_or_default (rows_in d.nodes) i y no_place known in
    let same : slice_set (rows_in d.nodes) i y ≡ rows_in d.nodes = ap (slice_set (rows_in d.nodes) i) ys ∙ set-get_or (rows_in d.nodes) i no_place in
    record {
      tables = subst (λ (rs : List (Place ℕ)). AreSound rs (found_in d.nodes) (rows_in d.properties) (found_in d.properties) (rows_in d.labels) (found_in d.labels) d.clock) (sym same) c.requires.sound.tables;
      marks = λ j. subst (λ (rs : List (Place ℕ)). IsOwner rs (found_in d.nodes) (slice_index_or d.marks.items j 0)) (sym same) (c.requires.sound.marks j);
      single = c.requires.sound.single;
      chained = c.requires.sound.chained;
      valued = c.requires.sound.valued;
    }

pub returns-else-not-place-clause-tree : goal.returns-else-not-place-clause-tree
returns-else-not-place-clause-tree g c =
    let d = c.args.self.now in
    let i = c.in-Some.row in
    let has : found_in d.nodes c.args.parent c.args.name.now ≡ Some i = sym c.in-Some.ensures in
    let known = known-row d c.requires.sound c.args.parent c.requires.parent c.args.name i has in
    let k = key d c.requires.sound c.args.parent c.requires.parent c.args.name i has in
    let counted : found_in d.nodes (place_at (rows_in d.nodes) i).owner (place_at (rows_in d.nodes) i).name.now ≡ Some i = ap₂ (found_in d.nodes) k.0 k.1 ∙ has in
    let y = c.index_mut-place.result.now in
    let ys : y ≡ place_at (rows_in d.nodes) i = c.index_mut-place.ensures.value ∙ get_or_default (rows_in d.nodes) i y no_place known in
    let same : slice_set (rows_in d.nodes) i y ≡ rows_in d.nodes = ap (slice_set (rows_in d.nodes) i) ys ∙ set-get_or (rows_in d.nodes) i no_place in
    λ read. ap (λ b. Ok (if b then dtc_tree read d else without_all_within (child_path d c.args.parent c.args.name.now) (dtc_tree read d)))
    (two-again d c.requires.sound c.args.parent c.requires.parent c.args.name read i has (sym (ap (λ z. z.again) ys) ∙ c.if-not-place.false))
    ∙ ap (λ t. Ok t) (sym (tree-same read d (record d { nodes = record d.nodes { rows = with_item d.nodes.rows i y } }) same refl refl refl refl refl))

pub returns-in_default-clause-tree : goal.returns-in_default-clause-tree
returns-in_default-clause-tree g c =
    λ read. nothing-removed c.args.self.now c.requires.sound c.args.parent c.requires.parent c.args.name (sym c.in_default.ensures) read
