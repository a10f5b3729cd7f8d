use Rattle.std.proofs.Common.{◌≡◌, true, refl, sym, ap, ◌∙◌, subst, arith}
use Rattle.dt_live.specs.declared.placed.place.Place.{Place}
use Rattle.dt_live.specs.Placed.PlacedTrees.{IsFilled}
use Rattle.std.proofs.lemmas.List.{get_or_default}
use Rattle.dt_live.specs.Placed.Rows.{no_place, place_at}
use Rattle.dt_live.specs.Placed.Tables.{found_in, rows_in}
use Rattle.dt_live.proofs.PlacedLemmas.Values.{valued-set}
use Rattle.dt_live.proofs.PlacedLemmas.PropertyEdits.{removed-again, removed-none, removed-some, sound-set, within}
use Rattle.dt_live.proofs.placed.placed_tree.PlacedTree.remove_property.Goals as goal

pub index_mut-place-requires : goal.index_mut-place-requires
index_mut-place-requires g c =
    let d = c.args.self.now in
    omega (arith, within d c.requires.sound c.args.node c.requires.node c.args.name c.in-Some.row (sym c.in-Some.ensures), d.properties.rows.ok)

pub returns-then-not-place-clause-sound : goal.returns-then-not-place-clause-sound
returns-then-not-place-clause-sound g c =
    let d = c.args.self.now in
    let i = c.in-Some.row in
    let known = within d c.requires.sound c.args.node c.requires.node c.args.name i (sym c.in-Some.ensures) in
    let was : c.index_mut-place.result.now ≡ place_at (rows_in d.properties) i = c.index_mut-place.ensures.value ∙ get_or_default (rows_in d.properties) i c.index_mut-place.result.now no_place known in
    record {
      tables = sound-set d c.requires.sound c.args.node c.requires.node c.args.name i (sym c.in-Some.ensures)
          (record c.index_mut-place.result.now { removed = true }) _ (found_in d.properties) refl (ap (λ x. x.owner) was) (ap (λ x. x.name.now) was) (ap (λ x. x.again) was)
          (omega (arith, ap (λ x. x.made) was, c.requires.sound.tables.early_properties i)) refl;
      marks = c.requires.sound.marks;
      single = c.requires.sound.single;
      chained = c.requires.sound.chained;
      valued = valued-set (rows_in d.properties) i known c.requires.sound.valued (record c.index_mut-place.result.now { removed = true }) (subst (λ (x : Place _). IsFilled x) (sym was) (c.requires.sound.valued i)) _ refl;
    }

pub returns-then-not-place-clause-tree : goal.returns-then-not-place-clause-tree
returns-then-not-place-clause-tree g c =
    let d = c.args.self.now in
    let i = c.in-Some.row in
    let known = within d c.requires.sound c.args.node c.requires.node c.args.name i (sym c.in-Some.ensures) in
    let was : c.index_mut-place.result.now ≡ place_at (rows_in d.properties) i = c.index_mut-place.ensures.value ∙ get_or_default (rows_in d.properties) i c.index_mut-place.result.now no_place known in
    λ read. removed-some d c.requires.sound c.args.node c.requires.node c.args.name read i
    (record c.index_mut-place.result.now { removed = true }) _ (sym c.in-Some.ensures) (sym (ap (λ x. x.again) was) ∙ c.if-not-place.true)
    (ap (λ x. x.owner) was) (ap (λ x. x.name.now) was) (ap (λ x. x.value) was) refl refl

pub returns-else-not-place-clause-tree : goal.returns-else-not-place-clause-tree
returns-else-not-place-clause-tree g c =
    let d = c.args.self.now in
    let i = c.in-Some.row in
    let known = within d c.requires.sound c.args.node c.requires.node c.args.name i (sym c.in-Some.ensures) in
    let was : c.index_mut-place.result.now ≡ place_at (rows_in d.properties) i = c.index_mut-place.ensures.value ∙ get_or_default (rows_in d.properties) i c.index_mut-place.result.now no_place known in
    λ read. removed-again d c.requires.sound c.args.node c.requires.node c.args.name read i c.index_mut-place.result.now (sym c.in-Some.ensures) (sym (ap (λ x. x.again) was) ∙ c.if-not-place.false) was

pub returns-in_default-clause-tree : goal.returns-in_default-clause-tree
returns-in_default-clause-tree g c =
    let d = c.args.self.now in
    λ read. removed-none d c.requires.sound c.args.node c.requires.node c.args.name read (sym c.in_default.ensures)
