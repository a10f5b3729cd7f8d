use Rattle.std.proofs.Common.{◌≡◌, Some, length, false, slice_set, refl, sym, ap, ◌∙◌, subst, arith}
use Rattle.std.specs.Prelude.{slice_index_or}
use Rattle.std.proofs.lemmas.List.{get_or_default}
use Rattle.dt_live.specs.declared.placed.table.Entry.{Entry}
use Rattle.dt_live.specs.Placed.Rows.{no_place, place_at}
use Rattle.dt_live.specs.Placed.Tables.{Enters, rows_in}
use Rattle.dt_live.proofs.PlacedLemmas.Values.{valued-entered, valued-set}
use Rattle.dt_live.proofs.PlacedLemmas.PropertyEdits.{set-again, set-none, set-some, sound-entered, sound-set, within}
use Rattle.dt_live.proofs.placed.placed_tree.PlacedTree.set_property.Goals as goal

pub index_mut-place-requires : goal.index_mut-place-requires
index_mut-place-requires g c =
    let d = c.args.self.now in
    let met = subst (λ (e : Entry). Enters (record { owner = c.args.node; name = c.args.name; value = Some c.args.value; made = d.clock; removed = false; again = false }) d.properties c.enter.new.self e) c.in-Found.is c.in_ok-enter.ensures in
    omega (arith, within d c.requires.sound c.args.node c.requires.node c.args.name c.in-Found.row met.0, ap length met.1, c.enter.new.self.rows.ok)

pub returns-then-place-clause-tree : goal.returns-then-place-clause-tree
returns-then-place-clause-tree g c =
    let d = c.args.self.now in
    let i = c.in-Found.row in
    let met = subst (λ (e : Entry). Enters (record { owner = c.args.node; name = c.args.name; value = Some c.args.value; made = d.clock; removed = false; again = false }) d.properties c.enter.new.self e) c.in-Found.is c.in_ok-enter.ensures in
    let known = within d c.requires.sound c.args.node c.requires.node c.args.name i met.0 in
    let was : c.index_mut-place.result.now ≡ place_at (rows_in d.properties) i =
    c.index_mut-place.ensures.value ∙ ap (λ rs. slice_index_or rs i c.index_mut-place.result.now) met.1 ∙ get_or_default (rows_in d.properties) i c.index_mut-place.result.now no_place known in
    λ read. set-again d c.requires.sound c.args.node c.requires.node c.args.name read c.args.value i met.0 (sym (ap (λ x. x.again) was) ∙ c.if-place.true)

pub returns-in-New-clause-sound : goal.returns-in-New-clause-sound
returns-in-New-clause-sound g c =
    let d = c.args.self.now in
    record {
      tables = sound-entered d c.requires.sound c.args.node c.requires.node c.args.name (Some c.args.value) d.clock (omega arith) c.enter.new.self c.in_ok-enter.field-0 c.in_ok-enter.ensures;
      marks = c.requires.sound.marks;
      single = c.requires.sound.single;
      chained = c.requires.sound.chained;
      valued = valued-entered d.properties c.requires.sound.valued (record { owner = c.args.node; name = c.args.name; value = Some c.args.value; made = d.clock; removed = false; again = false }) (λ _. refl) c.enter.new.self c.in_ok-enter.field-0 c.in_ok-enter.ensures;
    }

pub returns-in-New-clause-tree : goal.returns-in-New-clause-tree
returns-in-New-clause-tree g c =
    let d = c.args.self.now in
    let new = subst (λ (e : Entry). Enters (record { owner = c.args.node; name = c.args.name; value = Some c.args.value; made = d.clock; removed = false; again = false }) d.properties c.enter.new.self e) c.in-New.is c.in_ok-enter.ensures in
    λ read. set-none d c.requires.sound c.args.node c.requires.node c.args.name read c.args.value (rows_in c.enter.new.self) new.0 new.2

pub returns-else-place-clause-sound : goal.returns-else-place-clause-sound
returns-else-place-clause-sound g c =
    let d = c.args.self.now in
    let i = c.in-Found.row in
    let met = subst (λ (e : Entry). Enters (record { owner = c.args.node; name = c.args.name; value = Some c.args.value; made = d.clock; removed = false; again = false }) d.properties c.enter.new.self e) c.in-Found.is c.in_ok-enter.ensures in
    let known = within d c.requires.sound c.args.node c.requires.node c.args.name i met.0 in
    let x = c.index_mut-place.result.now in
    let was : x ≡ place_at (rows_in d.properties) i = c.index_mut-place.ensures.value ∙ ap (λ rs. slice_index_or rs i x) met.1 ∙ get_or_default (rows_in d.properties) i x no_place known in
    record {
      tables =
          sound-set d c.requires.sound c.args.node c.requires.node c.args.name i met.0
          (record { owner = x.owner; name = x.name; value = Some c.args.value; made = d.clock; removed = false; again = x.again }) _ _ met.2 (ap (λ x. x.owner) was) (ap (λ x. x.name.now) was) (ap (λ x. x.again) was)
          (omega arith) (ap (λ rs. slice_set rs i (record { owner = x.owner; name = x.name; value = Some c.args.value; made = d.clock; removed = false; again = x.again })) met.1);
      marks = c.requires.sound.marks;
      single = c.requires.sound.single;
      chained = c.requires.sound.chained;
      valued = valued-set (rows_in d.properties) i known c.requires.sound.valued (record { owner = x.owner; name = x.name; value = Some c.args.value; made = d.clock; removed = false; again = x.again }) (λ _. refl) _
          (ap (λ rs. slice_set rs i (record { owner = x.owner; name = x.name; value = Some c.args.value; made = d.clock; removed = false; again = x.again })) met.1);
    }

pub returns-else-place-clause-tree : goal.returns-else-place-clause-tree
returns-else-place-clause-tree g c =
    let d = c.args.self.now in
    let i = c.in-Found.row in
    let met = subst (λ (e : Entry). Enters (record { owner = c.args.node; name = c.args.name; value = Some c.args.value; made = d.clock; removed = false; again = false }) d.properties c.enter.new.self e) c.in-Found.is c.in_ok-enter.ensures in
    let known = within d c.requires.sound c.args.node c.requires.node c.args.name i met.0 in
    let x = c.index_mut-place.result.now in
    let was : x ≡ place_at (rows_in d.properties) i = c.index_mut-place.ensures.value ∙ ap (λ rs. slice_index_or rs i x) met.1 ∙ get_or_default (rows_in d.properties) i x no_place known in
    λ read. set-some d c.requires.sound c.args.node c.requires.node c.args.name read c.args.value i
    (record { owner = x.owner; name = x.name; value = Some c.args.value; made = d.clock; removed = false; again = x.again }) _ met.0 (sym (ap (λ x. x.again) was) ∙ c.if-place.false)
    (ap (λ x. x.owner) was) (ap (λ x. x.name.now) was) refl refl refl
    (ap (λ rs. slice_set rs i (record { owner = x.owner; name = x.name; value = Some c.args.value; made = d.clock; removed = false; again = x.again })) met.1)
