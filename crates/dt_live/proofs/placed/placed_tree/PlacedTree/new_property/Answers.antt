use Rattle.std.proofs.Common.{◌≡◌, List, Some, length, true, false, slice_set, ◌++◌, ◌∷◌, [], refl, sym, ap, ap₂, ◌∙◌, subst, arith, if◌then◌else◌}
use Rattle.std.specs.Prelude.{slice_index_or}
use Rattle.std.proofs.lemmas.List.{get_or_default}
use Rattle.dt_live.specs.Index.{is_key}
use Rattle.dt_live.specs.declared.placed.place.Place.{Place}
use Rattle.dt_live.specs.declared.placed.table.Entry.{Entry}
use Rattle.dt_live.specs.Placed.Rows.{is_made, no_place, place_at}
use Rattle.dt_live.specs.Rows.{Found}
use Rattle.dt_live.specs.Placed.Tables.{Enters, found_in, hidden, rows_in}
use Rattle.dt_live.proofs.PlacedLemmas.Values.{valued-again, valued-entered}
use Rattle.dt_live.proofs.PlacedLemmas.PropertyEdits.{new-gone, new-none, new-there, sound-again, sound-entered, within}
use Rattle.dt_live.proofs.placed.placed_tree.PlacedTree.new_property.Goals as goal

pub index-requires : goal.index-requires
index-requires g c =
    let d = c.args.self.now in
    let met = subst (λ (e : Entry). Enters (record { owner = c.args.node; name = c.args.name; value = Some c.args.value; made = d.clock; removed = false; again = false }) d.properties c.enter.new.self e) c.in-Found.is c.in_ok-enter.ensures in
    omega (arith, within d c.requires.sound c.args.node c.requires.node c.args.name c.in-Found.row met.0, ap length met.1, c.enter.new.self.rows.ok)

pub returns-then-is_made-clause-tree : goal.returns-then-is_made-clause-tree
returns-then-is_made-clause-tree g c =
    let d = c.args.self.now in
    let i = c.in-Found.row in
    let met = subst (λ (e : Entry). Enters (record { owner = c.args.node; name = c.args.name; value = Some c.args.value; made = d.clock; removed = false; again = false }) d.properties c.enter.new.self e) c.in-Found.is c.in_ok-enter.ensures in
    let known = within d c.requires.sound c.args.node c.requires.node c.args.name i met.0 in
    let x = c.index.result.now in
    let was : x ≡ place_at (rows_in d.properties) i = c.index.ensures ∙ ap (λ rs. slice_index_or rs i x) met.1 ∙ get_or_default (rows_in d.properties) i x no_place known in
    λ read. new-there d c.requires.sound c.args.node c.requires.node c.args.name read c.args.value i met.0
    (ap₂ (λ ns r. is_made ns r) (sym c.as_slice.ensures.value) (sym was) ∙ sym c.is_made.ensures ∙ c.if-is_made.true)

pub returns-in-New-clause-sound : goal.returns-in-New-clause-sound
returns-in-New-clause-sound g c =
    let d = c.args.self.now in
    record {
      tables = sound-entered d c.requires.sound c.args.node c.requires.node c.args.name (Some c.args.value) d.clock (omega arith) c.enter.new.self c.in_ok-enter.field-0 c.in_ok-enter.ensures;
      marks = c.requires.sound.marks;
      single = c.requires.sound.single;
      chained = c.requires.sound.chained;
      valued = valued-entered d.properties c.requires.sound.valued (record { owner = c.args.node; name = c.args.name; value = Some c.args.value; made = d.clock; removed = false; again = false }) (λ _. refl) c.enter.new.self c.in_ok-enter.field-0 c.in_ok-enter.ensures;
    }

pub returns-in-New-clause-tree : goal.returns-in-New-clause-tree
returns-in-New-clause-tree g c =
    let d = c.args.self.now in
    let new = subst (λ (e : Entry). Enters (record { owner = c.args.node; name = c.args.name; value = Some c.args.value; made = d.clock; removed = false; again = false }) d.properties c.enter.new.self e) c.in-New.is c.in_ok-enter.ensures in
    λ read. new-none d c.requires.sound c.args.node c.requires.node c.args.name read c.args.value (rows_in c.enter.new.self) new.0 new.2

pub returns-in_ok-renew-in-Found-clause-sound : goal.returns-in_ok-renew-in-Found-clause-sound
returns-in_ok-renew-in-Found-clause-sound g c =
    let d = c.args.self.now in
    let i = c.in-Found.row in
    let met = subst (λ (e : Entry). Enters (record { owner = c.args.node; name = c.args.name; value = Some c.args.value; made = d.clock; removed = false; again = false }) d.properties c.enter.new.self e) c.in-Found.is c.in_ok-enter.ensures in
    let x = place_at (rows_in d.properties) i in
    record {
      tables = sound-again d c.requires.sound c.args.node c.requires.node c.args.name i met.0
          (record x { value = Some c.args.value; made = d.clock; removed = false; again = true }) (rows_in c.renew.new.self) (found_in c.renew.new.self) refl refl refl (omega arith)
          (c.in_ok-renew-in-Found.ensures.rows ∙ ap (λ rs. slice_set rs i (hidden (place_at rs i)) ++ (record (place_at rs i) { value = Some c.args.value; made = d.clock; removed = false; again = true }) ∷ []) met.1)
          (λ n k. c.in_ok-renew-in-Found.ensures.index n k
          ∙ ap₂ (λ (rs : List (Place _)) (fs : Found). if is_key (place_at rs i).owner (place_at rs i).name.now n k then Some (length rs) else fs n k) met.1 met.2);
      marks = c.requires.sound.marks;
      single = c.requires.sound.single;
      chained = c.requires.sound.chained;
      valued = valued-again (rows_in d.properties) i (within d c.requires.sound c.args.node c.requires.node c.args.name i met.0) c.requires.sound.valued (record x { value = Some c.args.value; made = d.clock; removed = false; again = true }) (λ _. refl) (rows_in c.renew.new.self)
          (c.in_ok-renew-in-Found.ensures.rows ∙ ap (λ rs. slice_set rs i (hidden (place_at rs i)) ++ (record (place_at rs i) { value = Some c.args.value; made = d.clock; removed = false; again = true }) ∷ []) met.1);
    }

pub returns-in_ok-renew-in-Found-clause-tree : goal.returns-in_ok-renew-in-Found-clause-tree
returns-in_ok-renew-in-Found-clause-tree g c =
    let d = c.args.self.now in
    let i = c.in-Found.row in
    let met = subst (λ (e : Entry). Enters (record { owner = c.args.node; name = c.args.name; value = Some c.args.value; made = d.clock; removed = false; again = false }) d.properties c.enter.new.self e) c.in-Found.is c.in_ok-enter.ensures in
    let known = within d c.requires.sound c.args.node c.requires.node c.args.name i met.0 in
    let y = c.index.result.now in
    let was : y ≡ place_at (rows_in d.properties) i = c.index.ensures ∙ ap (λ rs. slice_index_or rs i y) met.1 ∙ get_or_default (rows_in d.properties) i y no_place known in
    let x = place_at (rows_in d.properties) i in
    λ read. new-gone d c.requires.sound c.args.node c.requires.node c.args.name read c.args.value i
    (record x { value = Some c.args.value; made = d.clock; removed = false; again = true }) (rows_in c.renew.new.self) met.0
    (ap₂ (λ ns r. is_made ns r) (sym c.as_slice.ensures.value) (sym was) ∙ sym c.is_made.ensures ∙ c.if-is_made.false) refl refl refl refl refl
    (c.in_ok-renew-in-Found.ensures.rows ∙ ap (λ rs. slice_set rs i (hidden (place_at rs i)) ++ (record (place_at rs i) { value = Some c.args.value; made = d.clock; removed = false; again = true }) ∷ []) met.1)
