use Rattle.std.proofs.Common.{◌≡◌, ℕ, Some, ◌++◌, ◌∷◌, [], if◌then◌else◌, false, length, slice_set, refl, ap, ◌∙◌, subst, arith}
use Rattle.std.specs.Prelude.{slice_index_or}
use Rattle.std.specs.Str.{bytes_eq}
use Rattle.std.proofs.lemmas.List.{get_or_default}
use Rattle.dt_live.specs.declared.placed.place.Place.{Place}
use Rattle.dt_live.specs.declared.placed.table.Entry.{Entry}
use Rattle.dt_live.specs.Placed.Rows.{no_place, place_at}
use Rattle.dt_live.specs.Placed.Tables.{Enters, found_in, rows_in}
use Rattle.dt_live.specs.Index.{row_of}
use Rattle.dt_live.proofs.PlacedLemmas.Chains.{chain-more, chain-set}
use Rattle.dt_live.proofs.PlacedLemmas.LabelEdits.{given-again, given-new, single-given, single-set, sound-given, sound-set, within}
use Rattle.dt_live.proofs.placed.placed_tree.PlacedTree.give_label.Goals as goal

pub index-requires : goal.index-requires
index-requires g c =
    let d = c.args.self.now in
    let met = subst (λ (e : Entry). Enters (record { owner = c.args.node; name = c.args.label; value = Some c.args.at; made = d.clock; removed = false; again = false }) d.labels c.enter.new.self e) c.in-Found.is c.in_ok-row.ensures in
    omega (arith, within d c.requires.sound c.args.node c.requires.node c.args.label c.in-Found.row met.0, ap length met.1, c.enter.new.self.rows.ok)

pub index_mut-place-requires : goal.index_mut-place-requires
index_mut-place-requires g c =
    let d = c.args.self.now in
    let met = subst (λ (e : Entry). Enters (record { owner = c.args.node; name = c.args.label; value = Some c.args.at; made = d.clock; removed = false; again = false }) d.labels c.enter.new.self e) c.in-Found.is c.in_ok-row.ensures in
    omega (arith, within d c.requires.sound c.args.node c.requires.node c.args.label c.in-Found.row met.0, ap length met.1, c.enter.new.self.rows.ok)

pub returns-in_ok-insert-in-New-clause-sound : goal.returns-in_ok-insert-in-New-clause-sound
returns-in_ok-insert-in-New-clause-sound g c =
    let d = c.args.self.now in
    let new = subst (λ (e : Entry). Enters (record { owner = c.args.node; name = c.args.label; value = Some c.args.at; made = d.clock; removed = false; again = false }) d.labels c.enter.new.self e) c.in-New.is c.in_ok-row.ensures in
    record {
      tables = sound-given d c.requires.sound c.args.node c.requires.node c.args.label (Some c.args.at) c.in-New.row c.enter.new.self new;
      marks = c.requires.sound.marks;
      single = single-given d c.requires.sound c.args.node c.requires.node c.args.label (Some c.args.at) c.in-New.row c.enter.new.self new;
      chained = chain-more (rows_in d.labels) (row_of d.heads) d.older.items c.requires.sound.chained
          (record { owner = c.args.node; name = c.args.label; value = Some c.args.at; made = d.clock; removed = false; again = false }) c.args.label.now refl (row_of c.insert.new.self)
          (λ k. c.in_ok-insert-in-New.ensures.rows 0 k ∙ ap (λ m. if bytes_eq c.args.label.now k then Some m else row_of d.heads 0 k) new.1)
          (rows_in c.enter.new.self) new.2 c.push.new.self.items (c.in_ok-push-in-New.ensures.items ∙ ap (λ o. d.older.items ++ o ∷ []) c.get-older.ensures);
      valued = c.requires.sound.valued;
    }

pub returns-in_ok-insert-in-New-clause-tree : goal.returns-in_ok-insert-in-New-clause-tree
returns-in_ok-insert-in-New-clause-tree g c =
    let d = c.args.self.now in
    let new = subst (λ (e : Entry). Enters (record { owner = c.args.node; name = c.args.label; value = Some c.args.at; made = d.clock; removed = false; again = false }) d.labels c.enter.new.self e) c.in-New.is c.in_ok-row.ensures in
    λ read. given-new d c.requires.sound c.args.node c.requires.node c.args.label (Some c.args.at) read (rows_in c.enter.new.self) new.0 new.2

pub returns-in-Found-clause-sound : goal.returns-in-Found-clause-sound
returns-in-Found-clause-sound g c =
    let d = c.args.self.now in
    let i = c.in-Found.row in
    let met = subst (λ (e : Entry). Enters (record { owner = c.args.node; name = c.args.label; value = Some c.args.at; made = d.clock; removed = false; again = false }) d.labels c.enter.new.self e) c.in-Found.is c.in_ok-row.ensures in
    let known = within d c.requires.sound c.args.node c.requires.node c.args.label i met.0 in
    let x = c.index_mut-place.result.now in
    let was : x ≡ place_at (rows_in d.labels) i = c.index_mut-place.ensures.value ∙ ap (λ rs. slice_index_or rs i x) met.1 ∙ get_or_default (rows_in d.labels) i x no_place known in
    let r : Place ℕ = record x { value = c.first_given-given.result; made = d.clock; removed = false } in
    let at : slice_set (rows_in c.enter.new.self) i r ≡ slice_set (rows_in d.labels) i r = ap (λ rs. slice_set rs i r) met.1 in
    record {
      tables = sound-set d c.requires.sound c.args.node c.requires.node c.args.label i met.0 r (slice_set (rows_in c.enter.new.self) i r) (found_in c.enter.new.self) met.2 (ap (λ y. y.owner) was) (ap (λ y. y.name.now) was) (ap (λ y. y.again) was) (omega arith) at;
      marks = c.requires.sound.marks;
      single = single-set d c.requires.sound c.args.node c.requires.node c.args.label i met.0 r (slice_set (rows_in c.enter.new.self) i r) (ap (λ y. y.again) was) at;
      chained = chain-set (rows_in d.labels) (row_of d.heads) d.older.items c.requires.sound.chained i known r (ap (λ y. y.owner) was) (ap (λ y. y.name.now) was) (slice_set (rows_in c.enter.new.self) i r) at;
      valued = c.requires.sound.valued;
    }

pub returns-in-Found-clause-tree : goal.returns-in-Found-clause-tree
returns-in-Found-clause-tree g c =
    let d = c.args.self.now in
    let i = c.in-Found.row in
    let met = subst (λ (e : Entry). Enters (record { owner = c.args.node; name = c.args.label; value = Some c.args.at; made = d.clock; removed = false; again = false }) d.labels c.enter.new.self e) c.in-Found.is c.in_ok-row.ensures in
    let known = within d c.requires.sound c.args.node c.requires.node c.args.label i met.0 in
    let x = c.index_mut-place.result.now in
    let was : x ≡ place_at (rows_in d.labels) i = c.index_mut-place.ensures.value ∙ ap (λ rs. slice_index_or rs i x) met.1 ∙ get_or_default (rows_in d.labels) i x no_place known in
    let r : Place ℕ = record x { value = c.first_given-given.result; made = d.clock; removed = false } in
    let at : slice_set (rows_in c.enter.new.self) i r ≡ slice_set (rows_in d.labels) i r = ap (λ rs. slice_set rs i r) met.1 in
    λ read. given-again d c.requires.sound c.args.node c.requires.node c.args.label read i r (slice_set (rows_in c.enter.new.self) i r) met.0 (ap (λ y. y.owner) was) (ap (λ y. y.name.now) was) refl refl at
