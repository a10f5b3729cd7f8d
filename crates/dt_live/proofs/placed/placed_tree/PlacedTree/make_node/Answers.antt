use Rattle.std.proofs.Common.{◌≡◌, ◌+◌, ◌<◌, List, ℕ, suc, Some, Ok, true, false, not, length, slice_set, refl, sym, ap, ◌∙◌, subst, arith}
use Rattle.std.specs.Prelude.{slice_index_or}
use Rattle.std.specs.Vec.{with_item}
use Rattle.std.proofs.lemmas.List.{get_or_default}
use Rattle.dt_source.specs.TreeMeaning.DtcEdits.{made_node}
use Rattle.dt_live.specs.Rows.{Found}
use Rattle.dt_live.specs.declared.placed.place.Place.{Place}
use Rattle.dt_live.specs.declared.placed.table.Entry.{Entry}
use Rattle.dt_live.specs.Placed.Rows.{is_made, no_place, place_at}
use Rattle.dt_live.specs.Placed.Tables.{Enters, found_in, rows_in}
use Rattle.dt_live.specs.Placed.PlacedTrees.{AreSound, IsOwner, child_path, dtc_tree}
use Rattle.dt_live.specs.Placed.PlacedEdits.{IsMade, IsFresh}
use Rattle.dt_live.proofs.PlacedLemmas.NewNodes.{added-new, fresh-after, keeps-after, known-row, made-after, marks-after, new-made, now-there, place-none, place-some, stands-none, tables-after, tree-after}
use Rattle.dt_live.proofs.PlacedLemmas.NodesMade.{keeps-made, made-merged, made-standing, make-refused, marks-made, merged-standing, sound-later, sound-made, tree-made, tree-same}
use Rattle.dt_live.proofs.placed.placed_tree.PlacedTree.make_node.Goals as goal

pub index-requires : goal.index-requires
index-requires g c =
    let d = c.args.self.now in
    let met = subst (λ (e : Entry). Enters (record { owner = c.args.parent; name = c.args.name; value = Some c.args.at; made = c.in-Some.made; removed = false; again = false }) d.nodes c.enter.new.self e) c.in-Found.is c.in_ok-row.ensures in
    omega (arith, known-row d c.requires.sound c.args.parent c.requires.parent c.args.name c.in-Found.row met.0, ap length met.1, c.enter.new.self.rows.ok)

pub returns-then-index-clause-tree : goal.returns-then-index-clause-tree
returns-then-index-clause-tree g c =
    let d = c.args.self.now in
    let i = c.in-Found.row in
    let late : d.clock < c.in-Some.made = omega (arith, c.in-Some.ensures.1) in
    let met = subst (λ (e : Entry). Enters (record { owner = c.args.parent; name = c.args.name; value = Some c.args.at; made = c.in-Some.made; removed = false; again = false }) d.nodes c.enter.new.self e) c.in-Found.is c.in_ok-row.ensures in
    let known = known-row d c.requires.sound c.args.parent c.requires.parent c.args.name i met.0 in
    let x = c.index.result.now in
    let was : x ≡ place_at (rows_in d.nodes) i = c.index.ensures ∙ ap (λ rs. slice_index_or rs i x) met.1 ∙ get_or_default (rows_in d.nodes) i x no_place known in
    λ read. ap (λ b. made_node b (child_path d c.args.parent c.args.name.now) (dtc_tree read d)) (ap not (place-some d c.requires.sound c.args.parent c.requires.parent c.args.name read i met.0)) ∙ make-refused d c.requires.sound c.args.parent c.requires.parent c.args.name i met.0 read (sym (ap (λ y. y.again) was) ∙ c.if-index.true)

pub returns-in-New-clause-sound : goal.returns-in-New-clause-sound
returns-in-New-clause-sound g c =
    let d = c.args.self.now in
    let late : d.clock < c.in-Some.made = omega (arith, c.in-Some.ensures.1) in
    let e = subst (λ (e : Entry). Enters (record { owner = c.args.parent; name = c.args.name; value = Some c.args.at; made = c.in-Some.made; removed = false; again = false }) d.nodes c.enter.new.self e) c.in-New.is c.in_ok-row.ensures in
    let a = added-new d c.requires.sound c.args.parent c.requires.parent c.args.name (Some c.args.at) c.in-Some.made c.in-New.row c.enter.new.self e in
    record { tables = tables-after d c.requires.sound c.args.parent c.requires.parent c.args.name c.in-Some.made (rows_in c.enter.new.self) (found_in c.enter.new.self) a c.in-Some.made (omega arith) (omega (arith, late)); marks = marks-after d c.requires.sound c.args.parent c.requires.parent c.args.name c.in-Some.made (rows_in c.enter.new.self) (found_in c.enter.new.self) a; single = c.requires.sound.single; chained = c.requires.sound.chained; valued = c.requires.sound.valued }

pub returns-in-New-clause-node : goal.returns-in-New-clause-node
returns-in-New-clause-node g c =
    let d = c.args.self.now in
    let late : d.clock < c.in-Some.made = omega (arith, c.in-Some.ensures.1) in
    let e = subst (λ (e : Entry). Enters (record { owner = c.args.parent; name = c.args.name; value = Some c.args.at; made = c.in-Some.made; removed = false; again = false }) d.nodes c.enter.new.self e) c.in-New.is c.in_ok-row.ensures in
    let a = added-new d c.requires.sound c.args.parent c.requires.parent c.args.name (Some c.args.at) c.in-Some.made c.in-New.row c.enter.new.self e in
    let at : c.in-New.row + 1 ≡ suc (length (rows_in d.nodes)) = omega (arith, e.1) in
    subst (λ (n : ℕ). IsMade (record d { nodes = c.enter.new.self; clock = c.in-Some.made }) c.args.parent n (child_path d c.args.parent c.args.name.now)) (sym at) (made-after d c.requires.sound c.args.parent c.requires.parent c.args.name c.in-Some.made (rows_in c.enter.new.self) (found_in c.enter.new.self) a (record d { nodes = c.enter.new.self; clock = c.in-Some.made }) refl (omega (arith, late)))

pub returns-in-New-clause-fresh : goal.returns-in-New-clause-fresh
returns-in-New-clause-fresh g c =
    let d = c.args.self.now in
    let late : d.clock < c.in-Some.made = omega (arith, c.in-Some.ensures.1) in
    let e = subst (λ (e : Entry). Enters (record { owner = c.args.parent; name = c.args.name; value = Some c.args.at; made = c.in-Some.made; removed = false; again = false }) d.nodes c.enter.new.self e) c.in-New.is c.in_ok-row.ensures in
    let a = added-new d c.requires.sound c.args.parent c.requires.parent c.args.name (Some c.args.at) c.in-Some.made c.in-New.row c.enter.new.self e in
    let at : c.in-New.row + 1 ≡ suc (length (rows_in d.nodes)) = omega (arith, e.1) in
    λ _. subst (λ (n : ℕ). IsFresh (record d { nodes = c.enter.new.self; clock = c.in-Some.made }) n) (sym at) (fresh-after d c.requires.sound c.args.parent c.requires.parent c.args.name c.in-Some.made (rows_in c.enter.new.self) (found_in c.enter.new.self) a (record d { nodes = c.enter.new.self; clock = c.in-Some.made }) refl)

pub returns-in-New-clause-keeps : goal.returns-in-New-clause-keeps
returns-in-New-clause-keeps g c =
    let d = c.args.self.now in
    let late : d.clock < c.in-Some.made = omega (arith, c.in-Some.ensures.1) in
    let e = subst (λ (e : Entry). Enters (record { owner = c.args.parent; name = c.args.name; value = Some c.args.at; made = c.in-Some.made; removed = false; again = false }) d.nodes c.enter.new.self e) c.in-New.is c.in_ok-row.ensures in
    let a = added-new d c.requires.sound c.args.parent c.requires.parent c.args.name (Some c.args.at) c.in-Some.made c.in-New.row c.enter.new.self e in
    keeps-after d c.requires.sound c.args.parent c.requires.parent c.args.name c.in-Some.made (rows_in c.enter.new.self) (found_in c.enter.new.self) a (record d { nodes = c.enter.new.self; clock = c.in-Some.made }) refl c.args.parent

pub returns-in-New-clause-begins : goal.returns-in-New-clause-begins
returns-in-New-clause-begins g c =
    let d = c.args.self.now in
    let late : d.clock < c.in-Some.made = omega (arith, c.in-Some.ensures.1) in
    let e = subst (λ (e : Entry). Enters (record { owner = c.args.parent; name = c.args.name; value = Some c.args.at; made = c.in-Some.made; removed = false; again = false }) d.nodes c.enter.new.self e) c.in-New.is c.in_ok-row.ensures in
    let a = added-new d c.requires.sound c.args.parent c.requires.parent c.args.name (Some c.args.at) c.in-Some.made c.in-New.row c.enter.new.self e in
    λ read. sym (ap not (place-none d c.requires.sound c.args.parent c.requires.parent c.args.name read e.0))

pub returns-in-New-clause-tree : goal.returns-in-New-clause-tree
returns-in-New-clause-tree g c =
    let d = c.args.self.now in
    let late : d.clock < c.in-Some.made = omega (arith, c.in-Some.ensures.1) in
    let e = subst (λ (e : Entry). Enters (record { owner = c.args.parent; name = c.args.name; value = Some c.args.at; made = c.in-Some.made; removed = false; again = false }) d.nodes c.enter.new.self e) c.in-New.is c.in_ok-row.ensures in
    let a = added-new d c.requires.sound c.args.parent c.requires.parent c.args.name (Some c.args.at) c.in-Some.made c.in-New.row c.enter.new.self e in
    λ read. ap (λ b. made_node b (child_path d c.args.parent c.args.name.now) (dtc_tree read d)) (ap not (place-none d c.requires.sound c.args.parent c.requires.parent c.args.name read e.0))
    ∙ new-made d c.requires.sound c.args.parent c.requires.parent c.args.name read (dtc_tree read (record d { nodes = c.enter.new.self; clock = c.in-Some.made })) (stands-none d c.requires.sound c.args.parent c.requires.parent c.args.name read e.0)
    (tree-after d c.requires.sound c.args.parent c.requires.parent c.args.name c.in-Some.made (rows_in c.enter.new.self) (found_in c.enter.new.self) a (record d { nodes = c.enter.new.self; clock = c.in-Some.made }) refl read true (now-there d c.requires.sound c.args.parent c.requires.parent c.args.name c.in-Some.made (rows_in c.enter.new.self) (found_in c.enter.new.self) a (omega (arith, late))) refl refl refl refl refl)

pub returns-then-is_row_made-clause-sound : goal.returns-then-is_row_made-clause-sound
returns-then-is_row_made-clause-sound g c =
    let d = c.args.self.now in
    let i = c.in-Found.row in
    let late : d.clock < c.in-Some.made = omega (arith, c.in-Some.ensures.1) in
    let met = subst (λ (e : Entry). Enters (record { owner = c.args.parent; name = c.args.name; value = Some c.args.at; made = c.in-Some.made; removed = false; again = false }) d.nodes c.enter.new.self e) c.in-Found.is c.in_ok-row.ensures in
    let known = known-row d c.requires.sound c.args.parent c.requires.parent c.args.name i met.0 in
    let x = c.index.result.now in
    let was : x ≡ place_at (rows_in d.nodes) i = c.index.ensures ∙ ap (λ rs. slice_index_or rs i x) met.1 ∙ get_or_default (rows_in d.nodes) i x no_place known in
    let one : (place_at (rows_in d.nodes) i).again ≡ false = sym (ap (λ y. y.again) was) ∙ c.if-index.false in
    let there : is_made (rows_in d.nodes) (place_at (rows_in d.nodes) i) ≡ true = ap (λ rs. is_made rs (place_at rs i)) (sym (c.as_slice.ensures.value ∙ met.1)) ∙ sym c.is_row_made.ensures ∙ c.if-is_row_made.true in
    record {
      tables =
          subst (λ (fs : Found). AreSound (rows_in c.enter.new.self) fs (rows_in d.properties) (found_in d.properties) (rows_in d.labels) (found_in d.labels) c.in-Some.made) (sym met.2)
          (subst (λ (rs : List (Place ℕ)). AreSound rs (found_in d.nodes) (rows_in d.properties) (found_in d.properties) (rows_in d.labels) (found_in d.labels) c.in-Some.made) (sym met.1)
          (sound-later (rows_in d.nodes) (found_in d.nodes) (rows_in d.properties) (found_in d.properties) (rows_in d.labels) (found_in d.labels) d.clock c.in-Some.made (omega (arith, late)) c.requires.sound.tables));
      marks = λ k.
          subst (λ (fs : Found). IsOwner (rows_in c.enter.new.self) fs (slice_index_or d.marks.items k 0)) (sym met.2)
          (subst (λ (rs : List (Place ℕ)). IsOwner rs (found_in d.nodes) (slice_index_or d.marks.items k 0)) (sym met.1) (c.requires.sound.marks k));
      single = c.requires.sound.single;
      chained = c.requires.sound.chained;
      valued = c.requires.sound.valued;
    }

pub returns-then-is_row_made-clause-node : goal.returns-then-is_row_made-clause-node
returns-then-is_row_made-clause-node g c =
    let d = c.args.self.now in
    let i = c.in-Found.row in
    let late : d.clock < c.in-Some.made = omega (arith, c.in-Some.ensures.1) in
    let met = subst (λ (e : Entry). Enters (record { owner = c.args.parent; name = c.args.name; value = Some c.args.at; made = c.in-Some.made; removed = false; again = false }) d.nodes c.enter.new.self e) c.in-Found.is c.in_ok-row.ensures in
    let known = known-row d c.requires.sound c.args.parent c.requires.parent c.args.name i met.0 in
    let x = c.index.result.now in
    let was : x ≡ place_at (rows_in d.nodes) i = c.index.ensures ∙ ap (λ rs. slice_index_or rs i x) met.1 ∙ get_or_default (rows_in d.nodes) i x no_place known in
    let one : (place_at (rows_in d.nodes) i).again ≡ false = sym (ap (λ y. y.again) was) ∙ c.if-index.false in
    let there : is_made (rows_in d.nodes) (place_at (rows_in d.nodes) i) ≡ true = ap (λ rs. is_made rs (place_at rs i)) (sym (c.as_slice.ensures.value ∙ met.1)) ∙ sym c.is_row_made.ensures ∙ c.if-is_row_made.true in
    subst (λ (n : ℕ). IsMade (record d { nodes = c.enter.new.self; clock = c.in-Some.made }) c.args.parent n (child_path d c.args.parent c.args.name.now)) (sym (let at : c.in-Found.row + 1 ≡ suc i = omega arith in at)) (merged-standing d c.requires.sound c.args.parent c.requires.parent c.args.name i met.0 (record d { nodes = c.enter.new.self; clock = c.in-Some.made }) met.1 there)

pub returns-then-is_row_made-clause-begins : goal.returns-then-is_row_made-clause-begins
returns-then-is_row_made-clause-begins g c =
    let d = c.args.self.now in
    let i = c.in-Found.row in
    let late : d.clock < c.in-Some.made = omega (arith, c.in-Some.ensures.1) in
    let met = subst (λ (e : Entry). Enters (record { owner = c.args.parent; name = c.args.name; value = Some c.args.at; made = c.in-Some.made; removed = false; again = false }) d.nodes c.enter.new.self e) c.in-Found.is c.in_ok-row.ensures in
    let known = known-row d c.requires.sound c.args.parent c.requires.parent c.args.name i met.0 in
    let x = c.index.result.now in
    let was : x ≡ place_at (rows_in d.nodes) i = c.index.ensures ∙ ap (λ rs. slice_index_or rs i x) met.1 ∙ get_or_default (rows_in d.nodes) i x no_place known in
    let one : (place_at (rows_in d.nodes) i).again ≡ false = sym (ap (λ y. y.again) was) ∙ c.if-index.false in
    let there : is_made (rows_in d.nodes) (place_at (rows_in d.nodes) i) ≡ true = ap (λ rs. is_made rs (place_at rs i)) (sym (c.as_slice.ensures.value ∙ met.1)) ∙ sym c.is_row_made.ensures ∙ c.if-is_row_made.true in
    λ read. sym (ap not (place-some d c.requires.sound c.args.parent c.requires.parent c.args.name read i met.0))

pub returns-then-is_row_made-clause-tree : goal.returns-then-is_row_made-clause-tree
returns-then-is_row_made-clause-tree g c =
    let d = c.args.self.now in
    let i = c.in-Found.row in
    let late : d.clock < c.in-Some.made = omega (arith, c.in-Some.ensures.1) in
    let met = subst (λ (e : Entry). Enters (record { owner = c.args.parent; name = c.args.name; value = Some c.args.at; made = c.in-Some.made; removed = false; again = false }) d.nodes c.enter.new.self e) c.in-Found.is c.in_ok-row.ensures in
    let known = known-row d c.requires.sound c.args.parent c.requires.parent c.args.name i met.0 in
    let x = c.index.result.now in
    let was : x ≡ place_at (rows_in d.nodes) i = c.index.ensures ∙ ap (λ rs. slice_index_or rs i x) met.1 ∙ get_or_default (rows_in d.nodes) i x no_place known in
    let one : (place_at (rows_in d.nodes) i).again ≡ false = sym (ap (λ y. y.again) was) ∙ c.if-index.false in
    let there : is_made (rows_in d.nodes) (place_at (rows_in d.nodes) i) ≡ true = ap (λ rs. is_made rs (place_at rs i)) (sym (c.as_slice.ensures.value ∙ met.1)) ∙ sym c.is_row_made.ensures ∙ c.if-is_row_made.true in
    λ read. ap (λ b. made_node b (child_path d c.args.parent c.args.name.now) (dtc_tree read d)) (ap not (place-some d c.requires.sound c.args.parent c.requires.parent c.args.name read i met.0))
    ∙ made-merged d c.requires.sound c.args.parent c.requires.parent c.args.name i met.0 read one there
    ∙ ap (λ t. Ok t) (sym (tree-same read d (record d { nodes = c.enter.new.self; clock = c.in-Some.made }) met.1 refl refl refl refl refl))

pub returns-else-is_row_made-clause-sound : goal.returns-else-is_row_made-clause-sound
returns-else-is_row_made-clause-sound g c =
    let d = c.args.self.now in
    let i = c.in-Found.row in
    let late : d.clock < c.in-Some.made = omega (arith, c.in-Some.ensures.1) in
    let met = subst (λ (e : Entry). Enters (record { owner = c.args.parent; name = c.args.name; value = Some c.args.at; made = c.in-Some.made; removed = false; again = false }) d.nodes c.enter.new.self e) c.in-Found.is c.in_ok-row.ensures in
    let known = known-row d c.requires.sound c.args.parent c.requires.parent c.args.name i met.0 in
    let x = c.index.result.now in
    let was : x ≡ place_at (rows_in d.nodes) i = c.index.ensures ∙ ap (λ rs. slice_index_or rs i x) met.1 ∙ get_or_default (rows_in d.nodes) i x no_place known in
    let one : (place_at (rows_in d.nodes) i).again ≡ false = sym (ap (λ y. y.again) was) ∙ c.if-index.false in
    let away : is_made (rows_in d.nodes) (place_at (rows_in d.nodes) i) ≡ false = ap (λ rs. is_made rs (place_at rs i)) (sym (c.as_slice.ensures.value ∙ met.1)) ∙ sym c.is_row_made.ensures ∙ c.if-is_row_made.false in
    let y = c.index_mut-place.result.now in
    let r : Place ℕ = record { owner = y.owner; name = y.name; value = Some c.args.at; made = c.in-Some.made; removed = false; again = y.again } in
    let ys : y ≡ place_at (rows_in d.nodes) i = c.index_mut-place.ensures.value ∙ ap (λ rs. slice_index_or rs i y) met.1 ∙ get_or_default (rows_in d.nodes) i y no_place known in
    let ns : slice_set (rows_in c.enter.new.self) i r ≡ slice_set (rows_in d.nodes) i r = ap (λ rs. slice_set rs i r) met.1 in
    record {
      tables =
          subst (λ (fs : Found). AreSound (slice_set (rows_in c.enter.new.self) i r) fs (rows_in d.properties) (found_in d.properties) (rows_in d.labels) (found_in d.labels) c.in-Some.made) (sym met.2)
          (subst (λ (rs : List (Place ℕ)). AreSound rs (found_in d.nodes) (rows_in d.properties) (found_in d.properties) (rows_in d.labels) (found_in d.labels) c.in-Some.made) (sym ns)
          (sound-made d c.requires.sound c.args.parent c.requires.parent c.args.name i met.0 r (ap (λ z. z.owner) ys) (ap (λ z. z.name.now) ys) (ap (λ z. z.again) ys) late refl away c.in-Some.made (omega arith)));
      marks = λ k.
          subst (λ (fs : Found). IsOwner (slice_set (rows_in c.enter.new.self) i r) fs (slice_index_or d.marks.items k 0)) (sym met.2)
          (subst (λ (rs : List (Place ℕ)). IsOwner rs (found_in d.nodes) (slice_index_or d.marks.items k 0)) (sym ns) (marks-made d c.requires.sound c.args.parent c.requires.parent c.args.name i met.0 r (ap (λ z. z.owner) ys) (ap (λ z. z.name.now) ys) (ap (λ z. z.again) ys) late refl away k));
      single = c.requires.sound.single;
      chained = c.requires.sound.chained;
      valued = c.requires.sound.valued;
    }

pub returns-else-is_row_made-clause-node : goal.returns-else-is_row_made-clause-node
returns-else-is_row_made-clause-node g c =
    let d = c.args.self.now in
    let i = c.in-Found.row in
    let late : d.clock < c.in-Some.made = omega (arith, c.in-Some.ensures.1) in
    let met = subst (λ (e : Entry). Enters (record { owner = c.args.parent; name = c.args.name; value = Some c.args.at; made = c.in-Some.made; removed = false; again = false }) d.nodes c.enter.new.self e) c.in-Found.is c.in_ok-row.ensures in
    let known = known-row d c.requires.sound c.args.parent c.requires.parent c.args.name i met.0 in
    let x = c.index.result.now in
    let was : x ≡ place_at (rows_in d.nodes) i = c.index.ensures ∙ ap (λ rs. slice_index_or rs i x) met.1 ∙ get_or_default (rows_in d.nodes) i x no_place known in
    let one : (place_at (rows_in d.nodes) i).again ≡ false = sym (ap (λ y. y.again) was) ∙ c.if-index.false in
    let away : is_made (rows_in d.nodes) (place_at (rows_in d.nodes) i) ≡ false = ap (λ rs. is_made rs (place_at rs i)) (sym (c.as_slice.ensures.value ∙ met.1)) ∙ sym c.is_row_made.ensures ∙ c.if-is_row_made.false in
    let y = c.index_mut-place.result.now in
    let r : Place ℕ = record { owner = y.owner; name = y.name; value = Some c.args.at; made = c.in-Some.made; removed = false; again = y.again } in
    let ys : y ≡ place_at (rows_in d.nodes) i = c.index_mut-place.ensures.value ∙ ap (λ rs. slice_index_or rs i y) met.1 ∙ get_or_default (rows_in d.nodes) i y no_place known in
    let ns : slice_set (rows_in c.enter.new.self) i r ≡ slice_set (rows_in d.nodes) i r = ap (λ rs. slice_set rs i r) met.1 in
    subst (λ (n : ℕ). IsMade (record d { nodes = record c.enter.new.self { rows = with_item c.enter.new.self.rows i r }; clock = c.in-Some.made }) c.args.parent n (child_path d c.args.parent c.args.name.now)) (sym (let at : c.in-Found.row + 1 ≡ suc i = omega arith in at)) (made-standing d c.requires.sound c.args.parent c.requires.parent c.args.name i met.0 r (ap (λ z. z.owner) ys) (ap (λ z. z.name.now) ys) (ap (λ z. z.again) ys) late refl away (record d { nodes = record c.enter.new.self { rows = with_item c.enter.new.self.rows i r }; clock = c.in-Some.made }) ns)

pub returns-else-is_row_made-clause-keeps : goal.returns-else-is_row_made-clause-keeps
returns-else-is_row_made-clause-keeps g c =
    let d = c.args.self.now in
    let i = c.in-Found.row in
    let late : d.clock < c.in-Some.made = omega (arith, c.in-Some.ensures.1) in
    let met = subst (λ (e : Entry). Enters (record { owner = c.args.parent; name = c.args.name; value = Some c.args.at; made = c.in-Some.made; removed = false; again = false }) d.nodes c.enter.new.self e) c.in-Found.is c.in_ok-row.ensures in
    let known = known-row d c.requires.sound c.args.parent c.requires.parent c.args.name i met.0 in
    let x = c.index.result.now in
    let was : x ≡ place_at (rows_in d.nodes) i = c.index.ensures ∙ ap (λ rs. slice_index_or rs i x) met.1 ∙ get_or_default (rows_in d.nodes) i x no_place known in
    let one : (place_at (rows_in d.nodes) i).again ≡ false = sym (ap (λ y. y.again) was) ∙ c.if-index.false in
    let away : is_made (rows_in d.nodes) (place_at (rows_in d.nodes) i) ≡ false = ap (λ rs. is_made rs (place_at rs i)) (sym (c.as_slice.ensures.value ∙ met.1)) ∙ sym c.is_row_made.ensures ∙ c.if-is_row_made.false in
    let y = c.index_mut-place.result.now in
    let r : Place ℕ = record { owner = y.owner; name = y.name; value = Some c.args.at; made = c.in-Some.made; removed = false; again = y.again } in
    let ys : y ≡ place_at (rows_in d.nodes) i = c.index_mut-place.ensures.value ∙ ap (λ rs. slice_index_or rs i y) met.1 ∙ get_or_default (rows_in d.nodes) i y no_place known in
    let ns : slice_set (rows_in c.enter.new.self) i r ≡ slice_set (rows_in d.nodes) i r = ap (λ rs. slice_set rs i r) met.1 in
    keeps-made d c.requires.sound c.args.parent c.requires.parent c.args.name i met.0 r (ap (λ z. z.owner) ys) (ap (λ z. z.name.now) ys) (ap (λ z. z.again) ys) late refl away (record d { nodes = record c.enter.new.self { rows = with_item c.enter.new.self.rows i r }; clock = c.in-Some.made }) ns

pub returns-else-is_row_made-clause-begins : goal.returns-else-is_row_made-clause-begins
returns-else-is_row_made-clause-begins g c =
    let d = c.args.self.now in
    let i = c.in-Found.row in
    let late : d.clock < c.in-Some.made = omega (arith, c.in-Some.ensures.1) in
    let met = subst (λ (e : Entry). Enters (record { owner = c.args.parent; name = c.args.name; value = Some c.args.at; made = c.in-Some.made; removed = false; again = false }) d.nodes c.enter.new.self e) c.in-Found.is c.in_ok-row.ensures in
    let known = known-row d c.requires.sound c.args.parent c.requires.parent c.args.name i met.0 in
    let x = c.index.result.now in
    let was : x ≡ place_at (rows_in d.nodes) i = c.index.ensures ∙ ap (λ rs. slice_index_or rs i x) met.1 ∙ get_or_default (rows_in d.nodes) i x no_place known in
    let one : (place_at (rows_in d.nodes) i).again ≡ false = sym (ap (λ y. y.again) was) ∙ c.if-index.false in
    let away : is_made (rows_in d.nodes) (place_at (rows_in d.nodes) i) ≡ false = ap (λ rs. is_made rs (place_at rs i)) (sym (c.as_slice.ensures.value ∙ met.1)) ∙ sym c.is_row_made.ensures ∙ c.if-is_row_made.false in
    let y = c.index_mut-place.result.now in
    let r : Place ℕ = record { owner = y.owner; name = y.name; value = Some c.args.at; made = c.in-Some.made; removed = false; again = y.again } in
    let ys : y ≡ place_at (rows_in d.nodes) i = c.index_mut-place.ensures.value ∙ ap (λ rs. slice_index_or rs i y) met.1 ∙ get_or_default (rows_in d.nodes) i y no_place known in
    let ns : slice_set (rows_in c.enter.new.self) i r ≡ slice_set (rows_in d.nodes) i r = ap (λ rs. slice_set rs i r) met.1 in
    λ read. sym (ap not (place-some d c.requires.sound c.args.parent c.requires.parent c.args.name read i met.0))

pub returns-else-is_row_made-clause-tree : goal.returns-else-is_row_made-clause-tree
returns-else-is_row_made-clause-tree g c =
    let d = c.args.self.now in
    let i = c.in-Found.row in
    let late : d.clock < c.in-Some.made = omega (arith, c.in-Some.ensures.1) in
    let met = subst (λ (e : Entry). Enters (record { owner = c.args.parent; name = c.args.name; value = Some c.args.at; made = c.in-Some.made; removed = false; again = false }) d.nodes c.enter.new.self e) c.in-Found.is c.in_ok-row.ensures in
    let known = known-row d c.requires.sound c.args.parent c.requires.parent c.args.name i met.0 in
    let x = c.index.result.now in
    let was : x ≡ place_at (rows_in d.nodes) i = c.index.ensures ∙ ap (λ rs. slice_index_or rs i x) met.1 ∙ get_or_default (rows_in d.nodes) i x no_place known in
    let one : (place_at (rows_in d.nodes) i).again ≡ false = sym (ap (λ y. y.again) was) ∙ c.if-index.false in
    let away : is_made (rows_in d.nodes) (place_at (rows_in d.nodes) i) ≡ false = ap (λ rs. is_made rs (place_at rs i)) (sym (c.as_slice.ensures.value ∙ met.1)) ∙ sym c.is_row_made.ensures ∙ c.if-is_row_made.false in
    let y = c.index_mut-place.result.now in
    let r : Place ℕ = record { owner = y.owner; name = y.name; value = Some c.args.at; made = c.in-Some.made; removed = false; again = y.again } in
    let ys : y ≡ place_at (rows_in d.nodes) i = c.index_mut-place.ensures.value ∙ ap (λ rs. slice_index_or rs i y) met.1 ∙ get_or_default (rows_in d.nodes) i y no_place known in
    let ns : slice_set (rows_in c.enter.new.self) i r ≡ slice_set (rows_in d.nodes) i r = ap (λ rs. slice_set rs i r) met.1 in
    λ read. ap (λ b. made_node b (child_path d c.args.parent c.args.name.now) (dtc_tree read d)) (ap not (place-some d c.requires.sound c.args.parent c.requires.parent c.args.name read i met.0))
    ∙ tree-made d c.requires.sound c.args.parent c.requires.parent c.args.name i met.0 r (ap (λ z. z.owner) ys) (ap (λ z. z.name.now) ys) (ap (λ z. z.again) ys) late refl away read one (record d { nodes = record c.enter.new.self { rows = with_item c.enter.new.self.rows i r }; clock = c.in-Some.made }) ns refl refl refl refl refl
