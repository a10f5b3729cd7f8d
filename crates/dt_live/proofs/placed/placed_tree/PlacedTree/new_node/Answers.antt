use Rattle.std.proofs.Common.{◌≡◌, ◌+◌, ◌<◌, ℕ, suc, Some, true, false, length, refl, sym, ap, ◌∙◌, subst, true≢false, arith}
use Rattle.dt_live.specs.declared.placed.table.Entry.{Entry}
use Rattle.dt_live.specs.Placed.Rows.{is_made, place_at}
use Rattle.dt_live.specs.Placed.Tables.{Enters, found_in, rows_in}
use Rattle.dt_live.specs.Placed.PlacedTrees.{child_path, dtc_tree}
use Rattle.dt_live.specs.Placed.PlacedEdits.{IsMade, IsFresh}
use Rattle.dt_live.proofs.PlacedLemmas.NewNodes.{added-again, added-new, fresh-after, grows-after, keeps-after, known-row, made-after, marks-after, new-made, new-refused, now-there, stands-gone, stands-none, stands-some, tables-after, tree-after}
use Rattle.dt_live.proofs.placed.placed_tree.PlacedTree.new_node.Goals as goal

pub is_row_made-requires-clause-known : goal.is_row_made-requires-clause-known
is_row_made-requires-clause-known g c =
    let d = c.args.self.now in
    let met = subst (λ (e : Entry). Enters (record { owner = c.args.parent; name = c.args.name; value = Some c.args.at; made = c.in-Some.made; removed = false; again = false }) d.nodes c.enter.new.self e) c.in-Found.is c.in_ok-row.ensures in
    omega (arith, known-row d c.requires.sound c.args.parent c.requires.parent c.args.name c.in-Found.row met.0, ap length (c.as_slice.ensures.value ∙ met.1))

pub returns-then-is_row_made-clause-tree : goal.returns-then-is_row_made-clause-tree
returns-then-is_row_made-clause-tree g c =
    let d = c.args.self.now in
    let i = c.in-Found.row in
    let met = subst (λ (e : Entry). Enters (record { owner = c.args.parent; name = c.args.name; value = Some c.args.at; made = c.in-Some.made; removed = false; again = false }) d.nodes c.enter.new.self e) c.in-Found.is c.in_ok-row.ensures in
    λ read. new-refused d c.requires.sound c.args.parent c.requires.parent c.args.name read
    (stands-some d c.requires.sound c.args.parent c.requires.parent c.args.name read i met.0
    (ap (λ rs. is_made rs (place_at rs i)) (sym (c.as_slice.ensures.value ∙ met.1)) ∙ sym c.is_row_made.ensures ∙ c.if-is_row_made.true))

pub returns-in-New-clause-sound : goal.returns-in-New-clause-sound
returns-in-New-clause-sound g c =
    let d = c.args.self.now in
    let late : d.clock < c.in-Some.made = omega (arith, c.in-Some.ensures.1) in
    let e = subst (λ (e : Entry). Enters (record { owner = c.args.parent; name = c.args.name; value = Some c.args.at; made = c.in-Some.made; removed = false; again = false }) d.nodes c.enter.new.self e) c.in-New.is c.in_ok-row.ensures in
    let a = added-new d c.requires.sound c.args.parent c.requires.parent c.args.name (Some c.args.at) c.in-Some.made c.in-New.row c.enter.new.self e in
    record { tables = tables-after d c.requires.sound c.args.parent c.requires.parent c.args.name c.in-Some.made (rows_in c.enter.new.self) (found_in c.enter.new.self) a c.in-Some.made (omega arith) (omega (arith, late)); marks = marks-after d c.requires.sound c.args.parent c.requires.parent c.args.name c.in-Some.made (rows_in c.enter.new.self) (found_in c.enter.new.self) a; single = c.requires.sound.single; chained = c.requires.sound.chained; valued = c.requires.sound.valued }

pub returns-in-New-clause-node : goal.returns-in-New-clause-node
returns-in-New-clause-node g c =
    let d = c.args.self.now in
    let late : d.clock < c.in-Some.made = omega (arith, c.in-Some.ensures.1) in
    let e = subst (λ (e : Entry). Enters (record { owner = c.args.parent; name = c.args.name; value = Some c.args.at; made = c.in-Some.made; removed = false; again = false }) d.nodes c.enter.new.self e) c.in-New.is c.in_ok-row.ensures in
    let a = added-new d c.requires.sound c.args.parent c.requires.parent c.args.name (Some c.args.at) c.in-Some.made c.in-New.row c.enter.new.self e in
    let at : c.in-New.row + 1 ≡ suc (length (rows_in d.nodes)) = omega (arith, e.1) in
    subst (λ (n : ℕ). IsMade (record d { nodes = c.enter.new.self; clock = c.in-Some.made }) c.args.parent n (child_path d c.args.parent c.args.name.now)) (sym at) (made-after d c.requires.sound c.args.parent c.requires.parent c.args.name c.in-Some.made (rows_in c.enter.new.self) (found_in c.enter.new.self) a (record d { nodes = c.enter.new.self; clock = c.in-Some.made }) refl (omega (arith, late)))

pub returns-in-New-clause-fresh : goal.returns-in-New-clause-fresh
returns-in-New-clause-fresh g c =
    let d = c.args.self.now in
    let late : d.clock < c.in-Some.made = omega (arith, c.in-Some.ensures.1) in
    let e = subst (λ (e : Entry). Enters (record { owner = c.args.parent; name = c.args.name; value = Some c.args.at; made = c.in-Some.made; removed = false; again = false }) d.nodes c.enter.new.self e) c.in-New.is c.in_ok-row.ensures in
    let a = added-new d c.requires.sound c.args.parent c.requires.parent c.args.name (Some c.args.at) c.in-Some.made c.in-New.row c.enter.new.self e in
    let at : c.in-New.row + 1 ≡ suc (length (rows_in d.nodes)) = omega (arith, e.1) in
    subst (λ (n : ℕ). IsFresh (record d { nodes = c.enter.new.self; clock = c.in-Some.made }) n) (sym at) (fresh-after d c.requires.sound c.args.parent c.requires.parent c.args.name c.in-Some.made (rows_in c.enter.new.self) (found_in c.enter.new.self) a (record d { nodes = c.enter.new.self; clock = c.in-Some.made }) refl)

pub returns-in-New-clause-grows : goal.returns-in-New-clause-grows
returns-in-New-clause-grows g c =
    let d = c.args.self.now in
    let late : d.clock < c.in-Some.made = omega (arith, c.in-Some.ensures.1) in
    let e = subst (λ (e : Entry). Enters (record { owner = c.args.parent; name = c.args.name; value = Some c.args.at; made = c.in-Some.made; removed = false; again = false }) d.nodes c.enter.new.self e) c.in-New.is c.in_ok-row.ensures in
    let a = added-new d c.requires.sound c.args.parent c.requires.parent c.args.name (Some c.args.at) c.in-Some.made c.in-New.row c.enter.new.self e in
    grows-after d c.requires.sound c.args.parent c.requires.parent c.args.name c.in-Some.made (rows_in c.enter.new.self) (found_in c.enter.new.self) a (record d { nodes = c.enter.new.self; clock = c.in-Some.made }) refl (λ away. absurd (true≢false (sym (now-there d c.requires.sound c.args.parent c.requires.parent c.args.name c.in-Some.made (rows_in c.enter.new.self) (found_in c.enter.new.self) a (omega (arith, late))) ∙ away)))

pub returns-in-New-clause-keeps : goal.returns-in-New-clause-keeps
returns-in-New-clause-keeps g c =
    let d = c.args.self.now in
    let late : d.clock < c.in-Some.made = omega (arith, c.in-Some.ensures.1) in
    let e = subst (λ (e : Entry). Enters (record { owner = c.args.parent; name = c.args.name; value = Some c.args.at; made = c.in-Some.made; removed = false; again = false }) d.nodes c.enter.new.self e) c.in-New.is c.in_ok-row.ensures in
    let a = added-new d c.requires.sound c.args.parent c.requires.parent c.args.name (Some c.args.at) c.in-Some.made c.in-New.row c.enter.new.self e in
    keeps-after d c.requires.sound c.args.parent c.requires.parent c.args.name c.in-Some.made (rows_in c.enter.new.self) (found_in c.enter.new.self) a (record d { nodes = c.enter.new.self; clock = c.in-Some.made }) refl c.args.parent

pub returns-in-New-clause-tree : goal.returns-in-New-clause-tree
returns-in-New-clause-tree g c =
    let d = c.args.self.now in
    let late : d.clock < c.in-Some.made = omega (arith, c.in-Some.ensures.1) in
    let e = subst (λ (e : Entry). Enters (record { owner = c.args.parent; name = c.args.name; value = Some c.args.at; made = c.in-Some.made; removed = false; again = false }) d.nodes c.enter.new.self e) c.in-New.is c.in_ok-row.ensures in
    let a = added-new d c.requires.sound c.args.parent c.requires.parent c.args.name (Some c.args.at) c.in-Some.made c.in-New.row c.enter.new.self e in
    λ read. new-made d c.requires.sound c.args.parent c.requires.parent c.args.name read (dtc_tree read (record d { nodes = c.enter.new.self; clock = c.in-Some.made })) (stands-none d c.requires.sound c.args.parent c.requires.parent c.args.name read e.0)
    (tree-after d c.requires.sound c.args.parent c.requires.parent c.args.name c.in-Some.made (rows_in c.enter.new.self) (found_in c.enter.new.self) a (record d { nodes = c.enter.new.self; clock = c.in-Some.made }) refl read true (now-there d c.requires.sound c.args.parent c.requires.parent c.args.name c.in-Some.made (rows_in c.enter.new.self) (found_in c.enter.new.self) a (omega (arith, late))) refl refl refl refl refl)

pub returns-in_ok-row-in-Found-clause-sound : goal.returns-in_ok-row-in-Found-clause-sound
returns-in_ok-row-in-Found-clause-sound g c =
    let d = c.args.self.now in
    let i = c.in-Found.row in
    let late : d.clock < c.in-Some.made = omega (arith, c.in-Some.ensures.1) in
    let met = subst (λ (e : Entry). Enters (record { owner = c.args.parent; name = c.args.name; value = Some c.args.at; made = c.in-Some.made; removed = false; again = false }) d.nodes c.enter.new.self e) c.in-Found.is c.in_ok-row.ensures in
    let gone : is_made (rows_in d.nodes) (place_at (rows_in d.nodes) i) ≡ false = ap (λ rs. is_made rs (place_at rs i)) (sym (c.as_slice.ensures.value ∙ met.1)) ∙ sym c.is_row_made.ensures ∙ c.if-is_row_made.false in
    let a = added-again d c.requires.sound c.args.parent c.requires.parent c.args.name i met.0 (Some c.args.at) c.in-Some.made c.enter.new.self c.renew.new.self met.1 met.2 c.requires.fresh gone c.in_ok-row-in-Found.ensures.rows c.in_ok-row-in-Found.ensures.index in
    record { tables = tables-after d c.requires.sound c.args.parent c.requires.parent c.args.name c.in-Some.made (rows_in c.renew.new.self) (found_in c.renew.new.self) a c.in-Some.made (omega arith) (omega (arith, late)); marks = marks-after d c.requires.sound c.args.parent c.requires.parent c.args.name c.in-Some.made (rows_in c.renew.new.self) (found_in c.renew.new.self) a; single = c.requires.sound.single; chained = c.requires.sound.chained; valued = c.requires.sound.valued }

pub returns-in_ok-row-in-Found-clause-node : goal.returns-in_ok-row-in-Found-clause-node
returns-in_ok-row-in-Found-clause-node g c =
    let d = c.args.self.now in
    let i = c.in-Found.row in
    let late : d.clock < c.in-Some.made = omega (arith, c.in-Some.ensures.1) in
    let met = subst (λ (e : Entry). Enters (record { owner = c.args.parent; name = c.args.name; value = Some c.args.at; made = c.in-Some.made; removed = false; again = false }) d.nodes c.enter.new.self e) c.in-Found.is c.in_ok-row.ensures in
    let gone : is_made (rows_in d.nodes) (place_at (rows_in d.nodes) i) ≡ false = ap (λ rs. is_made rs (place_at rs i)) (sym (c.as_slice.ensures.value ∙ met.1)) ∙ sym c.is_row_made.ensures ∙ c.if-is_row_made.false in
    let a = added-again d c.requires.sound c.args.parent c.requires.parent c.args.name i met.0 (Some c.args.at) c.in-Some.made c.enter.new.self c.renew.new.self met.1 met.2 c.requires.fresh gone c.in_ok-row-in-Found.ensures.rows c.in_ok-row-in-Found.ensures.index in
    let at : c.in_ok-row-in-Found.row + 1 ≡ suc (length (rows_in d.nodes)) = omega (arith, c.in_ok-row-in-Found.ensures.row, ap length met.1) in
    subst (λ (n : ℕ). IsMade (record d { nodes = c.renew.new.self; clock = c.in-Some.made }) c.args.parent n (child_path d c.args.parent c.args.name.now)) (sym at) (made-after d c.requires.sound c.args.parent c.requires.parent c.args.name c.in-Some.made (rows_in c.renew.new.self) (found_in c.renew.new.self) a (record d { nodes = c.renew.new.self; clock = c.in-Some.made }) refl (omega (arith, late)))

pub returns-in_ok-row-in-Found-clause-fresh : goal.returns-in_ok-row-in-Found-clause-fresh
returns-in_ok-row-in-Found-clause-fresh g c =
    let d = c.args.self.now in
    let i = c.in-Found.row in
    let late : d.clock < c.in-Some.made = omega (arith, c.in-Some.ensures.1) in
    let met = subst (λ (e : Entry). Enters (record { owner = c.args.parent; name = c.args.name; value = Some c.args.at; made = c.in-Some.made; removed = false; again = false }) d.nodes c.enter.new.self e) c.in-Found.is c.in_ok-row.ensures in
    let gone : is_made (rows_in d.nodes) (place_at (rows_in d.nodes) i) ≡ false = ap (λ rs. is_made rs (place_at rs i)) (sym (c.as_slice.ensures.value ∙ met.1)) ∙ sym c.is_row_made.ensures ∙ c.if-is_row_made.false in
    let a = added-again d c.requires.sound c.args.parent c.requires.parent c.args.name i met.0 (Some c.args.at) c.in-Some.made c.enter.new.self c.renew.new.self met.1 met.2 c.requires.fresh gone c.in_ok-row-in-Found.ensures.rows c.in_ok-row-in-Found.ensures.index in
    let at : c.in_ok-row-in-Found.row + 1 ≡ suc (length (rows_in d.nodes)) = omega (arith, c.in_ok-row-in-Found.ensures.row, ap length met.1) in
    subst (λ (n : ℕ). IsFresh (record d { nodes = c.renew.new.self; clock = c.in-Some.made }) n) (sym at) (fresh-after d c.requires.sound c.args.parent c.requires.parent c.args.name c.in-Some.made (rows_in c.renew.new.self) (found_in c.renew.new.self) a (record d { nodes = c.renew.new.self; clock = c.in-Some.made }) refl)

pub returns-in_ok-row-in-Found-clause-grows : goal.returns-in_ok-row-in-Found-clause-grows
returns-in_ok-row-in-Found-clause-grows g c =
    let d = c.args.self.now in
    let i = c.in-Found.row in
    let late : d.clock < c.in-Some.made = omega (arith, c.in-Some.ensures.1) in
    let met = subst (λ (e : Entry). Enters (record { owner = c.args.parent; name = c.args.name; value = Some c.args.at; made = c.in-Some.made; removed = false; again = false }) d.nodes c.enter.new.self e) c.in-Found.is c.in_ok-row.ensures in
    let gone : is_made (rows_in d.nodes) (place_at (rows_in d.nodes) i) ≡ false = ap (λ rs. is_made rs (place_at rs i)) (sym (c.as_slice.ensures.value ∙ met.1)) ∙ sym c.is_row_made.ensures ∙ c.if-is_row_made.false in
    let a = added-again d c.requires.sound c.args.parent c.requires.parent c.args.name i met.0 (Some c.args.at) c.in-Some.made c.enter.new.self c.renew.new.self met.1 met.2 c.requires.fresh gone c.in_ok-row-in-Found.ensures.rows c.in_ok-row-in-Found.ensures.index in
    grows-after d c.requires.sound c.args.parent c.requires.parent c.args.name c.in-Some.made (rows_in c.renew.new.self) (found_in c.renew.new.self) a (record d { nodes = c.renew.new.self; clock = c.in-Some.made }) refl (λ away. absurd (true≢false (sym (now-there d c.requires.sound c.args.parent c.requires.parent c.args.name c.in-Some.made (rows_in c.renew.new.self) (found_in c.renew.new.self) a (omega (arith, late))) ∙ away)))

pub returns-in_ok-row-in-Found-clause-keeps : goal.returns-in_ok-row-in-Found-clause-keeps
returns-in_ok-row-in-Found-clause-keeps g c =
    let d = c.args.self.now in
    let i = c.in-Found.row in
    let late : d.clock < c.in-Some.made = omega (arith, c.in-Some.ensures.1) in
    let met = subst (λ (e : Entry). Enters (record { owner = c.args.parent; name = c.args.name; value = Some c.args.at; made = c.in-Some.made; removed = false; again = false }) d.nodes c.enter.new.self e) c.in-Found.is c.in_ok-row.ensures in
    let gone : is_made (rows_in d.nodes) (place_at (rows_in d.nodes) i) ≡ false = ap (λ rs. is_made rs (place_at rs i)) (sym (c.as_slice.ensures.value ∙ met.1)) ∙ sym c.is_row_made.ensures ∙ c.if-is_row_made.false in
    let a = added-again d c.requires.sound c.args.parent c.requires.parent c.args.name i met.0 (Some c.args.at) c.in-Some.made c.enter.new.self c.renew.new.self met.1 met.2 c.requires.fresh gone c.in_ok-row-in-Found.ensures.rows c.in_ok-row-in-Found.ensures.index in
    keeps-after d c.requires.sound c.args.parent c.requires.parent c.args.name c.in-Some.made (rows_in c.renew.new.self) (found_in c.renew.new.self) a (record d { nodes = c.renew.new.self; clock = c.in-Some.made }) refl c.args.parent

pub returns-in_ok-row-in-Found-clause-tree : goal.returns-in_ok-row-in-Found-clause-tree
returns-in_ok-row-in-Found-clause-tree g c =
    let d = c.args.self.now in
    let i = c.in-Found.row in
    let late : d.clock < c.in-Some.made = omega (arith, c.in-Some.ensures.1) in
    let met = subst (λ (e : Entry). Enters (record { owner = c.args.parent; name = c.args.name; value = Some c.args.at; made = c.in-Some.made; removed = false; again = false }) d.nodes c.enter.new.self e) c.in-Found.is c.in_ok-row.ensures in
    let gone : is_made (rows_in d.nodes) (place_at (rows_in d.nodes) i) ≡ false = ap (λ rs. is_made rs (place_at rs i)) (sym (c.as_slice.ensures.value ∙ met.1)) ∙ sym c.is_row_made.ensures ∙ c.if-is_row_made.false in
    let a = added-again d c.requires.sound c.args.parent c.requires.parent c.args.name i met.0 (Some c.args.at) c.in-Some.made c.enter.new.self c.renew.new.self met.1 met.2 c.requires.fresh gone c.in_ok-row-in-Found.ensures.rows c.in_ok-row-in-Found.ensures.index in
    λ read. new-made d c.requires.sound c.args.parent c.requires.parent c.args.name read (dtc_tree read (record d { nodes = c.renew.new.self; clock = c.in-Some.made })) (stands-gone d c.requires.sound c.args.parent c.requires.parent c.args.name read i met.0 gone)
    (tree-after d c.requires.sound c.args.parent c.requires.parent c.args.name c.in-Some.made (rows_in c.renew.new.self) (found_in c.renew.new.self) a (record d { nodes = c.renew.new.self; clock = c.in-Some.made }) refl read true (now-there d c.requires.sound c.args.parent c.requires.parent c.args.name c.in-Some.made (rows_in c.renew.new.self) (found_in c.renew.new.self) a (omega (arith, late))) refl refl refl refl refl)
