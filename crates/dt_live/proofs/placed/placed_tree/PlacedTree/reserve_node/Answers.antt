use Rattle.std.proofs.Common.{◌≡◌, None, false, length, refl, sym, ap, ◌∙◌, subst, arith}
use Rattle.dt_live.specs.declared.placed.table.Entry.{Entry}
use Rattle.dt_live.specs.Placed.Rows.{is_made, place_at}
use Rattle.dt_live.specs.Placed.Tables.{Enters, found_in, rows_in}
use Rattle.dt_live.specs.Placed.PlacedTrees.{dtc_tree}
use Rattle.dt_live.proofs.PlacedLemmas.NewNodes.{added-again, added-new, grows-after, keeps-after, known-row, marks-after, never-there, new-reserved, reserve-refused, stands-gone, stands-none, stands-some, tables-after, tree-after}
use Rattle.dt_live.proofs.placed.placed_tree.PlacedTree.reserve_node.Goals as goal

pub returns-in-New-clause-sound : goal.returns-in-New-clause-sound
returns-in-New-clause-sound g c =
    let d = c.args.self.now in
    let a = added-new d c.requires.sound c.args.parent c.requires.parent c.args.name None 0 c.in-New.field-0 c.enter.new.self
    (subst (λ (e : Entry). Enters (record { owner = c.args.parent; name = c.args.name; value = None; made = 0; removed = false; again = false }) d.nodes c.enter.new.self e) c.in-New.is c.in_ok-enter.ensures) in
    record {
      tables = tables-after d c.requires.sound c.args.parent c.requires.parent c.args.name 0 (rows_in c.enter.new.self) (found_in c.enter.new.self) a d.clock (omega arith) (omega arith);
      marks = marks-after d c.requires.sound c.args.parent c.requires.parent c.args.name 0 (rows_in c.enter.new.self) (found_in c.enter.new.self) a;
      single = c.requires.sound.single;
      chained = c.requires.sound.chained;
      valued = c.requires.sound.valued;
    }

pub returns-in-New-clause-grows : goal.returns-in-New-clause-grows
returns-in-New-clause-grows g c =
    let d = c.args.self.now in
    let a = added-new d c.requires.sound c.args.parent c.requires.parent c.args.name None 0 c.in-New.field-0 c.enter.new.self
    (subst (λ (e : Entry). Enters (record { owner = c.args.parent; name = c.args.name; value = None; made = 0; removed = false; again = false }) d.nodes c.enter.new.self e) c.in-New.is c.in_ok-enter.ensures) in
    grows-after d c.requires.sound c.args.parent c.requires.parent c.args.name 0 (rows_in c.enter.new.self) (found_in c.enter.new.self) a (record d { nodes = c.enter.new.self }) refl (λ _. refl)

pub returns-in-New-clause-keeps : goal.returns-in-New-clause-keeps
returns-in-New-clause-keeps g c =
    let d = c.args.self.now in
    let a = added-new d c.requires.sound c.args.parent c.requires.parent c.args.name None 0 c.in-New.field-0 c.enter.new.self
    (subst (λ (e : Entry). Enters (record { owner = c.args.parent; name = c.args.name; value = None; made = 0; removed = false; again = false }) d.nodes c.enter.new.self e) c.in-New.is c.in_ok-enter.ensures) in
    keeps-after d c.requires.sound c.args.parent c.requires.parent c.args.name 0 (rows_in c.enter.new.self) (found_in c.enter.new.self) a (record d { nodes = c.enter.new.self }) refl c.args.parent

pub returns-in-New-clause-tree : goal.returns-in-New-clause-tree
returns-in-New-clause-tree g c =
    let d = c.args.self.now in
    let e = subst (λ (e : Entry). Enters (record { owner = c.args.parent; name = c.args.name; value = None; made = 0; removed = false; again = false }) d.nodes c.enter.new.self e) c.in-New.is c.in_ok-enter.ensures in
    let a = added-new d c.requires.sound c.args.parent c.requires.parent c.args.name None 0 c.in-New.field-0 c.enter.new.self e in
    λ read. new-reserved d c.requires.sound c.args.parent c.requires.parent c.args.name read (dtc_tree read (record d { nodes = c.enter.new.self })) (stands-none d c.requires.sound c.args.parent c.requires.parent c.args.name read e.0)
    (tree-after d c.requires.sound c.args.parent c.requires.parent c.args.name 0 (rows_in c.enter.new.self) (found_in c.enter.new.self) a (record d { nodes = c.enter.new.self }) refl read false
    (never-there d c.requires.sound c.args.parent c.requires.parent c.args.name 0 (rows_in c.enter.new.self) (found_in c.enter.new.self) a refl) refl refl refl refl refl)

pub is_row_made-requires : goal.is_row_made-requires
is_row_made-requires g c =
    let d = c.args.self.now in
    let met = subst (λ (e : Entry). Enters (record { owner = c.args.parent; name = c.args.name; value = None; made = 0; removed = false; again = false }) d.nodes c.enter.new.self e) c.in-Found.is c.in_ok-enter.ensures in
    let k = known-row d c.requires.sound c.args.parent c.requires.parent c.args.name c.in-Found.row met.0 in
    let same = c.as_slice.ensures.value ∙ met.1 in
    record {
      known = omega (arith, k, ap length same);
      owner = omega (arith, k, ap length same, ap (λ rs. (place_at rs c.in-Found.row).owner) same, c.requires.sound.tables.grown c.in-Found.row);
    }

pub returns-then-is_row_made-clause-tree : goal.returns-then-is_row_made-clause-tree
returns-then-is_row_made-clause-tree g c =
    let d = c.args.self.now in
    let i = c.in-Found.row in
    let met = subst (λ (e : Entry). Enters (record { owner = c.args.parent; name = c.args.name; value = None; made = 0; removed = false; again = false }) d.nodes c.enter.new.self e) c.in-Found.is c.in_ok-enter.ensures in
    λ read. reserve-refused d c.requires.sound c.args.parent c.requires.parent c.args.name read
    (stands-some d c.requires.sound c.args.parent c.requires.parent c.args.name read i met.0
    (ap (λ rs. is_made rs (place_at rs i)) (sym (c.as_slice.ensures.value ∙ met.1)) ∙ sym c.is_row_made.ensures ∙ c.if-is_row_made.true))

pub renew-requires : goal.renew-requires
renew-requires g c =
    let d = c.args.self.now in
    let met = subst (λ (e : Entry). Enters (record { owner = c.args.parent; name = c.args.name; value = None; made = 0; removed = false; again = false }) d.nodes c.enter.new.self e) c.in-Found.is c.in_ok-enter.ensures in
    omega (arith, known-row d c.requires.sound c.args.parent c.requires.parent c.args.name c.in-Found.row met.0, ap length met.1)

pub returns-in_ok-renew-in-Found-clause-sound : goal.returns-in_ok-renew-in-Found-clause-sound
returns-in_ok-renew-in-Found-clause-sound g c =
    let d = c.args.self.now in
    let i = c.in-Found.row in
    let met = subst (λ (e : Entry). Enters (record { owner = c.args.parent; name = c.args.name; value = None; made = 0; removed = false; again = false }) d.nodes c.enter.new.self e) c.in-Found.is c.in_ok-enter.ensures in
    let gone : is_made (rows_in d.nodes) (place_at (rows_in d.nodes) i) ≡ false = ap (λ rs. is_made rs (place_at rs i)) (sym (c.as_slice.ensures.value ∙ met.1)) ∙ sym c.is_row_made.ensures ∙ c.if-is_row_made.false in
    let a = added-again d c.requires.sound c.args.parent c.requires.parent c.args.name i met.0 None 0 c.enter.new.self c.renew.new.self met.1 met.2 c.requires.fresh gone c.in_ok-renew-in-Found.ensures.rows c.in_ok-renew-in-Found.ensures.index in
    record { tables = tables-after d c.requires.sound c.args.parent c.requires.parent c.args.name 0 (rows_in c.renew.new.self) (found_in c.renew.new.self) a d.clock (omega arith) (omega arith); marks = marks-after d c.requires.sound c.args.parent c.requires.parent c.args.name 0 (rows_in c.renew.new.self) (found_in c.renew.new.self) a; single = c.requires.sound.single; chained = c.requires.sound.chained; valued = c.requires.sound.valued }

pub returns-in_ok-renew-in-Found-clause-grows : goal.returns-in_ok-renew-in-Found-clause-grows
returns-in_ok-renew-in-Found-clause-grows g c =
    let d = c.args.self.now in
    let i = c.in-Found.row in
    let met = subst (λ (e : Entry). Enters (record { owner = c.args.parent; name = c.args.name; value = None; made = 0; removed = false; again = false }) d.nodes c.enter.new.self e) c.in-Found.is c.in_ok-enter.ensures in
    let gone : is_made (rows_in d.nodes) (place_at (rows_in d.nodes) i) ≡ false = ap (λ rs. is_made rs (place_at rs i)) (sym (c.as_slice.ensures.value ∙ met.1)) ∙ sym c.is_row_made.ensures ∙ c.if-is_row_made.false in
    let a = added-again d c.requires.sound c.args.parent c.requires.parent c.args.name i met.0 None 0 c.enter.new.self c.renew.new.self met.1 met.2 c.requires.fresh gone c.in_ok-renew-in-Found.ensures.rows c.in_ok-renew-in-Found.ensures.index in
    grows-after d c.requires.sound c.args.parent c.requires.parent c.args.name 0 (rows_in c.renew.new.self) (found_in c.renew.new.self) a (record d { nodes = c.renew.new.self }) refl (λ _. refl)

pub returns-in_ok-renew-in-Found-clause-keeps : goal.returns-in_ok-renew-in-Found-clause-keeps
returns-in_ok-renew-in-Found-clause-keeps g c =
    let d = c.args.self.now in
    let i = c.in-Found.row in
    let met = subst (λ (e : Entry). Enters (record { owner = c.args.parent; name = c.args.name; value = None; made = 0; removed = false; again = false }) d.nodes c.enter.new.self e) c.in-Found.is c.in_ok-enter.ensures in
    let gone : is_made (rows_in d.nodes) (place_at (rows_in d.nodes) i) ≡ false = ap (λ rs. is_made rs (place_at rs i)) (sym (c.as_slice.ensures.value ∙ met.1)) ∙ sym c.is_row_made.ensures ∙ c.if-is_row_made.false in
    let a = added-again d c.requires.sound c.args.parent c.requires.parent c.args.name i met.0 None 0 c.enter.new.self c.renew.new.self met.1 met.2 c.requires.fresh gone c.in_ok-renew-in-Found.ensures.rows c.in_ok-renew-in-Found.ensures.index in
    keeps-after d c.requires.sound c.args.parent c.requires.parent c.args.name 0 (rows_in c.renew.new.self) (found_in c.renew.new.self) a (record d { nodes = c.renew.new.self }) refl c.args.parent

pub returns-in_ok-renew-in-Found-clause-tree : goal.returns-in_ok-renew-in-Found-clause-tree
returns-in_ok-renew-in-Found-clause-tree g c =
    let d = c.args.self.now in
    let i = c.in-Found.row in
    let met = subst (λ (e : Entry). Enters (record { owner = c.args.parent; name = c.args.name; value = None; made = 0; removed = false; again = false }) d.nodes c.enter.new.self e) c.in-Found.is c.in_ok-enter.ensures in
    let gone : is_made (rows_in d.nodes) (place_at (rows_in d.nodes) i) ≡ false = ap (λ rs. is_made rs (place_at rs i)) (sym (c.as_slice.ensures.value ∙ met.1)) ∙ sym c.is_row_made.ensures ∙ c.if-is_row_made.false in
    let a = added-again d c.requires.sound c.args.parent c.requires.parent c.args.name i met.0 None 0 c.enter.new.self c.renew.new.self met.1 met.2 c.requires.fresh gone c.in_ok-renew-in-Found.ensures.rows c.in_ok-renew-in-Found.ensures.index in
    λ read. new-reserved d c.requires.sound c.args.parent c.requires.parent c.args.name read (dtc_tree read (record d { nodes = c.renew.new.self })) (stands-gone d c.requires.sound c.args.parent c.requires.parent c.args.name read i met.0 gone)
    (tree-after d c.requires.sound c.args.parent c.requires.parent c.args.name 0 (rows_in c.renew.new.self) (found_in c.renew.new.self) a (record d { nodes = c.renew.new.self }) refl read false (never-there d c.requires.sound c.args.parent c.requires.parent c.args.name 0 (rows_in c.renew.new.self) (found_in c.renew.new.self) a refl) refl refl refl refl refl)
