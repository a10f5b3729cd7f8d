use Rattle.std.proofs.Common.{length, sym, arith, ◌∙◌}
use Rattle.dt_patch.specs.Creating.{empty_tree}
use Rattle.dt_patch.proofs.Empties.{empty_fits, empty_short, mid_held, mid_ordered, mid_sized, never_refused}
use Rattle.dt_patch.proofs.Fills.{by_answer, on_ok}
use Rattle.dt_patch.proofs.creating.create_empty.Goals as goal

pub returns-then-buffer-clause-fault : goal.returns-then-buffer-clause-fault
returns-then-buffer-clause-fault c =
    let most = c.if-buffer-gt-MAX_SIZE.false in
    let few = c.if-buffer.true in
    empty_short (length c.args.buffer.now) (omega (arith, most)) (omega (arith, few))

pub returns-clause-made : goal.returns-clause-made
returns-clause-made c =
    on_ok _ _ c.grow.result c.grow.ensures.told (λ t. t ∙ mid_sized c.args.buffer.now c.put_empty.new.buffer (omega arith) (omega arith) c.put_empty.ensures)

pub returns-clause-held : goal.returns-clause-held
returns-clause-held c =
    on_ok _ _ c.grow.result c.grow.ensures.held (λ h. h empty_tree (mid_held c.args.buffer.now c.put_empty.new.buffer (omega arith) (omega arith) c.put_empty.ensures))

pub returns-clause-fault : goal.returns-clause-fault
returns-clause-fault c =
    let held = mid_held c.args.buffer.now c.put_empty.new.buffer (omega arith) (omega arith) c.put_empty.ensures in
    let ordered = mid_ordered c.args.buffer.now c.put_empty.new.buffer (omega arith) (omega arith) c.put_empty.ensures in
    by_answer _ _ _ _ c.grow.result (c.grow.ensures.fault empty_tree held) (λ x s. empty_fits (length c.args.buffer.now) (omega arith) (omega arith)) (λ e s. absurd (cc (sym ordered ∙ s)))

pub returns-clause-refused : goal.returns-clause-refused
returns-clause-refused c =
    let held = mid_held c.args.buffer.now c.put_empty.new.buffer (omega arith) (omega arith) c.put_empty.ensures in
    let ordered = mid_ordered c.args.buffer.now c.put_empty.new.buffer (omega arith) (omega arith) c.put_empty.ensures in
    never_refused _ _ _ c.grow.result (c.grow.ensures.fault empty_tree held) ordered
