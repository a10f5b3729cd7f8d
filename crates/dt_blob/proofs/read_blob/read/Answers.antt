use Rattle.std.proofs.Common.{arith}
use Rattle.std.proofs.lemmas.Result.{err_from_is_err_and}
use Rattle.dt_blob.specs.declared.error.BlobError.TheVariants as errors
use Rattle.dt_blob.proofs.Holding.{read_held, one_tree}
use Rattle.dt_blob.proofs.Refusals.{only_memory, kind_of, kind_of_ok, layout_of, end_of}
use Rattle.dt_blob.proofs.Words.{AreBytes}
use Rattle.dt_blob.proofs.read_blob.read.Goals as goal

pub returns-in_err-tree-clause-only : goal.returns-in_err-tree-clause-only
returns-in_err-tree-clause-only c =
    let p = err_from_is_err_and c.from_residual.result c.from_residual.ensures.1 in
    λ tree h. rw (p.1, p.2) (only_memory c.args.bytes.now c.in_err-tree.field-0.0.kind tree c.in_err-tree.ensures.0 h)

pub returns-in_err-tree-clause-too_large : goal.returns-in_err-tree-clause-too_large
returns-in_err-tree-clause-too_large c =
    let p = err_from_is_err_and c.from_residual.result c.from_residual.ensures.1 in
    rw (p.1, p.2) (kind_of errors.TooLarge c.in_err-tree.field-0.0.kind c.args.bytes.now (λ x. cc x) (λ x. x) c.in_err-tree.ensures.0)

pub returns-in_err-tree-clause-truncated : goal.returns-in_err-tree-clause-truncated
returns-in_err-tree-clause-truncated c =
    let p = err_from_is_err_and c.from_residual.result c.from_residual.ensures.1 in
    rw (p.1, p.2) (kind_of errors.Truncated c.in_err-tree.field-0.0.kind c.args.bytes.now (λ x. cc x) (λ x. x) c.in_err-tree.ensures.0)

pub returns-in_err-tree-clause-bad_magic : goal.returns-in_err-tree-clause-bad_magic
returns-in_err-tree-clause-bad_magic c =
    let p = err_from_is_err_and c.from_residual.result c.from_residual.ensures.1 in
    rw (p.1, p.2) (kind_of errors.BadMagic c.in_err-tree.field-0.0.kind c.args.bytes.now (λ x. cc x) (λ x. x) c.in_err-tree.ensures.0)

pub returns-in_err-tree-clause-bad_version : goal.returns-in_err-tree-clause-bad_version
returns-in_err-tree-clause-bad_version c =
    let p = err_from_is_err_and c.from_residual.result c.from_residual.ensures.1 in
    rw (p.1, p.2) (kind_of errors.BadVersion c.in_err-tree.field-0.0.kind c.args.bytes.now (λ x. cc x) (λ x. x) c.in_err-tree.ensures.0)

pub returns-in_err-tree-clause-bad_layout : goal.returns-in_err-tree-clause-bad_layout
returns-in_err-tree-clause-bad_layout c =
    let p = err_from_is_err_and c.from_residual.result c.from_residual.ensures.1 in
    rw (p.1, p.2) (layout_of c.in_err-tree.field-0.0.kind c.args.bytes.now c.in_err-tree.ensures.0)

pub returns-in_err-tree-clause-no_end : goal.returns-in_err-tree-clause-no_end
returns-in_err-tree-clause-no_end c =
    let p = err_from_is_err_and c.from_residual.result c.from_residual.ensures.1 in
    rw (p.1, p.2) (end_of c.in_err-tree.field-0.0.kind c.args.bytes.now c.in_err-tree.ensures.0)

pub returns-clause-found : goal.returns-clause-found
returns-clause-found c =
    let all : AreBytes c.args.bytes.now = λ i. omega (arith, c.type_inv.bytes i) in
    read_held c.args.bytes.now c.in_ok-tree.tree all c.check.ensures c.in_ok-tree.ensures

pub returns-clause-only : goal.returns-clause-only
returns-clause-only c =
    let all : AreBytes c.args.bytes.now = λ i. omega (arith, c.type_inv.bytes i) in
    λ tree h. one_tree c.args.bytes.now c.in_ok-tree.tree tree (read_held c.args.bytes.now c.in_ok-tree.tree all c.check.ensures c.in_ok-tree.ensures) h

pub returns-clause-too_large : goal.returns-clause-too_large
returns-clause-too_large c = kind_of_ok c.in_ok-tree.tree errors.TooLarge c.args.bytes.now c.in_ok-tree.tree c.in_ok-tree.ensures

pub returns-clause-truncated : goal.returns-clause-truncated
returns-clause-truncated c = kind_of_ok c.in_ok-tree.tree errors.Truncated c.args.bytes.now c.in_ok-tree.tree c.in_ok-tree.ensures

pub returns-clause-bad_magic : goal.returns-clause-bad_magic
returns-clause-bad_magic c = kind_of_ok c.in_ok-tree.tree errors.BadMagic c.args.bytes.now c.in_ok-tree.tree c.in_ok-tree.ensures

pub returns-clause-bad_version : goal.returns-clause-bad_version
returns-clause-bad_version c = kind_of_ok c.in_ok-tree.tree errors.BadVersion c.args.bytes.now c.in_ok-tree.tree c.in_ok-tree.ensures

pub returns-clause-bad_layout : goal.returns-clause-bad_layout
returns-clause-bad_layout c = (kind_of_ok c.in_ok-tree.tree errors.BadLayout c.args.bytes.now c.in_ok-tree.tree c.in_ok-tree.ensures).1
