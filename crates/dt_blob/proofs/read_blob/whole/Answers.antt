use Rattle.std.proofs.Common.{sym, ap, ◌∙◌, arith, inl, inr}
use Rattle.std.proofs.lemmas.Result.{err_from_is_err_and}
use Rattle.dt_blob.specs.Steps.NodeBuilders.{begun, root_from}
use Rattle.dt_blob.specs.Steps.Reading.{reserves_at, tokens_at, tree_in}
use Rattle.dt_blob.proofs.Refusals.{behind_header, header_word_inside, reserves_refused}
use Rattle.dt_blob.proofs.States.{root_sound}
use Rattle.dt_blob.proofs.Stepping.{refuse}
use Rattle.dt_blob.proofs.Whole.{tree_without_root, root_as, tree_as, reserves_bytes}
use Rattle.dt_blob.proofs.Words.{AreBytes}
use Rattle.dt_blob.proofs.read_blob.whole.Goals as goal

pub returns-in_err-blocks : goal.returns-in_err-blocks
returns-in_err-blocks c =
    let p = err_from_is_err_and c.from_residual.result c.from_residual.ensures.1 in
    rw (p.1, p.2) (inl c.in_err-blocks.ensures.0, (λ _. c.in_err-blocks.ensures.1, rw c.in_err-blocks.ensures.1 (header_word_inside c.args.bytes.now)))

pub returns-in_err-reserves : goal.returns-in_err-reserves
returns-in_err-reserves c =
    let p = err_from_is_err_and c.from_residual-in_err-reserves.result c.from_residual-in_err-reserves.ensures.1 in
    let blocks = c.in_ok-blocks.blocks in
    let e = c.in_err-reserves.field-0.0 in
    rw (p.1, p.2) (reserves_refused c.args.bytes.now blocks.reserves.now e.kind c.in_ok-blocks.ensures.1 c.in_ok-blocks.ensures.0.reserves c.in_err-reserves.ensures.read, behind_header c.args.bytes.now e c.in_ok-blocks.ensures.1 c.in_err-reserves.ensures.at)

pub returns-in_err-root : goal.returns-in_err-root
returns-in_err-root c =
    let p = err_from_is_err_and c.from_residual-in_err-root.result c.from_residual-in_err-root.ensures.1 in
    let bytes = c.args.bytes.now in
    let blocks = c.in_ok-blocks.blocks in
    let root = root_as bytes blocks c.in_ok-blocks.ensures.0 in
    let e = c.in_err-root.field-0.0 in
    rw (p.1, p.2) (inr (c.in_ok-blocks.ensures.1, inr (refuse e.kind (root_from begun (tokens_at blocks.is_sized blocks.strings.now blocks.structure.now)) (tree_in bytes) (λ n. tree_without_root bytes c.in_ok-blocks.ensures.1 (sym root ∙ n)) c.in_err-root.ensures.read)), behind_header bytes e c.in_ok-blocks.ensures.1 c.in_err-root.ensures.at)

pub returns-in-Ok : goal.returns-in-Ok
returns-in-Ok c =
    let bytes = c.args.bytes.now in
    let blocks = c.in_ok-blocks.blocks in
    let are = c.in_ok-blocks.ensures.0 in
    let root = root_as bytes blocks are in
    let all : AreBytes bytes = λ i. omega (arith, c.type_inv.bytes i) in
    tree_as bytes blocks.boot_cpu c.in_ok-reserves.reserves.items c.in_ok-root.root c.in-Ok.tree (reserves_bytes bytes all) are.boot_cpu c.in_ok-blocks.ensures.1
    (sym (ap reserves_at are.reserves) ∙ c.in_ok-reserves.ensures.read) (sym root ∙ c.in_ok-root.ensures.read) c.in-Ok.ensures.tree

pub returns-in-Err : goal.returns-in-Err
returns-in-Err c =
    let blocks = c.in_ok-blocks.blocks in
    let read = root_sound (tokens_at blocks.is_sized blocks.strings.now blocks.structure.now) c.in_ok-root.root c.in_ok-root.ensures.read in
    absurd (c.in-Err.ensures.name.1 read.unnamed)
