use Rattle.std.proofs.Common.{length, ap, arith}
use Rattle.std.proofs.lemmas.Result.{err_from_is_err_and}
use Rattle.dt_blob.specs.Token.{property_tokens, sibling_tokens}
use Rattle.dt_blob.specs.Steps.Written.{tokens_size}
use Rattle.dt_blob.proofs.Walk.{size-node, size-child}
use Rattle.dt_blob.proofs.sizing.+add_node.Goals as goal

pub returns-in_err-size : goal.returns-in_err-size
returns-in_err-size t c =
    let p = err_from_is_err_and c.from_residual-in_err-size.result c.from_residual-in_err-size.ensures.1 in
    let n = size-node c.args.node.now in
    let l = ap (λ ps. tokens_size (property_tokens ps)) c.properties.ensures in
    rw (p.1, p.2) (c.in_err-size.ensures.0, omega (arith, n, l, ap (λ xs. length xs) c.name_bytes-len.ensures, c.in_err-size.ensures.1))

pub loop-child-init : goal.loop-child-init
loop-child-init t c =
    let n = size-node c.args.node.now in
    let l = ap (λ ps. tokens_size (property_tokens ps)) c.properties.ensures in
    let s = ap (λ f. tokens_size (sibling_tokens f)) c.children-child-items.ensures.nodes in
    record { left = omega (arith, n, l, s, ap (λ xs. length xs) c.name_bytes-len.ensures, c.in_ok-size.ensures.0, c.in_ok-begun.ensures.0); fits = c.in_ok-size.ensures.1 }

pub returns-in_err-size-2 : goal.returns-in_err-size-2
returns-in_err-size-2 t c =
    let p = err_from_is_err_and c.from_residual-in_err-size-2.result c.from_residual-in_err-size-2.ensures.1 in
    let k = size-child c.children-child-items.result.now c.loop-child.child-index c.child-item.result c.loop-child-test.true c.child-item.is in
    rw (p.1, p.2) (c.in_err-size-2.ensures.0, omega (arith, k, c.loop-child.invariant.left, c.in_err-size-2.ensures.1))

pub loop-child-preserved : goal.loop-child-preserved
loop-child-preserved t c =
    let k = size-child c.children-child-items.result.now c.loop-child.child-index c.child-item.result c.loop-child-test.true c.child-item.is in
    record { left = omega (arith, k, c.loop-child.invariant.left, c.in_ok-size-2.ensures.0); fits = c.in_ok-size-2.ensures.1 }
