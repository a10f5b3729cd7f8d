use Rattle.std.proofs.Common.{◌≡◌, ◌+◌, ◌++◌, drop, ap, sym, ◌∙◌, subst, arith}
use Rattle.std.proofs.lemmas.List.{drop_all, drop_more}
use Rattle.dt_blob.specs.Strings.{ended}
use Rattle.dt_blob.specs.Steps.Table.{Pending}
use Rattle.dt_blob.proofs.Places.{tail-range}
use Rattle.dt_blob.proofs.Tables.{pending-first, pending-last}
use Rattle.dt_blob.proofs.strings.place_tails.Goals as goal

pub loop-skipped-init : goal.loop-skipped-init
loop-skipped-init c = λ block size closed free table.
    let e : c.args.start ≡ c.args.start + 0 = omega arith in
    subst (λ n. Pending c.args.names.now c.args.places.now (block ++ ended c.args.name.now) n c.args.name.now) e
    (pending-first c.args.names.now c.args.places.now block c.args.name.now c.args.start c.check.ensures size closed free table)

pub loop-skipped-preserved : goal.loop-skipped-preserved
loop-skipped-preserved c = λ block size closed free table.
    let names = c.args.names.now in
    let name = c.args.name.now in
    let whole = block ++ ended name in
    let k = c.loop-skipped.skipped in
    let range = tail-range k name in
    let on : (c.args.start + k) + 1 ≡ c.args.start + (k + 1) = omega arith in
    subst (λ n. Pending names c.place_tail.new.places whole n (drop (k + 1) name)) on
    (subst (λ t. Pending names c.place_tail.new.places whole ((c.args.start + k) + 1) t) (ap (drop 1) (range ∙ drop_more name k 0 (omega arith)))
    (c.place_tail.ensures whole (subst (λ t. Pending names c.loop-skipped.places whole (c.args.start + k) t) (sym range) (c.loop-skipped.invariant block size closed free table))))

pub returns : goal.returns
returns c = λ block size closed free table.
    let whole = block ++ ended c.args.name.now in
    pending-last c.args.names.now c.loop-skipped.places whole (c.args.start + c.loop-skipped.skipped)
    (subst (λ t. Pending c.args.names.now c.loop-skipped.places whole (c.args.start + c.loop-skipped.skipped) t) (drop_all c.loop-skipped.skipped c.args.name.now (omega arith)) (c.loop-skipped.invariant block size closed free table))
