use Rattle.std.proofs.Common.{◌+◌, ◌<◌, ◌≤◌, List, length, map, sym, ap, subst, arith}
use Rattle.std.specs.Prelude.{Result}
use Rattle.std.specs.List.{filter}
use Rattle.dt_source.specs.OverlayMeaning.Fault.{Fault}
use Rattle.dt_source.specs.OverlayMeaning.Shifted.{Fixup, is_fixups}
use Rattle.dt_overlay.specs.Fixup.Private.Fixing.{gathered, fixup_named, row_fixups}
use Rattle.dt_overlay.proofs.FixupLemmas.LocalSteps.{definitions, definitions-all}
use Rattle.dt_overlay.proofs.FixupLemmas.ReadingLaws.{IsSoFar, rows-end, rows-more, so-far-end, so-far-fault, so-far-more, so-far-start}
use Rattle.dt_overlay.proofs.fixup.reading.read_fixups.Goals as goal

pub loop-row-init : goal.loop-row-init
loop-row-init c =
    let d = c.args.live.now in
    let all = gathered (filter is_fixups (definitions d 0)) in
    let old = map fixup_named c.args.found.now.items in
    subst (λ (r : Result (List Fixup) Fault). IsSoFar r all old old) (ap (λ es. gathered (filter is_fixups es)) (sym (definitions-all d c.requires.whole))) (so-far-start all old)

pub returns-in-Err : goal.returns-in-Err
returns-in-Err c =
    let d = c.args.live.now in
    let k = c.loop-row.row in
    let below : k < length d.properties.items = omega (arith, c.loop-row-test.true, ap length c.properties-row-end.ensures) in
    so-far-fault c.in-Err.error _ (gathered (filter is_fixups (definitions d k))) (row_fixups d k) (gathered (filter is_fixups (definitions d (k + 1))))
    (map fixup_named c.args.found.now.items) (map fixup_named c.loop-row.found.items) c.loop-row.invariant (rows-more d k below) c.in-Err.ensures

pub loop-row-preserved : goal.loop-row-preserved
loop-row-preserved c =
    let d = c.args.live.now in
    let k = c.loop-row.row in
    let below : k < length d.properties.items = omega (arith, c.loop-row-test.true, ap length c.properties-row-end.ensures) in
    so-far-more _ (gathered (filter is_fixups (definitions d k))) (row_fixups d k) (gathered (filter is_fixups (definitions d (k + 1))))
    (map fixup_named c.args.found.now.items) (map fixup_named c.loop-row.found.items) (map fixup_named c.read_row.new.found.items) c.loop-row.invariant (rows-more d k below) c.in_default.ensures

pub returns : goal.returns
returns c =
    let d = c.args.live.now in
    let k = c.loop-row.row in
    let past : length d.properties.items ≤ k = omega (arith, c.loop-row-test.false, ap length c.properties-row-end.ensures) in
    so-far-end _ (gathered (filter is_fixups (definitions d k))) (map fixup_named c.args.found.now.items) (map fixup_named c.loop-row.found.items) c.loop-row.invariant (rows-end d k past)
