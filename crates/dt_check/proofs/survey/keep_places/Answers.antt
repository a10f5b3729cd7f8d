use Rattle.dt_check.proofs.PlaceLemmas.{kept-next}
use Rattle.dt_check.proofs.survey.keep_places.Goals as goal

pub loop-place-preserved : goal.loop-place-preserved
loop-place-preserved c = λ q.
    kept-next q c.loop-place.place c.args.nodes.now c.index-nodes-place.result _ _ _
    c.loop-place-test.true c.index-nodes-place.is (c.in_ok-keep_place.ensures q) (c.loop-place.invariant q)
