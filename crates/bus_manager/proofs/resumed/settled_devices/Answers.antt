use Rattle.bus_core.specs.History.{is_settled}
use Rattle.bus_manager.proofs.ResumedLemmas.{put-more}
use Rattle.bus_manager.proofs.resumed.settled_devices.Goals as goal

pub loop-index-preserved : goal.loop-index-preserved
loop-index-preserved c =
    put-more (is_settled c.args.core.now.state.history) c.loop-index.settled c.put.new.self c.loop-index.index c.new-device.result c.is_settled.result c.put.ensures c.new-device.ensures
    c.is_settled.ensures c.loop-index.invariant
