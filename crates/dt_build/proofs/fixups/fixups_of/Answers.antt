use Rattle.dt_build.proofs.FixupsMade.{label_fixups-named, label_fixups-put}
use Rattle.dt_build.proofs.fixups.fixups_of.Goals as goal

pub lawful_name-requires : goal.lawful_name-requires
lawful_name-requires c =
    label_fixups-named c.args.draft.now c.requires.ready c.loop-label_fixups.properties.items c.loop-label_fixups.label_fixups-iterator.rest.items c.next.new.self.rest.items c.in-Some.label_fixups c.in-Some.ensures.steps.0
    c.loop-label_fixups.invariant

pub loop-label_fixups-preserved : goal.loop-label_fixups-preserved
loop-label_fixups-preserved c =
    label_fixups-put c.loop-label_fixups.properties.items c.push.new.self.items _ c.loop-label_fixups.label_fixups-iterator.rest.items c.next.new.self.rest.items c.in-Some.label_fixups _ c.in-Some.ensures.steps.0 c.in_ok-push.ensures.items c.in_ok-lawful_name.ensures c.from_vec.ensures
    c.loop-label_fixups.invariant
