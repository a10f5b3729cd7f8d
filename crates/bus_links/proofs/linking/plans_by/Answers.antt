-- The plan that is left goes by the lists that the slices show.
use Rattle.bus_links.proofs.linking.plans_by.Goals as goal

pub late_by-requires : goal.late_by-requires
late_by-requires c =
    rw (c.as_slice-early.ensures.value, c.as_slice-2.ensures.value, c.as_slice-all.ensures.value) (c.requires.late c.as_slice.result.now c.in_ok-plan.plan)

pub returns-clause-late : goal.returns-clause-late
returns-clause-late c =
    rw (c.as_slice-early.ensures.value, c.as_slice-2.ensures.value, c.as_slice.ensures.value, c.as_slice-all.ensures.value) at c.in_ok-late.ensures
