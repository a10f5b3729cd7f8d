use Rattle.bus_manager.proofs.keeper.store.Goals as goal

pub returns-clause-items : goal.returns-clause-items
returns-clause-items c = c.append.ensures.items
