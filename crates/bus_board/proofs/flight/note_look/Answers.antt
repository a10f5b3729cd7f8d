use Rattle.bus_board.proofs.LookPlaces.{noted_set}
use Rattle.bus_board.proofs.flight.note_look.Goals as goal

pub returns : goal.returns
returns c = noted_set c.args.looks.now c.args.place c.args.supplier c.args.bound c.requires
