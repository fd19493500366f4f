use Rattle.code_view.proofs.Rooms.{rooms_there}
use Rattle.code_view.proofs.law_rooms.Goals as goal

pub returns : goal.returns
returns c = rooms_there
