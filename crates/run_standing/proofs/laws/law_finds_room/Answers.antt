use Rattle.run_standing.proofs.Finds.{finds_room}
use Rattle.run_standing.proofs.laws.law_finds_room.Goals as goal

pub returns : goal.returns
returns c = finds_room
