use Rattle.prov_memory.proofs.RoomLemmas.{begins_packed, stays_packed, has_room_within}
use Rattle.prov_memory.proofs.laws.law_room.Goals as goal

pub returns-clause-begins : goal.returns-clause-begins
returns-clause-begins c = begins_packed

pub returns-clause-stays : goal.returns-clause-stays
returns-clause-stays c = stays_packed

pub returns-clause-room : goal.returns-clause-room
returns-clause-room c = has_room_within
