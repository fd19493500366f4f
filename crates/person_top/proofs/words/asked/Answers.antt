use Rattle.std.proofs.Common.{map, string_bytes}
use Rattle.person_command.specs.PersonAsked.{person_named}
use Rattle.person_top.proofs.Requests.{read_bounded}
use Rattle.person_top.proofs.words.asked.Goals as goal

pub returns-clause-bounds : goal.returns-clause-bounds
returns-clause-bounds c = read_bounded (person_named (map string_bytes c.args.words.now)) c.read_person_words.result c.read_person_words.ensures.asked
