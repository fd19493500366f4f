use Rattle.std.proofs.Common.{map, string_bytes}
use Rattle.command.specs.Asked.{named}
use Rattle.audit_top.specs.Words.{Asks}
use Rattle.audit_top.proofs.Requests.{read_bounded}
use Rattle.audit_top.proofs.words.asked.Goals as goal

pub returns-clause-bounded : goal.returns-clause-bounded
returns-clause-bounded c = read_bounded (named (map string_bytes c.args.words.now)) c.read_words.result c.read_words.ensures.asked
