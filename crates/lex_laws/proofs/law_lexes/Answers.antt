use Rattle.lex_laws.proofs.Readings.{fails_read, lexes_read, read_fails, read_lexes}
use Rattle.lex_laws.proofs.law_lexes.Goals as goal

pub returns-clause-lexed : goal.returns-clause-lexed
returns-clause-lexed c = λ text tokens. (read_lexes text tokens, lexes_read text tokens)

pub returns-clause-failed : goal.returns-clause-failed
returns-clause-failed c = λ text fault other. (read_fails text fault, fails_read text fault)
