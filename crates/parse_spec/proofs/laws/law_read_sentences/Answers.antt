use Rattle.parse_spec.proofs.Read.{read}
use Rattle.parse_spec.proofs.laws.law_read_sentences.Goals as goal

pub returns : goal.returns
returns c = read
