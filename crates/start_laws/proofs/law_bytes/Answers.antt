use Rattle.start_laws.proofs.Bytes.{lawful_has_bytes}
use Rattle.start_laws.proofs.law_bytes.Goals as goal

pub returns : goal.returns
returns c = lawful_has_bytes
