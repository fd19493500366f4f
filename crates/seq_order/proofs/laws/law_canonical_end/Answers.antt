use Rattle.seq_order.proofs.Stuck.{all_done}
use Rattle.seq_order.proofs.laws.law_canonical_end.Goals as goal

pub returns : goal.returns
returns c = λ root taken done closed over. all_done root taken done closed over
