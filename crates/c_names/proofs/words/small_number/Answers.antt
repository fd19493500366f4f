use Rattle.std.proofs.Common.{arith}
use Rattle.c_names.proofs.Cuts.{IsNoNumber-from_large}
use Rattle.c_names.proofs.words.small_number.Goals as goal

pub returns-else-value-le4294967295 : goal.returns-else-value-le4294967295
returns-else-value-le4294967295 c = IsNoNumber-from_large c.args.text.now c.in-Some.value (omega arith) (omega arith) c.in-Some.ensures
