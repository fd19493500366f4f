use Rattle.std.proofs.Common.{sym, arith}
use Rattle.first_form.specs.Bytes.{run_of}
use Rattle.first_form.proofs.Runs.{prefix_len_no}
use Rattle.first_form.proofs.spell.run_len.Goals as goal

pub returns-else-is_name_byte-clause-run : goal.returns-else-is_name_byte-clause-run
returns-else-is_name_byte-clause-run c = sym (prefix_len_no (run_of c.args.first) c.args.rest.now (λ x. grind arith))
