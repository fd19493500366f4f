use Rattle.std.proofs.Common.{Option, true, subst}
use Rattle.std.proofs.lemmas.Bool.{ne_eqb}
use Rattle.mem_spec.specs.Acts.{Accessed}
use Rattle.mem_spec.specs.Script.{Script}
use Rattle.libc_arguments.specs.Parts.{Follows, accessed_if}
use Rattle.libc_print.proofs.Storing.{array_is}
use Rattle.libc_print.proofs.stored.array.Goals as goal

pub returns-clause-follows : goal.returns-clause-follows
returns-clause-follows c = λ io cell.
    subst (λ (s : Script (Option Accessed)). Follows true (accessed_if c.args.m.now) c.target_of.result c.args.m.now io c.args.t.now c.target_of.new.t s)
    (array_is c.args.m.now.rows c.args.len c.args.to.addr c.args.to.prov (ne_eqb c.args.len 0 c.if-len-eq0.false)) (c.target_of.ensures.follows io cell)
