use Rattle.std.proofs.Common.{subst}
use Rattle.mem_objects.specs.declared.value.Value.{Value as Held}
use Rattle.run_values.specs.Kept.{IsOf}
use Rattle.run_values.proofs.Keeping.{unplaced_kept}
use Rattle.run_acts.proofs.calls.answer.Goals as goal

pub returns-in-Block-clause-made : goal.returns-in-Block-clause-made
returns-in-Block-clause-made c = λ m is.
    unplaced_kept m c.in-Block.block c.unplace.new.self c.unplace.ensures (subst (λ (v : Held). IsOf m v) c.in-Block.is is)
