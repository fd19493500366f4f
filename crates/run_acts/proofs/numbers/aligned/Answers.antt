use Rattle.run_values.specs.Views.{pointer_at}
use Rattle.run_values.proofs.Keeping.{seen_pointer}
use Rattle.run_acts.proofs.numbers.aligned.Goals as goal

pub returns-then-is_aligned-clause-made : goal.returns-then-is_aligned-clause-made
returns-then-is_aligned-clause-made c = λ m made. seen_pointer m m c.value.result (pointer_at c.args.pointer) (c.value.ensures m) made
