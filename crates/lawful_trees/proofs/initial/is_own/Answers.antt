use Rattle.std.proofs.Common.{arith}
use Rattle.std.proofs.lemmas.Bool.Decides.{nat_tests}
use Rattle.lawful_trees.proofs.Innermost.{own}
use Rattle.lawful_trees.proofs.initial.is_own.Goals as goal

pub returns-in-Auto : goal.returns-in-Auto
returns-in-Auto c = λ h.
    own c.args.around.now c.in-Some.field-0-1.now c.in-Some.innermost.now c.args.slot c.in-Auto.block c.in-Auto.decl c.in-Some.ensures.cases.0 c.in-Auto.is
    (grind (arith, nat_tests, h))
