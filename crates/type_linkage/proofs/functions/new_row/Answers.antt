use Rattle.std.proofs.Common.{ap, ◌∙◌}
use Rattle.typing_env.specs.Names as names
use Rattle.type_linkage.proofs.functions.new_row.Goals as goal

pub returns-clause-seen : goal.returns-clause-seen
returns-clause-seen c = c.first_definition-definition.ensures c.in_ok-copy.copy ∙ ap (λ f. names.new_function f c.args.library) c.in_ok-copy.ensures
