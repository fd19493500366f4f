use Rattle.std.proofs.Common.{ap, ◌∙◌}
use Rattle.type_scope.specs.Labels.{one_symbol, is_defined_label}
use Rattle.type_scope.proofs.Labels.{has_defined}
use Rattle.type_scope.proofs.task.Task.define_label.Goals as goal

pub returns-clause-defined : goal.returns-clause-defined
returns-clause-defined c some was has = (
  c.in_ok-place.ensures.symbols ∙ ap (one_symbol c.args.symbol) has.0,
  has_defined c.args.symbol was.defined (is_defined_label c.args.self.now) (is_defined_label c.with_label.new.self) has.1 c.in_ok-place.ensures.defined,
)
