use Rattle.std.proofs.Common.{◌≡◌, drop}
use Rattle.typing_env.specs.Env as env
use Rattle.type_scope.specs.Labels.{all_in, HasLabels}
use Rattle.type_scope.proofs.task.Task.undefined_label.Given as goal

abbrev pub invariant-loop-place : goal.invariant-loop-place
invariant-loop-place l =
    (was : env.Task) → HasLabels l.self was → all_in (drop l.place was.labels) was.defined ≡ all_in was.labels was.defined
