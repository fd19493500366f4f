-- The labels stay, links that were there lead where they led, and the cases and the functions of the `switch` statements so far are there.
use Rattle.std.proofs.Common.{◌≡◌, ◌≤◌, ◌++◌, length, map, take}
use Rattle.run_control.specs.Search.{Older}
use Rattle.run_statements.proofs.Casing.{So}
use Rattle.run_statements.proofs.jumps.Jumps.add_cases.Given as goal

abbrev pub invariant-loop-switch : goal.invariant-loop-switch
invariant-loop-switch l = record {
  labels : l.self.labels ≡ l.fn.self.labels;
  older : Older l.fn.self.links.items l.self.links.items;
  longer : length l.fn.self.links.items ≤ length l.self.links.items;
  cases : So l.fn.self (take l.switch-index l.switches) l.self;
  owners : l.self.owners.items ≡ l.fn.self.owners.items ++ map (λ s. l.fn.function) (take l.switch-index l.switches);
}
