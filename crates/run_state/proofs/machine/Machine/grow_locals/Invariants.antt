-- Only the locals change, those that were there are still there, and there are as many as the loop has come to, and no fewer than before.
use Rattle.std.proofs.Common.{◌≡◌, ◌≤◌, ℕ, Some, length, slice_get}
use Rattle.run_state.specs.declared.machine.Local.{Local}
use Rattle.run_state.proofs.machine.Machine.grow_locals.Given as goal

abbrev pub invariant-loop : goal.invariant-loop
invariant-loop l = record {
  rest : l.self ≡ record l.fn.self { locals = l.self.locals };
  kept : (j : ℕ) (x : Local) → slice_get l.fn.self.locals.items j ≡ Some x → slice_get l.self.locals.items j ≡ Some x;
  count : l.counter ≤ length l.self.locals.items;
  fewest : length l.fn.self.locals.items ≤ length l.self.locals.items;
}
