-- Only the values change, those that were there are still there, and there are as many as the loop has come to, and no fewer than before.
use Rattle.std.proofs.Common.{◌≡◌, ◌≤◌, ℕ, Some, length, slice_get}
use Rattle.mem_objects.specs.declared.value.Value.{Value}
use Rattle.run_state.proofs.machine.Machine.grow.Given as goal

abbrev pub invariant-loop-room : goal.invariant-loop-room
invariant-loop-room l = record {
  rest : l.self ≡ record l.fn.self { values = l.self.values };
  kept : (j : ℕ) (h : Value) → slice_get l.fn.self.values.items j ≡ Some h → slice_get l.self.values.items j ≡ Some h;
  count : l.room ≤ length l.self.values.items;
  fewest : length l.fn.self.values.items ≤ length l.self.values.items;
}
