use Rattle.std.proofs.Common.{◌≡◌, ◌≤◌, ℕ, vec_len}
use Rattle.std.specs.Prelude.{vec_capacity}
use Rattle.mem_objects.specs.Cells.{cell_at, cell_put}
use Rattle.mem_objects.proofs.object.put_cells.Given as goal

-- the cells so far are put
abbrev pub invariant-loop-at : goal.invariant-loop-at
invariant-loop-at l = record {
  len : vec_len l.to ≡ vec_len l.initial.to;
  capacity : vec_capacity l.initial.to ≤ vec_capacity l.to;
  bytes : (k : ℕ) → cell_at l.to.items k ≡ cell_put l.initial.to.items l.start l.at l.is_declared l.via l.cells k;
}
