use Rattle.std.proofs.Common.{◌≡◌, vec_len}
use Rattle.c_typed.specs.declared.tree.Place.{Place}
use Rattle.seq_order.specs.Marked.{done_in}
use Rattle.seq_order.proofs.done.Done.add.Given as goal

abbrev pub invariant-loop : goal.invariant-loop
invariant-loop l = record {
  grown : vec_len l.self-inside.marks ≡ l.counter;
  same : (q : Place) → done_in l.self-inside.marks.items q ≡ done_in l.fn.self q;
}
