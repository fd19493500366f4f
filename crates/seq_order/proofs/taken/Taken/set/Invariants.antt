use Rattle.std.proofs.Common.{◌≡◌, ℕ, vec_len}
use Rattle.seq_order.specs.Marked.{taken_in}
use Rattle.seq_order.proofs.taken.Taken.set.Given as goal

abbrev pub invariant-loop : goal.invariant-loop
invariant-loop l = record {
  grown : vec_len l.self-inside.choices ≡ l.counter;
  same : (n : ℕ) → taken_in l.self-inside.choices.items n ≡ taken_in l.fn.self n;
}
