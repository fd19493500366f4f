-- So many are there, and what is known is right.
use Rattle.std.proofs.Common.{◌≡◌, Bor, List, vec_len}
use Rattle.c_typed.specs.declared.tree.Typed.{Typed}
use Rattle.conflict_detector.specs.Examined.{AreRight}
use Rattle.conflict_detector.proofs.examined.Expressions.grow.Given as goal

abbrev pub invariant-loop : goal.invariant-loop
invariant-loop l = record {
  grown : vec_len l.self.list ≡ l.counter;
  right : (roots : List (Bor Typed)) → AreRight roots l.fn.self → AreRight roots l.self;
}
