use Rattle.std.proofs.Common.{◌+◌, sym, ◌∙◌, arith}
use Rattle.c_typed.specs.Tree.{tree_of, size}
use Rattle.seq_order.specs.Marked.{taken_in, done_in}
use Rattle.seq_order.proofs.Walks.{free_where}
use Rattle.seq_order.proofs.ready.is_free.Goals as goal

pub returns-then-not-has : goal.returns-then-not-has
returns-then-not-has c = λ p.
    free_where (tree_of c.args.root.now) (taken_in c.args.taken.now) (done_in c.args.done.now) c.args.p (0 + size (tree_of c.args.root.now)) c.is_ok.result
    c.first_hindrance.result
    (sym c.has.ensures ∙ c.if-not-has.true) c.is_ok.ensures.value (c.first_hindrance.ensures p (omega (arith, p)))
