use Rattle.std.proofs.Common.{◌+◌, sym, ◌∙◌, arith}
use Rattle.c_typed.specs.Tree.{tree_of, size}
use Rattle.seq_order.specs.Marked.{taken_in, done_in}
use Rattle.seq_order.proofs.Canonical.{none_left, first_next, body_next, beside_next}
use Rattle.seq_order.proofs.next.canonical_next.Goals as goal

pub returns-in-Ok : goal.returns-in-Ok
returns-in-Ok c = λ p. none_left (tree_of c.args.root.now) (taken_in c.args.taken.now) (done_in c.args.done.now)
    (0 + size (tree_of c.args.root.now)) c.in-Ok.field-0 (sym c.in-Ok.is ∙ c.first_left.ensures (omega (arith, p)))

pub returns-then-not-is_body : goal.returns-then-not-is_body
returns-then-not-is_body c = λ p.
    first_next (tree_of c.args.root.now) (taken_in c.args.taken.now) (done_in c.args.done.now) (0 + size (tree_of c.args.root.now)) c.in-Err.event
    (sym c.in-Err.is ∙ c.first_left.ensures (omega (arith, p)))
    (sym c.is_body.ensures ∙ c.if-not-is_body.true)

pub returns-then-not-update_is_open : goal.returns-then-not-update_is_open
returns-then-not-update_is_open c = λ p.
    body_next (tree_of c.args.root.now) (taken_in c.args.taken.now) (done_in c.args.done.now) (0 + size (tree_of c.args.root.now)) c.in-Err.event
    (sym c.in-Err.is ∙ c.first_left.ensures (omega (arith, p)))
    (sym (c.update_is_open.ensures (omega (arith, p))) ∙ c.if-not-update_is_open.true)

pub returns : goal.returns
returns c = λ p.
    c.err.ensures.value
    ∙ beside_next (tree_of c.args.root.now) (taken_in c.args.taken.now) (done_in c.args.done.now)
    (0 + size (tree_of c.args.root.now)) c.first_beside_bodies.result (c.first_beside_bodies.ensures p (omega (arith, p)))
    (sym (c.update_is_open.ensures (omega (arith, p))) ∙ c.if-not-update_is_open.false)
