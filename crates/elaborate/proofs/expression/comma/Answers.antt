use Rattle.std.proofs.Common.{[], ◌∷◌, ◌++◌, length, ap, sym, ◌∙◌, arith}
use Rattle.core_ir.specs.Term.{term_of}
use Rattle.elaborate.proofs.Operands.{comma_none, comma_first, comma_next}
use Rattle.elaborate.proofs.expression.comma.Goals as goal
use Rattle.elaborate.proofs.expression.comma.Goals.{in-Some, in-None, in-Some-pop+in_ok-whole-in-Some-pop, in-None-pop}

pub loop-turn-init : goal.loop-turn-init
loop-turn-init c = elim c.match-pop.branch [
  | in-Some w ↦ (
    omega arith,
    comma_first c.args.number c.args.parts c.pop.new.self c.match-pop.operand c.in_ok-whole.whole c.value.result
        (w.in-Some.ensures ∙ ap (λ z. c.pop.new.self ++ z ∷ []) (sym w.operand-is)) (c.in_ok-whole.ensures) c.value.ensures,
  )
  | in-None w ↦ (
    omega arith,
    comma_none c.args.number c.args.parts c.pop.new.self c.match-pop.operand c.in_ok-whole.whole c.value.result w.in-None.ensures
        (ap term_of w.operand-is ∙ w.quiet-operand.ensures) (c.in_ok-whole.ensures) c.value.ensures,
  )
]

pub loop-turn-preserved : goal.loop-turn-preserved
loop-turn-preserved c = elim c.match-pop-2.branch [
  | in-Some-pop+in_ok-whole-in-Some-pop w ↦
      comma_next c.loop-turn.parts c.pop-in-loop-turn.new.self w.in-Some-pop.operand c.loop-turn.whole c.match-pop-2.whole c.loop-turn._turn
      c.len-turn-end.result _ w.in-Some-pop.ensures
      (ap term_of w.whole-is ∙ w.in_ok-whole-in-Some-pop.ensures) c.loop-turn.invariant
  | in-None-pop w ↦ absurd (omega (arith, ap length w.in-None-pop.ensures.0, c.loop-turn.invariant.0))
]
