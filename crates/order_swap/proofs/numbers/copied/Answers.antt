use Rattle.std.proofs.Common.{◌≡◌, ◌+◌, ◌-◌, ℕ, sym, subst, arith, ◌∙◌, ap}
use Rattle.std.specs.Prelude.{slice_get, Some}
use Rattle.order_swap.proofs.Copies.{one_more}
use Rattle.order_swap.proofs.numbers.copied.Goals as goal

pub loop-number-preserved : goal.loop-number-preserved
loop-number-preserved c =
    let h = c.loop-number.invariant in
    let back : c.loop-number.number + 1 - 1 ≡ c.loop-number.number = omega arith in
    record {
      rows = h.rows;
      front = one_more c.args.frames.now c.loop-number.copy c.call.new.self c.loop-number.number _ h.front
          (subst (λ z. slice_get c.args.frames.now z ≡ Some c.row-turn.result) back c.row-turn.ensures.row) c.in_ok-call.ensures.row;
    }
