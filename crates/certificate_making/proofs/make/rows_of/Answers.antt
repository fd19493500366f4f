-- One more row, or all of them.
use Rattle.std.proofs.Common.{◌≡◌, ◌+◌, sym, subst, arith}
use Rattle.certificate_making.proofs.Rising.{Passed, ends, never, next_within, passes}
use Rattle.certificate_making.proofs.make.rows_of.Goals as goal

pub loop-turn-preserved : goal.loop-turn-preserved
loop-turn-preserved c = λ rises.
    let turn = c.loop-turn._turn in
    let from = c.loop-turn.from in
    let rows = c.loop-turn.rows.items in
    let all = c.args.map.now in
    let row = c.in-Some.row in
    let p = c.loop-turn.invariant rises in
    let within = next_within turn from rows all row p (sym c.in-Some.ensures) in
    let on : c.saturating_add-from.result ≡ row.base + 1 = omega (arith, c.saturating_add-from.ensures, within) in
    subst (λ f. Passed (turn + 1) f c.push.new.self.items all) (sym on)
    (subst (λ rs. Passed (turn + 1) (row.base + 1) rs all) (sym c.in_ok-push-in-Some.ensures.items) (passes turn from rows all row p (sym c.in-Some.ensures)))

pub returns-in-None : goal.returns-in-None
returns-in-None c = λ rises.
    ends c.loop-turn._turn c.loop-turn.from c.loop-turn.rows.items c.args.map.now (c.loop-turn.invariant rises) (sym c.in-None.ensures)

pub returns : goal.returns
returns c = λ rises.
    absurd (never c.loop-turn._turn c.loop-turn.from c.loop-turn.rows.items c.args.map.now (c.loop-turn.invariant rises) (omega arith))
