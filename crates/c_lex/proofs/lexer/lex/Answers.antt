use Rattle.std.proofs.Common.{arith, sym, ap, ◌∙◌, subst, Ok, Err, ◌≡◌}
use Rattle.c_lex.proofs.LexedPieces.{SoFar, so_far_none, so_far_step, all_given_at_end, fault_here, not_left, spans_at_end}
use Rattle.c_lex.specs.Tokens.{lexed}
use Rattle.c_lex.proofs.lexer.lex.Goals as goal
use Rattle.c_lex.proofs.lexer.lex.Goals.{else-loop-at-test, then-loop-at-test+in_default}

pub loop-at-init : goal.loop-at-init
loop-at-init c = subst (λ given. SoFar c.args.src.now given 0 1 _) (sym c.new-list.ensures.items) (so_far_none c.args.src.now)

pub returns-in-Err-clause-fault : goal.returns-in-Err-clause-fault
returns-in-Err-clause-fault c = λ real.
    fault_here c.args.src.now c.loop-at.list.items c.loop-at.at c.loop-at.line c.loop-at.fresh c.in-Some.first.now c.in-Some.tail.now c.in-Err.wrong
    c.loop-at.invariant (sym c.split_at.ensures.back ∙ c.in-Some.ensures.cases.0) (sym c.in-Err.ensures.value) ∙ ap Err (sym c.fault_of.ensures.value)

pub loop-at-preserved : goal.loop-at-preserved
loop-at-preserved c =
    let w = c.in-Ok.ensures.within in
    so_far_step c.split_at.result.1.now c.in-Some.first.now c.in-Some.tail.now c.in-Ok.piece c.len-at.result c.line_after-line.result
    c.fresh_after-fresh.result
    c.loop-at.invariant c.split_at.ensures.back c.in-Some.ensures.cases.0 c.in-Ok.ensures.value w.0 w.1 w.2
    c.in_ok-keep.ensures.ok c.line_after-line.ensures c.fresh_after-fresh.ensures c.len-at.ensures

pub new-requires : goal.new-requires
new-requires c = spans_at_end c.loop-at.invariant c.requires

pub returns-clause-found : goal.returns-clause-found
returns-clause-found c =
    elim c.loop-at-test.branch [
      | else-loop-at-test w ↦ subst (λ ts. lexed c.args.src.now ≡ Ok ts) (sym c.new.ensures.list) (all_given_at_end c.loop-at.invariant (omega arith))
      | then-loop-at-test+in_default w ↦ absurd (not_left c.args.src.now _ c.loop-at.at w.split_at.ensures.back w.in_default.ensures.cases w.loop-at-test.true)
    ]
