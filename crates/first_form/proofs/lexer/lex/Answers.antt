use Rattle.std.proofs.Common.{Ok, Err, refl, ap}
use Rattle.first_form.proofs.ReadTokens.{read_at, so_far_more, all_found, all_only, none_has_tokens}
use Rattle.first_form.proofs.lexer.lex.Goals as goal

pub returns-in_err-token-clause-only : goal.returns-in_err-token-clause-only
returns-in_err-token-clause-only c = λ tokens lexes.
    let none = read_at c.args.src.now c.loop-list.at c.loop-list.line {r = Err c.in_err-token.field-0.0} refl c.in_err-token.ensures in
    absurd (none_has_tokens c.args.src.now c.loop-list.list.items c.loop-list.at c.loop-list.line c.in_err-token.field-0.0
    c.loop-list.invariant none tokens lexes)

pub loop-list-preserved : goal.loop-list-preserved
loop-list-preserved c =
    let next = read_at c.args.src.now c.loop-list.at c.loop-list.line (ap Ok c.in-Some.is) c.in_ok-token.ensures in
    rw c.in_ok-push.ensures.items (so_far_more c.args.src.now c.loop-list.list.items c.loop-list.at c.loop-list.line c.in-Some.token c.loop-list.invariant
    next)

pub returns-clause-found : goal.returns-clause-found
returns-clause-found c =
    let end = read_at c.args.src.now c.loop-list.at c.loop-list.line (ap Ok c.in_default.is) c.in_ok-token.ensures in
    all_found c.args.src.now c.loop-list.list.items c.loop-list.at c.loop-list.line c.loop-list.invariant end

pub returns-clause-only : goal.returns-clause-only
returns-clause-only c =
    let end = read_at c.args.src.now c.loop-list.at c.loop-list.line (ap Ok c.in_default.is) c.in_ok-token.ensures in
    all_only c.args.src.now c.loop-list.list.items c.loop-list.at c.loop-list.line c.loop-list.invariant end
