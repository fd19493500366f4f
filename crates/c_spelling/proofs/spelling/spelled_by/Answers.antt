use Rattle.c_spelling.proofs.Spellings.{spelled_more}
use Rattle.c_spelling.proofs.spelling.spelled_by.Goals as goal

pub loop-at-preserved : goal.loop-at-preserved
loop-at-preserved c =
    let more = spelled_more c.args.tokens.now c.loop-at.at c.loop-at.spelled.items c.push.new.self.items _ _ c.text.result.now c.in_ok-number_of.field-0
    c.text.ensures c.in_ok-number_of.ensures.number c.in_ok-number_of.ensures.known c.in_ok-push.ensures.items
    c.loop-at.invariant.whole c.loop-at.invariant.firsts c.loop-at.invariant.within c.loop-at.invariant.known in
    record { whole = more.0; firsts = more.1; within = more.2; known = more.3 }
