use Rattle.std.proofs.Common.{arith, rules, ◌≡◌, false}
use Rattle.c_types.specs.Types.{type_of}
use Rattle.mem_objects.proofs.TagLemmas.{unlisted_next, unlisted_all}
use Rattle.mem_objects.proofs.types.place_of.Goals as goal

pub loop-at-init : goal.loop-at-init
loop-at-init c = λ k lt e. absurd (omega arith)

pub loop-at-preserved : goal.loop-at-preserved
loop-at-preserved c =
    let off : c.is_at.result ≡ false = search rules in
    unlisted_next c.args.types.now (type_of c.args.ty.now) c.loop-at.at c.loop-at.invariant (c.is_at.ensures.other off)

pub returns-clause-none : goal.returns-clause-none
returns-clause-none c = λ is. unlisted_all c.args.types.now (type_of c.args.ty.now) c.loop-at.at (omega arith) c.loop-at.invariant
