use Rattle.std.proofs.Common.{◌≡◌, true, false, ◌∙◌, arith}
use Rattle.c_types.specs.Types.{qualified_of}
use Rattle.typing_env.specs.Names.{alike}
use Rattle.type_linkage.proofs.Types.{alike_next, alike_not}
use Rattle.type_linkage.proofs.linkage.suits_all.Goals as goal

pub loop-known-preserved : goal.loop-known-preserved
loop-known-preserved c =
    let same : alike (qualified_of c.known-item.result) (qualified_of c.args.qual.now) ≡ true = grind (arith, c.are_alike.ensures, c.if-not-are_alike.false) in
    alike_next (qualified_of c.args.qual.now) c.args.types.now c.loop-known.known-index c.known-item.result c.loop-known-test.true c.known-item.is same
    ∙ c.loop-known.invariant

pub returns-then-not-are_alike : goal.returns-then-not-are_alike
returns-then-not-are_alike c =
    let other : alike (qualified_of c.known-item.result) (qualified_of c.args.qual.now) ≡ false = grind (arith, c.are_alike.ensures, c.if-not-are_alike.true) in
    alike_not (qualified_of c.args.qual.now) c.args.types.now c.loop-known.known-index c.known-item.result c.loop-known-test.true c.known-item.is other
    ∙ c.loop-known.invariant
