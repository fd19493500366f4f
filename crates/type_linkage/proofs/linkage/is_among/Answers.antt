use Rattle.std.proofs.Common.{◌∙◌, sym}
use Rattle.c_types.specs.Types.{qualified_of}
use Rattle.type_linkage.proofs.Types.{among_next, among_here}
use Rattle.type_linkage.proofs.linkage.is_among.Goals as goal

pub loop-known-preserved : goal.loop-known-preserved
loop-known-preserved c =
    among_next (qualified_of c.args.qual.now) c.args.types.now c.loop-known.known-index c.known-item.result c.loop-known-test.true c.known-item.is
    (sym c.same_qualified.ensures.test ∙ c.if-same_qualified.false)
    ∙ c.loop-known.invariant

pub returns-then-same_qualified : goal.returns-then-same_qualified
returns-then-same_qualified c =
    among_here (qualified_of c.args.qual.now) c.args.types.now c.loop-known.known-index c.known-item.result c.loop-known-test.true c.known-item.is
    (sym c.same_qualified.ensures.test ∙ c.if-same_qualified.true)
    ∙ c.loop-known.invariant
