use Rattle.std.proofs.Common.{rules, arith}
use Rattle.c_types.specs.Types.{Qualified, qualified_of}
use Rattle.c_typed.specs.Lawful.{IsSized}
use Rattle.lawful_bodies.proofs.Sized.{more, whole}
use Rattle.lawful_bodies.proofs.found.are_sized.Goals as goal

pub loop-object-preserved : goal.loop-object-preserved
loop-object-preserved c =
    more (λ q. IsSized c.args.tags.now (qualified_of q).ty) c.args.objects.now c.loop-object.object-index c.object-item.result
    (omega arith) c.object-item.is (c.is_sized_object.ensures (search rules)) c.loop-object.invariant

pub returns : goal.returns
returns c =
    λ _. whole (λ (q : Qualified). IsSized c.args.tags.now q.ty) qualified_of c.args.objects.now c.loop-object.object-index
    (omega arith) c.loop-object.invariant
