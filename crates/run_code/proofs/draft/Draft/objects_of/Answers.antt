use Rattle.std.proofs.Common.{arith, ◌+◌, ◌≡◌, ◌∙◌, map, drop, refl, subst, sym}
use Rattle.c_types.specs.Types.{qualified_of}
use Rattle.run_layout.specs.Blocks.{AreObjectsFrom}
use Rattle.run_code.proofs.Blocked.{all_objects, longer_by_one, next_counted, next_object, next_qual}
use Rattle.run_layout.proofs.Grown.{grown_both, nothing_grown}
use Rattle.run_code.proofs.draft.Draft.objects_of.Goals as goal

pub loop-qual-init : goal.loop-qual-init
loop-qual-init c =
    let tags = c.args.tags.now in
    let first = c.in_ok-first.first in
    let items = c.as_slice-qual-items.result.now in
    let none : first + 0 ≡ first = omega arith in (
      omega (arith, c.in_ok-first.ensures),
      refl,
      λ p h. h,
      refl,
      refl,
      nothing_grown c.args.self.now.expressions.tables,
      omega (arith, c.in_ok-first.ensures),
      refl,
      λ new g h. subst (λ n. AreObjectsFrom tags new n (map qualified_of items)) none h,
    )

pub loop-qual-preserved : goal.loop-qual-preserved
loop-qual-preserved c =
    let tags = c.args.tags.now in
    let first = c.in_ok-first.first in
    let items = c.as_slice-qual-items.result.now in
    let i = c.loop-qual.qual-index in
    let x = c.qual-item.result in
    let old = c.loop-qual.self.expressions.tables in
    let now = c.object.new.self.expressions.tables in
    let before = c.loop-qual.invariant in
    let told = c.in_ok-object.ensures in (
      omega (arith, before.0, told.grown.objects),
      told.kept ∙ before.1,
      λ p h. told.fit p (before.2 p h),
      told.function ∙ before.3,
      told.blocks ∙ before.4,
      grown_both _ _ _ before.5 told.grown,
      longer_by_one tags (qualified_of x) old now first i told.added before.6,
      next_counted tags items i c.loop-qual.created c.in_ok-object.field-0 c.total-created.result _ x c.loop-qual-test.true c.qual-item.is told.counted
          c.total-created.ensures before.7,
      λ new g rest. before.8 new (grown_both _ _ _ told.grown g)
          (subst (AreObjectsFrom tags new (first + i)) (sym (next_qual items i x c.loop-qual-test.true c.qual-item.is))
          (next_object tags old now new first i (qualified_of x) (map qualified_of (drop (i + 1) items)) told.added before.6 g rest)),
    )

pub returns-clause-added : goal.returns-clause-added
returns-clause-added c =
    let after = c.loop-qual.invariant in
    let range = c.in_ok-objects.ensures in
    all_objects c.args.tags.now c.args.self.now.expressions.tables c.loop-qual.self.expressions.tables c.args.block.now c.as_slice-qual-items.result.now
    c.in_ok-first.first c.loop-qual.qual-index c.loop-qual.created c.in_ok-objects.objects c.as_slice-qual-items.ensures c.loop-qual.auto.qual-index-end
    (omega (arith, c.loop-qual-test.false)) c.in_ok-first.ensures after.5 after.6 after.7 after.8 range.whole.0 range.whole.1 range.few
