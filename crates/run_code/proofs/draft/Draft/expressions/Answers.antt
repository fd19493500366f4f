use Rattle.std.proofs.Common.{arith, ◌+◌, [], ◌∷◌, ◌++◌, map, drop, take, refl, sym, ap, subst, ◌∙◌}
use Rattle.std.specs.Borrow.{Bor}
use Rattle.std.specs.List.{All}
use Rattle.std.proofs.lemmas.List.{drop_more, take_more}
use Rattle.c_typed.specs.declared.tree.Typed.{Typed}
use Rattle.run_layout.specs.Fitting.{TreeFits}
use Rattle.run_layout.specs.Roots.{roots_in}
use Rattle.std.proofs.lemmas.Result.{IfOk-weaker}
use Rattle.run_code.proofs.FittingLemmas.{always, next_mapped_fits, mapped_drop}
use Rattle.run_layout.proofs.Grown.{grown_both, nothing_grown}
use Rattle.run_layout.proofs.InTurn.{all_added, next_added, next_taken, none_added}
use Rattle.run_code.proofs.Rooted.{next_mapped}
use Rattle.run_code.proofs.draft.Draft.expressions.Goals as goal

pub loop-root-preserved : goal.loop-root-preserved
loop-root-preserved c =
    let items = c.split_at.result.1.now in
    let i = c.loop-root.root-index in
    let root = c.root-item.result in
    let rest = drop (i + 1) items in
    let left = drop_more items i root c.loop-root-test.true ∙ ap (λ y. y ∷ rest) (sym c.root-item.is) in (
      next_mapped (λ (r : Bor Typed). r.now) (roots_in c.loop-root.self.expressions.laid.all.items)
          (roots_in c.expression.new.self.expressions.laid.all.items) _ root rest (drop i items) left c.loop-root.invariant.0 c.in_ok-expression.ensures.order,
      λ h. c.in_ok-expression.ensures.listed (c.loop-root.invariant.1 h),
      λ p all h. c.in_ok-expression.ensures.fit p (next_mapped_fits (TreeFits p) (λ (r : Bor Typed). r.now) items rest i root left all)
          (c.loop-root.invariant.2 p all h),
      grown_both _ _ _ c.loop-root.invariant.3 c.in_ok-expression.ensures.grown,
      c.in_ok-expression.ensures.objects ∙ c.loop-root.invariant.4,
      next_added c.args.self.now.function.objects.first.items c.loop-root.self.function.objects.first.items
          (map (λ (r : Bor Typed). r.now) (take i items)) (map (λ (r : Bor Typed). r.now) (take (i + 1) items)) root.now
          c.loop-root.self.expressions.tables c.expression.new.self.expressions.tables c.args.self.now.expressions.laid c.loop-root.self.expressions.laid
          c.expression.new.self.expressions.laid
          (next_taken (λ (r : Bor Typed). r.now) items i root
          (take_more items i root c.loop-root-test.true ∙ ap (λ y. take i items ++ y ∷ []) (sym c.root-item.is))) c.in_ok-expression.ensures.grown
          c.loop-root.invariant.4 c.loop-root.invariant.5 c.in_ok-expression.ensures.added,
    )

pub loop-root-init : goal.loop-root-init
loop-root-init c = (
  refl,
  λ h. h,
  λ p all h. h,
  nothing_grown c.args.self.now.expressions.tables,
  refl,
  none_added c.args.self.now.function.objects.first.items c.args.self.now.expressions.tables c.args.self.now.expressions.laid,
)

pub range_from-requires : goal.range_from-requires
range_from-requires c = omega (arith, c.in_ok-first.ensures, c.loop-root.invariant.5.count)

pub returns-clause-added : goal.returns-clause-added
returns-clause-added c =
    always c.range_from.result _
    (all_added (λ (r : Bor Typed). r.now) c.args.self.now.function.objects.first.items c.split_at.result.1.now c.loop-root.root-index _
    c.loop-root.self.expressions.tables c.args.self.now.expressions.laid c.loop-root.self.expressions.laid (omega (arith, c.loop-root-test.false))
    (ap (map (λ (r : Bor Typed). r.now)) c.split_at.ensures.back ∙ mapped_drop (λ (r : Bor Typed). r.now) c.args.passed c.args.roots.now)
    c.loop-root.invariant.5)

pub returns-clause-range : goal.returns-clause-range
returns-clause-range c =
    let added = all_added (λ (r : Bor Typed). r.now) c.args.self.now.function.objects.first.items c.split_at.result.1.now c.loop-root.root-index
    (drop c.args.passed (map (λ (r : Bor Typed). r.now) c.args.roots.now)) c.loop-root.self.expressions.tables c.args.self.now.expressions.laid
    c.loop-root.self.expressions.laid (omega (arith, c.loop-root-test.false))
    (ap (map (λ (r : Bor Typed). r.now)) c.split_at.ensures.back ∙ mapped_drop (λ (r : Bor Typed). r.now) c.args.passed c.args.roots.now)
    c.loop-root.invariant.5 in
    IfOk-weaker c.range_from.result _ _
    (λ r k. (k.0 ∙ c.in_ok-first.ensures, omega (arith, k.0, k.1, c.in_ok-first.ensures, added.count))) c.range_from.ensures.whole

pub returns-clause-fit : goal.returns-clause-fit
returns-clause-fit c = λ p all h.
    always c.range_from.result _ (c.loop-root.invariant.2 p
    (subst (All (TreeFits p))
    (sym (ap (map (λ (r : Bor Typed). r.now)) c.split_at.ensures.back ∙ mapped_drop (λ (r : Bor Typed). r.now) c.args.passed c.args.roots.now)) all) h)
