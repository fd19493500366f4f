use Rattle.std.proofs.Common.{◌≡◌, ◌+◌, [], ◌∷◌, drop, Some, slice_get, refl, sym, ap, subst, ◌∙◌}
use Rattle.std.proofs.lemmas.List.{drop_more}
use Rattle.elaborate.specs.Expressions.{own_trees}
use Rattle.elaborate.proofs.Own.{start_isolated, start_other}
use Rattle.run_statements.specs.Bodies.{Grows}
use Rattle.run_statements.proofs.Forms.{grows_two}
use Rattle.run_statements.proofs.Ordered.{grown_next, grows_same, slice_get-front}
use Rattle.run_statements.proofs.numbers.+isolated.Goals as goal
use Rattle.run_statements.proofs.numbers.+isolated.Goals.{in-Isolated+in_ok-push+in_ok-isolated, in_default}

pub loop-operand-init : goal.loop-operand-init
loop-operand-init t c = elim c.match-root.branch [
  | in-Isolated+in_ok-push+in_ok-isolated w ↦ (
    subst (Grows c.args.numbers.now) (sym w.numbers-is) (
      λ n x at. w.in_ok-isolated.ensures.grows.0 n x
          (subst (λ z. slice_get z n ≡ Some x) (sym w.in_ok-push.ensures.items)
          (slice_get-front c.args.numbers.now.roots.items (w.get-tree.result ∷ []) n x at)),
      λ n x at. w.in_ok-isolated.ensures.grows.1 n x at,
    ),
    start_isolated c.args.root.now w.get-tree.result.now w.in-Isolated.tree c.as_slice-operand-items.result.now c.args.numbers.now.roots.items
        w.push.new.self.items w.isolated.new.numbers.roots.items c.match-root.numbers.roots.items w.get-tree.result w.in-Isolated.is w.get-tree.ensures
        c.as_slice-operand-items.ensures w.in_ok-push.ensures.items refl w.in_ok-isolated.ensures.order (ap (λ z. z.roots.items) w.numbers-is),
  )
  | in_default w ↦ (
    grows_same c.args.numbers.now c.match-root.numbers w.numbers-is,
    start_other c.args.root.now c.as_slice-operand-items.result.now c.args.numbers.now.roots.items c.match-root.numbers.roots.items
        w.in_default.not-Isolated c.as_slice-operand-items.ensures (ap (λ z. z.roots.items) w.numbers-is),
  )
]

pub loop-operand-preserved : goal.loop-operand-preserved
loop-operand-preserved t c =
    let items = c.as_slice-operand-items.result.now in
    let next = drop_more items c.loop-operand.operand-index c.operand-item.result c.loop-operand-test.true
    ∙ ap (λ y. y ∷ drop (c.loop-operand.operand-index + 1) items) (sym c.operand-item.is) in (
      grows_two c.args.numbers.now c.loop-operand.numbers c.isolated-in-loop-operand.new.numbers c.loop-operand.invariant.0
          c.in_ok-isolated-2.ensures.grows,
      grown_next own_trees c.args.numbers.now c.loop-operand.numbers c.isolated-in-loop-operand.new.numbers c.operand-item.result
          (drop (c.loop-operand.operand-index + 1) items) (own_trees c.args.root.now) (drop c.loop-operand.operand-index items) next
          c.loop-operand.invariant.1 c.in_ok-isolated-2.ensures.order,
    )
