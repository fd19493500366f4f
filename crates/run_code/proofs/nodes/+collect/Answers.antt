use Rattle.std.proofs.Common.{rules, arith, ◌≡◌, ◌<◌, ◌+◌, ◌∷◌, length, drop, refl, sym, ap, subst, ◌∙◌}
use Rattle.std.proofs.lemmas.List.{drop_more}
use Rattle.std.proofs.lemmas.Option.{slice_get_within, get_or_from_slice_get}
use Rattle.run_layout.proofs.Collected.{Between, begun, more_collected, collected, drop_past, relabelled}
use Rattle.run_code.proofs.FittingLemmas.{root_fits, child_fits, node_pushed, nodes_set}
use Rattle.run_code.proofs.Owned.{own_begun, own_more, own_all}
use Rattle.run_code.proofs.Roomed.{one_roomed, more_roomed, all_roomed}
use Rattle.run_code.proofs.nodes.+collect.Goals as goal

pub loop-child-init : goal.loop-child-init
loop-child-init t c =
    let at : c.in_ok-number.number ≡ length c.args.nodes.now.items = search rules in (
      subst (Between c.args.objects.now.first.items c.args.parent c.args.root.now c.in_ok-number.number c.args.nodes.now.items c.push.new.self.items)
          (sym c.as_slice-child-items.ensures)
          (begun c.args.objects.now.first.items c.args.parent c.args.root.now c.in_ok-number.number c.args.nodes.now.items c.push.new.self.items
          c.in_ok-noted.noted at c.in_ok-push.ensures.items c.in_ok-noted.ensures.tree c.in_ok-noted.ensures.parent c.in_ok-noted.ensures.operand),
      λ p h. node_pushed p c.args.nodes.now.items c.push.new.self.items c.in_ok-noted.noted c.args.root.now c.in_ok-push.ensures.items
          c.in_ok-noted.ensures.tree (root_fits p c.args.root.now h),
      one_roomed c.in_ok-number.number c.args.nodes.now.items c.push.new.self.items c.in_ok-noted.noted c.args.root.now c.args.counts.now.olds
          c.info.new.counts.olds at c.in_ok-push.ensures.items c.in_ok-noted.ensures.tree c.in_ok-noted.ensures.room c.in_ok-noted.ensures.olds,
      own_begun c.in_ok-number.number c.args.nodes.now.items c.push.new.self.items c.in_ok-noted.noted c.args.root.now c.as_slice-child-items.result.now
          c.args.counts.now.initializers c.info.new.counts.initializers at c.in_ok-push.ensures.items c.in_ok-noted.ensures.tree
          c.in_ok-noted.ensures.initializer c.in_ok-noted.ensures.initializers c.as_slice-child-items.ensures,
    )

pub loop-child-preserved : goal.loop-child-preserved
loop-child-preserved t c =
    let rest = drop (c.loop-child.child-index + 1) c.as_slice-child-items.result.now in
    let left = drop_more c.as_slice-child-items.result.now c.loop-child.child-index c.child-item.result c.loop-child-test.true ∙ ap (λ y. y ∷ rest)
    (sym c.child-item.is) in (
      more_collected c.args.objects.now.first.items c.args.parent c.args.root.now c.in_ok-number.number c.args.nodes.now.items c.loop-child.nodes.items
          c.collect.new.nodes.items c.child-item.result
          (drop c.loop-child.child-index c.as_slice-child-items.result.now) (drop (c.loop-child.child-index + 1) c.as_slice-child-items.result.now)
          left c.loop-child.invariant.0 c.in_ok-collect.ensures.added,
      λ p h old. c.in_ok-collect.ensures.fit p
          (child_fits p c.args.root.now c.child-item.result c.as_slice-child-items.result.now rest c.loop-child.child-index
          c.as_slice-child-items.ensures left h)
          (c.loop-child.invariant.1 p h old),
      more_roomed c.in_ok-number.number c.loop-child.nodes.items c.collect.new.nodes.items c.args.counts.now.olds c.loop-child.counts.olds
          c.collect.new.counts.olds c.in_ok-collect.ensures.added.kept c.loop-child.invariant.2 c.in_ok-collect.ensures.rooms,
      own_more c.in_ok-number.number c.args.root.now c.child-item.result c.loop-child.nodes.items c.collect.new.nodes.items
          (drop c.loop-child.child-index c.as_slice-child-items.result.now) rest c.args.counts.now.initializers c.loop-child.counts.initializers
          c.collect.new.counts.initializers left c.in_ok-collect.ensures.added.kept c.loop-child.invariant.3 c.in_ok-collect.ensures.owned,
    )

pub index_mut-requires : goal.index_mut-requires
index_mut-requires t c =
    let inside : c.in_ok-number.number < length c.loop-child.nodes.items =
    slice_get_within c.loop-child.nodes.items c.in_ok-number.number c.loop-child.invariant.0.top.0 c.loop-child.invariant.0.top.1 in
    omega (arith, inside, c.loop-child.nodes.ok)

pub returns-clause-added : goal.returns-clause-added
returns-clause-added t c =
    let next : c.in_ok-next.next ≡ length c.loop-child.nodes.items = search rules in
    collected c.args.objects.now.first.items c.args.parent c.args.root.now c.in_ok-number.number c.args.nodes.now.items c.loop-child.nodes.items _
    (drop c.loop-child.child-index c.as_slice-child-items.result.now)
    (record c.index_mut.result.now { next = c.in_ok-next.next })
    (drop_past c.as_slice-child-items.result.now c.loop-child.child-index (omega (arith, c.loop-child-test.false))) c.loop-child.invariant.0 refl
    (λ y h. relabelled c.index_mut.result.now y c.in_ok-next.next (length c.loop-child.nodes.items)
    (c.index_mut.ensures.value ∙ get_or_from_slice_get c.loop-child.nodes.items c.in_ok-number.number y c.index_mut.result.now h) next)

pub returns-clause-fit : goal.returns-clause-fit
returns-clause-fit t c = λ p h old.
    let top = c.loop-child.invariant.0.top in
    nodes_set p c.loop-child.nodes.items _ c.in_ok-number.number (record c.index_mut.result.now { next = c.in_ok-next.next }) top.0 refl
    (ap (λ y. y.tree.now) (c.index_mut.ensures.value ∙ get_or_from_slice_get c.loop-child.nodes.items c.in_ok-number.number top.0 c.index_mut.result.now top.1))
    top.1 (c.loop-child.invariant.1 p h old)

pub returns-clause-rooms : goal.returns-clause-rooms
returns-clause-rooms t c =
    let top = c.loop-child.invariant.0.top in
    all_roomed c.in_ok-number.number c.args.nodes.now.items c.loop-child.nodes.items _ (record c.index_mut.result.now { next = c.in_ok-next.next }) top.0
    c.args.counts.now.olds c.loop-child.counts.olds c.loop-child.invariant.0.at refl
    (ap (λ y. y.tree.now) (c.index_mut.ensures.value ∙ get_or_from_slice_get c.loop-child.nodes.items c.in_ok-number.number top.0 c.index_mut.result.now top.1))
    (ap (λ y. y.room) (c.index_mut.ensures.value ∙ get_or_from_slice_get c.loop-child.nodes.items c.in_ok-number.number top.0 c.index_mut.result.now top.1))
    top.1 c.loop-child.invariant.2

pub returns-clause-owned : goal.returns-clause-owned
returns-clause-owned t c =
    let top = c.loop-child.invariant.0.top in
    let same = c.index_mut.ensures.value ∙ get_or_from_slice_get c.loop-child.nodes.items c.in_ok-number.number top.0 c.index_mut.result.now top.1 in
    own_all c.in_ok-number.number c.args.root.now c.args.nodes.now.items c.loop-child.nodes.items _
    (drop c.loop-child.child-index c.as_slice-child-items.result.now) (record c.index_mut.result.now { next = c.in_ok-next.next }) top.0
    c.args.counts.now.initializers c.loop-child.counts.initializers c.loop-child.invariant.0.at refl (ap (λ y. y.tree.now) same)
    (ap (λ y. y.initializer) same) top.1
    (drop_past c.as_slice-child-items.result.now c.loop-child.child-index (omega (arith, c.loop-child-test.false))) c.loop-child.invariant.3
