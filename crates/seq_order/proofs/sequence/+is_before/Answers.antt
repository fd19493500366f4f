use Rattle.std.proofs.Common.{◌≡◌, Some, sym, ap, ◌∙◌}
use Rattle.ub_base.proofs.Tests.{less_test, not_less_test}
use Rattle.c_typed.specs.Tree.{tree_of, operands, class_of}
use Rattle.c_typed.specs.Order.{across}
use Rattle.seq_order.specs.Marked.{taken_in}
use Rattle.seq_order.proofs.Located.{nth}
use Rattle.seq_order.proofs.Descend.{below_room, no_before_left, no_before_right, same_before, apart_before}
use Rattle.seq_order.proofs.Children.{child_of}
use Rattle.seq_order.proofs.Halves.{both, first_fails}
use Rattle.seq_order.proofs.sequence.+is_before.Goals as goal

pub returns-in_default : goal.returns-in_default
returns-in_default t c = λ h.
    sym (no_before_left c.args.k (taken_in c.args.taken.now) (tree_of c.args.tree.now) c.args.u c.args.v h c.if-u-k.false c.if-v-k-2.false
    (sym c.in_default.ensures.value))

pub returns-in_default-locate : goal.returns-in_default-locate
returns-in_default-locate t c = λ h.
    sym (no_before_right c.args.k (taken_in c.args.taken.now) (tree_of c.args.tree.now) c.args.u c.args.v h c.if-u-k.false c.if-v-k-2.false
    (sym c.in_default-locate.ensures.value))

pub returns-then-a-b : goal.returns-then-a-b
returns-then-a-b t c = λ h.
    let a = c.in-Some.a in
    let e : nth (operands (tree_of c.args.tree.now)) a.index ≡ Some (tree_of c.index-as_slice-a.result) =
    child_of c.args.tree.now c.index-as_slice-a.result c.as_slice.result.now a.index c.in-Some.ensures.within c.as_slice.ensures c.index-as_slice-a.is in
    let s = sym c.in-Some.ensures.value in
    let p = sym c.in-Some-locate.ensures.value in
    c.is_before.ensures (below_room c.args.k (tree_of c.args.tree.now) (tree_of c.index-as_slice-a.result) c.args.u.node a h s e)
    ∙ sym (same_before c.args.k (taken_in c.args.taken.now) (tree_of c.args.tree.now) (tree_of c.index-as_slice-a.result) c.args.u c.args.v a
    c.in-Some-locate.b h c.if-u-k.false c.if-v-k-2.false s p c.if-a-b.true e)

pub returns-then-a-b-2 : goal.returns-then-a-b-2
returns-then-a-b-2 t c = λ h.
    let a = c.in-Some.a in
    let b = c.in-Some-locate.b in
    let s = sym c.in-Some.ensures.value in
    let p = sym c.in-Some-locate.ensures.value in
    both _ _ _ (less_test a.index b.index c.if-a-b-2.true)
    (c.across.ensures ∙ (ap (λ z. across z c.chosen.result a.index b.index) c.class_of-then-a-b-2.ensures ∙ ap
    (λ z. across (class_of (tree_of c.args.tree.now)) z a.index b.index) c.chosen.ensures))
    ∙ sym (apart_before c.args.k (taken_in c.args.taken.now) (tree_of c.args.tree.now) c.args.u c.args.v a b h c.if-u-k.false c.if-v-k-2.false s p
    c.if-a-b.false)

pub returns-else-a-b-2 : goal.returns-else-a-b-2
returns-else-a-b-2 t c = λ h.
    let a = c.in-Some.a in
    let b = c.in-Some-locate.b in
    let s = sym c.in-Some.ensures.value in
    let p = sym c.in-Some-locate.ensures.value in
    let f = not_less_test a.index b.index c.if-a-b-2.false in
    first_fails _ _ _ f f
    ∙ sym (apart_before c.args.k (taken_in c.args.taken.now) (tree_of c.args.tree.now) c.args.u c.args.v a b h c.if-u-k.false c.if-v-k-2.false s p
    c.if-a-b.false)
