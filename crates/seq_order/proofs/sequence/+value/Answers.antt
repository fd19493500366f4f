use Rattle.std.proofs.Common.{◌≡◌, ℕ, suc, ◌+◌, ◌==◌, ◌&&◌, not, sym, ap, ◌∙◌, arith}
use Rattle.ub_base.proofs.Tests.{and_left, and_right}
use Rattle.c_typed.specs.Tree.{tree_of, operands, class_of, is_quiet_class}
use Rattle.c_typed.specs.Order.{is_body}
use Rattle.c_typed.specs.Decide.{lifts}
use Rattle.seq_order.specs.Marked.{taken_in}
use Rattle.seq_order.proofs.Located.{count}
use Rattle.seq_order.proofs.Descend.{below_room, no_rise, below_rise}
use Rattle.seq_order.proofs.Children.{child_of, counted}
use Rattle.seq_order.proofs.Halves.{both, first_holds, second, third}
use Rattle.seq_order.proofs.sequence.+value.Goals as goal

-- whether an operand is the last one
last_as : (i n len : ℕ) → n ≡ len → (i + 1 == len) ≡ (suc i == 0 + n)
last_as i n len e =
    let a : i + 1 ≡ suc i = omega arith in
    let b : len ≡ 0 + n = omega (arith, e) in
    ap (λ z. z == len) a ∙ ap (λ z. suc i == z) b

pub rises-returns-in_default : goal.rises-returns-in_default
rises-returns-in_default t c = λ h. sym (no_rise c.args.k (taken_in c.args.taken.now) (tree_of c.args.tree.now) c.args.u c.args.kind h
    (sym c.in_default.ensures.value))

pub rises-returns-then-lifts : goal.rises-returns-then-lifts
rises-returns-then-lifts t c = λ h.
    let a = c.in-Some.a in
    let e = child_of c.args.tree.now c.index-as_slice-a.result c.as_slice.result.now a.index c.in-Some.ensures.within c.as_slice.ensures c.index-as_slice-a.is
    in
    let tree = tree_of c.args.tree.now in
    let l = c.lifts.ensures ∙ (ap (λ z. lifts z c.chosen.result a.index (a.index + 1 == c.len.result) c.args.kind) c.class_of.ensures
    ∙ (ap (λ z. lifts (class_of tree) z a.index (a.index + 1 == c.len.result) c.args.kind) c.chosen.ensures
    ∙ ap (λ z. lifts (class_of tree) (taken_in c.args.taken.now c.args.k) a.index z c.args.kind)
    (last_as a.index (count (operands tree)) c.len.result (counted c.args.tree.now ∙ sym c.len.ensures)))) in
    first_holds _ _ _ (sym l ∙ c.if-lifts.true) c.if-lifts.true
    ∙ sym (below_rise c.args.k (taken_in c.args.taken.now) tree (tree_of c.index-as_slice-a.result) c.args.u c.args.kind a h (sym c.in-Some.ensures.value) e)

pub rises-returns-then-value_leads : goal.rises-returns-then-value_leads
rises-returns-then-value_leads t c = λ h.
    let a = c.in-Some.a in
    let e = child_of c.args.tree.now c.index-as_slice-a.result c.as_slice.result.now a.index c.in-Some.ensures.within c.as_slice.ensures c.index-as_slice-a.is
    in
    let tree = tree_of c.args.tree.now in
    let x = tree_of c.index-as_slice-a.result in
    let s = sym c.in-Some.ensures.value in
    let l = c.lifts.ensures ∙ (ap (λ z. lifts z c.chosen.result a.index (a.index + 1 == c.len.result) c.args.kind) c.class_of.ensures
    ∙ (ap (λ z. lifts (class_of tree) z a.index (a.index + 1 == c.len.result) c.args.kind) c.chosen.ensures
    ∙ ap (λ z. lifts (class_of tree) (taken_in c.args.taken.now c.args.k) a.index z c.args.kind)
    (last_as a.index (count (operands tree)) c.len.result (counted c.args.tree.now ∙ sym c.len.ensures)))) in
    let v = sym (c.value_leads.ensures ∙ ap (λ z. not (is_body c.args.kind) && not (is_quiet_class z)) c.class_of-else-lifts.ensures) ∙ c.if-value_leads.true
    in
    second _ _ _ (sym l ∙ c.if-lifts.false)
    (both _ _ _ (and_left (not (is_body c.args.kind)) _ v)
    (both _ _ _ (and_right (not (is_body c.args.kind)) _ v) (c.to_value.ensures (below_room c.args.k tree x c.args.u.node a h s e))))
    ∙ sym (below_rise c.args.k (taken_in c.args.taken.now) tree x c.args.u c.args.kind a h s e)

pub rises-returns-else-value_leads : goal.rises-returns-else-value_leads
rises-returns-else-value_leads t c = λ h.
    let a = c.in-Some.a in
    let e = child_of c.args.tree.now c.index-as_slice-a.result c.as_slice.result.now a.index c.in-Some.ensures.within c.as_slice.ensures c.index-as_slice-a.is
    in
    let tree = tree_of c.args.tree.now in
    let x = tree_of c.index-as_slice-a.result in
    let s = sym c.in-Some.ensures.value in
    let l = c.lifts.ensures ∙ (ap (λ z. lifts z c.chosen.result a.index (a.index + 1 == c.len.result) c.args.kind) c.class_of.ensures
    ∙ (ap (λ z. lifts (class_of tree) z a.index (a.index + 1 == c.len.result) c.args.kind) c.chosen.ensures
    ∙ ap (λ z. lifts (class_of tree) (taken_in c.args.taken.now c.args.k) a.index z c.args.kind)
    (last_as a.index (count (operands tree)) c.len.result (counted c.args.tree.now ∙ sym c.len.ensures)))) in
    second _ _ _ (sym l ∙ c.if-lifts.false)
    (third (not (is_body c.args.kind)) _ _ _
    (c.value_leads.ensures ∙ ap (λ z. not (is_body c.args.kind) && not (is_quiet_class z)) c.class_of-else-lifts.ensures) c.if-value_leads.false)
    ∙ sym (below_rise c.args.k (taken_in c.args.taken.now) tree x c.args.u c.args.kind a h s e)
