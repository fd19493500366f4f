use Rattle.std.proofs.Common.{arith, ◌<◌, ◌≡◌, ◌+◌, ◌∷◌, ◌++◌, suc, drop, slice_get, Some, sym, ap, subst, ◌∙◌}
use Rattle.std.proofs.lemmas.List.{drop_more, append-nil}
use Rattle.std.proofs.lemmas.Option.{slice_get_within}
use Rattle.std.proofs.lemmas.Result.{on_ok_weaker}
use Rattle.c_typed.specs.declared.tree.Typed.{out-Typed}
use Rattle.c_typed.specs.Tree.{tree_of, size}
use Rattle.run_layout.specs.Numbered.{IsAt, AreBelow}
use Rattle.run_layout.specs.AtOnce.{chosen_of, operand_number}
use Rattle.run_layout.proofs.AtOnce.{chosen_from, of_others, noted_below, operand_there, one_passed, one_chosen, none_chosen, nothing_there}
use Rattle.run_layout.proofs.AtOnce.{operand_smaller, child_smaller}
use Rattle.run_layout.proofs.Collected.{drop_past}
use Rattle.run_code.proofs.choices.+chosen_at_once.Goals as goal

pub returns-in_default : goal.returns-in_default
returns-in_default t c = λ firsts parent noted here.
    let chooses = sym c.is_choice.ensures ∙ c.if-is_choice.true in
    none_chosen firsts c.args.root.now c.args.number c.args.all.now.items chooses
    (sym c.in_default.is ∙ c.first_operand.ensures firsts parent noted here chooses)

pub returns-in_default-get : goal.returns-in_default-get
returns-in_default-get t c = λ firsts parent noted here.
    let chooses = sym c.is_choice.ensures ∙ c.if-is_choice.true in
    nothing_there firsts c.args.root.now c.args.number c.in-Some.operand c.args.all.now.items c.add_own.new.all.items chooses
    (sym c.in-Some.is ∙ c.first_operand.ensures firsts parent noted here chooses) (sym c.in_default-get.ensures.value) c.in_ok-add_own.ensures

pub chosen_at_once-requires : goal.chosen_at_once-requires
chosen_at_once-requires t c =
    let smaller = operand_smaller c.args.root.now c.in-Some-get.child.now c.in-Some.operand (sym c.in-Some-get.ensures.value) in
    let falls : size (tree_of c.in-Some-get.child.now) < t = omega (arith, smaller, c.decreases) in
    (falls, tt)

pub returns-then-is_choice : goal.returns-then-is_choice
returns-then-is_choice t c = λ firsts parent noted here.
    let chooses = sym c.is_choice.ensures ∙ c.if-is_choice.true in
    let ts = (out-Typed c.args.root.now).children in
    let there : slice_get ts c.in-Some.operand ≡ Some c.in-Some-get.child.now = sym c.in-Some-get.ensures.value in
    let below : AreBelow c.args.nodes.now c.args.number (suc c.args.number) ts =
    noted_below firsts c.args.nodes.now c.args.number parent c.args.root.now noted here in
    let within = slice_get_within ts c.in-Some.operand c.in-Some-get.child.now there in
    let number : c.in_ok-at.at ≡ operand_number ts c.in-Some.operand (suc c.args.number) =
    c.in_ok-at.ensures ∙ c.operand_number.ensures firsts ts noted below (omega (arith, within)) in
    let at : IsAt c.args.nodes.now c.in_ok-at.at (Some c.args.number) c.in-Some-get.child.now =
    subst (λ n. IsAt c.args.nodes.now n (Some c.args.number) c.in-Some-get.child.now) (sym number)
    (operand_there c.args.nodes.now c.args.number (suc c.args.number) ts c.in-Some.operand c.in-Some-get.child.now below there) in
    on_ok_weaker c.chosen_at_once.result
    (λ made. one_chosen firsts c.args.root.now c.in-Some-get.child.now c.args.number c.in-Some.operand c.in_ok-at.at c.args.all.now.items
    c.add_own.new.all.items c.chosen_at_once.new.all.items chooses (sym c.in-Some.is ∙ c.first_operand.ensures firsts parent noted here chooses) there number
    c.in_ok-add_own.ensures made) (c.chosen_at_once.ensures firsts (Some c.args.number) noted at)

pub loop-child-init : goal.loop-child-init
loop-child-init t c = λ firsts parent noted here.
    let next : c.args.number + 1 ≡ suc c.args.number = omega arith in (
      ap (λ n. c.args.all.now.items ++ chosen_from firsts c.as_slice-child-items.result.now n) next
          ∙ ap (λ ts. c.args.all.now.items ++ chosen_from firsts ts (suc c.args.number)) c.as_slice-child-items.ensures,
      subst (λ n. AreBelow c.args.nodes.now c.args.number n c.as_slice-child-items.result.now) (sym next)
          (subst (AreBelow c.args.nodes.now c.args.number (suc c.args.number)) (sym c.as_slice-child-items.ensures)
          (noted_below firsts c.args.nodes.now c.args.number parent c.args.root.now noted here)),
    )

pub loop-child-preserved : goal.loop-child-preserved
loop-child-preserved t c = λ firsts parent noted here.
    let so_far = c.loop-child.invariant firsts parent noted here in
    let items = c.as_slice-child-items.result.now in
    let i = c.loop-child.child-index in
    let rest = drop (i + 1) items in
    one_passed firsts c.args.nodes.now c.args.number c.loop-child.at c.behind-at.result (drop i items) rest c.child-item.result c.loop-child.all.items
    c.chosen_at_once-in-loop-child.new.all.items (c.args.all.now.items ++ chosen_from firsts (out-Typed c.args.root.now).children (suc c.args.number))
    (drop_more items i c.child-item.result c.loop-child-test.true ∙ ap (λ y. y ∷ rest) (sym c.child-item.is)) so_far.1
    (λ u at. c.behind-at.ensures firsts (Some c.args.number) u noted at)
    (λ at. c.in_ok-chosen_at_once.ensures firsts (Some c.args.number) noted
    (subst (λ n. IsAt c.args.nodes.now n (Some c.args.number) c.child-item.result) (sym c.in_ok-operand.ensures) at)
    ∙ ap (λ n. c.loop-child.all.items ++ chosen_of firsts c.child-item.result n) c.in_ok-operand.ensures) so_far.0

pub returns : goal.returns
returns t c = λ firsts parent noted here.
    let so_far = c.loop-child.invariant firsts parent noted here in
    let items = c.as_slice-child-items.result.now in
    let past = drop_past items c.loop-child.child-index (omega (arith, c.loop-child-test.false)) in
    sym (append-nil c.loop-child.all.items)
    ∙ (ap (λ ts. c.loop-child.all.items ++ chosen_from firsts ts c.loop-child.at) (sym past)
    ∙ (so_far.0
    ∙ ap (λ z. c.args.all.now.items ++ z) (sym (of_others firsts c.args.root.now c.args.number (sym c.is_choice.ensures ∙ c.if-is_choice.false)))))

pub chosen_at_once-requires-in-loop-child : goal.chosen_at_once-requires-in-loop-child
chosen_at_once-requires-in-loop-child t c =
    let items = c.as_slice-child-items.result.now in
    let i = c.loop-child.child-index in
    let rest = drop (i + 1) items in
    let smaller = child_smaller c.args.root.now c.child-item.result items rest i c.as_slice-child-items.ensures
    (drop_more items i c.child-item.result c.loop-child-test.true ∙ ap (λ y. y ∷ rest) (sym c.child-item.is)) in
    let falls : size (tree_of c.child-item.result) < t = omega (arith, smaller, c.decreases) in
    (falls, tt)
