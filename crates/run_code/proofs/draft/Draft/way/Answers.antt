use Rattle.std.proofs.Common.{arith, ◌≡◌, suc, slice_get, Some, refl, sym, ap, subst, ◌∙◌}
use Rattle.std.proofs.lemmas.Option.{slice_get_within}
use Rattle.c_typed.specs.declared.tree.Typed.{out-Typed}
use Rattle.run_layout.specs.Numbered.{IsAt, AreBelow}
use Rattle.run_layout.specs.AtOnce.{chosen_of, operand_number, Lists}
use Rattle.run_layout.proofs.AtOnce.{chosen_none, chosen_there, operand_there, lists_none}
use Rattle.run_code.proofs.draft.Draft.way.Goals as goal

pub returns-in_default-get-clause-goes : goal.returns-in_default-get-clause-goes
returns-in_default-get-clause-goes c = λ firsts noted there.
    let ts = (out-Typed c.args.above.now.tree.now).children in
    record {
      operand = c.in-Some.ensures;
      chosen = lists_none c.args.self.now.expressions.tables.chosen.items _ _ refl refl
          (chosen_none firsts ts c.in-Some.index (suc c.args.number) (sym c.in_default-get.ensures.value));
    }

pub returns-clause-goes : goal.returns-clause-goes
returns-clause-goes c = λ firsts noted there.
    let ts = (out-Typed c.args.above.now.tree.now).children in
    let child = c.in-Some-get.child.now in
    let found : slice_get ts c.in-Some.index ≡ Some child = sym c.in-Some-get.ensures.value in
    let below : AreBelow c.args.nodes.now c.args.number (suc c.args.number) ts = (noted c.args.number c.args.above.now there).below in
    let within = slice_get_within ts c.in-Some.index child found in
    let number : c.in_ok-at.at ≡ operand_number ts c.in-Some.index (suc c.args.number) =
    c.in_ok-at.ensures ∙ c.operand_number.ensures firsts ts noted below (omega (arith, within)) in
    let at : IsAt c.args.nodes.now c.in_ok-at.at (Some c.args.number) child =
    subst (λ n. IsAt c.args.nodes.now n (Some c.args.number) child) (sym number)
    (operand_there c.args.nodes.now c.args.number (suc c.args.number) ts c.in-Some.index child below found) in
    record {
      operand = c.in-Some.ensures;
      chosen = subst (Lists c.chosen.new.self.expressions.tables.chosen.items c.in_ok-chosen.chosen)
          (ap (chosen_of firsts child) number ∙ sym (chosen_there firsts ts c.in-Some.index (suc c.args.number) child found))
          (c.in_ok-chosen.ensures.chosen firsts (Some c.args.number) noted at);
    }
