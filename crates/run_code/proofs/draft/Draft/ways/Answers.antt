use Rattle.std.proofs.Common.{arith, true, refl}
use Rattle.run_layout.proofs.AtOnce.{front_longer}
use Rattle.run_layout.proofs.Grown.{goes_grown}
use Rattle.run_code.proofs.draft.Draft.ways.Goals as goal

pub returns-clause-fit : goal.returns-clause-fit
returns-clause-fit c = λ p h. c.in_ok-no.ensures.fit p (c.in_ok-yes.ensures.fit p h)

pub returns-clause-within : goal.returns-clause-within
returns-clause-within c =
    let longer = front_longer c.way.new.self.expressions.tables.chosen.items c.way-2.new.self.expressions.tables.chosen.items c.in_ok-no.ensures.grown.chosen in
    (omega (arith, c.in_ok-yes.ensures.within, longer), c.in_ok-no.ensures.within)

pub returns-clause-choice : goal.returns-clause-choice
returns-clause-choice c = λ firsts noted there. record {
  node = refl;
  test = refl;
  yes = goes_grown firsts c.way.new.self.expressions.tables c.way-2.new.self.expressions.tables c.args.node c.args.above.now true c.in_ok-yes.yes
      c.in_ok-no.ensures.grown (c.in_ok-yes.ensures.goes firsts noted there);
  no = c.in_ok-no.ensures.goes firsts noted there;
}
