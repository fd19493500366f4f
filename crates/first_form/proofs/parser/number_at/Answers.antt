use Rattle.std.proofs.Common.{refl, subst}
use Rattle.first_form.specs.Tokens.{IsConstant}
use Rattle.first_form.proofs.Sentences.{get_there}
use Rattle.first_form.proofs.parser.number_at.Goals as goal

pub returns-clause-found : goal.returns-clause-found
returns-clause-found c =
    let a = c.in_ok-token.ensures.lookup in
    let b = c.in_ok-spelling.ensures.lookup in (
      record {
        token = c.in_ok-token.token.now;
        there = get_there c.args.tokens.now c.args.place c.in_ok-token.token.now (a.3).0 a.1;
        forward = (b.0).0;
        inside = (b.0).1;
        spelled = subst (λ t. IsConstant t c.in_ok-number.number) (b.0).2 c.in_ok-number.ensures.found;
      },
      refl,
    )
