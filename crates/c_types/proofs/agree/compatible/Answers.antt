use Rattle.std.specs.Prelude.{false}
use Rattle.c_types.specs.Types.{type_of, Compatible}
use Rattle.c_types.specs.Same.{compatible}
use Rattle.c_types.proofs.SameTests.{matches_tells, one_test}
use Rattle.c_types.proofs.agree.compatible.Goals as goal

pub returns-clause-test : goal.returns-clause-test
returns-clause-test c =
    one_test c.matches.result (compatible (type_of c.args.a.now) (type_of c.args.b.now)) (Compatible (type_of c.args.a.now) (type_of c.args.b.now))
    c.matches.ensures (matches_tells false (type_of c.args.a.now) (type_of c.args.b.now))
