use Rattle.c_types.specs.Types.{type_of, Agrees}
use Rattle.c_types.specs.Same.{agrees}
use Rattle.c_types.proofs.SameTests.{agrees_tells, one_test}
use Rattle.c_types.proofs.agree.agrees.Goals as goal

pub returns-clause-test : goal.returns-clause-test
returns-clause-test c =
    one_test c.meets.result (agrees (type_of c.args.a.now) (type_of c.args.e.now)) (Agrees (type_of c.args.a.now) (type_of c.args.e.now))
    c.meets.ensures (agrees_tells (type_of c.args.a.now) (type_of c.args.e.now))
