use Rattle.std.specs.Prelude.{◌≡◌}
use Rattle.c_types.specs.Types.{type_of}
use Rattle.c_types.specs.Same.{same}
use Rattle.c_types.proofs.SameTests.{equal_tells, one_test}
use Rattle.c_types.proofs.same.same_type.Goals as goal

pub returns-clause-test : goal.returns-clause-test
returns-clause-test c =
    one_test c.is_equal.result (same (type_of c.args.a.now) (type_of c.args.b.now)) (type_of c.args.a.now ≡ type_of c.args.b.now)
    c.is_equal.ensures (equal_tells (type_of c.args.a.now) (type_of c.args.b.now))
