use Rattle.std.specs.Prelude.{◌≡◌}
use Rattle.c_types.specs.Types.{qualified_of}
use Rattle.c_types.specs.Same.{same_qualified}
use Rattle.c_types.proofs.SameTests.{qualified_tell, one_test}
use Rattle.c_types.proofs.same.same_qualified.Goals as goal

pub returns-clause-test : goal.returns-clause-test
returns-clause-test c =
    one_test c.is_equal_qualified.result (same_qualified (qualified_of c.args.a.now) (qualified_of c.args.b.now))
    (qualified_of c.args.a.now ≡ qualified_of c.args.b.now)
    c.is_equal_qualified.ensures (qualified_tell (qualified_of c.args.a.now) (qualified_of c.args.b.now))
