use Rattle.std.specs.Prelude.{false}
use Rattle.c_types.specs.Types.{signature_of, SameSignature}
use Rattle.c_types.specs.Same.{compatible_functions}
use Rattle.c_types.proofs.SameTests.{functions_tell, one_test}
use Rattle.c_types.proofs.agree.compatible_functions.Goals as goal

pub returns-clause-test : goal.returns-clause-test
returns-clause-test c =
    one_test c.same_signature.result (compatible_functions (signature_of c.args.f.now) (signature_of c.args.g.now))
    (SameSignature false (signature_of c.args.f.now) (signature_of c.args.g.now))
    c.same_signature.ensures (functions_tell (signature_of c.args.f.now) (signature_of c.args.g.now))
