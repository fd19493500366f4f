use Rattle.c_types.specs.Types.{signature_of}
use Rattle.type_linkage.proofs.FunctionRows.{further_is}
use Rattle.type_linkage.proofs.functions.join_row.Goals as goal

pub returns-clause-seen : goal.returns-clause-seen
returns-clause-seen c =
    further_is (c.args.row.now).ty c.in_ok-joined.joined (signature_of c.args.ty.now) (c.args.row.now).definition c.in_ok-joined.ensures
