use Rattle.std.proofs.Common.{◌≡◌, length, slice_get, Some, refl}
use Rattle.std.proofs.lemmas.Option.{slice_get_read, slice_get_past}
use Rattle.run_layout.proofs.AtOnce.{noted_next, not_there}
use Rattle.run_code.proofs.choices.behind.Goals as goal

pub returns-in-Some : goal.returns-in-Some
returns-in-Some c = λ firsts parent t noted here.
    let found = c.in-Some.ensures.lookup in
    let there : slice_get c.args.nodes.now c.args.at ≡ Some c.in-Some.info.now =
    slice_get_read c.args.nodes.now (length c.args.nodes.now) c.args.at c.in-Some.info.now refl found.3.0 found.1 in
    noted_next firsts c.args.nodes.now c.args.at parent t c.in-Some.info.now noted here there

pub returns-in-None : goal.returns-in-None
returns-in-None c = λ firsts parent t noted here.
    absurd (not_there c.args.nodes.now c.args.at parent t here (slice_get_past c.args.nodes.now c.args.at c.in-None.ensures.lookup.3))
