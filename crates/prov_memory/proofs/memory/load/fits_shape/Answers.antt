use Rattle.std.proofs.Common.{sym}
use Rattle.c_types.specs.Types.{type_of}
use Rattle.c_types.specs.Shapes.{form_of}
use Rattle.prov_memory.proofs.AgreementLemmas.{suits_test}
use Rattle.prov_memory.proofs.memory.load.fits_shape.Goals as goal

pub returns-then-is_of_kind : goal.returns-then-is_of_kind
returns-then-is_of_kind c = sym (c.is_of_kind.ensures c.if-is_of_kind.true)

pub returns : goal.returns
returns c = suits_test c.suits.result (type_of c.args.ty.now) (form_of c.args.shape.now) c.args.from c.suits.ensures
