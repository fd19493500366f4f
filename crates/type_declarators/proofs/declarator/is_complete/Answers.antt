use Rattle.std.proofs.Common.{ap, ◌∙◌}
use Rattle.std.specs.Prelude.{is_some}
use Rattle.c_types.specs.Types.{type_of}
use Rattle.type_declarators.proofs.Extents.{complete_is}
use Rattle.type_declarators.proofs.declarator.is_complete.Goals as goal

pub returns : goal.returns
returns c = c.is_some.ensures ∙ ap is_some c.extent.ensures.value ∙ complete_is (c.args.state.now).tags (type_of c.args.ty.now)
