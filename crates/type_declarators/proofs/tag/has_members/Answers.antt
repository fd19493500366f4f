use Rattle.std.proofs.Common.{◌∙◌}
use Rattle.type_declarators.proofs.Completing.{members_are}
use Rattle.type_declarators.proofs.tag.has_members.Goals as goal

pub returns : goal.returns
returns c = c.is_complete.ensures ∙ members_are (c.args.state.now).tags c.args.number c.law_extents.ensures
