use Rattle.typing_spec.proofs.Held.{tags_are, extents_are, names_are}
use Rattle.typing_spec.proofs.laws.law_tags.Goals as goal

pub returns-clause-seen : goal.returns-clause-seen
returns-clause-seen c = tags_are

pub returns-clause-extents : goal.returns-clause-extents
returns-clause-extents c = extents_are

pub returns-clause-names : goal.returns-clause-names
returns-clause-names c = names_are
