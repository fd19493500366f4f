use Rattle.std.proofs.Common.{ℕ, ap, ◌∙◌}
use Rattle.std.specs.Option.{option_map}
use Rattle.layout.specs.Names.{names_by, named}
use Rattle.layout.specs.Listed.{nearer}
use Rattle.layout.proofs.WithinNames.{exact_names}
use Rattle.layout.proofs.member_names.find.Goals as goal

pub returns : goal.returns
returns c =
    c.find_within.ensures
    ∙ (ap (λ (n : ℕ). option_map nearer (named c.args.name.now (names_by n c.args.tags.now c.args.tag))) c.len.ensures
    ∙ exact_names c.args.tags.now c.law_extents.ensures c.args.name.now c.args.tag)
