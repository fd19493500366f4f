use Rattle.std.proofs.Common.{◌-◌, length, ap, ◌∙◌}
use Rattle.std.specs.Prelude.{slice_get}
use Rattle.type_name_space.specs.Scopes.{ends_at}
use Rattle.type_name_space.proofs.Links.{ends_seen}
use Rattle.type_name_space.proofs.space.Space.is_inner.Goals as goal

pub returns-in-Some : goal.returns-in-Some
returns-in-Some g c =
    ends_seen c.args.depth c.self.inside.bindings.items c.in-Some.binding.now
    (c.in-Some.ensures.value ∙ ap (λ bs. slice_get bs (length bs - 1)) c.deref.ensures.value)
    ∙ ap (ends_at c.args.depth) c.self.view_is
