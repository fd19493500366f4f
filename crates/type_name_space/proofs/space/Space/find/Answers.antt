use Rattle.std.proofs.Common.{ℕ, ◌<◌, ◌-◌, List, get_or, ap, ◌∙◌, arith}
use Rattle.std.specs.Prelude.{slice_get}
use Rattle.type_name_space.proofs.Links.{none_found, some_found}
use Rattle.type_name_space.proofs.space.Space.find.Goals as goal

pub returns-then-place-eq0 : goal.returns-then-place-eq0
returns-then-place-eq0 g c =
    none_found c.self.inside.newest.items c.self.inside.bindings.items c.args.self.now c.args.symbol c.place_at-place.result c.self.invariant c.self.view_is
    (c.place_at-place.ensures ∙ ap (λ (xs : List ℕ). get_or xs c.args.symbol 0) c.deref.ensures.value) c.if-place-eq0.true

pub returns-else-place-eq0 : goal.returns-else-place-eq0
returns-else-place-eq0 g c =
    let more : 0 < c.place_at-place.result = omega arith in
    some_found c.self.inside.newest.items c.self.inside.bindings.items c.args.self.now c.args.symbol c.place_at-place.result c.binding_at.result
    c.self.invariant c.self.view_is
    (c.place_at-place.ensures ∙ ap (λ (xs : List ℕ). get_or xs c.args.symbol 0) c.deref.ensures.value) more
    (c.binding_at.ensures ∙ ap (λ bs. slice_get bs (c.place_at-place.result - 1)) c.deref-else-place-eq0.ensures.value)
