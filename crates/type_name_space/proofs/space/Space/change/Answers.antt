use Rattle.std.proofs.Common.{◌≡◌, ◌-◌, ℕ, List, map, get_or, subst, sym, ap, ◌∙◌, arith}
use Rattle.type_name_space.specs.Links.{IsLinked, declared_of}
use Rattle.type_name_space.proofs.Links.{renamed_linked, change_some, change_none}
use Rattle.type_name_space.proofs.space.Space.change.Goals as goal

pub invariant_of-self : goal.invariant_of-self
invariant_of-self g c =
    subst (λ bs. IsLinked c.self.inside.newest.items bs) (sym c.rename.ensures)
    (renamed_linked c.self.inside.newest.items (c.place_at-place.result - 1) c.args.meaning c.self.inside.bindings.items c.self.invariant)

pub returns-then-place-gt0 : goal.returns-then-place-gt0
returns-then-place-gt0 g c =
    ap (map declared_of) c.rename.ensures
    ∙ change_some c.self.inside.newest.items c.self.inside.bindings.items c.args.self.now c.args.symbol c.place_at-place.result c.args.meaning
    c.self.invariant c.self.view_is
    (c.place_at-place.ensures ∙ ap (λ (xs : List ℕ). get_or xs c.args.symbol 0) c.deref.ensures.value) c.if-place-gt0.true

pub returns-else-place-gt0 : goal.returns-else-place-gt0
returns-else-place-gt0 g c =
    let none : c.place_at-place.result ≡ 0 = omega arith in
    change_none c.self.inside.newest.items c.self.inside.bindings.items c.args.self.now c.args.symbol c.place_at-place.result c.args.meaning c.self.invariant
    c.self.view_is
    (c.place_at-place.ensures ∙ ap (λ (xs : List ℕ). get_or xs c.args.symbol 0) c.deref.ensures.value) none
