use Rattle.std.proofs.Common.{map, ap, ◌∙◌}
use Rattle.std.specs.Prelude.{reverse}
use Rattle.type_name_space.specs.Links.{declared_of}
use Rattle.type_scope.specs.InScope.{left_scope, with_prototype}
use Rattle.type_scope.proofs.Nested.{lifting, left_outside, kept_are, left_kept}
use Rattle.type_scope.specs.contracts.scopes.Scopes.{the_view}
use Rattle.type_scope.proofs.scopes.Scopes.keep.Goals as goal

-- src/scopes.rt:161:30
pub invariant_of-self : goal.invariant_of-self
invariant_of-self c = (
  lifting c.self.inside.depth c.self.inside.ordinary c.lift.new.self c.lift.result c.self.invariant.0 c.lift.ensures.ok c.lift.ensures.err,
  c.self.invariant.1,
)

-- src/scopes.rt:162:26
pub invariant_of-self-in_err-self-inside-2 : goal.invariant_of-self-in_err-self-inside-2
invariant_of-self-in_err-self-inside-2 c = (
  lifting c.self.inside.depth c.self.inside.ordinary c.lift.new.self c.lift.result c.self.invariant.0 c.lift.ensures.ok c.lift.ensures.err,
  lifting c.self.inside.depth c.self.inside.tags c.lift-2.new.self c.lift-2.result c.self.invariant.1 c.lift-2.ensures.ok c.lift-2.ensures.err,
)

-- src/scopes.rt:158:5
pub invariant_of-self-2 : goal.invariant_of-self-2
invariant_of-self-2 c = (
  left_outside c.self.inside.depth c.saturating_sub-self-inside.result c.self.inside.ordinary c.lift.new.self c.saturating_sub-self-inside.ensures
      c.in_ok-self-inside.ensures.ok c.self.invariant.0,
  left_outside c.self.inside.depth c.saturating_sub-self-inside.result c.self.inside.tags c.lift-2.new.self c.saturating_sub-self-inside.ensures
      c.in_ok-self-inside-2.ensures.ok c.self.invariant.1,
)

-- src/scopes.rt:158:5
pub returns : goal.returns
returns c =
    let lifted = reverse (map declared_of c.in_ok-self-inside.field-0.items) in
    let lifted_tags = reverse (map declared_of c.in_ok-self-inside-2.field-0.items) in
    let first = c.in_ok-self-inside.ensures in
    let second = c.in_ok-self-inside-2.ensures in
    left_kept (the_view c.self.inside) c.lift.new.self lifted c.lift-2.new.self lifted_tags c.saturating_sub-self-inside.result first.ok second.ok
    c.saturating_sub-self-inside.ensures
    (kept_are c.self.inside.depth c.self.inside.ordinary c.lift.new.self lifted c.self.invariant.0 first.ok first.lifted)
    (kept_are c.self.inside.depth c.self.inside.tags c.lift-2.new.self lifted_tags c.self.invariant.1 second.ok second.lifted)
    ∙ ap (λ s. left_scope (with_prototype s)) c.self.view_is
