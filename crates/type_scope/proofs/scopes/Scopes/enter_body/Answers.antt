use Rattle.std.proofs.Common.{map}
use Rattle.std.specs.Prelude.{reverse}
use Rattle.type_name_space.specs.Links.{declared_of}
use Rattle.type_scope.proofs.Nested.{lowering}
use Rattle.type_scope.proofs.scopes.Scopes.enter_body.Goals as goal

pub invariant_of-self : goal.invariant_of-self
invariant_of-self c =
    let ordinary = reverse (map declared_of c.replace-ordinary.result.items) in (
      lowering c.self.inside.depth c.self.inside.ordinary c.lower.new.self ordinary c.lower.result c.self.invariant.0
          c.lower.ensures.ok c.lower.ensures.err,
      c.self.invariant.1,
    )

pub invariant_of-self-2 : goal.invariant_of-self-2
invariant_of-self-2 c =
    let ordinary = reverse (map declared_of c.replace-ordinary.result.items) in
    let tags = reverse (map declared_of c.replace-tags.result.items) in (
      lowering c.self.inside.depth c.self.inside.ordinary c.lower.new.self ordinary c.lower.result c.self.invariant.0
          c.lower.ensures.ok c.lower.ensures.err,
      lowering c.self.inside.depth c.self.inside.tags c.lower-2.new.self tags c.lower-2.result c.self.invariant.1
          c.lower-2.ensures.ok c.lower-2.ensures.err,
    )
