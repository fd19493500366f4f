use Rattle.std.proofs.Common.{refl, sym, ◌∙◌}
use Rattle.type_name_space.proofs.Links.{inner_taken}
use Rattle.type_name_space.proofs.Scopes.{left_whole}
use Rattle.type_name_space.proofs.space.Space.take_inner.Goals as goal

pub returns-then-is_inner-clause-rest : goal.returns-then-is_inner-clause-rest
returns-then-is_inner-clause-rest g c =
    (inner_taken c.args.depth c.args.self.now c.take_last.new.self c.take_last.result (sym c.is_inner.ensures ∙ c.if-is_inner.true) c.take_last.ensures).0

pub returns-else-is_inner-clause-taken : goal.returns-else-is_inner-clause-taken
returns-else-is_inner-clause-taken g c = (refl, left_whole c.args.depth c.args.self.now (sym c.is_inner.ensures ∙ c.if-is_inner.false))
