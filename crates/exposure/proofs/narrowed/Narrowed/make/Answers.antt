use Rattle.std.proofs.Common.{sym, ◌∙◌}
use Rattle.exposure.proofs.CellLemmas.{none_from, makes, makes_none}
use Rattle.exposure.proofs.narrowed.Narrowed.make.Goals as goal

pub returns-in_ok-insert-clause-ok : goal.returns-in_ok-insert-clause-ok
returns-in_ok-insert-clause-ok c =
    rw (← c.self.view_is) (makes c.self.inside.cells.entries c.insert.new.self.entries c.args.id
    (none_from _ (sym c.contains_key.ensures ∙ c.if-not-contains_key.true)) c.in_ok-insert.ensures.updates.0)

pub returns-else-not-contains_key-clause-ok : goal.returns-else-not-contains_key-clause-ok
returns-else-not-contains_key-clause-ok c =
    rw (← c.self.view_is) (makes_none c.self.inside.cells.entries c.args.id (sym c.contains_key.ensures ∙ c.if-not-contains_key.false))
