use Rattle.c_types.proofs.Laid.{fresh_at, known_at, seen_incomplete, seen_complete, seen_done, completes_laid}
use Rattle.c_types.proofs.table.Tags.complete.Goals as goal

pub returns-in_default-clause-value : goal.returns-in_default-clause-value
returns-in_default-clause-value c =
    seen_incomplete c.self.inside.rows c.args.self.now c.args.tag c.kind-kind.result c.args.members c.self.view_is
    (fresh_at c.self.inside.rows c.args.self.now c.args.tag c.kind-kind.result c.self.view_is c.self.invariant c.requires.declared c.kind-kind.ensures
    c.requires.incomplete)
    (known_at c.self.inside.rows c.as_slice.result.now c.kind-kind.result c.args.members c.tag_extent.result _ c.as_slice.ensures c.tag_extent.ensures.value
    c.in_default.is)

pub invariant_of-self : goal.invariant_of-self
invariant_of-self c =
    rw (c.set.ensures) (completes_laid c.self.inside.rows c.args.tag c.kind-kind.result c.args.members
    (fresh_at c.self.inside.rows c.args.self.now c.args.tag c.kind-kind.result c.self.view_is c.self.invariant c.requires.declared c.kind-kind.ensures
    c.requires.incomplete)
    c.in-Some.extent (known_at c.self.inside.rows c.as_slice.result.now c.kind-kind.result c.args.members c.tag_extent.result _ c.as_slice.ensures
    c.tag_extent.ensures.value c.in-Some.is) c.in-Some.ensures.sound)

pub returns-clause-value : goal.returns-clause-value
returns-clause-value c =
    seen_complete c.self.inside.rows c.args.self.now c.args.tag c.kind-kind.result c.args.members c.in-Some.extent c.self.view_is
    (fresh_at c.self.inside.rows c.args.self.now c.args.tag c.kind-kind.result c.self.view_is c.self.invariant c.requires.declared c.kind-kind.ensures
    c.requires.incomplete)
    (known_at c.self.inside.rows c.as_slice.result.now c.kind-kind.result c.args.members c.tag_extent.result _ c.as_slice.ensures c.tag_extent.ensures.value
    c.in-Some.is) c.in-Some.ensures.sound

pub returns-clause-done : goal.returns-clause-done
returns-clause-done c =
    rw (c.set.ensures) (seen_done c.self.inside.rows c.args.self.now c.args.tag c.kind-kind.result c.args.members c.in-Some.extent c.self.view_is
    (fresh_at c.self.inside.rows c.args.self.now c.args.tag c.kind-kind.result c.self.view_is c.self.invariant c.requires.declared c.kind-kind.ensures
    c.requires.incomplete))
