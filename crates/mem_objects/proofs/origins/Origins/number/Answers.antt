use Rattle.std.proofs.Common.{◌∙◌, sym}
use Rattle.mem_objects.proofs.ProvLemmas.{numbered_some}
use Rattle.mem_objects.proofs.origins.Origins.number.Goals as goal

pub returns-clause-some : goal.returns-clause-some
returns-clause-some c =
    rw (← c.self.view_is) (numbered_some c.self.inside.numbers c.self.inside.list.items c.args.prov c.copied.result c.self.invariant
    (sym (c.copied.ensures ∙ c.get.ensures.value)))
