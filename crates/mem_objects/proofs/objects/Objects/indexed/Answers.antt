use Rattle.std.proofs.Common.{◌≡◌, ◌∙◌, sym}
use Rattle.std.specs.HashMap as hash
use Rattle.addr_map.specs.Sound.{object_eq}
use Rattle.mem_objects.proofs.HeldLemmas.{look_up_is}
use Rattle.mem_objects.proofs.IndexLemmas.{there_is}
use Rattle.mem_objects.proofs.objects.Objects.indexed.Goals as goal

pub returns-clause-some : goal.returns-clause-some
returns-clause-some c =
    let e : hash.get object_eq c.self.inside.indices c.args.name ≡ c.copied.result = sym (c.copied.ensures ∙ c.get.ensures.value) in
    rw (← c.self.view_is) (there_is (hash.get object_eq c.self.inside.indices) c.self.inside.list.items c.args.name c.copied.result c.self.invariant e)

pub returns-clause-object : goal.returns-clause-object
returns-clause-object c =
    let e : hash.get object_eq c.self.inside.indices c.args.name ≡ c.copied.result = sym (c.copied.ensures ∙ c.get.ensures.value) in
    rw (← c.self.view_is) (look_up_is (hash.get object_eq c.self.inside.indices) c.self.inside.list.items c.args.name c.copied.result c.self.invariant e)
