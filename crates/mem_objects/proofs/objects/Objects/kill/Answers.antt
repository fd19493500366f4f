use Rattle.std.proofs.Common.{◌≡◌, ◌∙◌, Some, sym, refl, arith}
use Rattle.std.specs.HashMap as hash
use Rattle.addr_map.specs.Sound.{object_eq}
use Rattle.mem_objects.specs.Held.{killed, name_at}
use Rattle.mem_objects.proofs.HeldLemmas.{there_at, once_at, set_changed, indexed_set, changed_absent, killed_fits}
use Rattle.mem_objects.proofs.objects.Objects.kill.Goals as goal

pub index_mut-object-requires : goal.index_mut-object-requires
index_mut-object-requires c =
    let at : name_at c.self.inside.list.items c.in-Some.at ≡ Some c.args.name = rw (c.self.view_is ∙ c.find.ensures.same) c.in-Some.ensures.some in
    omega (arith, c.self.inside.list.ok.0, there_at c.self.inside.list.items c.in-Some.at c.args.name at)

pub invariant_of-self : goal.invariant_of-self
invariant_of-self c =
    let at : name_at c.self.inside.list.items c.in-Some.at ≡ Some c.args.name = rw (c.self.view_is ∙ c.find.ensures.same) c.in-Some.ensures.some in
    indexed_set killed (hash.get object_eq c.self.inside.indices) c.self.inside.list.items c.in-Some.at c.args.name c.index_mut-object.result.now c.die.new.self
    (λ h. refl) killed_fits c.self.invariant at c.index_mut-object.ensures.value c.die.ensures

pub returns-in-Some : goal.returns-in-Some
returns-in-Some c =
    let e : c.self.inside.list.items ≡ c.args.self.now = c.self.view_is ∙ c.find.ensures.same in
    let at : name_at c.self.inside.list.items c.in-Some.at ≡ Some c.args.name = rw e c.in-Some.ensures.some in
    rw (← e) (set_changed killed c.self.inside.list.items c.in-Some.at c.args.name c.index_mut-object.result.now c.die.new.self at
    (once_at (hash.get object_eq c.self.inside.indices) c.self.inside.list.items c.args.name c.in-Some.at c.self.invariant at)
    c.index_mut-object.ensures.value c.die.ensures)

pub returns-in_default : goal.returns-in_default
returns-in_default c = c.find.ensures.same ∙ sym (changed_absent killed c.args.self.now c.args.name c.in_default.ensures.object)
