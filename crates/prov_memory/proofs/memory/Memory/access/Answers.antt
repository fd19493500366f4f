use Rattle.std.proofs.Common.{◌+◌, ◌≤◌, None, refl, arith}
use Rattle.exposure.specs.declared.prov.Prov.TheVariants.{Whole}
use Rattle.mem_objects.proofs.AccessLemmas.{access_done, access_raises, whole_found, whole_settles, whole_items}
use Rattle.prov_memory.proofs.memory.Memory.access.Goals as goal

pub returns-clause-found : goal.returns-clause-found
returns-clause-found c = whole_found c.reach.result c.args.self.now c.in-Whole.name c.args.len c.reach.ensures.found

pub returns-clause-settles : goal.returns-clause-settles
returns-clause-settles c = whole_settles c.reach.result c.args.self.now c.args.prov c.in-Whole.name c.args.len c.reach.ensures.found

pub returns-clause-items : goal.returns-clause-items
returns-clause-items c =
    whole_items c.reach.result c.args.self.now c.in-Whole.name c.args.len c.args.t.now c.note.new.self c.reach.ensures.found c.note.ensures

pub returns-clause-exact : goal.returns-clause-exact
returns-clause-exact c =
    let m = c.args.self.now in
    let some : 0 + 1 ≤ c.args.addr = omega arith in
    rw c.in-Whole.is (access_done c.reach.result m.rows m c.args.len c.args.align c.args.addr (Whole c.in-Whole.name) c.in-Whole.name None some (λ io. refl)
    c.reach.ensures.found c.reach.ensures.exact)

pub returns-clause-raises : goal.returns-clause-raises
returns-clause-raises c =
    let m = c.args.self.now in
    let some : 0 + 1 ≤ c.args.addr = omega arith in
    rw c.in-Whole.is (access_raises c.reach.result m.rows m c.args.len c.args.align c.args.addr (Whole c.in-Whole.name) c.in-Whole.name None some
    (λ io. refl) c.reach.ensures.raises)
