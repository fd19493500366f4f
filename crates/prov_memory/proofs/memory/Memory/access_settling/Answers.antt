use Rattle.std.proofs.Common.{◌+◌, ◌≤◌, arith}
use Rattle.std.proofs.lemmas.Result.{err_from_is_err_and}
use Rattle.mem_objects.proofs.AccessLemmas.{access_done, access_raises, object_raises}
use Rattle.prov_memory.proofs.memory.Memory.access_settling.Goals as goal

pub returns-in_err-target-clause-raises : goal.returns-in_err-target-clause-raises
returns-in_err-target-clause-raises c =
    let m = c.args.self.now in
    let some : 0 + 1 ≤ c.args.addr = omega (arith, c.requires) in
    let p = err_from_is_err_and c.from_residual.result c.from_residual.ensures.1 in
    rw (p.1, p.2) (object_raises m.rows m c.args.len c.args.align c.args.addr c.args.prov _ some c.in_err-target.ensures.raises)

pub returns-clause-exact : goal.returns-clause-exact
returns-clause-exact c =
    let m = c.args.self.now in
    let some : 0 + 1 ≤ c.args.addr = omega (arith, c.requires) in
    access_done c.reach.result m.rows m c.args.len c.args.align c.args.addr c.args.prov c.in_ok-target.target.0 c.in_ok-target.target.1 some
    c.in_ok-target.ensures.found c.reach.ensures.found c.reach.ensures.exact

pub returns-clause-raises : goal.returns-clause-raises
returns-clause-raises c =
    let m = c.args.self.now in
    let some : 0 + 1 ≤ c.args.addr = omega (arith, c.requires) in
    access_raises c.reach.result m.rows m c.args.len c.args.align c.args.addr c.args.prov c.in_ok-target.target.0 c.in_ok-target.target.1 some
    c.in_ok-target.ensures.found c.reach.ensures.raises
