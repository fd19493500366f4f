use Rattle.std.proofs.Common.{◌≡◌, true, false, rules}
use Rattle.mem_objects.specs.Memory.{store_of}
use Rattle.prov_memory.proofs.PointerLemmas.{resolved_live, resolved_dead, resolved_number}
use Rattle.prov_memory.proofs.KeepLemmas.{keeps_none}
use Rattle.prov_memory.proofs.memory.Memory.resolved.Goals as goal

pub returns-in_default-clause-exact : goal.returns-in_default-clause-exact
returns-in_default-clause-exact c =
    rw c.in_default.is (λ io. resolved_number c.args.self.now.rows c.args.who c.in_ok-prov.prov c.args.number (store_of c.args.self.now io)
    (c.in_ok-prov.ensures.exact io))

pub returns-then-is_dead-clause-raises : goal.returns-then-is_dead-clause-raises
returns-then-is_dead-clause-raises c =
    let on : c.is_dead.result ≡ true = search rules in
    rw (c.in-Some.is, ← c.prov-prov.ensures) (λ io.
    resolved_dead c.args.self.now.rows c.args.who c.prov-prov.result c.args.number (store_of c.args.self.now io) c.is_dead.result
    (c.is_dead.ensures io) on)

pub returns-clause-exact : goal.returns-clause-exact
returns-clause-exact c =
    let off : c.is_dead.result ≡ false = search rules in
    rw (c.in-Some.is, ← c.prov-prov.ensures) (λ io.
    resolved_live c.args.self.now.rows c.args.who c.prov-prov.result c.args.number (store_of c.args.self.now io) c.is_dead.result
    (c.is_dead.ensures io) off)

pub returns-then-is_dead-clause-kept : goal.returns-then-is_dead-clause-kept
returns-then-is_dead-clause-kept c = keeps_none c.args.self.now

pub returns-clause-kept : goal.returns-clause-kept
returns-clause-kept c = keeps_none c.args.self.now
