use Rattle.std.proofs.Common.{◌∙◌, arith, subst}
use Rattle.run_control.specs.Search.{Finds}
use Rattle.run_statements.specs.declared.jumps.Jumps.{Jumps}
use Rattle.run_statements.proofs.Casing.{owners_next, so_next}
use Rattle.run_statements.proofs.Jumping.{older_twice}
use Rattle.run_statements.proofs.jumps.Jumps.add_cases.Goals as goal

pub loop-switch-preserved : goal.loop-switch-preserved
loop-switch-preserved c =
    let before = c.loop-switch.invariant in
    let more = c.in_ok-cases.ensures in
    let new : Jumps = record {
      links = c.targets_of.new.links;
      labels = c.loop-switch.self.labels;
      cases = c.push.new.self;
      owners = c.push-in-loop-switch.new.self;
    } in
    record {
      labels = before.labels;
      older = older_twice c.args.self.now.links.items c.loop-switch.self.links.items c.targets_of.new.links.items before.longer before.older more.older;
      longer = omega (arith, before.longer, more.longer);
      cases = so_next c.args.self.now c.loop-switch.self new c.args.switches.now c.loop-switch.switch-index c.switch-item.result c.in_ok-cases.cases
          c.loop-switch-test.true c.switch-item.is (c.if-switch-len.false ∙ c.len.ensures ∙ c.loop-switch.self.cases.ok.0) more.older
          more.longer c.in_ok-push.ensures.items
          (subst (λ s. Finds c.targets_of.new.links.items c.in_ok-cases.cases.items s _) c.get.ensures more.finds) more.range before.cases;
      owners = owners_next c.args.function c.loop-switch.switch-index c.switch-item.result c.args.switches.now c.args.self.now.owners.items
          c.loop-switch.self.owners.items c.push-in-loop-switch.new.self.items c.loop-switch-test.true c.switch-item.is before.owners
          c.in_ok-push-2.ensures.items;
    }
