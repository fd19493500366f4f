use Rattle.std.proofs.Common.{arith}
use Rattle.run_layout.proofs.Grown.{tables_grown}
use Rattle.run_layout.proofs.NamedLemmas.{named_grown, within_grown}
use Rattle.run_layout.proofs.expressions.Expressions.add_chosen.Goals as goal

pub invariant_of-self : goal.invariant_of-self
invariant_of-self c =
    let old = c.args.self.now.tables in
    let new = c.add_chosen.new.self in
    let entries = c.args.self.now.laid.entries.items in
    let all = c.args.self.now.laid.all.items in
    record {
      laid_out = tables_grown old new entries all c.add_chosen.ensures.grown c.args.self.now.laid_out;
      named = named_grown old new entries c.add_chosen.ensures.grown c.args.self.now.named;
      within = within_grown old new entries entries all c.add_chosen.ensures.grown (omega arith) c.args.self.now.within;
    }
