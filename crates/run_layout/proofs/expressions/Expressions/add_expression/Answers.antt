use Rattle.std.proofs.Common.{rules, arith, ◌≡◌, ◌≤◌, [], length, if◌then◌else◌, refl}
use Rattle.std.specs.Prelude.{is_ok}
use Rattle.run_layout.specs.Named.{IsListedOf, IsExpressionOf}
use Rattle.run_layout.proofs.Grown.{nothing_grown, extended, all_grown, expression_pushed, root_value}
use Rattle.run_layout.proofs.NamedLemmas.{pushed_longer, one_pushed, all_pushed, entries_named, within_grown}
use Rattle.run_layout.proofs.InTurn.{expression_added}
use Rattle.run_layout.proofs.Termed.{one_termed}
use Rattle.run_layout.proofs.expressions.Expressions.add_expression.Goals as goal

pub invariant_of-self : goal.invariant_of-self
invariant_of-self c =
    let tables = c.args.self.now.tables in
    let entries = c.args.self.now.laid.entries.items in
    let longer = c.extend_from_slice.new.self.items in
    let nodes = c.requires.laid_out in
    record {
      laid_out = all_grown tables tables entries longer (if is_ok c.extend_from_slice.result then c.args.entries.now else []) c.args.self.now.laid.all.items
          (nothing_grown tables)
          (extended (is_ok c.extend_from_slice.result) entries longer c.args.entries.now c.extend_from_slice.ensures.items) c.args.self.now.laid_out;
      named = all_pushed (IsListedOf tables) (is_ok c.extend_from_slice.result) entries longer c.args.entries.now c.extend_from_slice.ensures.items
          c.args.self.now.named
          (entries_named nodes.0 c.args.root.now tables c.args.nodes.now c.args.entries.now nodes.1 nodes.2);
      within = within_grown tables tables entries longer c.args.self.now.laid.all.items (nothing_grown tables)
          (pushed_longer (is_ok c.extend_from_slice.result) entries longer c.args.entries.now c.extend_from_slice.ensures.items) c.args.self.now.within;
    }

pub invariant_of-self-2 : goal.invariant_of-self-2
invariant_of-self-2 c =
    let tables = c.args.self.now.tables in
    let entries = c.args.self.now.laid.entries.items in
    let longer = c.extend_from_slice.new.self.items in
    let nodes = c.requires.laid_out in
    let first : c.len-first.result ≡ length entries = search rules in
    let end : c.len-end.result ≡ length longer = search rules in
    let more : length entries ≤ length longer =
    pushed_longer (is_ok c.extend_from_slice.result) entries longer c.args.entries.now c.extend_from_slice.ensures.items in
    record {
      laid_out = expression_pushed (is_ok c.push.result) tables entries longer c.args.entries.now c.args.self.now.laid.all.items c.push.new.self.items
          nodes.0 c.args.nodes.now _ c.push.ensures.items c.in_ok-extend_from_slice.ensures.items nodes.1 c.requires.roomed nodes.2 nodes.3
          (root_value nodes.0 c.args.root.now c.args.nodes.now c.index-nodes-0.result nodes.1) first end
          (all_grown tables tables entries longer c.args.entries.now c.args.self.now.laid.all.items (nothing_grown tables)
          c.in_ok-extend_from_slice.ensures.items c.args.self.now.laid_out);
      named = all_pushed (IsListedOf tables) (is_ok c.extend_from_slice.result) entries longer c.args.entries.now c.extend_from_slice.ensures.items
          c.args.self.now.named
          (entries_named nodes.0 c.args.root.now tables c.args.nodes.now c.args.entries.now nodes.1 nodes.2);
      within = one_pushed (IsExpressionOf tables longer) (is_ok c.push.result) c.args.self.now.laid.all.items c.push.new.self.items _ c.push.ensures.items
          (within_grown tables tables entries longer c.args.self.now.laid.all.items (nothing_grown tables) more c.args.self.now.within) (
            omega (arith, first, end, more),
            omega (arith, end),
            nodes.3.within,
            omega (arith, c.requires.counted, nodes.1.count),
          );
    }

pub returns-clause-listed : goal.returns-clause-listed
returns-clause-listed c = λ terms old given.
    let entries = c.args.self.now.laid.entries.items in
    let longer = c.extend_from_slice.new.self.items in
    let first : c.len-first.result ≡ length entries = search rules in
    let end : c.len-end.result ≡ length longer = search rules in
    one_termed c.args.self.now.tables terms entries longer c.args.entries.now c.args.self.now.laid.all.items c.push.new.self.items _
    c.in_ok-extend_from_slice.ensures.items c.in_ok-push.ensures.items first end c.args.self.now.within given old

pub returns-clause-added : goal.returns-clause-added
returns-clause-added c = λ firsts nodes due chosen numbers.
    let entries = c.args.self.now.laid.entries.items in
    let longer = c.extend_from_slice.new.self.items in
    let first : c.len-first.result ≡ length entries = search rules in
    let end : c.len-end.result ≡ length longer = search rules in
    expression_added firsts c.args.root.now c.args.self.now.tables c.args.self.now.laid _ longer c.args.entries.now c.args.nodes.now _
    c.in_ok-extend_from_slice.ensures.items refl c.in_ok-push.ensures.items refl nodes c.requires.roomed due chosen
    (root_value firsts c.args.root.now c.args.nodes.now c.index-nodes-0.result nodes) first end numbers
