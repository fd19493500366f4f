use Rattle.std.proofs.Common.{◌<◌, ◌^◌, sym, ◌∙◌}
use Rattle.c_typed.specs.Tree.{tree_of, size}
use Rattle.c_typed.specs.Decide.{is_permitted}
use Rattle.seq_order.specs.Marked.{taken_in, done_in}
use Rattle.run_listing.proofs.Seeking.{seeks_on}
use Rattle.run_listing.proofs.strayed.first_permitted.Goals as goal

pub loop-at-preserved : goal.loop-at-preserved
loop-at-preserved c =
    seeks_on (size (tree_of c.args.root.now) < 2 ^ 32) (is_permitted (tree_of c.args.root.now) (taken_in c.args.taken.now) (done_in c.args.done.now))
    (taken_in c.args.taken.now) c.args.entries.now c.loop-at.rest.now c.behind-rest.result.now
    c.in-Some.at c.in-Some.due c.in-Some.ensures (λ few. sym (c.is_permitted.ensures few) ∙ c.if-is_permitted.false) c.behind-rest.ensures c.loop-at.invariant
