use Rattle.std.proofs.Common.{sym, ap, ◌∙◌}
use Rattle.c_typed.specs.Tree.{tree_of}
use Rattle.seq_order.specs.Marked.{taken_in, done_in}
use Rattle.run_listing.specs.Along.{place_of}
use Rattle.run_listing.proofs.Seeking.{none_canonical, left_canonical}
use Rattle.run_listing.proofs.strayed.next_left.Goals as goal

pub returns-in_default : goal.returns-in_default
returns-in_default c = record {
  next = λ few all. none_canonical (tree_of c.args.root.now) (taken_in c.args.taken.now) (done_in c.args.done.now) c.args.entries.now all
      (sym (ap place_of c.in_default.is) ∙ c.first_left.ensures.first);
  listed = tt;
}

pub returns-in_default-kind : goal.returns-in_default-kind
returns-in_default-kind c = record {
  next = λ few all. left_canonical (tree_of c.args.root.now) (taken_in c.args.taken.now) (done_in c.args.done.now) c.args.entries.now all
      c.in-Some.first.now.place c.in_default-kind.not-Body c.in-Some.ensures.first;
  listed = c.in-Some.ensures.listed;
}
