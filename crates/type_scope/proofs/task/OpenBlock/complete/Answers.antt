use Rattle.std.proofs.Common.{ap, ◌∙◌, map, arith}
use Rattle.c_types.specs.Types.{qualified_of}
use Rattle.type_scope.specs.Working.{block_seen}
use Rattle.type_scope.proofs.Blocks.{retyped_set, retyped_none}
use Rattle.type_scope.proofs.task.OpenBlock.complete.Goals as goal

pub returns-then-decl-len : goal.returns-then-decl-len
returns-then-decl-len c =
    let less = c.if-decl-len.true in
    let len = c.len.ensures in
    λ i. record (block_seen c.args.self.now) {
      objects = (ap (map qualified_of) c.set.ensures ∙ retyped_set c.args.decl c.args.qual (c.args.self.now).objects (omega (arith, less, len))) i;
    }

pub returns-else-decl-len : goal.returns-else-decl-len
returns-else-decl-len c =
    let more = c.if-decl-len.false in
    let len = c.len.ensures in
    λ i. record (block_seen c.args.self.now) {
      objects = retyped_none c.args.decl (qualified_of c.args.qual) (c.args.self.now).objects (omega (arith, more, len)) i;
    }
