use Rattle.std.proofs.Common.{◌∙◌, sym, ap₂}
use Rattle.mem_objects.specs.Memory.{store_of}
use Rattle.libc_arguments.specs.Parts.{kept_after}
use Rattle.libc_arguments.proofs.Checking.{after_kept}
use Rattle.libc_arguments.proofs.arguments.kept.Goals as goal

pub returns : goal.returns
returns c = λ io. c.kept_after.ensures ∙ ap₂ (λ is k. kept_after is c.args.id k) c.items.ensures c.kept.ensures ∙ sym
    (after_kept c.args.t.now (store_of c.args.m.now io) c.args.id)
