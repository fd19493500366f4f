use Rattle.std.proofs.Common.{◌∙◌, ap, subst, Option}
use Rattle.std.specs.Prelude.{IfSome, length}
use Rattle.mem_spec.specs.Acts.{whole}
use Rattle.mem_objects.specs.Memory.{Kept}
use Rattle.libc_arguments.specs.declared.arguments.Range.{Range}
use Rattle.libc_arguments.specs.Writes.{IsPlace}
use Rattle.libc_arguments.proofs.Writing.{place_stays}
use Rattle.libc_arguments.proofs.Moving.{kept_place, moving_is, moved_even, moved_noted, move_done}
use Rattle.libc_arguments.proofs.Living.{failed_after}
use Rattle.prov_memory.proofs.KeepLemmas.{keeps_then}
use Rattle.libc_arguments.proofs.Keeping.{keeps_three}
use Rattle.libc_strings.proofs.ranges.move_bytes.Goals as goal

pub put_over-requires-clause-place : goal.put_over-requires-clause-place
put_over-requires-clause-place c =
    kept_place c.settle-2.new.m c.copied.new.m c.args.to c.in-Some.target c.in_ok-block.ensures.kept
    (place_stays c.args.m.now c.settle-2.new.m c.args.to c.in-Some.target c.settle-2.ensures.lives c.settle-2.ensures.rows
    (subst (λ (o : Option Range). IfSome o (IsPlace c.args.m.now c.args.to))
    (moving_is c.args.ranges.target c.args.ranges.source c.in-Some.target c.in-Some.source c.in-Some.ensures).1 c.requires.to))

pub put_over-requires-clause-len : goal.put_over-requires-clause-len
put_over-requires-clause-len c =
    moved_even c.args.ranges.target c.args.ranges.source c.in-Some.target c.in-Some.source (length c.in_ok-block.block.cells) c.in-Some.ensures
    c.requires.even c.in_ok-block.ensures.len

pub returns-clause-items : goal.returns-clause-items
returns-clause-items c = moved_noted c.args.ranges.target c.args.ranges.source c.in-Some.target c.in-Some.source c.args.t.now c.add.new.self c.add_write.new.t
    c.read_of.result c.in-Some.ensures c.requires.even c.read_of.ensures c.in_ok-add.ensures.ok c.in_ok-add_write.ensures

pub returns-clause-store : goal.returns-clause-store
returns-clause-store c = λ io none typed able.
    move_done c.args.m.now c.settle-2.new.m c.copied.new.m c.put_over.new.m io c.args.ranges.target c.args.ranges.source c.in-Some.target c.in-Some.source
    c.in_ok-block.block.cells c.args.t.now c.add.new.self c.add_write.new.t c.read_of.result c.in-Some.ensures c.read_of.ensures c.in_ok-add.ensures.ok
    c.in_ok-add_write.ensures
    c.settle-2.ensures.lives (c.settle-2.ensures.store io) c.settle-2.ensures.tagged c.in_ok-block.ensures.bytes (λ now. c.in_ok-block.ensures.store now io)
    c.in_ok-block.ensures.kept (c.put_over.ensures.store io whole tt) none typed able

pub returns-clause-rows : goal.returns-clause-rows
returns-clause-rows c = c.put_over.ensures.rows ∙ ap (λ (m : Kept). m.rows) c.in_ok-block.ensures.kept ∙ c.settle-2.ensures.rows

pub returns-in_err-block-clause-failed : goal.returns-in_err-block-clause-failed
returns-in_err-block-clause-failed c =
    failed_after c.from_residual-in_err-block.result c.args.m.now c.settle-2.new.m c.copied.new.m c.settle-2.ensures.keeps c.copied.ensures.keeps

pub returns-in_err-block-clause-kept : goal.returns-in_err-block-clause-kept
returns-in_err-block-clause-kept c = λ known tagged.
    keeps_then c.args.m.now c.settle-2.new.m c.copied.new.m c.settle-2.ensures.keeps c.copied.ensures.keeps

pub returns-clause-kept : goal.returns-clause-kept
returns-clause-kept c = λ known tagged.
    keeps_three c.args.m.now c.settle-2.new.m c.copied.new.m c.put_over.new.m c.settle-2.ensures.keeps c.copied.ensures.keeps
    (c.put_over.ensures.kept tt (c.in_ok-block.ensures.pieces (c.settle-2.ensures.known known))
    (c.in_ok-block.ensures.tags (c.settle-2.ensures.keeps.tagged tagged)))
