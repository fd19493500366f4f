use Rattle.std.proofs.Common.{◌≡◌, ◌∙◌, ap, min, ℕ, List}
use Rattle.std.proofs.lemmas.Result.{err_from_is_err_and}
use Rattle.addr_map.specs.declared.map.Row.{Row}
use Rattle.addr_map.specs.Rows.{row_of}
use Rattle.mem_spec.specs.Acts.{size_in}
use Rattle.mem_objects.specs.Memory.{Kept, store_of}
use Rattle.libc_arguments.proofs.Moving.{kept_known}
use Rattle.libc_heap.proofs.Making.{made_value}
use Rattle.libc_heap.proofs.Resizing.{made_as, unmade_as}
use Rattle.libc_heap.proofs.Carrying.{old_place, carried, but_known}
use Rattle.prov_memory.proofs.KeepLemmas.{keeps_then}
use Rattle.libc_arguments.proofs.Living.{failed_after}
use Rattle.mem_objects.specs.Keeps.{Keeps}
use Rattle.libc_arguments.proofs.Keeping.{keeps_three, keeps_four}
use Rattle.libc_heap.proofs.heap.move_to.Goals as goal

pub copied-requires : goal.copied-requires
copied-requires c =
    let size : c.min-len.result ≡ min (size_in (row_of c.args.m.now.rows c.args.object)) c.args.size =
    c.min-len.ensures ∙ ap (λ (n : ℕ). min n c.args.size)
    (c.size_in.ensures ∙ ap size_in (c.row.ensures.row ∙ ap (λ (rs : List Row). row_of rs c.args.object) c.map.ensures)) in
    old_place c.args.m.now c.created.new.m c.settle_start.new.m c.args.name c.args.object c.args.addr c.in_ok-new.new.addr c.args.size c.min-len.result
    c.requires c.in_ok-new.ensures.born (c.in_ok-new.ensures.rows (made_value c.in_ok-new.new)) c.settle_start.ensures.rest size

pub returns-in_err-add_moved-clause-made : goal.returns-in_err-add_moved-clause-made
returns-in_err-add_moved-clause-made c =
    let p = err_from_is_err_and c.from_residual.result c.from_residual.ensures.1 in
    rw (p.1, p.2) (λ io known. (store_of c.args.m.now io, tt))

pub returns-in_err-scratch-clause-made : goal.returns-in_err-scratch-clause-made
returns-in_err-scratch-clause-made c =
    let p = err_from_is_err_and c.from_residual-in_err-scratch.result c.from_residual-in_err-scratch.ensures.1 in
    rw (p.1, p.2) (λ io known. (store_of c.args.m.now io, tt))

pub returns-in_err-new-clause-made : goal.returns-in_err-new-clause-made
returns-in_err-new-clause-made c =
    let p = err_from_is_err_and c.from_residual-in_err-new.result c.from_residual-in_err-new.ensures.1 in
    rw (p.1, p.2) (λ io known.
    unmade_as c.args.m.now c.created.new.m c.args.name c.args.size c.in_err-new.field-0.0 c.created.new.t io c.in_err-new.ensures.rows
    (c.in_err-new.ensures.exact io known))

pub returns-in_err-block-clause-made : goal.returns-in_err-block-clause-made
returns-in_err-block-clause-made c =
    let p = err_from_is_err_and c.from_residual-in_err-block.result c.from_residual-in_err-block.ensures.1 in
    rw (p.1, p.2) (λ io known. (store_of c.args.m.now io, tt))

pub returns-clause-made : goal.returns-clause-made
returns-clause-made c = λ io known.
    made_as c.args.m.now c.created.new.m c.args.name c.args.size c.in_ok-new.new c.created.new.t io (c.in_ok-new.ensures.rows (made_value c.in_ok-new.new))
    (c.in_ok-new.ensures.exact io known)

pub returns-clause-rows : goal.returns-clause-rows
returns-clause-rows c = λ made.
    c.kill.ensures.rows ∙ c.fill.ensures.rows ∙ ap (λ (m : Kept). m.rows) c.in_ok-block.ensures.kept ∙ ap (λ (m : Kept). m.rows) c.settle_start.ensures.rest ∙
    c.in_ok-new.ensures.rows (made_value c.in_ok-new.new)

pub returns-clause-store : goal.returns-clause-store
returns-clause-store c = λ io can settle.
    let size : c.min-len.result ≡ min (size_in (row_of c.args.m.now.rows c.args.object)) c.args.size =
    c.min-len.ensures ∙ ap (λ (n : ℕ). min n c.args.size)
    (c.size_in.ensures ∙ ap size_in (c.row.ensures.row ∙ ap (λ (rs : List Row). row_of rs c.args.object) c.map.ensures)) in
    carried c.args.m.now c.created.new.m c.settle_start.new.m c.copied.new.m c.fill.new.m c.kill.new.self io c.args.name c.args.object c.args.addr c.args.size
    c.min-len.result c.args.settles c.in_ok-new.new c.created.new.t c.kill.new.t c.in_ok-block.block.cells can settle c.requires c.in_ok-new.ensures.born
    (c.in_ok-new.ensures.rows (made_value c.in_ok-new.new)) (c.in_ok-new.ensures.exact io can.known) size (λ able. c.settle_start.ensures.store able io)
    c.settle_start.ensures.rest
    c.in_ok-block.ensures.bytes (λ tagged. c.in_ok-block.ensures.store tagged io) c.in_ok-block.ensures.len c.in_ok-block.ensures.kept c.fill.ensures.exact
    (c.kill.ensures.exact io)

pub returns-clause-known : goal.returns-clause-known
returns-clause-known c = λ known.
    let there = but_known c.created.new.m c.settle_start.new.m c.settle_start.ensures.rest (c.in_ok-new.ensures.known known) in
    c.kill.ensures.known (c.fill.ensures.known (kept_known c.settle_start.new.m c.copied.new.m c.in_ok-block.ensures.kept there)
    (c.in_ok-block.ensures.pieces there))

pub returns-in_err-block-clause-failed : goal.returns-in_err-block-clause-failed
returns-in_err-block-clause-failed c =
    failed_after c.from_residual-in_err-block.result c.args.m.now c.settle_start.new.m c.copied.new.m
    (keeps_then c.args.m.now c.created.new.m c.settle_start.new.m c.created.ensures.keeps c.settle_start.ensures.keeps) c.copied.ensures.keeps

pub returns-clause-kept : goal.returns-clause-kept
returns-clause-kept c = λ known tagged.
    let there = but_known c.created.new.m c.settle_start.new.m c.settle_start.ensures.rest (c.in_ok-new.ensures.known known) in
    let tags = c.settle_start.ensures.keeps.tagged (c.created.ensures.keeps.tagged tagged) in
    keeps_then c.args.m.now c.created.new.m c.kill.new.self c.created.ensures.keeps
    (keeps_four c.created.new.m c.settle_start.new.m c.copied.new.m c.fill.new.m c.kill.new.self c.settle_start.ensures.keeps c.copied.ensures.keeps
    (c.fill.ensures.kept tt (c.in_ok-block.ensures.pieces there) (c.in_ok-block.ensures.tags tags)) c.kill.ensures.kept)

pub returns-clause-whole : goal.returns-clause-whole
returns-clause-whole c = λ known tagged.
    let there = but_known c.created.new.m c.settle_start.new.m c.settle_start.ensures.rest (c.in_ok-new.ensures.known known) in
    let tags = c.settle_start.ensures.keeps.tagged (c.created.ensures.keeps.tagged tagged) in
    let keeps : Keeps c.created.new.m c.kill.new.self =
    keeps_four c.created.new.m c.settle_start.new.m c.copied.new.m c.fill.new.m c.kill.new.self c.settle_start.ensures.keeps c.copied.ensures.keeps
    (c.fill.ensures.kept tt (c.in_ok-block.ensures.pieces there) (c.in_ok-block.ensures.tags tags)) c.kill.ensures.kept in
    keeps.made c.in_ok-new.new.prov c.in_ok-new.ensures.whole

pub returns-in_err-block-clause-kept : goal.returns-in_err-block-clause-kept
returns-in_err-block-clause-kept c = λ known tagged.
    keeps_three c.args.m.now c.created.new.m c.settle_start.new.m c.copied.new.m c.created.ensures.keeps c.settle_start.ensures.keeps c.copied.ensures.keeps
