use Rattle.std.proofs.Common.{◌≡◌, ◌∙◌, sym}
use Rattle.ub_base.specs.declared.names.Item.TheVariants.{Dies, Narrow}
use Rattle.exposure.specs.Cells.{kept_in, is_other}
use Rattle.mem_objects.specs.Memory.{store_of}
use Rattle.mem_spec.specs.Store.{settled}
use Rattle.libc_heap.proofs.Freeing.{freed_start, settled_here, two_items, rows_of_rest}
use Rattle.prov_memory.proofs.KeepLemmas.{keeps_then}
use Rattle.libc_heap.proofs.heap.free_start.Goals as goal

pub returns-then-narrow-clause-exact : goal.returns-then-narrow-clause-exact
returns-then-narrow-clause-exact c = λ io has.
    let settles : store_of c.narrow.new.self io ≡ settled (store_of c.args.m.now io) c.args.id c.args.start = c.if-narrow.ensures.store has io in
    freed_start c.args.addr c.args.id c.args.past c.args.start c.args.clause c.args.m.now c.narrow.new.self c.kill.new.self c.add-2.new.self c.kill.new.t io
    c.requires.start
    (sym c.is_heap_start-is_start.ensures ∙ c.if-is_start.true)
    (settled_here c.narrow.result (is_other (kept_in c.args.m.now.cells c.args.id) c.args.start) c.if-narrow.true c.narrow.ensures.answer)
    settles
    (c.kill.ensures.rows ∙ rows_of_rest c.narrow.new.self c.args.m.now c.narrow.ensures.rest)
    (c.kill.ensures.exact io)
    (two_items c.args.t.now c.add.new.self c.add-2.new.self (Narrow c.args.id c.args.start) (Dies c.args.start) c.requires.items c.in_ok-add.ensures.ok
    c.in_ok-add-2.ensures.ok)

pub returns-then-narrow-clause-kept : goal.returns-then-narrow-clause-kept
returns-then-narrow-clause-kept c =
    keeps_then c.args.m.now c.narrow.new.self c.kill.new.self c.narrow.ensures.kept c.kill.ensures.kept
