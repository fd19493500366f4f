use Rattle.std.proofs.Common.{◌∙◌, sym, ap, ℕ, List, Option, Some}
use Rattle.std.proofs.lemmas.Result.{err_from_is_err_and}
use Rattle.mem_spec.specs.Acts.{load_block}
use Rattle.mem_spec.specs.Script.{Done}
use Rattle.mem_spec.specs.Store.{TaggedByte}
use Rattle.mem_objects.specs.Memory.{store_of}
use Rattle.mem_objects.specs.Pieces.{seen}
use Rattle.c_model.specs.Values.{Whole}
use Rattle.run_acts.proofs.Acts.{done_give, raise_given}
use Rattle.run_values.proofs.Keeping.{block_of}
use Rattle.run_acts.proofs.storage.load_whole.Goals as goal

pub returns-clause-exact : goal.returns-clause-exact
returns-clause-exact c = λ has tagged io.
    let old = c.args.m.now in
    let new = c.load_block.new.self in
    let p = c.args.place in
    let b = c.in_ok-block.block in
    done_give old.rows (load_block old.rows c.args.size c.args.align p.addr p.prov) (λ (bs : List TaggedByte). Whole bs (Some p.addr)) (store_of old io)
    (store_of new io) (seen new b.cells) c.load_block.new.t (c.in_ok-block.ensures.exact has tagged io)
    ∙ ap (λ (o : Option ℕ). Done (Whole (seen new b.cells) o) c.load_block.new.t (store_of new io)) (sym c.in_ok-block.ensures.source)

pub returns-in_err-block-clause-raises : goal.returns-in_err-block-clause-raises
returns-in_err-block-clause-raises c =
    let e = err_from_is_err_and c.from_residual.result c.from_residual.ensures.1 in
    let old = c.args.m.now in
    let p = c.args.place in
    rw (e.1, e.2) (raise_given c.in_err-block.field-0.0 old.rows (load_block old.rows c.args.size c.args.align p.addr p.prov)
    (λ (bs : List TaggedByte). Whole bs (Some p.addr)) (store_of old) c.in_err-block.ensures.raises)

pub returns-clause-made : goal.returns-clause-made
returns-clause-made c = λ sound tagged.
    block_of c.load_block.new.self c.in_ok-block.block (c.in_ok-block.ensures.known sound.known) (c.in_ok-block.ensures.cells tagged)
