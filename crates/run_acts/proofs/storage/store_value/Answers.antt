use Rattle.std.proofs.Common.{◌≡◌, ◌∙◌, sym, ap, true, false, List, rules}
use Rattle.std.proofs.lemmas.Result.{err_from_is_err_and}
use Rattle.ub_base.specs.declared.names.Item.{Item}
use Rattle.mem_spec.specs.Acts.{store, whole}
use Rattle.mem_spec.specs.Script.{Done}
use Rattle.mem_objects.specs.Memory.{store_of}
use Rattle.mem_objects.specs.Pieces.{seen}
use Rattle.c_model.specs.Nodes.{overlap_inexactly}
use Rattle.c_model.specs.Values.{Nothing}
use Rattle.run_values.specs.Views.{pointer_at}
use Rattle.run_acts.proofs.Stores.{apart_done, overlap_raised, unstored_raised, put_none}
use Rattle.std.proofs.Common.{subst}
use Rattle.mem_objects.specs.declared.value.Value.{Value as Held}
use Rattle.run_values.specs.Kept.{IsOf}
use Rattle.prov_memory.proofs.KeepLemmas.{keeps_none}
use Rattle.run_acts.proofs.storage.store_value.Goals as goal

pub returns-in_default-clause-exact : goal.returns-in_default-clause-exact
returns-in_default-clause-exact c = λ has io.
    let m = c.args.m.now in
    put_none m m.rows c.args.initializing c.args.size c.args.align (pointer_at c.args.place) c.args.value.now (store_of m io) c.in_default.not-Block
    ∙ ap (λ (is : List Item). Done Nothing is (store_of m io)) (sym c.requires)

pub returns-in_err-store-clause-raises : goal.returns-in_err-store-clause-raises
returns-in_err-store-clause-raises c =
    let e = err_from_is_err_and c.from_residual.result c.from_residual.ensures.1 in
    let m = c.args.m.now in
    let b = c.in-Block.block in
    let p = c.args.place in
    rw (e.1, e.2, c.in-Block.is) (λ has io.
    unstored_raised m.rows (store m.rows c.args.initializing whole c.args.align p.addr p.prov (seen m b.cells))
    (overlap_inexactly c.args.size p.addr b.source) (store_of m io) c.in_err-store.field-0.0 (c.in_err-store.ensures.raises whole tt io))

pub returns-then-overlaps-clause-raises : goal.returns-then-overlaps-clause-raises
returns-then-overlaps-clause-raises c =
    let m = c.args.m.now in
    let new = c.store.new.self in
    let b = c.in-Block.block in
    let p = c.args.place in
    let on : c.overlaps.result ≡ true = search rules in
    rw c.in-Block.is (λ has io.
    overlap_raised m.rows (store m.rows c.args.initializing whole c.args.align p.addr p.prov (seen m b.cells))
    (overlap_inexactly c.args.size p.addr b.source) (store_of m io) (store_of new io) c.store.new.t
    (sym (c.overlaps.ensures ∙ ap (overlap_inexactly c.args.size p.addr) c.source.ensures) ∙ on) (c.in_ok-store.ensures.exact has tt whole tt io))

pub returns-clause-exact : goal.returns-clause-exact
returns-clause-exact c =
    let m = c.args.m.now in
    let new = c.store.new.self in
    let b = c.in-Block.block in
    let p = c.args.place in
    let off : c.overlaps.result ≡ false = search rules in
    rw c.in-Block.is (λ has io.
    apart_done m.rows (store m.rows c.args.initializing whole c.args.align p.addr p.prov (seen m b.cells))
    (overlap_inexactly c.args.size p.addr b.source) (store_of m io) (store_of new io) c.store.new.t
    (sym (c.overlaps.ensures ∙ ap (overlap_inexactly c.args.size p.addr) c.source.ensures) ∙ off) (c.in_ok-store.ensures.exact has tt whole tt io))

pub returns-in_err-store-clause-kept : goal.returns-in_err-store-clause-kept
returns-in_err-store-clause-kept c = λ is.
    let here = subst (λ (v : Held). IsOf c.args.m.now v) c.in-Block.is is in
    c.store.ensures.kept tt here.known here.tagged

pub returns-then-overlaps-clause-kept : goal.returns-then-overlaps-clause-kept
returns-then-overlaps-clause-kept c = λ is.
    let here = subst (λ (v : Held). IsOf c.args.m.now v) c.in-Block.is is in
    c.store.ensures.kept tt here.known here.tagged

pub returns-clause-kept : goal.returns-clause-kept
returns-clause-kept c = λ is.
    let here = subst (λ (v : Held). IsOf c.args.m.now v) c.in-Block.is is in
    c.store.ensures.kept tt here.known here.tagged

pub returns-in_default-clause-kept : goal.returns-in_default-clause-kept
returns-in_default-clause-kept c = λ is. keeps_none c.args.m.now
