use Rattle.std.proofs.Common.{◌≡◌, ◌∙◌, sym, ap, true, false, rules, pos, ℤ, to_z, of_z}
use Rattle.std.specs.Int.{w128}
use Rattle.std.proofs.lemmas.Int.{to_z-of_z}
use Rattle.mem_spec.specs.Script.{run}
use Rattle.ub_base.specs.declared.clause.Clause.TheVariants.{InvalidPointer}
use Rattle.mem_objects.specs.Memory.{store_of}
use Rattle.c_model.specs.Nodes as nodes
use Rattle.run_values.specs.Views.{pointer_at}
use Rattle.run_acts.proofs.Acts.{required, not_required}
use Rattle.prov_memory.proofs.KeepLemmas.{keeps_none}
use Rattle.run_acts.proofs.pointers.member.Goals as goal

pub returns-then-is_nowhere-clause-exact : goal.returns-then-is_nowhere-clause-exact
returns-then-is_nowhere-clause-exact c = λ made io.
    let old = c.args.m.now in
    let on : c.is_nowhere.result ≡ true = search rules in
    not_required old.rows _ InvalidPointer (nodes.shifted old.rows (pointer_at c.args.pointer) (pos c.args.offset)) (store_of old io)
    (sym c.is_nowhere.ensures ∙ on)

pub returns-clause-exact : goal.returns-clause-exact
returns-clause-exact c = λ made io.
    let old = c.args.m.now in
    let same : to_z w128 (of_z w128 c.from.result) ≡ c.from.result = to_z-of_z w128 c.from.result (search rules) in
    let off : c.is_nowhere.result ≡ false = search rules in
    required old.rows _ InvalidPointer (nodes.shifted old.rows (pointer_at c.args.pointer) (pos c.args.offset)) (store_of old io)
    (sym c.is_nowhere.ensures ∙ off)
    ∙ ap (λ (z : ℤ). run old.rows (nodes.shifted old.rows (pointer_at c.args.pointer) z) (store_of old io)) (sym (same ∙ c.from.ensures))
    ∙ c.shifted.ensures.exact made io

pub returns-then-is_nowhere-clause-kept : goal.returns-then-is_nowhere-clause-kept
returns-then-is_nowhere-clause-kept c = keeps_none c.args.m.now
