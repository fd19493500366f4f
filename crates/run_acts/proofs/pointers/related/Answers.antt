use Rattle.std.proofs.Common.{◌≡◌, ◌∙◌, sym, ap, ap₂, [], to_z, of_z, rules}
use Rattle.std.specs.Int.{w128}
use Rattle.std.proofs.lemmas.Int.{to_z-of_z}
use Rattle.std.specs.Ordering.{int_cmp}
use Rattle.mem_spec.specs.Script.{Done}
use Rattle.mem_objects.specs.Memory.{store_of}
use Rattle.c_model.specs.Nodes.{bool_value}
use Rattle.c_model.specs.Values.{Value, integer_of}
use Rattle.run_acts.specs.Scripts.{holds_in}
use Rattle.run_values.specs.Views.{value_in}
use Rattle.run_acts.proofs.Moves.{holds_in_order}
use Rattle.run_acts.proofs.Stores.{made_pointer}
use Rattle.run_values.proofs.Keeping.{seen_number}
use Rattle.prov_memory.proofs.KeepLemmas.{keeps_none}
use Rattle.run_acts.proofs.pointers.related.Goals as goal

pub returns-then-pointers-clause-exact : goal.returns-then-pointers-clause-exact
returns-then-pointers-clause-exact c = λ made other io.
    let m = c.args.m.now in
    rw (c.if-pointers.true, ← c.as_pointer-first.ensures m, ← c.as_pointer-second.ensures m)
    (c.pointers_related.ensures.exact (made_pointer m c.args.left.now _ (c.as_pointer-first.ensures m) made)
    (made_pointer m c.args.right.now _ (c.as_pointer-second.ensures m) other) io)

pub returns-clause-exact : goal.returns-clause-exact
returns-clause-exact c = λ made other io.
    let m = c.args.m.now in
    let v = integer_of (value_in m c.args.left.now) in
    let w = integer_of (value_in m c.args.right.now) in
    let first : to_z w128 (of_z w128 c.as_integer-first.result) ≡ v = to_z-of_z w128 c.as_integer-first.result (search rules) ∙ c.as_integer-first.ensures m in
    let second : to_z w128 (of_z w128 c.as_integer-second.result) ≡ w =
    to_z-of_z w128 c.as_integer-second.result (search rules) ∙ c.as_integer-second.ensures m in
    rw (c.if-pointers.false, c.clear.ensures) (ap (λ (x : Value). Done x [] (store_of m io))
    (sym (c.flag.ensures m ∙ ap bool_value (c.agrees.ensures ∙ ap (holds_in c.args.op) (c.cmp-order.ensures ∙ ap₂ int_cmp first second)
    ∙ holds_in_order c.args.op v w))))

pub returns-clause-made : goal.returns-clause-made
returns-clause-made c = seen_number c.args.m.now c.args.m.now c.flag.result _ (c.flag.ensures c.args.m.now)

pub returns-clause-kept : goal.returns-clause-kept
returns-clause-kept c = keeps_none c.args.m.now
