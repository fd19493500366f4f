use Rattle.std.proofs.Common.{◌≡◌, ℕ, ◌∙◌, ap, rules, to_z, of_z, drop, take}
use Rattle.std.specs.Int.{w128}
use Rattle.std.proofs.lemmas.Int.{to_z-of_z}
use Rattle.std.proofs.lemmas.Result.{err_from_is_err_and}
use Rattle.mem_spec.specs.Agreement.{bytes_of_kind}
use Rattle.mem_objects.specs.Cells.{part_of}
use Rattle.mem_objects.specs.Pieces.{seen}
use Rattle.prov_memory.proofs.LoadLemmas.{same_bytes}
use Rattle.prov_memory.proofs.PartLemmas.{int_done, int_fails}
use Rattle.prov_memory.proofs.memory.Memory.part_int.Goals as goal

pub returns-clause-exact : goal.returns-clause-exact
returns-clause-exact c =
    let m = c.args.self.now in
    let value : to_z w128 (of_z w128 c.value_of.result) ≡ c.value_of.result = to_z-of_z w128 c.value_of.result (search rules) in
    let cells : c.range-cells.result.now ≡ take (bytes_of_kind c.args.kind) (drop c.args.from c.args.bytes.now.cells) =
    c.range-cells.ensures ∙ ap (λ (n : ℕ). take n (drop c.args.from c.args.bytes.now.cells)) (c.bytes.ensures.value ∙ same_bytes c.args.kind) in
    int_done m c.part_number.new.self c.args.kind c.is_bool.result (seen m c.range-cells.result.now)
    (seen m (part_of c.args.bytes.now c.args.from (bytes_of_kind c.args.kind)).cells) c.in_ok-number.number (to_z w128 (of_z w128 c.value_of.result))
    c.clear.new.self c.part_number.new.t c.is_bool.ensures (ap (seen m) cells) (value ∙ c.value_of.ensures) c.clear.ensures c.in_ok-number.ensures.number
    c.in_ok-number.ensures.shown c.in_ok-number.ensures.items

pub returns-in_err-number-clause-raises : goal.returns-in_err-number-clause-raises
returns-in_err-number-clause-raises c =
    let m = c.args.self.now in
    let p = err_from_is_err_and c.from_residual.result c.from_residual.ensures.1 in
    let cells : c.range-cells.result.now ≡ take (bytes_of_kind c.args.kind) (drop c.args.from c.args.bytes.now.cells) =
    c.range-cells.ensures ∙ ap (λ (n : ℕ). take n (drop c.args.from c.args.bytes.now.cells)) (c.bytes.ensures.value ∙ same_bytes c.args.kind) in
    rw (p.1, p.2) (int_fails m c.args.kind c.is_bool.result (seen m c.range-cells.result.now)
    (seen m (part_of c.args.bytes.now c.args.from (bytes_of_kind c.args.kind)).cells) c.in_err-number.field-0.0 c.is_bool.ensures
    (ap (seen m) cells) c.in_err-number.ensures.raises)
