use Rattle.std.proofs.Common.{◌≡◌, ◌∙◌, ◌<◌, ◌^◌, rules, to_z, of_z}
use Rattle.std.specs.Int.{w128}
use Rattle.std.proofs.lemmas.Int.{to_z-of_z}
use Rattle.mem_spec.specs.Bytes.{low_bits}
use Rattle.run_values.proofs.Results.{low_address}
use Rattle.run_acts.proofs.storage.store_function.Goals as goal

pub returns-clause-exact : goal.returns-clause-exact
returns-clause-exact c =
    let z = to_z w128 (of_z w128 c.from.result) in
    let same : z ≡ c.from.result = to_z-of_z w128 c.from.result (search rules) in
    let lt : c.args.addr < 2 ^ 64 = search rules in
    let low : low_bits z ≡ c.args.addr = low_address z c.args.addr (same ∙ c.from.ensures) lt in
    rw low at c.store_int.ensures.exact

pub returns-clause-raises : goal.returns-clause-raises
returns-clause-raises c =
    let z = to_z w128 (of_z w128 c.from.result) in
    let same : z ≡ c.from.result = to_z-of_z w128 c.from.result (search rules) in
    let lt : c.args.addr < 2 ^ 64 = search rules in
    let low : low_bits z ≡ c.args.addr = low_address z c.args.addr (same ∙ c.from.ensures) lt in
    rw low at c.store_int.ensures.raises
