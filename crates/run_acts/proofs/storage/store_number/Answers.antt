use Rattle.std.proofs.Common.{◌≡◌, ◌∙◌, to_z, of_z, to_z-of_z}
use Rattle.std.specs.Int.{w128}
use Rattle.mem_spec.specs.Agreement.{bytes_of_kind}
use Rattle.prov_memory.proofs.LoadLemmas.{same_bytes}
use Rattle.run_acts.proofs.storage.store_number.Goals as goal

pub returns-clause-exact : goal.returns-clause-exact
returns-clause-exact c =
    let size : c.bytes.result ≡ bytes_of_kind c.args.kind = c.bytes.ensures.value ∙ same_bytes c.args.kind in
    let number : to_z w128 (of_z w128 c.args.number) ≡ c.args.number = to_z-of_z c.ranges.number in
    rw (size, number) at c.store_int.ensures.exact

pub returns-clause-raises : goal.returns-clause-raises
returns-clause-raises c =
    let size : c.bytes.result ≡ bytes_of_kind c.args.kind = c.bytes.ensures.value ∙ same_bytes c.args.kind in
    let number : to_z w128 (of_z w128 c.args.number) ≡ c.args.number = to_z-of_z c.ranges.number in
    rw (size, number) at c.store_int.ensures.raises
