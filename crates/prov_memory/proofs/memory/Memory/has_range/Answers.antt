use Rattle.std.proofs.Common.{◌∙◌, sym, subst}
use Rattle.addr_map.specs.Rows.{row_of}
use Rattle.mem_objects.specs.Memory.{Kept, HaveRows}
use Rattle.mem_objects.proofs.ActLemmas.{row_found}
use Rattle.mem_objects.proofs.AccessLemmas.{range_of_row}
use Rattle.prov_memory.proofs.memory.Memory.has_range.Goals as goal

pub returns-in-Some : goal.returns-in-Some
returns-in-Some c =
    let m = c.args.self.now in
    let have : HaveRows m.rows m.objects = subst (λ (k : Kept). HaveRows k.rows k.objects) c.self.view_is c.self.invariant in
    c.has_range.ensures ∙ sym (range_of_row (row_of m.rows c.args.name) c.in-Some.object.now c.args.addr c.args.len
    (row_found m.rows m.objects c.args.name c.in-Some.object.now have (sym c.in-Some.ensures.object)))
