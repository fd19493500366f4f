use Rattle.std.proofs.Common.{◌≡◌, ◌∙◌, sym, ap, subst, ℤ, pos, ◌+ℤ◌, to_z, of_z, to_z-of_z}
use Rattle.std.specs.Int.{w128}
use Rattle.addr_map.specs.Rows.{row_of}
use Rattle.mem_spec.specs.Acts.{in_bounds}
use Rattle.mem_objects.specs.Held.{is_near}
use Rattle.mem_objects.specs.Memory.{Kept, HaveRows}
use Rattle.mem_objects.proofs.ActLemmas.{row_found}
use Rattle.prov_memory.proofs.NearLemmas.{within_address, near_is}
use Rattle.prov_memory.proofs.memory.Memory.is_near.Goals as goal

pub returns-in-None-clause-address : goal.returns-in-None-clause-address
returns-in-None-clause-address c = λ near.
    let by : to_z w128 (of_z w128 c.args.by) ≡ c.args.by = to_z-of_z c.ranges.by in
    let here : c.row_is_near.result ≡ in_bounds c.row.result (pos c.args.addr +ℤ c.args.by) =
    c.row_is_near.ensures ∙ ap (λ (z : ℤ). in_bounds c.row.result (pos c.args.addr +ℤ z)) by in
    within_address c.row.result c.self.inside.map c.args.name (pos c.args.addr +ℤ c.args.by) c.row.ensures.row c.row.ensures.end (sym here ∙ near)

pub returns-in-Some-clause-near : goal.returns-in-Some-clause-near
returns-in-Some-clause-near c =
    let have : HaveRows c.args.self.now.rows c.args.self.now.objects = subst (λ (m : Kept). HaveRows m.rows m.objects) c.self.view_is c.self.invariant in
    let by : to_z w128 (of_z w128 c.args.by) ≡ c.args.by = to_z-of_z c.ranges.by in
    c.is_near.ensures
    ∙ ap (λ (z : ℤ). is_near c.in-Some.object.now (pos c.args.addr +ℤ z)) by
    ∙ near_is (row_of c.args.self.now.rows c.args.name) c.in-Some.object.now (pos c.args.addr +ℤ c.args.by)
    (row_found c.args.self.now.rows c.args.self.now.objects c.args.name c.in-Some.object.now have (sym c.in-Some.ensures.object))
