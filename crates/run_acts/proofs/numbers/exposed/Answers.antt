use Rattle.std.proofs.Common.{◌≡◌, ◌∙◌, sym, ap, pos, ℤ, List, to_z, of_z, rules}
use Rattle.std.specs.Int.{w128}
use Rattle.std.proofs.lemmas.Int.{to_z-of_z}
use Rattle.addr_map.specs.declared.map.Row.{Row}
use Rattle.c_arith.specs.Operators.{conv}
use Rattle.mem_spec.specs.Acts.{expose}
use Rattle.mem_spec.specs.Script.{Done}
use Rattle.mem_objects.specs.Memory.{Kept, store_of}
use Rattle.c_model.specs.Values.{Int}
use Rattle.run_acts.proofs.Acts.{done_give, under}
use Rattle.run_values.proofs.Keeping.{int_of}
use Rattle.run_acts.proofs.numbers.exposed.Goals as goal

pub returns-clause-exact : goal.returns-clause-exact
returns-clause-exact c = λ io.
    let old = c.args.m.now in
    let new = c.expose.new.self in
    let prov = c.args.pointer.prov in
    let n = conv c.args.kind (pos c.args.pointer.addr) in
    let rows : new.rows ≡ old.rows = ap (λ (m : Kept). m.rows) c.expose.ensures.rest in
    let from : to_z w128 (of_z w128 c.from.result) ≡ c.from.result = to_z-of_z w128 c.from.result (search rules) in
    let out : to_z w128 (of_z w128 c.convert.result) ≡ c.convert.result = to_z-of_z w128 c.convert.result (search rules) in
    done_give old.rows (expose prov) (λ (u : Unit {0}). Int n) (store_of old io) (store_of new io) tt c.expose.new.t
    (under old.rows new.rows (λ (rs : List Row). expose prov) (store_of old io) (Done tt c.expose.new.t (store_of new io)) rows (c.expose.ensures.exact io))
    ∙ ap (λ (z : ℤ). Done (Int z) c.expose.new.t (store_of new io)) (sym (out ∙ c.convert.ensures ∙ ap (conv c.args.kind) (from ∙ c.from.ensures)))

pub returns-clause-made : goal.returns-clause-made
returns-clause-made c = int_of c.expose.new.self _
