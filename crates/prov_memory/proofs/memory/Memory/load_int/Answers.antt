use Rattle.std.proofs.Common.{◌≡◌, ◌∙◌, to_z, of_z, rules}
use Rattle.std.specs.Int.{w128}
use Rattle.std.proofs.lemmas.Int.{to_z-of_z}
use Rattle.std.proofs.lemmas.Result.{err_from_is_err_and}
use Rattle.c_types.specs.Types.{int, type_of}
use Rattle.prov_memory.proofs.LoadLemmas.{int_unreached, int_raises, fails_as, same_bytes}
use Rattle.prov_memory.proofs.ShowLemmas.{int_exact, besides_after}
use Rattle.prov_memory.proofs.KeepLemmas.{keeps_after, keeps_same}
use Rattle.prov_memory.proofs.memory.Memory.load_int.Goals as goal

pub returns-in_err-found-clause-raises : goal.returns-in_err-found-clause-raises
returns-in_err-found-clause-raises c =
    let p = err_from_is_err_and c.from_residual.result c.from_residual.ensures.1 in
    rw (p.1, p.2) (int_unreached c.args.self.now c.args.kind c.args.addr c.bytes-len.result c.args.prov c.in_err-found.field-0.0
    (c.bytes-len.ensures.value ∙ same_bytes c.args.kind) c.in_err-found.ensures.raises)

pub returns-in_err-number-clause-raises : goal.returns-in_err-number-clause-raises
returns-in_err-number-clause-raises c =
    let p = err_from_is_err_and c.from_residual-in_err-number.result c.from_residual-in_err-number.ensures.1 in
    let f = c.in_ok-found.found in
    rw (p.1, p.2) (int_raises c.args.self.now f c.args.kind c.is_bool.result c.args.addr c.bytes-len.result c.args.prov c.in_err-number.field-0.0
    (c.bytes-len.ensures.value ∙ same_bytes c.args.kind) c.is_bool.ensures c.in_ok-found.ensures.exact c.in_ok-found.ensures.found
    (fails_as c.args.self.now c.access.new.self f (type_of c.int_type-ty.result) (int c.args.kind) c.is_bool.result c.bytes-len.result
    c.in_err-number.field-0.0 c.access.ensures.same c.int_type-ty.ensures c.in_err-number.ensures.raises))

pub returns-clause-exact : goal.returns-clause-exact
returns-clause-exact c =
    let value : to_z w128 (of_z w128 c.value_of.result) ≡ c.value_of.result = to_z-of_z w128 c.value_of.result (search rules) in
    int_exact c.args.self.now c.access.new.self c.load_number.new.self c.in_ok-found.found (type_of c.int_type-ty.result) c.args.kind c.is_bool.result
    c.args.addr c.bytes-len.result c.args.prov c.in_ok-number.number (to_z w128 (of_z w128 c.value_of.result)) c.access.new.t c.load_number.new.t
    c.access.ensures.same c.int_type-ty.ensures (c.bytes-len.ensures.value ∙ same_bytes c.args.kind) c.is_bool.ensures
    (value ∙ c.value_of.ensures) c.in_ok-found.ensures.exact c.in_ok-found.ensures.found c.in_ok-found.ensures.settles
    (c.in_ok-found.ensures.items c.clear.ensures) c.in_ok-number.ensures.number c.in_ok-number.ensures.loaded c.in_ok-number.ensures.items

pub returns-clause-rest : goal.returns-clause-rest
returns-clause-rest c = besides_after c.args.self.now c.access.new.self c.load_number.new.self c.access.ensures.same c.load_number.ensures.rest

pub returns-clause-kept : goal.returns-clause-kept
returns-clause-kept c = keeps_after c.args.self.now c.access.new.self c.load_number.new.self c.access.ensures.same c.load_number.ensures.kept

pub returns-in_err-found-clause-kept : goal.returns-in_err-found-clause-kept
returns-in_err-found-clause-kept c = keeps_same c.args.self.now c.access.new.self c.access.ensures.same

pub returns-in_err-number-clause-kept : goal.returns-in_err-number-clause-kept
returns-in_err-number-clause-kept c = keeps_after c.args.self.now c.access.new.self c.load_number.new.self c.access.ensures.same c.load_number.ensures.kept
