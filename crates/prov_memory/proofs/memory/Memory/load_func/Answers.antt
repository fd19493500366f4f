use Rattle.std.proofs.lemmas.Result.{err_from_is_err_and}
use Rattle.c_types.specs.Types.{type_of}
use Rattle.prov_memory.proofs.LoadLemmas.{func_unreached, func_raises_all}
use Rattle.prov_memory.proofs.ShowLemmas.{func_exact, besides_after}
use Rattle.prov_memory.proofs.KeepLemmas.{keeps_after, keeps_same}
use Rattle.prov_memory.proofs.memory.Memory.load_func.Goals as goal

pub returns-in_err-found-clause-raises : goal.returns-in_err-found-clause-raises
returns-in_err-found-clause-raises c =
    let p = err_from_is_err_and c.from_residual.result c.from_residual.ensures.1 in
    rw (p.1, p.2) (func_unreached c.args.self.now (type_of c.args.ty.now) c.args.addr c.args.prov c.in_err-found.field-0.0 c.in_err-found.ensures.raises)

pub returns-clause-raises : goal.returns-clause-raises
returns-clause-raises c =
    func_raises_all c.load_number.result c.args.self.now c.access.new.self c.in_ok-found.found (type_of c.args.ty.now) c.args.addr c.args.prov
    c.access.ensures.same c.in_ok-found.ensures.exact c.in_ok-found.ensures.found c.load_number.ensures.raises

pub returns-clause-exact : goal.returns-clause-exact
returns-clause-exact c =
    func_exact c.load_number.result c.args.self.now c.access.new.self c.load_number.new.self c.in_ok-found.found
    (type_of c.args.ty.now) c.args.addr c.args.prov c.access.new.t c.load_number.new.t c.access.ensures.same c.in_ok-found.ensures.exact
    c.in_ok-found.ensures.found c.in_ok-found.ensures.settles (c.in_ok-found.ensures.items c.clear.ensures) c.load_number.ensures.number
    c.load_number.ensures.loaded c.load_number.ensures.items

pub returns-clause-rest : goal.returns-clause-rest
returns-clause-rest c = besides_after c.args.self.now c.access.new.self c.load_number.new.self c.access.ensures.same c.load_number.ensures.rest

pub returns-clause-kept : goal.returns-clause-kept
returns-clause-kept c = keeps_after c.args.self.now c.access.new.self c.load_number.new.self c.access.ensures.same c.load_number.ensures.kept

pub returns-in_err-found-clause-kept : goal.returns-in_err-found-clause-kept
returns-in_err-found-clause-kept c = keeps_same c.args.self.now c.access.new.self c.access.ensures.same
