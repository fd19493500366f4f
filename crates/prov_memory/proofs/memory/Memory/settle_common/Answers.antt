use Rattle.std.proofs.Common.{◌∙◌, ap, sym}
use Rattle.std.specs.Prelude.{Result}
use Rattle.ub_base.specs.declared.clause.Clause.{Clause}
use Rattle.mem_spec.specs.Acts.{in_common, candidates}
use Rattle.mem_objects.specs.Memory.{act_of, store_of}
use Rattle.mem_objects.proofs.SettleLemmas.{err_is}
use Rattle.prov_memory.proofs.CompareLemmas.{common_done, common_raised}
use Rattle.prov_memory.proofs.KeepLemmas.{keeps_then, keeps_none}
use Rattle.prov_memory.proofs.memory.Memory.settle_common.Goals as goal

pub returns-in_err-first-clause-exact : goal.returns-in_err-first-clause-exact
returns-in_err-first-clause-exact c = λ none made made' io.
    common_raised c.args.self.now (in_common (candidates c.args.a) (candidates c.args.b)) c.args.a c.args.b c.args.clause c.in_err-first.field-0.0
    c.compared.result c.compared.ensures c.in_err-first.was io
    ∙ ap (λ (r : Result (Unit {0}) Clause). act_of r c.args.t.now (store_of c.args.self.now io))
    (sym (err_is c.from_residual.result c.in_err-first.field-0.0 c.from_residual.ensures.1))

pub returns-clause-exact : goal.returns-clause-exact
returns-clause-exact c = λ none made made' io.
    common_done c.args.self.now c.note_settled.new.self c.note_settled-2.new.self (in_common (candidates c.args.a) (candidates c.args.b)) c.args.a c.args.b
    c.args.clause c.compared.result c.in_ok-first.first c.in_ok-first.second c.args.t.now c.note_settled.new.t c.note_settled-2.new.t
    c.note_settled.ensures.rest c.note_settled-2.ensures.rest c.note_settled.ensures.cells c.compared.ensures c.in_ok-first.was none
    c.note_settled.ensures.items c.note_settled-2.ensures.items c.note_settled.ensures.store c.note_settled-2.ensures.store made made' io

pub returns-clause-kept : goal.returns-clause-kept
returns-clause-kept c =
    keeps_then c.args.self.now c.note_settled.new.self c.note_settled-2.new.self c.note_settled.ensures.kept c.note_settled-2.ensures.kept

pub returns-in_err-first-clause-kept : goal.returns-in_err-first-clause-kept
returns-in_err-first-clause-kept c = keeps_none c.args.self.now
