use Rattle.ub_base.specs.declared.names.ObjName.TheVariants.{Static}
use Rattle.prov_memory.proofs.KeepLemmas.{keeps_none}
use Rattle.run_standing.proofs.Starting.{created_stands}
use Rattle.run_standing.proofs.Stands.{static_created}
use Rattle.run_standing.proofs.Starts.{creates_in}
use Rattle.run_standing.proofs.initial.create_static.Goals as goal

pub returns-clause-kept : goal.returns-clause-kept
returns-clause-kept c = c.create.ensures.kept (λ e. absurd (cc))

pub returns-clause-stands : goal.returns-clause-stands
returns-clause-stands c =
    created_stands c.create.result c.args.m.now c.create.new.self (Static c.args.number) _ _ _ _ c.create.ensures.born c.create.ensures.end
    c.create.ensures.whole

pub returns-in_err-shape-clause-kept : goal.returns-in_err-shape-clause-kept
returns-in_err-shape-clause-kept c = keeps_none c.args.m.now

pub returns-clause-exact : goal.returns-clause-exact
returns-clause-exact c =
    static_created c.create.result c.args.m.now c.create.new.self c.args.p.now.tags c.args.number c.args.object.now c.extent_of_object-extent.result
    c.is_constant.result _ c.extent_of_object-extent.ensures c.is_constant.ensures c.in_ok-shape.ensures
    (creates_in c.create.result c.args.m.now c.create.new.self (Static c.args.number) _ _ _ _ _ c.create.new.t c.create.ensures.born c.create.ensures.exact)
