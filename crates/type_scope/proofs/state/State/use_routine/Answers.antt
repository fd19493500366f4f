use Rattle.std.proofs.Common.{ap, sym, refl, true≢false}
use Rattle.type_scope.specs.Known.{routine_seen}
use Rattle.type_scope.proofs.Uses.{same_routines, routine_used, routine_none, not_less}
use Rattle.type_scope.proofs.state.State.use_routine.Goals as goal

pub returns-in-Some-clause-same : goal.returns-in-Some-clause-same
returns-in-Some-clause-same c =
    let rows = (c.args.self.now).functions in
    same_routines c.args.number rows.len rows.items c.in-Some.row.now c.use_on.new.self rows.ok.0 (c.in-Some.ensures.variant.0 refl)
    c.in-Some.ensures.value (ap routine_seen c.use_on.ensures.rest)

pub returns-in-Some-clause-used : goal.returns-in-Some-clause-used
returns-in-Some-clause-used c t us is =
    let rows = (c.args.self.now).functions in
    routine_used t us c.args.number rows.len rows.items c.use_on.new.self rows.ok.0 (c.in-Some.ensures.variant.0 refl) c.use_on.ensures.used

pub returns-in_default-clause-used : goal.returns-in_default-clause-used
returns-in_default-clause-used c t us is =
    let rows = (c.args.self.now).functions in
    routine_none t _ c.args.number rows.len rows.items rows.ok.0
    (not_less c.args.number rows.len (λ less. true≢false (sym (c.in_default.ensures.variant.1 less))))
