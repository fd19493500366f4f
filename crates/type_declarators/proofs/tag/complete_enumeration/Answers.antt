use Rattle.std.proofs.Common.{sym, true≢false}
use Rattle.type_declarators.proofs.Enumerations.{flag_set, flag_none}
use Rattle.type_declarators.proofs.tag.complete_enumeration.Goals as goal

pub returns-in-Some-clause-items : goal.returns-in-Some-clause-items
returns-in-Some-clause-items c = flag_set c.args.number ((c.args.state.now).enumerations).items

pub returns-in-None-clause-items : goal.returns-in-None-clause-items
returns-in-None-clause-items c =
    let flags = (c.args.state.now).enumerations in
    flag_none c.args.number flags.len flags.items flags.ok.0 (λ less. true≢false (sym (c.in-None.ensures.variant.1 less)))
