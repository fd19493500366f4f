use Rattle.std.proofs.Common.{◌≡◌, ℕ, true, ap, sym, subst}
use Rattle.run_layout.specs.declared.steps.Act.{Act}
use Rattle.run_answers.specs.Acts.{is_body_act}
use Rattle.run_answers.specs.Calling.{CallsNumbered}
use Rattle.run_answers.specs.Opens.{Opens}
use Rattle.run_answers.specs.Performs.{gives_value}
use Rattle.run_events.proofs.Opening.{opens_none}
use Rattle.run_events.proofs.Performing.{fill_given, fill_performs, no_effect, store_given, store_performs, value_performs}
use Rattle.run_events.proofs.Rooms.{touches_all, written_none}
use Rattle.run_events.proofs.acts.perform.Goals as goal

pub returns-in-Store-clause-exact : goal.returns-in-Store-clause-exact
returns-in-Store-clause-exact c = λ rows can given plain.
    store_performs rows c.args.machine.now c.store_value.new.machine c.args.event can c.args.act.now c.in-Store.store c.in-Store.place c.in-Store.value
    c.store_value.result c.in-Store.is given (λ place value. c.store_value.ensures.exact can.can can.tables place value)

pub returns-in-Store-clause-changes : goal.returns-in-Store-clause-changes
returns-in-Store-clause-changes c = λ plain.
    touches_all c.args.machine.now c.store_value.new.machine c.args.event.node c.args.act.now c.store_value.ensures.rest

pub returns-in-Store-clause-effect : goal.returns-in-Store-clause-effect
returns-in-Store-clause-effect c = λ plain none. ap (λ m. m.values) c.store_value.ensures.rest

pub returns-in-Fill-clause-exact : goal.returns-in-Fill-clause-exact
returns-in-Fill-clause-exact c = λ rows can given plain.
    fill_performs rows c.args.machine.now c.fill_list.new.machine c.args.event can c.args.act.now c.in-Fill.object c.in-Fill.constants
    c.fill_list.result c.in-Fill.is given (λ object. c.fill_list.ensures.exact can.can can.tables object)

pub returns-in-Fill-clause-changes : goal.returns-in-Fill-clause-changes
returns-in-Fill-clause-changes c = λ plain.
    touches_all c.args.machine.now c.fill_list.new.machine c.args.event.node c.args.act.now c.fill_list.ensures.rest

pub returns-in-Fill-clause-effect : goal.returns-in-Fill-clause-effect
returns-in-Fill-clause-effect c = λ plain none. ap (λ m. m.values) c.fill_list.ensures.rest

pub returns-in-Call-clause-exact : goal.returns-in-Call-clause-exact
returns-in-Call-clause-exact c = λ rows can given plain. absurd (let e : is_body_act c.args.act.now ≡ true = ap is_body_act c.in-Call.is in cc)

pub returns-in-Call-clause-changes : goal.returns-in-Call-clause-changes
returns-in-Call-clause-changes c = λ plain. absurd (let e : is_body_act c.args.act.now ≡ true = ap is_body_act c.in-Call.is in cc)

pub returns-in-Call-clause-effect : goal.returns-in-Call-clause-effect
returns-in-Call-clause-effect c = λ plain none. absurd (let e : is_body_act c.args.act.now ≡ true = ap is_body_act c.in-Call.is in cc)

pub returns-in-Initialize-clause-exact : goal.returns-in-Initialize-clause-exact
returns-in-Initialize-clause-exact c = λ rows can given plain.
    absurd (let e : is_body_act c.args.act.now ≡ true = ap is_body_act c.in-Initialize.is in cc)

pub returns-in-Initialize-clause-changes : goal.returns-in-Initialize-clause-changes
returns-in-Initialize-clause-changes c = λ plain. absurd (let e : is_body_act c.args.act.now ≡ true = ap is_body_act c.in-Initialize.is in cc)

pub returns-in-Initialize-clause-effect : goal.returns-in-Initialize-clause-effect
returns-in-Initialize-clause-effect c = λ plain none. absurd (let e : is_body_act c.args.act.now ≡ true = ap is_body_act c.in-Initialize.is in cc)

pub returns-in_default-clause-exact : goal.returns-in_default-clause-exact
returns-in_default-clause-exact c = λ rows can given plain.
    let gives = no_effect c.args.act.now c.in_default.not-Store c.in_default.not-Fill c.in_default.not-Call c.in_default.not-Initialize in
    value_performs rows c.args.machine.now c.value_act.new.machine c.args.event c.args.act.now c.value_act.result can given gives
    (c.value_act.ensures.exact can.can given gives)

pub returns-in_default-clause-effect : goal.returns-in_default-clause-effect
returns-in_default-clause-effect c = λ plain none.
    let gives : gives_value c.args.act.now ≡ true =
    no_effect c.args.act.now c.in_default.not-Store c.in_default.not-Fill c.in_default.not-Call c.in_default.not-Initialize in
    absurd (cc)

pub returns-in-Store-clause-bodies : goal.returns-in-Store-clause-bodies
returns-in-Store-clause-bodies c =
    opens_none c.args.machine.now c.store_value.new.machine c.args.act.now c.args.event c.store_value.result
    (λ n is. let e = c.in-Store.is in cc)

pub returns-in-Fill-clause-bodies : goal.returns-in-Fill-clause-bodies
returns-in-Fill-clause-bodies c =
    opens_none c.args.machine.now c.fill_list.new.machine c.args.act.now c.args.event c.fill_list.result
    (λ n is. let e = c.in-Fill.is in cc)

pub returns-in-Call-clause-bodies : goal.returns-in-Call-clause-bodies
returns-in-Call-clause-bodies c =
    opens_none c.args.machine.now c.call_of.new.machine c.args.act.now c.args.event c.call_of.result
    (λ n is. let e = c.in-Call.is in cc)

pub returns-in-Initialize-clause-bodies : goal.returns-in-Initialize-clause-bodies
returns-in-Initialize-clause-bodies c =
    subst (λ (a : Act). Opens c.args.machine.now a c.args.event c.initialize.new.machine c.initialize.result) (sym c.in-Initialize.is)
    c.initialize.ensures.opens

pub returns-in_default-clause-bodies : goal.returns-in_default-clause-bodies
returns-in_default-clause-bodies c =
    opens_none c.args.machine.now c.value_act.new.machine c.args.act.now c.args.event c.value_act.result c.in_default.not-Initialize

pub returns-in-Store-clause-calls : goal.returns-in-Store-clause-calls
returns-in-Store-clause-calls c = λ n is. absurd (let e = c.in-Store.is in cc)

pub returns-in-Fill-clause-calls : goal.returns-in-Fill-clause-calls
returns-in-Fill-clause-calls c = λ n is. absurd (let e = c.in-Fill.is in cc)

pub returns-in-Call-clause-calls : goal.returns-in-Call-clause-calls
returns-in-Call-clause-calls c = λ n is.
    let same : c.in-Call.number ≡ n = (let e = c.in-Call.is in cc) in
    subst (λ (k : ℕ). CallsNumbered k c.args.machine.now c.args.event c.call_of.new.machine c.call_of.result) same c.call_of.ensures.calls

pub returns-in-Initialize-clause-calls : goal.returns-in-Initialize-clause-calls
returns-in-Initialize-clause-calls c = λ n is. absurd (let e = c.in-Initialize.is in cc)

pub returns-in_default-clause-calls : goal.returns-in_default-clause-calls
returns-in_default-clause-calls c = λ n is. absurd (c.in_default.not-Call n is)

pub returns-in-Store-clause-rows : goal.returns-in-Store-clause-rows
returns-in-Store-clause-rows c = λ rows can given plain.
    let g = store_given c.args.machine.now c.args.event c.args.act.now c.in-Store.store c.in-Store.place c.in-Store.value c.in-Store.is given in
    c.store_value.ensures.rows can.can can.tables g.0 g.1

pub returns-in-Fill-clause-rows : goal.returns-in-Fill-clause-rows
returns-in-Fill-clause-rows c = λ rows can given plain.
    c.fill_list.ensures.rows can.can can.tables
    (fill_given c.args.machine.now c.args.event c.args.act.now c.in-Fill.object c.in-Fill.constants c.in-Fill.is given)

pub returns-in-Call-clause-rows : goal.returns-in-Call-clause-rows
returns-in-Call-clause-rows c = λ rows can given plain. absurd (let e : is_body_act c.args.act.now ≡ true = ap is_body_act c.in-Call.is in cc)

pub returns-in-Initialize-clause-rows : goal.returns-in-Initialize-clause-rows
returns-in-Initialize-clause-rows c = λ rows can given plain.
    absurd (let e : is_body_act c.args.act.now ≡ true = ap is_body_act c.in-Initialize.is in cc)

pub returns-in_default-clause-rows : goal.returns-in_default-clause-rows
returns-in_default-clause-rows c = λ rows can given plain. c.value_act.ensures.rows

pub returns-in-Store-clause-streams : goal.returns-in-Store-clause-streams
returns-in-Store-clause-streams c =
    written_none c.args.machine.now c.store_value.new.machine c.store_value.result (ap (λ m. m.streams) c.store_value.ensures.rest)

pub returns-in-Fill-clause-streams : goal.returns-in-Fill-clause-streams
returns-in-Fill-clause-streams c =
    written_none c.args.machine.now c.fill_list.new.machine c.fill_list.result (ap (λ m. m.streams) c.fill_list.ensures.rest)

pub returns-in-Initialize-clause-streams : goal.returns-in-Initialize-clause-streams
returns-in-Initialize-clause-streams c =
    written_none c.args.machine.now c.initialize.new.machine c.initialize.result c.initialize.ensures.streams

pub returns-in_default-clause-streams : goal.returns-in_default-clause-streams
returns-in_default-clause-streams c =
    written_none c.args.machine.now c.value_act.new.machine c.value_act.result (ap (λ m. m.streams) c.value_act.ensures.changes.rest)
