use Rattle.std.proofs.Common.{List, refl, subst, sym}
use Rattle.c_types.specs.declared.library.LibFunc.{LibFunc}
use Rattle.c_types.specs.declared.library.LibFunc.TheVariants.{Printf, Fprintf, Sprintf, Snprintf}
use Rattle.c_types.specs.declared.ty.Qual.{Qual}
use Rattle.run_answers.specs.LibraryCalls.{CanCall, IsAnswered, types_seen}
use Rattle.run_events.proofs.Library.{answers_fprintf, answers_plain, answers_printf, answers_snprintf, answers_sprintf}
use Rattle.run_events.proofs.frames.answer_of.Goals as goal

pub returns-in-Printf-clause-exact : goal.returns-in-Printf-clause-exact
returns-in-Printf-clause-exact c =
    let m = c.args.machine.now in
    let hs = c.args.arguments.now in
    let who = c.args.event in
    subst (λ (f : LibFunc). CanCall m f hs → IsAnswered m (record m { memory = c.format.new.m; streams = c.format.new.io; items = c.format.new.t }) f who
    (types_seen c.args.call.now.types) hs c.format.result) (sym c.in-Printf.is)
    (subst (λ (ts : List Qual). CanCall m Printf hs → IsAnswered m (record m { memory = c.format.new.m; streams = c.format.new.io; items = c.format.new.t })
    Printf who
    (types_seen ts) hs c.format.result) c.as_slice-types.ensures
    (answers_printf m c.format.new.m c.format.new.io c.format.new.t who hs c.as_slice-types.result.now c.format.result c.format.ensures.exact
    c.format.ensures.kept c.format.ensures.made))

pub returns-in-Fprintf-clause-exact : goal.returns-in-Fprintf-clause-exact
returns-in-Fprintf-clause-exact c =
    let m = c.args.machine.now in
    let hs = c.args.arguments.now in
    let who = c.args.event in
    subst (λ (f : LibFunc). CanCall m f hs → IsAnswered m (record m { memory = c.format_to.new.m; streams = c.format_to.new.io; items = c.format_to.new.t }) f
    who
    (types_seen c.args.call.now.types) hs c.format_to.result) (sym c.in-Fprintf.is)
    (subst (λ (ts : List Qual). CanCall m Fprintf hs → IsAnswered m
    (record m { memory = c.format_to.new.m; streams = c.format_to.new.io; items = c.format_to.new.t }) Fprintf who
    (types_seen ts) hs c.format_to.result) c.as_slice-types.ensures
    (answers_fprintf m c.format_to.new.m c.format_to.new.io c.format_to.new.t who hs c.as_slice-types.result.now c.format_to.result c.format_to.ensures.exact
    c.format_to.ensures.kept c.format_to.ensures.made))

pub returns-in-Sprintf-clause-exact : goal.returns-in-Sprintf-clause-exact
returns-in-Sprintf-clause-exact c =
    let m = c.args.machine.now in
    let hs = c.args.arguments.now in
    let who = c.args.event in
    subst (λ (f : LibFunc). CanCall m f hs → IsAnswered m (record m { memory = c.format_into.new.m; streams = m.streams; items = c.format_into.new.t }) f who
    (types_seen c.args.call.now.types) hs c.format_into.result) (sym c.in-Sprintf.is)
    (subst (λ (ts : List Qual). CanCall m Sprintf hs → IsAnswered m
    (record m { memory = c.format_into.new.m; streams = m.streams; items = c.format_into.new.t }) Sprintf who
    (types_seen ts) hs c.format_into.result) c.as_slice-types.ensures
    (answers_sprintf m c.format_into.new.m m.streams c.format_into.new.t who hs c.as_slice-types.result.now c.format_into.result
    (c.format_into.ensures.exact m.streams)
    c.format_into.ensures.kept c.format_into.ensures.made))

pub returns-in-Snprintf-clause-exact : goal.returns-in-Snprintf-clause-exact
returns-in-Snprintf-clause-exact c =
    let m = c.args.machine.now in
    let hs = c.args.arguments.now in
    let who = c.args.event in
    subst (λ (f : LibFunc). CanCall m f hs → IsAnswered m (record m { memory = c.format_within.new.m; streams = m.streams; items = c.format_within.new.t }) f
    who
    (types_seen c.args.call.now.types) hs c.format_within.result) (sym c.in-Snprintf.is)
    (subst (λ (ts : List Qual). CanCall m Snprintf hs → IsAnswered m
    (record m { memory = c.format_within.new.m; streams = m.streams; items = c.format_within.new.t }) Snprintf who
    (types_seen ts) hs c.format_within.result) c.as_slice-types.ensures
    (answers_snprintf m c.format_within.new.m m.streams c.format_within.new.t who hs c.as_slice-types.result.now c.format_within.result
    (c.format_within.ensures.exact m.streams)
    c.format_within.ensures.kept c.format_within.ensures.made))

pub returns-in_default : goal.returns-in_default
returns-in_default c =
    let m = c.args.machine.now in
    let hs = c.args.arguments.now in
    record {
      rest = refl;
      streams = c.call.ensures.streams;
      exact = answers_plain m c.call.new.m c.call.new.io c.call.new.t c.args.event hs c.args.call.now.types c.call.result c.args.library
          (record {
            printf = c.in_default.not-Printf;
            fprintf = c.in_default.not-Fprintf;
            sprintf = c.in_default.not-Sprintf;
            snprintf = c.in_default.not-Snprintf;
          }) c.call.ensures.exact c.call.ensures.kept c.call.ensures.made;
    }
