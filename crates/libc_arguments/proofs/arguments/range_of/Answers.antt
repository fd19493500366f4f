use Rattle.std.proofs.Common.{◌≡◌, ◌∙◌, sym, true, false, rules}
use Rattle.libc_arguments.proofs.Checking.{range_gives, range_dead, range_outside}
use Rattle.libc_arguments.proofs.Writing.{place_of_range}
use Rattle.libc_arguments.proofs.arguments.range_of.Goals as goal

pub returns-then-not-is_live-clause-follows : goal.returns-then-not-is_live-clause-follows
returns-then-not-is_live-clause-follows c = λ io.
    let off : c.is_live.result ≡ false = search rules in
    range_dead c.args.m.now io c.args.t.now c.args.object c.args.addr c.args.len (sym c.is_live.ensures ∙ off)

pub returns-in-Some-clause-follows : goal.returns-in-Some-clause-follows
returns-in-Some-clause-follows c = λ io.
    let on : c.is_live.result ≡ true = search rules in
    range_gives c.args.m.now io c.args.t.now c.add.new.self c.args.object c.args.addr c.args.len c.in-Some.from
    (sym c.is_live.ensures ∙ on) c.in-Some.ensures.place c.in_ok-add.ensures.ok

pub returns-in-None-clause-follows : goal.returns-in-None-clause-follows
returns-in-None-clause-follows c = λ io.
    let on : c.is_live.result ≡ true = search rules in
    range_outside c.args.m.now io c.args.t.now c.args.object c.args.addr c.args.len (sym c.is_live.ensures ∙ on) c.in-None.ensures.place

pub returns-in-Some-clause-place : goal.returns-in-Some-clause-place
returns-in-Some-clause-place c = λ some.
    let on : c.is_live.result ≡ true = search rules in
    place_of_range c.args.m.now c.args.object c.args.addr c.args.len c.in-Some.from some (sym c.is_live.ensures ∙ on) c.in-Some.ensures.place
