use Rattle.std.proofs.Common.{◌∙◌, ◌+◌, ◌-◌, ◌/◌, ◌%◌, ◌++◌, ◌∷◌, [], ap, sym, reverse}
use Rattle.libc_spec.specs.Print.{digit}
use Rattle.libc_directives.specs.Seen.{base_number, is_upper}
use Rattle.libc_directives.proofs.Writing.{digits_left, digits_left-first, digits_left-read, digits_left-done, digits_left-step}
use Rattle.libc_directives.proofs.number.lowest_first.Goals as goal

pub loop-turn-init : goal.loop-turn-init
loop-turn-init c = digits_left-first (is_upper c.args.base) (base_number c.args.base) c.args.number c.new-digits.result.items c.new-digits.ensures.items

pub loop-turn-preserved : goal.loop-turn-preserved
loop-turn-preserved c =
    digits_left-step c.loop-turn._turn (is_upper c.args.base) (base_number c.args.base) c.loop-turn.rest c.digit.result c.loop-turn.digits.items
    (digits_left 64 (is_upper c.args.base) (base_number c.args.base) c.args.number) c.loop-turn-test.true c.if-rest-eq0.false
    (c.digit.ensures ∙ ap (λ k. digit (is_upper c.args.base) (c.loop-turn.rest % k)) c.number.ensures.value) c.loop-turn.invariant
    ∙ ap (λ k. digits_left (64 - (c.loop-turn._turn + 1)) (is_upper c.args.base) (base_number c.args.base) (c.loop-turn.rest / k) ++
    reverse (c.loop-turn.digits.items ++ c.digit.result ∷ [])) (sym c.number-rest.ensures.value)
    ∙ ap (λ l. digits_left (64 - (c.loop-turn._turn + 1)) (is_upper c.args.base) (base_number c.args.base) (c.loop-turn.rest / c.number-rest.result) ++
    reverse l) (sym c.in_ok-push.ensures.items)

pub returns-then-rest-eq0 : goal.returns-then-rest-eq0
returns-then-rest-eq0 c = digits_left-read (64 - c.loop-turn._turn) (is_upper c.args.base) (base_number c.args.base) c.loop-turn.rest c.args.number
    c.loop-turn.digits.items c.if-rest-eq0.true c.loop-turn.invariant

pub returns : goal.returns
returns c = digits_left-done c.loop-turn._turn (is_upper c.args.base) (base_number c.args.base) c.loop-turn.rest c.args.number c.loop-turn.digits.items
    c.loop-turn-test.false c.loop-turn.invariant
