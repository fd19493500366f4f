use Rattle.std.proofs.Common.{ap, sym, subst, ◌∙◌, ◌+◌, ◌<◌, ◌^◌, ℕ, drop, rules}
use Rattle.std.specs.Int.{w128}
use Rattle.std.proofs.lemmas.Int.{to_z-of_z}
use Rattle.type_scope.specs.Strings.{strings_of}
use Rattle.type_declarators.specs.Literals.{is_zero, bytes_from}
use Rattle.type_declarators.proofs.Bytes.{fails, stands, no_message}
use Rattle.type_declarators.proofs.declarator.assertion.Goals as goal

pub returns-then-is_zero : goal.returns-then-is_zero
returns-then-is_zero c small other =
    fails c.args.number (bytes_from c.args.source.now (strings_of (drop c.args.message c.args.source.now.list)) c.args.message)
    c.is_zero.result (c.is_zero.ensures ∙ ap is_zero (to_z-of_z w128 c.args.number (search rules))) c.if-is_zero.true

pub returns-in-Ok : goal.returns-in-Ok
returns-in-Ok c small =
    stands c.args.number (bytes_from c.args.source.now (strings_of (drop c.args.message c.args.source.now.list)) c.args.message) _
    c.is_zero.result (c.is_zero.ensures ∙ ap is_zero (to_z-of_z w128 c.args.number (search rules))) c.if-is_zero.false
    (ap (λ k. bytes_from c.args.source.now k c.args.message) (sym c.string_count.ensures)
    ∙ c.in-Ok.ensures.value (subst (λ (k : ℕ). c.args.message + k < 2 ^ 32) (sym c.string_count.ensures) small))

pub returns-in-Err : goal.returns-in-Err
returns-in-Err c small other =
    no_message c.args.number (bytes_from c.args.source.now (strings_of (drop c.args.message c.args.source.now.list)) c.args.message)
    c.is_zero.result (c.is_zero.ensures ∙ ap is_zero (to_z-of_z w128 c.args.number (search rules))) c.if-is_zero.false
    (ap (λ k. bytes_from c.args.source.now k c.args.message) (sym c.string_count.ensures)
    ∙ c.in-Err.ensures.value (subst (λ (k : ℕ). c.args.message + k < 2 ^ 32) (sym c.string_count.ensures) small) other)
