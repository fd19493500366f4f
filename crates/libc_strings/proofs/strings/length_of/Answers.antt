use Rattle.std.proofs.Common.{◌≡◌, false, ◌∙◌, ℕ, ℤ, pos, Vec, Global, to_z, of_z, ap, sym, subst, rules}
use Rattle.std.specs.Int.{w128}
use Rattle.std.proofs.lemmas.Int.{to_z-of_z}
use Rattle.std.proofs.lemmas.Result.{err_from_is_err_and}
use Rattle.libc_spec.specs.Library.{LibValue, number, strlen}
use Rattle.libc_arguments.specs.Seen.{value_seen}
use Rattle.libc_arguments.specs.Parts.{Gives}
use Rattle.libc_arguments.proofs.Finishing.{length_value, no_text, no_numbers, length_read}
use Rattle.libc_strings.proofs.strings.length_of.Goals as goal

pub returns-in_err-range-clause-follows : goal.returns-in_err-range-clause-follows
returns-in_err-range-clause-follows c =
    let p = err_from_is_err_and c.from_residual.result c.from_residual.ensures.1 in
    rw (p.1, p.2) (λ io cell. no_text value_seen length_value c.args.m.now io c.args.t.now c.check_string.new.t c.check_string.new.t c.args.text.addr
    c.args.text.prov c.in_err-range.field-0.0 (c.in_err-range.ensures.follows io cell))

pub returns-in_err-numbers-clause-follows : goal.returns-in_err-numbers-clause-follows
returns-in_err-numbers-clause-follows c =
    let p = err_from_is_err_and c.from_residual-in_err-numbers.result c.from_residual-in_err-numbers.ensures.1 in
    rw (p.1, p.2) (λ io cell. no_numbers (λ (v : Vec ℕ Global). v.items) value_seen length_value c.args.m.now io c.args.t.now c.check_string.new.t
    c.numbers.new.t c.numbers.new.t c.args.text.addr c.args.text.prov c.in_ok-range.range c.in_err-numbers.field-0.0 (c.in_ok-range.ensures.follows io cell)
    (c.in_err-numbers.ensures c.in_ok-range.ensures.short))

pub returns-clause-follows : goal.returns-clause-follows
returns-clause-follows c = λ io cell.
    let value : to_z w128 (of_z w128 c.from.result) ≡ c.from.result = to_z-of_z w128 c.from.result (search rules) in
    subst (λ (z : ℤ). Gives false LibValue c.args.m.now io c.args.t.now c.numbers.new.t (strlen c.args.m.now.rows c.args.text.addr c.args.text.prov)
    (number z)) (sym (value ∙ c.from.ensures ∙ ap pos c.saturating_sub.ensures))
    (length_read (λ (v : Vec ℕ Global). v.items) c.in_ok-numbers.field-0 c.args.m.now io c.args.t.now c.check_string.new.t c.numbers.new.t c.args.text.addr
    c.args.text.prov c.in_ok-range.range (c.in_ok-range.ensures.follows io cell) (c.in_ok-numbers.ensures c.in_ok-range.ensures.short))
