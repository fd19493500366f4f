use Rattle.std.proofs.Common.{◌≡◌, ◌+◌, ◌<◌, ◌==◌, ◌∙◌, ℕ, Vec, Global, ap, arith, rules, Some, None}
use Rattle.std.specs.Int.{w128}
use Rattle.std.proofs.lemmas.Int.{to_z-of_z}
use Rattle.std.specs.List.{position}
use Rattle.std.proofs.lemmas.Result.{err_from_is_err_and}
use Rattle.libc_spec.specs.Library.{pointer, low_byte}
use Rattle.libc_arguments.specs.Seen.{value_seen}
use Rattle.libc_arguments.proofs.Finishing.{no_text, no_numbers, place_value, place_read, place_in_range}
use Rattle.libc_strings.proofs.strings.place_in_string.Goals as goal

pub returns-in_err-range-clause-follows : goal.returns-in_err-range-clause-follows
returns-in_err-range-clause-follows c =
    let p = err_from_is_err_and c.from_residual.result c.from_residual.ensures.1 in
    rw (p.1, p.2) (λ io cell. no_text value_seen (place_value c.args.text.addr c.args.text.prov c.args.number) c.args.m.now io c.args.t.now
    c.check_string.new.t c.check_string.new.t c.args.text.addr c.args.text.prov c.in_err-range.field-0.0 (c.in_err-range.ensures.follows io cell))

pub returns-in_err-numbers-clause-follows : goal.returns-in_err-numbers-clause-follows
returns-in_err-numbers-clause-follows c =
    let p = err_from_is_err_and c.from_residual-in_err-numbers.result c.from_residual-in_err-numbers.ensures.1 in
    rw (p.1, p.2) (λ io cell. no_numbers (λ (v : Vec ℕ Global). v.items) value_seen (place_value c.args.text.addr c.args.text.prov c.args.number) c.args.m.now
    io c.args.t.now c.check_string.new.t c.numbers.new.t c.numbers.new.t c.args.text.addr c.args.text.prov c.in_ok-range.range c.in_err-numbers.field-0.0
    (c.in_ok-range.ensures.follows io cell) (c.in_err-numbers.ensures c.in_ok-range.ensures.short))

pub returns-in-Some-clause-follows : goal.returns-in-Some-clause-follows
returns-in-Some-clause-follows c = λ io cell.
    let items = λ (v : Vec ℕ Global). v.items in
    let read = c.in_ok-numbers.ensures c.in_ok-range.ensures.short in
    let place : Some c.in-Some.at ≡ position (λ n. n == c.low_byte.result) c.in_ok-numbers.numbers.items =
    c.in-Some.ensures ∙ ap (position (λ n. n == c.low_byte.result)) c.as_slice.ensures.value in
    let inside : c.in-Some.at < c.in_ok-range.range.len = place_in_range items c.in_ok-numbers.numbers c.args.m.now c.in_ok-range.range c.low_byte.result
    c.in-Some.at c.check_string.new.t c.numbers.new.t read place in
    let behind : c.saturating_add.result ≡ c.args.text.addr + c.in-Some.at = omega (arith, inside, c.in_ok-range.ensures.near) in
    place_read items c.in_ok-numbers.numbers c.args.m.now io c.args.t.now c.check_string.new.t c.numbers.new.t c.args.text.addr c.args.text.prov c.args.number
    c.low_byte.result (Some c.in-Some.at) (pointer c.saturating_add.result c.args.text.prov) c.in_ok-range.range
    (c.in_ok-range.ensures.follows io cell) read (c.low_byte.ensures ∙ ap low_byte (to_z-of_z w128 c.args.number (search rules))) place
    (ap (λ (n : ℕ). pointer n c.args.text.prov) behind)

pub returns-clause-follows : goal.returns-clause-follows
returns-clause-follows c = λ io cell.
    let items = λ (v : Vec ℕ Global). v.items in
    place_read items c.in_ok-numbers.numbers c.args.m.now io c.args.t.now c.check_string.new.t c.numbers.new.t c.args.text.addr c.args.text.prov c.args.number
    c.low_byte.result None (value_seen c.value.result) c.in_ok-range.range
    (c.in_ok-range.ensures.follows io cell) (c.in_ok-numbers.ensures c.in_ok-range.ensures.short)
    (c.low_byte.ensures ∙ ap low_byte (to_z-of_z w128 c.args.number (search rules)))
    (c.in-None.ensures ∙ ap (position (λ n. n == c.low_byte.result)) c.as_slice.ensures.value) (ap value_seen c.value.ensures)
