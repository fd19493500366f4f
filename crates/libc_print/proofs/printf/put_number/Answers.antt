use Rattle.std.proofs.Common.{◌≡◌, ◌∙◌, ap, to_z, of_z, rules}
use Rattle.std.specs.Int.{w128}
use Rattle.std.proofs.lemmas.Int.{to_z-of_z}
use Rattle.mem_spec.specs.Script.{◌>>=◌}
use Rattle.libc_spec.specs.Print.{next_integer, is_signed_conversion, integer_parts, integer_field, field, one}
use Rattle.libc_print.specs.Seen.{left}
use Rattle.libc_directives.specs.Seen.{flags_seen, length_seen, width_seen}
use Rattle.libc_directives.proofs.Writing.{puts_refused, puts_taken, puts_one, integer_opened}
use Rattle.libc_print.proofs.printf.put_number.Goals as goal

pub returns-in-Err-clause-exact : goal.returns-in-Err-clause-exact
returns-in-Err-clause-exact c =
    let e = c.in-Err.ensures.exact in
    puts_refused c.in-Err.clause c.args.out.now.items c.args.out.now.items (left c.take_integer.new.args)
    (next_integer (length_seen c.args.directive.length) (is_signed_conversion c.args.directive.conversion) (left c.args.args.now))
    (λ n. field (integer_parts (flags_seen c.args.directive.flags) c.args.directive.conversion c.args.precision n.item)
    (integer_field (flags_seen c.args.directive.flags) (width_seen c.args.width) c.args.precision) >>= (λ bytes. one bytes n.rest))
    (e ∙ ap (λ b. next_integer (length_seen c.args.directive.length) b (left c.args.args.now)) c.is_signed.ensures)

pub returns-in-Ok-clause-exact : goal.returns-in-Ok-clause-exact
returns-in-Ok-clause-exact c =
    let e = c.in-Ok.ensures.exact in
    let q : to_z w128 (of_z w128 c.in-Ok.number) ≡ c.in-Ok.number = to_z-of_z w128 c.in-Ok.number (search rules) in
    puts_taken c.put_integer.result c.args.out.now.items c.put_integer.new.out.items (left c.take_integer.new.args)
    (record { item = c.in-Ok.number; rest = left c.take_integer.new.args })
    (next_integer (length_seen c.args.directive.length) (is_signed_conversion c.args.directive.conversion) (left c.args.args.now))
    (λ n. field (integer_parts (flags_seen c.args.directive.flags) c.args.directive.conversion c.args.precision n.item)
    (integer_field (flags_seen c.args.directive.flags) (width_seen c.args.width) c.args.precision) >>= (λ bytes. one bytes n.rest))
    (e ∙ ap (λ b. next_integer (length_seen c.args.directive.length) b (left c.args.args.now)) c.is_signed.ensures)
    (puts_one c.put_integer.result c.args.out.now.items c.put_integer.new.out.items
    (field (integer_parts (flags_seen c.args.directive.flags) c.args.directive.conversion c.args.precision c.in-Ok.number)
    (integer_field (flags_seen c.args.directive.flags) (width_seen c.args.width) c.args.precision))
    (left c.take_integer.new.args)
    (integer_opened c.put_integer.result c.args.out.now.items c.put_integer.new.out.items (flags_seen c.args.directive.flags) c.args.directive.conversion
    c.args.precision c.in-Ok.number
    (integer_field (flags_seen c.args.directive.flags) (width_seen c.args.width) c.args.precision) (rw q at c.put_integer.ensures)))
