use Rattle.std.proofs.Common.{◌≡◌, ◌∙◌, ◌∷◌, [], ap, to_z, of_z, rules}
use Rattle.std.specs.Int.{w128}
use Rattle.std.proofs.lemmas.Int.{to_z-of_z}
use Rattle.mem_spec.specs.Script.{◌>>=◌}
use Rattle.libc_spec.specs.Library.{low_byte}
use Rattle.libc_spec.specs.Print.{next_int, bare, spaced, field, one}
use Rattle.libc_print.specs.Seen.{left}
use Rattle.libc_directives.specs.Seen.{flags_seen, width_seen}
use Rattle.libc_directives.proofs.Writing.{puts_refused, puts_taken, puts_one}
use Rattle.libc_print.proofs.printf.put_byte.Goals as goal

pub returns-in-Err-clause-exact : goal.returns-in-Err-clause-exact
returns-in-Err-clause-exact c =
    let e = c.in-Err.ensures.exact in
    puts_refused c.in-Err.clause c.args.out.now.items c.args.out.now.items (left c.take_int.new.args)
    (next_int (left c.args.args.now))
    (λ n. field (bare (low_byte n.item ∷ [])) (spaced (flags_seen c.args.directive.flags) (width_seen c.args.width)) >>= (λ bytes. one bytes n.rest))
    e

pub returns-in-Ok-clause-exact : goal.returns-in-Ok-clause-exact
returns-in-Ok-clause-exact c =
    let e = c.in-Ok.ensures.exact in
    let q : to_z w128 (of_z w128 c.in-Ok.number) ≡ c.in-Ok.number = to_z-of_z w128 c.in-Ok.number (search rules) in
    let b : c.low_byte.result ≡ low_byte c.in-Ok.number = c.low_byte.ensures ∙ ap low_byte q in
    puts_taken c.put_text.result c.args.out.now.items c.put_text.new.out.items (left c.take_int.new.args)
    (record { item = c.in-Ok.number; rest = left c.take_int.new.args })
    (next_int (left c.args.args.now))
    (λ n. field (bare (low_byte n.item ∷ [])) (spaced (flags_seen c.args.directive.flags) (width_seen c.args.width)) >>= (λ bytes. one bytes n.rest))
    e
    (puts_one c.put_text.result c.args.out.now.items c.put_text.new.out.items
    (field (bare (low_byte c.in-Ok.number ∷ [])) (spaced (flags_seen c.args.directive.flags) (width_seen c.args.width)))
    (left c.take_int.new.args) (rw b at c.put_text.ensures))
