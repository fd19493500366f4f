use Rattle.std.proofs.Common.{◌≡◌, ap, sym, ◌∙◌, arith}
use Rattle.std.proofs.lemmas.Int.{ints, to_z-of_z}
use Rattle.libc_spec.specs.Library.{argument_at, integer_in}
use Rattle.libc_arguments.specs.Seen.{values_seen}
use Rattle.libc_arguments.proofs.Seen.{argument_at-there, argument_at-none}
use Rattle.libc_arguments.proofs.arguments.int_at.Goals as goal

pub returns-in-Some : goal.returns-in-Some
returns-in-Some c =
    let h = c.in-Some.ensures in
    let e : c.int_of.result ≡ integer_in (argument_at (values_seen c.args.args.now) c.args.at) =
    c.int_of.ensures ∙ ap integer_in (sym (argument_at-there c.args.args.now c.args.at c.in-Some.value.now h.lookup.3.0 h.lookup.1)) in
    grind (arith, ints, to_z-of_z)

pub returns-in-None : goal.returns-in-None
returns-in-None c = let h = c.in-None.ensures in ap integer_in (sym (argument_at-none c.args.args.now c.args.at h.lookup.3))
