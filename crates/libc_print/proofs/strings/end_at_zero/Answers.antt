use Rattle.std.proofs.Common.{◌==◌, ◌∙◌, ap, sym}
use Rattle.std.specs.List.{position}
use Rattle.libc_print.proofs.Bounded.{cut_at, cut_none}
use Rattle.libc_print.proofs.strings.end_at_zero.Goals as goal

pub returns-in-Some : goal.returns-in-Some
returns-in-Some c = c.truncate.ensures.items ∙ cut_at c.in-Some.at c.args.bytes.now.items
    (c.in-Some.ensures ∙ ap (position (λ n. n == 0)) c.as_slice.ensures.value)

pub returns-in_default : goal.returns-in_default
returns-in_default c = cut_none c.args.bytes.now.items (sym c.in_default.is ∙ c.place_of_zero.ensures ∙ ap (position (λ n. n == 0)) c.as_slice.ensures.value)
