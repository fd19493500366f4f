use Rattle.std.proofs.Common.{◌≡◌, ◌-◌, ◌++◌, reverse}
use Rattle.libc_directives.specs.Seen.{base_number, is_upper}
use Rattle.libc_directives.proofs.Writing.{digits_left}
use Rattle.libc_directives.proofs.number.lowest_first.Given as goal

abbrev pub invariant-loop-turn : goal.invariant-loop-turn
invariant-loop-turn l =
    digits_left 64 (is_upper l.base) (base_number l.base) l.fn.number
    ≡ digits_left (64 - l._turn) (is_upper l.base) (base_number l.base) l.rest ++ reverse l.digits.items
