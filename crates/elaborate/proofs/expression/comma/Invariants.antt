use Rattle.std.proofs.Common.{◌≡◌, ◌+◌, map, length}
use Rattle.core_ir.specs.Term.{term_of}
use Rattle.elaborate.specs.Terms.{comma_of}
use Rattle.elaborate.proofs.Operands.{strung}
use Rattle.elaborate.proofs.expression.comma.Given as goal

-- the operands that are left, before what is made of the others
abbrev pub invariant-loop-turn : goal.invariant-loop-turn
invariant-loop-turn l =
    (length l.parts + l._turn ≡ l._turn-end) × (strung (map term_of l.parts) (term_of l.whole) ≡ comma_of l.number (map term_of l.fn.parts))
