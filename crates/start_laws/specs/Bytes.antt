-- The constants and the literals of a lawful program are bytes (5.2.4.2.1p1, 6.4.5, 6.7.9).
use Rattle.std.specs.Prelude.{ℕ, List}
use Rattle.std.specs.List.{All}
use Rattle.c_typed.specs.declared.program.Program.{Program}
use Rattle.c_typed.specs.Lawful.{IsLawful}
use Rattle.value_facts.specs.Held.{AreBytes}
use Rattle.value_facts.specs.Trees.{HasByteConstants}

-- so all that a run of it begins with is small, where the arguments are bytes
abbrev pub LawfulHasBytes : Type 0
LawfulHasBytes = (p : Program) (arguments : List (List ℕ)) → IsLawful p → All AreBytes arguments → HasByteConstants p arguments
