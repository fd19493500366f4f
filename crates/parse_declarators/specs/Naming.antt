-- The name of a declarator comes into scope.
use Rattle.std.specs.Prelude.{ℕ, Bool, Option, Some, None}
use Rattle.c_ast.specs.Input.{Input}
use Rattle.parse_cursor.specs.Declarations.{declared_at}

-- where there is one, and its number is that of a token
abbrev pub named_at : Bool → Option ℕ → Input → Input
named_at typedef None i = i
named_at typedef (Some n) i = declared_at n typedef i
