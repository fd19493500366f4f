-- What reading leaves of the tokens and of the declarations in scope.
use Rattle.std.specs.Prelude.{◌≡◌, ℕ, Bool, List, ◌++◌, Some}
use Rattle.c_ast.specs.Input.{Input}
use Rattle.parse_spec.specs.Steps.{Parser}

-- the tokens stay as they are, and declarations are only added
pub record Adds (i j : Input) : Type 0 where
  pub tokens : j.tokens ≡ i.tokens
  pub more : List (ℕ × Bool)
  pub names : j.names ≡ i.names ++ more

pub record OnlyAdds {A : Type 0} (p : Parser A) : Type 0 where
  pub adds : (i j : Input) (a : A) → p i ≡ Some (a, j) → Adds i j

-- the declarations in scope are those that were in scope before
pub record Ends (i j : Input) : Type 0 where
  pub tokens : j.tokens ≡ i.tokens
  pub names : j.names ≡ i.names
