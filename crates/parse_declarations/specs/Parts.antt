-- A part of the rules that is a function of its own here.
use Rattle.c_ast.specs.declared.declaration.Init.{Init}
use Rattle.c_ast.specs.declared.declaration.InitEntry.{InitEntry}
use Rattle.parse_spec.specs.Initializers.{designation, entry_of}
use Rattle.parse_spec.specs.Steps.{Parser, ◌>>=◌, pure}

-- one initializer of a list, and the designation before it (6.7.9)
unfoldable pub one_init_entry : Parser Init → Parser InitEntry
one_init_entry initializer = do
  ds ← designation
  i ← initializer
  pure (entry_of ds i)
