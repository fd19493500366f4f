-- What is answered for help (own).
use Rattle.std.specs.Prelude.{◌≡◌, ◌⊎◌, ◌++◌, ℕ, List, Option, Some, None, codes}
use Rattle.command_help.specs.Commands.{Begins, IsCommand, first_lines}

-- help on all commands, or on the one of this name; where no command has that name, the words are no use
abbrev pub IsHelp : Option (List ℕ) → ℕ → List ℕ → Type 0
IsHelp None status text = (status ≡ 0) × Begins first_lines text
IsHelp (Some name) status text =
    ((status ≡ 0) × IsCommand name × Begins (codes "cub " ++ name) text) ⊎ ((status ≡ 10) × (¬ IsCommand name) × (text ≡ codes "usage\n"))
