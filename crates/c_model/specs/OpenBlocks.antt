-- A todo list leaves just the blocks that are open.
use Rattle.std.specs.Prelude.{◌≡◌, ℕ, List, [], ◌∷◌, Some}
use Rattle.c_model.specs.Program.{Stmt}
use Rattle.c_model.specs.Control.{Todo, Enter, Leave, Target, find, ready_work, out_of, on_with, leaves, gone_to}

-- these blocks are open, the innermost first: the list leaves them in this order, and those that it enters before
abbrev pub Closes : Todo → List ℕ → Type 0
Closes [] around = around ≡ []
Closes (Enter b ds ∷ rest) around = Closes rest (b ∷ around)
Closes (Leave b ds ∷ rest) [] = ⊥
Closes (Leave b ds ∷ rest) (o ∷ os) = (o ≡ b) × Closes rest os
Closes (w ∷ rest) around = Closes rest around

-- no block is entered on the list
abbrev pub NoEnters : Todo → Type 0
NoEnters [] = Unit {0}
NoEnters (Enter b ds ∷ rest) = ⊥
NoEnters (w ∷ rest) = NoEnters rest

-- making the next control step ready keeps this
abbrev pub ReadyCloses : Type 0
ReadyCloses = (todo : Todo) (around : List ℕ) → Closes todo around → Closes (ready_work todo) around

-- and so do `break`, `continue` and `return`, where no block is still to be entered
abbrev pub MovesClose : Type 0
MovesClose = (todo : Todo) (around : List ℕ) → NoEnters todo → Closes todo around
    → Closes (out_of todo) around × Closes (on_with todo) around × Closes (leaves todo) around

-- `goto` leads to a list that leaves the blocks that are open and enters those round its label, whose work is `ws`
abbrev pub GotoCloses : Type 0
GotoCloses = (ws todo : Todo) (around : List ℕ) → NoEnters ws → NoEnters todo → Closes todo around → Closes (gone_to todo (Some ws)) around

-- the work that is found enters no block by itself
abbrev pub FindsNoEnters : Type 0
FindsNoEnters = (t : Target) (s : Stmt) (ws : Todo) → find t s ≡ Some ws → NoEnters ws

abbrev pub NoEntersBehind : Todo → Type 0
NoEntersBehind [] = Unit {0}
NoEntersBehind (w ∷ rest) = NoEnters rest

-- and behind the next control step no block is entered, where none was to be
abbrev pub ReadyEnters : Type 0
ReadyEnters = (todo : Todo) → NoEnters todo → NoEntersBehind (ready_work todo)
