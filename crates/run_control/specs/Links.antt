-- The work round the targets of jumps, and the blocks round work.
use Rattle.std.specs.Borrow.{Bor}
use Rattle.std.specs.Prelude.{ℕ, suc, List, [], ◌∷◌, ◌==◌, length, map, reverse, if◌then◌else◌, Option, Some, None}
use Rattle.c_model.specs.Program.{Decl}
use Rattle.c_model.specs.Control.{Todo}
use Rattle.run_control.specs.declared.statement.Block.{Block}
use Rattle.run_control.specs.declared.links.Link.{Link}
use Rattle.run_control.specs.declared.links.Place.{Place}
use Rattle.run_control.specs.declared.work.Work.{Work}
use Rattle.run_control.specs.declared.work.Work.TheVariants as work
use Rattle.run_control.specs.View.{Meaning, block_of, todo_of}

-- the work of a link and of those round it, the links newest first, the oldest being number 1
abbrev pub path : List Link → ℕ → List Work
path [] n = []
path (l ∷ ls) n = if n == suc (length ls) then l.work ∷ path ls l.outer else path ls n

-- the work from a target on
abbrev pub work_from : List Link → Place → List Work
work_from links target = work.ToDo target.statement ∷ path (reverse links) target.round

-- the blocks that work leaves, innermost first
abbrev pub blocks_in : List Work → List (Bor Block)
blocks_in [] = []
blocks_in (work.Leave b ∷ ws) = b ∷ blocks_in ws
blocks_in (w ∷ ws) = blocks_in ws

abbrev pub named : Meaning → List (Bor Block) → List (ℕ × List Decl)
named m = map (λ b. ((block_of m b.now).number, m.decls (block_of m b.now).number))

-- the outermost first
abbrev pub outwards_in : Meaning → List (Bor Block) → List (ℕ × List Decl)
outwards_in m blocks = named m (reverse blocks)

abbrev pub work_at : Meaning → List Link → Option Place → Option Todo
work_at m links None = None
work_at m links (Some target) = Some (todo_of m (work_from links target))
