-- Moves that keep the blocks to be left: what becomes of each piece of work on the way.
use Rattle.std.specs.Prelude.{◌≡◌, ◌∷◌, List}
use Rattle.c_model.specs.Control.{Todo, out_of, on_with, leaves}
use Rattle.run_control.specs.declared.moves.Move.{Move}
use Rattle.run_control.specs.declared.moves.Move.TheVariants.{Out, On, Back}
use Rattle.run_control.specs.declared.moves.Fate.{Fate}
use Rattle.run_control.specs.declared.moves.Fate.TheVariants.{Keep, Skip, Past, At}
use Rattle.run_control.specs.declared.work.Work.{Work}
use Rattle.run_control.specs.View.{Meaning, work_of, todo_of}

-- after `break`, `continue` or `return`
abbrev pub moved : Move → Todo → Todo
moved Out = out_of
moved On = on_with
moved Back = leaves

-- what is left of a piece of work and of the rest
abbrev pub Becomes : Meaning → Move → Work → Fate → List Work → Type 0
Becomes m how w Keep rest = moved how (todo_of m (w ∷ rest)) ≡ work_of m w ∷ moved how (todo_of m rest)
Becomes m how w Skip rest = moved how (todo_of m (w ∷ rest)) ≡ moved how (todo_of m rest)
Becomes m how w Past rest = moved how (todo_of m (w ∷ rest)) ≡ todo_of m rest
Becomes m how w At rest = moved how (todo_of m (w ∷ rest)) ≡ todo_of m (w ∷ rest)
