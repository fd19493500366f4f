-- The targets of jumps in a statement, in the order of the text, and what the links round them say.
use Rattle.std.specs.Prelude.{◌≡◌, ℕ, ◌≤◌, Bool, true, false, not, List, [], ◌∷◌, ◌++◌, length, map, reverse}
use Rattle.c_model.specs.Program as model
use Rattle.c_model.specs.Program.{Stmt, Stmts, end, and_then}
use Rattle.c_model.specs.Control as todo
use Rattle.c_model.specs.Control.{Todo, to_label, to_case, to_default}
use Rattle.run_control.specs.declared.statement.Statement.{Statement, para-Statement}
use Rattle.run_control.specs.declared.statement.Statement.TheOpen as form
use Rattle.run_control.specs.declared.statement.Statement.TheOpen.{Statement-F, Block-F, Switch-F, Again-F, Round-F}
use Rattle.run_control.specs.declared.statement.Block.{Block, para-Block}
use Rattle.run_control.specs.declared.statement.Switch.{Switch, para-Switch}
use Rattle.run_control.specs.declared.statement.Again.{Again, para-Again}
use Rattle.run_control.specs.declared.statement.Round.{Round, para-Round}
use Rattle.run_control.specs.declared.links.Link.{Link}
use Rattle.run_control.specs.declared.targets.Target.{Target}
use Rattle.run_control.specs.declared.targets.Target.TheVariants as target
use Rattle.run_control.specs.declared.targets.Found.{Found}
use Rattle.run_control.specs.View.{Meaning, todo_of, stmt_of}
use Rattle.run_control.specs.Links.{path, work_from}

abbrev pub Targets : Type 0
Targets = List (todo.Target × Todo)

-- the targets of a statement that have this work behind them
abbrev pub and_all : Targets → Todo → Targets
and_all [] rest = []
and_all (t ∷ ts) rest = (t.0, t.1 ++ rest) ∷ and_all ts rest

abbrev pub if_in : Bool → todo.Target → Stmt → Targets → Targets
if_in true t s ts = (t, todo.To_do s ∷ []) ∷ ts
if_in false t s ts = ts

abbrev pub where_goes : Bool → Targets → Targets
where_goes true ts = ts
where_goes false ts = []

abbrev mutual
  -- with the work from each on: the labels, those in a `switch` too, or the cases of the `switch` that this is the body of
  pub targets : (labels : Bool) → Stmt → Targets
  targets labels (model.Label k s) = if_in labels (to_label k) s (targets labels s)
  targets labels (model.Case z s) = if_in (not labels) (to_case z) s (targets labels s)
  targets labels (model.Default s) = if_in (not labels) to_default s (targets labels s)
  targets labels (model.Block b ds ss) = and_all (all_targets labels ss) (todo.Leave b ds ∷ [])
  targets labels (model.If e s t) = targets labels s ++ targets labels t
  targets labels (model.If_only e s) = targets labels s
  targets labels (model.Switch e s) = where_goes labels (and_all (targets labels s) (todo.Break_here ∷ []))
  targets labels (model.Do s e) = and_all (targets labels s) (todo.Again e s ∷ [])
  targets labels (model.For start test step s) = and_all (targets labels s) (todo.Round test step s ∷ [])
  targets labels _ = []

  pub all_targets : Bool → Stmts → Targets
  all_targets labels end = []
  all_targets labels (and_then s ss) = and_all (targets labels s) (todo.Rest ss ∷ []) ++ all_targets labels ss

abbrev pub target_of : Target → todo.Target
target_of (target.Label k) = to_label k
target_of (target.Case z) = to_case z
target_of target.Default = to_default

abbrev pub seen : Meaning → List Link → Found → todo.Target × Todo
seen m links f = (target_of f.target, todo_of m (work_from links f.place))

-- a target is added where it is wanted
abbrev pub added : Bool → List Found → Found → List Found
added true fs f = fs ++ f ∷ []
added false fs f = fs

abbrev pub InRange : ℕ → List Found → Type 0
InRange n [] = Unit {0}
InRange n (f ∷ fs) = (f.place.round ≤ n) × InRange n fs

-- the body that a `switch` number stands for, and the one that stands there
abbrev pub Bodies : Type 0
Bodies = List (Stmt × Stmt)

abbrev pub joined : List (Statement × Bodies) → Bodies
joined [] = []
joined (b ∷ bs) = b.1 ++ joined bs

module _ (m : Meaning) where
  abbrev pub statement_bodies : Statement-F (Statement × Bodies) (Again × Bodies) (Block × Bodies) (Round × Bodies) (Switch × Bodies) → Bodies
  statement_bodies (form.Block b) = b.1
  statement_bodies (form.If n s t) = s.1 ++ t.1
  statement_bodies (form.IfOnly n s) = s.1
  statement_bodies (form.Switch b) = b.1
  statement_bodies (form.Do b) = b.1
  statement_bodies (form.For start b) = b.1
  statement_bodies (form.Label k s) = s.1
  statement_bodies (form.Case z s) = s.1
  statement_bodies (form.Default s) = s.1
  statement_bodies _ = []

  abbrev pub again_bodies : Again-F (Statement × Bodies) (Again × Bodies) (Block × Bodies) (Round × Bodies) (Switch × Bodies) → Bodies
  again_bodies b = b.body.1

  abbrev pub block_bodies : Block-F (Statement × Bodies) (Again × Bodies) (Block × Bodies) (Round × Bodies) (Switch × Bodies) → Bodies
  block_bodies b = joined b.statements

  abbrev pub round_bodies : Round-F (Statement × Bodies) (Again × Bodies) (Block × Bodies) (Round × Bodies) (Switch × Bodies) → Bodies
  round_bodies b = b.body.1

  abbrev pub switch_bodies : Switch-F (Statement × Bodies) (Again × Bodies) (Block × Bodies) (Round × Bodies) (Switch × Bodies) → Bodies
  switch_bodies b = (m.body b.number, stmt_of m b.body.0) ∷ b.body.1

  abbrev pub bodies : Statement → Bodies
  bodies = para-Statement Bodies Bodies Bodies Bodies Bodies statement_bodies again_bodies block_bodies round_bodies switch_bodies

  abbrev pub block_pairs : Block → Bodies
  block_pairs = para-Block Bodies Bodies Bodies Bodies Bodies statement_bodies again_bodies block_bodies round_bodies switch_bodies

  abbrev pub again_pairs : Again → Bodies
  again_pairs = para-Again Bodies Bodies Bodies Bodies Bodies statement_bodies again_bodies block_bodies round_bodies switch_bodies

  abbrev pub round_pairs : Round → Bodies
  round_pairs = para-Round Bodies Bodies Bodies Bodies Bodies statement_bodies again_bodies block_bodies round_bodies switch_bodies

  abbrev pub switch_pairs : Switch → Bodies
  switch_pairs = para-Switch Bodies Bodies Bodies Bodies Bodies statement_bodies again_bodies block_bodies round_bodies switch_bodies

  abbrev pub all_bodies : List Statement → Bodies
  all_bodies ss = joined (map (λ s. (s, bodies s)) ss)

abbrev pub AllEqual : Bodies → Type 0
AllEqual [] = Unit {0}
AllEqual (b ∷ bs) = (b.0 ≡ b.1) × AllEqual bs

-- targets were added: links that were there lead where they led, and what was added is what stands in the statement,
-- with the work round it
pub record Adds (links : List Link) (found : List Found) (links' : List Link) (found' : List Found) (round : ℕ) (ts : Meaning
    → Targets) (pairs : Meaning → Bodies) : Type 0 where
  pub longer : length links ≤ length links'
  pub older : (n : ℕ) → n ≤ length links → path (reverse links') n ≡ path (reverse links) n
  pub in_range : round ≤ length links → InRange (length links) found → InRange (length links') found'
  pub adds : (m : Meaning) → AllEqual (pairs m) → round ≤ length links → InRange (length links) found
      → map (seen m links') found' ≡ map (seen m links) found ++ and_all (ts m) (todo_of m (path (reverse links) round))
