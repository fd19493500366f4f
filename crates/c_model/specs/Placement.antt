-- Where the objects of a run stand (own).
use Rattle.std.specs.Prelude.{◌≡◌, ℕ, Bool, true, ◌&&◌, ◌==◌, List, [], ◌∷◌, ◌++◌, map}
use Rattle.ub_base.specs.declared.names.ObjName.{ObjName}
use Rattle.ub_base.specs.declared.names.Item.{Item}
use Rattle.ub_base.specs.declared.names.Item.TheVariants.{Born}
use Rattle.addr_map.specs.declared.map.Row.{Row}
use Rattle.addr_map.specs.declared.map.Mode.{Mode}
use Rattle.addr_map.specs.Rows.{base_of}
use Rattle.c_model.specs.Program.{Program, Standing}
use Rattle.c_model.specs.Values.{Value}
use Rattle.c_model.specs.World.{World}
use Rattle.c_model.specs.Runs.{Entry, Outcome, Raises, Ends, Running, start, canonical_after, on_running}

abbrev pub born_in : List Item → List ObjName
born_in [] = []
born_in (Born x ∷ is) = x ∷ born_in is
born_in (i ∷ is) = born_in is

-- the objects that the picks created, in their order
abbrev pub created_by : List Entry → List ObjName
created_by [] = []
created_by (e ∷ es) = created_by es ++ born_in e.items

abbrev pub standing_names : List Standing → List ObjName
standing_names os = map (λ o. o.name) os

-- the objects of a run: those that stand before the first pick, then those that the picks created; none where the start passes a limit
abbrev pub objects_of : Program → Outcome → List ObjName
objects_of p (Running st) = standing_names p.standing ++ created_by st.trace
objects_of p (Raises c trace) = standing_names p.standing ++ created_by trace
objects_of p (Ends status output trace) = standing_names p.standing ++ created_by trace
objects_of p _ = []

-- each row stands where its mode puts it behind the rows before it
abbrev pub follow : Mode → List Row → List Row → Bool
follow mode before [] = true
follow mode before (r ∷ rs) = (r.base == base_of mode before r.align) && follow mode (before ++ (r ∷ [])) rs

-- The rows are those of the objects created by so many picks of the canonical order, in the order of their creation, each where its
-- mode puts it. A creation asks for a row of its size and alignment, so these are right as well. A row whose object isn't created yet
-- changes no act, so the run under all rows is the run under a map that grows.
pub record IsPlacement (mode : Mode) (world : World) (input : List ℕ) (vs : List Value) (picks : ℕ) : Type 0 where
  pub placed : follow mode [] world.rows ≡ true
  pub created : map (λ r. r.name) world.rows ≡ objects_of world.program (on_running (start world input vs) (canonical_after world picks))
