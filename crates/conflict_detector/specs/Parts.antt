-- Of a quiet full expression a part is recorded, and what is left out conflicts with nothing that it stands apart from (own).
use Rattle.std.specs.Prelude.{◌≡◌, ◌⊎◌, ℕ, true, false, List}
use Rattle.ub_base.specs.declared.names.Item.{Item}
use Rattle.addr_map.specs.declared.map.Row.{Row}
use Rattle.c_typed.specs.Order.{is_body, same_place}
use Rattle.c_typed.specs.Decide.{due_in}
use Rattle.quiet_trees.specs.Acts.{act_in}
use Rattle.quiet_trees.specs.Items.{is_noted, suits}
use Rattle.quiet_trees.specs.Loads.{Loads}
use Rattle.quiet_trees.specs.Quiet.{IsQuiet}
use Rattle.evaluation_log.specs.declared.sought.Sought.TheVariants.{Any}
use Rattle.evaluation_log.specs.Clashes.{NoClash}
use Rattle.run_evaluations.specs.Shows.{AreApart, IsAmong, NoneOfNode, NoneOfTwo}
use Rattle.run_evaluations.specs.Told.{Evaluation, Opened, has}

-- an evaluation without noted items, which is no body, may be left out
pub record IsLeftOut (e : Evaluation) : Type 0 where
  pub bodiless : is_body e.place.kind ≡ false
  pub plain : (j : Item) → e.own j ≡ true → is_noted j ≡ false

-- of the full expression t this much is recorded
pub record IsPart (k t : Opened) : Type 0 where
  pub scope : k.scope ≡ t.scope
  pub among : (e : Evaluation) → IsAmong k e → IsAmong t e
  pub rest : (e : Evaluation) → IsAmong t e → IsAmong k e ⊎ IsLeftOut e

-- the evaluation is due and has the items of its kind, and those of a frame if it is a body
pub record SuitsKind (t : Opened) (f : Loads) (e : Evaluation) : Type 0 where
  pub due : due_in t.scope.taken 0 t.scope.tree e.place ≡ true
  pub suits : (j : Item) → e.own j ≡ true → suits (act_in 0 t.scope.tree f e.place) j ≡ true
  pub bodiless : is_body e.place.kind ≡ false → (j : Item) → e.body j ≡ false

abbrev pub AllSuit : Opened → Loads → Type 0
AllSuit t f = (e : Evaluation) → IsAmong t e → SuitsKind t f e

-- one that is left out doesn't clash with another one, if neither is sequenced before the other
abbrev pub LeavesNone : Type 0
LeavesNone = (t : Opened) (f : Loads) (rows : List Row) (d e : Evaluation) → IsQuiet t.scope.tree f → SuitsKind t f d → SuitsKind t f e →
    same_place d.place e.place ≡ false → AreApart t.scope d.place e.place → IsLeftOut d ⊎ IsLeftOut e → NoClash Any rows (has d) (has e)

-- so what shows of the part shows of the whole
abbrev pub PartsShow : Type 0
PartsShow = (k t : Opened) (f : Loads) (rows : List Row) (n : ℕ) → IsQuiet t.scope.tree f → IsPart k t → AllSuit t f →
    (NoneOfTwo rows k n → NoneOfTwo rows t n) × (NoneOfNode rows k n → NoneOfNode rows t n)
