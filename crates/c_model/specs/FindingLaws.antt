-- The canonical order is permitted, and what is found first along it is true.
use Rattle.std.specs.Prelude.{◌≡◌, ℕ, List, Option}
use Rattle.ub_base.specs.declared.clause.Clause.{Clause}
use Rattle.ub_base.specs.declared.clause.Cause.{Cause}
use Rattle.ub_base.specs.Frames.{Path}
use Rattle.c_typed.specs.declared.tree.Place.{Place}
use Rattle.c_model.specs.Values.{Value}
use Rattle.c_model.specs.World.{World}
use Rattle.c_model.specs.Runs.{Outcome, Running, Ends}
use Rattle.c_model.specs.FirstFinding.{Pair, Undefined, Raced, Order_dependent, Out_of_steps, Outside, first_finding}
use Rattle.c_model.specs.Claims.{CanonicallyComesTo, RaisesAt, RunsOn, PassesLimit}

-- a raised clause is raised there, by permitted picks
abbrev pub RaisesAreTrue : Type 0
RaisesAreTrue =
    (world : World) (budget : ℕ) (input : List ℕ) (vs : List Value) (c : Clause) (path : Path) (turn : ℕ) (place : Option Place) (line picks : ℕ)
    → first_finding world budget input vs ≡ Undefined c path turn place line picks → RaisesAt world input vs c path turn place line picks

-- out of steps: so many permitted picks have no end
abbrev pub StepsAreTrue : Type 0
StepsAreTrue =
    (world : World) (budget : ℕ) (input : List ℕ) (vs : List Value) (picks : ℕ)
    → first_finding world budget input vs ≡ Out_of_steps picks → RunsOn world input vs picks

-- outside: after so many permitted picks the next one, or the start, would pass the limit
abbrev pub LimitsAreTrue : Type 0
LimitsAreTrue =
    (world : World) (budget : ℕ) (input : List ℕ) (vs : List Value) (cause : Cause) (number picks : ℕ)
    → first_finding world budget input vs ≡ Outside cause number picks → PassesLimit world input vs cause number picks

abbrev pub GoesOrEnds : Outcome → Type 0
GoesOrEnds (Running st) = Unit {0}
GoesOrEnds (Ends status output trace) = Unit {0}
GoesOrEnds o = ⊥

-- so many picks of the canonical order are permitted, and after them the run goes on or has ended
pub record PairMet (world : World) (input : List ℕ) (vs : List Value) (picks : ℕ) : Type 0 where
  pub outcome : Outcome
  pub permitted : CanonicallyComesTo world input vs picks outcome
  pub goes_or_ends : GoesOrEnds outcome

-- the picks that lead to a pair are such picks
abbrev pub PairsAreMet : Type 0
PairsAreMet =
    (world : World) (budget : ℕ) (input : List ℕ) (vs : List Value) (pair : Pair) (picks : ℕ)
    → (first_finding world budget input vs ≡ Raced pair picks → PairMet world input vs picks)
    × (first_finding world budget input vs ≡ Order_dependent pair picks → PairMet world input vs picks)
