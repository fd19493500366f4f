-- How the evaluations that are told of a full expression stand along its canonical order (own).
use Rattle.std.specs.Prelude.{◌≡◌, ◌⊎◌, ◌<◌, ◌-◌, ◌^◌, ℕ, suc, Bool, true, false, List, [], ◌∷◌, Some, is_some, slice_get, length}
use Rattle.ub_base.specs.declared.clause.Kind.TheVariants.{Val, Body}
use Rattle.ub_base.specs.declared.names.Item.{Item}
use Rattle.c_typed.specs.declared.tree.Place.{Place}
use Rattle.c_typed.specs.declared.class.Class.{Class}
use Rattle.c_typed.specs.Tree.{Trees, node, size}
use Rattle.c_typed.specs.Order.{Taken, place, has}
use Rattle.c_model.specs.Completions.{Completed, Operands_of, completed_by}
use Rattle.elaborate.specs.Formed.{is_formed}
use Rattle.evaluation_log.specs.declared.rules.Rules.{Rules}
use Rattle.evaluation_log.specs.Ways.{rule_in}
use Rattle.run_evaluations.specs.First.{IsOnce}
use Rattle.run_evaluations.specs.Listing.{IsBeginning, IsListedNext}
use Rattle.run_evaluations.specs.Scopes.{Scope, part_of}
use Rattle.run_evaluations.specs.Shows.{FitsRules, OwnAreLast, TellsEnd}
use Rattle.run_evaluations.specs.Told.{Evaluation, Opened, Grows, IsBeside, IsNext, Tells, TellsNode, begun, chosen_by, gathered, given, settled, told}

-- ---- between events
-- What is done is a beginning of the listing, and of the nodes of which it stands together each is the next event's own, an operand of that one, or an
-- operand of a node above it that stands before it.
pub record StandsTold (t : Opened) : Type 0 where
  pub begins : IsBeginning t
  pub next : (u : Place) (c : Class) (ts : Trees) → IsListedNext t u → part_of t.scope u.node ≡ Some (node c ts) → IsNext t u.node c ts

-- ---- behind an event, before it is told what that completes
pub record StandsBehind (t : Opened) (last : Evaluation) : Type 0 where
  pub begins : IsBeginning t
  pub some : 0 < length t.done
  pub at : slice_get t.done (length t.done - 1) ≡ Some last
  pub parts : (m : ℕ) → t.parts m ≡ true → (m ≡ last.place.node) ⊎ IsBeside t.scope m last.place.node

-- ---- what the canonical order tells
-- the places of what is done
abbrev pub places : List Evaluation → List Place
places [] = []
places (e ∷ es) = e.place ∷ places es

-- what an event of the node n completes, as the last that is done
abbrev pub completed_in : Opened → ℕ → Completed
completed_in t n = completed_by t.scope.tree t.scope.taken (has (places t.done)) n

-- with its node it may complete all operands of the node above
abbrev pub with_completed : Completed → Opened → Opened
with_completed (Operands_of p) t = gathered p t
with_completed c t = t

-- As an event is done, a node may choose an operand whose first operand's value it is; all others keep what they chose (6.5.13 to 6.5.15).
pub record Chooses (old new : Taken) (u : Place) : Type 0 where
  pub grows : Grows old new
  pub only : (n : ℕ) → (u ≡ place (suc n) Val → ⊥) → new n ≡ old n

-- ---- that it stands so
-- as a full expression begins, and as it is settled
abbrev pub BeginsStanding : Type 0
BeginsStanding = (t : Opened) → ((turn : ℕ) (s : Scope) → StandsTold (begun turn s t)) × StandsTold (settled t)

-- as the next event chooses an operand, of which it stays the next
abbrev pub ChoosesStanding : Type 0
ChoosesStanding = (t : Opened) (u : Place) (taken : Taken) → StandsTold t → IsListedNext t u → Chooses t.scope.taken taken u →
    StandsTold (chosen_by taken t) × IsListedNext (chosen_by taken t) u

-- as the next event is told
abbrev pub TellsStanding : Type 0
TellsStanding = (t : Opened) (e : Evaluation) → StandsTold t → IsListedNext t e.place → StandsBehind (told e t) e

-- as it is told what that completes
abbrev pub CompletesStanding : Type 0
CompletesStanding = (t : Opened) (last : Evaluation) → is_formed t.scope.tree ≡ true → StandsBehind t last →
    StandsTold (with_completed (completed_in t last.place.node) t)

-- as a frame that the last event started is left
abbrev pub GivesStanding : Type 0
GivesStanding = (t : Opened) (body : Item → Bool) → (StandsTold t → StandsTold (given body t)) ×
    ((last : Evaluation) → StandsBehind t last → StandsBehind (given body t) (record last { body = body }))

-- ---- so what is told is what may be told
-- the next event
abbrev pub NextIsTold : Type 0
NextIsTold = (t : Opened) (rules : Rules) (u : Place) → FitsRules t.scope rules → size t.scope.tree < 2 ^ 32 → StandsTold t → IsListedNext t u →
    Tells t u (rule_in rules u.node) (is_some (t.scope.taken u.node))

-- the node above, of which the last event completes the operands; what is done of it doesn't stand together yet
abbrev pub OperandsAreTold : Type 0
OperandsAreTold = (t : Opened) (last : Evaluation) (rules : Rules) (p : ℕ) → is_formed t.scope.tree ≡ true → FitsRules t.scope rules →
    size t.scope.tree < 2 ^ 32 → StandsBehind t last → completed_in t last.place.node ≡ Operands_of p →
    TellsNode t p (rule_in rules p) (is_some (t.scope.taken p)) × (t.parts p ≡ false)

-- each evaluation is done once, and the last one's node has the last two at most
abbrev pub LastAreOwn : Type 0
LastAreOwn = (t : Opened) (last : Evaluation) → StandsBehind t last → IsOnce t × OwnAreLast t last.place.node

-- an end of the run, where the last one is the body that ended it or started the frame that did
abbrev pub EndIsTold : Type 0
EndIsTold = (t : Opened) (last : Evaluation) (rules : Rules) → is_formed t.scope.tree ≡ true → FitsRules t.scope rules →
    size t.scope.tree < 2 ^ 32 → StandsBehind t last → last.place.kind ≡ Body → TellsEnd t t.scope.tree rules last
