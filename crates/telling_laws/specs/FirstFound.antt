-- What is told of an event and of what it completes is what c_model finds first there (own; 6.5p2 for races).
use Rattle.std.specs.Prelude.{◌≡◌, ◌⊎◌, ℕ, true, false, List, Option, Some, None}
use Rattle.ub_base.specs.Frames.{Row as FrameRow}
use Rattle.ub_base.specs.declared.names.Event.{Event}
use Rattle.addr_map.specs.declared.map.Row.{Row}
use Rattle.c_typed.specs.declared.tree.Place.{Place}
use Rattle.c_typed.specs.Order.{Taken, has, is_body, place}
use Rattle.c_model.specs.Completions.{Completed, Incomplete, Own_node, Operands_of}
use Rattle.c_model.specs.FirstFinding.{quarrels, races}
use Rattle.c_model.specs.Moments.{Open, has_shown}
use Rattle.elaborate.specs.Formed.{is_formed}
use Rattle.evaluation_log.specs.FoundItems.{first_found}
use Rattle.evaluation_log.specs.declared.found.Found.{Found}
use Rattle.evaluation_search.specs.First.{IsFirstOf}
use Rattle.finding_laws.specs.FirstPairs.{IsDue, IsFirstPair, NoPair, precedes}
use Rattle.finding_laws.specs.Forgotten.{AreAsked, HasItemsOf}
use Rattle.run_evaluations.specs.First.{AreOfNode, AreOfOperands, IsConflictIn}
use Rattle.run_evaluations.specs.Listing.{IsBeginning}
use Rattle.run_evaluations.specs.Scopes.{Scope}
use Rattle.run_evaluations.specs.Shows.{AreOfTwo, IsAmong}
use Rattle.run_evaluations.specs.Told.{Evaluation, Opened, IsUnder, has as has_item}
use Rattle.telling_laws.specs.Newly.{IsTaken, completed_with}
use Rattle.telling_laws.specs.OnlyNew.{AreAround}
use Rattle.telling_laws.specs.Standing.{places}

-- c_model looks for findings in the full expression of which was told, and each evaluation has the items that its event has there, a body but for forgotten
-- accesses of objects of which it has the birth and the death; each access stands with the question whether its object lives
pub record IsLookedAt (t : Opened) (o : Open) : Type 0 where
  pub formed : is_formed t.scope.tree ≡ true
  pub begins : IsBeginning t
  pub tree : o.tree ≡ t.scope.tree
  pub taken : o.taken ≡ t.scope.taken
  pub shows : o.shows ≡ has_shown t.scope.tree t.scope.taken (has (places t.done))
  pub items : (e : Evaluation) → IsAmong t e → HasItemsOf (is_body e.place.kind) (has_item e) (o.items e.place)
  pub asked : (e : Evaluation) → IsAmong t e → AreAsked (o.items e.place)

abbrev pub place_in : Event → Place
place_in e = place e.node e.kind

-- two evaluations that stand so to one another by their places
abbrev pub ByPlaces : (Place → Place → Type 0) → Evaluation → Evaluation → Type 0
ByPlaces Pairs d e = Pairs d.place e.place

-- the pairs of which the calls tell that follow an event of the node n: of its node and below, and of two operands of the node above
abbrev pub ToldPairs : Scope → ℕ → Completed → Place → Place → Type 0
ToldPairs s n Incomplete x y = ⊥
ToldPairs s n Own_node x y = (x.node ≡ n) × IsUnder s n y.node
ToldPairs s n (Operands_of p) x y = ((x.node ≡ n) × IsUnder s n y.node) ⊎ AreOfTwo s p x.node y.node

-- two events of the node itself neither race nor quarrel
abbrev pub OwnAreFree : List Row → Open → ℕ → Type 0
OwnAreFree rows o n = (x y : Place) → IsDue o x → IsDue o y → precedes x y ≡ true → x.node ≡ n → y.node ≡ n →
    (races rows o x y ≡ false) × (quarrels rows o x y ≡ false)

-- an event was told, in a full expression in which nothing was found before it
pub record IsTold (rows : List Row) (t : Opened) (old : Taken) (passed : List Place) (u : Place) (ahead next : List Place) (before behind : Open) : Type 0 where
  pub taken : IsTaken t.scope old passed u ahead next
  pub around : AreAround t.scope old passed u before behind
  pub looked : IsLookedAt t behind
  pub own : OwnAreFree rows behind u.node
  pub raceless : NoPair before (races rows before)
  pub quarrelless : NoPair before (quarrels rows before)

-- nothing is found; or the first race, or else the first quarrel where there is no race
abbrev pub IsFoundIn : List Row → Open → Option Found → Type 0
IsFoundIn rows o None = NoPair o (races rows o) × NoPair o (quarrels rows o)
IsFoundIn rows o (Some f) = (f.race ≡ true → IsFirstPair o (races rows o) (place_in f.event) (place_in f.against)) ×
    (f.race ≡ false → NoPair o (races rows o) × IsFirstPair o (quarrels rows o) (place_in f.event) (place_in f.against))

-- the first conflict of these pairs, or none, is what is found then
abbrev pub FirstIsFound : Type 0
FirstIsFound = (rows : List Row) (frames : List FrameRow) (t : Opened) (old : Taken) (passed : List Place) (u : Place) (ahead next : List Place)
    (before behind : Open) (r : Option Found) → IsTold rows t old passed u ahead next before behind →
    IsFirstOf frames (IsConflictIn frames rows t (ByPlaces (ToldPairs t.scope u.node (completed_with t.scope passed u)))) r → IsFoundIn rows behind r

-- of the node that is completed, and of the operands of the node above, the conflict that counts is the first one of both
abbrev pub BothLots : Type 0
BothLots = (rows : List Row) (frames : List FrameRow) (t : Opened) (n p : ℕ) (a b : Option Found) →
    IsFirstOf frames (IsConflictIn frames rows t (AreOfNode t n)) a → IsFirstOf frames (IsConflictIn frames rows t (AreOfOperands t p)) b →
    IsFirstOf frames (IsConflictIn frames rows t (ByPlaces (ToldPairs t.scope n (Operands_of p)))) (first_found frames a b)
