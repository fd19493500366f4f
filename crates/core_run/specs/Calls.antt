-- The calls of a watch, what it answered, and which of them may follow.
use Rattle.std.specs.Prelude.{◌≡◌, ℕ, ◌+◌, List, [], ◌∷◌, ◌++◌, Option, Some, None, ◌⊎◌}
use Rattle.ub_base.specs.declared.names.Event.{Event}
use Rattle.ub_base.specs.declared.names.Frame.{Frame}
use Rattle.ub_base.specs.declared.names.Item.{Item}
use Rattle.ub_base.specs.Frames.{Row}
use Rattle.run_answers.specs.declared.pick.Completed.{Completed}
use Rattle.run_answers.specs.declared.pick.Completed.TheVariants.{Nothing, Node, Operands}
use Rattle.run_answers.specs.declared.pick.Pick.{Pick}
use Rattle.run_answers.specs.declared.pick.Pick.TheVariants.{Step, Starts, Event as EventPick}
use Rattle.core_run.specs.declared.watch.Go.{Go}
use Rattle.core_run.specs.declared.watch.Go.TheVariants.{On, Stop}
use Rattle.core_run.specs.declared.watch.Ran.{Ran}
use Rattle.core_run.specs.declared.watch.Ran.TheVariants.{Ended, Raised, Stopped, OutOfSteps, Outside}

pub data Call : Type 0 where
  picked : Option Event → List Item → Call
  node_done : Frame → (turn node : ℕ) → Call
  operands_done : Frame → (turn node : ℕ) → Call

-- calls with their answers, the last one first
abbrev pub Heard : Type 0
Heard = List (Call × Go)

-- how many picks were told
abbrev pub and_call : Call → ℕ → ℕ
and_call (picked event items) n = n + 1
and_call (node_done frame turn node) n = n
and_call (operands_done frame turn node) n = n

abbrev pub picks_in : Heard → ℕ
picks_in [] = 0
picks_in (h ∷ hs) = and_call h.0 (picks_in hs)

-- one call more, where they are kept
abbrev pub noted : Call → Go → Option Heard → Option Heard
noted call go None = None
noted call go (Some hs) = Some ((call, go) ∷ hs)

-- the last call, where there was one, was answered by On
abbrev pub GoesOn : Option Heard → Type 0
GoesOn None = Unit {0}
GoesOn (Some []) = Unit {0}
GoesOn (Some (h ∷ hs)) = h.1 ≡ On

-- the last call was answered by Stop
abbrev pub HasStopped : Option Heard → Type 0
HasStopped None = Unit {0}
HasStopped (Some []) = ⊥
HasStopped (Some (h ∷ hs)) = h.1 ≡ Stop

abbrev pub IsPickOf : Frame → ℕ → ℕ → Call → Type 0
IsPickOf frame turn n (picked None items) = ⊥
IsPickOf frame turn n (picked (Some e) items) = (e.frame ≡ frame) × (e.turn ≡ turn) × (e.node ≡ n)
IsPickOf frame turn n (node_done f t m) = ⊥
IsPickOf frame turn n (operands_done f t m) = ⊥

abbrev pub IsNodeIn : Frame → ℕ → Call → Type 0
IsNodeIn frame turn (picked e items) = ⊥
IsNodeIn frame turn (node_done f t m) = (f ≡ frame) × (t ≡ turn)
IsNodeIn frame turn (operands_done f t m) = ⊥

-- the last call was a pick of an event of this node, and was answered by On
abbrev pub FollowsPick : Frame → ℕ → ℕ → Option Heard → Type 0
FollowsPick frame turn n None = Unit {0}
FollowsPick frame turn n (Some []) = ⊥
FollowsPick frame turn n (Some (h ∷ hs)) = IsPickOf frame turn n h.0 × (h.1 ≡ On)

-- the last call told that a node of this full expression is done, and was answered by On
abbrev pub FollowsNode : Frame → ℕ → Option Heard → Type 0
FollowsNode frame turn None = Unit {0}
FollowsNode frame turn (Some []) = ⊥
FollowsNode frame turn (Some (h ∷ hs)) = IsNodeIn frame turn h.0 × (h.1 ≡ On)

-- these calls were made in turn, each answered by On, or so many of them as there are up to one that was answered by Stop
abbrev pub Tells : List Call → Go → Option Heard → Option Heard → Type 0
Tells [] go old new = (go ≡ On) × (new ≡ old)
Tells (call ∷ calls) go old new = ((go ≡ Stop) × (new ≡ noted call Stop old)) ⊎ Tells calls go (noted call On old) new

-- the calls that follow a pick of this event
abbrev pub completions : Event → Completed → List Call
completions e Nothing = []
completions e Node = node_done e.frame e.turn e.node ∷ []
completions e (Operands above) = node_done e.frame e.turn e.node ∷ operands_done e.frame e.turn above ∷ []

-- the calls by which a pick with these items is told; behind an event that ends the run nothing is complete (7.22.4.4)
abbrev pub calls_of : Pick → List Item → List Call
calls_of (Step status) items = picked None items ∷ []
calls_of (Starts e) items = picked (Some e) items ∷ []
calls_of (EventPick e completed None) items = picked (Some e) items ∷ completions e completed
calls_of (EventPick e completed (Some status)) items = picked (Some e) items ∷ []

-- a run that stopped was answered by Stop, and every other run by On at last
abbrev pub AnswersEnd : Ran → Option Heard → Type 0
AnswersEnd (Ended status picks) heard = GoesOn heard
AnswersEnd (Raised event line clause picks) heard = GoesOn heard
AnswersEnd (Stopped picks) heard = HasStopped heard
AnswersEnd (OutOfSteps picks) heard = GoesOn heard
AnswersEnd (Outside cause number picks) heard = GoesOn heard

-- the frame that the body of this event starts
abbrev pub row_by : Event → Row
row_by e = (e.frame, e.turn, e.node)

-- each of these frames was started by an event that was told, in the order of the telling
pub data Started : Heard → List Row → Type 0 where
  none : Started [] []
  other : (h : Call × Go) (hs : Heard) (rows : List Row) → Started hs rows → Started (h ∷ hs) rows
  start : (e : Event) (items : List Item) (go : Go) (hs : Heard) (rows : List Row) → Started hs rows →
      Started ((picked (Some e) items, go) ∷ hs) (rows ++ row_by e ∷ [])

abbrev pub StartedBy : Option Heard → List Row → Type 0
StartedBy None rows = Unit {0}
StartedBy (Some hs) rows = Started hs rows
