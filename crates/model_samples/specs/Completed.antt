-- What a pick completes, along one canonical order.
use Rattle.std.specs.Prelude.{◌≡◌, ℕ, [], ◌∷◌, Option, Some, None}
use Rattle.c_model.specs.Program.{Return, tree_of}
use Rattle.c_model.specs.World.{World}
use Rattle.c_model.specs.Steps.{Scene, Begun, taken_by, is_done}
use Rattle.c_model.specs.Runs.{Outcome, Running, start, canonical_after, on_running}
use Rattle.c_model.specs.Completions.{Completed, Incomplete, Own_node, Operands_of, completed_by}
use Rattle.model_samples.specs.Build.{Sample, world_of, int, x, get, add, increment, with_x}

abbrev pub of_begun : World → Scene → Option Begun → ℕ → Option Completed
of_begun world f None n = None
of_begun world f (Some e) n = Some (completed_by (tree_of e.root) (taken_by world f e) (is_done e) n)

abbrev pub of_outcome : World → Outcome → ℕ → Option Completed
of_outcome world (Running st) n = of_begun world st.top.scene st.top.begun n
of_outcome world o n = None

-- what an event of this node completes as the last of so many canonical picks
abbrev pub completed : Sample → (picks node : ℕ) → Option Completed
completed s picks n = of_outcome (world_of s) (on_running (start (world_of s) s.input s.arguments) (canonical_after (world_of s) picks)) n

-- int x=1;return x++ + x;: the sum is node 0, the update node 1, the load of x node 3
abbrev pub sum : Sample
sum = with_x (int 1) (Return (add (increment x) (get x)) ∷ [])

-- the update's value leaves its effect, which completes its node; the load's value completes the operands of the sum, and then that its node
abbrev pub completions : Type 0
completions = completed sum 7 1 ∷ completed sum 8 1 ∷ completed sum 9 3 ∷ completed sum 10 0 ∷ []
    ≡ Some Incomplete ∷ Some Own_node ∷ Some (Operands_of 0) ∷ Some Own_node ∷ []

-- before the expression begins there is nothing to complete
abbrev pub none_begun : Type 0
none_begun = completed sum 5 0 ≡ None
