-- A stack of work as lists.
use Rattle.std.specs.Prelude.{◌≡◌, ◌≤◌, ℕ, Bool, true, false, List, [], ◌∷◌, take, drop, reverse, Option, Some, None}
use Rattle.std.specs.Borrow.{Bor}
use Rattle.run_control.specs.declared.statement.Block.{Block}
use Rattle.run_control.specs.declared.work.Work.{Work}
use Rattle.run_control.specs.declared.work.Work.TheVariants as work

-- the work of the frames below, newest first, and that of the top frame, each what comes next first
pub record Stacked : Type 0 where
  pub below : List (List Work)
  pub now : List Work

-- the work of frames that begin at these places, newest first
abbrev pub cut : List Work → List ℕ → List (List Work)
cut ws [] = []
cut ws (b ∷ bs) = reverse (drop b ws) ∷ cut (take b ws) bs

-- each frame begins at or behind the one below it
abbrev pub Rise : List ℕ → ℕ → Type 0
Rise [] n = Unit {0}
Rise (b ∷ bs) n = (b ≤ n) × Rise bs b

-- the newest frame below goes on, if there is one
abbrev pub Closes : List (List Work) → Bool → Stacked → Type 0
Closes [] goes s = (goes ≡ false) × (s.below ≡ []) × (s.now ≡ [])
Closes (ws ∷ frames) goes s = (goes ≡ true) × (s.now ≡ ws) × (s.below ≡ frames)

abbrev pub or_else : {A : Type 0} → Option A → Option A → Option A
or_else None o = o
or_else (Some a) o = Some a

-- the block of the first leave
abbrev pub innermost : List Work → Option (Bor Block)
innermost [] = None
innermost (work.Leave b ∷ ws) = Some b
innermost (w ∷ ws) = innermost ws
