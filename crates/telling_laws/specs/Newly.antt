-- Which pairs of events newly show as an event of the canonical listing is done (own).
use Rattle.std.specs.Prelude.{◌≡◌, ◌⊎◌, ◌↔◌, ◌≤◌, ◌&&◌, ℕ, Bool, true, List, [], ◌∷◌, ◌++◌}
use Rattle.c_typed.specs.declared.tree.Place.{Place}
use Rattle.c_typed.specs.Order.{Taken, events, has, is_due}
use Rattle.c_model.specs.Completions.{Completed, Incomplete, Own_node, Operands_of, completed_by}
use Rattle.c_model.specs.Moments.{has_shown}
use Rattle.elaborate.specs.Formed.{is_formed}
use Rattle.run_evaluations.specs.Scopes.{Scope}
use Rattle.run_evaluations.specs.Shows.{AreOfTwo}
use Rattle.run_evaluations.specs.Told.{IsUnder}

-- An event comes next along the listing, and is done: nodes have chosen the operands of `old` before it, and those of the scope behind it. Nodes have the
-- operands that their operators take.
pub record IsTaken (s : Scope) (old : Taken) (passed : List Place) (u : Place) (ahead next : List Place) : Type 0 where
  pub formed : is_formed s.tree ≡ true
  pub before : events old 0 s.tree ≡ passed ++ u ∷ ahead
  pub behind : events s.taken 0 s.tree ≡ passed ++ u ∷ next

-- two due events, that of the lesser node first
pub record IsPair (s : Scope) (x y : Place) : Type 0 where
  pub first : is_due s.tree s.taken x ≡ true
  pub second : is_due s.tree s.taken y ≡ true
  pub order : x.node ≤ y.node

-- what is done with it
abbrev pub with_it : List Place → Place → List Place
with_it passed u = passed ++ u ∷ []

-- the first event is one of the node, and so is the second, or it stands below
abbrev pub AreOfNode : Scope → ℕ → Place → Place → Type 0
AreOfNode s n x y = (x.node ≡ n) × ((y.node ≡ n) ⊎ IsUnder s n y.node)

-- they show by what an event of the node n completes: its node, with it the operands of the node above, or nothing
abbrev pub ShowNewly : Scope → ℕ → Completed → Place → Place → Type 0
ShowNewly s n Incomplete x y = ⊥
ShowNewly s n Own_node x y = AreOfNode s n x y
ShowNewly s n (Operands_of p) x y = AreOfNode s n x y ⊎ AreOfTwo s p x.node y.node

-- what the event completes
abbrev pub completed_with : Scope → List Place → Place → Completed
completed_with s passed u = completed_by s.tree s.taken (has (with_it passed u)) u.node

-- both were done, and the pair had shown, before the event
abbrev pub had_shown : Scope → Taken → List Place → Place → Place → Bool
had_shown s old passed x y = (has passed x && has passed y) && has_shown s.tree old (has passed) x y

-- with the event a pair shows that had shown before, or that newly shows by what it completes, and no other one
abbrev pub ShowsNewly : Type 0
ShowsNewly = (s : Scope) (old : Taken) (passed : List Place) (u : Place) (ahead next : List Place) (x y : Place) → IsTaken s old passed u ahead next →
    IsPair s x y → (has_shown s.tree s.taken (has (with_it passed u)) x y ≡ true) ↔
    ((had_shown s old passed x y ≡ true) ⊎ ShowNewly s u.node (completed_with s passed u) x y)

-- the events of a pair that shows are done
abbrev pub ShownAreDone : Type 0
ShownAreDone = (s : Scope) (passed ahead : List Place) (x y : Place) → is_formed s.tree ≡ true → events s.taken 0 s.tree ≡ passed ++ ahead →
    IsPair s x y → has_shown s.tree s.taken (has passed) x y ≡ true → (has passed x ≡ true) × (has passed y ≡ true)
