-- What a view shows of open full expressions, and which of their conflicts stand as they ask (own).
use Rattle.std.specs.Borrow.{Bor}
use Rattle.std.specs.Prelude.{◌≡◌, ◌<◌, ◌^◌, ◌-◌, ◌||◌, true, false, List, Some, slice_get, length}
use Rattle.c_typed.specs.declared.tree.Place.{Place}
use Rattle.c_typed.specs.declared.tree.Typed.{Typed}
use Rattle.c_typed.specs.Tree.{tree_of, size}
use Rattle.c_typed.specs.Order.{is_body}
use Rattle.c_typed.specs.Decide.{due_in}
use Rattle.seq_order.specs.Marked.{taken_in}
use Rattle.run_state.specs.declared.watch.Begun.{Begun}
use Rattle.evaluation_log.specs.declared.found.Found.{Found}
use Rattle.run_evaluations.specs.First.{event_in}
use Rattle.run_evaluations.specs.Fitting.{has_lists_alone}
use Rattle.run_evaluations.specs.Shows.{AreApart}
use Rattle.run_evaluations.specs.Told.{Opened}
use Rattle.conflict_detector.specs.Examined.{IsNumbered}

-- the full expression that has begun is the one that is open in this frame, with what its nodes have chosen by now; it is a full expression of the program,
-- by its number, of less than 2^32 nodes, and its lists have listed initializers alone
pub record IsShown (roots : List (Bor Typed)) (b : Begun) (t : Opened) : Type 0 where
  pub frame : t.frame ≡ b.frame
  pub turn : t.turn ≡ b.turn
  pub tree : t.scope.tree ≡ tree_of b.root.now
  pub taken : t.scope.taken ≡ taken_in b.taken
  pub numbered : IsNumbered roots b.tree b.root.now
  pub small : size (tree_of b.root.now) < 2 ^ 32
  pub lists : has_lists_alone b.root.now ≡ true

-- the last one of those that have begun
abbrev pub IsLast : List Begun → Begun → Type 0
IsLast bs b = slice_get bs (length bs - 1) ≡ Some b

-- the conflict is of two evaluations that are due, of which neither is sequenced before the other; a race is of no body
pub record IsDuePair (t : Opened) (f : Found) : Type 0 where
  pub one : Place
  pub other : Place
  pub event : f.event ≡ event_in t one
  pub against : f.against ≡ event_in t other
  pub one_due : due_in t.scope.taken 0 t.scope.tree one ≡ true
  pub other_due : due_in t.scope.taken 0 t.scope.tree other ≡ true
  pub apart : AreApart t.scope one other
  pub bodiless : f.race ≡ true → (is_body one.kind || is_body other.kind) ≡ false
