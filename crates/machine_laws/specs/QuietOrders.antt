-- One order of picks to an end of the run, in which what a full expression did is looked at before each control step.
use Rattle.std.specs.Prelude.{◌≡◌, ℕ, suc, true, List, [], Option}
use Rattle.c_model.specs.Machine.{Machine}
use Rattle.c_model.specs.MachineLaws.{OrderLaws}
use Rattle.machine_laws.specs.Orders.{Stopped, Event, Held, State, going, over, ended, May, Step, Ends, Quiet, HeldQuiet, Alone, AllAlone}
use Rattle.machine_laws.specs.Cuts.{Result, gave, said, RunsTo}

module _ {F P V N S I Part Seen Fact : Type 0} (m : Machine F P V S I Part Seen Fact) (ends : F → P → S → Option (Stopped N S I)) where
  -- what is looked at before a pick: at a control step no two events of the full expression conflict where neither is before the other; at
  -- an end of the run no two of any open one do, and what ends it stands alone, as do the bodies that wait
  pub record LooksAt (f : F) (es : List (Event F P I)) (hs : List (Held F P I)) (s : S) (q : P) : Type 0 where
    pub control : m.is_control q ≡ true → Quiet m ends es
    pub quiet_end : (n : N) (is : List I) (s1 : S) → Ends m ends f q s n is s1 → Quiet m ends es × HeldQuiet m ends hs
    pub lone_end : (n : N) (is : List I) (s1 : S) → Ends m ends f q s n is s1 → Alone m ends f q es × AllAlone m ends hs

  -- a permitted order of so many picks to an end of the run, with its result and store
  pub data QuietOrder : State F P V N S I → ℕ → Result V N → S → Type 0 where
    is_over : (v : V) (s : S) → QuietOrder (over v s) 0 (gave v) s
    is_ended : (n : N) (s : S) → QuietOrder (ended n s) 0 (said n) s
    goes : (f : F) (es : List (Event F P I)) (hs : List (Held F P I)) (s : S) (q : P) (a : State F P V N S I) (k : ℕ) (o : Result V N) (s' : S)
        → May m ends f q → Step m ends f es hs s q a → LooksAt f es hs s q → QuietOrder a k o s' → QuietOrder (going f es hs s) (suc k) o s'

-- Such an order is a run without conflicts.
abbrev pub QuietOrdersRun : (F P V N S I Part Seen Fact : Type 0) → Type 0
QuietOrdersRun F P V N S I Part Seen Fact =
    (m : Machine F P V S I Part Seen Fact) (ends : F → P → S → Option (Stopped N S I)) → OrderLaws m
    → (f : F) (s : S) (k : ℕ) (o : Result V N) (s' : S) → QuietOrder m ends (going f [] [] s) k o s' → RunsTo m ends f s k o s'
