-- The order of items, by kind and then by their parts (own): each has a list of numbers, and these are compared from the front.
use Rattle.std.specs.Prelude.{ℕ, zero, suc, Bool, true, false, ◌&&◌, ◌||◌, ◌==◌, nat_lt, List, [], ◌∷◌, ◌++◌, Option, Some, None, if◌then◌else◌}
use Rattle.ub_base.specs.declared.clause.Kind.{Kind}
use Rattle.ub_base.specs.declared.clause.Kind.TheVariants.{Val, Eff, Body}
use Rattle.ub_base.specs.declared.names.ObjName.{ObjName}
use Rattle.ub_base.specs.declared.names.ObjName.TheVariants.{Static, Lit, Argv, Arg, Auto, Heap}
use Rattle.ub_base.specs.declared.names.Item.{Item}
use Rattle.ub_base.specs.declared.names.Item.TheVariants.{Read, Write, Born, Dies, Alive, Expose, Lookup, Narrow, Input, Output, Ending, Any}
use Rattle.ub_base.specs.Frames.{Path}
use Rattle.c_model.specs.World.{World}
use Rattle.c_model.specs.Runs.{Entry}
use Rattle.c_model.specs.Findings.{clash}

abbrev pub comes_first : List ℕ → List ℕ → Bool
comes_first ns [] = false
comes_first [] (b ∷ bs) = true
comes_first (a ∷ ns) (b ∷ bs) = nat_lt a b || ((a == b) && comes_first ns bs)

abbrev pub kind_key : Kind → ℕ
kind_key Val = 0
kind_key Eff = 1
kind_key Body = 2

-- frames are compared from `main` on, and one comes before those that it started; then the rest
abbrev pub path_key : Path → List ℕ → List ℕ
path_key [] rest = rest
path_key (s ∷ f) rest = path_key f (suc s.0 ∷ s.1 ∷ rest)

module _ (world : World) (trace : List Entry) where
  -- the frame of this number, which is among those of the trace where an object or an ambiguity is named by it
  abbrev pub path_in : List Entry → ℕ → Path
  path_in [] n = []
  path_in (e ∷ es) n = if world.number e.path == n then e.path else path_in es n

  abbrev pub frame_key : ℕ → List ℕ → List ℕ
  frame_key n rest = path_key (path_in trace n) (0 ∷ rest)

  abbrev pub object_key : ObjName → List ℕ → List ℕ
  object_key (Static k) rest = 0 ∷ k ∷ rest
  object_key (Lit k) rest = 1 ∷ k ∷ rest
  object_key Argv rest = 2 ∷ rest
  object_key (Arg k) rest = 3 ∷ k ∷ rest
  object_key (Auto f turn k) rest = 4 ∷ frame_key f.0 (turn ∷ k ∷ rest)
  object_key (Heap f turn node) rest = 5 ∷ frame_key f.0 (turn ∷ node ∷ rest)

  abbrev pub item_key : Item → List ℕ
  item_key (Read x a n) = 0 ∷ object_key x (a ∷ [])
  item_key (Write x a n) = 1 ∷ object_key x (a ∷ [])
  item_key (Born x) = 2 ∷ object_key x []
  item_key (Dies x) = 3 ∷ object_key x []
  item_key (Alive x) = 4 ∷ object_key x []
  item_key (Expose x) = 5 ∷ object_key x []
  item_key (Lookup a) = 6 ∷ a ∷ []
  item_key (Narrow e x) = 7 ∷ frame_key e.frame.0 (e.turn ∷ e.node ∷ kind_key e.kind ∷ object_key x [])
  item_key Input = 8 ∷ []
  item_key Output = 9 ∷ []
  item_key Ending = 10 ∷ []
  item_key Any = 11 ∷ []

  -- the lesser of two pairs of items, by the first item and then the second
  abbrev pub lesser : Item × Item → Option (Item × Item) → Item × Item
  lesser p None = p
  lesser p (Some q) = if comes_first (item_key q.0 ++ item_key q.1) (item_key p.0 ++ item_key p.1) then q else p

  abbrev pub least_beside : Item → List Item → Option (Item × Item) → Option (Item × Item)
  least_beside i [] best = best
  least_beside i (j ∷ js) best = least_beside i js (if clash world.rows i j then Some (lesser (i, j) best) else best)

  abbrev pub least_among : List Item → List Item → Option (Item × Item) → Option (Item × Item)
  least_among [] js best = best
  least_among (i ∷ is) js best = least_among is js (least_beside i js best)

-- a range stands for one item a byte
abbrev pub each_byte : (ℕ → Item) → ℕ → ℕ → List Item
each_byte f a zero = []
each_byte f a (suc n) = f a ∷ each_byte f (suc a) n

abbrev pub by_bytes : Item → List Item
by_bytes (Read x a n) = each_byte (λ b. Read x b 1) a n
by_bytes (Write x a n) = each_byte (λ b. Write x b 1) a n
by_bytes i = i ∷ []

abbrev pub all_by_bytes : List Item → List Item
all_by_bytes [] = []
all_by_bytes (i ∷ is) = by_bytes i ++ all_by_bytes is

-- the least conflicting pair of items of two events
abbrev pub least_items : World → List Entry → List Item → List Item → Option (Item × Item)
least_items world trace is js = least_among world trace (all_by_bytes is) (all_by_bytes js) None
