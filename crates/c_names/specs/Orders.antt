-- The order of events and of objects (own).
use Rattle.std.specs.Prelude.{ℕ, List, [], ◌∷◌, reverse}
use Rattle.std.specs.declared.cmp.Ordering.{Ordering}
use Rattle.std.specs.declared.cmp.Ordering.TheVariants.{Less, Equal, Greater}
use Rattle.std.specs.Ordering.{nat_cmp, ordering_then}
use Rattle.ub_base.specs.declared.clause.Kind.{Kind}
use Rattle.ub_base.specs.declared.clause.Kind.TheVariants.{Val, Eff, Body}
use Rattle.ub_base.specs.declared.names.Event.{Event}
use Rattle.ub_base.specs.declared.names.ObjName.{ObjName}
use Rattle.ub_base.specs.declared.names.ObjName.TheVariants.{Static, Lit, Argv, Arg, Auto, Heap}
use Rattle.ub_base.specs.Frames.{Row, Path, path_of}

-- by turn, then by node
abbrev pub step_cmp : ℕ × ℕ → ℕ × ℕ → Ordering
step_cmp s t = ordering_then (nat_cmp s.0 t.0) (nat_cmp s.1 t.1)

-- by the first step in which they differ; a list comes before those that go on after it
abbrev pub steps_cmp : List (ℕ × ℕ) → List (ℕ × ℕ) → Ordering
steps_cmp [] [] = Equal
steps_cmp [] (t ∷ q) = Less
steps_cmp (s ∷ p) [] = Greater
steps_cmp (s ∷ p) (t ∷ q) = ordering_then (step_cmp s t) (steps_cmp p q)

-- frames by their steps from `main` on; a path has the newest first
abbrev pub path_cmp : Path → Path → Ordering
path_cmp p q = steps_cmp (reverse p) (reverse q)

abbrev pub frame_cmp : List Row → ℕ → ℕ → Ordering
frame_cmp rows f g = path_cmp (path_of rows f) (path_of rows g)

-- `val` before `eff` before `body`
abbrev pub kind_rank : Kind → ℕ
kind_rank Val = 0
kind_rank Eff = 1
kind_rank Body = 2

-- events by frame, turn, node and kind
abbrev pub event_cmp : List Row → Event → Event → Ordering
event_cmp rows d e =
    ordering_then (frame_cmp rows d.frame.0 e.frame.0)
    (ordering_then (nat_cmp d.turn e.turn) (ordering_then (nat_cmp d.node e.node) (nat_cmp (kind_rank d.kind) (kind_rank e.kind))))

-- static objects, literals, `argv`, its strings, automatic objects, allocated ones
abbrev pub object_rank : ObjName → ℕ
object_rank (Static k) = 0
object_rank (Lit k) = 1
object_rank Argv = 2
object_rank (Arg k) = 3
object_rank (Auto f turn k) = 4
object_rank (Heap f turn node) = 5

-- objects of one kind by number, or by frame, turn and number
abbrev pub parts_cmp : List Row → ObjName → ObjName → Ordering
parts_cmp rows (Static k) (Static l) = nat_cmp k l
parts_cmp rows (Lit k) (Lit l) = nat_cmp k l
parts_cmp rows (Arg k) (Arg l) = nat_cmp k l
parts_cmp rows (Auto f t k) (Auto g u l) = ordering_then (frame_cmp rows f.0 g.0) (ordering_then (nat_cmp t u) (nat_cmp k l))
parts_cmp rows (Heap f t k) (Heap g u l) = ordering_then (frame_cmp rows f.0 g.0) (ordering_then (nat_cmp t u) (nat_cmp k l))
parts_cmp rows _ _ = Equal

-- objects by kind and then by their parts
abbrev pub object_cmp : List Row → ObjName → ObjName → Ordering
object_cmp rows o p = ordering_then (nat_cmp (object_rank o) (object_rank p)) (parts_cmp rows o p)

-- the frame of an object, its turn and its number; of one that has none `main` and 0
abbrev pub place_frame : ObjName → ℕ
place_frame (Auto f turn k) = f.0
place_frame (Heap f turn node) = f.0
place_frame _ = 0

abbrev pub place_turn : ObjName → ℕ
place_turn (Auto f turn k) = turn
place_turn (Heap f turn node) = turn
place_turn _ = 0

abbrev pub place_number : ObjName → ℕ
place_number (Static k) = k
place_number (Lit k) = k
place_number Argv = 0
place_number (Arg k) = k
place_number (Auto f turn k) = k
place_number (Heap f turn node) = node
