-- What is found first along the canonical order (own).
use Rattle.std.specs.Prelude.{ℕ, zero, suc, Bool, not, ◌&&◌, ◌||◌, List, [], ◌∷◌, length, Option, Some, None, if◌then◌else◌}
use Rattle.ub_base.specs.declared.clause.Clause.{Clause}
use Rattle.ub_base.specs.declared.clause.Cause.{Cause}
use Rattle.ub_base.specs.declared.names.Item.{Item}
use Rattle.ub_base.specs.Frames.{Path}
use Rattle.c_typed.specs.declared.tree.Place.{Place}
use Rattle.c_typed.specs.Tree.{size}
use Rattle.c_typed.specs.Order.{is_body, is_due}
use Rattle.c_typed.specs.Decide.{is_before, first_place}
use Rattle.addr_map.specs.declared.map.Row.{Row}
use Rattle.mem_spec.specs.Streams.{Outputs}
use Rattle.c_model.specs.Values.{Value}
use Rattle.c_model.specs.World.{World}
use Rattle.c_model.specs.Steps.{Local, Begun, is_done, taken_by}
use Rattle.c_model.specs.Runs.{Entry, State, Outcome, Raises, Over, Ends, Running, start, step, canonical_pick}
use Rattle.addr_map.specs.Conflict.{some_conflict}
use Rattle.c_model.specs.Findings.{accesses}
use Rattle.c_model.specs.Moments.{Open, on_the_way, as_it_ends, places_from}
use Rattle.c_model.specs.Keys.{least_items}

-- two evaluations of one full expression, the lesser first, with their lines and their least conflicting items
pub record Pair : Type 0 where
  pub path : Path
  pub turn : ℕ
  pub event : Place
  pub line : ℕ
  pub other : Place
  pub other_line : ℕ
  pub items : Option (Item × Item)

-- what was found first, and the picks that lead to it
pub data Finding : Type 0 where
  Clean : (status : ℕ) (output : Outputs) (picks : ℕ) → Finding
  -- undefined by the clause at this event of this line
  Undefined : Clause → Path → (turn : ℕ) → Option Place → (line picks : ℕ) → Finding
  -- undefined by 6.5p2
  Raced : Pair → (picks : ℕ) → Finding
  Order_dependent : Pair → (picks : ℕ) → Finding
  Out_of_steps : (picks : ℕ) → Finding
  Outside : Cause → (number picks : ℕ) → Finding
  -- an object has no row: under the rows of a placement only where an allocation by a library function would pass the limit on created bytes
  Not_placed : (picks : ℕ) → Finding

-- neither is sequenced before the other (5.1.2.3p3)
abbrev pub are_apart : Open → Place → Place → Bool
are_apart o u v = not (is_before o.taken 0 o.tree u v || is_before o.taken 0 o.tree v u)

-- unsequenced accesses of one byte, one of them a write (6.5p2)
abbrev pub races : List Row → Open → Place → Place → Bool
races rows o u v =
    not (is_body u.kind || is_body v.kind) && (are_apart o u v && (o.shows u v && some_conflict rows (accesses (o.items u)) (accesses (o.items v))))

-- evaluations in either order whose items conflict (own)
abbrev pub quarrels : List Row → Open → Place → Place → Bool
quarrels rows o u v = are_apart o u v && (o.shows u v && some_conflict rows (o.items u) (o.items v))

abbrev pub first_or : Place → Option Place → Option (Place × Place) → Option (Place × Place)
first_or u None later = later
first_or u (Some v) later = Some (u, v)

-- the first pair of a list that passes, by its first part and then by its second
abbrev pub pair_among : (Place → Place → Bool) → List Place → Option (Place × Place)
pair_among test [] = None
pair_among test (u ∷ us) = first_or u (first_place (test u) us) (pair_among test us)

abbrev pub due_only : Open → List Place → List Place
due_only o [] = []
due_only o (u ∷ us) = if is_due o.tree o.taken u then u ∷ due_only o us else due_only o us

abbrev pub raced_or : (picks : ℕ) → Option Pair → Finding → Finding
raced_or n None later = later
raced_or n (Some p) later = Raced p n

abbrev pub quarrel_or : (picks : ℕ) → Option Pair → Finding → Finding
quarrel_or n None later = later
quarrel_or n (Some p) later = Order_dependent p n

module _ (world : World) (trace : List Entry) where
  abbrev pub with_items : Open → Option (Place × Place) → Option Pair → Option Pair
  with_items o None later = later
  with_items o (Some p) later = Some (record {
    path = o.path;
    turn = o.turn;
    event = p.0;
    line = o.line p.0.node;
    other = p.1;
    other_line = o.line p.1.node;
    items = least_items world trace (o.items p.0) (o.items p.1);
  })

  -- the least pair of due events that passes, of the outermost expression that has one
  abbrev pub least_pair : (Open → Place → Place → Bool) → List Open → Option Pair
  least_pair test [] = None
  least_pair test (o ∷ os) = with_items o (pair_among (test o) (due_only o (places_from 0 (size o.tree)))) (least_pair test os)

  -- a race before a quarrel, and either before whatever comes else
  abbrev pub found_in : List Open → (picks : ℕ) → Finding → Finding
  found_in os n otherwise = raced_or n (least_pair (races world.rows) os) (quarrel_or n (least_pair (quarrels world.rows) os) otherwise)

-- a raised clause, at the newest pick
abbrev pub raised_at : Clause → List Entry → Finding
raised_at c [] = Undefined c [] 0 None 0 0
raised_at c (e ∷ es) = Undefined c e.path e.turn e.place e.line (length (e ∷ es))

module _ (world : World) where
  -- the full expression of the top frame, after a pick that goes on
  abbrev pub open_on_top : List Entry → Local → Option Begun → List Open
  open_on_top trace f None = []
  open_on_top trace f (Some e) =
      on_the_way trace f.scene.path f.scene.turn e.root (taken_by world f.scene e) (is_done e) ∷ []

  abbrev pub ends_in : List Entry → Local → Option Begun → List Open → List Open
  ends_in trace f None inner = inner
  ends_in trace f (Some e) inner = as_it_ends trace f.scene.path f.scene.turn e.root (taken_by world f.scene e) ∷ inner

  -- all that is open at a pick that ends the run, the outermost first
  abbrev pub all_open : List Entry → List (Local × Place) → List Open → List Open
  all_open trace [] inner = inner
  all_open trace (h ∷ hs) inner = all_open trace hs (ends_in trace h.0 h.0.begun inner)

  -- what shows at a pick: a raise before a race, a race before a quarrel, then the least pair of events
  abbrev pub shown_at : State → Outcome → (picks : ℕ) → (State → Finding) → Finding
  shown_at st (Raises c trace) n on = raised_at c trace
  shown_at st (Over c number) n on = Outside c number n
  shown_at st (Ends status output trace) n on =
      found_in world trace (all_open trace st.held (ends_in trace st.top st.top.begun [])) (suc n) (Clean status output (suc n))
  shown_at st (Running next) n on = found_in world next.trace (open_on_top next.trace next.top next.top.begun) (suc n) (on next)
  shown_at st _ n on = Not_placed n

  -- from a state after n picks without a finding; the budget is looked at before the next pick
  abbrev pub found_from : (left : ℕ) → (picks : ℕ) → State → Finding
  found_from zero n st = Out_of_steps n
  found_from (suc left) n st = shown_at st (step world st (canonical_pick world st.top st.top.begun)) n (found_from left (suc n))

  abbrev pub found_after : ℕ → Outcome → Finding
  found_after budget (Running st) = found_from budget 0 st
  found_after budget (Over c number) = Outside c number 0
  found_after budget _ = Not_placed 0

  -- the first finding of a run with this budget, input and arguments of `main`; a run that ends without one is clean
  abbrev pub first_finding : (budget : ℕ) → List ℕ → List Value → Finding
  first_finding budget input vs = found_after budget (start world input vs)
