-- What a certificate has to show of an order, whoever wrote it.
use Rattle.std.specs.Prelude.{◌≡◌, ◌≤◌, ℕ, suc, Bool, true, not, ◌&&◌, List, [], ◌∷◌, ◌++◌, length}
use Rattle.ub_base.specs.declared.clause.Clause.{Clause}
use Rattle.ub_base.specs.declared.clause.Cause.{Cause}
use Rattle.ub_base.specs.Frames.{Path, path_of}
use Rattle.ub_base.specs.Frames as frames
use Rattle.addr_map.specs.declared.map.Row.{Row}
use Rattle.addr_map.specs.Rows.{breaks}
use Rattle.c_typed.specs.declared.tree.Place.{Place}
use Rattle.mem_spec.specs.Streams.{Outputs}
use Rattle.c_model.specs.Values.{Value}
use Rattle.c_model.specs.World.{World, NumbersFrames}
use Rattle.c_model.specs.Steps.{Pick, Ev}
use Rattle.c_model.specs.Runs.{Entry, Outcome, Raises, Ends, start, step, on_running, trace_of, canonical_after}
use Rattle.c_model.specs.Findings.{Race, Quarrel, EndQuarrel}
use Rattle.c_model.specs.FirstFinding.{Out_of_steps, Outside, first_finding}
use Rattle.c_model.specs.Claims.{ComesTo, canonical_picks}

-- a stretch of an order: so many picks of the canonical order, or one event of the full expression of the top frame
pub data Stretch : Type 0 where
  Next : (picks : ℕ) → Stretch
  Single : Place → Stretch

-- where an event is: its frame and turn, and its place in the full expression
pub record Site : Type 0 where
  pub path : Path
  pub turn : ℕ
  pub event : Place

-- what a certificate says of its order; of what was written it says standard output alone (own)
pub data Claim : Type 0 where
  Says_clean : (status : ℕ) → (output : List ℕ) → Claim
  Says_undefined : Clause → Claim
  Says_race : Site → Site → Claim
  Says_quarrel : Site → Site → Claim
  Says_out_of_steps : (picks : ℕ) → Claim
  Says_outside : Cause → (number picks : ℕ) → Claim

-- the rows that make an address map, each where it is added to those before it
abbrev pub make_map : List Row → List Row → Bool
make_map before [] = true
make_map before (r ∷ rs) = not (breaks before r) && make_map (before ++ r ∷ []) rs

-- the picks that the stretches stand for, from an outcome on
abbrev pub picks_in : World → List Stretch → Outcome → List Pick
picks_in world [] o = []
picks_in world (Next n ∷ ss) o = canonical_picks world n o ++ picks_in world ss (on_running o (canonical_after world n))
picks_in world (Single u ∷ ss) o = Ev u ∷ picks_in world ss (on_running o (λ st. step world st (Ev u)))

-- an entry of this event
pub record EntryOf (e : Entry) (site : Site) : Type 0 where
  pub of_frame : e.path ≡ site.path
  pub of_turn : e.turn ≡ site.turn

-- the trace holds a race of these two events, whichever came first
pub data Races (world : World) (trace : List Entry) (a b : Site) : Type 0 where
  first_newer : (d e : Entry) → EntryOf d a → EntryOf e b → Race world trace d a.event e b.event → Races world trace a b
  second_newer : (d e : Entry) → EntryOf d a → EntryOf e b → Race world trace e b.event d a.event → Races world trace a b

-- or a quarrel
pub data Quarrels (world : World) (trace : List Entry) (a b : Site) : Type 0 where
  first_newer : (d e : Entry) → EntryOf d a → EntryOf e b → Quarrel world trace d a.event e b.event → Quarrels world trace a b
  second_newer : (d e : Entry) → EntryOf d a → EntryOf e b → Quarrel world trace e b.event d a.event → Quarrels world trace a b
  first_ends : (d : Entry) → EntryOf d a → b.path ≡ a.path → b.turn ≡ a.turn → EndQuarrel trace d a.event b.event → Quarrels world trace a b
  second_ends : (e : Entry) → EntryOf e b → a.path ≡ b.path → a.turn ≡ b.turn → EndQuarrel trace e b.event a.event → Quarrels world trace a b

-- no race and no quarrel stands in the trace
pub record HasNoPair (world : World) (trace : List Entry) : Type 0 where
  pub no_race : (d e : Entry) (u v : Place) → Race world trace d u e v → ⊥
  pub no_quarrel : (d e : Entry) (u v : Place) → Quarrel world trace d u e v → ⊥
  pub no_end : (d : Entry) (u v : Place) → EndQuarrel trace d u v → ⊥

-- the order is permitted up to its end, and this is where it comes to
abbrev pub LeadsTo : World → List ℕ → List Value → List Stretch → Outcome → Type 0
LeadsTo world input vs order o = ComesTo world input vs (picks_in world order (start world input vs)) o

-- the order is permitted, stays within the limits, and is as the claim says
pub data Shows (world : World) (input : List ℕ) (vs : List Value) (order : List Stretch) : Claim → Type 0 where
  clean : (status : ℕ) (output : Outputs) (trace : List Entry) → LeadsTo world input vs order (Ends status output trace) → HasNoPair world trace
      → Shows world input vs order (Says_clean status output.standard)
  undefined : (c : Clause) (trace : List Entry) → LeadsTo world input vs order (Raises c trace) → Shows world input vs order (Says_undefined c)
  race : (a b : Site) (o : Outcome) → LeadsTo world input vs order o → Races world (trace_of o) a b → Shows world input vs order (Says_race a b)
  quarrel : (a b : Site) (o : Outcome) → LeadsTo world input vs order o → Quarrels world (trace_of o) a b
      → Shows world input vs order (Says_quarrel a b)
  out_of_steps : (n : ℕ) → order ≡ Next n ∷ [] → first_finding world n input vs ≡ Out_of_steps n
      → Shows world input vs order (Says_out_of_steps n)
  -- in place of no picks the order is empty
  outside : (cause : Cause) (number n : ℕ) → order ≡ Next (suc n) ∷ [] → first_finding world (suc (suc n)) input vs ≡ Outside cause number (suc n)
      → Shows world input vs order (Says_outside cause number (suc n))
  outside_at_once : (cause : Cause) (number : ℕ) → order ≡ [] → first_finding world 1 input vs ≡ Outside cause number 0
      → Shows world input vs order (Says_outside cause number 0)

-- A certificate is valid where its rows make an address map, under any numbering of the frames that gives those it lists their own
-- numbers; and its order shows what it claims.
pub record IsValid (world : World) (frames : List frames.Row) (input : List ℕ) (vs : List Value) (order : List Stretch) (claim : Claim) : Type 0 where
  pub map : make_map [] world.rows ≡ true
  pub numbering : NumbersFrames world.number
  pub listed : (i : ℕ) → i ≤ length frames → world.number (path_of frames i) ≡ i
  pub shown : Shows world input vs order claim
