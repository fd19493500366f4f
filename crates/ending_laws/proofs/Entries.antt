-- The entry that a pick leaves, and that it hasn't ended the run if that goes on.
use Rattle.std.proofs.Common.{◌≡◌, ℕ, Bool, true, false, if◌then◌else◌, List, [], ◌∷◌, ◌++◌, refl, sym, ap, subst, ◌∙◌, true≢false}
use Rattle.ub_base.specs.Frames.{Path}
use Rattle.ub_base.specs.declared.names.Item.{Item}
use Rattle.ub_base.specs.declared.names.Item.TheVariants.{Ending}
use Rattle.addr_map.specs.declared.map.Row.{Row}
use Rattle.c_typed.specs.declared.tree.Place.{Place}
use Rattle.c_typed.specs.Order.{is_body}
use Rattle.mem_spec.specs.Script.{Act, Done, Raised, Ended, Outside, Unplaced, Script, Give, Raise, Finish, Exceed, Misplace, Do, run, touched, refused}
use Rattle.mem_spec.specs.Script.{refuses}
use Rattle.mem_spec.specs.Script.{Touch, Ask, Get, Put, Bear, Bury, Show, Find, Settle, Take, Print, answer, item_of, left}
use Rattle.mem_spec.specs.Store.{Store}
use Rattle.c_model.specs.Findings.{has_ending, is_under, items_of, items_under}
use Rattle.c_model.specs.Moments.{is_of, items_by}
use Rattle.c_model.specs.Moves.{Move, Stay, Start, End}
use Rattle.c_model.specs.Runs.{Entry, State, No_row, Running, acted, back, canonical_pick, entry_of, moved, step}
use Rattle.c_model.specs.Runs.{trace_of}
use Rattle.c_model.specs.Steps.{Local, Pick, Control, Ev, does, move}
use Rattle.c_model.specs.Values.{Value}
use Rattle.c_model.specs.World.{World}
use Rattle.detector_laws.proofs.Goes.{through_limited, through_within}
use Rattle.ending_laws.specs.Untouched.{NoneEnds, PicksEndNone}

-- ---- a pick that goes on
-- the trace has one entry more, of its items
pub record LeavesEntry (world : World) (st next : State) (p : Pick) : Type 0 where
  pub items : List Item
  pub newest : next.trace ≡ entry_of world st.top p items ∷ st.trace
  pub value : Value
  pub store : Store
  pub ran : run world.rows (does world st.top st.top.begun p) st.store ≡ Done value items store

module _ (world : World) (st : State) (p : Pick) where
  back_leaves : (hs : List (Local × Place)) (v : Value) (s : Store) (trace : List Entry) (next : State) → back world hs v s trace ≡ Running next →
      next.trace ≡ trace
  back_leaves [] v s trace next q = absurd (cc (q))
  back_leaves (h ∷ hs) v s trace next q = sym (ap trace_of q)

  moved_leaves : (m : Move Local) (v : Value) (s : Store) (trace : List Entry) (next : State) → moved world st p m v s trace ≡ Running next →
      next.trace ≡ trace
  moved_leaves m v s trace next q = by_pick p m q
    where
      by_pick : (p : Pick) (m : Move Local) → moved world st p m v s trace ≡ Running next → next.trace ≡ trace
      by_pick Control Stay h = sym (ap trace_of h)
      by_pick (Ev u) Stay h = sym (ap trace_of h)
      by_pick (Ev u) (Start g) h = sym (ap trace_of h)
      by_pick Control (Start g) h = absurd (cc (h))
      by_pick (Ev u) End h = back_leaves st.held v s trace next h
      by_pick Control End h = back_leaves st.held v s trace next h

  acted_leaves : (act : Act Value) (next : State) → run world.rows (does world st.top st.top.begun p) st.store ≡ act → acted world st p act ≡ Running next →
      LeavesEntry world st next p
  acted_leaves (Done v is s) next ran q = record {
    items = is;
    newest = moved_leaves (move world st.top st.top.begun p) v s (entry_of world st.top p is ∷ st.trace) next (through_limited world.limits _ next q);
    value = v;
    store = s;
    ran = ran;
  }
  acted_leaves (Raised c) next ran q = absurd (cc (q))
  acted_leaves (Ended n is s) next ran q = absurd (cc (q))
  acted_leaves (Outside c n) next ran q = absurd (cc (q))
  acted_leaves Unplaced next ran q = absurd (let z = through_within _ No_row next q in cc (z))

  pub leaves_entry : (next : State) → step world st p ≡ Running next → LeavesEntry world st next p
  leaves_entry next q = acted_leaves (run world.rows (does world st.top st.top.begun p) st.store) next refl (through_within _ _ next q)

-- ---- what goes on hasn't ended the run
item_goes_on : (t : Touch) (is : List Item) → has_ending (item_of t ∷ is) ≡ has_ending is
item_goes_on (Ask x) is = refl
item_goes_on (Get x a n) is = refl
item_goes_on (Put x a bs) is = refl
item_goes_on (Bear x size kind declared) is = refl
item_goes_on (Bury x) is = refl
item_goes_on (Show x) is = refl
item_goes_on (Find a) is = refl
item_goes_on (Settle id x c) is = refl
item_goes_on Take is = refl
item_goes_on (Print to bs) is = refl

-- the act goes on, and its items have no end
abbrev GoesOn : {V : Type 0} → Act V → Type 0
GoesOn (Done v is s) = has_ending is ≡ false
GoesOn a = Unit {0}

touched_goes_on : {V : Type 0} → (t : Touch) (a : Act V) → GoesOn a → GoesOn (touched (item_of t) a)
touched_goes_on t (Done v is s) h = item_goes_on t is ∙ h
touched_goes_on t (Raised c) h = tt
touched_goes_on t (Ended n is s) h = tt
touched_goes_on t (Outside c n) h = tt
touched_goes_on t Unplaced h = tt

refused_goes_on : (V : Type 0) (t : Touch) → GoesOn (refused {V = V} t)
refused_goes_on V (Ask x) = tt
refused_goes_on V (Get x a n) = tt
refused_goes_on V (Put x a bs) = tt
refused_goes_on V (Bear x size kind declared) = tt
refused_goes_on V (Bury x) = tt
refused_goes_on V (Show x) = tt
refused_goes_on V (Find a) = tt
refused_goes_on V (Settle id x c) = tt
refused_goes_on V Take = tt
refused_goes_on V (Print to bs) = tt

either : {V : Type 0} → (b : Bool) (x y : Act V) → GoesOn x → GoesOn y → GoesOn (if b then x else y)
either true x y h g = h
either false x y h g = g

run_goes_on : {V : Type 0} → (map : List Row) (x : Script V) (s : Store) → GoesOn (run map x s)
run_goes_on map (Give v) s = refl
run_goes_on map (Raise c) s = tt
run_goes_on map (Finish n) s = tt
run_goes_on map (Exceed c n) s = tt
run_goes_on map Misplace s = tt
run_goes_on map (Do t k) s =
    either (refuses t s) (refused t) (touched (item_of t) (run map (k (answer map t s)) (left t s))) (refused_goes_on _ t)
    (touched_goes_on t (run map (k (answer map t s)) (left t s)) (run_goes_on map (k (answer map t s)) (left t s)))

pub picks_end_none : PicksEndNone
picks_end_none world st next none q =
    let r = leaves_entry world st (canonical_pick world st.top st.top.begun) next q in
    subst NoneEnds (sym r.newest)
    (subst (GoesOn {V = Value}) r.ran (run_goes_on world.rows (does world st.top st.top.begun (canonical_pick world st.top st.top.begun)) st.store), none)

-- ---- so no event has
either_none : (xs ys : List Item) → has_ending xs ≡ false → has_ending ys ≡ false → has_ending (xs ++ ys) ≡ false
either_none [] ys h g = g
either_none (Ending ∷ xs) ys h g = absurd (true≢false h)
either_none (x ∷ xs) ys h g = either_none xs ys h g

if_none : (b : Bool) (xs : List Item) → has_ending xs ≡ false → has_ending (if b then xs else []) ≡ false
if_none true xs h = h
if_none false xs h = refl

under_none : (q : Path) (trace : List Entry) → NoneEnds trace → has_ending (items_under q trace) ≡ false
under_none q [] n = refl
under_none q (e ∷ es) n =
    either_none (if is_under e.path q then e.items else []) (items_under q es) (if_none (is_under e.path q) e.items n.0) (under_none q es n.1)

by_none : (trace es : List Entry) (path : Path) (turn : ℕ) (w : Place) → NoneEnds trace → NoneEnds es → has_ending (items_by trace es path turn w) ≡ false
by_none trace [] path turn w n m = refl
by_none trace (e ∷ es) path turn w n m = of (is_of path turn w e) (by_none trace es path turn w n m.1)
  where
    of : (b : Bool) → has_ending (items_by trace es path turn w) ≡ false → has_ending (if b then items_of trace e w else items_by trace es path turn w) ≡ false
    of true again = either_none e.items (if is_body w.kind then items_under ((e.turn, w.node) ∷ e.path) trace else []) m.0
        (if_none (is_body w.kind) (items_under ((e.turn, w.node) ∷ e.path) trace) (under_none ((e.turn, w.node) ∷ e.path) trace n))
    of false again = again

pub none_by : (trace : List Entry) (path : Path) (turn : ℕ) (w : Place) → NoneEnds trace → has_ending (items_by trace trace path turn w) ≡ false
none_by trace path turn w n = by_none trace trace path turn w n n
