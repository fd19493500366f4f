-- What the body of a call of a library function does in a run.
use Rattle.std.proofs.Common.{◌≡◌, ℕ, zero, suc, ◌+◌, ◌^◌, ◌&&◌, Bool, true, false, not, refl, sym, ap, ◌∙◌, subst, List, [], ◌∷◌, map, max, min, Option, Some}
use Rattle.std.proofs.Common.{None}
use Rattle.std.proofs.Common.{if◌then◌else◌, is_some, nat_lt}
use Rattle.std.specs.Prelude.{◌||◌}
use Rattle.ub_base.specs.declared.clause.Clause.TheVariants.{IncompatibleCall, InvalidPointer}
use Rattle.ub_base.specs.declared.clause.Cause.{Cause}
use Rattle.ub_base.specs.declared.clause.Cause.TheVariants.{Depth, Created as PastCreated, Output as PastOutput}
use Rattle.ub_base.specs.declared.clause.Kind.TheVariants.{Body}
use Rattle.ub_base.specs.declared.names.Event.{Event}
use Rattle.ub_base.specs.declared.names.Item.{Item}
use Rattle.addr_map.specs.declared.map.Row.{Row}
use Rattle.c_types.specs.declared.library.LibFunc.{LibFunc}
use Rattle.c_types.specs.declared.library.LibFunc.TheVariants.{Malloc, Calloc, Realloc, Free, Memcpy, Memmove, Memset, Memcmp, Strlen, Strcpy, Strcmp}
use Rattle.c_types.specs.declared.library.LibFunc.TheVariants.{Strchr, Getchar, Putchar, Puts, Printf, Fprintf, Sprintf, Snprintf, Exit, Abort}
use Rattle.c_types.specs.Types.{CType}
use Rattle.c_typed.specs.declared.tree.Place.{Place}
use Rattle.c_typed.specs.Order.{is_body}
use Rattle.mem_spec.specs.Script.{Script, Give, Raise, Finish, Exceed, Misplace, Do, Act, Done, Raised, Ended, Outside, Unplaced, answer, item_of, left}
use Rattle.mem_spec.specs.Script.{Touch, refused, refuses, require, run, touched, Ask, Get, Put, Bear, Bury, Show, Find, Settle, Take, Print, ◌>>=◌, ◌>>◌}
use Rattle.mem_spec.specs.Store.{Store}
use Rattle.mem_spec.specs.Streams.{total}
use Rattle.libc_spec.specs.Library.{LibValue, asked, created_with, created_within, in_ranges, is_given, joined, output_within}
use Rattle.c_model.specs.Libraries.{allocated, library, passed, result, script}
use Rattle.c_model.specs.Moves.{Move, Stay}
use Rattle.c_model.specs.Program.{Call, expr, Expr, Exprs, Function, Stmt}
use Rattle.c_model.specs.Runs.{Outcome, Raises, Over, No_row, Ends, Running, State, acted, allocation_passes, call_allocates, depth_of, entry_of, library_of}
use Rattle.c_model.specs.Runs.{limit_passed, limited, moved, node_allocates, pick_allocates, step, within, without_row}
use Rattle.c_model.specs.Steps.{
  Begun,
  Ev,
  Local,
  argument_types,
  at_node,
  body_frame,
  call_act,
  call_by,
  call_through,
  called_by,
  does,
  event_act,
  event_of,
  first_type,
  function_type,
  library_act,
  move,
  move_of,
  next,
  own_body,
  start_call,
  started,
  target,
  values_of,
}
use Rattle.c_model.specs.Values.{Value, later_values}
use Rattle.c_model.specs.World.{Limits, World}
use Rattle.library_laws.specs.Called.{called_with, items_of, names_ranges}
use Rattle.library_laws.specs.Calls.{ComesToAct, HasLibrary, IsLibraryCall, LibraryCallSteps, given_state}
use Rattle.library_laws.proofs.Counting.{count, call_counts}
use Rattle.library_laws.proofs.Barren.{Counts}

-- ---- an act by its value
abbrev mapped : {A B : Type 0} → (A → B) → Act A → Act B
mapped f (Done v is s) = Done (f v) is s
mapped f (Raised c) = Raised c
mapped f (Ended n is s) = Ended n is s
mapped f (Outside c n) = Outside c n
mapped f Unplaced = Unplaced

mapped_refused : {A B : Type 0} (f : A → B) (t : Touch) → refused {V = B} t ≡ mapped f (refused {V = A} t)
mapped_refused f (Ask x) = refl
mapped_refused f (Get x a len) = refl
mapped_refused f (Put x a bs) = refl
mapped_refused f (Bear x size kind declared) = refl
mapped_refused f (Bury x) = refl
mapped_refused f (Show x) = refl
mapped_refused f (Find a) = refl
mapped_refused f (Settle id x c) = refl
mapped_refused f Take = refl
mapped_refused f (Print to bs) = refl

mapped_touched : {A B : Type 0} (f : A → B) (i : Item) (act : Act A) → touched i (mapped f act) ≡ mapped f (touched i act)
mapped_touched f i (Done v is s) = refl
mapped_touched f i (Raised c) = refl
mapped_touched f i (Ended n is s) = refl
mapped_touched f i (Outside c n) = refl
mapped_touched f i Unplaced = refl

mapped_step : {A B : Type 0} (f : A → B) (b : Bool) (t : Touch) (act : Act A)
    → (if b then refused {V = B} t else touched (item_of t) (mapped f act)) ≡ mapped f (if b then refused {V = A} t else touched (item_of t) act)
mapped_step f true t act = mapped_refused f t
mapped_step f false t act = mapped_touched f (item_of t) act

run_mapped : {A B : Type 0} (rows : List Row) (f : A → B) (p : Script A) (s : Store) → run rows (p >>= (λ v. Give (f v))) s ≡ mapped f (run rows p s)
run_mapped rows f (Give v) s = refl
run_mapped rows f (Raise c) s = refl
run_mapped rows f (Finish n) s = refl
run_mapped rows f (Exceed c n) s = refl
run_mapped rows f Misplace s = refl
run_mapped {A = A} {B = B} rows f (Do t k) s =
    ap (λ (act : Act B). if refuses t s then refused t else touched (item_of t) act) (run_mapped rows f (k (answer rows t s)) (left t s))
    ∙ mapped_step f (refuses t s) t (run rows (k (answer rows t s)) (left t s))

-- ---- a call with its limits, by what its script does
abbrev named : LibFunc → Act LibValue → Act LibValue
named g act = if names_ranges g then in_ranges act else act

none_within : (s : Store) (act : Act LibValue) → created_within 0 s act ≡ act
none_within s (Done v is u) = refl
none_within s (Raised c) = refl
none_within s (Ended n is u) = refl
none_within s (Outside c n) = refl
none_within s Unplaced = refl

module _ (rows : List Row) (who : Event) (ts : List CType) (vs : List LibValue) (s : Store) where
  abbrev ran : LibFunc → Act LibValue
  ran g = run rows (script rows g who ts vs) s

  formatted : (g : LibFunc) → output_within (in_ranges (ran g)) ≡ output_within (created_within 0 s (in_ranges (ran g)))
  formatted g = ap (output_within) (sym (none_within s (in_ranges (ran g))))

  call_is : (g : LibFunc) → called_with rows g who ts vs s ≡ output_within (created_within (asked g vs) s (named g (ran g)))
  call_is Malloc = refl
  call_is Calloc = refl
  call_is Realloc = refl
  call_is Free = refl
  call_is Memcpy = refl
  call_is Memmove = refl
  call_is Memset = refl
  call_is Memcmp = refl
  call_is Strlen = refl
  call_is Strcpy = refl
  call_is Strcmp = refl
  call_is Strchr = refl
  call_is Getchar = refl
  call_is Putchar = refl
  call_is Puts = refl
  call_is Printf = formatted Printf
  call_is Fprintf = formatted Fprintf
  call_is Sprintf = formatted Sprintf
  call_is Snprintf = formatted Snprintf
  call_is Exit = refl
  call_is Abort = refl

-- ---- limits
first_none : {A : Type 0} (b : Bool) (x : A) (rest : Option A) → (if b then Some x else rest) ≡ None → (b ≡ false) × (rest ≡ None)
first_none true x rest h = absurd (cc)
first_none false x rest h = (refl, h)

branch : {A : Type 0} (b t : Bool) (x y : A) → b ≡ t → (if b then x else y) ≡ (if t then x else y)
branch b t x y h = ap (λ (z : Bool). if z then x else y) h

and_first : (a b : Bool) → (a && b) ≡ true → a ≡ true
and_first true b h = refl
and_first false b h = absurd (cc)

and_second : (a b : Bool) → (a && b) ≡ true → b ≡ true
and_second true b h = h
and_second false b h = absurd (cc)

module _ (limits : Limits) (d : ℕ) (s u : Store) (is : limit_passed limits d s ≡ None) (created_limit : limits.created ≡ 2 ^ 26)
    (output_limit : limits.output ≡ 2 ^ 24) where
  depth_ok : nat_lt limits.depth d ≡ false
  depth_ok = (first_none (nat_lt limits.depth d) _ _ is).0

  created_ok : nat_lt limits.created s.created ≡ false
  created_ok = (first_none (nat_lt limits.created s.created) _ _ (first_none (nat_lt limits.depth d) _ _ is).1).0

  rest_is : limit_passed limits d u ≡ (if nat_lt limits.created u.created then Some (PastCreated, u.created)
      else (if nat_lt limits.output (total u.output) then Some (PastOutput, total u.output) else None))
  rest_is = branch (nat_lt limits.depth d) false _ _ depth_ok

  -- an object was created that passes the limit
  passes_created : (n : ℕ) → u.created ≡ created_with s n → nat_lt (2 ^ 26) (created_with s n) ≡ true
      → limit_passed limits d u ≡ Some (PastCreated, created_with s n)
  passes_created n made over =
      rest_is
      ∙ branch (nat_lt limits.created u.created) true _ _
      (ap (λ (k : ℕ). nat_lt k u.created) created_limit ∙ ap (nat_lt (2 ^ 26)) made ∙ over)
      ∙ ap (λ (k : ℕ). Some (PastCreated, k)) made

  -- nothing that passes it
  fits : (given over : Bool) (n : ℕ) → (given && over) ≡ false → over ≡ nat_lt (2 ^ 26) (created_with s n)
      → u.created ≡ (if given then created_with s n else s.created) → nat_lt limits.created u.created ≡ false
  fits true over n x is made =
      ap (λ (k : ℕ). nat_lt k u.created) created_limit ∙ ap (nat_lt (2 ^ 26)) made ∙ sym is ∙ x
  fits false over n x is made = ap (nat_lt limits.created) made ∙ created_ok

  passes_output : nat_lt limits.created u.created ≡ false → (y : Bool) → nat_lt (2 ^ 24) (total u.output) ≡ y
      → limit_passed limits d u ≡ (if y then Some (PastOutput, total u.output) else None)
  passes_output fit y out =
      rest_is ∙ branch (nat_lt limits.created u.created) false _ _ fit
      ∙ branch (nat_lt limits.output (total u.output)) y _ _ (ap (λ (k : ℕ). nat_lt k (total u.output)) output_limit ∙ out)

abbrev passing : Bool → Store → ℕ → Option (Cause × ℕ)
passing x s n = if x then Some (PastCreated, created_with s n) else None

over_by : (x b : Bool) (s : Store) (n : ℕ) → b ≡ x → passing b s n ≡ passing x s n
over_by x b s n h = ap (λ (z : Bool). passing z s n) h

-- an allocation without a row passes the limit where the object would
allocation : (limits : Limits) (n : ℕ) (s : Store) (x : Bool) → limits.created ≡ 2 ^ 26 → (is_given n && nat_lt (2 ^ 26) (created_with s n)) ≡ x
    → allocation_passes limits s (if is_given n then n else 0) ≡ passing x s n
allocation limits zero s x created_limit h = over_by x false s 0 h
allocation limits (suc k) s x created_limit h = by (is_given (suc k)) h
  where
    by : (b : Bool) → (b && nat_lt (2 ^ 26) (created_with s (suc k))) ≡ x
        → allocation_passes limits s (if b then suc k else 0) ≡ passing x s (suc k)
    by true h = over_by x _ s (suc k) (ap (λ (l : ℕ). nat_lt l (created_with s (suc k))) created_limit ∙ h)
    by false h = over_by x false s (suc k) h

-- ---- the step
depth_same : (f g : Local) (hs : List (Local × Place)) → f.function ≡ g.function → depth_of f hs ≡ depth_of g hs
depth_same f g [] h = ap (λ (o : Option ℕ). if is_some o then 1 else 0) h
depth_same f g (k ∷ hs) h = ap (λ (o : Option ℕ). (if is_some o then 1 else 0) + depth_of k.0 hs) h

then_by : {A : Type 0} (b : Bool) (x y : A) → b ≡ true → (if b then x else y) ≡ x
then_by true x y h = refl
then_by false x y h = absurd (cc)

callable : (b : Option Stmt) (l : Option LibFunc) (g : LibFunc) → l ≡ Some g → (is_some b || is_some l) ≡ true
callable None l g h = ap is_some h
callable (Some s) l g h = refl

module _ (world : World) (st : State) (e : Begun) (u : Place) (g : LibFunc) (ts : List CType) (vs : List Value) (begun : st.top.begun ≡ Some e)
    (has : HasLibrary world) (c : IsLibraryCall world st.top.scene e u g ts vs)
    (is : limit_passed world.limits (depth_of st.top st.held) st.store ≡ None) where
  abbrev who : Event
  who = event_of world st.top.scene u

  abbrev all : List Value
  all = values_of world st.top.scene e.given (suc u.node) c.operands

  abbrev seen : List LibValue
  seen = map passed vs

  abbrev n : ℕ
  n = asked g seen

  abbrev did : Act LibValue
  did = run world.rows (script world.rows g who ts seen) st.store

  acts : event_act world st.top.scene e u (at_node 0 e.root u.node) ≡ library world.rows g who ts vs
  acts =
      ap (event_act world st.top.scene e u) c.node
      ∙ then_by (is_body u.kind) (call_act world who (Call c.discarded) c.operands all) _ (ap is_body c.kind)
      ∙ ap (λ (o : Option CType). call_through world who o (argument_types c.operands) all) c.typed
      ∙ ap (call_by world who c.through (argument_types c.operands) (later_values all)) c.calls
      ∙ ap (λ (b : Bool). require b InvalidPointer >> (require (world.agree c.called.ty c.through) IncompatibleCall
      >> library_act world who (argument_types c.operands) (later_values all) c.called.library)) (callable c.called.body c.called.library g c.own)
      ∙ ap (λ (b : Bool). require b IncompatibleCall >> library_act world who (argument_types c.operands) (later_values all) c.called.library) c.agrees
      ∙ ap (library_act world who (argument_types c.operands) (later_values all)) c.own
      ∙ (λ i. has.library i g who (c.types i) (c.passes i))

  stays : move_of world st.top.scene e u (at_node 0 e.root u.node) ≡ Stay
  stays =
      ap (move_of world st.top.scene e u) c.node
      ∙ then_by (is_body u.kind) (started world st.top.scene u.node (Call c.discarded) all) _ (ap is_body c.kind)
      ∙ ap (start_call world st.top.scene u.node (later_values all)) c.calls
      ∙ ap (λ (l : Option LibFunc). body_frame world st.top.scene u.node c.number (later_values all) (if is_some l then None else c.called.body)) c.own

  abbrev act_then : Act Value → Outcome
  act_then act = acted world st (Ev u) act

  steps : step world st (Ev u) ≡ act_then (mapped result did)
  steps =
      ap (λ (b : Option Begun). act_then (run world.rows (does world st.top b (Ev u)) st.store)) begun
      ∙ ap (λ (p : Script Value). act_then (run world.rows p st.store)) acts
      ∙ ap act_then (run_mapped world.rows result (script world.rows g who ts seen) st.store)

  -- it is done
  module _ (w : LibValue) (js : List Item) (s : Store) where
    abbrev after : State
    after = given_state world st e u (result w) js s

    done_is : act_then (Done (result w) js s) ≡ within (limit_passed world.limits (depth_of st.top st.held) s) (Running after)
    done_is =
        let trace = entry_of world st.top (Ev u) js ∷ st.trace in
        ap (λ (b : Option Begun). limited world.limits (moved world st (Ev u) (move world st.top b (Ev u)) (result w) s trace)) begun
        ∙ ap (λ (k : Move Local). limited world.limits (moved world st (Ev u) k (result w) s trace)) stays
        ∙ ap (λ (b : Option Begun). limited world.limits
        (Running (record { top = next world st.top b (Ev u) (result w); held = st.held; store = s; trace = trace })))
        begun
        ∙ ap (λ (d : ℕ). within (limit_passed world.limits d s) (Running after)) (depth_same after.top st.top st.held refl)

    module _ (o : Outcome) (o_is : o ≡ act_then (Done (result w) js s)) (made : s.created ≡ count n st.store) where
      out : (l : Option (Cause × ℕ)) → limit_passed world.limits (depth_of st.top st.held) s ≡ l → o ≡ within l (Running after)
      out l passes = o_is ∙ done_is ∙ ap (λ (k : Option (Cause × ℕ)). within k (Running after)) passes

      printed : (y : Bool) → nat_lt world.limits.created s.created ≡ false → nat_lt (2 ^ 24) (total s.output) ≡ y
          → ComesToAct world st e u g (if y then Outside PastOutput (total s.output) else Done w (items_of g js) s) o
      printed true fit over =
          out (Some (PastOutput, total s.output))
          (passes_output world.limits (depth_of st.top st.held) st.store s is has.created has.output fit true over)
      printed false fit over = (
        js,
        refl,
        out None (passes_output world.limits (depth_of st.top st.held) st.store s is has.created has.output fit false over),
      )

      created : (x : Bool) → (is_given n && nat_lt (2 ^ 26) (created_with st.store n)) ≡ x
          → ComesToAct world st e u g (output_within (if x then Outside PastCreated (created_with st.store n) else Done w (items_of g js) s)) o
      created true over =
          let given = and_first (is_given n) _ over in
          out (Some (PastCreated, created_with st.store n))
          (passes_created world.limits (depth_of st.top st.held) st.store s is has.created has.output n
          (made ∙ branch (is_given n) true (created_with st.store n) st.store.created given) (and_second (is_given n) _ over))
      created false over =
          printed (nat_lt (2 ^ 24) (total s.output))
          (fits world.limits (depth_of st.top st.held) st.store s is has.created has.output (is_given n) (nat_lt (2 ^ 26) (created_with st.store n)) n over refl
          made) refl

  named_done : (b : Bool) (w : LibValue) (js : List Item) (s : Store)
      → (if b then in_ranges (Done w js s) else Done w js s) ≡ Done w (if b then joined js else js) s
  named_done true w js s = refl
  named_done false w js s = refl

  named_same : (b : Bool) (act : Act LibValue) → in_ranges act ≡ act → (if b then in_ranges act else act) ≡ act
  named_same true act h = h
  named_same false act h = refl

  abbrev bounded : Act LibValue → Act LibValue
  bounded act = output_within (created_within n st.store act)

  -- where nothing is allocated, the limit on created bytes isn't looked at
  not_given : (given over : Bool) (k : ℕ) (act : Act LibValue) → not given ≡ true → (if given && over then Outside PastCreated k else act) ≡ act
  not_given true over k act h = absurd (cc)
  not_given false over k act h = refl

  allocates : pick_allocates world st.top st.top.begun (Ev u) ≡ (if is_given n then n else 0)
  allocates =
      ap (λ (b : Option Begun). pick_allocates world st.top b (Ev u)) begun
      ∙ ap (node_allocates world st.top.scene e u) c.node
      ∙ ap (λ (f : Option (ℕ × Function)). allocated (library_of f) (later_values all)) c.calls
      ∙ ap (λ (l : Option LibFunc). allocated l (later_values all)) c.own
      ∙ ap (allocated (Some g)) c.passes

  unplaced : (o : Outcome) → o ≡ act_then Unplaced → (x : Bool) → (is_given n && nat_lt (2 ^ 26) (created_with st.store n)) ≡ x
      → ComesToAct world st e u g (output_within (if x then Outside PastCreated (created_with st.store n) else Unplaced)) o
  unplaced o o_is x over = by x (o_is ∙ ap (λ (l : Option (Cause × ℕ)). within l No_row)
      (ap (allocation_passes world.limits st.store) allocates ∙ allocation world.limits n st.store x has.created over))
    where
      by : (x : Bool) → o ≡ within (passing x st.store n) No_row
          → ComesToAct world st e u g (output_within (if x then Outside PastCreated (created_with st.store n) else Unplaced)) o
      by true h = h
      by false h = h

  comes : (act : Act LibValue) (o : Outcome) → o ≡ act_then (mapped result act) → Counts (not (is_given n)) (count n st.store) act
      → ComesToAct world st e u g (bounded (named g act)) o
  comes (Done w js s) o o_is made =
      subst (λ (act : Act LibValue). ComesToAct world st e u g (bounded act) o) (sym (named_done (names_ranges g) w js s))
      (created w js s o o_is made (is_given n && nat_lt (2 ^ 26) (created_with st.store n)) refl)
  comes (Raised k) o o_is made =
      subst (λ (act : Act LibValue). ComesToAct world st e u g (bounded act) o) (sym (named_same (names_ranges g) (Raised k) refl)) o_is
  comes (Ended k js s) o o_is made =
      subst (λ (act : Act LibValue). ComesToAct world st e u g (bounded act) o) (sym (named_same (names_ranges g) (Ended k js s) refl))
      (subst (λ (act : Act LibValue). ComesToAct world st e u g (output_within act) o)
      (sym (not_given (is_given n) _ (created_with st.store n) (Ended k js s) made)) o_is)
  comes (Outside k m) o o_is made =
      subst (λ (act : Act LibValue). ComesToAct world st e u g (bounded act) o) (sym (named_same (names_ranges g) (Outside k m) refl))
      (subst (λ (act : Act LibValue). ComesToAct world st e u g (output_within act) o)
      (sym (not_given (is_given n) _ (created_with st.store n) (Outside k m) made)) o_is)
  comes Unplaced o o_is made =
      subst (λ (act : Act LibValue). ComesToAct world st e u g (bounded act) o) (sym (named_same (names_ranges g) Unplaced refl))
      (unplaced o o_is (is_given n && nat_lt (2 ^ 26) (created_with st.store n)) refl)

pub library_call_steps : LibraryCallSteps
library_call_steps world st e u g ts vs begun has c is =
    let seen = map passed vs in
    let who = event_of world st.top.scene u in
    subst (λ (act : Act LibValue). ComesToAct world st e u g act (step world st (Ev u))) (sym (call_is world.rows who ts seen st.store g))
    (comes world st e u g ts vs begun has c is (run world.rows (script world.rows g who ts seen) st.store) (step world st (Ev u))
    (steps world st e u g ts vs begun has c is) (call_counts world.rows who ts seen st.store g))
