-- Acts that give a value, act by act.
use Rattle.std.proofs.Common.{◌≡◌, ◌≢◌, ◌∙◌, ℕ, ◌+◌, ◌<◌, ◌≤◌, Bool, true, false, refl, sym, ap, ap₂, subst, arith, List, [], length, slice_get, Some, ℤ}
use Rattle.std.proofs.Common.{if◌then◌else◌, not, pos}
use Rattle.std.specs.Prelude.{Result, Ok, Err}
use Rattle.std.specs.Borrow.{Bor}
use Rattle.ub_base.specs.declared.clause.Clause.{Clause}
use Rattle.ub_base.specs.declared.names.Event.{Event}
use Rattle.ub_base.specs.declared.names.Item.{Item}
use Rattle.addr_map.specs.declared.map.Row.{Row}
use Rattle.c_arith.specs.Operators.{complemented, conv, negated}
use Rattle.c_types.specs.declared.kind.BinOp.{BinOp}
use Rattle.c_types.specs.declared.kind.IntKind.{IntKind}
use Rattle.c_types.specs.declared.ty.Ty.{Ty}
use Rattle.c_types.specs.Types.{type_of}
use Rattle.c_typed.specs.declared.tree.Access.{Access}
use Rattle.c_typed.specs.declared.tree.Change.{Change}
use Rattle.c_typed.specs.declared.tree.Conversion.{Conversion}
use Rattle.c_typed.specs.declared.tree.EqOp.{EqOp}
use Rattle.c_typed.specs.declared.tree.EqOp.TheVariants as equality
use Rattle.c_typed.specs.declared.tree.RelOp.{RelOp}
use Rattle.c_typed.specs.declared.tree.UnOp.{UnOp}
use Rattle.c_typed.specs.declared.tree.UnOp.TheVariants as unary
use Rattle.mem_spec.specs.Script.{Script, Give, Done, Raised, run}
use Rattle.mem_spec.specs.Store.{Store}
use Rattle.mem_spec.specs.Streams.{Io}
use Rattle.mem_objects.specs.declared.value.Value.{Value as Kept_value}
use Rattle.mem_objects.specs.declared.value.Value.TheVariants as kept
use Rattle.mem_objects.specs.declared.answer.MemFault.{MemFault}
use Rattle.mem_objects.specs.declared.answer.MemFault.TheVariants as faults
use Rattle.mem_objects.specs.Keeps.{Keeps}
use Rattle.mem_objects.specs.Loads.{IfRaise}
use Rattle.mem_objects.specs.Memory.{Kept, store_of}
use Rattle.mem_objects.specs.Sound.{IsSound}
use Rattle.c_model.specs.Nodes.{bool_value, changed, given_back, int_outcome, unary_value, update_value}
use Rattle.c_model.specs.Nodes as nodes
use Rattle.c_model.specs.Values as model
use Rattle.c_model.specs.Values.{Value, Nothing, integer_of, pointer_of, truth}
use Rattle.run_values.specs.declared.values.Pointer.{Pointer}
use Rattle.run_values.specs.Kept.{IsOf}
use Rattle.run_acts.specs.Updates.{CanChange, IsNearChange}
use Rattle.run_values.specs.Views.{value_in, pointer_at}
use Rattle.run_layout.specs.declared.steps.Act.{Act}
use Rattle.run_layout.specs.declared.steps.Act.TheVariants as act
use Rattle.run_layout.specs.declared.steps.Operand.{Operand}
use Rattle.run_layout.specs.declared.steps.Operand.TheVariants as operand
use Rattle.run_state.specs.declared.machine.Machine.{Machine}
use Rattle.run_state.specs.Stands.{Holds}
use Rattle.run_answers.specs.declared.outcome.Outcome.{Outcome}
use Rattle.run_answers.specs.declared.outcome.Outcome.TheVariants as outcome
use Rattle.run_answers.specs.declared.fault.Fault.{Fault}
use Rattle.run_answers.specs.declared.fault.Fault.TheVariants as fault
use Rattle.run_answers.specs.Acts.{given_by, AreGiven, IsGiven}
use Rattle.run_answers.specs.Performs.{gives_value, is_pointer_act, store_in, CanAct, ChangesOnly, Does, TouchesValues}
use Rattle.run_answers.specs.Faults.{fault_of}
use Rattle.run_answers.proofs.Doing.{Of, cell_of, given_as, pointer_made}
use Rattle.run_events.proofs.Rooms.{no_fewer}

-- ---- integers
pub int_of : (m : Kept) (h : Kept_value) (z : ℤ) → value_in m h ≡ model.Int z → IsOf m h
int_of m (kept.Int y) z e = record { made = tt; known = tt; tagged = tt }
int_of m (kept.Ptr a p) z e = absurd (cc)
int_of m (kept.Func a) z e = absurd (cc)
int_of m (kept.Block b) z e = absurd (cc)
int_of m kept.Missing z e = absurd (cc)
int_of m kept.Nothing z e = absurd (cc)

abbrev pub IsInt : Value → Type 0
IsInt v = (z : ℤ) × (v ≡ model.Int z)

outcome_int : (rows : List Row) (r : Result ℤ Clause) (s u : Store) (v : Value) (is : List Item) → run rows (int_outcome r) s ≡ Done v is u → IsInt v
outcome_int rows (Ok z) s u v is e = (z, cc)
outcome_int rows (Err c) s u v is e = absurd (cc)

pub unary_int : (rows : List Row) (op : UnOp) (w : Value) (s u : Store) (v : Value) (is : List Item) → run rows (unary_value op w) s ≡ Done v is u → IsInt v
unary_int rows (unary.Minus k) w s u v is e = outcome_int rows (negated k (conv k (integer_of w))) s u v is e
unary_int rows (unary.Complement k) w s u v is e = (complemented k (conv k (integer_of w)), cc)
unary_int rows unary.Not w s u v is e = (if not (truth w) then pos 1 else pos 0, cc)

pub equal_int : (op : EqOp) (v w : Value) → IsInt (nodes.equal op v w)
equal_int equality.Equal v w = (_, refl)
equal_int equality.NotEqual v w = (_, refl)

-- ---- values that are given at once
pub at_once : (m : Machine) (s : Script Value) (v w : Value) → CanAct m → s ≡ Give v → w ≡ v
    → run m.memory.rows s (store_in m) ≡ Done w m.items (store_in m)
at_once m s v w can e is =
    ap (λ (z : Script Value). run m.memory.rows z (store_in m)) e
    ∙ ap₂ (λ (z : Value) (js : List Item). Done z js (store_in m)) (sym is) (sym can.items)

-- by an act that touches nothing
pub with_none : (m : Machine) (s : Script Value) (w : Value) → CanAct m → run m.memory.rows s (store_in m) ≡ Done w [] (store_in m)
    → run m.memory.rows s (store_in m) ≡ Done w m.items (store_in m)
with_none m s w can e = e ∙ ap (λ (js : List Item). Done w js (store_in m)) (sym can.items)

pub worked : (m : Machine) (r : Result ℤ Clause) (z : ℤ) → CanAct m → r ≡ Ok z
    → run m.memory.rows (int_outcome r) (store_in m) ≡ Done (model.Int z) m.items (store_in m)
worked m r z can e =
    ap (λ (q : Result ℤ Clause). run m.memory.rows (int_outcome q) (store_in m)) e
    ∙ ap (λ (js : List Item). Done (model.Int z) js (store_in m)) (sym can.items)

pub unworked : (m : Machine) (r : Result ℤ Clause) (c : Clause) → r ≡ Err c → run m.memory.rows (int_outcome r) (store_in m) ≡ Raised c
unworked m r c e = ap (λ (q : Result ℤ Clause). run m.memory.rows (int_outcome q) (store_in m)) e

-- ---- the operand that a `?:` gives
module _ (m end : Machine) (who : Event) (test a b : Operand) where
  abbrev act_of_it : Act
  act_of_it = act.Selected test a b

  pub selected_yes : (r : Result Outcome Fault) → truth (given_by m test) ≡ true → Does m end who (act.Same a) r → Does m end who act_of_it r
  selected_yes r is does = go r does
    where
      same : run m.memory.rows (Give (given_by m a)) (store_in m)
          ≡ run m.memory.rows (Give (if truth (given_by m test) then given_by m a else given_by m b)) (store_in m)
      same = ap (λ (t : Bool). run m.memory.rows (Give (if t then given_by m a else given_by m b)) (store_in m)) (sym is)

      go : (r : Result Outcome Fault) → Does m end who (act.Same a) r → Does m end who act_of_it r
      go (Ok outcome.Done) did = (did.0, record { did = sym same ∙ did.1.did; kept = did.1.kept; value = did.1.value; update = tt })
      go (Ok outcome.Started) did = absurd did
      go (Ok (outcome.End n)) did = absurd did
      go (Err (fault.Raise c)) did = sym same ∙ did
      go (Err (fault.Over cause number)) did = absurd did
      go (Err fault.Unplaced) did = absurd did
      go (Err fault.NoMemory) did = tt

  pub selected_no : (r : Result Outcome Fault) → truth (given_by m test) ≡ false → Does m end who (act.Same b) r → Does m end who act_of_it r
  selected_no r is does = go r does
    where
      same : run m.memory.rows (Give (given_by m b)) (store_in m)
          ≡ run m.memory.rows (Give (if truth (given_by m test) then given_by m a else given_by m b)) (store_in m)
      same = ap (λ (t : Bool). run m.memory.rows (Give (if t then given_by m a else given_by m b)) (store_in m)) (sym is)

      go : (r : Result Outcome Fault) → Does m end who (act.Same b) r → Does m end who act_of_it r
      go (Ok outcome.Done) did = (did.0, record { did = sym same ∙ did.1.did; kept = did.1.kept; value = did.1.value; update = tt })
      go (Ok outcome.Started) did = absurd did
      go (Ok (outcome.End n)) did = absurd did
      go (Err (fault.Raise c)) did = sym same ∙ did
      go (Err (fault.Over cause number)) did = absurd did
      go (Err fault.Unplaced) did = absurd did
      go (Err fault.NoMemory) did = tt

-- ---- a room whose value is taken out, and that has another then
pub left_of_room : (m : Machine) (node : ℕ) (left : Kept_value) → slice_get m.values.items (m.top.base + node) ≡ Some left
    → IsGiven m (operand.Done node) → IsOf m.memory left
left_of_room m node left there g =
    let same : Some g.0 ≡ Some left = sym g.1 ∙ there in
    let is : g.0 ≡ left = cc in
    subst (λ (h : Kept_value). IsOf m.memory h) is g.2

module _ (m mid : Machine) (node : ℕ) where
  pub taken_changes : (a : Act) → mid ≡ record m { values = mid.values }
      → ((j : ℕ) → j ≢ m.top.base + node → slice_get mid.values.items j ≡ slice_get m.values.items j)
      → length mid.values.items ≡ length m.values.items → ChangesOnly m mid node a
  taken_changes a rest others count = record {
    rest = subst (λ (z : Machine). TouchesValues m z) (sym rest) refl;
    others = λ j apart away. others j apart;
    count = omega (arith, count);
  }

module _ (m mid new : Machine) (node : ℕ) (h : Kept_value) (rest1 : mid ≡ record m { values = mid.values })
    (others1 : (j : ℕ) → j ≢ m.top.base + node → slice_get mid.values.items j ≡ slice_get m.values.items j)
    (count1 : length mid.values.items ≡ length m.values.items) (rest2 : new ≡ record mid { values = new.values })
    (room2 : mid.top.base + node < length mid.values.items → slice_get new.values.items (mid.top.base + node) ≡ Some h)
    (others2 : (j : ℕ) → j ≢ mid.top.base + node → slice_get new.values.items j ≡ slice_get mid.values.items j) where
  pub twice_rest : new ≡ record m { values = new.values }
  twice_rest = rest2 ∙ ap (λ (z : Machine). record z { values = new.values }) rest1

  twice_base : mid.top.base ≡ m.top.base
  twice_base = ap (λ (z : Machine). z.top.base) rest1

  pub twice_room : m.top.base + node < length m.values.items → slice_get new.values.items (m.top.base + node) ≡ Some h
  twice_room lt =
      let b = twice_base in
      ap (λ (z : ℕ). slice_get new.values.items (z + node)) (sym b) ∙ room2 (omega (arith, lt, b, count1))

  pub twice_others : (j : ℕ) → j ≢ m.top.base + node → slice_get new.values.items j ≡ slice_get m.values.items j
  twice_others j apart = others2 j (λ e. apart (e ∙ ap (λ (z : ℕ). z + node) twice_base)) ∙ others1 j apart

-- ---- updates
module _ (m : Machine) (who : Event) (c : Change) (ty : Bor Ty) (po oo : Operand) (p : Pointer) (n : ℤ) (k : Kept) (t spare : List Item)
    (before after : Kept_value) (place : Of m po pointer_of (pointer_at p)) (operand_is : Of m oo integer_of n) where
  abbrev pub Read : Type 0
  Read = CanChange m.memory p → IsNearChange c n → (b : Bool) (io : Io) →
      run m.memory.rows (update_value m.memory.rows who c b (type_of ty.now) (pointer_at p) n) (store_of m.memory io)
      ≡ Done (given_back b (value_in k before) (value_in k after)) t (store_of k io)

  module _ (can : CanAct m) (given : IsGiven m po) (by : IsGiven m oo) (near : IsNearChange c (integer_of (given_by m oo))) where
    pub can_change : CanChange m.memory p
    can_change = record { cell = cell_of m.memory p.prov (pointer_made m po p place given); sound = can.sound }

    number_is : n ≡ integer_of (given_by m oo)
    number_is = given_as m oo integer_of n operand_is by

    pub near_too : IsNearChange c n
    near_too = subst (λ (i : ℤ). IsNearChange c i) (sym number_is) near

    pub script_is : (b : Bool) → update_value m.memory.rows who c b (type_of ty.now) (pointer_at p) n
        ≡ update_value m.memory.rows who c b (type_of ty.now) (pointer_of (given_by m po)) (integer_of (given_by m oo))
    script_is b =
        ap₂ (λ (q : model.Pointer) (i : ℤ). update_value m.memory.rows who c b (type_of ty.now) q i) (given_as m po pointer_of (pointer_at p) place given)
        number_is

    pub update_did : (b : Bool) → Read
        → run m.memory.rows (update_value m.memory.rows who c b (type_of ty.now) (pointer_of (given_by m po)) (integer_of (given_by m oo))) (store_in m)
        ≡ Done (given_back b (value_in k before) (value_in k after)) t (store_of k m.streams)
    update_did b read = ap (λ (s : Script Value). run m.memory.rows s (store_in m)) (sym (script_is b)) ∙ read can_change near_too b m.streams

    pub update_raised : (b : Bool) (cl : Clause) → (CanChange m.memory p → IsNearChange c n → (b : Bool) (io : Io) →
        run m.memory.rows (update_value m.memory.rows who c b (type_of ty.now) (pointer_at p) n) (store_of m.memory io) ≡ Raised cl)
        → run m.memory.rows (update_value m.memory.rows who c b (type_of ty.now) (pointer_of (given_by m po)) (integer_of (given_by m oo))) (store_in m)
        ≡ Raised cl
    update_raised b cl raised = ap (λ (s : Script Value). run m.memory.rows s (store_in m)) (sym (script_is b)) ∙ raised can_change near_too b m.streams

    pub update_fails : (end : Machine) (b : Bool) (room : ℕ) (f : MemFault) → IfRaise f (λ cl. CanChange m.memory p → IsNearChange c n
        → (b : Bool) (io : Io)
        → run m.memory.rows (update_value m.memory.rows who c b (type_of ty.now) (pointer_at p) n) (store_of m.memory io) ≡ Raised cl)
        → Does m end who (act.Change c b ty po oo room) (Err (fault_of f))
    update_fails end b room (faults.Raise cl) raised = update_raised b cl raised
    update_fails end b room faults.NoMemory raised = tt

    pub after_is : (CanChange m.memory p → IsNearChange c n → (io : Io) → value_in k after ≡ changed c (value_in k before) n)
        → value_in k after ≡ changed c (value_in k before) (integer_of (given_by m oo))
    after_is changes = changes can_change near_too m.streams ∙ ap (changed c (value_in k before)) number_is

  -- the old value goes to the room of the node, and what it will store to another
  module _ (mid new : Machine) (room : ℕ) (rest1 : mid ≡ record m { memory = k; items = t; spare = spare; values = mid.values })
      (room1 : m.top.base + room < length m.values.items → slice_get mid.values.items (m.top.base + room) ≡ Some after)
      (others1 : (j : ℕ) → j ≢ m.top.base + room → slice_get mid.values.items j ≡ slice_get m.values.items j)
      (rest2 : new ≡ record mid { values = new.values })
      (room2 : mid.top.base + who.node < length mid.values.items → slice_get new.values.items (mid.top.base + who.node) ≡ Some before)
      (others2 : (j : ℕ) → j ≢ mid.top.base + who.node → slice_get new.values.items j ≡ slice_get mid.values.items j) where
    both_rest : new ≡ record m { memory = k; items = t; spare = spare; values = new.values }
    both_rest = rest2 ∙ ap (λ (z : Machine). record z { values = new.values }) rest1

    base_is : mid.top.base ≡ m.top.base
    base_is = ap (λ (z : Machine). z.top.base) rest1

    grown1 : length m.values.items ≤ length mid.values.items
    grown1 = no_fewer m.values.items mid.values.items (m.top.base + room) after room1 others1

    grown2 : length mid.values.items ≤ length new.values.items
    grown2 = no_fewer mid.values.items new.values.items (mid.top.base + who.node) before room2 others2

    pub both_change : ChangesOnly m new who.node (act.Change c true ty po oo room)
    both_change = record {
      rest = subst (λ (z : Machine). TouchesValues m z) (sym both_rest) refl;
      others = λ j apart away. others2 j (λ e. apart (e ∙ ap (λ (b : ℕ). b + who.node) base_is)) ∙ others1 j (away room refl);
      count = (let a = grown1 in let b = grown2 in omega (arith, a, b));
    }

    pub both_done : AreGiven m who (act.Change c true ty po oo room) → CanAct m → Read
        → (CanChange m.memory p → IsNearChange c n → (io : Io) → value_in k after ≡ changed c (value_in k before) n)
        → (IsSound m.memory → IsOf k before × IsOf k after) → Keeps m.memory k → Does m new who (act.Change c true ty po oo room) (Ok outcome.Done)
    both_done g can read changes made keeps =
        let memory_is : new.memory ≡ k = ap (λ (z : Machine). z.memory) both_rest in (
          value_in k before,
          record {
            did = update_did can g.0 g.1 g.2 true read ∙ ap (λ (z : Machine). Done (value_in k before) z.items (store_in z)) (sym both_rest);
            kept = subst (λ (z : Kept). Keeps m.memory z) (sym memory_is) keeps;
            value = λ gives lt.
                let b = base_is in
                let a = grown1 in
                subst (λ (z : Kept). Holds z new.values.items (m.top.base + who.node) (value_in k before)) (sym memory_is) (
                  before,
                  ap (λ (z : ℕ). slice_get new.values.items (z + who.node)) (sym b) ∙ room2 (omega (arith, lt, a, b)),
                  (made can.sound).0,
                  refl,
                );
            update = λ apart lt.
                let b = base_is in
                subst (λ (z : Kept). Holds z new.values.items (m.top.base + room) (changed c (value_in k before) (integer_of (given_by m oo))))
                (sym memory_is) (
                  after,
                  others2 (m.top.base + room) (λ e. apart (omega (arith, e, b))) ∙ room1 lt,
                  (made can.sound).1,
                  after_is can g.0 g.1 g.2 changes,
                );
          },
        )

-- ---- what is left of the acts
pub only_nothing : (a : Act) → ((size : ℕ) (b : Bool) (x y : Operand) → a ≡ act.Move size b x y → ⊥) → ((n : ℕ) (o : Operand) → a ≡ act.Member n o → ⊥)
    → ((n : ℕ) (x y : Operand) → a ≡ act.Distance n x y → ⊥) → ((op : RelOp) (b : Bool) (x y : Operand) → a ≡ act.Related op b x y → ⊥)
    → ((op : EqOp) (x y : Operand) → a ≡ act.Equal op x y → ⊥) → is_pointer_act a ≡ true → a ≡ act.Nothing
only_nothing (act.Move size b x y) n1 n2 n3 n4 n5 e = absurd (n1 size b x y refl)
only_nothing (act.Member n o) n1 n2 n3 n4 n5 e = absurd (n2 n o refl)
only_nothing (act.Distance n x y) n1 n2 n3 n4 n5 e = absurd (n3 n x y refl)
only_nothing (act.Related op b x y) n1 n2 n3 n4 n5 e = absurd (n4 op b x y refl)
only_nothing (act.Equal op x y) n1 n2 n3 n4 n5 e = absurd (n5 op x y refl)
only_nothing act.Nothing n1 n2 n3 n4 n5 e = refl
only_nothing (act.Load how ty o) n1 n2 n3 n4 n5 e = absurd (cc)
only_nothing (act.Same o) n1 n2 n3 n4 n5 e = absurd (cc)
only_nothing (act.Binary op k x y) n1 n2 n3 n4 n5 e = absurd (cc)
only_nothing (act.Convert c o) n1 n2 n3 n4 n5 e = absurd (cc)
only_nothing (act.Unary op o) n1 n2 n3 n4 n5 e = absurd (cc)
only_nothing (act.Logical b x y) n1 n2 n3 n4 n5 e = absurd (cc)
only_nothing (act.Selected x y z) n1 n2 n3 n4 n5 e = absurd (cc)
only_nothing (act.Change c b ty x y r) n1 n2 n3 n4 n5 e = absurd (cc)
only_nothing (act.Answer d) n1 n2 n3 n4 n5 e = absurd (cc)
only_nothing (act.Part n how o) n1 n2 n3 n4 n5 e = absurd (cc)
only_nothing (act.Store n place value) n1 n2 n3 n4 n5 e = absurd (cc)
only_nothing (act.Call n) n1 n2 n3 n4 n5 e = absurd (cc)
only_nothing (act.Initialize n) n1 n2 n3 n4 n5 e = absurd (cc)
only_nothing (act.Fill object n) n1 n2 n3 n4 n5 e = absurd (cc)

pub only_pointers : (a : Act) → ((how : Access) (ty : Bor Ty) (o : Operand) → a ≡ act.Load how ty o → ⊥) → ((o : Operand) → a ≡ act.Same o → ⊥)
    → ((op : BinOp) (k : IntKind) (x y : Operand) → a ≡ act.Binary op k x y → ⊥) → ((c : Conversion) (o : Operand) → a ≡ act.Convert c o → ⊥)
    → ((op : UnOp) (o : Operand) → a ≡ act.Unary op o → ⊥) → ((e : Bool) (x y : Operand) → a ≡ act.Logical e x y → ⊥)
    → ((x y z : Operand) → a ≡ act.Selected x y z → ⊥)
    → ((c : Change) (b : Bool) (ty : Bor Ty) (x y : Operand) (r : ℕ) → a ≡ act.Change c b ty x y r → ⊥) → ((d : Bool) → a ≡ act.Answer d → ⊥)
    → ((n : ℕ) (how : Access) (o : Operand) → a ≡ act.Part n how o → ⊥) → gives_value a ≡ true → is_pointer_act a ≡ true
only_pointers (act.Load how ty o) n1 n2 n3 n4 n5 n6 n7 n8 n9 n10 e = absurd (n1 how ty o refl)
only_pointers (act.Same o) n1 n2 n3 n4 n5 n6 n7 n8 n9 n10 e = absurd (n2 o refl)
only_pointers (act.Binary op k x y) n1 n2 n3 n4 n5 n6 n7 n8 n9 n10 e = absurd (n3 op k x y refl)
only_pointers (act.Convert c o) n1 n2 n3 n4 n5 n6 n7 n8 n9 n10 e = absurd (n4 c o refl)
only_pointers (act.Unary op o) n1 n2 n3 n4 n5 n6 n7 n8 n9 n10 e = absurd (n5 op o refl)
only_pointers (act.Logical b x y) n1 n2 n3 n4 n5 n6 n7 n8 n9 n10 e = absurd (n6 b x y refl)
only_pointers (act.Selected x y z) n1 n2 n3 n4 n5 n6 n7 n8 n9 n10 e = absurd (n7 x y z refl)
only_pointers (act.Change c b ty x y r) n1 n2 n3 n4 n5 n6 n7 n8 n9 n10 e = absurd (n8 c b ty x y r refl)
only_pointers (act.Answer d) n1 n2 n3 n4 n5 n6 n7 n8 n9 n10 e = absurd (n9 d refl)
only_pointers (act.Part n how o) n1 n2 n3 n4 n5 n6 n7 n8 n9 n10 e = absurd (n10 n how o refl)
only_pointers (act.Move size b x y) n1 n2 n3 n4 n5 n6 n7 n8 n9 n10 e = refl
only_pointers (act.Distance size x y) n1 n2 n3 n4 n5 n6 n7 n8 n9 n10 e = refl
only_pointers (act.Related op b x y) n1 n2 n3 n4 n5 n6 n7 n8 n9 n10 e = refl
only_pointers (act.Equal op x y) n1 n2 n3 n4 n5 n6 n7 n8 n9 n10 e = refl
only_pointers (act.Member offset p) n1 n2 n3 n4 n5 n6 n7 n8 n9 n10 e = refl
only_pointers act.Nothing n1 n2 n3 n4 n5 n6 n7 n8 n9 n10 e = refl
only_pointers (act.Store n place value) n1 n2 n3 n4 n5 n6 n7 n8 n9 n10 e = absurd (cc)
only_pointers (act.Call n) n1 n2 n3 n4 n5 n6 n7 n8 n9 n10 e = absurd (cc)
only_pointers (act.Initialize n) n1 n2 n3 n4 n5 n6 n7 n8 n9 n10 e = absurd (cc)
only_pointers (act.Fill object n) n1 n2 n3 n4 n5 n6 n7 n8 n9 n10 e = absurd (cc)
