-- A value that goes to the room of its node.
use Rattle.std.proofs.Common.{◌≡◌, ◌≢◌, ◌∙◌, ℕ, zero, suc, ◌+◌, ◌<◌, ◌≤◌, ◌==◌, Bool, true, false, refl, sym, ap, subst, arith}
use Rattle.std.proofs.Common.{List, [], ◌∷◌, length, slice_get, Some, None}
use Rattle.std.specs.Prelude.{OnErr, Result, Ok, Err}
use Rattle.std.proofs.lemmas.Bool.Decides.{nat_tests}
use Rattle.ub_base.specs.declared.names.Event.{Event}
use Rattle.ub_base.specs.declared.names.Item.{Item}
use Rattle.mem_spec.specs.Script.{Done, run}
use Rattle.mem_objects.specs.declared.value.Value.{Value as Kept_value}
use Rattle.mem_objects.specs.Keeps.{Keeps}
use Rattle.mem_objects.specs.Memory.{Kept, store_of}
use Rattle.c_model.specs.Values.{Value}
use Rattle.run_values.specs.Kept.{IsOf}
use Rattle.run_values.specs.Views.{value_in}
use Rattle.run_layout.specs.declared.steps.Act.{Act}
use Rattle.run_layout.specs.declared.steps.Act.TheVariants as act
use Rattle.run_state.specs.declared.machine.Machine.{Machine}
use Rattle.run_state.specs.Stands.{Holds}
use Rattle.run_answers.specs.declared.outcome.Outcome.{Outcome}
use Rattle.run_answers.specs.declared.outcome.Outcome.TheVariants as outcome
use Rattle.run_answers.specs.declared.fault.Fault.{Fault}
use Rattle.run_answers.specs.Acts.{script_in}
use Rattle.run_answers.specs.Performs.{kept_room, store_in, ChangesOnly, Does, HoldsUpdate, TouchesMemory, TouchesValues}

-- ---- rooms
within : {A : Type 0} (xs : List A) (n : ℕ) (x : A) → slice_get xs n ≡ Some x → n < length xs
within [] n x e = absurd (cc)
within (y ∷ ys) zero x e = omega arith
within (y ∷ ys) (suc n) x e = (let k = within ys n x e in omega (arith, k))

at_last : {A : Type 0} (x : A) (xs : List A) → (z : A) × (slice_get (x ∷ xs) (length xs) ≡ Some z)
at_last x [] = (x, refl)
at_last x (y ∷ ys) = at_last y ys

-- where one room alone changes, and has a value if it is there, there are no fewer
pub no_fewer : {A : Type 0} (xs ys : List A) (at : ℕ) (x : A) → (at < length xs → slice_get ys at ≡ Some x)
    → ((j : ℕ) → j ≢ at → slice_get ys j ≡ slice_get xs j) → length xs ≤ length ys
no_fewer [] ys at x there others = omega arith
no_fewer {A} (z ∷ zs) ys at x there others = go (length zs == at) refl
  where
    go : (b : Bool) → (length zs == at) ≡ b → length (z ∷ zs) ≤ length ys
    go true e =
        let is : length zs ≡ at = grind (arith, nat_tests, e) in
        let k = within ys at x (there (omega (arith, is))) in
        omega (arith, is, k)
    go false e =
        let apart : length zs ≢ at = λ is. (let t : (length zs == at) ≡ true = grind (arith, nat_tests, is) in cc) in
        let last = at_last z zs in
        let k = within ys (length zs) last.0 (others (length zs) apart ∙ last.1) in
        omega (arith, k)

-- ---- acts that keep nothing beside
pub no_update : (old new : Machine) (node : ℕ) (a : Act) (v : Value) → kept_room a ≡ None → HoldsUpdate old new node a v
no_update old new node (act.Change c true ty place o room) v none = absurd (cc)
no_update old new node (act.Change c false ty place o room) v none = tt
no_update old new node (act.Load how ty place) v none = tt
no_update old new node (act.Convert c o) v none = tt
no_update old new node (act.Unary op o) v none = tt
no_update old new node (act.Binary op kind a b) v none = tt
no_update old new node (act.Move size subtract p i) v none = tt
no_update old new node (act.Distance size a b) v none = tt
no_update old new node (act.Related op pointers a b) v none = tt
no_update old new node (act.Equal op a b) v none = tt
no_update old new node (act.Member offset p) v none = tt
no_update old new node (act.Part offset how o) v none = tt
no_update old new node (act.Same o) v none = tt
no_update old new node (act.Logical either a b) v none = tt
no_update old new node (act.Selected test a b) v none = tt
no_update old new node (act.Store n place value) v none = tt
no_update old new node (act.Call n) v none = tt
no_update old new node (act.Answer discarded) v none = tt
no_update old new node (act.Initialize n) v none = tt
no_update old new node act.Nothing v none = tt
no_update old new node (act.Fill object n) v none = tt

-- ---- nothing but memory changes
pub touches_all : (old new : Machine) (node : ℕ) (a : Act) → TouchesMemory old new → ChangesOnly old new node a
touches_all old new node a e = record {
  rest = subst (λ (k : Machine). TouchesValues old k) (sym e) refl;
  others = λ j apart away. ap (λ (k : Machine). slice_get k.values.items j) e;
  count = (let c = ap (λ (k : Machine). length k.values.items) e in omega (arith, c));
}

-- ---- a room has its value
module _ (m : Machine) (k : Kept) (t spare : List Item) (new : Machine) (node : ℕ) (h : Kept_value)
    (rest : new ≡ record m { memory = k; items = t; spare = spare; values = new.values })
    (room : m.top.base + node < length m.values.items → slice_get new.values.items (m.top.base + node) ≡ Some h)
    (others : (j : ℕ) → j ≢ m.top.base + node → slice_get new.values.items j ≡ slice_get m.values.items j) where
  pub room_changes : (a : Act) → ChangesOnly m new node a
  room_changes a = record {
    rest = subst (λ (z : Machine). TouchesValues m z) (sym rest) refl;
    others = λ j apart away. others j apart;
    count = no_fewer m.values.items new.values.items (m.top.base + node) h room others;
  }

  -- a value that was made in the memory stands there
  pub room_holds : IsOf k h → m.top.base + node < length m.values.items → Holds new.memory new.values.items (m.top.base + node) (value_in k h)
  room_holds of lt =
      subst (λ (z : Kept). Holds z new.values.items (m.top.base + node) (value_in k h)) (sym (ap (λ (z : Machine). z.memory) rest)) (h, room lt, of, refl)

  -- the act is done
  pub room_done : (who : Event) (a : Act) → who.node ≡ node → kept_room a ≡ None
      → run m.memory.rows (script_in m.memory.rows m who a) (store_in m) ≡ Done (value_in k h) t (store_of k m.streams) → IsOf k h → Keeps m.memory k
      → Does m new who a (Ok outcome.Done)
  room_done who a own none did of keeps = (
    value_in k h,
    record {
      did = did ∙ ap (λ (z : Machine). Done (value_in k h) z.items (store_in z)) (sym rest);
      kept = subst (λ (z : Machine). Keeps m.memory z.memory) (sym rest) keeps;
      value = λ gives. subst (λ (n : ℕ). m.top.base + n < length m.values.items → Holds new.memory new.values.items (m.top.base + n) (value_in k h))
          (sym own) (room_holds of);
      update = no_update m new who.node a (value_in k h) none;
    },
  )

-- ---- streams that stay, whatever is answered
pub written_none : (old new : Machine) (r : Result Outcome Fault) → new.streams ≡ old.streams → OnErr r (new.streams ≡ old.streams)
written_none old new (Ok o) same = tt
written_none old new (Err x) same = same
