-- What scripts do one after the other.
use Rattle.std.proofs.Common.{◌≡◌, Bool, true, false, cond, List, [], ◌∷◌, ◌++◌, refl, ap, sym, ◌∙◌}
use Rattle.ub_base.specs.declared.names.Item.{Item}
use Rattle.addr_map.specs.declared.map.Row.{Row}
use Rattle.mem_spec.specs.Store.{Store}
use Rattle.mem_spec.specs.Script.{
  Touch,
  Ask,
  Get,
  Put,
  Bear,
  Bury,
  Show,
  Find,
  Settle,
  Take,
  Print,
  item_of,
  refuses,
  refused,
  answer,
  left,
  Script,
  Give,
  Raise,
  Finish,
  Exceed,
  Misplace,
  Do,
  ◌>>=◌,
  Act,
  Done,
  Raised,
  Ended,
  Outside,
  Unplaced,
  touched,
  run,
}

-- an act behind these items
abbrev pub behind : {V : Type 0} → List Item → Act V → Act V
behind [] act = act
behind (i ∷ is) act = touched i (behind is act)

-- an act, and then one that goes on from its value and its store
abbrev pub then : {A B : Type 0} → Act A → (A → Store → Act B) → Act B
then (Done v is s) k = behind is (k v s)
then (Raised c) k = Raised c
then (Ended n is s) k = Ended n is s
then (Outside c n) k = Outside c n
then Unplaced k = Unplaced

refused_then : {A B : Type 0} (t : Touch) (k : A → Store → Act B) → refused {V = B} t ≡ then (refused {V = A} t) k
refused_then (Settle id x c) k = refl
refused_then (Ask x) k = refl
refused_then (Get x a n) k = refl
refused_then (Put x a bs) k = refl
refused_then (Bear x n kind declared) k = refl
refused_then (Bury x) k = refl
refused_then (Show x) k = refl
refused_then (Find a) k = refl
refused_then Take k = refl
refused_then (Print to bs) k = refl

touched_then : {A B : Type 0} (i : Item) (act : Act A) (k : A → Store → Act B) → touched i (then act k) ≡ then (touched i act) k
touched_then i (Done v is s) k = refl
touched_then i (Raised c) k = refl
touched_then i (Ended n is s) k = refl
touched_then i (Outside c n) k = refl
touched_then i Unplaced k = refl

step_then : {A B : Type 0} (r : Bool) (t : Touch) (i : Item) (k : A → Store → Act B) (a : Act A) (b : Act B) → b ≡ then a k →
    cond r (refused {V = B} t) (touched i b) ≡ then (cond r (refused {V = A} t) (touched i a)) k
step_then true t i k a b e = refused_then t k
step_then false t i k a b e = ap (touched i) e ∙ touched_then i a k

-- a script, and then one that goes on from its value
pub run_then : {A B : Type 0} (rows : List Row) (p : Script A) (k : A → Script B) (s : Store) →
    run rows (p >>= k) s ≡ then (run rows p s) (λ v u. run rows (k v) u)
run_then rows (Give v) k s = refl
run_then rows (Raise c) k s = refl
run_then rows (Finish n) k s = refl
run_then rows (Exceed c n) k s = refl
run_then rows Misplace k s = refl
run_then rows (Do t g) k s =
    step_then (refuses t s) t (item_of t) (λ v u. run rows (k v) u) (run rows (g (answer rows t s)) (left t s))
    (run rows (g (answer rows t s) >>= k) (left t s))
    (run_then rows (g (answer rows t s)) k (left t s))

pub behind_done : {V : Type 0} (is js : List Item) (v : V) (s : Store) → behind is (Done v js s) ≡ Done v (is ++ js) s
behind_done [] js v s = refl
behind_done (i ∷ is) js v s = ap (touched i) (behind_done is js v s)

-- a script, and then either of two that do the same
then_same : {A B : Type 0} (act : Act A) (k j : A → Store → Act B) → ((v : A) (u : Store) → k v u ≡ j v u) → then act k ≡ then act j
then_same (Done v is s) k j h = ap (behind is) (h v s)
then_same (Raised c) k j h = refl
then_same (Ended n is s) k j h = refl
then_same (Outside c n) k j h = refl
then_same Unplaced k j h = refl

pub run_same : {A B : Type 0} (rows : List Row) (p : Script A) (k j : A → Script B) (s : Store) →
    ((v : A) (u : Store) → run rows (k v) u ≡ run rows (j v) u) → run rows (p >>= k) s ≡ run rows (p >>= j) s
run_same rows p k j s h = run_then rows p k s ∙ then_same (run rows p s) (λ v u. run rows (k v) u) (λ v u. run rows (j v) u) h ∙ sym (run_then rows p j s)

pub run_twice : {A B C : Type 0} (rows : List Row) (p : Script A) (k : A → Script B) (j : B → Script C) (s : Store) →
    run rows ((p >>= k) >>= j) s ≡ run rows (p >>= (λ v. k v >>= j)) s
run_twice rows (Give v) k j s = refl
run_twice rows (Raise c) k j s = refl
run_twice rows (Finish n) k j s = refl
run_twice rows (Exceed c n) k j s = refl
run_twice rows Misplace k j s = refl
run_twice {C = C} rows (Do t g) k j s = ap (λ (act : Act C). cond (refuses t s) (refused t) (touched (item_of t) act))
    (run_twice rows (g (answer rows t s)) k j (left t s))
