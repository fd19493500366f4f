-- What holds of each touch that a script can make, and of the value that it gives.
use Rattle.std.proofs.Common.{◌≡◌, Bool, true, false, if◌then◌else◌, List, [], ◌∷◌, refl}
use Rattle.ub_base.specs.declared.clause.Clause.{Clause}
use Rattle.ub_base.specs.declared.names.Item.{Item}
use Rattle.ub_base.specs.declared.names.Item.TheVariants.{Read, Write, Ending}
use Rattle.addr_map.specs.declared.map.Row.{Row}
use Rattle.mem_spec.specs.Store.{Store}
use Rattle.mem_spec.specs.Script.{Touch, Ask, Get, Put, Bear, Bury, Show, Find, Settle, Take, Print, item_of, refuses, refused, answer, left, Answer}
use Rattle.mem_spec.specs.Script.{Script, Give, Raise, Finish, Exceed, Misplace, Do, Act, Done, Raised, Ended, Outside, Unplaced, touched, run}
use Rattle.mem_spec.specs.Script.{◌>>=◌, ◌>>◌, require}

abbrev pub Post : {V : Type 0} → (Item → Type 0) → (V → Type 0) → Script V → Type 0
Post P Q (Give v) = Q v
Post P Q (Do t k) = P (item_of t) × ((r : Answer t) → Post P Q (k r))
Post P Q _ = Unit {0}

abbrev pub Anything : {V : Type 0} → V → Type 0
Anything v = Unit {0}

-- no access of the store
abbrev pub NoAccess : Item → Type 0
NoAccess (Read x a n) = ⊥
NoAccess (Write x a n) = ⊥
NoAccess i = Unit {0}

abbrev pub Each : (Item → Type 0) → List Item → Type 0
Each P [] = Unit {0}
Each P (i ∷ is) = P i × Each P is

pub bind : {A B : Type 0} → (P : Item → Type 0) (Q : A → Type 0) (R : B → Type 0) (x : Script A) (k : A → Script B) → Post P Q x
    → ((v : A) → Q v → Post P R (k v)) → Post P R (x >>= k)
bind P Q R (Give v) k h g = g v h
bind P Q R (Raise c) k h g = tt
bind P Q R (Finish n) k h g = tt
bind P Q R (Exceed c n) k h g = tt
bind P Q R Misplace k h g = tt
bind P Q R (Do t f) k (h, hf) g = (h, λ r. bind P Q R (f r) k (hf r) g)

pub go_on : {A B : Type 0} → (P : Item → Type 0) (R : B → Type 0) (x : Script A) (k : A → Script B) → Post P Anything x → ((v : A) → Post P R (k v))
    → Post P R (x >>= k)
go_on P R x k h g = bind P Anything R x k h (λ v q. g v)

pub weaken : {V : Type 0} → (P R : Item → Type 0) (Q : V → Type 0) (x : Script V) → ((i : Item) → P i → R i) → Post P Q x → Post R Q x
weaken P R Q (Give v) f h = h
weaken P R Q (Raise c) f h = tt
weaken P R Q (Finish n) f h = tt
weaken P R Q (Exceed c n) f h = tt
weaken P R Q Misplace f h = tt
weaken P R Q (Do t k) f (h, hk) = (f (item_of t) h, λ r. weaken P R Q (k r) f (hk r))

pub post_map : {V : Type 0} → (P : Item → Type 0) (Q R : V → Type 0) (x : Script V) → ((v : V) → Q v → R v) → Post P Q x → Post P R x
post_map P Q R (Give v) f h = f v h
post_map P Q R (Raise c) f h = tt
post_map P Q R (Finish n) f h = tt
post_map P Q R (Exceed c n) f h = tt
post_map P Q R Misplace f h = tt
post_map P Q R (Do t k) f (h, hk) = (h, λ r. post_map P Q R (k r) f (hk r))

pub need : {V : Type 0} → (P : Item → Type 0) (Q : V → Type 0) (b : Bool) (c : Clause) (t : Script V) → (b ≡ true → Post P Q t) → Post P Q (require b c >> t)
need P Q true c t h = h refl
need P Q false c t h = tt

pub needs : (P : Item → Type 0) (b : Bool) (c : Clause) → Post P Anything (require b c)
needs P true c = tt
needs P false c = tt

pub when : {V : Type 0} → (P : Item → Type 0) (Q : V → Type 0) (b : Bool) (x y : Script V) → Post P Q x → Post P Q y → Post P Q (if b then x else y)
when P Q true x y h k = h
when P Q false x y h k = k

-- so it holds of the items of an act
abbrev pub ActOk : {V : Type 0} → (Item → Type 0) → (V → Type 0) → Act V → Type 0
ActOk P Q (Done v is s) = Each P is × Q v
ActOk P Q (Ended n is s) = Each P is
ActOk P Q a = Unit {0}

module _ {V : Type 0} (rows : List Row) (P : Item → Type 0) (Q : V → Type 0) (ending : P Ending) where
  touched_ok : (i : Item) (a : Act V) → P i → ActOk P Q a → ActOk P Q (touched i a)
  touched_ok i (Done v is s) p (es, q) = ((p, es), q)
  touched_ok i (Ended n is s) p es = (p, es)
  touched_ok i (Raised c) p es = tt
  touched_ok i (Outside c n) p es = tt
  touched_ok i Unplaced p es = tt

  refused_ok : (t : Touch) → ActOk P Q (refused t)
  refused_ok (Ask x) = tt
  refused_ok (Get x a n) = tt
  refused_ok (Put x a bs) = tt
  refused_ok (Bear x size kind declared) = tt
  refused_ok (Bury x) = tt
  refused_ok (Show x) = tt
  refused_ok (Find a) = tt
  refused_ok (Settle id x c) = tt
  refused_ok Take = tt
  refused_ok (Print to bs) = tt

  pub run_ok : (x : Script V) (s : Store) → Post P Q x → ActOk P Q (run rows x s)
  run_ok (Give v) s h = (tt, h)
  run_ok (Raise c) s h = tt
  run_ok (Finish n) s h = (ending, tt)
  run_ok (Exceed c n) s h = tt
  run_ok Misplace s h = tt
  run_ok (Do t k) s (h, hk) = go (refuses t s) (run_ok (k (answer rows t s)) (left t s) (hk (answer rows t s)))
    where
      go : (b : Bool) → ActOk P Q (run rows (k (answer rows t s)) (left t s))
          → ActOk P Q (if b then refused t else touched (item_of t) (run rows (k (answer rows t s)) (left t s)))
      go true r = refused_ok t
      go false r = touched_ok (item_of t) _ h r
