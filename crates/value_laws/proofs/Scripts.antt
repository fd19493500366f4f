-- What scripts give.
use Rattle.std.proofs.Common.{◌≡◌, Bool, true, false, if◌then◌else◌, List, map, refl}
use Rattle.ub_base.specs.declared.clause.Clause.{Clause}
use Rattle.ub_base.specs.declared.names.Item.{Item}
use Rattle.addr_map.specs.declared.map.Row.{Row}
use Rattle.mem_spec.specs.Store.{Store}
use Rattle.mem_spec.specs.Script.{Touch, Ask, Get, Put, Bear, Bury, Show, Find, Settle, Take, Print, item_of, refuses, refused, answer, left}
use Rattle.mem_spec.specs.Script.{Script, Give, Raise, Finish, Exceed, Misplace, Do, Act, Done, Raised, Ended, Outside, Unplaced, touched, run}
use Rattle.mem_spec.specs.Script.{◌>>=◌, ◌>>◌, require}
use Rattle.libc_spec.specs.Library.{LibValue, number, pointer, nothing}
use Rattle.c_model.specs.Libraries.{result, script, passed}
use Rattle.value_laws.specs.Sizes.{Gives, IsPlain}
use Rattle.value_laws.specs.Wholes.{LibraryGivesPlain}

abbrev pub Anything : {V : Type 0} → V → Type 0
Anything v = Unit {0}

module _ (rows : List Row) where
  pub anything : {V : Type 0} → (x : Script V) → Gives rows Anything x
  anything (Give v) = tt
  anything (Raise c) = tt
  anything (Finish n) = tt
  anything (Exceed c n) = tt
  anything Misplace = tt
  anything (Do t k) = λ s. anything (k (answer rows t s))

  pub bind : {A B : Type 0} → (Q : A → Type 0) (R : B → Type 0) (x : Script A) (k : A → Script B) → Gives rows Q x
      → ((v : A) → Q v → Gives rows R (k v)) → Gives rows R (x >>= k)
  bind Q R (Give v) k h g = g v h
  bind Q R (Raise c) k h g = tt
  bind Q R (Finish n) k h g = tt
  bind Q R (Exceed c n) k h g = tt
  bind Q R Misplace k h g = tt
  bind Q R (Do t f) k h g = λ s. bind Q R (f (answer rows t s)) k (h s) g

  pub go_on : {A B : Type 0} → (R : B → Type 0) (x : Script A) (k : A → Script B) → ((v : A) → Gives rows R (k v)) → Gives rows R (x >>= k)
  go_on R x k g = bind Anything R x k (anything x) (λ v q. g v)

  pub gives_map : {V : Type 0} → (Q R : V → Type 0) (x : Script V) → ((v : V) → Q v → R v) → Gives rows Q x → Gives rows R x
  gives_map Q R (Give v) f h = f v h
  gives_map Q R (Raise c) f h = tt
  gives_map Q R (Finish n) f h = tt
  gives_map Q R (Exceed c n) f h = tt
  gives_map Q R Misplace f h = tt
  gives_map Q R (Do t k) f h = λ s. gives_map Q R (k (answer rows t s)) f (h s)

  pub need : {V : Type 0} → (Q : V → Type 0) (b : Bool) (c : Clause) (x : Script V) → (b ≡ true → Gives rows Q x) → Gives rows Q (require b c >> x)
  need Q true c x h = h refl
  need Q false c x h = tt

  pub when : {V : Type 0} → (Q : V → Type 0) (b : Bool) (x y : Script V) → Gives rows Q x → Gives rows Q y → Gives rows Q (if b then x else y)
  when Q true x y h k = h
  when Q false x y h k = k

  -- so is what an act gave
  abbrev pub Gave : {V : Type 0} → (V → Type 0) → Act V → Type 0
  Gave Q (Done v is s) = Q v
  Gave Q a = Unit {0}

  module _ {V : Type 0} (Q : V → Type 0) where
    touched_gave : (i : Item) (a : Act V) → Gave Q a → Gave Q (touched i a)
    touched_gave i (Done v is s) h = h
    touched_gave i (Ended n is s) h = tt
    touched_gave i (Raised c) h = tt
    touched_gave i (Outside c n) h = tt
    touched_gave i Unplaced h = tt

    refused_gave : (t : Touch) → Gave Q (refused t)
    refused_gave (Ask x) = tt
    refused_gave (Get x a n) = tt
    refused_gave (Put x a bs) = tt
    refused_gave (Bear x size kind declared) = tt
    refused_gave (Bury x) = tt
    refused_gave (Show x) = tt
    refused_gave (Find a) = tt
    refused_gave (Settle id x c) = tt
    refused_gave Take = tt
    refused_gave (Print to bs) = tt

    pub run_gave : (x : Script V) (s : Store) → Gives rows Q x → Gave Q (run rows x s)
    run_gave (Give v) s h = h
    run_gave (Raise c) s h = tt
    run_gave (Finish n) s h = tt
    run_gave (Exceed c n) s h = tt
    run_gave Misplace s h = tt
    run_gave (Do t k) s h = go (refuses t s) (run_gave (k (answer rows t s)) (left t s) (h s))
      where
        go : (b : Bool) → Gave Q (run rows (k (answer rows t s)) (left t s))
            → Gave Q (if b then refused t else touched (item_of t) (run rows (k (answer rows t s)) (left t s)))
        go true r = refused_gave t
        go false r = touched_gave (item_of t) _ r

plain_result : (v : LibValue) → IsPlain (result v)
plain_result (number n) = tt
plain_result (pointer a p) = tt
plain_result nothing = tt

pub library_plain : LibraryGivesPlain
library_plain rows f who ts vs = go_on rows IsPlain (script rows f who ts (map passed vs)) (λ v. Give (result v)) plain_result
