-- Scripts whose touches have certain items, one after the other.
use Rattle.std.proofs.Common.{◌≡◌, ℕ, suc, zero, Bool, true, false, ◌&&◌, if◌then◌else◌, List, [], ◌∷◌, Some, slice_get, refl, subst}
use Rattle.ub_base.specs.declared.clause.Clause.{Clause}
use Rattle.ub_base.specs.declared.names.Item.{Item}
use Rattle.addr_map.specs.declared.map.Row.{Row}
use Rattle.mem_spec.specs.Store.{Store}
use Rattle.mem_spec.specs.Script.{Touch, Ask, Get, Put, Bear, Bury, Show, Find, Settle, Take, Print, item_of, refuses, refused, answer, left}
use Rattle.mem_spec.specs.Script.{Script, Give, Raise, Finish, Exceed, Misplace, Do, ◌>>=◌, ◌>>◌, require}
use Rattle.mem_spec.specs.Script.{Act, Done, Raised, Ended, Outside, Unplaced, touched, run}
use Rattle.quiet_laws.specs.QuietEvents.{Suits}

pub bind : {A B : Type 0} → (p : Item → Bool) (x : Script A) (k : A → Script B) → Suits p x → ((v : A) → Suits p (k v)) → Suits p (x >>= k)
bind p (Give v) k h g = g v
bind p (Raise c) k h g = tt
bind p (Finish n) k h g = h
bind p (Exceed c n) k h g = tt
bind p Misplace k h g = tt
bind p (Do t f) k h g = (h.0, (λ a. bind p (f a) k (h.1 a) g))

pub when : {V : Type 0} → (p : Item → Bool) (b : Bool) (x y : Script V) → Suits p x → Suits p y → Suits p (if b then x else y)
when p true x y h k = h
when p false x y h k = k

pub need : {V : Type 0} → (p : Item → Bool) (b : Bool) (c : Clause) (t : Script V) → Suits p t → Suits p (require b c >> t)
need p true c t h = h
need p false c t h = tt

pub needs : (p : Item → Bool) (b : Bool) (c : Clause) → Suits p (require b c)
needs p true c = tt
needs p false c = tt

-- every item of a list
abbrev pub every : (Item → Bool) → List Item → Bool
every p [] = true
every p (i ∷ is) = p i && every p is

pub one_of : (p : Item → Bool) (is : List Item) (n : ℕ) (i : Item) → every p is ≡ true → slice_get is n ≡ Some i → p i ≡ true
one_of p [] n i h e = absurd (cc)
one_of p (j ∷ js) zero i h e = let k : j ≡ i = cc in subst (λ z. p z ≡ true) k (left_of (p j) (every p js) h)
  where
    left_of : (a b : Bool) → (a && b) ≡ true → a ≡ true
    left_of true b h = refl
    left_of false b h = h
one_of p (j ∷ js) (suc n) i h e = one_of p js n i (right_of (p j) (every p js) h) e
  where
    right_of : (a b : Bool) → (a && b) ≡ true → b ≡ true
    right_of true b h = h
    right_of false b h = absurd (cc)

both : (a b : Bool) → a ≡ true → b ≡ true → (a && b) ≡ true
both true b h g = g
both false b h g = h

module _ {V : Type 0} where
  record Went (i : Item) (a : Act V) (v : V) (is : List Item) (s1 : Store) : Type 0 where
    rest : List Item
    items : i ∷ rest ≡ is
    done : a ≡ Done v rest s1

  not_done : (t : Touch) (v : V) (is : List Item) (s1 : Store) → refused t ≡ Done v is s1 → ⊥
  not_done (Settle id x c) v is s1 h = absurd (cc)
  not_done (Ask x) v is s1 h = absurd (cc)
  not_done (Get x a n) v is s1 h = absurd (cc)
  not_done (Put x a bs) v is s1 h = absurd (cc)
  not_done (Bear x size kind declared) v is s1 h = absurd (cc)
  not_done (Bury x) v is s1 h = absurd (cc)
  not_done (Show x) v is s1 h = absurd (cc)
  not_done (Find a) v is s1 h = absurd (cc)
  not_done Take v is s1 h = absurd (cc)
  not_done (Print to bs) v is s1 h = absurd (cc)

  went : (b : Bool) (t : Touch) (i : Item) (a : Act V) (v : V) (is : List Item) (s1 : Store) → (if b then refused t else touched i a) ≡ Done v is s1 →
      Went i a v is s1
  went true t i a v is s1 h = absurd (not_done t v is s1 h)
  went false t i (Done w js s2) v is s1 h = record { rest = js; items = cc; done = (let e : w ≡ v = cc in let f : s2 ≡ s1 = cc in cc) }
  went false t i (Raised c) v is s1 h = absurd (cc)
  went false t i (Ended n js s2) v is s1 h = absurd (cc)
  went false t i (Outside c n) v is s1 h = absurd (cc)
  went false t i Unplaced v is s1 h = absurd (cc)

  pub all_run : (p : Item → Bool) (rows : List Row) (x : Script V) (s : Store) (v : V) (is : List Item) (s1 : Store) → Suits p x →
      run rows x s ≡ Done v is s1 → every p is ≡ true
  all_run p rows (Give w) s v is s1 h e = let k : [] ≡ is = cc in subst (λ z. every p z ≡ true) k refl
  all_run p rows (Raise c) s v is s1 h e = absurd (cc)
  all_run p rows (Finish n) s v is s1 h e = absurd h
  all_run p rows (Exceed c n) s v is s1 h e = absurd (cc)
  all_run p rows Misplace s v is s1 h e = absurd (cc)
  all_run p rows (Do t k) s v is s1 h e =
      let w = went (refuses t s) t (item_of t) (run rows (k (answer rows t s)) (left t s)) v is s1 e in
      subst (λ z. every p z ≡ true) w.items (both (p (item_of t)) (every p w.rest) h.0
      (all_run p rows (k (answer rows t s)) (left t s) v w.rest s1 (h.1 (answer rows t s)) w.done))
