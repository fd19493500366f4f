-- What a script gives is small, and leaves small bytes, where it meets small bytes.
use Rattle.std.proofs.Common.{arith, ◌≡◌, ◌+◌, ◌-◌, ℕ, zero, suc, Bool, true, false, ◌&&◌, if◌then◌else◌}
use Rattle.std.proofs.Common.{List, [], ◌∷◌, length, refl, subst}
use Rattle.std.specs.Prelude.{nat_le, nat_lt, slice_index_or}
use Rattle.std.specs.List.{All}
use Rattle.std.proofs.lemmas.List.Elements.{All-nil, All-cons, All-head, All-tail}
use Rattle.ub_base.specs.declared.clause.Clause.{Clause}
use Rattle.ub_base.specs.declared.names.Item.{Item}
use Rattle.ub_base.specs.Names.{same_object}
use Rattle.addr_map.specs.declared.map.Row.{Row}
use Rattle.mem_spec.specs.Script.{Script, Give, Raise, Finish, Exceed, Misplace, Do, Touch, Ask, Get, Put, Bear, Bury, Show, Find, Settle, Take, Print}
use Rattle.mem_spec.specs.Script.{Act, Done, Raised, Ended, Outside, Unplaced, Answer, answer, item_of, left, refused, refuses, run, touched, ◌>>=◌, ◌>>◌}
use Rattle.mem_spec.specs.Script.{require}
use Rattle.mem_spec.specs.Store.{Store, TaggedByte, fresh, range_from}
use Rattle.value_facts.specs.Small.{HasSmallBytes, IsSmallByte}

-- ---- scripts
-- what is put is small
abbrev pub Puts : Touch → Type 0
Puts (Put x a bs) = All IsSmallByte bs
Puts t = Unit {0}

-- what is got is
abbrev pub Gets : (t : Touch) → Answer t → Type 0
Gets (Get x a n) bs = (length bs ≡ n) × All IsSmallByte bs
Gets t a = Unit {0}

-- what the script gives has this, and what it puts is small, where what it gets is
abbrev pub GivesSo : {V : Type 0} → (V → Type 0) → Script V → Type 0
GivesSo P (Give v) = P v
GivesSo P (Raise c) = Unit {0}
GivesSo P (Finish n) = Unit {0}
GivesSo P (Exceed c n) = Unit {0}
GivesSo P Misplace = Unit {0}
GivesSo P (Do t k) = Puts t × ((a : Answer t) → Gets t a → GivesSo P (k a))

pub then_so : {A B : Type 0} (P : A → Type 0) (Q : B → Type 0) (s : Script A) (k : A → Script B) → GivesSo P s → ((a : A) → P a → GivesSo Q (k a))
    → GivesSo Q (s >>= k)
then_so P Q (Give v) k h g = g v h
then_so P Q (Raise c) k h g = tt
then_so P Q (Finish n) k h g = tt
then_so P Q (Exceed c n) k h g = tt
then_so P Q Misplace k h g = tt
then_so P Q (Do t f) k h g = (h.0, λ a small. then_so P Q (f a) k (h.1 a small) g)

abbrev pub Any : {A : Type 0} → A → Type 0
Any a = Unit {0}

pub after_so : {A B : Type 0} (Q : B → Type 0) (s : Script A) (t : Script B) → GivesSo Any s → GivesSo Q t → GivesSo Q (s >> t)
after_so Q s t h g = then_so Any Q s (λ v. t) h (λ v any. g)

pub require_so : (b : Bool) (c : Clause) → GivesSo Any (require b c)
require_so true c = tt
require_so false c = tt

-- ---- stores
range_small : (f : ℕ → TaggedByte) → ((i : ℕ) → IsSmallByte (f i)) → (a n : ℕ) → (length (range_from f a n) ≡ n) × All IsSmallByte (range_from f a n)
range_small f small a zero = (refl, All-nil IsSmallByte)
range_small f small a (suc n) =
    let rest = range_small f small (suc a) n in
    let l = rest.0 in
    (omega (arith, l), All-cons IsSmallByte (f a) (range_from f (suc a) n) (small a) rest.1)

answer_small : (rows : List Row) (t : Touch) (s : Store) → HasSmallBytes s → Gets t (answer rows t s)
answer_small rows (Get x a n) s small = range_small (s.bytes x) (small x) a n
answer_small rows (Ask x) s small = tt
answer_small rows (Put x a bs) s small = tt
answer_small rows (Bear x size kind declared) s small = tt
answer_small rows (Bury x) s small = tt
answer_small rows (Show x) s small = tt
answer_small rows (Find a) s small = tt
answer_small rows (Settle id x c) s small = tt
answer_small rows Take s small = tt
answer_small rows (Print to bs) s small = tt

index_small : (bs : List TaggedByte) (i : ℕ) → All IsSmallByte bs → IsSmallByte (slice_index_or bs i fresh)
index_small [] i h = omega arith
index_small (b ∷ bs) zero h = All-head IsSmallByte b bs h
index_small (b ∷ bs) (suc i) h = index_small bs i (All-tail IsSmallByte b bs h)

pub either_small : (c : Bool) (a b : TaggedByte) → IsSmallByte a → IsSmallByte b → IsSmallByte (if c then a else b)
either_small true a b h k = h
either_small false a b h k = k

left_small : (t : Touch) (s : Store) → Puts t → HasSmallBytes s → HasSmallBytes (left t s)
left_small (Put x a bs) s put small y i =
    either_small (same_object x y && (nat_le a i && nat_lt i (a + length bs))) (slice_index_or bs (i - a) fresh) (s.bytes y i) (index_small bs (i - a) put)
    (small y i)
left_small (Bear x size kind declared) s put small y i = either_small (same_object x y) fresh (s.bytes y i) (omega arith) (small y i)
left_small (Bury x) s put small y i = either_small (same_object x y) fresh (s.bytes y i) (omega arith) (small y i)
left_small (Ask x) s put small y i = small y i
left_small (Get x a n) s put small y i = small y i
left_small (Show x) s put small y i = small y i
left_small (Find a) s put small y i = small y i
left_small (Settle id x c) s put small y i = small y i
left_small Take s put small y i = small y i
left_small (Print to bs) s put small y i = small y i

pub refused_none : {V : Type 0} (t : Touch) (v : V) (is : List Item) (s : Store) → refused t ≡ Done v is s → ⊥
refused_none (Settle id x c) v is s h = cc
refused_none (Ask x) v is s h = cc
refused_none (Get x a n) v is s h = cc
refused_none (Put x a bs) v is s h = cc
refused_none (Bear x size kind declared) v is s h = cc
refused_none (Bury x) v is s h = cc
refused_none (Show x) v is s h = cc
refused_none (Find a) v is s h = cc
refused_none Take v is s h = cc
refused_none (Print to bs) v is s h = cc

pub touched_done : {V : Type 0} (i : Item) (act : Act V) (v : V) (is : List Item) (s : Store) → touched i act ≡ Done v is s
    → (js : List Item) × (act ≡ Done v js s)
touched_done i (Done w js u) v is s h = (js, cc)
touched_done i (Raised c) v is s h = absurd (cc)
touched_done i (Ended n js u) v is s h = absurd (cc)
touched_done i (Outside c n) v is s h = absurd (cc)
touched_done i Unplaced v is s h = absurd (cc)

pub runs_so : {V : Type 0} (P : V → Type 0) (rows : List Row) (c : Script V) (s u : Store) (v : V) (is : List Item) → GivesSo P c → HasSmallBytes s
    → run rows c s ≡ Done v is u → P v × HasSmallBytes u
runs_so P rows (Give w) s u v is h small r =
    let value : w ≡ v = cc in
    let store : s ≡ u = cc in
    (subst P value h, subst HasSmallBytes store small)
runs_so P rows (Raise c) s u v is h small r = absurd (cc)
runs_so P rows (Finish n) s u v is h small r = absurd (cc)
runs_so P rows (Exceed c n) s u v is h small r = absurd (cc)
runs_so P rows Misplace s u v is h small r = absurd (cc)
runs_so P rows (Do t k) s u v is h small r =
    go (refuses t s) r (λ js on. runs_so P rows (k (answer rows t s)) (left t s) u v js (h.1 (answer rows t s) (answer_small rows t s small))
    (left_small t s h.0 small) on)
  where
    go : (b : Bool) → (if b then refused t else touched (item_of t) (run rows (k (answer rows t s)) (left t s))) ≡ Done v is u
        → ((js : List Item) → run rows (k (answer rows t s)) (left t s) ≡ Done v js u → P v × HasSmallBytes u) → P v × HasSmallBytes u
    go true r on = absurd (refused_none t v is u r)
    go false r on = let there = touched_done (item_of t) (run rows (k (answer rows t s)) (left t s)) v is u r in on there.0 there.1
