-- A script that comes to a value, in its parts; and none takes input away.
use Rattle.std.proofs.Common.{◌≡◌, Bool, true, false, List, [], ◌∷◌, if◌then◌else◌, refl, ap, ◌∙◌}
use Rattle.ub_base.specs.declared.clause.Clause.{Clause}
use Rattle.ub_base.specs.declared.names.Item.{Item}
use Rattle.addr_map.specs.declared.map.Row.{Row}
use Rattle.mem_spec.specs.Script.{Act, Answer, Done, Touch, Ask, Get, Put, Bear, Bury, Show, Find, Settle, Take, Print, answer, item_of, left, refused}
use Rattle.mem_spec.specs.Script.{refuses}
use Rattle.mem_spec.specs.Script.{Do, Exceed, Finish, Give, Misplace, Raise, Script, require, run, touched, ◌>>=◌, ◌>>◌}
use Rattle.mem_spec.specs.Store.{Store}
use Rattle.value_facts.proofs.Scripts.{refused_none, touched_done}

-- a touch that was made, and what came behind it
pub record Went {V : Type 0} (rows : List Row) (t : Touch) (k : Answer t → Script V) (s u : Store) (v : V) : Type 0 where
  pub made : refuses t s ≡ false
  pub items : List Item
  pub ran : run rows (k (answer rows t s)) (left t s) ≡ Done v items u

pub went : {V : Type 0} (rows : List Row) (t : Touch) (k : Answer t → Script V) (s u : Store) (v : V) (is : List Item)
    → run rows (Do t k) s ≡ Done v is u → Went rows t k s u v
went rows t k s u v is r = go (refuses t s) refl r
  where
    go : (b : Bool) → refuses t s ≡ b → (if b then refused t else touched (item_of t) (run rows (k (answer rows t s)) (left t s))) ≡ Done v is u
        → Went rows t k s u v
    go true e r = absurd (refused_none t v is u r)
    go false e r =
        let there = touched_done (item_of t) (run rows (k (answer rows t s)) (left t s)) v is u r in
        record { made = e; items = there.0; ran = there.1 }

-- the first part of a script, and the second one behind it
pub record Parted {A B : Type 0} (rows : List Row) (p : Script A) (k : A → Script B) (s u : Store) (v : B) : Type 0 where
  pub value : A
  pub items : List Item
  pub middle : Store
  pub rest : List Item
  pub first : run rows p s ≡ Done value items middle
  pub second : run rows (k value) middle ≡ Done v rest u

go_first : {A : Type 0} (rows : List Row) (t : Touch) (f : Answer t → Script A) (s w : Store) (a : A) (js : List Item) → refuses t s ≡ false
    → run rows (f (answer rows t s)) (left t s) ≡ Done a js w → run rows (Do t f) s ≡ Done a (item_of t ∷ js) w
go_first {A = A} rows t f s w a js made ran =
    ap (λ b. if◌then◌else◌ {A = Act A} b (refused t) (touched (item_of t) (run rows (f (answer rows t s)) (left t s)))) made
    ∙ ap (λ (x : Act A). touched (item_of t) x) ran

pub parted : {A B : Type 0} (rows : List Row) (p : Script A) (k : A → Script B) (s u : Store) (v : B) (is : List Item)
    → run rows (p >>= k) s ≡ Done v is u → Parted rows p k s u v
parted rows (Give a) k s u v is r = record { value = a; items = []; middle = s; rest = is; first = refl; second = r }
parted rows (Raise c) k s u v is r = absurd (cc (r))
parted rows (Finish n) k s u v is r = absurd (cc (r))
parted rows (Exceed c n) k s u v is r = absurd (cc (r))
parted rows Misplace k s u v is r = absurd (cc (r))
parted rows (Do t f) k s u v is r =
    let g = went rows t (λ a. f a >>= k) s u v is r in
    let h = parted rows (f (answer rows t s)) k (left t s) u v g.items g.ran in
    record {
      value = h.value;
      items = item_of t ∷ h.items;
      middle = h.middle;
      rest = h.rest;
      first = go_first rows t f s h.middle h.value h.items g.made h.first;
      second = h.second;
    }

pub required : {B : Type 0} (rows : List Row) (b : Bool) (c : Clause) (t : Script B) (s u : Store) (v : B) (is : List Item)
    → run rows (require b c >> t) s ≡ Done v is u → run rows t s ≡ Done v is u
required rows true c t s u v is r = r
required rows false c t s u v is r = absurd (cc (r))

pub given : {V : Type 0} (rows : List Row) (w v : V) (s u : Store) (is : List Item) → run rows (Give w) s ≡ Done v is u → (w ≡ v) × (s ≡ u)
given rows w v s u is r = (cc (r), cc (r))

-- no touch changes what there is to take
left_input : (t : Touch) (s : Store) → (left t s).input ≡ s.input
left_input (Ask x) s = refl
left_input (Get x a n) s = refl
left_input (Put x a bs) s = refl
left_input (Bear x size kind declared) s = refl
left_input (Bury x) s = refl
left_input (Show x) s = refl
left_input (Find a) s = refl
left_input (Settle id x c) s = refl
left_input Take s = refl
left_input (Print to bs) s = refl

pub same_input : {V : Type 0} (rows : List Row) (p : Script V) (s u : Store) (v : V) (is : List Item) → run rows p s ≡ Done v is u → u.input ≡ s.input
same_input rows (Give a) s u v is r = let same : u ≡ s = cc (r) in ap (λ (z : Store). z.input) same
same_input rows (Raise c) s u v is r = absurd (cc (r))
same_input rows (Finish n) s u v is r = absurd (cc (r))
same_input rows (Exceed c n) s u v is r = absurd (cc (r))
same_input rows Misplace s u v is r = absurd (cc (r))
same_input rows (Do t f) s u v is r =
    let g = went rows t f s u v is r in
    same_input rows (f (answer rows t s)) (left t s) u v g.items g.ran ∙ left_input t s
