-- Stores of plain bytes side by side are one store.
use Rattle.std.proofs.Common.{
  ◌≡◌,
  ℕ,
  zero,
  suc,
  ◌+◌,
  ◌-◌,
  ◌%◌,
  ◌<◌,
  ◌≤◌,
  Bool,
  true,
  false,
  cond,
  ◌&&◌,
  refl,
  sym,
  ap,
  ◌∙◌,
  subst,
  arith,
  List,
  [],
  ◌∷◌,
  ◌++◌,
  length,
  map,
  Option,
  Some,
  None,
}
use Rattle.std.specs.Prelude.{nat_lt, nat_le, slice_index_or, ◌==◌}
use Rattle.std.proofs.lemmas.Bool.Decides.{nat_tests}
use Rattle.std.proofs.lemmas.List.{length-append}
use Rattle.ub_base.specs.declared.clause.Clause.TheVariants.{InvalidPointer, DeadObject, OutOfBounds}
use Rattle.ub_base.specs.declared.names.Item.{Item}
use Rattle.ub_base.specs.declared.names.Item.TheVariants.{Write, Alive}
use Rattle.ub_base.specs.declared.names.ObjName.{ObjName}
use Rattle.ub_base.specs.Names.{same_object}
use Rattle.addr_map.specs.declared.map.Row.{Row}
use Rattle.addr_map.specs.Rows.{row_of}
use Rattle.exposure.specs.declared.prov.Prov.TheVariants.{Whole}
use Rattle.c_types.specs.Shapes.{Form}
use Rattle.mem_spec.specs.Store.{Store, TaggedByte, written, fresh, is_live, with_bytes}
use Rattle.mem_spec.specs.Script.{Act, Done, Raised, run}
use Rattle.mem_spec.specs.Acts.{store, bytes, in_row, offset_in, stored_from, declared_of}
use Rattle.mem_spec.specs.Bytes.{number_bytes}
use Rattle.mem_objects.specs.Keeps.{RowsStay}

-- ---- the bytes of two ranges side by side
index_first : (bs cs : List TaggedByte) (k : ℕ) → k < length bs → slice_index_or (bs ++ cs) k fresh ≡ slice_index_or bs k fresh
index_first [] cs k h = absurd (omega arith)
index_first (b ∷ bs) cs zero h = refl
index_first (b ∷ bs) cs (suc k) h = index_first bs cs k (omega arith)

index_second : (bs cs : List TaggedByte) (k j : ℕ) → k ≡ length bs + j → slice_index_or (bs ++ cs) k fresh ≡ slice_index_or cs j fresh
index_second [] cs k j e =
    let same : k ≡ j = omega (arith, e) in
    ap (λ (i : ℕ). slice_index_or cs i fresh) same
index_second (b ∷ bs) cs zero j e = absurd (omega (arith, e))
index_second (b ∷ bs) cs (suc k) j e = index_second bs cs k j (omega (arith, e))

at_first : (bs cs : List TaggedByte) (a b : ℕ) → a ≤ b → b < a + length bs → slice_index_or bs (b - a) fresh ≡ slice_index_or (bs ++ cs) (b - a) fresh
at_first bs cs a b low high = sym (index_first bs cs (b - a) (omega arith))

at_second : (bs cs : List TaggedByte) (a b : ℕ) → a + length bs ≤ b →
    slice_index_or cs (b - (a + length bs)) fresh ≡ slice_index_or (bs ++ cs) (b - a) fresh
at_second bs cs a b low = sym (index_second bs cs (b - a) (b - (a + length bs)) (omega (arith, low)))

le_of : (n b : ℕ) → nat_le n b ≡ true → n ≤ b
le_of n b h = grind (arith, nat_tests, h)

lt_of : (n b : ℕ) → nat_lt b n ≡ true → b < n
lt_of n b h = grind (arith, nat_tests, h)

not_le : (n b : ℕ) → nat_le n b ≡ false → b < n
not_le n b h = grind (arith, nat_tests, h)

is_le : (n b : ℕ) → n ≤ b → nat_le n b ≡ true
is_le n b h = grind (arith, nat_tests, h)

is_lt : (n b : ℕ) → b < n → nat_lt b n ≡ true
is_lt n b h = grind (arith, nat_tests, h)

is_not_lt : (n b : ℕ) → n ≤ b → nat_lt b n ≡ false
is_not_lt n b h = grind (arith, nat_tests, h)

inner : (low : Bool) (bs cs : List TaggedByte) (a b : ℕ) (old : TaggedByte) → nat_le a b ≡ low → b < a + length bs →
    cond (low && true) (slice_index_or bs (b - a) fresh) old ≡ cond (low && true) (slice_index_or (bs ++ cs) (b - a) fresh) old
inner true bs cs a b old e high = at_first bs cs a b (le_of a b e) high
inner false bs cs a b old e high = refl

outer : (high : Bool) (bs cs : List TaggedByte) (a b : ℕ) (old : TaggedByte) → a + length bs ≤ b →
    cond high (slice_index_or cs (b - (a + length bs)) fresh) old ≡ cond high (slice_index_or (bs ++ cs) (b - a) fresh) old
outer true bs cs a b old low = at_second bs cs a b low
outer false bs cs a b old low = refl

both_split : (second : Bool) (bs cs : List TaggedByte) (a b : ℕ) (old : TaggedByte) → nat_le (a + length bs) b ≡ second →
    cond (nat_le (a + length bs) b && nat_lt b (a + length bs + length cs)) (slice_index_or cs (b - (a + length bs)) fresh)
    (cond (nat_le a b && nat_lt b (a + length bs)) (slice_index_or bs (b - a) fresh) old)
    ≡ cond (nat_le a b && nat_lt b (a + length (bs ++ cs))) (slice_index_or (bs ++ cs) (b - a) fresh) old
both_split true bs cs a b old e =
    let low : a + length bs ≤ b = le_of (a + length bs) b e in
    let first : nat_le a b ≡ true = is_le a b (omega arith) in
    let behind : nat_lt b (a + length bs) ≡ false = is_not_lt (a + length bs) b low in
    let len : a + length (bs ++ cs) ≡ a + length bs + length cs = omega (arith, length-append bs cs) in
    rw (e, first, behind, len) (outer (nat_lt b (a + length bs + length cs)) bs cs a b old low)
both_split false bs cs a b old e =
    let high : b < a + length bs = not_le (a + length bs) b e in
    let inside : nat_lt b (a + length bs) ≡ true = is_lt (a + length bs) b high in
    let all : nat_lt b (a + length (bs ++ cs)) ≡ true = is_lt (a + length (bs ++ cs)) b (omega (arith, length-append bs cs)) in
    rw (e, inside, all) (inner (nat_le a b) bs cs a b old refl high)

both_of : (same : Bool) (bs cs : List TaggedByte) (a b : ℕ) (old : TaggedByte) →
    cond (same && (nat_le (a + length bs) b && nat_lt b (a + length bs + length cs))) (slice_index_or cs (b - (a + length bs)) fresh)
    (cond (same && (nat_le a b && nat_lt b (a + length bs))) (slice_index_or bs (b - a) fresh) old)
    ≡ cond (same && (nat_le a b && nat_lt b (a + length (bs ++ cs)))) (slice_index_or (bs ++ cs) (b - a) fresh) old
both_of true bs cs a b old = both_split (nat_le (a + length bs) b) bs cs a b old refl
both_of false bs cs a b old = refl

pub with_both : (s : Store) (x : ObjName) (a : ℕ) (bs cs : List TaggedByte) →
    with_bytes (with_bytes s x a bs) x (a + length bs) cs ≡ with_bytes s x a (bs ++ cs)
with_both s x a bs cs = λ i. record {
  life = λ y. s.life y;
  exposed = λ y. s.exposed y;
  bytes = λ y b. both_of (same_object x y) bs cs a b (s.bytes y b) i;
  kept = λ e. s.kept e;
  input = s.input;
  position = s.position;
  output = s.output;
  created = s.created;
}

-- ---- what a store of plain bytes leaves
abbrev pub untagged : TaggedByte → TaggedByte
untagged b = record { byte = b.byte; tag = None }

plain_stored : (declared : Option Form) (i : ℕ) (bs : List TaggedByte) → stored_from declared bytes i bs ≡ map untagged bs
plain_stored None i [] = refl
plain_stored (Some form) i [] = refl
plain_stored None i (b ∷ bs) = ap (λ (cs : List TaggedByte). untagged b ∷ cs) (plain_stored None (suc i) bs)
plain_stored (Some form) i (b ∷ bs) = ap (λ (cs : List TaggedByte). untagged b ∷ cs) (plain_stored (Some form) (suc i) bs)

map_both : (bs cs : List TaggedByte) → map untagged (bs ++ cs) ≡ map untagged bs ++ map untagged cs
map_both [] cs = refl
map_both (b ∷ bs) cs = ap (λ (ds : List TaggedByte). untagged b ∷ ds) (map_both bs cs)

map_length : (bs : List TaggedByte) → length (map untagged bs) ≡ length bs
map_length [] = refl
map_length (b ∷ bs) = ap suc (map_length bs)

remainder : (a : ℕ) → (a % 1 == 0) ≡ true
remainder a = grind arith

-- the checks of such a store, and what it does
abbrev pub checked : (null live inside : Bool) → ObjName → ℕ → List TaggedByte → Store → Act (Unit {0})
checked true live inside x from bs s = Raised InvalidPointer
checked false false inside x from bs s = Raised DeadObject
checked false true false x from bs s = Raised OutOfBounds
checked false true true x from bs s = Done tt (Alive x ∷ Write x from (length bs) ∷ []) (with_bytes s x from bs)

stored_as : (null live inside : Bool) (rows : List Row) (a : ℕ) (x : ObjName) (s : Store) (bs : List TaggedByte) → (a == 0) ≡ null →
    is_live (s.life x) ≡ live → in_row (row_of rows x) a (length bs) ≡ inside →
    run rows (store rows true bytes 1 a (Whole x) bs) s
    ≡ checked null live inside x (offset_in (row_of rows x) a) (stored_from (declared_of (s.life x)) bytes 0 bs) s
stored_as true live inside rows a x s bs n l r = rw n refl
stored_as false false inside rows a x s bs n l r = rw (n, l) refl
stored_as false true false rows a x s bs n l r = rw (n, l, r) refl
stored_as false true true rows a x s bs n l r = rw (n, l, r, remainder a) refl

abbrev pub store_act : Option Row → ℕ → ObjName → List TaggedByte → Store → Act (Unit {0})
store_act o a x bs s = checked (a == 0) (is_live (s.life x)) (in_row o a (length bs)) x (offset_in o a) (map untagged bs) s

pub stores_as : (rows : List Row) (a : ℕ) (x : ObjName) (s : Store) (bs : List TaggedByte) →
    run rows (store rows true bytes 1 a (Whole x) bs) s ≡ store_act (row_of rows x) a x bs s
stores_as rows a x s bs =
    stored_as (a == 0) (is_live (s.life x)) (in_row (row_of rows x) a (length bs)) rows a x s bs refl refl refl
    ∙ ap (λ (cs : List TaggedByte). checked (a == 0) (is_live (s.life x)) (in_row (row_of rows x) a (length bs)) x (offset_in (row_of rows x) a) cs s)
    (plain_stored (declared_of (s.life x)) 0 bs)

-- ---- what is known where it gave no clause
pub record Stored (o : Option Row) (a : ℕ) (x : ObjName) (bs : List TaggedByte) (s t : Store) : Type 0 where
  pub somewhere : (a == 0) ≡ false
  pub live : is_live (s.life x) ≡ true
  pub inside : in_row o a (length bs) ≡ true
  pub left : t ≡ with_bytes s x (offset_in o a) (map untagged bs)

abbrev store_in : Act (Unit {0}) → Store → Store
store_in (Done v is t) s = t
store_in _ s = s

did : (null live inside : Bool) (o : Option Row) (a : ℕ) (x : ObjName) (bs : List TaggedByte) (is : List Item) (s t : Store) → (a == 0) ≡ null →
    is_live (s.life x) ≡ live → in_row o a (length bs) ≡ inside →
    checked null live inside x (offset_in o a) (map untagged bs) s ≡ Done tt is t → Stored o a x bs s t
did true live inside o a x bs is s t n l r e = absurd (cc)
did false false inside o a x bs is s t n l r e = absurd (cc)
did false true false o a x bs is s t n l r e = absurd (cc)
did false true true o a x bs is s t n l r e =
    record { somewhere = n; live = l; inside = r; left = sym (ap (λ (d : Act (Unit {0})). store_in d s) e) }

pub stored : (rows : List Row) (a : ℕ) (x : ObjName) (bs : List TaggedByte) (is : List Item) (s t : Store) →
    run rows (store rows true bytes 1 a (Whole x) bs) s ≡ Done tt is t → Stored (row_of rows x) a x bs s t
stored rows a x bs is s t e =
    did (a == 0) (is_live (s.life x)) (in_row (row_of rows x) a (length bs)) (row_of rows x) a x bs is s t refl refl refl
    (sym (stores_as rows a x s bs) ∙ e)

pub does_store : (rows : List Row) (a : ℕ) (x : ObjName) (bs : List TaggedByte) (s t : Store) → Stored (row_of rows x) a x bs s t →
    (is : List Item) × (run rows (store rows true bytes 1 a (Whole x) bs) s ≡ Done tt is t)
does_store rows a x bs s t k = (
  Alive x ∷ Write x (offset_in (row_of rows x) a) (length (map untagged bs)) ∷ [],
  stores_as rows a x s bs ∙ rw (k.somewhere, k.live, k.inside, k.left) refl,
)

-- ---- under rows that stay
same_row : (o q : Option Row) (a : ℕ) (x : ObjName) (bs : List TaggedByte) (s t : Store) → ((r : Row) → o ≡ Some r → q ≡ Some r) →
    Stored o a x bs s t → Stored q a x bs s t
same_row None q a x bs s t stay k = absurd (cc)
same_row (Some r) q a x bs s t stay k = subst (λ (p : Option Row). Stored p a x bs s t) (sym (stay r refl)) k

pub stored_still : (old new : List Row) (a : ℕ) (x : ObjName) (bs : List TaggedByte) (s t : Store) → RowsStay old new →
    Stored (row_of old x) a x bs s t → Stored (row_of new x) a x bs s t
stored_still old new a x bs s t stay k = same_row (row_of old x) (row_of new x) a x bs s t (stay x) k

-- ---- one behind the other
in_both : (o : Option Row) (a n m k : ℕ) → in_row o a n ≡ true → in_row o (a + n) m ≡ true → k ≡ n + m → in_row o a k ≡ true
in_both None a n m k first second e = first
in_both (Some r) a n m k first second e = grind (arith, nat_tests, first, second, e)

offset_behind : (o : Option Row) (a n : ℕ) → in_row o a n ≡ true → offset_in o (a + n) ≡ offset_in o a + n
offset_behind None a n inside = absurd (cc)
offset_behind (Some r) a n inside =
    let low : r.base ≤ a = grind (arith, nat_tests, inside) in
    omega (arith, low)

pub stored_both : (o : Option Row) (a : ℕ) (x : ObjName) (bs cs : List TaggedByte) (s t u : Store) → Stored o a x bs s t →
    Stored o (a + length bs) x cs t u → Stored o a x (bs ++ cs) s u
stored_both o a x bs cs s t u first second = record {
  somewhere = first.somewhere;
  live = first.live;
  inside = in_both o a (length bs) (length cs) (length (bs ++ cs)) first.inside second.inside (length-append bs cs);
  left = second.left
      ∙ ap (λ (v : Store). with_bytes v x (offset_in o (a + length bs)) (map untagged cs)) first.left
      ∙ ap (λ (k : ℕ). with_bytes (with_bytes s x (offset_in o a) (map untagged bs)) x k (map untagged cs))
      (offset_behind o a (length bs) first.inside ∙ ap (λ (n : ℕ). offset_in o a + n) (sym (map_length bs)))
      ∙ with_both s x (offset_in o a) (map untagged bs) (map untagged cs)
      ∙ ap (λ (ds : List TaggedByte). with_bytes s x (offset_in o a) ds) (sym (map_both bs cs));
}

-- ---- zeros
pub zeros_length : (n : ℕ) → length (number_bytes n 0) ≡ n
zeros_length zero = refl
zeros_length (suc n) = ap suc (zeros_length n)

pub zeros_both : (n m : ℕ) → number_bytes n 0 ++ number_bytes m 0 ≡ number_bytes (n + m) 0
zeros_both zero m =
    let none : m ≡ 0 + m = omega arith in
    ap (λ (j : ℕ). number_bytes j 0) none
zeros_both (suc n) m =
    let one : suc (n + m) ≡ suc n + m = omega arith in
    ap (λ (bs : List TaggedByte). record { byte = written (0 % 256) None; tag = None } ∷ bs) (zeros_both n m) ∙ ap (λ (j : ℕ). number_bytes j 0) one
