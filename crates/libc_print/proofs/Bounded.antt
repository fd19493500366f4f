-- Lemmas on the strings of `%s`.
use Rattle.std.proofs.Common.{
  ◌≡◌,
  ℕ,
  zero,
  suc,
  ◌+◌,
  ◌-◌,
  ◌<◌,
  ◌≤◌,
  ◌==◌,
  Bool,
  true,
  false,
  cond,
  min,
  List,
  [],
  ◌∷◌,
  ◌++◌,
  length,
  take,
  refl,
  ap,
  sym,
  subst,
  ◌∙◌,
  arith,
  append_assoc,
  Option,
  Some,
  None,
}
use Rattle.std.specs.Prelude.{Result, Ok, Err, nat_le}
use Rattle.std.specs.List.{position, position_from}
use Rattle.std.proofs.lemmas.Bool.{ne_eqb}
use Rattle.std.proofs.lemmas.Bool.Decides.{nat_tests}
use Rattle.std.proofs.lemmas.Iterator.Adapters.{position_from-zero}
use Rattle.std.proofs.lemmas.List.{append-nil}
use Rattle.ub_base.specs.declared.clause.Clause.TheVariants.{LibraryArgument}
use Rattle.ub_base.specs.declared.names.Item.{Item}
use Rattle.ub_base.specs.declared.names.Item.TheVariants.{Read}
use Rattle.ub_base.specs.declared.names.ObjName.{ObjName}
use Rattle.addr_map.specs.declared.map.Row.{Row}
use Rattle.addr_map.specs.Rows.{row_of}
use Rattle.exposure.specs.declared.prov.Prov.{Prov}
use Rattle.exposure.specs.Cells.{Cells}
use Rattle.mem_objects.specs.declared.answer.LibAnswer.{LibAnswer}
use Rattle.mem_spec.specs.Store.{Store, TaggedByte, range_from}
use Rattle.mem_spec.specs.Script.{Script, Give, ◌>>=◌, Act, Done, Raised, touched, run}
use Rattle.mem_spec.specs.Acts.{Accessed, argument, size_in}
use Rattle.mem_spec.specs.Streams.{Io}
use Rattle.mem_objects.specs.Memory.{Kept, store_of}
use Rattle.libc_spec.specs.Library.{pointer, Text, read_numbers, is_zero, joined}
use Rattle.libc_spec.specs.Print.{before_zero, until_most, bounded_from, string_bytes}
use Rattle.libc_arguments.specs.declared.arguments.Range.{Range}
use Rattle.libc_arguments.specs.Parts.{
  after,
  CanFollow,
  has_read,
  starts_in_read,
  Gives,
  Follows,
  ReadsAll,
  accessed,
  accessed_if,
  byte_at,
  bytes_of,
  bytes_if,
  read_items,
  one_more,
  string_size,
}
use Rattle.libc_arguments.proofs.Scripts.{then, behind, run_then, run_twice, behind_done}
use Rattle.libc_arguments.proofs.Parts.{
  then_gives,
  then_follows,
  then_raises,
  err_follows,
  gives_at_once,
  quiet_starts,
  after_append,
  after_bytes,
  follow_append,
  joined_behind,
  units,
  joined_units,
}
use Rattle.libc_arguments.proofs.Reading.{reads_follow}
use Rattle.libc_print.specs.Strings.{bounded_size, bounded_text}
use Rattle.libc_print.proofs.Running.{loud, follows_same}

-- ---- the bytes before the first zero
suc_not : (n : ℕ) → suc n ≡ 0 → ⊥
suc_not n e = omega (arith, e)

some_is : (a b : ℕ) → Some a ≡ Some b → a ≡ b
some_is a b e = cc

zero_at : (i k : ℕ) (ns : List ℕ) → Some k ≡ position_from (λ n. n == 0) i ns → (i ≤ k) × (take (k - i) ns ≡ before_zero ns)
zero_at i k [] e = absurd (cc)
zero_at i k (zero ∷ ns) e =
    let q : k ≡ i = some_is k i e in
    let d : k - i ≡ 0 = omega (arith, q) in
    (omega (arith, q), ap (λ (j : ℕ). take j (0 ∷ ns)) d)
zero_at i k (suc n ∷ ns) e =
    let later : Some k ≡ position_from (λ n. n == 0) (i + 1) ns = e ∙ ap (λ (b : Bool). cond b (Some i) (position_from (λ n. n == 0) (i + 1) ns))
    (ne_eqb (suc n) 0 (suc_not n)) in
    let h = zero_at (i + 1) k ns later in
    let d : k - i ≡ suc (k - (i + 1)) = omega (arith, h.0) in
    (omega (arith, h.0), ap (λ (j : ℕ). take j (suc n ∷ ns)) d ∙ ap (λ (l : List ℕ). suc n ∷ l) h.1)

zero_none : (i : ℕ) (ns : List ℕ) → None ≡ position_from (λ n. n == 0) i ns → ns ≡ before_zero ns
zero_none i [] e = refl
zero_none i (zero ∷ ns) e = absurd (cc)
zero_none i (suc n ∷ ns) e =
    let later : None ≡ position_from (λ n. n == 0) (i + 1) ns = e ∙ ap (λ (b : Bool). cond b (Some i) (position_from (λ n. n == 0) (i + 1) ns))
    (ne_eqb (suc n) 0 (suc_not n)) in
    ap (λ (l : List ℕ). suc n ∷ l) (zero_none (i + 1) ns later)

pub cut_at : (k : ℕ) (ns : List ℕ) → Some k ≡ position (λ n. n == 0) ns → take k ns ≡ before_zero ns
cut_at k ns e =
    let d : k ≡ k - 0 = omega arith in
    ap (λ (j : ℕ). take j ns) d ∙ (zero_at 0 k ns (e ∙ position_from-zero (λ n. n == 0) ns)).1

pub cut_none : (ns : List ℕ) → None ≡ position (λ n. n == 0) ns → ns ≡ before_zero ns
cut_none ns e = zero_none 0 ns (e ∙ position_from-zero (λ n. n == 0) ns)

-- ---- how many bytes are read
abbrev pub bounded_by : ℕ → ℕ → Option ℕ → Option ℕ
bounded_by wanted left (Some k) = Some k
bounded_by wanted left None = cond (nat_le wanted left) (Some wanted) None

le_more : (wanted left : ℕ) → nat_le (suc wanted) (suc left) ≡ nat_le wanted left
le_more wanted left = grind (arith, nat_tests)

bound_more : (b : Bool) (wanted : ℕ) → cond b (Some (suc wanted)) None ≡ one_more (cond b (Some wanted) None)
bound_more true wanted = refl
bound_more false wanted = refl

bounded_more : (wanted left : ℕ) (o : Option ℕ) → bounded_by (suc wanted) (suc left) (one_more o) ≡ one_more (bounded_by wanted left o)
bounded_more wanted left (Some k) = refl
bounded_more wanted left None = ap (λ (b : Bool). cond b (Some (suc wanted)) None) (le_more wanted left) ∙ bound_more (nat_le wanted left) wanted

bounded_if : (b : Bool) (wanted left : ℕ) (o p : Option ℕ) → bounded_by wanted left o ≡ p →
    bounded_by (suc wanted) (suc left) (cond b (Some 1) (one_more o)) ≡ cond b (Some 1) (one_more p)
bounded_if true wanted left o p e = refl
bounded_if false wanted left o p e = bounded_more wanted left o ∙ ap one_more e

pub bounded_is : (f : ℕ → TaggedByte) (wanted left a n : ℕ) → n ≡ min wanted left → bounded_by wanted left (string_size f n a) ≡ bounded_size f wanted left a
bounded_is f zero left a n e =
    let z : n ≡ 0 = omega (arith, e) in
    let t : nat_le 0 left ≡ true = grind (arith, nat_tests) in
    ap (λ (k : ℕ). bounded_by 0 left (string_size f k a)) z ∙ ap (λ (b : Bool). cond b (Some 0) None) t
bounded_is f (suc wanted) zero a n e =
    let z : n ≡ 0 = omega (arith, e) in
    let t : nat_le (suc wanted) 0 ≡ false = grind (arith, nat_tests) in
    ap (λ (k : ℕ). bounded_by (suc wanted) 0 (string_size f k a)) z ∙ ap (λ (b : Bool). cond b (Some (suc wanted)) None) t
bounded_is f (suc wanted) (suc left) a n e =
    let z : n ≡ suc (min wanted left) = omega (arith, e) in
    ap (λ (k : ℕ). bounded_by (suc wanted) (suc left) (string_size f k a)) z
    ∙ bounded_if (is_zero (f a).byte) wanted left (string_size f (min wanted left) (suc a)) (bounded_size f wanted left (suc a))
    (bounded_is f wanted left (suc a) (min wanted left) refl)

-- ---- they are read
abbrev pub bounded_act : ObjName → ℕ → Store → Option ℕ → Act (List TaggedByte)
bounded_act x a s None = Raised LibraryArgument
bounded_act x a s (Some k) = Done (range_from (s.bytes x) a k) (units x a k) s

more_act : (rows : List Row) (x : ObjName) (a : ℕ) (s : Store) (o : Option ℕ) →
    touched (Read x a 1) (then (bounded_act x (suc a) s o) (λ more u. run rows (Give ((s.bytes x a ∷ []) ++ more)) u)) ≡ bounded_act x a s (one_more o)
more_act rows x a s None = refl
more_act rows x a s (Some k) =
    ap (touched (Read x a 1)) (behind_done (units x (suc a) k) [] (s.bytes x a ∷ range_from (s.bytes x) (suc a) k) s)
    ∙ ap (λ (is : List Item). Done (s.bytes x a ∷ range_from (s.bytes x) (suc a) k) (Read x a 1 ∷ is) s) (append-nil (units x (suc a) k))

most_by : (b : Bool) (rows : List Row) (wanted left : ℕ) (x : ObjName) (a : ℕ) (s : Store) →
    run rows (until_most wanted left x (suc a)) s ≡ bounded_act x (suc a) s (bounded_size (s.bytes x) wanted left (suc a)) →
    touched (Read x a 1) (run rows (cond b (Give (s.bytes x a ∷ [])) (until_most wanted left x (suc a) >>= (λ more. Give ((s.bytes x a ∷ []) ++ more)))) s)
    ≡ bounded_act x a s (cond b (Some 1) (one_more (bounded_size (s.bytes x) wanted left (suc a))))
most_by true rows wanted left x a s h = refl
most_by false rows wanted left x a s h =
    ap (touched (Read x a 1))
    (run_then rows (until_most wanted left x (suc a)) (λ more. Give ((s.bytes x a ∷ []) ++ more)) s
    ∙ ap (λ (act : Act (List TaggedByte)). then act (λ more u. run rows (Give ((s.bytes x a ∷ []) ++ more)) u)) h)
    ∙ more_act rows x a s (bounded_size (s.bytes x) wanted left (suc a))

run_most : (rows : List Row) (wanted left : ℕ) (x : ObjName) (a : ℕ) (s : Store) →
    run rows (until_most wanted left x a) s ≡ bounded_act x a s (bounded_size (s.bytes x) wanted left a)
run_most rows zero left x a s = refl
run_most rows (suc wanted) zero x a s = refl
run_most rows (suc wanted) (suc left) x a s = most_by (is_zero (s.bytes x a).byte) rows wanted left x a s (run_most rows wanted left x (suc a) s)

most_at : (m : Kept) (io : Io) (mid : List Item) (n : ℕ) (r : Range) (o : Option ℕ) →
    o ≡ bounded_size (byte_at m r.object) n (size_in (row_of m.rows r.object) - r.from) r.from →
    run m.rows (bounded_from m.rows n (Some (accessed m r))) (after mid (store_of m io)) ≡ bounded_act r.object r.from (after mid (store_of m io)) o
most_at m io mid n r o size =
    run_most m.rows n (size_in (row_of m.rows r.object) - r.from) r.object r.from (after mid (store_of m io))
    ∙ ap (λ (f : ℕ → TaggedByte). bounded_act r.object r.from (after mid (store_of m io))
    (bounded_size f n (size_in (row_of m.rows r.object) - r.from) r.from)) (after_bytes mid (store_of m io) r.object)
    ∙ ap (bounded_act r.object r.from (after mid (store_of m io))) (sym size)

-- the argument isn't there
pub no_bounded : (m : Kept) (io : Io) (old mid new : List Item) (n a : ℕ) (prov : Prov) (e : LibAnswer) →
    Follows true (accessed_if m) (Err e) m io old mid (argument m.rows (min n 1) a prov) →
    Follows false (bytes_if m) (Err e) m io old new (bounded_text m.rows n a prov)
no_bounded m io old mid new n a prov e h = err_follows true false (Option Accessed) (List TaggedByte) (accessed_if m) (bytes_if m) e m io old mid new
    (argument m.rows (min n 1) a prov) (bounded_from m.rows n) h

-- its object is left open
pub open_bounded : (m : Kept) (io : Io) (old mid : List Item) (n a : ℕ) (prov : Prov) →
    Gives true (Option Accessed) m io old mid (argument m.rows (min n 1) a prov) None →
    Gives false (List TaggedByte) m io old mid (bounded_text m.rows n a prov) []
open_bounded m io old mid n a prov g =
    loud (List TaggedByte) m io old mid (bounded_text m.rows n a prov) []
    (then_gives true true (Option Accessed) (List TaggedByte) m io old mid mid (argument m.rows (min n 1) a prov) None (bounded_from m.rows n) [] g
    (gives_at_once true (List TaggedByte) m io mid []))

-- its object ends too early
pub short_bounded : (m : Kept) (io : Io) (old mid : List Item) (n a : ℕ) (prov : Prov) (r : Range) →
    Gives true (Option Accessed) m io old mid (argument m.rows (min n 1) a prov) (Some (accessed m r)) →
    None ≡ bounded_size (byte_at m r.object) n (size_in (row_of m.rows r.object) - r.from) r.from →
    run m.rows (bounded_text m.rows n a prov) (after old (store_of m io)) ≡ Raised LibraryArgument
short_bounded m io old mid n a prov r g size =
    then_raises true (Option Accessed) (List TaggedByte) m io old mid (argument m.rows (min n 1) a prov) (Some (accessed m r))
    (bounded_from m.rows n) LibraryArgument g (most_at m io mid n r None size)

-- its bytes
abbrev pub read_of : ObjName → ℕ → ℕ → List Item
read_of x a k = read_items (record { object = x; from = a; len = k })

joined_read : (x : ObjName) (a k : ℕ) → joined (units x a k) ≡ read_of x a k
joined_read x a zero = refl
joined_read x a (suc k) =
    let e : (suc k == 0) ≡ false = ne_eqb (suc k) 0 (suc_not k) in
    joined_units x a k ∙ ap (λ (b : Bool). cond b [] (Read x a (suc k) ∷ [])) (sym e)

read_follows : (cells : Cells) (x : ObjName) (a k : ℕ) (s : Store) → CanFollow cells (read_of x a k) s
read_follows cells x a zero s = tt
read_follows cells x a (suc k) s =
    let e : (suc k == 0) ≡ false = ne_eqb (suc k) 0 (suc_not k) in
    subst (λ (b : Bool). CanFollow cells (cond b [] (Read x a (suc k) ∷ [])) s) (sym e) (tt, tt)

read_leaves : (x : ObjName) (a k : ℕ) (s : Store) → after (read_of x a k) s ≡ s
read_leaves x a zero s = refl
read_leaves x a (suc k) s =
    let e : (suc k == 0) ≡ false = ne_eqb (suc k) 0 (suc_not k) in
    ap (λ (b : Bool). after (cond b [] (Read x a (suc k) ∷ [])) s) e

not_empty : (old new is : List Item) → new ≡ old ++ joined is → length old < length new → is ≡ [] → ⊥
not_empty old new is e h n =
    let k : new ≡ old = e ∙ ap (λ (js : List Item). old ++ joined js) n ∙ append-nil old in
    let l : length new ≡ length old = ap length k in
    omega arith

quiet_first : (is js : List Item) → has_read is ≡ false → (is ≡ [] → ⊥) → starts_in_read (is ++ js) ≡ false
quiet_first [] js h n = absurd (n refl)
quiet_first (i ∷ is) js h n = quiet_starts (i ∷ is) h

pub bounded_gives : (m : Kept) (io : Io) (old mid new : List Item) (n a : ℕ) (prov : Prov) (r : Range) (k : ℕ) →
    Gives true (Option Accessed) m io old mid (argument m.rows (min n 1) a prov) (Some (accessed m r)) → length old < length mid →
    Some k ≡ bounded_size (byte_at m r.object) n (size_in (row_of m.rows r.object) - r.from) r.from → new ≡ mid ++ read_of r.object r.from k →
    Gives false (List TaggedByte) m io old new (bounded_text m.rows n a prov) (range_from (byte_at m r.object) r.from k)
bounded_gives m io old mid new n a prov r k g more size is =
    let end : after mid (store_of m io) ≡ after new (store_of m io) =
    sym (read_leaves r.object r.from k (after mid (store_of m io))) ∙ sym (after_append mid (read_of r.object r.from k) (store_of m io)) ∙ ap
    (λ (js : List Item). after js (store_of m io)) (sym is) in
    record {
      items = g.items ++ units r.object r.from k;
      apart = quiet_first g.items (units r.object r.from k) g.apart (not_empty old mid g.items g.added more);
      added = is ∙ ap (λ (js : List Item). js ++ read_of r.object r.from k) g.added ∙ append_assoc old (joined g.items) (read_of r.object r.from k)
          ∙ ap (λ (js : List Item). old ++ (joined g.items ++ js)) (sym (joined_read r.object r.from k)) ∙ ap (λ (js : List Item). old ++ js)
          (sym (joined_behind g.items (units r.object r.from k) g.apart));
      done = run_then m.rows (argument m.rows (min n 1) a prov) (bounded_from m.rows n) (after old (store_of m io))
          ∙ ap (λ (act : Act (Option Accessed)). then act (λ v u. run m.rows (bounded_from m.rows n v) u)) g.done
          ∙ ap (behind g.items) (most_at m io mid n r (Some k) size
          ∙ ap (λ (f : ℕ → TaggedByte). Done (range_from f r.from k) (units r.object r.from k) (after mid (store_of m io)))
          (after_bytes mid (store_of m io) r.object))
          ∙ behind_done g.items (units r.object r.from k) (range_from (byte_at m r.object) r.from k) (after mid (store_of m io))
          ∙ ap (Done (range_from (byte_at m r.object) r.from k) (g.items ++ units r.object r.from k)) end;
      able = λ h. subst (λ (js : List Item). CanFollow m.cells js (store_of m io)) (sym is)
          (follow_append m.cells mid (read_of r.object r.from k) (store_of m io) (g.able h)
          (read_follows m.cells r.object r.from k (after mid (store_of m io))));
    }

-- ---- the bytes that are printed of a bounded string
abbrev pub text_before : List TaggedByte → Script (List ℕ)
text_before bs = read_numbers bs >>= (λ ns. Give (before_zero ns))

abbrev pub before_value : Text → List ℕ → List ℕ
before_value s ns = before_zero ns

bounded_same : {A : Type 0} (seen : A → List ℕ) (res : Result A LibAnswer) (m : Kept) (io : Io) (old new : List Item) (n a : ℕ) (prov : Prov) →
    Follows false seen res m io old new (bounded_text m.rows n a prov >>= text_before) →
    Follows false seen res m io old new (string_bytes m.rows (pointer a prov) (Some n))
bounded_same seen res m io old new n a prov h =
    follows_same false seen res m io old new (bounded_text m.rows n a prov >>= text_before) (string_bytes m.rows (pointer a prov) (Some n))
    (run_twice m.rows (argument m.rows (min n 1) a prov) (bounded_from m.rows n) text_before (after old (store_of m io))) h

pub string_fails : {A : Type 0} (seen : A → List ℕ) (e : LibAnswer) (m : Kept) (io : Io) (old mid new : List Item) (n a : ℕ) (prov : Prov) →
    Follows false (bytes_if m) (Err e) m io old mid (bounded_text m.rows n a prov) →
    Follows false seen (Err e) m io old new (string_bytes m.rows (pointer a prov) (Some n))
string_fails seen e m io old mid new n a prov h =
    bounded_same seen (Err e) m io old new n a prov
    (err_follows false false (List TaggedByte) (List ℕ) (bytes_if m) seen e m io old mid new (bounded_text m.rows n a prov) text_before h)

pub string_open : (m : Kept) (io : Io) (old mid : List Item) (n a : ℕ) (prov : Prov) →
    Gives false (List TaggedByte) m io old mid (bounded_text m.rows n a prov) [] →
    Gives false (List ℕ) m io old mid (string_bytes m.rows (pointer a prov) (Some n)) []
string_open m io old mid n a prov g =
    bounded_same {A = List ℕ} (λ v. v) (Ok []) m io old mid n a prov
    (then_gives false true (List TaggedByte) (List ℕ) m io old mid mid (bounded_text m.rows n a prov) [] text_before [] g
    (gives_at_once true (List ℕ) m io mid []))

pub string_unread : {A : Type 0} (items seen : A → List ℕ) (e : LibAnswer) (m : Kept) (io : Io) (old mid end new : List Item) (n a : ℕ) (prov : Prov)
    (r : Range) → Gives false (List TaggedByte) m io old mid (bounded_text m.rows n a prov) (bytes_of m r) →
    ReadsAll items (Err e) (bytes_of m r) mid end → Follows false seen (Err e) m io old new (string_bytes m.rows (pointer a prov) (Some n))
string_unread {A = A} items seen e m io old mid end new n a prov r g h =
    bounded_same seen (Err e) m io old new n a prov
    (then_follows {C = A} false true (List TaggedByte) (List ℕ) seen (Err e) m io old mid new (bounded_text m.rows n a prov) (bytes_of m r) text_before g
    (err_follows true true (List ℕ) (List ℕ) items seen e m io mid end new (read_numbers (bytes_of m r)) (λ ns. Give (before_zero ns))
    (reads_follow items (Err e) m io mid end (bytes_of m r) h)))

pub string_read : {A : Type 0} (items : A → List ℕ) (v : A) (m : Kept) (io : Io) (old mid new : List Item) (n a : ℕ) (prov : Prov) (r : Range)
    (text : List ℕ) → Gives false (List TaggedByte) m io old mid (bounded_text m.rows n a prov) (bytes_of m r) →
    ReadsAll items (Ok v) (bytes_of m r) mid new → text ≡ before_zero (items v) →
    Gives false (List ℕ) m io old new (string_bytes m.rows (pointer a prov) (Some n)) text
string_read items v m io old mid new n a prov r text g h e =
    subst (λ (l : List ℕ). Gives false (List ℕ) m io old new (string_bytes m.rows (pointer a prov) (Some n)) l) (sym e)
    (bounded_same {A = List ℕ} (λ l. l) (Ok (before_zero (items v))) m io old new n a prov
    (then_gives false true (List TaggedByte) (List ℕ) m io old mid new (bounded_text m.rows n a prov) (bytes_of m r) text_before (before_zero (items v)) g
    (then_gives true true (List ℕ) (List ℕ) m io mid new new (read_numbers (bytes_of m r)) (items v) (λ ns. Give (before_zero ns)) (before_zero (items v))
    (reads_follow items (Ok v) m io mid new (bytes_of m r) h)
    (gives_at_once true (List ℕ) m io new (before_zero (items v))))))

pub wanted_there : (wanted left : ℕ) → wanted ≤ left → Some wanted ≡ bounded_by wanted left None
wanted_there wanted left h = let t : nat_le wanted left ≡ true = grind (arith, nat_tests) in ap (λ (b : Bool). cond b (Some wanted) None) (sym t)

pub wanted_past : (wanted left : ℕ) → left < wanted → None ≡ bounded_by wanted left None
wanted_past wanted left h = let t : nat_le wanted left ≡ false = grind (arith, nat_tests) in ap (λ (b : Bool). cond b (Some wanted) None) (sym t)
