-- Lemmas on the parts of a call whose reads are noted one by one.
use Rattle.std.proofs.Common.{
  ◌≡◌,
  ℕ,
  zero,
  suc,
  ◌==◌,
  Bool,
  true,
  false,
  cond,
  List,
  [],
  ◌∷◌,
  ◌++◌,
  append_assoc,
  refl,
  ap,
  sym,
  subst,
  ◌∙◌,
  arith,
  Option,
  Some,
  None,
}
use Rattle.std.specs.Prelude.{Result, Ok, Err, IfSome}
use Rattle.std.proofs.lemmas.Bool.{ne_eqb}
use Rattle.std.proofs.lemmas.List.{append-nil}
use Rattle.ub_base.specs.declared.clause.Clause.{Clause}
use Rattle.ub_base.specs.declared.names.Item.{Item}
use Rattle.ub_base.specs.declared.names.Item.TheVariants.{Read}
use Rattle.ub_base.specs.declared.names.Event.{Event}
use Rattle.ub_base.specs.declared.names.ObjName.{ObjName}
use Rattle.addr_map.specs.declared.map.Row.{Row}
use Rattle.exposure.specs.declared.prov.Prov.{Prov}
use Rattle.c_types.specs.declared.library.LibFunc.TheVariants.{Memcmp}
use Rattle.mem_objects.specs.declared.value.Value.{Value}
use Rattle.mem_objects.specs.declared.answer.LibAnswer.{LibAnswer}
use Rattle.mem_objects.specs.declared.answer.LibAnswer.TheVariants as answers
use Rattle.mem_spec.specs.Store.{Store, TaggedByte, range_from}
use Rattle.mem_spec.specs.Script.{Get, Script, Give, touch, ◌>>=◌, Act, Done, Raised, run}
use Rattle.mem_spec.specs.Acts.{Accessed, argument}
use Rattle.mem_spec.specs.Streams.{Io}
use Rattle.mem_objects.specs.Memory.{Kept, store_of}
use Rattle.libc_spec.specs.Library.{
  LibValue,
  number,
  pointer,
  pointer_in,
  address_in,
  prov_in,
  argument_at,
  size_of_value,
  joins,
  joined,
  bytes_at,
  read_numbers,
  order_of,
  memcmp,
  called,
}
use Rattle.libc_arguments.specs.declared.arguments.Range.{Range}
use Rattle.libc_arguments.specs.Seen.{value_seen}
use Rattle.libc_arguments.specs.Answers.{Answers}
use Rattle.libc_arguments.specs.Parts.{
  after,
  CanFollow,
  is_read,
  has_read,
  Gives,
  Follows,
  byte_at,
  bytes_if,
  reads_if,
  accessed_if,
  IsRange,
  IsShort,
  IsPassed,
  ReadsAll,
}
use Rattle.libc_arguments.specs.Writes.{Lists, Tells, within_limits}
use Rattle.libc_arguments.proofs.Scripts.{then, behind, run_then, behind_done}
use Rattle.libc_arguments.proofs.Parts.{or_false, joins_quiet, behind_raised, raises_then, after_bytes, after_append, follow_append}
use Rattle.libc_arguments.proofs.Reading.{reads_follow}
use Rattle.libc_arguments.proofs.Answering.{address_is}

-- ---- one part after another
joined_quiet : (is : List Item) → has_read is ≡ false → joined is ≡ is
joined_quiet [] h = refl
joined_quiet (i ∷ is) h =
    let e = or_false (is_read i) (has_read is) h in
    ap (joins i) (joined_quiet is e.1) ∙ joins_quiet i is e.0

-- a part that reads nothing
pub quiet_items : (V : Type 0) (m : Kept) (io : Io) (old new : List Item) (p : Script V) (v : V) (g : Gives true V m io old new p v) → new ≡ old ++ g.items
quiet_items V m io old new p v g = g.added ∙ ap (λ (is : List Item). old ++ is) (joined_quiet g.items g.apart)

pub quiet_lists : (V : Type 0) (m : Kept) (io : Io) (old new : List Item) (p : Script V) (v : V) → Gives true V m io old new p v → Lists V m io old new p v
quiet_lists V m io old new p v g = record {
  items = g.items;
  added = quiet_items V m io old new p v g;
  done = g.done;
  able = g.able;
}

pub quiet_tells : {C V : Type 0} (seen : C → V) (r : Result C LibAnswer) (m : Kept) (io : Io) (old new : List Item) (p : Script V) →
    Follows true seen r m io old new p → Tells seen r m io old new p
quiet_tells {V = V} seen (Ok c) m io old new p h = quiet_lists V m io old new p (seen c) h
quiet_tells seen (Err answers.NoMemory) m io old new p h = tt
quiet_tells seen (Err (answers.Raise c)) m io old new p h = h
quiet_tells seen (Err answer) m io old new p h = absurd h

pub lists_at_once : (A : Type 0) (m : Kept) (io : Io) (is : List Item) (v : A) → Lists A m io is is (Give v) v
lists_at_once A m io is v = record { items = []; added = sym (append-nil is); done = refl; able = λ h. h }

pub lists_then : (A B : Type 0) (m : Kept) (io : Io) (old mid new : List Item) (p : Script A) (v : A) (k : A → Script B) (w : B) →
    Lists A m io old mid p v → Lists B m io mid new (k v) w → Lists B m io old new (p >>= k) w
lists_then A B m io old mid new p v k w f g = record {
  items = f.items ++ g.items;
  added = g.added ∙ ap (λ (is : List Item). is ++ g.items) f.added ∙ append_assoc old f.items g.items;
  done = run_then m.rows p k (after old (store_of m io)) ∙ ap (λ (act : Act A). then act (λ a u. run m.rows (k a) u)) f.done ∙ ap
      (behind f.items) g.done ∙ behind_done f.items g.items w (after new (store_of m io));
  able = λ h. g.able (f.able h);
}

lists_raises : (A B : Type 0) (m : Kept) (io : Io) (old mid : List Item) (p : Script A) (v : A) (k : A → Script B) (c : Clause) →
    Lists A m io old mid p v → run m.rows (k v) (after mid (store_of m io)) ≡ Raised c → run m.rows (p >>= k) (after old (store_of m io)) ≡ Raised c
lists_raises A B m io old mid p v k c f e =
    run_then m.rows p k (after old (store_of m io)) ∙ ap (λ (act : Act A). then act (λ a u. run m.rows (k a) u)) f.done ∙ ap
    (behind f.items) e ∙ behind_raised f.items c

-- the next part does what it does on what the first gave
pub then_tells : {C : Type 0} (A B : Type 0) (seen : C → B) (r : Result C LibAnswer) (m : Kept) (io : Io) (old mid new : List Item) (p : Script A) (v : A)
    (k : A → Script B) →
    Lists A m io old mid p v → Tells seen r m io mid new (k v) → Tells seen r m io old new (p >>= k)
then_tells A B seen (Ok c) m io old mid new p v k f h = lists_then A B m io old mid new p v k (seen c) f h
then_tells A B seen (Err answers.NoMemory) m io old mid new p v k f h = tt
then_tells A B seen (Err (answers.Raise c)) m io old mid new p v k f h = lists_raises A B m io old mid p v k c f h
then_tells A B seen (Err answer) m io old mid new p v k f h = absurd h

-- the first part gave nothing
pub err_tells : {C D : Type 0} (A B : Type 0) (seen : C → A) (seen2 : D → B) (e : LibAnswer) (m : Kept) (io : Io) (old mid new : List Item) (p : Script A)
    (k : A → Script B) →
    Tells seen (Err e) m io old mid p → Tells seen2 (Err e) m io old new (p >>= k)
err_tells A B seen seen2 answers.NoMemory m io old mid new p k h = tt
err_tells A B seen seen2 (answers.Raise c) m io old mid new p k h = raises_then A B m.rows (after old (store_of m io)) p k c h
err_tells A B seen seen2 answer m io old mid new p k h = absurd h

-- ---- the bytes of a range
pub next_not_zero : (n : ℕ) → (suc n == 0) ≡ false
next_not_zero n = ne_eqb (suc n) 0 (λ e. absurd (omega (arith, e)))

get_lists : (m : Kept) (io : Io) (old : List Item) (x : ObjName) (from n : ℕ) →
    Lists (List TaggedByte) m io old (old ++ Read x from n ∷ []) (touch (Get x from n)) (range_from (byte_at m x) from n)
get_lists m io old x from n = record {
  items = Read x from n ∷ [];
  added = refl;
  done =
      ap (λ (f : ℕ → TaggedByte). Done (range_from f from n) (Read x from n ∷ []) (after old (store_of m io))) (after_bytes old (store_of m io) x)
      ∙ ap (Done (range_from (byte_at m x) from n) (Read x from n ∷ [])) (sym (after_append old (Read x from n ∷ []) (store_of m io)));
  able = λ h. follow_append m.cells old (Read x from n ∷ []) (store_of m io) h (tt, tt);
}

none_read : (m : Kept) (io : Io) (old : List Item) → Lists (List TaggedByte) m io old (old ++ []) (Give []) []
none_read m io old = subst (λ (is : List Item). Lists (List TaggedByte) m io old is (Give []) []) (sym (append-nil old))
    (lists_at_once (List TaggedByte) m io old [])

-- a range that was checked, which may have been left open
pub bytes_list : (m : Kept) (io : Io) (old : List Item) (n : ℕ) (range : Option Range) → IsRange n range →
    Lists (List TaggedByte) m io old (old ++ reads_if range) (bytes_at n (accessed_if m range)) (bytes_if m range)
bytes_list m io old zero None h = none_read m io old
bytes_list m io old (suc n) None h = none_read m io old
bytes_list m io old zero (Some r) h =
    subst (λ (k : ℕ). Lists (List TaggedByte) m io old (old ++ cond (k == 0) [] (Read r.object r.from k ∷ [])) (Give [])
    (range_from (byte_at m r.object) r.from k)) (sym h.0) (none_read m io old)
bytes_list m io old (suc n) (Some r) h =
    let some : (r.len == 0) ≡ false = ap (λ (k : ℕ). k == 0) h.0 ∙ next_not_zero n in
    subst (λ (b : Bool). Lists (List TaggedByte) m io old (old ++ cond b [] (Read r.object r.from r.len ∷ [])) (touch (Get r.object r.from (suc n)))
    (range_from (byte_at m r.object) r.from r.len)) (sym some)
    (subst (λ (k : ℕ). Lists (List TaggedByte) m io old (old ++ Read r.object r.from k ∷ []) (touch (Get r.object r.from (suc n)))
    (range_from (byte_at m r.object) r.from k)) (sym h.0)
    (get_lists m io old r.object r.from (suc n)))

pub short_range : (n : ℕ) (range : Option Range) → IsRange n range → IfSome range IsShort
short_range n None h = tt
short_range n (Some r) h = h.1

-- ---- memcmp
abbrev pub order_by : ℕ → Option Accessed → List ℕ → Script LibValue
order_by n second x = bytes_at n second >>= (λ ys. read_numbers ys >>= (λ y. Give (number (order_of x y))))

abbrev pub order_between : ℕ → Option Accessed → Option Accessed → Script LibValue
order_between n first second = bytes_at n first >>= (λ xs. read_numbers xs >>= (λ x. order_by n second x))

abbrev pub order_behind : List Row → ℕ → Prov → ℕ → Option Accessed → Script LibValue
order_behind rows b q n first = argument rows n b q >>= (λ second. order_between n first second)

pub no_first_range : (m : Kept) (io : Io) (old mid new : List Item) (a : ℕ) (p : Prov) (b : ℕ) (q : Prov) (n : ℕ) (e : LibAnswer) →
    Follows true (accessed_if m) (Err e) m io old mid (argument m.rows n a p) →
    Tells value_seen (Err e) m io old new (memcmp m.rows a p b q n)
no_first_range m io old mid new a p b q n e h =
    err_tells (Option Accessed) LibValue (accessed_if m) value_seen e m io old mid new (argument m.rows n a p) (order_behind m.rows b q n)
    (quiet_tells (accessed_if m) (Err e) m io old mid (argument m.rows n a p) h)

pub no_second_range : (m : Kept) (io : Io) (old mid next new : List Item) (a : ℕ) (p : Prov) (b : ℕ) (q : Prov) (n : ℕ) (r : Option Range) (e : LibAnswer) →
    Gives true (Option Accessed) m io old mid (argument m.rows n a p) (accessed_if m r) →
    Follows true (accessed_if m) (Err e) m io mid next (argument m.rows n b q) →
    Tells value_seen (Err e) m io old new (memcmp m.rows a p b q n)
no_second_range m io old mid next new a p b q n r e g h =
    then_tells {C = Value} (Option Accessed) LibValue value_seen (Err e) m io old mid new (argument m.rows n a p) (accessed_if m r)
    (order_behind m.rows b q n) (quiet_lists (Option Accessed) m io old mid (argument m.rows n a p) (accessed_if m r) g)
    (err_tells (Option Accessed) LibValue (accessed_if m) value_seen e m io mid next new (argument m.rows n b q) (order_between n (accessed_if m r))
    (quiet_tells (accessed_if m) (Err e) m io mid next (argument m.rows n b q) h))

-- both ranges were checked
behind_both : (x : Result Value LibAnswer) (m : Kept) (io : Io) (old mid next new : List Item) (a : ℕ) (p : Prov) (b : ℕ) (q : Prov) (n : ℕ)
    (r u : Option Range) →
    Gives true (Option Accessed) m io old mid (argument m.rows n a p) (accessed_if m r) →
    Gives true (Option Accessed) m io mid next (argument m.rows n b q) (accessed_if m u) →
    Tells value_seen x m io next new (order_between n (accessed_if m r) (accessed_if m u)) → Tells value_seen x m io old new (memcmp m.rows a p b q n)
behind_both x m io old mid next new a p b q n r u g h k =
    then_tells (Option Accessed) LibValue value_seen x m io old mid new (argument m.rows n a p) (accessed_if m r) (order_behind m.rows b q n)
    (quiet_lists (Option Accessed) m io old mid (argument m.rows n a p) (accessed_if m r) g)
    (then_tells (Option Accessed) LibValue value_seen x m io mid next new (argument m.rows n b q) (accessed_if m u) (order_between n (accessed_if m r))
    (quiet_lists (Option Accessed) m io mid next (argument m.rows n b q) (accessed_if m u) h) k)

pub no_first_bytes : {A : Type 0} (items : A → List ℕ) (m : Kept) (io : Io) (old mid next end new : List Item) (a : ℕ) (p : Prov) (b : ℕ) (q : Prov) (n : ℕ)
    (r u : Option Range) (e : LibAnswer) → IsRange n r →
    Gives true (Option Accessed) m io old mid (argument m.rows n a p) (accessed_if m r) →
    Gives true (Option Accessed) m io mid next (argument m.rows n b q) (accessed_if m u) →
    ReadsAll items (Err e) (bytes_if m r) (next ++ reads_if r) end → Tells value_seen (Err e) m io old new (memcmp m.rows a p b q n)
no_first_bytes items m io old mid next end new a p b q n r u e range g h x =
    behind_both (Err e) m io old mid next new a p b q n r u g h
    (then_tells {C = Value} (List TaggedByte) LibValue value_seen (Err e) m io next (next ++ reads_if r) new (bytes_at n (accessed_if m r)) (bytes_if m r)
    (λ xs. read_numbers xs >>= (λ x. order_by n (accessed_if m u) x)) (bytes_list m io next n r range)
    (err_tells (List ℕ) LibValue items value_seen e m io (next ++ reads_if r) end new (read_numbers (bytes_if m r)) (λ x. order_by n (accessed_if m u) x)
    (quiet_tells items (Err e) m io (next ++ reads_if r) end (read_numbers (bytes_if m r))
    (reads_follow items (Err e) m io (next ++ reads_if r) end (bytes_if m r) x))))

-- the first range was read
behind_first_bytes : {A : Type 0} (items : A → List ℕ) (v : A) (y : Result Value LibAnswer) (m : Kept) (io : Io) (old mid next last new : List Item) (a : ℕ)
    (p : Prov) (b : ℕ) (q : Prov) (n : ℕ) (r u : Option Range) → IsRange n r →
    Gives true (Option Accessed) m io old mid (argument m.rows n a p) (accessed_if m r) →
    Gives true (Option Accessed) m io mid next (argument m.rows n b q) (accessed_if m u) →
    ReadsAll items (Ok v) (bytes_if m r) (next ++ reads_if r) last → Tells value_seen y m io last new (order_by n (accessed_if m u) (items v)) →
    Tells value_seen y m io old new (memcmp m.rows a p b q n)
behind_first_bytes items v y m io old mid next last new a p b q n r u range g h x k =
    behind_both y m io old mid next new a p b q n r u g h
    (then_tells (List TaggedByte) LibValue value_seen y m io next (next ++ reads_if r) new (bytes_at n (accessed_if m r)) (bytes_if m r)
    (λ xs. read_numbers xs >>= (λ x. order_by n (accessed_if m u) x)) (bytes_list m io next n r range)
    (then_tells (List ℕ) LibValue value_seen y m io (next ++ reads_if r) last new (read_numbers (bytes_if m r)) (items v) (λ x. order_by n (accessed_if m u) x)
    (quiet_lists (List ℕ) m io (next ++ reads_if r) last (read_numbers (bytes_if m r)) (items v)
    (reads_follow items (Ok v) m io (next ++ reads_if r) last (bytes_if m r) x)) k))

pub no_second_bytes : {A : Type 0} (items : A → List ℕ) (v : A) (m : Kept) (io : Io) (old mid next last end new : List Item) (a : ℕ) (p : Prov) (b : ℕ)
    (q : Prov) (n : ℕ) (r u : Option Range) (e : LibAnswer) → IsRange n r → IsRange n u →
    Gives true (Option Accessed) m io old mid (argument m.rows n a p) (accessed_if m r) →
    Gives true (Option Accessed) m io mid next (argument m.rows n b q) (accessed_if m u) →
    ReadsAll items (Ok v) (bytes_if m r) (next ++ reads_if r) last → ReadsAll items (Err e) (bytes_if m u) (last ++ reads_if u) end →
    Tells value_seen (Err e) m io old new (memcmp m.rows a p b q n)
no_second_bytes items v m io old mid next last end new a p b q n r u e first second g h x y =
    behind_first_bytes items v (Err e) m io old mid next last new a p b q n r u first g h x
    (then_tells {C = Value} (List TaggedByte) LibValue value_seen (Err e) m io last (last ++ reads_if u) new (bytes_at n (accessed_if m u)) (bytes_if m u)
    (λ ys. read_numbers ys >>= (λ y. Give (number (order_of (items v) y)))) (bytes_list m io last n u second)
    (err_tells (List ℕ) LibValue items value_seen e m io (last ++ reads_if u) end new (read_numbers (bytes_if m u)) (λ y. Give (number (order_of (items v) y)))
    (quiet_tells items (Err e) m io (last ++ reads_if u) end (read_numbers (bytes_if m u))
    (reads_follow items (Err e) m io (last ++ reads_if u) end (bytes_if m u) y))))

pub both_compared : {A : Type 0} (items : A → List ℕ) (v w : A) (o : Value) (m : Kept) (io : Io) (old mid next last new : List Item) (a : ℕ) (p : Prov)
    (b : ℕ) (q : Prov) (n : ℕ) (r u : Option Range) → IsRange n r → IsRange n u →
    Gives true (Option Accessed) m io old mid (argument m.rows n a p) (accessed_if m r) →
    Gives true (Option Accessed) m io mid next (argument m.rows n b q) (accessed_if m u) →
    ReadsAll items (Ok v) (bytes_if m r) (next ++ reads_if r) last → ReadsAll items (Ok w) (bytes_if m u) (last ++ reads_if u) new →
    value_seen o ≡ number (order_of (items v) (items w)) →
    Lists LibValue m io old new (memcmp m.rows a p b q n) (value_seen o)
both_compared items v w o m io old mid next last new a p b q n r u first second g h x y same =
    behind_first_bytes items v (Ok o) m io old mid next last new a p b q n r u first g h x
    (lists_then (List TaggedByte) LibValue m io last (last ++ reads_if u) new (bytes_at n (accessed_if m u)) (bytes_if m u)
    (λ ys. read_numbers ys >>= (λ y. Give (number (order_of (items v) y)))) (value_seen o) (bytes_list m io last n u second)
    (lists_then (List ℕ) LibValue m io (last ++ reads_if u) new new (read_numbers (bytes_if m u)) (items w) (λ y. Give (number (order_of (items v) y)))
    (value_seen o)
    (quiet_lists (List ℕ) m io (last ++ reads_if u) new (read_numbers (bytes_if m u)) (items w)
    (reads_follow items (Ok w) m io (last ++ reads_if u) new (bytes_if m u) y))
    (subst (λ (s : LibValue). Lists LibValue m io new new (Give (number (order_of (items v) (items w)))) s) (sym same)
    (lists_at_once LibValue m io new (number (order_of (items v) (items w)))))))

pub memcmp_called : (rows : List Row) (vs : List LibValue) (who : Event) (a b : ℕ) (p q : Prov) (n : ℕ) (s t : Store) (is : List Item) (e : LibAnswer) →
    pointer a p ≡ pointer_in (argument_at vs 0) → pointer b q ≡ pointer_in (argument_at vs 1) → n ≡ size_of_value (argument_at vs 2) →
    Answers e is t (within_limits s (run rows (memcmp rows a p b q n) s)) → Answers e is t (called rows Memcmp vs who s)
memcmp_called rows vs who a b p q n s t is e first second size h =
    let x = address_is a (address_in (argument_at vs 0)) p (prov_in (argument_at vs 0)) first in
    let y = address_is b (address_in (argument_at vs 1)) q (prov_in (argument_at vs 1)) second in
    subst (λ (k : ℕ). Answers e is t (within_limits s
    (run rows (memcmp rows (address_in (argument_at vs 0)) (prov_in (argument_at vs 0)) (address_in (argument_at vs 1)) (prov_in (argument_at vs 1)) k) s)))
    size
    (subst (λ (d : ℕ). Answers e is t (within_limits s
    (run rows (memcmp rows (address_in (argument_at vs 0)) (prov_in (argument_at vs 0)) d (prov_in (argument_at vs 1)) n) s))) y.0
    (subst (λ (r : Prov). Answers e is t (within_limits s (run rows (memcmp rows (address_in (argument_at vs 0)) (prov_in (argument_at vs 0)) b r n) s))) y.1
    (subst (λ (d : ℕ). Answers e is t (within_limits s (run rows (memcmp rows d (prov_in (argument_at vs 0)) b q n) s))) x.0
    (subst (λ (r : Prov). Answers e is t (within_limits s (run rows (memcmp rows a r b q n) s))) x.1 h))))
