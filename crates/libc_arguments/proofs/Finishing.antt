-- Lemmas on whole calls that read strings.
use Rattle.std.proofs.Common.{
  ◌≡◌,
  ℕ,
  zero,
  suc,
  ◌+◌,
  ◌-◌,
  ◌<◌,
  ◌==◌,
  Bool,
  true,
  false,
  cond,
  Option,
  Some,
  List,
  [],
  ◌∷◌,
  length,
  refl,
  ap,
  sym,
  subst,
  ◌∙◌,
  arith,
  ℤ,
  pos,
}
use Rattle.std.specs.Prelude.{Ok, Err}
use Rattle.ub_base.specs.declared.names.Item.{Item}
use Rattle.ub_base.specs.declared.names.Event.{Event}
use Rattle.addr_map.specs.declared.map.Row.{Row}
use Rattle.exposure.specs.declared.prov.Prov.{Prov}
use Rattle.c_types.specs.declared.library.LibFunc.TheVariants.{Strlen, Strcmp, Strchr}
use Rattle.mem_objects.specs.declared.value.Value.{Value}
use Rattle.mem_objects.specs.declared.answer.LibAnswer.{LibAnswer}
use Rattle.mem_objects.specs.declared.answer.LibAnswer.TheVariants as answers
use Rattle.mem_spec.specs.Store.{Store, TaggedByte, range_from}
use Rattle.mem_spec.specs.Script.{Script, Give, ◌>>=◌, Act, run}
use Rattle.mem_spec.specs.Streams.{Io}
use Rattle.mem_objects.specs.Memory.{Kept, HasCell, store_of}
use Rattle.libc_spec.specs.Library.{
  LibValue,
  number,
  pointer,
  pointer_in,
  address_in,
  prov_in,
  argument_at,
  Text,
  text,
  read_numbers,
  order_of,
  low_byte,
  place_of,
  pointer_behind,
  integer_in,
  number_of_byte,
  strlen,
  strcmp,
  strchr,
  joined,
  called,
}
use Rattle.libc_arguments.specs.declared.arguments.Range.{Range}
use Rattle.libc_arguments.specs.Seen.{value_seen}
use Rattle.libc_arguments.specs.Answers.{Answers, HaveCells}
use Rattle.libc_arguments.specs.Parts.{Gives, Follows, ReadsAll, byte_at, bytes_of, text_in, limited}
use Rattle.libc_arguments.proofs.Answering.{address_is}
use Rattle.libc_arguments.proofs.Parts.{then_gives, then_follows, err_follows, gives_at_once}
use Rattle.libc_arguments.proofs.Reading.{reads_follow}
use Rattle.libc_arguments.proofs.Seen.{place_of-from}
use Rattle.std.specs.List.{position, position_from}
use Rattle.std.proofs.lemmas.Iterator.Adapters.{position_from-zero}
use Rattle.std.proofs.lemmas.List.{length-map}

-- it gives none
pub finish_fails : (e : LibAnswer) (m : Kept) (io : Io) (is : List Item) (script : List Row → Script LibValue) →
    Follows false value_seen (Err e) m io [] is (script m.rows) →
    Answers e is (store_of m io) (limited (store_of m io) (run m.rows (script m.rows) (store_of m io)))
finish_fails answers.NoMemory m io is script h = tt
finish_fails (answers.Raise c) m io is script h = subst (λ (act : Act LibValue). Answers (answers.Raise c) is (store_of m io) (limited (store_of m io) act))
    (sym h) refl
finish_fails e m io is script h = absurd h

-- ---- a call that reads one string
-- what the string and its numbers give
abbrev pub with_text : {V : Type 0} → (Text → List ℕ → V) → List Row → ℕ → Prov → Script V
with_text f rows a prov = text rows a prov >>= (λ s. read_numbers s.bytes >>= (λ ns. Give (f s ns)))

pub no_text : {B V : Type 0} (seen : B → V) (f : Text → List ℕ → V) (m : Kept) (io : Io) (old mid new : List Item) (a : ℕ) (prov : Prov) (e : LibAnswer) →
    Follows false (text_in m) (Err e) m io old mid (text m.rows a prov) →
    Follows false seen (Err e) m io old new (with_text f m.rows a prov)
no_text {V = V} seen f m io old mid new a prov e h = err_follows false false Text V (text_in m) seen e m io old mid new (text m.rows a prov)
    (λ s. read_numbers s.bytes >>= (λ ns. Give (f s ns))) h

pub no_numbers : {A B V : Type 0} (items : A → List ℕ) (seen : B → V) (f : Text → List ℕ → V) (m : Kept) (io : Io) (old mid end new : List Item) (a : ℕ)
    (prov : Prov) (r : Range) (e : LibAnswer) → Gives false Text m io old mid (text m.rows a prov) (text_in m r) →
    ReadsAll items (Err e) (bytes_of m r) mid end → Follows false seen (Err e) m io old new (with_text f m.rows a prov)
no_numbers {A = A} {B = B} {V = V} items seen f m io old mid end new a prov r e g h =
    then_follows {C = B} false true Text V seen (Err e) m io old mid new (text m.rows a prov) (text_in m r)
    (λ s. read_numbers s.bytes >>= (λ ns. Give (f s ns))) g
    (err_follows true true (List ℕ) V items seen e m io mid end new (read_numbers (bytes_of m r)) (λ ns. Give (f (text_in m r) ns))
    (reads_follow items (Err e) m io mid end (bytes_of m r) h))

pub text_read : {A V : Type 0} (items : A → List ℕ) (v : A) (f : Text → List ℕ → V) (m : Kept) (io : Io) (old mid new : List Item) (a : ℕ) (prov : Prov)
    (r : Range) → Gives false Text m io old mid (text m.rows a prov) (text_in m r) →
    ReadsAll items (Ok v) (bytes_of m r) mid new → Gives false V m io old new (with_text f m.rows a prov) (f (text_in m r) (items v))
text_read {V = V} items v f m io old mid new a prov r g h =
    then_gives false true Text V m io old mid new (text m.rows a prov) (text_in m r) (λ s. read_numbers s.bytes >>= (λ ns. Give (f s ns)))
    (f (text_in m r) (items v)) g
    (then_gives true true (List ℕ) V m io mid new new (read_numbers (bytes_of m r)) (items v) (λ ns. Give (f (text_in m r) ns)) (f (text_in m r) (items v))
    (reads_follow items (Ok v) m io mid new (bytes_of m r) h)
    (gives_at_once true V m io new (f (text_in m r) (items v))))

pub length_of_range : (f : ℕ → TaggedByte) (a n : ℕ) → length (range_from f a n) ≡ n
length_of_range f a zero = refl
length_of_range f a (suc n) = ap suc (length_of_range f (suc a) n)

-- strlen
abbrev pub length_value : Text → List ℕ → LibValue
length_value s ns = number (pos (length s.bytes - 1))

pub length_read : {A : Type 0} (items : A → List ℕ) (v : A) (m : Kept) (io : Io) (old mid new : List Item) (a : ℕ) (prov : Prov) (r : Range) →
    Gives false Text m io old mid (text m.rows a prov) (text_in m r) →
    ReadsAll items (Ok v) (bytes_of m r) mid new → Gives false LibValue m io old new (strlen m.rows a prov) (number (pos (r.len - 1)))
length_read items v m io old mid new a prov r g h =
    subst (λ (n : ℕ). Gives false LibValue m io old new (strlen m.rows a prov) (number (pos (n - 1)))) (length_of_range _ r.from r.len)
    (text_read items v length_value m io old mid new a prov r g h)

pub strlen_called : (rows : List Row) (vs : List LibValue) (who : Event) (a : ℕ) (p : Prov) (s t : Store) (is : List Item) (e : LibAnswer) →
    pointer a p ≡ pointer_in (argument_at vs 0) →
    Answers e is t (limited s (run rows (strlen rows a p) s)) → Answers e is t (called rows Strlen vs who s)
strlen_called rows vs who a p s t is e same h =
    let q = address_is a (address_in (argument_at vs 0)) p (prov_in (argument_at vs 0)) same in
    subst (λ (b : ℕ). Answers e is t (limited s (run rows (strlen rows b (prov_in (argument_at vs 0))) s))) q.0
    (subst (λ (r : Prov). Answers e is t (limited s (run rows (strlen rows a r) s))) q.1 h)

-- strchr
abbrev pub place_value : ℕ → Prov → ℤ → Text → List ℕ → LibValue
place_value a prov c s ns = pointer_behind a prov (place_of (low_byte c) 0 ns)

some_place : (k n : ℕ) → Some k ≡ Some n → k ≡ n
some_place k n e = cc

within_by : (b : Bool) (k i n : ℕ) (o : Option ℕ) → Some k ≡ cond b (Some i) o → (Some k ≡ o → k < i + 1 + n) → k < i + suc n
within_by true k i n o e h = let q : k ≡ i = some_place k i e in omega arith
within_by false k i n o e h = let q : k < i + 1 + n = h e in omega arith

-- a place lies in its list
place_within : (test : ℕ → Bool) (k i : ℕ) (ns : List ℕ) → Some k ≡ position_from test i ns → k < i + length ns
place_within test k i [] e = absurd (cc)
place_within test k i (n ∷ ns) e = within_by (test n) k i (length ns) (position_from test (i + 1) ns) e (λ h. place_within test k (i + 1) ns h)

pub place_in_range : {A : Type 0} (items : A → List ℕ) (v : A) (m : Kept) (r : Range) (w k : ℕ) (mid new : List Item) →
    ReadsAll items (Ok v) (bytes_of m r) mid new → Some k ≡ position (λ n. n == w) (items v) → k < r.len
place_in_range items v m r w k mid new h e =
    let len : length (items v) ≡ r.len = ap length h.1 ∙ length-map (bytes_of m r) number_of_byte ∙ length_of_range (byte_at m r.object) r.from r.len in
    let place : k < 0 + length (items v) = place_within (λ n. n == w) k 0 (items v) (e ∙ position_from-zero (λ n. n == w) (items v)) in
    omega arith

pub place_read : {A : Type 0} (items : A → List ℕ) (v : A) (m : Kept) (io : Io) (old mid new : List Item) (a : ℕ) (prov : Prov) (c : ℤ) (w : ℕ) (o : Option ℕ)
    (value : LibValue) (r : Range) → Gives false Text m io old mid (text m.rows a prov) (text_in m r) →
    ReadsAll items (Ok v) (bytes_of m r) mid new → w ≡ low_byte c → o ≡ position (λ n. n == w) (items v) → value ≡ pointer_behind a prov o →
    Gives false LibValue m io old new (strchr m.rows a prov c) value
place_read items v m io old mid new a prov c w o value r g h byte place is =
    let found : value ≡ place_value a prov c (text_in m r) (items v) =
    is ∙ ap (pointer_behind a prov) (place ∙ position_from-zero (λ n. n == w) (items v) ∙ sym (place_of-from w 0 (items v)) ∙ ap
    (λ (b : ℕ). place_of b 0 (items v)) byte) in
    subst (λ (q : LibValue). Gives false LibValue m io old new (strchr m.rows a prov c) q) (sym found)
    (text_read items v (place_value a prov c) m io old mid new a prov r g h)

pub strchr_called : (rows : List Row) (vs : List LibValue) (who : Event) (a : ℕ) (p : Prov) (c : ℤ) (s t : Store) (is : List Item) (e : LibAnswer) →
    pointer a p ≡ pointer_in (argument_at vs 0) → c ≡ integer_in (argument_at vs 1) →
    Answers e is t (limited s (run rows (strchr rows a p c) s)) → Answers e is t (called rows Strchr vs who s)
strchr_called rows vs who a p c s t is e same byte h =
    let q = address_is a (address_in (argument_at vs 0)) p (prov_in (argument_at vs 0)) same in
    subst (λ (d : ℤ). Answers e is t (limited s (run rows (strchr rows (address_in (argument_at vs 0)) (prov_in (argument_at vs 0)) d) s))) byte
    (subst (λ (b : ℕ). Answers e is t (limited s (run rows (strchr rows b (prov_in (argument_at vs 0)) c) s))) q.0
    (subst (λ (r : Prov). Answers e is t (limited s (run rows (strchr rows a r c) s))) q.1 h))

-- ---- a call that compares two strings
abbrev pub behind_first : List Row → ℕ → Prov → Text → Script LibValue
behind_first rows b q first = text rows b q >>=
    (λ second. read_numbers first.bytes >>= (λ x. read_numbers second.bytes >>= (λ y. Give (number (order_of x y)))))

abbrev pub behind_second : Text → Text → Script LibValue
behind_second first second = read_numbers first.bytes >>= (λ x. read_numbers second.bytes >>= (λ y. Give (number (order_of x y))))

pub no_first : (m : Kept) (io : Io) (old mid new : List Item) (a : ℕ) (p : Prov) (b : ℕ) (q : Prov) (e : LibAnswer) →
    Follows false (text_in m) (Err e) m io old mid (text m.rows a p) →
    Follows false value_seen (Err e) m io old new (strcmp m.rows a p b q)
no_first m io old mid new a p b q e h = err_follows false false Text LibValue (text_in m) value_seen e m io old mid new (text m.rows a p)
    (behind_first m.rows b q) h

pub no_second : (m : Kept) (io : Io) (old mid next new : List Item) (a : ℕ) (p : Prov) (b : ℕ) (q : Prov) (r : Range) (e : LibAnswer) →
    Gives false Text m io old mid (text m.rows a p) (text_in m r) → Follows false (text_in m) (Err e) m io mid next (text m.rows b q) →
    Follows false value_seen (Err e) m io old new (strcmp m.rows a p b q)
no_second m io old mid next new a p b q r e g h =
    then_follows {C = Value} false false Text LibValue value_seen (Err e) m io old mid new (text m.rows a p) (text_in m r) (behind_first m.rows b q) g
    (err_follows false false Text LibValue (text_in m) value_seen e m io mid next new (text m.rows b q) (behind_second (text_in m r)) h)

pub no_first_numbers : {A : Type 0} (items : A → List ℕ) (m : Kept) (io : Io) (old mid next end new : List Item) (a : ℕ) (p : Prov) (b : ℕ) (q : Prov)
    (r u : Range) (e : LibAnswer) → Gives false Text m io old mid (text m.rows a p) (text_in m r) →
    Gives false Text m io mid next (text m.rows b q) (text_in m u) →
    ReadsAll items (Err e) (bytes_of m r) next end → Follows false value_seen (Err e) m io old new (strcmp m.rows a p b q)
no_first_numbers items m io old mid next end new a p b q r u e g h x =
    then_follows {C = Value} false false Text LibValue value_seen (Err e) m io old mid new (text m.rows a p) (text_in m r) (behind_first m.rows b q) g
    (then_follows {C = Value} false true Text LibValue value_seen (Err e) m io mid next new (text m.rows b q) (text_in m u) (behind_second (text_in m r)) h
    (err_follows true true (List ℕ) LibValue items value_seen e m io next end new (read_numbers (bytes_of m r))
    (λ x. read_numbers (bytes_of m u) >>= (λ y. Give (number (order_of x y)))) (reads_follow items (Err e) m io next end (bytes_of m r) x)))

pub no_second_numbers : {A : Type 0} (items : A → List ℕ) (v : A) (m : Kept) (io : Io) (old mid next last end new : List Item) (a : ℕ) (p : Prov) (b : ℕ)
    (q : Prov) (r u : Range) (e : LibAnswer) → Gives false Text m io old mid (text m.rows a p) (text_in m r) →
    Gives false Text m io mid next (text m.rows b q) (text_in m u) →
    ReadsAll items (Ok v) (bytes_of m r) next last → ReadsAll items (Err e) (bytes_of m u) last end →
    Follows false value_seen (Err e) m io old new (strcmp m.rows a p b q)
no_second_numbers items v m io old mid next last end new a p b q r u e g h x y =
    then_follows {C = Value} false false Text LibValue value_seen (Err e) m io old mid new (text m.rows a p) (text_in m r) (behind_first m.rows b q) g
    (then_follows {C = Value} false true Text LibValue value_seen (Err e) m io mid next new (text m.rows b q) (text_in m u) (behind_second (text_in m r)) h
    (then_follows {C = Value} true true (List ℕ) LibValue value_seen (Err e) m io next last new (read_numbers (bytes_of m r)) (items v)
    (λ x. read_numbers (bytes_of m u) >>= (λ y. Give (number (order_of x y)))) (reads_follow items (Ok v) m io next last (bytes_of m r) x)
    (err_follows true true (List ℕ) LibValue items value_seen e m io last end new (read_numbers (bytes_of m u)) (λ y. Give (number (order_of (items v) y)))
    (reads_follow items (Err e) m io last end (bytes_of m u) y))))

pub both_read : {A : Type 0} (items : A → List ℕ) (v w : A) (m : Kept) (io : Io) (old mid next last new : List Item) (a : ℕ) (p : Prov) (b : ℕ) (q : Prov)
    (r u : Range) → Gives false Text m io old mid (text m.rows a p) (text_in m r) → Gives false Text m io mid next (text m.rows b q) (text_in m u) →
    ReadsAll items (Ok v) (bytes_of m r) next last → ReadsAll items (Ok w) (bytes_of m u) last new →
    Gives false LibValue m io old new (strcmp m.rows a p b q) (number (order_of (items v) (items w)))
both_read items v w m io old mid next last new a p b q r u g h x y =
    let value : LibValue = number (order_of (items v) (items w)) in
    then_gives false false Text LibValue m io old mid new (text m.rows a p) (text_in m r) (behind_first m.rows b q) (number (order_of (items v) (items w))) g
    (then_gives false true Text LibValue m io mid next new (text m.rows b q) (text_in m u) (behind_second (text_in m r))
    (number (order_of (items v) (items w))) h
    (then_gives true true (List ℕ) LibValue m io next last new (read_numbers (bytes_of m r)) (items v)
    (λ x. read_numbers (bytes_of m u) >>= (λ y. Give (number (order_of x y)))) (number (order_of (items v) (items w)))
    (reads_follow items (Ok v) m io next last (bytes_of m r) x)
    (then_gives true true (List ℕ) LibValue m io last new new (read_numbers (bytes_of m u)) (items w) (λ y. Give (number (order_of (items v) y)))
    (number (order_of (items v) (items w))) (reads_follow items (Ok w) m io last new (bytes_of m u) y)
    (gives_at_once true LibValue m io new (number (order_of (items v) (items w)))))))

pub strcmp_called : (rows : List Row) (vs : List LibValue) (who : Event) (a b : ℕ) (p q : Prov) (s t : Store) (is : List Item) (e : LibAnswer) →
    pointer a p ≡ pointer_in (argument_at vs 0) → pointer b q ≡ pointer_in (argument_at vs 1) →
    Answers e is t (limited s (run rows (strcmp rows a p b q) s)) → Answers e is t (called rows Strcmp vs who s)
strcmp_called rows vs who a b p q s t is e first second h =
    let x = address_is a (address_in (argument_at vs 0)) p (prov_in (argument_at vs 0)) first in
    let y = address_is b (address_in (argument_at vs 1)) q (prov_in (argument_at vs 1)) second in
    subst (λ (d : ℕ). Answers e is t (limited s
    (run rows (strcmp rows (address_in (argument_at vs 0)) (prov_in (argument_at vs 0)) d (prov_in (argument_at vs 1))) s))) y.0
    (subst (λ (r : Prov). Answers e is t (limited s (run rows (strcmp rows (address_in (argument_at vs 0)) (prov_in (argument_at vs 0)) b r) s))) y.1
    (subst (λ (d : ℕ). Answers e is t (limited s (run rows (strcmp rows d (prov_in (argument_at vs 0)) b q) s))) x.0
    (subst (λ (r : Prov). Answers e is t (limited s (run rows (strcmp rows a r b q) s))) x.1 h)))

-- the ambiguity of an argument is one of the memory
cell_at : (m : Kept) (vs : List LibValue) (i : ℕ) → HaveCells m vs → HasCell m (prov_in (argument_at vs i))
cell_at m [] i have = tt
cell_at m (v ∷ vs) zero have = have.0
cell_at m (v ∷ vs) (suc i) have = cell_at m vs i have.1

pub cell_of : (m : Kept) (vs : List LibValue) (i a : ℕ) (p : Prov) → HaveCells m vs → pointer a p ≡ pointer_in (argument_at vs i) → HasCell m p
cell_of m vs i a p have e = subst (λ (q : Prov). HasCell m q) (sym (address_is a (address_in (argument_at vs i)) p (prov_in (argument_at vs i)) e).1)
    (cell_at m vs i have)
