-- Keywords as they are kept say what the definition says of them.
use Rattle.std.proofs.Common.{◌≡◌, ℕ, ◌+◌, ◌≤◌, min, Bool, true, false, List, [], ◌∷◌, refl, sym, ap, ◌∙◌, subst, true≢false, arith}
use Rattle.std.specs.Prelude.{nat_lt, ◌&&◌, ◌||◌, if◌then◌else◌, Option, Some, None, is_some}
use Rattle.std.proofs.lemmas.Bool.Decides.{nat_tests}
use Rattle.c_lex.specs.declared.token.Word.{Word}
use Rattle.c_lex.specs.declared.token.Word.TheVariants as w
use Rattle.typing_words.specs.Words.{Role, role, storage, type_word, const_word, restrict_word, function_word, left_out, is_word}
use Rattle.typing_words.specs.Words.{Words, said, and_word, with_word}
use Rattle.typing_words.specs.Words.{has_no_storage, with_storage, no_storage, typedefs, externs, statics, autos, registers}
use Rattle.typing_words.specs.Words as spec
use Rattle.type_declarators.specs.Keywords as kw
use Rattle.type_declarators.specs.Keywords.{storage_seen, one_more, with_type, stored, added, all_added, none_held, no_types, is_refused, is_type_role}
use Rattle.type_declarators.specs.Keywords.{TypeWord, a_void, a_boolean, a_character, a_short, an_int, a_long, a_signed, an_unsigned}
use Rattle.type_declarators.specs.Keywords.{word_of, kept, times, are_types, AreCounted, IsSaid, Says}
use Rattle.type_declarators.specs.declared.words.Storage.{Storage}
use Rattle.type_declarators.specs.declared.words.Storage.TheVariants as held_storage
use Rattle.type_declarators.specs.declared.words.Types.{Types}
use Rattle.type_declarators.specs.declared.words.Words as held

-- 1. One keyword more.

abbrev IsAdded : Word → held.Words → Role → held.Words → Type 0
IsAdded word h (storage s) g = (t : Storage) × ((storage_seen t ≡ s) × (has_no_storage s ≡ false) × (g ≡ stored t h))
IsAdded word h type_word g = g ≡ record h { types = with_type word h.types }
IsAdded word h const_word g = g ≡ record h { constant = true }
IsAdded word h restrict_word g = g ≡ record h { restricted = true }
IsAdded word h function_word g = g ≡ record h { function = true }
IsAdded word h left_out g = g ≡ record h { unknown = Some (kw.left_out word) }

is_added : (word : Word) (h : held.Words) → IsAdded word h (role word) (added word h)
is_added w.Typedef h = (held_storage.Typedef, (refl, refl, refl))
is_added w.Extern h = (held_storage.Extern, (refl, refl, refl))
is_added w.Static h = (held_storage.Static, (refl, refl, refl))
is_added w.Auto h = (held_storage.Auto, (refl, refl, refl))
is_added w.Register h = (held_storage.Register, (refl, refl, refl))
is_added word h = refl

-- how often a type specifier is counted then
pub step_count : (k : TypeWord) (word : Word) (t : Types) → kept k (with_type word t) ≡ (if is_word word (word_of k) then one_more (kept k t) else kept k t)
unfolding is_word
step_count a_void w.Void t = refl
step_count a_void _ t = refl
step_count a_boolean w.Boolean t = refl
step_count a_boolean _ t = refl
step_count a_character w.Char t = refl
step_count a_character _ t = refl
step_count a_short w.Short t = refl
step_count a_short _ t = refl
step_count an_int w.Int t = refl
step_count an_int _ t = refl
step_count a_long w.Long t = refl
step_count a_long _ t = refl
step_count a_signed w.Signed t = refl
step_count a_signed _ t = refl
step_count an_unsigned w.Unsigned t = refl
step_count an_unsigned _ t = refl

pub zero_kept : (k : TypeWord) → kept k no_types ≡ 0
zero_kept a_void = refl
zero_kept a_boolean = refl
zero_kept a_character = refl
zero_kept a_short = refl
zero_kept an_int = refl
zero_kept a_long = refl
zero_kept a_signed = refl
zero_kept an_unsigned = refl

-- counts fit a byte
record IsSmall (h : held.Words) : Type 0 where
  storages : h.storages ≤ 255
  counts : (k : TypeWord) → kept k h.types ≤ 255

small_by : (b : Bool) (a r : ℕ) → a ≤ 255 → r ≡ (if b then one_more a else a) → r ≤ 255
small_by true a r small e = omega arith
small_by false a r small e = omega arith

small_role : (word : Word) (h g : held.Words) (r : Role) → IsAdded word h r g → IsSmall h → IsSmall g
small_role word h g (storage s) a small =
    let n : one_more h.storages ≤ 255 = omega arith in
    let s : IsSmall (stored a.0 h) = record { storages = n; counts = small.counts } in
    subst IsSmall (sym a.1.2) s
small_role word h g type_word a small =
    let s : IsSmall (record h { types = with_type word h.types }) = record {
      storages = small.storages;
      counts = λ k. small_by (is_word word (word_of k)) (kept k h.types) (kept k (with_type word h.types)) (small.counts k) (step_count k word h.types);
    } in
    subst IsSmall (sym a) s
small_role word h g const_word a small =
    let s : IsSmall (record h { constant = true }) = record { storages = small.storages; counts = small.counts } in subst IsSmall (sym a) s
small_role word h g restrict_word a small =
    let s : IsSmall (record h { restricted = true }) = record { storages = small.storages; counts = small.counts } in subst IsSmall (sym a) s
small_role word h g function_word a small =
    let s : IsSmall (record h { function = true }) = record { storages = small.storages; counts = small.counts } in subst IsSmall (sym a) s
small_role word h g left_out a small =
    let s : IsSmall (record h { unknown = Some (kw.left_out word) }) = record { storages = small.storages; counts = small.counts } in
    subst IsSmall (sym a) s

small_added : (word : Word) (h : held.Words) → IsSmall h → IsSmall (added word h)
small_added word h small = small_role word h (added word h) (role word) (is_added word h) small

-- 2. All of them, behind what was kept before.

abbrev one_if : spec.Storage → ℕ
one_if no_storage = 0
one_if _ = 1

abbrev or_storage : spec.Storage → spec.Storage → spec.Storage
or_storage first no_storage = first
or_storage first s = s

one_storage : (s : spec.Storage) → has_no_storage s ≡ false → one_if s ≡ 1
one_storage no_storage e = absurd (true≢false e)
one_storage _ e = refl

last_storage : (first s : spec.Storage) → has_no_storage s ≡ false → or_storage first s ≡ s
last_storage first no_storage e = absurd (true≢false e)
last_storage first typedefs e = refl
last_storage first externs e = refl
last_storage first statics e = refl
last_storage first autos e = refl
last_storage first registers e = refl

record TellsAll (h : held.Words) (s : Words) (r : held.Words) : Type 0 where
  unknown : r.unknown ≡ h.unknown
  constant : r.constant ≡ (h.constant || s.constant)
  restricted : r.restricted ≡ (h.restricted || s.restricted)
  function : r.function ≡ (h.function || s.is_function)
  storages : r.storages ≡ min (h.storages + one_if s.storage) 255
  storage : storage_seen r.storage ≡ or_storage (storage_seen h.storage) s.storage
  only : are_types s.types ≡ true
  counts : (k : TypeWord) → kept k r.types ≡ min (kept k h.types + times (word_of k) s.types) 255

abbrev Tells : held.Words → Option Words → held.Words → Type 0
Tells h None r = is_refused r ≡ true
Tells h (Some s) r = TellsAll h s r

or_true : (b : Bool) → (b || true) ≡ true
or_true true = refl
or_true false = refl

two_refused : (unknown : Bool) (n : ℕ) → 2 ≤ n → (unknown || nat_lt 1 n) ≡ true
two_refused true n h = refl
two_refused false n h = grind (arith, nat_tests)

unknown_refused : (known : Bool) (n : ℕ) → known ≡ true → (known || nat_lt 1 n) ≡ true
unknown_refused true n e = refl
unknown_refused false n e = absurd (true≢false (sym e))

-- a storage class
first_storage : (h r : held.Words) (s : Words) (t : Storage) (st : spec.Storage) → storage_seen t ≡ st → has_no_storage st ≡ false
    → s.storage ≡ no_storage → TellsAll (stored t h) s r → TellsAll h (record s { storage = st }) r
first_storage h r s t st seen some none tells = record {
  unknown = tells.unknown;
  constant = tells.constant;
  restricted = tells.restricted;
  function = tells.function;
  storages = (let one : one_if st ≡ 1 = one_storage st some in
      let zero : one_if s.storage ≡ 0 = ap one_if none in
      let was : r.storages ≡ min (one_more h.storages + one_if s.storage) 255 = tells.storages in omega arith);
  storage = tells.storage ∙ ap (or_storage (storage_seen t)) none ∙ seen ∙ sym (last_storage (storage_seen h.storage) st some);
  only = tells.only;
  counts = tells.counts;
}

second_storage : (h r : held.Words) (s : Words) (t : Storage) → one_if s.storage ≡ 1 → TellsAll (stored t h) s r → is_refused r ≡ true
second_storage h r s t one tells =
    two_refused (is_some r.unknown) r.storages (let was : r.storages ≡ min (one_more h.storages + one_if s.storage) 255 = tells.storages in omega arith)

by_storage : (h r : held.Words) (s : Words) (t : Storage) (st was : spec.Storage) → storage_seen t ≡ st → has_no_storage st ≡ false
    → s.storage ≡ was → TellsAll (stored t h) s r → Tells h (with_storage st s was) r
by_storage h r s t st no_storage seen some is tells = first_storage h r s t st seen some is tells
by_storage h r s t st typedefs seen some is tells = second_storage h r s t (ap one_if is) tells
by_storage h r s t st externs seen some is tells = second_storage h r s t (ap one_if is) tells
by_storage h r s t st statics seen some is tells = second_storage h r s t (ap one_if is) tells
by_storage h r s t st autos seen some is tells = second_storage h r s t (ap one_if is) tells
by_storage h r s t st registers seen some is tells = second_storage h r s t (ap one_if is) tells

-- a type specifier
count_by : (b : Bool) (a n r : ℕ) → r ≡ min ((if b then one_more a else a) + n) 255 → r ≡ min (a + (if b then n + 1 else n)) 255
count_by true a n r e = omega arith
count_by false a n r e = e

one_type : (word : Word) (h r : held.Words) (s : Words) → role word ≡ type_word → TellsAll (record h { types = with_type word h.types }) s r
    → TellsAll h (record s { types = word ∷ s.types }) r
one_type word h r s is tells = record {
  unknown = tells.unknown;
  constant = tells.constant;
  restricted = tells.restricted;
  function = tells.function;
  storages = tells.storages;
  storage = tells.storage;
  only = ap (λ b. b && are_types s.types) (ap is_type_role is) ∙ tells.only;
  counts = λ k. count_by (is_word word (word_of k)) (kept k h.types) (times (word_of k) s.types) (kept k r.types)
      (tells.counts k ∙ ap (λ n. min (n + times (word_of k) s.types) 255) (step_count k word h.types));
}

by_role : (word : Word) (h g r : held.Words) (s : Words) (was : Role) → role word ≡ was → IsAdded word h was g → TellsAll g s r
    → Tells h (with_word word was s) r
by_role word h g r s (storage st) is a tells =
    let P : held.Words → Type 0 = λ x. TellsAll x s r in
    by_storage h r s a.0 st s.storage a.1.0 a.1.1 refl (subst P a.1.2 tells)
by_role word h g r s type_word is a tells =
    let P : held.Words → Type 0 = λ x. TellsAll x s r in one_type word h r s is (subst P a tells)
by_role word h g r s const_word is a tells =
    let P : held.Words → Type 0 = λ x. TellsAll x s r in
    let t : TellsAll (record h { constant = true }) s r = subst P a tells in
    record {
      unknown = t.unknown;
      constant = t.constant ∙ sym (or_true h.constant);
      restricted = t.restricted;
      function = t.function;
      storages = t.storages;
      storage = t.storage;
      only = t.only;
      counts = t.counts;
    }
by_role word h g r s restrict_word is a tells =
    let P : held.Words → Type 0 = λ x. TellsAll x s r in
    let t : TellsAll (record h { restricted = true }) s r = subst P a tells in
    record {
      unknown = t.unknown;
      constant = t.constant;
      restricted = t.restricted ∙ sym (or_true h.restricted);
      function = t.function;
      storages = t.storages;
      storage = t.storage;
      only = t.only;
      counts = t.counts;
    }
by_role word h g r s function_word is a tells =
    let P : held.Words → Type 0 = λ x. TellsAll x s r in
    let t : TellsAll (record h { function = true }) s r = subst P a tells in
    record {
      unknown = t.unknown;
      constant = t.constant;
      restricted = t.restricted;
      function = t.function ∙ sym (or_true h.function);
      storages = t.storages;
      storage = t.storage;
      only = t.only;
      counts = t.counts;
    }
by_role word h g r s left_out is a tells =
    unknown_refused (is_some r.unknown) r.storages (ap is_some tells.unknown ∙ ap (λ (x : held.Words). is_some x.unknown) a)

by_said : (word : Word) (h r : held.Words) (o : Option Words) → Tells (added word h) o r → Tells h (and_word word o) r
by_said word h r None tells = tells
by_said word h r (Some s) tells = by_role word h (added word h) r s (role word) refl (is_added word h) tells

same_small : (n : ℕ) → n ≤ 255 → n ≡ min (n + 0) 255
same_small n small = omega arith

or_false : (b : Bool) → b ≡ (b || false)
or_false true = refl
or_false false = refl

all_tell : (words : List Word) (h : held.Words) → IsSmall h → Tells h (said words) (all_added h words)
all_tell [] h small = record {
  unknown = refl;
  constant = or_false h.constant;
  restricted = or_false h.restricted;
  function = or_false h.function;
  storages = same_small h.storages small.storages;
  storage = refl;
  only = refl;
  counts = λ k. same_small (kept k h.types) (small.counts k);
}
all_tell (word ∷ words) h small =
    by_said word h (all_added (added word h) words) (said words) (all_tell words (added word h) (small_added word h small))

-- 3. All of them, behind nothing.

one_at_most : (s : spec.Storage) → one_if s ≤ 1
one_at_most no_storage = omega arith
one_at_most _ = omega arith

no_first : (s : spec.Storage) → or_storage no_storage s ≡ s
no_first no_storage = refl
no_first typedefs = refl
no_first externs = refl
no_first statics = refl
no_first autos = refl
no_first registers = refl

allowed_by : (unknown : Bool) (n : ℕ) → unknown ≡ false → n ≤ 1 → (unknown || nat_lt 1 n) ≡ false
allowed_by true n e few = absurd (true≢false e)
allowed_by false n e few = grind (arith, nat_tests)

nothing_small : IsSmall none_held
nothing_small = record { storages = omega arith; counts = λ k. let e : kept k no_types ≡ 0 = zero_kept k in omega arith }

count_all : (n r a : ℕ) → a ≡ 0 → r ≡ min (a + n) 255 → r ≡ min n 255
count_all n r a z e = omega arith

all_said : (o : Option Words) (r : held.Words) → Tells none_held o r → Says r o
all_said None r tells = tells
all_said (Some s) r tells = record {
  allowed = allowed_by (is_some r.unknown) r.storages (ap is_some tells.unknown)
      (let most : one_if s.storage ≤ 1 = one_at_most s.storage in let was : r.storages ≡ min (0 + one_if s.storage) 255 = tells.storages in omega arith);
  storage = tells.storage ∙ no_first s.storage;
  constant = tells.constant;
  restricted = tells.restricted;
  function = tells.function;
  types = record {
    types = tells.only;
    counts = λ k. count_all (times (word_of k) s.types) (kept k r.types) (kept k no_types) (zero_kept k) (tells.counts k);
  };
}

-- what is kept says what the definition says
pub says_of : (words : List Word) → Says (all_added none_held words) (said words)
says_of words = all_said (said words) (all_added none_held words) (all_tell words none_held nothing_small)
