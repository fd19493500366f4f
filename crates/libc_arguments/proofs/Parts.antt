-- Lemmas on the parts of a call that look at memory.
use Rattle.std.proofs.Common.{
  ◌≡◌,
  ℕ,
  zero,
  suc,
  ◌+◌,
  ◌==◌,
  Bool,
  true,
  false,
  ◌&&◌,
  ◌||◌,
  cond,
  List,
  [],
  ◌∷◌,
  ◌++◌,
  map,
  append_assoc,
  refl,
  ap,
  ap₂,
  sym,
  subst,
  ◌∙◌,
  arith,
  eq-eqb,
  Option,
  Some,
  None,
}
use Rattle.std.specs.Prelude.{Result, Ok, Err}
use Rattle.std.proofs.lemmas.List.{append-nil, map-append}
use Rattle.ub_base.specs.declared.clause.Clause.{Clause}
use Rattle.ub_base.specs.declared.clause.Clause.TheVariants.{Indeterminate}
use Rattle.ub_base.specs.declared.names.Item.{Item}
use Rattle.ub_base.specs.declared.names.Item.TheVariants.{Read, Write, Born, Dies, Alive, Expose, Lookup, Narrow, Input, Output, Ending, Any}
use Rattle.ub_base.specs.declared.names.ObjName.{ObjName}
use Rattle.ub_base.specs.Names.{same_object}
use Rattle.ub_base.proofs.NameLemmas.{same_object_refl}
use Rattle.addr_map.specs.declared.map.Row.{Row}
use Rattle.exposure.specs.Cells.{Cells}
use Rattle.mem_objects.specs.declared.answer.LibAnswer.{LibAnswer}
use Rattle.mem_objects.specs.declared.answer.LibAnswer.TheVariants as answers
use Rattle.mem_spec.specs.Store.{Store, TaggedByte, range_from}
use Rattle.mem_spec.specs.Script.{Script, Give, require, ◌>>=◌, ◌>>◌, Act, Done, Raised, touched, run}
use Rattle.mem_spec.specs.Acts.{all_written, show_each, show_pieces, origins_in}
use Rattle.mem_objects.specs.Loads.{origins_of}
use Rattle.mem_spec.specs.Streams.{Io}
use Rattle.mem_objects.specs.Memory.{Kept, store_of}
use Rattle.libc_spec.specs.Library.{until_zero, is_zero, behind as more_bytes, joins, joined, numbers, read_numbers}
use Rattle.libc_arguments.specs.Parts.{effect, after, CanFollow, is_read, starts_in_read, has_read, is_joined, Gives, Follows, one_more, string_size}
use Rattle.libc_arguments.proofs.Scripts.{then, behind, run_then, behind_done}

-- ---- what items settle and expose
-- a store without what items settle and expose
abbrev pub bare : Store → Store
bare s = record s { exposed = λ x. false; kept = λ e. None }

bare_effect : (i : Item) (s : Store) → bare (effect i s) ≡ bare s
bare_effect (Read x a n) s = refl
bare_effect (Write x a n) s = refl
bare_effect (Born x) s = refl
bare_effect (Dies x) s = refl
bare_effect (Alive x) s = refl
bare_effect (Expose x) s = refl
bare_effect (Lookup a) s = refl
bare_effect (Narrow id x) s = refl
bare_effect Input s = refl
bare_effect Output s = refl
bare_effect Ending s = refl
bare_effect Any s = refl

pub bare_after : (is : List Item) (s : Store) → bare (after is s) ≡ bare s
bare_after [] s = refl
bare_after (i ∷ is) s = bare_after is (effect i s) ∙ bare_effect i s

pub after_life : (is : List Item) (s : Store) (x : ObjName) → (after is s).life x ≡ s.life x
after_life is s x = ap (λ (u : Store). u.life x) (bare_after is s)

pub after_bytes : (is : List Item) (s : Store) (x : ObjName) → (after is s).bytes x ≡ s.bytes x
after_bytes is s x = ap (λ (u : Store). u.bytes x) (bare_after is s)

pub after_append : (is js : List Item) (s : Store) → after (is ++ js) s ≡ after js (after is s)
after_append [] js s = refl
after_append (i ∷ is) js s = after_append is js (effect i s)

pub follow_append : (cells : Cells) (is js : List Item) (s : Store) → CanFollow cells is s → CanFollow cells js (after is s) → CanFollow cells (is ++ js) s
follow_append cells [] js s h k = k
follow_append cells (i ∷ is) js s h k = (h.0, follow_append cells is js (effect i s) h.1 k)

-- ---- reads that follow one another
read_apart : (x : ObjName) (a n : ℕ) (j : Item) (ys : List Item) → is_read j ≡ false → joins (Read x a n) (j ∷ ys) ≡ Read x a n ∷ j ∷ ys
read_apart x a n (Read y b m) ys h = absurd (cc)
read_apart x a n (Write y b m) ys h = refl
read_apart x a n (Born y) ys h = refl
read_apart x a n (Dies y) ys h = refl
read_apart x a n (Alive y) ys h = refl
read_apart x a n (Expose y) ys h = refl
read_apart x a n (Lookup b) ys h = refl
read_apart x a n (Narrow id y) ys h = refl
read_apart x a n Input ys h = refl
read_apart x a n Output ys h = refl
read_apart x a n Ending ys h = refl
read_apart x a n Any ys h = refl

cond_append : (b : Bool) (xs ys zs : List Item) → cond b (xs ++ zs) (ys ++ zs) ≡ cond b xs ys ++ zs
cond_append true xs ys zs = refl
cond_append false xs ys zs = refl

read_over : (x : ObjName) (a n : ℕ) (j : Item) (xs ys : List Item) → joins (Read x a n) (j ∷ (xs ++ ys)) ≡ joins (Read x a n) (j ∷ xs) ++ ys
read_over x a n (Read y b m) xs ys = cond_append (same_object x y && b == a + n) (Read x a (n + m) ∷ xs) (Read x a n ∷ Read y b m ∷ xs) ys
read_over x a n (Write y b m) xs ys = refl
read_over x a n (Born y) xs ys = refl
read_over x a n (Dies y) xs ys = refl
read_over x a n (Alive y) xs ys = refl
read_over x a n (Expose y) xs ys = refl
read_over x a n (Lookup b) xs ys = refl
read_over x a n (Narrow id y) xs ys = refl
read_over x a n Input xs ys = refl
read_over x a n Output xs ys = refl
read_over x a n Ending xs ys = refl
read_over x a n Any xs ys = refl

joins_over : (i : Item) (xs ys : List Item) → starts_in_read ys ≡ false → joins i (xs ++ ys) ≡ joins i xs ++ ys
joins_over (Read x a n) [] [] h = refl
joins_over (Read x a n) [] (j ∷ ys) h = read_apart x a n j ys h
joins_over (Read x a n) (j ∷ xs) ys h = read_over x a n j xs ys
joins_over (Write x a n) xs ys h = refl
joins_over (Born x) xs ys h = refl
joins_over (Dies x) xs ys h = refl
joins_over (Alive x) xs ys h = refl
joins_over (Expose x) xs ys h = refl
joins_over (Lookup a) xs ys h = refl
joins_over (Narrow id x) xs ys h = refl
joins_over Input xs ys h = refl
joins_over Output xs ys h = refl
joins_over Ending xs ys h = refl
joins_over Any xs ys h = refl

cond_first : (b : Bool) (i j k : Item) (is js : List Item) → is_read i ≡ true → is_read j ≡ true → starts_in_read (cond b (i ∷ is) (j ∷ k ∷ js)) ≡ true
cond_first true i j k is js h e = h
cond_first false i j k is js h e = e

read_first : (x : ObjName) (a n : ℕ) (js : List Item) → starts_in_read (joins (Read x a n) js) ≡ true
read_first x a n [] = refl
read_first x a n (Read y b m ∷ js) = cond_first (same_object x y && b == a + n) (Read x a (n + m)) (Read x a n) (Read y b m) js js refl refl
read_first x a n (Write y b m ∷ js) = refl
read_first x a n (Born y ∷ js) = refl
read_first x a n (Dies y ∷ js) = refl
read_first x a n (Alive y ∷ js) = refl
read_first x a n (Expose y ∷ js) = refl
read_first x a n (Lookup b ∷ js) = refl
read_first x a n (Narrow id y ∷ js) = refl
read_first x a n (Input ∷ js) = refl
read_first x a n (Output ∷ js) = refl
read_first x a n (Ending ∷ js) = refl
read_first x a n (Any ∷ js) = refl

starts_joined : (is : List Item) → starts_in_read (joined is) ≡ starts_in_read is
starts_joined [] = refl
starts_joined (Read x a n ∷ is) = read_first x a n (joined is)
starts_joined (Write x a n ∷ is) = refl
starts_joined (Born x ∷ is) = refl
starts_joined (Dies x ∷ is) = refl
starts_joined (Alive x ∷ is) = refl
starts_joined (Expose x ∷ is) = refl
starts_joined (Lookup a ∷ is) = refl
starts_joined (Narrow id x ∷ is) = refl
starts_joined (Input ∷ is) = refl
starts_joined (Output ∷ is) = refl
starts_joined (Ending ∷ is) = refl
starts_joined (Any ∷ is) = refl

pub joined_append : (is js : List Item) → starts_in_read js ≡ false → joined (is ++ js) ≡ joined is ++ joined js
joined_append [] js h = refl
joined_append (i ∷ is) js h = ap (joins i) (joined_append is js h) ∙ joins_over i (joined is) (joined js) (starts_joined js ∙ h)

pub or_false : (a b : Bool) → a || b ≡ false → (a ≡ false) × (b ≡ false)
or_false true b h = absurd (cc)
or_false false b h = (refl, h)

or_both : (a b : Bool) → a ≡ false → b ≡ false → a || b ≡ false
or_both true b h k = absurd (cc)
or_both false b h k = k

pub quiet_starts : (is : List Item) → has_read is ≡ false → starts_in_read is ≡ false
quiet_starts [] h = refl
quiet_starts (i ∷ is) h = (or_false (is_read i) (has_read is) h).0

pub apart_starts : (q : Bool) (is : List Item) → is_joined q is ≡ false → starts_in_read is ≡ false
apart_starts true is h = quiet_starts is h
apart_starts false is h = h

starts_append : (is js : List Item) → starts_in_read is ≡ false → starts_in_read js ≡ false → starts_in_read (is ++ js) ≡ false
starts_append [] js h k = k
starts_append (i ∷ is) js h k = h

quiet_append : (is js : List Item) → has_read is ≡ false → has_read js ≡ false → has_read (is ++ js) ≡ false
quiet_append [] js h k = k
quiet_append (i ∷ is) js h k =
    let e = or_false (is_read i) (has_read is) h in
    or_both (is_read i) (has_read (is ++ js)) e.0 (quiet_append is js e.1 k)

apart_append : (p q : Bool) (is js : List Item) → is_joined p is ≡ false → is_joined q js ≡ false → is_joined (p && q) (is ++ js) ≡ false
apart_append true true is js h k = quiet_append is js h k
apart_append true false is js h k = starts_append is js (quiet_starts is h) k
apart_append false q is js h k = starts_append is js h (apart_starts q js k)

pub joins_quiet : (i : Item) (js : List Item) → is_read i ≡ false → joins i js ≡ i ∷ js
joins_quiet (Read x a n) js h = absurd (cc)
joins_quiet (Write x a n) js h = refl
joins_quiet (Born x) js h = refl
joins_quiet (Dies x) js h = refl
joins_quiet (Alive x) js h = refl
joins_quiet (Expose x) js h = refl
joins_quiet (Lookup a) js h = refl
joins_quiet (Narrow id x) js h = refl
joins_quiet Input js h = refl
joins_quiet Output js h = refl
joins_quiet Ending js h = refl
joins_quiet Any js h = refl

-- what is read behind a quiet part is joined with nothing of it
pub joined_behind : (is js : List Item) → has_read is ≡ false → joined (is ++ js) ≡ joined is ++ joined js
joined_behind [] js h = refl
joined_behind (i ∷ is) js h =
    let e = or_false (is_read i) (has_read is) h in
    ap (joins i) (joined_behind is js e.1) ∙ joins_quiet i (joined is ++ joined js) e.0 ∙ ap (λ (ks : List Item). ks ++ joined js)
    (sym (joins_quiet i (joined is) e.0))

-- so many reads of a byte
abbrev pub units : ObjName → ℕ → ℕ → List Item
units x a zero = []
units x a (suc n) = Read x a 1 ∷ units x (suc a) n

pub joined_units : (x : ObjName) (a n : ℕ) → joined (units x a (suc n)) ≡ Read x a (suc n) ∷ []
joined_units x a zero = refl
joined_units x a (suc n) =
    let next : suc a ≡ a + 1 = omega arith in
    let more : 1 + suc n ≡ suc (suc n) = omega arith in
    ap (joins (Read x a 1)) (joined_units x (suc a) n)
    ∙ ap₂ (λ (b c : Bool). cond (b && c) (Read x a (1 + suc n) ∷ []) (Read x a 1 ∷ Read x (suc a) (suc n) ∷ [])) (same_object_refl x)
    (eq-eqb (suc a) (a + 1) next)
    ∙ ap (λ (k : ℕ). Read x a k ∷ []) more

-- ---- one part after another
pub then_gives : (q r : Bool) (A B : Type 0) (m : Kept) (io : Io) (old mid new : List Item) (p : Script A) (v : A) (k : A → Script B) (w : B) →
    Gives q A m io old mid p v → Gives r B m io mid new (k v) w → Gives (q && r) B m io old new (p >>= k) w
then_gives q r A B m io old mid new p v k w f g = record {
  items = f.items ++ g.items;
  apart = apart_append q r f.items g.items f.apart g.apart;
  added = g.added ∙ ap (λ (is : List Item). is ++ joined g.items) f.added ∙ append_assoc old (joined f.items) (joined g.items) ∙ ap
      (λ (is : List Item). old ++ is) (sym (joined_append f.items g.items (apart_starts r g.items g.apart)));
  done = run_then m.rows p k (after old (store_of m io)) ∙ ap (λ (act : Act A). then act (λ a u. run m.rows (k a) u)) f.done ∙ ap
      (behind f.items) g.done ∙ behind_done f.items g.items w (after new (store_of m io));
  able = λ h. g.able (f.able h);
}

pub behind_raised : {B : Type 0} (is : List Item) (c : Clause) → behind {V = B} is (Raised c) ≡ Raised c
behind_raised [] c = refl
behind_raised {B = B} (i ∷ is) c = ap (touched i) (behind_raised {B = B} is c)

pub then_raises : (q : Bool) (A B : Type 0) (m : Kept) (io : Io) (old mid : List Item) (p : Script A) (v : A) (k : A → Script B) (c : Clause) →
    Gives q A m io old mid p v → run m.rows (k v) (after mid (store_of m io)) ≡ Raised c → run m.rows (p >>= k) (after old (store_of m io)) ≡ Raised c
then_raises q A B m io old mid p v k c f e =
    run_then m.rows p k (after old (store_of m io)) ∙ ap (λ (act : Act A). then act (λ a u. run m.rows (k a) u)) f.done ∙ ap
    (behind f.items) e ∙ behind_raised f.items c

pub raises_then : (A B : Type 0) (rows : List Row) (s : Store) (p : Script A) (k : A → Script B) (c : Clause) →
    run rows p s ≡ Raised c → run rows (p >>= k) s ≡ Raised c
raises_then A B rows s p k c e = run_then rows p k s ∙ ap (λ (act : Act A). then act (λ a u. run rows (k a) u)) e

-- the next part follows on what the first gave
pub then_follows : {C : Type 0} (q u : Bool) (A B : Type 0) (seen : C → B) (r : Result C LibAnswer) (m : Kept) (io : Io) (old mid new : List Item)
    (p : Script A) (v : A) (k : A → Script B) →
    Gives q A m io old mid p v → Follows u seen r m io mid new (k v) → Follows (q && u) seen r m io old new (p >>= k)
then_follows q u A B seen (Ok c) m io old mid new p v k f h = then_gives q u A B m io old mid new p v k (seen c) f h
then_follows q u A B seen (Err answers.NoMemory) m io old mid new p v k f h = tt
then_follows q u A B seen (Err (answers.Raise c)) m io old mid new p v k f h = then_raises q A B m io old mid p v k c f h
then_follows q u A B seen (Err answer) m io old mid new p v k f h = absurd h

-- the first part gave nothing
pub err_follows : {C D : Type 0} (q u : Bool) (A B : Type 0) (seen : C → A) (seen2 : D → B) (e : LibAnswer) (m : Kept) (io : Io) (old mid new : List Item)
    (p : Script A) (k : A → Script B) →
    Follows q seen (Err e) m io old mid p → Follows u seen2 (Err e) m io old new (p >>= k)
err_follows q u A B seen seen2 answers.NoMemory m io old mid new p k h = tt
err_follows q u A B seen seen2 (answers.Raise c) m io old mid new p k h = raises_then A B m.rows (after old (store_of m io)) p k c h
err_follows q u A B seen seen2 answer m io old mid new p k h = absurd h

-- the next part gave nothing
pub fails_then : {C D : Type 0} (A B : Type 0) (seen : C → B) (seen2 : D → B) (e : LibAnswer) (m : Kept) (io : Io) (old mid end new : List Item)
    (p : Script A) (v : A) (k : A → Script B) →
    Gives true A m io old mid p v → Follows true seen (Err e) m io mid end (k v) → Follows true seen2 (Err e) m io old new (p >>= k)
fails_then A B seen seen2 answers.NoMemory m io old mid end new p v k g h = tt
fails_then A B seen seen2 (answers.Raise c) m io old mid end new p v k g h = then_raises true A B m io old mid p v k c g h
fails_then A B seen seen2 e m io old mid end new p v k g h = absurd h

-- a script that gives at once
pub gives_at_once : (q : Bool) (A : Type 0) (m : Kept) (io : Io) (is : List Item) (v : A) → Gives q A m io is is (Give v) v
gives_at_once true A m io is v = record { items = []; apart = refl; added = sym (append-nil is); done = refl; able = λ h. h }
gives_at_once false A m io is v = record { items = []; apart = refl; added = sym (append-nil is); done = refl; able = λ h. h }

-- ---- the bytes of a string
abbrev pub found : (ℕ → TaggedByte) → ℕ → Option ℕ → Option (List TaggedByte)
found f a None = None
found f a (Some k) = Some (range_from f a k)

abbrev pub size_or : ℕ → Option ℕ → ℕ
size_or n None = n
size_or n (Some k) = k

until_more : (x : ObjName) (a n : ℕ) (s : Store) (size : Option ℕ) →
    Done (more_bytes (s.bytes x a ∷ []) (found (s.bytes x) (suc a) size)) (Read x a 1 ∷ (units x (suc a) (size_or n size) ++ [])) s
    ≡ Done (found (s.bytes x) a (one_more size)) (units x a (size_or (suc n) (one_more size))) s
until_more x a n s None = ap (λ (is : List Item). Done None (Read x a 1 ∷ is) s) (append-nil (units x (suc a) n))
until_more x a n s (Some k) = ap (λ (is : List Item). Done (Some (s.bytes x a ∷ range_from (s.bytes x) (suc a) k)) (Read x a 1 ∷ is) s)
    (append-nil (units x (suc a) k))

until_by : (b : Bool) (rows : List Row) (x : ObjName) (a n : ℕ) (s : Store) →
    run rows (until_zero n x (suc a)) s ≡ Done (found (s.bytes x) (suc a) (string_size (s.bytes x) n (suc a)))
    (units x (suc a) (size_or n (string_size (s.bytes x) n (suc a)))) s →
    touched (Read x a 1) (run rows (cond b (Give (Some (s.bytes x a ∷ []))) (until_zero n x (suc a) >>= (λ more. Give (more_bytes (s.bytes x a ∷ []) more))))
    s)
    ≡ Done (found (s.bytes x) a (cond b (Some 1) (one_more (string_size (s.bytes x) n (suc a)))))
    (units x a (size_or (suc n) (cond b (Some 1) (one_more (string_size (s.bytes x) n (suc a)))))) s
until_by true rows x a n s h = refl
until_by false rows x a n s h =
    ap (touched (Read x a 1))
    (run_then rows (until_zero n x (suc a)) (λ more. Give (more_bytes (s.bytes x a ∷ []) more)) s
    ∙ ap (λ (act : Act (Option (List TaggedByte))). then act (λ more u. run rows (Give (more_bytes (s.bytes x a ∷ []) more)) u)) h
    ∙ behind_done (units x (suc a) (size_or n (string_size (s.bytes x) n (suc a)))) []
    (more_bytes (s.bytes x a ∷ []) (found (s.bytes x) (suc a) (string_size (s.bytes x) n (suc a)))) s)
    ∙ until_more x a n s (string_size (s.bytes x) n (suc a))

pub run_until : (rows : List Row) (n : ℕ) (x : ObjName) (a : ℕ) (s : Store) →
    run rows (until_zero n x a) s ≡ Done (found (s.bytes x) a (string_size (s.bytes x) n a)) (units x a (size_or n (string_size (s.bytes x) n a))) s
run_until rows zero x a s = refl
run_until rows (suc n) x a s = until_by (is_zero (s.bytes x a).byte) rows x a n s (run_until rows n x (suc a) s)

-- ---- the numbers of bytes
run_shows : (rows : List Row) (xs : List ObjName) (s : Store) → run rows (show_each xs) s ≡ Done tt (map Expose xs) (after (map Expose xs) s)
run_shows rows [] s = refl
run_shows rows (x ∷ xs) s = ap (touched (Expose x)) (run_shows rows xs (effect (Expose x) s))

shows_append : (xs ys : List ObjName) (s : Store) (act : Act (Unit {0})) →
    act ≡ Done tt (map Expose xs ++ map Expose ys) (after (map Expose ys) (after (map Expose xs) s)) →
    act ≡ Done tt (map Expose (xs ++ ys)) (after (map Expose (xs ++ ys)) s)
shows_append xs ys s act e =
    subst (λ (is : List Item). act ≡ Done tt is (after is s)) (sym (map-append Expose xs ys))
    (subst (λ (u : Store). act ≡ Done tt (map Expose xs ++ map Expose ys) u) (sym (after_append (map Expose xs) (map Expose ys) s)) e)

run_pieces : (rows : List Row) (bs : List TaggedByte) (s : Store) → run rows (show_pieces bs) s ≡ Done tt (map Expose (origins_of bs))
    (after (map Expose (origins_of bs)) s)
run_pieces rows [] s = refl
run_pieces rows (b ∷ bs) s =
    shows_append (origins_in b.byte) (origins_of bs) s (run rows (show_pieces (b ∷ bs)) s)
    (run_then rows (show_each (origins_in b.byte)) (λ v. show_pieces bs) s
    ∙ ap (λ (act : Act (Unit {0})). then act (λ v u. run rows (show_pieces bs) u)) (run_shows rows (origins_in b.byte) s)
    ∙ ap (behind (map Expose (origins_in b.byte))) (run_pieces rows bs (after (map Expose (origins_in b.byte)) s))
    ∙ behind_done (map Expose (origins_in b.byte)) (map Expose (origins_of bs)) tt
    (after (map Expose (origins_of bs)) (after (map Expose (origins_in b.byte)) s)))

shows_quiet : (xs : List ObjName) → has_read (map Expose xs) ≡ false
shows_quiet [] = refl
shows_quiet (x ∷ xs) = shows_quiet xs

joined_shows : (xs : List ObjName) → joined (map Expose xs) ≡ map Expose xs
joined_shows [] = refl
joined_shows (x ∷ xs) = ap (λ (is : List Item). Expose x ∷ is) (joined_shows xs)

follow_shows : (cells : Cells) (xs : List ObjName) (s : Store) → CanFollow cells (map Expose xs) s
follow_shows cells [] s = tt
follow_shows cells (x ∷ xs) s = (tt, follow_shows cells xs (effect (Expose x) s))

-- the numbers are read, and the pieces among the bytes expose
pub numbers_given : (m : Kept) (io : Io) (old new : List Item) (bs : List TaggedByte) → all_written bs ≡ true → new ≡ old ++ map Expose (origins_of bs) →
    Gives true (List ℕ) m io old new (read_numbers bs) (numbers bs)
numbers_given m io old new bs all is = record {
  items = map Expose (origins_of bs);
  apart = shows_quiet (origins_of bs);
  added = is ∙ ap (λ (js : List Item). old ++ js) (sym (joined_shows (origins_of bs)));
  done =
      ap (λ (b : Bool). run m.rows (require b Indeterminate >> (show_pieces bs >> Give (numbers bs))) (after old (store_of m io))) all
      ∙ run_then m.rows (show_pieces bs) (λ v. Give (numbers bs)) (after old (store_of m io))
      ∙ ap (λ (act : Act (Unit {0})). then act (λ v u. run m.rows (Give (numbers bs)) u)) (run_pieces m.rows bs (after old (store_of m io)))
      ∙ behind_done (map Expose (origins_of bs)) [] (numbers bs) (after (map Expose (origins_of bs)) (after old (store_of m io)))
      ∙ ap (λ (js : List Item). Done (numbers bs) js (after (map Expose (origins_of bs)) (after old (store_of m io))))
      (append-nil (map Expose (origins_of bs)))
      ∙ ap (Done (numbers bs) (map Expose (origins_of bs)))
      (sym (after_append old (map Expose (origins_of bs)) (store_of m io)) ∙ ap (λ (js : List Item). after js (store_of m io)) (sym is));
  able = λ h. subst (λ (js : List Item). CanFollow m.cells js (store_of m io)) (sym is)
      (follow_append m.cells old (map Expose (origins_of bs)) (store_of m io) h (follow_shows m.cells (origins_of bs) (after old (store_of m io))));
}

pub numbers_raised : (rows : List Row) (bs : List TaggedByte) (s : Store) → all_written bs ≡ false → run rows (read_numbers bs) s ≡ Raised Indeterminate
numbers_raised rows bs s none = ap (λ (b : Bool). run rows (require b Indeterminate >> (show_pieces bs >> Give (numbers bs))) s) none
