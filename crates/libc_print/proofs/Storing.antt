-- Lemmas on texts that aren't printed, and on calls that store one.
use Rattle.std.proofs.Common.{
  ◌≡◌,
  ℕ,
  zero,
  suc,
  ◌+◌,
  ◌-◌,
  ◌==◌,
  ◌≤◌,
  ◌^◌,
  Bool,
  true,
  false,
  cond,
  ◌&&◌,
  ◌||◌,
  not,
  List,
  [],
  ◌∷◌,
  ◌++◌,
  length,
  take,
  Option,
  Some,
  None,
  Result,
  Ok,
  Err,
  refl,
  ap,
  sym,
  subst,
  ◌∙◌,
  arith,
  pos,
}
use Rattle.std.specs.Prelude.{nat_lt, nat_le}
use Rattle.std.proofs.lemmas.List.{append-nil, length-append, length-take-le}
use Rattle.ub_base.specs.declared.clause.Clause.{Clause}
use Rattle.ub_base.specs.declared.clause.Clause.TheVariants.{LibraryArgument}
use Rattle.ub_base.specs.declared.clause.Cause.TheVariants.{Output as PastOutput}
use Rattle.ub_base.specs.declared.names.ObjName.{ObjName}
use Rattle.ub_base.specs.declared.names.Item.{Item}
use Rattle.ub_base.specs.declared.names.Item.TheVariants.{Read, Write, Born, Dies, Alive, Expose, Lookup, Narrow, Input, Output, Ending, Any}
use Rattle.ub_base.specs.Names.{same_object}
use Rattle.ub_base.proofs.NameLemmas.{same_object_is}
use Rattle.addr_map.specs.declared.map.Row.{Row}
use Rattle.exposure.specs.declared.prov.Prov.{Prov}
use Rattle.mem_objects.specs.declared.value.Value.TheVariants.{Int}
use Rattle.mem_objects.specs.declared.answer.LibAnswer.{LibAnswer}
use Rattle.mem_objects.specs.declared.answer.LibAnswer.TheVariants as answers
use Rattle.mem_spec.specs.Store.{Store}
use Rattle.mem_spec.specs.Script.{
  Touch,
  Ask,
  Get,
  Put,
  Bear,
  Bury,
  Show,
  Find,
  Settle,
  Take,
  Print,
  item_of,
  refuses,
  refused,
  answer,
  left,
  Script,
  Give,
  Raise,
  Finish,
  Exceed,
  Misplace,
  Do,
  require,
  ◌>>=◌,
  ◌>>◌,
  Act,
  Done,
  Raised,
  Ended,
  Outside,
  Unplaced,
  touched,
  run,
}
use Rattle.mem_spec.specs.Acts.{Accessed}
use Rattle.mem_spec.specs.Streams.{Io}
use Rattle.mem_objects.specs.Memory.{Kept, store_of}
use Rattle.libc_spec.specs.Library.{LibValue, number, pointer, pointer_in, argument_at, joins, joined, write_numbers}
use Rattle.libc_spec.specs.Print.{Argument}
use Rattle.libc_spec.specs.Formatted as formatted
use Rattle.libc_spec.specs.Formatted.{short, room, ended, array, Noted, noting, touches, touches_any, placed, store_text, stored_by}
use Rattle.libc_arguments.specs.declared.arguments.Range.{Range}
use Rattle.libc_arguments.specs.Answers.{Answers, AreWithin}
use Rattle.libc_arguments.specs.Parts.{after, CanFollow, Gives, Follows, accessed_if}
use Rattle.libc_arguments.specs.Writes.{FillsRange, target_at, write_items, overwritten}
use Rattle.libc_arguments.proofs.Scripts.{then, behind, run_then, behind_done}
use Rattle.libc_arguments.proofs.Parts.{after_life, joined_append, then_gives, then_raises, raises_then, gives_at_once}
use Rattle.libc_arguments.proofs.Answering.{answers_of}
use Rattle.libc_arguments.proofs.Writing.{write_run}
use Rattle.libc_arguments.proofs.Copying.{writes_apart, writes_joined}
use Rattle.libc_print.specs.Runs.{Prints, printed_text}
use Rattle.libc_print.specs.Calls.{limited, short_text}
use Rattle.libc_print.specs.Stored.{overlaps, noted, storing}
use Rattle.libc_print.proofs.Printing.{then_passes}
use Rattle.libc_print.proofs.Running.{loud}
use Rattle.libc_print.proofs.Ending.{passes_then}

-- ---- one part after another
pub prints_then : {A V B : Type 0} (seen : A → V) (r : Result A LibAnswer) (m : Kept) (io : Io) (old mid new : List Item) (p : Script B) (b : B)
    (k : B → Script V) →
    Gives false B m io old mid p b → Prints seen r m io mid new (k b) → Prints seen r m io old new (p >>= k)
prints_then {V = V} {B = B} seen (Ok a) m io old mid new p b k g h = then_gives false false B V m io old mid new p b k (seen a) g h
prints_then seen (Err answers.NoMemory) m io old mid new p b k g h = tt
prints_then {V = V} {B = B} seen (Err (answers.Raise c)) m io old mid new p b k g h = then_raises false B V m io old mid p b k c g h
prints_then {V = V} {B = B} seen (Err (answers.Outside c n)) m io old mid new p b k g h = then_passes false B V m io old mid p b k c n g h
prints_then seen (Err a) m io old mid new p b k g h = absurd h

pub prints_fails : {A V B C : Type 0} (seen : A → V) (other : C → B) (e : LibAnswer) (m : Kept) (io : Io) (old mid new : List Item) (p : Script B)
    (k : B → Script V) →
    Prints other (Err e) m io old mid p → Prints seen (Err e) m io old new (p >>= k)
prints_fails seen other answers.NoMemory m io old mid new p k h = tt
prints_fails {V = V} {B = B} seen other (answers.Raise c) m io old mid new p k h = raises_then B V m.rows (after old (store_of m io)) p k c h
prints_fails {V = V} {B = B} seen other (answers.Outside c n) m io old mid new p k h = passes_then B V m.rows (after old (store_of m io)) p k c n h
prints_fails seen other e m io old mid new p k h = absurd h

-- a part that passes no limit
pub follows_prints : {A V : Type 0} (seen : A → V) (r : Result A LibAnswer) (m : Kept) (io : Io) (old new : List Item) (p : Script V) →
    Follows true seen r m io old new p → Prints seen r m io old new p
follows_prints {V = V} seen (Ok a) m io old new p h = loud V m io old new p (seen a) h
follows_prints seen (Err answers.NoMemory) m io old new p h = tt
follows_prints seen (Err (answers.Raise c)) m io old new p h = h
follows_prints seen (Err e) m io old new p h = absurd h

-- ---- a text that isn't printed
past_short : (b : Bool) (bytes : List ℕ) (e : LibAnswer) (r : Result (Unit {0}) LibAnswer) (rows : List Row) (s : Store) → r ≡ Err e →
    r ≡ cond b (Err (answers.Outside PastOutput (length bytes))) (Ok tt) →
    (e ≡ answers.Outside PastOutput (length bytes)) × (run rows (cond b (Exceed PastOutput (length bytes)) (Give bytes)) s ≡ Outside PastOutput (length bytes))
past_short true bytes e r rows s err h = (cc, refl)
past_short false bytes e r rows s err h = absurd (cc)

pub too_long : {B : Type 0} (seen : B → List ℕ) (m : Kept) (io : Io) (old new end : List Item) (a : ℕ) (p : Prov) (as' : List Argument) (bytes : List ℕ)
    (e : LibAnswer) (r : Result (Unit {0}) LibAnswer) → Gives false (List ℕ) m io old new (printed_text m.rows a p as') bytes → r ≡ Err e →
    r ≡ cond (nat_lt (2 ^ 24) (length bytes)) (Err (answers.Outside PastOutput (length bytes))) (Ok tt) →
    Prints seen (Err e) m io old end (short_text m.rows a p as')
too_long seen m io old new end a p as' bytes e r g err h =
    let q = past_short (nat_lt (2 ^ 24) (length bytes)) bytes e r m.rows (after new (store_of m io)) err h in
    subst (λ (x : LibAnswer). Prints seen (Err x) m io old end (short_text m.rows a p as')) (sym q.0)
    (then_passes false (List ℕ) (List ℕ) m io old new (printed_text m.rows a p as') bytes short PastOutput (length bytes) g q.1)

kept_short : (b : Bool) (bytes : List ℕ) (r : Result (Unit {0}) LibAnswer) (m : Kept) (io : Io) (is : List Item) → r ≡ Ok tt →
    r ≡ cond b (Err (answers.Outside PastOutput (length bytes))) (Ok tt) →
    Gives false (List ℕ) m io is is (cond b (Exceed PastOutput (length bytes)) (Give bytes)) bytes
kept_short true bytes r m io is ok h = absurd (cc)
kept_short false bytes r m io is ok h = gives_at_once false (List ℕ) m io is bytes

pub short_enough : (m : Kept) (io : Io) (old new : List Item) (a : ℕ) (p : Prov) (as' : List Argument) (bytes : List ℕ) (r : Result (Unit {0}) LibAnswer) →
    Gives false (List ℕ) m io old new (printed_text m.rows a p as') bytes → r ≡ Ok tt →
    r ≡ cond (nat_lt (2 ^ 24) (length bytes)) (Err (answers.Outside PastOutput (length bytes))) (Ok tt) →
    Gives false (List ℕ) m io old new (short_text m.rows a p as') bytes
short_enough m io old new a p as' bytes r g ok h =
    then_gives false false (List ℕ) (List ℕ) m io old new new (printed_text m.rows a p as') bytes short bytes g
    (kept_short (nat_lt (2 ^ 24) (length bytes)) bytes r m io new ok h)

-- ---- where a text is stored
pub array_is : (rows : List Row) (n a : ℕ) (p : Prov) → (n == 0) ≡ false → target_at rows n a p ≡ array rows n (pointer a p)
array_is rows zero a p e = absurd (cc)
array_is rows (suc n) a p e = refl

abbrev pub at_place : List Row → Option ℕ → LibValue → List ℕ → Script formatted.Placed
at_place rows most to bytes = array rows (room most (length bytes)) to >>= (λ at. Give (record { bytes = bytes; at = at }))

pub no_place : {C : Type 0} (seen : C → formatted.Placed) (e : LibAnswer) (m : Kept) (io : Io) (old mid end new : List Item) (a : ℕ) (p : Prov)
    (as' : List Argument) (most : Option ℕ) (to : LibValue) (bytes : List ℕ) → Gives false (List ℕ) m io old mid (short_text m.rows a p as') bytes →
    Follows true (accessed_if m) (Err e) m io mid end (array m.rows (room most (length bytes)) to) →
    Prints seen (Err e) m io old new (placed m.rows most to (pointer a p) as')
no_place seen e m io old mid end new a p as' most to bytes g h =
    prints_then seen (Err e) m io old mid new (short_text m.rows a p as') bytes (at_place m.rows most to) g
    (prints_fails seen (accessed_if m) e m io mid end new (array m.rows (room most (length bytes)) to) (λ at. Give (record { bytes = bytes; at = at }))
    (follows_prints (accessed_if m) (Err e) m io mid end (array m.rows (room most (length bytes)) to) h))

pub place_gives : (m : Kept) (io : Io) (old mid new : List Item) (a : ℕ) (p : Prov) (as' : List Argument) (most : Option ℕ) (to : LibValue)
    (bytes : List ℕ) (target : Option Range) → Gives false (List ℕ) m io old mid (short_text m.rows a p as') bytes →
    Gives true (Option Accessed) m io mid new (array m.rows (room most (length bytes)) to) (accessed_if m target) →
    Gives false formatted.Placed m io old new (placed m.rows most to (pointer a p) as') (record { bytes = bytes; at = accessed_if m target })
place_gives m io old mid new a p as' most to bytes target g h =
    then_gives false false (List ℕ) formatted.Placed m io old mid new (short_text m.rows a p as') bytes (at_place m.rows most to)
    (record { bytes = bytes; at = accessed_if m target }) g
    (then_gives true false (Option Accessed) formatted.Placed m io mid new new (array m.rows (room most (length bytes)) to) (accessed_if m target)
    (λ at. Give (record { bytes = bytes; at = at })) (record { bytes = bytes; at = accessed_if m target }) h
    (gives_at_once false formatted.Placed m io new (record { bytes = bytes; at = accessed_if m target })))

-- ---- a script with its items
then_noted : {V : Type 0} (i : Item) (act : Act V) →
    touched i (then (noted act) (λ (n : Noted V) (u : Store). Done (record { value = n.value; items = i ∷ n.items }) [] u)) ≡ noted (touched i act)
then_noted i (Done v is s) =
    ap (touched i) (behind_done is [] (record { value = v; items = i ∷ is }) s)
    ∙ ap (λ (ks : List Item). Done (record { value = v; items = i ∷ is }) (i ∷ ks) s) (append-nil is)
then_noted i (Raised c) = refl
then_noted i (Ended n is s) = refl
then_noted i (Outside c n) = refl
then_noted i Unplaced = refl

refused_noted : {V : Type 0} (t : Touch) → refused {V = Noted V} t ≡ noted (refused {V = V} t)
refused_noted (Settle id x c) = refl
refused_noted (Ask x) = refl
refused_noted (Get x a n) = refl
refused_noted (Put x a bs) = refl
refused_noted (Bear x n kind declared) = refl
refused_noted (Bury x) = refl
refused_noted (Show x) = refl
refused_noted (Find a) = refl
refused_noted Take = refl
refused_noted (Print to bs) = refl

step_noted : {V : Type 0} (r : Bool) (t : Touch) (a : Act (Noted V)) (b : Act V) → touched (item_of t) a ≡ noted (touched (item_of t) b) →
    cond r (refused {V = Noted V} t) (touched (item_of t) a) ≡ noted (cond r (refused {V = V} t) (touched (item_of t) b))
step_noted true t a b e = refused_noted t
step_noted false t a b e = e

pub run_noting : {V : Type 0} (rows : List Row) (p : Script V) (s : Store) → run rows (noting p) s ≡ noted (run rows p s)
run_noting rows (Give v) s = refl
run_noting rows (Raise c) s = refl
run_noting rows (Finish n) s = refl
run_noting rows (Exceed c n) s = refl
run_noting rows Misplace s = refl
run_noting {V = V} rows (Do t k) s =
    let add : Noted V → Script (Noted V) = λ n. Give (record { value = n.value; items = item_of t ∷ n.items }) in
    step_noted (refuses t s) t (run rows (noting (k (answer rows t s)) >>= add) (left t s)) (run rows (k (answer rows t s)) (left t s))
    (ap (touched (item_of t))
    (run_then rows (noting (k (answer rows t s))) add (left t s)
    ∙ ap (λ (act : Act (Noted V)). then act (λ n u. run rows (add n) u)) (run_noting rows (k (answer rows t s)) (left t s)))
    ∙ then_noted (item_of t) (run rows (k (answer rows t s)) (left t s)))

-- ---- what overlaps
joined_by : (a f n m k : ℕ) →
    (cond (nat_le a f) (nat_lt (f - a) (n + m)) (nat_lt (a - f) k))
    ≡ (cond (nat_le a f) (nat_lt (f - a) n) (nat_lt (a - f) k) || cond (nat_le (a + n) f) (nat_lt (f - (a + n)) m) (nat_lt (a + n - f) k))
joined_by a f n m k = grind arith

both_touch : (b : Bool) (x y z : Bool) (rest : Bool) → x ≡ (y || z) → ((b && x) || rest) ≡ ((b && y) || ((b && z) || rest))
both_touch true true true z rest e = refl
both_touch true true false true rest e = refl
both_touch true true false false rest e = absurd (cc)
both_touch true false true z rest e = absurd (cc)
both_touch true false false true rest e = absurd (cc)
both_touch true false false false rest e = refl
both_touch false x y z rest e = refl

joins_touch : (c : Bool) (o : ObjName) (f k : ℕ) (x : ObjName) (a n : ℕ) (y : ObjName) (b m : ℕ) (is : List Item) →
    (c ≡ true → (x ≡ y) × (b ≡ a + n)) →
    touches_any o f k (cond c (Read x a (n + m) ∷ is) (Read x a n ∷ Read y b m ∷ is)) ≡ touches_any o f k (Read x a n ∷ Read y b m ∷ is)
joins_touch false o f k x a n y b m is h = refl
joins_touch true o f k x a n y b m is h =
    let e = h refl in
    both_touch (same_object x o) (cond (nat_le a f) (nat_lt (f - a) (n + m)) (nat_lt (a - f) k)) (cond (nat_le a f) (nat_lt (f - a) n) (nat_lt (a - f) k))
    (cond (nat_le (a + n) f) (nat_lt (f - (a + n)) m) (nat_lt (a + n - f) k)) (touches_any o f k is) (joined_by a f n m k)
    ∙ ap (λ (z : ObjName). touches_any o f k (Read x a n ∷ Read z (a + n) m ∷ is)) e.0
    ∙ ap (λ (d : ℕ). touches_any o f k (Read x a n ∷ Read y d m ∷ is)) (sym e.1)

and_split : (b c : Bool) → (b && c) ≡ true → (b ≡ true) × (c ≡ true)
and_split true c h = (refl, h)
and_split false c h = absurd (cc)

equal_is : (b c : ℕ) → (b == c) ≡ true → b ≡ c
equal_is b c h = grind arith

one_joined : (o : ObjName) (f k : ℕ) (i : Item) (is : List Item) → touches_any o f k (joins i is) ≡ touches_any o f k (i ∷ is)
one_joined o f k (Read x a n) [] = refl
one_joined o f k (Read x a n) (Read y b m ∷ is) =
    joins_touch (same_object x y && b == a + n) o f k x a n y b m is
    (λ h. let q = and_split (same_object x y) (b == a + n) h in (same_object_is x y q.0, equal_is b (a + n) q.1))
one_joined o f k (Read x a n) (Write y b m ∷ is) = refl
one_joined o f k (Read x a n) (Born y ∷ is) = refl
one_joined o f k (Read x a n) (Dies y ∷ is) = refl
one_joined o f k (Read x a n) (Alive y ∷ is) = refl
one_joined o f k (Read x a n) (Expose y ∷ is) = refl
one_joined o f k (Read x a n) (Lookup b ∷ is) = refl
one_joined o f k (Read x a n) (Narrow id y ∷ is) = refl
one_joined o f k (Read x a n) (Input ∷ is) = refl
one_joined o f k (Read x a n) (Output ∷ is) = refl
one_joined o f k (Read x a n) (Ending ∷ is) = refl
one_joined o f k (Read x a n) (Any ∷ is) = refl
one_joined o f k (Write x a n) is = refl
one_joined o f k (Born x) is = refl
one_joined o f k (Dies x) is = refl
one_joined o f k (Alive x) is = refl
one_joined o f k (Expose x) is = refl
one_joined o f k (Lookup a) is = refl
one_joined o f k (Narrow id x) is = refl
one_joined o f k Input is = refl
one_joined o f k Output is = refl
one_joined o f k Ending is = refl
one_joined o f k Any is = refl

touch_joined : (o : ObjName) (f k : ℕ) (is : List Item) → touches_any o f k (joined is) ≡ touches_any o f k is
touch_joined o f k [] = refl
touch_joined o f k (i ∷ is) = one_joined o f k i (joined is) ∙ ap (λ (b : Bool). touches o f k i || b) (touch_joined o f k is)

same_overlap : (m : Kept) (target : Option Range) (n : ℕ) (is : List Item) → FillsRange n target →
    formatted.overlaps (accessed_if m target) n is ≡ overlaps target (joined is)
same_overlap m None n is h = refl
same_overlap m (Some r) n is h =
    ap (λ (k : ℕ). touches_any r.object r.from k is) h ∙ sym (touch_joined r.object r.from r.len is)

-- ---- the end of a call
clause_is : (c : Clause) (b : Bool) (r : Result (Unit {0}) Clause) → r ≡ Err c → r ≡ cond b (Err LibraryArgument) (Ok tt) → (b ≡ true) × (c ≡ LibraryArgument)
clause_is c true r e h = (refl, cc)
clause_is c false r e h = absurd (cc)

passes_if : (b : Bool) (r : Result (Unit {0}) Clause) → r ≡ Ok tt → r ≡ cond b (Err LibraryArgument) (Ok tt) → b ≡ false
passes_if true r e h = absurd (cc)
passes_if false r e h = refl

-- the text and its place, with the items
noted_gives : (m : Kept) (io : Io) (is : List Item) (script : Script formatted.Placed) (p : formatted.Placed)
    (g : Gives false formatted.Placed m io [] is script p) →
    run m.rows (noting script) (store_of m io) ≡ Done (record { value = p; items = g.items }) g.items (after is (store_of m io))
noted_gives m io is script p g = run_noting m.rows script (store_of m io) ∙ ap noted g.done

stores : (m : Kept) (rows : List Row) (io : Io) (is : List Item) (most : Option ℕ) (script : List Row → Script formatted.Placed) (p : formatted.Placed) →
    rows ≡ m.rows → (g : Gives false formatted.Placed m io [] is (script m.rows) p) →
    run rows (noting (script rows) >>= store_text most) (store_of m io)
    ≡ behind g.items (run m.rows (store_text most (record { value = p; items = g.items })) (after is (store_of m io)))
stores m rows io is most script p same g =
    ap (λ (rs : List Row). run rs (noting (script rs) >>= store_text most) (store_of m io)) same
    ∙ run_then m.rows (noting (script m.rows)) (store_text most) (store_of m io)
    ∙ ap (λ (act : Act (Noted formatted.Placed)). then act (λ v u. run m.rows (store_text most v) u)) (noted_gives m io is (script m.rows) p g)

behind_raises : {B : Type 0} (is : List Item) (c : Clause) → behind {V = B} is (Raised c) ≡ Raised c
behind_raises [] c = refl
behind_raises {B = B} (i ∷ is) c = ap (touched i) (behind_raises {B = B} is c)

text_overlaps : (rows : List Row) (most : Option ℕ) (p : formatted.Placed) (is : List Item) (s : Store) →
    formatted.overlaps p.at (room most (length p.bytes)) is ≡ true → run rows (store_text most (record { value = p; items = is })) s ≡ Raised LibraryArgument
text_overlaps rows most p is s e =
    ap (λ (b : Bool). run rows (require (not b) LibraryArgument >> (write_numbers (ended (room most (length p.bytes)) p.bytes) p.at >>
    Give (number (pos (length p.bytes))))) s) e

text_written : (rows : List Row) (most : Option ℕ) (p : formatted.Placed) (is js : List Item) (s u : Store) →
    formatted.overlaps p.at (room most (length p.bytes)) is ≡ false →
    run rows (write_numbers (ended (room most (length p.bytes)) p.bytes) p.at) s ≡ Done tt js u →
    run rows (store_text most (record { value = p; items = is })) s ≡ Done (number (pos (length p.bytes))) js u
text_written rows most p is js s u e w =
    ap (λ (b : Bool). run rows (require (not b) LibraryArgument >> (write_numbers (ended (room most (length p.bytes)) p.bytes) p.at >>
    Give (number (pos (length p.bytes))))) s) e
    ∙ run_then rows (write_numbers (ended (room most (length p.bytes)) p.bytes) p.at) (λ v. Give (number (pos (length p.bytes)))) s
    ∙ ap (λ (act : Act (Unit {0})). then act (λ v u. run rows (Give (number (pos (length p.bytes)))) u)) w
    ∙ behind_done js [] (number (pos (length p.bytes))) u
    ∙ ap (λ (ks : List Item). Done (number (pos (length p.bytes))) ks u) (append-nil js)

-- as many bytes are stored as there is room for
pub ended_length : (n : ℕ) (bytes : List ℕ) → n ≤ suc (length bytes) → length (ended n bytes) ≡ n
ended_length zero bytes h = refl
ended_length (suc n) bytes h =
    let front : length (take n bytes) ≡ n = length-take-le n bytes (omega (arith, h)) in
    length-append (take n bytes) (0 ∷ []) ∙ ap (λ (k : ℕ). k + 1) front ∙ omega arith

pub room_fits : (most : Option ℕ) (n : ℕ) → room most n ≤ suc n
room_fits None n = search arith
room_fits (Some k) n = search arith

pub store_overlaps : (m : Kept) (io : Io) (is js : List Item) (most : Option ℕ) (script : List Row → Script formatted.Placed) (bytes : List ℕ)
    (target : Option Range) (c : Clause) (r : Result (Unit {0}) Clause) → FillsRange (room most (length bytes)) target →
    Gives false formatted.Placed m io [] is (script m.rows) (record { bytes = bytes; at = accessed_if m target }) → r ≡ Err c →
    r ≡ cond (overlaps target is) (Err LibraryArgument) (Ok tt) →
    Answers (answers.Raise c) js (store_of m io) (limited (run m.rows (noting (script m.rows) >>= store_text most) (store_of m io)))
store_overlaps m io is js most script bytes target c r fills g err h =
    let q = clause_is c (overlaps target is) r err h in
    let over = same_overlap m target (room most (length bytes)) g.items fills ∙ ap (overlaps target) (sym g.added) ∙ q.0 in
    let act : run m.rows (noting (script m.rows) >>= store_text most) (store_of m io) ≡ Raised LibraryArgument =
    stores m m.rows io is most script (record { bytes = bytes; at = accessed_if m target }) refl g
    ∙ ap (behind g.items) (text_overlaps m.rows most (record { bytes = bytes; at = accessed_if m target }) g.items (after is (store_of m io)) over)
    ∙ behind_raises g.items LibraryArgument in
    subst (λ (act : Act LibValue). Answers (answers.Raise c) js (store_of m io) (limited act)) (sym act) q.1

pub store_gives : (m new : Kept) (io : Io) (is js : List Item) (most : Option ℕ) (script : List Row → Script formatted.Placed) (bytes : List ℕ)
    (target : Option Range) (r : Result (Unit {0}) Clause) → AreWithin io → FillsRange (room most (length bytes)) target →
    Gives false formatted.Placed m io [] is (script m.rows) (record { bytes = bytes; at = accessed_if m target }) → r ≡ Ok tt →
    r ≡ cond (overlaps target is) (Err LibraryArgument) (Ok tt) → new.rows ≡ m.rows → js ≡ is ++ write_items target →
    (CanFollow m.cells is (store_of m io) → store_of new io ≡ overwritten target (ended (room most (length bytes)) bytes) (after is (store_of m io))) →
    Answers (answers.Value (Int (pos (length bytes)))) js (store_of new io)
    (limited (run new.rows (noting (script new.rows) >>= store_text most) (store_of m io)))
store_gives m new io is js most script bytes target r within fills g ok h rows more store =
    let p : formatted.Placed = record { bytes = bytes; at = accessed_if m target } in
    let apart = same_overlap m target (room most (length bytes)) g.items fills ∙ ap (overlaps target) (sym g.added) ∙ passes_if (overlaps target is) r ok h in
    let size = ended_length (room most (length bytes)) bytes (room_fits most (length bytes)) in
    let filled : FillsRange (length (ended (room most (length bytes)) bytes)) target = subst (λ (n : ℕ). FillsRange n target) (sym size) fills in
    let act : run new.rows (noting (script new.rows) >>= store_text most) (store_of m io)
    ≡ Done (number (pos (length bytes))) (g.items ++ write_items target)
    (overwritten target (ended (room most (length bytes)) bytes) (after is (store_of m io))) =
    stores m new.rows io is most script p rows g
    ∙ ap (behind g.items) (text_written m.rows most p g.items (write_items target) (after is (store_of m io))
    (overwritten target (ended (room most (length bytes)) bytes) (after is (store_of m io))) apart
    (write_run m.rows m (ended (room most (length bytes)) bytes) target (after is (store_of m io)) filled (λ x. after_life is (store_of m io) x)))
    ∙ behind_done g.items (write_items target) (number (pos (length bytes)))
    (overwritten target (ended (room most (length bytes)) bytes) (after is (store_of m io))) in
    let items : js ≡ joined (g.items ++ write_items target) =
    more ∙ ap (λ (ks : List Item). ks ++ write_items target) g.added ∙ ap (λ (ks : List Item). joined g.items ++ ks) (sym (writes_joined target)) ∙ sym
    (joined_append g.items (write_items target) (writes_apart target)) in
    subst (λ (act : Act LibValue). Answers (answers.Value (Int (pos (length bytes)))) js (store_of new io) (limited act)) (sym act)
    (answers_of (Ok (Int (pos (length bytes)))) js (store_of new io)
    (Done (number (pos (length bytes))) (joined (g.items ++ write_items target))
    (overwritten target (ended (room most (length bytes)) bytes) (after is (store_of m io)))) within
    (refl, items, store (g.able tt)))

-- there is no text or no place for it
pub store_fails : {A : Type 0} (seen : A → formatted.Placed) (e : LibAnswer) (m : Kept) (io : Io) (is : List Item) (most : Option ℕ)
    (script : Script formatted.Placed) → Prints seen (Err e) m io [] is script →
    Answers e is (store_of m io) (limited (run m.rows (noting script >>= store_text most) (store_of m io)))
store_fails seen answers.NoMemory m io is most script h = tt
store_fails seen (answers.Raise c) m io is most script h =
    subst (λ (act : Act LibValue). Answers (answers.Raise c) is (store_of m io) (limited act))
    (sym (raises_then (Noted formatted.Placed) LibValue m.rows (store_of m io) (noting script) (store_text most) c
    (run_noting m.rows script (store_of m io) ∙ ap noted h))) refl
store_fails seen (answers.Outside c n) m io is most script h =
    subst (λ (act : Act LibValue). Answers (answers.Outside c n) is (store_of m io) (limited act))
    (sym (passes_then (Noted formatted.Placed) LibValue m.rows (store_of m io) (noting script) (store_text most) c n
    (run_noting m.rows script (store_of m io) ∙ ap noted h))) (refl, refl)
store_fails seen e m io is most script h = absurd h

-- ---- the definition of sprintf
array_pointer : (rows : List Row) (n : ℕ) (v : LibValue) → array rows n (pointer_in v) ≡ array rows n v
array_pointer rows zero v = refl
array_pointer rows (suc n) v = refl

placed_pointer : (rows : List Row) (most : Option ℕ) (v f : LibValue) (as' : List Argument) → placed rows most (pointer_in v) f as' ≡ placed rows most v f as'
placed_pointer rows most v f as' = λ i. formatted.short_text rows f as' >>=
    (λ bytes. array_pointer rows (room most (length bytes)) v i >>= (λ at. Give (record { bytes = bytes; at = at })))

pub stored_called : (rows : List Row) (vs : List LibValue) (i j : ℕ) (most : Option ℕ) (as' : List Argument) (a b : ℕ) (p q : Prov) (s t : Store)
    (is : List Item) (e : LibAnswer) → pointer a p ≡ pointer_in (argument_at vs i) → pointer b q ≡ pointer_in (argument_at vs j) →
    Answers e is t (limited (run rows (storing most (placed rows most (pointer a p) (pointer b q) as')) s)) →
    Answers e is t (stored_by rows most (argument_at vs i) (argument_at vs j) as' s)
stored_called rows vs i j most as' a b p q s t is e to format h =
    subst (λ (x : Script formatted.Placed). Answers e is t (limited (run rows (storing most x) s)))
    (placed_pointer rows most (argument_at vs i) (argument_at vs j) as')
    (subst (λ (f : LibValue). Answers e is t (limited (run rows (storing most (placed rows most (pointer_in (argument_at vs i)) f as')) s))) format
    (subst (λ (v : LibValue). Answers e is t (limited (run rows (storing most (placed rows most v (pointer b q) as')) s))) to h))
