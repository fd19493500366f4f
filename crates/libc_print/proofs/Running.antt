-- Lemmas on the parts of a call that add bytes to its text.
use Rattle.std.proofs.Common.{
  ◌≡◌,
  ℕ,
  suc,
  ◌+◌,
  ◌-◌,
  ◌<◌,
  ◌≤◌,
  Bool,
  true,
  false,
  List,
  [],
  ◌∷◌,
  ◌++◌,
  length,
  drop,
  map,
  Result,
  Ok,
  Err,
  Some,
  refl,
  sym,
  ap,
  ap₂,
  ◌∙◌,
  subst,
  arith,
  append_assoc,
}
use Rattle.std.proofs.lemmas.List.{length-drop, append-nil}
use Rattle.ub_base.specs.declared.clause.Clause.{Clause}
use Rattle.ub_base.specs.declared.names.Item.{Item}
use Rattle.ub_base.specs.declared.names.Item.TheVariants.{Expose}
use Rattle.ub_base.specs.declared.names.ObjName.{ObjName}
use Rattle.addr_map.specs.declared.map.Row.{Row}
use Rattle.exposure.specs.declared.prov.Prov.{Prov}
use Rattle.exposure.specs.Cells.{Cells}
use Rattle.mem_objects.specs.declared.answer.LibAnswer.{LibAnswer}
use Rattle.mem_objects.specs.declared.answer.LibAnswer.TheVariants as answers
use Rattle.mem_spec.specs.Store.{Store}
use Rattle.mem_spec.specs.Script.{Script, Give, Raise as RaiseOf, Exceed, ◌>>=◌, Done, Raised, Outside as ActOutside, touched, run}
use Rattle.mem_spec.specs.Acts.{candidates, show_each, expose}
use Rattle.mem_spec.specs.Streams.{Io}
use Rattle.mem_objects.specs.Memory.{Kept, store_of}
use Rattle.libc_spec.specs.Library.{Text, text, read_numbers, without_zero, joined}
use Rattle.libc_spec.specs.Directives as directives
use Rattle.libc_spec.specs.Directives.{directive_of, form, taken}
use Rattle.libc_spec.specs.Print.{Argument, Taken, Step, Field, put, step, text_of, field, address_parts, one}
use Rattle.libc_arguments.specs.declared.arguments.Range.{Range}
use Rattle.libc_arguments.specs.Parts.{after, effect, CanFollow, has_read, Gives, Follows, ReadsAll, bytes_of, text_in}
use Rattle.libc_arguments.proofs.Scripts.{behind}
use Rattle.libc_arguments.proofs.Parts.{then_gives, then_raises, raises_then, gives_at_once, quiet_starts, after_append, follow_append}
use Rattle.libc_arguments.proofs.Reading.{reads_follow}
use Rattle.libc_directives.specs.declared.refusal.Refusal.{Refusal}
use Rattle.libc_directives.specs.declared.refusal.Refusal.TheVariants.{Raise, Outside, NoMemory}
use Rattle.libc_directives.specs.Seen.{digits_of, address_parts_of}
use Rattle.libc_directives.specs.Answers.{PutsBytes, Puts, answer_of}
use Rattle.libc_print.specs.Answers.{Steps}
use Rattle.libc_print.specs.Runs.{Prints, printed_text, Added, Adds, directive_bytes, step_bytes}
use Rattle.libc_print.proofs.Stepping.{sized_step}
use Rattle.libc_print.proofs.Printing.{then_passes, with_format, with_numbers, text_without}
use Rattle.libc_print.proofs.Ending.{passes_then}

-- ---- one part after another
pub loud : (V : Type 0) (m : Kept) (io : Io) (old new : List Item) (s : Script V) (v : V) → Gives true V m io old new s v → Gives false V m io old new s v
loud V m io old new s v g = record { items = g.items; apart = quiet_starts g.items g.apart; added = g.added; done = g.done; able = g.able }

pub follows_same : {A V : Type 0} (q : Bool) (seen : A → V) (r : Result A LibAnswer) (m : Kept) (io : Io) (old new : List Item) (p s : Script V) →
    run m.rows p (after old (store_of m io)) ≡ run m.rows s (after old (store_of m io)) → Follows q seen r m io old new p → Follows q seen r m io old new s
follows_same q seen (Ok a) m io old new p s e h = record { items = h.items; apart = h.apart; added = h.added; done = sym e ∙ h.done; able = h.able }
follows_same q seen (Err answers.NoMemory) m io old new p s e h = tt
follows_same q seen (Err (answers.Raise c)) m io old new p s e h = sym e ∙ h
follows_same q seen (Err a) m io old new p s e h = absurd h

pub adds_behind : {A V B : Type 0} (seen : A → List ℕ → V) (r : Result A LibAnswer) (m : Kept) (io : Io) (old mid new : List Item) (before out : List ℕ)
    (p : Script B) (b : B) (k : B → Script V) →
    Gives false B m io old mid p b → Adds seen r m io mid new before out (k b) → Adds seen r m io old new before out (p >>= k)
adds_behind {V = V} {B = B} seen (Ok a) m io old mid new before out p b k g h = record {
  bytes = h.bytes;
  more = h.more;
  gives = then_gives false false B V m io old mid new p b k (seen a h.bytes) g h.gives;
}
adds_behind seen (Err answers.NoMemory) m io old mid new before out p b k g h = tt
adds_behind {V = V} {B = B} seen (Err (answers.Raise c)) m io old mid new before out p b k g h = then_raises false B V m io old mid p b k c g h
adds_behind {V = V} {B = B} seen (Err (answers.Outside c n)) m io old mid new before out p b k g h = then_passes false B V m io old mid p b k c n g h
adds_behind seen (Err a) m io old mid new before out p b k g h = absurd h

-- the first part fails
pub adds_fails : {A V B C : Type 0} (seen : A → List ℕ → V) (other : C → B) (e : LibAnswer) (m : Kept) (io : Io) (old mid new : List Item)
    (before out : List ℕ) (p : Script B) (k : B → Script V) →
    Follows false other (Err e) m io old mid p → Adds seen (Err e) m io old new before out (p >>= k)
adds_fails seen other answers.NoMemory m io old mid new before out p k h = tt
adds_fails {V = V} {B = B} seen other (answers.Raise c) m io old mid new before out p k h = raises_then B V m.rows (after old (store_of m io)) p k c h
adds_fails seen other e m io old mid new before out p k h = absurd h

-- an argument that is refused
pub adds_refused : {A V B : Type 0} (seen : A → List ℕ → V) (c : Clause) (m : Kept) (io : Io) (old new : List Item) (before out : List ℕ) (p : Script B)
    (k : B → Script V) →
    RaiseOf c ≡ p → Adds seen (Err (answers.Raise c)) m io old new before out (p >>= k)
adds_refused {V = V} seen c m io old new before out p k e = ap (λ p. run m.rows (p >>= k) (after old (store_of m io))) (sym e)

-- one that is taken
pub adds_taken : {A V B : Type 0} (seen : A → List ℕ → V) (r : Result A LibAnswer) (m : Kept) (io : Io) (old new : List Item) (before out : List ℕ) (b : B)
    (p : Script B) (k : B → Script V) →
    Give b ≡ p → Adds seen r m io old new before out (k b) → Adds seen r m io old new before out (p >>= k)
adds_taken seen r m io old new before out b p k e h = subst (λ p. Adds seen r m io old new before out (p >>= k)) e h

-- ---- one directive
abbrev pub answered_by : Result (Unit {0}) Refusal → Result (Unit {0}) LibAnswer
answered_by (Ok u) = Ok u
answered_by (Err e) = Err (answer_of e)

-- the bytes of its field
pub field_adds : (r : Result (Unit {0}) Refusal) (m : Kept) (io : Io) (is : List Item) (before out : List ℕ) (rest : List Argument) (s : Script (List ℕ)) →
    PutsBytes r before out s → Adds (directive_bytes rest) (answered_by r) m io is is before out (s >>= (λ bytes. one bytes rest))
field_adds (Err NoMemory) m io is before out rest s h = tt
field_adds (Ok u) m io is before out rest (Give bytes) h = record {
  bytes = bytes;
  more = h;
  gives = gives_at_once false (Taken (List ℕ)) m io is (record { item = bytes; rest = rest });
}
field_adds (Err (Raise c)) m io is before out rest (RaiseOf d) h = ap Raised (sym h)
field_adds (Err (Outside c n)) m io is before out rest (Exceed d k) h = ap₂ ActOutside (sym h.0) (sym h.1)
field_adds r m io is before out rest s h = absurd h

-- a directive that looks at no memory
pub puts_run : (r : Result (Unit {0}) Refusal) (m : Kept) (io : Io) (is : List Item) (before out : List ℕ) (rest : List Argument)
    (s : Script (Taken (List ℕ))) →
    Puts r before out rest s → Adds (directive_bytes rest) (answered_by r) m io is is before out s
puts_run (Err NoMemory) m io is before out rest s h = tt
puts_run (Ok u) m io is before out rest (Give given) h =
    let q : given ≡ directive_bytes rest u given.item = ap (λ (l : List Argument). directive_bytes l u given.item) (sym h.1) in
    record {
      bytes = given.item;
      more = h.0;
      gives = subst (λ (v : Taken (List ℕ)). Gives false (Taken (List ℕ)) m io is is (Give given) v) q (gives_at_once false (Taken (List ℕ)) m io is given);
    }
puts_run (Err (Raise c)) m io is before out rest (RaiseOf d) h = ap Raised (sym h)
puts_run (Err (Outside c n)) m io is before out rest (Exceed d k) h = ap₂ ActOutside (sym h.0) (sym h.1)
puts_run r m io is before out rest s h = absurd h

-- an address with its digits, opened
pub address_opened : (r : Result (Unit {0}) Refusal) (old new : List ℕ) (a : ℕ) (g : Field) → PutsBytes r old new (field (address_parts_of a) g) →
    PutsBytes r old new (field (address_parts a) g)
unfolding digits_of
address_opened r old new a g h = h

-- a pointer is exposed
run_shows : (rows : List Row) (xs : List ObjName) (s : Store) → run rows (show_each xs) s ≡ Done tt (map Expose xs) (after (map Expose xs) s)
run_shows rows [] s = refl
run_shows rows (x ∷ xs) s = ap (touched (Expose x)) (run_shows rows xs (effect (Expose x) s))

shows_quiet : (xs : List ObjName) → has_read (map Expose xs) ≡ false
shows_quiet [] = refl
shows_quiet (x ∷ xs) = shows_quiet xs

joined_shows : (xs : List ObjName) → joined (map Expose xs) ≡ map Expose xs
joined_shows [] = refl
joined_shows (x ∷ xs) = ap (λ (is : List Item). Expose x ∷ is) (joined_shows xs)

follow_shows : (cells : Cells) (xs : List ObjName) (s : Store) → CanFollow cells (map Expose xs) s
follow_shows cells [] s = tt
follow_shows cells (x ∷ xs) s = (tt, follow_shows cells xs (effect (Expose x) s))

pub show_gives : (m : Kept) (io : Io) (old new : List Item) (prov : Prov) → new ≡ old ++ map Expose (candidates prov) →
    Gives true (Unit {0}) m io old new (expose prov) tt
show_gives m io old new prov is = record {
  items = map Expose (candidates prov);
  apart = shows_quiet (candidates prov);
  added = is ∙ ap (λ (js : List Item). old ++ js) (sym (joined_shows (candidates prov)));
  done =
      run_shows m.rows (candidates prov) (after old (store_of m io))
      ∙ ap (Done tt (map Expose (candidates prov)))
      (sym (after_append old (map Expose (candidates prov)) (store_of m io)) ∙ ap (λ (js : List Item). after js (store_of m io)) (sym is));
  able = λ h. subst (λ (js : List Item). CanFollow m.cells js (store_of m io)) (sym is)
      (follow_append m.cells old (map Expose (candidates prov)) (store_of m io) h (follow_shows m.cells (candidates prov) (after old (store_of m io))));
}

-- ---- one step
-- a step that looks at no memory
pub steps_run : (r : Result ℕ LibAnswer) (m : Kept) (io : Io) (old new : List Item) (before out : List ℕ) (rest : List Argument) (s : Script Step) →
    new ≡ old →
    Steps r before out rest s → Adds (step_bytes rest) r m io old new before out s
steps_run (Err answers.NoMemory) m io old new before out rest s e h = tt
steps_run (Ok n) m io old new before out rest (Give st) e h =
    let q : st ≡ step_bytes rest n st.bytes = ap₂ (λ (k : ℕ) (l : List Argument). step_bytes l k st.bytes) (sym h.2) (sym h.1) in
    record {
      bytes = st.bytes;
      more = h.0;
      gives = subst (λ (is : List Item). Gives false Step m io old is (Give st) (step_bytes rest n st.bytes)) (sym e)
          (subst (λ (v : Step). Gives false Step m io old old (Give st) v) q (gives_at_once false Step m io old st));
    }
steps_run (Err (answers.Raise c)) m io old new before out rest (RaiseOf d) e h = ap Raised (sym h)
steps_run (Err (answers.Outside c n)) m io old new before out rest (Exceed d k) e h = ap₂ ActOutside (sym h.0) (sym h.1)
steps_run r m io old new before out rest s e h = absurd h

step_taken : (rows : List Row) (c at : ℕ) (cs : List ℕ) (as' : List Argument) (d : directives.Directive) → c ≡ 37 → directive_of cs ≡ Some d → form d ≡ taken →
    put rows d as' >>= sized_step d.len ≡ step rows c cs at as'
step_taken rows c at cs as' d e f g = rw (e, f, g) refl

abbrev pub step_of : ℕ → Result (Unit {0}) LibAnswer → Result ℕ LibAnswer
step_of n (Ok u) = Ok n
step_of n (Err e) = Err e

sized_adds : (r : Result (Unit {0}) LibAnswer) (n : ℕ) (m : Kept) (io : Io) (old new : List Item) (before out : List ℕ) (rest : List Argument)
    (s : Script (Taken (List ℕ))) →
    Adds (directive_bytes rest) r m io old new before out s → Adds (step_bytes rest) (step_of n r) m io old new before out (s >>= sized_step n)
sized_adds (Ok u) n m io old new before out rest s h = record {
  bytes = h.bytes;
  more = h.more;
  gives = then_gives false true (Taken (List ℕ)) Step m io old new new s (directive_bytes rest u h.bytes) (sized_step n) (step_bytes rest n h.bytes) h.gives
      (gives_at_once true Step m io new (step_bytes rest n h.bytes));
}
sized_adds (Err answers.NoMemory) n m io old new before out rest s h = tt
sized_adds (Err (answers.Raise c)) n m io old new before out rest s h =
    raises_then (Taken (List ℕ)) Step m.rows (after old (store_of m io)) s (sized_step n) c h
sized_adds (Err (answers.Outside c k)) n m io old new before out rest s h =
    passes_then (Taken (List ℕ)) Step m.rows (after old (store_of m io)) s (sized_step n) c k h
sized_adds (Err a) n m io old new before out rest s h = absurd h

-- a directive that looks at memory
pub steps_pointed : (r : Result (Unit {0}) LibAnswer) (m : Kept) (io : Io) (old new : List Item) (c at : ℕ) (cs before out : List ℕ)
    (as' rest : List Argument) (d : directives.Directive) →
    c ≡ 37 → (directive_of cs ≡ Some d) × (form d ≡ taken) → Adds (directive_bytes rest) r m io old new before out (put m.rows d as') →
    Adds (step_bytes rest) (step_of d.len r) m io old new before out (step m.rows c cs at as')
steps_pointed r m io old new c at cs before out as' rest d e f h =
    subst (λ s. Adds (step_bytes rest) (step_of d.len r) m io old new before out s) (step_taken m.rows c at cs as' d e f.0 f.1)
    (sized_adds r d.len m io old new before out rest (put m.rows d as') h)

-- ---- the steps of a format
-- from here the text ends so
abbrev pub Ends : Result (List ℕ) LibAnswer → Kept → Io → (now end : List Item) → (out : List ℕ) → Script (List ℕ) → Type 0
Ends (Ok v) m io now end out s = Added (List ℕ) (λ bytes. bytes) m io now end out v s
Ends (Err e) m io now end out s = Prints {A = List ℕ} (λ v. v) (Err e) m io now end s

-- what is left of a format leads to its text
pub record Leads (m : Kept) (io : Io) (fuel at : ℕ) (whole : Script (List ℕ)) (start now : List Item) (out cs : List ℕ) (as' : List Argument) : Type 0 where
  pub leads : (r : Result (List ℕ) LibAnswer) (end : List Item) → Ends r m io now end out (text_of fuel m.rows at cs as') →
      Prints {A = List ℕ} (λ v. v) r m io start end whole

first_ends : (r : Result (List ℕ) LibAnswer) (m : Kept) (io : Io) (now end : List Item) (out : List ℕ) (s : Script (List ℕ)) → out ≡ [] →
    Ends r m io now end out s → Prints {A = List ℕ} (λ v. v) r m io now end s
first_ends (Ok v) m io now end out s e h =
    let q : h.bytes ≡ v = sym (h.more ∙ ap (λ (l : List ℕ). l ++ h.bytes) e) in
    subst (λ (l : List ℕ). Gives false (List ℕ) m io now end s l) q h.gives
first_ends (Err a) m io now end out s e h = h

leads_first : (m : Kept) (io : Io) (fuel : ℕ) (start : List Item) (out cs : List ℕ) (as' : List Argument) → out ≡ [] →
    Leads m io fuel 0 (text_of fuel m.rows 0 cs as') start start out cs as'
leads_first m io fuel start out cs as' e = record { leads = λ r end h. first_ends r m io start end out (text_of fuel m.rows 0 cs as') e h }

-- the bytes of a step stand before those of the steps behind it
ends_step : (r : Result (List ℕ) LibAnswer) (m : Kept) (io : Io) (now next end : List Item) (n at fuel : ℕ) (out new cs : List ℕ) (rest : List Argument)
    (s : Script Step) → Added Step (step_bytes rest n) m io now next out new s →
    Ends r m io next end new (text_of fuel m.rows (at + 1 + n) (drop n cs) rest) →
    Ends r m io now end out (s >>= (λ st. text_of fuel m.rows (at + 1 + st.len) (drop st.len cs) st.rest >>= (λ more. Give (st.bytes ++ more))))
ends_step (Ok v) m io now next end n at fuel out new cs rest s h t = record {
  bytes = h.bytes ++ t.bytes;
  more = t.more ∙ ap (λ (l : List ℕ). l ++ t.bytes) h.more ∙ append_assoc out h.bytes t.bytes;
  gives = then_gives false false Step (List ℕ) m io now next end s (step_bytes rest n h.bytes)
      (λ st. text_of fuel m.rows (at + 1 + st.len) (drop st.len cs) st.rest >>= (λ more. Give (st.bytes ++ more))) (h.bytes ++ t.bytes) h.gives
      (then_gives false true (List ℕ) (List ℕ) m io next end end (text_of fuel m.rows (at + 1 + n) (drop n cs) rest) t.bytes (λ more. Give (h.bytes ++ more))
      (h.bytes ++ t.bytes) t.gives (gives_at_once true (List ℕ) m io end (h.bytes ++ t.bytes)));
}
ends_step (Err answers.NoMemory) m io now next end n at fuel out new cs rest s h t = tt
ends_step (Err (answers.Raise c)) m io now next end n at fuel out new cs rest s h t =
    then_raises false Step (List ℕ) m io now next s (step_bytes rest n h.bytes)
    (λ st. text_of fuel m.rows (at + 1 + st.len) (drop st.len cs) st.rest >>= (λ more. Give (st.bytes ++ more))) c h.gives
    (raises_then (List ℕ) (List ℕ) m.rows (after next (store_of m io)) (text_of fuel m.rows (at + 1 + n) (drop n cs) rest)
    (λ more. Give (h.bytes ++ more)) c t)
ends_step (Err (answers.Outside c k)) m io now next end n at fuel out new cs rest s h t =
    then_passes false Step (List ℕ) m io now next s (step_bytes rest n h.bytes)
    (λ st. text_of fuel m.rows (at + 1 + st.len) (drop st.len cs) st.rest >>= (λ more. Give (st.bytes ++ more))) c k h.gives
    (passes_then (List ℕ) (List ℕ) m.rows (after next (store_of m io)) (text_of fuel m.rows (at + 1 + n) (drop n cs) rest)
    (λ more. Give (h.bytes ++ more)) c k t)
ends_step (Err a) m io now next end n at fuel out new cs rest s h t = absurd t

leads_next : (m : Kept) (io : Io) (fuel at c n : ℕ) (whole : Script (List ℕ)) (start now next : List Item) (out new cs : List ℕ) (as' rest : List Argument) →
    Leads m io (suc fuel) at whole start now out (c ∷ cs) as' → Added Step (step_bytes rest n) m io now next out new (step m.rows c cs at as') →
    Leads m io fuel (at + 1 + n) whole start next new (drop n cs) rest
leads_next m io fuel at c n whole start now next out new cs as' rest h s = record {
  leads = λ r end t. h.leads r end (ends_step r m io now next end n at fuel out new cs rest (step m.rows c cs at as') s t);
}

-- a step that is refused ends the text
refused_ends : (e : LibAnswer) (m : Kept) (io : Io) (now next end : List Item) (out new : List ℕ) (rest : List Argument) (s : Script Step)
    (k : Step → Script (List ℕ)) →
    Adds (step_bytes rest) (Err e) m io now next out new s → Ends (Err e) m io now end out (s >>= k)
refused_ends answers.NoMemory m io now next end out new rest s k h = tt
refused_ends (answers.Raise c) m io now next end out new rest s k h = raises_then Step (List ℕ) m.rows (after now (store_of m io)) s k c h
refused_ends (answers.Outside c n) m io now next end out new rest s k h = passes_then Step (List ℕ) m.rows (after now (store_of m io)) s k c n h
refused_ends e m io now next end out new rest s k h = absurd h

leads_refused : (m : Kept) (io : Io) (fuel at c : ℕ) (e : LibAnswer) (whole : Script (List ℕ)) (start now next end : List Item) (out new cs : List ℕ)
    (as' rest : List Argument) →
    Leads m io (suc fuel) at whole start now out (c ∷ cs) as' → Adds (step_bytes rest) (Err e) m io now next out new (step m.rows c cs at as') →
    Prints {A = List ℕ} (λ v. v) (Err e) m io start end whole
leads_refused m io fuel at c e whole start now next end out new cs as' rest h s =
    h.leads (Err e) end (refused_ends e m io now next end out new rest (step m.rows c cs at as')
    (λ st. text_of fuel m.rows (at + 1 + st.len) (drop st.len cs) st.rest >>= (λ more. Give (st.bytes ++ more))) s)

none_ends : (m : Kept) (io : Io) (now : List Item) (out : List ℕ) → Added (List ℕ) (λ bytes. bytes) m io now now out out (Give [])
none_ends m io now out = record { bytes = []; more = sym (append-nil out); gives = gives_at_once false (List ℕ) m io now [] }

leads_end : (m : Kept) (io : Io) (fuel at : ℕ) (whole : Script (List ℕ)) (start now : List Item) (out cs : List ℕ) (as' : List Argument) → cs ≡ [] →
    Leads m io (suc fuel) at whole start now out cs as' → Gives false (List ℕ) m io start now whole out
leads_end m io fuel at whole start now out cs as' e h =
    h.leads (Ok out) now (subst (λ (l : List ℕ). Added (List ℕ) (λ bytes. bytes) m io now now out out (text_of (suc fuel) m.rows at l as')) (sym e)
    (none_ends m io now out))

-- ---- one turn of the loop over a format
turn_more : (len turn : ℕ) → turn < len → suc len - turn ≡ suc (suc len - (turn + 1))
turn_more len turn h = omega (arith, h)

offset_more : (len turn at n l : ℕ) (cs : List ℕ) → suc (length cs) + turn ≤ len → at ≡ len - suc (length cs) → n ≤ length cs → l ≡ length cs - n →
    at + 1 + n ≡ len - l
offset_more len turn at n l cs h e k q = omega (arith, h, e, k, q)

pub leads_begins : (m : Kept) (io : Io) (len : ℕ) (start : List Item) (out cs : List ℕ) (as' : List Argument) → out ≡ [] → len ≡ length cs →
    Leads m io (suc len - 0) (len - length cs) (text_of (suc len) m.rows 0 cs as') start start out cs as'
leads_begins m io len start out cs as' e l =
    let q : 0 ≡ len - length cs = omega (arith, l) in
    let f : suc len ≡ suc len - 0 = search arith in
    subst (λ (fuel : ℕ). Leads m io fuel (len - length cs) (text_of (suc len) m.rows 0 cs as') start start out cs as') f
    (subst (λ (at : ℕ). Leads m io (suc len) at (text_of (suc len) m.rows 0 cs as') start start out cs as') q (leads_first m io (suc len) start out cs as' e))

leads_here : (m : Kept) (io : Io) (len turn at c : ℕ) (whole : Script (List ℕ)) (start now : List Item) (out all cs : List ℕ) (as' : List Argument) →
    turn < len → at ≡ len - length all → all ≡ c ∷ cs →
    Leads m io (suc len - turn) (len - length all) whole start now out all as' → Leads m io (suc (suc len - (turn + 1))) at whole start now out (c ∷ cs) as'
leads_here m io len turn at c whole start now out all cs as' t e d h =
    subst (λ (f : ℕ). Leads m io f at whole start now out (c ∷ cs) as') (turn_more len turn t)
    (subst (λ (l : List ℕ). Leads m io (suc len - turn) at whole start now out l as') d
    (subst (λ (p : ℕ). Leads m io (suc len - turn) p whole start now out all as') (sym e) h))

pub leads_turn : (m : Kept) (io : Io) (len turn at c n : ℕ) (whole : Script (List ℕ)) (start now next : List Item) (out new all cs behind : List ℕ)
    (as' rest : List Argument) →
    turn < len → length all + turn ≤ len → n ≤ length cs → at ≡ len - length all → all ≡ c ∷ cs → behind ≡ drop n cs →
    Leads m io (suc len - turn) (len - length all) whole start now out all as' →
    Added Step (step_bytes rest n) m io now next out new (step m.rows c cs at as') →
    Leads m io (suc len - (turn + 1)) (len - length behind) whole start next new behind rest
leads_turn m io len turn at c n whole start now next out new all cs behind as' rest t fits small e d b h s =
    let f : ℕ = suc len - (turn + 1) in
    let a : at ≡ len - suc (length cs) = e ∙ ap (λ (l : List ℕ). len - length l) d in
    let g : suc (length cs) + turn ≤ len = subst (λ (l : List ℕ). length l + turn ≤ len) d fits in
    subst (λ (l : List ℕ). Leads m io f (len - length l) whole start next new l rest) (sym b)
    (subst (λ (p : ℕ). Leads m io f p whole start next new (drop n cs) rest) (offset_more len turn at n (length (drop n cs)) cs g a small (length-drop n cs))
    (leads_next m io f at c n whole start now next out new cs as' rest (leads_here m io len turn at c whole start now out all cs as' t e d h) s))

printed_err : {A : Type 0} (f : A → List ℕ) (e : LibAnswer) (m : Kept) (io : Io) (old new : List Item) (s : Script (List ℕ)) →
    Prints {A = List ℕ} (λ v. v) (Err e) m io old new s → Prints f (Err e) m io old new s
printed_err f answers.NoMemory m io old new s h = tt
printed_err f (answers.Raise c) m io old new s h = h
printed_err f (answers.Outside c n) m io old new s h = h
printed_err f e m io old new s h = absurd h

pub leads_fails : {A : Type 0} (f : A → List ℕ) (m : Kept) (io : Io) (len turn at c : ℕ) (e : LibAnswer) (whole : Script (List ℕ))
    (start now next : List Item) (out new all cs : List ℕ) (as' rest : List Argument) →
    turn < len → at ≡ len - length all → all ≡ c ∷ cs →
    Leads m io (suc len - turn) (len - length all) whole start now out all as' →
    Adds (step_bytes rest) (Err e) m io now next out new (step m.rows c cs at as') → Prints f (Err e) m io start next whole
leads_fails f m io len turn at c e whole start now next out new all cs as' rest t a d h s =
    printed_err f e m io start next whole (leads_refused m io (suc len - (turn + 1)) at c e whole start now next next out new cs as' rest
    (leads_here m io len turn at c whole start now out all cs as' t a d h) s)

pub leads_done : (m : Kept) (io : Io) (len turn at : ℕ) (whole : Script (List ℕ)) (start now : List Item) (out cs : List ℕ) (as' : List Argument) →
    turn ≤ len → cs ≡ [] →
    Leads m io (suc len - turn) at whole start now out cs as' → Gives false (List ℕ) m io start now whole out
leads_done m io len turn at whole start now out cs as' t e h =
    let q : suc len - turn ≡ suc (len - turn) = omega (arith, t) in
    leads_end m io (len - turn) at whole start now out cs as' e (subst (λ (n : ℕ). Leads m io n at whole start now out cs as') q h)

-- ---- the text of a call
prints_behind : {A B : Type 0} (items : A → List ℕ) (r : Result A LibAnswer) (m : Kept) (io : Io) (old mid new : List Item) (p : Script B) (b : B)
    (k : B → Script (List ℕ)) →
    Gives false B m io old mid p b → Prints items r m io mid new (k b) → Prints items r m io old new (p >>= k)
prints_behind {B = B} items (Ok a) m io old mid new p b k g h = then_gives false false B (List ℕ) m io old mid new p b k (items a) g h
prints_behind items (Err answers.NoMemory) m io old mid new p b k g h = tt
prints_behind {B = B} items (Err (answers.Raise c)) m io old mid new p b k g h = then_raises false B (List ℕ) m io old mid p b k c g h
prints_behind {B = B} items (Err (answers.Outside c n)) m io old mid new p b k g h = then_passes false B (List ℕ) m io old mid p b k c n g h
prints_behind items (Err a) m io old mid new p b k g h = absurd h

-- the numbers that were read are the format, and it is printed
pub format_runs : {A N : Type 0} (items : A → List ℕ) (res : Result A LibAnswer) (read : N → List ℕ) (v : N) (m : Kept) (io : Io)
    (old mid next new : List Item) (a : ℕ) (p : Prov) (as' : List Argument) (r : Range) (fs : List ℕ) →
    Gives false Text m io old mid (text m.rows a p) (text_in m r) → ReadsAll read (Ok v) (bytes_of m r) mid next → fs ≡ without_zero (read v) →
    Prints items res m io next new (text_of (suc (length fs)) m.rows 0 fs as') → Prints items res m io old new (printed_text m.rows a p as')
format_runs items res read v m io old mid next new a p as' r fs g h f t =
    prints_behind items res m io old mid new (text m.rows a p) (text_in m r) (with_format m.rows as') g
    (prints_behind items res m io mid next new (read_numbers (bytes_of m r)) (read v) (with_numbers m.rows as')
    (loud (List ℕ) m io mid next (read_numbers (bytes_of m r)) (read v) (reads_follow read (Ok v) m io mid next (bytes_of m r) h))
    (subst (λ (s : Script (List ℕ)). Prints items res m io next new s) (text_without m.rows (read v) fs as' f) t))
