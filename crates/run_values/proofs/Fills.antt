-- An initialization, one store after the other.
use Rattle.std.proofs.Common.{◌≡◌, ℕ, zero, suc, ◌+◌, ◌<◌, true, refl, sym, ap, ◌∙◌, subst, arith, List, [], ◌∷◌, ◌++◌, length, drop, get_or}
use Rattle.ub_base.specs.declared.clause.Clause.{Clause}
use Rattle.ub_base.specs.declared.names.Item.{Item}
use Rattle.addr_map.specs.declared.map.Row.{Row}
use Rattle.exposure.specs.declared.prov.Prov.{Prov}
use Rattle.exposure.specs.declared.prov.Prov.TheVariants.{Empty, Whole, Either}
use Rattle.mem_spec.specs.Store.{Store, TaggedByte}
use Rattle.mem_spec.specs.Script.{Act, Done, Raised, run, touched}
use Rattle.mem_spec.specs.Acts.{store, bytes}
use Rattle.mem_spec.specs.Streams.{Io}
use Rattle.mem_objects.specs.Made.{IsMade}
use Rattle.mem_objects.specs.Memory.{Kept, HasCell, store_of}
use Rattle.mem_objects.specs.Pieces.{seen}
use Rattle.mem_objects.proofs.AccessLemmas.{before, after, run_bind}
use Rattle.c_model.specs.Program.{Filling as Filled}
use Rattle.c_model.specs.Values.{Nothing, Pointer, address_after}
use Rattle.c_model.specs.Nodes.{fill, content_bytes}
use Rattle.run_values.specs.declared.filling.Filling.{Filling}
use Rattle.run_values.specs.Fills.{IsFilling, AreFillings, filling_act}

-- a pointer that was made is to an object, or its ambiguity has its cell
pub made_cell : (m : Kept) (prov : Prov) → IsMade m prov → HasCell m prov
made_cell m Empty made = tt
made_cell m (Whole x) made = tt
made_cell m (Either id past start) made = made.0

-- ---- items before those of what follows
pub before_twice : {V : Type 0} (is js : List Item) (a : Act V) → before is (before js a) ≡ before (is ++ js) a
before_twice [] js a = refl
before_twice (i ∷ is) js a = ap (touched i) (before_twice is js a)

pub before_done : {V : Type 0} (is : List Item) (v : V) (s : Store) → before is (Done v [] s) ≡ Done v is s
before_done [] v s = refl
before_done (i ∷ is) v s = ap (touched i) (before_done is v s)

before_raised : {V : Type 0} (is : List Item) (c : Clause) → before {V = V} is (Raised c) ≡ Raised c
before_raised [] c = refl
before_raised (i ∷ is) c = ap (touched i) (before_raised is c)

-- ---- the one at a place, and those behind it
pub record IsNext (m : Kept) (f : Filling) (cs : List Filled) (i : ℕ) : Type 0 where
  pub first : Filled
  pub rest : drop i cs ≡ first ∷ drop (i + 1) cs
  pub is : IsFilling m f first

one_more : (i : ℕ) → suc (i + 1) ≡ suc i + 1
one_more i = omega arith

pub filling_at : (m : Kept) (fs : List Filling) (cs : List Filled) (i : ℕ) (f : Filling) → AreFillings m fs cs → i < length fs → f ≡ get_or fs i f →
    IsNext m f cs i
filling_at m [] [] i f are lt is = absurd (omega arith)
filling_at m (g ∷ fs) [] i f are lt is = absurd are
filling_at m [] (c ∷ cs) i f are lt is = absurd are
filling_at m (g ∷ fs) (c ∷ cs) zero f are lt is = record { first = c; rest = refl; is = subst (λ (h : Filling). IsFilling m h c) (sym is) are.0 }
filling_at m (g ∷ fs) (c ∷ cs) (suc i) f are lt is =
    let next = filling_at m fs cs i f are.1 (omega arith) is in
    record { first = next.first; rest = next.rest ∙ ap (λ (n : ℕ). next.first ∷ drop n (c ∷ cs)) (one_more i); is = next.is }

pub none_left : (m : Kept) (fs : List Filling) (cs : List Filled) (i : ℕ) → AreFillings m fs cs → i ≡ length fs → drop i cs ≡ []
none_left m [] [] i are e = rw e refl
none_left m (g ∷ fs) [] i are e = absurd are
none_left m [] (c ∷ cs) i are e = absurd are
none_left m (g ∷ fs) (c ∷ cs) zero are e = absurd (omega (arith, e))
none_left m (g ∷ fs) (c ∷ cs) (suc i) are e = none_left m fs cs i are.1 (omega (arith, e))

-- ---- a store of it, in the memory that the ones before it left
abbrev pub Alike : Kept → Kept → Type 0
Alike now old = record now { objects = []; cells = [] } ≡ record old { objects = []; cells = [] }

same_act : (old now : Kept) (f : Filling) (c : Filled) (p : Pointer) → Alike now old → IsFilling old f c →
    filling_act now f p ≡ store old.rows true bytes 1 (address_after p.address c.offset) p.prov (content_bytes old.rows c.content)
same_act old now f c p alike is =
    let rows : now.rows ≡ old.rows = ap (λ (m : Kept). m.rows) alike in
    let held : seen now f.bytes.cells ≡ seen old f.bytes.cells = ap (λ (m : Kept). seen m f.bytes.cells) alike in
    ap (λ (rs : List Row). store rs true bytes 1 (address_after p.address f.at) p.prov (seen now f.bytes.cells)) rows
    ∙ ap (λ (bs : List TaggedByte). store old.rows true bytes 1 (address_after p.address f.at) p.prov bs) (held ∙ is.bytes)
    ∙ ap (λ (n : ℕ). store old.rows true bytes 1 (address_after p.address n) p.prov (content_bytes old.rows c.content)) is.at

pub record Fills (old now : Kept) (p : Pointer) (cs : List Filled) (i : ℕ) (t : List Item) (io : Io) : Type 0 where
  pub so_far : run old.rows (fill old.rows p cs) (store_of old io) ≡ before t (run old.rows (fill old.rows p (drop i cs)) (store_of now io))

pub first_of : (rows : List Row) (p : Pointer) (cs : List Filled) (c : Filled) (rest : List Filled) (s : Store) → cs ≡ c ∷ rest →
    run rows (fill rows p cs) s
    ≡ after rows (λ (u : Unit {0}). fill rows p rest)
    (run rows (store rows true bytes 1 (address_after p.address c.offset) p.prov (content_bytes rows c.content)) s)
first_of rows p cs c rest s e =
    ap (λ (xs : List Filled). run rows (fill rows p xs) s) e
    ∙ run_bind rows (store rows true bytes 1 (address_after p.address c.offset) p.prov (content_bytes rows c.content)) (λ (u : Unit {0}). fill rows p rest) s

pub fills_next : (old now new : Kept) (p : Pointer) (fs : List Filling) (cs : List Filled) (i : ℕ) (f : Filling) (t items more : List Item) (io : Io) →
    AreFillings old fs cs → i < length fs → f ≡ get_or fs i f → Alike now old →
    run now.rows (filling_act now f p) (store_of now io) ≡ Done tt items (store_of new io) → more ≡ t ++ items →
    Fills old now p cs i t io → Fills old new p cs (i + 1) more io
fills_next old now new p fs cs i f t items more io are lt is alike done e fills =
    let next = filling_at old fs cs i f are lt is in
    let rest = drop (i + 1) cs in
    let rows : now.rows ≡ old.rows = ap (λ (m : Kept). m.rows) alike in
    let one = store old.rows true bytes 1 (address_after p.address next.first.offset) p.prov (content_bytes old.rows next.first.content) in
    let did : run old.rows one (store_of now io) ≡ Done tt items (store_of new io) =
    sym (ap (λ (rs : List Row). run rs (filling_act now f p) (store_of now io)) rows
    ∙ ap (λ x. run old.rows x (store_of now io)) (same_act old now f next.first p alike next.is)) ∙ done in
    record {
      so_far = fills.so_far ∙ ap (before t) (first_of old.rows p (drop i cs) next.first rest (store_of now io) next.rest
          ∙ ap (after old.rows (λ (u : Unit {0}). fill old.rows p rest)) did)
          ∙ before_twice t items (run old.rows (fill old.rows p rest) (store_of new io))
          ∙ ap (λ (js : List Item). before js (run old.rows (fill old.rows p rest) (store_of new io))) (sym e);
    }

pub fills_raise : (old now : Kept) (p : Pointer) (fs : List Filling) (cs : List Filled) (i : ℕ) (f : Filling) (t : List Item) (c : Clause) (io : Io) →
    AreFillings old fs cs → i < length fs → f ≡ get_or fs i f → Alike now old →
    run now.rows (filling_act now f p) (store_of now io) ≡ Raised c →
    Fills old now p cs i t io → run old.rows (fill old.rows p cs) (store_of old io) ≡ Raised c
fills_raise old now p fs cs i f t c io are lt is alike raised fills =
    let next = filling_at old fs cs i f are lt is in
    let rest = drop (i + 1) cs in
    let rows : now.rows ≡ old.rows = ap (λ (m : Kept). m.rows) alike in
    let one = store old.rows true bytes 1 (address_after p.address next.first.offset) p.prov (content_bytes old.rows next.first.content) in
    let did : run old.rows one (store_of now io) ≡ Raised c =
    sym (ap (λ (rs : List Row). run rs (filling_act now f p) (store_of now io)) rows
    ∙ ap (λ x. run old.rows x (store_of now io)) (same_act old now f next.first p alike next.is)) ∙ raised in
    fills.so_far ∙ ap (before t) (first_of old.rows p (drop i cs) next.first rest (store_of now io) next.rest
    ∙ ap (after old.rows (λ (u : Unit {0}). fill old.rows p rest)) did) ∙ before_raised t c

pub fills_all : (old now : Kept) (p : Pointer) (fs : List Filling) (cs : List Filled) (i : ℕ) (t : List Item) (io : Io) → AreFillings old fs cs →
    i ≡ length fs → Fills old now p cs i t io → run old.rows (fill old.rows p cs) (store_of old io) ≡ Done Nothing t (store_of now io)
fills_all old now p fs cs i t io are e fills =
    fills.so_far ∙ ap (λ (xs : List Filled). before t (run old.rows (fill old.rows p xs) (store_of now io))) (none_left old fs cs i are e)
    ∙ before_done t Nothing (store_of now io)
