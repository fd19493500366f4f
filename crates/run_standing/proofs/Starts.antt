-- The memories that creations and initializations lead to, under all rows that stay.
use Rattle.std.proofs.Common.{◌≡◌, ℕ, ◌+◌, ◌*◌, ◌-◌, ◌/◌, ◌%◌, ◌<◌, ◌≤◌, ◌^◌, min, Bool, true}
use Rattle.std.proofs.Common.{false, cond, refl, sym, ap, ◌∙◌, subst, arith, List, [], length, map, Option, Some, None}
use Rattle.std.specs.Prelude.{Result, Ok, Err, IfOk, OnOk, replicate}
use Rattle.std.proofs.lemmas.Bool.Decides.{nat_tests}
use Rattle.ub_base.specs.declared.names.Item.{Item}
use Rattle.ub_base.specs.declared.names.ObjName.{ObjName}
use Rattle.addr_map.specs.declared.map.Row.{Row}
use Rattle.addr_map.specs.Rows.{row_of, row_at}
use Rattle.exposure.specs.declared.prov.Prov.{Prov}
use Rattle.exposure.specs.declared.prov.Prov.TheVariants.{Whole}
use Rattle.c_types.specs.declared.shape.Shape.{Shape}
use Rattle.c_types.specs.Shapes.{Form, leaf, repeat}
use Rattle.c_types.specs.Types.{int}
use Rattle.c_types.specs.declared.kind.IntKind.TheVariants.{Char}
use Rattle.mem_spec.specs.declared.kind.ObjKind.{ObjKind}
use Rattle.mem_spec.specs.Store.{Store, TaggedByte}
use Rattle.mem_spec.specs.Script.{Script, Act, Done, Bear, Give, Misplace, run, touch, ◌>>◌}
use Rattle.mem_spec.specs.Acts.{store, bytes, create, has_place, base_in, in_row}
use Rattle.mem_spec.specs.Bytes.{number_bytes}
use Rattle.mem_spec.specs.Streams.{Io, silent}
use Rattle.mem_objects.specs.declared.cell.Cell.{Cell}
use Rattle.mem_objects.specs.Cells.{plain_cell}
use Rattle.mem_objects.specs.Keeps.{RowsStay}
use Rattle.mem_objects.specs.Memory.{Kept, HasCell, AreKnown, IsBorn, store_of}
use Rattle.mem_objects.specs.Pieces.{seen}
use Rattle.run_standing.specs.Starting.{Puts, Creates, EndsLow}
use Rattle.run_standing.proofs.Clears.{Stored, stored, does_store, stored_still, stored_both, zeros_length, zeros_both}
use Rattle.c_model.specs.Nodes.{plain_byte}
use Rattle.c_model.specs.Values.{address_after}
use Rattle.std.proofs.lemmas.Nat.{div-add-mod'}
use Rattle.run_standing.proofs.Content.{plain_seen, zeros_seen}
use Rattle.run_values.proofs.Fills.{Alike}

-- ---- initializations
pub put_is : (old new : Kept) (prov : Prov) (x : ObjName) (a : ℕ) (bs : List TaggedByte) (t : List Item) → prov ≡ Whole x →
    (HasCell old prov → (io : Io) → run old.rows (store old.rows true bytes 1 a prov bs) (store_of old io) ≡ Done tt t (store_of new io)) →
    Puts old new x a bs
put_is old new prov x a bs t e did = λ rows stay io.
    let cell : HasCell old prov = subst (λ (p : Prov). HasCell old p) (sym e) tt in
    let done : run old.rows (store old.rows true bytes 1 a (Whole x) bs) (store_of old io) ≡ Done tt t (store_of new io) =
    subst (λ (p : Prov). run old.rows (store old.rows true bytes 1 a p bs) (store_of old io) ≡ Done tt t (store_of new io)) e (did cell io) in
    does_store rows a x bs (store_of old io) (store_of new io)
    (stored_still old.rows rows a x bs (store_of old io) (store_of new io) stay (stored old.rows a x bs t (store_of old io) (store_of new io) done))

pub put_at : (old new : Kept) (x : ObjName) (a b : ℕ) (bs cs : List TaggedByte) → a ≡ b → bs ≡ cs → Puts old new x a bs → Puts old new x b cs
put_at old new x a b bs cs e f p = subst (λ (n : ℕ). Puts old new x n cs) e (subst (λ (ds : List TaggedByte). Puts old new x a ds) f p)

zeros_in : (m : Kept) (cells : List Cell) (n : ℕ) → cells ≡ map plain_cell (replicate n 0) → seen m cells ≡ number_bytes n 0
zeros_in m cells n e = ap (λ (cs : List Cell). seen m cs) e ∙ zeros_seen m n

-- the bytes of a text
pub text_put : {E : Type 0} (r : Result (Unit {0}) E) (old new : Kept) (prov : Prov) (a : ℕ) (cells : List Cell) (ns : List ℕ) →
    cells ≡ map plain_cell ns → OnOk r ((x : ObjName) → prov ≡ Whole x → Puts old new x a (seen old cells)) →
    OnOk r ((x : ObjName) → prov ≡ Whole x → Puts old new x a (map plain_byte ns))
text_put (Ok u) old new prov a cells ns e p = λ x is.
    put_at old new x a a (seen old cells) (map plain_byte ns) refl (ap (λ (cs : List Cell). seen old cs) e ∙ plain_seen old ns) (p x is)
text_put (Err c) old new prov a cells ns e p = tt

-- the first zeros of an object
pub clears_first : (old new : Kept) (x : ObjName) (a b n k : ℕ) (cells : List Cell) → Puts old new x b (seen old cells) →
    cells ≡ map plain_cell (replicate n 0) → b ≡ a → n ≡ k → Puts old new x a (number_bytes k 0)
clears_first old new x a b n k cells p e at is =
    put_at old new x b a (seen old cells) (number_bytes k 0) at (zeros_in old cells n e ∙ ap (λ (j : ℕ). number_bytes j 0) is) p

-- more zeros behind them
pub clears_more : (old now new : Kept) (x : ObjName) (a b n k t : ℕ) (cells : List Cell) → Alike now old → Puts old now x a (number_bytes n 0) →
    Puts now new x b (seen now cells) → cells ≡ map plain_cell (replicate k 0) → b ≡ a + n → n + k ≡ t → Puts old new x a (number_bytes t 0)
clears_more old now new x a b n k t cells alike first second e at is = λ rows stay io.
    let same : now.rows ≡ old.rows = ap (λ (m : Kept). m.rows) alike in
    let one = first rows stay io in
    let there : b ≡ a + length (number_bytes n 0) = at ∙ ap (λ (j : ℕ). a + j) (sym (zeros_length n)) in
    let more : Puts now new x (a + length (number_bytes n 0)) (number_bytes k 0) =
    put_at now new x b (a + length (number_bytes n 0)) (seen now cells) (number_bytes k 0) there (zeros_in now cells k e) second in
    let two = more rows (subst (λ (rs : List Row). RowsStay rs rows) (sym same) stay) io in
    let both = stored_both (row_of rows x) a x (number_bytes n 0) (number_bytes k 0) (store_of old io) (store_of now io) (store_of new io)
    (stored rows a x (number_bytes n 0) one.0 (store_of old io) (store_of now io) one.1)
    (stored rows (a + length (number_bytes n 0)) x (number_bytes k 0) two.0 (store_of now io) (store_of new io) two.1) in
    does_store rows a x (number_bytes t 0) (store_of old io) (store_of new io)
    (subst (λ (bs : List TaggedByte). Stored (row_of rows x) a x bs (store_of old io) (store_of new io))
    (zeros_both n k ∙ ap (λ (j : ℕ). number_bytes j 0) is) both)

pub all_zeros : (old new : Kept) (x : ObjName) (a n k : ℕ) → n ≡ k → Puts old new x a (number_bytes n 0) → Puts old new x a (number_bytes k 0)
all_zeros old new x a n k e p = subst (λ (j : ℕ). Puts old new x a (number_bytes j 0)) e p

-- ---- pages
pub page_cells : (cells : List Cell) (size number k : ℕ) → number < size / 4096 → k ≡ min 4096 (size - size % 4096) →
    cells ≡ map plain_cell (replicate k 0) → cells ≡ map plain_cell (replicate 4096 0)
page_cells cells size number k lt is e =
    let whole : k ≡ 4096 = omega (arith, lt, is, div-add-mod' size 4096) in
    subst (λ (j : ℕ). cells ≡ map plain_cell (replicate j 0)) whole e

-- a store of plain bytes that gave no clause ended at 2^47 at most where the row does
in_low : (o : Option Row) (a n : ℕ) → in_row o a n ≡ true → ((r : Row) → o ≡ Some r → r.base + r.size ≤ 2 ^ 47) → a + n ≤ 2 ^ 47
in_low None a n inside low = absurd (cc)
in_low (Some r) a n inside low =
    let ends : r.base + r.size ≤ 2 ^ 47 = low r refl in
    let within : a + n ≤ r.base + r.size = grind (arith, nat_tests, inside) in
    omega (arith, ends, within)

zeros_low : (old new : Kept) (x : ObjName) (a n : ℕ) → Puts old new x a (number_bytes n 0) → EndsLow old x → a + n ≤ 2 ^ 47
zeros_low old new x a n p low =
    let io : Io = record { input = []; position = 0; output = silent } in
    let put = p old.rows (λ y r e. e) io in
    let did = stored old.rows a x (number_bytes n 0) put.0 (store_of old io) (store_of new io) put.1 in
    subst (λ (k : ℕ). a + k ≤ 2 ^ 47) (zeros_length n) (in_low (row_of old.rows x) a (length (number_bytes n 0)) did.inside low)

pub cells_low : (old new : Kept) (x : ObjName) (a n : ℕ) (cells : List Cell) → Puts old new x a (seen old cells) →
    cells ≡ map plain_cell (replicate n 0) → EndsLow old x → a + n ≤ 2 ^ 47
cells_low old new x a n cells p e low =
    zeros_low old new x a n (put_at old new x a a (seen old cells) (number_bytes n 0) refl (zeros_in old cells n e) p) low

pub low_still : (old now : Kept) (x : ObjName) → Alike now old → EndsLow old x → EndsLow now x
low_still old now x alike low =
    let same : now.rows ≡ old.rows = ap (λ (m : Kept). m.rows) alike in
    λ r is. low r (ap (λ (rs : List Row). row_of rs x) (sym same) ∙ is)

pub page_place : (a size number r : ℕ) → address_after a r + 4096 ≤ 2 ^ 47 → number < size / 4096 →
    r ≡ min (min (number * 4096) (2 ^ 64 - 1) + size % 4096) (2 ^ 64 - 1) → address_after a r ≡ a + (size % 4096 + number * 4096)
page_place a size number r low lt is = omega (arith, low, lt, is, div-add-mod' size 4096)

pub first_place : (a n : ℕ) → address_after a 0 + n ≤ 2 ^ 47 → address_after a 0 ≡ a
first_place a n low = omega (arith, low)

pub first_zeros : (size : ℕ) → size % 4096 ≡ size % 4096 + 0 * 4096
first_zeros size = omega arith

pub all_pages : (size number : ℕ) → number ≡ size / 4096 → size % 4096 + number * 4096 ≡ size
all_pages size number e = omega (arith, e, div-add-mod' size 4096)

pub one_page_more : (size number : ℕ) → size % 4096 + number * 4096 + 4096 ≡ size % 4096 + (number + 1) * 4096
one_page_more size number = omega arith

-- ---- creations
bears : (b : Bool) (rows more : List Row) (x : ObjName) (size base : ℕ) (kind : ObjKind) (form : Option Form) (s : Store) →
    run rows (cond b (touch (Bear x size kind form) >> Give base) Misplace) s ≡ run more (cond b (touch (Bear x size kind form) >> Give base) Misplace) s
bears true rows more x size base kind form s = refl
bears false rows more x size base kind form s = refl

abbrev create_by : Option Row → ObjName → (size align : ℕ) → ObjKind → Option Form → Script ℕ
create_by o x size align kind form = cond (has_place o size align) (touch (Bear x size kind form) >> Give (base_in o)) Misplace

created_still : (rows more : List Row) (r : Row) (x : ObjName) (size align : ℕ) (kind : ObjKind) (form : Option Form) (s : Store) (d : Act ℕ) →
    row_of rows x ≡ Some r → row_of more x ≡ Some r → run rows (create rows x size align kind form) s ≡ d →
    run more (create more x size align kind form) s ≡ d
created_still rows more r x size align kind form s d old new did =
    ap (λ (o : Option Row). run more (create_by o x size align kind form) s) (new ∙ sym old)
    ∙ bears (has_place (row_of rows x) size align) more rows x size (base_in (row_of rows x)) kind form s ∙ did

pub creates_in : {E : Type 0} (r : Result ℕ E) (old new : Kept) (x : ObjName) (size align : ℕ) (kind : ObjKind) (declared : Option Shape) (form : Option Form)
    (t : List Item) → IfOk r (λ base. IsBorn old new x base size align kind declared) →
    IfOk r (λ base. AreKnown old → (io : Io) → run new.rows (create new.rows x size align kind form) (store_of old io) ≡ Done base t (store_of new io)) →
    OnOk r (AreKnown old → Creates old new x size align kind form)
creates_in (Ok base) old new x size align kind declared form t born did = λ known rows stay io. (
  base,
  t,
  created_still new.rows rows (row_at x base size align) x size align kind form (store_of old io) (Done base t (store_of new io)) born.row
      (stay x (row_at x base size align) born.row) (did known io),
)
creates_in (Err e) old new x size align kind declared form t born did = tt

pub creates_as : {E : Type 0} (r : Result ℕ E) (old new : Kept) (x : ObjName) (size align : ℕ) (kind : ObjKind) (form more : Option Form) →
    form ≡ more → OnOk r (AreKnown old → Creates old new x size align kind form) → OnOk r (AreKnown old → Creates old new x size align kind more)
creates_as r old new x size align kind form more e h = subst (λ (f : Option Form). OnOk r (AreKnown old → Creates old new x size align kind f)) e h

pub creates_ok : (old new : Kept) (x : ObjName) (size align base : ℕ) (kind : ObjKind) (declared : Option Shape) (form more : Option Form) (n : ℕ)
    (t : List Item) → IsBorn old new x base size align kind declared →
    (AreKnown old → (io : Io) → run new.rows (create new.rows x size align kind form) (store_of old io) ≡ Done base t (store_of new io)) →
    form ≡ more → size ≡ n → AreKnown old → Creates old new x n align kind more
creates_ok old new x size align base kind declared form more n t born did e len known =
    subst (λ (j : ℕ). Creates old new x j align kind more) len (subst (λ (f : Option Form). Creates old new x size align kind f) e (λ rows stay io. (
      base,
      t,
      created_still new.rows rows (row_at x base size align) x size align kind form (store_of old io) (Done base t (store_of new io)) born.row
          (stay x (row_at x base size align) born.row) (did known io),
    )))

-- a text of so many bytes, of this number
pub argument_created : (old new : Kept) (name : ℕ → ObjName) (k n size count : ℕ) (kind : ObjKind) → k ≡ n → size ≡ count →
    Creates old new (name k) size 1 kind (Some (repeat size 1 (leaf (int Char)))) →
    Creates old new (name n) count 1 kind (Some (repeat count 1 (leaf (int Char))))
argument_created old new name k n size count kind e len one =
    subst (λ (j : ℕ). Creates old new (name j) count 1 kind (Some (repeat count 1 (leaf (int Char))))) e
    (subst (λ (j : ℕ). Creates old new (name k) j 1 kind (Some (repeat j 1 (leaf (int Char))))) len one)
