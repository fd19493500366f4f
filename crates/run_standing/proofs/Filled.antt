-- Objects that are filled one after the other.
use Rattle.std.proofs.Common.{◌≡◌, ℕ, suc, ◌+◌, ◌<◌, Bool, true, refl, sym, ap, ◌∙◌, subst, arith, List, [], ◌∷◌, ◌++◌, length, map, take, get_or, Some}
use Rattle.std.specs.Prelude.{slice_get}
use Rattle.ub_base.specs.declared.names.ObjName.{ObjName}
use Rattle.ub_base.specs.declared.names.ObjName.TheVariants.{Lit}
use Rattle.addr_map.specs.declared.map.Row.{Row}
use Rattle.addr_map.specs.Rows.{row_of}
use Rattle.exposure.specs.declared.prov.Prov.TheVariants.{Whole}
use Rattle.mem_spec.specs.Acts.{store, bytes, base_in}
use Rattle.mem_spec.specs.Script.{Done, run}
use Rattle.mem_spec.specs.Store.{Store}
use Rattle.mem_spec.specs.Streams.{Io}
use Rattle.mem_objects.specs.Keeps.{Keeps, RowsStay}
use Rattle.mem_objects.specs.Memory.{Kept, store_of}
use Rattle.mem_objects.proofs.AccessLemmas.{after, run_bind}
use Rattle.c_model.specs.Nodes.{fill, plain_byte}
use Rattle.c_model.specs.Program.{Standing}
use Rattle.c_model.specs.Values.{Nothing, address_after, Pointer as Place}
use Rattle.run_values.specs.declared.values.Pointer.{Pointer}
use Rattle.run_values.specs.Contents.{Stands}
use Rattle.run_standing.specs.Standing.{text, literals, place_of, FillsOne, FillsAll, AllFilled}
use Rattle.run_values.specs.Placed.{AreAll}
use Rattle.run_standing.specs.Starting.{Puts}
use Rattle.run_values.specs.Views.{pointer_at}
use Rattle.run_standing.proofs.Stands.{items_before, literal_next, take_all}
use Rattle.run_values.proofs.Placed.{all_at}

fills_behind : (rows : List Row) (os : List Standing) (o : Standing) (s t u : Store) → FillsAll rows os s t → FillsOne rows o t u →
    FillsAll rows (os ++ o ∷ []) s u
fills_behind rows [] o s t u e one = (u, subst (λ (v : Store). FillsOne rows o v u) e one, refl)
fills_behind rows (p ∷ os) o s t u c one = (c.0, c.1, fills_behind rows os o c.0 t u c.2 one)

pub filled_behind : (old now new : Kept) (os : List Standing) (o : Standing) → Keeps now new → AllFilled old now os →
    ((rows : List Row) → RowsStay new.rows rows → (io : Io) → FillsOne rows o (store_of now io) (store_of new io)) → AllFilled old new (os ++ o ∷ [])
filled_behind old now new os o keeps all one = λ rows stay io.
    fills_behind rows os o (store_of old io) (store_of now io) (store_of new io) (all rows (λ x r e. stay x r (keeps.rows x r e)) io) (one rows stay io)

pub none_filled : (m : Kept) → AllFilled m m []
none_filled m = λ rows stay io. refl

-- ---- a text
pub twice : (a : ℕ) → address_after (address_after a 0) 0 ≡ address_after a 0
twice a = omega arith

pub text_filled : (old now new : Kept) (x : ObjName) (is_literal : Bool) (bs : List ℕ) (a : ℕ) → Keeps old now → Keeps now new → Stands old x a →
    Puts now new x (address_after (address_after a 0) 0) (map plain_byte bs) →
    (rows : List Row) → RowsStay new.rows rows → (io : Io) → FillsOne rows (text x is_literal bs) (store_of now io) (store_of new io)
text_filled old now new x is_literal bs a first keeps stands puts rows stay io =
    let row : row_of rows x ≡ Some stands.row = stay x stands.row (keeps.rows x stands.row (first.rows x stands.row stands.named)) in
    let base : base_in (row_of rows x) ≡ a = ap base_in row ∙ stands.at in
    let there : address_after (base_in (row_of rows x)) 0 ≡ address_after (address_after a 0) 0 = ap (λ (b : ℕ). address_after b 0) base ∙ sym (twice a) in
    let put = puts rows (λ y r e. stay y r (keeps.rows y r e)) io in
    let s = store_of now io in
    let t = store_of new io in
    let act = store rows true bytes 1 (address_after (base_in (row_of rows x)) 0) (Whole x) (map plain_byte bs) in
    let did : run rows act s ≡ Done tt put.0 t =
    ap (λ (b : ℕ). run rows (store rows true bytes 1 b (Whole x) (map plain_byte bs)) s) there ∙ put.1 in (
      put.0 ++ [],
      run_bind rows act (λ (u : Unit {0}). fill rows (place_of rows x) []) s ∙ ap (after rows (λ (u : Unit {0}). fill rows (place_of rows x) [])) did
          ∙ items_before put.0 [] Nothing t,
    )

-- ---- literals
pub literals_filled : (old now new : Kept) (xs : List (List ℕ)) (addresses : List ℕ) (i n : ℕ) (b bs : List ℕ) (p : Pointer) → Keeps old now →
    Keeps now new → AreAll old (λ k. Lit k) addresses (length xs) → n ≡ i → i < length xs → b ≡ get_or xs i b → bs ≡ b →
    ((a : ℕ) → slice_get addresses n ≡ Some a → pointer_at p ≡ record { address = address_after a 0; prov = Whole (Lit n) }) →
    ((x : ObjName) → p.prov ≡ Whole x → Puts now new x (address_after p.addr 0) (map plain_byte bs)) → AllFilled old now (take i (literals 0 xs)) →
    AllFilled old new (take (i + 1) (literals 0 xs))
literals_filled old now new xs addresses i n b bs p first keeps are e lt is same there puts all =
    let stands = all_at old (λ k. Lit k) 0 n addresses n (omega arith) (omega (arith, are.count, lt, e)) are.stand in
    let at = there stands.0 stands.1 in
    let address : p.addr ≡ address_after stands.0 0 = ap (λ (q : Place). q.address) at in
    let put : Puts now new (Lit n) (address_after (address_after stands.0 0) 0) (map plain_byte b) =
    subst (λ (c : ℕ). Puts now new (Lit n) (address_after c 0) (map plain_byte b)) address
    (subst (λ (cs : List ℕ). Puts now new (Lit n) (address_after p.addr 0) (map plain_byte cs)) same
    (puts (Lit n) (ap (λ (q : Place). q.prov) at))) in
    let next : suc i ≡ i + 1 = omega arith in
    subst (λ (os : List Standing). AllFilled old new os)
    (sym (literal_next 0 i n xs b (omega (arith, e)) lt is) ∙ ap (λ (j : ℕ). take j (literals 0 xs)) next)
    (filled_behind old now new (take i (literals 0 xs)) (text (Lit n) true b) keeps all
    (text_filled old now new (Lit n) true b stands.0 first keeps stands.2 put))

pub literals_all_filled : (old new : Kept) (xs ys : List (List ℕ)) (n : ℕ) → n ≡ length xs → xs ≡ ys → AllFilled old new (take n (literals 0 xs)) →
    AllFilled old new (literals 0 ys)
literals_all_filled old new xs ys n e same all =
    subst (λ (os : List Standing). AllFilled old new os) (take_all 0 n xs e ∙ ap (λ (zs : List (List ℕ)). literals 0 zs) same) all

pub are_of : (m : Kept) (addresses : List ℕ) (xs ys : List (List ℕ)) → xs ≡ ys → AreAll m (λ k. Lit k) addresses (length ys) →
    AreAll m (λ k. Lit k) addresses (length xs)
are_of m addresses xs ys e are = subst (λ (zs : List (List ℕ)). AreAll m (λ k. Lit k) addresses (length zs)) (sym e) are
