-- A new object takes a value of its declared type: no clause is raised.
use Rattle.std.proofs.Common.{
  ◌≡◌,
  ℕ,
  zero,
  suc,
  ◌+◌,
  ◌<◌,
  ◌≤◌,
  ◌/◌,
  ◌%◌,
  ◌^◌,
  Bool,
  true,
  false,
  refl,
  sym,
  ap,
  ◌∙◌,
  subst,
  arith,
  rules,
  List,
  [],
  ◌∷◌,
  ◌++◌,
  length,
  Option,
  Some,
  None,
  slice_get,
}
use Rattle.std.specs.Prelude.{◌&&◌, ◌==◌, if◌then◌else◌, option_map, not, nat_le, nat_lt}
use Rattle.std.proofs.lemmas.Bool.{eqb-true}
use Rattle.std.proofs.lemmas.Bool.Decides.{nat_tests}
use Rattle.ub_base.specs.declared.clause.Clause.{Clause}
use Rattle.ub_base.specs.declared.clause.Clause.TheVariants.{OverlappingAssignment}
use Rattle.ub_base.specs.declared.names.Item.{Item}
use Rattle.ub_base.specs.declared.names.Item.TheVariants.{Alive, Write}
use Rattle.ub_base.specs.declared.names.ObjName.{ObjName}
use Rattle.ub_base.specs.Names.{same_object}
use Rattle.addr_map.specs.declared.map.Row.{Row}
use Rattle.addr_map.specs.Rows.{is_lawful, is_power, row_of}
use Rattle.exposure.specs.declared.prov.Prov.{Prov}
use Rattle.exposure.specs.declared.prov.Prov.TheVariants as prov
use Rattle.c_types.specs.Shapes.{Form}
use Rattle.c_types.specs.Types.{int}
use Rattle.c_typed.specs.declared.tree.Access.{Access}
use Rattle.c_typed.specs.declared.tree.Access.TheVariants as access
use Rattle.mem_spec.specs.Acts.{Seen, base_in, declared_of, has_place, in_row, is_aligned, offset_in, scalar, store, stored_from, suits_store, whole}
use Rattle.mem_spec.specs.Agreement.{bytes_of_kind}
use Rattle.mem_spec.specs.Bytes.{number_bytes, pointer_bytes}
use Rattle.mem_spec.specs.Script.{Act, Done, Ended, Give, Outside, Raised, Script, Unplaced, require, run, touched, ◌>>◌}
use Rattle.mem_spec.specs.Store.{Life, Store, TaggedByte, is_live, with_bytes}
use Rattle.mem_objects.proofs.AccessLemmas.{after, before, run_bind}
use Rattle.c_model.specs.Nodes.{overlap_inexactly, put}
use Rattle.c_model.specs.Program.{Decl}
use Rattle.c_model.specs.Steps.{Scene, auto_name, object_at, object_kind, pass_all}
use Rattle.c_model.specs.Values.{Fun, Int, Missing, Nothing, Pointer, Ptr, Value, Whole, function_in, int_bytes, integer_of, pointer_of}
use Rattle.c_model.specs.World.{World}
use Rattle.run_state.specs.Operands.{AreAddresses}
use Rattle.run_answers.specs.Entering.{Birth, born_by, born_first}
use Rattle.run_answers.specs.Passing.{FitsAt, RowsAreLawful, TakesValue, align_by, seen_by, size_by}

-- ---- how many bytes a value has
number_length : (k n : ℕ) → length (number_bytes k n) ≡ k
number_length zero n = refl
number_length (suc k) n = ap suc (number_length k (n / 256))

pointer_length : (k i : ℕ) (p : Prov) (n : ℕ) → length (pointer_bytes k i p n) ≡ k
pointer_length zero i p n = refl
pointer_length (suc k) i p n = ap suc (pointer_length k (suc i) p (n / 256))

-- ---- a row of an address map
both : (a b : Bool) → (a && b) ≡ true → (a ≡ true) × (b ≡ true)
both true b h = (refl, h)
both false b h = absurd (cc)

aligned_by : (align base : ℕ) → (base % align == 0) ≡ true → is_aligned align base ≡ true
aligned_by zero base h = refl
aligned_by (suc n) base h = h

-- it begins at an address
low_row : (r : Row) → is_lawful r ≡ true → r.base < 2 ^ 64
low_row r lawful =
    let rules = both (nat_lt 0 r.size) _ lawful in
    let more = both (is_power r.align) _ rules.1 in
    let most = both (r.base % r.align == 0) _ more.1 in
    let low = both (nat_le 16777216 r.base) _ most.1 in
    let ends : r.base + r.size ≤ 2 ^ 47 = grind (arith, nat_tests, low.1) in
    omega (arith, ends)

pub low_rows : (rows : List Row) → RowsAreLawful rows → AreAddresses rows
low_rows rows lawful x r at = low_row r (lawful x r at)

-- the whole of it
record IsAt (o : Option Row) (len align : ℕ) : Type 0 where
  pub somewhere : (base_in o == 0) ≡ false
  pub inside : in_row o (base_in o) len ≡ true
  pub aligned : is_aligned align (base_in o) ≡ true
  pub offset : offset_in o (base_in o) ≡ 0

is_at : (o : Option Row) (len align size unit : ℕ) → len ≡ size → align ≡ unit → has_place o size unit ≡ true → ((r : Row) → o ≡ Some r → is_lawful r ≡ true) →
    IsAt o len align
is_at None len align size unit same even placed lawful = absurd (cc)
is_at (Some r) len align size unit same even placed lawful =
    let rules = both (nat_lt 0 r.size) _ (lawful r refl) in
    let more = both (is_power r.align) _ rules.1 in
    let most = both (r.base % r.align == 0) _ more.1 in
    let low = both (nat_le 16777216 r.base) _ most.1 in
    let sizes = both (r.size == size) (r.align == unit) placed in
    let begins : 16777216 ≤ r.base = grind (arith, nat_tests, low.0) in
    let long : r.size ≡ size = grind (arith, nat_tests, sizes.0) in
    let wide : r.align ≡ unit = grind (arith, nat_tests, sizes.1) in
    record {
      somewhere = grind (arith, nat_tests, begins);
      inside = grind (arith, nat_tests, same, long);
      aligned = subst (λ (n : ℕ). is_aligned n r.base ≡ true) (wide ∙ sym even) (aligned_by r.align r.base most.0);
      offset = omega arith;
    }

-- ---- a store to the whole of a new object
store_does : (rows : List Row) (via : Seen) (align a : ℕ) (x : ObjName) (bs : List TaggedByte) (s : Store) → (a == 0) ≡ false → is_live (s.life x) ≡ true →
    in_row (row_of rows x) a (length bs) ≡ true → is_aligned align a ≡ true →
    suits_store via (declared_of (s.life x)) (offset_in (row_of rows x) a) ≡ true →
    run rows (store rows true via align a (prov.Whole x) bs) s
    ≡ Done tt (Alive x ∷ Write x (offset_in (row_of rows x) a) (length (stored_from (declared_of (s.life x)) via 0 bs)) ∷ [])
    (with_bytes s x (offset_in (row_of rows x) a) (stored_from (declared_of (s.life x)) via 0 bs))
store_does rows via align a x bs s somewhere live inside aligned suits = rw (somewhere, live, inside, aligned, suits) refl

before_done : (is js : List Item) (v : Value) (s : Store) → before is (Done v js s) ≡ Done v (is ++ js) s
before_done [] js v s = refl
before_done (i ∷ is) js v s = ap (touched i) (before_done is js v s)

-- its object lives, at a row of its size and alignment, with its declared type
pub record IsFresh (rows : List Row) (s : Store) (x : ObjName) (d : Decl) : Type 0 where
  pub life : Life
  pub at : s.life x ≡ Some life
  pub live : life.live ≡ true
  pub form : life.declared ≡ d.form
  pub placed : has_place (row_of rows x) d.size d.align ≡ true

-- it is done, and each object lives on
abbrev IsDone : List Row → Script Value → Store → Type 0
IsDone rows p s = (is : List Item) × (t : Store) × (run rows p s ≡ Done Nothing is t) × ((y : ObjName) → t.life y ≡ s.life y)

then_given : (rows : List Row) (p : Script (Unit {0})) (q : Script Value) (s t : Store) (is : List Item) → run rows p s ≡ Done tt is t →
    run rows q t ≡ Done Nothing [] t → ((y : ObjName) → t.life y ≡ s.life y) → IsDone rows (p >> q) s
then_given rows p q s t is did next on = (
  is ++ [],
  t,
  run_bind rows p (λ u. q) s ∙ ap (after rows (λ u. q)) did ∙ ap (before is) next ∙ before_done is [] Nothing t,
  on,
)

module _ (rows : List Row) (x : ObjName) (s : Store) (d : Decl) (fresh : IsFresh rows s x d) (lawful : RowsAreLawful rows) where
  abbrev base : ℕ
  base = base_in (row_of rows x)

  abbrev there : Pointer
  there = record { address = base; prov = prov.Whole x }

  stores : (via : Seen) (align : ℕ) (bs : List TaggedByte) (q : Script Value) → length bs ≡ d.size → align ≡ d.align → suits_store via d.form 0 ≡ true →
      ((t : Store) → run rows q t ≡ Done Nothing [] t) → IsDone rows (store rows true via align base (prov.Whole x) bs >> q) s
  stores via align bs q long even suits next =
      let at = is_at (row_of rows x) (length bs) align d.size d.align long even fresh.placed (lawful x) in
      let live : is_live (s.life x) ≡ true = ap is_live fresh.at ∙ fresh.live in
      let form : declared_of (s.life x) ≡ d.form = ap declared_of fresh.at ∙ fresh.form in
      let suited : suits_store via (declared_of (s.life x)) (offset_in (row_of rows x) base) ≡ true =
      ap (λ (f : Option Form). suits_store via f (offset_in (row_of rows x) base)) form ∙ ap (suits_store via d.form) at.offset ∙ suits in
      then_given rows (store rows true via align base (prov.Whole x) bs) q s _ _
      (store_does rows via align base x bs s at.somewhere live at.inside at.aligned suited) (next _) (λ y. refl)

  given : (t : Store) → run rows (Give Nothing) t ≡ Done Nothing [] t
  given t = refl

  checked : (size : ℕ) (source : Option ℕ) → overlap_inexactly size base source ≡ false → (t : Store) →
      run rows (require (not (overlap_inexactly size base source)) OverlappingAssignment >> Give Nothing) t ≡ Done Nothing [] t
  checked size source apart t = rw apart refl

  nothing : IsDone rows (Give Nothing) s
  nothing = ([], s, refl, λ y. refl)

  put_by : (how : Access) (v : Value) → size_by how ≡ d.size → align_by how ≡ d.align → suits_store (seen_by how d.ty) d.form 0 ≡ true → FitsAt how base v →
      IsDone rows (put rows true how d.ty there v) s
  put_by (access.Integer k) v long even suits fits =
      stores (scalar (int k)) (bytes_of_kind k) (int_bytes k (integer_of v)) (Give Nothing) (number_length (bytes_of_kind k) _ ∙ long) even suits given
  put_by access.Pointer v long even suits fits =
      stores (scalar d.ty) 8 (pointer_bytes 8 0 (pointer_of v).prov (pointer_of v).address) (Give Nothing)
      (pointer_length 8 0 (pointer_of v).prov (pointer_of v).address ∙ long) even suits given
  put_by access.Function v long even suits fits =
      stores (scalar d.ty) 8 (number_bytes 8 (function_in v)) (Give Nothing) (number_length 8 (function_in v) ∙ long) even suits given
  put_by (access.Whole size align) (Whole bs source) long even suits fits =
      stores whole align bs _ (fits.0 ∙ long) even suits (checked size source fits.1)
  put_by (access.Whole size align) (Int z) long even suits fits = nothing
  put_by (access.Whole size align) (Ptr b q) long even suits fits = nothing
  put_by (access.Whole size align) (Fun b) long even suits fits = nothing
  put_by (access.Whole size align) Missing long even suits fits = nothing
  put_by (access.Whole size align) Nothing long even suits fits = nothing

  put_does : (v : Value) → TakesValue rows x d v → IsDone rows (put rows true d.access d.ty there v) s
  put_does v takes = put_by d.access v takes.size takes.align takes.suits (takes.value fresh.placed)

-- ---- one after the other
still_fresh : (rows : List Row) (s t : Store) (x : ObjName) (d : Decl) → ((y : ObjName) → t.life y ≡ s.life y) → IsFresh rows s x d → IsFresh rows t x d
still_fresh rows s t x d same f = record { life = f.life; at = same x ∙ f.at; live = f.live; form = f.form; placed = f.placed }

before_not : (is : List Item) (a : Act Value) (c : Clause) → before is a ≡ Raised c → a ≡ Raised c
before_not [] a c h = h
before_not (i ∷ is) a c h = before_not is a c (by (before is a) h)
  where
    by : (b : Act Value) → touched i b ≡ Raised c → b ≡ Raised c
    by (Done v js t) h = absurd (cc)
    by (Raised e) h = h
    by (Ended n js t) h = absurd (cc)
    by (Outside e n) h = absurd (cc)
    by Unplaced h = absurd (cc)

pub passed_quietly : (world : World) (f : Scene) (turn k : ℕ) (ds : List Decl) (vs : List Value) (s : Store) → RowsAreLawful world.rows →
    ((j : ℕ) (d : Decl) (v : Value) → slice_get ds j ≡ Some d → slice_get vs j ≡ Some v →
    TakesValue world.rows (auto_name world f turn (k + j)) d v × IsFresh world.rows s (auto_name world f turn (k + j)) d) →
    (c : Clause) → run world.rows (pass_all world f turn k ds vs) s ≡ Raised c → ⊥
passed_quietly world f turn k [] [] s lawful each c h = cc
passed_quietly world f turn k [] (v ∷ vs) s lawful each c h = cc
passed_quietly world f turn k (d ∷ ds) [] s lawful each c h = cc
passed_quietly world f turn k (d ∷ ds) (v ∷ vs) s lawful each c h =
    let x : ObjName = auto_name world f turn k in
    let first = each 0 d v refl refl in
    let here : k + 0 ≡ k = omega arith in
    let takes : TakesValue world.rows x d v = subst (λ (i : ℕ). TakesValue world.rows (auto_name world f turn i) d v) here first.0 in
    let fresh : IsFresh world.rows s x d = subst (λ (i : ℕ). IsFresh world.rows s (auto_name world f turn i) d) here first.1 in
    let one = put_does world.rows x s d fresh lawful v takes in
    let rest : Script Value = pass_all world f turn (suc k) ds vs in
    passed_quietly world f turn (suc k) ds vs one.1 lawful
    (λ j e w at is.
    let more = each (suc j) e w at is in
    let there : k + suc j ≡ suc k + j = omega arith in (
      subst (λ (i : ℕ). TakesValue world.rows (auto_name world f turn i) e w) there more.0,
      still_fresh world.rows s one.1 (auto_name world f turn (suc k + j)) e one.3
          (subst (λ (i : ℕ). IsFresh world.rows s (auto_name world f turn i) e) there more.1),
    )) c
    (before_not one.0 (run world.rows rest one.1) c
    (sym (run_bind world.rows (put world.rows true d.access d.ty (object_at world f turn k) v) (λ u. rest) s ∙ ap (after world.rows (λ u. rest)) one.2) ∙ h))

-- ---- what was created lives
-- names of objects of one block differ by their numbers
names_apart : (world : World) (f : Scene) (turn i j : ℕ) → same_object (auto_name world f turn i) (auto_name world f turn j) ≡ (i == j)
names_apart world f turn i j =
    ap (λ (b : Bool). b && ((turn == turn) && (i == j))) (same_number (world.number f.home)) ∙ ap (λ (b : Bool). b && (i == j)) (same_number turn)
  where
    same_number : (n : ℕ) → (n == n) ≡ true
    same_number n = search (rules)

abbrev pub life_of : Birth → Life
life_of b = record { live = true; kind = object_kind b.constant; declared = b.form }

born_more : (x : ℕ → ObjName) → ((i j : ℕ) → same_object (x i) (x j) ≡ (i == j)) → (bs : List Birth) (k n : ℕ) (t : Store) (b : Birth) (o : Option Birth)
    (e : Bool) → k < suc n → slice_get bs k ≡ Some b → slice_get bs n ≡ o → (n == k) ≡ e → (k < n → t.life (x k) ≡ Some (life_of b)) →
    (born_by t (x n) o).life (x k) ≡ Some (life_of b)
born_more x apart bs k n t b None true lt at is e earlier =
    let gone : Some b ≡ None = sym at ∙ ap (slice_get bs) (sym (eqb-true n k e)) ∙ is in absurd (cc)
born_more x apart bs k n t b None false lt at is e earlier = earlier (grind (arith, nat_tests, e, lt))
born_more x apart bs k n t b (Some c) true lt at is e earlier =
    ap (λ (q : Bool). if q then Some (life_of c) else t.life (x k)) (apart n k ∙ e)
    ∙ ap (option_map life_of) (sym is ∙ ap (slice_get bs) (eqb-true n k e) ∙ at)
born_more x apart bs k n t b (Some c) false lt at is e earlier =
    ap (λ (q : Bool). if q then Some (life_of c) else t.life (x k)) (apart n k ∙ e) ∙ earlier (grind (arith, nat_tests, e, lt))

born_lives : (x : ℕ → ObjName) → ((i j : ℕ) → same_object (x i) (x j) ≡ (i == j)) → (bs : List Birth) (k n : ℕ) (s : Store) (b : Birth) → k < n →
    slice_get bs k ≡ Some b → (born_first x bs n s).life (x k) ≡ Some (life_of b)
born_lives x apart bs k zero s b lt at = absurd (omega (arith, lt))
born_lives x apart bs k (suc n) s b lt at =
    born_more x apart bs k n (born_first x bs n s) b (slice_get bs n) (n == k) lt at refl refl (λ less. born_lives x apart bs k n s b less at)

pub own_lives : (world : World) (f : Scene) (turn : ℕ) (bs : List Birth) (k n : ℕ) (s : Store) (b : Birth) → k < n → slice_get bs k ≡ Some b →
    (born_first (auto_name world f turn) bs n s).life (auto_name world f turn k) ≡ Some (life_of b)
own_lives world f turn bs k n s b lt at = born_lives (auto_name world f turn) (names_apart world f turn) bs k n s b lt at
