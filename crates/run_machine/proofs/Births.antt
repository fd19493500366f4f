-- The objects of a block are created, one after the other.
use Rattle.std.proofs.Common.{
  ◌≡◌,
  ◌≢◌,
  ℕ,
  zero,
  suc,
  ◌+◌,
  ◌-◌,
  ◌<◌,
  ◌^◌,
  ◌==◌,
  min,
  Bool,
  true,
  false,
  refl,
  sym,
  ap,
  ◌∙◌,
  subst,
  arith,
  append_assoc,
  rules,
  get_or,
  List,
  [],
  ◌∷◌,
  ◌++◌,
  length,
  map,
  Option,
  Some,
  None,
  slice_get,
}
use Rattle.std.proofs.lemmas.Bool.Decides.{nat_tests}
use Rattle.std.specs.Prelude.{is_some, if◌then◌else◌, option_map, Result, Ok, Err, ◌&&◌, ◌||◌, not}
use Rattle.std.proofs.lemmas.Option.{slice_get-map}
use Rattle.ub_base.specs.declared.names.Item.{Item}
use Rattle.ub_base.specs.declared.names.Item.TheVariants.{Born}
use Rattle.ub_base.specs.declared.names.ObjName.{ObjName}
use Rattle.ub_base.specs.declared.names.ObjName.TheVariants.{Auto}
use Rattle.std.proofs.lemmas.Bool.{eqb-true}
use Rattle.addr_map.specs.declared.map.Mode.{Mode}
use Rattle.addr_map.specs.declared.map.Row.{Row}
use Rattle.addr_map.specs.Rows.{row_at, row_of}
use Rattle.exposure.specs.declared.prov.Prov.TheVariants.{Whole}
use Rattle.c_types.specs.declared.shape.Shape.{Shape}
use Rattle.c_types.specs.Shapes.{Form}
use Rattle.mem_spec.specs.declared.kind.ObjKind.{ObjKind}
use Rattle.mem_spec.specs.Acts.{base_in, create, has_place}
use Rattle.mem_spec.specs.Script.{Act, Bear, Done, Give, Misplace, Unplaced, Script, run, touch, touched, ◌>>◌}
use Rattle.mem_spec.specs.Store.{Life, Store, born}
use Rattle.mem_spec.specs.Streams.{Io}
use Rattle.mem_objects.specs.Held.{Held, held_of}
use Rattle.mem_objects.specs.Keeps.{Keeps}
use Rattle.mem_objects.specs.Made.{IsMade}
use Rattle.mem_objects.specs.Memory.{AreKnown, IsBorn, Kept, cannot_create, life_in, no_place, store_of}
use Rattle.mem_objects.specs.Sound.{IsSound}
use Rattle.mem_objects.proofs.AccessLemmas.{before}
use Rattle.prov_memory.proofs.KeepLemmas.{keeps_none, keeps_then}
use Rattle.c_model.specs.Program.{Decl}
use Rattle.c_model.specs.Steps.{Scene, auto_name, bear_all, object_kind}
use Rattle.c_model.specs.Values.{Value}
use Rattle.c_model.specs.World.{World}
use Rattle.run_layout.specs.declared.steps.ObjectCode.{ObjectCode}
use Rattle.run_state.specs.declared.halt.Halt.{Halt}
use Rattle.run_state.specs.declared.halt.Halt.TheVariants as halt
use Rattle.run_state.specs.declared.machine.Machine.{Machine}
use Rattle.run_answers.specs.Entering.{AreNew, BearsAll, Birth, CanBear, CreatesOne, IsNew, IsOneNew, birth_in, birth_of, births, born_by, born_first, new_name}

-- ---- the machine: at first nothing is created
nothing_more : (is : List Item) → is ≡ is ++ []
nothing_more [] = refl
nothing_more (i ∷ is) = ap (λ (js : List Item). i ∷ js) (nothing_more is)

pub none_new : (m : Machine) (objects : List ObjectCode) (first : ℕ) → AreNew m objects first 0 m
none_new m objects first = record {
  rest = refl;
  kept = keeps_none m.memory;
  types = refl;
  items = nothing_more m.items;
  store = λ io. refl;
  each = λ k lt. absurd (omega (arith, lt));
  others = λ j apart. refl;
}

-- and then one more
-- what was new stays so
still_new : (old mid new : Machine) (objects : List ObjectCode) (first k n : ℕ) → Keeps mid.memory new.memory → k < n →
    ((j : ℕ) → j ≢ old.top.locals + (first + n) → slice_get new.locals.items j ≡ slice_get mid.locals.items j) → IsNew old objects first k mid →
    IsNew old objects first k new
still_new old mid new objects first k n keeps lt others i = record {
  object = i.object;
  base = i.base;
  at = i.at;
  row = keeps.rows (new_name old k) (row_at (new_name old k) i.base i.object.size i.object.align) i.row;
  placed = others (old.top.locals + (first + k)) (λ e. omega (arith, lt, e)) ∙ i.placed;
  made = keeps.made (Whole (new_name old k)) i.made;
  absent = i.absent;
}

-- the last one
last_new : (old mid new : Machine) (objects : List ObjectCode) (o : ObjectCode) (first n : ℕ) → slice_get objects n ≡ Some o →
    first + n < 2 ^ 32 → old.top.locals + (first + n) < 2 ^ 64 → AreNew old objects first n mid → IsOneNew mid o first n new →
    mid.top ≡ old.top → IsNew old objects first n new
last_new old mid new objects o first n at small low d one same =
    let names : new_name mid n ≡ new_name old n = ap (λ t. Auto t.frame t.turn n) same in
    let bases : mid.top.locals ≡ old.top.locals = ap (λ t. t.locals) same in
    record {
      object = o;
      base = one.base;
      at = at;
      row = subst (λ (x : ObjName). row_of new.memory.rows x ≡ Some (row_at x one.base o.size o.align)) names one.born.row;
      placed = subst (λ (x : ObjName). slice_get new.locals.items (old.top.locals + (first + n)) ≡ Some (record { addr = one.base; name = x })) names
          (subst (λ (b : ℕ). slice_get new.locals.items (b + (first + n)) ≡ Some (record { addr = one.base; name = new_name mid n })) bases
          (one.placed small (subst (λ (b : ℕ). b + (first + n) < 2 ^ 64) (sym bases) low)));
      made = subst (λ (x : ObjName). IsMade new.memory (Whole x)) names one.made;
      absent = λ io.
          ap (λ (s : Store). s.life (new_name old n)) (sym (d.store io))
          ∙ ap (λ (h : Option Held). life_in h) (subst (λ (x : ObjName). held_of mid.memory.objects x ≡ None) names one.born.absent);
    }

pub one_more_new : (old mid new : Machine) (objects : List ObjectCode) (o : ObjectCode) (first n count : ℕ) → slice_get objects n ≡ Some o →
    CanBear old first count → n < count → AreNew old objects first n mid → IsOneNew mid o first n new → AreNew old objects first (suc n) new
one_more_new old mid new objects o first n count at can lt d one =
    let small : first + n < 2 ^ 32 = omega (arith, lt, can.numbers) in
    let low : old.top.locals + (first + n) < 2 ^ 64 = omega (arith, lt, can.places) in
    let same : mid.top ≡ old.top = ap (λ (m : Machine). m.top) d.rest in
    let names : new_name mid n ≡ new_name old n = ap (λ t. Auto t.frame t.turn n) same in
    let bases : mid.top.locals ≡ old.top.locals = ap (λ t. t.locals) same in
    let sound = d.kept.sound can.sound in
    let others : (j : ℕ) → j ≢ old.top.locals + (first + n) → slice_get new.locals.items j ≡ slice_get mid.locals.items j = λ j ne.
    one.others small (subst (λ (b : ℕ). b + (first + n) < 2 ^ 64) (sym bases) low) j (subst (λ (b : ℕ). j ≢ b + (first + n)) (sym bases) ne) in
    let x = new_name old in
    let bs = map birth_of objects in
    let born_at : slice_get bs n ≡ Some (birth_of o) = slice_get-map birth_of objects n ∙ ap (option_map birth_of) at in
    record {
      rest = one.rest ∙ ap (λ (m : Machine). record m { memory = new.memory; locals = new.locals; items = new.items; spare = new.spare }) d.rest;
      kept = keeps_then old.memory mid.memory new.memory d.kept one.kept;
      types = one.born.types ∙ d.types;
      items = one.items sound ∙ ap (λ (is : List Item). is ++ (Born (new_name mid n) ∷ [])) d.items
          ∙ ap (λ (y : ObjName). (old.items ++ births x n) ++ (Born y ∷ [])) names ∙ simp append_assoc;
      store = λ io. one.store sound io
          ∙ ap (λ (y : ObjName). born_by (store_of mid.memory io) y (Some (birth_of o))) names
          ∙ ap (λ (s : Store). born_by s (x n) (Some (birth_of o))) (d.store io)
          ∙ ap (born_by (born_first x bs n (store_of old.memory io)) (x n)) (sym born_at);
      each = λ k below.
          by_case k (k == n) refl below;
      others = λ j apart. others j (apart n (omega arith)) ∙ d.others j (λ k below. apart k (omega (arith, below)));
    }
  where
    by_case : (k : ℕ) (b : Bool) → (k == n) ≡ b → k < suc n → IsNew old objects first k new
    by_case k true is below =
        let e : n ≡ k = sym (eqb-true k n is) in
        subst (λ (i : ℕ). IsNew old objects first i new) e
        (last_new old mid new objects o first n at (omega (arith, lt, can.numbers)) (omega (arith, lt, can.places)) d one
        (ap (λ (m : Machine). m.top) d.rest))
    by_case k false is below =
        let less : k < n = grind (arith, nat_tests, is, below) in
        still_new old mid new objects first k n one.kept less (λ j ne.
        one.others (omega (arith, lt, can.numbers)) (subst (λ (b : ℕ). b + (first + n) < 2 ^ 64) (sym (ap (λ (m : Machine). m.top.locals) d.rest))
        (omega (arith, lt, can.places))) j (subst (λ (b : ℕ). j ≢ b + (first + n)) (sym (ap (λ (m : Machine). m.top.locals) d.rest)) ne)) (d.each k less)

-- ---- all of them
none_at : (objects : List ObjectCode) (first count : ℕ) (old new : Machine) → count ≡ length objects → AreNew old objects first count new →
    AreNew old objects first (length objects) new
none_at objects first count old new e d = subst (λ (n : ℕ). AreNew old objects first n new) e d

pub all_new : (objects : List ObjectCode) (first n : ℕ) (old new : Machine) → n ≡ length objects → (CanBear old first (length objects) →
    AreNew old objects first n new) → CanBear old first (length objects) → BearsAll old objects first new (Ok tt)
all_new objects first n old new e d can = none_at objects first n old new e (d can)

pub stops_at : (objects : List ObjectCode) (first n : ℕ) (old mid new : Machine) (o : ObjectCode) (e : Halt) → slice_get objects n ≡ Some o →
    n < length objects → mid.top ≡ old.top → (CanBear old first (length objects) → AreNew old objects first n mid) → CreatesOne mid o first n new (Err e) →
    CanBear old first (length objects) → BearsAll old objects first new (Err e)
stops_at objects first n old mid new o halt.Unplaced at lt same d one can = record {
  number = n;
  middle = mid;
  object = o;
  before = d can;
  at = at;
  cannot = subst (λ (x : ObjName). cannot_create mid.memory x o.size o.align ≡ true)
      (ap (λ t. Auto t.frame t.turn n) same) one.0;
  same = one.1;
}
stops_at objects first n old mid new o halt.NoMemory at lt same d one can = tt
stops_at objects first n old mid new o (halt.Over cause number) at lt same d one can = absurd one
stops_at objects first n old mid new o (halt.Raised event line clause) at lt same d one can = absurd one

-- ---- the definitions: a creation is that of the row, whatever rows are there besides
by_place : (rows : List Row) (x : ObjName) (size base : ℕ) (kind : ObjKind) (form : Option Form) (rest : Script Value) (s : Store) (p : Bool)
    (l : Option Life) →
    p ≡ true → s.life x ≡ l → l ≡ None →
    run rows ((if p then touch (Bear x size kind form) >> Give base else Misplace) >> rest) s ≡ touched (Born x) (run rows rest (born s x size kind form))
by_place rows x size base kind form rest s true l place life none =
    ap (λ (o : Option Life). if is_some o then Unplaced else touched (Born x) (run rows rest (born s x size kind form))) (life ∙ none)
by_place rows x size base kind form rest s false l place life none = absurd (cc)

without_place : (rows : List Row) (x : ObjName) (size base : ℕ) (kind : ObjKind) (form : Option Form) (rest : Script Value) (s : Store) (p : Bool) →
    (not p || is_some (s.life x)) ≡ true → run rows ((if p then touch (Bear x size kind form) >> Give base else Misplace) >> rest) s ≡ Unplaced
without_place rows x size base kind form rest s true h =
    ap (λ (b : Bool). if b then Unplaced else touched (Born x) (run rows rest (born s x size kind form))) h
without_place rows x size base kind form rest s false h = refl

abbrev pub births_from : (ℕ → ObjName) → (k n : ℕ) → List Item
births_from x k zero = []
births_from x k (suc n) = Born (x k) ∷ births_from x (suc k) n

pub births_joined : (x : ℕ → ObjName) (k m n : ℕ) → m ≡ k + n → births x k ++ births_from x k n ≡ births x m
births_joined x k m zero e = (let same : k ≡ m = omega (arith, e) in sym (nothing_more (births x k)) ∙ ap (births x) same)
births_joined x k m (suc n) e =
    let along : births x k ++ (Born (x k) ∷ births_from x (suc k) n) ≡ (births x k ++ (Born (x k) ∷ [])) ++ births_from x (suc k) n = simp append_assoc in
    along ∙ births_joined x (suc k) m n (omega (arith, e))

module _ (world : World) (f : Scene) (turn : ℕ) (bs : List Birth) (s : Store) where
  abbrev own : ℕ → ObjName
  own = auto_name world f turn

  -- each of these, from this one on, is new, has the size and alignment of its row, and is created so
  abbrev pub CanAll : ℕ → List Decl → Type 0
  CanAll k [] = Unit {0}
  CanAll k (d ∷ ds) =
      (slice_get bs k ≡ Some (birth_in d)) × (has_place (row_of world.rows (own k)) d.size d.align ≡ true) × ((born_first own bs k s).life (own k) ≡ None)
      × CanAll (suc k) ds

  pub bears : (k n : ℕ) (ds : List Decl) (rest : Script Value) → n ≡ k + length ds → CanAll k ds →
      run world.rows (bear_all world f turn k ds rest) (born_first own bs k s)
      ≡ before (births_from own k (length ds)) (run world.rows rest (born_first own bs n s))
  bears k n [] rest e can = ap (λ (m : ℕ). run world.rows rest (born_first own bs m s)) (omega (arith, e))
  bears k n (d ∷ ds) rest e can =
      by_place world.rows (own k) d.size (base_in (row_of world.rows (own k))) (object_kind d.constant) d.form
      (bear_all world f turn (suc k) ds rest) (born_first own bs k s) (has_place (row_of world.rows (own k)) d.size d.align)
      ((born_first own bs k s).life (own k)) can.1 refl can.2
      ∙ ap (λ (b : Option Birth). touched (Born (own k)) (run world.rows (bear_all world f turn (suc k) ds rest)
      (born_by (born_first own bs k s) (own k) b))) (sym can.0)
      ∙ ap (touched (Born (own k))) (bears (suc k) n ds rest (omega (arith, e)) can.3)

  -- .. up to one that has no place
  abbrev pub StopsAt : ℕ → ℕ → List Decl → Type 0
  StopsAt k j [] = ⊥
  StopsAt k zero (d ∷ ds) = (not (has_place (row_of world.rows (own k)) d.size d.align) || is_some ((born_first own bs k s).life (own k))) ≡ true
  StopsAt k (suc j) (d ∷ ds) =
      (slice_get bs k ≡ Some (birth_in d)) × (has_place (row_of world.rows (own k)) d.size d.align ≡ true) × ((born_first own bs k s).life (own k) ≡ None)
      × StopsAt (suc k) j ds

  pub stops : (k j : ℕ) (ds : List Decl) (rest : Script Value) → StopsAt k j ds →
      run world.rows (bear_all world f turn k ds rest) (born_first own bs k s) ≡ Unplaced
  stops k zero [] rest h = absurd h
  stops k (suc j) [] rest h = absurd h
  stops k zero (d ∷ ds) rest h =
      without_place world.rows (own k) d.size (base_in (row_of world.rows (own k))) (object_kind d.constant) d.form
      (bear_all world f turn (suc k) ds rest) (born_first own bs k s) (has_place (row_of world.rows (own k)) d.size d.align) h
  stops k (suc j) (d ∷ ds) rest h =
      by_place world.rows (own k) d.size (base_in (row_of world.rows (own k))) (object_kind d.constant) d.form
      (bear_all world f turn (suc k) ds rest) (born_first own bs k s) (has_place (row_of world.rows (own k)) d.size d.align)
      ((born_first own bs k s).life (own k)) h.1 refl h.2
      ∙ ap (λ (b : Option Birth). touched (Born (own k)) (run world.rows (bear_all world f turn (suc k) ds rest)
      (born_by (born_first own bs k s) (own k) b))) (sym h.0)
      ∙ ap (touched (Born (own k))) (stops (suc k) j ds rest h.3)

-- ---- what can't be created has no place
no_place_so : (k : Kept) (r : Option Row) (mode : Option Mode) (size align : ℕ) → no_place k r mode size align ≡ true → has_place r size align ≡ false
no_place_so k None mode size align h = refl
no_place_so k (Some r) mode size align h = flipped ((r.size == size) && (r.align == align)) h
  where
    flipped : (b : Bool) → not b ≡ true → b ≡ false
    flipped true e = absurd (cc)
    flipped false e = refl

held_lives : (o : Option Held) → is_some o ≡ true → is_some (life_in o) ≡ true
held_lives None e = absurd (cc)
held_lives (Some h) e = refl

either_way : (held none : Bool) (placed : Bool) (life : Bool) → (held || none) ≡ true → (none ≡ true → placed ≡ false) → (held ≡ true → life ≡ true) →
    (not placed || life) ≡ true
either_way held true placed life h none some = ap (λ (p : Bool). not p || life) (none refl)
either_way true false placed life h none some = lives placed (some refl)
  where
    lives : (p : Bool) → life ≡ true → (not p || life) ≡ true
    lives true e = e
    lives false e = refl
either_way false false placed life h none some = absurd (cc)

pub cannot_so : (k : Kept) (x : ObjName) (size align : ℕ) (io : Io) → cannot_create k x size align ≡ true →
    (not (has_place (row_of k.rows x) size align) || is_some ((store_of k io).life x)) ≡ true
cannot_so k x size align io h =
    either_way (is_some (held_of k.objects x)) (no_place k (row_of k.rows x) k.mode size align) (has_place (row_of k.rows x) size align)
    (is_some (life_in (held_of k.objects x))) h (no_place_so k (row_of k.rows x) k.mode size align) (held_lives (held_of k.objects x))

-- ---- the code: one object is created
abbrev touched_by : {V : Type 0} → Act V → List Item
touched_by (Done v is s) = is
touched_by a = []

abbrev left_by : {V : Type 0} → Store → Act V → Store
left_by t (Done v is s) = s
left_by t a = t

sized : (n m : ℕ) → ((n == n) && (m == m)) ≡ true
sized n m = search (rules)

created_at : (rows : List Row) (x : ObjName) (size base : ℕ) (kind : ObjKind) (form : Option Form) (s : Store) (p : Bool) → p ≡ true → s.life x ≡ None →
    run rows (if p then touch (Bear x size kind form) >> Give base else Misplace) s ≡ Done base (Born x ∷ []) (born s x size kind form)
created_at rows x size base kind form s true e none =
    ap (λ (o : Option Life). if is_some o then Unplaced else Done base (Born x ∷ []) (born s x size kind form)) none
created_at rows x size base kind form s false e none = absurd (cc)

created_so : (rows : List Row) (x : ObjName) (size align base : ℕ) (kind : ObjKind) (form : Option Form) (s : Store) →
    row_of rows x ≡ Some (row_at x base size align) → s.life x ≡ None →
    run rows (create rows x size align kind form) s ≡ Done base (Born x ∷ []) (born s x size kind form)
created_so rows x size align base kind form s at none =
    ap (λ (o : Option Row). run rows (if has_place o size align then touch (Bear x size kind form) >> Give (base_in o) else Misplace) s) at
    ∙ created_at rows x size base kind form s ((size == size) && (align == align)) (sized size align) none

-- .. and stands among the objects of the top frame
pub one_new : (m p : Machine) (o : ObjectCode) (first k at base : ℕ) (memory : Kept) (t items : List Item) (declared : Option Shape) (form : Option Form) →
    declared ≡ option_map (λ s. s.value) o.shape → form ≡ (birth_of o).form → at ≡ min (first + k) (2 ^ 32 - 1) →
    IsBorn m.memory memory (new_name m k) base o.size o.align (object_kind o.constant) declared →
    (AreKnown m.memory → (io : Io) → run memory.rows (create memory.rows (new_name m k) o.size o.align (object_kind o.constant) form) (store_of m.memory io)
    ≡ Done base t (store_of memory io)) →
    Keeps m.memory memory → IsMade memory (Whole (new_name m k)) →
    p ≡ record m { memory = memory; spare = t; locals = p.locals } →
    slice_get p.locals.items (min (m.top.locals + at) (2 ^ 64 - 1)) ≡ Some (record { addr = base; name = new_name m k }) →
    ((j : ℕ) → j ≢ min (m.top.locals + at) (2 ^ 64 - 1) → slice_get p.locals.items j ≡ slice_get m.locals.items j) → items ≡ p.items ++ p.spare →
    IsOneNew m o first k (record p { items = items })
one_new m p o first k at base memory t items declared form shape shapes is bears exact keeps made rest placed others joined =
    let x = new_name m k in
    let kind = object_kind o.constant in
    let known : IsSound m.memory → (io : Io) → run memory.rows (create memory.rows x o.size o.align kind form) (store_of m.memory io)
    ≡ Done base t (store_of memory io) = λ sound. exact sound.known in
    let does : (io : Io) → run memory.rows (create memory.rows x o.size o.align kind form) (store_of m.memory io)
    ≡ Done base (Born x ∷ []) (born (store_of m.memory io) x o.size kind form) = λ io.
    created_so memory.rows x o.size o.align base kind form (store_of m.memory io) bears.row (ap (λ (h : Option Held). life_in h) bears.absent) in
    let there : first + k < 2 ^ 32 → m.top.locals + (first + k) < 2 ^ 64 → min (m.top.locals + at) (2 ^ 64 - 1) ≡ m.top.locals + (first + k) = λ small low.
    omega (arith, is, small, low) in
    let all : items ≡ m.items ++ t = joined ∙ ap (λ (q : Machine). q.items ++ q.spare) rest in
    subst (λ (q : Machine). IsOneNew m o first k (record q { items = items })) (sym rest) (record {
      rest = refl;
      base = base;
      born = subst (λ (d : Option Shape). IsBorn m.memory memory x base o.size o.align kind d) shape bears;
      kept = keeps;
      made = made;
      items = λ sound.
          let touches : t ≡ Born x ∷ [] = sym (ap touched_by (known sound m.streams)) ∙ ap touched_by (does m.streams) in
          all ∙ ap (λ (is : List Item). m.items ++ is) touches;
      store = λ sound io.
          sym (ap (left_by (store_of m.memory io)) (known sound io)) ∙ ap (left_by (store_of m.memory io)) (does io)
          ∙ ap (λ (f : Option Form). born (store_of m.memory io) x o.size kind f) shapes;
      placed = λ small low.
          subst (λ (j : ℕ). slice_get p.locals.items j ≡ Some (record { addr = base; name = x })) (there small low) placed;
      others = λ small low j apart. others j (λ e. apart (e ∙ there small low));
    })

-- ---- the code: one object after the other
item_at : {A : Type 0} (xs : List A) (i : ℕ) (x : A) → i < length xs → x ≡ get_or xs i x → slice_get xs i ≡ Some x
item_at [] i x lt is = absurd (omega (arith, lt))
item_at (y ∷ xs) zero x lt is = ap Some (sym is)
item_at (y ∷ xs) (suc i) x lt is = item_at xs i x (omega (arith, lt)) is

-- numbers of objects that can be created don't reach the most
numbered : (first n number count : ℕ) → number ≡ min n (2 ^ 32 - 1) → n < count → first + count < 2 ^ 32 → number ≡ n
numbered first n number count is lt small = omega (arith, is, lt, small)

pub next_new : (old mid new : Machine) (objects : List ObjectCode) (o : ObjectCode) (first n number : ℕ) → n < length objects → o ≡ get_or objects n o →
    number ≡ min n (2 ^ 32 - 1) → (CanBear old first (length objects) → AreNew old objects first n mid) → IsOneNew mid o first number new →
    CanBear old first (length objects) → AreNew old objects first (n + 1) new
next_new old mid new objects o first n number lt at is d one can =
    let same : number ≡ n = numbered first n number (length objects) is lt can.numbers in
    let next : suc n ≡ n + 1 = omega arith in
    subst (λ (k : ℕ). AreNew old objects first k new) next
    (one_more_new old mid new objects o first n (length objects) (item_at objects n o lt at) can lt (d can)
    (subst (λ (k : ℕ). IsOneNew mid o first k new) same one))

pub stops_there : (objects : List ObjectCode) (first n number : ℕ) (old mid new : Machine) (o : ObjectCode) (r : Result (Unit {0}) Halt) (y e : Halt) →
    r ≡ Err y → y ≡ e → n < length objects → o ≡ get_or objects n o → number ≡ min n (2 ^ 32 - 1) →
    (CanBear old first (length objects) → AreNew old objects first n mid) → CreatesOne mid o first number new (Err e) →
    CanBear old first (length objects) → BearsAll old objects first new r
stops_there objects first n number old mid new o r y e fails fault lt at is d one can =
    let same : number ≡ n = numbered first n number (length objects) is lt can.numbers in
    subst (λ (q : Result (Unit {0}) Halt). BearsAll old objects first new q) (sym (fails ∙ ap Err fault))
    (stops_at objects first n old mid new o e (item_at objects n o lt at) lt (ap (λ (m : Machine). m.top) (d can).rest) d
    (subst (λ (k : ℕ). CreatesOne mid o first k new (Err e)) same one) can)
