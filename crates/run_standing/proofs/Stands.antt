-- Objects that are created and then filled.
use Rattle.std.proofs.Common.{◌≡◌, ℕ, zero, suc, ◌+◌, ◌<◌, ◌≤◌, Bool, true, false, refl, sym}
use Rattle.std.proofs.Common.{ap, ◌∙◌, subst, arith, List, [], ◌∷◌, ◌++◌, length, take, get_or, Option, Some}
use Rattle.ub_base.specs.declared.names.Item.{Item}
use Rattle.ub_base.specs.declared.names.ObjName.TheVariants.{Lit}
use Rattle.addr_map.specs.declared.map.Row.{Row}
use Rattle.c_types.specs.declared.kind.IntKind.TheVariants.{Char}
use Rattle.c_types.specs.Shapes.{leaf, repeat}
use Rattle.c_types.specs.Types.{int}
use Rattle.mem_spec.specs.Acts.{create}
use Rattle.mem_spec.specs.Script.{Script, Done, run, touched}
use Rattle.mem_spec.specs.Store.{Store}
use Rattle.mem_objects.specs.Keeps.{Keeps}
use Rattle.mem_objects.specs.Memory.{Kept, store_of}
use Rattle.mem_objects.proofs.AccessLemmas.{before, after, run_bind}
use Rattle.c_model.specs.Nodes.{fill}
use Rattle.c_model.specs.Program.{Standing}
use Rattle.c_model.specs.Runs.{stand_each, fill_each}
use Rattle.c_model.specs.Values.{Value, Nothing}
use Rattle.c_model.specs.World.{World}
use Rattle.std.specs.Prelude.{Result, Ok, Err, OnOk, map}
use Rattle.c_types.specs.declared.tags.Extent.{Extent}
use Rattle.c_types.specs.declared.tags.Tag.{Tag}
use Rattle.c_types.specs.Shapes.{Form}
use Rattle.c_types.specs.Types.{qualified_of}
use Rattle.c_typed.specs.declared.program.Static.{Static as Object}
use Rattle.c_model.specs.Program.{Zeros}
use Rattle.mem_objects.specs.Memory.{AreKnown}
use Rattle.ub_base.specs.declared.names.ObjName.TheVariants as names
use Rattle.program_view.specs.Objects.{access_of}
use Rattle.run_values.specs.Contents.{filled_by}
use Rattle.run_standing.specs.Standing.{IsStatic, AreStatics, StaticCreated, StaticsCreated}
use Rattle.run_objects.specs.Extents.{extent_of, is_constant, HasForm}
use Rattle.std.proofs.lemmas.List.{length-append}
use Rattle.std.specs.Prelude.{◌*◌, ◌==◌, not}
use Rattle.c_types.specs.declared.ty.Qual.{Qual}
use Rattle.c_types.specs.Types.{params_of}
use Rattle.run_standing.specs.Standing.{has_parameters}
use Rattle.c_types.specs.Types.{pointer}
use Rattle.run_standing.specs.Standing.{vector}
use Rattle.run_standing.specs.Standing.{arguments, program_name}
use Rattle.std.specs.Prelude.{string_bytes}
use Rattle.std.proofs.Common.{String}
use Rattle.run_standing.specs.Standing.{text, literals, kind_of, CreatesOne, CreatesAll, place_of, FillsAll, StandsSo, AllCreated}
use Rattle.run_standing.specs.Starting.{Creates}
use Rattle.run_values.proofs.Fills.{before_twice}

-- ---- the scripts of the definitions
pub items_before : {V : Type 0} (is js : List Item) (v : V) (s : Store) → before is (Done v js s) ≡ Done v (is ++ js) s
items_before [] js v s = refl
items_before (i ∷ is) js v s = ap (touched i) (items_before is js v s)

created_all : (world : World) (os : List Standing) (rest : Script Value) (s t : Store) → CreatesAll world.rows os s t →
    (is : List Item) × (run world.rows (stand_each world os rest) s ≡ before is (run world.rows rest t))
created_all world [] rest s t e = ([], ap (λ (u : Store). run world.rows rest u) (sym e))
created_all world (o ∷ os) rest s t c =
    let act = create world.rows o.name o.decl.size o.decl.align (kind_of o) o.decl.form in
    let more = created_all world os rest c.0 t c.2 in (
      c.1.1 ++ more.0,
      run_bind world.rows act (λ (v : ℕ). stand_each world os rest) s ∙ ap (after world.rows (λ (v : ℕ). stand_each world os rest)) c.1.2
          ∙ ap (before c.1.1) more.1 ∙ before_twice c.1.1 more.0 (run world.rows rest t),
    )

filled_all : (world : World) (os : List Standing) (s t : Store) → FillsAll world.rows os s t →
    (is : List Item) × (run world.rows (fill_each world os) s ≡ Done Nothing is t)
filled_all world [] s t e = ([], ap (λ (u : Store). Done Nothing [] u) (sym e))
filled_all world (o ∷ os) s t c =
    let act = fill world.rows (place_of world.rows o.name) o.fillings in
    let more = filled_all world os c.0 t c.2 in (
      c.1.0 ++ more.0,
      run_bind world.rows act (λ (v : Value). fill_each world os) s ∙ ap (after world.rows (λ (v : Value). fill_each world os)) c.1.1
          ∙ ap (before c.1.0) more.1 ∙ items_before c.1.0 more.0 Nothing t,
    )

pub stands_so : StandsSo
stands_so world os s t u created filled =
    let first = created_all world os (fill_each world os) s t created in
    let then = filled_all world os t u filled in
    (first.0 ++ then.0, first.1 ∙ ap (before first.0) then.1 ∙ items_before first.0 then.0 Nothing u)

-- ---- one more
creates_behind : (rows : List Row) (os : List Standing) (o : Standing) (s t u : Store) → CreatesAll rows os s t → CreatesOne rows o t u →
    CreatesAll rows (os ++ o ∷ []) s u
creates_behind rows [] o s t u e one = (u, subst (λ (v : Store). CreatesOne rows o v u) e one, refl)
creates_behind rows (p ∷ os) o s t u c one = (c.0, c.1, creates_behind rows os o c.0 t u c.2 one)

pub created_behind : (old now new : Kept) (os : List Standing) (o : Standing) → Keeps now new → AllCreated old now os →
    Creates now new o.name o.decl.size o.decl.align (kind_of o) o.decl.form → AllCreated old new (os ++ o ∷ [])
created_behind old now new os o keeps all one = λ rows stay io.
    creates_behind rows os o (store_of old io) (store_of now io) (store_of new io) (all rows (λ x r e. stay x r (keeps.rows x r e)) io) (one rows stay io)

pub none_created : (m : Kept) → AllCreated m m []
none_created m = λ rows stay io. refl

-- ---- literals
pub literal_next : (k i n : ℕ) (xs : List (List ℕ)) (b : List ℕ) → n ≡ k + i → i < length xs → b ≡ get_or xs i b →
    take (suc i) (literals k xs) ≡ take i (literals k xs) ++ text (Lit n) true b ∷ []
literal_next k i n [] b e lt is = absurd (omega (arith, lt))
literal_next k zero n (x ∷ xs) b e lt is =
    let here : k ≡ n = omega (arith, e) in
    λ j. text (Lit (here j)) true (sym is j) ∷ []
literal_next k (suc i) n (x ∷ xs) b e lt is =
    ap (λ (os : List Standing). text (Lit k) true x ∷ os) (literal_next (suc k) i n xs b (omega (arith, e)) (omega (arith, lt)) is)

pub literals_more : (old now new : Kept) (xs : List (List ℕ)) (i n size : ℕ) (b : List ℕ) → Keeps now new → AllCreated old now (take i (literals 0 xs)) →
    n ≡ i → size ≡ length b → i < length xs → b ≡ get_or xs i b →
    Creates now new (Lit n) size 1 (record { heap = false; literal = true; constant = false }) (Some (repeat size 1 (leaf (int Char)))) →
    AllCreated old new (take (i + 1) (literals 0 xs))
literals_more old now new xs i n size b keeps all e len lt is one =
    let creates : Creates now new (Lit n) (length b) 1 (record { heap = false; literal = true; constant = false })
    (Some (repeat (length b) 1 (leaf (int Char)))) =
    subst (λ (j : ℕ). Creates now new (Lit n) j 1 (record { heap = false; literal = true; constant = false }) (Some (repeat j 1 (leaf (int Char))))) len
    one in
    let next : suc i ≡ i + 1 = omega arith in
    subst (λ (os : List Standing). AllCreated old new os)
    (sym (literal_next 0 i n xs b (omega (arith, e)) lt is) ∙ ap (λ (j : ℕ). take j (literals 0 xs)) next)
    (created_behind old now new (take i (literals 0 xs)) (text (Lit n) true b) keeps all creates)

pub take_all : (k n : ℕ) (xs : List (List ℕ)) → n ≡ length xs → take n (literals k xs) ≡ literals k xs
take_all k n [] e = rw e refl
take_all k zero (x ∷ xs) e = absurd (omega (arith, e))
take_all k (suc n) (x ∷ xs) e = ap (λ (os : List Standing). text (Lit k) true x ∷ os) (take_all (suc k) n xs (omega (arith, e)))

pub literals_all : (old new : Kept) (xs ys : List (List ℕ)) (n : ℕ) → n ≡ length xs → xs ≡ ys → AllCreated old new (take n (literals 0 xs)) →
    AllCreated old new (literals 0 ys)
literals_all old new xs ys n e same all =
    subst (λ (os : List Standing). AllCreated old new os) (take_all 0 n xs e ∙ ap (λ (zs : List (List ℕ)). literals 0 zs) same) all

-- ---- objects with static storage
abbrev static_as : List Tag → ℕ → Extent → Bool → Option Form → Object → Standing
static_as tags k e constant form s = record {
  name = names.Static k;
  decl = record {
    size = e.size;
    align = e.align;
    constant = constant;
    form = form;
    access = access_of tags (qualified_of s.qual).ty;
    ty = (qualified_of s.qual).ty;
  };
  literal = false;
  fillings = record { offset = 0; content = Zeros e.size } ∷ map filled_by s.constants;
}

pub static_created : {E : Type 0} (r : Result ℕ E) (old new : Kept) (tags : List Tag) (k : ℕ) (s : Object) (e : Extent) (constant : Bool)
    (form : Option Form) → e ≡ extent_of tags (qualified_of s.qual).ty → constant ≡ is_constant (qualified_of s.qual) →
    HasForm tags (qualified_of s.qual).ty form →
    OnOk r (AreKnown old → Creates old new (names.Static k) e.size e.align (record { heap = false; literal = false; constant = constant }) form) →
    OnOk r (AreKnown old → StaticCreated old new tags k s)
static_created (Ok a) old new tags k s e constant form sized const formed creates = λ known. (
  static_as tags k e constant form s,
  record {
    name = refl;
    size = ap (λ (x : Extent). x.size) sized;
    align = ap (λ (x : Extent). x.align) sized;
    constant = const;
    form = formed;
    access = refl;
    ty = refl;
    literal = refl;
    fillings = refl;
  },
  creates known,
)
static_created (Err c) old new tags k s e constant form sized const formed creates = tt

pub take_next : {A : Type 0} (xs : List A) (i : ℕ) (x : A) → i < length xs → x ≡ get_or xs i x → take (suc i) xs ≡ take i xs ++ x ∷ []
take_next [] i x lt is = absurd (omega (arith, lt))
take_next (y ∷ ys) zero x lt is = ap (λ z. z ∷ []) (sym is)
take_next (y ∷ ys) (suc i) x lt is = ap (λ zs. y ∷ zs) (take_next ys i x (omega (arith, lt)) is)

take_length : {A : Type 0} (xs : List A) (i : ℕ) → i ≤ length xs → length (take i xs) ≡ i
take_length [] i le = let none : i ≡ 0 = omega (arith, le) in rw none refl
take_length (x ∷ xs) zero le = refl
take_length (x ∷ xs) (suc i) le = ap suc (take_length xs i (omega (arith, le)))

statics_behind : (tags : List Tag) (k n : ℕ) (ss : List Object) (os : List Standing) (s : Object) (o : Standing) → n ≡ k + length ss →
    AreStatics tags k ss os → IsStatic tags n s o → AreStatics tags k (ss ++ s ∷ []) (os ++ o ∷ [])
statics_behind tags k n [] [] s o e are one =
    let here : n ≡ k = omega (arith, e) in
    (subst (λ (j : ℕ). IsStatic tags j s o) here one, tt)
statics_behind tags k n [] (p ∷ os) s o e are one = absurd are
statics_behind tags k n (t ∷ ss) [] s o e are one = absurd are
statics_behind tags k n (t ∷ ss) (p ∷ os) s o e are one = (are.0, statics_behind tags (suc k) n ss os s o (omega (arith, e)) are.1 one)

pub none_static : (m : Kept) (tags : List Tag) (xs : List Object) → StaticsCreated m m tags (take 0 xs)
none_static m tags [] = ([], tt, none_created m)
none_static m tags (x ∷ xs) = ([], tt, none_created m)

pub statics_more : (old now new : Kept) (tags : List Tag) (xs : List Object) (i n : ℕ) (s : Object) → Keeps now new →
    StaticsCreated old now tags (take i xs) → n ≡ i → i < length xs → s ≡ get_or xs i s → StaticCreated now new tags n s →
    StaticsCreated old new tags (take (i + 1) xs)
statics_more old now new tags xs i n s keeps all e lt is one =
    let next : suc i ≡ i + 1 = omega arith in
    let more : take i xs ++ s ∷ [] ≡ take (i + 1) xs = sym (take_next xs i s lt is) ∙ ap (λ (j : ℕ). take j xs) next in
    let there : n ≡ 0 + length (take i xs) = omega (arith, e, take_length xs i (omega (arith, lt))) in (
      all.0 ++ one.0 ∷ [],
      subst (λ (ss : List Object). AreStatics tags 0 ss (all.0 ++ one.0 ∷ [])) more
          (statics_behind tags 0 n (take i xs) all.0 s one.0 there all.1 one.1),
      created_behind old now new all.0 one.0 keeps all.2 one.2,
    )

pub take_every : {A : Type 0} (xs : List A) (n : ℕ) → n ≡ length xs → take n xs ≡ xs
take_every [] n e = let none : n ≡ 0 = omega (arith, e) in rw none refl
take_every (x ∷ xs) zero e = absurd (omega (arith, e))
take_every (x ∷ xs) (suc n) e = ap (λ ys. x ∷ ys) (take_every xs n (omega (arith, e)))

pub statics_all : (old new : Kept) (tags : List Tag) (xs ys : List Object) (n : ℕ) → n ≡ length xs → xs ≡ ys →
    StaticsCreated old new tags (take n xs) → StaticsCreated old new tags ys
statics_all old new tags xs ys n e same all = subst (λ (ss : List Object). StaticsCreated old new tags ss) (take_every xs n e ∙ same) all

-- ---- the arguments of `main`
pub argument_next : (k i n : ℕ) (xs : List (List ℕ)) (b : List ℕ) → n ≡ k + i → i < length xs → b ≡ get_or xs i b →
    take (suc i) (arguments k xs) ≡ take i (arguments k xs) ++ text (names.Arg n) false (b ++ 0 ∷ []) ∷ []
argument_next k i n [] b e lt is = absurd (omega (arith, lt))
argument_next k zero n (x ∷ xs) b e lt is =
    let here : k ≡ n = omega (arith, e) in
    λ j. text (names.Arg (here j)) false (sym is j ++ 0 ∷ []) ∷ []
argument_next k (suc i) n (x ∷ xs) b e lt is =
    ap (λ (os : List Standing). text (names.Arg k) false (x ++ 0 ∷ []) ∷ os) (argument_next (suc k) i n xs b (omega (arith, e)) (omega (arith, lt)) is)

pub arguments_more : (old now new : Kept) (xs : List (List ℕ)) (i n j : ℕ) (b : List ℕ) → Keeps now new → AllCreated old now (take i (arguments 0 xs)) →
    n ≡ i → j ≡ suc i → i < length xs → b ≡ get_or xs i b →
    Creates now new (names.Arg n) (length b + 1) 1 (record { heap = false; literal = false; constant = false })
    (Some (repeat (length b + 1) 1 (leaf (int Char)))) → AllCreated old new (take j (arguments 0 xs))
arguments_more old now new xs i n j b keeps all e next lt is one =
    let len : length b + 1 ≡ length (b ++ 0 ∷ []) = sym (length-append b (0 ∷ [])) in
    let creates : Creates now new (names.Arg n) (length (b ++ 0 ∷ [])) 1 (record { heap = false; literal = false; constant = false })
    (Some (repeat (length (b ++ 0 ∷ [])) 1 (leaf (int Char)))) =
    subst (λ (m : ℕ). Creates now new (names.Arg n) m 1 (record { heap = false; literal = false; constant = false })
    (Some (repeat m 1 (leaf (int Char))))) len one in
    subst (λ (os : List Standing). AllCreated old new os)
    (sym (argument_next 0 i n xs b (omega (arith, e)) lt is) ∙ ap (λ (m : ℕ). take m (arguments 0 xs)) (sym next))
    (created_behind old now new (take i (arguments 0 xs)) (text (names.Arg n) false (b ++ 0 ∷ [])) keeps all creates)

pub take_each : (k n : ℕ) (xs : List (List ℕ)) → n ≡ length xs → take n (arguments k xs) ≡ arguments k xs
take_each k n [] e = rw e refl
take_each k zero (x ∷ xs) e = absurd (omega (arith, e))
take_each k (suc n) (x ∷ xs) e = ap (λ (os : List Standing). text (names.Arg k) false (x ++ 0 ∷ []) ∷ os) (take_each (suc k) n xs (omega (arith, e)))

pub arguments_all : (old new : Kept) (xs : List (List ℕ)) (n : ℕ) → n ≡ length xs → AllCreated old new (take n (arguments 0 xs)) →
    AllCreated old new (arguments 0 xs)
arguments_all old new xs n e all = subst (λ (os : List Standing). AllCreated old new os) (take_each 0 n xs e) all

pub mapped_at : {A B : Type 0} (f : A → B) (xs : List A) (i : ℕ) (x : A) → i < length xs → x ≡ get_or xs i x → f x ≡ get_or (map f xs) i (f x)
mapped_at f [] i x lt is = absurd (omega (arith, lt))
mapped_at f (y ∷ ys) zero x lt is = ap f is
mapped_at f (y ∷ ys) (suc i) x lt is = mapped_at f ys i x (omega (arith, lt)) is

pub mapped_length : {A B : Type 0} (f : A → B) (xs : List A) → length (map f xs) ≡ length xs
mapped_length f [] = refl
mapped_length f (x ∷ xs) = ap suc (mapped_length f xs)

pub arguments_next : {Z : Type 0} (old now new : Kept) (args : List (String Z)) (i n : ℕ) (a : String Z) (b : List ℕ) → Keeps now new →
    AllCreated old now (take (i + 1) (arguments 0 (program_name ∷ map string_bytes args))) → n ≡ i + 1 → i < length args → a ≡ get_or args i a →
    b ≡ string_bytes a →
    Creates now new (names.Arg n) (length b + 1) 1 (record { heap = false; literal = false; constant = false })
    (Some (repeat (length b + 1) 1 (leaf (int Char)))) →
    AllCreated old new (take (i + 1 + 1) (arguments 0 (program_name ∷ map string_bytes args)))
arguments_next old now new args i n a b keeps all e lt is text one =
    let xs = program_name ∷ map string_bytes args in
    let next : i + 1 ≡ suc i = omega arith in
    let more : i + 1 + 1 ≡ suc (suc i) = omega arith in
    let there : b ≡ get_or xs (suc i) b =
    subst (λ (c : List ℕ). c ≡ get_or xs (suc i) c) (sym text) (mapped_at string_bytes args i a lt is) in
    arguments_more old now new xs (suc i) n (i + 1 + 1) b keeps (subst (λ (j : ℕ). AllCreated old now (take j (arguments 0 xs))) next all)
    (omega (arith, e)) more (omega (arith, lt, mapped_length string_bytes args)) there one

-- ---- all of them
creates_then : (rows : List Row) (os ps : List Standing) (s t u : Store) → CreatesAll rows os s t → CreatesAll rows ps t u → CreatesAll rows (os ++ ps) s u
creates_then rows [] ps s t u e more = subst (λ (v : Store). CreatesAll rows ps v u) e more
creates_then rows (o ∷ os) ps s t u c more = (c.0, c.1, creates_then rows os ps c.0 t u c.2 more)

pub created_then : (old now new : Kept) (os ps : List Standing) → Keeps now new → AllCreated old now os → AllCreated now new ps → AllCreated old new (os ++ ps)
created_then old now new os ps keeps first then = λ rows stay io.
    creates_then rows os ps (store_of old io) (store_of now io) (store_of new io) (first rows (λ x r e. stay x r (keeps.rows x r e)) io) (then rows stay io)

pub vector_created : (old new : Kept) (args : List (List ℕ)) (n : ℕ) → length args ≡ n + 1 → Keeps old new →
    Creates old new names.Argv (8 * (n + 2)) 8 (record { heap = false; literal = false; constant = false })
    (Some (repeat (n + 2) 8 (leaf (pointer false (int Char))))) → AllCreated old new (vector args ∷ [])
vector_created old new args n len keeps one =
    let count : n + 2 ≡ length args + 1 = omega (arith, len) in
    created_behind old old new [] (vector args) keeps (none_created old)
    (subst (λ (k : ℕ). Creates old new names.Argv (8 * k) 8 (record { heap = false; literal = false; constant = false })
    (Some (repeat k 8 (leaf (pointer false (int Char)))))) count one)

pub parameters_there : (qs : List Qual) → not (length qs == 0) ≡ has_parameters (params_of (map qualified_of qs))
parameters_there [] = refl
parameters_there (q ∷ qs) = grind arith
