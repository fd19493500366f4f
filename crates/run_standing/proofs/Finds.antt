-- A new memory has room for the objects that stand before a run.
use Rattle.std.proofs.Common.{◌≡◌, ℕ, zero, suc, ◌+◌, ◌*◌, ◌<◌, ◌≤◌, ◌^◌, max, min, Bool, true, false, cond, refl, sym, ap, ap₂, ◌∙◌, subst, arith}
use Rattle.std.proofs.Common.{append_assoc, List, [], ◌∷◌, ◌++◌, length, map, take, slice_get, Option, Some, None, inl, inr}
use Rattle.std.specs.Prelude.{is_some, ◌==◌, ◌⊎◌}
use Rattle.std.specs.List.{All}
use Rattle.std.proofs.lemmas.Bool.Decides.{nat_tests}
use Rattle.std.proofs.lemmas.List.Elements.{All-head, All-tail}
use Rattle.ub_base.specs.declared.names.Item.{Item}
use Rattle.ub_base.specs.declared.names.ObjName.{ObjName}
use Rattle.ub_base.specs.declared.names.ObjName.TheVariants as names
use Rattle.ub_base.specs.Names.{same_object}
use Rattle.addr_map.specs.declared.map.Mode.{Mode}
use Rattle.addr_map.specs.declared.map.Row.{Row}
use Rattle.addr_map.specs.Rows.{is_power, row_of}
use Rattle.c_types.specs.declared.tags.Extent.{Extent}
use Rattle.c_types.specs.declared.tags.Tag.{Tag}
use Rattle.c_types.specs.Layout.{extent, extents}
use Rattle.c_types.specs.Shapes.{Form}
use Rattle.c_types.specs.Types.{qualified_of}
use Rattle.c_typed.specs.Lawful.{HasBytes, IsLawful, StaticIsLawful, There}
use Rattle.c_typed.specs.declared.program.Program.{Program}
use Rattle.c_typed.specs.declared.program.Static.{Static}
use Rattle.mem_spec.specs.declared.kind.ObjKind.{ObjKind}
use Rattle.mem_spec.specs.Acts.{has_place}
use Rattle.mem_spec.specs.Script.{Act, Done}
use Rattle.mem_spec.specs.Store.{Store, born}
use Rattle.mem_objects.specs.Held.{Held, held_of}
use Rattle.mem_objects.specs.Keeps.{Keeps}
use Rattle.mem_objects.specs.Memory.{Kept, life_in, store_of}
use Rattle.prov_memory.proofs.RoomLemmas.{place_found}
use Rattle.c_model.specs.Program.{Standing}
use Rattle.run_standing.specs.Outcomes.{CannotStand, FindsRoom, HasNoPlace, IsNew, SomeArgument, SomeLiteral, SomeStatic, VectorRefused, lives_of}
use Rattle.run_standing.specs.Standing.{AllCreated, AreStatics, CreatesAll, arguments, kind_of, literals, takes_arguments, text}
use Rattle.run_objects.specs.Extents.{extent_of, extent_or_byte}
use Rattle.run_standing.specs.Sums.{argument_sizes, given_sizes, sizes_of, static_sizes, summed}
use Rattle.run_standing.proofs.Aligned.{extent_aligned}
use Rattle.run_standing.proofs.Outcomes.{bears_one, creates_one, store_in}
use Rattle.run_standing.proofs.Ready.{quiet}
use Rattle.run_standing.proofs.Sums.{created_sum, sizes, sizes_of_arguments, sizes_of_literals, sizes_of_stand, sizes_of_statics, sizes_then, summed_behind}

-- ---- what creations leave

-- no object has this name
abbrev NotNamed : ObjName → List Standing → Type 0
NotNamed x [] = Unit {0}
NotNamed x (o ∷ os) = (same_object o.name x ≡ false) × NotNamed x os

one_leaves : (has refuses : Bool) (rows : List Row) (o : Standing) (base : ℕ) (is : List Item) (s t : Store) →
    bears_one has refuses rows o s ≡ Done base is t → born s o.name o.decl.size (kind_of o) o.decl.form ≡ t
one_leaves false refuses rows o base is s t e = absurd (cc)
one_leaves true true rows o base is s t e = absurd (cc)
one_leaves true false rows o base is s t e = ap (λ (d : Act ℕ). store_in d s) e

born_other : (s : Store) (x y : ObjName) (size : ℕ) (kind : ObjKind) (form : Option Form) → same_object x y ≡ false →
    (born s x size kind form).life y ≡ s.life y
born_other s x y size kind form other =
    ap (λ (b : Bool). cond b (Some (record { live = true; kind = kind; declared = form })) (s.life y)) other

pub created_leaves : (rows : List Row) (os : List Standing) (s t : Store) → CreatesAll rows os s t →
    (t.created ≡ summed s.created (sizes os)) × ((y : ObjName) → NotNamed y os → t.life y ≡ s.life y)
created_leaves rows [] s t e = (ap (λ (u : Store). u.created) e, λ y apart. ap (λ (u : Store). u.life y) e)
created_leaves rows (o ∷ os) s t c =
    let did = c.1 in
    let left : born s o.name o.decl.size (kind_of o) o.decl.form ≡ c.0 =
    one_leaves (has_place (row_of rows o.name) o.decl.size o.decl.align) (is_some (s.life o.name)) rows o did.0 did.1 s c.0
    (sym (creates_one _ _ rows o s refl refl) ∙ did.2) in
    let more = created_leaves rows os c.0 t c.2 in (
      more.0 ∙ ap (λ (u : Store). summed u.created (sizes os)) (sym left),
      λ y apart. more.1 y apart.1 ∙ ap (λ (u : Store). u.life y) (sym left)
          ∙ born_other s o.name y o.decl.size (kind_of o) o.decl.form apart.0,
    )

none_held : (h : Option Held) → life_in h ≡ None → h ≡ None
none_held None e = refl
none_held (Some h) e = absurd (cc)

-- so no object of another name is refused, as long as all count within the limit
not_refused : (old new : Kept) (os : List Standing) (x : ObjName) (size align : ℕ) → IsNew old → Keeps old new → AllCreated old new os →
    NotNamed x os → 0 < size → is_power align ≡ true → summed 0 (sizes os ++ size ∷ []) ≤ 2 ^ 40 →
    CannotStand new x (record { size = size; align = align }) → ⊥
not_refused old new os x size align is keeps all apart some power within cannot =
    let left = created_leaves new.rows os (store_of old quiet) (store_of new quiet) (all new.rows (λ y r e. e) quiet) in
    let sum : new.created ≡ summed 0 (sizes os) = left.0 ∙ ap (λ (n : ℕ). summed n (sizes os)) is.counts in
    let next : summed 0 (sizes os ++ size ∷ []) ≡ min (summed 0 (sizes os) + max size 16) (2 ^ 62) = summed_behind 0 size (sizes os) in
    let none : lives_of new x ≡ None = left.1 x apart ∙ ap (λ (hs : List Held). life_in (held_of hs x)) is.none in
    place_found new x size align (keeps.close is.close) (record {
      within = omega (arith, sum, next, within);
      small = omega (arith, next, within);
      some = some;
      power = power;
      mode = subst (λ (o : Option Mode). is_some o ≡ true) (sym keeps.mode) is.mode;
      absent = none_held (held_of new.objects x) none;
    }) cannot

-- ---- names apart
both_apart : (x : ObjName) (os ps : List Standing) → NotNamed x os → NotNamed x ps → NotNamed x (os ++ ps)
both_apart x [] ps first then = then
both_apart x (o ∷ os) ps first then = (first.0, both_apart x os ps first.1 then)

statics_apart : (x : ObjName) (n : ℕ) → ((k : ℕ) → k < n → same_object (names.Static k) x ≡ false) → (tags : List Tag) (k : ℕ) (ss : List Static)
    (os : List Standing) → k + length ss ≤ n → AreStatics tags k ss os → NotNamed x os
statics_apart x n apart tags k [] [] le are = tt
statics_apart x n apart tags k [] (o ∷ os) le are = absurd are
statics_apart x n apart tags k (s ∷ ss) [] le are = absurd are
statics_apart x n apart tags k (s ∷ ss) (o ∷ os) le are = (
  ap (λ (y : ObjName). same_object y x) are.0.name ∙ apart k (omega (arith, le)),
  statics_apart x n apart tags (suc k) ss os (omega (arith, le)) are.1,
)

literals_apart : (x : ObjName) (n : ℕ) → ((k : ℕ) → k < n → same_object (names.Lit k) x ≡ false) → (k i : ℕ) (xs : List (List ℕ)) → k + i ≤ n →
    NotNamed x (take i (literals k xs))
literals_apart x n apart k zero [] le = tt
literals_apart x n apart k (suc i) [] le = tt
literals_apart x n apart k zero (b ∷ xs) le = tt
literals_apart x n apart k (suc i) (b ∷ xs) le = (apart k (omega (arith, le)), literals_apart x n apart (suc k) i xs (omega (arith, le)))

all_literals_apart : (x : ObjName) → ((k : ℕ) → same_object (names.Lit k) x ≡ false) → (k : ℕ) (xs : List (List ℕ)) → NotNamed x (literals k xs)
all_literals_apart x apart k [] = tt
all_literals_apart x apart k (b ∷ xs) = (apart k, all_literals_apart x apart (suc k) xs)

arguments_apart : (x : ObjName) (n : ℕ) → ((k : ℕ) → k < n → same_object (names.Arg k) x ≡ false) → (k i : ℕ) (xs : List (List ℕ)) → k + i ≤ n →
    NotNamed x (take i (arguments k xs))
arguments_apart x n apart k zero [] le = tt
arguments_apart x n apart k (suc i) [] le = tt
arguments_apart x n apart k zero (b ∷ xs) le = tt
arguments_apart x n apart k (suc i) (b ∷ xs) le = (apart k (omega (arith, le)), arguments_apart x n apart (suc k) i xs (omega (arith, le)))

all_arguments_apart : (x : ObjName) → ((k : ℕ) → same_object (names.Arg k) x ≡ false) → (k : ℕ) (xs : List (List ℕ)) → NotNamed x (arguments k xs)
all_arguments_apart x apart k [] = tt
all_arguments_apart x apart k (b ∷ xs) = (apart k, all_arguments_apart x apart (suc k) xs)

other_number : (k n : ℕ) → k < n → (k == n) ≡ false
other_number k n lt = grind (arith, nat_tests)

taken_few : {A : Type 0} (k : ℕ) (xs : List A) → length (take k xs) ≤ k
taken_few zero [] = omega arith
taken_few (suc k) [] = omega arith
taken_few zero (x ∷ xs) = omega arith
taken_few (suc k) (x ∷ xs) = omega (arith, taken_few k xs)

-- ---- sums within the limit
summed_before : (n : ℕ) (ks : List ℕ) → summed n ks ≤ 2 ^ 40 → n ≤ 2 ^ 40
summed_before n [] within = within
summed_before n (k ∷ ks) within = omega (arith, summed_before (min (n + max k 16) (2 ^ 62)) ks within)

summed_part : (n : ℕ) (js : List ℕ) (k : ℕ) (rest : List ℕ) → summed n (js ++ k ∷ rest) ≤ 2 ^ 40 → summed n (js ++ k ∷ []) ≤ 2 ^ 40
summed_part n [] k rest within = summed_before (min (n + max k 16) (2 ^ 62)) rest within
summed_part n (j ∷ js) k rest within = summed_part (min (n + max j 16) (2 ^ 62)) js k rest within

part_within : (whole js ks : List ℕ) (k : ℕ) (rest : List ℕ) → whole ≡ js ++ k ∷ rest → ks ≡ js → summed 0 whole ≤ 2 ^ 40 → summed 0 (ks ++ k ∷ []) ≤ 2 ^ 40
part_within whole js ks k rest e same within =
    subst (λ (ms : List ℕ). summed 0 (ms ++ k ∷ []) ≤ 2 ^ 40) (sym same)
    (summed_part 0 js k rest (subst (λ (ms : List ℕ). summed 0 ms ≤ 2 ^ 40) e within))

mapped_split : {A : Type 0} (f : A → ℕ) (k : ℕ) (xs : List A) (x : A) → slice_get xs k ≡ Some x →
    (rest : List ℕ) × (map f xs ≡ map f (take k xs) ++ f x ∷ rest)
mapped_split f zero [] x at = absurd (cc)
mapped_split f (suc k) [] x at = absurd (cc)
mapped_split f zero (y ∷ xs) x at =
    let same : y ≡ x = cc in
    (map f xs, ap (λ z. f z ∷ map f xs) same)
mapped_split f (suc k) (y ∷ xs) x at =
    let more = mapped_split f k xs x at in
    (more.0, ap (λ (ks : List ℕ). f y ∷ ks) more.1)

sizes_of_taken : (j k : ℕ) (xs : List (List ℕ)) → sizes (take k (literals j xs)) ≡ map length (take k xs)
sizes_of_taken j zero [] = refl
sizes_of_taken j (suc k) [] = refl
sizes_of_taken j zero (b ∷ xs) = refl
sizes_of_taken j (suc k) (b ∷ xs) = ap (λ (ks : List ℕ). length b ∷ ks) (sizes_of_taken (suc j) k xs)

taken_arguments : (j k : ℕ) (xs : List (List ℕ)) → take k (arguments j xs) ≡ arguments j (take k xs)
taken_arguments j zero [] = refl
taken_arguments j (suc k) [] = refl
taken_arguments j zero (b ∷ xs) = refl
taken_arguments j (suc k) (b ∷ xs) =
    ap (λ (os : List Standing). text (names.Arg j) false (b ++ 0 ∷ []) ∷ os) (taken_arguments (suc j) k xs)

at_all : {A : Type 0} (P : A → Type 0) (k : ℕ) (xs : List A) (x : A) → All P xs → slice_get xs k ≡ Some x → P x
at_all P zero [] x all at = absurd (cc)
at_all P (suc k) [] x all at = absurd (cc)
at_all P zero (y ∷ xs) x all at =
    let same : y ≡ x = cc in
    subst P same (All-head P y xs all)
at_all P (suc k) (y ∷ xs) x all at = at_all P k xs x (All-tail P y xs all) at

-- ---- each of the objects that stand before a run
sized : (o : Option Extent) → There o (λ e. 0 < e.size) → 0 < (extent_or_byte o).size
sized None there = absurd there
sized (Some e) there = there

static_refused : (old new : Kept) (p : Program) (words : List (List ℕ)) → IsNew old → Keeps old new → IsLawful p → summed 0 (sizes_of p words) ≤ 2 ^ 40 →
    SomeStatic old new p.tags p.statics → ⊥
static_refused old new p words is keeps lawful within refused =
    let k = refused.0 in
    let s = refused.1 in
    let all = refused.3 in
    let size_of : Static → ℕ = λ t. (extent_of p.tags (qualified_of t.qual).ty).size in
    let split = mapped_split size_of k p.statics s refused.2 in
    let given = given_sizes (takes_arguments (slice_get p.functions p.main)) words in
    let others = map length p.literals ++ given in
    let whole : sizes_of p words ≡ static_sizes p.tags (take k p.statics) ++ size_of s ∷ (split.0 ++ others) =
    append_assoc (static_sizes p.tags p.statics) (map length p.literals) given ∙ ap (λ (ks : List ℕ). ks ++ others) split.1
    ∙ append_assoc (static_sizes p.tags (take k p.statics)) (size_of s ∷ split.0) others in
    not_refused old new all.0 (names.Static k) (size_of s) (extent_of p.tags (qualified_of s.qual).ty).align is keeps all.2
    (statics_apart (names.Static k) k (λ j lt. other_number j k lt) p.tags 0 (take k p.statics) all.0
    (omega (arith, taken_few k p.statics)) all.1)
    (sized (extent (extents p.tags) (qualified_of s.qual).ty) (at_all (StaticIsLawful p) k p.statics s lawful.statics refused.2).sized)
    (extent_aligned p.tags (qualified_of s.qual).ty)
    (part_within (sizes_of p words) (static_sizes p.tags (take k p.statics)) (sizes all.0) (size_of s) (split.0 ++ others) whole
    (sizes_of_statics p.tags 0 (take k p.statics) all.0 all.1) within)
    refused.4

literal_refused : (old new : Kept) (p : Program) (words : List (List ℕ)) → IsNew old → Keeps old new → IsLawful p → summed 0 (sizes_of p words) ≤ 2 ^ 40 →
    SomeLiteral old new p → ⊥
literal_refused old new p words is keeps lawful within refused =
    let k = refused.0 in
    let bs = refused.1 in
    let all = refused.3 in
    let split = mapped_split length k p.literals bs refused.2 in
    let first = static_sizes p.tags p.statics in
    let before = map length (take k p.literals) in
    let others = given_sizes (takes_arguments (slice_get p.functions p.main)) words in
    let whole : sizes_of p words ≡ (first ++ before) ++ length bs ∷ (split.0 ++ others) =
    append_assoc first (map length p.literals) others
    ∙ ap (λ (ks : List ℕ). first ++ ks) (ap (λ (ks : List ℕ). ks ++ others) split.1 ∙ append_assoc before (length bs ∷ split.0) others)
    ∙ sym (append_assoc first before (length bs ∷ (split.0 ++ others))) in
    let texts = take k (literals 0 p.literals) in
    not_refused old new (all.0 ++ texts) (names.Lit k) (length bs) 1 is keeps all.2
    (both_apart (names.Lit k) all.0 texts
    (statics_apart (names.Lit k) (length p.statics) (λ j lt. refl) p.tags 0 p.statics all.0 (omega arith) all.1)
    (literals_apart (names.Lit k) k (λ j lt. other_number j k lt) 0 k p.literals (omega arith)))
    (at_all HasBytes k p.literals bs lawful.literals refused.2) refl
    (part_within (sizes_of p words) (first ++ before) (sizes (all.0 ++ texts)) (length bs) (split.0 ++ others) whole
    (sizes_then all.0 texts ∙ ap₂ (λ (js ks : List ℕ). js ++ ks) (sizes_of_statics p.tags 0 p.statics all.0 all.1) (sizes_of_taken 0 k p.literals)) within)
    refused.4

argument_refused : (old new : Kept) (p : Program) (words : List (List ℕ)) → IsNew old → Keeps old new → takes_arguments (slice_get p.functions p.main) ≡ true →
    summed 0 (sizes_of p words) ≤ 2 ^ 40 → SomeArgument old new p words → ⊥
argument_refused old new p words is keeps takes within refused =
    let k = refused.0 in
    let bs = refused.1 in
    let all = refused.3 in
    let size_of : List ℕ → ℕ = λ w. length w + 1 in
    let split = mapped_split size_of k words bs refused.2 in
    let first = static_sizes p.tags p.statics in
    let second = map length p.literals in
    let before = argument_sizes (take k words) in
    let others = 8 * (length words + 1) ∷ [] in
    let given : sizes_of p words ≡ first ++ (second ++ (argument_sizes words ++ others)) =
    ap (λ (b : Bool). first ++ second ++ given_sizes b words) takes ∙ append_assoc first second (argument_sizes words ++ others) in
    let rest = size_of bs ∷ (split.0 ++ others) in
    let behind : argument_sizes words ++ others ≡ before ++ rest =
    ap (λ (ks : List ℕ). ks ++ others) split.1 ∙ append_assoc before (size_of bs ∷ split.0) others in
    let whole : sizes_of p words ≡ (first ++ (second ++ before)) ++ rest =
    given ∙ ap (λ (ks : List ℕ). first ++ (second ++ ks)) behind ∙ ap (λ (ks : List ℕ). first ++ ks) (sym (append_assoc second before rest))
    ∙ sym (append_assoc first (second ++ before) rest) in
    let texts = literals 0 p.literals in
    let strings = take k (arguments 0 words) in
    let of_strings : sizes strings ≡ before = ap sizes (taken_arguments 0 k words) ∙ sizes_of_arguments 0 (take k words) in
    not_refused old new (all.0 ++ (texts ++ strings)) (names.Arg k) (length bs + 1) 1 is keeps all.2
    (both_apart (names.Arg k) all.0 (texts ++ strings)
    (statics_apart (names.Arg k) (length p.statics) (λ j lt. refl) p.tags 0 p.statics all.0 (omega arith) all.1)
    (both_apart (names.Arg k) texts strings (all_literals_apart (names.Arg k) (λ j. refl) 0 p.literals)
    (arguments_apart (names.Arg k) k (λ j lt. other_number j k lt) 0 k words (omega arith))))
    (omega arith) refl
    (part_within (sizes_of p words) (first ++ (second ++ before)) (sizes (all.0 ++ (texts ++ strings))) (size_of bs) (split.0 ++ others) whole
    (sizes_then all.0 (texts ++ strings) ∙ ap₂ (λ (js ks : List ℕ). js ++ ks) (sizes_of_statics p.tags 0 p.statics all.0 all.1)
    (sizes_then texts strings ∙ ap₂ (λ (js ks : List ℕ). js ++ ks) (sizes_of_literals 0 p.literals) of_strings)) within)
    refused.4

pointers_refused : (old new : Kept) (p : Program) (words : List (List ℕ)) → IsNew old → Keeps old new → takes_arguments (slice_get p.functions p.main) ≡ true →
    summed 0 (sizes_of p words) ≤ 2 ^ 40 → VectorRefused old new p words → ⊥
pointers_refused old new p words is keeps takes within refused =
    let all = refused.0 in
    let first = static_sizes p.tags p.statics in
    let second = map length p.literals in
    let before = argument_sizes words in
    let rest = 8 * (length words + 1) ∷ [] in
    let whole : sizes_of p words ≡ (first ++ (second ++ before)) ++ rest =
    ap (λ (b : Bool). first ++ second ++ given_sizes b words) takes ∙ append_assoc first second (before ++ rest)
    ∙ ap (λ (ks : List ℕ). first ++ ks) (sym (append_assoc second before rest)) ∙ sym (append_assoc first (second ++ before) rest) in
    let texts = literals 0 p.literals in
    let strings = arguments 0 words in
    not_refused old new (all.0 ++ (texts ++ strings)) names.Argv (8 * (length words + 1)) 8 is keeps all.2
    (both_apart names.Argv all.0 (texts ++ strings)
    (statics_apart names.Argv (length p.statics) (λ j lt. refl) p.tags 0 p.statics all.0 (omega arith) all.1)
    (both_apart names.Argv texts strings (all_literals_apart names.Argv (λ j. refl) 0 p.literals) (all_arguments_apart names.Argv (λ j. refl) 0 words)))
    (omega arith) refl
    (part_within (sizes_of p words) (first ++ (second ++ before)) (sizes (all.0 ++ (texts ++ strings))) (8 * (length words + 1)) [] whole
    (sizes_then all.0 (texts ++ strings) ∙ ap₂ (λ (js ks : List ℕ). js ++ ks) (sizes_of_statics p.tags 0 p.statics all.0 all.1)
    (sizes_then texts strings ∙ ap₂ (λ (js ks : List ℕ). js ++ ks) (sizes_of_literals 0 p.literals) (sizes_of_arguments 0 words))) within)
    refused.1

given_refused : (old new : Kept) (p : Program) (words : List (List ℕ)) → IsNew old → Keeps old new → takes_arguments (slice_get p.functions p.main) ≡ true →
    summed 0 (sizes_of p words) ≤ 2 ^ 40 → (SomeArgument old new p words ⊎ VectorRefused old new p words) → ⊥
given_refused old new p words is keeps takes sum (inl one) = argument_refused old new p words is keeps takes sum one
given_refused old new p words is keeps takes sum (inr one) = pointers_refused old new p words is keeps takes sum one

some_refused : (old new : Kept) (p : Program) (words : List (List ℕ)) → IsNew old → Keeps old new → IsLawful p → summed 0 (sizes_of p words) ≤ 2 ^ 40 →
    HasNoPlace old new p words → ⊥
some_refused old new p words is keeps lawful sum (inl one) = static_refused old new p words is keeps lawful sum one
some_refused old new p words is keeps lawful sum (inr (inl one)) = literal_refused old new p words is keeps lawful sum one
some_refused old new p words is keeps lawful sum (inr (inr both)) = given_refused old new p words is keeps both.0 sum both.1

pub finds_room : FindsRoom
finds_room old new p words os is keeps lawful stand within refused =
    let sum : summed 0 (sizes_of p words) ≤ 2 ^ 40 =
    subst (λ (n : ℕ). n ≤ 2 ^ 40) (created_sum 0 os ∙ ap (summed 0) (sizes_of_stand p words os stand)) within in
    some_refused old new p words is keeps lawful sum refused
