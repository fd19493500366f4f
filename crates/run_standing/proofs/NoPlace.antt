-- Objects that have no place.
use Rattle.std.proofs.Common.{◌≡◌, ℕ, zero, suc, ◌+◌, ◌<◌, refl, sym, ap, ◌∙◌, subst, arith, List, [], ◌∷◌, ◌++◌}
use Rattle.std.proofs.Common.{length, map, take, get_or, slice_get, Some, String}
use Rattle.std.specs.Prelude.{string_bytes, Result, Err}
use Rattle.ub_base.specs.declared.names.ObjName.TheVariants as names
use Rattle.c_types.specs.declared.tags.Tag.{Tag}
use Rattle.c_types.specs.Types.{qualified_of}
use Rattle.c_typed.specs.declared.program.Program.{Program}
use Rattle.c_typed.specs.declared.program.Static.{Static}
use Rattle.mem_objects.specs.declared.answer.CreateFault.{CreateFault}
use Rattle.mem_objects.specs.declared.answer.CreateFault.TheVariants as faults
use Rattle.mem_objects.specs.Keeps.{Keeps}
use Rattle.mem_objects.specs.Memory.{Kept}
use Rattle.prov_memory.proofs.KeepLemmas.{keeps_then}
use Rattle.run_standing.specs.Outcomes.{CannotHold, CannotStand, FirstArgument, FirstLiteral, NoVector, SomeArgument, SomeLiteral, SomeStatic, VectorRefused}
use Rattle.run_standing.specs.Standing.{AllCreated, StaticsCreated, arguments, literals, program_name}
use Rattle.run_objects.specs.Extents.{extent_of}
use Rattle.run_standing.proofs.Stands.{created_then, mapped_at, mapped_length, none_created}

-- ---- the refusal of a call in another
pub fault_of : {T : Type 0} (r : Result T CreateFault) (y fault : CreateFault) → r ≡ Err y → y ≡ fault → r ≡ Err faults.Unplaced →
    fault ≡ faults.Unplaced
fault_of r y fault e is refused =
    let same : y ≡ faults.Unplaced = cc in
    sym is ∙ same

-- ---- the object that has none
there_at : {A : Type 0} (xs : List A) (i : ℕ) (x : A) → i < length xs → x ≡ get_or xs i x → slice_get xs i ≡ Some x
there_at [] i x lt is = absurd (omega (arith, lt))
there_at (y ∷ xs) zero x lt is = ap Some (sym is)
there_at (y ∷ xs) (suc i) x lt is = there_at xs i x (omega (arith, lt)) is

pub some_static : (old now new : Kept) (tags : List Tag) (xs ys : List Static) (i n : ℕ) (s : Static) → n ≡ i → xs ≡ ys → i < length xs →
    s ≡ get_or xs i s → StaticsCreated old now tags (take i xs) → new ≡ now →
    CannotStand new (names.Static n) (extent_of tags (qualified_of s.qual).ty) → SomeStatic old new tags ys
some_static old now new tags xs ys i n s e same lt is all stays cannot = (
  i,
  s,
  ap (λ (zs : List Static). slice_get zs i) (sym same) ∙ there_at xs i s lt is,
  subst (λ (zs : List Static). StaticsCreated old new tags (take i zs)) same
      (subst (λ (m : Kept). StaticsCreated old m tags (take i xs)) (sym stays) all),
  subst (λ (k : ℕ). CannotStand new (names.Static k) (extent_of tags (qualified_of s.qual).ty)) e cannot,
)

pub some_literal : (old now new : Kept) (xs ys : List (List ℕ)) (i n size : ℕ) (bs : List ℕ) → n ≡ i → xs ≡ ys → i < length xs → bs ≡ get_or xs i bs →
    size ≡ length bs → AllCreated old now (take i (literals 0 xs)) → new ≡ now → CannotHold new (names.Lit n) size → FirstLiteral old new ys
some_literal old now new xs ys i n size bs e same lt is len all stays cannot = (
  i,
  bs,
  ap (λ (zs : List (List ℕ)). slice_get zs i) (sym same) ∙ there_at xs i bs lt is,
  subst (λ (zs : List (List ℕ)). AllCreated old new (take i (literals 0 zs))) same
      (subst (λ (m : Kept). AllCreated old m (take i (literals 0 xs))) (sym stays) all),
  subst (λ (k : ℕ). CannotHold new (names.Lit k) (length bs)) e (subst (λ (j : ℕ). CannotHold new (names.Lit n) j) len cannot),
)

pub cannot_hold : (m : Kept) (n k size count : ℕ) → n ≡ k → size ≡ count → CannotHold m (names.Arg n) size → CannotHold m (names.Arg k) count
cannot_hold m n k size count e len cannot =
    subst (λ (j : ℕ). CannotHold m (names.Arg j) count) e (subst (λ (j : ℕ). CannotHold m (names.Arg n) j) len cannot)

pub first_argument : (old new : Kept) (words : List (List ℕ)) (n : ℕ) → n ≡ 0 → new ≡ old → CannotHold new (names.Arg n) (length program_name + 1) →
    FirstArgument old new (program_name ∷ words)
first_argument old new words n e stays cannot = (
  0,
  program_name,
  refl,
  subst (λ (m : Kept). AllCreated old m []) (sym stays) (none_created old),
  subst (λ (j : ℕ). CannotHold new (names.Arg j) (length program_name + 1)) e cannot,
)

pub some_argument : {Z : Type 0} (old now new : Kept) (args : List (String Z)) (i n : ℕ) (a : String Z) (bs : List ℕ) → n ≡ i + 1 → i < length args →
    a ≡ get_or args i a → bs ≡ string_bytes a → AllCreated old now (take (i + 1) (arguments 0 (program_name ∷ map string_bytes args))) → new ≡ now →
    CannotHold new (names.Arg n) (length bs + 1) → FirstArgument old new (program_name ∷ map string_bytes args)
some_argument old now new args i n a bs e lt is text all stays cannot =
    let here : n ≡ suc i = omega (arith, e) in
    let next : i + 1 ≡ suc i = omega arith in
    let words = program_name ∷ map string_bytes args in (
      suc i,
      bs,
      there_at (map string_bytes args) i bs (omega (arith, lt, mapped_length string_bytes args))
          (subst (λ (cs : List ℕ). cs ≡ get_or (map string_bytes args) i cs) (sym text) (mapped_at string_bytes args i a lt is)),
      subst (λ (j : ℕ). AllCreated old new (take j (arguments 0 words))) next
          (subst (λ (m : Kept). AllCreated old m (take (i + 1) (arguments 0 words))) (sym stays) all),
      subst (λ (j : ℕ). CannotHold new (names.Arg j) (length bs + 1)) here cannot,
    )

-- ---- behind the ones before it
pub literal_behind : (old now new : Kept) (p : Program) → Keeps now new → StaticsCreated old now p.tags p.statics → FirstLiteral now new p.literals →
    SomeLiteral old new p
literal_behind old now new p keeps all first =
    let texts = take first.0 (literals 0 p.literals) in
    (first.0, first.1, first.2, (all.0, all.1, created_then old now new all.0 texts keeps all.2 first.3), first.4)

pub argument_behind : (old one two new : Kept) (p : Program) (words : List (List ℕ)) → Keeps one two → Keeps two new →
    StaticsCreated old one p.tags p.statics → AllCreated one two (literals 0 p.literals) → FirstArgument two new words → SomeArgument old new p words
argument_behind old one two new p words k2 k3 all texts first =
    let named = literals 0 p.literals in
    let strings = take first.0 (arguments 0 words) in
    let given = created_then one two new named strings k3 texts first.3 in
    (first.0, first.1, first.2, (all.0, all.1, created_then old one new all.0 (named ++ strings) (keeps_then one two new k2 k3) all.2 given), first.4)

pub vector_behind : (old one two three new : Kept) (p : Program) (words : List (List ℕ)) (n : ℕ) → Keeps one two → Keeps two three →
    StaticsCreated old one p.tags p.statics → AllCreated one two (literals 0 p.literals) → AllCreated two three (arguments 0 words) → new ≡ three →
    n ≡ length words → NoVector new n → VectorRefused old new p words
vector_behind old one two three new p words n k2 k3 all texts strings stays e none =
    let given = created_then one two three (literals 0 p.literals) (arguments 0 words) k3 texts strings in
    let created = created_then old one three all.0 (literals 0 p.literals ++ arguments 0 words) (keeps_then one two three k2 k3) all.2 given in (
      (all.0, all.1, subst (λ (m : Kept). AllCreated old m (all.0 ++ (literals 0 p.literals ++ arguments 0 words))) (sym stays) created),
      subst (λ (j : ℕ). NoVector new j) e none,
    )
