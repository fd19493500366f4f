-- The start of a run: its objects are created and then filled as the definitions do it.
use Rattle.std.proofs.Common.{◌≡◌, ℕ, suc, ◌<◌, ◌^◌, Bool, true, false, sym, ap, subst, List, [], ◌∷◌, ◌++◌, length}
use Rattle.std.specs.Prelude.{slice_get}
use Rattle.ub_base.specs.declared.names.ObjName.TheVariants.{Lit, Argv}
use Rattle.addr_map.specs.declared.map.Row.{Row}
use Rattle.c_typed.specs.Lawful.{IsLawful}
use Rattle.c_typed.specs.declared.program.Program.{Program}
use Rattle.mem_spec.specs.Store.{Store}
use Rattle.mem_objects.specs.Keeps.{Keeps}
use Rattle.mem_objects.specs.Memory.{Kept, store_of}
use Rattle.mem_objects.specs.Sound.{IsSound}
use Rattle.prov_memory.proofs.KeepLemmas.{keeps_none, keeps_then}
use Rattle.c_model.specs.Program.{Standing}
use Rattle.run_standing.specs.declared.initial.Argument.{Argument}
use Rattle.run_values.specs.declared.places.Places.{Places}
use Rattle.run_values.specs.declared.values.Pointer.{Pointer}
use Rattle.run_standing.specs.Standing.{
  arguments,
  literals,
  vector,
  given,
  takes_arguments,
  AllCreated,
  AllFilled,
  AreArguments,
  FillsAll,
  NamedFilled,
  StandsThere,
  StartStands,
  StaticsCreated,
  StaticsFilled,
}
use Rattle.run_values.specs.Placed.{AreAll, ArePlaced}
use Rattle.run_standing.specs.Starting.{AreMadeAll}
use Rattle.run_standing.proofs.Arguments.{argument_still}
use Rattle.run_standing.proofs.Filled.{none_filled}
use Rattle.run_standing.proofs.Stands.{created_then, none_created}
use Rattle.run_standing.proofs.Starting.{made_still}
use Rattle.run_values.proofs.Placed.{placed_still, stands_still}

-- ---- one list after the other
fills_then : (rows : List Row) (os ps : List Standing) (s t u : Store) → FillsAll rows os s t → FillsAll rows ps t u → FillsAll rows (os ++ ps) s u
fills_then rows [] ps s t u e more = subst (λ (v : Store). FillsAll rows ps v u) e more
fills_then rows (o ∷ os) ps s t u c more = (c.0, c.1, fills_then rows os ps c.0 t u c.2 more)

filled_then : (old now new : Kept) (os ps : List Standing) → Keeps now new → AllFilled old now os → AllFilled now new ps → AllFilled old new (os ++ ps)
filled_then old now new os ps keeps first then = λ rows stay io.
    fills_then rows os ps (store_of old io) (store_of now io) (store_of new io) (first rows (λ x r e. stay x r (keeps.rows x r e)) io) (then rows stay io)

pub named_all_filled : (old now new : Kept) (p : Program) (places : Places) → Keeps old now → Keeps now new → IsLawful p → ArePlaced old p places →
    StaticsFilled old now p.tags p.statics →
    (AreAll now (λ k. Lit k) places.literals (length p.literals) → length p.literals < 2 ^ 32 → AllFilled now new (literals 0 p.literals)) →
    NamedFilled old new p
named_all_filled old now new p places first keeps lawful placed statics texts = λ os are.
    filled_then old now new os (literals 0 p.literals) keeps (statics os are)
    (texts (placed_still old now p places first placed).literals lawful.numbered.literals)

-- ---- what is known of the arguments stays
pub arguments_still : (old new : Kept) (k : ℕ) (words : List (List ℕ)) (xs : List Argument) → Keeps old new → AreArguments old k words xs →
    AreArguments new k words xs
arguments_still old new k [] [] keeps are = tt
arguments_still old new k [] (x ∷ xs) keeps are = absurd are
arguments_still old new k (w ∷ words) [] keeps are = absurd are
arguments_still old new k (w ∷ words) (x ∷ xs) keeps are =
    (argument_still old new k w x keeps are.0, arguments_still old new (suc k) words xs keeps are.1)

pub strings_filled : (made now new : Kept) (words : List (List ℕ)) (xs ys : List Argument) → Keeps made now → ys ≡ xs → AreArguments made 0 words xs →
    ((words : List (List ℕ)) → AreArguments now 0 words ys → AllFilled now new (arguments 0 words)) → AllFilled now new (arguments 0 words)
strings_filled made now new words xs ys keeps same are fills =
    fills words (subst (λ (zs : List Argument). AreArguments now 0 words zs) (sym same) (arguments_still made now 0 words xs keeps are))

pub vector_filled : (made there now new : Kept) (words : List (List ℕ)) (xs ys : List Argument) (p : Pointer) → Keeps made there → Keeps there now →
    IsSound now → ys ≡ xs → AreArguments made 0 words xs → AreMadeAll made xs → StandsThere there Argv p → length words < 2 ^ 32 →
    (IsSound now → AreMadeAll now ys → StandsThere now Argv p → (words : List (List ℕ)) → AreArguments now 0 words ys → length words < 2 ^ 32 →
    AllFilled now new (vector words ∷ [])) → AllFilled now new (vector words ∷ [])
vector_filled made there now new words xs ys p first keeps sound same are created stands few fills =
    let all = keeps_then made there now first keeps in
    fills sound (subst (λ (zs : List Argument). AreMadeAll now zs) (sym same) (made_still made now xs all created))
    (stands.0, stands.1, stands_still there now Argv stands.0 keeps stands.2) words
    (subst (λ (zs : List Argument). AreArguments now 0 words zs) (sym same) (arguments_still made now 0 words xs all are)) few

-- ---- all of them
pub with_arguments : (m0 m1 m2 m3 m4 m5 m6 end : Kept) (p : Program) (args : List (List ℕ)) → Keeps m1 m2 → Keeps m2 m3 → Keeps m3 m4 → Keeps m4 m5 →
    Keeps m5 m6 → Keeps m6 end → takes_arguments (slice_get p.functions p.main) ≡ true → StaticsCreated m0 m1 p.tags p.statics →
    AllCreated m1 m2 (literals 0 p.literals) → AllCreated m2 m3 (arguments 0 args) → AllCreated m3 m4 (vector args ∷ []) → NamedFilled m4 m5 p →
    AllFilled m5 m6 (arguments 0 args) → AllFilled m6 end (vector args ∷ []) → StartStands m0 end p args
with_arguments m0 m1 m2 m3 m4 m5 m6 end p args k2 k3 k4 k5 k6 k7 takes statics texts strings pointers named filled pointed =
    let first = statics.0 ++ literals 0 p.literals in
    let second = arguments 0 args ++ vector args ∷ [] in
    let created : AllCreated m0 m4 (first ++ second) = created_then m0 m2 m4 first second (keeps_then m2 m3 m4 k3 k4)
    (created_then m0 m1 m2 statics.0 (literals 0 p.literals) k2 statics.2 texts)
    (created_then m2 m3 m4 (arguments 0 args) (vector args ∷ []) k4 strings pointers) in
    let fills : AllFilled m4 end (first ++ second) = filled_then m4 m5 end first second (keeps_then m5 m6 end k6 k7) (named statics.0 statics.1)
    (filled_then m5 m6 end (arguments 0 args) (vector args ∷ []) k7 filled pointed) in
    let rest = keeps_then m4 m5 end k5 (keeps_then m5 m6 end k6 k7) in (
      first ++ second,
      record {
        statics = statics.0;
        each = statics.1;
        all = ap (λ (b : Bool). statics.0 ++ literals 0 p.literals ++ given b args) (sym takes);
      },
      λ rows stay io. (store_of m4 io, created rows (λ x r e. stay x r (rest.rows x r e)) io, fills rows stay io),
    )

pub without_arguments : (m0 m1 m2 end : Kept) (p : Program) (args : List (List ℕ)) → Keeps m1 m2 → Keeps m2 end →
    takes_arguments (slice_get p.functions p.main) ≡ false → StaticsCreated m0 m1 p.tags p.statics → AllCreated m1 m2 (literals 0 p.literals) →
    NamedFilled m2 end p → StartStands m0 end p args
without_arguments m0 m1 m2 end p args k2 k3 takes statics texts named =
    let first = statics.0 ++ literals 0 p.literals in
    let created : AllCreated m0 m2 (first ++ []) = created_then m0 m2 m2 first [] (keeps_none m2)
    (created_then m0 m1 m2 statics.0 (literals 0 p.literals) k2 statics.2 texts) (none_created m2) in
    let fills : AllFilled m2 end (first ++ []) = filled_then m2 end end first [] (keeps_none end) (named statics.0 statics.1) (none_filled end) in (
      first ++ [],
      record {
        statics = statics.0;
        each = statics.1;
        all = ap (λ (b : Bool). statics.0 ++ literals 0 p.literals ++ given b args) (sym takes);
      },
      λ rows stay io. (store_of m2 io, created rows (λ x r e. stay x r (k3.rows x r e)) io, fills rows stay io),
    )
