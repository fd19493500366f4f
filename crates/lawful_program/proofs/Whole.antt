-- Objects with static storage, and the program, put together.
use Rattle.std.proofs.Common.{◌≡◌, ℕ, ◌<◌, List, get_or, All, Option, Some, None, IsSome, sym, subst}
use Rattle.c_types.specs.Types.{CType, type_of, qualified_of}
use Rattle.c_types.specs.Layout.{extent, extents, size_of}
use Rattle.c_types.specs.Leaves.{scalars}
use Rattle.c_types.specs.declared.tags.Extent.{Extent}
use Rattle.c_typed.specs.declared.program.Constant.{Constant}
use Rattle.c_typed.specs.declared.program.Static.{Static}
use Rattle.c_typed.specs.declared.program.Program.{Program}
use Rattle.c_typed.specs.Lawful.{
  There,
  IsSized,
  IsComplete,
  AreBytes,
  ContentIsLawful,
  ContentSuits,
  PartsFit,
  StaticIsLawful,
  HasMain,
  MainHasType,
  IsExternal,
  HasBytes,
  IsNumbered,
  FunctionIsLawful,
  IsLawful,
}
use Rattle.lawful_program.proofs.Seen.{qualified_of-seen}

lawful_of : (p : Program) (s : Static) (t : CType) → t ≡ (qualified_of s.qual).ty → IsSized p.tags t → All (λ c. ContentIsLawful p c.content) s.constants →
    All (λ c. ContentSuits p (scalars p.tags t) c.at c.content) s.constants → PartsFit (size_of p.tags t) s.constants → StaticIsLawful p s
lawful_of p s t is sized contents aligned fits =
    record {
      sized = subst (IsSized p.tags) is sized;
      fits = subst (λ u. PartsFit (size_of p.tags u) s.constants) is fits;
      contents = contents;
      aligned = subst (λ u. All (λ c. ContentSuits p (scalars p.tags u) c.at c.content) s.constants) is aligned;
    }

pub static_lawful : (p : Program) (s : Static) (ks : List Constant) (size : ℕ) → ks ≡ s.constants → size ≡ size_of p.tags (type_of s.qual.ty) →
    IsSized p.tags (type_of s.qual.ty) →
    All (λ c. ContentIsLawful p c.content) ks → All (λ c. ContentSuits p (scalars p.tags (type_of s.qual.ty)) c.at c.content) ks → PartsFit size ks →
    StaticIsLawful p s
static_lawful p s ks size all is sized contents aligned fits =
    lawful_of p s (type_of s.qual.ty) (sym (qualified_of-seen s.qual)) sized (subst (All (λ c. ContentIsLawful p c.content)) all contents)
    (subst (All (λ c. ContentSuits p (scalars p.tags (type_of s.qual.ty)) c.at c.content)) all aligned)
    (subst (PartsFit (size_of p.tags (type_of s.qual.ty))) all (subst (λ n. PartsFit n ks) is fits))

there_some : (o : Option Extent) → There o (λ e. 0 < e.size) → IsSome o
there_some None h = absurd h
there_some (Some e) h = search

complete : (p : Program) (ss : List Static) → All (StaticIsLawful p) ss → All (IsComplete p.tags) ss
complete p ss h i d lt = let s = h i d lt in there_some (extent (extents p.tags) (qualified_of (get_or ss i d).qual).ty) s.sized
