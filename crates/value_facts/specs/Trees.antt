-- Lawful trees are seen as expressions with small constants, and what stands before the first pick is filled by bytes (6.4.4, 6.7.9).
use Rattle.std.specs.Prelude.{◌+◌, ◌<◌, ◌^◌, ℕ, List, length}
use Rattle.std.specs.List.{All}
use Rattle.ub_base.specs.Frames.{Path}
use Rattle.addr_map.specs.declared.map.Row.{Row}
use Rattle.c_typed.specs.declared.program.Constant.{Constant}
use Rattle.c_typed.specs.declared.program.Program.{Program}
use Rattle.c_typed.specs.declared.tree.Node.TheOpen as shape
use Rattle.c_typed.specs.declared.tree.Typed.{Typed}
use Rattle.c_typed.specs.Lawful.{IsLawful, SiteIsLawful, Where}
use Rattle.c_typed.specs.Sites.{Blocks, Expression, Head, expressions, sites}
use Rattle.c_model.specs.World.{World, Limits}
use Rattle.program_view.specs.Trees.{content_of, expr_of}
use Rattle.program_view.specs.View.{main_values, model_of, standing_of, world_of}
use Rattle.value_facts.specs.Constants.{HasSmallConstants, IsSmallExpr}
use Rattle.value_facts.specs.Held.{AreBytes, KeepsSmall}
use Rattle.value_facts.specs.Sources.{IsPlaced}
use Rattle.value_facts.specs.Small.{AreSmallFillings, EndInTime, IsSmallContent}

-- the bytes of constants are bytes
abbrev pub AreSmallConstants : List Constant → Type 0
AreSmallConstants = All (λ c. IsSmallContent (content_of c.content))

-- a node that is an initializer list has such constants
abbrev pub ListsBytes : Head → Type 0
ListsBytes (shape.List slot bytes) = AreSmallConstants bytes
ListsBytes _ = Unit {0}

-- A tree each of whose nodes is lawful: its numbers are values of their types (6.4.4.1p5), so below 2^64 in size.
abbrev pub LawfulTreesAreSmall : Type 0
LawfulTreesAreSmall =
    (p : Program) (blocks : Blocks) (t : Typed) → All (SiteIsLawful p blocks) (sites t) → All (λ s. ListsBytes s.head) (sites t) → IsSmallExpr (expr_of t)

-- each list of a full expression has them
abbrev pub ListsBytesIn : Expression → Type 0
ListsBytesIn e = All (λ s. ListsBytes s.head) (sites e.tree)

-- The bytes of a program's constants and literals, and those of the arguments of `main`, are below 256; the types of the code have no others.
pub record HasByteConstants (p : Program) (arguments : List (List ℕ)) : Type 0 where
  pub functions : All (λ f. Where (λ b. All ListsBytesIn (expressions b)) f.body) p.functions
  pub statics : All (λ s. AreSmallConstants s.constants) p.statics
  pub literals : All AreBytes p.literals
  pub strings : All AreBytes arguments

-- so what fills the objects that stand before the first pick is small
abbrev pub StandingIsSmall : Type 0
StandingIsSmall = (p : Program) (arguments : List (List ℕ)) → HasByteConstants p arguments
    → All (λ o. AreSmallFillings o.fillings) (standing_of p arguments)

-- and where the program is lawful, all its constants are
abbrev pub LawfulProgramsAreSmall : Type 0
LawfulProgramsAreSmall = (p : Program) (arguments : List (List ℕ)) → IsLawful p → HasByteConstants p arguments
    → HasSmallConstants (model_of p arguments)

-- So its runs keep values small, where rows end before the last address and the limit on the output is below 2^64.
abbrev pub LawfulWorldsKeepSmall : Type 0
LawfulWorldsKeepSmall =
    (p : Program) (arguments : List (List ℕ)) (rows : List Row) (number : Path → ℕ) (limits : Limits) → IsLawful p → HasByteConstants p arguments
    → EndInTime rows → limits.output < 2 ^ 64 → KeepsSmall (world_of p arguments rows number limits)

-- and what `main` is called with is small (5.1.2.2.1p2)
abbrev pub MainIsPlaced : Type 0
MainIsPlaced = (p : Program) (world : World) (arguments : List (List ℕ)) → EndInTime world.rows → length arguments + 1 < 2 ^ 64
    → All (IsPlaced world) (main_values p world arguments)
