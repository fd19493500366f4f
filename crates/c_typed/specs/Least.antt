-- The least program, which is lawful.
use Rattle.std.specs.Prelude.{◌≡◌, ℕ, ◌^◌, ◌<◌, [], ◌∷◌, Some, None}
use Rattle.c_types.specs.Types.{int, signature_of}
use Rattle.c_types.specs.declared.kind.IntKind.TheVariants.{Int}
use Rattle.c_typed.specs.declared.statement.Body.{Body}
use Rattle.c_typed.specs.declared.program.Function.{Function}
use Rattle.c_typed.specs.declared.program.Program.{Program}
use Rattle.c_typed.specs.Height.{function_height}
use Rattle.c_typed.specs.Sites.{Summary, nothing, expressions, summary}
use Rattle.c_typed.specs.Lawful.{fixed, IsLawful}

-- what a body says that is a block without objects and without statements
abbrev pub lone_block : Summary
lone_block = record nothing { blocks = record { number = 0; objects = []; declares = [] } ∷ [] }

-- `int main(void) {}` alone is lawful
abbrev pub LeastIsLawful : Type 0
LeastIsLawful =
    (p : Program) (f : Function) (b : Body) → p.functions ≡ f ∷ [] → p.statics ≡ [] → p.literals ≡ [] → p.tags ≡ [] → p.main ≡ 0 →
    signature_of f.ty ≡ fixed (int Int) [] → f.library ≡ None → f.body ≡ Some b → expressions b ≡ [] → summary b ≡ lone_block → function_height f < 2 ^ 32 →
    IsLawful p
