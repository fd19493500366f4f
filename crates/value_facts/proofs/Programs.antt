-- Lawful programs whose constants have bytes are seen as programs with small constants, and their runs keep values small.
use Rattle.std.proofs.Common.{arith, ◌≡◌, ◌+◌, ◌<◌, ◌^◌, ℕ, zero, suc, Bool, true, false, List, [], ◌∷◌, map, length, Option, Some, None, slice_get, refl, ap}
use Rattle.std.proofs.Common.{◌∙◌}
use Rattle.std.proofs.Common.{pos}
use Rattle.ub_base.specs.declared.names.ObjName.TheVariants as object
use Rattle.std.specs.List.{All}
use Rattle.std.proofs.lemmas.List.Elements.{All-nil, All-cons, All-head, All-tail}
use Rattle.c_types.specs.Types.{Signature, signature_of}
use Rattle.c_typed.specs.declared.program.Function.{Function}
use Rattle.c_typed.specs.declared.program.Program.{Program}
use Rattle.c_typed.specs.declared.statement.Body.{Body}
use Rattle.c_typed.specs.Lawful.{BodyIsLawful, ExpressionIsLawful, FunctionIsLawful, Where}
use Rattle.c_typed.specs.Sites.{Expression, expressions}
use Rattle.c_model.specs.Program as model
use Rattle.c_model.specs.Program.{Stmt}
use Rattle.c_model.specs.Steps.{pointer_to}
use Rattle.c_model.specs.Values.{Int}
use Rattle.c_model.specs.World.{World}
use Rattle.program_view.specs.Statements.{definition}
use Rattle.program_view.specs.Trees.{expr_of}
use Rattle.program_view.specs.View.{function_of, passed_to, takes_arguments, world_of}
use Rattle.value_facts.specs.Constants.{EachOf, IsSmallExpr}
use Rattle.value_facts.specs.Small.{EndInTime}
use Rattle.value_facts.specs.Sources.{IsPlaced}
use Rattle.value_facts.specs.Trees.{LawfulProgramsAreSmall, LawfulWorldsKeepSmall, ListsBytesIn, MainIsPlaced}
use Rattle.value_facts.proofs.Calls.{base_few}
use Rattle.value_facts.proofs.Bodies.{definition_small}
use Rattle.value_facts.proofs.Libraries.{library_is_small}
use Rattle.value_facts.proofs.Trees.{lawful_trees_small, standing_is_small}

module _ (p : Program) (f : Signature) where
  abbrev IsGood : Expression → Type 0
  IsGood e = ExpressionIsLawful p f e × ListsBytesIn e

  good_small : (e : Expression) → IsGood e → IsSmallExpr (expr_of e.tree)
  good_small e h = lawful_trees_small p e.blocks e.tree h.0.nodes h.1

  all_good : (es : List Expression) → All (ExpressionIsLawful p f) es → All ListsBytesIn es → All IsGood es
  all_good [] h l = All-nil IsGood
  all_good (e ∷ es) h l =
      All-cons IsGood e es (All-head (ExpressionIsLawful p f) e es h, All-head ListsBytesIn e es l)
      (all_good es (All-tail (ExpressionIsLawful p f) e es h) (All-tail ListsBytesIn e es l))

  defined_small : (o : Option Body) (s : Stmt) → Where (BodyIsLawful p f) o → Where (λ b. All ListsBytesIn (expressions b)) o → definition p.tags o ≡ Some s
      → EachOf IsSmallExpr s
  defined_small None s h l e = absurd (cc (e))
  defined_small (Some b) s h l e = definition_small p.tags IsGood good_small b s (all_good (expressions b) h.full l) e

abbrev ListsBytesOf : Function → Type 0
ListsBytesOf f = Where (λ b. All ListsBytesIn (expressions b)) f.body

functions_small : (p : Program) (fs : List Function) (n : ℕ) (g : model.Function) (s : Stmt) → All (FunctionIsLawful p) fs → All ListsBytesOf fs
    → slice_get (map (function_of p.tags) fs) n ≡ Some g → g.body ≡ Some s → EachOf IsSmallExpr s
functions_small p [] n g s h l e q = absurd (cc (e))
functions_small p (f ∷ fs) zero g s h l e q =
    let same : function_of p.tags f ≡ g = cc (e) in
    defined_small p (signature_of f.ty) f.body s (All-head (FunctionIsLawful p) f fs h).body (All-head ListsBytesOf f fs l)
    (ap (λ (x : model.Function). x.body) same ∙ q)
functions_small p (f ∷ fs) (suc n) g s h l e q =
    functions_small p fs n g s (All-tail (FunctionIsLawful p) f fs h) (All-tail ListsBytesOf f fs l) e q

pub lawful_programs_small : LawfulProgramsAreSmall
lawful_programs_small p arguments h b = record {
  functions = λ n fun s e q. functions_small p p.functions n fun s h.functions b.functions e q;
  standing = standing_is_small p arguments b;
}

pub lawful_worlds_keep : LawfulWorldsKeepSmall
lawful_worlds_keep p arguments rows number limits h b ends few = record {
  constants = lawful_programs_small p arguments h b;
  rows = ends;
  library = library_is_small (world_of p arguments rows number limits) refl ends few;
}

-- ---- what `main` is called with
module _ (world : World) (ends : EndInTime world.rows) (arguments : List (List ℕ)) (few : length arguments + 1 < 2 ^ 64) where
  count_placed : IsPlaced world (Int (pos (length arguments + 1)))
  count_placed = (omega (arith, few), tt)

  vector_placed : IsPlaced world (pointer_to world object.Argv)
  vector_placed = (base_few world.rows ends object.Argv, tt)

  passed_placed : (b : Bool) → All (IsPlaced world) (passed_to b world arguments)
  passed_placed false = All-nil (IsPlaced world)
  passed_placed true =
      All-cons (IsPlaced world) (Int (pos (length arguments + 1))) (pointer_to world object.Argv ∷ []) count_placed
      (All-cons (IsPlaced world) (pointer_to world object.Argv) [] vector_placed (All-nil (IsPlaced world)))

pub main_is_placed : MainIsPlaced
main_is_placed p world arguments ends few = passed_placed world ends arguments few (takes_arguments p)
