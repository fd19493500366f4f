-- What holds of the trees of the full expressions of a lawful program holds of each full expression of its code.
use Rattle.std.proofs.Common.{◌≡◌, ℕ, List, [], ◌∷◌, flat_map, Option, Some, None, slice_get, sym, ap, subst, refl, ◌∙◌}
use Rattle.std.specs.List.{All}
use Rattle.std.specs.Option.{option_map}
use Rattle.std.proofs.lemmas.List.Elements.{All-nil, All-head, All-tail, All-append, All-weaker}
use Rattle.std.proofs.lemmas.Option.{slice_get-map}
use Rattle.c_types.specs.Types.{Signature, signature_of}
use Rattle.c_typed.specs.declared.tree.Typed.{Typed}
use Rattle.c_typed.specs.declared.statement.Body.{Body}
use Rattle.c_typed.specs.declared.statement.Body.TheVariants as body
use Rattle.c_typed.specs.declared.statement.Block.{Block}
use Rattle.c_typed.specs.declared.program.Function.{Function}
use Rattle.c_typed.specs.declared.program.Program.{Program}
use Rattle.c_typed.specs.Lawful.{IsLawful, FunctionIsLawful, BodyIsLawful, ExpressionIsLawful}
use Rattle.c_typed.specs.Sites.{Expression, no_block, expressions}
use Rattle.elaborate.specs.Expressions.{body_trees, full_trees}
use Rattle.run_layout.specs.declared.steps.Expression.{Expression as Laid}
use Rattle.run_layout.specs.declared.whole.Code.{Code}
use Rattle.run_layout.specs.Roots.{block_in, trees_in, code_trees}
use Rattle.code_view.specs.Known.{AreInOrder}
use Rattle.code_view.proofs.Full.{body_full}
use Rattle.code_view.proofs.Whole.{body_there, where_some, each_at, block_form}

module _ (p : Program) (P : Typed → Type 0) (own : (t : Typed) → P t → All P (full_trees t))
    (of : (f : Signature) (e : Expression) → ExpressionIsLawful p f e → P e.tree) where
  body_each : (f : Signature) (x : Body) → BodyIsLawful p f x → All P (body_trees x)
  body_each f x h = body_full P own x no_block (All-weaker (ExpressionIsLawful p f) (λ e. P e.tree) (of f) (expressions x) h.full)

  function_each : (f : Function) (o : Option Block) → block_in f.body ≡ o → FunctionIsLawful p f → All P (trees_in o)
  function_each f None is h = All-nil P
  function_each f (Some b) is h =
      let there : f.body ≡ Some (body.Block b) = body_there f.body b is in
      subst (All P) (block_form b)
      (body_each (signature_of f.ty) (body.Block b) (where_some (BodyIsLawful p (signature_of f.ty)) f.body (body.Block b) there h.body))

  functions_each : (fs : List Function) → All (FunctionIsLawful p) fs → All P (flat_map code_trees fs)
  functions_each [] h = All-nil P
  functions_each (f ∷ fs) h =
      All-append P (code_trees f) (flat_map code_trees fs)
      (function_each f (block_in f.body) refl (All-head (FunctionIsLawful p) f fs h))
      (functions_each fs (All-tail (FunctionIsLawful p) f fs h))

  pub each_laid : (code : Code) (n : ℕ) (laid : Laid) → IsLawful p → AreInOrder p code → slice_get code.expressions.items n ≡ Some laid → P laid.root.now
  each_laid code n laid lawful order at =
      let root : Laid → Typed = λ e. e.root.now in
      let there : slice_get (flat_map code_trees p.functions) n ≡ Some laid.root.now =
      ap (λ ts. slice_get ts n) (sym order) ∙ (slice_get-map root code.expressions.items n ∙ ap (option_map root) at) in
      each_at P (flat_map code_trees p.functions) n laid.root.now there (functions_each p.functions lawful.functions)
