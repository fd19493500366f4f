-- Each function of a lawful program names automatic objects of blocks round the place alone.
use Rattle.std.proofs.Common.{◌≡◌, ℕ, zero, suc, ◌+◌, List, [], ◌∷◌, map, Option, Some, None, true, is_some, slice_get, arith, refl, sym, ap, ◌∙◌}
use Rattle.std.proofs.Common.{subst}
use Rattle.std.specs.List.{All}
use Rattle.std.proofs.lemmas.List.Elements.{All-nil, All-cons, All-head, All-tail}
use Rattle.std.proofs.lemmas.Option.{slice_get-map}
use Rattle.std.specs.Option.{option_map}
use Rattle.c_types.specs.declared.tags.Tag.{Tag}
use Rattle.c_types.specs.Types.{Signature, signature_of}
use Rattle.c_typed.specs.declared.statement.Body.{Body, fold-roll-Body, out-Body, roll-Body, roll-out-Body}
use Rattle.c_typed.specs.declared.statement.Body.TheOpen as form
use Rattle.c_typed.specs.declared.statement.Body.TheOpen.{Body-F}
use Rattle.c_typed.specs.declared.statement.Block.{Block}
use Rattle.c_typed.specs.declared.statement.Entry.{Entry}
use Rattle.c_typed.specs.declared.statement.ForStart.{ForStart}
use Rattle.c_typed.specs.declared.program.Function.{Function}
use Rattle.c_typed.specs.declared.program.Program.{Program}
use Rattle.c_typed.specs.Sites.{no_block, BlockRow, summary}
use Rattle.c_typed.specs.Lawful.{Where, There, NumberedFrom, BlockIsLawful, BodyIsLawful, FunctionIsLawful}
use Rattle.c_model.specs.Program as model
use Rattle.c_model.specs.Program.{Stmt}
use Rattle.c_model.specs.World.{World}
use Rattle.c_model.specs.Steps.{body_of}
use Rattle.program_view.specs.Statements as view
use Rattle.program_view.specs.Statements.{Inner, Loop, as_block, stmt_of, inner_of, defined, definition}
use Rattle.program_view.specs.Text.{Text, text_of, text_by, block_by, TextIsKept}
use Rattle.program_view.specs.View.{function_of}
use Rattle.frame_laws.specs.Scopes.{Objects, objects_of_row, objects_in, Fits, BodyFits}
use Rattle.frame_laws.specs.Frames.{HasMain}
use Rattle.frame_laws.specs.Named.{LawfulIsScoped, MainIsDefined}
use Rattle.frame_laws.proofs.LawfulNames.{RowIs, AreRound, body_scoped}

-- blocks that are numbered from one on have the objects of their rows
rows_are : (tags : List Tag) (objects : Objects) (all rows : List BlockRow) (k : ℕ)
    → ((n : ℕ) → objects n ≡ objects_of_row (option_map (block_by tags) (slice_get all n)))
    → NumberedFrom k rows → ((i : ℕ) → slice_get all (k + i) ≡ slice_get rows i) → All (BlockIsLawful tags) rows → All (RowIs tags objects) rows
rows_are tags objects all [] k are numbered at lawful = All-nil (RowIs tags objects)
rows_are tags objects all (b ∷ bs) k are numbered at lawful =
    let here : slice_get all b.number ≡ Some b = ap (slice_get all) (let n = numbered.0 in omega (arith, n)) ∙ at 0 in
    let first : RowIs tags objects b = record {
      objects_are = are b.number ∙ ap (λ o. objects_of_row (option_map (block_by tags) o)) here;
      declares = (All-head (BlockIsLawful tags) b bs lawful).declared;
    } in
    All-cons (RowIs tags objects) b bs first
    (rows_are tags objects all bs (1 + k) are numbered.1 (λ i. ap (slice_get all) (omega arith) ∙ at (suc i)) (All-tail (BlockIsLawful tags) b bs lawful))

-- the objects of a body are those of its rows
objects_are : (tags : List Tag) (b : Body) (text : Text) → text ≡ text_by tags (summary b) → (n : ℕ)
    → objects_of_row (slice_get text.blocks n) ≡ objects_of_row (option_map (block_by tags) (slice_get (summary b).blocks n))
objects_are tags b text e n =
    ap (λ (t : Text). objects_of_row (slice_get t.blocks n)) e ∙ ap objects_of_row (slice_get-map (block_by tags) (summary b).blocks n)

module _ (kept : TextIsKept) (p : Program) (f : Signature) where
  whole_fits : (b : Body) → BodyIsLawful p f b → Fits (objects_in (stmt_of p.tags b)) [] (stmt_of p.tags b)
  whole_fits b h =
      let objects = objects_in (stmt_of p.tags b) in
      let rows = rows_are p.tags objects (summary b).blocks (summary b).blocks 0 (objects_are p.tags b (text_of (stmt_of p.tags b)) (kept p.tags b))
      h.statements.numbered (λ i. ap (slice_get (summary b).blocks) (omega arith)) h.statements.blocks in
      let round : AreRound p f objects no_block [] = λ n qs q. absurd (cc (q)) in
      body_scoped p f objects b no_block [] 0 round h.full (record { numbered = h.statements.numbered; above = tt; are = rows })

  seen_is : (k : Block) → stmt_of p.tags (roll-Body (form.Block k)) ≡ as_block (inner_of p.tags k)
  seen_is k = fold-roll-Body Stmt Stmt Loop Inner view.body_step view.entry_step view.start_step (view.block_step p.tags) (form.Block k)

  block_fits : (k : Block) → BodyIsLawful p f (roll-Body (form.Block k)) → BodyFits (as_block (inner_of p.tags k))
  block_fits k h =
      let P : Stmt → Type 0 = λ s. Fits (objects_in s) [] s in
      subst P (seen_is k) (whole_fits (roll-Body (form.Block k)) h)

  layer_fits : (d : Body-F Body Entry ForStart Block) (s : Stmt) → BodyIsLawful p f (roll-Body d) → defined p.tags d ≡ Some s → BodyFits s
  layer_fits (form.Block k) s h e = let same : as_block (inner_of p.tags k) ≡ s = cc in subst BodyFits same (block_fits k h)
  layer_fits (form.Simple t) s h e = absurd (cc)
  layer_fits (form.If t a b) s h e = absurd (cc)
  layer_fits (form.Switch t a) s h e = absurd (cc)
  layer_fits (form.While t a) s h e = absurd (cc)
  layer_fits (form.Do a t) s h e = absurd (cc)
  layer_fits (form.For start test step a) s h e = absurd (cc)
  layer_fits (form.Goto n) s h e = absurd (cc)
  layer_fits form.Continue s h e = absurd (cc)
  layer_fits form.Break s h e = absurd (cc)
  layer_fits (form.Return t) s h e = absurd (cc)
  layer_fits (form.Label n a) s h e = absurd (cc)
  layer_fits (form.Case z a) s h e = absurd (cc)
  layer_fits (form.Default a) s h e = absurd (cc)

  definition_fits : (o : Option Body) (s : Stmt) → Where (BodyIsLawful p f) o → definition p.tags o ≡ Some s → BodyFits s
  definition_fits None s h e = absurd (cc)
  definition_fits (Some b) s h e = layer_fits (out-Body b) s (subst (BodyIsLawful p f) (sym (roll-out-Body b)) h) e

module _ (kept : TextIsKept) (p : Program) where
  functions_fit : (fs : List Function) (n : ℕ) (g : model.Function) (s : Stmt) → All (FunctionIsLawful p) fs
      → slice_get (map (function_of p.tags) fs) n ≡ Some g → g.body ≡ Some s → BodyFits s
  functions_fit [] n g s h e q = absurd (cc)
  functions_fit (f ∷ fs) zero g s h e q =
      let same : function_of p.tags f ≡ g = cc in
      let is : definition p.tags f.body ≡ Some s = ap (λ (x : model.Function). x.body) same ∙ q in
      definition_fits kept p (signature_of f.ty) f.body s (All-head (FunctionIsLawful p) f fs h).body is
  functions_fit (f ∷ fs) (suc n) g s h e q = functions_fit fs n g s (All-tail (FunctionIsLawful p) f fs h) e q

function_body : (world : World) (n : ℕ) (f : model.Function) → slice_get world.program.functions n ≡ Some f → body_of world (Some n) ≡ f.body
function_body world n f e = rw e

no_function : (world : World) (n : ℕ) → slice_get world.program.functions n ≡ None → body_of world (Some n) ≡ None
no_function world n e = rw e

pub lawful_is_scoped : TextIsKept → LawfulIsScoped
lawful_is_scoped kept p world h are n body q = go (slice_get world.program.functions n) refl
  where
    go : (o : Option model.Function) → slice_get world.program.functions n ≡ o → BodyFits body
    go None e = absurd (let x = no_function world n e in cc)
    go (Some g) e =
        functions_fit kept p p.functions n g body h.functions (ap (λ fs. slice_get fs n) (sym are) ∙ e) (sym (function_body world n g e) ∙ q)

-- where the typed function defines one, `main` is defined
pub main_is_defined : MainIsDefined
main_is_defined p world are main h = go (slice_get p.functions p.main) refl h
  where
    go : (o : Option Function) → slice_get p.functions p.main ≡ o → There o (λ f. is_some (definition p.tags f.body) ≡ true) → HasMain world
    go None e h = absurd h
    go (Some f) e h =
        let at : slice_get world.program.functions world.program.main ≡ Some (function_of p.tags f) =
        ap (slice_get world.program.functions) main
        ∙ (ap (λ fs. slice_get fs p.main) are ∙ (slice_get-map (function_of p.tags) p.functions p.main ∙ ap (option_map (function_of p.tags)) e)) in
        ap is_some (function_body world world.program.main (function_of p.tags f) at) ∙ h
