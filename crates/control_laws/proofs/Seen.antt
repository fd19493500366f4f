-- The function whose objects a frame sees: in the program, in the definitions, and in the code.
use Rattle.std.proofs.Common.{rules, ◌≡◌, ℕ, List, length, map, Option, Some, None, slice_get, refl, sym}
use Rattle.std.proofs.Common.{ap, subst, ◌∙◌}
use Rattle.std.specs.Option.{option_map}
use Rattle.std.proofs.lemmas.Option.{same_Some, slice_get-map, slice_get_within}
use Rattle.c_types.specs.declared.tags.Tag.{Tag}
use Rattle.c_types.specs.declared.ty.FuncTy.{out-FuncTy}
use Rattle.c_typed.specs.declared.program.Function.{Function}
use Rattle.c_typed.specs.declared.program.Program.{Program}
use Rattle.c_typed.specs.declared.statement.Block.{Block}
use Rattle.c_typed.specs.declared.statement.Body.{Body}
use Rattle.c_typed.specs.declared.statement.Body.TheFolds as typed
use Rattle.c_typed.specs.declared.statement.Body.TheVariants as body
use Rattle.c_typed.specs.declared.tree.Place.{Place}
use Rattle.c_typed.specs.Sites.{BlockRow}
use Rattle.c_model.specs.Program.{Decl}
use Rattle.c_model.specs.Steps.{Local, body_of}
use Rattle.c_model.specs.World.{World}
use Rattle.program_view.specs.Objects.{decl_of}
use Rattle.program_view.specs.Statements.{definition, stmt_of}
use Rattle.program_view.specs.Text.{Text, TextIsKept, block_by, text_of}
use Rattle.program_view.specs.View as view
use Rattle.program_view.proofs.Equations.{definition-block, stmt-block}
use Rattle.run_layout.specs.Blocks.{firsts_from, rows_of, rows_of_block}
use Rattle.run_layout.specs.Functions.{HaveBlocks}
use Rattle.run_layout.specs.Roots.{block_in, HaveCode}
use Rattle.run_state.specs.declared.machine.Machine.{Machine}
use Rattle.run_state.specs.declared.machine.Open.{Open}
use Rattle.run_state.specs.Meaning.{StandsProgram}
use Rattle.code_view.specs.Blocks.{HasBlockAt}
use Rattle.code_view.specs.Numbering.{body_decls, decls_in, function_decls, row_decls}
use Rattle.frame_laws.specs.Scopes.{objects_in, objects_of_row}
use Rattle.frame_laws.specs.Frames.{function_round, objects_of_body, objects_round}
use Rattle.run_laws.specs.Frames.{Sees, SeesFunction}
use Rattle.control_laws.proofs.Laws.{Laws, body_there, function_body}

-- the blocks of a body that is a block
pub of_block : (b : Block) → rows_of (body.Block b) ≡ rows_of_block b
of_block b = search (rules, typed.the_lemmas)

-- ---- the body of a function that is defined by a block
defined_body : (p : Program) (world : World) (n : ℕ) (f : Function) (b : Block) → StandsProgram world p → slice_get p.functions n ≡ Some f
    → block_in f.body ≡ Some b → body_of world (Some n) ≡ Some (stmt_of p.tags (body.Block b))
defined_body p world n f b stands at is =
    let there : slice_get world.program.functions n ≡ Some (view.function_of p.tags f) =
    ap (λ fs. slice_get fs n) stands.functions
    ∙ (slice_get-map (view.function_of p.tags) p.functions n ∙ ap (option_map (view.function_of p.tags)) at) in
    function_body world n (view.function_of p.tags f) there
    ∙ (ap (definition p.tags) (body_there f.body b is) ∙ (definition-block p.tags b ∙ ap Some (sym (stmt-block p.tags b))))

-- ---- the objects of its blocks
pub record RowAt (tags : List Tag) (rows : List BlockRow) (k : ℕ) (ds : List Decl) : Type 0 where
  pub row : BlockRow
  pub at : slice_get rows k ≡ Some row
  pub objects : map (decl_of tags) row.objects ≡ ds

row_at : (tags : List Tag) (rows : List BlockRow) (k : ℕ) (ds : List Decl) → objects_of_row (option_map (block_by tags) (slice_get rows k)) ≡ Some ds
    → RowAt tags rows k ds
row_at tags rows k ds e = go (slice_get rows k) refl e
  where
    go : (o : Option BlockRow) → slice_get rows k ≡ o → objects_of_row (option_map (block_by tags) o) ≡ Some ds → RowAt tags rows k ds
    go None at e = absurd (cc)
    go (Some r) at e = record { row = r; at = at; objects = same_Some (map (decl_of tags) r.objects) ds e }

-- by the definitions, by the program
row_of_block : TextIsKept → (tags : List Tag) (b : Block) (k : ℕ) (ds : List Decl) → objects_in (stmt_of tags (body.Block b)) k ≡ Some ds
    → RowAt tags (rows_of_block b) k ds
row_of_block kept tags b k ds e =
    let x : Body = body.Block b in
    let blocks : (text_of (stmt_of tags x)).blocks ≡ map (block_by tags) (rows_of_block b) =
    ap (λ (t : Text). t.blocks) (kept tags x) ∙ ap (map (block_by tags)) (of_block b) in
    row_at tags (rows_of_block b) k ds
    (sym (slice_get-map' blocks) ∙ e)
  where
    slice_get-map' : (text_of (stmt_of tags (body.Block b))).blocks ≡ map (block_by tags) (rows_of_block b)
        → objects_in (stmt_of tags (body.Block b)) k ≡ objects_of_row (option_map (block_by tags) (slice_get (rows_of_block b) k))
    slice_get-map' blocks =
        ap (λ (rs : List (ℕ × List Decl)). objects_of_row (slice_get rs k)) blocks
        ∙ ap objects_of_row (slice_get-map (block_by tags) (rows_of_block b) k)

decls_are : (p : Program) (n : ℕ) (f : Function) (b : Block) (k : ℕ) (ds : List Decl) → slice_get p.functions n ≡ Some f → block_in f.body ≡ Some b
    → RowAt p.tags (rows_of_block b) k ds → decls_in p (Some n) k ≡ ds
decls_are p n f b k ds at is r =
    ap (λ o. function_decls p.tags o k) at
    ∙ (ap (λ o. body_decls p.tags o k) (body_there f.body b is)
    ∙ (ap (λ (rs : List BlockRow). row_decls p.tags (slice_get rs k)) (of_block b) ∙ (ap (row_decls p.tags) r.at ∙ r.objects)))

-- ---- the function of a frame
pub record OfCode (world : World) (p : Program) (m : Machine) (o : Open) (f : Local) (hs : List (Local × Place)) : Type 0 where
  pub number : ℕ
  pub around : function_round f hs ≡ Some number
  pub sees : SeesFunction m o number
  pub function : Function
  pub there : slice_get p.functions number ≡ Some function
  pub block : Block
  pub is_block : block_in function.body ≡ Some block
  pub body_is : body_of world (Some number) ≡ Some (stmt_of p.tags (body.Block block))

pub of_code : (world : World) (p : Program) (m : Machine) (o : Open) (f : Local) (hs : List (Local × Place)) (n : Option ℕ) → (z : Option ℕ)
    → n ≡ z → n ≡ function_round f hs → Sees m o n
    → HaveCode p.functions m.image.code.now → StandsProgram world p → OfCode world p m o f hs
of_code world p m o f hs n None is round sees have stands = absurd (subst (Sees m o) is sees)
of_code world p m o f hs n (Some k) is round sees have stands =
    let s : SeesFunction m o k = subst (Sees m o) is sees in
    let g = have.only k (s.code, s.at) in
    record {
      number = k;
      around = sym round ∙ is;
      sees = s;
      function = g.0;
      there = g.1;
      block = g.2;
      is_block = g.3;
      body_is = defined_body p world k g.0 g.2 stands g.1 g.3;
    }

module _ (world : World) (p : Program) (m : Machine) (o : Open) (f : Local) (hs : List (Local × Place)) (c : OfCode world p m o f hs) where
  abbrev pub parameters : ℕ
  parameters = length (out-FuncTy c.function.ty).params

  abbrev pub firsts : List ℕ
  firsts = firsts_from 0 (rows_of_block c.block)

  -- its blocks stand in the code
  pub objects_are : TextIsKept → (k : ℕ) (ds : List Decl) → objects_round world f hs k ≡ Some ds → RowAt p.tags (rows_of_block c.block) k ds
  objects_are kept k ds e =
      row_of_block kept p.tags c.block k ds
      (ap (λ z. objects_of_body z k) (sym (ap (body_of world) c.around ∙ c.body_is)) ∙ e)

  pub declared : TextIsKept → (k : ℕ) (ds : List Decl) → objects_round world f hs k ≡ Some ds → decls_in p (Some c.number) k ≡ ds
  declared kept k ds e = decls_are p c.number c.function c.block k ds c.there c.is_block (objects_are kept k ds e)

  pub block_at : Laws → (have : HaveBlocks p.tags m.image.code.now.tables p.functions m.image.code.now.functions.items) (k : ℕ) (ds : List Decl)
      → objects_round world f hs k ≡ Some ds
      → HasBlockAt m.image.code.now.tables c.sees.code firsts parameters ds k
  block_at laws have k ds e =
      let r = objects_are laws.text k ds e in
      subst (λ (es : List Decl). HasBlockAt m.image.code.now.tables c.sees.code firsts parameters es k) (declared laws.text k ds e)
      (laws.blocks p m.image.code.now have c.number c.function c.block c.sees.code c.there c.is_block c.sees.at k
      (slice_get_within (rows_of_block c.block) k r.row r.at))
