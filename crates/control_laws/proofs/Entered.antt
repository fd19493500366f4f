-- The block of a function's body, which its frame enters first, is that of number 0.
use Rattle.std.proofs.Common.{arith, ◌≡◌, ◌≤◌, ℕ, ◌⊎◌, inl, inr, List, [], ◌∷◌, length, map, Some, slice_get, refl, sym, ap, subst, ◌∙◌}
use Rattle.std.specs.Prelude.{true, is_some}
use Rattle.std.proofs.lemmas.List.{length-map}
use Rattle.std.proofs.lemmas.Option.{same_Some}
use Rattle.c_types.specs.declared.tags.Tag.{Tag}
use Rattle.c_types.specs.declared.ty.FuncTy.{FuncTy, fold_out-FuncTy, out-FuncTy}
use Rattle.c_types.specs.Types.{CType, Params, Qualified, Signature, func_step, params_of, qual_step, qualified_of, signature_of, ty_step}
use Rattle.c_typed.specs.declared.program.Function.{Function}
use Rattle.c_typed.specs.declared.program.Program.{Program}
use Rattle.c_typed.specs.declared.statement.Block.{Block as Typed_block}
use Rattle.c_typed.specs.declared.statement.Body.TheVariants as body
use Rattle.c_typed.specs.declared.tree.Place.{Place}
use Rattle.c_typed.specs.Lawful.{BeginsWith, BodyIsLawful, FunctionIsLawful, IsLawful, NumberedFrom, StartsWith}
use Rattle.c_typed.specs.Sites.{BlockRow, summary}
use Rattle.c_model.specs.Control.{Todo, Enter, opened, ready_work}
use Rattle.c_model.specs.Program.{Decl, Stmt, Value, Empty, Declare, Block, If, If_only, Switch, Do, For, Goto, Continue, Break, Return, Return_none}
use Rattle.c_model.specs.Program.{Label, Case, Default}
use Rattle.c_model.specs.Steps.{Local, body_of}
use Rattle.c_model.specs.World.{World}
use Rattle.program_view.specs.Objects.{decl_of}
use Rattle.program_view.specs.Statements.{stmt_of}
use Rattle.program_view.specs.Text.{Text, TextIsKept, block_by, text_of}
use Rattle.run_layout.specs.Blocks.{rows_of_block}
use Rattle.run_layout.specs.Roots.{block_in}
use Rattle.frame_laws.specs.Scopes.{BodyFits}
use Rattle.frame_laws.specs.Frames.{AreOrdered, IsFresh, IsInBody, IsOfFunction, IsOfInitializer, IsOutermost, IsScoped, function_round, number_of}
use Rattle.control_laws.proofs.Laws.{body_there, each_at, where_some}
use Rattle.control_laws.proofs.Rounds.{round_body}
use Rattle.control_laws.proofs.Seen.{RowAt, of_block}

abbrev first_number : ℕ → List (ℕ × List Decl) → ℕ
first_number other [] = other
first_number other (b ∷ bs) = b.0

row_zero : (tags : List Tag) (b : ℕ) (ds : List Decl) (more : List (ℕ × List Decl)) (rows : List BlockRow) → (b, ds) ∷ more ≡ map (block_by tags) rows
    → NumberedFrom 0 rows → b ≡ 0
row_zero tags b ds more [] e h = absurd (cc)
row_zero tags b ds more (r ∷ rs) e h = ap (first_number 0) e ∙ h.0

-- blocks are numbered from 0 on
number_zero : (tags : List Tag) (s : Stmt) (rows : List BlockRow) → BodyFits s → (text_of s).blocks ≡ map (block_by tags) rows → NumberedFrom 0 rows
    → number_of s ≡ 0
number_zero tags (Block b ds ss) rows fits e h = row_zero tags b ds _ rows e h
number_zero tags (Value x) rows fits e h = refl
number_zero tags Empty rows fits e h = refl
number_zero tags (Declare x) rows fits e h = refl
number_zero tags (If x s t) rows fits e h = refl
number_zero tags (If_only x s) rows fits e h = refl
number_zero tags (Switch x s) rows fits e h = refl
number_zero tags (Do s x) rows fits e h = refl
number_zero tags (For x y z s) rows fits e h = refl
number_zero tags (Goto l) rows fits e h = refl
number_zero tags Continue rows fits e h = refl
number_zero tags Break rows fits e h = refl
number_zero tags (Return x) rows fits e h = refl
number_zero tags Return_none rows fits e h = refl
number_zero tags (Label l s) rows fits e h = refl
number_zero tags (Case z s) rows fits e h = refl
number_zero tags (Default s) rows fits e h = refl

-- what is entered first
abbrev entered : Todo → ℕ
entered (Enter b ds ∷ rest) = b
entered todo = 0

opened_number : (s : Stmt) → BodyFits s → entered (opened s []) ≡ number_of s
opened_number (Block b ds ss) fits = refl
opened_number (Value x) fits = absurd fits
opened_number Empty fits = absurd fits
opened_number (Declare x) fits = absurd fits
opened_number (If x s t) fits = absurd fits
opened_number (If_only x s) fits = absurd fits
opened_number (Switch x s) fits = absurd fits
opened_number (Do s x) fits = absurd fits
opened_number (For x y z s) fits = absurd fits
opened_number (Goto l) fits = absurd fits
opened_number Continue fits = absurd fits
opened_number Break fits = absurd fits
opened_number (Return x) fits = absurd fits
opened_number Return_none fits = absurd fits
opened_number (Label l s) fits = absurd fits
opened_number (Case z s) fits = absurd fits
opened_number (Default s) fits = absurd fits

pub numbered_body : TextIsKept → (p : Program) (n : ℕ) (f : Function) (b : Typed_block) → IsLawful p → slice_get p.functions n ≡ Some f
    → block_in f.body ≡ Some b → BodyFits (stmt_of p.tags (body.Block b)) → number_of (stmt_of p.tags (body.Block b)) ≡ 0
numbered_body kept p n f b lawful at is fits =
    let x = body.Block b in
    let function = each_at (FunctionIsLawful p) p.functions n f at lawful.functions in
    let law : BodyIsLawful p (signature_of f.ty) x =
    where_some (BodyIsLawful p (signature_of f.ty)) f.body x (body_there f.body b is) function.body in
    number_zero p.tags (stmt_of p.tags x) (summary x).blocks fits (ap (λ (t : Text). t.blocks) (kept p.tags x)) law.statements.numbered

-- ---- the block of the body has an object for each parameter
starts_few : (qs : List Qualified) (objects : List Qualified) → StartsWith (params_of qs) objects → length qs ≤ length objects
starts_few [] objects h = omega arith
starts_few (q ∷ qs) [] h = absurd h
starts_few (q ∷ qs) (o ∷ os) h = let l = starts_few qs os h.2 in omega (arith, l)

parameters_start : (f : FuncTy) (objects : List Qualified) → StartsWith (signature_of f).params objects → length (out-FuncTy f).params ≤ length objects
parameters_start f objects h =
    let seen = fold_out-FuncTy CType Signature Qualified ty_step func_step qual_step f in
    let l = starts_few (map qualified_of (out-FuncTy f).params) objects (subst (λ (s : Signature). StartsWith s.params objects) seen h) in
    let same = length-map (out-FuncTy f).params qualified_of in
    omega (arith, l, same)

begins_at : (params : Params) (rows : List BlockRow) (r : BlockRow) → BeginsWith params rows → slice_get rows 0 ≡ Some r → StartsWith params r.objects
begins_at params [] r h at = absurd h
begins_at params (x ∷ xs) r h at = subst (λ (y : BlockRow). StartsWith params y.objects) (same_Some x r at) h

pub parameters_few : (p : Program) (n : ℕ) (f : Function) (b : Typed_block) (ds : List Decl) → IsLawful p → slice_get p.functions n ≡ Some f
    → block_in f.body ≡ Some b → RowAt p.tags (rows_of_block b) 0 ds → length (out-FuncTy f.ty).params ≤ length ds
parameters_few p n f b ds lawful at is r =
    let x = body.Block b in
    let function = each_at (FunctionIsLawful p) p.functions n f at lawful.functions in
    let law : BodyIsLawful p (signature_of f.ty) x =
    where_some (BodyIsLawful p (signature_of f.ty)) f.body x (body_there f.body b is) function.body in
    let begins = begins_at (signature_of f.ty).params (rows_of_block b) r.row (subst (BeginsWith (signature_of f.ty).params) (of_block b) law.begins) r.at in
    let l = parameters_start f.ty r.row.objects begins in
    let same = length-map r.row.objects (decl_of p.tags) in
    let all = ap (λ (xs : List Decl). length xs) r.objects in
    omega (arith, l, same, all)

module _ (world : World) where
  outside : (own : ℕ) (bs : List (ℕ × ℕ)) → bs ≡ [] → IsOutermost own (map (λ b. b.0) bs) → ⊥
  outside own [] e i = i
  outside own (b ∷ bs) e i = absurd (cc (e))

  stage_enters : (f : Local) (body : Stmt) (b : ℕ) (ds : List Decl) (rest : Todo) → BodyFits body → f.scene.blocks ≡ []
      → ready_work f.todo ≡ Enter b ds ∷ rest → (IsFresh body f ⊎ IsInBody body f) → number_of body ≡ b
  stage_enters f body b ds rest fits none is (inl fresh) =
      sym (opened_number body fits) ∙ (ap entered (sym (ap ready_work fresh.todo)) ∙ ap entered is)
  stage_enters f body b ds rest fits none is (inr i) = absurd (outside (number_of body) f.scene.blocks none i.outermost)

  function_enters : (f : Local) (hs : List (Local × Place)) (n : ℕ) (s : Stmt) (b : ℕ) (ds : List Decl) (rest : Todo) → IsScoped world
      → function_round f hs ≡ Some n → body_of world (Some n) ≡ Some s → f.scene.blocks ≡ [] → ready_work f.todo ≡ Enter b ds ∷ rest
      → IsOfFunction world f → BodyFits s × (number_of s ≡ b)
  function_enters f hs n s b ds rest scoped around there none is i =
      let same : i.body ≡ s = same_Some i.body s (sym (round_body world f hs i) ∙ (ap (body_of world) around ∙ there)) in
      let fits = scoped i.number i.body i.defined in (
        subst BodyFits same fits,
        ap number_of (sym same) ∙ stage_enters f i.body b ds rest fits none is i.stage,
      )

  -- where no block is open yet
  pub enters_first : (f : Local) (hs : List (Local × Place)) (n : ℕ) (s : Stmt) (b : ℕ) (ds : List Decl) (rest : Todo) → IsScoped world
      → AreOrdered world f hs → is_some f.function ≡ true → function_round f hs ≡ Some n → body_of world (Some n) ≡ Some s → f.scene.blocks ≡ []
      → ready_work f.todo ≡ Enter b ds ∷ rest → BodyFits s × (number_of s ≡ b)
  enters_first f [] n s b ds rest scoped a some around there none is = function_enters f [] n s b ds rest scoped around there none is a.0
  enters_first f (h ∷ hs) n s b ds rest scoped a some around there none is = kind a.0
    where
      kind : (IsOfFunction world f ⊎ IsOfInitializer f h.0 h.1) → BodyFits s × (number_of s ≡ b)
      kind (inl i) = function_enters f (h ∷ hs) n s b ds rest scoped around there none is i
      kind (inr i) = absurd (let no = ap is_some i.function in cc (no, some))
