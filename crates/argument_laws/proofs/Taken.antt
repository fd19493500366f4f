-- The first objects of a function's body are those of its parameters, and take its arguments.
use Rattle.std.proofs.Common.{◌≡◌, ℕ, zero, suc, List, [], ◌∷◌, map, Option, Some, None, refl, sym, ap, ◌∙◌, subst}
use Rattle.std.specs.Prelude.{slice_get}
use Rattle.std.specs.List.{All}
use Rattle.std.proofs.lemmas.List.Elements.{All-head, All-tail}
use Rattle.ub_base.specs.declared.names.ObjName.{ObjName}
use Rattle.addr_map.specs.declared.map.Row.{Row}
use Rattle.c_types.specs.declared.tags.Tag.{Tag}
use Rattle.c_types.specs.Types.{CType, Params, Qualified, Signature, params_of, signature_of}
use Rattle.c_types.specs.Types as types
use Rattle.c_typed.specs.declared.program.Function.{Function}
use Rattle.c_typed.specs.declared.program.Program.{Program}
use Rattle.c_typed.specs.declared.statement.Block.{Block as Typed_block}
use Rattle.c_typed.specs.declared.statement.Body.{Body, fold-roll-Body, out-Body, roll-Body, roll-out-Body}
use Rattle.c_typed.specs.declared.statement.Body.TheOpen as form
use Rattle.c_typed.specs.declared.statement.Body.TheOpen.{Body-F}
use Rattle.c_typed.specs.declared.statement.Entry.{Entry}
use Rattle.c_typed.specs.declared.statement.ForStart.{ForStart}
use Rattle.c_typed.specs.Lawful.{AreNoArrays, BeginsWith, BlockIsLawful, BodyIsLawful, FunctionIsLawful, IsNoArray, IsSized, StartsWith, Where}
use Rattle.c_typed.specs.Sites.{BlockRow, summary}
use Rattle.c_model.specs.Program as model
use Rattle.c_model.specs.Program.{Decl, Stmt}
use Rattle.c_model.specs.Values.{Value}
use Rattle.program_view.specs.Objects.{decl_of}
use Rattle.program_view.specs.Statements as view
use Rattle.program_view.specs.Statements.{Inner, Loop, as_block, defined, definition, inner_of, stmt_of}
use Rattle.program_view.specs.Text.{Text, TextIsKept, block_by, text_of}
use Rattle.program_view.specs.View.{function_of}
use Rattle.value_laws.specs.Layouts.{laid_out}
use Rattle.value_laws.specs.Sizes.{HasSize}
use Rattle.argument_laws.specs.Taking.{TakesArgument}
use Rattle.argument_laws.proofs.Given.{AreGiven}
use Rattle.argument_laws.proofs.Objects.{LiesApart, takes_it}

same_value : (v w : Value) → Some v ≡ Some w → v ≡ w
same_value v w e = cc (e)

same_decl : (d e : Decl) → Some d ≡ Some e → d ≡ e
same_decl d e h = cc (h)

-- ---- the function of a number
pub function_at : (p : Program) (fs : List Function) (n : ℕ) (g : model.Function) → slice_get (map (function_of p.tags) fs) n ≡ Some g
    → (f : Function) × (slice_get fs n ≡ Some f) × (function_of p.tags f ≡ g)
function_at p [] n g e = absurd (cc (e))
function_at p (f ∷ fs) zero g e = (f, refl, (let same : function_of p.tags f ≡ g = cc (e) in same))
function_at p (f ∷ fs) (suc n) g e = function_at p fs n g e

pub lawful_at : (p : Program) (fs : List Function) (n : ℕ) (f : Function) → slice_get fs n ≡ Some f → All (FunctionIsLawful p) fs → FunctionIsLawful p f
lawful_at p [] n f e h = absurd (cc (e))
lawful_at p (g ∷ fs) zero f e h =
    let same : g ≡ f = cc (e) in
    subst (FunctionIsLawful p) same (All-head (FunctionIsLawful p) g fs h)
lawful_at p (g ∷ fs) (suc n) f e h = lawful_at p fs n f e (All-tail (FunctionIsLawful p) g fs h)

-- ---- objects that begin with those of parameters take their arguments
module _ (tags : List Tag) (rows : List Row) (x : ObjName) where
  abbrev Sized : Qualified → Type 0
  Sized q = IsSized tags q.ty

  starts_take : (ps : Params) (qs : List Qualified) (vs : List Value) → AreNoArrays ps → StartsWith ps qs → All Sized qs → AreGiven (laid_out tags) ps vs
      → (k : ℕ) (d : Decl) (v : Value) → slice_get (map (decl_of tags) qs) k ≡ Some d → slice_get vs k ≡ Some v → LiesApart tags rows x v
      → TakesArgument rows x d v
  starts_take types.none qs [] u s z g k d v at is a = absurd (cc (is))
  starts_take types.none qs (w ∷ vs) u s z g k d v at is a = absurd g
  starts_take (types.more c t ps) [] vs u s z g k d v at is a = absurd s
  starts_take (types.more c t ps) (q ∷ qs) [] u s z g k d v at is a = absurd g
  starts_take (types.more c t ps) (q ∷ qs) (w ∷ vs) u s z g zero d v at is a =
      let own : q.ty ≡ t = s.1 in
      let no_array = subst (λ (y : CType). IsNoArray y) (sym own) u.0 in
      let sized = subst (λ (y : CType). HasSize (laid_out tags y) w) (sym own) g.0 in
      let value = same_value w v is in
      subst (λ (y : Decl). TakesArgument rows x y v) (same_decl (decl_of tags q) d at)
      (takes_it tags rows x q no_array (All-head Sized q qs z) v
      (subst (HasSize (laid_out tags q.ty)) value sized) a)
  starts_take (types.more c t ps) (q ∷ qs) (w ∷ vs) u s z g (suc k) d v at is a =
      starts_take ps qs vs u.1 s.2 (All-tail Sized q qs z) g.1 k d v at is a

-- ---- a body that is a block
module _ (tags : List Tag) where
  first_row : (b : ℕ) (ds : List Decl) (more : List (ℕ × List Decl)) (ps : Params) (rows : List BlockRow) → (b, ds) ∷ more ≡ map (block_by tags) rows
      → BeginsWith ps rows → All (BlockIsLawful tags) rows
      → (qs : List Qualified) × (ds ≡ map (decl_of tags) qs) × StartsWith ps qs × All (λ q. IsSized tags q.ty) qs
  first_row b ds more ps [] e h l = absurd h
  first_row b ds more ps (r ∷ rs) e h l =
      (r.objects, ap objects_in e, h, (All-head (BlockIsLawful tags) r rs l).objects)
    where
      objects_in : List (ℕ × List Decl) → List Decl
      objects_in [] = []
      objects_in (x ∷ xs) = x.1

module _ (kept : TextIsKept) (p : Program) (f : Signature) where
  text_row : (x : Body) (b : ℕ) (ds : List Decl) (ss : model.Stmts) → BodyIsLawful p f x → stmt_of p.tags x ≡ model.Block b ds ss
      → (qs : List Qualified) × (ds ≡ map (decl_of p.tags) qs) × StartsWith f.params qs × All (λ q. IsSized p.tags q.ty) qs
  text_row x b ds ss h e =
      first_row p.tags b ds _ f.params (summary x).blocks
      (ap (λ (s : Stmt). (text_of s).blocks) (sym e) ∙ ap (λ (t : Text). t.blocks) (kept p.tags x)) h.begins h.statements.blocks

  seen_is : (k : Typed_block) → stmt_of p.tags (roll-Body (form.Block k)) ≡ as_block (inner_of p.tags k)
  seen_is k = fold-roll-Body Stmt Stmt Loop Inner view.body_step view.entry_step view.start_step (view.block_step p.tags) (form.Block k)

  layer_is : (d : Body-F Body Entry ForStart Typed_block) (s : Stmt) → defined p.tags d ≡ Some s → stmt_of p.tags (roll-Body d) ≡ s
  layer_is (form.Block k) s e = let same : as_block (inner_of p.tags k) ≡ s = cc (e) in seen_is k ∙ same
  layer_is (form.Simple t) s e = absurd (cc (e))
  layer_is (form.If t a b) s e = absurd (cc (e))
  layer_is (form.Switch t a) s e = absurd (cc (e))
  layer_is (form.While t a) s e = absurd (cc (e))
  layer_is (form.Do a t) s e = absurd (cc (e))
  layer_is (form.For start test step a) s e = absurd (cc (e))
  layer_is (form.Goto n) s e = absurd (cc (e))
  layer_is form.Continue s e = absurd (cc (e))
  layer_is form.Break s e = absurd (cc (e))
  layer_is (form.Return t) s e = absurd (cc (e))
  layer_is (form.Label n a) s e = absurd (cc (e))
  layer_is (form.Case z a) s e = absurd (cc (e))
  layer_is (form.Default a) s e = absurd (cc (e))

  -- the objects of the block of a body
  pub body_objects : (o : Option Body) (b : ℕ) (ds : List Decl) (ss : model.Stmts) → Where (BodyIsLawful p f) o
      → definition p.tags o ≡ Some (model.Block b ds ss)
      → (qs : List Qualified) × (ds ≡ map (decl_of p.tags) qs) × StartsWith f.params qs × All (λ q. IsSized p.tags q.ty) qs
  body_objects None b ds ss h e = absurd (cc (e))
  body_objects (Some x) b ds ss h e =
      text_row x b ds ss h (ap (stmt_of p.tags) (sym (roll-out-Body x)) ∙ layer_is (out-Body x) (model.Block b ds ss) e)

-- So each object of the block takes the argument of its number.
pub body_takes : TextIsKept → (p : Program) (rows : List Row) (x : ObjName) (f : Function) (b : ℕ) (ds : List Decl) (ss : model.Stmts) (vs : List Value)
    → FunctionIsLawful p f → (function_of p.tags f).body ≡ Some (model.Block b ds ss) → AreGiven (laid_out p.tags) (signature_of f.ty).params vs
    → (k : ℕ) (d : Decl) (v : Value) → slice_get ds k ≡ Some d → slice_get vs k ≡ Some v → LiesApart p.tags rows x v → TakesArgument rows x d v
body_takes kept p rows x f b ds ss vs law e g k d v at is a =
    let o = body_objects kept p (signature_of f.ty) f.body b ds ss law.body e in
    starts_take p.tags rows x (signature_of f.ty).params o.0 vs law.usual.1 o.2 o.3 g k d v
    (subst (λ (es : List Decl). slice_get es k ≡ Some d) o.1 at) is a
