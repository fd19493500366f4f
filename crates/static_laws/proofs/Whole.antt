-- The program of a run of a lawful typed program is made of its full expressions.
use Rattle.std.proofs.Common.{◌≡◌, ℕ, zero, suc, ◌<◌, Bool, true, false, List, [], ◌∷◌, map, Option, Some, None, refl, sym, ap, ◌∙◌, subst}
use Rattle.std.proofs.Common.{ℤ, inl, inr}
use Rattle.std.specs.Prelude.{slice_get}
use Rattle.std.specs.List.{All}
use Rattle.std.proofs.lemmas.List.Elements.{All-head, All-tail}
use Rattle.c_types.specs.declared.ty.Qual.{Qual}
use Rattle.c_types.specs.declared.tags.Extent.{Extent}
use Rattle.c_types.specs.declared.tags.Tag.{Tag}
use Rattle.c_types.specs.Types.{CType, void, int, enumeration, pointer, array, struct, union, function, Params, none, more, Signature, Qualified}
use Rattle.c_types.specs.Types.{qualified_of, signature_of}
use Rattle.c_types.specs.Layout.{extent, extents}
use Rattle.c_types.proofs.SameTests.{matches_tells}
use Rattle.c_typed.specs.declared.tree.Access.TheVariants as access
use Rattle.c_typed.specs.declared.statement.Body.{Body, fold-roll-Body, out-Body, roll-Body, roll-out-Body}
use Rattle.c_typed.specs.declared.statement.Body.TheOpen as form
use Rattle.c_typed.specs.declared.statement.Body.TheOpen.{Body-F}
use Rattle.c_typed.specs.declared.statement.Block.{Block, fold-Block, out-Block, fold_out-Block}
use Rattle.c_typed.specs.declared.statement.Entry.{Entry}
use Rattle.c_typed.specs.declared.statement.ForStart.{ForStart}
use Rattle.c_typed.specs.declared.program.Function.{Function}
use Rattle.c_typed.specs.declared.program.Program.{Program}
use Rattle.c_typed.specs.Sites.{no_block, Summary, BlockRow, summary, summary_step, entry_summary, start_summary, block_summary}
use Rattle.c_typed.specs.Lawful as lawful
use Rattle.c_typed.specs.Lawful.{There, Where, IsNoArray, AreNoArrays, IsSized, AccessIs, StartsWith, BlockIsLawful, BodyIsLawful, FunctionIsLawful, IsLawful}
use Rattle.c_model.specs.Program as model
use Rattle.c_model.specs.Program.{Decl, Stmt}
use Rattle.c_model.specs.Values as values
use Rattle.c_model.specs.World.{World}
use Rattle.exposure.specs.declared.prov.Prov.{Prov}
use Rattle.value_laws.specs.Sizes.{HasSize}
use Rattle.value_laws.specs.Layouts.{laid_out}
use Rattle.value_laws.specs.Parameters.{AreTaken, parameters}
use Rattle.program_view.specs.Objects.{decl_of, access_of, extent_or_byte}
use Rattle.program_view.specs.Statements as view
use Rattle.program_view.specs.Statements.{Inner, Loop, as_block, stmt_of, inner_of, defined, definition}
use Rattle.program_view.specs.View.{function_of, has_parameters, has_parameters_in, passed_to, main_values}
use Rattle.program_view.specs.View.{type_by, world_of}
use Rattle.value_laws.specs.Wholes.{LibraryGivesPlain}
use Rattle.static_laws.specs.LawfulSizes.{IsMadeOf, ObjectsAre, IsBodyOf, IsFunctionOf}
use Rattle.static_laws.specs.WholePrograms.{IsRunOf, WholeProgramsAreMade, WholeProgramsFit, WholeParametersFit, RunsKeepSizes, RunsNeverRace}
use Rattle.static_laws.proofs.Fits.{programs_fit, parameters_fit}
use Rattle.static_laws.specs.NeverRaces.{KeepsSizes}
use Rattle.static_laws.proofs.Reduction.{never_sized}
use Rattle.static_laws.proofs.Made.{body_made}

-- how an object of a type is stored to is as the type says

whole_is : (o : Option Extent) → There o (λ e. 0 < e.size)
    → There o (λ e. (0 < e.size) × (access.Whole (extent_or_byte o).size (extent_or_byte o).align ≡ access.Whole e.size e.align))
whole_is None h = absurd h
whole_is (Some e) h = (h, refl)

pointer_is : (tags : List Tag) (c : Bool) (t : CType) → AccessIs tags (pointer c t) (access_of tags (pointer c t))
pointer_is tags c void = refl
pointer_is tags c (int kind) = refl
pointer_is tags c (enumeration tag) = refl
pointer_is tags c (pointer d t) = refl
pointer_is tags c (array d t count) = refl
pointer_is tags c (struct tag) = refl
pointer_is tags c (union tag) = refl
pointer_is tags c (function r ps v) = refl

access_is : (tags : List Tag) (t : CType) → IsNoArray t → IsSized tags t → AccessIs tags t (access_of tags t)
access_is tags void h k = absurd k
access_is tags (int kind) h k = refl
access_is tags (enumeration tag) h k = refl
access_is tags (pointer c t) h k = pointer_is tags c t
access_is tags (array c t count) h k = absurd h
access_is tags (struct tag) h k = whole_is (extent (extents tags) (struct tag)) k
access_is tags (union tag) h k = whole_is (extent (extents tags) (union tag)) k
access_is tags (function r ps v) h k = absurd k

abbrev decls : List Tag → List Qual → List Decl
decls tags qs = map (λ q. decl_of tags (qualified_of q)) qs

abbrev Sized : List Tag → Qualified → Type 0
Sized tags q = IsSized tags q.ty

objects_are : (tags : List Tag) (ps : Params) (qs : List Qual) → AreNoArrays ps → StartsWith ps (map qualified_of qs)
    → All (Sized tags) (map qualified_of qs) → ObjectsAre tags ps (decls tags qs)
objects_are tags ps [] u h k = tt
objects_are tags none (q ∷ qs) u h k = tt
objects_are tags (more c t ps) (q ∷ qs) u h k =
    let sized = subst (IsSized tags) h.1 (All-head (Sized tags) (qualified_of q) (map qualified_of qs) k) in (
      subst (λ (y : CType). AccessIs tags t (access_of tags y)) (sym h.1) (access_is tags t u.0 sized),
      objects_are tags ps qs u.1 h.2 (All-tail (Sized tags) (qualified_of q) (map qualified_of qs) k),
    )

-- a body that is a block

abbrev in_summary : Block → Summary
in_summary = fold-Block Summary (Summary × List ℕ) Summary Summary summary_step entry_summary start_summary block_summary

abbrev objects_in : Block → List Qualified
objects_in k = map qualified_of (out-Block k).objects

first_row : (k : Block) → (ds : List ℕ) × ((rest : List BlockRow)
    × ((in_summary k).blocks ≡ record { number = (out-Block k).number; objects = objects_in k; declares = ds } ∷ rest))
first_row k =
    let e = fold_out-Block Summary (Summary × List ℕ) Summary Summary summary_step entry_summary start_summary block_summary k in
    (_, (_, ap (λ (s : Summary). s.blocks) e))

summary_is : (k : Block) → summary (roll-Body (form.Block k)) ≡ in_summary k
summary_is k = fold-roll-Body Summary (Summary × List ℕ) Summary Summary summary_step entry_summary start_summary block_summary (form.Block k)

seen_is : (tags : List Tag) (k : Block) → stmt_of tags (roll-Body (form.Block k)) ≡ as_block (inner_of tags k)
seen_is tags k = fold-roll-Body Stmt Stmt Loop Inner view.body_step view.entry_step view.start_step (view.block_step tags) (form.Block k)

decls_are : (tags : List Tag) (k : Block) → (inner_of tags k).decls ≡ decls tags (out-Block k).objects
decls_are tags k =
    ap (λ (i : Inner). i.decls) (fold_out-Block Stmt Stmt Loop Inner view.body_step view.entry_step view.start_step (view.block_step tags) k)

begins : (tags : List Tag) (ps : Params) (k : Block) → AreNoArrays ps → lawful.BeginsWith ps (in_summary k).blocks
    → All (BlockIsLawful tags) (in_summary k).blocks → ObjectsAre tags ps (inner_of tags k).decls
begins tags ps k u h a =
    let row = first_row k in
    let first : BlockRow = record { number = (out-Block k).number; objects = objects_in k; declares = row.0 } in
    let starts = subst (λ (bs : List BlockRow). lawful.BeginsWith ps bs) row.1.1 h in
    let sized = (All-head (BlockIsLawful tags) first row.1.0 (subst (All (BlockIsLawful tags)) row.1.1 a)).objects in
    subst (ObjectsAre tags ps) (sym (decls_are tags k)) (objects_are tags ps (out-Block k).objects u starts sized)

module _ (p : Program) (f : Signature) (u : AreNoArrays f.params) where
  block_made : (k : Block) → BodyIsLawful p f (roll-Body (form.Block k)) → IsBodyOf p f (as_block (inner_of p.tags k))
  block_made k h = record {
    made = subst (IsMadeOf p f) (seen_is p.tags k) (body_made p f (roll-Body (form.Block k)) no_block h.full);
    begins = begins p.tags f.params k u (subst (λ (s : Summary). lawful.BeginsWith f.params s.blocks) (summary_is k) h.begins)
        (subst (λ (s : Summary). All (BlockIsLawful p.tags) s.blocks) (summary_is k) h.statements.blocks);
    fixed = h.not_variadic;
  }

  layer_made : (d : Body-F Body Entry ForStart Block) (s : Stmt) → BodyIsLawful p f (roll-Body d) → defined p.tags d ≡ Some s → IsBodyOf p f s
  layer_made (form.Block k) s h e = let same : as_block (inner_of p.tags k) ≡ s = cc in subst (IsBodyOf p f) same (block_made k h)
  layer_made (form.Simple t) s h e = absurd (cc)
  layer_made (form.If t a b) s h e = absurd (cc)
  layer_made (form.Switch t a) s h e = absurd (cc)
  layer_made (form.While t a) s h e = absurd (cc)
  layer_made (form.Do a t) s h e = absurd (cc)
  layer_made (form.For start test step a) s h e = absurd (cc)
  layer_made (form.Goto n) s h e = absurd (cc)
  layer_made form.Continue s h e = absurd (cc)
  layer_made form.Break s h e = absurd (cc)
  layer_made (form.Return t) s h e = absurd (cc)
  layer_made (form.Label n a) s h e = absurd (cc)
  layer_made (form.Case z a) s h e = absurd (cc)
  layer_made (form.Default a) s h e = absurd (cc)

  definition_made : (o : Option Body) (s : Stmt) → Where (BodyIsLawful p f) o → definition p.tags o ≡ Some s → IsBodyOf p f s
  definition_made None s h e = absurd (cc)
  definition_made (Some b) s h e = layer_made (out-Body b) s (subst (BodyIsLawful p f) (sym (roll-out-Body b)) h) e

function_made : (p : Program) (f : Function) → FunctionIsLawful p f → IsFunctionOf p (function_of p.tags f)
function_made p f h = record {
  signature = signature_of f.ty;
  ty = refl;
  usual = h.usual;
  body = λ s e. definition_made p (signature_of f.ty) h.usual.1 f.body s h.body e;
}

functions_made : (p : Program) (fs : List Function) (n : ℕ) (g : model.Function) → All (FunctionIsLawful p) fs
    → slice_get (map (function_of p.tags) fs) n ≡ Some g → IsFunctionOf p g
functions_made p [] n g h e = absurd (cc)
functions_made p (f ∷ fs) zero g h e =
    let same : function_of p.tags f ≡ g = cc in
    subst (IsFunctionOf p) same (function_made p f (All-head (FunctionIsLawful p) f fs h))
functions_made p (f ∷ fs) (suc n) g h e = functions_made p fs n g (All-tail (FunctionIsLawful p) f fs h) e

pub programs_made : WholeProgramsAreMade
programs_made p arguments world h run = record {
  functions = λ number fun e. functions_made p p.functions number fun h.functions
      (subst (λ (m : model.Program). slice_get m.functions number ≡ Some fun) run.program e);
  agree = λ f g e. (matches_tells false (type_by f) (type_by g)).0 (sym (run.agree (type_by f) (type_by g)) ∙ e);
  library = run.library;
}

pub wholes_fit : WholeProgramsFit
wholes_fit p arguments world h run = programs_fit p world (programs_made p arguments world h run)

-- what `main` is called with has no structure or union, and is no more than it takes

int_size : (o : Option ℕ) (z : ℤ) → HasSize o (values.Int z)
int_size None z = tt
int_size (Some n) z = tt

pointer_size : (o : Option ℕ) (a : ℕ) (x : Prov) → HasSize o (values.Ptr a x)
pointer_size None a x = tt
pointer_size (Some n) a x = tt

two_taken : (tags : List Tag) (world : World) (arguments : List (List ℕ)) (ps : Params) (b : Bool) → has_parameters ps ≡ b → lawful.HasArguments ps
    → AreTaken (laid_out tags) ps (passed_to b world arguments)
two_taken tags world arguments none b e h = absurd h
two_taken tags world arguments (more c t none) b e h = absurd h
two_taken tags world arguments (more c t (more d s none)) true e h = (int_size (laid_out tags t) _, (pointer_size (laid_out tags s) _ _, tt))
two_taken tags world arguments (more c t (more d s none)) false e h = tt
two_taken tags world arguments (more c t (more d s (more g r ps))) b e h = absurd h

taken : (tags : List Tag) (world : World) (arguments : List (List ℕ)) (f : Signature) → lawful.IsMainType f
    → AreTaken (laid_out tags) f.params (passed_to (has_parameters f.params) world arguments)
taken tags world arguments f (inl e) =
    subst (λ (ps : Params). AreTaken (laid_out tags) ps (passed_to (has_parameters ps) world arguments)) (sym (ap (λ (g : Signature). g.params) e)) tt
taken tags world arguments f (inr h) = two_taken tags world arguments f.params (has_parameters f.params) refl h.2

function_at : (p : Program) (fs : List Function) (n : ℕ) (g : model.Function) → slice_get (map (function_of p.tags) fs) n ≡ Some g
    → (f : Function) × ((slice_get fs n ≡ Some f) × (function_of p.tags f ≡ g))
function_at p [] n g e = absurd (cc)
function_at p (f ∷ fs) zero g e = (f, (refl, cc))
function_at p (f ∷ fs) (suc n) g e = function_at p fs n g e

main_taken : (p : Program) (arguments : List (List ℕ)) (world : World) → IsLawful p → IsRunOf p arguments world → (fun : model.Function)
    → slice_get world.program.functions world.program.main ≡ Some fun
    → AreTaken (laid_out p.tags) (parameters fun.ty) (main_values p world arguments)
main_taken p arguments world h run fun e =
    let at = function_at p p.functions p.main fun (subst (λ (m : model.Program). slice_get m.functions m.main ≡ Some fun) run.program e) in
    let f = at.0 in
    let type_is = subst (λ (o : Option Function). There o (λ g. lawful.IsMainType (signature_of g.ty))) at.1.0 h.main_type in
    let values_are = taken p.tags world arguments (signature_of f.ty) type_is in
    subst (λ (g : model.Function). AreTaken (laid_out p.tags) (parameters g.ty) (main_values p world arguments)) at.1.1
    (subst (λ (o : Option Function). AreTaken (laid_out p.tags) (signature_of f.ty).params (passed_to (has_parameters_in o) world arguments)) (sym at.1.0)
    values_are)

pub parameters_taken : WholeParametersFit
parameters_taken p arguments world h run =
    parameters_fit p world (main_values p world arguments) (programs_made p arguments world h run) (main_taken p arguments world h run)

pub runs_keep_sizes : LibraryGivesPlain → RunsKeepSizes
runs_keep_sizes plain p arguments rows number limits h =
    let world : World = world_of p arguments rows number limits in
    let run : IsRunOf p arguments world = record { program = refl; agree = λ a b. refl; library = plain rows } in
    (wholes_fit p arguments world h run, parameters_taken p arguments world h run)

pub runs_never_race : LibraryGivesPlain → RunsNeverRace
runs_never_race plain p arguments rows number limits h are input vs ps o comes d e x y race =
    let world : World = world_of p arguments rows number limits in
    let keeps : KeepsSizes world = (laid_out p.tags, (runs_keep_sizes plain p arguments rows number limits h).0) in
    let at = never_sized world input vs ps o keeps are comes d e x y race in
    (at.0, λ function root is usual never. at.1 p function root is usual never)
