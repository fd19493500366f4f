-- The laws of arguments.
use Rattle.std.proofs.Common.{◌≡◌, ◌⊎◌, inl, inr, ℕ, zero, suc, Bool, true, false, List, [], ◌∷◌, length, map, Option, Some, None, ℤ}
use Rattle.std.proofs.Common.{refl, sym, ap, ◌∙◌, subst}
use Rattle.std.specs.Prelude.{slice_get}
use Rattle.std.proofs.lemmas.List.{length-map}
use Rattle.std.proofs.lemmas.Option.{same_Some}
use Rattle.ub_base.specs.declared.names.ObjName.{ObjName}
use Rattle.addr_map.specs.Sound.{Apart}
use Rattle.exposure.specs.declared.prov.Prov.{Prov}
use Rattle.c_types.specs.declared.ty.FuncTy.{FuncTy, fold_out-FuncTy, out-FuncTy}
use Rattle.c_types.specs.Types.{CType, Params, Qualified, Signature, func_step, params_of, qual_step, qualified_of, signature_of, ty_step}
use Rattle.c_types.specs.Types as types
use Rattle.c_typed.specs.declared.program.Function.{Function}
use Rattle.c_typed.specs.declared.program.Program.{Program}
use Rattle.c_typed.specs.declared.tree.Place.{Place}
use Rattle.c_typed.specs.Lawful as lawful
use Rattle.c_typed.specs.Lawful.{FunctionIsLawful, IsLawful, IsMainType, There}
use Rattle.c_model.specs.Control.{Todo, Enter, opened, ready_work}
use Rattle.c_model.specs.Program as model
use Rattle.c_model.specs.Program.{Decl, Stmt}
use Rattle.c_model.specs.Runs.{Running, State, main_frame, start, work_of}
use Rattle.c_model.specs.Steps.{Local, body_of}
use Rattle.c_model.specs.Values as values
use Rattle.c_model.specs.Values.{Value, Whole}
use Rattle.c_model.specs.World.{World}
use Rattle.program_view.specs.Text.{TextIsKept}
use Rattle.program_view.specs.View.{function_of, has_parameters, has_parameters_in, main_values, model_of, passed_to}
use Rattle.static_laws.specs.LawfulSizes.{IsProgramOf, LawfulParametersFit, LawfulProgramsFit}
use Rattle.static_laws.specs.WholePrograms.{IsRunOf, WholeProgramsAreMade}
use Rattle.frame_laws.specs.Facts.{IsDefined}
use Rattle.frame_laws.specs.Frames.{AreOrdered, IsFresh, IsInBody, IsOfFunction, IsOfInitializer}
use Rattle.frame_laws.specs.Named.{LawfulIsScoped, MainIsDefined}
use Rattle.frame_laws.specs.Scopes.{BodyFits}
use Rattle.frame_laws.proofs.FactsHold.{function_is_defined}
use Rattle.frame_laws.proofs.StateKeeps.{starts_ordered}
use Rattle.value_facts.specs.Constants.{EachLeft, EachOf}
use Rattle.value_facts.specs.Held.{HoldsOnly}
use Rattle.value_facts.specs.Sources.{IsPlaced}
use Rattle.value_facts.proofs.Placed.{arguments_fit}
use Rattle.value_facts.proofs.Steps.{canonical_keeps, has_started, orders_keep}
use Rattle.value_laws.specs.Layouts.{laid_out}
use Rattle.value_laws.specs.Parameters.{parameters}
use Rattle.value_laws.specs.Sizes.{Gives, HasSize, IsPlain, Sizes}
use Rattle.value_laws.specs.Wholes.{LibraryGivesPlain}
use Rattle.value_laws.proofs.Arguments.{none_taken}
use Rattle.value_laws.proofs.Frames.{body_there}
use Rattle.value_laws.proofs.Orders.{OutcomeFits, start_fits}
use Rattle.argument_laws.specs.Arguments.{ArgumentsAreTaken, ArgumentsAreThere, CanonicalKeepsArguments, HaveArguments, IsReached, OrdersKeepArguments}
use Rattle.argument_laws.specs.Arguments.{RunsLawful, StartsWithArguments, StepsKeepArguments, at_start, behind}
use Rattle.argument_laws.specs.Taking.{TakesArgument}
use Rattle.argument_laws.proofs.Counts.{ExprCounts}
use Rattle.argument_laws.proofs.Frames.{HasItsOwn, HaveTheirOwn}
use Rattle.argument_laws.proofs.Given.{AreGiven}
use Rattle.argument_laws.proofs.Objects.{LiesApart}
use Rattle.argument_laws.proofs.States.{IsUsable, KeepsOwn, body_counts, step_keeps}
use Rattle.argument_laws.proofs.Taken.{body_takes, function_at, lawful_at}

-- the laws of other crates that these rest on
pub record Laws : Type 0 where
  pub text : TextIsKept
  pub scoped : LawfulIsScoped
  pub main : MainIsDefined
  pub made : WholeProgramsAreMade
  pub fits : LawfulProgramsFit
  pub takes : LawfulParametersFit
  pub plain : LibraryGivesPlain

pub laws_of : TextIsKept → LawfulIsScoped → MainIsDefined → WholeProgramsAreMade → LawfulProgramsFit → LawfulParametersFit → LibraryGivesPlain → Laws
laws_of text scoped main made fits takes plain =
    record { text = text; scoped = scoped; main = main; made = made; fits = fits; takes = takes; plain = plain }

-- ---- the start
pub starts_with_arguments : StartsWithArguments
starts_with_arguments world p input strings st r e = record { of_program = r; reached = at_start input strings st e }

pub steps_keep_arguments : StepsKeepArguments
steps_keep_arguments world p st after pick h e = record { of_program = h.of_program; reached = behind st after pick h.reached e }

pub orders_keep_arguments : OrdersKeepArguments
orders_keep_arguments world p st after ps h order =
    orders_keep world (HaveArguments world p) (λ a b q k e. steps_keep_arguments world p a b q k e) st after ps h order

pub canonical_keeps_arguments : CanonicalKeepsArguments
canonical_keeps_arguments world p n st after h e =
    canonical_keeps world (HaveArguments world p) (λ a b q k e. steps_keep_arguments world p a b q k e) n st after h e

-- ---- as many values as parameters
given_count : (size : Sizes) (qs : List Qualified) (vs : List Value) → AreGiven size (params_of qs) vs → length vs ≡ length qs
given_count size [] [] g = refl
given_count size [] (v ∷ vs) g = absurd g
given_count size (q ∷ qs) [] g = absurd g
given_count size (q ∷ qs) (v ∷ vs) g = ap suc (given_count size qs vs g.1)

parameters_count : (size : Sizes) (f : FuncTy) (vs : List Value) → AreGiven size (signature_of f).params vs → length vs ≡ length (out-FuncTy f).params
parameters_count size f vs g =
    let seen = fold_out-FuncTy CType Signature Qualified ty_step func_step qual_step f in
    given_count size (map qualified_of (out-FuncTy f).params) vs (subst (λ (s : Signature). AreGiven size s.params vs) seen g)
    ∙ length-map (out-FuncTy f).params qualified_of

-- ---- what `main` is called with
int_size : (o : Option ℕ) (z : ℤ) → HasSize o (values.Int z)
int_size None z = tt
int_size (Some n) z = tt

pointer_size : (o : Option ℕ) (a : ℕ) (x : Prov) → HasSize o (values.Ptr a x)
pointer_size None a x = tt
pointer_size (Some n) a x = tt

module _ (size : Sizes) (world : World) (strings : List (List ℕ)) where
  two_given : (ps : Params) (b : Bool) → has_parameters ps ≡ b → lawful.HasArguments ps → AreGiven size ps (passed_to b world strings)
  two_given types.none b e h = absurd h
  two_given (types.more c t types.none) b e h = absurd h
  two_given (types.more c t (types.more d s types.none)) true e h = (int_size (size t) _, (pointer_size (size s) _ _, tt))
  two_given (types.more c t (types.more d s types.none)) false e h = absurd (cc (e))
  two_given (types.more c t (types.more d s (types.more g r ps))) b e h = absurd h

  signature_given : (f : Signature) → IsMainType f → AreGiven size f.params (passed_to (has_parameters f.params) world strings)
  signature_given f (inl e) =
      subst (λ (ps : Params). AreGiven size ps (passed_to (has_parameters ps) world strings)) (sym (ap (λ (g : Signature). g.params) e)) tt
  signature_given f (inr h) = two_given f.params (has_parameters f.params) refl h.2

same_function : (f g : model.Function) → Some f ≡ Some g → f ≡ g
same_function f g e = cc (e)

module _ (laws : Laws) (world : World) (p : Program) (r : RunsLawful world p) where
  abbrev size : Sizes
  size = laid_out p.tags

  -- ---- the program
  abbrev with_program : World
  with_program = record world { program = model_of p [] }

  is_run : IsRunOf p [] with_program
  is_run = record {
    program = refl;
    agree = λ a b. ap (λ (g : CType → CType → Bool). g a b) r.agree;
    library = λ f who ts vs. subst (λ g. Gives world.rows IsPlain (g f who ts vs))
        (sym r.library) (laws.plain world.rows f who ts vs);
  }

  made : IsProgramOf p world
  made =
      let m = laws.made p [] with_program r.lawful is_run in
      record {
        functions = λ number fun e. m.functions number fun (subst (λ (fs : List model.Function). slice_get fs number ≡ Some fun) r.functions e);
        agree = m.agree;
        library = m.library;
      }

  usable : IsUsable p world
  usable = record {
    made = made;
    fits = laws.fits p world made;
    takes = laws.takes p world [] made (λ fun e. none_taken size (parameters fun.ty));
    scoped = laws.scoped p world r.lawful r.functions;
  }

  -- the typed function of one of the model's
  of_number : (n : ℕ) (fun : model.Function) → slice_get world.program.functions n ≡ Some fun
      → (f : Function) × (slice_get p.functions n ≡ Some f) × (function_of p.tags f ≡ fun)
  of_number n fun e = function_at p p.functions n fun (subst (λ (fs : List model.Function). slice_get fs n ≡ Some fun) r.functions e)

  main_given : (strings : List (List ℕ)) (fun : model.Function) → slice_get world.program.functions world.program.main ≡ Some fun
      → AreGiven size (parameters fun.ty) (main_values p world strings)
  main_given strings fun e =
      let at = of_number world.program.main fun e in
      let here : slice_get p.functions p.main ≡ Some at.0 = ap (slice_get p.functions) (sym r.main) ∙ at.1 in
      let type_is = subst (λ (o : Option Function). There o (λ g. IsMainType (signature_of g.ty))) here r.lawful.main_type in
      subst (λ (g : model.Function). AreGiven size (parameters g.ty) (main_values p world strings)) at.2
      (subst (λ (o : Option Function). AreGiven size (signature_of at.0.ty).params (passed_to (has_parameters_in o) world strings)) (sym here)
      (signature_given size world strings (signature_of at.0.ty) type_is))

  work_counts : (o : Option Stmt) → ((s : Stmt) → o ≡ Some s → EachOf ExprCounts s) → EachLeft ExprCounts (work_of world o)
  work_counts None g = tt
  work_counts (Some s) g = (g s refl, tt)

  main_own : (strings : List (List ℕ)) → HasItsOwn size world (main_frame world (main_values p world strings))
  main_own strings = record {
    todo = work_counts (body_of world (Some world.program.main)) (body_counts p world usable (Some world.program.main));
    begun = λ e q. absurd (cc (q));
    given = λ n fun shut is at.
        let same : world.program.main ≡ n = cc (is) in
        main_given strings fun (ap (slice_get world.program.functions) same ∙ at);
  }

  starts_own : (input : List ℕ) (strings : List (List ℕ)) (st : State) → start world input (main_values p world strings) ≡ Running st
      → KeepsOwn p world usable st
  starts_own input strings st e =
      let g = has_started world input (main_values p world strings) st e in
      record {
        fits = subst (OutcomeFits size world) e (start_fits size world usable.fits input (main_values p world strings));
        ordered = starts_ordered world input (main_values p world strings) st usable.scoped
            (laws.main p world r.functions r.main r.main_block) e;
        top = subst (λ (z : State). HasItsOwn size world z.top) g.state (main_own strings);
        held = subst (λ (z : State). HaveTheirOwn size world z.held) g.state tt;
      }

  reached_own : (st : State) → IsReached world p st → KeepsOwn p world usable st
  reached_own _ (at_start input strings st e) = starts_own input strings st e
  reached_own _ (behind st after pick h e) = step_keeps p world usable st after pick (reached_own st h) e

  -- ---- the count
  count_so : (st : State) (n : ℕ) (f : Function) → IsReached world p st → st.top.scene.blocks ≡ [] → st.top.function ≡ Some n
      → slice_get p.functions n ≡ Some f → length st.top.arguments ≡ length (out-FuncTy f.ty).params
  count_so st n f h shut is at =
      let own = (reached_own st h).top in
      let there : slice_get world.program.functions n ≡ Some (function_of p.tags f) =
      subst (λ (fs : List model.Function). slice_get fs n ≡ Some (function_of p.tags f)) (sym r.functions) (seen_at p.functions n f at) in
      parameters_count size f.ty st.top.arguments (own.given n (function_of p.tags f) shut is there)
    where
      seen_at : (fs : List Function) (n : ℕ) (f : Function) → slice_get fs n ≡ Some f
          → slice_get (map (function_of p.tags) fs) n ≡ Some (function_of p.tags f)
      seen_at [] n f e = absurd (cc (e))
      seen_at (g ∷ fs) zero f e = (let same : g ≡ f = cc (e) in ap (λ (z : Function). Some (function_of p.tags z)) same)
      seen_at (g ∷ fs) (suc n) f e = seen_at fs n f e

  -- ---- where a block is entered
  none_there : (vs : List Value) (k : ℕ) (v : Value) → vs ≡ [] → slice_get vs k ≡ Some v → ⊥
  none_there [] k v h q = cc (q)
  none_there (y ∷ vs) k v h q = cc (h)

  lies_apart : (st : State) (x : ObjName) → HoldsOnly (IsPlaced world) st → Apart world.rows → (k : ℕ) (v : Value) → slice_get st.top.arguments k ≡ Some v
      → LiesApart p.tags world.rows x v
  lies_apart st x placed apart k (Whole bs source) is = λ row at exact. arguments_fit world st k bs source x row apart placed is at exact
  lies_apart st x placed apart k (values.Int z) is = tt
  lies_apart st x placed apart k (values.Ptr a q) is = tt
  lies_apart st x placed apart k (values.Fun a) is = tt
  lies_apart st x placed apart k values.Missing is = tt
  lies_apart st x placed apart k values.Nothing is = tt

  -- the body is a block, whose objects are these
  block_is : (s : Stmt) (b : ℕ) (ds : List Decl) (rest : Todo) → BodyFits s → opened s [] ≡ Enter b ds ∷ rest → (ss : model.Stmts) × (s ≡ model.Block b ds ss)
  block_is (model.Block n es ss) b ds rest fits e = (ss, cc (e))
  block_is (model.Value x) b ds rest fits e = absurd fits
  block_is model.Empty b ds rest fits e = absurd fits
  block_is (model.Declare x) b ds rest fits e = absurd fits
  block_is (model.If x s t) b ds rest fits e = absurd fits
  block_is (model.If_only x s) b ds rest fits e = absurd fits
  block_is (model.Switch x s) b ds rest fits e = absurd fits
  block_is (model.Do s x) b ds rest fits e = absurd fits
  block_is (model.For x y z s) b ds rest fits e = absurd fits
  block_is (model.Goto l) b ds rest fits e = absurd fits
  block_is model.Continue b ds rest fits e = absurd fits
  block_is model.Break b ds rest fits e = absurd fits
  block_is (model.Return x) b ds rest fits e = absurd fits
  block_is model.Return_none b ds rest fits e = absurd fits
  block_is (model.Label l s) b ds rest fits e = absurd fits
  block_is (model.Case z s) b ds rest fits e = absurd fits
  block_is (model.Default s) b ds rest fits e = absurd fits

  module _ (st : State) (h : IsReached world p st) (placed : HoldsOnly (IsPlaced world) st) (apart : Apart world.rows) (b : ℕ) (ds : List Decl)
      (rest : Todo) (next : ready_work st.top.todo ≡ Enter b ds ∷ rest) (k : ℕ) (d : Decl) (v : Value) (x : ObjName) (at : slice_get ds k ≡ Some d)
      (is : slice_get st.top.arguments k ≡ Some v) where
    fresh_takes : (n : ℕ) → st.top.function ≡ Some n → (body : Stmt) → IsFresh body st.top → body_of world (Some n) ≡ Some body
        → TakesArgument world.rows x d v
    fresh_takes n function body fresh defined =
        let keeps = reached_own st h in
        let it : IsDefined world n = function_is_defined world st.top st.held n usable.scoped keeps.ordered function in
        let same : it.body ≡ body = same_Some it.body body (sym it.defines ∙ (sym (body_there world n it.function it.there) ∙ defined)) in
        let block = block_is body b ds rest (subst BodyFits same it.fits) (sym (ap ready_work fresh.todo) ∙ next) in
        let of = of_number n it.function it.there in
        let given = subst (λ (g : model.Function). AreGiven size (parameters g.ty) st.top.arguments) (sym of.2)
        (keeps.top.given n it.function fresh.blocks function it.there) in
        let body_is = ap (λ (g : model.Function). g.body) of.2 ∙ (it.defines ∙ ap Some (same ∙ block.1)) in
        let law = lawful_at p p.functions n of.0 of.1 r.lawful.functions in
        body_takes laws.text p world.rows x of.0 b ds block.0 st.top.arguments law body_is given k d v at is (lies_apart st x placed apart k v is)

    function_takes : IsOfFunction world st.top → TakesArgument world.rows x d v
    function_takes f = go f.stage
      where
        go : IsFresh f.body st.top ⊎ IsInBody f.body st.top → TakesArgument world.rows x d v
        go (inl fresh) = fresh_takes f.number f.function f.body fresh f.defined
        go (inr inside) = absurd (none_there st.top.arguments k v inside.arguments is)

    takes_so : (hs : List (Local × Place)) → AreOrdered world st.top hs → TakesArgument world.rows x d v
    takes_so [] o = function_takes o.0
    takes_so (below ∷ hs) o = go o.0
      where
        go : IsOfFunction world st.top ⊎ IsOfInitializer st.top below.0 below.1 → TakesArgument world.rows x d v
        go (inl f) = function_takes f
        go (inr i) = absurd (none_there st.top.arguments k v i.arguments is)

pub arguments_are_there : Laws → ArgumentsAreThere
arguments_are_there laws world p st n f h shut is at = count_so laws world p h.of_program st n f h.reached shut is at

pub arguments_are_taken : Laws → ArgumentsAreTaken
arguments_are_taken laws world p st b ds rest h placed apart next k d v x at is =
    takes_so laws world p h.of_program st h.reached placed apart b ds rest next k d v x at is st.held
    (reached_own laws world p h.of_program st h.reached).ordered
