-- What a pick does in the frame of a function, and in that of an isolated initializer.
use Rattle.std.proofs.Common.{◌≡◌, ℕ, Bool, true, false, ◌==◌, ◌⊎◌, inl, inr, List, [], ◌∷◌, map, Option, Some, None, if◌then◌else◌}
use Rattle.std.proofs.Common.{refl, sym, ap, ◌∙◌, subst, arith}
use Rattle.c_typed.specs.declared.tree.Place.{Place}
use Rattle.c_model.specs.Program.{Decl, Expr, Stmt, Value, Empty, Declare, Block, If, If_only, Switch, Do, For, Goto, Continue, Break}
use Rattle.c_model.specs.Program.{Return, Return_none, Label, Case, Default}
use Rattle.c_model.specs.Control.{Todo, Enter, Leave, Unwrite, Begin, Nothing_to_do, Go_to, Go_out, Go_on, Go_back, To_do, Rest, Round}
use Rattle.c_model.specs.Control.{Again, Test, Break_here, Unused, ready_work, out_of, on_with, leaves, to_label, find, gone_to, work_after}
use Rattle.c_model.specs.OpenBlocks.{NoEnters}
use Rattle.c_model.specs.Moves.{Move, Stay, End}
use Rattle.c_model.specs.Values as model
use Rattle.c_model.specs.Values.{truth, integer_of}
use Rattle.c_model.specs.World.{World}
use Rattle.c_model.specs.Steps.{Begun, Local, begin, with_given, without_block, ends_with, control_move, settled}
use Rattle.c_model.specs.Steps.{body_of, found_label, control_next}
use Rattle.frame_laws.specs.Scopes.{Objects, objects_in, BodyFits}
use Rattle.frame_laws.specs.Todos.{IsInside, EntersFirst, Runs}
use Rattle.frame_laws.specs.Frames.{IsScoped, open_blocks, IsOutermost, number_of, EntersInFront, BegunFits, IsFresh, IsInBody, IsOfFunction}
use Rattle.frame_laws.specs.Frames.{IsBeforeTree, IsInTree, IsOfInitializer}
use Rattle.frame_laws.proofs.Runs.{ready_runs, ready_first, out_runs, on_runs, leaves_run, none_first, out_enters, on_enters, leaves_enter}
use Rattle.frame_laws.proofs.Finds.{after_goes, gone_goes}

-- 1. A body by its parts.

pub in_body : (body : Stmt) (g : Local) (bs : List ℕ) (todo : Todo) (o : Option Begun) → open_blocks g ≡ bs → g.todo ≡ todo → g.begun ≡ o
    → g.arguments ≡ [] → IsOutermost (number_of body) bs → Runs (objects_in body) todo bs [] → EntersInFront o todo
    → BegunFits (objects_in body) bs o → IsInBody body g
in_body body g bs todo o b t e a outer runs enters fits =
    let O : List ℕ → Type 0 = IsOutermost (number_of body) in
    let R : List ℕ → Type 0 = λ xs. Runs (objects_in body) g.todo xs [] in
    let S : Todo → Type 0 = λ ws. Runs (objects_in body) ws bs [] in
    let E : Todo → Type 0 = λ ws. EntersInFront g.begun ws in
    let F : Option Begun → Type 0 = λ x. EntersInFront x todo in
    let G : List ℕ → Type 0 = λ xs. BegunFits (objects_in body) xs g.begun in
    let H : Option Begun → Type 0 = λ x. BegunFits (objects_in body) bs x in
    record {
      outermost = subst O (sym b) outer;
      rest = subst R (sym b) (subst S (sym t) runs);
      enters = subst E (sym t) (subst F (sym e) enters);
      begun = subst G (sym b) (subst H (sym e) fits);
      arguments = a;
    }

-- 2. The blocks that are open.

pushed : (own b : ℕ) (xs : List ℕ) → IsOutermost own xs → IsOutermost own (b ∷ xs)
pushed own b [] o = absurd o
pushed own b (x ∷ xs) o = o

pub inside_of : (own : ℕ) (xs : List ℕ) → IsOutermost own xs → IsInside xs
inside_of own [] o = o
inside_of own (x ∷ xs) o = tt

abbrev first_in : List ℕ → ℕ
first_in [] = 0
first_in (x ∷ xs) = x

abbrev rest_in : List ℕ → List ℕ
rest_in [] = []
rest_in (x ∷ xs) = xs

popped : (bs : List (ℕ × ℕ)) (b : ℕ) (o : ℕ) (os : List ℕ) → map (λ c. c.0) bs ≡ o ∷ os → o ≡ b → map (λ c. c.0) (without_block bs b) ≡ os
popped [] b o os e h = absurd (cc (e))
popped (c ∷ cs) b o os e h = go (c.0 == b) refl
  where
    go : (t : Bool) → (c.0 == b) ≡ t → map (λ d. d.0) (if t then cs else c ∷ without_block cs b) ≡ os
    go true q = ap rest_in e
    go false q = absurd (let f = ap first_in e in grind (arith, q, f, h))

-- outside of all blocks nothing is left to do
nothing_outside : (world : World) (objects : Objects) (rest : Todo) → Runs objects rest [] [] → ends_with world (ready_work rest) ≡ true
nothing_outside world objects [] r = refl
nothing_outside world objects (Enter b ds ∷ rest) r = absurd r.0
nothing_outside world objects (Leave b ds ∷ rest) r = absurd r
nothing_outside world objects (Unwrite d ∷ rest) r = absurd r.0
nothing_outside world objects (Begin e what ∷ rest) r = absurd r.0
nothing_outside world objects (Nothing_to_do ∷ rest) r = absurd r.0
nothing_outside world objects (Go_to k ∷ rest) r = absurd r.0
nothing_outside world objects (Go_out ∷ rest) r = absurd r.0
nothing_outside world objects (Go_on ∷ rest) r = absurd r.0
nothing_outside world objects (Go_back ∷ rest) r = absurd r.0
nothing_outside world objects (To_do s ∷ rest) r = absurd r.0
nothing_outside world objects (Rest ss ∷ rest) r = absurd r.0
nothing_outside world objects (Round test step s ∷ rest) r = absurd r.0
nothing_outside world objects (Again e s ∷ rest) r = absurd r.0
nothing_outside world objects (Test test step s ∷ rest) r = absurd r.0
nothing_outside world objects (Break_here ∷ rest) r = absurd r.0

abbrev pub begun_or : Begun → Option Begun → Begun
begun_or x None = x
begun_or x (Some y) = y

-- 3. A control step in a function's frame.

module _ (world : World) where
  -- what a control step is asked in the body of a function
  record Steps (body : Stmt) (f : Local) (todo : Todo) : Type 0 where
    defined : body_of world f.function ≡ Some body
    fits : BodyFits body
    begun : f.begun ≡ None
    outermost : IsOutermost (number_of body) (open_blocks f)
    rest : Runs (objects_in body) todo (open_blocks f) []
    enters : EntersFirst todo
    arguments : f.arguments ≡ []

  goes_on : (body : Stmt) (f g : Local) (rest : Todo) → g ≡ record f { todo = rest } → f.begun ≡ None → f.arguments ≡ []
      → IsOutermost (number_of body) (open_blocks f) → Runs (objects_in body) rest (open_blocks f) [] → EntersFirst rest → IsInBody body g
  goes_on body f g rest is b a o r n =
      let P : Local → Type 0 = IsInBody body in
      subst P (sym is) (in_body body (record f { todo = rest }) (open_blocks f) rest None refl refl b a o r n tt)

  goes_to : (body : Stmt) (f : Local) (k : ℕ) (rest : Todo) → body_of world f.function ≡ Some body → BodyFits body → f.begun ≡ None → f.arguments ≡ []
      → IsOutermost (number_of body) (open_blocks f) → NoEnters rest → Runs (objects_in body) rest (open_blocks f) []
      → IsInBody body (record f { todo = gone_to rest (found_label world k (body_of world f.function)) })
  goes_to (Block b ds ss) f k rest d fits e a o n r =
      let m = gone_goes (objects_in (Block b ds ss)) (to_label k) b ds ss rest (open_blocks f) o n r fits in
      let P : Option Stmt → Type 0 = λ x. IsInBody (Block b ds ss) (record f { todo = gone_to rest (found_label world k x) }) in
      subst P (sym d) (goes_on (Block b ds ss) f (record f { todo = gone_to rest (find (to_label k) (Block b ds ss)) })
      (gone_to rest (find (to_label k) (Block b ds ss))) refl e a o m.0 m.1)
  goes_to (Value x) f k rest d fits e a o n r = absurd fits
  goes_to Empty f k rest d fits e a o n r = absurd fits
  goes_to (Declare x) f k rest d fits e a o n r = absurd fits
  goes_to (If x s t) f k rest d fits e a o n r = absurd fits
  goes_to (If_only x s) f k rest d fits e a o n r = absurd fits
  goes_to (Switch x s) f k rest d fits e a o n r = absurd fits
  goes_to (Do s x) f k rest d fits e a o n r = absurd fits
  goes_to (For x y z s) f k rest d fits e a o n r = absurd fits
  goes_to (Goto l) f k rest d fits e a o n r = absurd fits
  goes_to Continue f k rest d fits e a o n r = absurd fits
  goes_to Break f k rest d fits e a o n r = absurd fits
  goes_to (Return x) f k rest d fits e a o n r = absurd fits
  goes_to Return_none f k rest d fits e a o n r = absurd fits
  goes_to (Label l s) f k rest d fits e a o n r = absurd fits
  goes_to (Case z s) f k rest d fits e a o n r = absurd fits
  goes_to (Default s) f k rest d fits e a o n r = absurd fits

  -- a block is left that isn't the outermost one
  left_to : (body : Stmt) (f : Local) (b : ℕ) (rest : Todo) (o : ℕ) (os : List ℕ) → open_blocks f ≡ o ∷ os → f.begun ≡ None → f.arguments ≡ []
      → IsOutermost (number_of body) (o ∷ os) → o ≡ b → Runs (objects_in body) rest os [] → EntersFirst rest → ends_with world (ready_work rest) ≡ false
      → IsInBody body (record f { scene = record f.scene { blocks = without_block f.scene.blocks b }; todo = rest })
  left_to body f b rest o [] is e a out h r n not_last =
      absurd (let l = nothing_outside world (objects_in body) rest r in cc (l, not_last))
  left_to body f b rest o (p ∷ os) is e a out h r n not_last =
      in_body body (record f { scene = record f.scene { blocks = without_block f.scene.blocks b }; todo = rest }) (p ∷ os) rest None
      (popped f.scene.blocks b o (p ∷ os) is h) refl e a out r n tt

  not_end : (b : Bool) → (if◌then◌else◌ {A = Move Local} b End Stay) ≡ Stay → b ≡ false
  not_end true e = absurd (cc (e))
  not_end false e = refl

  leave_case : (body : Stmt) (f : Local) (b : ℕ) (ds : List Decl) (rest : Todo) (bs : List ℕ) → open_blocks f ≡ bs → f.begun ≡ None → f.arguments ≡ []
      → IsOutermost (number_of body) bs → Runs (objects_in body) (Leave b ds ∷ rest) bs [] → EntersFirst rest → ends_with world (ready_work rest) ≡ false
      → IsInBody body (record f { scene = record f.scene { blocks = without_block f.scene.blocks b }; todo = rest })
  leave_case body f b ds rest [] is e a out r n not_last = absurd r
  leave_case body f b ds rest (o ∷ os) is e a out r n not_last = left_to body f b rest o os is e a out r.0 r.2 n not_last

  steps_in_body : (body : Stmt) (f : Local) (todo : Todo) → Steps body f todo → control_move world todo ≡ Stay → IsInBody body (control_next world f todo)
  steps_in_body body f [] q m =
      let e : open_blocks f ≡ [] = q.rest in
      let P : List ℕ → Type 0 = IsOutermost (number_of body) in
      absurd (subst P e q.outermost)
  steps_in_body body f (Enter b ds ∷ rest) q m =
      in_body body (control_next world f (Enter b ds ∷ rest)) (b ∷ open_blocks f) rest None refl refl q.begun refl
      (pushed (number_of body) b (open_blocks f) q.outermost) q.rest.2 q.enters tt
  steps_in_body body f (Leave b ds ∷ rest) q m =
      leave_case body f b ds rest (open_blocks f) refl q.begun q.arguments q.outermost q.rest q.enters (not_end (ends_with world (ready_work rest)) m)
  steps_in_body body f (Begin e what ∷ rest) q m =
      in_body body (begin f e what rest) (open_blocks f) rest (Some (record { root = e; given = λ u. None; what = what })) refl refl refl q.arguments
      q.outermost q.rest.2 q.enters q.rest.1
  steps_in_body body f (Go_to k ∷ rest) q m = goes_to body f k rest q.defined q.fits q.begun q.arguments q.outermost q.enters q.rest.2
  steps_in_body body f (Go_out ∷ rest) q m =
      goes_on body f (record f { todo = out_of rest }) (out_of rest) refl q.begun q.arguments q.outermost
      (out_runs (objects_in body) rest (open_blocks f) [] q.enters q.rest.2) (none_first (out_of rest) (out_enters rest q.enters))
  steps_in_body body f (Go_on ∷ rest) q m =
      goes_on body f (record f { todo = on_with rest }) (on_with rest) refl q.begun q.arguments q.outermost
      (on_runs (objects_in body) rest (open_blocks f) [] q.enters q.rest.2) (none_first (on_with rest) (on_enters rest q.enters))
  steps_in_body body f (Go_back ∷ rest) q m =
      goes_on body f (record f { todo = leaves rest }) (leaves rest) refl q.begun q.arguments q.outermost
      (leaves_run (objects_in body) rest (open_blocks f) [] q.enters q.rest.2) (none_first (leaves rest) (leaves_enter rest))
  steps_in_body body f (Unwrite d ∷ rest) q m =
      goes_on body f (record f { todo = rest }) rest refl q.begun q.arguments q.outermost q.rest.2 (none_first rest q.enters)
  steps_in_body body f (Nothing_to_do ∷ rest) q m =
      goes_on body f (record f { todo = rest }) rest refl q.begun q.arguments q.outermost q.rest.2 (none_first rest q.enters)
  steps_in_body body f (To_do s ∷ rest) q m =
      goes_on body f (record f { todo = rest }) rest refl q.begun q.arguments q.outermost q.rest.2 (none_first rest q.enters)
  steps_in_body body f (Rest ss ∷ rest) q m =
      goes_on body f (record f { todo = rest }) rest refl q.begun q.arguments q.outermost q.rest.2 (none_first rest q.enters)
  steps_in_body body f (Round test step s ∷ rest) q m =
      goes_on body f (record f { todo = rest }) rest refl q.begun q.arguments q.outermost q.rest.2 (none_first rest q.enters)
  steps_in_body body f (Again e s ∷ rest) q m =
      goes_on body f (record f { todo = rest }) rest refl q.begun q.arguments q.outermost q.rest.2 (none_first rest q.enters)
  steps_in_body body f (Test test step s ∷ rest) q m =
      goes_on body f (record f { todo = rest }) rest refl q.begun q.arguments q.outermost q.rest.2 (none_first rest q.enters)
  steps_in_body body f (Break_here ∷ rest) q m =
      goes_on body f (record f { todo = rest }) rest refl q.begun q.arguments q.outermost q.rest.2 (none_first rest q.enters)

  -- the body's block is entered
  enters_body : (body : Stmt) (f : Local) → BodyFits body → IsFresh body f → IsInBody body (control_next world f (ready_work (To_do body ∷ [])))
  enters_body (Block b ds ss) f fits fresh =
      let e : b ∷ open_blocks f ≡ b ∷ [] = ap (λ (xs : List (ℕ × ℕ)). b ∷ map (λ c. c.0) xs) fresh.blocks in
      in_body (Block b ds ss) (control_next world f (ready_work (To_do (Block b ds ss) ∷ []))) (b ∷ []) (Rest ss ∷ Leave b ds ∷ []) None e refl fresh.begun refl
      refl (tt, fits.1, (refl, fits.0, refl)) tt tt
  enters_body (Value x) f fits fresh = absurd fits
  enters_body Empty f fits fresh = absurd fits
  enters_body (Declare x) f fits fresh = absurd fits
  enters_body (If x s t) f fits fresh = absurd fits
  enters_body (If_only x s) f fits fresh = absurd fits
  enters_body (Switch x s) f fits fresh = absurd fits
  enters_body (Do s x) f fits fresh = absurd fits
  enters_body (For x y z s) f fits fresh = absurd fits
  enters_body (Goto l) f fits fresh = absurd fits
  enters_body Continue f fits fresh = absurd fits
  enters_body Break f fits fresh = absurd fits
  enters_body (Return x) f fits fresh = absurd fits
  enters_body Return_none f fits fresh = absurd fits
  enters_body (Label l s) f fits fresh = absurd fits
  enters_body (Case z s) f fits fresh = absurd fits
  enters_body (Default s) f fits fresh = absurd fits

  -- what a control step leaves as it was
  pub next_function : (f : Local) (todo : Todo) → (control_next world f todo).function ≡ f.function
  next_function f [] = refl
  next_function f (Enter b ds ∷ rest) = refl
  next_function f (Leave b ds ∷ rest) = refl
  next_function f (Unwrite d ∷ rest) = refl
  next_function f (Begin e what ∷ rest) = refl
  next_function f (Nothing_to_do ∷ rest) = refl
  next_function f (Go_to k ∷ rest) = refl
  next_function f (Go_out ∷ rest) = refl
  next_function f (Go_on ∷ rest) = refl
  next_function f (Go_back ∷ rest) = refl
  next_function f (To_do s ∷ rest) = refl
  next_function f (Rest ss ∷ rest) = refl
  next_function f (Round test step s ∷ rest) = refl
  next_function f (Again e s ∷ rest) = refl
  next_function f (Test test step s ∷ rest) = refl
  next_function f (Break_here ∷ rest) = refl

  pub next_path : (f : Local) (todo : Todo) → (control_next world f todo).scene.path ≡ f.scene.path
  next_path f [] = refl
  next_path f (Enter b ds ∷ rest) = refl
  next_path f (Leave b ds ∷ rest) = refl
  next_path f (Unwrite d ∷ rest) = refl
  next_path f (Begin e what ∷ rest) = refl
  next_path f (Nothing_to_do ∷ rest) = refl
  next_path f (Go_to k ∷ rest) = refl
  next_path f (Go_out ∷ rest) = refl
  next_path f (Go_on ∷ rest) = refl
  next_path f (Go_back ∷ rest) = refl
  next_path f (To_do s ∷ rest) = refl
  next_path f (Rest ss ∷ rest) = refl
  next_path f (Round test step s ∷ rest) = refl
  next_path f (Again e s ∷ rest) = refl
  next_path f (Test test step s ∷ rest) = refl
  next_path f (Break_here ∷ rest) = refl

  next_home : (f : Local) (todo : Todo) → (control_next world f todo).scene.home ≡ f.scene.home
  next_home f [] = refl
  next_home f (Enter b ds ∷ rest) = refl
  next_home f (Leave b ds ∷ rest) = refl
  next_home f (Unwrite d ∷ rest) = refl
  next_home f (Begin e what ∷ rest) = refl
  next_home f (Nothing_to_do ∷ rest) = refl
  next_home f (Go_to k ∷ rest) = refl
  next_home f (Go_out ∷ rest) = refl
  next_home f (Go_on ∷ rest) = refl
  next_home f (Go_back ∷ rest) = refl
  next_home f (To_do s ∷ rest) = refl
  next_home f (Rest ss ∷ rest) = refl
  next_home f (Round test step s ∷ rest) = refl
  next_home f (Again e s ∷ rest) = refl
  next_home f (Test test step s ∷ rest) = refl
  next_home f (Break_here ∷ rest) = refl

  next_stage : (body : Stmt) (f : Local) → body_of world f.function ≡ Some body → BodyFits body → f.begun ≡ None
      → control_move world (ready_work f.todo) ≡ Stay → (IsFresh body f ⊎ IsInBody body f) → IsInBody body (control_next world f (ready_work f.todo))
  next_stage body f d fits e m (inl fresh) =
      let P : Todo → Type 0 = λ t. IsInBody body (control_next world f (ready_work t)) in
      subst P (sym fresh.todo) (enters_body body f fits fresh)
  next_stage body f d fits e m (inr b) =
      let E : Option Begun → Type 0 = λ x. EntersInFront x f.todo in
      steps_in_body body f (ready_work f.todo) (record {
        defined = d;
        fits = fits;
        begun = e;
        outermost = b.outermost;
        rest = ready_runs (objects_in body) f.todo (open_blocks f) [] b.rest;
        enters = ready_first f.todo (subst E e b.enters);
        arguments = b.arguments;
      }) m

  pub function_steps : IsScoped world → (f : Local) → IsOfFunction world f → f.begun ≡ None → control_move world (ready_work f.todo) ≡ Stay
      → IsOfFunction world (control_next world f (ready_work f.todo))
  function_steps scoped f i e m = record {
    number = i.number;
    function = next_function f (ready_work f.todo) ∙ i.function;
    body = i.body;
    defined = i.defined;
    home = next_home f (ready_work f.todo) ∙ (i.home ∙ sym (next_path f (ready_work f.todo)));
    stage = inr (next_stage i.body f (ap (body_of world) i.function ∙ i.defined) (scoped i.number i.body i.defined) e m i.stage);
  }

  -- 4. A full expression is settled, and its events.

  settled_stage : (body : Stmt) (f : Local) (e : Begun) (v : model.Value) → f.begun ≡ Some e → (IsFresh body f ⊎ IsInBody body f)
      → IsInBody body (settled world f v e.what)
  settled_stage body f e v is (inl fresh) = absurd (let b = fresh.begun in cc (is, b))
  settled_stage body f e v is (inr b) =
      let E : Option Begun → Type 0 = λ x. EntersInFront x f.todo in
      let B : Option Begun → Type 0 = λ x. BegunFits (objects_in body) (open_blocks f) x in
      let fits : BegunFits (objects_in body) (open_blocks f) (Some e) = subst B is b.begun in
      let g = after_goes (objects_in body) (truth v) (integer_of v) e.what f.todo (open_blocks f) [] (inside_of (number_of body) (open_blocks f) b.outermost)
      fits.1 (subst E is b.enters) b.rest in
      in_body body (settled world f v e.what) (open_blocks f) (work_after (truth v) (integer_of v) e.what f.todo) None refl refl refl b.arguments b.outermost
      g.0 g.1 tt

  pub function_settles : (f : Local) (e : Begun) (v : model.Value) → f.begun ≡ Some e → IsOfFunction world f → IsOfFunction world (settled world f v e.what)
  function_settles f e v is i = record {
    number = i.number;
    function = i.function;
    body = i.body;
    defined = i.defined;
    home = i.home;
    stage = inr (settled_stage i.body f e v is i.stage);
  }

  given_stage : (body : Stmt) (f : Local) (e : Begun) (u : Place) (v : model.Value) → f.begun ≡ Some e → (IsFresh body f ⊎ IsInBody body f)
      → IsInBody body (record f { begun = Some (with_given e u v) })
  given_stage body f e u v is (inl fresh) = absurd (let b = fresh.begun in cc (is, b))
  given_stage body f e u v is (inr b) =
      let E : Option Begun → Type 0 = λ x. EntersInFront x f.todo in
      let B : Option Begun → Type 0 = λ x. BegunFits (objects_in body) (open_blocks f) x in
      let fits : BegunFits (objects_in body) (open_blocks f) (Some e) = subst B is b.begun in
      in_body body (record f { begun = Some (with_given e u v) }) (open_blocks f) f.todo (Some (with_given e u v)) refl refl refl b.arguments b.outermost b.rest
      (subst E is b.enters) fits

  pub function_given : (f : Local) (e : Begun) (u : Place) (v : model.Value) → f.begun ≡ Some e → IsOfFunction world f
      → IsOfFunction world (record f { begun = Some (with_given e u v) })
  function_given f e u v is i = record {
    number = i.number;
    function = i.function;
    body = i.body;
    defined = i.defined;
    home = i.home;
    stage = inr (given_stage i.body f e u v is i.stage);
  }

  -- 5. The frame of an initializer.

  begins_tree : (tree : Expr) (f : Local) → f.begun ≡ None → (IsBeforeTree tree f ⊎ IsInTree tree f)
      → control_next world f (ready_work f.todo) ≡ begin f tree Unused []
  begins_tree tree f e (inl b) = ap (λ t. control_next world f (ready_work t)) b.todo
  begins_tree tree f e (inr b) = absurd (let h = b.begun in cc (e, h))

  pub initializer_steps : (f below : Local) (at : Place) → IsOfInitializer f below at → f.begun ≡ None
      → IsOfInitializer (control_next world f (ready_work f.todo)) below at
  initializer_steps f below at i e =
      let P : Local → Type 0 = λ g. IsOfInitializer g below at in
      subst P (sym (begins_tree i.tree f e i.stage)) (record {
        function = i.function;
        home = i.home;
        blocks = i.blocks;
        arguments = i.arguments;
        tree = i.tree;
        node = i.node;
        stage = inr (record {
          todo = refl;
          open_tree = record { root = i.tree; given = λ u. None; what = Unused };
          begun = refl;
          root = refl;
          what = refl;
        });
      })

  given_tree : (tree : Expr) (f : Local) (e : Begun) (u : Place) (v : model.Value) → f.begun ≡ Some e → (IsBeforeTree tree f ⊎ IsInTree tree f)
      → IsInTree tree (record f { begun = Some (with_given e u v) })
  given_tree tree f e u v is (inl b) = absurd (let h = b.begun in cc (is, h))
  given_tree tree f e u v is (inr b) =
      let same : e ≡ b.open_tree = ap (begun_or e) (sym is ∙ b.begun) in
      record {
        todo = b.todo;
        open_tree = with_given e u v;
        begun = refl;
        root = ap (λ (x : Begun). x.root) same ∙ b.root;
        what = ap (λ (x : Begun). x.what) same ∙ b.what;
      }

  pub initializer_given : (f below : Local) (at : Place) (e : Begun) (u : Place) (v : model.Value) → f.begun ≡ Some e → IsOfInitializer f below at
      → IsOfInitializer (record f { begun = Some (with_given e u v) }) below at
  initializer_given f below at e u v is i = record {
    function = i.function;
    home = i.home;
    blocks = i.blocks;
    arguments = i.arguments;
    tree = i.tree;
    node = i.node;
    stage = inr (given_tree i.tree f e u v is i.stage);
  }

  -- it ends as it settles
  pub tree_ends : (f : Local) (tree : Expr) (e : Begun) → f.begun ≡ Some e → (IsBeforeTree tree f ⊎ IsInTree tree f) → f.todo ≡ []
  tree_ends f tree e is (inl b) = absurd (let h = b.begun in cc (is, h))
  tree_ends f tree e is (inr b) = b.todo
