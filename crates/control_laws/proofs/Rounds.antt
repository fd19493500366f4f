-- The blocks that are open in a frame are blocks of the body of its function.
use Rattle.std.proofs.Common.{◌≡◌, ℕ, ◌⊎◌, inl, inr, List, [], ◌∷◌, map, Option, Some, None, sym, ap, subst, ◌∙◌}
use Rattle.c_typed.specs.declared.tree.Place.{Place}
use Rattle.c_model.specs.Program.{Decl, Expr, Stmt}
use Rattle.c_model.specs.Control.{Todo, Enter, Leave, Unwrite, Begin, Nothing_to_do, Go_to, Go_out, Go_on, Go_back, To_do, Rest, Round}
use Rattle.c_model.specs.Control.{Again, Test, Break_here, ready_work}
use Rattle.c_model.specs.OpenBlocks.{Closes}
use Rattle.c_model.proofs.OpenKeeps.{ready_closes}
use Rattle.c_model.specs.Steps.{Local, body_of}
use Rattle.c_model.specs.World.{World}
use Rattle.frame_laws.specs.Scopes.{Objects, objects_in}
use Rattle.frame_laws.specs.Todos.{Runs}
use Rattle.frame_laws.specs.Frames.{open_blocks, IsBeforeTree, IsFresh, IsInBody, IsInTree, IsOfFunction, IsOfInitializer, IsOutermost, AreOrdered}
use Rattle.frame_laws.specs.Frames.{function_round, number_of, or_else}
use Rattle.frame_laws.specs.Frames.{objects_of_body, objects_round}
use Rattle.frame_laws.proofs.Runs.{runs_close}
use Rattle.control_laws.proofs.Firsts.{StepFirst, opened_first, ready_step}

-- each of these blocks is there, with its objects
abbrev pub HasBlock : Objects → ℕ → Type 0
HasBlock objects b = (ds : List Decl) × (objects b ≡ Some ds)

abbrev pub AllHave : Objects → List ℕ → Type 0
AllHave objects [] = Unit {0}
AllHave objects (b ∷ bs) = HasBlock objects b × AllHave objects bs

runs_have : (objects : Objects) (todo : Todo) (around : List ℕ) → Runs objects todo around [] → AllHave objects around
runs_have objects [] around r = subst (AllHave objects) (sym r) tt
runs_have objects (Enter b ds ∷ rest) around r = (runs_have objects rest (b ∷ around) r.2).1
runs_have objects (Leave b ds ∷ rest) [] r = absurd r
runs_have objects (Leave b ds ∷ rest) (o ∷ os) r = ((ds, ap objects r.0 ∙ r.1.declares), runs_have objects rest os r.2)
runs_have objects (Unwrite d ∷ rest) around r = runs_have objects rest around r.2
runs_have objects (Begin e what ∷ rest) around r = runs_have objects rest around r.2
runs_have objects (Nothing_to_do ∷ rest) around r = runs_have objects rest around r.2
runs_have objects (Go_to k ∷ rest) around r = runs_have objects rest around r.2
runs_have objects (Go_out ∷ rest) around r = runs_have objects rest around r.2
runs_have objects (Go_on ∷ rest) around r = runs_have objects rest around r.2
runs_have objects (Go_back ∷ rest) around r = runs_have objects rest around r.2
runs_have objects (To_do s ∷ rest) around r = runs_have objects rest around r.2
runs_have objects (Rest ss ∷ rest) around r = runs_have objects rest around r.2
runs_have objects (Round test step s ∷ rest) around r = runs_have objects rest around r.2
runs_have objects (Again e s ∷ rest) around r = runs_have objects rest around r.2
runs_have objects (Test test step s ∷ rest) around r = runs_have objects rest around r.2
runs_have objects (Break_here ∷ rest) around r = runs_have objects rest around r.2

module _ (world : World) where
  pub round_body : (f : Local) (hs : List (Local × Place)) (i : IsOfFunction world f) → body_of world (function_round f hs) ≡ Some i.body
  round_body f [] i = ap (body_of world) i.function ∙ i.defined
  round_body f (h ∷ hs) i = ap (λ o. body_of world (or_else o (function_round h.0 hs))) i.function ∙ i.defined

  stage_have : (f : Local) (body : Stmt) → (IsFresh body f ⊎ IsInBody body f) → AllHave (objects_in body) (open_blocks f)
  stage_have f body (inl fresh) =
      let none : open_blocks f ≡ [] = ap (λ (xs : List (ℕ × ℕ)). map (λ b. b.0) xs) fresh.blocks in
      subst (AllHave (objects_in body)) (sym none) tt
  stage_have f body (inr i) = runs_have (objects_in body) f.todo (open_blocks f) i.rest

  function_have : (f : Local) (hs : List (Local × Place)) → IsOfFunction world f → AllHave (objects_round world f hs) (open_blocks f)
  function_have f hs i =
      let P : Option Stmt → Type 0 = λ o. AllHave (objects_of_body o) (open_blocks f) in
      subst P (sym (round_body f hs i)) (stage_have f i.body i.stage)

  pub open_have : (hs : List (Local × Place)) (f : Local) → AreOrdered world f hs → AllHave (objects_round world f hs) (open_blocks f)
  open_have [] f a = function_have f [] a.0
  open_have (h ∷ hs) f a = kind a.0 (open_have hs h.0 a.2)
    where
      kind : (IsOfFunction world f ⊎ IsOfInitializer f h.0 h.1) → AllHave (objects_round world h.0 hs) (open_blocks h.0)
          → AllHave (objects_round world f (h ∷ hs)) (open_blocks f)
      kind (inl i) below = function_have f (h ∷ hs) i
      kind (inr i) below =
          let B : List (ℕ × ℕ) → Type 0 = λ bs. AllHave (objects_round world h.0 hs) (map (λ b. b.0) bs) in
          let F : Option ℕ → Type 0 = λ o. AllHave (objects_of_body (body_of world (or_else o (function_round h.0 hs)))) (open_blocks f) in
          subst F (sym i.function) (subst B (sym i.blocks) below)

  -- where no full expression is open, a control step comes next
  outermost_left : (own : ℕ) (todo : Todo) (bs : List ℕ) → IsOutermost own bs → Closes todo bs → todo ≡ [] → ⊥
  outermost_left own todo [] i c e = i
  outermost_left own [] (b ∷ bs) i c e = absurd (cc (c))
  outermost_left own (w ∷ rest) (b ∷ bs) i c e = absurd (cc (e))

  stage_left : (f : Local) (body : Stmt) → (IsFresh body f ⊎ IsInBody body f) → ready_work f.todo ≡ [] → ⊥
  stage_left f body (inl fresh) e = subst StepFirst (sym (ap ready_work fresh.todo) ∙ e) (opened_first body [])
  stage_left f body (inr i) e =
      outermost_left (number_of body) (ready_work f.todo) (open_blocks f) i.outermost
      (ready_closes f.todo (open_blocks f) (runs_close (objects_in body) f.todo (open_blocks f) i.rest)) e

  tree_left : (f : Local) (tree : Expr) → f.begun ≡ None → (IsBeforeTree tree f ⊎ IsInTree tree f) → ready_work f.todo ≡ [] → ⊥
  tree_left f tree shut (inl b) e = absurd (let t = ap ready_work b.todo in cc (t, e))
  tree_left f tree shut (inr b) e = absurd (let h = b.begun in cc (shut, h))

  pub step_left : (f : Local) (hs : List (Local × Place)) → AreOrdered world f hs → f.begun ≡ None → StepFirst (ready_work f.todo)
  step_left f hs a shut = go (ready_step f.todo)
    where
      none : (hs' : List (Local × Place)) → AreOrdered world f hs' → ready_work f.todo ≡ [] → ⊥
      none [] b e = stage_left f b.0.body b.0.stage e
      none (h ∷ hs') b e = kind b.0
        where
          kind : (IsOfFunction world f ⊎ IsOfInitializer f h.0 h.1) → ⊥
          kind (inl i) = stage_left f i.body i.stage e
          kind (inr i) = tree_left f i.tree shut i.stage e

      go : (ready_work f.todo ≡ []) ⊎ StepFirst (ready_work f.todo) → StepFirst (ready_work f.todo)
      go (inl e) = absurd (none hs a e)
      go (inr s) = s
