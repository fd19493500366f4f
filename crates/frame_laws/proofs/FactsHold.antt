-- What is so of ordered frames.
use Rattle.std.proofs.Common.{arith, ◌≡◌, ℕ, suc, ◌+◌, ◌<◌, Bool, true, false, ◌⊎◌, inl, inr, List, [], ◌∷◌, ◌++◌, map, Option, Some, None, is_some}
use Rattle.std.proofs.Common.{if◌then◌else◌, nat_lt, ◌==◌, slice_get, refl, sym, ap, ◌∙◌, subst}
use Rattle.c_typed.specs.declared.tree.Place.{Place}
use Rattle.c_typed.specs.declared.tree.Slot.{Slot}
use Rattle.c_typed.specs.Tree.{size}
use Rattle.c_model.specs.Program.{Decl, Isolated, Expr, expr, Exprs, none, more, Stmt, Value, Empty, Declare, Block, If, If_only, Switch, tree_of}
use Rattle.c_model.specs.Program.{Do, For, Goto, Continue, Break, Return, Return_none, Label, Case, Default, Function}
use Rattle.c_model.specs.Control.{Todo, Enter, Leave, Unwrite, Begin, Nothing_to_do, Go_to, Go_out, Go_on, Go_back, To_do, Rest, Round}
use Rattle.c_model.specs.Control.{Again, Test, Break_here, Use, Unused, ready_work, work_after}
use Rattle.c_model.specs.OpenBlocks.{Closes, NoEntersBehind}
use Rattle.c_model.proofs.OpenKeeps.{ready_closes}
use Rattle.c_model.specs.Values as model
use Rattle.c_model.specs.Values.{truth, integer_of}
use Rattle.c_model.specs.World.{World}
use Rattle.c_model.specs.Steps.{Begun, Local, at_node, at_node_among, body_of, ends_with, settled}
use Rattle.frame_laws.specs.Scopes.{Objects, objects_in, names, names_of_all, head_names, AreLower, AreOpen, ExprFits, BodyFits, DeclareFits, IsAbove}
use Rattle.frame_laws.specs.Todos.{IsInside, EntersFirst, Runs}
use Rattle.frame_laws.specs.Frames.{IsScoped, open_blocks, IsOutermost, number_of, EntersInFront, BegunFits, IsFresh, IsInBody, IsOfFunction}
use Rattle.frame_laws.specs.Frames.{IsolatesAt, IsBeforeTree, IsInTree, IsOfInitializer, AreOrdered, function_round, or_else, objects_of_body, objects_round}
use Rattle.frame_laws.specs.Facts.{BlocksAreLeft, IsAtDeclaration, DeclaresInside, IsAtLeave, LeavesInnermost, IsAtEnter, EntersWithObjects}
use Rattle.frame_laws.specs.Facts.{IsInScope, BeginsInScope, StaysInScope, IsBehind, GoesOnBehind, AllWait, HeldWait}
use Rattle.frame_laws.specs.Facts.{HandsOn, is_begin, StepsInFunction, IsDefined, FunctionIsDefined}
use Rattle.frame_laws.proofs.Runs.{ready_runs, ready_first, runs_close}
use Rattle.frame_laws.proofs.Finds.{after_goes}
use Rattle.frame_laws.proofs.FrameKeeps.{inside_of, begun_or}

-- 1. Names of a part of an expression.

abbrev expr_or : Expr → Option Expr → Expr
expr_or x None = x
expr_or x (Some y) = y

module _ (objects : Objects) (around : List ℕ) where
  open_parts : (xs ys : List Slot) → AreOpen objects around (xs ++ ys) → AreOpen objects around xs × AreOpen objects around ys
  open_parts [] ys a = (tt, a)
  open_parts (x ∷ xs) ys a = let r = open_parts xs ys a.1 in ((a.0, r.0), r.1)

  abbrev Opens : Expr → Type 0
  Opens x = AreOpen objects around (names x)

  root_case : (b : Bool) (whole : Expr) (later : Option Expr) (x : Expr) → (if b then Some whole else later) ≡ Some x → Opens whole
      → (later ≡ Some x → Opens x) → Opens x
  root_case true whole later x q a f = subst Opens (ap (expr_or whole) q) a
  root_case false whole later x q a f = f q

  two_cases : (b : Bool) (o p : Option Expr) (x : Expr) → (if b then o else p) ≡ Some x → (o ≡ Some x → Opens x) → (p ≡ Some x → Opens x) → Opens x
  two_cases true o p x q f g = f q
  two_cases false o p x q f g = g q

  mutual
    node_open : (e : Expr) (k m : ℕ) (x : Expr) → at_node k e m ≡ Some x → Opens e → Opens x
    node_open (expr h ty line es) k m x q a =
        root_case (k == m) (expr h ty line es) (at_node_among (suc k) es m) x q a
        (λ r. node_open_among es (suc k) m x r (open_parts (head_names h) (names_of_all es) a).1)

    node_open_among : (es : Exprs) (k m : ℕ) (x : Expr) → at_node_among k es m ≡ Some x → AreOpen objects around (names_of_all es) → Opens x
    node_open_among none k m x q a = absurd (cc (q))
    node_open_among (more e es) k m x q a =
        two_cases (nat_lt m (k + size (tree_of e))) (at_node k e m) (at_node_among (k + size (tree_of e)) es m) x q
        (λ r. node_open e k m x r (open_parts (names e) (names_of_all es) a).0)
        (λ r. node_open_among es (k + size (tree_of e)) m x r (open_parts (names e) (names_of_all es) a).1)

-- 2. What is left to do.

-- inside some block something is
inside_left : (todo : Todo) (bs : List ℕ) → Closes todo bs → IsInside bs → todo ≡ [] → ⊥
inside_left [] bs c i e = let P : List ℕ → Type 0 = IsInside in subst P c i
inside_left (w ∷ rest) bs c i e = absurd (cc (e))

-- outside of all blocks nothing is left to do
none_outside : (objects : Objects) (rest : Todo) → Runs objects rest [] [] → rest ≡ []
none_outside objects [] r = refl
none_outside objects (Enter b ds ∷ rest) r = absurd r.0
none_outside objects (Leave b ds ∷ rest) r = absurd r
none_outside objects (Unwrite d ∷ rest) r = absurd r.0
none_outside objects (Begin e what ∷ rest) r = absurd r.0
none_outside objects (Nothing_to_do ∷ rest) r = absurd r.0
none_outside objects (Go_to k ∷ rest) r = absurd r.0
none_outside objects (Go_out ∷ rest) r = absurd r.0
none_outside objects (Go_on ∷ rest) r = absurd r.0
none_outside objects (Go_back ∷ rest) r = absurd r.0
none_outside objects (To_do s ∷ rest) r = absurd r.0
none_outside objects (Rest ss ∷ rest) r = absurd r.0
none_outside objects (Round test step s ∷ rest) r = absurd r.0
none_outside objects (Again e s ∷ rest) r = absurd r.0
none_outside objects (Test test step s ∷ rest) r = absurd r.0
none_outside objects (Break_here ∷ rest) r = absurd r.0

-- each open block has a higher number than those round it
abbrev Descends : List ℕ → Type 0
Descends [] = Unit {0}
Descends (o ∷ os) = IsAbove o os × Descends os

runs_descend : (objects : Objects) (todo : Todo) (around : List ℕ) → Runs objects todo around [] → Descends around
runs_descend objects [] around r = subst Descends (sym r) tt
runs_descend objects (Enter b ds ∷ rest) around r = (runs_descend objects rest (b ∷ around) r.2).1
runs_descend objects (Leave b ds ∷ rest) [] r = absurd r
runs_descend objects (Leave b ds ∷ rest) (o ∷ os) r = (subst (λ (n : ℕ). IsAbove n os) (sym r.0) r.1.above, runs_descend objects rest os r.2)
runs_descend objects (Unwrite d ∷ rest) around r = runs_descend objects rest around r.2
runs_descend objects (Begin e what ∷ rest) around r = runs_descend objects rest around r.2
runs_descend objects (Nothing_to_do ∷ rest) around r = runs_descend objects rest around r.2
runs_descend objects (Go_to k ∷ rest) around r = runs_descend objects rest around r.2
runs_descend objects (Go_out ∷ rest) around r = runs_descend objects rest around r.2
runs_descend objects (Go_on ∷ rest) around r = runs_descend objects rest around r.2
runs_descend objects (Go_back ∷ rest) around r = runs_descend objects rest around r.2
runs_descend objects (To_do s ∷ rest) around r = runs_descend objects rest around r.2
runs_descend objects (Rest ss ∷ rest) around r = runs_descend objects rest around r.2
runs_descend objects (Round test step s ∷ rest) around r = runs_descend objects rest around r.2
runs_descend objects (Again e s ∷ rest) around r = runs_descend objects rest around r.2
runs_descend objects (Test test step s ∷ rest) around r = runs_descend objects rest around r.2
runs_descend objects (Break_here ∷ rest) around r = runs_descend objects rest around r.2

next_above : (b o : ℕ) (os : List ℕ) → o < b → IsAbove o os → IsAbove b os
next_above b o [] l a = tt
next_above b o (q ∷ qs) l a = omega (arith, l, a)

lower_all : (b : ℕ) (around : List ℕ) → IsAbove b around → Descends around → AreLower b around
lower_all b [] a d = tt
lower_all b (o ∷ os) a d = (a, lower_all b os (next_above b o os a d.0) d.1)

ends_not : (world : World) (todo : Todo) → (todo ≡ [] → ⊥) → ends_with world todo ≡ false
ends_not world [] f = absurd (f refl)
ends_not world (w ∷ rest) f = refl

ends_none : (world : World) (todo : Todo) → ends_with world todo ≡ true → todo ≡ []
ends_none world [] e = refl
ends_none world (w ∷ rest) e = absurd (cc (e))

abbrev is_enter : Todo → Bool
is_enter (Enter b ds ∷ rest) = true
is_enter todo = false

-- the next control step of a body that isn't entered yet is its enter
fresh_ready : (body : Stmt) → BodyFits body → (b : ℕ) × (ds : List Decl) × (rest : Todo) × (ready_work (To_do body ∷ []) ≡ Enter b ds ∷ rest)
    × (objects_in body b ≡ Some ds)
fresh_ready (Block b ds ss) f = (b, ds, Rest _ ∷ Leave b ds ∷ [], refl, f.0.declares)
fresh_ready (Value x) f = absurd f
fresh_ready Empty f = absurd f
fresh_ready (Declare x) f = absurd f
fresh_ready (If x s t) f = absurd f
fresh_ready (If_only x s) f = absurd f
fresh_ready (Switch x s) f = absurd f
fresh_ready (Do s x) f = absurd f
fresh_ready (For x y z s) f = absurd f
fresh_ready (Goto l) f = absurd f
fresh_ready Continue f = absurd f
fresh_ready Break f = absurd f
fresh_ready (Return x) f = absurd f
fresh_ready Return_none f = absurd f
fresh_ready (Label l s) f = absurd f
fresh_ready (Case z s) f = absurd f
fresh_ready (Default s) f = absurd f

abbrev first_block : Todo → ℕ × List Decl → ℕ × List Decl
first_block (Enter b ds ∷ rest) other = (b, ds)
first_block todo other = other

module _ (world : World) where
  round_body : (f : Local) (hs : List (Local × Place)) (i : IsOfFunction world f) → body_of world (function_round f hs) ≡ Some i.body
  round_body f [] i = ap (body_of world) i.function ∙ i.defined
  round_body f (h ∷ hs) i = ap (λ o. body_of world (or_else o (function_round h.0 hs))) i.function ∙ i.defined

  abbrev has_function : Option ℕ → Bool
  has_function (Some n) = true
  has_function None = false

  function_there : (f : Local) → IsOfFunction world f → is_some f.function ≡ true
  function_there f i = ap is_some i.function

  -- which kind of frame it is, by what it has to do
  of_function : (f : Local) (hs : List (Local × Place)) → AreOrdered world f hs → ((below : Local) (at : Place) → IsOfInitializer f below at → ⊥)
      → IsOfFunction world f
  of_function f [] a never = a.0
  of_function f (h ∷ hs) a never = kind a.0
    where
      kind : (IsOfFunction world f ⊎ IsOfInitializer f h.0 h.1) → IsOfFunction world f
      kind (inl i) = i
      kind (inr i) = absurd (never h.0 h.1 i)

  -- an initializer's frame has just its full expression to do
  before_tree : (f : Local) (tree : Expr) → f.begun ≡ None → (IsBeforeTree tree f ⊎ IsInTree tree f) → ready_work f.todo ≡ Begin tree Unused ∷ []
  before_tree f tree e (inl b) = ap ready_work b.todo
  before_tree f tree e (inr b) = absurd (let h = b.begun in cc (e, h))

  in_tree : (f : Local) (tree : Expr) (e : Begun) → f.begun ≡ Some e → (IsBeforeTree tree f ⊎ IsInTree tree f)
      → (e.root ≡ tree) × (e.what ≡ Unused) × (f.todo ≡ [])
  in_tree f tree e is (inl b) = absurd (let h = b.begun in cc (is, h))
  in_tree f tree e is (inr b) =
      let same : e ≡ b.open_tree = ap (begun_or e) (sym is ∙ b.begun) in
      (ap (λ (x : Begun). x.root) same ∙ b.root, ap (λ (x : Begun). x.what) same ∙ b.what, b.todo)

  by_step : (f : Local) (hs : List (Local × Place)) → AreOrdered world f hs → f.begun ≡ None → is_begin (ready_work f.todo) ≡ false → IsOfFunction world f
  by_step f hs a e never =
      of_function f hs a (λ below at i. (let t = ap is_begin (before_tree f i.tree e i.stage) in cc (t, never)))

  -- 3. Each fact of a function's frame.

  left_closed : (body : Stmt) (f : Local) → (IsFresh body f ⊎ IsInBody body f) → Closes (ready_work f.todo) (open_blocks f)
  left_closed body f (inl fresh) =
      let P : Todo → Type 0 = λ t. Closes t (open_blocks f) in
      let e : open_blocks f ≡ [] = ap (λ (xs : List (ℕ × ℕ)). map (λ b. b.0) xs) fresh.blocks in
      ready_closes f.todo (open_blocks f) (subst P (sym fresh.todo) e)
  left_closed body f (inr b) = ready_closes f.todo (open_blocks f) (runs_close (objects_in body) f.todo (open_blocks f) b.rest)

  function_left : (f : Local) → IsOfFunction world f → Closes (ready_work f.todo) (open_blocks f)
  function_left f i = left_closed i.body f i.stage

  -- a control step that doesn't enter is one in a body that was entered
  record IsNext (f : Local) (hs : List (Local × Place)) (todo : Todo) : Type 0 where
    body : Stmt
    is : body_of world (function_round f hs) ≡ Some body
    outermost : IsOutermost (number_of body) (open_blocks f)
    rest : Runs (objects_in body) todo (open_blocks f) []
    enters : EntersFirst todo
    arguments : f.arguments ≡ []

  next_in : (f : Local) (hs : List (Local × Place)) (body : Stmt) (todo : Todo) → BodyFits body → body_of world (function_round f hs) ≡ Some body
      → f.begun ≡ None → ready_work f.todo ≡ todo → is_enter todo ≡ false → (IsFresh body f ⊎ IsInBody body f) → IsNext f hs todo
  next_in f hs body todo fits is e q never (inl fresh) =
      let r = fresh_ready body fits in
      let x : is_enter todo ≡ true = ap is_enter (sym q ∙ (ap ready_work fresh.todo ∙ r.3)) in
      absurd (cc (x, never))
  next_in f hs body todo fits is e q never (inr b) =
      let E : Option Begun → Type 0 = λ o. EntersInFront o f.todo in
      let R : Todo → Type 0 = λ t. Runs (objects_in body) t (open_blocks f) [] in
      let F : Todo → Type 0 = EntersFirst in
      record {
        body = body;
        is = is;
        outermost = b.outermost;
        rest = subst R q (ready_runs (objects_in body) f.todo (open_blocks f) [] b.rest);
        enters = subst F q (ready_first f.todo (subst E e b.enters));
        arguments = b.arguments;
      }

  next_of : IsScoped world → (f : Local) (hs : List (Local × Place)) (todo : Todo) → AreOrdered world f hs → f.begun ≡ None → ready_work f.todo ≡ todo
      → is_begin todo ≡ false → is_enter todo ≡ false → IsNext f hs todo
  next_of scoped f hs todo a e q never other =
      let i = by_step f hs a e (ap is_begin q ∙ never) in
      next_in f hs i.body todo (scoped i.number i.body i.defined) (round_body f hs i) e q other i.stage

  pub declares_inside : (f : Local) (hs : List (Local × Place)) (d : ℕ) (rest : Todo) → IsScoped world → AreOrdered world f hs → f.begun ≡ None
      → ready_work f.todo ≡ Unwrite d ∷ rest → IsAtDeclaration world f hs d
  declares_inside f hs d rest scoped a e q =
      let i = by_step f hs a e (ap is_begin q) in
      let n = next_of scoped f hs (Unwrite d ∷ rest) a e q refl refl in
      let B : Todo → Type 0 = NoEntersBehind in
      let D : Option Stmt → Type 0 = λ o. DeclareFits (objects_of_body o) (open_blocks f) d in
      record {
        function = function_there f i;
        closes = function_left f i;
        behind = subst B (sym q) n.enters;
        declared = subst D (sym n.is) n.rest.1;
      }

  leave_in : (objects : Objects) (b : ℕ) (ds : List Decl) (rest : Todo) (bs : List ℕ) → Runs objects (Leave b ds ∷ rest) bs []
      → (objects b ≡ Some ds) × (ends_with world (ready_work rest) ≡ true → bs ≡ b ∷ []) × (bs ≡ b ∷ [] → rest ≡ [])
  leave_in objects b ds rest [] r = absurd r
  leave_in objects b ds rest (o ∷ []) r = (r.1.declares, (λ e. ap (λ x. x ∷ []) r.0), λ e. none_outside objects rest r.2)
  leave_in objects b ds rest (o ∷ p ∷ os) r = (
    r.1.declares,
    (λ e. absurd (inside_left (ready_work rest) (p ∷ os) (ready_closes rest (p ∷ os) (runs_close objects rest (p ∷ os) r.2)) tt
        (ends_none world (ready_work rest) e))),
    λ e. absurd (cc (e)),
  )

  pub leaves_innermost : (f : Local) (hs : List (Local × Place)) (b : ℕ) (ds : List Decl) (rest : Todo) → IsScoped world → AreOrdered world f hs
      → f.begun ≡ None → ready_work f.todo ≡ Leave b ds ∷ rest → IsAtLeave world f hs b ds rest
  leaves_innermost f hs b ds rest scoped a e q =
      let i = by_step f hs a e (ap is_begin q) in
      let n = next_of scoped f hs (Leave b ds ∷ rest) a e q refl refl in
      let r = leave_in (objects_in n.body) b ds rest (open_blocks f) n.rest in
      record {
        function = function_there f i;
        closes = function_left f i;
        objects = ap (λ o. objects_of_body o b) n.is ∙ r.0;
        last = r.1;
        outermost = r.2;
      }

  enter_in : (f : Local) (body : Stmt) (b : ℕ) (ds : List Decl) (rest : Todo) → BodyFits body → ready_work f.todo ≡ Enter b ds ∷ rest
      → (IsFresh body f ⊎ IsInBody body f)
      → (objects_in body b ≡ Some ds) × ((f.scene.blocks ≡ []) ⊎ (f.arguments ≡ [])) × AreLower b (open_blocks f)
  enter_in f body b ds rest fits q (inl fresh) =
      let r = fresh_ready body fits in
      let same : (r.0, r.1) ≡ (b, ds) = ap (λ t. first_block t (b, ds)) (sym r.3 ∙ (ap ready_work (sym fresh.todo) ∙ q)) in
      let none : open_blocks f ≡ [] = ap (λ (xs : List (ℕ × ℕ)). map (λ c. c.0) xs) fresh.blocks in (
        ap (objects_in body) (ap (λ (x : ℕ × List Decl). x.0) (sym same)) ∙ (r.4 ∙ ap (λ (x : ℕ × List Decl). Some x.1) same),
        inl fresh.blocks,
        subst (AreLower b) (sym none) tt,
      )
  enter_in f body b ds rest fits q (inr i) =
      let R : Todo → Type 0 = λ t. Runs (objects_in body) t (open_blocks f) [] in
      let r : Runs (objects_in body) (Enter b ds ∷ rest) (open_blocks f) [] =
      subst R q (ready_runs (objects_in body) f.todo (open_blocks f) [] i.rest) in
      (r.1.declares, inr i.arguments, lower_all b (open_blocks f) r.1.above (runs_descend (objects_in body) f.todo (open_blocks f) i.rest))

  pub enters_with : (f : Local) (hs : List (Local × Place)) (b : ℕ) (ds : List Decl) (rest : Todo) → IsScoped world → AreOrdered world f hs
      → f.begun ≡ None → ready_work f.todo ≡ Enter b ds ∷ rest → IsAtEnter world f hs b ds
  enters_with f hs b ds rest scoped a e q =
      let i = by_step f hs a e (ap is_begin q) in
      let r = enter_in f i.body b ds rest (scoped i.number i.body i.defined) q i.stage in
      record { function = function_there f i; objects = ap (λ o. objects_of_body o b) (round_body f hs i) ∙ r.0; inside = r.2; arguments = r.1 }

  -- 4. Names.

  -- the full expression that is open in a function's frame
  body_scope : (f : Local) (body : Stmt) (e : Begun) → f.begun ≡ Some e → (IsFresh body f ⊎ IsInBody body f)
      → ExprFits (objects_in body) (open_blocks f) e.root × (f.arguments ≡ [])
  body_scope f body e is (inl fresh) = absurd (let h = fresh.begun in cc (is, h))
  body_scope f body e is (inr b) =
      let B : Option Begun → Type 0 = λ o. BegunFits (objects_in body) (open_blocks f) o in
      let r : BegunFits (objects_in body) (open_blocks f) (Some e) = subst B is b.begun in
      (r.0, b.arguments)

  function_scope : (f : Local) (hs : List (Local × Place)) (e : Begun) → f.begun ≡ Some e → IsOfFunction world f → IsInScope world f hs e.root
  function_scope f hs e is i =
      let r = body_scope f i.body e is i.stage in
      let E : Option Stmt → Type 0 = λ o. ExprFits (objects_of_body o) (open_blocks f) e.root in
      record { names = subst E (sym (round_body f hs i)) r.0; arguments = r.1 }

  isolated_names : (below : Local) (hs : List (Local × Place)) (k : ℕ) (tree : Expr) (o : Option Begun) → below.begun ≡ o → IsolatesAt o k tree
      → ((e : Begun) → below.begun ≡ Some e → IsInScope world below hs e.root) → ExprFits (objects_round world below hs) (open_blocks below) tree
  isolated_names below hs k tree None is n scope = absurd n
  isolated_names below hs k tree (Some e) is n scope =
      let o = objects_round world below hs in
      let bs = open_blocks below in
      let r = node_open o bs e.root 0 k (expr (Isolated tree) n.0 n.1 n.2) n.3 (scope e is).names in
      (open_parts o bs (names tree) (names_of_all n.2) r).0

  tree_names : (f : Local) (h : Local × Place) (hs : List (Local × Place)) (i : IsOfInitializer f h.0 h.1)
      → ((e : Begun) → h.0.begun ≡ Some e → IsInScope world h.0 hs e.root) → ExprFits (objects_round world f (h ∷ hs)) (open_blocks f) i.tree
  tree_names f h hs i scope =
      let B : List (ℕ × ℕ) → Type 0 = λ bs. ExprFits (objects_round world h.0 hs) (map (λ b. b.0) bs) i.tree in
      let F : Option ℕ → Type 0 = λ o. ExprFits (objects_of_body (body_of world (or_else o (function_round h.0 hs)))) (open_blocks f) i.tree in
      subst F (sym i.function) (subst B (sym i.blocks) (isolated_names h.0 hs h.1.node i.tree h.0.begun refl i.node scope))

  pub stays_in : (hs : List (Local × Place)) (f : Local) (e : Begun) → AreOrdered world f hs → f.begun ≡ Some e → IsInScope world f hs e.root
  stays_in [] f e a is = function_scope f [] e is a.0
  stays_in (h ∷ hs) f e a is = kind a.0 (λ x q. stays_in hs h.0 x a.2 q)
    where
      kind : (IsOfFunction world f ⊎ IsOfInitializer f h.0 h.1) → ((x : Begun) → h.0.begun ≡ Some x → IsInScope world h.0 hs x.root)
          → IsInScope world f (h ∷ hs) e.root
      kind (inl i) scope = function_scope f (h ∷ hs) e is i
      kind (inr i) scope =
          let E : Expr → Type 0 = λ x. ExprFits (objects_round world f (h ∷ hs)) (open_blocks f) x in
          record { names = subst E (sym (in_tree f i.tree e is i.stage).0) (tree_names f h hs i scope); arguments = i.arguments }

  begin_in : (f : Local) (hs : List (Local × Place)) (body : Stmt) (e : Expr) (what : Use) (rest : Todo) → BodyFits body
      → body_of world (function_round f hs) ≡ Some body → f.begun ≡ None → ready_work f.todo ≡ Begin e what ∷ rest → (IsFresh body f ⊎ IsInBody body f)
      → IsInScope world f hs e
  begin_in f hs body e what rest fits is shut q stage =
      let n = next_in f hs body (Begin e what ∷ rest) fits is shut q refl stage in
      let E : Option Stmt → Type 0 = λ o. ExprFits (objects_of_body o) (open_blocks f) e in
      record { names = subst E (sym n.is) n.rest.1.0; arguments = n.arguments }

  abbrev first_expr : Todo → Expr → Expr
  first_expr (Begin e what ∷ rest) other = e
  first_expr todo other = other

  pub begins_in : (hs : List (Local × Place)) (f : Local) (e : Expr) (what : Use) (rest : Todo) → IsScoped world → AreOrdered world f hs → f.begun ≡ None
      → ready_work f.todo ≡ Begin e what ∷ rest → IsInScope world f hs e
  begins_in [] f e what rest scoped a shut q =
      let i = a.0 in begin_in f [] i.body e what rest (scoped i.number i.body i.defined) (round_body f [] i) shut q i.stage
  begins_in (h ∷ hs) f e what rest scoped a shut q = kind a.0
    where
      kind : (IsOfFunction world f ⊎ IsOfInitializer f h.0 h.1) → IsInScope world f (h ∷ hs) e
      kind (inl i) = begin_in f (h ∷ hs) i.body e what rest (scoped i.number i.body i.defined) (round_body f (h ∷ hs) i) shut q i.stage
      kind (inr i) =
          let same : i.tree ≡ e = ap (λ t. first_expr t e) (sym (before_tree f i.tree shut i.stage) ∙ q) in
          let E : Expr → Type 0 = λ x. ExprFits (objects_round world f (h ∷ hs)) (open_blocks f) x in
          record { names = subst E same (tree_names f h hs i (λ x r. stays_in hs h.0 x a.2 r)); arguments = i.arguments }

  -- 5. What is left behind a full expression, and the frames that wait.

  body_behind : (f : Local) (body : Stmt) (e : Begun) (v : model.Value) → f.begun ≡ Some e → (IsFresh body f ⊎ IsInBody body f)
      → ends_with world (ready_work (settled world f v e.what).todo) ≡ false
  body_behind f body e v is (inl fresh) = absurd (let h = fresh.begun in cc (is, h))
  body_behind f body e v is (inr b) =
      let E : Option Begun → Type 0 = λ x. EntersInFront x f.todo in
      let B : Option Begun → Type 0 = λ x. BegunFits (objects_in body) (open_blocks f) x in
      let fits : BegunFits (objects_in body) (open_blocks f) (Some e) = subst B is b.begun in
      let inside = inside_of (number_of body) (open_blocks f) b.outermost in
      let g = after_goes (objects_in body) (truth v) (integer_of v) e.what f.todo (open_blocks f) [] inside fits.1 (subst E is b.enters) b.rest in
      let todo = work_after (truth v) (integer_of v) e.what f.todo in
      ends_not world (ready_work todo)
      (inside_left (ready_work todo) (open_blocks f) (ready_closes todo (open_blocks f) (runs_close (objects_in body) todo (open_blocks f) g.0)) inside)

  function_behind : (f : Local) (e : Begun) → f.begun ≡ Some e → IsOfFunction world f → IsBehind world f e f.function
  function_behind f e is i =
      let P : Option ℕ → Type 0 = IsBehind world f e in
      subst P (sym i.function) (λ v. body_behind f i.body e v is i.stage)

  pub goes_on_behind : (hs : List (Local × Place)) (f : Local) (e : Begun) → AreOrdered world f hs → f.begun ≡ Some e → IsBehind world f e f.function
  goes_on_behind [] f e a is = function_behind f e is a.0
  goes_on_behind (h ∷ hs) f e a is = kind a.0
    where
      kind : (IsOfFunction world f ⊎ IsOfInitializer f h.0 h.1) → IsBehind world f e f.function
      kind (inl i) = function_behind f e is i
      kind (inr i) =
          let P : Option ℕ → Type 0 = IsBehind world f e in
          let r = in_tree f i.tree e is i.stage in
          subst P (sym i.function) (r.1, r.2)

  waits_without : (f : Local) (hs : List (Local × Place)) (o : Option Begun) → f.begun ≡ o → is_some o ≡ true → AreOrdered world f hs → f.arguments ≡ []
  waits_without f hs None is e a = absurd (cc (e))
  waits_without f hs (Some b) is e a = (stays_in hs f b a is).arguments

  pub all_wait : (hs : List (Local × Place)) (f : Local) → AreOrdered world f hs → AllWait hs
  all_wait [] f a = tt
  all_wait (h ∷ hs) f a =
      (a.1.begun, a.1.body, waits_without h.0 hs h.0.begun refl a.1.begun a.2, all_wait hs h.0 a.2)

  -- a frame with a function is one of a function
  pub blocks_left : (f : Local) (hs : List (Local × Place)) → AreOrdered world f hs → is_some f.function ≡ true → Closes (ready_work f.todo) (open_blocks f)
  blocks_left f hs a is = function_left f (of_function f hs a (λ below at i. (let n = ap is_some i.function in cc (n, is))))

  pub steps_in : (f : Local) (hs : List (Local × Place)) → AreOrdered world f hs → f.begun ≡ None → is_begin (ready_work f.todo) ≡ false
      → is_some f.function ≡ true
  steps_in f hs a e q = function_there f (by_step f hs a e q)

  abbrev number_or : ℕ → Option ℕ → ℕ
  number_or n None = n
  number_or n (Some m) = m

  there_is : (n : ℕ) (o : Option Function) (body : Stmt) → slice_get world.program.functions n ≡ o → body_of world (Some n) ≡ Some body → BodyFits body
      → IsDefined world n
  there_is n None body e q fits = absurd (let x : body_of world (Some n) ≡ None = rw e in cc (x, q))
  there_is n (Some g) body e q fits =
      let x : body_of world (Some n) ≡ g.body = rw e in
      record { function = g; there = e; body = body; defines = sym x ∙ q; fits = fits }

  defined_in : (f : Local) (n : ℕ) → IsScoped world → f.function ≡ Some n → IsOfFunction world f → IsDefined world n
  defined_in f n scoped e i =
      let same : i.number ≡ n = ap (number_or n) (sym i.function ∙ e) in
      let D : ℕ → Type 0 = IsDefined world in
      subst D same (there_is i.number (slice_get world.program.functions i.number) i.body refl i.defined (scoped i.number i.body i.defined))

  pub is_defined : (f : Local) (hs : List (Local × Place)) (n : ℕ) → IsScoped world → AreOrdered world f hs → f.function ≡ Some n → IsDefined world n
  is_defined f hs n scoped a e =
      defined_in f n scoped e (of_function f hs a (λ below at i. (let x = i.function in cc (x, e))))

  stage_hands : (body : Stmt) (f : Local) → (IsFresh body f ⊎ IsInBody body f) → (f.scene.blocks ≡ []) ⊎ (f.arguments ≡ [])
  stage_hands body f (inl fresh) = inl fresh.blocks
  stage_hands body f (inr b) = inr b.arguments

  pub hands_on : (f : Local) (hs : List (Local × Place)) → AreOrdered world f hs → (f.scene.blocks ≡ []) ⊎ (f.arguments ≡ [])
  hands_on f [] a = let i = a.0 in stage_hands i.body f i.stage
  hands_on f (h ∷ hs) a = kind a.0
    where
      kind : (IsOfFunction world f ⊎ IsOfInitializer f h.0 h.1) → (f.scene.blocks ≡ []) ⊎ (f.arguments ≡ [])
      kind (inl i) = stage_hands i.body f i.stage
      kind (inr i) = inr i.arguments

pub blocks_are_left : BlocksAreLeft
blocks_are_left world f hs a is = blocks_left world f hs a is

pub declares_inside_blocks : DeclaresInside
declares_inside_blocks world f hs d rest scoped a e q = declares_inside world f hs d rest scoped a e q

pub leaves_innermost_block : LeavesInnermost
leaves_innermost_block world f hs b ds rest scoped a e q = leaves_innermost world f hs b ds rest scoped a e q

pub enters_with_objects : EntersWithObjects
enters_with_objects world f hs b ds rest scoped a e q = enters_with world f hs b ds rest scoped a e q

pub arguments_hand_on : HandsOn
arguments_hand_on world f hs a = hands_on world f hs a

pub begins_in_scope : BeginsInScope
begins_in_scope world f hs e what rest scoped a shut q = begins_in world hs f e what rest scoped a shut q

pub stays_in_scope : StaysInScope
stays_in_scope world f hs e a is = stays_in world hs f e a is

pub goes_behind : GoesOnBehind
goes_behind world f hs e a is = goes_on_behind world hs f e a is

pub held_wait : HeldWait
held_wait world f hs a = all_wait world hs f a

pub steps_in_function : StepsInFunction
steps_in_function world f hs a e q = steps_in world f hs a e q

pub function_is_defined : FunctionIsDefined
function_is_defined world f hs n scoped a e = is_defined world f hs n scoped a e
