-- What picks do to a frame that has its arguments.
use Rattle.std.proofs.Common.{◌≡◌, ℕ, Bool, true, false, ◌==◌, if◌then◌else◌, List, [], ◌∷◌, map, Option, Some, None, refl, ap, ◌∙◌, subst}
use Rattle.std.specs.Prelude.{slice_get}
use Rattle.c_typed.specs.declared.tree.Place.{Place}
use Rattle.c_model.specs.Control.{Todo, Begin, Enter, Leave, Unwrite, Nothing_to_do, Go_to, Go_out, Go_on, Go_back, To_do, Rest, Round, Again, Test}
use Rattle.c_model.specs.Control.{Break_here, ready_work, to_label}
use Rattle.c_model.specs.Moves.{Move, Stay, End}
use Rattle.c_model.specs.OpenBlocks.{Closes}
use Rattle.c_model.specs.Program.{Decl, Function, Stmt}
use Rattle.c_model.specs.Steps.{Begun, Local, body_of, control_move, control_next, found_label, root_value, settled, with_given, without_block}
use Rattle.c_model.specs.Values.{Value, integer_of, truth}
use Rattle.c_model.specs.World.{World}
use Rattle.frame_laws.specs.Facts.{IsAtLeave}
use Rattle.frame_laws.specs.Frames.{AreOrdered, IsScoped}
use Rattle.frame_laws.proofs.FactsHold.{leaves_innermost_block}
use Rattle.value_facts.specs.Constants.{EachBehind, EachLeft, EachOf}
use Rattle.value_facts.proofs.Works.{FoundFits, after_fits, finds_fit, gone_fits, leaves_fit, on_fits, out_fits, ready_fits}
use Rattle.value_laws.specs.Parameters.{parameters}
use Rattle.value_laws.specs.Sizes.{Sizes}
use Rattle.argument_laws.proofs.Counts.{ExprCounts}
use Rattle.argument_laws.proofs.Given.{AreGiven}

same_begun : (b c : Begun) → Some b ≡ Some c → b ≡ c
same_begun b c h = cc (h)

-- ---- a block that is left while the frame goes on is not the last one that is open
leaves_none : (b : ℕ) (ds : List Decl) (rest : Todo) (bs : List (ℕ × ℕ)) → Closes (Leave b ds ∷ rest) (map (λ o. o.0) bs)
    → (map (λ (o : ℕ × ℕ). o.0) bs ≡ b ∷ [] → rest ≡ []) → without_block bs b ≡ [] → rest ≡ []
leaves_none b ds rest [] closes outermost none = absurd closes
leaves_none b ds rest (o ∷ os) closes outermost none = go (o.0 == b) none
  where
    both : os ≡ [] → o.0 ≡ b → map (λ (x : ℕ × ℕ). x.0) (o ∷ os) ≡ b ∷ []
    both e same = ap (λ (xs : List (ℕ × ℕ)). o.0 ∷ map (λ (x : ℕ × ℕ). x.0) xs) e ∙ ap (λ (n : ℕ). n ∷ []) same

    go : (c : Bool) → (if c then os else o ∷ without_block os b) ≡ [] → rest ≡ []
    go true e = outermost (both e closes.0)
    go false e = absurd (cc (e))

ends_not : (world : World) (b : ℕ) (ds : List Decl) (rest : Todo) → control_move world (Leave b ds ∷ rest) ≡ Stay → rest ≡ [] → ⊥
ends_not world b ds rest stays none = no_end (control_move world (Leave b ds ∷ rest)) (ap (λ (r : Todo). control_move world (Leave b ds ∷ r)) none) stays
  where
    no_end : (m : Move Local) → m ≡ End → m ≡ Stay → ⊥
    no_end m a e = cc (a, e)

module _ (size : Sizes) (world : World) where
  -- while no block of a function's frame is open yet, it has an argument for each parameter
  abbrev pub IsGiven : Local → Type 0
  IsGiven f = (n : ℕ) (fun : Function) → f.scene.blocks ≡ [] → f.function ≡ Some n → slice_get world.program.functions n ≡ Some fun
      → AreGiven size (parameters fun.ty) f.arguments

  -- a frame: calls in its full expressions pass as many arguments as they should, and it has its own
  pub record HasItsOwn (f : Local) : Type 0 where
    pub todo : EachLeft ExprCounts f.todo
    pub begun : (e : Begun) → f.begun ≡ Some e → ExprCounts e.root × EachBehind ExprCounts e.what
    pub given : IsGiven f

  abbrev pub HaveTheirOwn : List (Local × Place) → Type 0
  HaveTheirOwn [] = Unit {0}
  HaveTheirOwn (h ∷ hs) = HasItsOwn h.0 × HaveTheirOwn hs

  -- ---- a control step
  module _ (f : Local) (h : HasItsOwn f) (body : (s : Stmt) → body_of world f.function ≡ Some s → EachOf ExprCounts s) where
    label_counts : (k : ℕ) (o : Option Stmt) → ((s : Stmt) → o ≡ Some s → EachOf ExprCounts s) → FoundFits ExprCounts (found_label world k o)
    label_counts k None g = tt
    label_counts k (Some s) g = finds_fit ExprCounts (to_label k) s (g s refl)

    with_todo : (todo : Todo) → EachLeft ExprCounts todo → HasItsOwn (record f { todo = todo })
    with_todo todo t = record { todo = t; begun = h.begun; given = h.given }

    -- what is left behind a leave
    abbrev StaysOpen : Todo → Type 0
    StaysOpen (Leave b ds ∷ rest) = without_block f.scene.blocks b ≡ [] → ⊥
    StaysOpen todo = Unit {0}

    pub behind_own : (todo : Todo) → EachLeft ExprCounts todo → StaysOpen todo → HasItsOwn (control_next world f todo)
    behind_own [] t o = h
    behind_own (Enter b ds ∷ rest) t o = record { todo = t.1; begun = h.begun; given = λ n fun e q r. absurd (cc (e)) }
    behind_own (Leave b ds ∷ rest) t o = record { todo = t.1; begun = h.begun; given = λ n fun e q r. absurd (o e) }
    behind_own (Begin e what ∷ rest) t o = record {
      todo = t.1;
      begun = λ b q. subst (λ (z : Begun). ExprCounts z.root × EachBehind ExprCounts z.what)
          (same_begun (record { root = e; given = λ u. None; what = what }) b q) (t.0.0, t.0.1);
      given = h.given;
    }
    behind_own (Go_to k ∷ rest) t o =
        with_todo _ (gone_fits ExprCounts rest (found_label world k (body_of world f.function)) t.1 (label_counts k (body_of world f.function) body))
    behind_own (Go_out ∷ rest) t o = with_todo _ (out_fits ExprCounts rest t.1)
    behind_own (Go_on ∷ rest) t o = with_todo _ (on_fits ExprCounts rest t.1)
    behind_own (Go_back ∷ rest) t o = with_todo _ (leaves_fit ExprCounts rest)
    behind_own (Unwrite d ∷ rest) t o = with_todo rest t.1
    behind_own (Nothing_to_do ∷ rest) t o = with_todo rest t.1
    behind_own (To_do s ∷ rest) t o = with_todo rest t.1
    behind_own (Rest ss ∷ rest) t o = with_todo rest t.1
    behind_own (Round test step s ∷ rest) t o = with_todo rest t.1
    behind_own (Again e s ∷ rest) t o = with_todo rest t.1
    behind_own (Test test step s ∷ rest) t o = with_todo rest t.1
    behind_own (Break_here ∷ rest) t o = with_todo rest t.1

    stays_open : (hs : List (Local × Place)) → IsScoped world → AreOrdered world f hs → f.begun ≡ None → (todo : Todo) → ready_work f.todo ≡ todo
        → control_move world todo ≡ Stay → StaysOpen todo
    stays_open hs scoped ordered none (Leave b ds ∷ rest) e stays = λ shut.
        let at : IsAtLeave world f hs b ds rest = leaves_innermost_block world f hs b ds rest scoped ordered none e in
        let closes = subst (λ (t : Todo). Closes t (map (λ (o : ℕ × ℕ). o.0) f.scene.blocks)) e at.closes in
        ends_not world b ds rest stays (leaves_none b ds rest f.scene.blocks closes at.outermost shut)
    stays_open hs scoped ordered none [] e stays = tt
    stays_open hs scoped ordered none (Enter b ds ∷ rest) e stays = tt
    stays_open hs scoped ordered none (Begin x what ∷ rest) e stays = tt
    stays_open hs scoped ordered none (Go_to k ∷ rest) e stays = tt
    stays_open hs scoped ordered none (Go_out ∷ rest) e stays = tt
    stays_open hs scoped ordered none (Go_on ∷ rest) e stays = tt
    stays_open hs scoped ordered none (Go_back ∷ rest) e stays = tt
    stays_open hs scoped ordered none (Unwrite d ∷ rest) e stays = tt
    stays_open hs scoped ordered none (Nothing_to_do ∷ rest) e stays = tt
    stays_open hs scoped ordered none (To_do s ∷ rest) e stays = tt
    stays_open hs scoped ordered none (Rest ss ∷ rest) e stays = tt
    stays_open hs scoped ordered none (Round test step s ∷ rest) e stays = tt
    stays_open hs scoped ordered none (Again x s ∷ rest) e stays = tt
    stays_open hs scoped ordered none (Test test step s ∷ rest) e stays = tt
    stays_open hs scoped ordered none (Break_here ∷ rest) e stays = tt

    pub control_own : (hs : List (Local × Place)) → IsScoped world → AreOrdered world f hs → f.begun ≡ None → control_move world (ready_work f.todo) ≡ Stay
        → HasItsOwn (control_next world f (ready_work f.todo))
    control_own hs scoped ordered none stays =
        behind_own (ready_work f.todo) (ready_fits ExprCounts f.todo h.todo) (stays_open hs scoped ordered none (ready_work f.todo) refl stays)

  -- ---- a full expression that has begun
  module _ (f : Local) (h : HasItsOwn f) (b : Begun) (begun : f.begun ≡ Some b) where
    -- its value is used
    pub settled_own : HasItsOwn (settled world f (root_value world f b) b.what)
    settled_own =
        let v = root_value world f b in
        record {
          todo = after_fits ExprCounts (truth v) (integer_of v) b.what f.todo (h.begun b begun).1 h.todo;
          begun = λ c q. absurd (cc (q));
          given = h.given;
        }

    -- a value was given
    pub given_own : (u : Place) (v : Value) → HasItsOwn (record f { begun = Some (with_given b u v) })
    given_own u v = record {
      todo = h.todo;
      begun = λ c q. subst (λ (z : Begun). ExprCounts z.root × EachBehind ExprCounts z.what) (same_begun (with_given b u v) c q) (h.begun b begun);
      given = h.given;
    }
