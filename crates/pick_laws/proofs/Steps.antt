-- Behind a control step the machine goes on: in the same frame, without an open full expression or with one that has just begun, or in the frame below.
use Rattle.std.proofs.Common.{arith, ◌≡◌, ◌<◌, ◌≤◌, ◌^◌, ℕ, zero, suc, true, List, [], ◌∷◌, ◌++◌, length, map, reverse, Option, Some, None, slice_get}
use Rattle.std.proofs.Common.{refl, sym, ap, subst, ◌∙◌}
use Rattle.std.proofs.lemmas.List.{length-reverse, reverse-append}
use Rattle.std.proofs.lemmas.List.Elements.{All-head, All-tail}
use Rattle.std.specs.List.{All}
use Rattle.std.proofs.lemmas.Option.{same_Some}
use Rattle.ub_base.specs.declared.clause.Kind.TheVariants.{Body}
use Rattle.c_typed.specs.declared.program.Program.{Program}
use Rattle.c_typed.specs.declared.tree.Place.{Place}
use Rattle.c_typed.specs.Order.{place, Taken}
use Rattle.c_model.specs.Control.{ready_work}
use Rattle.c_model.specs.Program.{tree_of}
use Rattle.c_model.specs.Runs.{Running, State, step}
use Rattle.c_model.specs.Steps.{Begun, Control, Ev, Local, MayPick, Scene, next, with_given}
use Rattle.c_model.specs.Values.{Value}
use Rattle.c_model.specs.World.{World}
use Rattle.mem_objects.specs.declared.value.Value.{Value as Kept_value}
use Rattle.program_view.specs.Trees.{expr_of}
use Rattle.elaborate.specs.Formed.{is_formed}
use Rattle.program_view.proofs.Seen.{same_tree}
use Rattle.seq_order.specs.Marked.{taken_in}
use Rattle.run_control.specs.declared.work.Work.{Work}
use Rattle.run_control.specs.View.{Meaning}
use Rattle.run_layout.specs.Chosen.{IsKept, Views, with_chosen}
use Rattle.run_layout.specs.InRange.{part_of}
use Rattle.run_layout.specs.Keeping.{KeepsAtBegin}
use Rattle.run_layout.specs.OfTrees.{HasListing}
use Rattle.run_layout.specs.declared.steps.Expression.{Expression as Laid}
use Rattle.run_layout.specs.declared.whole.Code.{Code}
use Rattle.run_statements.specs.declared.numbers.Numbers.{Numbers}
use Rattle.run_state.specs.declared.machine.Machine.{Machine}
use Rattle.run_state.specs.declared.machine.Open.{Open}
use Rattle.run_state.specs.declared.machine.Stage.{Stage}
use Rattle.run_state.specs.declared.watch.Begun.{Begun as Shown}
use Rattle.run_state.specs.Stands.{IsAbove, Stands, StandFrames, StandsBegun, StandsExpression, StandsFrame}
use Rattle.run_answers.specs.Answering.{CanGoOn, CanStep, CanTake, IsWithin, MayGoOn}
use Rattle.run_answers.specs.Beginning.{CanBegin, IsAmong}
use Rattle.run_answers.specs.Keeping.{BeginsExpression, EndsTop, KeepsFrames, KeepsStep, begins, ends, first_stage, frame_with, stays}
use Rattle.run_answers.specs.Picks.{BelowIsShown, top_of}
use Rattle.code_view.specs.Numbering.{meaning_of}
use Rattle.frame_laws.specs.Laws.{StepsOrdered}
use Rattle.frame_laws.specs.Named.{LawfulIsScoped}
use Rattle.frame_laws.specs.Reached.{StepsReached}
use Rattle.run_laws.specs.Frames.{IsOneOf, KeepFrames, KeepsBegun, KeepsFrame, KeepsOpen, Sees, SeesFunction, function_of}
use Rattle.run_laws.specs.Going.{IsGoing, locals_of}
use Rattle.run_laws.specs.SetUp.{IsSetUp}
use Rattle.pick_laws.proofs.Controls.{Goes, IsFresh, Returns, Stays as Keeps_frame, control_goes, fresh_behind, returns, stays as keeps_frame}
use Rattle.pick_laws.proofs.Own.{IsOwnLaid, own_laid}
use Rattle.pick_laws.proofs.Under.{IsMore, frames_still}

-- ---- frames in number: as many stand in the machine as in the state
count_of : (world : World) (meaning : Option ℕ → Meaning) (m : Machine) (left : Option Kept_value) (os : List Open) (wss : List (List Work))
    (hs : List (Local × Place)) → StandFrames world meaning m left os wss (map (λ h. (h.0, Some h.1)) hs) → length os ≡ length hs
count_of world meaning m left [] wss [] s = refl
count_of world meaning m left [] wss (h ∷ hs) s = absurd s
count_of world meaning m left (o ∷ os) [] [] s = absurd s
count_of world meaning m left (o ∷ os) (ws ∷ wss) [] s = absurd s
count_of world meaning m left (o ∷ os) [] (h ∷ hs) s = absurd s
count_of world meaning m left (o ∷ os) (ws ∷ wss) (h ∷ hs) s = ap suc (count_of world meaning m None os wss hs s.2)

held_count : (world : World) (meaning : Option ℕ → Meaning) (m : Machine) (st : State) → Stands world meaning m st
    → length m.below.items ≡ length st.held
held_count world meaning m st s =
    sym (length-reverse m.below.items) ∙ count_of world meaning m None (reverse m.below.items) m.work.below st.held s.frames.2

onto_last : {A : Type 0} (xs : List A) (x : A) → reverse (xs ++ x ∷ []) ≡ x ∷ reverse xs
onto_last xs x = reverse-append xs (x ∷ [])

-- what holds of each holds of this one
each_at : {A : Type 0} (P : A → Type 0) (xs : List A) (n : ℕ) (x : A) → slice_get xs n ≡ Some x → All P xs → P x
each_at P [] zero x at h = absurd (cc)
each_at P [] (suc n) x at h = absurd (cc)
each_at P (y ∷ ys) zero x at h = subst P (same_Some y x at) (All-head P y ys h)
each_at P (y ∷ ys) (suc n) x at h = each_at P ys n x at (All-tail P y ys h)

top_frame : (world : World) (meaning : Option ℕ → Meaning) (m : Machine) (st : State) → Stands world meaning m st
    → StandsFrame world (meaning m.top.function) m (length m.below.items) m.top m.work.now m.left st.top None
top_frame world meaning m st s =
    subst (λ (n : ℕ). StandsFrame world (meaning m.top.function) m n m.top m.work.now m.left st.top None) (length-reverse m.below.items) s.frames.0

one_open : (world : World) (meaning : Meaning) (m : Machine) (height : ℕ) (o : Open) (stage : Option Stage) (s : Stage) (f : Scene) (e : Option Begun)
    → StandsBegun world meaning m height o stage f e None → stage ≡ Some s
    → (x : Begun) × (e ≡ Some x) × StandsExpression world meaning m height o s f x None
one_open world meaning m height o None s f e b h = absurd (cc)
one_open world meaning m height o (Some t) s f None b h = absurd b
one_open world meaning m height o (Some t) s f (Some x) b h =
    (x, refl, subst (λ (z : Stage). StandsExpression world meaning m height o z f x None) (same_Some t s h) b)

none_open : (world : World) (meaning : Meaning) (m : Machine) (height : ℕ) (o : Open) (stage : Option Stage) (f : Scene) (e : Option Begun)
    → StandsBegun world meaning m height o stage f e None → stage ≡ None → e ≡ None
none_open world meaning m height o None f None b h = refl
none_open world meaning m height o None f (Some e) b h = absurd b
none_open world meaning m height o (Some t) f e b h = absurd (cc)

can_step : (world : World) (m : Machine) (st : State) (o : Option Begun) → o ≡ None → CanGoOn world m st o → CanStep world m st
can_step world m st None is can = can
can_step world m st (Some e) is can = absurd (cc)

-- what a body gives chooses no operand
abbrev pub BodyKeeps : Type 0
BodyKeeps = (world : World) (f : Scene) (e : Begun) (n : ℕ) (v : Value) (kept : Taken) → IsKept world f e kept →
    IsKept world f (with_given e (place n Body) v) kept

-- ---- the frame stays
-- it sees the same function, with one of its full expressions open or none
sees_with : (old new : Machine) (o t : Open) (f : Option ℕ) → new.image.code ≡ old.image.code → length old.locals.items ≤ length new.locals.items
    → ((c : _) → IsOneOf c t.stage) → Sees old o f → Sees new (frame_with o t) f
sees_with old new o t None code locals own x = absurd x
sees_with old new o t (Some n) code locals own x = record {
  code = x.code;
  at = ap (λ c. slice_get c.now.functions.items n) code ∙ x.at;
  blocks = x.blocks;
  expressions = x.expressions;
  above = x.above;
  places = let p = x.places in omega (arith, p, locals);
  own = own x.code.expressions;
}

sees_begun : (old new : Machine) (o t : Open) (f : Option ℕ) (s : Stage) → new.image.code ≡ old.image.code → length old.locals.items ≤ length new.locals.items
    → t.stage ≡ Some s → IsAmong o.expressions s.expression → Sees old o f → Sees new (frame_with o t) f
sees_begun old new o t None s code locals stage own x = absurd x
sees_begun old new o t (Some n) s code locals stage own x = record {
  code = x.code;
  at = ap (λ c. slice_get c.now.functions.items n) code ∙ x.at;
  blocks = x.blocks;
  expressions = x.expressions;
  above = x.above;
  places = let p = x.places in omega (arith, p, locals);
  own = subst (IsOneOf x.code.expressions) (sym stage) (subst (λ r. IsAmong r s.expression) x.expressions own);
}

-- the function of the top frame
top_code : (m : Machine) (o : Open) (f : Option ℕ) → Sees m o f → (n : ℕ) × SeesFunction m o n
top_code m o None x = absurd x
top_code m o (Some n) x = (n, x)

module _ (world : World) (p : Program) (numbers : Numbers) (old new : Machine) (st after : State) (n : ℕ) (going : IsGoing world p numbers old st n)
    (stands : Stands world (meaning_of p numbers old.image.code.now) new after) (steps : step world st Control ≡ Running after) where
  abbrev meaning : Option ℕ → Meaning
  meaning = meaning_of p numbers old.image.code.now

  -- what is alike whatever the step is
  rest_goes : LawfulIsScoped → StepsOrdered → StepsReached → new.program ≡ old.program → new.image.code ≡ old.image.code → new.jumps ≡ old.jumps
      → MayPick world st.top st.top.begun Control → IsWithin world after → suc n < 2 ^ 32
      → KeepFrames world new (new.top ∷ reverse new.below.items) (locals_of after) (suc n) → IsGoing world p numbers new after (suc n)
  rest_goes scoped ordered reached program code jumps may within few frames = record {
    program = ap (λ b. b.now) program ∙ going.program;
    set_up = subst (λ c. IsSetUp world p numbers c.now new.jumps) (sym code) (subst (IsSetUp world p numbers old.image.code.now) (sym jumps) going.set_up);
    stands = subst (λ (c : Code). Stands world (meaning_of p numbers c) new after) (ap (λ c. c.now) (sym code)) stands;
    within = within;
    ordered = ordered world st after Control (scoped p world going.set_up.whole.lawful going.set_up.world.program.functions) going.ordered steps;
    reached = reached world st after Control may going.reached steps;
    frames = frames;
    few = few;
  }

  -- 1. The top frame stays.
  module _ (k : KeepsFrames old new) where
    code_same : new.image.code ≡ old.image.code
    code_same = ap (λ (m : Machine). m.image.code) k.rest

    below_same : new.below ≡ old.below
    below_same = ap (λ (m : Machine). m.below) k.rest

    top_same : new.top ≡ frame_with old.top new.top
    top_same = ap (λ (m : Machine). m.top) k.rest

    height : length (reverse old.below.items) ≡ length old.below.items
    height = length-reverse old.below.items

    more_below : IsMore (length (reverse old.below.items)) old new
    more_below = record {
      code = code_same;
      begun = λ j b lt is. k.begun j b (λ same. let h = height in absurd (omega (arith, lt, same, h))) is;
      values = k.values;
      locals = k.locals;
    }

    as_many : length st.held ≡ length after.held
    as_many =
        sym (held_count world meaning old st going.stands) ∙ sym (ap (λ v. length v.items) below_same) ∙ held_count world meaning new after stands

    keeps : Goes world st after → Keeps_frame world st after
    keeps (keeps_frame s) = s
    keeps (returns r) =
        let was = ap length r.was in let held = ap length r.held in let many = as_many in absurd (omega (arith, was, held, many))

    stayed : Keeps_frame world st after
    stayed = keeps (control_goes world st after steps)

    below_then : KeepFrames world new (reverse old.below.items) (map (λ h. h.0) after.held) (suc n)
    below_then =
        subst (λ (hs : List (Local × Place)). KeepFrames world new (reverse old.below.items) (map (λ h. h.0) hs) (suc n)) (sym stayed.held)
        (frames_still world old new meaning None (reverse old.below.items) old.work.below st.held n (suc n) (omega arith) more_below
        going.stands.frames.2 going.frames.1)

    with_top : KeepsFrame world new (frame_with old.top new.top) (reverse old.below.items) after.top (suc n)
        → KeepFrames world new (new.top ∷ reverse new.below.items) (locals_of after) (suc n)
    with_top top =
        subst (λ (os : List Open). KeepFrames world new (new.top ∷ os) (locals_of after) (suc n)) (sym (ap (λ v. reverse v.items) below_same))
        (subst (λ (t : Open). KeepFrames world new (t ∷ reverse old.below.items) (locals_of after) (suc n)) (sym top_same) (top, below_then))

    closed_begun : (o : Option Stage) (b : Option Begun) (h : ℕ) (t : Open) (f : Scene) → o ≡ None → KeepsBegun world new h t o f b
    closed_begun None b h t f is = tt
    closed_begun (Some s) b h t f is = absurd (cc)

    pub closed_goes : new.top.stage ≡ None → KeepFrames world new (new.top ∷ reverse new.below.items) (locals_of after) (suc n)
    closed_goes stage = with_top (record {
      begun = closed_begun new.top.stage after.top.begun (length (reverse old.below.items)) (frame_with old.top new.top) after.top.scene stage;
      sees = sees_with old new old.top new.top (function_of old.top.function (reverse old.below.items)) code_same k.locals
          (λ c. subst (IsOneOf c) (sym stage) tt) going.frames.0.sees;
      turn = let t = k.turn in let u = going.frames.0.turn in omega (arith, t, u);
      base = let b = going.frames.0.base in let v = k.values in omega (arith, b, v);
      lowest = going.frames.0.lowest;
    })

  -- 2. A full expression has begun in it.
  module _ (at_begin : KeepsAtBegin) (below_shown : BelowIsShown) (b : BeginsExpression old new) (closed : st.top.begun ≡ None)
      (can_go : CanGoOn world old st st.top.begun) where
    abbrev s : Stage
    s = first_stage b.number b.laid

    function : (f : ℕ) × SeesFunction old old.top f
    function = top_code old old.top (function_of old.top.function (reverse old.below.items)) going.frames.0.sees

    laid_out : IsOwnLaid old.image.code.now b.number
    laid_out =
        own_laid p numbers old.image.code.now going.set_up.code function.0 function.1.code function.1.at b.number
        (subst (λ r. IsAmong r b.number) function.1.expressions b.own)

    -- the state's full expression
    module _ (e : Begun) (begun : after.top.begun ≡ Some e) (x : StandsExpression world (meaning new.top.function) new (length new.below.items) new.top s
        after.top.scene e None) where
      fresh : IsFresh st.top (ready_work st.top.todo) after.top e
      fresh = let kept = stayed b.keeps in fresh_behind world st.top after.top st.top.begun kept.value e refl kept.top begun

      laid_same : laid_out.laid ≡ x.laid
      laid_same =
          same_Some laid_out.laid x.laid
          (sym laid_out.at ∙ ap (λ (c : Code). slice_get c.expressions.items b.number) (sym (ap (λ c. c.now) (code_same b.keeps))) ∙ x.at)

      can : CanBegin world old.image.code.now old.top st e.root
      can = subst (CanTake world old.image.code.now old.jumps old.top st) fresh.begins (can_step world old st st.top.begun closed can_go).takes

      views : Views world after.top.scene laid_out.firsts 0 laid_out.laid.root.now e.root
      views =
          subst (λ (f : Scene). Views world f laid_out.firsts 0 laid_out.laid.root.now e.root) (sym fresh.scene)
          (can.known b.number laid_out.laid laid_out.firsts laid_out.at (ap (λ (l : Laid). expr_of l.root.now) laid_same ∙ sym x.root))

      formed : is_formed (tree_of e.root) ≡ true
      formed =
          ap is_formed (ap tree_of (x.root ∙ ap (λ (l : Laid). expr_of l.root.now) (sym laid_same)) ∙ same_tree laid_out.laid.root.now)
          ∙ (each_at (HasListing old.image.code.now.listing.items) old.image.code.now.expressions.items b.number laid_out.laid laid_out.at
          going.stands.listed).formed

      kept : IsKept world after.top.scene e (with_chosen (part_of old.image.code.now.tables.chosen.items laid_out.laid.chosen) (λ k. None))
      kept =
          at_begin world after.top.scene laid_out.firsts laid_out.nodes old.image.code.now.tables old.image.code.now.listing.items laid_out.laid e laid_out.lays
          views
          formed fresh.given

      -- the machine shows just those choices
      shown_there : length old.below.items ≤ length old.begun.items
      shown_there = below_shown world meaning old st going.stands

      laid_is : b.laid ≡ laid_out.laid
      laid_is = same_Some b.laid laid_out.laid (sym b.at ∙ laid_out.at)

      choices_kept : (choices : List (Option ℕ))
          → ((k : ℕ) → taken_in choices k ≡ with_chosen (part_of new.image.code.now.tables.chosen.items b.laid.chosen) (taken_in []) k)
          → IsKept world after.top.scene e (taken_in choices)
      choices_kept choices same =
          let start : taken_in [] ≡ (λ k. None) = (λ i k. None) in
          let chosen : part_of new.image.code.now.tables.chosen.items b.laid.chosen ≡ part_of old.image.code.now.tables.chosen.items laid_out.laid.chosen =
          ap (λ (c : Code). part_of c.tables.chosen.items b.laid.chosen) (ap (λ c. c.now) (code_same b.keeps))
          ∙ ap (λ (l : Laid). part_of old.image.code.now.tables.chosen.items l.chosen) laid_is in
          subst (IsKept world after.top.scene e)
          (λ i k. sym (same k ∙ ap (λ (t : ℕ → Option ℕ). with_chosen (part_of new.image.code.now.tables.chosen.items b.laid.chosen) t k) start
          ∙ ap (λ cs. with_chosen cs (λ j. None) k) chosen) i) kept

      shown : (choices : List (Option ℕ))
          × (top_of new ≡ Some (record { frame = new.top.frame; turn = new.top.turn; tree = b.number; root = b.laid.root; taken = choices }))
          × ((k : ℕ) → taken_in choices k ≡ with_chosen (part_of new.image.code.now.tables.chosen.items b.laid.chosen) (taken_in []) k)
      shown = b.shown shown_there

      open_then : KeepsOpen world new (length (reverse old.below.items)) (frame_with old.top new.top) s after.top.scene e
      open_then = record {
        straight = refl;
        chosen = λ z is. subst (λ (y : Shown). IsKept world after.top.scene e (taken_in y.taken))
            (same_Some _ z (sym shown.1 ∙ ap (λ (h : ℕ). slice_get new.begun.items h)
            (ap (λ v. length v.items) (below_same b.keeps) ∙ sym (height b.keeps)) ∙ is)) (choices_kept shown.0 shown.2);
        rooms =
            let r = b.rooms in
            let many = b.many in
            let base : new.top.base ≡ old.top.base = ap (λ (o : Open). o.base) (top_same b.keeps) in
            omega (arith, r, many, base);
      }

      begun_then : KeepsBegun world new (length (reverse old.below.items)) (frame_with old.top new.top) new.top.stage after.top.scene after.top.begun
      begun_then =
          subst (λ (o : Option Stage). KeepsBegun world new (length (reverse old.below.items)) (frame_with old.top new.top) o after.top.scene after.top.begun)
          (sym b.stage)
          (subst (λ (o : Option Begun). KeepsBegun world new (length (reverse old.below.items)) (frame_with old.top new.top) (Some s) after.top.scene o)
          (sym begun) open_then)

      begun_goes : KeepFrames world new (new.top ∷ reverse new.below.items) (locals_of after) (suc n)
      begun_goes = with_top b.keeps (record {
        begun = begun_then;
        sees = sees_begun old new old.top new.top (function_of old.top.function (reverse old.below.items)) s (code_same b.keeps) b.keeps.locals b.stage b.own
            going.frames.0.sees;
        turn = let t = b.keeps.turn in let u = going.frames.0.turn in omega (arith, t, u);
        base = let z = going.frames.0.base in let v = b.keeps.values in omega (arith, z, v);
        lowest = going.frames.0.lowest;
      })

    pub begins_goes : KeepFrames world new (new.top ∷ reverse new.below.items) (locals_of after) (suc n)
    begins_goes =
        let frame = top_frame world meaning new after stands in
        let there = one_open world (meaning new.top.function) new (length new.below.items) new.top new.top.stage s after.top.scene after.top.begun frame.begun
        b.stage in
        begun_goes there.0 there.1 there.2

  -- 3. The frame below goes on, at the body that waited.
  module _ (given : BodyKeeps) (z : EndsTop old new) where
    code_still : new.image.code ≡ old.image.code
    code_still = ap (λ (m : Machine). m.image.code) z.rest

    same_values : length new.values.items ≡ length old.values.items
    same_values = z.values

    same_locals : new.locals ≡ old.locals
    same_locals = ap (λ (m : Machine). m.locals) z.rest

    under : reverse old.below.items ≡ z.onto ∷ reverse new.below.items
    under = ap reverse z.below ∙ onto_last new.below.items z.onto

    fewer : suc (length new.below.items) ≡ length old.below.items
    fewer =
        let was = length-reverse old.below.items in
        let now = length-reverse new.below.items in
        let is = ap length under in
        omega (arith, was, now, is)

    back : Goes world st after → Returns world st after
    back (keeps_frame s) =
        let held = ap length s.held in
        let was = held_count world meaning old st going.stands in
        let now = held_count world meaning new after stands in
        let few = fewer in
        absurd (omega (arith, held, was, now, few))
    back (returns r) = r

    returned : Returns world st after
    returned = back (control_goes world st after steps)

    more : (h : ℕ) → IsMore h old new
    more h = record {
      code = code_still;
      begun = λ j b lt is. ap (λ (m : Machine). slice_get m.begun.items j) z.rest ∙ is;
      values = let v = same_values in omega (arith, v);
      locals = let l = ap (λ v. length v.items) same_locals in omega (arith, l);
    }

    -- the frames that were held, as they stand and as they are kept
    stood : StandFrames world meaning old None (z.onto ∷ reverse new.below.items) old.work.below (map (λ h. (h.0, Some h.1)) (returned.onto ∷ returned.below))
    stood =
        subst (λ (hs : List (Local × Place)). StandFrames world meaning old None (z.onto ∷ reverse new.below.items) old.work.below
        (map (λ h. (h.0, Some h.1)) hs)) returned.was
        (subst (λ (os : List Open). StandFrames world meaning old None os old.work.below (map (λ h. (h.0, Some h.1)) st.held)) under going.stands.frames.2)

    kept_before : KeepFrames world old (z.onto ∷ reverse new.below.items) (map (λ h. h.0) (returned.onto ∷ returned.below)) n
    kept_before =
        subst (λ (hs : List (Local × Place)). KeepFrames world old (z.onto ∷ reverse new.below.items) (map (λ h. h.0) hs) n) returned.was
        (subst (λ (os : List Open). KeepFrames world old os (map (λ h. h.0) st.held) n) under going.frames.1)

    kept_then : KeepFrames world new (z.onto ∷ reverse new.below.items) (map (λ h. h.0) (returned.onto ∷ returned.below)) (suc n)
    kept_then =
        frames_still world old new meaning None (z.onto ∷ reverse new.below.items) old.work.below (returned.onto ∷ returned.below) n (suc n) (omega arith)
        (more (suc (length (reverse new.below.items)))) stood kept_before

    -- the body that waited is given
    above : IsAbove old.top st.top (z.onto ∷ reverse new.below.items) (map (λ h. (h.0, Some h.1)) (returned.onto ∷ returned.below))
    above =
        subst (λ (hs : List (Local × Place)). IsAbove old.top st.top (z.onto ∷ reverse new.below.items) (map (λ h. (h.0, Some h.1)) hs)) returned.was
        (subst (λ (os : List Open). IsAbove old.top st.top os (map (λ h. (h.0, Some h.1)) st.held)) under going.stands.frames.1)

    waits : returned.onto.1 ≡ place old.top.node Body
    waits = same_Some returned.onto.1 (place old.top.node Body) above.waits

    abbrev Kept : Option Stage → Scene → Option Begun → Type 0
    Kept o f b = KeepsBegun world new (length (reverse new.below.items)) z.onto o f b

    given_open : (f : Local) (e : Begun) (s : Stage) → Kept (Some s) f.scene (Some e) →
        Kept (Some s) f.scene (Some (with_given e returned.onto.1 returned.value))
    given_open f e s k = record {
      straight = k.straight;
      chosen = λ x is. subst (λ (u : Place). IsKept world f.scene (with_given e u returned.value) (taken_in x.taken)) (sym waits)
          (given world f.scene e old.top.node returned.value (taken_in x.taken) (k.chosen x is));
      rooms = k.rooms;
    }

    given_then : (f : Local) (b : Option Begun) (o : Option Stage) → f.begun ≡ b → Kept o f.scene b
        → Kept o (next world f b (Ev returned.onto.1) returned.value).scene (next world f b (Ev returned.onto.1) returned.value).begun
    given_then f None o is k = subst (Kept o f.scene) (sym is) k
    given_then f (Some e) None is k = tt
    given_then f (Some e) (Some s) is k = given_open f e s k

    top_then : KeepsFrame world new z.onto (reverse new.below.items) (next world returned.onto.0 returned.onto.0.begun (Ev returned.onto.1) returned.value)
        (suc n)
    top_then = record {
      begun = given_then returned.onto.0 returned.onto.0.begun z.onto.stage refl kept_then.0.begun;
      sees = kept_then.0.sees;
      turn = kept_then.0.turn;
      base = kept_then.0.base;
      lowest = kept_then.0.lowest;
    }

    pub ends_goes : KeepFrames world new (new.top ∷ reverse new.below.items) (locals_of after) (suc n)
    ends_goes =
        subst (λ (o : Open). KeepFrames world new (o ∷ reverse new.below.items) (locals_of after) (suc n)) (sym (ap (λ (m : Machine). m.top) z.rest)) (
          subst (λ (f : Local). KeepsFrame world new z.onto (reverse new.below.items) f (suc n)) (sym returned.top) top_then,
          subst (λ (hs : List (Local × Place)). KeepFrames world new (reverse new.below.items) (map (λ h. h.0) hs) (suc n)) (sym returned.held) kept_then.1,
        )

  -- 4. One of the three.
  goes_frames : KeepsAtBegin → BelowIsShown → BodyKeeps → CanGoOn world old st st.top.begun → KeepsStep old new
      → KeepFrames world new (new.top ∷ reverse new.below.items) (locals_of after) (suc n)
  goes_frames at_begin shown given can (stays k) = closed_goes k.keeps k.stage
  goes_frames at_begin shown given can (begins b) = begins_goes at_begin shown b (closed_state b) can
    where
      closed_state : BeginsExpression old new → st.top.begun ≡ None
      closed_state b = none_open world (meaning old.top.function) old (length old.below.items) old.top old.top.stage st.top.scene st.top.begun
          (top_frame world meaning old st going.stands).begun b.closed
  goes_frames at_begin shown given can (ends z) = ends_goes given z

  pub step_goes : LawfulIsScoped → StepsOrdered → StepsReached → KeepsAtBegin → BelowIsShown → BodyKeeps → MayGoOn world old st → KeepsStep old new
      → IsWithin world after → suc n < 2 ^ 32 → IsGoing world p numbers new after (suc n)
  step_goes scoped ordered reached at_begin shown given may k within few =
      rest_goes scoped ordered reached (of_program k) (of_code k) (of_jumps k) may.control within few (goes_frames at_begin shown given may.can k)
    where
      of_program : KeepsStep old new → new.program ≡ old.program
      of_program (stays k) = ap (λ (m : Machine). m.program) k.keeps.rest
      of_program (begins b) = ap (λ (m : Machine). m.program) b.keeps.rest
      of_program (ends z) = ap (λ (m : Machine). m.program) z.rest

      of_code : KeepsStep old new → new.image.code ≡ old.image.code
      of_code (stays k) = ap (λ (m : Machine). m.image.code) k.keeps.rest
      of_code (begins b) = ap (λ (m : Machine). m.image.code) b.keeps.rest
      of_code (ends z) = ap (λ (m : Machine). m.image.code) z.rest

      of_jumps : KeepsStep old new → new.jumps ≡ old.jumps
      of_jumps (stays k) = ap (λ (m : Machine). m.jumps) k.keeps.rest
      of_jumps (begins b) = ap (λ (m : Machine). m.jumps) b.keeps.rest
      of_jumps (ends z) = ap (λ (m : Machine). m.jumps) z.rest
