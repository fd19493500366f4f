-- Where no full expression is open in the top frame, the machine can take the control step that comes next.
use Rattle.std.proofs.Common.{arith, ◌≡◌, ℕ, zero, suc, ◌+◌, ◌<◌, ◌≤◌, ◌^◌, true, false, ◌⊎◌, inl, inr, List, [], ◌∷◌}
use Rattle.std.proofs.Common.{length, map, Option, Some, None, slice_get}
use Rattle.std.proofs.Common.{refl, sym, ap, subst, ◌∙◌}
use Rattle.std.specs.Prelude.{is_some}
use Rattle.std.proofs.lemmas.Option.{same_Some}
use Rattle.c_typed.specs.declared.program.Program.{Program}
use Rattle.c_typed.specs.declared.statement.Body.TheVariants as body
use Rattle.c_typed.specs.declared.tree.Place.{Place}
use Rattle.c_model.specs.Control.{Todo, Use, Enter, Leave, Unwrite, Begin, Nothing_to_do, Go_to, Go_out, Go_on, Go_back, To_do, Rest, Round}
use Rattle.c_model.specs.Control.{Again, Test, Break_here, ready_work}
use Rattle.c_model.specs.Program.{Decl, Expr}
use Rattle.c_model.specs.Runs.{State}
use Rattle.c_model.specs.Steps.{Local, body_of}
use Rattle.c_model.specs.Values.{Value}
use Rattle.c_model.specs.World.{World}
use Rattle.program_view.specs.Statements.{stmt_of}
use Rattle.run_layout.specs.declared.steps.BlockCode.{BlockCode}
use Rattle.run_layout.specs.declared.steps.ObjectCode.{ObjectCode}
use Rattle.run_layout.specs.Blocks.{rows_of_block}
use Rattle.run_layout.specs.Chosen.{Views}
use Rattle.run_layout.specs.InRange.{part_of}
use Rattle.run_statements.specs.declared.numbers.Numbers.{Numbers}
use Rattle.run_state.specs.declared.machine.Machine.{Machine}
use Rattle.run_state.specs.declared.machine.Open.{Open}
use Rattle.run_state.specs.Stands.{IsAbove, SeesLocals}
use Rattle.run_answers.specs.Answering.{CanStep, CanTake, HasObjects, IsDeclared}
use Rattle.run_answers.specs.Beginning.{CanBegin, next_turn}
use Rattle.run_answers.specs.Entering.{AreBelow, Birth, CanEnter, CanEnterFirst, HasBirths, KeepPlaces, TakesAs, birth_in, birth_of}
use Rattle.run_answers.specs.Jumps.{HasLabels}
use Rattle.code_view.specs.Blocks.{Made, StandsObject, made_by, made_of, taken_at}
use Rattle.frame_laws.specs.Facts.{is_begin}
use Rattle.frame_laws.specs.Frames.{open_blocks}
use Rattle.frame_laws.specs.Scopes.{AreLower, DeclareFits, ExprFits, HasObject}
use Rattle.frame_laws.proofs.FactsHold.{begins_in_scope, declares_inside_blocks, enters_with_objects, hands_on, leaves_innermost_block}
use Rattle.frame_laws.proofs.FactsHold.{steps_in_function}
use Rattle.run_laws.specs.Going.{IsGoing}
use Rattle.control_laws.specs.Control.{AsksOfEnter, HasArguments}
use Rattle.control_laws.proofs.Entered.{enters_first, numbered_body, parameters_few}
use Rattle.control_laws.proofs.Firsts.{StepFirst}
use Rattle.control_laws.proofs.Held.{keep_places, with_waiting}
use Rattle.control_laws.proofs.Laws.{Laws}
use Rattle.control_laws.proofs.Rounds.{step_left}
use Rattle.control_laws.proofs.Seen.{RowAt, objects_are, parameters}
use Rattle.control_laws.proofs.Top.{below, block_of, can_end, code, frame, held, lawful_now, meaning, names_open, number_is, objects, order_now, rooms}
use Rattle.control_laws.proofs.Top.{scoped, stand_next}

-- what an object is created with, in the words of run_machine
abbrev as_birth : Made → Birth
as_birth d = record { size = d.size; align = d.align; constant = d.constant; form = d.form }

module _ (laws : Laws) (world : World) (p : Program) (numbers : Numbers) (m : Machine) (st : State) (n : ℕ) (g : IsGoing world p numbers m st n) where
  -- ---- jumps
  pub labels_of : (o : Option ℕ) → m.top.function ≡ o → is_some o ≡ true → HasLabels m.image.code.now m.jumps o
  labels_of None is some = absurd (cc)
  labels_of (Some k) is some =
      let c = code laws world p numbers m st n g in
      let there : body_of world (Some k) ≡ Some (stmt_of p.tags (body.Block c.block)) =
      ap (λ j. body_of world (Some j)) (sym (number_is laws world p numbers m st n g k is)) ∙ c.body_is in
      laws.asked m.image.code.now m.jumps k
      (laws.labels p m.image.code.now m.jumps world k (stmt_of p.tags (body.Block c.block)) g.set_up.code.functions g.set_up.labels g.set_up.world.program
      there)

  -- the step is a function's, but for the begin of a full expression
  in_function : (todo : Todo) → st.top.begun ≡ None → ready_work st.top.todo ≡ todo → is_begin todo ≡ false → is_some m.top.function ≡ true
  in_function todo shut is other =
      ap is_some (frame laws world p numbers m st n g).function ∙ steps_in_function world st.top st.held g.ordered shut (ap is_begin is ∙ other)

  -- ---- the blocks of the top frame as the code has them
  same_block : (b : ℕ) (ds : List Decl) (e : objects laws world p numbers m st n g b ≡ Some ds) (z : BlockCode)
      → slice_get m.image.code.now.tables.blocks.items (m.top.blocks + b) ≡ Some z → (block_of laws world p numbers m st n g b ds e).block ≡ z
  same_block b ds e z at =
      let it = block_of laws world p numbers m st n g b ds e in
      let blocks = (code laws world p numbers m st n g).sees.blocks in
      same_Some it.block z (sym it.at ∙ (ap (λ k. slice_get m.image.code.now.tables.blocks.items (k + b)) (sym blocks) ∙ at))

  record BlockIs (b : ℕ) (ds : List Decl) (z : BlockCode) : Type 0 where
    pub number : m.top.blocks + b < 2 ^ 32
    pub count : z.objects.count ≡ length ds
    pub few : z.first + z.objects.count < 2 ^ 32
    pub within : m.top.locals + (z.first + z.objects.count) ≤ m.top.above
    pub places : m.top.locals + (z.first + z.objects.count) < 2 ^ 64

  block_is : (b : ℕ) (ds : List Decl) → objects laws world p numbers m st n g b ≡ Some ds → (z : BlockCode)
      → slice_get m.image.code.now.tables.blocks.items (m.top.blocks + b) ≡ Some z → BlockIs b ds z
  block_is b ds e z at =
      let it = block_of laws world p numbers m st n g b ds e in
      let sees = (code laws world p numbers m st n g).sees in
      let blocks = sees.blocks in
      let above = sees.above in
      let places = sees.places in
      let number = it.number in
      let inside = it.within in
      let under : m.top.locals + (it.block.first + it.block.objects.count) ≤ m.top.above = omega (arith, inside, above) in
      subst (BlockIs b ds) (same_block b ds e z at) (record {
        number = omega (arith, number, blocks);
        count = it.stands.count;
        few = it.stands.few;
        within = under;
        places = omega (arith, under, places, m.locals.ok.0);
      })

  -- ---- a declaration
  declared_in : (bs : List (ℕ × ℕ)) (d : ℕ) → DeclareFits (objects laws world p numbers m st n g) (map (λ b. b.0) bs) d → IsDeclared m.image.code.now m.top d bs
  declared_in [] d fits = fits
  declared_in (b ∷ bs) d fits = λ z at. go z at (objects laws world p numbers m st n g b.0) refl fits
    where
      go : (z : BlockCode) → slice_get m.image.code.now.tables.blocks.items (m.top.blocks + b.0) ≡ Some z → (o : Option (List Decl))
          → objects laws world p numbers m st n g b.0 ≡ o → HasObject d o
          → (m.top.blocks + b.0 < 2 ^ 32) × (d < z.objects.count) × (z.first + d < 2 ^ 32) × (m.top.locals + (z.first + d) < 2 ^ 64)
      go z at None e h = absurd h
      go z at (Some ds) e h =
          let it = block_is b.0 ds e z at in
          let count = it.count in
          let few = it.few in
          let places = it.places in
          (it.number, omega (arith, count, h), omega (arith, count, h, few), omega (arith, count, h, places))

  -- ---- the end of a block
  has_objects : (b : ℕ) (ds : List Decl) → objects laws world p numbers m st n g b ≡ Some ds → (z : BlockCode)
      → slice_get m.image.code.now.tables.blocks.items (m.top.blocks + b) ≡ Some z → HasObjects m.top b z ds
  has_objects b ds e z at =
      let it = block_is b ds e z at in
      let few = it.few in
      let places = it.places in
      record { block = it.number; count = it.count; within = λ k less. (omega (arith, less, few), omega (arith, less, places)) }

  -- ---- a full expression begins
  can_begin : (e : Expr) (what : Use) (rest : Todo) → st.top.begun ≡ None → ready_work st.top.todo ≡ Begin e what ∷ rest
      → CanBegin world m.image.code.now m.top st e
  can_begin e what rest shut is =
      let scope = begins_in_scope world st.top st.held e what rest (scoped laws world p numbers m st n g) g.ordered shut is in
      record {
        turn = (let turn = g.frames.0.turn in let few = g.few in omega (arith, turn, few));
        known = λ k laid firsts at root.
            let names =
            names_open laws world p numbers m st n g laid.root.now
            (subst (ExprFits (objects laws world p numbers m st n g) (open_blocks st.top)) (sym root) scope.names) in
            let placed =
            laws.placed world m (next_turn st.top.scene) st.store _ k laid (lawful_now laws world p numbers m st n g)
            (order_now laws world p numbers m st n g) at
            g.stands.memory (stand_next laws world p numbers m st n g) names in
            subst (Views world (next_turn st.top.scene) firsts 0 laid.root.now) root
            (laws.known m.program.now m.image.code.now world (next_turn st.top.scene) firsts k laid (lawful_now laws world p numbers m st n g)
            (order_now laws world p numbers m st n g) at placed);
      }

  -- ---- the step
  takes : (todo : Todo) → st.top.begun ≡ None → ready_work st.top.todo ≡ todo → StepFirst todo → CanTake world m.image.code.now m.jumps m.top st todo
  takes (Nothing_to_do ∷ rest) shut is first = tt
  takes (Go_out ∷ rest) shut is first = tt
  takes (Go_on ∷ rest) shut is first = tt
  takes (Go_back ∷ rest) shut is first = tt
  takes (Enter b ds ∷ rest) shut is first = tt
  takes (Go_to k ∷ rest) shut is first = labels_of m.top.function refl (in_function (Go_to k ∷ rest) shut is refl)
  takes (Unwrite d ∷ rest) shut is first =
      let it = declares_inside_blocks world st.top st.held d rest (scoped laws world p numbers m st n g) g.ordered shut is in
      (record { closes = it.closes; behind = it.behind }, declared_in st.top.scene.blocks d it.declared)
  takes (Leave b ds ∷ rest) shut is first =
      let it = leaves_innermost_block world st.top st.held b ds rest (scoped laws world p numbers m st n g) g.ordered shut is in
      record { function = in_function (Leave b ds ∷ rest) shut is refl; closes = it.closes; objects = has_objects b ds it.objects }
  takes (Begin e what ∷ rest) shut is first = can_begin e what rest shut is
  takes [] shut is first = absurd first
  takes (To_do s ∷ rest) shut is first = absurd first
  takes (Rest ss ∷ rest) shut is first = absurd first
  takes (Round test step s ∷ rest) shut is first = absurd first
  takes (Again e s ∷ rest) shut is first = absurd first
  takes (Test test step s ∷ rest) shut is first = absurd first
  takes (Break_here ∷ rest) shut is first = absurd first

  -- ---- a block is entered
  own_function : is_some m.top.function ≡ true → st.top.function ≡ Some (code laws world p numbers m st n g).number
  own_function some = go m.top.function refl some
    where
      go : (o : Option ℕ) → m.top.function ≡ o → is_some o ≡ true → st.top.function ≡ Some (code laws world p numbers m st n g).number
      go None is some = absurd (cc)
      go (Some k) is some = sym (frame laws world p numbers m st n g).function ∙ (is ∙ ap Some (sym (number_is laws world p numbers m st n g k is)))

  births_are : (xs : List ObjectCode) → map birth_of xs ≡ map as_birth (map made_of xs)
  births_are [] = refl
  births_are (x ∷ xs) = ap (λ bs. birth_of x ∷ bs) (births_are xs)

  births_in : (ds : List Decl) → map birth_in ds ≡ map as_birth (map made_by ds)
  births_in [] = refl
  births_in (d ∷ ds) = ap (λ bs. birth_in d ∷ bs) (births_in ds)

  takes_as : (d : Decl) (x o : ObjectCode) → o ≡ x → StandsObject m.image.code.now.tables d o → TakesAs m.image.code.now x d
  takes_as d x o same s =
      subst (λ (z : ObjectCode). TakesAs m.image.code.now z d) same
      (record { store = s.by; at = s.at; first = s.initializing; access = s.access; ty = s.ty })

  -- blocks with lower numbers have their objects below
  open_below : (b : ℕ) (ds : List Decl) (e : objects laws world p numbers m st n g b ≡ Some ds) (limit : ℕ)
      → m.top.locals + (block_of laws world p numbers m st n g b ds e).block.first ≡ limit → (bs : List (ℕ × ℕ))
      → AreLower b (map (λ z. z.0) bs) → AreBelow m.image.code.now m.top limit bs
  open_below b ds e limit is [] inside = tt
  open_below b ds e limit is (z ∷ zs) inside = (
    (λ y at.
        let blocks = (code laws world p numbers m st n g).sees.blocks in
        let it = block_of laws world p numbers m st n g b ds e in
        let le = it.behind z.0 y inside.0 (ap (λ k. slice_get m.image.code.now.tables.blocks.items (k + z.0)) (sym blocks) ∙ at) in
        omega (arith, le, is)),
    open_below b ds e limit is zs inside.1,
  )

  -- the block that is entered first has the number 0
  first_zero : (b : ℕ) (ds : List Decl) (rest : Todo) → ready_work st.top.todo ≡ Enter b ds ∷ rest → is_some m.top.function ≡ true → st.top.scene.blocks ≡ []
      → b ≡ 0
  first_zero b ds rest is some none =
      let c = code laws world p numbers m st n g in
      let it =
      enters_first world st.top st.held c.number (stmt_of p.tags (body.Block c.block)) b ds rest (scoped laws world p numbers m st n g) g.ordered
      (ap is_some (sym (frame laws world p numbers m st n g).function) ∙ some) c.around c.body_is none is in
      sym it.1 ∙ numbered_body laws.text p c.number c.function c.block g.set_up.whole.lawful c.there c.is_block it.0

  -- as many take an argument as the frame has
  taken_by : (b : ℕ) (ds : List Decl) (rest : Todo) → ready_work st.top.todo ≡ Enter b ds ∷ rest → AreLower b (open_blocks st.top)
      → HasArguments world p st ds
      → is_some m.top.function ≡ true → (bs : List (ℕ × ℕ)) → st.top.scene.blocks ≡ bs
      → taken_at (parameters world p m m.top st.top st.held (code laws world p numbers m st n g)) b ≡ length st.top.arguments
  taken_by b ds rest is inside asks some [] none =
      let c = code laws world p numbers m st n g in
      ap (taken_at (parameters world p m m.top st.top st.held c)) (first_zero b ds rest is some none)
      ∙ sym (asks.count c.number c.function none (own_function some) c.there)
  taken_by b ds rest is inside asks some (z ∷ zs) open_now = go (hands_on world st.top st.held g.ordered)
    where
      lower : z.0 < b
      lower = (subst (λ (ys : List (ℕ × ℕ)). AreLower b (map (λ y. y.0) ys)) open_now inside).0

      none_taken : (k c : ℕ) → z.0 < c → taken_at k c ≡ 0
      none_taken k zero less = absurd (omega (arith, less))
      none_taken k (suc c) less = refl

      go : (st.top.scene.blocks ≡ []) ⊎ (st.top.arguments ≡ [])
          → taken_at (parameters world p m m.top st.top st.held (code laws world p numbers m st n g)) b ≡ length st.top.arguments
      go (inl none) = absurd (cc (none, open_now))
      go (inr gone) =
          none_taken (parameters world p m m.top st.top st.held (code laws world p numbers m st n g)) b lower ∙ sym (ap (λ (vs : List Value). length vs) gone)

  -- so there are objects for all
  enough_by : (b : ℕ) (ds : List Decl) (rest : Todo) → ready_work st.top.todo ≡ Enter b ds ∷ rest → objects laws world p numbers m st n g b ≡ Some ds
      → HasArguments world p st ds → is_some m.top.function ≡ true → (bs : List (ℕ × ℕ)) → st.top.scene.blocks ≡ bs → length st.top.arguments ≤ length ds
  enough_by b ds rest is e asks some [] none =
      let c = code laws world p numbers m st n g in
      let row = objects_are world p m m.top st.top st.held c laws.text b ds e in
      let at = subst (λ (k : ℕ). RowAt p.tags (rows_of_block c.block) k ds) (first_zero b ds rest is some none) row in
      let few = parameters_few p c.number c.function c.block ds g.set_up.whole.lawful c.there c.is_block at in
      let count = asks.count c.number c.function none (own_function some) c.there in
      omega (arith, few, count)
  enough_by b ds rest is e asks some (z ∷ zs) open_now = go (hands_on world st.top st.held g.ordered)
    where
      go : (st.top.scene.blocks ≡ []) ⊎ (st.top.arguments ≡ []) → length st.top.arguments ≤ length ds
      go (inl none) = absurd (cc (none, open_now))
      go (inr gone) = let none = ap (λ (vs : List Value). length vs) gone in omega (arith, none)

  has_births : (b : ℕ) (ds : List Decl) (rest : Todo) → st.top.begun ≡ None → ready_work st.top.todo ≡ Enter b ds ∷ rest
      → (e : objects laws world p numbers m st n g b ≡ Some ds) → is_some m.top.function ≡ true
      → HasArguments world p st ds → (z : BlockCode) → slice_get m.image.code.now.tables.blocks.items (m.top.blocks + b) ≡ Some z
      → HasBirths m.image.code.now m.top st.top.scene.blocks z ds st.top.arguments
  has_births b ds rest shut is e some asks z at =
      let entered = enters_with_objects world st.top st.held b ds rest (scoped laws world p numbers m st n g) g.ordered shut is in
      let c = code laws world p numbers m st n g in
      let it = block_of laws world p numbers m st n g b ds e in
      let few = it.stands.few in
      let count = it.stands.count in
      let same = same_block b ds e z at in
      let here = block_is b ds e it.block (ap (slice_get m.image.code.now.tables.blocks.items) (ap (λ k. k + b) c.sees.blocks) ∙ it.at) in
      let places = here.places in
      subst (λ (y : BlockCode). HasBirths m.image.code.now m.top st.top.scene.blocks y ds st.top.arguments) same (record {
        arguments = it.arguments ∙ taken_by b ds rest is entered.inside asks some st.top.scene.blocks refl;
        enough = enough_by b ds rest is e asks some st.top.scene.blocks refl;
        stores = λ k x d less at_k there.
            let o = it.stands.objects k d there in
            takes_as d x o.0 (same_Some o.0 x (sym o.1 ∙ at_k)) o.2;
        objects =
            births_are (part_of m.image.code.now.tables.objects.items it.block.objects) ∙ (ap (map as_birth) it.stands.made ∙ sym (births_in ds));
        count = count;
        created = it.stands.created;
        behind = open_below b ds e (m.top.locals + it.block.first) refl st.top.scene.blocks entered.inside;
        numbers = omega (arith, few, count);
        places = omega (arith, places, count);
      })

  places_below : is_some m.top.function ≡ true → KeepPlaces m.image.code.now m.top.locals
      (below laws world p numbers m st n g) st.held
  places_below some =
      keep_places world p (meaning laws world p numbers m st n g) m n laws numbers g.stands.listed g.set_up.code m.top.locals
      (below laws world p numbers m st n g) st.held
      (held laws world p numbers m st n g) (λ o rest is. under (below laws world p numbers m st n g) st.held g.stands.frames.1 o rest is)
    where
      sees_under : (function : Option ℕ) (q : Open) (h : Local) → function ≡ m.top.function → SeesLocals function m.top st.top q h → q.above ≤ m.top.locals
      sees_under None q h same sees = absurd (let no = ap is_some same in cc (no, some))
      sees_under (Some k) q h same sees = let is = sees.0 in omega (arith, is)

      under : (os : List Open) (hs : List (Local × Place)) → IsAbove m.top st.top os (map with_waiting hs) → (o : Open) (rest : List Open) → os ≡ o ∷ rest
          → o.above ≤ m.top.locals
      under [] hs a o rest is = absurd (cc)
      under (q ∷ qs) [] a o rest is = absurd a
      under (q ∷ qs) (h ∷ hs) a o rest is =
          let same : q ≡ o = cc in
          subst (λ (z : Open). z.above ≤ m.top.locals) same (sees_under m.top.function q h.0 refl a.locals)

  can_enter : (b : ℕ) (ds : List Decl) (rest : Todo) → st.top.begun ≡ None → ready_work st.top.todo ≡ Enter b ds ∷ rest → HasArguments world p st ds
      → CanEnter world m st b ds
  can_enter b ds rest shut is asks =
      let it = enters_with_objects world st.top st.held b ds rest (scoped laws world p numbers m st n g) g.ordered shut is in
      let some = in_function (Enter b ds ∷ rest) shut is refl in
      let turn = g.frames.0.turn in
      let same = (frame laws world p numbers m st n g).turn in
      let few = g.few in
      let blocks = (code laws world p numbers m st n g).sees.blocks in
      let number = (block_of laws world p numbers m st n g b ds it.objects).number in
      record {
        function = some;
        limit = g.set_up.world.limits.created;
        turn = omega (arith, turn, same, few);
        number = omega (arith, number, blocks);
        block = has_births b ds rest shut is it.objects some asks;
        below = places_below some;
        rooms = rooms laws world p numbers m st n g;
        rows = g.set_up.world.rows;
        takes = asks.takes;
      }

  enters : (todo : Todo) → st.top.begun ≡ None → ready_work st.top.todo ≡ todo → AsksOfEnter world p st todo
      → CanEnterFirst world m st todo
  enters (Enter b ds ∷ rest) shut is asks = can_enter b ds rest shut is asks
  enters [] shut is asks = tt
  enters (Leave b ds ∷ rest) shut is asks = tt
  enters (Unwrite d ∷ rest) shut is asks = tt
  enters (Begin e what ∷ rest) shut is asks = tt
  enters (Nothing_to_do ∷ rest) shut is asks = tt
  enters (Go_to k ∷ rest) shut is asks = tt
  enters (Go_out ∷ rest) shut is asks = tt
  enters (Go_on ∷ rest) shut is asks = tt
  enters (Go_back ∷ rest) shut is asks = tt
  enters (To_do s ∷ rest) shut is asks = tt
  enters (Rest ss ∷ rest) shut is asks = tt
  enters (Round test step s ∷ rest) shut is asks = tt
  enters (Again e s ∷ rest) shut is asks = tt
  enters (Test test step s ∷ rest) shut is asks = tt
  enters (Break_here ∷ rest) shut is asks = tt

  pub can_step : st.top.begun ≡ None → AsksOfEnter world p st (ready_work st.top.todo) → CanStep world m st
  can_step shut asks = record {
    takes = takes (ready_work st.top.todo) shut refl (step_left world st.top st.held g.ordered shut);
    enters = enters (ready_work st.top.todo) shut refl asks;
    ends = λ last. can_end laws world p numbers m st n g;
  }
