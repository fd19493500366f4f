-- The values of operands pass to the rooms of the frame that starts.
use Rattle.std.proofs.Common.{
  ◌≡◌,
  ◌≢◌,
  ℕ,
  suc,
  ◌+◌,
  ◌-◌,
  ◌^◌,
  ◌<◌,
  ◌≤◌,
  ◌==◌,
  min,
  Bool,
  true,
  false,
  refl,
  sym,
  ap,
  ◌∙◌,
  subst,
  arith,
  List,
  [],
  ◌∷◌,
  ◌++◌,
  length,
  Some,
  slice_get,
}
use Rattle.std.proofs.lemmas.Bool.{eqb-true}
use Rattle.std.specs.Borrow.{Bor}
use Rattle.ub_base.specs.declared.names.Event.{Event}
use Rattle.mem_objects.specs.declared.value.Value.{Value}
use Rattle.run_control.specs.declared.statement.Statement.{Statement}
use Rattle.run_control.specs.declared.work.Work.TheVariants as work
use Rattle.run_control.specs.Stacked.{Stacked}
use Rattle.run_layout.specs.declared.steps.FunctionCode.{FunctionCode}
use Rattle.run_layout.specs.declared.steps.Operand.{Operand}
use Rattle.run_layout.specs.declared.steps.Operand.TheVariants as operand
use Rattle.run_state.specs.declared.machine.Local.{Local}
use Rattle.run_state.specs.declared.machine.Machine.{Machine}
use Rattle.run_state.specs.Operands.{operand_in}
use Rattle.run_answers.specs.Opens.{HasPassed, IsBefore, IsOnTop, OpensFrame, PassesFirst, started_on}

-- an operand gives the same where only values in rooms behind its own have changed
same_given : (old m : Machine) (room : ℕ) (o : Operand) (h : Value) → m ≡ record old { values = m.values } →
    ((j : ℕ) (x : Value) → j < room → slice_get old.values.items j ≡ Some x → slice_get m.values.items j ≡ Some x) → IsBefore old.top.base room o →
    operand_in old o ≡ Some h → operand_in m o ≡ Some h
same_given old m room o h rest kept before is =
    ap (λ (k : Machine). operand_in k o) rest ∙ by o before is
  where
    by : (o : Operand) → IsBefore old.top.base room o → operand_in old o ≡ Some h → operand_in (record old { values = m.values }) o ≡ Some h
    by (operand.Integer z) before is = is
    by (operand.Address a) before is = is
    by (operand.Function a) before is = is
    by (operand.Local number offset) before is = is
    by (operand.Static number offset) before is = is
    by (operand.Literal number offset) before is = is
    by (operand.Done node) before is = kept (old.top.base + node) h before is

pub none_passed : (old new : Machine) (os : List Operand) (room size at : ℕ) → at ≡ room → size ≡ min (room + length os) (2 ^ 64 - 1) →
    size ≤ length new.values.items → length old.values.items ≤ length new.values.items →
    ((j : ℕ) (h : Value) → slice_get old.values.items j ≡ Some h → slice_get new.values.items j ≡ Some h) → PassesFirst old os room 0 at new
none_passed old new os room size at is sized le fewest kept few = record {
  comes = (omega (arith, is));
  there = (omega (arith, sized, le, few));
  fewest = fewest;
  before = λ j h lt is. kept j h is;
  passed = λ i o h lt there before given. absurd (omega (arith, lt));
}

some_same : {A : Type 0} (x y : A) → Some x ≡ Some y → x ≡ y
some_same x y e = cc

apart : (room i k : ℕ) → i < k → room + i ≢ room + k
apart room i k lt = λ e. omega (arith, lt, e)

lower : (room j k : ℕ) → j < room → j ≢ room + k
lower room j k lt = λ e. omega (arith, lt, e)

less_or_same : (i k : ℕ) (b : Bool) → (i == k) ≡ b → i < suc k → (b ≡ false → i < k)
less_or_same i k b is lt differs = grind (arith, is, lt, differs)

pub one_passed : (old m new : Machine) (os : List Operand) (room k at next : ℕ) (o : Operand) (v : Value) → m ≡ record old { values = m.values } →
    PassesFirst old os room k at m → slice_get os k ≡ Some o → k < length os → ((h : Value) → operand_in m o ≡ Some h → v ≡ h) →
    next ≡ min (at + 1) (2 ^ 64 - 1) → length new.values.items ≡ length m.values.items →
    (at < length m.values.items → slice_get new.values.items at ≡ Some v) →
    ((j : ℕ) → j ≢ at → slice_get new.values.items j ≡ slice_get m.values.items j) → PassesFirst old os room (k + 1) next new
one_passed old m new os room k at next o v rest before here lt gives further count there others few =
    let p = before few in
    let reached : at < length m.values.items = (let c = p.comes in let r = p.there in omega (arith, c, r, lt)) in
    let filled : slice_get new.values.items (room + k) ≡ Some v = subst (λ (j : ℕ). slice_get new.values.items j ≡ Some v) p.comes (there reached) in
    let others_so : (j : ℕ) → j ≢ room + k → slice_get new.values.items j ≡ slice_get m.values.items j =
    (λ j ne. others j (λ e. ne (e ∙ p.comes))) in
    record {
      comes = (let c = p.comes in omega (arith, c, further, lt, few));
      there = (let r = p.there in omega (arith, r, count));
      fewest = (let r = p.fewest in omega (arith, r, count));
      before = λ j h low is. others_so j (lower room j k low) ∙ p.before j h low is;
      passed = λ i z h less at_i stands is.
          by i z h (i == k) refl less at_i stands is p filled others_so;
    }
  where
    by : (i : ℕ) (z : Operand) (h : Value) (b : Bool) → (i == k) ≡ b → i < k + 1 → slice_get os i ≡ Some z → IsBefore old.top.base room z →
        operand_in old z ≡ Some h → HasPassed old os room k at m → slice_get new.values.items (room + k) ≡ Some v →
        ((j : ℕ) → j ≢ room + k → slice_get new.values.items j ≡ slice_get m.values.items j) → slice_get new.values.items (room + i) ≡ Some h
    by i z h true is less at_i stands given p filled others_so =
        let same : i ≡ k = eqb-true i k is in
        let operand : z ≡ o = some_same z o (sym at_i ∙ ap (slice_get os) same ∙ here) in
        let value : v ≡ h =
        gives h (subst (λ (y : Operand). operand_in m y ≡ Some h) operand (same_given old m room z h rest p.before stands given)) in
        ap (λ (j : ℕ). slice_get new.values.items (room + j)) same ∙ filled ∙ ap (λ (x : Value). Some x) value
    by i z h false is less at_i stands given p filled others_so =
        let lt_k : i < k = less_or_same i k false is (omega (arith, less)) refl in
        others_so (room + i) (apart room i k lt_k) ∙ p.passed i z h lt_k at_i stands given

-- all of them have
pub all_passed : (old new : Machine) (os : List Operand) (room k at : ℕ) → length os ≤ k → PassesFirst old os room k at new →
    PassesFirst old os room (length os) (room + length os) new
all_passed old new os room k at le before few =
    let p = before few in
    record { comes = refl; there = p.there; fewest = p.fewest; before = p.before; passed = λ i o h lt. p.passed i o h (omega (arith, lt, le)) }

-- ---- the frame of the function is on top
abbrev left_by : Bor Statement → Stacked → Stacked
left_by body w = record { below = w.now ∷ w.below; now = work.ToDo body ∷ [] }

pub frame_opened : (old grown new : Machine) (number : ℕ) (event : Event) (code : FunctionCode) (body : Bor Statement) (left : Stacked) (above : ℕ) →
    slice_get old.image.code.now.functions.items number ≡ Some (Some code) → body.now ≡ code.body → grown ≡ record old { locals = grown.locals } →
    ((j : ℕ) (l : Local) → slice_get old.locals.items j ≡ Some l → slice_get grown.locals.items j ≡ Some l) →
    above ≤ length grown.locals.items → length old.locals.items ≤ length grown.locals.items →
    above ≡ min (old.top.above + code.objects) (2 ^ 64 - 1) → left.below ≡ grown.work.now ∷ grown.work.below → left.now ≡ work.ToDo body ∷ [] →
    IsOnTop (record grown { work = left }) (started_on grown.top event (Some number) code.blocks code.expressions old.top.above above) new →
    OpensFrame old number event new
frame_opened old grown new number event code body left above there same rest kept enough fewest above_is below now on =
    let work_is : new.work ≡ left = ap (λ (k : Machine). k.work) on.rest in
    let locals_is : new.locals ≡ grown.locals = ap (λ (k : Machine). k.locals) on.rest in
    let count : length new.locals.items ≡ length grown.locals.items = ap (λ (k : Machine). length k.locals.items) on.rest in
    record {
      code = code;
      body = body;
      there = there;
      same = same;
      rest = on.rest
          ∙ ap (λ (k : Machine). record k {
            below = new.below;
            top = started_on k.top event (Some number) code.blocks code.expressions old.top.above above;
            work = left;
            locals = grown.locals;
          }) rest
          ∙ ap (λ (n : ℕ). record old {
            below = new.below;
            top = started_on old.top event (Some number) code.blocks code.expressions old.top.above n;
            work = left;
            locals = grown.locals;
          }) above_is
          ∙ (λ i. record old {
            below = new.below;
            top = started_on old.top event (Some number) code.blocks code.expressions old.top.above (min (old.top.above + code.objects) (2 ^ 64 - 1));
            work = sym work_is i;
            locals = sym locals_is i;
          });
      below = on.below ∙ ap (λ (k : Machine). k.below.items ++ k.top ∷ []) rest;
      left = work_is ∙ (λ i. record { below = below i; now = now i }) ∙ ap (λ (k : Machine). left_by body k.work) rest;
      locals = λ j l is. ap (λ (k : Machine). slice_get k.locals.items j) on.rest ∙ kept j l is;
      places = omega (arith, enough, above_is, count, new.locals.ok.0, new.locals.ok.1, new.locals.small);
      fewest = omega (arith, fewest, count);
    }
