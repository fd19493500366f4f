-- Which function the body of a call calls, and what it raises that calls none.
use Rattle.std.proofs.Common.{
  ◌≡◌,
  ℕ,
  suc,
  ◌+◌,
  Bool,
  true,
  false,
  ◌||◌,
  refl,
  sym,
  ap,
  ◌∙◌,
  subst,
  arith,
  if◌then◌else◌,
  option_map,
  List,
  [],
  ◌∷◌,
  Option,
  Some,
  None,
  Result,
  Ok,
  Err,
  slice_get,
}
use Rattle.std.specs.Borrow.{Bor}
use Rattle.std.specs.Prelude.{◌==◌, is_some}
use Rattle.ub_base.specs.declared.clause.Clause.{Clause}
use Rattle.ub_base.specs.declared.clause.Clause.TheVariants.{IncompatibleCall, InvalidPointer}
use Rattle.ub_base.specs.declared.names.Event.{Event}
use Rattle.ub_base.specs.declared.names.ObjName.TheVariants as object
use Rattle.addr_map.specs.declared.map.Row.{Row}
use Rattle.c_types.specs.declared.library.LibFunc.{LibFunc}
use Rattle.c_types.specs.declared.ty.FuncTy.{FuncTy}
use Rattle.c_types.specs.declared.ty.Qual.{Qual}
use Rattle.c_types.specs.Types.{CType, signature_of}
use Rattle.c_typed.specs.declared.program.Function.{Function as Typed}
use Rattle.mem_spec.specs.Script.{Give, require, run, ◌>>◌}
use Rattle.mem_spec.specs.Store.{Store}
use Rattle.mem_objects.specs.Memory.{Kept, act_of}
use Rattle.mem_objects.specs.declared.value.Value.{Value as Kept_value}
use Rattle.c_model.specs.Program.{Function}
use Rattle.c_model.specs.Steps.{function_of}
use Rattle.c_model.specs.Values.{function_address, function_in}
use Rattle.run_acts.specs.Calls.{AreFunctions, IsFunction, checked_call, type_by}
use Rattle.run_values.specs.Views.{value_in}
use Rattle.run_layout.specs.declared.steps.CallCode.{CallCode}
use Rattle.run_layout.specs.declared.steps.Operand.{Operand}
use Rattle.run_layout.specs.declared.steps.Operand.TheVariants as operand
use Rattle.run_state.specs.declared.machine.Machine.{Machine}
use Rattle.run_state.specs.Operands.{into_local, operand_in, pointer_into}
use Rattle.run_answers.specs.declared.outcome.Outcome.{Outcome}
use Rattle.run_answers.specs.declared.fault.Fault.{Fault}
use Rattle.run_answers.specs.declared.fault.Fault.TheVariants as fault
use Rattle.run_events.proofs.Library.{wants_memory}
use Rattle.run_answers.specs.Calling.{CallsFound, Runs, RunsWhere, library_in, type_of_call}

-- ---- anything but a function pointer leads to no function
pointer_leads_none : {A : Type 0} (f : A → Kept_value) (o : Option A) (h : Kept_value) (k : Kept) → ((a : A) → function_in (value_in k (f a)) ≡ 0) →
    option_map f o ≡ Some h → 0 ≡ function_in (value_in k h)
pointer_leads_none f None h k none is = absurd (cc)
pointer_leads_none f (Some a) h k none is = sym (none a) ∙ ap (λ (x : Kept_value). function_in (value_in k x)) (same (f a) h is)
  where
    same : (x y : Kept_value) → Some x ≡ Some y → x ≡ y
    same x y e = cc

led : Kept → Option Kept_value → ℕ
led k None = 0
led k (Some h) = function_in (value_in k h)

pub leads_none : (m : Machine) (o : Operand) (h : Kept_value) (k : Kept) → ((a : ℕ) → o ≡ operand.Function a → ⊥) → ((n : ℕ) → o ≡ operand.Done n → ⊥) →
    operand_in m o ≡ Some h → 0 ≡ function_in (value_in k h)
unfolding led
leads_none m (operand.Integer z) h k function done is = ap (led k) is
leads_none m (operand.Address a) h k function done is = ap (led k) is
leads_none m (operand.Function a) h k function done is = absurd (function a refl)
leads_none m (operand.Local number offset) h k function done is =
    pointer_leads_none (into_local offset) (slice_get m.locals.items (m.top.locals + number)) h k (λ a. refl) is
leads_none m (operand.Static number offset) h k function done is =
    pointer_leads_none (pointer_into (object.Static number) offset) (slice_get m.places.objects number) h k (λ a. refl) is
leads_none m (operand.Literal number offset) h k function done is =
    pointer_leads_none (pointer_into (object.Lit number) offset) (slice_get m.places.literals number) h k (λ a. refl) is
leads_none m (operand.Done n) h k function done is = absurd (done n refl)

pub function_leads : (m : Machine) (a : ℕ) (h : Kept_value) (k : Kept) → operand_in m (operand.Function a) ≡ Some h → a ≡ function_in (value_in k h)
unfolding led
function_leads m a h k is = ap (led k) is

-- ---- which of the library it is
-- the function that is found stands at its number
record StandsAt (held : List Typed) (n first : ℕ) (f : Function) : Type 0 where
  at : ℕ
  is : n ≡ first + at
  library : library_in (slice_get held at) ≡ f.library

pair_same : (x y : ℕ × Function) → Some x ≡ Some y → x ≡ y
pair_same x y e = cc

stands_by : (h : Typed) (held : List Typed) (g : Function) (k n : ℕ) (f : Function) (rest : Option (ℕ × Function)) (b : Bool) → IsFunction h g →
    (rest ≡ Some (n, f) → StandsAt held n (suc k) f) → (if b then Some (k, g) else rest) ≡ Some (n, f) → StandsAt (h ∷ held) n k f
stands_by h held g k n f rest true is later e =
    let pair = pair_same (k, g) (n, f) e in
    let number : k ≡ n = ap (λ (x : ℕ × Function). x.0) pair in
    record { at = 0; is = omega (arith, number); library = sym is.library ∙ ap (λ (x : ℕ × Function). x.1.library) pair }
stands_by h held g k n f rest false is later e =
    let there = later e in
    let number = there.is in
    record { at = suc there.at; is = omega (arith, number); library = there.library }

stands_at : (held : List Typed) (fs : List Function) (k a n : ℕ) (f : Function) → AreFunctions held fs → function_of fs k a ≡ Some (n, f) → StandsAt held n k f
stands_at [] [] k a n f are is = absurd (cc)
stands_at [] (g ∷ fs) k a n f are is = absurd are
stands_at (h ∷ held) [] k a n f are is = absurd are
stands_at (h ∷ held) (g ∷ fs) k a n f are is =
    stands_by h held g k n f (function_of fs (suc k) a) (function_address k == a) are.0 (stands_at held fs (suc k) a n f are.1) is

pub library_is : (held : List Typed) (fs : List Function) (a n : ℕ) (f : Function) → AreFunctions held fs → function_of fs 0 a ≡ Some (n, f) →
    library_in (slice_get held n) ≡ f.library
library_is held fs a n f are is =
    let s = stands_at held fs 0 a n f are is in
    let same : n ≡ s.at = (let i = s.is in omega (arith, i)) in
    ap (λ (k : ℕ). library_in (slice_get held k)) same ∙ s.library

-- ---- by what a call of it comes to
-- memory may be wanted
module _ (old : Machine) (os : List Operand) (ts : List Qual) (event : Event) where
  wanted_where : (callable agrees : Bool) (n : ℕ) (f : Function) → RunsWhere old os ts event old (Err fault.NoMemory) callable agrees n f
  wanted_where false agrees n f = tt
  wanted_where true false n f = tt
  wanted_where true true n f = by f.library
    where
      by : (l : Option LibFunc) → Runs old os ts event old (Err fault.NoMemory) n l
      by None = tt
      by (Some l) = wants_memory old l os ts event

  pub wanted : (agree : CType → CType → Bool) (through : Option CType) (found : Option (ℕ × Function)) →
      CallsFound old os ts event old (Err fault.NoMemory) agree through found
  wanted agree None found = tt
  wanted agree (Some ty) None = tt
  wanted agree (Some ty) (Some f) = wanted_where (is_some f.1.body || is_some f.1.library) (agree f.1.ty ty) f.0 f.1

module _ (old : Machine) (os : List Operand) (ts : List Qual) (event : Event) where
  refused_where : (callable agrees : Bool) (n : ℕ) (f : Function) (c : Clause) (rows : List Row) (s : Store) →
      run rows (require callable InvalidPointer >> (require agrees IncompatibleCall >> Give n)) s ≡ act_of (Err c) [] s →
      RunsWhere old os ts event old (Err (fault.Raise c)) callable agrees n f
  refused_where false agrees n f c rows s is = (cc, refl)
  refused_where true false n f c rows s is = (cc, refl)
  refused_where true true n f c rows s is = absurd (cc)

  -- what the checks raise is raised, of a machine that is as before
  pub refused : (agree : CType → CType → Bool) (ty : CType) (found : Option (ℕ × Function)) (c : Clause) (rows : List Row) (s : Store) →
      run rows (checked_call agree ty found) s ≡ act_of (Err c) [] s → CallsFound old os ts event old (Err (fault.Raise c)) agree (Some ty) found
  refused agree ty None c rows s is = (cc, refl)
  refused agree ty (Some f) c rows s is = refused_where (is_some f.1.body || is_some f.1.library) (agree f.1.ty ty) f.0 f.1 c rows s is

module _ (old : Machine) (os : List Operand) (ts : List Qual) (event : Event) (new : Machine) where
  module _ (result : Result Outcome Fault) where
    runs_where : (callable agrees : Bool) (k n : ℕ) (f : Function) (rows : List Row) (s : Store) →
        run rows (require callable InvalidPointer >> (require agrees IncompatibleCall >> Give k)) s ≡ act_of (Ok n) [] s →
        (k ≡ n → Runs old os ts event new result k f.library) → RunsWhere old os ts event new result callable agrees k f
    runs_where false agrees k n f rows s is runs = absurd (cc)
    runs_where true false k n f rows s is runs = absurd (cc)
    runs_where true true k n f rows s is runs = runs (cc)

    -- what they let pass is the function that is found
    pub runs_found : (agree : CType → CType → Bool) (ty : CType) (found : Option (ℕ × Function)) (n : ℕ) (rows : List Row) (s : Store) →
        run rows (checked_call agree ty found) s ≡ act_of (Ok n) [] s →
        ((f : Function) → found ≡ Some (n, f) → Runs old os ts event new result n f.library) → CallsFound old os ts event new result agree (Some ty) found
    runs_found agree ty None n rows s is runs = absurd (cc)
    runs_found agree ty (Some f) n rows s is runs =
        runs_where (is_some f.1.body || is_some f.1.library) (agree f.1.ty ty) f.0 n f.1 rows s is
        (λ same. subst (λ (k : ℕ). Runs old os ts event new result k f.1.library) (sym same) (runs f.1 (ap (λ (k : ℕ). Some (k, f.1)) same)))

    pub runs_by : (n : ℕ) (held given : Option LibFunc) → held ≡ given → Runs old os ts event new result n held → Runs old os ts event new result n given
    runs_by n held given same runs = subst (Runs old os ts event new result n) same runs

-- ---- by the code of the call
-- where it goes by no type
pub no_type : (old : Machine) (os : List Operand) (ts : List Qual) (event : Event) (agree : CType → CType → Bool) (o : Option (Bor FuncTy))
    (found : Option (ℕ × Function)) → ((ty : Bor FuncTy) → o ≡ Some ty → ⊥) →
    CallsFound old os ts event old (Err (fault.Raise InvalidPointer)) agree (type_of_call o) found
no_type old os ts event agree None found none = (refl, refl)
no_type old os ts event agree (Some ty) found none = absurd (none ty refl)

-- by its type and the address that its designator gives
pub by_type : (old : Machine) (os : List Operand) (ts : List Qual) (event : Event) (new : Machine) (result : Result Outcome Fault)
    (agree : CType → CType → Bool)
    (o : Option (Bor FuncTy)) (ty : Bor FuncTy) (fs : List Function) (a b : ℕ) → o ≡ Some ty → a ≡ b →
    CallsFound old os ts event new result agree (Some (type_by (signature_of ty.now))) (function_of fs 0 a) →
    CallsFound old os ts event new result agree (type_of_call o) (function_of fs 0 b)
by_type old os ts event new result agree o ty fs a b is at calls =
    subst (λ (z : Option (Bor FuncTy)). CallsFound old os ts event new result agree (type_of_call z) (function_of fs 0 b)) (sym is)
    (subst (λ (n : ℕ). CallsFound old os ts event new result agree (Some (type_by (signature_of ty.now))) (function_of fs 0 n)) at calls)

pub same_call : (x y : CallCode) → Some x ≡ Some y → x ≡ y
same_call x y e = cc
