-- The function that a call calls.
use Rattle.std.proofs.Common.{◌≡◌, ℕ, zero, suc, ◌+◌, ◌<◌, ◌≤◌, Bool, true, false, ◌||◌, refl, sym, ap, ap₂, ◌∙◌, subst, arith, List, [], ◌∷◌, length}
use Rattle.std.proofs.Common.{Option, Some, None, get_or}
use Rattle.std.specs.Prelude.{◌==◌, is_some, Result, Ok, Err}
use Rattle.std.proofs.lemmas.Bool.Decides.{nat_tests}
use Rattle.ub_base.specs.declared.clause.Clause.TheVariants.{InvalidPointer, IncompatibleCall}
use Rattle.addr_map.specs.declared.map.Row.{Row}
use Rattle.c_types.specs.Types.{CType, Signature, signature_of}
use Rattle.c_types.specs.Same.{compatible_functions}
use Rattle.c_typed.specs.declared.program.Function.{Function as Typed}
use Rattle.mem_spec.specs.Store.{Store}
use Rattle.mem_spec.specs.Script.{run, Give, require, ◌>>◌}
use Rattle.mem_objects.specs.Memory.{act_of}
use Rattle.c_model.specs.Program.{Function}
use Rattle.c_model.specs.Steps.{function_of}
use Rattle.c_model.specs.Values.{function_address}
use Rattle.run_acts.specs.Calls.{IsFunction, AreFunctions, AgreesAsCompatible, checked_call, call_checks, type_by}

none_at : (b : Bool) (f : Function) (fs : List Function) (n a : ℕ) → (function_address n == a) ≡ b → (a ≡ function_address n → ⊥) →
    function_of fs (suc n) a ≡ None → function_of (f ∷ fs) n a ≡ None
none_at true f fs n a e other rest = absurd (other (grind (arith, nat_tests, e)))
none_at false f fs n a e other rest = rw e rest

pub none_found : (fs : List Function) (n a : ℕ) → ((k : ℕ) → k < n + length fs → a ≡ function_address k → ⊥) → function_of fs n a ≡ None
none_found [] n a other = refl
none_found (f ∷ fs) n a other =
    none_at (function_address n == a) f fs n a refl (other n (omega arith)) (none_found fs (suc n) a (λ k lt e. other k (omega (arith, lt)) e))

pub record IsFound (f : Typed) (fs : List Function) (n k a : ℕ) : Type 0 where
  pub function : Function
  pub is : IsFunction f function
  pub found : function_of fs n a ≡ Some (n + k, function)

found_at : (b : Bool) (f : Typed) (g : Function) (fs : List Function) (n k a : ℕ) → (function_address n == a) ≡ b → a ≡ function_address (n + suc k) →
    IsFound f fs (suc n) k a → IsFound f (g ∷ fs) n (suc k) a
found_at true f g fs n k a e is rest = absurd (grind (arith, nat_tests, e, is))
found_at false f g fs n k a e is rest = record {
  function = rest.function;
  is = rest.is;
  found = rw e (rest.found ∙ ap (λ (m : ℕ). Some (m, rest.function)) (omega arith));
}

first_at : (b : Bool) (f : Typed) (g : Function) (fs : List Function) (n a : ℕ) → (function_address n == a) ≡ b
    → a ≡ function_address (n + 0) → IsFunction f g →
    IsFound f (g ∷ fs) n 0 a
first_at false f g fs n a e at is = absurd (grind (arith, nat_tests, e, at))
first_at true f g fs n a e at is = record { function = g; is = is; found = rw e (ap (λ (m : ℕ). Some (m, g)) (omega arith)) }

pub found_function : (held : List Typed) (fs : List Function) (n k a : ℕ) (f : Typed) → AreFunctions held fs → k < length held → f ≡ get_or held k f →
    a ≡ function_address (n + k) → IsFound f fs n k a
found_function [] [] n k a f are lt there at = absurd (omega arith)
found_function [] (g ∷ fs) n k a f are lt there at = absurd are
found_function (h ∷ held) [] n k a f are lt there at = absurd are
found_function (h ∷ held) (g ∷ fs) n zero a f are lt there at =
    first_at (function_address n == a) f g fs n a refl at (subst (λ (x : Typed). IsFunction x g) (sym there) are.0)
found_function (h ∷ held) (g ∷ fs) n (suc k) a f are lt there at =
    found_at (function_address n == a) f g fs n k a refl at
    (found_function held fs (suc n) k a f are.1 (omega (arith, lt)) there (at ∙ ap function_address (omega arith)))

pub same_length : (held : List Typed) (fs : List Function) → AreFunctions held fs → length fs ≡ length held
same_length [] [] are = refl
same_length [] (g ∷ fs) are = absurd are
same_length (h ∷ held) [] are = absurd are
same_length (h ∷ held) (g ∷ fs) are = ap suc (same_length held fs are.1)

-- ---- the checks of a call
abbrev pub numbered : {E : Type 0} → ℕ → Result (Unit {0}) E → Result ℕ E
numbered n (Ok u) = Ok n
numbered n (Err e) = Err e

checks_run : (callable ok : Bool) (n : ℕ) (rows : List Row) (s : Store) →
    run rows (require callable InvalidPointer >> (require ok IncompatibleCall >> Give n)) s ≡ act_of (numbered n (call_checks callable ok)) [] s
checks_run false ok n rows s = refl
checks_run true false n rows s = refl
checks_run true true n rows s = refl

-- what passes them can be called
pub checks_pass : (callable ok : Bool) → Ok tt ≡ call_checks callable ok → callable ≡ true
checks_pass true ok e = refl
checks_pass false ok e = absurd (cc)

pub call_of : (held : List Typed) (fs : List Function) (f : Typed) (n a : ℕ) (ty : Signature) (agree : CType → CType → Bool) (rows : List Row) (s : Store) →
    AreFunctions held fs → AgreesAsCompatible agree → n < length held → f ≡ get_or held n f → a ≡ function_address n →
    run rows (checked_call agree (type_by ty) (function_of fs 0 a)) s
    ≡ act_of (numbered n (call_checks (is_some f.body || is_some f.library) (compatible_functions (signature_of f.ty) ty))) [] s
call_of held fs f n a ty agree rows s are agrees lt there at =
    let found = found_function held fs 0 n a f are lt there (at ∙ ap function_address (omega arith)) in
    let g = found.function in
    let callable : is_some g.body || is_some g.library ≡ is_some f.body || is_some f.library =
    ap₂ (λ (x y : Bool). x || y) found.is.body (ap is_some found.is.library) in
    let fits : agree g.ty (type_by ty) ≡ compatible_functions (signature_of f.ty) ty =
    ap (λ (t : CType). agree t (type_by ty)) found.is.ty ∙ agrees (signature_of f.ty) ty in
    ap (λ (o : Option (ℕ × Function)). run rows (checked_call agree (type_by ty) o) s)
    (found.found ∙ ap (λ (m : ℕ). Some (m, g)) (omega arith))
    ∙ ap₂ (λ (x y : Bool). run rows (require x InvalidPointer >> (require y IncompatibleCall >> Give n)) s) callable fits
    ∙ checks_run (is_some f.body || is_some f.library) (compatible_functions (signature_of f.ty) ty) n rows s

-- ---- no function stands behind the last one
same_number : (n k a : ℕ) → a ≡ function_address n → a ≡ function_address k → k ≡ n
same_number n k a at at2 = omega (arith, at, at2)

pub none_behind : (held : List Typed) (fs : List Function) (n a : ℕ) → AreFunctions held fs
    → length held ≤ n → a ≡ function_address n → function_of fs 0 a ≡ None
none_behind held fs n a are end at = none_found fs 0 a (λ k lt at2.
    absurd (omega (arith, lt, end, same_length held fs are, same_number n k a at at2)))
