-- Parameters, by the steps of the definition.
use Rattle.std.proofs.Common.{◌≡◌, ℕ, Bool, true, false, refl, sym, ap, ◌∙◌}
use Rattle.std.specs.Prelude.{not, ◌&&◌, if◌then◌else◌, Option, Some, None}
use Rattle.c_types.specs.Types.{Qualified}
use Rattle.c_typed.specs.declared.tree.Slot.TheVariants as slot
use Rattle.typing_env.specs.Env.{Env, and_then, found_in, an_object}
use Rattle.typing_env.specs.Names.{declare}
use Rattle.typing_words.specs.Words.{Words, is_register, is_void, adjusted, parameter, declare_parameter}

-- one with or without a name

pub unnamed : (index : ℕ) (q : Qualified) (register : Bool) (env : Env) → declare_parameter None index q register env ≡ Some (tt, env)
unfolding declare_parameter
unnamed index q register env = refl

pub named : (at index number : ℕ) (q p : Qualified) (register : Bool) (env : Env) → number ≡ index → p ≡ q
    → declare_parameter (Some at) index q register env ≡ declare at (an_object (slot.Auto 0 number) p register) env
unfolding declare_parameter
named at index number q p register env e is =
    ap (λ i. declare at (an_object (slot.Auto 0 i) q register) env) (sym e)
    ∙ ap (λ x. declare at (an_object (slot.Auto 0 number) x register) env) (sym is)

-- by what the keywords say of it, and whether its type is `void`

abbrev parameter_by : ℕ → Option Bool → (is_function is_nothing : Bool) → Option ℕ → Qualified → Env → Option (Qualified × Env)
parameter_by index register is_function is_nothing name q env =
    and_then (found_in env register) (λ r. λ (e : Env). and_then (if not is_function && not is_nothing then Some (tt {0}, e) else None)
    (λ _. λ (e : Env). and_then (declare_parameter name index q r e) (λ _. λ (e : Env). Some (q, e))))

parameter_is : (index : ℕ) (ws : Words) (name : Option ℕ) (q : Qualified) (env : Env)
    → parameter index ws name q env ≡ parameter_by index (is_register ws.storage) ws.is_function (is_void q.ty) name (adjusted q) env
unfolding parameter
parameter_is index ws name q env = refl

a_function : (index : ℕ) (r : Option Bool) (v : Bool) (name : Option ℕ) (q : Qualified) (env : Env) → parameter_by index r true v name q env ≡ None
a_function index None v name q env = refl
a_function index (Some r) v name q env = refl

nothing : (index : ℕ) (r : Option Bool) (f : Bool) (name : Option ℕ) (q : Qualified) (env : Env) → parameter_by index r f true name q env ≡ None
nothing index None f name q env = refl
nothing index (Some r) true name q env = refl
nothing index (Some r) false name q env = refl

-- another storage class
pub class_refused : (index : ℕ) (ws : Words) (name : Option ℕ) (q : Qualified) (env : Env) → is_register ws.storage ≡ None →
    parameter index ws name q env ≡ None
class_refused index ws name q env e =
    parameter_is index ws name q env ∙ ap (λ r. parameter_by index r ws.is_function (is_void q.ty) name (adjusted q) env) e

-- a function specifier
pub function_refused : (index : ℕ) (ws : Words) (name : Option ℕ) (q : Qualified) (env : Env) → ws.is_function ≡ true → parameter index ws name q env ≡ None
function_refused index ws name q env e =
    parameter_is index ws name q env ∙ ap (λ f. parameter_by index (is_register ws.storage) f (is_void q.ty) name (adjusted q) env) e
    ∙ a_function index (is_register ws.storage) (is_void q.ty) name (adjusted q) env

-- of type `void`
pub void_refused : (index : ℕ) (ws : Words) (name : Option ℕ) (q : Qualified) (env : Env) → is_void q.ty ≡ true → parameter index ws name q env ≡ None
void_refused index ws name q env e =
    parameter_is index ws name q env ∙ ap (λ v. parameter_by index (is_register ws.storage) ws.is_function v name (adjusted q) env) e
    ∙ nothing index (is_register ws.storage) ws.is_function name (adjusted q) env

allowed_is : (index : ℕ) (ws : Words) (name : Option ℕ) (q p : Qualified) (register : Bool) (env : Env)
    → is_register ws.storage ≡ Some register → ws.is_function ≡ false → is_void q.ty ≡ false → p ≡ adjusted q
    → parameter index ws name q env ≡ and_then (declare_parameter name index p register env) (λ _. λ (e : Env). Some (p, e))
allowed_is index ws name q p register env r f v is =
    parameter_is index ws name q env
    ∙ ap (λ x. parameter_by index x ws.is_function (is_void q.ty) name (adjusted q) env) r
    ∙ ap (λ x. parameter_by index (Some register) x (is_void q.ty) name (adjusted q) env) f
    ∙ ap (λ x. parameter_by index (Some register) false x name (adjusted q) env) v
    ∙ ap (λ x. parameter_by index (Some register) false false name x env) (sym is)

pub declared : (index : ℕ) (ws : Words) (name : Option ℕ) (q p : Qualified) (register : Bool) (env now : Env)
    → is_register ws.storage ≡ Some register → ws.is_function ≡ false → is_void q.ty ≡ false → p ≡ adjusted q
    → declare_parameter name index p register env ≡ Some (tt, now) → parameter index ws name q env ≡ Some (p, now)
declared index ws name q p register env now r f v is reads =
    allowed_is index ws name q p register env r f v is ∙ ap (λ x. and_then x (λ _. λ (e : Env). Some (p, e))) reads

pub declared_refused : (index : ℕ) (ws : Words) (name : Option ℕ) (q p : Qualified) (register : Bool) (env : Env)
    → is_register ws.storage ≡ Some register → ws.is_function ≡ false → is_void q.ty ≡ false → p ≡ adjusted q
    → declare_parameter name index p register env ≡ None → parameter index ws name q env ≡ None
declared_refused index ws name q p register env r f v is reads =
    allowed_is index ws name q p register env r f v is ∙ ap (λ x. and_then x (λ _. λ (e : Env). Some (p, e))) reads
