-- Declarations with linkage, by the steps of the definition.
use Rattle.std.proofs.Common.{◌≡◌, ℕ, Bool, true, false, List, length, map, refl, sym, ap, ◌∙◌}
use Rattle.std.specs.Prelude.{if◌then◌else◌, Option, Some, None}
use Rattle.c_types.specs.Types.{Qualified, Signature}
use Rattle.c_types.specs.declared.library.LibFunc.{LibFunc}
use Rattle.c_typed.specs.declared.tree.Slot.TheVariants as slot
use Rattle.c_typed.specs.declared.tree.Target.TheVariants as target
use Rattle.typing_env.specs.Env.{Env, Linked, and_then, an_object, a_function, symbol_of, spelling}
use Rattle.typing_env.specs.Names.{Given, Redeclared, redeclared, redeclared_at, may_stand, declare_object, entity_of_object, name_of_object, new_object}
use Rattle.typing_env.specs.Names.{with_link, with_object, with_further, file_type, bound, declare_function, entity_of_function, number_of_function}
use Rattle.typing_env.specs.Names.{library_of, fits_library, with_function, new_function, changing_function, further_type, linkage_seen}
use Rattle.typing_env.specs.Names.{is_internal}
use Rattle.c_lex.specs.TokenText.{TokenText, text_at}
use Rattle.std.specs.Prelude.{slice_get, vec_len, is_some, ◌==◌}
use Rattle.std.specs.Option.{option_map}
use Rattle.std.proofs.lemmas.List.{length-map}
use Rattle.std.proofs.lemmas.Option.{none-some}
use Rattle.type_name_space.specs.Scopes.{visible}
use Rattle.typing_env.specs.Env.{Object, Meaning, symbol_in}
use Rattle.typing_env.specs.Names.{meaning_in, type_seen, changing_object, first_of, define_object, declare, meaning_here}
use Rattle.typing_env.specs.Names.{with_declared}
use Rattle.type_scope.specs.declared.state.State.{State}
use Rattle.type_scope.specs.Known.{Naming, known_by, meaning_seen, linked_seen, routine_seen, with_tables, IsKnown}
use Rattle.type_scope.proofs.Seen.{symbol_is, meaning_is, declare_is}
use Rattle.type_linkage.proofs.Linking.{entity_is, prior_is, some_seen, is_known}
use Rattle.type_scope.specs.Objects.{IsOneToOne}
use Rattle.type_linkage.specs.Linkage.{function_qualified, entity_in, prior_in, static_declared}

stand_by : {A : Type 0} (t : Bool) (r : A) (env : Env)
    → and_then (if t then Some (tt {0}, env) else None) (λ _. λ (e : Env). Some (r, e)) ≡ (if t then Some (r, env) else None)
stand_by true r env = refl
stand_by false r env = refl

pub redeclared_is : (at : ℕ) (q : Qualified) (given : Given) (env : Env)
    → redeclared at q given env
    ≡ (if may_stand q given (symbol_of env at) env then Some (redeclared_at q given (symbol_of env at) env, env) else None)
unfolding redeclared
redeclared_is at q given env = stand_by (may_stand q given (symbol_of env at) env) (redeclared_at q given (symbol_of env at) env) env

pub redeclared_none : (at : ℕ) (q : Qualified) (given : Given) (env : Env) → may_stand q given (symbol_of env at) env ≡ false
    → redeclared at q given env ≡ None
redeclared_none at q given env e =
    redeclared_is at q given env ∙ ap (λ t. if t then Some (redeclared_at q given (symbol_of env at) env, env) else None) e

pub redeclared_some : (at : ℕ) (q : Qualified) (given : Given) (env : Env) (r : Redeclared) → may_stand q given (symbol_of env at) env ≡ true
    → redeclared_at q given (symbol_of env at) env ≡ r
    → redeclared at q given env ≡ Some (r, env)
redeclared_some at q given env r e is =
    redeclared_is at q given env ∙ ap (λ t. if t then Some (redeclared_at q given (symbol_of env at) env, env) else None) e
    ∙ ap (λ x. Some (x, env)) is

-- objects

pub object_refused : (at : ℕ) (q : Qualified) (given : Given) (env : Env) → redeclared at q given env ≡ None → declare_object at q given env ≡ None
unfolding declare_object
object_refused at q given env e = rw e refl

pub object_new : (at : ℕ) (q : Qualified) (given : Given) (env : Env) (r : Redeclared) → redeclared at q given env ≡ Some (r, env) → r.entity ≡ None
    → declare_object at q given env
    ≡ Some (
      at,
      bound r.symbol (an_object (slot.Static at) r.seen false)
          (with_object (new_object at q) (with_link r.symbol r.internal (target.Static at) q env)),
    )
unfolding declare_object entity_of_object
object_new at q given env r e none = rw (e, none) refl

pub object_again : (at : ℕ) (q : Qualified) (given : Given) (env : Env) (r : Redeclared) (l : Linked) (name : ℕ)
    → redeclared at q given env ≡ Some (r, env) → r.entity ≡ Some l → name_of_object l.target ≡ Some name
    → declare_object at q given env
    ≡ Some (name, bound r.symbol (an_object (slot.Static name) r.seen false) (file_type name r.seen (with_further r.symbol q env)))
unfolding declare_object entity_of_object
object_again at q given env r l name e some is = rw (e, some, is) refl

pub object_other : (at : ℕ) (q : Qualified) (given : Given) (env : Env) (r : Redeclared) (l : Linked)
    → redeclared at q given env ≡ Some (r, env) → r.entity ≡ Some l → name_of_object l.target ≡ None
    → declare_object at q given env ≡ None
unfolding declare_object entity_of_object
object_other at q given env r l e some is = rw (e, some, is) refl

-- functions

pub function_refused : (at : ℕ) (f : Signature) (given : Given) (env : Env) → redeclared at (function_qualified f) given env ≡ None
    → declare_function at f given env ≡ None
unfolding declare_function
function_refused at f given env e = rw e refl

pub function_new : (at : ℕ) (f : Signature) (given : Given) (env : Env) (r : Redeclared) (library : Option LibFunc)
    → redeclared at (function_qualified f) given env ≡ Some (r, env) → library_of r.internal (spelling env at) ≡ library
    → fits_library f library ≡ true → r.entity ≡ None
    → declare_function at f given env
    ≡ Some (
      length env.functions,
      bound r.symbol (a_function (length env.functions) (r.seen).ty)
          (with_function (new_function f library)
          (with_link r.symbol r.internal (target.Function (length env.functions)) (function_qualified f) env)),
    )
unfolding declare_function entity_of_function
function_new at f given env r library e is fits none = rw (e, is, fits, none) refl

pub function_again : (at : ℕ) (f : Signature) (given : Given) (env : Env) (r : Redeclared) (library : Option LibFunc) (l : Linked) (number : ℕ)
    → redeclared at (function_qualified f) given env ≡ Some (r, env) → library_of r.internal (spelling env at) ≡ library
    → fits_library f library ≡ true → r.entity ≡ Some l → number_of_function l.target ≡ Some number
    → declare_function at f given env
    ≡ Some (
      number,
      bound r.symbol (a_function number (r.seen).ty)
          (changing_function number (further_type f) (with_further r.symbol (function_qualified f) env)),
    )
unfolding declare_function entity_of_function
function_again at f given env r library l number e is fits some which = rw (e, is, fits, some, which) refl

pub function_other : (at : ℕ) (f : Signature) (given : Given) (env : Env) (r : Redeclared) (library : Option LibFunc) (l : Linked)
    → redeclared at (function_qualified f) given env ≡ Some (r, env) → library_of r.internal (spelling env at) ≡ library
    → fits_library f library ≡ true → r.entity ≡ Some l → number_of_function l.target ≡ None
    → declare_function at f given env ≡ None
unfolding declare_function entity_of_function
function_other at f given env r library l e is fits some which = rw (e, is, fits, some, which) refl

unfit_by : (at : ℕ) (f : Signature) (given : Given) (env : Env) (t : Bool) → may_stand (function_qualified f) given (symbol_of env at) env ≡ t
    → fits_library f (library_of (is_internal given (linkage_seen env (symbol_of env at))) (spelling env at)) ≡ false
    → declare_function at f given env ≡ None
unfolding declare_function
unfit_by at f given env true stands unfit =
    let e = redeclared_some at (function_qualified f) given env (redeclared_at (function_qualified f) given (symbol_of env at) env) stands refl in
    rw (e, unfit) refl
unfit_by at f given env false stands unfit = function_refused at f given env (redeclared_none at (function_qualified f) given env stands)

-- a library's function of another type
pub function_unfit : (at : ℕ) (f : Signature) (given : Given) (env : Env)
    → fits_library f (library_of (is_internal given (linkage_seen env (symbol_of env at))) (spelling env at)) ≡ false
    → declare_function at f given env ≡ None
function_unfit at f given env unfit = unfit_by at f given env (may_stand (function_qualified f) given (symbol_of env at) env) refl unfit

-- what a state tells of them

pub refused_is : (n : Naming) (t : TokenText) (s : State) (env : Env) (at symbol : ℕ) (q : Qualified) (given : Given)
    → symbol ≡ symbol_in t (slice_get t.list at) → may_stand q given symbol (known_by n t s env) ≡ false
    → redeclared at q given (known_by n t s env) ≡ None
refused_is n t s env at symbol q given e not_so =
    redeclared_none at q given (known_by n t s env)
    (ap (λ k. may_stand q given k (known_by n t s env)) (symbol_is n t s env at ∙ sym e) ∙ not_so)

pub found_is : (n : Naming) → IsOneToOne n → (t : TokenText) (s : State) (env : Env) (at symbol : ℕ) (q seen : Qualified) (given : Given) (internal : Bool)
    → symbol ≡ symbol_in t (slice_get t.list at) → may_stand q given symbol (known_by n t s env) ≡ true
    → internal ≡ is_internal given (option_map (linked_seen n) (prior_in s symbol))
    → seen ≡ type_seen q (option_map (meaning_seen n) (meaning_in (visible symbol (s.names).ordinary))) (is_some (prior_in s symbol))
    → redeclared at q given (known_by n t s env)
    ≡ Some (record { symbol = symbol; internal = internal; entity = option_map (linked_seen n) (entity_in s symbol); seen = seen }, known_by n t s env)
found_is n one t s env at symbol q seen given internal e so i is =
    let k = known_by n t s env in
    let here = symbol_is n t s env at ∙ sym e in
    redeclared_some at q given k (record { symbol = symbol; internal = internal; entity = option_map (linked_seen n) (entity_in s symbol); seen = seen })
    (ap (λ x. may_stand q given x k) here ∙ so)
    (ap (λ x. redeclared_at q given x k) here ∙ (λ j. record {
      symbol = symbol;
      internal = (ap (is_internal given) (prior_is n one t s env symbol) ∙ sym i) j;
      entity = entity_is n t s env symbol j;
      seen = (ap (λ m. type_seen q m (is_some (linkage_seen k symbol))) (meaning_is n symbol s.names (with_tables n t s env))
          ∙ ap (type_seen q (option_map (meaning_seen n) (meaning_in (visible symbol (s.names).ordinary))))
          (ap is_some (prior_is n one t s env symbol) ∙ some_seen (linked_seen n) (prior_in s symbol))
          ∙ sym is) j;
    }))

pub object_made : (n : Naming) (t : TokenText) (s s1 s2 : State) (env : Env) (at number symbol : ℕ) (q seen : Qualified) (given : Given) (internal : Bool)
    (entity : Option Linked) → IsKnown n t s env
    → redeclared at q given (known_by n t s env)
    ≡ Some (record { symbol = symbol; internal = internal; entity = entity; seen = seen }, known_by n t s env)
    → entity ≡ None
    → ((e : Env) → known_by n t s1 e ≡ with_link symbol internal (target.Static (n number)) q (known_by n t s e))
    → ((e : Env) → known_by n t s2 e ≡ bound symbol (an_object (slot.Static (n number)) seen false) (known_by n t s1 e))
    → n number ≡ at
    → (x : Env) × (declare_object at q given env ≡ Some (n number, x)) × IsKnown n t s2 x
object_made n t s s1 s2 env at number symbol q seen given internal entity known found none linked named is =
    let o = new_object at q in
    let k = known_by n t s env in
    let x = known_by n t s2 (with_object o env) in (
      x,
      ap (declare_object at q given) known
          ∙ object_new at q given k (record { symbol = symbol; internal = internal; entity = entity; seen = seen }) found none
          ∙ ap (λ m. Some (m, bound symbol (an_object (slot.Static m) seen false) (with_object o (with_link symbol internal (target.Static m) q k))))
          (sym is)
          ∙ ap (λ e. Some (n number, bound symbol (an_object (slot.Static (n number)) seen false) e)) (sym (linked (with_object o env)))
          ∙ ap (λ e. Some (n number, e)) (sym (named (with_object o env))),
      is_known n t s2 x (with_object o env) refl,
    )

-- at file scope the object has the type that is seen there
typed_if : Bool → ℕ → Qualified → Env → Env
typed_if b name seen env = if b then changing_object name (λ o. record o { qual = seen }) env else env

typed_by : (b : Bool) (n : Naming) (t : TokenText) (s : State) (env : Env) (symbol name : ℕ) (q seen : Qualified)
    → typed_if b name seen (with_further symbol q (known_by n t s env)) ≡ with_further symbol q (known_by n t s (typed_if b name seen env))
unfolding typed_if
typed_by true n t s env symbol name q seen = refl
typed_by false n t s env symbol name q seen = refl

file_is : (name : ℕ) (seen : Qualified) (env : Env) → file_type name seen env ≡ typed_if (env.depth == 0) name seen env
unfolding typed_if
file_is name seen env = refl

pub object_more : (n : Naming) (t : TokenText) (s s1 s2 : State) (env : Env) (at number symbol : ℕ) (q seen : Qualified) (given : Given) (internal : Bool)
    (entity : Option Linked) (l : Linked) → IsKnown n t s env
    → redeclared at q given (known_by n t s env)
    ≡ Some (record { symbol = symbol; internal = internal; entity = entity; seen = seen }, known_by n t s env)
    → entity ≡ Some l → name_of_object l.target ≡ Some (n number)
    → ((e : Env) → known_by n t s1 e ≡ with_further symbol q (known_by n t s e))
    → ((e : Env) → known_by n t s2 e ≡ bound symbol (an_object (slot.Static (n number)) seen false) (known_by n t s1 e))
    → (x : Env) × (declare_object at q given env ≡ Some (n number, x)) × IsKnown n t s2 x
object_more n t s s1 s2 env at number symbol q seen given internal entity l known found some which further named =
    let b = (s.names).depth == 0 in
    let e = typed_if b (n number) seen env in
    let k = known_by n t s env in
    let x = known_by n t s2 e in (
      x,
      ap (declare_object at q given) known
          ∙ object_again at q given k (record { symbol = symbol; internal = internal; entity = entity; seen = seen }) l (n number) found some which
          ∙ ap (λ y. Some (n number, bound symbol (an_object (slot.Static (n number)) seen false) y))
          (file_is (n number) seen (with_further symbol q k) ∙ typed_by b n t s env symbol (n number) q seen ∙ sym (further e))
          ∙ ap (λ y. Some (n number, y)) (sym (named e)),
      is_known n t s2 x e refl,
    )

-- as many functions are known as have rows
counted : (s : State) → length (map routine_seen (s.functions).items) ≡ vec_len s.functions
counted s = length-map (s.functions).items routine_seen ∙ sym (s.functions).ok.0

pub spelled_is : (n : Naming) (t : TokenText) (s : State) (env : Env) (at : ℕ) → spelling (known_by n t s env) at ≡ text_at t at
unfolding spelling
spelled_is n t s env at = refl

pub function_made : (n : Naming) (t : TokenText) (s s1 s2 : State) (env : Env) (at number symbol : ℕ) (f : Signature) (q seen : Qualified) (given : Given)
    (internal : Bool) (entity : Option Linked) (library : Option LibFunc) → q ≡ function_qualified f → number ≡ vec_len s.functions
    → redeclared at q given (known_by n t s env)
    ≡ Some (record { symbol = symbol; internal = internal; entity = entity; seen = seen }, known_by n t s env)
    → library_of internal (text_at t at) ≡ library → fits_library f library ≡ true → entity ≡ None
    → ((e : Env) → known_by n t s1 e ≡ with_link symbol internal (target.Function number) q (with_function (new_function f library) (known_by n t s e)))
    → ((e : Env) → known_by n t s2 e ≡ bound symbol (a_function number seen.ty) (known_by n t s1 e))
    → declare_function at f given (known_by n t s env) ≡ Some (number, known_by n t s2 env)
function_made n t s s1 s2 env at number symbol f q seen given internal entity library qual next found which fits none linked named =
    let r = new_function f library in
    let k = known_by n t s env in
    function_new at f given k (record { symbol = symbol; internal = internal; entity = entity; seen = seen }) library
    (ap (λ p. redeclared at p given k) (sym qual) ∙ found) (ap (library_of internal) (spelled_is n t s env at) ∙ which) fits none
    ∙ ap (λ m. Some (m, bound symbol (a_function m seen.ty) (with_function r (with_link symbol internal (target.Function m) (function_qualified f) k))))
    (counted s ∙ sym next)
    ∙ ap (λ e. Some (number, bound symbol (a_function number seen.ty) e))
    (ap (λ p. with_function r (with_link symbol internal (target.Function number) p k)) (sym qual) ∙ sym (linked env))
    ∙ ap (λ e. Some (number, e)) (sym (named env))

pub function_more : (n : Naming) (t : TokenText) (s s1 s2 : State) (env : Env) (at number symbol : ℕ) (f : Signature) (q seen : Qualified) (given : Given)
    (internal : Bool) (entity : Option Linked) (l : Linked) (library : Option LibFunc) → q ≡ function_qualified f
    → redeclared at q given (known_by n t s env)
    ≡ Some (record { symbol = symbol; internal = internal; entity = entity; seen = seen }, known_by n t s env)
    → library_of internal (text_at t at) ≡ library → fits_library f library ≡ true
    → entity ≡ Some l → number_of_function l.target ≡ Some number
    → ((e : Env) → known_by n t s1 e ≡ changing_function number (further_type f) (with_further symbol q (known_by n t s e)))
    → ((e : Env) → known_by n t s2 e ≡ bound symbol (a_function number seen.ty) (known_by n t s1 e))
    → declare_function at f given (known_by n t s env) ≡ Some (number, known_by n t s2 env)
function_more n t s s1 s2 env at number symbol f q seen given internal entity l library qual found which fits some where_it more named =
    let k = known_by n t s env in
    function_again at f given k (record { symbol = symbol; internal = internal; entity = entity; seen = seen }) library l number
    (ap (λ p. redeclared at p given k) (sym qual) ∙ found) (ap (library_of internal) (spelled_is n t s env at) ∙ which) fits some where_it
    ∙ ap (λ y. Some (number, bound symbol (a_function number seen.ty) y))
    (ap (λ p. changing_function number (further_type f) (with_further symbol p k)) (sym qual) ∙ sym (more env))
    ∙ ap (λ y. Some (number, y)) (sym (named env))

-- an object of block scope with static storage

declared_static : (at : ℕ) (q : Qualified) (env : Env)
    → static_declared at q env
    ≡ declare at (an_object (slot.Static at) q false)
    (changing_object at (λ o. record o { defined = first_of o.defined at }) (with_object (new_object at q) env))
unfolding static_declared define_object
declared_static at q env = refl

objects_known : (n : Naming) (t : TokenText) (s : State) (env : Env) (os : List Object) → IsKnown n t s env
    → record env { objects = os } ≡ known_by n t s (record env { objects = os })
objects_known n t s env os known = ap (λ (e : Env). record e { objects = os }) known

-- what is known of objects where it is declared
abbrev pub static_known : ℕ → Qualified → Env → Env
static_known at q env = changing_object at (λ o. record o { defined = first_of o.defined at }) (with_object (new_object at q) env)

static_by : (n : Naming) (t : TokenText) (s : State) (env : Env) (at : ℕ) (q : Qualified) → IsKnown n t s env
    → static_declared at q env ≡ declare at (an_object (slot.Static at) q false) (known_by n t s (static_known at q env))
static_by n t s env at q known =
    declared_static at q env
    ∙ ap (declare at (an_object (slot.Static at) q false)) (objects_known n t s env ((static_known at q env).objects) known)

-- .. whose identifier is declared as the definition declares it
pub static_is : (n : Naming) (t : TokenText) (s s1 s2 : State) (env : Env) (at number : ℕ) (q p : Qualified)
    → IsKnown n t s env → ((e : Env) → known_by n t s1 e ≡ known_by n t s e) → n number ≡ at → p ≡ q
    → ((e : Env) → declare at (an_object (slot.Static (n number)) p false) (known_by n t s1 e) ≡ Some (tt, known_by n t s2 e))
    → static_declared at q env ≡ Some (tt, known_by n t s2 (static_known at q env))
static_is n t s s1 s2 env at number q p known same named type reads =
    let e = static_known at q env in
    static_by n t s env at q known
    ∙ ap (λ m. declare at (an_object (slot.Static m) q false) (known_by n t s e)) (sym named)
    ∙ ap (λ z. declare at (an_object (slot.Static (n number)) z false) (known_by n t s e)) (sym type)
    ∙ ap (declare at (an_object (slot.Static (n number)) p false)) (sym (same e))
    ∙ reads e

none_same : {A : Type 0} (b : Bool) (x y : A) → (if b then None else Some x) ≡ None → (if b then None else Some y) ≡ None
none_same true x y e = refl
none_same false x y e = absurd (none-some x (sym e))

-- whatever it would stand for
refused_same : (at : ℕ) (m o : Meaning) (env : Env) → declare at m env ≡ None → declare at o env ≡ None
refused_same at m o env e =
    declare_is at o env
    ∙ none_same (is_some (meaning_here env (symbol_of env at))) (tt, with_declared (symbol_of env at) m env)
    (tt, with_declared (symbol_of env at) o env) (sym (declare_is at m env) ∙ e)

pub static_refused : (n : Naming) (t : TokenText) (s s1 : State) (env : Env) (at : ℕ) (q : Qualified) (m : Meaning)
    → IsKnown n t s env → ((e : Env) → known_by n t s1 e ≡ known_by n t s e)
    → ((e : Env) → declare at m (known_by n t s1 e) ≡ None) → static_declared at q env ≡ None
static_refused n t s s1 env at q m known same reads =
    let e = static_known at q env in
    static_by n t s env at q known
    ∙ refused_same at m (an_object (slot.Static at) q false) (known_by n t s e) (ap (declare at m) (sym (same e)) ∙ reads e)

-- a library's function of another type
pub unfit_is : (n : Naming) → IsOneToOne n → (t : TokenText) (s : State) (env : Env) (at symbol : ℕ) (f : Signature) (given : Given)
    (library : Option LibFunc) (internal : Bool) → symbol ≡ symbol_in t (slice_get t.list at) → library ≡ library_of internal (text_at t at)
    → internal ≡ is_internal given (option_map (linked_seen n) (prior_in s symbol)) → fits_library f library ≡ false
    → declare_function at f given (known_by n t s env) ≡ None
unfolding spelling
unfit_is n one t s env at symbol f given library internal e which i unfit =
    function_unfit at f given (known_by n t s env)
    (ap (λ b. fits_library f (library_of b (text_at t at)))
    (ap (λ x. is_internal given (linkage_seen (known_by n t s env) x)) (symbol_is n t s env at ∙ sym e)
    ∙ ap (is_internal given) (prior_is n one t s env symbol) ∙ sym i)
    ∙ ap (fits_library f) (sym which) ∙ unfit)
