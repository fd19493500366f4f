-- Declarations of objects, and their rows.
use Rattle.std.proofs.Common.{◌≡◌, ℕ, Bool, true, false, sym, refl, ap, ◌∙◌, subst}
use Rattle.std.specs.Prelude.{◌==◌, if◌then◌else◌, Option, Some, None}
use Rattle.c_lex.specs.TokenText.{TokenText}
use Rattle.c_types.specs.Types.{Qualified}
use Rattle.c_typed.specs.declared.tree.Slot.TheVariants as slot
use Rattle.c_typed.specs.declared.tree.Target.TheVariants as target
use Rattle.typing_env.specs.Env.{Env, Linked, Meaning, an_object}
use Rattle.typing_env.specs.Names.{Given, redeclared, declare_object, name_of_object, new_object, object_named, with_object, changing_object, file_type}
use Rattle.typing_env.specs.Names.{with_link, with_further, bound, is_here, renamed, with_declared}
use Rattle.type_scope.specs.declared.state.State.{State}
use Rattle.type_scope.specs.Known.{Naming, known_by, IsKnown}
use Rattle.type_scope.specs.Objects.{IsRow, HasObjects, row_in}
use Rattle.type_linkage.proofs.Declaring.{object_new, object_again}

-- 1. What leaves rows as they are.

has_by : (n : Naming) (s : State) (d e : Env) → d.objects ≡ e.objects → HasObjects n s e → HasObjects n s d
has_by n s d e same has = (has.0, λ m. subst (λ os. IsRow (object_named (n m) os) (row_in s m)) (sym same) (has.1 m))

bound_by : (b : Bool) (symbol : ℕ) (m : Meaning) (env : Env) → (if b then renamed symbol m env else with_declared symbol m env).objects ≡ env.objects
bound_by true symbol m env = refl
bound_by false symbol m env = refl

bound_has : (n : Naming) (s : State) (symbol : ℕ) (m : Meaning) (env : Env) → HasObjects n s env → HasObjects n s (bound symbol m env)
bound_has n s symbol m env has = has_by n s (bound symbol m env) env (bound_by (is_here env symbol) symbol m env) has

pub names_has : (n : Naming) (s now : State) (env : Env) → now ≡ record s { names = now.names } → HasObjects n s env → HasObjects n now env
names_has n s now env e has = subst (λ x. HasObjects n x env) (sym e) has

pub linked_has : (n : Naming) (s now : State) (env : Env) → now ≡ record s { linked = now.linked } → HasObjects n s env → HasObjects n now env
linked_has n s now env e has = subst (λ x. HasObjects n x env) (sym e) has

-- 2. The type of an object at file scope.

file_by : (name : ℕ) (q : Qualified) (env : Env) (depth : ℕ) (b : Bool) → env.depth ≡ depth → (depth == 0) ≡ b
    → file_type name q env ≡ (if b then changing_object name (λ o. record o { qual = q }) env else env)
file_by name q env depth b same is =
    ap (λ b. if b then changing_object name (λ o. record o { qual = q }) env else env) (ap (λ d. d == 0) same ∙ is)

pub file_has : (n : Naming) (s : State) (name : ℕ) (q : Qualified) (env : Env) (depth : ℕ) → env.depth ≡ depth → (depth == 0) ≡ true
    → HasObjects n s (changing_object name (λ o. record o { qual = q }) env) → HasObjects n s (file_type name q env)
file_has n s name q env depth same is has = subst (λ e. HasObjects n s e) (sym (file_by name q env depth true same is)) has

pub block_has : (n : Naming) (s : State) (name : ℕ) (q : Qualified) (env : Env) (depth : ℕ) → env.depth ≡ depth → (depth == 0) ≡ false
    → HasObjects n s env → HasObjects n s (file_type name q env)
block_has n s name q env depth same is has = subst (λ e. HasObjects n s e) (sym (file_by name q env depth false same is)) has

-- 3. Declarations.

pub rows_made : (n : Naming) (t : TokenText) (s s1 s2 : State) (env : Env) (at number symbol : ℕ) (q seen : Qualified) (given : Given) (internal : Bool)
    (entity : Option Linked) → IsKnown n t s env
    → redeclared at q given (known_by n t s env)
    ≡ Some (record { symbol = symbol; internal = internal; entity = entity; seen = seen }, known_by n t s env)
    → entity ≡ None → n number ≡ at → HasObjects n s1 (with_object (new_object at q) env) → s2 ≡ record s1 { names = s2.names }
    → (x : Env) × (declare_object at q given env ≡ Some (n number, x)) × HasObjects n s2 x
rows_made n t s s1 s2 env at number symbol q seen given internal entity known found none is has same =
    let k = known_by n t s env in
    let e = with_object (new_object at q) (with_link symbol internal (target.Static at) q k) in
    let m = an_object (slot.Static at) seen false in (
      bound symbol m e,
      ap (declare_object at q given) known
          ∙ object_new at q given k (record { symbol = symbol; internal = internal; entity = entity; seen = seen }) found none
          ∙ ap (λ a. Some (a, bound symbol m e)) (sym is),
      bound_has n s2 symbol m e (names_has n s1 s2 e same has),
    )

pub rows_more : (n : Naming) (t : TokenText) (s s1 s2 : State) (env : Env) (at number symbol : ℕ) (q seen : Qualified) (given : Given) (internal : Bool)
    (entity : Option Linked) (l : Linked) → IsKnown n t s env
    → redeclared at q given (known_by n t s env)
    ≡ Some (record { symbol = symbol; internal = internal; entity = entity; seen = seen }, known_by n t s env)
    → entity ≡ Some l → name_of_object l.target ≡ Some (n number)
    → HasObjects n s1 (file_type (n number) seen (with_further symbol q (known_by n t s env))) → s2 ≡ record s1 { names = s2.names }
    → (x : Env) × (declare_object at q given env ≡ Some (n number, x)) × HasObjects n s2 x
rows_more n t s s1 s2 env at number symbol q seen given internal entity l known found some which has same =
    let k = known_by n t s env in
    let e = file_type (n number) seen (with_further symbol q k) in
    let m = an_object (slot.Static (n number)) seen false in (
      bound symbol m e,
      ap (declare_object at q given) known
          ∙ object_again at q given k (record { symbol = symbol; internal = internal; entity = entity; seen = seen }) l (n number) found some which,
      bound_has n s2 symbol m e (names_has n s1 s2 e same has),
    )
