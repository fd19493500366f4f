-- What is known by a state, after each change of its scopes.
use Rattle.std.proofs.Common.{◌≡◌, ℕ, ◌+◌, Bool, true, false, List, [], ◌∷◌, ◌++◌, map, refl, sym, ap, ◌∙◌}
use Rattle.std.specs.Prelude.{◌==◌, nat_lt, not, ◌&&◌, is_some, if◌then◌else◌, slice_get, Option, Some, None}
use Rattle.std.specs.Option.{option_map}
use Rattle.std.proofs.lemmas.List.{map-append}
use Rattle.c_lex.specs.TokenText.{TokenText}
use Rattle.type_name_space.specs.Scopes.{Declared, or_else, visible, at_depth, kept, left, put_at, changed, changed_in}
use Rattle.c_types.specs.Types.{Qualified}
use Rattle.typing_env.specs.Seen.{tag_seen}
use Rattle.typing_env.specs.Env.{Env, and_then, pure, Meaning, a_typedef, symbol_in, symbol_of}
use Rattle.typing_env.specs.Names.{meaning_in, meaning_of, meaning_here, declared_from, declared_at, declare, declare_typedef, is_same_typedef}
use Rattle.typing_env.specs.Names.{with_declared, kept_prototype, renamed}
use Rattle.typing_env.specs.Names as names
use Rattle.type_scope.specs.InScope.{InScope, with_name, with_tag, tag_in, left_scope, with_prototype, with_kept, with_parameters}
use Rattle.type_scope.specs.Known.{Naming, meaning_seen, tag_meaning_seen, with_meaning, with_scopes, with_tables, known_by}
use Rattle.type_scope.specs.declared.state.State.{State}
use Rattle.type_scope.specs.declared.rows.Meaning as held
use Rattle.type_scope.specs.declared.rows.TagMeaning as held_tag

-- 1. Lists of declarations, each with another meaning.

or_seen : {M N : Type 0} (f : M → N) (o : Option (Declared M)) (t : Bool) (d : Declared M)
    → or_else (option_map (with_meaning f) o) (if t then Some (with_meaning f d) else None)
    ≡ option_map (with_meaning f) (or_else o (if t then Some d else None))
or_seen f (Some x) t d = refl
or_seen f None true d = refl
or_seen f None false d = refl

pub visible_seen : {M N : Type 0} (f : M → N) (symbol : ℕ) (ds : List (Declared M))
    → visible symbol (map (with_meaning f) ds) ≡ option_map (with_meaning f) (visible symbol ds)
visible_seen f symbol [] = refl
visible_seen f symbol (d ∷ ds) =
    ap (λ o. or_else o (if d.symbol == symbol then Some (with_meaning f d) else None)) (visible_seen f symbol ds)
    ∙ or_seen f (visible symbol ds) (d.symbol == symbol) d

in_seen : {M N : Type 0} (f : M → N) (o : Option (Declared M)) → meaning_in (option_map (with_meaning f) o) ≡ option_map f (meaning_in o)
in_seen f None = refl
in_seen f (Some d) = refl

if_seen : {M N : Type 0} (f : M → N) (t : Bool) (d : Declared M)
    → meaning_in (if t then Some (with_meaning f d) else None) ≡ option_map f (meaning_in (if t then Some d else None))
if_seen f true d = refl
if_seen f false d = refl

here_seen : {M N : Type 0} (f : M → N) (depth : ℕ) (o : Option (Declared M))
    → meaning_in (at_depth depth (option_map (with_meaning f) o)) ≡ option_map f (meaning_in (at_depth depth o))
here_seen f depth None = refl
here_seen f depth (Some d) = if_seen f (d.depth == depth) d

-- what an identifier stands for, by any declaration and by one of this scope
pub any_seen : {M N : Type 0} (f : M → N) (symbol : ℕ) (ds : List (Declared M))
    → meaning_in (visible symbol (map (with_meaning f) ds)) ≡ option_map f (meaning_in (visible symbol ds))
any_seen f symbol ds = ap meaning_in (visible_seen f symbol ds) ∙ in_seen f (visible symbol ds)

pub inner_seen : {M N : Type 0} (f : M → N) (depth symbol : ℕ) (ds : List (Declared M))
    → meaning_in (at_depth depth (visible symbol (map (with_meaning f) ds))) ≡ option_map f (meaning_in (at_depth depth (visible symbol ds)))
inner_seen f depth symbol ds = ap (λ o. meaning_in (at_depth depth o)) (visible_seen f symbol ds) ∙ here_seen f depth (visible symbol ds)

last_seen : {M N : Type 0} (f : M → N) (t : Bool) (d : Declared M)
    → (if t then with_meaning f d ∷ [] else []) ≡ map (with_meaning f) (if t then d ∷ [] else [])
last_seen f true d = refl
last_seen f false d = refl

kept_seen : {M N : Type 0} (f : M → N) (depth : ℕ) (d : Declared M) (ds : List (Declared M))
    → kept depth (with_meaning f d) (map (with_meaning f) ds) ≡ map (with_meaning f) (kept depth d ds)
kept_seen f depth d [] = last_seen f (nat_lt d.depth depth) d
kept_seen f depth d (e ∷ ds) = refl

pub left_seen : {M N : Type 0} (f : M → N) (depth : ℕ) (ds : List (Declared M))
    → left depth (map (with_meaning f) ds) ≡ map (with_meaning f) (left depth ds)
left_seen f depth [] = refl
left_seen f depth (d ∷ ds) = ap (kept depth (with_meaning f d)) (left_seen f depth ds) ∙ kept_seen f depth d (left depth ds)

one_seen : {M N : Type 0} (f : M → N) (t : Bool) (meaning : M) (d : Declared M)
    → (if t then with_meaning f (record d { meaning = meaning }) else with_meaning f d) ≡ with_meaning f (if t then record d { meaning = meaning } else d)
one_seen f true meaning d = refl
one_seen f false meaning d = refl

in_changed_seen : {M N : Type 0} (f : M → N) (symbol : ℕ) (meaning : M) (d : Declared M) (ds rest : List (Declared M)) (o : Option (Declared M))
    → changed_in symbol (f meaning) (with_meaning f d) (map (with_meaning f) ds) (map (with_meaning f) rest) (option_map (with_meaning f) o)
    ≡ map (with_meaning f) (changed_in symbol meaning d ds rest o)
in_changed_seen f symbol meaning d ds rest (Some x) = refl
in_changed_seen f symbol meaning d ds rest None = ap (λ x. x ∷ map (with_meaning f) ds) (one_seen f (d.symbol == symbol) meaning d)

pub changed_seen : {M N : Type 0} (f : M → N) (symbol : ℕ) (meaning : M) (ds : List (Declared M))
    → changed symbol (f meaning) (map (with_meaning f) ds) ≡ map (with_meaning f) (changed symbol meaning ds)
changed_seen f symbol meaning [] = refl
changed_seen f symbol meaning (d ∷ ds) =
    ap (λ xs. changed_in symbol (f meaning) (with_meaning f d) (map (with_meaning f) ds) xs (visible symbol (map (with_meaning f) ds)))
    (changed_seen f symbol meaning ds)
    ∙ ap (changed_in symbol (f meaning) (with_meaning f d) (map (with_meaning f) ds) (map (with_meaning f) (changed symbol meaning ds)))
    (visible_seen f symbol ds)
    ∙ in_changed_seen f symbol meaning d ds (changed symbol meaning ds) (visible symbol ds)

from_one : {M N : Type 0} (f : M → N) (t : Bool) (d : Declared M) (ds : List (Declared M))
    → (if t then with_meaning f d ∷ map (with_meaning f) ds else map (with_meaning f) ds) ≡ map (with_meaning f) (if t then d ∷ ds else ds)
from_one f true d ds = refl
from_one f false d ds = refl

pub from_seen : {M N : Type 0} (f : M → N) (depth : ℕ) (ds : List (Declared M))
    → declared_from depth (map (with_meaning f) ds) ≡ map (with_meaning f) (declared_from depth ds)
from_seen f depth [] = refl
from_seen f depth (d ∷ ds) =
    ap (λ xs. if d.depth == depth then with_meaning f d ∷ xs else xs) (from_seen f depth ds)
    ∙ from_one f (d.depth == depth) d (declared_from depth ds)

put_seen : {M N : Type 0} (f : M → N) (depth : ℕ) (ds : List (Declared M))
    → map (put_at depth) (map (with_meaning f) ds) ≡ map (with_meaning f) (map (put_at depth) ds)
put_seen f depth [] = refl
put_seen f depth (d ∷ ds) = ap (λ xs. with_meaning f (put_at depth d) ∷ xs) (put_seen f depth ds)

pub at_seen : {M N : Type 0} (f : M → N) (depth : ℕ) (ds es : List (Declared M))
    → declared_at depth (map (with_meaning f) ds) (map (with_meaning f) es) ≡ map (with_meaning f) (declared_at depth ds es)
at_seen f depth ds es =
    ap (λ xs. map (with_meaning f) ds ++ xs) (put_seen f depth es) ∙ sym (map-append (with_meaning f) ds (map (put_at depth) es))

-- 2. Scopes.

-- where the innermost scope ends
pub left_is : (n : Naming) (s : InScope) (env : Env) → with_scopes n (left_scope s) env ≡ names.left_scope (with_scopes n s env)
left_is n s env = λ i. record (with_scopes n (left_scope s) env) {
  ordinary = sym (left_seen (meaning_seen n) s.depth s.ordinary) i;
  tag_names = sym (left_seen tag_meaning_seen s.depth s.tags) i;
}

prototype_is : (n : Naming) (s : InScope) (env : Env)
    → with_scopes n (with_prototype s) env ≡ record (with_scopes n s env) { prototype = names.prototype_of (with_scopes n s env) }
prototype_is n s env = λ i. record (with_scopes n s env) {
  prototype = record {
    ordinary = sym (from_seen (meaning_seen n) s.depth s.ordinary) i;
    tags = sym (from_seen tag_meaning_seen s.depth s.tags) i;
  };
}

kept_by : (t : Bool) (n : Naming) (s : InScope) (env : Env)
    → with_scopes n (if t then with_prototype s else s) env
    ≡ (if t then record (with_scopes n s env) { prototype = names.prototype_of (with_scopes n s env) } else with_scopes n s env)
kept_by true n s env = prototype_is n s env
kept_by false n s env = refl

-- where it is that of a parameter list
pub kept_is : (own : Bool) (n : Naming) (s : InScope) (env : Env)
    → with_scopes n (left_scope (with_kept own s)) env ≡ names.left_scope (kept_prototype own (with_scopes n s env))
kept_is own n s env = left_is n (with_kept own s) env ∙ ap names.left_scope (kept_by (own && (s.depth == 1)) n s env)

-- where a body begins
pub parameters_are : (n : Naming) (s : InScope) (env : Env) → with_scopes n (with_parameters s) env ≡ names.with_parameters (with_scopes n s env)
parameters_are n s env = λ i. record (with_scopes n (with_parameters s) env) {
  ordinary = sym (at_seen (meaning_seen n) s.depth s.ordinary s.kept_ordinary) i;
  tag_names = sym (at_seen tag_meaning_seen s.depth s.tags s.kept_tags) i;
}

pub body_is : (n : Naming) (s : InScope) (env : Env)
    → with_scopes n (with_parameters (record s { depth = s.depth + 1 })) env ≡ names.with_parameters (names.entered (with_scopes n s env))
body_is n s env = parameters_are n (record s { depth = s.depth + 1 }) env

-- one declaration more
pub name_is : (n : Naming) (symbol : ℕ) (meaning : held.Meaning) (s : InScope) (env : Env)
    → with_scopes n (with_name symbol meaning s) env ≡ with_declared symbol (meaning_seen n meaning) (with_scopes n s env)
name_is n symbol meaning s env = λ i. record (with_scopes n (with_name symbol meaning s) env) {
  ordinary = map-append (with_meaning (meaning_seen n)) s.ordinary (record { symbol = symbol; depth = s.depth; meaning = meaning } ∷ []) i;
}

pub tag_is : (n : Naming) (symbol : ℕ) (meaning : held_tag.TagMeaning) (s : InScope) (env : Env)
    → with_scopes n (with_tag symbol meaning s) env ≡ names.with_tag_name symbol (tag_meaning_seen meaning) (with_scopes n s env)
tag_is n symbol meaning s env = λ i. record (with_scopes n (with_tag symbol meaning s) env) {
  tag_names = map-append (with_meaning tag_meaning_seen) s.tags (record { symbol = symbol; depth = s.depth; meaning = meaning } ∷ []) i;
}

-- the visible declaration has another meaning
pub change_is : (n : Naming) (symbol : ℕ) (meaning : held.Meaning) (s : InScope) (env : Env)
    → with_scopes n (record s { ordinary = changed symbol meaning s.ordinary }) env ≡ renamed symbol (meaning_seen n meaning) (with_scopes n s env)
change_is n symbol meaning s env = λ i. record (with_scopes n s env) {
  ordinary = sym (changed_seen (meaning_seen n) symbol meaning s.ordinary) i;
}

-- 3. What is found.

pub meaning_is : (n : Naming) (symbol : ℕ) (s : InScope) (env : Env)
    → meaning_of (with_scopes n s env) symbol ≡ option_map (meaning_seen n) (meaning_in (visible symbol s.ordinary))
unfolding meaning_of
meaning_is n symbol s env = any_seen (meaning_seen n) symbol s.ordinary

pub here_is : (n : Naming) (symbol : ℕ) (s : InScope) (env : Env)
    → meaning_here (with_scopes n s env) symbol ≡ option_map (meaning_seen n) (meaning_in (at_depth s.depth (visible symbol s.ordinary)))
unfolding meaning_here
here_is n symbol s env = inner_seen (meaning_seen n) s.depth symbol s.ordinary

pub tag_seen_is : (n : Naming) (here : Bool) (symbol : ℕ) (s : InScope) (env : Env)
    → names.tag_seen (with_scopes n s env) here symbol ≡ option_map tag_meaning_seen (tag_in s here symbol)
tag_seen_is n true symbol s env = inner_seen tag_meaning_seen s.depth symbol s.tags
tag_seen_is n false symbol s env = any_seen tag_meaning_seen symbol s.tags

-- 4. Declarations without linkage.

declared_by : {A : Type 0} (a : A) (b : Bool) (f : Env → Env) (env : Env)
    → and_then (if not b then Some (a, env) else None) (λ _. λ (e : Env). Some (a, f e)) ≡ (if b then None else Some (a, f env))
declared_by a true f env = refl
declared_by a false f env = refl

pub declare_is : (at : ℕ) (meaning : Meaning) (env : Env)
    → declare at meaning env
    ≡ (if is_some (meaning_here env (symbol_of env at)) then None else Some (tt, with_declared (symbol_of env at) meaning env))
unfolding declare
declare_is at meaning env =
    declared_by tt (is_some (meaning_here env (symbol_of env at))) (with_declared (symbol_of env at) meaning) env

-- the symbol of a token is by the text alone
pub symbol_is : (n : Naming) (t : TokenText) (state : State) (env : Env) (at : ℕ) → symbol_of (known_by n t state env) at ≡ symbol_in t (slice_get t.list at)
unfolding symbol_of
symbol_is n t state env at = refl

same_some : {A B : Type 0} (f : A → B) (o : Option A) → is_some (option_map f o) ≡ is_some o
same_some f None = refl
same_some f (Some a) = refl

-- whether it is declared in this scope
pub taken_is : (n : Naming) (t : TokenText) (state : State) (env : Env) (at symbol : ℕ) → symbol ≡ symbol_in t (slice_get t.list at)
    → is_some (meaning_here (known_by n t state env) (symbol_of (known_by n t state env) at))
    ≡ is_some (meaning_in (at_depth (state.names).depth (visible symbol (state.names).ordinary)))
taken_is n t state env at symbol e =
    ap (λ k. is_some (meaning_here (known_by n t state env) k)) (symbol_is n t state env at ∙ sym e)
    ∙ ap is_some (here_is n symbol state.names (with_tables n t state env))
    ∙ same_some (meaning_seen n) (meaning_in (at_depth (state.names).depth (visible symbol (state.names).ordinary)))

-- a second declaration
pub declare_taken : (n : Naming) (t : TokenText) (state : State) (env : Env) (at symbol : ℕ) (meaning : Meaning) → symbol ≡ symbol_in t (slice_get t.list at)
    → is_some (meaning_in (at_depth (state.names).depth (visible symbol (state.names).ordinary))) ≡ true
    → declare at meaning (known_by n t state env) ≡ None
declare_taken n t state env at symbol meaning e taken =
    declare_is at meaning (known_by n t state env)
    ∙ ap (λ b. if b then None else Some (tt, with_declared (symbol_of (known_by n t state env) at) meaning (known_by n t state env)))
    (taken_is n t state env at symbol e ∙ taken)

-- the first one
pub declare_new : (n : Naming) (t : TokenText) (state : State) (env : Env) (at symbol : ℕ) (meaning : held.Meaning) → symbol ≡ symbol_in t (slice_get t.list at)
    → is_some (meaning_in (at_depth (state.names).depth (visible symbol (state.names).ordinary))) ≡ false
    → declare at (meaning_seen n meaning) (known_by n t state env)
    ≡ Some (tt, with_scopes n (with_name symbol meaning state.names) (with_tables n t state env))
declare_new n t state env at symbol meaning e taken =
    declare_is at (meaning_seen n meaning) (known_by n t state env)
    ∙ ap (λ b. if b then None else Some (tt, with_declared (symbol_of (known_by n t state env) at) (meaning_seen n meaning) (known_by n t state env)))
    (taken_is n t state env at symbol e ∙ taken)
    ∙ ap (λ k. Some (tt, with_declared k (meaning_seen n meaning) (known_by n t state env))) (symbol_is n t state env at ∙ sym e)
    ∙ ap (λ x. Some (tt, x)) (sym (name_is n symbol meaning state.names (with_tables n t state env)))

typedef_by : {A : Type 0} (b : Bool) (f g : Env → A) (env : Env) → (if b then f else g) env ≡ (if b then f env else g env)
typedef_by true f g env = refl
typedef_by false f g env = refl

-- a typedef name again, or as another identifier
pub declare_typedef_is : (at : ℕ) (qual : Qualified) (env : Env)
    → declare_typedef at qual env
    ≡ (if is_same_typedef qual (meaning_here env (symbol_of env at)) then Some (tt, env) else declare at (a_typedef qual) env)
unfolding declare_typedef
declare_typedef_is at qual env =
    typedef_by (is_same_typedef qual (meaning_here env (symbol_of env at))) (pure tt) (declare at (a_typedef qual)) env

typedef_if : (n : Naming) (t : TokenText) (state : State) (env : Env) (at symbol : ℕ) (qual : Qualified) (b : Bool) → symbol ≡ symbol_in t (slice_get t.list at)
    → is_same_typedef qual (meaning_here (known_by n t state env) symbol) ≡ b
    → declare_typedef at qual (known_by n t state env) ≡ (if b then Some (tt, known_by n t state env) else declare at (a_typedef qual) (known_by n t state env))
typedef_if n t state env at symbol qual b e is =
    declare_typedef_is at qual (known_by n t state env)
    ∙ ap (λ x. if x then Some (tt, known_by n t state env) else declare at (a_typedef qual) (known_by n t state env))
    (ap (λ k. is_same_typedef qual (meaning_here (known_by n t state env) k)) (symbol_is n t state env at ∙ sym e) ∙ is)

pub typedef_again : (n : Naming) (t : TokenText) (state : State) (env : Env) (at symbol : ℕ) (qual : Qualified) → symbol ≡ symbol_in t (slice_get t.list at)
    → is_same_typedef qual (meaning_here (known_by n t state env) symbol) ≡ true
    → declare_typedef at qual (known_by n t state env) ≡ Some (tt, known_by n t state env)
typedef_again n t state env at symbol qual e is = typedef_if n t state env at symbol qual true e is

pub typedef_new : (n : Naming) (t : TokenText) (state : State) (env : Env) (at symbol : ℕ) (qual : Qualified) → symbol ≡ symbol_in t (slice_get t.list at)
    → is_same_typedef qual (meaning_here (known_by n t state env) symbol) ≡ false
    → declare_typedef at qual (known_by n t state env) ≡ declare at (a_typedef qual) (known_by n t state env)
typedef_new n t state env at symbol qual e is = typedef_if n t state env at symbol qual false e is
