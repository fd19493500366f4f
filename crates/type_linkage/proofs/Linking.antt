-- Declarations with linkage: what is known by a state before and after them.
use Rattle.std.proofs.Common.{◌≡◌, ℕ, Bool, true, false, List, [], map, refl, sym, ap, ◌∙◌, true≢false}
use Rattle.std.specs.Prelude.{◌==◌, not, ◌&&◌, ◌||◌, is_some, if◌then◌else◌, Option, Some, None}
use Rattle.std.specs.Option.{option_map}
use Rattle.std.proofs.lemmas.Bool.{eq-eqb, eqb-true, eqb-false, false_from_ne_true}
use Rattle.std.proofs.lemmas.Option.{same_Some}
use Rattle.c_lex.specs.TokenText.{TokenText}
use Rattle.c_types.specs.Types.{Qualified}
use Rattle.c_typed.specs.declared.tree.Slot.TheVariants as slot
use Rattle.c_typed.specs.declared.tree.Target.{Target}
use Rattle.c_typed.specs.declared.tree.Target.TheVariants as target
use Rattle.type_name_space.specs.Scopes.{Declared, visible, at_depth, changed}
use Rattle.typing_env.specs.Env as seen
use Rattle.typing_env.specs.Env.{Env, Meaning}
use Rattle.typing_env.specs.Names as names
use Rattle.typing_env.specs.Names.{Given, meaning_in, meaning_of, meaning_here, is_target, if_linked, linked_symbol, linkage_seen, target_visible, is_internal}
use Rattle.typing_env.specs.Names.{keeps_linkage, may_redeclare, agrees, may_stand, with_link, with_further, further, with_one_more, is_among, bound}
use Rattle.type_scope.specs.declared.rows.Linked.{Linked}
use Rattle.type_scope.specs.declared.rows.Meaning as held
use Rattle.type_scope.specs.declared.rows.Meaning.TheVariants as meaning
use Rattle.type_scope.specs.declared.state.State.{State}
use Rattle.type_scope.specs.Known.{Naming, known_by, meaning_seen, target_seen, linked_seen, with_meaning, with_scopes, with_tables, IsKnown}
use Rattle.type_scope.specs.InScope.{with_name}
use Rattle.type_scope.proofs.Seen.{any_seen, changed_seen, meaning_is, here_is, name_is, change_is}
use Rattle.type_scope.specs.Objects.{IsOneToOne}
use Rattle.type_linkage.specs.Linkage.{target_held, if_held, entity_in, prior_in, one_more_type}

-- 1. What an identifier stands for.

named_if : (t : Bool) (n : Naming) (a b : ℕ) → IsOneToOne n → (a == b) ≡ t → (n a == n b) ≡ t
named_if true n a b one e = eq-eqb (n a) (n b) (ap n (eqb-true a b e))
named_if false n a b one e =
    false_from_ne_true (n a == n b) (λ same. eqb-false a b e (one a b (eqb-true (n a) (n b) same)))

-- names are equal where numbers are
same_name : (n : Naming) → IsOneToOne n → (a b : ℕ) → (n a == n b) ≡ (a == b)
same_name n one a b = named_if (a == b) n a b one refl

same_target : (n : Naming) → IsOneToOne n → (a b : Target) → is_target (target_seen n a) (target_seen n b) ≡ is_target a b
same_target n one (target.Static a) (target.Static b) = same_name n one a b
same_target n one (target.Static a) (target.Function b) = refl
same_target n one (target.Static a) (target.Literal b) = refl
same_target n one (target.Function a) (target.Static b) = refl
same_target n one (target.Function a) (target.Function b) = refl
same_target n one (target.Function a) (target.Literal b) = refl
same_target n one (target.Literal a) (target.Static b) = refl
same_target n one (target.Literal a) (target.Function b) = refl
same_target n one (target.Literal a) (target.Literal b) = refl

target_is : (n : Naming) (m : Option held.Meaning) → target_visible (option_map (meaning_seen n) m) ≡ option_map (target_seen n) (target_held m)
target_is n None = refl
target_is n (Some (meaning.Object (slot.Static number) qual register)) = refl
target_is n (Some (meaning.Object (slot.Auto block decl) qual register)) = refl
target_is n (Some (meaning.Function number ty)) = refl
target_is n (Some (meaning.Constant z)) = refl
target_is n (Some (meaning.Typedef qual)) = refl

if_seen : {A B : Type 0} (f : A → B) (t : Bool) (a : A) → (if t then Some (f a) else None) ≡ option_map f (if t then Some a else None)
if_seen f true a = refl
if_seen f false a = refl

linked_is : (n : Naming) → IsOneToOne n → (t : Option Target) (l : Option Linked)
    → if_linked (option_map (target_seen n) t) (option_map (linked_seen n) l) ≡ option_map (linked_seen n) (if_held t l)
linked_is n one None None = refl
linked_is n one None (Some l) = refl
linked_is n one (Some t) None = refl
linked_is n one (Some t) (Some l) =
    ap (λ same. if same then Some (linked_seen n l) else None) (same_target n one l.target t)
    ∙ if_seen (linked_seen n) (is_target l.target t) l

-- the identifier with linkage that is spelled so
pub entity_is : (n : Naming) (t : TokenText) (s : State) (env : Env) (symbol : ℕ)
    → linked_symbol (known_by n t s env) symbol ≡ option_map (linked_seen n) (entity_in s symbol)
entity_is n t s env symbol = any_seen (linked_seen n) symbol s.linked

-- the one that the visible declaration declares
pub prior_is : (n : Naming) → IsOneToOne n → (t : TokenText) (s : State) (env : Env) (symbol : ℕ)
    → linkage_seen (known_by n t s env) symbol ≡ option_map (linked_seen n) (prior_in s symbol)
prior_is n one t s env symbol =
    ap (λ m. if_linked (target_visible m) (linked_symbol (known_by n t s env) symbol)) (meaning_is n symbol s.names (with_tables n t s env))
    ∙ ap (if_linked (target_visible (option_map (meaning_seen n) (meaning_in (visible symbol (s.names).ordinary))))) (entity_is n t s env symbol)
    ∙ ap (λ o. if_linked o (option_map (linked_seen n) (entity_in s symbol))) (target_is n (meaning_in (visible symbol (s.names).ordinary)))
    ∙ linked_is n one (target_held (meaning_in (visible symbol (s.names).ordinary))) (entity_in s symbol)

pub some_seen : {A B : Type 0} (f : A → B) (o : Option A) → is_some (option_map f o) ≡ is_some o
some_seen f None = refl
some_seen f (Some a) = refl

redeclare_by : (m : Option Meaning) (l : Option seen.Linked) → may_redeclare m l ≡ (not (is_some m) || is_some l)
redeclare_by None l = refl
redeclare_by (Some m) l = refl

-- whether it is declared in this scope
pub taken_here : (n : Naming) (t : TokenText) (s : State) (env : Env) (symbol : ℕ)
    → is_some (meaning_here (known_by n t s env) symbol) ≡ is_some (meaning_in (at_depth (s.names).depth (visible symbol (s.names).ordinary)))
taken_here n t s env symbol =
    ap is_some (here_is n symbol s.names (with_tables n t s env))
    ∙ some_seen (meaning_seen n) (meaning_in (at_depth (s.names).depth (visible symbol (s.names).ordinary)))

-- 2. Whether a declaration may stand.

stand_by : (k l r a b c : Bool) → k ≡ l → r ≡ a → b ≡ c → (k && (r && b)) ≡ (l && (a && c))
stand_by k l r a b c p q e = ap (λ x. x && (r && b)) p ∙ ap (λ x. l && (x && b)) q ∙ ap (λ x. l && (a && x)) e

pub stands : (n : Naming) → IsOneToOne n → (t : TokenText) (s : State) (env : Env) (q : Qualified) (given : Given) (symbol : ℕ)
    → may_stand q given symbol (known_by n t s env)
    ≡ (keeps_linkage (is_internal given (option_map (linked_seen n) (prior_in s symbol))) (option_map (linked_seen n) (entity_in s symbol))
    && ((not (is_some (meaning_in (at_depth (s.names).depth (visible symbol (s.names).ordinary)))) || is_some (prior_in s symbol))
    && agrees q (option_map (linked_seen n) (entity_in s symbol))))
stands n one t s env q given symbol =
    let prior = prior_is n one t s env symbol in
    let entity = entity_is n t s env symbol in
    stand_by _ _ _ _ _ _
    (ap (λ p. keeps_linkage (is_internal given p) (linked_symbol (known_by n t s env) symbol)) prior
    ∙ ap (keeps_linkage (is_internal given (option_map (linked_seen n) (prior_in s symbol)))) entity)
    (redeclare_by (meaning_here (known_by n t s env) symbol) (linkage_seen (known_by n t s env) symbol)
    ∙ ap (λ b. not b || is_some (linkage_seen (known_by n t s env) symbol)) (taken_here n t s env symbol)
    ∙ ap (λ o. not (is_some (meaning_in (at_depth (s.names).depth (visible symbol (s.names).ordinary)))) || is_some o) prior
    ∙ ap (λ b. not (is_some (meaning_in (at_depth (s.names).depth (visible symbol (s.names).ordinary)))) || b)
    (some_seen (linked_seen n) (prior_in s symbol)))
    (ap (agrees q) entity)

-- 3. What declarations make known.

further_by : (symbol : ℕ) (q : Qualified) (ls : List (Declared seen.Linked)) (e : Option seen.Linked) (l : seen.Linked) → e ≡ Some l
    → further symbol q e ls ≡ (if is_among q l.types then ls else changed symbol (with_one_more q l) ls)
further_by symbol q ls e l is = ap (λ o. further symbol q o ls) is

-- a type that is there already
among_by : {A : Type 0} (a b : A) (t : Bool) (l : seen.Linked) → (if t then None else Some l) ≡ None → (if t then a else b) ≡ a
among_by a b true l e = refl
among_by a b false l e = cc

more_by : {A : Type 0} (f : seen.Linked → A) (a : A) (t : Bool) (l m : seen.Linked) → Some m ≡ (if t then None else Some l) → (if t then a else f l) ≡ f m
more_by f a true l m e = cc
more_by f a false l m e = cc

pub further_none : (n : Naming) (t : TokenText) (s : State) (env : Env) (symbol : ℕ) (q : Qualified) → entity_in s symbol ≡ None
    → known_by n t s env ≡ with_further symbol q (known_by n t s env)
further_none n t s env symbol q e = λ i. record (known_by n t s env) {
  linked = ap (λ o. further symbol q o (map (with_meaning (linked_seen n)) s.linked))
      (sym (entity_is n t s env symbol ∙ ap (option_map (linked_seen n)) e)) i;
}

pub further_same : (n : Naming) (t : TokenText) (s : State) (env : Env) (symbol : ℕ) (q : Qualified) (l : Linked) → entity_in s symbol ≡ Some l
    → None ≡ one_more_type q (linked_seen n l)
    → known_by n t s env ≡ with_further symbol q (known_by n t s env)
further_same n t s env symbol q l e none = λ i. record (known_by n t s env) {
  linked = sym (further_by symbol q (map (with_meaning (linked_seen n)) s.linked) (linked_symbol (known_by n t s env) symbol) (linked_seen n l)
      (entity_is n t s env symbol ∙ ap (option_map (linked_seen n)) e)
      ∙ among_by (map (with_meaning (linked_seen n)) s.linked)
      (changed symbol (with_one_more q (linked_seen n l)) (map (with_meaning (linked_seen n)) s.linked))
      (is_among q ((linked_seen n l).types)) (with_one_more q (linked_seen n l)) (sym none)) i;
}

pub further_new : (n : Naming) (t : TokenText) (s : State) (env : Env) (symbol : ℕ) (q : Qualified) (l row : Linked) → entity_in s symbol ≡ Some l
    → Some (linked_seen n row) ≡ one_more_type q (linked_seen n l)
    → known_by n t (record s { linked = changed symbol row s.linked }) env ≡ with_further symbol q (known_by n t s env)
further_new n t s env symbol q l row e more = λ i. record (known_by n t s env) {
  linked = (sym (changed_seen (linked_seen n) symbol row s.linked)
      ∙ sym (further_by symbol q (map (with_meaning (linked_seen n)) s.linked) (linked_symbol (known_by n t s env) symbol) (linked_seen n l)
      (entity_is n t s env symbol ∙ ap (option_map (linked_seen n)) e)
      ∙ more_by (λ m. changed symbol m (map (with_meaning (linked_seen n)) s.linked)) (map (with_meaning (linked_seen n)) s.linked)
      (is_among q ((linked_seen n l).types)) (with_one_more q (linked_seen n l)) (linked_seen n row) more)) i;
}

-- of an object alone
linked_then : (b : Bool) (l : Linked) → is_some (if b then Some l else None) ≡ true → (if b then Some l else None) ≡ Some l
linked_then true l is = refl
linked_then false l is = absurd (true≢false (sym is))

linked_if : (t : Option Target) (e : Option Linked) → is_some (if_held t e) ≡ true → if_held t e ≡ e
linked_if None e is = absurd (true≢false (sym is))
linked_if (Some t) None is = absurd (true≢false (sym is))
linked_if (Some t) (Some l) is = linked_then (is_target l.target t) l is

none_if : {A : Type 0} (o : Option A) → is_some o ≡ false → o ≡ None
none_if None is = refl
none_if (Some a) is = absurd (true≢false is)

of_object : (n : Naming) → IsOneToOne n → (t : TokenText) (s : State) (env : Env) (symbol number : ℕ)
    → if_linked (Some (target.Static (n number))) (linked_symbol (known_by n t s env) symbol)
    ≡ option_map (linked_seen n) (if_held (Some (target.Static number)) (entity_in s symbol))
of_object n one t s env symbol number =
    ap (if_linked (Some (target.Static (n number)))) (entity_is n t s env symbol)
    ∙ linked_is n one (Some (target.Static number)) (entity_in s symbol)

pub further_of_linked : (n : Naming) → IsOneToOne n → (t : TokenText) (s : State) (env : Env) (symbol number : ℕ) (q : Qualified)
    → is_some (if_held (Some (target.Static number)) (entity_in s symbol)) ≡ true
    → with_further symbol q (known_by n t s env) ≡ names.with_further_of (target.Static (n number)) symbol q (known_by n t s env)
further_of_linked n one t s env symbol number q is = λ i. record (known_by n t s env) {
  linked = ap (λ o. further symbol q o (known_by n t s env).linked)
      (entity_is n t s env symbol
      ∙ sym (of_object n one t s env symbol number
      ∙ ap (option_map (linked_seen n)) (linked_if (Some (target.Static number)) (entity_in s symbol) is))) i;
}

pub further_of_other : (n : Naming) → IsOneToOne n → (t : TokenText) (s : State) (env : Env) (symbol number : ℕ) (q : Qualified)
    → is_some (if_held (Some (target.Static number)) (entity_in s symbol)) ≡ false
    → known_by n t s env ≡ names.with_further_of (target.Static (n number)) symbol q (known_by n t s env)
further_of_other n one t s env symbol number q is = λ i. record (known_by n t s env) {
  linked = ap (λ o. further symbol q o (known_by n t s env).linked)
      (sym (of_object n one t s env symbol number
      ∙ ap (option_map (linked_seen n)) (none_if (if_held (Some (target.Static number)) (entity_in s symbol)) is))) i;
}

-- a name of this scope, or a further one
bound_by : (symbol : ℕ) (m : Meaning) (env : Env) (t : Bool) → is_some (meaning_here env symbol) ≡ t
    → bound symbol m env ≡ (if t then names.renamed symbol m env else names.with_declared symbol m env)
bound_by symbol m env t e = ap (λ b. if b then names.renamed symbol m env else names.with_declared symbol m env) e

pub bound_again : (n : Naming) (t : TokenText) (s : State) (env : Env) (symbol : ℕ) (m : held.Meaning)
    → is_some (meaning_in (at_depth (s.names).depth (visible symbol (s.names).ordinary))) ≡ true
    → with_scopes n (record (s.names) { ordinary = changed symbol m (s.names).ordinary }) (with_tables n t s env)
    ≡ bound symbol (meaning_seen n m) (known_by n t s env)
bound_again n t s env symbol m e =
    change_is n symbol m s.names (with_tables n t s env)
    ∙ sym (bound_by symbol (meaning_seen n m) (known_by n t s env) true (taken_here n t s env symbol ∙ e))

pub bound_new : (n : Naming) (t : TokenText) (s : State) (env : Env) (symbol : ℕ) (m : held.Meaning)
    → is_some (meaning_in (at_depth (s.names).depth (visible symbol (s.names).ordinary))) ≡ false
    → with_scopes n (with_name symbol m s.names) (with_tables n t s env) ≡ bound symbol (meaning_seen n m) (known_by n t s env)
bound_new n t s env symbol m e =
    name_is n symbol m s.names (with_tables n t s env)
    ∙ sym (bound_by symbol (meaning_seen n m) (known_by n t s env) false (taken_here n t s env symbol ∙ e))

-- what is known by a state, whatever else is known
pub is_known : (n : Naming) (t : TokenText) (s : State) (env was : Env) → env ≡ known_by n t s was → IsKnown n t s env
is_known n t s env was e = e ∙ sym (ap (known_by n t s) e)

-- 4. Whether a declaration may stand, by what is found.

pub rule_is : (n : Naming) → IsOneToOne n → (t : TokenText) (s : State) (env : Env) (q : Qualified) (given : Given) (symbol : ℕ) (prior entity : Option Linked)
    (i k r : Bool) → prior ≡ prior_in s symbol → entity ≡ entity_in s symbol → i ≡ is_internal given (option_map (linked_seen n) prior)
    → k ≡ keeps_linkage i (option_map (linked_seen n) entity)
    → r ≡ (not (is_some (meaning_in (at_depth (s.names).depth (visible symbol (s.names).ordinary)))) || is_some prior)
    → may_stand q given symbol (known_by n t s env) ≡ (k && (r && agrees q (option_map (linked_seen n) entity)))
rule_is n one t s env q given symbol prior entity i k r p e internal keeps free =
    stands n one t s env q given symbol
    ∙ stand_by _ _ _ _ _ _
    (sym (keeps ∙ ap (λ x. keeps_linkage x (option_map (linked_seen n) entity)) (internal ∙ ap (λ o. is_internal given (option_map (linked_seen n) o)) p)
    ∙ ap (λ o. keeps_linkage (is_internal given (option_map (linked_seen n) (prior_in s symbol))) (option_map (linked_seen n) o)) e))
    (sym (free ∙ ap (λ o. not (is_some (meaning_in (at_depth (s.names).depth (visible symbol (s.names).ordinary)))) || is_some o) p))
    (sym (ap (λ o. agrees q (option_map (linked_seen n) o)) e))

pub first_falls : (m k x : Bool) → m ≡ (k && x) → k ≡ false → true ≡ not m
first_falls m k x e f = sym (ap not e ∙ ap (λ k. not (k && x)) f)

pub second_falls : (m k r a : Bool) → m ≡ (k && (r && a)) → k ≡ true → r ≡ false → true ≡ not m
second_falls m k r a e f g = sym (ap not e ∙ ap (λ k. not (k && (r && a))) f ∙ ap (λ r. not (r && a)) g)

pub third_falls : (m k r a : Bool) → m ≡ (k && (r && a)) → k ≡ true → r ≡ true → a ≡ false → true ≡ not m
third_falls m k r a e f g h = sym (ap not e ∙ ap (λ k. not (k && (r && a))) f ∙ ap (λ r. not (r && a)) g ∙ ap not h)

pub all_stand : (m k r a : Bool) → m ≡ (k && (r && a)) → k ≡ true → r ≡ true → a ≡ true → false ≡ not m
all_stand m k r a e f g h = sym (ap not e ∙ ap (λ k. not (k && (r && a))) f ∙ ap (λ r. not (r && a)) g ∙ ap not h)

pub is_refused : (m : Bool) → true ≡ not m → m ≡ false
is_refused true e = e
is_refused false e = refl

pub is_kept : (m : Bool) → false ≡ not m → m ≡ true
is_kept true e = refl
is_kept false e = e

-- what an identifier stands for, as it is seen

pub nothing_known : {A B : Type 0} (f : A → B) (o : Option A) → option_map f o ≡ None → o ≡ None
nothing_known f None e = refl
nothing_known f (Some a) e = cc

pub something_known : {A B : Type 0} (f : A → B) (o : Option A) (b : B) → option_map f o ≡ Some b → (a : A) × ((o ≡ Some a) × (f a ≡ b))
something_known f None b e = cc
something_known f (Some a) b e = (a, (refl, same_Some (f a) b e))

pub object_seen : (n : Naming) (t : Target) → names.name_of_object (target_seen n t) ≡ option_map n (names.name_of_object t)
object_seen n (target.Static a) = refl
object_seen n (target.Function a) = refl
object_seen n (target.Literal a) = refl

pub function_seen : (n : Naming) (t : Target) → names.number_of_function (target_seen n t) ≡ names.number_of_function t
function_seen n (target.Static a) = refl
function_seen n (target.Function a) = refl
function_seen n (target.Literal a) = refl
