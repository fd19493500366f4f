-- Structures and unions by their tags, by the steps of the definition.
use Rattle.std.proofs.Common.{◌≡◌, ℕ, Bool, true, false, length, map, refl, sym, ap, ◌∙◌}
use Rattle.std.specs.Prelude.{not, if◌then◌else◌, slice_get, Option, Some, None}
use Rattle.std.specs.Option.{option_map}
use Rattle.std.proofs.lemmas.List.{length-map}
use Rattle.c_lex.specs.TokenText.{TokenText}
use Rattle.c_types.specs.declared.tags.TagKind.{TagKind}
use Rattle.typing_env.specs.Env.{Env, and_then, a_tag, an_enumeration, symbol_in, symbol_of}
use Rattle.typing_env.specs.Names.{tag_seen, with_tag_name, with_new_tag}
use Rattle.typing_env.specs.Seen as seen
use Rattle.typing_words.specs.Words.{plain, tagged, is_kind, new_tag, declare_tag, tag_or_new, reference, has_members, open_tag}
use Rattle.type_scope.specs.InScope.{InScope, tag_in, with_tag}
use Rattle.type_scope.specs.Known.{Naming, tag_meaning_seen, with_scopes, with_tables, known_by}
use Rattle.type_scope.specs.declared.state.State.{State}
use Rattle.type_scope.specs.declared.rows.TagMeaning as held
use Rattle.type_scope.specs.declared.rows.TagMeaning.TheVariants as tag
use Rattle.type_scope.proofs.Seen.{symbol_is, tag_is}
use Rattle.type_declarators.proofs.Meanings.{tag_stands}

-- 1. A new one.

counted : (s : State) → length (map seen.tag_seen s.tags) ≡ length s.tags
counted s = length-map s.tags seen.tag_seen

declare_is : (at : ℕ) (kind : TagKind) (env : Env)
    → declare_tag at kind env
    ≡ Some (length env.tags, with_tag_name (symbol_of (with_new_tag kind env) at) (a_tag kind (length env.tags)) (with_new_tag kind env))
unfolding declare_tag new_tag
declare_is at kind env = refl

pub declared : (n : Naming) (t : TokenText) (s s1 : State) (env : Env) (at symbol : ℕ) (kind : TagKind) (number : ℕ) (names : InScope)
    → symbol ≡ symbol_in t (slice_get t.list at) → number ≡ length s.tags → known_by n t s1 env ≡ with_new_tag kind (known_by n t s env)
    → names ≡ with_tag symbol (tag.Tagged kind number) s1.names
    → declare_tag at kind (known_by n t s env) ≡ Some (number, with_scopes n names (with_tables n t s1 env))
declared n t s s1 env at symbol kind number names e next known now =
    declare_is at kind (known_by n t s env)
    ∙ ap (λ m. Some (m, with_tag_name (symbol_of (with_new_tag kind (known_by n t s env)) at) (a_tag kind m) (with_new_tag kind (known_by n t s env))))
    (counted s ∙ sym next)
    ∙ ap (λ x. Some (number, with_tag_name (symbol_of x at) (a_tag kind number) x)) (sym known)
    ∙ ap (λ k. Some (number, with_tag_name k (a_tag kind number) (known_by n t s1 env))) (symbol_is n t s1 env at ∙ sym e)
    ∙ ap (λ x. Some (number, x)) (sym (tag_is n symbol (tag.Tagged kind number) s1.names (with_tables n t s1 env)))
    ∙ ap (λ x. Some (number, with_scopes n x (with_tables n t s1 env))) (sym now)

-- 2. The one of a tag, or a new one.

this_kind : (at : ℕ) (kind was : TagKind) (number : ℕ) (env : Env) → is_kind was kind ≡ true
    → tag_or_new at kind (Some (a_tag was number)) env ≡ Some (number, env)
unfolding tag_or_new
this_kind at kind was number env e = rw e refl

other_kind : (at : ℕ) (kind was : TagKind) (number : ℕ) (env : Env) → is_kind was kind ≡ false → tag_or_new at kind (Some (a_tag was number)) env ≡ None
unfolding tag_or_new
other_kind at kind was number env e = rw e refl

no_kind : (at : ℕ) (kind : TagKind) (number : ℕ) (env : Env) → tag_or_new at kind (Some (an_enumeration number)) env ≡ None
unfolding tag_or_new
no_kind at kind number env = refl

first_kind : (at : ℕ) (kind : TagKind) (env : Env) → tag_or_new at kind None env ≡ declare_tag at kind env
unfolding tag_or_new
first_kind at kind env = refl

-- what is found where the tag stands for something
found_by : (n : Naming) (t : TokenText) (s : State) (env : Env) (at symbol : ℕ) (kind : TagKind) (here : Bool) (o : Option held.TagMeaning)
    → symbol ≡ symbol_in t (slice_get t.list at) → o ≡ tag_in s.names here symbol
    → tag_or_new at kind (tag_seen (known_by n t s env) here (symbol_of (known_by n t s env) at)) (known_by n t s env)
    ≡ tag_or_new at kind (option_map tag_meaning_seen o) (known_by n t s env)
found_by n t s env at symbol kind here o e is =
    ap (λ m. tag_or_new at kind m (known_by n t s env)) (tag_stands n t s env here at symbol o e is)

pub kind_found : (n : Naming) (t : TokenText) (s : State) (env : Env) (at symbol : ℕ) (kind : TagKind) (here : Bool) (was : TagKind) (number : ℕ)
    (m : held.TagMeaning) → symbol ≡ symbol_in t (slice_get t.list at) → Some m ≡ tag_in s.names here symbol → m ≡ tag.Tagged was number
    → is_kind was kind ≡ true
    → tag_or_new at kind (tag_seen (known_by n t s env) here (symbol_of (known_by n t s env) at)) (known_by n t s env) ≡ Some (number, known_by n t s env)
kind_found n t s env at symbol kind here was number m e is m_is same =
    found_by n t s env at symbol kind here (Some (tag.Tagged was number)) e (ap (λ x. Some x) (sym m_is) ∙ is)
    ∙ this_kind at kind was number (known_by n t s env) same

pub kind_refused : (n : Naming) (t : TokenText) (s : State) (env : Env) (at symbol : ℕ) (kind : TagKind) (here : Bool) (was : TagKind) (number : ℕ)
    (m : held.TagMeaning) → symbol ≡ symbol_in t (slice_get t.list at) → Some m ≡ tag_in s.names here symbol → m ≡ tag.Tagged was number
    → is_kind was kind ≡ false
    → tag_or_new at kind (tag_seen (known_by n t s env) here (symbol_of (known_by n t s env) at)) (known_by n t s env) ≡ None
kind_refused n t s env at symbol kind here was number m e is m_is same =
    found_by n t s env at symbol kind here (Some (tag.Tagged was number)) e (ap (λ x. Some x) (sym m_is) ∙ is)
    ∙ other_kind at kind was number (known_by n t s env) same

pub list_refused : (n : Naming) (t : TokenText) (s : State) (env : Env) (at symbol : ℕ) (kind : TagKind) (here : Bool) (number : ℕ)
    (m : held.TagMeaning) → symbol ≡ symbol_in t (slice_get t.list at) → Some m ≡ tag_in s.names here symbol → m ≡ tag.Enumerated number
    → tag_or_new at kind (tag_seen (known_by n t s env) here (symbol_of (known_by n t s env) at)) (known_by n t s env) ≡ None
list_refused n t s env at symbol kind here number m e is m_is =
    found_by n t s env at symbol kind here (Some (tag.Enumerated number)) e (ap (λ x. Some x) (sym m_is) ∙ is)
    ∙ no_kind at kind number (known_by n t s env)

pub first_found : (n : Naming) (t : TokenText) (s : State) (env now : Env) (at symbol : ℕ) (kind : TagKind) (here : Bool) (number : ℕ)
    → symbol ≡ symbol_in t (slice_get t.list at) → None ≡ tag_in s.names here symbol
    → declare_tag at kind (known_by n t s env) ≡ Some (number, now)
    → tag_or_new at kind (tag_seen (known_by n t s env) here (symbol_of (known_by n t s env) at)) (known_by n t s env) ≡ Some (number, now)
first_found n t s env now at symbol kind here number e is made =
    found_by n t s env at symbol kind here None e is ∙ first_kind at kind (known_by n t s env) ∙ made

-- 3. One that is named by its tag alone.

pub no_tag : (alone : Bool) (kind : TagKind) (env : Env) → reference alone kind None env ≡ None
unfolding reference
no_tag alone kind env = refl

pub referred : (alone : Bool) (kind : TagKind) (at number : ℕ) (env now : Env)
    → tag_or_new at kind (tag_seen env alone (symbol_of env at)) env ≡ Some (number, now)
    → reference alone kind (Some at) env ≡ Some (plain (tagged kind number), now)
unfolding reference
referred alone kind at number env now e = rw e refl

pub not_referred : (alone : Bool) (kind : TagKind) (at : ℕ) (env : Env)
    → tag_or_new at kind (tag_seen env alone (symbol_of env at)) env ≡ None → reference alone kind (Some at) env ≡ None
unfolding reference
not_referred alone kind at env e = rw e refl

-- 4. One whose member list begins.

open_new : (kind : TagKind) (env : Env) → open_tag kind None env ≡ Some (length env.tags, with_new_tag kind env)
unfolding open_tag new_tag
open_new kind env = refl

pub new_opened : (n : Naming) (t : TokenText) (s s1 : State) (env : Env) (kind : TagKind) (number : ℕ) → number ≡ length s.tags
    → known_by n t s1 env ≡ with_new_tag kind (known_by n t s env)
    → open_tag kind None (known_by n t s env) ≡ Some (number, known_by n t s1 env)
new_opened n t s s1 env kind number next known =
    let k = known_by n t s env in
    open_new kind k ∙ ap (λ m. Some (m, with_new_tag kind k)) (counted s ∙ sym next) ∙ ap (λ e. Some (number, e)) (sym known)

-- one that has no members
begun : Option (ℕ × Env) → Option (ℕ × Env)
begun None = None
begun (Some p) = if not (has_members (slice_get (p.1).tags p.0)) then Some p else None

held_by : (b : Bool) (p : ℕ × Env) → and_then (if b then Some (tt {0}, p.1) else None) (λ _. λ (e : Env). Some (p.0, e)) ≡ (if b then Some p else None)
held_by true p = refl
held_by false p = refl

begun_by : (o : Option (ℕ × Env))
    → and_then o (λ (number : ℕ). λ (e : Env). and_then (if not (has_members (slice_get e.tags number)) then Some (tt {0}, e) else None)
    (λ _. λ (x : Env). Some (number, x)))
    ≡ begun o
unfolding begun
begun_by None = refl
begun_by (Some p) = held_by (not (has_members (slice_get (p.1).tags p.0))) p

open_is : (kind : TagKind) (at : ℕ) (env : Env) → open_tag kind (Some at) env ≡ begun (tag_or_new at kind (tag_seen env true (symbol_of env at)) env)
unfolding open_tag
open_is kind at env = begun_by (tag_or_new at kind (tag_seen env true (symbol_of env at)) env)

begun_if : (number : ℕ) (now : Env) (b : Bool) → has_members (slice_get now.tags number) ≡ b
    → begun (Some (number, now)) ≡ (if not b then Some (number, now) else None)
unfolding begun
begun_if number now b e = ap (λ x. if not x then Some (number, now) else None) e

pub opened : (kind : TagKind) (at number : ℕ) (env now : Env)
    → tag_or_new at kind (tag_seen env true (symbol_of env at)) env ≡ Some (number, now) → has_members (slice_get now.tags number) ≡ false
    → open_tag kind (Some at) env ≡ Some (number, now)
opened kind at number env now e none = open_is kind at env ∙ ap begun e ∙ begun_if number now false none

pub opened_twice : (kind : TagKind) (at number : ℕ) (env now : Env)
    → tag_or_new at kind (tag_seen env true (symbol_of env at)) env ≡ Some (number, now) → has_members (slice_get now.tags number) ≡ true
    → open_tag kind (Some at) env ≡ None
opened_twice kind at number env now e some = open_is kind at env ∙ ap begun e ∙ begun_if number now true some

begun_none : begun None ≡ None
unfolding begun
begun_none = refl

pub not_opened : (kind : TagKind) (at : ℕ) (env : Env) → tag_or_new at kind (tag_seen env true (symbol_of env at)) env ≡ None
    → open_tag kind (Some at) env ≡ None
not_opened kind at env e = open_is kind at env ∙ ap begun e ∙ begun_none
