-- Enumerations, by the steps of the definition.
use Rattle.std.proofs.Common.{◌≡◌, ℕ, zero, suc, ◌<◌, ◌≤◌, Bool, true, false, List, [], ◌∷◌, length, refl, sym, ap, ◌∙◌, subst, inl, inr, arith}
use Rattle.std.specs.Prelude.{slice_get, slice_set, vec_len, Option, Some, None}
use Rattle.std.proofs.lemmas.Option.{slice_get_cases}
use Rattle.c_lex.specs.TokenText.{TokenText}
use Rattle.c_types.specs.Types.{enumeration}
use Rattle.c_types.specs.declared.tags.TagKind.{TagKind}
use Rattle.typing_env.specs.Env.{Env, TagMeaning, a_tag, an_enumeration, and_then, symbol_in, symbol_of}
use Rattle.typing_env.specs.Names.{tag_seen, with_tag_name, with_new_enumeration}
use Rattle.typing_words.specs.Words.{plain, flag_at, flagged, enumeration_reference, enumeration_seen, name_enumeration, open_enumeration}
use Rattle.typing_words.specs.Words.{close_enumeration}
use Rattle.type_scope.specs.InScope.{InScope, tag_in, with_tag}
use Rattle.type_scope.specs.Known.{Naming, with_scopes, with_tables, known_by}
use Rattle.type_scope.specs.declared.state.State.{State}
use Rattle.type_scope.specs.declared.rows.TagMeaning as held
use Rattle.type_scope.specs.declared.rows.TagMeaning.TheVariants as tag
use Rattle.type_scope.proofs.Seen.{symbol_is, tag_is}
use Rattle.type_declarators.proofs.Meanings.{tag_stands}

-- 1. One that is named by its tag.

pub no_tag_named : (env : Env) → enumeration_reference None env ≡ None
unfolding enumeration_reference
no_tag_named env = refl

named_listed : (at number : ℕ) (env : Env) → tag_seen env false (symbol_of env at) ≡ Some (an_enumeration number)
    → flag_at number env.enumerations ≡ true → enumeration_reference (Some at) env ≡ Some (plain (enumeration number), env)
unfolding enumeration_reference enumeration_seen
named_listed at number env e is = rw (e, is) refl

named_unlisted : (at number : ℕ) (env : Env) → tag_seen env false (symbol_of env at) ≡ Some (an_enumeration number)
    → flag_at number env.enumerations ≡ false → enumeration_reference (Some at) env ≡ None
unfolding enumeration_reference enumeration_seen
named_unlisted at number env e is = rw (e, is) refl

named_other : (at : ℕ) (kind : TagKind) (number : ℕ) (env : Env) → tag_seen env false (symbol_of env at) ≡ Some (a_tag kind number)
    → enumeration_reference (Some at) env ≡ None
unfolding enumeration_reference enumeration_seen
named_other at kind number env e = rw e refl

named_nothing : (at : ℕ) (env : Env) → tag_seen env false (symbol_of env at) ≡ None → enumeration_reference (Some at) env ≡ None
unfolding enumeration_reference enumeration_seen
named_nothing at env e = rw e refl

pub listed_found : (n : Naming) (t : TokenText) (state : State) (env : Env) (at symbol number : ℕ) (m : held.TagMeaning)
    → symbol ≡ symbol_in t (slice_get t.list at) → Some m ≡ tag_in state.names false symbol → m ≡ tag.Enumerated number
    → flag_at number (state.enumerations).items ≡ true
    → enumeration_reference (Some at) (known_by n t state env) ≡ Some (plain (enumeration number), known_by n t state env)
listed_found n t state env at symbol number m e is m_is flag =
    named_listed at number (known_by n t state env)
    (tag_stands n t state env false at symbol (Some (tag.Enumerated number)) e (ap (λ x. Some x) (sym m_is) ∙ is)) flag

pub unlisted_refused : (n : Naming) (t : TokenText) (state : State) (env : Env) (at symbol number : ℕ) (m : held.TagMeaning)
    → symbol ≡ symbol_in t (slice_get t.list at) → Some m ≡ tag_in state.names false symbol → m ≡ tag.Enumerated number
    → flag_at number (state.enumerations).items ≡ false
    → enumeration_reference (Some at) (known_by n t state env) ≡ None
unlisted_refused n t state env at symbol number m e is m_is flag =
    named_unlisted at number (known_by n t state env)
    (tag_stands n t state env false at symbol (Some (tag.Enumerated number)) e (ap (λ x. Some x) (sym m_is) ∙ is)) flag

pub other_refused : (n : Naming) (t : TokenText) (state : State) (env : Env) (at symbol : ℕ) (kind : TagKind) (number : ℕ) (m : held.TagMeaning)
    → symbol ≡ symbol_in t (slice_get t.list at) → Some m ≡ tag_in state.names false symbol → m ≡ tag.Tagged kind number
    → enumeration_reference (Some at) (known_by n t state env) ≡ None
other_refused n t state env at symbol kind number m e is m_is =
    named_other at kind number (known_by n t state env)
    (tag_stands n t state env false at symbol (Some (tag.Tagged kind number)) e (ap (λ x. Some x) (sym m_is) ∙ is))

pub nothing_refused : (n : Naming) (t : TokenText) (state : State) (env : Env) (at symbol : ℕ)
    → symbol ≡ symbol_in t (slice_get t.list at) → None ≡ tag_in state.names false symbol
    → enumeration_reference (Some at) (known_by n t state env) ≡ None
nothing_refused n t state env at symbol e is =
    named_nothing at (known_by n t state env) (tag_stands n t state env false at symbol None e is)

-- 2. One whose list begins.

pub unnamed : (number : ℕ) (env : Env) → name_enumeration None number env ≡ Some (tt, env)
unfolding name_enumeration
unnamed number env = refl

declared_again : (at number : ℕ) (env : Env) (m : TagMeaning) → tag_seen env true (symbol_of env at) ≡ Some m → name_enumeration (Some at) number env ≡ None
unfolding name_enumeration
declared_again at number env m e = rw e refl

declared_first : (at number : ℕ) (env : Env) → tag_seen env true (symbol_of env at) ≡ None
    → name_enumeration (Some at) number env ≡ Some (tt, with_tag_name (symbol_of env at) (an_enumeration number) env)
unfolding name_enumeration
declared_first at number env e = rw e refl

pub again_refused : (n : Naming) (t : TokenText) (state : State) (env : Env) (at symbol number : ℕ) (m : held.TagMeaning)
    → symbol ≡ symbol_in t (slice_get t.list at) → Some m ≡ tag_in state.names true symbol
    → name_enumeration (Some at) number (known_by n t state env) ≡ None
again_refused n t state env at symbol number m e is =
    declared_again at number (known_by n t state env) _ (tag_stands n t state env true at symbol (Some m) e is)

pub first_named : (n : Naming) (t : TokenText) (state : State) (env : Env) (at symbol number : ℕ) (names : InScope)
    → symbol ≡ symbol_in t (slice_get t.list at) → None ≡ tag_in state.names true symbol → names ≡ with_tag symbol (tag.Enumerated number) state.names
    → name_enumeration (Some at) number (known_by n t state env) ≡ Some (tt, with_scopes n names (with_tables n t state env))
first_named n t state env at symbol number names e is now =
    declared_first at number (known_by n t state env) (tag_stands n t state env true at symbol None e is)
    ∙ ap (λ k. Some (tt {0}, with_tag_name k (an_enumeration number) (known_by n t state env))) (symbol_is n t state env at ∙ sym e)
    ∙ ap (λ x. Some (tt {0}, x)) (sym (tag_is n symbol (tag.Enumerated number) state.names (with_tables n t state env)))
    ∙ ap (λ s. Some (tt {0}, with_scopes n s (with_tables n t state env))) (sym now)

open_is : (of_list : Option ℕ) (env : Env)
    → open_enumeration of_list env
    ≡ and_then (name_enumeration of_list (length env.enumerations) (with_new_enumeration env)) (λ _. λ (e : Env). Some (length env.enumerations, e))
unfolding open_enumeration
open_is of_list env = refl

open_by : (n : Naming) (t : TokenText) (s s1 : State) (env : Env) (of_list : Option ℕ) (number : ℕ)
    → number ≡ vec_len s.enumerations → known_by n t s1 env ≡ with_new_enumeration (known_by n t s env)
    → open_enumeration of_list (known_by n t s env)
    ≡ and_then (name_enumeration of_list number (known_by n t s1 env)) (λ _. λ (e : Env). Some (number, e))
open_by n t s s1 env of_list number next known =
    open_is of_list (known_by n t s env)
    ∙ ap (λ m. and_then (name_enumeration of_list m (with_new_enumeration (known_by n t s env))) (λ _. λ (e : Env). Some (m, e)))
    (sym (s.enumerations).ok.0 ∙ sym next)
    ∙ ap (λ x. and_then (name_enumeration of_list number x) (λ _. λ (e : Env). Some (number, e))) (sym known)

pub opened : (n : Naming) (t : TokenText) (s s1 : State) (env now : Env) (of_list : Option ℕ) (number : ℕ)
    → number ≡ vec_len s.enumerations → known_by n t s1 env ≡ with_new_enumeration (known_by n t s env)
    → name_enumeration of_list number (known_by n t s1 env) ≡ Some (tt, now)
    → open_enumeration of_list (known_by n t s env) ≡ Some (number, now)
opened n t s s1 env now of_list number next known reads =
    open_by n t s s1 env of_list number next known ∙ ap (λ r. and_then r (λ _. λ (e : Env). Some (number, e))) reads

pub open_refused : (n : Naming) (t : TokenText) (s s1 : State) (env : Env) (of_list : Option ℕ) (number : ℕ)
    → number ≡ vec_len s.enumerations → known_by n t s1 env ≡ with_new_enumeration (known_by n t s env)
    → name_enumeration of_list number (known_by n t s1 env) ≡ None
    → open_enumeration of_list (known_by n t s env) ≡ None
open_refused n t s s1 env of_list number next known reads =
    open_by n t s s1 env of_list number next known ∙ ap (λ r. and_then r (λ _. λ (e : Env). Some (number, e))) reads

-- 3. One whose list ends.

pub flag_set : (number : ℕ) (flags : List Bool) → slice_set flags number true ≡ flagged number flags
flag_set number [] = refl
flag_set zero (b ∷ bs) = refl
flag_set (suc number) (b ∷ bs) = ap (λ xs. b ∷ xs) (flag_set number bs)

past : (flags : List Bool) (number : ℕ) → (number < length flags → ⊥) → length flags ≤ number
past flags number fits = elim (slice_get_cases flags number).1 as (λ _. length flags ≤ number) [ inl p ↦ absurd (fits p.1) | inr q ↦ q.0 ]

none_set : (number : ℕ) (flags : List Bool) → length flags ≤ number → flags ≡ flagged number flags
none_set number [] more = refl
none_set zero (b ∷ bs) more = absurd (omega arith)
none_set (suc number) (b ∷ bs) more = ap (λ xs. b ∷ xs) (none_set number bs (omega arith))

-- where there is no such enumeration
pub flag_none : (number len : ℕ) (flags : List Bool) → len ≡ length flags → (number < len → ⊥) → flags ≡ flagged number flags
flag_none number len flags count fits = none_set number flags (past flags number (λ less. fits (subst (λ m. number < m) (sym count) less)))

close_is : (number : ℕ) (env : Env)
    → close_enumeration number env ≡ Some (plain (enumeration number), record env { enumerations = flagged number env.enumerations })
unfolding close_enumeration
close_is number env = refl

pub closed : (n : Naming) (t : TokenText) (s : State) (env : Env) (number : ℕ) (flags : List Bool) → flags ≡ flagged number (s.enumerations).items
    → close_enumeration number (known_by n t s env) ≡ Some (plain (enumeration number), record (known_by n t s env) { enumerations = flags })
closed n t s env number flags e =
    close_is number (known_by n t s env)
    ∙ ap (λ bs. Some (plain (enumeration number), record (known_by n t s env) { enumerations = bs })) (sym e)
