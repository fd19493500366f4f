-- Members, by the steps of the definition.
use Rattle.std.proofs.Common.{◌≡◌, ℕ, Bool, true, false, List, [], ◌∷◌, ◌++◌, map, refl, sym, ap, ◌∙◌, true≢false}
use Rattle.std.specs.Prelude.{not, if◌then◌else◌, slice_get, Option, Some, None}
use Rattle.std.proofs.lemmas.List.{map-append}
use Rattle.std.proofs.lemmas.Option.{same_Some}
use Rattle.c_lex.specs.TokenText.{TokenText, text_at}
use Rattle.c_ast.specs.declared.declaration.Base.{Base}
use Rattle.c_types.specs.Types.{Qualified}
use Rattle.c_types.specs.declared.tags.Member.{Member}
use Rattle.typing_env.specs.Env.{Env, and_then, spelling, symbol_in, symbol_of}
use Rattle.typing_env.specs.Seen.{SeenMember, member_seen, tag_seen}
use Rattle.typing_words.specs.Tags.{is_complete}
use Rattle.typing_words.specs.Words.{named_member, is_unnamed, unnamed_member}
use Rattle.type_scope.specs.Known.{Naming, known_by}
use Rattle.type_scope.specs.declared.state.State.{State}
use Rattle.type_scope.proofs.Seen.{symbol_is}
use Rattle.type_declarators.specs.Members.{IsAdded}

pub no_name : (q : Qualified) (env : Env) → named_member None q env ≡ None
unfolding named_member
no_name q env = refl

complete_by : {A : Type 0} (b : Bool) (f : Env → A) (env : Env)
    → and_then (if b then Some (tt {0}, env) else None) (λ _. λ (e : Env). Some (f e, e)) ≡ (if b then Some (f env, env) else None)
complete_by true f env = refl
complete_by false f env = refl

member_is : (at : ℕ) (q : Qualified) (env : Env)
    → named_member (Some at) q env ≡ (if is_complete env.tags q.ty then Some (record { name = spelling env at; qual = q } ∷ [], env) else None)
unfolding named_member
member_is at q env = complete_by (is_complete env.tags q.ty) (λ (_ : Env). record { name = spelling env at; qual = q } ∷ []) env

spelled : (n : Naming) (t : TokenText) (s : State) (env : Env) (at : ℕ) → spelling (known_by n t s env) at ≡ text_at t at
unfolding spelling
spelled n t s env at = refl

member_by : (n : Naming) (t : TokenText) (s : State) (env : Env) (at : ℕ) (q : Qualified) (b : Bool) → is_complete (map tag_seen s.tags) q.ty ≡ b
    → named_member (Some at) q (known_by n t s env)
    ≡ (if b then Some (record { name = text_at t at; qual = q } ∷ [], known_by n t s env) else None)
member_by n t s env at q b e =
    member_is at q (known_by n t s env)
    ∙ ap (λ x. if x then Some (record { name = spelling (known_by n t s env) at; qual = q } ∷ [], known_by n t s env) else None) e
    ∙ ap (λ text. if b then Some (record { name = text; qual = q } ∷ [], known_by n t s env) else None) (spelled n t s env at)

-- of an incomplete type
pub member_refused : (n : Naming) (t : TokenText) (s : State) (env : Env) (at : ℕ) (q : Qualified) → is_complete (map tag_seen s.tags) q.ty ≡ false
    → named_member (Some at) q (known_by n t s env) ≡ None
member_refused n t s env at q e = member_by n t s env at q false e

pub one_more : (before after : List Member) (m : Member) (s : SeenMember) → after ≡ before ++ m ∷ [] → member_seen m ≡ s
    → map member_seen after ≡ map member_seen before ++ s ∷ []
one_more before after m s e is = ap (map member_seen) e ∙ map-append member_seen before (m ∷ []) ∙ ap (λ x. map member_seen before ++ x ∷ []) is

pub member_added : (n : Naming) (t : TokenText) (s : State) (env : Env) (at : ℕ) (q : Qualified) (before middle after : List Member) (m : Member)
    → is_complete (map tag_seen s.tags) q.ty ≡ true → middle ≡ before → after ≡ middle ++ m ∷ []
    → member_seen m ≡ record { name = text_at t at; qual = q }
    → IsAdded (named_member (Some at) q (known_by n t s env)) (known_by n t s env) before after
member_added n t s env at q before middle after m e same is seen = (
  record { name = text_at t at; qual = q } ∷ [],
  member_by n t s env at q true e,
  one_more before after m (record { name = text_at t at; qual = q }) (is ∙ ap (λ ms. ms ++ m ∷ []) same) seen,
)

-- an unnamed structure or union without a tag
unnamed_is : (base : Base) (q : Qualified) (env : Env)
    → unnamed_member base q env ≡ (if is_unnamed base then Some (record { name = []; qual = q } ∷ [], env) else None)
unfolding unnamed_member
unnamed_is base q env = complete_by (is_unnamed base) (λ (_ : Env). record { name = []; qual = q } ∷ []) env

pub unnamed_added : (base : Base) (q : Qualified) (env : Env) (before after : List Member) → is_unnamed base ≡ true
    → map member_seen after ≡ map member_seen before ++ record { name = []; qual = q } ∷ [] → IsAdded (unnamed_member base q env) env before after
unnamed_added base q env before after e is = (
  record { name = []; qual = q } ∷ [],
  unnamed_is base q env ∙ ap (λ b. if b then Some (record { name = []; qual = q } ∷ [], env) else None) e,
  is,
)

-- a name that isn't new
pub not_fresh : (n : Naming) (t : TokenText) (s : State) (env : Env) (at name symbol : ℕ) (given : Option ℕ) (has : ℕ → Bool) (fresh : Bool)
    → given ≡ Some name → given ≡ Some at → symbol ≡ symbol_in t (slice_get t.list name) → fresh ≡ not (has symbol) → fresh ≡ false
    → has (symbol_of (known_by n t s env) at) ≡ false → ⊥
not_fresh n t s env at name symbol given has fresh named is spelled told old free =
    true≢false
    (sym (told ∙ ap (λ k. not (has k)) (spelled ∙ sym (symbol_is n t s env name)
    ∙ ap (symbol_of (known_by n t s env)) (same_Some name at (sym named ∙ is))) ∙ ap not free) ∙ old)
