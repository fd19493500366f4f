-- The declarations in scope, in both name spaces, the oldest first (6.2.1, 6.2.3).
use Rattle.std.specs.Prelude.{ℕ, ◌≤◌, ◌-◌, ◌==◌, Bool, true, false, ◌&&◌, if◌then◌else◌, List, [], ◌∷◌, ◌++◌, Option}
use Rattle.type_name_space.specs.Scopes.{Declared, visible, at_depth, left}
use Rattle.typing_env.specs.Names.{meaning_in, declared_from, declared_at}
use Rattle.type_scope.specs.declared.rows.Meaning.{Meaning}
use Rattle.type_scope.specs.declared.rows.TagMeaning.{TagMeaning}

-- the declarations of ordinary identifiers and of tags; how many scopes enclose this place; and those of a parameter list that are
-- kept for a body
pub record InScope : Type 0 where
  pub ordinary : List (Declared Meaning)
  pub tags : List (Declared TagMeaning)
  pub depth : ℕ
  pub kept_ordinary : List (Declared Meaning)
  pub kept_tags : List (Declared TagMeaning)

abbrev pub no_scopes : InScope
no_scopes = record { ordinary = []; tags = []; depth = 0; kept_ordinary = []; kept_tags = [] }

-- declarations of inner scopes stand behind those of outer ones, and none is of a scope inside this one
abbrev pub AreNested : {M : Type 0} → ℕ → ℕ → List (Declared M) → Type 0
AreNested low high [] = low ≤ high
AreNested low high (d ∷ ds) = (low ≤ d.depth) × AreNested d.depth high ds

-- one declaration more in the innermost scope
abbrev pub with_name : ℕ → Meaning → InScope → InScope
with_name symbol meaning s = record s { ordinary = s.ordinary ++ record { symbol = symbol; depth = s.depth; meaning = meaning } ∷ [] }

abbrev pub with_tag : ℕ → TagMeaning → InScope → InScope
with_tag symbol meaning s = record s { tags = s.tags ++ record { symbol = symbol; depth = s.depth; meaning = meaning } ∷ [] }

-- what a tag stands for, by a declaration of the innermost scope or by any
abbrev pub tag_in : InScope → (here : Bool) → ℕ → Option TagMeaning
tag_in s true symbol = meaning_in (at_depth s.depth (visible symbol s.tags))
tag_in s false symbol = meaning_in (visible symbol s.tags)

-- what is left where the innermost scope ends
abbrev pub left_scope : InScope → InScope
left_scope s = record s { ordinary = left s.depth s.ordinary; tags = left s.depth s.tags; depth = s.depth - 1 }

-- the declarations of the innermost scope are kept
abbrev pub with_prototype : InScope → InScope
with_prototype s = record s { kept_ordinary = declared_from s.depth s.ordinary; kept_tags = declared_from s.depth s.tags }

-- where it is that of a parameter list at file scope behind a declared name
abbrev pub with_kept : (own : Bool) → InScope → InScope
with_kept own s = if own && (s.depth == 1) then with_prototype s else s

-- those that are kept are declared in the innermost scope
abbrev pub with_parameters : InScope → InScope
with_parameters s = record s {
  ordinary = declared_at s.depth s.ordinary s.kept_ordinary;
  tags = declared_at s.depth s.tags s.kept_tags;
  kept_ordinary = [];
  kept_tags = [];
}
