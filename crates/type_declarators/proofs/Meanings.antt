-- What names and tags stand for where a unit is read up to a place.
use Rattle.std.proofs.Common.{◌≡◌, ℕ, Bool, sym, ap, ◌∙◌}
use Rattle.std.specs.Prelude.{slice_get, Option}
use Rattle.std.specs.Option.{option_map}
use Rattle.c_lex.specs.TokenText.{TokenText}
use Rattle.type_name_space.specs.Scopes.{visible}
use Rattle.typing_env.specs.Env.{Env, symbol_in, symbol_of}
use Rattle.typing_env.specs.Names.{meaning_in, meaning_of, tag_seen}
use Rattle.type_scope.specs.InScope.{tag_in}
use Rattle.type_scope.specs.Known.{Naming, meaning_seen, tag_meaning_seen, with_tables, known_by}
use Rattle.type_scope.specs.declared.state.State.{State}
use Rattle.type_scope.specs.declared.rows.TagMeaning.{TagMeaning}
use Rattle.type_scope.proofs.Seen.{symbol_is, meaning_is, tag_seen_is}

-- an identifier
pub name_stands : (n : Naming) (t : TokenText) (state : State) (env : Env) (at symbol : ℕ) → symbol ≡ symbol_in t (slice_get t.list at)
    → meaning_of (known_by n t state env) (symbol_of (known_by n t state env) at)
    ≡ option_map (meaning_seen n) (meaning_in (visible symbol (state.names).ordinary))
name_stands n t state env at symbol e =
    ap (meaning_of (known_by n t state env)) (symbol_is n t state env at ∙ sym e)
    ∙ meaning_is n symbol state.names (with_tables n t state env)

-- a tag
pub tag_stands : (n : Naming) (t : TokenText) (state : State) (env : Env) (here : Bool) (at symbol : ℕ) (o : Option TagMeaning)
    → symbol ≡ symbol_in t (slice_get t.list at) → o ≡ tag_in state.names here symbol
    → tag_seen (known_by n t state env) here (symbol_of (known_by n t state env) at) ≡ option_map tag_meaning_seen o
tag_stands n t state env here at symbol o e is =
    ap (tag_seen (known_by n t state env) here) (symbol_is n t state env at ∙ sym e)
    ∙ tag_seen_is n here symbol state.names (with_tables n t state env)
    ∙ ap (option_map tag_meaning_seen) (sym is)
