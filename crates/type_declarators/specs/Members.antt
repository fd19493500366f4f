-- Members of structures and unions as they are added, and what completes one (6.7.2.1).
use Rattle.std.specs.Prelude.{◌≡◌, ℕ, Bool, not, ◌&&◌, List, ◌++◌, map, slice_get, Option, Some, is_some}
use Rattle.c_types.specs.Layout.{extents, completed}
use Rattle.c_types.specs.declared.tags.Member.{Member}
use Rattle.c_types.specs.declared.tags.Tag.{Tag}
use Rattle.typing_env.specs.Env.{Env}
use Rattle.typing_env.specs.Seen.{SeenMember, member_seen, tag_seen}
use Rattle.typing_words.specs.Words.{has_members}

-- what the definition finds are the members behind those before, and nothing else is known then
abbrev pub IsAdded : Option (List SeenMember × Env) → Env → List Member → List Member → Type 0
IsAdded found env before after = (ms : List SeenMember) × (found ≡ Some (ms, env)) × (map member_seen after ≡ map member_seen before ++ ms)

-- one that has no members so far (6.7.2.3p1), and would be complete with these (6.7.2.1p8)
abbrev pub may_complete : List Tag → ℕ → List Member → Bool
may_complete tags number members = not (has_members (slice_get (map tag_seen tags) number)) && is_some (extents (completed tags number members) number)
