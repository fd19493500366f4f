-- Which structures and unions have a const member, directly or in a member, as it is noted (6.3.2.1p1).
use Rattle.std.specs.Prelude.{◌≡◌, ℕ, Bool, true, false, List, [], map, length, slice_get}
use Rattle.c_lex.specs.TokenText.{TokenText}
use Rattle.typing_env.specs.Seen.{SeenMember, SeenTag, member_seen, tag_seen}
use Rattle.typing_words.specs.Tags.{some_const, constants}
use Rattle.typing_words.specs.Words.{has_members}
use Rattle.type_scope.specs.Tagged.{has_constant}
use Rattle.type_scope.specs.declared.state.State.{State}
use Rattle.type_declarators.specs.declared.tag.MemberList.{MemberList}
use Rattle.type_declarators.specs.MemberNames.{Keeps, HasSymbols}

-- the flag tells whether one of these members is const or has a const member, also when further tags are known
abbrev pub TellsAmong : List SeenTag → List SeenMember → Bool → Type 0
TellsAmong tags ms flag = (now : List SeenTag) → Keeps tags now → flag ≡ some_const (constants now) ms

-- .. of a list of members
abbrev pub HasConstant : List SeenTag → MemberList → Type 0
HasConstant tags l = TellsAmong tags (map member_seen l.members) l.constant

-- the flag tells whether a structure or union has a const member, also when further tags are known
abbrev pub TellsIn : List SeenTag → ℕ → Bool → Type 0
TellsIn tags tag flag = (now : List SeenTag) → Keeps tags now → flag ≡ constants now tag

-- it is noted of each structure or union that has its members, and of one that hasn't none is noted
pub record HasConstants (s : State) : Type 0 where
  pub rows : length (s.tag_rows).items ≡ length (map tag_seen s.tags)
  pub noted : (tag : ℕ) → has_members (slice_get (map tag_seen s.tags) tag) ≡ true → TellsIn (map tag_seen s.tags) tag (has_constant s tag)
  pub none : (tag : ℕ) → has_members (slice_get (map tag_seen s.tags) tag) ≡ false → has_constant s tag ≡ false

-- so the state tells which structures and unions have a const member
abbrev pub AreToldConstants : Type 0
AreToldConstants = (s : State) → HasConstants s → (tag : ℕ) → has_constant s tag ≡ constants (map tag_seen s.tags) tag

-- where a unit begins, nothing is to be noted
abbrev pub BeginNoted : Type 0
BeginNoted = (t : TokenText) (s : State) → s.tags ≡ [] → (s.tag_rows).items ≡ [] → HasSymbols t s × HasConstants s
