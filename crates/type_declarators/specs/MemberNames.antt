-- The names of members, by their symbols, as they are compared (6.2.3p1, 6.7.2.1p13).
use Rattle.std.specs.Prelude.{◌≡◌, ℕ, ◌≤◌, ◌==◌, Bool, true, false, not, ◌&&◌, ◌||◌, List, [], ◌∷◌, ◌++◌, map, length, slice_get, is_some, Option, Some, None}
use Rattle.std.specs.BTreeSet.{contains}
use Rattle.std.specs.Ordering.{nat_cmp}
use Rattle.c_lex.specs.TokenText.{TokenText, text_at}
use Rattle.c_types.specs.Types.{CType, struct, union}
use Rattle.c_types.specs.declared.tags.TagKind.{TagKind}
use Rattle.typing_env.specs.Env.{Env, spelled_first}
use Rattle.typing_env.specs.Seen.{SeenMember, SeenTag, member_seen, tag_seen}
use Rattle.typing_words.specs.Tags.{inside, names, extents}
use Rattle.typing_words.specs.Words.{has_members, close_tag}
use Rattle.type_scope.specs.declared.rows.TagRow.{TagRow}
use Rattle.type_scope.specs.declared.state.State.{State}
use Rattle.type_declarators.specs.declared.tag.MemberList.{MemberList}

-- 1. By the definition.

-- the names that are found in a structure or union: of its members, and of those of unnamed structures and unions among them
abbrev pub names_in : List SeenTag → ℕ → List (List ℕ)
names_in tags tag = map (λ n. n.name) (names tags tag)

abbrev pub own_or : List ℕ → List (List ℕ) → List (List ℕ)
own_or [] inner = inner
own_or (c ∷ cs) inner = (c ∷ cs) ∷ []

-- what a member brings: its name, or, where it has none, the names inside it
abbrev pub brought_by : (ℕ → List (List ℕ)) → SeenMember → List (List ℕ)
brought_by of_tag m = own_or m.name (inside [] of_tag (m.qual).ty)

abbrev pub all_brought : (ℕ → List (List ℕ)) → List SeenMember → List (List ℕ)
all_brought of_tag [] = []
all_brought of_tag (m ∷ ms) = brought_by of_tag m ++ all_brought of_tag ms

-- tags that have their members keep them; others come and get theirs
abbrev pub Keeps : List SeenTag → List SeenTag → Type 0
Keeps tags now = (length tags ≤ length now) × ((tag : ℕ) → has_members (slice_get tags tag) ≡ true → slice_get now tag ≡ slice_get tags tag)

-- 2. Symbols: the number of the first token that is spelled so.

abbrev pub symbol_of_name : TokenText → List ℕ → ℕ
symbol_of_name t name = spelled_first t.source name 0 t.list

-- each name is spelled in the text, and these are their symbols
abbrev pub AreSymbols : TokenText → List ℕ → List (List ℕ) → Type 0
AreSymbols t symbols names = (map (text_at t) symbols ≡ names) × (map (symbol_of_name t) names ≡ symbols)

abbrev pub has_symbol : ℕ → List ℕ → Bool
has_symbol n [] = false
has_symbol n (m ∷ ms) = (m == n) || has_symbol n ms

-- no symbol is there twice
abbrev pub are_apart : List ℕ → Bool
are_apart [] = true
are_apart (n ∷ ns) = not (has_symbol n ns) && are_apart ns

-- 3. As they are kept.

-- the names of these members have these symbols, also when further tags are known
abbrev pub AreNamed : TokenText → List SeenTag → List SeenMember → List ℕ → Type 0
AreNamed t tags ms symbols = (now : List SeenTag) → Keeps tags now → AreSymbols t symbols (all_brought (names_in now) ms)

-- the set of a list of members has just their symbols
abbrev pub HoldsSymbols : MemberList → Type 0
HoldsSymbols l = (symbol : ℕ) → contains nat_cmp l.names symbol ≡ has_symbol symbol (l.symbols).items

-- a list of members has the symbols of their names, of which no two are the same
pub record HasNames (t : TokenText) (tags : List SeenTag) (l : MemberList) : Type 0 where
  pub named : AreNamed t tags (map member_seen l.members) (l.symbols).items
  pub held : HoldsSymbols l
  pub apart : are_apart (l.symbols).items ≡ true

-- these symbols are added, none of which was there
pub record AddsSymbols (symbols : List ℕ) (was now : MemberList) : Type 0 where
  pub added : (now.symbols).items ≡ (was.symbols).items ++ symbols
  pub held : HoldsSymbols was → HoldsSymbols now
  pub apart : HoldsSymbols was → are_apart (was.symbols).items ≡ true → are_apart (now.symbols).items ≡ true

-- whatever stands behind it, the definition refuses a member list in which this member stands behind these
abbrev pub IsClash : List SeenTag → List SeenMember → SeenMember → Type 0
IsClash tags before m =
    (kind : TagKind) (number : ℕ) (behind : List SeenMember) (env : Env) → Keeps tags env.tags → close_tag kind number (before ++ m ∷ behind) env ≡ None

abbrev pub tag_number : CType → Option ℕ
tag_number (struct tag) = Some tag
tag_number (union tag) = Some tag
tag_number _ = None

-- a structure or union that is complete
abbrev pub IsWhole : List SeenTag → CType → Type 0
IsWhole tags t = (tag : ℕ) × (tag_number t ≡ Some tag) × (is_some (extents tags tag) ≡ true)

-- of each structure or union that has its members the symbols of their names are noted
abbrev pub IsNoted : TokenText → List SeenTag → ℕ → List ℕ → Type 0
IsNoted t tags tag symbols = (now : List SeenTag) → Keeps tags now → AreSymbols t symbols (names_in now tag)

abbrev pub symbols_of : Option TagRow → List ℕ
symbols_of None = []
symbols_of (Some row) = (row.symbols).items

abbrev pub symbols_in : State → ℕ → List ℕ
symbols_in s tag = symbols_of (slice_get (s.tag_rows).items tag)

abbrev pub HasSymbols : TokenText → State → Type 0
HasSymbols t s =
    (length (s.tag_rows).items ≡ length (map tag_seen s.tags))
    × ((tag : ℕ) → has_members (slice_get (map tag_seen s.tags) tag) ≡ true → IsNoted t (map tag_seen s.tags) tag (symbols_in s tag))
