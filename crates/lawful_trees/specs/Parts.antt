-- The parts of an object, by where they begin and end.
use Rattle.std.specs.Prelude.{◌⊎◌, ℕ, ◌≤◌, max, List, [], ◌∷◌}
use Rattle.c_types.specs.declared.tags.Tag.{Tag}
use Rattle.c_typed.specs.declared.program.Constant.{Constant}
use Rattle.c_typed.specs.declared.tree.Typed.{Typed}
use Rattle.c_typed.specs.Lawful.{end_of, root_of, listed_span, zeros_in}

abbrev pub range_of : Constant → ℕ × ℕ
range_of c = (c.at, end_of c)

-- one of them ends where the other begins, or before
abbrev pub AreApart : ℕ × ℕ → ℕ × ℕ → Type 0
AreApart a b = (a.1 ≤ b.0) ⊎ (b.1 ≤ a.0)

-- each begins where all before it end, or later
abbrev pub FollowFrom : ℕ → List (ℕ × ℕ) → Type 0
FollowFrom end [] = Unit {0}
FollowFrom end (r ∷ rs) = (end ≤ r.0) × FollowFrom (max end r.1) rs

-- where the part begins and ends that a listed expression is stored in
abbrev pub listed_range : List Tag → Typed → ℕ × ℕ
listed_range tags t = range_of (zeros_in (listed_span tags (root_of t)))
