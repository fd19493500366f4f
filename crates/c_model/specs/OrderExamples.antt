-- How the events of some full expressions stand to one another, each pair of the listing.
use Rattle.std.specs.Prelude.{ℕ, ◌==◌, ◌||◌, List, [], ◌∷◌, map, Some, None, if◌then◌else◌}
use Rattle.c_typed.specs.declared.tree.Place.{Place}
use Rattle.c_typed.specs.declared.class.Class.{Class}
use Rattle.c_typed.specs.declared.class.Class.TheVariants.{Object, Constant, Plain, Store, Update, Choice, Comma, Call}
use Rattle.c_typed.specs.Tree.{Tree, node, none, more}
use Rattle.c_typed.specs.Order.{Taken, events, is_body}
use Rattle.c_typed.specs.Decide.{is_before}

-- the first is sequenced before the second, after it, or neither
pub data Stand : Type 0 where
  Earlier : Stand
  Later : Stand
  Unsequenced : Stand
  Indeterminate : Stand

abbrev pub stand : Tree → Taken → Place → Place → Stand
stand root taken u v =
    if is_before taken 0 root u v then Earlier
    else (if is_before taken 0 root v u then Later else (if is_body u.kind || is_body v.kind then Indeterminate else Unsequenced))

-- for each event of a list its stands to those that follow
abbrev pub stands : Tree → Taken → List Place → List (List Stand)
stands root taken [] = []
stands root taken (u ∷ us) = map (stand root taken u) us ∷ stands root taken us

abbrev pub all_stands : Tree → Taken → List (List Stand)
all_stands root taken = stands root taken (events taken 0 root)

-- no operand is chosen, or operand j at the root
abbrev pub nothing : Taken
nothing n = None

abbrev pub at_root : ℕ → Taken
at_root j n = if n == 0 then Some j else None

abbrev leaf : Class → Tree
leaf class = node class none

abbrev over : Class → Tree → Tree
over class t = node class (more t none)

abbrev of_two : Class → Tree → Tree → Tree
of_two class s t = node class (more s (more t none))

abbrev of_three : Class → Tree → Tree → Tree → Tree
of_three class r s t = node class (more r (more s (more t none)))

abbrev loaded : Tree
loaded = over Plain (leaf Object)

abbrev counted_up : Tree
counted_up = over Update (leaf Object)

abbrev stored : Tree
stored = of_two Store (leaf Object) (leaf Constant)

-- `i = i++`
abbrev pub own_increment : Tree
own_increment = of_two Store (leaf Object) counted_up

-- `h(i++, i)`
abbrev pub two_arguments : Tree
two_arguments = of_three Call (leaf Constant) counted_up loaded

-- `x++ && y`
abbrev pub both_hold : Tree
both_hold = of_two Choice counted_up loaded

-- `a++ ? b = 1 : (c = 2)`
abbrev pub one_of_two : Tree
one_of_two = of_three Choice counted_up stored stored

-- `(i++, i) + 1`
abbrev pub comma_and_one : Tree
comma_and_one = of_two Plain (of_two Comma counted_up loaded) (leaf Constant)

-- `f() + g()`
abbrev pub two_calls : Tree
two_calls = of_two Plain (over Call (leaf Constant)) (over Call (leaf Constant))

-- `f(g(i))`
abbrev pub nested_calls : Tree
nested_calls = of_two Call (leaf Constant) (of_two Call (leaf Constant) loaded)

-- `h((i++, i), i)`
abbrev pub comma_argument : Tree
comma_argument = of_three Call (leaf Constant) (of_two Comma counted_up loaded) loaded
