-- Trees that are told to be quiet, and trees that aren't, by the classes of their nodes (own).
use Rattle.std.specs.Prelude.{◌≡◌, Bool, true, false, not, ◌&&◌, List, [], ◌∷◌}
use Rattle.c_typed.specs.declared.class.Class.{Class}
use Rattle.c_typed.specs.declared.class.Class.TheVariants.{Object, Constant, Plain, Store, Update, Choice, Comma, Call, Isolated}
use Rattle.c_typed.specs.Tree.{Tree, node, none, more}
use Rattle.quiet_trees.specs.Loads.{Loads, loads, nil, cons}
use Rattle.quiet_trees.specs.Summaries.{summary_of}

-- a tree, and which of its nodes are loads
abbrev pub Example : Type 0
Example = Tree × Loads

-- no two events of the tree may clash, as its summary says
abbrev pub is_quiet_tree : Example → Bool
is_quiet_tree t = not (summary_of t.0 t.1).clash

abbrev leaf : Class → Example
leaf class = (node class none, loads false nil)

abbrev over : Class → Example → Example
over class s = (node class (more s.0 none), loads false (cons s.1 nil))

abbrev load : Example → Example
load s = (node Plain (more s.0 none), loads true (cons s.1 nil))

abbrev both : Class → Example → Example → Example
both class s t = (node class (more s.0 (more t.0 none)), loads false (cons s.1 (cons t.1 nil)))

abbrev three : Class → Example → Example → Example → Example
three class s t u = (node class (more s.0 (more t.0 (more u.0 none))), loads false (cons s.1 (cons t.1 (cons u.1 nil))))

-- an object, a constant or the name of a function, the value of an object, the address of an element, and an increment
abbrev object : Example
object = leaf Object

abbrev constant : Example
constant = leaf Constant

abbrev value : Example
value = load object

abbrev element : Example
element = both Plain object value

abbrev increment : Example
increment = over Update object

abbrev call : Example
call = over Call constant

abbrev pub quiet_trees : List Example
quiet_trees =
    -- i = i + 1
    both Store object (both Plain value constant)
    -- i < n
    ∷ both Plain value value
    -- s += a[i]
    ∷ both Update object (load element)
    -- x = f(y)
    ∷ both Store object (both Call constant value)
    -- p[i] = q[j]
    ∷ both Store (both Plain value value) (load (both Plain value value))
    -- i++
    ∷ increment
    -- i = 0, j = 1
    ∷ both Comma (both Store object constant) (both Store object constant)
    -- i++, i
    ∷ both Comma increment value
    -- b && (i = 0)
    ∷ both Choice value (both Store object constant)
    -- b ? i++ : j++
    ∷ three Choice value increment increment
    -- f(a, b)
    ∷ three Call constant value value
    -- f(i++)
    ∷ both Call constant increment
    -- x = f(g())
    ∷ both Store object (both Call constant call)
    -- i-- > 0
    ∷ both Plain increment constant
    -- (x = f()) != 0
    ∷ both Plain (both Store object call) constant
    -- { f() }, the list of an initializer
    ∷ over Store (leaf Isolated)
    ∷ []

abbrev pub loud_trees : List Example
loud_trees =
    -- x = i++
    both Store object increment
    -- x = y = 0
    ∷ both Store object (both Store object constant)
    -- i++ + i
    ∷ both Plain increment value
    -- i + i++
    ∷ both Plain value increment
    -- a[i++]
    ∷ load (both Plain object increment)
    -- f() + g()
    ∷ both Plain call call
    -- f() + x
    ∷ both Plain call value
    -- f() + -1, since f may end the run
    ∷ both Plain call (over Plain constant)
    -- f(i++, i)
    ∷ three Call constant increment value
    -- (b && (i = 0)) + j
    ∷ both Plain (both Choice value (both Store object constant)) value
    -- (i++, x) + i
    ∷ both Plain (both Comma increment value) value
    -- { f(), g() }
    ∷ both Store (leaf Isolated) (leaf Isolated)
    ∷ []

abbrev all_are : Bool → List Example → Bool
all_are true [] = true
all_are false [] = true
all_are true (t ∷ ts) = is_quiet_tree t && all_are true ts
all_are false (t ∷ ts) = not (is_quiet_tree t) && all_are false ts

abbrev pub QuietExamples : Type 0
QuietExamples = (all_are true quiet_trees ≡ true) × (all_are false loud_trees ≡ true)
