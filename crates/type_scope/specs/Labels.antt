-- The labels of the function whose body is read (6.8.1, 6.8.6.1), as the definition of typing has them.
use Rattle.std.specs.Prelude.{◌≡◌, ℕ, ◌+◌, ◌==◌, nat_eq, Bool, true, false, not, ◌&&◌, ◌||◌, if◌then◌else◌, List, [], ◌∷◌, ◌++◌, Option, Some, None}
use Rattle.indexmap.specs.IndexMap.{keys, get}
use Rattle.typing_env.specs.Env as env
use Rattle.type_scope.specs.declared.task.Label.{Label}
use Rattle.type_scope.specs.declared.task.Task.{Task}

-- 1. By the definition: the symbols of the labels in the order in which the text names them first, and of those that are defined.

abbrev pub has_number : ℕ → List ℕ → Bool
has_number n [] = false
has_number n (m ∷ ms) = (m == n) || has_number n ms

-- labels are numbered as the text names them first (own)
abbrev pub place_of : ℕ → ℕ → List ℕ → ℕ
place_of n i [] = i
place_of n i (m ∷ ms) = if m == n then i else place_of n (i + 1) ms

abbrev pub one_symbol : ℕ → List ℕ → List ℕ
one_symbol n ms = if has_number n ms then ms else ms ++ n ∷ []

-- a label is named
abbrev pub label_named : ℕ → env.Task → env.Task
label_named symbol t = record t { labels = one_symbol symbol t.labels }

-- .. and defined, once in its function (6.8.1p3)
abbrev pub label_defined : ℕ → env.Task → env.Task
label_defined symbol t = record t { labels = one_symbol symbol t.labels; defined = t.defined ++ symbol ∷ [] }

abbrev pub all_in : List ℕ → List ℕ → Bool
all_in [] ms = true
all_in (n ∷ ns) ms = has_number n ms && all_in ns ms

-- each label that a `goto` names is defined (6.8.6.1p1)
abbrev pub labels_defined : env.Task → Bool
labels_defined t = all_in t.labels t.defined

abbrev pub is_undefined : Option ℕ → List ℕ → Bool
is_undefined None ms = false
is_undefined (Some n) ms = not (has_number n ms)

-- 2. As they are kept here.

abbrev pub label_symbols : Task → List ℕ
label_symbols t = keys t.labels

abbrev pub is_defined_row : Option Label → Bool
is_defined_row None = false
is_defined_row (Some label) = label.defined

abbrev pub is_defined_label : Task → ℕ → Bool
is_defined_label t symbol = is_defined_row (get nat_eq t.labels symbol)

-- the labels are those that are known, and just those are defined that are known to be
abbrev pub HasLabels : Task → env.Task → Type 0
HasLabels t was = (label_symbols t ≡ was.labels) × ((symbol : ℕ) → is_defined_label t symbol ≡ has_number symbol was.defined)
