-- The canonical listing of a term as it is laid out: its events in turn, with an entry before each operand that may be left
-- out, which says how many entries are passed over then (own).
use Rattle.std.specs.Prelude.{ℕ, zero, suc, List, [], ◌∷◌, ◌++◌, length, map, nat_lt, if◌then◌else◌}
use Rattle.ub_base.specs.declared.clause.Kind.TheVariants.{Body}
use Rattle.c_typed.specs.declared.tree.Place.{Place}
use Rattle.c_typed.specs.Order.{Taken, place, is_number}
use Rattle.core_ir.specs.Term.{Term, Terms, none, more, pure, act, unseq, weak, strong, choose, atomic, indet, invoke}
use Rattle.run_layout.specs.declared.steps.Listed.{Listed}
use Rattle.run_layout.specs.declared.steps.Listed.TheVariants as listed

pub data Entry : Type 0 where
  event : Place → Entry
  -- so many entries behind this one are of this operand of the node
  operand : (node index count : ℕ) → Entry

-- what an entry of the code is, but for what its event does
abbrev pub entry_of : Listed → Entry
entry_of (listed.Event due) = event due.place
entry_of (listed.Operand node index count) = operand node index count

abbrev pub entries_of : List Listed → List Entry
entries_of = map entry_of

-- the event of one of the first so many nodes
abbrev pub one : ℕ → Place → List Entry
one count p = if nat_lt p.node count then event p ∷ [] else []

-- the events of an operand that may be left out
abbrev pub continuation : (node index : ℕ) → List Entry → List Entry
continuation node index es = operand node index (length es) ∷ es

abbrev mutual
  -- the listing of a term of a full expression with so many nodes
  pub flat : ℕ → Term → List Entry
  flat count (pure n) = []
  flat count (act n k) = one count (place n k)
  flat count (unseq ts) = all_flat count ts
  flat count (weak a b) = flat count a ++ flat count b
  flat count (strong a b) = flat count a ++ flat count b
  flat count (choose n test first second) = flat count test ++ (continuation n 1 (flat count first) ++ continuation n 2 (flat count second))
  flat count (atomic a) = flat count a
  flat count (indet a) = flat count a
  flat count (invoke n) = one count (place n Body)

  pub all_flat : ℕ → Terms → List Entry
  all_flat count none = []
  all_flat count (more t ts) = flat count t ++ all_flat count ts

-- the events of a listing from its start on where these operands are chosen; the first so many entries are passed over
abbrev pub passed : Taken → ℕ → List Entry → List Place
passed taken skip [] = []
passed taken (suc skip) (e ∷ es) = passed taken skip es
passed taken zero (event p ∷ es) = p ∷ passed taken 0 es
passed taken zero (operand node index count ∷ es) = passed taken (if is_number (taken node) index then 0 else count) es

-- those of the first so many nodes
abbrev pub within : ℕ → List Place → List Place
within count [] = []
within count (p ∷ ps) = if nat_lt p.node count then p ∷ within count ps else within count ps
