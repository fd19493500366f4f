-- The operands beside the way to a node of a full expression, of the nodes on the way whose operands no rule sequences (own).
use Rattle.std.specs.Prelude.{ℕ, suc, ◌+◌, Bool, true, false, not, ◌&&◌, ◌==◌, nat_lt, List, [], ◌∷◌, ◌++◌, Option, Some, None, if◌then◌else◌}
use Rattle.c_typed.specs.Tree.{Tree, Trees, node, none, more, size, is_quiet}
use Rattle.evaluation_log.specs.declared.rules.Rules.{Rules}
use Rattle.evaluation_log.specs.Kept.{is_unsequenced}
use Rattle.evaluation_log.specs.Ways.{rule_in, next_number}

-- an operand and its number
pub record Side : Type 0 where
  pub number : ℕ
  pub tree : Tree

abbrev pub side : ℕ → Tree → Side
side m t = record { number = m; tree = t }

-- these operands, the first of which has the number m
abbrev pub sides_from : ℕ → Trees → List Side
sides_from m none = []
sides_from m (more t ts) = side m t ∷ sides_from (m + size t) ts

-- those of them that end before the node n
abbrev pub own_lefts : ℕ → Trees → ℕ → List Side
own_lefts m none n = []
own_lefts m (more t ts) n = if nat_lt n (m + size t) then [] else side m t ∷ own_lefts (m + size t) ts n

-- those behind the one that holds the node n
abbrev pub own_rights : ℕ → Trees → ℕ → List Side
own_rights m none n = []
own_rights m (more t ts) n = if nat_lt n (m + size t) then sides_from (m + size t) ts else own_rights (m + size t) ts n

abbrev pub opened : Bool → List Side → List Side
opened true ss = ss
opened false ss = []

-- in the tree whose root has the number k, where `free` tells the nodes whose operands no rule sequences
abbrev mutual
  -- the operands before the node n
  pub lefts_in : (ℕ → Bool) → ℕ → Tree → ℕ → List Side
  lefts_in free k (node class ts) n = if nat_lt k n then opened (free k) (own_lefts (suc k) ts n) ++ lefts_among free (suc k) ts n else []

  pub lefts_among : (ℕ → Bool) → ℕ → Trees → ℕ → List Side
  lefts_among free m none n = []
  lefts_among free m (more t ts) n = if nat_lt n (m + size t) then lefts_in free m t n else lefts_among free (m + size t) ts n

abbrev mutual
  -- the operands behind the node n
  pub rights_in : (ℕ → Bool) → ℕ → Tree → ℕ → List Side
  rights_in free k (node class ts) n = if nat_lt k n then rights_among free (suc k) ts n ++ opened (free k) (own_rights (suc k) ts n) else []

  pub rights_among : (ℕ → Bool) → ℕ → Trees → ℕ → List Side
  rights_among free m none n = []
  rights_among free m (more t ts) n = if nat_lt n (m + size t) then rights_in free m t n else rights_among free (m + size t) ts n

-- the first of them with a value
abbrev pub first_loud : List Side → Option ℕ
first_loud [] = None
first_loud (s ∷ ss) = if is_quiet s.tree then first_loud ss else Some s.number

-- the nodes whose operands no rule sequences, as they are listed
abbrev pub free_by : Rules → ℕ → Bool
free_by rules k = is_unsequenced (rule_in rules k)

abbrev pub last_if : ℕ → Option ℕ → Option ℕ
last_if k None = Some k
last_if k (Some m) = None

abbrev mutual
  -- the node above the node n, if no operand of that node behind this one has a value
  pub last_in : ℕ → Tree → ℕ → Option ℕ
  last_in k (node class ts) n = if nat_lt k n then last_among k (suc k) ts n else None

  -- among the operands of the node k, the first of which has the number m
  pub last_among : ℕ → ℕ → Trees → ℕ → Option ℕ
  last_among k m none n = None
  last_among k m (more t ts) n =
      if nat_lt n (m + size t) then (if n == m then last_if k (first_loud (sides_from (m + size t) ts)) else last_in m t n)
      else last_among k (m + size t) ts n

-- ---- the same by the numbers of neighbours, which end at the greatest of their type

-- the first operand with a value that ends before the node n
abbrev pub left_spot : ℕ → Trees → ℕ → Option ℕ
left_spot m none n = None
left_spot m (more t ts) n =
    if nat_lt n (next_number m (size t)) then None else (if is_quiet t then left_spot (next_number m (size t)) ts n else Some m)

-- the first operand with a value that begins behind the node n
abbrev pub right_spot : ℕ → Trees → ℕ → Option ℕ
right_spot m none n = None
right_spot m (more t ts) n = if nat_lt n m && not (is_quiet t) then Some m else right_spot (next_number m (size t)) ts n
