-- Terms as plain data, the events that a term lists, and the order that it gives them.
use Rattle.std.specs.Prelude.{ℕ, List, [], ◌∷◌, ◌++◌, Bool, true, false, not, ◌&&◌, ◌||◌, Option, is_some, if◌then◌else◌, IsTrue}
use Rattle.ub_base.specs.declared.clause.Kind.{Kind}
use Rattle.ub_base.specs.declared.clause.Kind.TheVariants.{Val, Eff, Body}
use Rattle.c_typed.specs.declared.tree.Place.{Place}
use Rattle.c_typed.specs.Order.{Taken, place, same_place, has, is_number}
use Rattle.core_ir.specs.declared.term.Core.{Core, fold-Core}
use Rattle.core_ir.specs.declared.term.Cores.{Cores, fold-Cores}
use Rattle.core_ir.specs.declared.term.Core.TheOpen.{Core-F, Cores-F}

mutual
  pub data Term : Type 0 where
    pure : (n : ℕ) → Term
    act : (n : ℕ) → Kind → Term
    unseq : Terms → Term
    weak : Term → Term → Term
    strong : Term → Term → Term
    choose : (n : ℕ) → Term → Term → Term → Term
    atomic : Term → Term
    indet : Term → Term
    invoke : (n : ℕ) → Term

  pub data Terms : Type 0 where
    none : Terms
    more : Term → Terms → Terms

abbrev pub terms_from : List Term → Terms
terms_from [] = none
terms_from (t ∷ ts) = more t (terms_from ts)

abbrev pub core_step : Core-F Term Terms → Term
core_step (Core-F.Pure n) = pure n
core_step (Core-F.Act n k) = act n k
core_step (Core-F.Unseq parts) = unseq parts
core_step (Core-F.Weak a b) = weak a b
core_step (Core-F.Strong a b) = strong a b
core_step (Core-F.Choose n test first second) = choose n test first second
core_step (Core-F.Atomic a) = atomic a
core_step (Core-F.Indet a) = indet a
core_step (Core-F.Invoke n) = invoke n

abbrev pub cores_step : Cores-F Term Terms → Terms
cores_step c = terms_from c.items

-- the term that code holds
abbrev pub term_of : Core → Term
term_of = fold-Core Term Terms core_step cores_step

-- the continuation that evaluates the operand of this number, 1 or 2; none where no operand is evaluated
abbrev pub continued : Option ℕ → List Place → List Place → List Place
continued choice first second = if is_number choice 1 then first else (if is_number choice 2 then second else [])

abbrev mutual
  -- the events of a term from left to right
  pub listing : Taken → Term → List Place
  listing taken (pure n) = []
  listing taken (act n k) = place n k ∷ []
  listing taken (unseq ts) = listings taken ts
  listing taken (weak a b) = listing taken a ++ listing taken b
  listing taken (strong a b) = listing taken a ++ listing taken b
  listing taken (choose n test first second) = listing taken test ++ continued (taken n) (listing taken first) (listing taken second)
  listing taken (atomic a) = listing taken a
  listing taken (indet a) = listing taken a
  listing taken (invoke n) = place n Body ∷ []

  pub listings : Taken → Terms → List Place
  listings taken none = []
  listings taken (more t ts) = listing taken t ++ listings taken ts

abbrev pub is_effect : Kind → Bool
is_effect Eff = true
is_effect _ = false

-- the events of a choice's test come before the value of its node and before the continuation, where one is evaluated
-- (6.5.13p4, 6.5.14p4, 6.5.15p4); a skipped operand gives no sequence point (own)
abbrev pub after_test : ℕ → Option ℕ → List Place → List Place → Place → Bool
after_test n choice first second v = is_some choice && (same_place v (place n Val) || has (continued choice first second) v)

abbrev mutual
  -- u comes before v by what one construct of the term says
  pub orders : Taken → Term → Place → Place → Bool
  orders taken (pure n) u v = false
  orders taken (act n k) u v = false
  orders taken (unseq ts) u v = orders_among taken ts u v
  orders taken (weak a b) u v =
      (has (listing taken a) u && (not (is_effect u.kind) && has (listing taken b) v)) || (orders taken a u v || orders taken b u v)
  orders taken (strong a b) u v = (has (listing taken a) u && has (listing taken b) v) || (orders taken a u v || orders taken b u v)
  orders taken (choose n test first second) u v =
      (has (listing taken test) u && after_test n (taken n) (listing taken first) (listing taken second) v)
      || (orders taken test u v
      || ((is_number (taken n) 1 && orders taken first u v) || (is_number (taken n) 2 && orders taken second u v)))
  orders taken (atomic a) u v = orders taken a u v
  orders taken (indet a) u v = orders taken a u v
  orders taken (invoke n) u v = false

  pub orders_among : Taken → Terms → Place → Place → Bool
  orders_among taken none u v = false
  orders_among taken (more t ts) u v = orders taken t u v || orders_among taken ts u v

-- the order that a term gives its events: the transitive closure
pub data Ordered (term : Term) (taken : Taken) : Place → Place → Type 0 where
  rule : (u v : Place) → IsTrue (has (listing taken term) u) → IsTrue (has (listing taken term) v) → IsTrue (orders taken term u v) → Ordered term taken u v
  chain : (u v w : Place) → Ordered term taken u v → Ordered term taken v w → Ordered term taken u w

-- the terms that code holds
abbrev pub terms_of : Cores → Terms
terms_of = fold-Cores Term Terms core_step cores_step
