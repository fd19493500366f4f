-- What keeps the blocks that a todo list leaves.
use Rattle.std.proofs.Common.{◌≡◌, ℕ, Bool, true, false, ◌==◌, List, [], ◌∷◌, ◌++◌, Option, Some, None, if◌then◌else◌, arith, refl, sym, ◌∙◌, ap, subst}
use Rattle.std.proofs.lemmas.List.{append-nil}
use Rattle.c_model.specs.Program.{
  Expr,
  Decl,
  Stmt,
  Value,
  Empty,
  Declare,
  Block,
  If,
  If_only,
  Switch,
  Do,
  For,
  Goto,
  Continue,
  Break,
  Return,
  Return_none,
  Label,
  Case,
  Default,
  Stmts,
  end,
  and_then,
}
use Rattle.c_model.specs.Control.{
  Todo,
  Work,
  Enter,
  Leave,
  Unwrite,
  Begin,
  Nothing_to_do,
  Go_to,
  Go_out,
  Go_on,
  Go_back,
  To_do,
  Rest,
  Round,
  Again,
  Test,
  Break_here,
  opened,
  tested,
  blocks_round,
  enter_all,
  leave_all,
  unshared,
  gone_to,
  Target,
  is_label,
  is_case,
  is_default,
  goes_into_switch,
  found_here,
  first_of,
  and_after,
  if_goes,
  find,
  find_in,
}
use Rattle.c_model.specs.OpenBlocks.{Closes, NoEnters, ReadyCloses, MovesClose, GotoCloses, FindsNoEnters, NoEntersBehind, ReadyEnters}

opens : (s : Stmt) (rest : Todo) (around : List ℕ) → Closes rest around → Closes (opened s rest) around
opens (Value e) rest around c = c
opens Empty rest around c = c
opens (Declare d) rest around c = c
opens (Block b ds ss) rest around c = (refl, c)
opens (If e s t) rest around c = c
opens (If_only e s) rest around c = c
opens (Switch e s) rest around c = c
opens (Do s e) rest around c = opens s (Again e s ∷ rest) around c
opens (For (Some e) test step s) rest around c = c
opens (For None (Some e) step s) rest around c = c
opens (For None None step s) rest around c = opens s (Round None step s ∷ rest) around c
opens (Goto k) rest around c = c
opens Continue rest around c = c
opens Break rest around c = c
opens (Return e) rest around c = c
opens Return_none rest around c = c
opens (Label k s) rest around c = opens s rest around c
opens (Case z s) rest around c = opens s rest around c
opens (Default s) rest around c = opens s rest around c

tests : (test step : Option Expr) (s : Stmt) (rest : Todo) (around : List ℕ) → Closes rest around → Closes (tested test step s rest) around
tests None step s rest around c = opens s (Round None step s ∷ rest) around c
tests (Some e) step s rest around c = c

pub ready_closes : ReadyCloses
ready_closes [] around c = c
ready_closes (To_do s ∷ rest) around c = opens s rest around c
ready_closes (Rest end ∷ rest) around c = ready_closes rest around c
ready_closes (Rest (and_then s ss) ∷ rest) around c = opens s (Rest ss ∷ rest) around c
ready_closes (Round test None s ∷ rest) around c = tests test None s rest around c
ready_closes (Round test (Some e) s ∷ rest) around c = c
ready_closes (Again e s ∷ rest) around c = c
ready_closes (Test test step s ∷ rest) around c = tests test step s rest around c
ready_closes (Break_here ∷ rest) around c = ready_closes rest around c
ready_closes (Enter b ds ∷ rest) around c = c
ready_closes (Leave b ds ∷ rest) around c = c
ready_closes (Unwrite d ∷ rest) around c = c
ready_closes (Begin e what ∷ rest) around c = c
ready_closes (Nothing_to_do ∷ rest) around c = c
ready_closes (Go_to k ∷ rest) around c = c
ready_closes (Go_out ∷ rest) around c = c
ready_closes (Go_on ∷ rest) around c = c
ready_closes (Go_back ∷ rest) around c = c

pub moves_close : MovesClose
moves_close [] around n c = (c, c, c)
moves_close (Enter b ds ∷ rest) around n c = absurd n
moves_close (Leave b ds ∷ rest) [] n c = absurd c
moves_close (Leave b ds ∷ rest) (o ∷ os) n c = let r = moves_close rest os n c.1 in ((c.0, r.0), (c.0, r.1), (c.0, r.2))
moves_close (Round test step s ∷ rest) around n c = let r = moves_close rest around n c in (c, c, r.2)
moves_close (Again e s ∷ rest) around n c = let r = moves_close rest around n c in (c, c, r.2)
moves_close (Break_here ∷ rest) around n c = let r = moves_close rest around n c in (c, r.1, r.2)
moves_close (To_do s ∷ rest) around n c = moves_close rest around n c
moves_close (Rest ss ∷ rest) around n c = moves_close rest around n c
moves_close (Test test step s ∷ rest) around n c = moves_close rest around n c
moves_close (Unwrite d ∷ rest) around n c = moves_close rest around n c
moves_close (Begin e what ∷ rest) around n c = moves_close rest around n c
moves_close (Nothing_to_do ∷ rest) around n c = moves_close rest around n c
moves_close (Go_to k ∷ rest) around n c = moves_close rest around n c
moves_close (Go_out ∷ rest) around n c = moves_close rest around n c
moves_close (Go_on ∷ rest) around n c = moves_close rest around n c
moves_close (Go_back ∷ rest) around n c = moves_close rest around n c

-- the numbers of blocks from the outermost on, the innermost first, before those of further blocks round them
abbrev numbers : List (ℕ × List Decl) → List ℕ → List ℕ
numbers [] outer = outer
numbers (b ∷ bs) outer = numbers bs (b.0 ∷ outer)

abbrev left_in : Todo → List ℕ
left_in [] = []
left_in (Leave b ds ∷ rest) = b ∷ left_in rest
left_in (w ∷ rest) = left_in rest

round_is : (ws : Todo) (inner : List (ℕ × List Decl)) (outer : List ℕ) → numbers (blocks_round ws inner) outer ≡ numbers inner (left_in ws ++ outer)
round_is [] inner outer = refl
round_is (Leave b ds ∷ rest) inner outer = round_is rest ((b, ds) ∷ inner) outer
round_is (Enter b ds ∷ rest) inner outer = round_is rest inner outer
round_is (Unwrite d ∷ rest) inner outer = round_is rest inner outer
round_is (Begin e what ∷ rest) inner outer = round_is rest inner outer
round_is (Nothing_to_do ∷ rest) inner outer = round_is rest inner outer
round_is (Go_to k ∷ rest) inner outer = round_is rest inner outer
round_is (Go_out ∷ rest) inner outer = round_is rest inner outer
round_is (Go_on ∷ rest) inner outer = round_is rest inner outer
round_is (Go_back ∷ rest) inner outer = round_is rest inner outer
round_is (To_do s ∷ rest) inner outer = round_is rest inner outer
round_is (Rest ss ∷ rest) inner outer = round_is rest inner outer
round_is (Round test step s ∷ rest) inner outer = round_is rest inner outer
round_is (Again e s ∷ rest) inner outer = round_is rest inner outer
round_is (Test test step s ∷ rest) inner outer = round_is rest inner outer
round_is (Break_here ∷ rest) inner outer = round_is rest inner outer

closes_left : (ws : Todo) → NoEnters ws → Closes ws (left_in ws)
closes_left [] n = refl
closes_left (Leave b ds ∷ rest) n = (refl, closes_left rest n)
closes_left (Enter b ds ∷ rest) n = absurd n
closes_left (Unwrite d ∷ rest) n = closes_left rest n
closes_left (Begin e what ∷ rest) n = closes_left rest n
closes_left (Nothing_to_do ∷ rest) n = closes_left rest n
closes_left (Go_to k ∷ rest) n = closes_left rest n
closes_left (Go_out ∷ rest) n = closes_left rest n
closes_left (Go_on ∷ rest) n = closes_left rest n
closes_left (Go_back ∷ rest) n = closes_left rest n
closes_left (To_do s ∷ rest) n = closes_left rest n
closes_left (Rest ss ∷ rest) n = closes_left rest n
closes_left (Round test step s ∷ rest) n = closes_left rest n
closes_left (Again e s ∷ rest) n = closes_left rest n
closes_left (Test test step s ∷ rest) n = closes_left rest n
closes_left (Break_here ∷ rest) n = closes_left rest n

left_is : (ws : Todo) (around : List ℕ) → NoEnters ws → Closes ws around → around ≡ left_in ws
left_is [] around n c = c
left_is (Leave b ds ∷ rest) [] n c = absurd c
left_is (Leave b ds ∷ rest) (o ∷ os) n c = ap (λ x. x ∷ os) c.0 ∙ ap (λ xs. b ∷ xs) (left_is rest os n c.1)
left_is (Enter b ds ∷ rest) around n c = absurd n
left_is (Unwrite d ∷ rest) around n c = left_is rest around n c
left_is (Begin e what ∷ rest) around n c = left_is rest around n c
left_is (Nothing_to_do ∷ rest) around n c = left_is rest around n c
left_is (Go_to k ∷ rest) around n c = left_is rest around n c
left_is (Go_out ∷ rest) around n c = left_is rest around n c
left_is (Go_on ∷ rest) around n c = left_is rest around n c
left_is (Go_back ∷ rest) around n c = left_is rest around n c
left_is (To_do s ∷ rest) around n c = left_is rest around n c
left_is (Rest ss ∷ rest) around n c = left_is rest around n c
left_is (Round test step s ∷ rest) around n c = left_is rest around n c
left_is (Again e s ∷ rest) around n c = left_is rest around n c
left_is (Test test step s ∷ rest) around n c = left_is rest around n c
left_is (Break_here ∷ rest) around n c = left_is rest around n c

enters : (bs : List (ℕ × List Decl)) (rest : Todo) (around : List ℕ) → Closes rest (numbers bs around) → Closes (enter_all bs rest) around
enters [] rest around c = c
enters (b ∷ bs) rest around c = enters bs rest (b.0 ∷ around) c

leaves_all : (bs : List (ℕ × List Decl)) (rest : Todo) (around : List ℕ) → Closes rest around → Closes (leave_all bs rest) (numbers bs around)
leaves_all [] rest around c = c
leaves_all (b ∷ bs) rest around c = leaves_all bs (Leave b.0 b.1 ∷ rest) (b.0 ∷ around) (refl, c)

-- two places in blocks that are the same from the outermost on, so far
record Shared (bs cs : List (ℕ × List Decl)) (outer : List ℕ) : Type 0 where
  base : List ℕ
  first : numbers bs outer ≡ numbers (unshared bs cs) base
  second : numbers cs outer ≡ numbers (unshared cs bs) base

if_same : (b c : ℕ × List Decl) (bs cs : List (ℕ × List Decl)) (x y : Bool) → (b.0 == c.0) ≡ x → (c.0 == b.0) ≡ y → (outer : List ℕ)
    → ((o : List ℕ) → Shared bs cs o) → Shared (b ∷ bs) (c ∷ cs) outer
if_same b c bs cs true true p q outer f =
    let r = f (b.0 ∷ outer) in
    let e : c.0 ≡ b.0 = grind (arith, q) in
    record {
      base = r.base;
      first = r.first ∙ ap (λ t. numbers (if t then unshared bs cs else b ∷ bs) r.base) (sym p);
      second = ap (λ n. numbers cs (n ∷ outer)) e ∙ (r.second ∙ ap (λ t. numbers (if t then unshared cs bs else c ∷ cs) r.base) (sym q));
    }
if_same b c bs cs false false p q outer f = record {
  base = outer;
  first = ap (λ t. numbers (if t then unshared bs cs else b ∷ bs) outer) (sym p);
  second = ap (λ t. numbers (if t then unshared cs bs else c ∷ cs) outer) (sym q);
}
if_same b c bs cs true false p q outer f = absurd (grind (arith, p, q))
if_same b c bs cs false true p q outer f = absurd (grind (arith, p, q))

shared : (bs cs : List (ℕ × List Decl)) (outer : List ℕ) → Shared bs cs outer
shared [] [] outer = record { base = outer; first = refl; second = refl }
shared [] (c ∷ cs) outer = record { base = outer; first = refl; second = refl }
shared (b ∷ bs) [] outer = record { base = outer; first = refl; second = refl }
shared (b ∷ bs) (c ∷ cs) outer = if_same b c bs cs (b.0 == c.0) (c.0 == b.0) refl refl outer (shared bs cs)

pub goto_closes : GotoCloses
goto_closes ws todo around n k c =
    let r = shared (blocks_round todo []) (blocks_round ws []) [] in
    let is : around ≡ numbers (unshared (blocks_round todo []) (blocks_round ws [])) r.base =
    left_is todo around k c ∙ (sym (append-nil (left_in todo)) ∙ (sym (round_is todo [] []) ∙ r.first)) in
    let comes : left_in ws ≡ numbers (unshared (blocks_round ws []) (blocks_round todo [])) r.base =
    sym (append-nil (left_in ws)) ∙ (sym (round_is ws [] []) ∙ r.second) in
    let P : List ℕ → Type 0 = λ xs. Closes ws xs in
    let Q : List ℕ → Type 0 = λ xs. Closes (gone_to todo (Some ws)) xs in
    subst Q (sym is) (leaves_all (unshared (blocks_round todo []) (blocks_round ws [])) _ r.base
    (enters (unshared (blocks_round ws []) (blocks_round todo [])) ws r.base (subst P comes (closes_left ws n))))

behind : (s : Stmt) (rest : Todo) → NoEnters rest → NoEntersBehind (opened s rest)
behind (Value e) rest n = n
behind Empty rest n = n
behind (Declare d) rest n = n
behind (Block b ds ss) rest n = n
behind (If e s t) rest n = n
behind (If_only e s) rest n = n
behind (Switch e s) rest n = n
behind (Do s e) rest n = behind s (Again e s ∷ rest) n
behind (For (Some e) test step s) rest n = n
behind (For None (Some e) step s) rest n = n
behind (For None None step s) rest n = behind s (Round None step s ∷ rest) n
behind (Goto k) rest n = n
behind Continue rest n = n
behind Break rest n = n
behind (Return e) rest n = n
behind Return_none rest n = n
behind (Label k s) rest n = behind s rest n
behind (Case z s) rest n = behind s rest n
behind (Default s) rest n = behind s rest n

behind_test : (test step : Option Expr) (s : Stmt) (rest : Todo) → NoEnters rest → NoEntersBehind (tested test step s rest)
behind_test None step s rest n = behind s (Round None step s ∷ rest) n
behind_test (Some e) step s rest n = n

pub ready_enters : ReadyEnters
ready_enters [] n = tt
ready_enters (To_do s ∷ rest) n = behind s rest n
ready_enters (Rest end ∷ rest) n = ready_enters rest n
ready_enters (Rest (and_then s ss) ∷ rest) n = behind s (Rest ss ∷ rest) n
ready_enters (Round test None s ∷ rest) n = behind_test test None s rest n
ready_enters (Round test (Some e) s ∷ rest) n = n
ready_enters (Again e s ∷ rest) n = n
ready_enters (Test test step s ∷ rest) n = behind_test test step s rest n
ready_enters (Break_here ∷ rest) n = ready_enters rest n
ready_enters (Enter b ds ∷ rest) n = absurd n
ready_enters (Leave b ds ∷ rest) n = n
ready_enters (Unwrite d ∷ rest) n = n
ready_enters (Begin e what ∷ rest) n = n
ready_enters (Nothing_to_do ∷ rest) n = n
ready_enters (Go_to k ∷ rest) n = n
ready_enters (Go_out ∷ rest) n = n
ready_enters (Go_on ∷ rest) n = n
ready_enters (Go_back ∷ rest) n = n

abbrev EntersNone : Option Todo → Type 0
EntersNone None = Unit {0}
EntersNone (Some ws) = NoEnters ws

one_more : (ws : Todo) (w : Work) → NoEnters ws → NoEnters (w ∷ []) → NoEnters (ws ++ w ∷ [])
one_more [] w n m = m
one_more (Enter b ds ∷ rest) w n m = absurd n
one_more (Leave b ds ∷ rest) v n m = one_more rest v n m
one_more (Unwrite d ∷ rest) v n m = one_more rest v n m
one_more (Begin e what ∷ rest) v n m = one_more rest v n m
one_more (Nothing_to_do ∷ rest) v n m = one_more rest v n m
one_more (Go_to k ∷ rest) v n m = one_more rest v n m
one_more (Go_out ∷ rest) v n m = one_more rest v n m
one_more (Go_on ∷ rest) v n m = one_more rest v n m
one_more (Go_back ∷ rest) v n m = one_more rest v n m
one_more (To_do s ∷ rest) v n m = one_more rest v n m
one_more (Rest ss ∷ rest) v n m = one_more rest v n m
one_more (Round test step s ∷ rest) v n m = one_more rest v n m
one_more (Again e s ∷ rest) v n m = one_more rest v n m
one_more (Test test step s ∷ rest) v n m = one_more rest v n m
one_more (Break_here ∷ rest) v n m = one_more rest v n m

none_after : (o : Option Todo) (w : Work) → EntersNone o → NoEnters (w ∷ []) → EntersNone (and_after o w)
none_after None w n m = tt
none_after (Some ws) w n m = one_more ws w n m

none_first : (o p : Option Todo) → EntersNone o → EntersNone p → EntersNone (first_of o p)
none_first None p n m = m
none_first (Some ws) p n m = n

none_here : (b : Bool) (s : Stmt) (o : Option Todo) → EntersNone o → EntersNone (found_here b s o)
none_here true s o n = tt
none_here false s o n = n

none_where : (b : Bool) (o : Option Todo) → EntersNone o → EntersNone (if_goes b o)
none_where true o n = n
none_where false o n = tt

mutual
  finds_none : (t : Target) (s : Stmt) → EntersNone (find t s)
  finds_none t (Label k s) = none_here (is_label t k) s (find t s) (finds_none t s)
  finds_none t (Case z s) = none_here (is_case t z) s (find t s) (finds_none t s)
  finds_none t (Default s) = none_here (is_default t) s (find t s) (finds_none t s)
  finds_none t (Block b ds ss) = none_after (find_in t ss) (Leave b ds) (finds_none_in t ss) tt
  finds_none t (If e s u) = none_first (find t s) (find t u) (finds_none t s) (finds_none t u)
  finds_none t (If_only e s) = finds_none t s
  finds_none t (Switch e s) = none_where (goes_into_switch t) (and_after (find t s) Break_here) (none_after (find t s) Break_here (finds_none t s) tt)
  finds_none t (Do s e) = none_after (find t s) (Again e s) (finds_none t s) tt
  finds_none t (For start test step s) = none_after (find t s) (Round test step s) (finds_none t s) tt
  finds_none t (Value e) = tt
  finds_none t Empty = tt
  finds_none t (Declare d) = tt
  finds_none t (Goto k) = tt
  finds_none t Continue = tt
  finds_none t Break = tt
  finds_none t (Return e) = tt
  finds_none t Return_none = tt

  finds_none_in : (t : Target) (ss : Stmts) → EntersNone (find_in t ss)
  finds_none_in t end = tt
  finds_none_in t (and_then s ss) =
      none_first (and_after (find t s) (Rest ss)) (find_in t ss) (none_after (find t s) (Rest ss) (finds_none t s) tt) (finds_none_in t ss)

pub finds_no_enters : FindsNoEnters
finds_no_enters t s ws e = let P : Option Todo → Type 0 = EntersNone in subst P e (finds_none t s)
