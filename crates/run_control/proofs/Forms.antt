-- What each form of statement adds.
use Rattle.std.specs.Borrow.{Bor}
use Rattle.std.proofs.Common.{◌≡◌, ℕ, ◌<◌, ◌≤◌, zero, suc, arith, Bool, true, not, ℤ, List, [], ◌∷◌, ◌++◌, length, map, drop, get_or, Option}
use Rattle.std.proofs.Common.{refl, sym, ◌∙◌, ap, subst}
use Rattle.std.proofs.Math.Seq.{drop-cons}
use Rattle.c_model.specs.Program as model
use Rattle.c_model.specs.Program.{Stmt}
use Rattle.c_model.specs.Control as todo
use Rattle.run_control.specs.declared.statement.Statement.{Statement}
use Rattle.run_control.specs.declared.statement.Statement.TheVariants as statement
use Rattle.run_control.specs.declared.statement.Block.{Block}
use Rattle.run_control.specs.declared.statement.Switch.{Switch}
use Rattle.run_control.specs.declared.statement.Again.{Again}
use Rattle.run_control.specs.declared.statement.Round.{Round}
use Rattle.run_control.specs.declared.links.Link.{Link}
use Rattle.run_control.specs.declared.targets.Found.{Found}
use Rattle.run_control.specs.declared.targets.Target.TheVariants as target
use Rattle.run_control.specs.declared.work.Work.TheVariants as work
use Rattle.run_control.specs.View.{Meaning, stmt_of, block_of, again_of, round_of, in_turn, root_if}
use Rattle.run_control.specs.Targets.{Bodies, and_all, targets, all_targets, added, bodies, block_pairs, all_bodies, Adds}
use Rattle.run_control.proofs.Equations.{stmt-label, stmt-case, stmt-default, stmt-if, stmt-if_only, stmt-block, stmt-do, stmt-for, stmt-switch}
use Rattle.run_control.proofs.Equations.{again-body, round-body, bodies-label, bodies-case, bodies-default, bodies-if, bodies-if_only}
use Rattle.run_control.proofs.Equations.{bodies-block, bodies-do, bodies-for, bodies-switch, bodies-all, block-statements}
use Rattle.run_control.proofs.Adding.{adds_nothing, adds_two, adds_linked, adds_labelled, adds_as, adds_same}

-- the targets of a statement, and the bodies in it
abbrev pub AddsIn : (labels : Bool) → List Link → List Found → List Link → List Found → ℕ → Statement → Type 0
AddsIn labels l0 f0 l2 f2 round s = Adds l0 f0 l2 f2 round (λ m. targets labels (stmt_of m s)) (λ m. bodies m s)

pub at_same : (labels : Bool) (l0 l2 : List Link) (f0 f2 : List Found) (round : ℕ) (s t : Statement) → s ≡ t → AddsIn labels l0 f0 l2 f2 round t
    → AddsIn labels l0 f0 l2 f2 round s
at_same labels l0 l2 f0 f2 round s t e = let P : Statement → Type 0 = λ x. AddsIn labels l0 f0 l2 f2 round x in subst P (sym e)

-- a statement of this form
pub as_form : (labels : Bool) (l0 l2 : List Link) (f0 f2 : List Found) (round : ℕ) (s t : Statement) (stmt : Meaning → Stmt) (pairs : Meaning → Bodies)
    → s ≡ t → ((m : Meaning) → stmt_of m t ≡ stmt m) → ((m : Meaning) → bodies m t ≡ pairs m)
    → Adds l0 f0 l2 f2 round (λ m. targets labels (stmt m)) pairs → AddsIn labels l0 f0 l2 f2 round s
as_form labels l0 l2 f0 f2 round s t stmt pairs e h k add =
    at_same labels l0 l2 f0 f2 round s t e
    (adds_same l0 l2 f0 f2 round (λ m. targets labels (stmt m)) (λ m. targets labels (stmt_of m t)) pairs (λ m. bodies m t) (λ m. ap (targets labels)
    (sym (h m))) k add)

pub at_label : (labels : Bool) (l0 l2 : List Link) (f0 f1 f2 : List Found) (round k : ℕ) (s : Statement) (a : Bor Statement) (b : Statement)
    → s ≡ statement.Label k a.now → b ≡ a.now → f1 ≡ added labels f0 (record { target = target.Label k; place = record { statement = a; round = round } })
    → AddsIn labels l0 f1 l2 f2 round b → AddsIn labels l0 f0 l2 f2 round s
at_label labels l0 l2 f0 f1 f2 round k s a b e h is add =
    as_form labels l0 l2 f0 f2 round s (statement.Label k a.now) (λ m. model.Label k (stmt_of m a.now)) (λ m. bodies m a.now) e (λ m. stmt-label m k
    a.now) (λ m. bodies-label m k a.now)
    (adds_labelled labels l0 l2 f0 f1 f2 (record { target = target.Label k; place = record { statement = a; round = round } })
    (λ m. targets labels (stmt_of m a.now)) (λ m. bodies m a.now) is (at_same labels l0 l2 f1 f2 round a.now b (sym h) add))

pub at_case : (labels : Bool) (l0 l2 : List Link) (f0 f1 f2 : List Found) (round : ℕ) (z : ℤ) (s : Statement) (a : Bor Statement) (b : Statement)
    → s ≡ statement.Case z a.now → b ≡ a.now → f1 ≡ added (not labels) f0 (record { target = target.Case z; place = record { statement = a; round = round } })
    → AddsIn labels l0 f1 l2 f2 round b → AddsIn labels l0 f0 l2 f2 round s
at_case labels l0 l2 f0 f1 f2 round z s a b e h is add =
    as_form labels l0 l2 f0 f2 round s (statement.Case z a.now) (λ m. model.Case z (stmt_of m a.now)) (λ m. bodies m a.now) e (λ m. stmt-case m z
    a.now) (λ m. bodies-case m z a.now)
    (adds_labelled (not labels) l0 l2 f0 f1 f2 (record { target = target.Case z; place = record { statement = a; round = round } })
    (λ m. targets labels (stmt_of m a.now)) (λ m. bodies m a.now) is (at_same labels l0 l2 f1 f2 round a.now b (sym h) add))

pub at_default : (labels : Bool) (l0 l2 : List Link) (f0 f1 f2 : List Found) (round : ℕ) (s : Statement) (a : Bor Statement) (b : Statement)
    → s ≡ statement.Default a.now → b ≡ a.now → f1 ≡ added (not labels) f0 (record {
      target = target.Default;
      place = record {
        statement = a;
        round =
            round;
      };
    })
    → AddsIn labels l0 f1 l2 f2 round b → AddsIn labels l0 f0 l2 f2 round s
at_default labels l0 l2 f0 f1 f2 round s a b e h is add =
    as_form labels l0 l2 f0 f2 round s (statement.Default a.now) (λ m. model.Default (stmt_of m a.now)) (λ m. bodies m a.now) e (λ m. stmt-default m
    a.now) (λ m. bodies-default m a.now)
    (adds_labelled (not labels) l0 l2 f0 f1 f2 (record { target = target.Default; place = record { statement = a; round = round } })
    (λ m. targets labels (stmt_of m a.now)) (λ m. bodies m a.now) is (at_same labels l0 l2 f1 f2 round a.now b (sym h) add))

pub at_if : (labels : Bool) (l0 l1 l2 : List Link) (f0 f1 f2 : List Found) (round n : ℕ) (s first_one second_one a b : Statement)
    → s ≡ statement.If n first_one second_one → a ≡ first_one → b ≡ second_one → AddsIn labels l0 f0 l1 f1 round a
    → AddsIn labels l1 f1 l2 f2 round b → AddsIn labels l0 f0 l2 f2 round s
at_if labels l0 l1 l2 f0 f1 f2 round n s first_one second_one a b e h k first second =
    as_form labels l0 l2 f0 f2 round s (statement.If n first_one second_one) (λ m. model.If (m.root n) (stmt_of m first_one) (stmt_of m second_one))
    (λ m. bodies m first_one ++ bodies m second_one) e (λ m. stmt-if m n first_one second_one) (λ m. bodies-if m n first_one second_one)
    (adds_two l0 l1 l2 f0 f1 f2 round _ _ _ _ (at_same labels l0 l1 f0 f1 round first_one a (sym h) first) (at_same labels l1 l2 f1 f2 round
    second_one b (sym k) second))

pub at_if_only : (labels : Bool) (l0 l2 : List Link) (f0 f2 : List Found) (round n : ℕ) (s inner a : Statement)
    → s ≡ statement.IfOnly n inner → a ≡ inner → AddsIn labels l0 f0 l2 f2 round a → AddsIn labels l0 f0 l2 f2 round s
at_if_only labels l0 l2 f0 f2 round n s inner a e h add =
    as_form labels l0 l2 f0 f2 round s (statement.IfOnly n inner) (λ m. model.If_only (m.root n) (stmt_of m inner)) (λ m. bodies m inner) e (λ m.
    stmt-if_only m n inner) (λ m. bodies-if_only m n inner) (at_same labels l0 l2 f0 f2 round inner a (sym h) add)

pub at_block : (labels : Bool) (l0 l1 l2 : List Link) (f0 f2 : List Found) (round n : ℕ) (s : Statement) (b : Bor Block)
    → s ≡ statement.Block b.now → l1 ≡ l0 ++ record { work = work.Leave b; outer = round } ∷ [] → n ≡ length l1
    → Adds l1 f0 l2 f2 n (λ m. all_targets labels (block_of m b.now).statements) (λ m. block_pairs m b.now) → AddsIn labels l0 f0 l2 f2 round s
at_block labels l0 l1 l2 f0 f2 round n s b e is at add =
    as_form labels l0 l2 f0 f2 round s (statement.Block b.now) (λ m. model.Block (block_of m b.now).number (m.decls (block_of m b.now).number)
    (block_of m b.now).statements) (λ m. block_pairs m b.now) e (λ m. stmt-block m b.now) (λ m. bodies-block m b.now)
    (adds_linked l0 l1 l2 f0 f2 (record { work = work.Leave b; outer = round }) n _ _ is at add)

pub at_do : (labels : Bool) (l0 l1 l2 : List Link) (f0 f2 : List Found) (round n : ℕ) (s a : Statement) (b : Bor Again)
    → s ≡ statement.Do b.now → a ≡ b.now.body → l1 ≡ l0 ++ record { work = work.Again b; outer = round } ∷ [] → n ≡ length l1
    → AddsIn labels l1 f0 l2 f2 n a → AddsIn labels l0 f0 l2 f2 round s
at_do labels l0 l1 l2 f0 f2 round n s a b e h is at add =
    as_form labels l0 l2 f0 f2 round s (statement.Do b.now) (λ m. model.Do (again_of m b.now).body (again_of m b.now).test) (λ m. bodies m
    b.now.body) e (λ m. stmt-do m b.now) (λ m. bodies-do m b.now)
    (adds_linked l0 l1 l2 f0 f2 (record { work = work.Again b; outer = round }) n (λ m. targets labels (again_of m b.now).body) (λ m. bodies m
    b.now.body) is at
    (adds_same l1 l2 f0 f2 n (λ m. targets labels (stmt_of m a)) (λ m. targets labels (again_of m b.now).body) (λ m. bodies m a) (λ m. bodies m b.now.body)
    (λ m. ap (targets labels) (ap (stmt_of m) h ∙ sym (again-body m b.now))) (λ m. ap (bodies m) (sym h)) add))

pub at_for : (labels : Bool) (l0 l1 l2 : List Link) (f0 f2 : List Found) (round n : ℕ) (start : Option ℕ) (s a : Statement) (b : Bor Round)
    → s ≡ statement.For start b.now → a ≡ b.now.body → l1 ≡ l0 ++ record { work = work.Round b; outer = round } ∷ [] → n ≡ length l1
    → AddsIn labels l1 f0 l2 f2 n a → AddsIn labels l0 f0 l2 f2 round s
at_for labels l0 l1 l2 f0 f2 round n start s a b e h is at add =
    as_form labels l0 l2 f0 f2 round s (statement.For start b.now) (λ m. model.For (root_if m.root start) (round_of m b.now).test (round_of m
    b.now).step (round_of m b.now).body) (λ m. bodies m b.now.body) e (λ m. stmt-for m start b.now) (λ m. bodies-for m start b.now)
    (adds_linked l0 l1 l2 f0 f2 (record { work = work.Round b; outer = round }) n (λ m. targets labels (round_of m b.now).body) (λ m. bodies m
    b.now.body) is at
    (adds_same l1 l2 f0 f2 n (λ m. targets labels (stmt_of m a)) (λ m. targets labels (round_of m b.now).body) (λ m. bodies m a) (λ m. bodies m b.now.body)
    (λ m. ap (targets labels) (ap (stmt_of m) h ∙ sym (round-body m b.now))) (λ m. ap (bodies m) (sym h)) add))

pub at_switch : (l0 l1 l2 : List Link) (f0 f2 : List Found) (round n : ℕ) (s a : Statement) (b : Switch)
    → s ≡ statement.Switch b → a ≡ b.body → l1 ≡ l0 ++ record { work = work.BreakHere; outer = round } ∷ [] → n ≡ length l1
    → AddsIn true l1 f0 l2 f2 n a → AddsIn true l0 f0 l2 f2 round s
at_switch l0 l1 l2 f0 f2 round n s a b e h is at add =
    as_form true l0 l2 f0 f2 round s (statement.Switch b) (λ m. model.Switch (m.root b.test) (m.body b.number)) (λ m. (
      m.body b.number,
      stmt_of m
          b.body,
    ) ∷ bodies m b.body)
    e (λ m. stmt-switch m b) (λ m. bodies-switch m b)
    (adds_as l0 l2 f0 f2 round (λ m. and_all (targets true (stmt_of m b.body)) (todo.Break_here ∷ [])) (λ m. and_all (targets true (m.body b.number))
    (todo.Break_here ∷ []))
    (λ m. bodies m b.body) (λ m. (m.body b.number, stmt_of m b.body) ∷ bodies m b.body)
    (λ m q. (ap (λ x. and_all (targets true x) (todo.Break_here ∷ [])) (sym q.0), q.1))
    (adds_linked l0 l1 l2 f0 f2 (record { work = work.BreakHere; outer = round }) n _ _ is at (at_same true l1 l2 f0 f2 n b.body a (sym h) add)))

-- of a block's statements those from this one on
abbrev pub AddsRest : (labels : Bool) → List Link → List Found → List Link → List Found → ℕ → List Statement → Type 0
AddsRest labels l0 f0 l2 f2 round ss = Adds l0 f0 l2 f2 round (λ m. all_targets labels (in_turn (map (stmt_of m) ss))) (λ m. all_bodies m ss)

pub at_rest : (labels : Bool) (l0 l1 l2 l3 : List Link) (f0 f2 f3 : List Found) (round n i j : ℕ) (ss : List Statement) (s : Statement) (rest : Bor
    (List Statement))
    → j ≡ suc i → i < length ss → s ≡ get_or ss i s → rest.now ≡ drop j ss → l1 ≡ l0 ++ record { work = work.Rest rest; outer = round } ∷ [] → n ≡ length l1
    → AddsIn labels l1 f0 l2 f2 n s → AddsRest labels l2 f2 l3 f3 round (drop j ss) → AddsRest labels l0 f0 l3 f3 round (drop i ss)
at_rest labels l0 l1 l2 l3 f0 f2 f3 round n i j ss s rest next within item is_rest is at add more =
    let cut : drop i ss ≡ s ∷ drop j ss = drop-cons ss i s within ∙ (ap (λ x. x ∷ drop (suc i) ss) (sym item) ∙ ap (λ k. s ∷ drop k ss) (sym next)) in
    let P : List Statement → Type 0 = λ xs. AddsRest labels l0 f0 l3 f3 round xs in
    let Q : List Statement → Type 0 = λ xs. Adds l0 f0 l2 f2 round (λ m. and_all (targets labels (stmt_of m s)) (todo.Rest (in_turn (map (stmt_of m)
    xs)) ∷ [])) (λ m. bodies m s) in
    let one : Q rest.now = adds_linked l0 l1 l2 f0 f2 (record { work = work.Rest rest; outer = round }) n (λ m. targets labels (stmt_of m s)) (λ m.
    bodies m s) is at add in
    subst P (sym cut) (adds_two l0 l2 l3 f0 f2 f3 round (λ m. and_all (targets labels (stmt_of m s)) (todo.Rest (in_turn (map (stmt_of m) (drop j ss))) ∷ []))
    (λ m. all_targets labels (in_turn (map (stmt_of m) (drop j ss)))) (λ m. bodies m s) (λ m. all_bodies m (drop j ss)) (subst Q is_rest one) more)

pub rest_is : (xs rest now : List Statement) (i j : ℕ) → j ≡ suc i → rest ≡ drop i xs → now ≡ drop 1 rest → now ≡ drop j xs
rest_is xs rest now i j next e h = h ∙ (ap (drop 1) e ∙ (drop_drop xs i ∙ ap (λ k. drop k xs) (sym next)))
  where
    drop_drop : (ys : List Statement) (k : ℕ) → drop 1 (drop k ys) ≡ drop (suc k) ys
    drop_drop [] zero = refl
    drop_drop [] (suc k) = refl
    drop_drop (y ∷ ys) zero = refl
    drop_drop (y ∷ ys) (suc k) = drop_drop ys k

pub rest_none : (labels : Bool) (l : List Link) (f : List Found) (round i : ℕ) (ss : List Statement) → length ss ≤ i
    → AddsRest labels l f l f round (drop i ss)
rest_none labels l f round i ss h =
    let P : List Statement → Type 0 = λ xs. AddsRest labels l f l f round xs in subst P (sym (none ss i h)) (adds_nothing l f round)
  where
    none : (ys : List Statement) (k : ℕ) → length ys ≤ k → drop k ys ≡ []
    none [] zero h = refl
    none [] (suc k) h = refl
    none (y ∷ ys) zero h = absurd (omega (arith, h))
    none (y ∷ ys) (suc k) h = none ys k (omega (arith, h))

-- all statements of a block
pub at_all : (labels : Bool) (l0 l2 : List Link) (f0 f2 : List Found) (round : ℕ) (b : Block) (items : List Statement) → items ≡ b.statements
    → AddsRest labels l0 f0 l2 f2 round items → Adds l0 f0 l2 f2 round (λ m. all_targets labels (block_of m b).statements) (λ m. block_pairs m b)
at_all labels l0 l2 f0 f2 round b items e add =
    adds_same l0 l2 f0 f2 round (λ m. all_targets labels (in_turn (map (stmt_of m) items))) (λ m. all_targets labels (block_of m b).statements) (λ m.
    all_bodies m items) (λ m. block_pairs m b)
    (λ m. ap (all_targets labels) (ap (λ xs. in_turn (map (stmt_of m) xs)) e ∙ sym (block-statements m b))) (λ m. bodies-all m b
    ∙ ap (all_bodies m) (sym e)) add

pub at_switch_in : (labels : Bool) → labels ≡ true → (l0 l1 l2 : List Link) (f0 f2 : List Found) (round n : ℕ) (s a : Statement) (b : Switch)
    → s ≡ statement.Switch b → a ≡ b.body → l1 ≡ l0 ++ record { work = work.BreakHere; outer = round } ∷ [] → n ≡ length l1
    → AddsIn labels l1 f0 l2 f2 n a → AddsIn labels l0 f0 l2 f2 round s
at_switch_in labels it l0 l1 l2 f0 f2 round n s a b e h is at =
    let P : Bool → Type 0 = λ x. AddsIn x l1 f0 l2 f2 n a → AddsIn x l0 f0 l2 f2 round s in
    subst P (sym it) (at_switch l0 l1 l2 f0 f2 round n s a b e h is at)
