-- The `switch` statements of a body are gathered.
use Rattle.std.proofs.Common.{◌≡◌, ◌⊎◌, inl, inr, ℕ, zero, suc, ◌+◌, ◌≤◌, ◌<◌, ℤ, refl, sym, ap, ◌∙◌, arith, append_assoc}
use Rattle.std.proofs.Common.{List, [], ◌∷◌, ◌++◌, length, map, take, slice_get, get_or, Option, Some}
use Rattle.std.specs.Borrow.{Bor}
use Rattle.run_control.specs.declared.statement.Statement.{Statement, roll-Statement, para-roll-Statement, map-Statement}
use Rattle.run_control.specs.declared.statement.Statement.TheOpen as form
use Rattle.run_control.specs.declared.statement.Statement.TheOpen.{Statement-F}
use Rattle.run_control.specs.declared.statement.Statement.TheVariants as statement
use Rattle.run_control.specs.declared.statement.Block.{Block, para-Block, para-roll-Block, roll-out-Block, out-Block}
use Rattle.run_control.specs.declared.statement.Switch.{Switch, para-Switch, para-roll-Switch, roll-out-Switch, out-Switch}
use Rattle.run_control.specs.declared.statement.Again.{Again, para-Again, para-roll-Again, roll-out-Again, out-Again}
use Rattle.run_control.specs.declared.statement.Round.{Round, para-Round, para-roll-Round, roll-out-Round, out-Round}
use Rattle.run_statements.specs.Switches.{
  Switches,
  again_switches,
  block_switches,
  inner_switches,
  joined,
  round_switches,
  statement_switches,
  switches_in,
  switches_in_all,
}

-- ---- those of the parts of a statement
abbrev pub in_again : Again → Switches
in_again = para-Again Switches Switches Switches Switches Switches statement_switches again_switches block_switches round_switches inner_switches

abbrev pub in_block : Block → Switches
in_block = para-Block Switches Switches Switches Switches Switches statement_switches again_switches block_switches round_switches inner_switches

abbrev pub in_round : Round → Switches
in_round = para-Round Switches Switches Switches Switches Switches statement_switches again_switches block_switches round_switches inner_switches

abbrev pub in_switch : Switch → Switches
in_switch = para-Switch Switches Switches Switches Switches Switches statement_switches again_switches block_switches round_switches inner_switches

pub rolled : (layer : Statement-F Statement Again Block Round Switch) → switches_in (roll-Statement layer)
    ≡ statement_switches (map-Statement Statement Again Block Round Switch (Statement × Switches) (Again × Switches) (Block × Switches) (Round × Switches)
    (Switch × Switches) (λ y. (y, switches_in y)) (λ y. (y, in_again y)) (λ y. (y, in_block y)) (λ y. (y, in_round y)) (λ y. (y, in_switch y)) layer)
rolled layer =
    para-roll-Statement Switches Switches Switches Switches Switches statement_switches again_switches block_switches round_switches inner_switches layer

pub again_is : (b : Again) → in_again b ≡ switches_in b.body
again_is b = ap in_again (sym (roll-out-Again b))
    ∙ para-roll-Again Switches Switches Switches Switches Switches statement_switches again_switches block_switches round_switches inner_switches (out-Again b)

pub round_is : (b : Round) → in_round b ≡ switches_in b.body
round_is b = ap in_round (sym (roll-out-Round b))
    ∙ para-roll-Round Switches Switches Switches Switches Switches statement_switches again_switches block_switches round_switches inner_switches (out-Round b)

pub switch_is : (b : Switch) → in_switch b ≡ switches_in b.body
switch_is b = ap in_switch (sym (roll-out-Switch b))
    ∙ para-roll-Switch Switches Switches Switches Switches Switches statement_switches again_switches block_switches round_switches inner_switches
    (out-Switch b)

pub joined_all : (ss : List Statement) → joined (map (λ s. (s, switches_in s)) ss) ≡ switches_in_all ss
joined_all [] = refl
joined_all (s ∷ ss) = ap (λ bs. switches_in s ++ bs) (joined_all ss)

pub block_is : (b : Block) → in_block b ≡ switches_in_all b.statements
block_is b = ap in_block (sym (roll-out-Block b))
    ∙ para-roll-Block Switches Switches Switches Switches Switches statement_switches again_switches block_switches round_switches inner_switches (out-Block b)
    ∙ joined_all b.statements

-- ---- what is gathered from a statement
abbrev pub now_of : Bor Switch → Switch
now_of s = s.now

abbrev pub Adds : Switches → (old new : List (Bor Switch)) → Type 0
Adds more old new = map now_of new ≡ map now_of old ++ more

pub append_nothing : {A : Type 0} (xs : List A) → xs ++ [] ≡ xs
append_nothing [] = refl
append_nothing (x ∷ xs) = ap (λ ys. x ∷ ys) (append_nothing xs)

module _ (s : Statement) where
  -- none stands in a statement without statements in it
  abbrev pub IsSimple : Type 0
  IsSimple = ((n : ℕ) × (s ≡ statement.Value n)) ⊎ ((s ≡ statement.Empty) ⊎ (((d : ℕ) × (s ≡ statement.Declare d)) ⊎ (((k : ℕ) × (s ≡ statement.Goto k))
      ⊎ ((s ≡ statement.Continue) ⊎ ((s ≡ statement.Break) ⊎ (((n : ℕ) × (s ≡ statement.Return n)) ⊎ (s ≡ statement.ReturnNone)))))))

  simple : IsSimple → switches_in s ≡ []
  simple (inl h) = ap switches_in (h.1 ∙ sym (statement.rolls-Value h.0)) ∙ rolled (form.Value h.0)
  simple (inr (inl h)) = ap switches_in (h ∙ sym statement.rolls-Empty) ∙ rolled form.Empty
  simple (inr (inr (inl h))) = ap switches_in (h.1 ∙ sym (statement.rolls-Declare h.0)) ∙ rolled (form.Declare h.0)
  simple (inr (inr (inr (inl h)))) = ap switches_in (h.1 ∙ sym (statement.rolls-Goto h.0)) ∙ rolled (form.Goto h.0)
  simple (inr (inr (inr (inr (inl h))))) = ap switches_in (h ∙ sym statement.rolls-Continue) ∙ rolled form.Continue
  simple (inr (inr (inr (inr (inr (inl h)))))) = ap switches_in (h ∙ sym statement.rolls-Break) ∙ rolled form.Break
  simple (inr (inr (inr (inr (inr (inr (inl h))))))) = ap switches_in (h.1 ∙ sym (statement.rolls-Return h.0)) ∙ rolled (form.Return h.0)
  simple (inr (inr (inr (inr (inr (inr (inr h))))))) = ap switches_in (h ∙ sym statement.rolls-ReturnNone) ∙ rolled form.ReturnNone

  pub gather_simple : (xs : List (Bor Switch)) → IsSimple → Adds (switches_in s) xs xs
  gather_simple xs is = sym (ap (λ ys. map now_of xs ++ ys) (simple is) ∙ append_nothing (map now_of xs))

  -- the statement in it has all
  gather_inner : (x a : Statement) (old new : List (Bor Switch)) → switches_in s ≡ switches_in x → a ≡ x → Adds (switches_in a) old new →
      Adds (switches_in s) old new
  gather_inner x a old new all is g = g ∙ ap (λ ys. map now_of old ++ ys) (ap switches_in is ∙ sym all)

  pub gather_label : (k : ℕ) (x a : Statement) (old new : List (Bor Switch)) → s ≡ statement.Label k x → a ≡ x → Adds (switches_in a) old new →
      Adds (switches_in s) old new
  gather_label k x a old new is = gather_inner x a old new (ap switches_in (is ∙ sym (statement.rolls-Label k x)) ∙ rolled (form.Label k x))

  pub gather_case : (z : ℤ) (x a : Statement) (old new : List (Bor Switch)) → s ≡ statement.Case z x → a ≡ x → Adds (switches_in a) old new →
      Adds (switches_in s) old new
  gather_case z x a old new is = gather_inner x a old new (ap switches_in (is ∙ sym (statement.rolls-Case z x)) ∙ rolled (form.Case z x))

  pub gather_default : (x a : Statement) (old new : List (Bor Switch)) → s ≡ statement.Default x → a ≡ x → Adds (switches_in a) old new →
      Adds (switches_in s) old new
  gather_default x a old new is = gather_inner x a old new (ap switches_in (is ∙ sym (statement.rolls-Default x)) ∙ rolled (form.Default x))

  pub gather_if_only : (n : ℕ) (x a : Statement) (old new : List (Bor Switch)) → s ≡ statement.IfOnly n x → a ≡ x → Adds (switches_in a) old new →
      Adds (switches_in s) old new
  gather_if_only n x a old new is = gather_inner x a old new (ap switches_in (is ∙ sym (statement.rolls-IfOnly n x)) ∙ rolled (form.IfOnly n x))

  pub gather_do : (b : Again) (a : Statement) (old new : List (Bor Switch)) → s ≡ statement.Do b → a ≡ b.body → Adds (switches_in a) old new →
      Adds (switches_in s) old new
  gather_do b a old new is = gather_inner b.body a old new (ap switches_in (is ∙ sym (statement.rolls-Do b)) ∙ rolled (form.Do b) ∙ again_is b)

  pub gather_for : (start : Option ℕ) (b : Round) (a : Statement) (old new : List (Bor Switch)) → s ≡ statement.For start b → a ≡ b.body →
      Adds (switches_in a) old new → Adds (switches_in s) old new
  gather_for start b a old new is =
      gather_inner b.body a old new (ap switches_in (is ∙ sym (statement.rolls-For start b)) ∙ rolled (form.For start b) ∙ round_is b)

  -- a block
  pub gather_block : (b : Block) (ss : List Statement) (old new : List (Bor Switch)) → s ≡ statement.Block b → ss ≡ b.statements →
      Adds (switches_in_all ss) old new → Adds (switches_in s) old new
  gather_block b ss old new is same g =
      let all : switches_in s ≡ switches_in_all b.statements =
      ap switches_in (is ∙ sym (statement.rolls-Block b)) ∙ rolled (form.Block b) ∙ block_is b in
      g ∙ ap (λ ys. map now_of old ++ ys) (ap switches_in_all same ∙ sym all)

  -- both branches
  pub gather_if : (n : ℕ) (x y a b : Statement) (old mid new : List (Bor Switch)) → s ≡ statement.If n x y → a ≡ x → b ≡ y →
      Adds (switches_in a) old mid → Adds (switches_in b) mid new → Adds (switches_in s) old new
  gather_if n x y a b old mid new is one two g h =
      let all : switches_in s ≡ switches_in x ++ switches_in y = ap switches_in (is ∙ sym (statement.rolls-If n x y)) ∙ rolled (form.If n x y) in
      let along : (map now_of old ++ switches_in a) ++ switches_in b ≡ map now_of old ++ (switches_in a ++ switches_in b) = simp append_assoc in
      h ∙ ap (λ ys. ys ++ switches_in b) g ∙ along
      ∙ ap (λ ys. map now_of old ++ (ys ++ switches_in b)) (ap switches_in one)
      ∙ ap (λ ys. map now_of old ++ (switches_in x ++ ys)) (ap switches_in two)
      ∙ ap (λ ys. map now_of old ++ ys) (sym all)

  -- a `switch` itself, and those in its body
  pub gather_switch : (a : Statement) (b : Bor Switch) (old mid new : List (Bor Switch)) → s ≡ statement.Switch b.now → a ≡ b.now.body →
      mid ≡ old ++ b ∷ [] → Adds (switches_in a) mid new → Adds (switches_in s) old new
  gather_switch a b old mid new is same one g =
      let all : switches_in s ≡ b.now ∷ switches_in b.now.body =
      ap switches_in (is ∙ sym (statement.rolls-Switch b.now)) ∙ rolled (form.Switch b.now) ∙ ap (λ ys. b.now ∷ ys) (switch_is b.now) in
      let along : (map now_of old ++ b.now ∷ []) ++ switches_in a ≡ map now_of old ++ (b.now ∷ switches_in a) = simp append_assoc in
      g ∙ ap (λ xs. map now_of xs ++ switches_in a) one ∙ ap (λ ys. ys ++ switches_in a) (map_next old b) ∙ along
      ∙ ap (λ ys. map now_of old ++ (b.now ∷ ys)) (ap switches_in same) ∙ ap (λ ys. map now_of old ++ ys) (sym all)
    where
      map_next : (xs : List (Bor Switch)) (x : Bor Switch) → map now_of (xs ++ x ∷ []) ≡ map now_of xs ++ now_of x ∷ []
      map_next [] x = refl
      map_next (y ∷ xs) x = ap (λ ys. now_of y ∷ ys) (map_next xs x)

-- ---- the statements of a block in turn
all_next : (ss : List Statement) (n : ℕ) (s : Statement) → slice_get ss n ≡ Some s →
    switches_in_all (take (suc n) ss) ≡ switches_in_all (take n ss) ++ switches_in s
all_next [] n s at = absurd (cc)
all_next (x ∷ ss) zero s at = append_nothing (switches_in x) ∙ ap switches_in (let same : x ≡ s = cc in same)
all_next (x ∷ ss) (suc n) s at =
    ap (λ ys. switches_in x ++ ys) (all_next ss n s at)
    ∙ (let along : switches_in x ++ (switches_in_all (take n ss) ++ switches_in s) ≡ (switches_in x ++ switches_in_all (take n ss)) ++ switches_in s =
    simp append_assoc in along)

pub gather_first : (ss : List Statement) (old : List (Bor Switch)) → Adds (switches_in_all (take 0 ss)) old old
gather_first ss old = sym (append_nothing (map now_of old))

pub got : {A : Type 0} (xs : List A) (n : ℕ) (x : A) → n < length xs → x ≡ get_or xs n x → slice_get xs n ≡ Some x
got [] n x lt e = absurd (omega (arith, lt))
got (y ∷ xs) zero x lt e = ap Some (sym e)
got (y ∷ xs) (suc n) x lt e = got xs n x (omega (arith, lt)) e

pub gather_next : (ss : List Statement) (n : ℕ) (s : Statement) (first old new : List (Bor Switch)) → n < length ss → s ≡ get_or ss n s →
    Adds (switches_in_all (take n ss)) first old → Adds (switches_in s) old new → Adds (switches_in_all (take (n + 1) ss)) first new
gather_next ss n s first old new lt is so_far g =
    let along : (map now_of first ++ switches_in_all (take n ss)) ++ switches_in s ≡ map now_of first ++ (switches_in_all (take n ss) ++ switches_in s) =
    simp append_assoc in
    g ∙ ap (λ ys. ys ++ switches_in s) so_far ∙ along
    ∙ ap (λ ys. map now_of first ++ ys)
    (sym (all_next ss n s (got ss n s lt is)) ∙ ap (λ k. switches_in_all (take k ss)) (let one : suc n ≡ n + 1 = omega arith in one))

pub take_all : {A : Type 0} (xs : List A) (n : ℕ) → length xs ≤ n → take n xs ≡ xs
take_all [] zero le = refl
take_all [] (suc n) le = refl
take_all (x ∷ xs) zero le = absurd (omega (arith, le))
take_all (x ∷ xs) (suc n) le = ap (λ ys. x ∷ ys) (take_all xs n (omega (arith, le)))

pub gather_all : (ss : List Statement) (n : ℕ) (old new : List (Bor Switch)) → length ss ≤ n → Adds (switches_in_all (take n ss)) old new →
    Adds (switches_in_all ss) old new
gather_all ss n old new le g = g ∙ ap (λ xs. map now_of old ++ switches_in_all xs) (take_all ss n le)
