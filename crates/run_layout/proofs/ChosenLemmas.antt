-- The choices that are made as soon as a tree is due are those of the definitions.
use Rattle.std.proofs.Common.{arith, ◌≡◌, ◌<◌, ◌≤◌, ◌+◌, ◌==◌, ◌||◌, ◌⊎◌, inl, inr, Bool, true, false, if◌then◌else◌, ℕ, zero, suc, List, [], ◌∷◌, ◌++◌}
use Rattle.std.proofs.Common.{Option, Some, None, slice_get, refl, sym, ap, ◌∙◌, true≢false}
use Rattle.std.specs.Prelude.{nat_lt, is_some}
use Rattle.std.proofs.lemmas.Bool.Decides.{nat_tests}
use Rattle.std.proofs.lemmas.List.{append-nil}
use Rattle.ub_base.specs.declared.clause.Kind.TheVariants.{Val}
use Rattle.c_typed.specs.declared.class.Class.{Class}
use Rattle.c_typed.specs.declared.class.Class.TheVariants.{Choice, Constant, Plain}
use Rattle.c_typed.specs.declared.tree.Conversion.{Conversion}
use Rattle.c_typed.specs.declared.tree.Conversion.TheVariants as conversion
use Rattle.c_typed.specs.declared.tree.Node.{Node}
use Rattle.c_typed.specs.declared.tree.Node.TheOpen as shape
use Rattle.c_typed.specs.declared.tree.Node.TheOpen.{Node-F}
use Rattle.c_typed.specs.declared.tree.Place.{Place}
use Rattle.c_typed.specs.declared.tree.Typed.{Typed, out-Typed}
use Rattle.c_typed.specs.Tree as typed
use Rattle.c_typed.specs.Tree.{Tree, Trees, size, sizes, is_quiet, is_quiet_class, class_over, member_class, conversion_class, first_class}
use Rattle.c_typed.specs.Order as order
use Rattle.c_typed.specs.Order.{Taken, place, goes, is_number, events, operand_events, own_events, has, is_due}
use Rattle.c_model.specs.Program.{Head, And, Or, Cond, Conv, Member, Expr, expr, Exprs, none, more, tree_of, trees_of, head_class}
use Rattle.c_model.specs.Values.{Value, truth, or_nothing}
use Rattle.c_model.specs.World.{World}
use Rattle.c_model.specs.Steps.{Scene, quiet_value, values_of, first_known, choice_by, choice_in, at_node, at_node_among, taken_by}
use Rattle.elaborate.specs.Formed.{is_formed, are_formed, takes as takes_operands}
use Rattle.elaborate.proofs.Listed.{and_l, and_r, all_go, silent}
use Rattle.elaborate.proofs.Ranges.{In, has_or, has_itself, own_node, events_in, eq_of, eq_eq}
use Rattle.run_layout.specs.Branches.{IsChoiceOf, is_choice}
use Rattle.run_layout.specs.declared.steps.Operand.{Operand}
use Rattle.run_layout.specs.Resolved.{resolved}
use Rattle.run_layout.specs.Choosing.{chooses}
use Rattle.run_layout.specs.AtOnce.{truth_of, takes, is_known, chosen_of, chosen_in, first_evaluated}
use Rattle.run_layout.specs.Chosen.{with_chosen, IsKnown, Views, ViewAll, ChosenAtOnce}
use Rattle.run_layout.proofs.AtOnce.{node_at, chosen_from, from_first, of_others, of_choices, first_known as by_known, first_unknown}

-- ---- the choices of nodes by their heads

pub same_choice : (d : Node-F Node Typed) (h : Head) → IsChoiceOf d h → chooses d ≡ is_choice h
same_choice shape.And h e = sym (ap is_choice e)
same_choice shape.Or h e = sym (ap is_choice e)
same_choice shape.Cond h e = sym (ap is_choice e)
same_choice _ h e = sym e

pub no_choice : (h : Head) (vs : List Value) (known : Bool) → is_choice h ≡ false → choice_by h vs known ≡ None
no_choice And vs known e = absurd (true≢false e)
no_choice Or vs known e = absurd (true≢false e)
no_choice Cond vs known e = absurd (true≢false e)
no_choice _ vs known e = refl

pub not_known : (h : Head) (vs : List Value) → choice_by h vs false ≡ None
not_known And [] = refl
not_known And (v ∷ vs) = refl
not_known Or [] = refl
not_known Or (v ∷ vs) = refl
not_known Cond [] = refl
not_known Cond (v ∷ vs) = refl
not_known _ vs = refl

no_values : (h : Head) (known : Bool) → choice_by h [] known ≡ None
no_values And known = refl
no_values Or known = refl
no_values Cond known = refl
no_values _ known = refl

pub by_truth : (d : Node-F Node Typed) (h : Head) (v : Value) (vs : List Value) → IsChoiceOf d h → choice_by h (v ∷ vs) true ≡ takes d (truth v)
by_truth shape.And h v vs e = ap (λ z. choice_by z (v ∷ vs) true) e ∙ step (truth v)
  where
    step : (b : Bool) → (if b then Some 1 else None) ≡ takes {A = Node} {B = Typed} shape.And b
    step true = refl
    step false = refl
by_truth shape.Or h v vs e = ap (λ z. choice_by z (v ∷ vs) true) e ∙ step (truth v)
  where
    step : (b : Bool) → (if b then None else Some 1) ≡ takes {A = Node} {B = Typed} shape.Or b
    step true = refl
    step false = refl
by_truth shape.Cond h v vs e = ap (λ z. choice_by z (v ∷ vs) true) e ∙ step (truth v)
  where
    step : (b : Bool) → (if b then Some 1 else Some 2) ≡ takes {A = Node} {B = Typed} shape.Cond b
    step true = refl
    step false = refl
by_truth _ h v vs e = no_choice h (v ∷ vs) true e

-- a node takes none of its operands again
pub takes_later : (d : Node-F Node Typed) (b : Bool) (i : ℕ) → takes d b ≡ Some i → (j : ℕ) × (i ≡ suc j)
takes_later shape.And true i e = (0, cc)
takes_later shape.And false i e = absurd (cc)
takes_later shape.Or true i e = absurd (cc)
takes_later shape.Or false i e = (0, cc)
takes_later shape.Cond true i e = (0, cc)
takes_later shape.Cond false i e = (1, cc)
takes_later _ b i e = absurd (cc)

-- ---- the classes of nodes that choose

over_no_choice : (o : Option Class) → order.is_choice (class_over o) ≡ false
over_no_choice None = refl
over_no_choice (Some c) = step (is_quiet_class c)
  where
    step : (b : Bool) → order.is_choice (if b then Constant else Plain) ≡ false
    step true = refl
    step false = refl

conversion_no_choice : (c : Conversion) (o : Option Class) → order.is_choice (conversion_class c o) ≡ false
conversion_no_choice (conversion.Integer k) o = over_no_choice o
conversion_no_choice _ o = refl

member_no_choice : (o : Option Class) → order.is_choice (member_class o) ≡ false
member_no_choice None = refl
member_no_choice (Some Rattle.c_typed.specs.declared.class.Class.TheVariants.Object) = refl
member_no_choice (Some _) = refl

class_no_choice : (h : Head) (ts : Trees) → is_choice h ≡ false → order.is_choice (head_class h ts) ≡ false
class_no_choice And ts e = absurd (true≢false e)
class_no_choice Or ts e = absurd (true≢false e)
class_no_choice Cond ts e = absurd (true≢false e)
class_no_choice (Conv c) ts e = conversion_no_choice c (first_class ts)
class_no_choice (Member offset) ts e = member_no_choice (first_class ts)
class_no_choice _ ts e = refl

pub class_choice : (h : Head) (ts : Trees) → is_choice h ≡ true → head_class h ts ≡ Choice
class_choice And ts e = refl
class_choice Or ts e = refl
class_choice Cond ts e = refl
class_choice _ ts e = absurd (true≢false (sym e))

-- ---- choices that are made one after the other

chosen_both : (xs ys : List (ℕ × ℕ)) (kept : Taken) → with_chosen (xs ++ ys) kept ≡ with_chosen ys (with_chosen xs kept)
chosen_both [] ys kept = refl
chosen_both (x ∷ xs) ys kept = chosen_both xs ys (λ n. if x.0 == n then Some x.1 else kept n)

-- where this node is evaluated its choice, else what was kept
abbrev pub made : Taken → List Place → Taken → Taken
made taken us kept n = if has us (place n Val) then taken n else kept n

made_both : (taken : Taken) (us vs : List Place) (kept mid : Taken) (n : ℕ) → mid n ≡ made taken us kept n
    → made taken vs mid n ≡ made taken (us ++ vs) kept n
made_both taken us vs kept mid n e =
    ap (λ z. if has vs (place n Val) then taken n else z) e
    ∙ (step (has us (place n Val)) (has vs (place n Val)) ∙ ap (λ b. if b then taken n else kept n) (sym (has_or us vs (place n Val))))
  where
    step : (a b : Bool) → (if b then taken n else (if a then taken n else kept n)) ≡ (if (a || b) then taken n else kept n)
    step true true = refl
    step true false = refl
    step false true = refl
    step false false = refl

-- the node itself, which chooses nothing
made_own : (taken : Taken) (us vs : List Place) (kept : Taken) (n : ℕ) → (has vs (place n Val) ≡ true → taken n ≡ kept n)
    → made taken us kept n ≡ made taken (us ++ vs) kept n
made_own taken us vs kept n f =
    step (has us (place n Val)) (has vs (place n Val)) f ∙ ap (λ b. if b then taken n else kept n) (sym (has_or us vs (place n Val)))
  where
    step : (a b : Bool) → (b ≡ true → taken n ≡ kept n) → (if a then taken n else kept n) ≡ (if (a || b) then taken n else kept n)
    step true b g = refl
    step false true g = sym (g refl)
    step false false g = refl

-- nothing was kept of so many nodes from this one on
abbrev pub IsEmpty : Taken → (k count : ℕ) → Type 0
IsEmpty kept k count = (n : ℕ) → k ≤ n → n < k + count → kept n ≡ None

pub has_none : (b : Bool) → (b ≡ true → ⊥) → b ≡ false
has_none true f = absurd (f refl)
has_none false f = refl

-- what was kept of nodes that aren't among these stays
made_outside : (taken : Taken) (us : List Place) (kept : Taken) (k count n : ℕ) → ((u : Place) → has us u ≡ true → In k count u.node)
    → (k + count ≤ n) → made taken us kept n ≡ kept n
made_outside taken us kept k count n f l =
    ap (λ b. if b then taken n else kept n) (has_none (has us (place n Val)) (λ h. let i = f (place n Val) h in omega (arith, i.1, l)))

-- ---- which operands of a choice are evaluated

pub bool_cases : (b : Bool) → (b ≡ true) ⊎ (b ≡ false)
bool_cases true = inl refl
bool_cases false = inr refl

goes_taken : (c i : ℕ) → i ≡ c → goes Choice (Some c) i ≡ true
goes_taken c i e = ap (λ z. (i == 0) || (z == i)) (sym e) ∙ step (i == 0) (i == i) (eq_eq i)
  where
    step : (a b : Bool) → b ≡ true → (a || b) ≡ true
    step true b h = refl
    step false b h = h

goes_other : (c i : ℕ) → 0 < i → (c ≡ i → ⊥) → goes Choice (Some c) i ≡ false
goes_other c i l ne =
    let first : (i == 0) ≡ false = grind (arith, nat_tests) in
    let other : (c == i) ≡ false = has_none (c == i) (λ h. ne (eq_of c i h)) in
    ap (λ z. z || (c == i)) first ∙ other

pub none_go : (taken : Taken) (i m : ℕ) (ts : Trees) → operand_events taken Choice None (suc i) m ts ≡ []
none_go taken i m typed.none = refl
none_go taken i m (typed.more t ts) =
    let later : (suc i == 0) ≡ false = grind (arith, nat_tests) in
    ap (λ b. (if (b || false) then events taken m t else []) ++ operand_events taken Choice None (suc (suc i)) (m + size t) ts) later
    ∙ none_go taken (suc i) (m + size t) ts

past_go : (taken : Taken) (c i m : ℕ) (ts : Trees) → c < i → operand_events taken Choice (Some c) i m ts ≡ []
past_go taken c i m typed.none l = refl
past_go taken c i m (typed.more t ts) l =
    ap (λ b. (if b then events taken m t else []) ++ operand_events taken Choice (Some c) (suc i) (m + size t) ts)
    (goes_other c i (omega (arith, l)) (λ e. absurd (omega (arith, l, e))))
    ∙ past_go taken c (suc i) (m + size t) ts (omega (arith, l))

own_only : (k n : ℕ) → has (own_events k Choice) (place n Val) ≡ true → n ≡ k
own_only k n h = own_node (Val ∷ []) k (place n Val) h

-- the choice that a node makes itself
made_choice : (taken : Taken) (us : List Place) (kept : Taken) (k i n : ℕ) → taken k ≡ Some i
    → made taken us (λ m. if k == m then Some i else kept m) n ≡ made taken (us ++ own_events k Choice) kept n
made_choice taken us kept k i n e =
    step (has us (place n Val)) (k == n) (has (own_events k Choice) (place n Val)) (λ h. ap taken (sym (eq_of k n h)) ∙ e)
    (λ h. let same : n ≡ k = own_only k n h in ap (λ z. k == z) same ∙ eq_eq k)
    (λ h. let same : k ≡ n = eq_of k n h in ap (λ z. has (own_events k Choice) (place z Val)) (sym same) ∙ has_itself (place k Val) [])
    ∙ ap (λ b. if b then taken n else kept n) (sym (has_or us (own_events k Choice) (place n Val)))
  where
    step : (a b c : Bool) → (b ≡ true → taken n ≡ Some i) → (c ≡ true → b ≡ true) → (b ≡ true → c ≡ true)
        → (if a then taken n else (if b then Some i else kept n)) ≡ (if (a || c) then taken n else kept n)
    step true b c f g g2 = refl
    step false true true f g g2 = sym (f refl)
    step false true false f g g2 = absurd (true≢false (sym (g2 refl)))
    step false false true f g g2 = absurd (true≢false (sym (g refl)))
    step false false false f g g2 = refl

pub empty_above : (kept : Taken) (k i m count : ℕ) → suc k ≤ m → IsEmpty kept m count → IsEmpty (λ n. if k == n then Some i else kept n) m count
empty_above kept k i m count l h = λ n a b.
    let other : (k == n) ≡ false = has_none (k == n) (λ e. absurd (let same = eq_of k n e in omega (arith, same, a, l))) in
    ap (λ z. if z then Some i else kept n) other ∙ h n a b

pub view_size : (world : World) (f : Scene) (firsts : List ℕ) (k : ℕ) (t : Typed) (e : Expr) → Views world f firsts k t e
    → size (typed.tree_of t) ≡ size (tree_of e)
view_size world f firsts k t (expr h ty line es) v = v.2

view_known : (world : World) (f : Scene) (firsts : List ℕ) (k : ℕ) (t : Typed) (e : Expr) → Views world f firsts k t e → IsKnown world f firsts k t e
view_known world f firsts k t (expr h ty line es) v = v.0

module _ (world : World) (f : Scene) (firsts : List ℕ) (given : Place → Option Value) (taken : Taken) where
  -- the choices are those of the definitions, and no value is given yet
  abbrev mutual
    pub Agree : ℕ → Expr → Type 0
    Agree k (expr h ty line es) =
        (taken k ≡ choice_by h (values_of world f given (suc k) es) (first_known given (suc k) es)) × (given (place k Val) ≡ None) × AgreeAll (suc k) es

    pub AgreeAll : ℕ → Exprs → Type 0
    AgreeAll m none = Unit {0}
    AgreeAll m (more e es) = Agree m e × AgreeAll (m + size (tree_of e)) es

  agree_given : (k : ℕ) (e : Expr) → Agree k e → given (place k Val) ≡ None
  agree_given k (expr h ty line es) a = a.1

  -- what a node chooses by its test
  taken_known : (k : ℕ) (d : Node-F Node Typed) (h : Head) (t : Typed) (e : Expr) (es : Exprs) → IsChoiceOf d h → IsKnown world f firsts (suc k) t e
      → is_known (resolved firsts t (suc k)) ≡ true
      → taken k ≡ choice_by h (values_of world f given (suc k) (more e es)) (first_known given (suc k) (more e es))
      → taken k ≡ takes d (truth_of (resolved firsts t (suc k)))
  taken_known k d h t e es c v known a =
      let quiet : is_quiet (tree_of e) ≡ true = sym v.known ∙ known in
      a
      ∙ (ap (λ b. choice_by h ((if b then quiet_value world f e else or_nothing (given (place (suc k) Val)))
      ∷ values_of world f given (suc k + size (tree_of e)) es) (b || is_some (given (place (suc k) Val)))) quiet
      ∙ (by_truth d h (quiet_value world f e) (values_of world f given (suc k + size (tree_of e)) es) c ∙ ap (takes d) (sym (v.alike quiet))))

  taken_unknown : (k : ℕ) (h : Head) (t : Typed) (e : Expr) (es : Exprs) → IsKnown world f firsts (suc k) t e
      → is_known (resolved firsts t (suc k)) ≡ false → given (place (suc k) Val) ≡ None
      → taken k ≡ choice_by h (values_of world f given (suc k) (more e es)) (first_known given (suc k) (more e es)) → taken k ≡ None
  taken_unknown k h t e es v known left a =
      let quiet : is_quiet (tree_of e) ≡ false = sym v.known ∙ known in
      a
      ∙ (ap (choice_by h (values_of world f given (suc k) (more e es)))
      (ap (λ b. b || is_some (given (place (suc k) Val))) quiet ∙ ap is_some left)
      ∙ not_known h (values_of world f given (suc k) (more e es)))

  -- a node that chooses, the choices of whose operands are these
  test_made : (k : ℕ) (e : Expr) (es : Exprs) (kept : Taken) (n : ℕ) → taken k ≡ None → kept k ≡ None
      → made taken (events taken (suc k) (tree_of e)) kept n
      ≡ made taken (operand_events taken Choice (taken k) 0 (suc k) (trees_of (more e es)) ++ own_events k Choice) kept n
  test_made k e es kept n nothing empty =
      let rest : operand_events taken Choice (taken k) 1 (suc k + size (tree_of e)) (trees_of es) ≡ [] =
      ap (λ c. operand_events taken Choice c 1 (suc k + size (tree_of e)) (trees_of es)) nothing ∙ none_go taken 0 (suc k + size (tree_of e)) (trees_of es) in
      ap (λ us. made taken us kept n) (sym (ap (λ z. events taken (suc k) (tree_of e) ++ z) rest ∙ append-nil (events taken (suc k) (tree_of e))))
      ∙ made_own taken (operand_events taken Choice (taken k) 0 (suc k) (trees_of (more e es))) (own_events k Choice) kept n
      (λ h. let same : n ≡ k = own_only k n h in ap taken same ∙ (nothing ∙ (sym empty ∙ ap kept (sym same))))

  -- a node that chooses by a test that is known beforehand
  known_made : (k : ℕ) (d : Node-F Node Typed) (o : Operand) (t : Typed) (e : Expr) (ts : List Typed) (es : Exprs) → Views world f firsts (suc k) t e
      → ((c j : ℕ) → 1 + j ≡ c → (kept : Taken) → IsEmpty kept (suc k + size (tree_of e)) (sizes (trees_of es)) → (n : ℕ)
      → with_chosen (chosen_in firsts ts j (suc k + size (tree_of e))) kept n
      ≡ made taken (operand_events taken Choice (Some c) 1 (suc k + size (tree_of e)) (trees_of es)) kept n)
      → (kept : Taken) → kept k ≡ None → IsEmpty kept (suc k + size (tree_of e)) (sizes (trees_of es)) → (n : ℕ) (choice : Option ℕ) → taken k ≡ choice
      → choice ≡ takes d (truth_of o) → events taken (suc k) (tree_of e) ≡ []
      → with_chosen (from_first firsts k choice (t ∷ ts)) kept n
      ≡ made taken (operand_events taken Choice (taken k) 0 (suc k) (trees_of (more e es)) ++ own_events k Choice) kept n
  known_made k d o t e ts es v operand kept here empty n None at by silence =
      ap (λ us. made taken us kept n) (sym silence) ∙ test_made k e es kept n at here
  known_made k d o t e ts es v operand kept here empty n (Some zero) at by silence =
      absurd (let later = takes_later d (truth_of o) 0 (sym by) in omega (arith, later.1))
  known_made k d o t e ts es v operand kept here empty n (Some (suc j)) at by silence =
      let next = suc k + size (tree_of e) in
      let rest = operand_events taken Choice (Some (suc j)) 1 next (trees_of es) in
      let above : Taken = λ m. if k == m then Some (suc j) else kept m in
      ap (λ s. with_chosen (chosen_in firsts ts j (suc k + s)) above n) (view_size world f firsts (suc k) t e v)
      ∙ (operand (suc j) j (omega arith) above (empty_above kept k (suc j) next (sizes (trees_of es)) (omega arith) empty) n
      ∙ (made_choice taken rest kept k (suc j) n at
      ∙ ap (λ us. made taken (us ++ own_events k Choice) kept n)
      (sym (ap (λ z. z ++ operand_events taken Choice (taken k) 1 next (trees_of es)) silence
      ∙ ap (λ c. operand_events taken Choice c 1 next (trees_of es)) at))))

  mutual
    pub tree_made : (k : ℕ) (t : Typed) (e : Expr) → Views world f firsts k t e → is_formed (tree_of e) ≡ true → Agree k e → (kept : Taken)
        → IsEmpty kept k (size (tree_of e)) → (n : ℕ)
        → with_chosen (chosen_of firsts t k) kept n ≡ made taken (events taken k (tree_of e)) kept n
    tree_made k t (expr h ty line es) v form a kept empty n =
        let ts = (out-Typed t).children in
        let here : kept k ≡ None = empty k (omega arith) (omega arith) in
        let below : IsEmpty kept (suc k) (sizes (trees_of es)) = λ m l r. empty m (omega (arith, l)) (omega (arith, r)) in
        let operands = and_r (takes_operands (head_class h (trees_of es)) (trees_of es)) _ form in
        elim (bool_cases (is_choice h)) [
          | inl chooses ↦
              ap (λ cs. with_chosen cs kept n) (of_choices firsts t k (same_choice (node_at t) h v.1 ∙ chooses))
              ∙ (choice_made k (node_at t) ts h es v.1 v.3 operands a.0 a.2 kept here below n
              ∙ ap (λ c. made taken (operand_events taken c (taken k) 0 (suc k) (trees_of es) ++ own_events k c) kept n)
              (sym (class_choice h (trees_of es) chooses)))
          | inr other ↦
              ap (λ cs. with_chosen cs kept n) (of_others firsts t k (same_choice (node_at t) h v.1 ∙ other))
              ∙ (all_made (head_class h (trees_of es)) (taken k) 0 (suc k) ts es (class_no_choice h (trees_of es) other) v.3 operands a.2 kept below n
              ∙ made_own taken (operand_events taken (head_class h (trees_of es)) (taken k) 0 (suc k) (trees_of es))
              (own_events k (head_class h (trees_of es))) kept n
              (λ own. let same : n ≡ k = own_node (typed.kinds_of (head_class h (trees_of es))) k (place n Val) own in
              ap taken same
              ∙ (a.0
              ∙ (no_choice h (values_of world f given (suc k) es) (first_known given (suc k) es) other ∙ (sym here ∙ ap kept (sym same))))))
        ]

    all_made : (class : Class) (choice : Option ℕ) (i m : ℕ) (ts : List Typed) (es : Exprs) → order.is_choice class ≡ false
        → ViewAll world f firsts m ts es → are_formed (trees_of es) ≡ true → AgreeAll m es → (kept : Taken) → IsEmpty kept m (sizes (trees_of es)) → (n : ℕ)
        → with_chosen (chosen_from firsts ts m) kept n ≡ made taken (operand_events taken class choice i m (trees_of es)) kept n
    all_made class choice i m [] none plain v form a kept empty n = refl
    all_made class choice i m [] (more e es) plain v form a kept empty n = absurd v
    all_made class choice i m (t ∷ ts) none plain v form a kept empty n = absurd v
    all_made class choice i m (t ∷ ts) (more e es) plain v form a kept empty n =
        let mid = with_chosen (chosen_of firsts t m) kept in
        let us = events taken m (tree_of e) in
        let next = m + size (tree_of e) in
        let so_far : (n : ℕ) → mid n ≡ made taken us kept n =
        tree_made m t e v.0 (and_l (is_formed (tree_of e)) _ form) a.0 kept (λ n l r. empty n l (omega (arith, r))) in
        let left : IsEmpty mid next (sizes (trees_of es)) = λ n l r.
        so_far n ∙ (made_outside taken us kept m (size (tree_of e)) n (events_in taken (tree_of e) m) l ∙ empty n (omega (arith, l)) (omega (arith, r))) in
        ap (λ g. g n) (chosen_both (chosen_of firsts t m) (chosen_from firsts ts (m + size (typed.tree_of t))) kept)
        ∙ (ap (λ s. with_chosen (chosen_from firsts ts (m + s)) mid n) (view_size world f firsts m t e v.0)
        ∙ (all_made class choice (suc i) next ts es plain v.1 (and_r (is_formed (tree_of e)) _ form) a.1 mid left n
        ∙ (made_both taken us (operand_events taken class choice (suc i) next (trees_of es)) kept mid n (so_far n)
        ∙ ap (λ b. made taken ((if b then us else []) ++ operand_events taken class choice (suc i) next (trees_of es)) kept n)
        (sym (all_go class choice i plain)))))

    -- the operand that a choice takes
    pub operand_made : (c i j m : ℕ) (ts : List Typed) (es : Exprs) → i + j ≡ c → 0 < i → ViewAll world f firsts m ts es → are_formed (trees_of es) ≡ true
        → AgreeAll m es → (kept : Taken) → IsEmpty kept m (sizes (trees_of es)) → (n : ℕ)
        → with_chosen (chosen_in firsts ts j m) kept n ≡ made taken (operand_events taken Choice (Some c) i m (trees_of es)) kept n
    operand_made c i j m [] none e l v form a kept empty n = refl
    operand_made c i j m [] (more x es) e l v form a kept empty n = absurd v
    operand_made c i j m (t ∷ ts) none e l v form a kept empty n = absurd v
    operand_made c i zero m (t ∷ ts) (more x es) e l v form a kept empty n =
        let us = events taken m (tree_of x) in
        let rest = operand_events taken Choice (Some c) (suc i) (m + size (tree_of x)) (trees_of es) in
        tree_made m t x v.0 (and_l (is_formed (tree_of x)) _ form) a.0 kept (λ n l r. empty n l (omega (arith, r))) n
        ∙ ap (λ z. made taken z kept n) (sym (ap (λ b. (if b then us else []) ++ rest) (goes_taken c i (omega (arith, e)))
        ∙ (ap (λ z. us ++ z) (past_go taken c (suc i) (m + size (tree_of x)) (trees_of es) (omega (arith, e))) ∙ append-nil us)))
    operand_made c i (suc j) m (t ∷ ts) (more x es) e l v form a kept empty n =
        let us = events taken m (tree_of x) in
        let rest = operand_events taken Choice (Some c) (suc i) (m + size (tree_of x)) (trees_of es) in
        ap (λ s. with_chosen (chosen_in firsts ts j (m + s)) kept n) (view_size world f firsts m t x v.0)
        ∙ (operand_made c (suc i) j (m + size (tree_of x)) ts es (omega (arith, e)) (omega (arith, l)) v.1 (and_r (is_formed (tree_of x)) _ form) a.1 kept
        (λ n l r. empty n (omega (arith, l)) (omega (arith, r))) n
        ∙ ap (λ b. made taken ((if b then us else []) ++ rest) kept n) (sym (goes_other c i l (λ q. absurd (omega (arith, q, e))))))

    choice_made : (k : ℕ) (d : Node-F Node Typed) (ts : List Typed) (h : Head) (es : Exprs) → IsChoiceOf d h → ViewAll world f firsts (suc k) ts es
        → are_formed (trees_of es) ≡ true
        → taken k ≡ choice_by h (values_of world f given (suc k) es) (first_known given (suc k) es) → AgreeAll (suc k) es → (kept : Taken) → kept k ≡ None
        → IsEmpty kept (suc k) (sizes (trees_of es)) → (n : ℕ)
        → with_chosen (from_first firsts k (first_evaluated firsts d k (slice_get ts 0)) ts) kept n
        ≡ made taken (operand_events taken Choice (taken k) 0 (suc k) (trees_of es) ++ own_events k Choice) kept n
    choice_made k d [] h none c v form own a kept here empty n =
        made_own taken [] (own_events k Choice) kept n
        (λ q. let same : n ≡ k = own_only k n q in
        ap taken same ∙ (own ∙ (no_values h (first_known given (suc k) none) ∙ (sym here ∙ ap kept (sym same)))))
    choice_made k d [] h (more e es) c v form own a kept here empty n = absurd v
    choice_made k d (t ∷ ts) h none c v form own a kept here empty n = absurd v
    choice_made k d (t ∷ ts) h (more e es) c v form own a kept here empty n =
        let o = resolved firsts t (suc k) in
        let seen = view_known world f firsts (suc k) t e v.0 in
        let us = events taken (suc k) (tree_of e) in
        elim (bool_cases (is_known o)) [
          | inr unknown ↦
              ap (λ z. with_chosen (from_first firsts k z (t ∷ ts)) kept n) (first_unknown d o unknown)
              ∙ (tree_made (suc k) t e v.0 (and_l (is_formed (tree_of e)) _ form) a.0 kept (λ m l r. empty m l (omega (arith, r))) n
              ∙ test_made k e es kept n (taken_unknown k h t e es seen unknown (agree_given (suc k) e a.0) own) here)
          | inl known ↦
              let silence : us ≡ [] = silent taken (tree_of e) (suc k) (and_l (is_formed (tree_of e)) _ form) (sym seen.known ∙ known) in
              let chosen : taken k ≡ takes d (truth_of o) = taken_known k d h t e es c seen known own in
              ap (λ z. with_chosen (from_first firsts k z (t ∷ ts)) kept n) (by_known d o known ∙ sym chosen)
              ∙ known_made k d o t e ts es v.0
              (λ c2 j q. operand_made c2 1 j (suc k + size (tree_of e)) ts es q (omega arith) v.1 (and_r (is_formed (tree_of e)) _ form) a.1) kept here
              (λ m l r. empty m (omega (arith, l)) (omega (arith, r))) n (taken k) refl chosen silence
        ]

-- ---- as a full expression begins

module _ (world : World) (f : Scene) (given : Place → Option Value) (taken : Taken) where
  mutual
    pub agrees : (firsts : List ℕ) (k : ℕ) (e : Expr)
        → ((n : ℕ) → k ≤ n → n < k + size (tree_of e) → taken n ≡ choice_in world f given n (at_node k e n))
        → ((n : ℕ) → k ≤ n → n < k + size (tree_of e) → given (place n Val) ≡ None) → Agree world f firsts given taken k e
    agrees firsts k (expr h ty line es) same fresh = (
      same k (omega arith) (omega arith)
          ∙ ap (λ b. choice_in world f given k (if b then Some (expr h ty line es) else at_node_among (suc k) es k)) (eq_eq k),
      fresh k (omega arith) (omega arith),
      agree_all firsts (suc k) es (λ n l r.
          let other : (k == n) ≡ false = has_none (k == n) (λ q. absurd (let at = eq_of k n q in omega (arith, at, l))) in
          same n (omega (arith, l)) (omega (arith, r))
          ∙ ap (λ b. choice_in world f given n (if b then Some (expr h ty line es) else at_node_among (suc k) es n)) other)
          (λ n l r. fresh n (omega (arith, l)) (omega (arith, r))),
    )

    pub agree_all : (firsts : List ℕ) (m : ℕ) (es : Exprs)
        → ((n : ℕ) → m ≤ n → n < m + sizes (trees_of es) → taken n ≡ choice_in world f given n (at_node_among m es n))
        → ((n : ℕ) → m ≤ n → n < m + sizes (trees_of es) → given (place n Val) ≡ None) → AgreeAll world f firsts given taken m es
    agree_all firsts m none same fresh = tt
    agree_all firsts m (more e es) same fresh = (
      agrees firsts m e (λ n l r.
          let here : nat_lt n (m + size (tree_of e)) ≡ true = grind (arith, nat_tests, r) in
          same n l (omega (arith, r))
          ∙ ap (λ b. choice_in world f given n (if b then at_node m e n else at_node_among (m + size (tree_of e)) es n)) here)
          (λ n l r. fresh n l (omega (arith, r))),
      agree_all firsts (m + size (tree_of e)) es (λ n l r.
          let later : nat_lt n (m + size (tree_of e)) ≡ false = grind (arith, nat_tests, l) in
          same n (omega (arith, l)) (omega (arith, r))
          ∙ ap (λ b. choice_in world f given n (if b then at_node m e n else at_node_among (m + size (tree_of e)) es n)) later)
          (λ n l r. fresh n (omega (arith, l)) (omega (arith, r))),
    )

pub chosen_at_once : ChosenAtOnce
chosen_at_once world f firsts t e v form fresh = record {
  chosen = λ n. tree_made world f firsts e.given (taken_by world f e) 0 t e.root v form
      (agrees world f e.given (taken_by world f e) firsts 0 e.root (λ m l r. refl) (λ m l r. fresh (place m Val))) (λ k. None) (λ m l r. refl) n;
  given = λ n d. fresh (place n Val);
}
