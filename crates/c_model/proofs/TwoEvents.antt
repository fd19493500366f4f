-- Of two events that may come next neither gives what the other one reads.
use Rattle.std.proofs.Common.{
  ◌≡◌,
  ◌≢◌,
  ℕ,
  suc,
  ◌+◌,
  Bool,
  true,
  false,
  not,
  ◌&&◌,
  ◌||◌,
  ◌==◌,
  if◌then◌else◌,
  true≢false,
  List,
  ◌∷◌,
  Option,
  Some,
  None,
  refl,
  sym,
  ap,
  ap₂,
  ◌∙◌,
  subst,
  arith,
}
use Rattle.std.proofs.lemmas.Bool.Decides.{nat_tests}
use Rattle.ub_base.specs.declared.clause.Kind.{Kind}
use Rattle.ub_base.specs.declared.clause.Kind.TheVariants.{Val, Eff, Body}
use Rattle.ub_base.specs.declared.names.Event.{Event}
use Rattle.c_types.specs.Types.{CType}
use Rattle.c_typed.specs.declared.tree.Place.{Place}
use Rattle.c_typed.specs.declared.class.Class.{Class}
use Rattle.c_typed.specs.declared.class.Class.TheVariants as class
use Rattle.c_typed.specs.Tree.{Trees, size, is_quiet}
use Rattle.c_typed.specs.Order.{Taken, place, own_rule, is_body}
use Rattle.c_typed.specs.Decide.{is_before}
use Rattle.mem_spec.specs.Script.{Script}
use Rattle.c_model.specs.Program.{Head, Update, Call, Listed, Isolated, Expr, expr, Exprs, none, more, tree_of, trees_of, head_class}
use Rattle.c_model.specs.Values.{Value, or_nothing}
use Rattle.c_model.specs.World.{World}
use Rattle.c_model.specs.Nodes.{act_of}
use Rattle.c_model.specs.Moves.{Stay}
use Rattle.c_model.specs.Steps.{
  Local,
  Scene,
  Begun,
  with_given,
  taken_by,
  quiet_value,
  values_of,
  operand_values,
  at_node,
  own_kind,
  event_of,
  call_act,
  event_act,
  started,
  move_of,
  first_type,
  target,
}
use Rattle.c_model.specs.ChoiceLaws.{IsNext, is_update}
use Rattle.c_model.proofs.LaterPicks.{given_other, given_swap, not_before}
use Rattle.c_model.proofs.Operands.{is_call, is_operand, operand_before, own_before}

body_rule : (n : Class) → own_rule n Body Val ≡ true
body_rule class.Update = refl
body_rule _ = refl

update_rule : (n : Class) → is_update n ≡ true → own_rule n Val Eff ≡ true
update_rule class.Update h = refl
update_rule _ h = absurd (cc)

or_left' : (a b : Bool) → a ≡ true → (a || b) ≡ true
or_left' true b h = refl
or_left' false b h = absurd (cc)

or_right' : (a b : Bool) → b ≡ true → (a || b) ≡ true
or_right' true b h = refl
or_right' false b h = h

here_is : (m : ℕ) (q : Bool) → q ≡ false → ((m == m) && not q) ≡ true
here_is m false h = both (m == m) (grind (arith, nat_tests))
  where
    both : (a : Bool) → a ≡ true → (a && true) ≡ true
    both true h = refl
    both false h = h
here_is m true h = absurd (cc)

module _ (world : World) where
  -- the values of operands that aren't u's are the same after u
  values_same : (sc : Scene) (e : Begun) (u : Place) (w : Value) (ts : Exprs) (m : ℕ) → ((c : ℕ) → is_operand m ts c ≡ true → u ≢ place c Val)
      → values_of world sc (with_given e u w).given m ts ≡ values_of world sc e.given m ts
  values_same sc e u w none m h = refl
  values_same sc e u w (more t ts) m h =
      ap₂ (λ a b. a ∷ b) (first (is_quiet (tree_of t)) refl)
      (values_same sc e u w ts (m + size (tree_of t)) (λ c k. h c (or_right' ((m == c) && not (is_quiet (tree_of t))) _ k)))
    where
      first : (b : Bool) → is_quiet (tree_of t) ≡ b
          → (if b then quiet_value world sc t else or_nothing ((with_given e u w).given (place m Val))) ≡
          (if b then quiet_value world sc t else or_nothing (e.given (place m Val)))
      first true q = refl
      first false q = ap or_nothing (given_other world sc e u w (place m Val) (h m (or_left' _ _ (here_is m (is_quiet (tree_of t)) q))))

  operands_of : (sc : Scene) (given given' : Place → Option Value) (k : ℕ) (h : Head) (es : Exprs)
      → values_of world sc given k es ≡ values_of world sc given' k es
      → operand_values world sc given k h es ≡ operand_values world sc given' k h es
  operands_of sc given given' k (Listed s fillings) es q = refl
  operands_of sc given given' k _ es q = q

  -- only a call looks at its operands when its body starts
  call_same : (who : Event) (h : Head) (ts : Exprs) (vs ws : List Value) → (is_call (head_class h (trees_of ts)) ≡ true → vs ≡ ws)
      → call_act world who h ts vs ≡ call_act world who h ts ws
  call_same who (Call d) ts vs ws g = ap (λ z. call_act world who (Call d) ts z) (g refl)
  call_same who _ ts vs ws g = refl

  start_same : (sc : Scene) (k : ℕ) (h : Head) (ts : Trees) (vs ws : List Value) → (is_call (head_class h ts) ≡ true → vs ≡ ws)
      → started world sc k h vs ≡ started world sc k h ws
  start_same sc k (Call d) ts vs ws g = ap (λ z. started world sc k (Call d) z) (g refl)
  start_same sc k (Isolated e) ts vs ws g = refl
  start_same sc k _ ts vs ws g = refl

  -- only the effect of an update looks at the value of its node
  eff_same : (who : Event) (h : Head) (ts : Trees) (ty : CType) (vs : List Value) (own own' : Value) → (is_update (head_class h ts) ≡ true → own ≡ own')
      → act_of world.rows who h ty Eff vs own ≡ act_of world.rows who h ty Eff vs own'
  eff_same who (Update c old) ts ty vs own own' g = ap (act_of world.rows who (Update c old) ty Eff vs) (g refl)
  eff_same who _ ts ty vs own own' g = refl

  module _ (sc : Scene) (e : Begun) (u v : Place) (w : Value) (nu : IsNext world sc e u) (nv : IsNext world sc e v) (ne : u ≢ v) where
    abbrev T : Taken
    T = taken_by world sc e

    apart : is_before T 0 (tree_of e.root) u v ≡ true → ⊥
    apart b = true≢false (sym b ∙ not_before world sc e u v nu nv)

    operands_same : (h : Head) (ty : CType) (line : ℕ) (ts : Exprs) → at_node 0 e.root v.node ≡ Some (expr h ty line ts) →
        (v.kind ≡ Body → is_call (head_class h (trees_of ts)) ≡ true)
        → values_of world sc (with_given e u w).given (suc v.node) ts ≡ values_of world sc e.given (suc v.node) ts
    operands_same h ty line ts at calls = values_same sc e u w ts (suc v.node) (λ c k q.
        apart (subst (λ z. is_before T 0 (tree_of e.root) z v ≡ true) (sym q) (operand_before T v.node c v.kind h ty line ts k calls e.root 0 at)))

    -- what an earlier event of its own node gave isn't u's
    own_same : (k : Kind) (h : Head) (ty : CType) (line : ℕ) (ts : Exprs) → at_node 0 e.root v.node ≡ Some (expr h ty line ts) →
        own_rule (head_class h (trees_of ts)) k v.kind ≡ true
        → (with_given e u w).given (place v.node k) ≡ e.given (place v.node k)
    own_same k h ty line ts at rule = given_other world sc e u w (place v.node k) (λ q.
        apart (subst (λ z. is_before T 0 (tree_of e.root) z v ≡ true) (sym q) (own_before T v.node k v.kind h ty line ts rule e.root 0 at)))

    abbrev after' : Begun
    after' = with_given e u w

    abbrev vs : Exprs → List Value
    vs ts = values_of world sc after'.given (suc v.node) ts

    abbrev ws : Exprs → List Value
    ws ts = values_of world sc e.given (suc v.node) ts

    -- what the event does, with its kind told
    abbrev act_by : Begun → Head → Exprs → Kind → Script Value
    act_by b h ts k =
        if is_body k then call_act world (event_of world sc v) h ts (values_of world sc b.given (suc v.node) ts)
        else act_of world.rows (event_of world sc v) h (target (first_type ts)) k (operand_values world sc b.given (suc v.node) h ts)
        (or_nothing (b.given (place v.node (own_kind k))))

    by_kind : (k : Kind) (h : Head) (ty : CType) (line : ℕ) (ts : Exprs) → v.kind ≡ k → at_node 0 e.root v.node ≡ Some (expr h ty line ts) →
        act_by after' h ts k ≡ act_by e h ts k
    by_kind Body h ty line ts ek at = call_same (event_of world sc v) h ts (vs ts) (ws ts) (λ c. operands_same h ty line ts at (λ b. c))
    by_kind Val h ty line ts ek at =
        ap₂ (λ z o. act_of world.rows (event_of world sc v) h (target (first_type ts)) Val z o)
        (operands_of sc after'.given e.given (suc v.node) h ts (operands_same h ty line ts at (λ b. absurd (cc (b, ek)))))
        (ap or_nothing (own_same Body h ty line ts at (ap (own_rule (head_class h (trees_of ts)) Body) ek ∙ body_rule (head_class h (trees_of ts)))))
    by_kind Eff h ty line ts ek at =
        eff_same (event_of world sc v) h (trees_of ts) (target (first_type ts)) (operand_values world sc after'.given (suc v.node) h ts) _ _
        (λ up. ap or_nothing (own_same Val h ty line ts at (ap (own_rule (head_class h (trees_of ts)) Val) ek ∙ update_rule (head_class h (trees_of ts)) up)))
        ∙ ap (λ z. act_of world.rows (event_of world sc v) h (target (first_type ts)) Eff z (or_nothing (e.given (place v.node Val))))
        (operands_of sc after'.given e.given (suc v.node) h ts (operands_same h ty line ts at (λ b. absurd (cc (b, ek)))))

    same_act : (o : Option Expr) → at_node 0 e.root v.node ≡ o → event_act world sc after' v o ≡ event_act world sc e v o
    same_act None at = refl
    same_act (Some (expr h ty line ts)) at = by_kind v.kind h ty line ts refl at

    move_by : (k : Kind) (h : Head) (ts : Exprs) (ty : CType) (line : ℕ) → v.kind ≡ k → at_node 0 e.root v.node ≡ Some (expr h ty line ts)
        → (if is_body k then started world sc v.node h (vs ts) else Stay) ≡ (if is_body k then started world sc v.node h (ws ts) else Stay)
    move_by Body h ts ty line ek at = start_same sc v.node h (trees_of ts) (vs ts) (ws ts) (λ c. operands_same h ty line ts at (λ b. c))
    move_by Val h ts ty line ek at = refl
    move_by Eff h ts ty line ek at = refl

    same_move : (o : Option Expr) → at_node 0 e.root v.node ≡ o → move_of world sc after' v o ≡ move_of world sc e v o
    same_move None at = refl
    same_move (Some (expr h ty line ts)) at = move_by v.kind h ts ty line refl at

    pub event_same : event_act world sc after' v (at_node 0 e.root v.node) ≡ event_act world sc e v (at_node 0 e.root v.node)
    event_same = same_act (at_node 0 e.root v.node) refl

    pub frames_same : move_of world sc after' v (at_node 0 e.root v.node) ≡ move_of world sc e v (at_node 0 e.root v.node)
    frames_same = same_move (at_node 0 e.root v.node) refl

pub frame_swap : (f : Local) (e : Begun) (u v : Place) (w x : Value) → u ≢ v
    → ◌≡◌ {A = Local} (record f { begun = Some (with_given (with_given e u w) v x) }) (record f { begun = Some (with_given (with_given e v x) u w) })
frame_swap f e u v w x ne = ap (λ z. record f { begun = Some z }) (given_swap e u v x w ne)
