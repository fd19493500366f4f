-- What is told of a full expression stands along its canonical order.
use Rattle.std.proofs.Common.{◌≡◌, ◌⊎◌, inl, inr, ⊎_elim, ℕ, zero, suc, ◌+◌, ◌-◌, ◌<◌, ◌≤◌, nat_lt, ◌==◌, Bool, true, ◌&&◌, if◌then◌else◌}
use Rattle.std.proofs.Common.{List, [], ◌∷◌, ◌++◌, length, Some, refl, sym, ap, ap₂, subst, ◌∙◌, arith}
use Rattle.std.specs.Prelude.{slice_get}
use Rattle.std.proofs.lemmas.Bool.Decides.{nat_tests}
use Rattle.std.proofs.lemmas.Option.{same_Some}
use Rattle.ub_base.proofs.Tests.{or_cases, and_parts}
use Rattle.ub_base.specs.declared.clause.Kind.{Kind}
use Rattle.ub_base.specs.declared.clause.Kind.TheVariants.{Val, Eff, Body}
use Rattle.ub_base.specs.declared.names.Item.{Item}
use Rattle.c_typed.specs.declared.tree.Place.{Place}
use Rattle.c_typed.specs.declared.class.Class.{Class}
use Rattle.c_typed.specs.Tree.{Tree, Trees, node, size}
use Rattle.c_typed.specs.Order.{Taken, place, events, has}
use Rattle.c_model.specs.Completions.{Completed, Incomplete, Own_node, Operands_of, completed_by, parent_in}
use Rattle.elaborate.specs.Formed.{is_formed}
use Rattle.elaborate.proofs.Ranges.{events_in, eq_eq}
use Rattle.listing_laws.proofs.Chosen.{listed_further}
use Rattle.completion_laws.specs.Completed.{completed_next, with_above}
use Rattle.completion_laws.proofs.Ahead.{if_true, if_false}
use Rattle.completion_laws.proofs.Found.{completes_by_next}
use Rattle.completion_laws.proofs.Lists.{has_at, other}
use Rattle.run_evaluations.specs.Listing.{IsBeginning, IsListedNext}
use Rattle.run_evaluations.specs.Scopes.{Scope, part_of, IsOperandOf}
use Rattle.run_evaluations.specs.Told.{Evaluation, Opened, IsBeside, IsNext, IsOperandIn, IsUnder, chosen_by, given, last_given, parts_with, told}
use Rattle.run_evaluations.proofs.GrowLemmas.{goes_later}
use Rattle.run_evaluations.proofs.PartLemmas.{number_is}
use Rattle.telling_laws.specs.Standing.{places, StandsBehind, Chooses, completed_in, with_completed}
use Rattle.telling_laws.specs.Standing.{BeginsStanding, ChoosesStanding, CompletesStanding, GivesStanding, TellsStanding}
use Rattle.telling_laws.proofs.Parts.{operand_below, parent_is, part_there, part_within, beside_up, above_parent}
use Rattle.telling_laws.proofs.Splits.{beginning, next_ahead, at_seam, last_split, begins_with, places_push, places_more, at_last, pushed_length}
use Rattle.telling_laws.proofs.Splits.{given_last, given_length, given_from}
use Rattle.telling_laws.proofs.Steps.{Step, same, up, later, tree_step}

-- ---- as it begins
pub begins_standing : BeginsStanding
begins_standing t = (
  λ turn s. record { begins = λ i e h. absurd (cc); next = λ u c ts h there m g. absurd (cc) },
  record { begins = λ i e h. absurd (cc); next = λ u c ts h there m g. absurd (cc) },
)

-- ---- as an operand is chosen
-- what was listed up to the next event is listed still
listed_on : (root : Tree) (old new : Taken) (passed ahead : List Place) (u : Place) → Chooses old new u → events old 0 root ≡ passed ++ u ∷ ahead →
    (further : List Place) × (events new 0 root ≡ passed ++ u ∷ further)
listed_on root old new passed ahead u chooses listed = by_kind u.kind u.node refl refl
  where
    unchanged : ((n : ℕ) → u ≡ place (suc n) Val → ⊥) → (further : List Place) × (events new 0 root ≡ passed ++ u ∷ further)
    unchanged ne = (ahead, ap (λ z. events z 0 root) (λ i n. chooses.only n (ne n) i) ∙ listed)

    numbers : (a b : ℕ) → a ≡ b → suc a ≡ suc b
    numbers a b e = ap suc e

    by_kind : (c : Kind) (n : ℕ) → u.kind ≡ c → u.node ≡ n → (further : List Place) × (events new 0 root ≡ passed ++ u ∷ further)
    by_kind Val zero p q = unchanged (λ n h. let z : zero ≡ suc n = sym q ∙ ap (λ (v : Place). v.node) h in omega (arith, z))
    by_kind Val (suc n) p q =
        let is : u ≡ place (suc n) Val = (λ i. record { node = q i; kind = p i }) in
        let r = listed_further old new n
        (λ k ne. chooses.only k (λ e. ne (let z : suc n ≡ suc k = sym q ∙ ap (λ (v : Place). v.node) e in omega (arith, z))))
        root passed ahead (subst (λ z. events old 0 root ≡ passed ++ z ∷ ahead) is listed) in
        (r.0, subst (λ z. events new 0 root ≡ passed ++ z ∷ r.0) (sym is) r.1)
    by_kind Eff n p q = unchanged (λ m h. absurd (let z : Eff ≡ Val = sym p ∙ ap (λ (v : Place). v.kind) h in cc))
    by_kind Body n p q = unchanged (λ m h. absurd (let z : Body ≡ Val = sym p ∙ ap (λ (v : Place). v.kind) h in cc))

-- what is listed behind what is done
pub record Listed (t : Opened) (u : Place) : Type 0 where
  pub ahead : List Place
  pub listed : events t.scope.taken 0 t.scope.tree ≡ places t.done ++ u ∷ ahead

pub listed_next : (t : Opened) (u : Place) → IsBeginning t → IsListedNext t u → Listed t u
listed_next t u begins next =
    let r = beginning t.done (events t.scope.taken 0 t.scope.tree) begins in
    let a = next_ahead t.done r.0 u (sym (ap (λ z. slice_get z (length t.done)) r.1) ∙ next) in
    record { ahead = a.0; listed = r.1 ∙ ap (λ z. places t.done ++ z) a.1 }

pub begins_by : (t : Opened) (ahead : List Place) → events t.scope.taken 0 t.scope.tree ≡ places t.done ++ ahead → IsBeginning t
begins_by t ahead listed i e h = ap (λ z. slice_get z i) listed ∙ begins_with t.done ahead i e h

module _ (t : Opened) (taken : Taken) (grows : (n i : ℕ) → t.scope.taken n ≡ Some i → taken n ≡ Some i) where
  operand_grows : (n : ℕ) (c : Class) (ts : Trees) (i m : ℕ) → IsOperandOf t.scope n c ts i m → IsOperandOf (chosen_by taken t).scope n c ts i m
  operand_grows n c ts i m o = record {
    side = o.side;
    there = o.there;
    number = o.number;
    goes = goes_later c (t.scope.taken n) (taken n) i (grows n) o.goes;
    loud = o.loud;
  }

  beside_grows : (m n : ℕ) → IsBeside t.scope m n → IsBeside (chosen_by taken t).scope m n
  beside_grows m n b = record {
    above = b.above;
    operand = record {
      class = b.operand.class;
      operands = b.operand.operands;
      there = b.operand.there;
      index = b.operand.index;
      of = operand_grows b.above b.operand.class b.operand.operands b.operand.index m b.operand.of;
    };
    way = record { part = b.way.part; there = b.way.there; low = b.way.low; high = b.way.high };
    behind = b.behind;
  }

pub chooses_standing : ChoosesStanding
chooses_standing t u taken stands next chooses =
    let l = listed_next t u stands.begins next in
    let r = listed_on t.scope.tree t.scope.taken taken (places t.done) l.ahead u chooses l.listed in
    let seam : IsListedNext (chosen_by taken t) u = ap (λ z. slice_get z (length t.done)) r.1 ∙ at_seam t.done u r.0 in (
      record {
        begins = begins_by (chosen_by taken t) (u ∷ r.0) r.1;
        next = λ v c ts h there m g.
            let same_one : v ≡ u = same_Some v u (sym h ∙ seam) in
            let n_is : u.node ≡ v.node = ap (λ (z : Place). z.node) (sym same_one) in
            subst (λ z. (m ≡ z) ⊎ (((i : ℕ) × IsOperandOf (chosen_by taken t).scope z c ts i m) ⊎ IsBeside (chosen_by taken t).scope m z)) n_is
            (⊎_elim inl (λ other_one. inr (⊎_elim
            (λ o. inl (o.0, operand_grows t taken chooses.grows u.node c ts o.0 m o.1))
            (λ b. inr (beside_grows t taken chooses.grows m u.node b)) other_one))
            (stands.next u c ts next (ap (part_of t.scope) n_is ∙ there) m g));
      },
      seam,
    )

-- ---- as it is told
pub node_of_next : (t : Opened) (u : Place) → IsBeginning t → IsListedNext t u → (x : Tree) × (part_of t.scope u.node ≡ Some x)
node_of_next t u begins next =
    let l = listed_next t u begins next in
    let r = events_in t.scope.taken t.scope.tree 0 u (ap (λ z. has z u) l.listed ∙ has_at (places t.done) l.ahead u) in
    part_there t.scope.tree 0 u.node r.0 r.1

pub parts_cases : (n : ℕ) (parts : ℕ → Bool) (m : ℕ) → parts_with n parts m ≡ true → (m ≡ n) ⊎ ((m < n) × (parts m ≡ true))
parts_cases n parts m h =
    ⊎_elim
    (λ a. let p = and_parts (nat_lt m n) (parts m) a in let l = p.0 in inr (grind (arith, nat_tests, l), p.1))
    (λ e. inl (number_is m n e))
    (or_cases (nat_lt m n && parts m) (m == n) h)

operand_high : (s : Scope) (n m i : ℕ) (c : Class) (ts : Trees) → part_of s n ≡ Some (node c ts) → IsOperandOf s n c ts i m → n < m
operand_high s n m i c ts there o = (operand_below s n m (record { class = c; operands = ts; there = there; index = i; of = o })).low

pub tells_standing : TellsStanding
tells_standing t e stands next =
    let l = listed_next t e.place stands.begins next in
    let x = node_of_next t e.place stands.begins next in
    record {
      begins = begins_by (told e t) l.ahead (l.listed ∙ sym (places_more t.done e l.ahead));
      some = pushed_length t.done e;
      at = at_last t.done e;
      parts = λ m h. ⊎_elim inl (λ g. in_tree x.0 x.1 m g.0 g.1) (parts_cases e.place.node t.parts m h);
    }
  where
    in_tree : (x : Tree) → part_of t.scope e.place.node ≡ Some x → (m : ℕ) → m < e.place.node → t.parts m ≡ true →
        (m ≡ e.place.node) ⊎ IsBeside t.scope m e.place.node
    in_tree (node c ts) there m less h =
        ⊎_elim inl
        (λ r. ⊎_elim (λ o. absurd (let z = operand_high t.scope e.place.node m o.0 c ts there o.1 in omega (arith, z, less))) inr r)
        (stands.next e.place c ts next there m h)

-- ---- as it is told what that completes
pub record Last (t : Opened) (last : Evaluation) : Type 0 where
  pub front : List Evaluation
  pub done : t.done ≡ front ++ (last ∷ [])
  pub ahead : List Place
  pub listed : events t.scope.taken 0 t.scope.tree ≡ places front ++ last.place ∷ ahead

pub last_of : (t : Opened) (last : Evaluation) → StandsBehind t last → Last t last
last_of t last stands =
    let r = beginning t.done (events t.scope.taken 0 t.scope.tree) stands.begins in
    let f = last_split t.done last stands.some stands.at in
    record {
      front = f.0;
      done = f.1;
      ahead = r.0;
      listed = r.1 ∙ (ap (λ z. places z ++ r.0) f.1 ∙ places_more f.0 last r.0);
    }

pub completed_is : (t : Opened) (last : Evaluation) → is_formed t.scope.tree ≡ true → (l : Last t last) →
    completed_in t last.place.node ≡ completed_next t.scope.tree last.place.node l.ahead
completed_is t last formed l =
    ap (λ z. completed_by t.scope.tree t.scope.taken (has z) last.place.node) (ap places l.done ∙ places_push l.front last)
    ∙ completes_by_next t.scope.tree t.scope.taken (places l.front) l.ahead last.place formed l.listed

-- what comes next, by the step to it
completed_same : (root : Tree) (n : ℕ) (v : Place) (rest : List Place) → v.node ≡ n → completed_next root n (v ∷ rest) ≡ Incomplete
completed_same root n v rest e = if_true _ _ _ (subst (λ z. (v.node == z) ≡ true) e (eq_eq v.node))

completed_above : (root : Tree) (n p : ℕ) (v : Place) (rest : List Place) → (n < v.node) ⊎ (v.node < n) → parent_in 0 root n ≡ Some p →
    completed_next root n (v ∷ rest) ≡ (if v.node == p then Operands_of p else Own_node)
completed_above root n p v rest ne is =
    if_false _ _ _ (other v.node n (⊎_elim inr inl ne)) ∙ ap (λ o. with_above o (v ∷ rest)) is

with_none : (t : Opened) (c : Completed) → (c ≡ Incomplete) ⊎ (c ≡ Own_node) → with_completed c t ≡ t
with_none t c (inl e) = ap (λ z. with_completed z t) e
with_none t c (inr e) = ap (λ z. with_completed z t) e

-- what stands together, as the next event is of a later operand of the node above
beside_later : (s : Scope) (p n w m : ℕ) → IsOperandIn s p n → IsUnder s p w →
    ((part : Tree) → part_of s n ≡ Some part → n + size part ≤ w) → (m ≡ n) ⊎ IsBeside s m n → IsBeside s m w
beside_later s p n w m o under end (inl e) =
    record {
      above = p;
      operand = subst (λ z. IsOperandIn s p z) (sym e) o;
      way = under;
      behind = λ part there. subst (λ z. z + size part ≤ w) (sym e) (end part (ap (part_of s) (sym e) ∙ there));
    }
beside_later s p n w m o under end (inr b) =
    let x = operand_below s p n o in
    let far = end x.tree x.there in
    let some = x.some in
    let xl = x.low in
    let ul = under.low in
    let uh = under.high in
    let bl = b.way.low in
    let bh = b.way.high in
    record {
      above = b.above;
      operand = b.operand;
      way = record {
        part = b.way.part;
        there = b.way.there;
        low = (let z = above_low in omega (arith, z, ul));
        high = (let z = above_high in omega (arith, z, uh));
      };
      behind = λ part there. let z = b.behind part there in omega (arith, z, far);
    }
  where
    above_or : (b.above ≡ p) ⊎ IsUnder s b.above p
    above_or = above_parent s b.above p n o b.way

    above_low : b.above ≤ p
    above_low = ⊎_elim (λ e. omega (arith, e)) (λ u. let z = u.low in omega (arith, z)) above_or

    above_high : p + size under.part ≤ b.above + size b.way.part
    above_high =
        let z = above_low in
        (part_within s b.above p b.way.part under.part b.way.there under.there z
        (⊎_elim (λ e. let g = b.way.low in let h = b.way.high in omega (arith, e, g, h)) (λ u. let y = u.high in
        let q = ap size (same_Some u.part b.way.part (sym u.there ∙ b.way.there)) in omega (arith, y, q)) above_or)).high

-- as all operands of the node above are complete
beside_gathered : (s : Scope) (p n m : ℕ) → IsOperandIn s p n → m < p → (m ≡ n) ⊎ IsBeside s m n → IsBeside s m p
beside_gathered s p n m o less (inl e) = absurd (let z = (operand_below s p n o).low in omega (arith, z, e, less))
beside_gathered s p n m o less (inr b) =
    ⊎_elim (λ q. absurd (let z = operand_high s p m q.0 o.class o.operands o.there q.1 in omega (arith, z, less))) (λ g. g)
    (beside_up s p n m o.class o.operands o.there o b)

module _ (t : Opened) (last : Evaluation) (formed : is_formed t.scope.tree ≡ true) (stands : StandsBehind t last) where
  abbrev n : ℕ
  n = last.place.node

  abbrev after : Opened
  after = with_completed (completed_in t n) t

  same_scope : (c : Completed) → (with_completed c t).scope ≡ t.scope
  same_scope Incomplete = refl
  same_scope Own_node = refl
  same_scope (Operands_of p) = refl

  same_done : (c : Completed) → (with_completed c t).done ≡ t.done
  same_done Incomplete = refl
  same_done Own_node = refl
  same_done (Operands_of p) = refl

  abbrev NextIs : Opened → Place → Type 0
  NextIs z v = (c : Class) (ts : Trees) → part_of z.scope v.node ≡ Some (node c ts) → IsNext z v.node c ts

  stays_as : (v : Place) → after ≡ t → ((m : ℕ) → t.parts m ≡ true → (m ≡ v.node) ⊎ IsBeside t.scope m v.node) → NextIs after v
  stays_as v e f = subst (λ (z : Opened). NextIs z v) (sym e) (λ c ts there m g. ⊎_elim inl (λ b. inr (inr b)) (f m g))

  module _ (l : Last t last) (v : Place) (rest : List Place) (is : l.ahead ≡ v ∷ rest) where
    -- the step to the next event, and what is completed by it
    pub step_to : Step t.scope n v.node
    step_to = tree_step t.scope t.scope.tree 0 (places l.front) rest last.place v (root_there t.scope.tree) formed
        (l.listed ∙ ap (λ z. places l.front ++ last.place ∷ z) is)
      where
        root_there : (x : Tree) → part_of (record { tree = x; taken = t.scope.taken }) 0 ≡ Some x
        root_there (node d us) = refl

    completed_so : completed_in t n ≡ completed_next t.scope.tree n (v ∷ rest)
    completed_so = completed_is t last formed l ∙ ap (completed_next t.scope.tree n) is

    pub by_same : v.node ≡ n → completed_in t n ≡ Incomplete
    by_same e = completed_so ∙ completed_same t.scope.tree n v rest e

    pub by_later : (p : ℕ) → IsOperandIn t.scope p n → IsUnder t.scope p v.node → ((part : Tree) → part_of t.scope n ≡ Some part → n + size part ≤ v.node) →
        completed_in t n ≡ Own_node
    by_later p o under end =
        let x = operand_below t.scope p n o in
        let far = end x.tree x.there in
        let some = x.some in
        let ul = under.low in
        completed_so ∙ (completed_above t.scope.tree n p v rest (inl (omega (arith, far, some))) (parent_is t.scope p n o)
        ∙ if_false _ _ _ (other v.node p (inr ul)))

    pub by_up : IsOperandIn t.scope v.node n → completed_in t n ≡ Operands_of v.node
    by_up o =
        completed_so ∙ (completed_above t.scope.tree n v.node v rest (inr (operand_below t.scope v.node n o).low) (parent_is t.scope v.node n o)
        ∙ if_true _ _ _ (eq_eq v.node))

    next_of : Step t.scope n v.node → NextIs after v
    next_of (same e) =
        stays_as v (with_none t _ (inl (by_same e))) (λ m g. subst (λ z. (m ≡ z) ⊎ IsBeside t.scope m z) (sym e) (stands.parts m g))
    next_of (later p o under end) =
        stays_as v (with_none t _ (inr (by_later p o under end))) (λ m g. inr (beside_later t.scope p n v.node m o under end (stands.parts m g)))
    next_of (up o) =
        subst (λ (z : Opened). NextIs z v) (sym (ap (λ z. with_completed z t) (by_up o)))
        (λ c ts there m g. ⊎_elim inl (λ y. inr (inr (beside_gathered t.scope v.node n m o y.0 (stands.parts m y.1)))) (parts_cases v.node t.parts m g))

pub completes_standing : CompletesStanding
completes_standing t last formed stands =
    let l = last_of t last stands in
    let c = completed_in t last.place.node in
    let scope = same_scope t last formed stands c in
    let done = same_done t last formed stands c in
    record {
      begins = λ i e h. ap (λ (z : Scope). slice_get (events z.taken 0 z.tree) i) scope ∙ stands.begins i e (ap (λ z. slice_get z i) (sym done) ∙ h);
      next = λ v cl ts h.
          let g : IsListedNext t v = ap₂ (λ (z : Scope) (es : List Evaluation). slice_get (events z.taken 0 z.tree) (length es)) (sym scope) (sym done) ∙ h in
          let a = next_ahead t.done l.ahead v (sym (ap (λ z. slice_get z (length t.done)) (l.listed ∙ (sym (places_more l.front last l.ahead)
          ∙ ap (λ z. places z ++ l.ahead) (sym l.done)))) ∙ g) in
          next_of t last formed stands l v a.0 a.1 (step_to t last formed stands l v a.0 a.1) cl ts;
    }

-- ---- as a frame is left
given_begins : (t : Opened) (body : Item → Bool) → IsBeginning t → IsBeginning (given body t)
given_begins t body begins i e h = let r = given_from body t.done i e h in begins i r.0 r.1 ∙ ap Some r.2

pub gives_standing : GivesStanding
gives_standing t body = (
  λ stands. record {
    begins = given_begins t body stands.begins;
    next = λ u c ts h there. stands.next u c ts (ap (slice_get (events t.scope.taken 0 t.scope.tree)) (sym (given_length body t.done)) ∙ h) there;
  },
  λ last stands.
      let f = last_split t.done last stands.some stands.at in
      let is : last_given body t.done ≡ f.0 ++ (record last { body = body } ∷ []) = ap (last_given body) f.1 ∙ given_last body f.0 last in
      record {
        begins = given_begins t body stands.begins;
        some = (let z = given_length body t.done in let y = stands.some in omega (arith, z, y));
        at = ap (λ z. slice_get z (length z - 1)) is ∙ at_last f.0 (record last { body = body });
        parts = stands.parts;
      },
)
