-- A full expression goes along its canonical listing.
use Rattle.std.proofs.Common.{◌≡◌, ◌≢◌, ℕ, zero, suc, ◌+◌, Bool, true, false, not, ◌||◌, if◌then◌else◌, List, [], ◌∷◌, ◌++◌, append_assoc, append-nil, Option}
use Rattle.std.proofs.Common.{Some, None, is_some, is_none, refl, sym, ap, ap₂, subst, ◌∙◌, true≢false, arith}
use Rattle.ub_base.specs.declared.clause.Kind.{Kind}
use Rattle.ub_base.specs.declared.clause.Kind.TheVariants.{Val, Eff, Body}
use Rattle.c_typed.specs.declared.tree.Place.{Place}
use Rattle.c_typed.specs.Tree.{size, is_quiet}
use Rattle.c_typed.specs.Order.{Taken, place, same_place, events, has}
use Rattle.c_typed.specs.Decide.{first_place, canonical}
use Rattle.c_model.specs.Program.{Head, And, Or, Cond, Expr, expr, none, more, tree_of}
use Rattle.c_model.specs.Values.{Value, or_nothing}
use Rattle.c_model.specs.World.{World}
use Rattle.c_model.specs.Steps.{Scene, Begun, with_given, taken_by, choice_in, choice_by, values_of, at_node, quiet_value, is_done}
use Rattle.c_model.specs.Runs.{chosen_pick}
use Rattle.c_model.proofs.Ranks.{if_false}
use Rattle.c_model.proofs.Decided.{or_a, or_b, has_or, not_true}
use Rattle.c_model.proofs.Listed.{listed_once, next_listed, none_left, same_place_eq, same_place_itself}
use Rattle.listing_laws.specs.Along.{StandsAlong, TakesFirst, SettlesAtEnd, BeginsAlong, GoesFurther, StartsAlong, EndsAlong}
use Rattle.listing_laws.proofs.Chosen.{listed_further}

or_false : (b : Bool) → (b || false) ≡ b
or_false true = refl
or_false false = refl

-- ---- what is done, and what comes next
done_as : (world : World) (f : Scene) (e : Begun) (passed ahead : List Place) → StandsAlong world f e None passed ahead → is_done e ≡ has passed
done_as world f e passed ahead s = λ i u. (sym (s.done u ∙ or_false (is_done e u))) i

first_skipped : (test : Place → Bool) (us vs : List Place) → ((w : Place) → has us w ≡ true → test w ≡ false) →
    first_place test (us ++ vs) ≡ first_place test vs
first_skipped test [] vs f = refl
first_skipped test (u ∷ us) vs f =
    if_false (test u) _ _ (f u (or_a _ _ (same_place_itself u))) ∙ first_skipped test us vs (λ w h. f w (or_b (same_place w u) _ h))

all_passed : (passed : List Place) (w : Place) → has (passed ++ []) w ≡ true → has passed w ≡ true
all_passed passed w h = ap (λ z. has z w) (sym (append-nil passed)) ∙ h

pub takes_first : TakesFirst
takes_first world f e passed [] s =
    ap (λ d. chosen_pick world (canonical (tree_of e.root) (taken_by world f.scene e) d)) (done_as world f.scene e passed [] s)
    ∙ ap (chosen_pick world) (none_left (tree_of e.root) (taken_by world f.scene e) (has passed) (λ w h. all_passed passed w (ap (λ z. has z w) s.listed ∙ h)))
takes_first world f e passed (u ∷ ahead) s =
    ap (λ d. chosen_pick world (canonical (tree_of e.root) (taken_by world f.scene e) d)) (done_as world f.scene e passed (u ∷ ahead) s)
    ∙ ap (chosen_pick world) (next_listed (tree_of e.root) (taken_by world f.scene e) passed ahead u (sym s.listed))

left_of : (passed us : List Place) → is_none (first_place (λ u. not (has passed u)) (passed ++ us)) ≡ is_none (first_place (λ u. not (has passed u)) us)
left_of passed us = ap is_none (first_skipped (λ u. not (has passed u)) passed us (λ w h. ap not h))

pub settles_at_end : SettlesAtEnd
settles_at_end world f e passed [] s =
    ap₂ (λ d us. is_none (first_place (λ u. not (d u)) us)) (done_as world f.scene e passed [] s) (sym s.listed) ∙ left_of passed []
settles_at_end world f e passed (u ∷ ahead) s =
    ap₂ (λ d us. is_none (first_place (λ u. not (d u)) us)) (done_as world f.scene e passed (u ∷ ahead) s) (sym s.listed)
    ∙ left_of passed (u ∷ ahead)
    ∙ some_first (not (has passed u)) (ap not (listed_once (tree_of e.root) (taken_by world f.scene e) passed ahead u (sym s.listed)))
  where
    some_first : (b : Bool) → b ≡ true → is_none (if b then Some u else first_place (λ w. not (has passed w)) ahead) ≡ false
    some_first true h = refl
    some_first false h = absurd (true≢false (sym h))

pub begins_along : BeginsAlong
begins_along world f e left = record { done = λ u. sym (or_false (is_done e u) ∙ ap is_some (left u)); listed = refl }

-- ---- an event is taken
choice_head : (h : Head) (v : Value) (vs ws : List Value) (b : Bool) → choice_by h (v ∷ vs) b ≡ choice_by h (v ∷ ws) b
choice_head And v vs ws true = refl
choice_head Or v vs ws true = refl
choice_head Cond v vs ws true = refl
choice_head And v vs ws false = refl
choice_head Or v vs ws false = refl
choice_head Cond v vs ws false = refl
choice_head _ v vs ws b = refl

not_same : (u v : Place) → u ≢ v → same_place u v ≡ false
not_same u v ne = not_true (same_place u v) (λ h. ne (same_place_eq u v h))

module _ (world : World) (f : Scene) (e : Begun) (u : Place) (w : Value) where
  abbrev T : Taken
  T = taken_by world f e

  abbrev T' : Taken
  T' = taken_by world f (with_given e u w)

  given_other : (v : Place) → u ≢ v → (with_given e u w).given v ≡ e.given v
  given_other v ne = if_false _ _ _ (not_same u v ne)

  -- a choice whose first operand's value isn't u's stays
  choice_same : (k : ℕ) (o : Option Expr) → u ≢ place (suc k) Val → choice_in world f (with_given e u w).given k o ≡ choice_in world f e.given k o
  choice_same k None ne = refl
  choice_same k (Some (expr h ty line none)) ne = refl
  choice_same k (Some (expr h ty line (more t ts))) ne =
      let known = ap (λ z. is_quiet (tree_of t) || is_some z) (given_other (place (suc k) Val) ne) in
      let first = ap (λ z. if is_quiet (tree_of t) then quiet_value world f t else or_nothing z) (given_other (place (suc k) Val) ne) in
      choice_head h _ _ (values_of world f e.given (suc k + size (tree_of t)) ts) _
      ∙ ap₂ (λ z b. choice_by h (z ∷ values_of world f e.given (suc k + size (tree_of t)) ts) b) first known

  choices_same : ((k : ℕ) → u ≢ place (suc k) Val) → T' ≡ T
  choices_same ne = λ i k. choice_same k (at_node 0 e.root k) (ne k) i

  other_node : (n k : ℕ) → (k ≡ n → ⊥) → place (suc n) Val ≢ place (suc k) Val
  other_node n k ne q = ne (let h : suc n ≡ suc k = ap (λ z. z.node) q in omega (arith, h))

  -- what was listed up to u is listed still
  listed_on : (passed ahead : List Place) → events T 0 (tree_of e.root) ≡ passed ++ u ∷ ahead →
      (next : List Place) × (events T' 0 (tree_of e.root) ≡ passed ++ u ∷ next)
  listed_on passed ahead listed = by_kind u.kind u.node refl refl
    where
      by_kind : (c : Kind) (n : ℕ) → u.kind ≡ c → u.node ≡ n → (next : List Place) × (events T' 0 (tree_of e.root) ≡ passed ++ u ∷ next)
      by_kind Val zero p q =
          (ahead, ap (λ t. events t 0 (tree_of e.root)) (choices_same (λ k h. let z : zero ≡ suc k = sym q ∙ ap (λ v. v.node) h in omega (arith, z))) ∙ listed)
      by_kind Val (suc n) p q =
          let is : u ≡ place (suc n) Val = (λ i. record { node = q i; kind = p i }) in
          let r = listed_further T T' n
          (λ k ne. choice_same k (at_node 0 e.root k) (subst (λ z. z ≢ place (suc k) Val) (sym is) (other_node n k ne)))
          (tree_of e.root) passed ahead (subst (λ z. events T 0 (tree_of e.root) ≡ passed ++ z ∷ ahead) is listed) in
          (r.0, subst (λ z. events T' 0 (tree_of e.root) ≡ passed ++ z ∷ r.0) (sym is) r.1)
      by_kind Eff n p q =
          (ahead, ap (λ t. events t 0 (tree_of e.root)) (choices_same (λ k h. absurd (let z : Eff ≡ Val = sym p ∙ ap (λ v. v.kind) h in cc))) ∙ listed)
      by_kind Body n p q =
          (ahead, ap (λ t. events t 0 (tree_of e.root)) (choices_same (λ k h. absurd (let z : Body ≡ Val = sym p ∙ ap (λ v. v.kind) h in cc))) ∙ listed)

  -- u is done as well
  done_too : (z : Place) → is_done (with_given e u w) z ≡ (is_done e z || same_place u z)
  done_too z = go (same_place u z) (e.given z)
    where
      go : (b : Bool) (o : Option Value) → is_some (if b then Some w else o) ≡ (is_some o || b)
      go true None = refl
      go true (Some v) = refl
      go false None = refl
      go false (Some v) = refl

flipped : (u z : Place) → same_place z u ≡ same_place u z
flipped u z = go (same_place z u) (same_place u z) refl refl
  where
    go : (a b : Bool) → same_place z u ≡ a → same_place u z ≡ b → a ≡ b
    go true true p q = refl
    go false false p q = refl
    go true false p q = absurd (true≢false (sym (same_place_itself u) ∙ (subst (λ y. same_place u y ≡ false) (same_place_eq z u p) q)))
    go false true p q = absurd (true≢false (sym (same_place_itself u) ∙ (subst (λ y. same_place y u ≡ false) (sym (same_place_eq u z q)) p)))

with_last : (passed : List Place) (u z : Place) → has (passed ++ u ∷ []) z ≡ (has passed z || same_place u z)
with_last passed u z = has_or passed (u ∷ []) z ∙ ap (λ b. has passed z || b) (or_false (same_place z u) ∙ flipped u z)

pub goes_further : GoesFurther
goes_further world f e passed ahead u v s =
    let r = listed_on world f e u v passed ahead (sym s.listed) in (
      r.0,
      record {
        done = λ z. with_last passed u z ∙ ap (λ b. b || same_place u z) (s.done z ∙ or_false (is_done e z)) ∙ sym (done_too world f e u v z)
            ∙ sym (or_false (is_done (with_given e u v) z));
        listed = append_assoc passed (u ∷ []) r.0 ∙ sym r.1;
      },
    )

pub starts_along : StartsAlong
starts_along world f e passed ahead u s = record {
  done = λ z. with_last passed u z ∙ ap (λ b. b || same_place u z) (s.done z ∙ or_false (is_done e z));
  listed = append_assoc passed (u ∷ []) ahead ∙ s.listed;
}

pub ends_along : EndsAlong
ends_along world f e passed ahead u v body s =
    let same = choices_same world f e u v (λ k h. absurd (let z : Body ≡ Val = sym body ∙ ap (λ y. y.kind) h in cc)) in (
      record {
        done = λ z. s.done z ∙ sym (done_too world f e u v z) ∙ sym (or_false (is_done (with_given e u v) z));
        listed = s.listed ∙ ap (λ t. events t 0 (tree_of e.root)) (sym same);
      },
      same,
    )
