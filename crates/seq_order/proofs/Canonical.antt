-- What the first event that isn't done says of the canonical one.
use Rattle.std.proofs.Common.{
  ◌≡◌,
  ℕ,
  Bool,
  true,
  false,
  not,
  ◌&&◌,
  ◌||◌,
  if◌then◌else◌,
  List,
  [],
  ◌∷◌,
  Option,
  Some,
  None,
  Result,
  Ok,
  Err,
  refl,
  sym,
  ap,
  subst,
  ◌∙◌,
  true≢false,
}
use Rattle.std.specs.List.{list_all}
use Rattle.std.specs.Result.{result_err}
use Rattle.ub_base.proofs.Tests.{or_right, some_is, if_true, if_false, and_false, and_both}
use Rattle.c_typed.specs.declared.tree.Place.{Place}
use Rattle.c_typed.specs.Tree.{Tree}
use Rattle.c_typed.specs.Order.{Taken, is_body, events, update_is_open}
use Rattle.c_typed.specs.Decide.{is_before, due_in, earlier_done, is_permitted, first_place, canonical}
use Rattle.seq_order.specs.Walks.{walked, is_left, is_free, is_free_beside}
use Rattle.seq_order.proofs.Listing.{Each, no_more, and_then, Ordered, in_order, first, Due, listed_due, listed_ordered}

not_later : (B : Place → Place → Bool) (done : Place → Bool) (u : Place) (us : List Place) → Each (λ w. B w u ≡ false) us →
    list_all (λ w. done w || not (B w u)) us ≡ true
not_later B done u _ no_more = refl
not_later B done u _ (and_then w ws p h) = and_both (done w || not (B w u)) _ (or_right (done w) (not (B w u)) (ap not p)) (not_later B done u ws h)

-- all that comes before the first event that isn't done is done
free_first : (B : Place → Place → Bool) (done : Place → Bool) (v : Place) (vs : List Place) → Ordered B vs → first_place (is_left done) vs ≡ Some v →
    list_all (λ w. done w || not (B w v)) vs ≡ true
free_first B done v _ in_order h = refl
free_first B done v _ (first u us a b g) h = step (done u) (free_first B done v us g) h
  where
    step : (d : Bool) → (first_place (is_left done) us ≡ Some v → list_all (λ w. done w || not (B w v)) us ≡ true)
        → (if not d then Some u else first_place (is_left done) us) ≡ Some v → ((d || not (B u v)) && list_all (λ w. done w || not (B w v)) us) ≡ true
    step true f h = f h
    step false f h =
        let e : u ≡ v = some_is u v h in
        and_both (not (B u v)) _ (ap not (subst (λ z. B u z ≡ false) e a))
        (subst (λ z. list_all (λ w. done w || not (B w z)) us ≡ true) e (not_later B done u us b))

first_where : (P : Place → Type 0) (test : Place → Bool) (v : Place) (vs : List Place) → Each P vs → first_place test vs ≡ Some v → P v × (test v ≡ true)
first_where P test v _ no_more h = absurd (cc)
first_where P test v _ (and_then u us p g) h = step (test u) refl (first_where P test v us g) h
  where
    step : (b : Bool) → test u ≡ b → (first_place test us ≡ Some v → P v × (test v ≡ true)) → (if b then Some u else first_place test us) ≡ Some v → P v ×
        (test v ≡ true)
    step true e f h = subst (λ z. P z × (test z ≡ true)) (some_is u v h) (p, e)
    step false e f h = f h

none_first : (p q : Place → Bool) (vs : List Place) → ((u : Place) → p u ≡ false → q u ≡ false) → first_place p vs ≡ None → first_place q vs ≡ None
none_first p q [] f h = refl
none_first p q (u ∷ us) f h = step (p u) refl (none_first p q us f) h
  where
    step : (b : Bool) → p u ≡ b → (first_place p us ≡ None → first_place q us ≡ None) → (if b then Some u else first_place p us) ≡ None →
        (if q u then Some u else first_place q us) ≡ None
    step true e g h = absurd (cc)
    step false e g h = if_false (q u) _ _ (f u e) ∙ g h

some_first : (p q : Place → Bool) (v : Place) (vs : List Place) → ((u : Place) → p u ≡ false → q u ≡ false) → q v ≡ true → first_place p vs ≡ Some v →
    first_place q vs ≡ Some v
some_first p q v [] f t h = absurd (cc)
some_first p q v (u ∷ us) f t h = step (p u) refl (some_first p q v us f t) h
  where
    step : (b : Bool) → p u ≡ b → (first_place p us ≡ Some v → first_place q us ≡ Some v) → (if b then Some u else first_place p us) ≡ Some v →
        (if q u then Some u else first_place q us) ≡ Some v
    step true e g h = if_true (q u) _ _ (subst (λ z. q z ≡ true) (sym (some_is u v h)) t) ∙ h
    step false e g h = if_false (q u) _ _ (f u e) ∙ g h

same_first : (P : Place → Type 0) (p q : Place → Bool) (vs : List Place) → Each P vs → ((u : Place) → P u → p u ≡ q u) → first_place p vs ≡ first_place q vs
same_first P p q _ no_more f = refl
same_first P p q _ (and_then u us d g) f =
    ap (λ z. if z then Some u else first_place p us) (f u d) ∙ ap (λ z. if q u then Some u else z) (same_first P p q us g f)

dropped : (d n e s : Bool) → n ≡ false → ((d && (n && e)) && s) ≡ false
dropped true true e s h = absurd (true≢false h)
dropped true false e s h = refl
dropped false n e s h = refl

all_four : (d n e s : Bool) → d ≡ true → n ≡ true → e ≡ true → s ≡ false → ((d && (n && e)) && not s) ≡ true
all_four d n e s h k l m = and_both (d && (n && e)) (not s) (and_both d (n && e) h (and_both n e k l)) (ap not m)

beside : (d f b o : Bool) → d ≡ true → o ≡ true → ((d && f) && not (b && o)) ≡ (not b && f)
beside true true true true h k = refl
beside true true false o h k = refl
beside true false true o h k = refl
beside true false false o h k = refl
beside true true true false h k = absurd (true≢false (sym k))
beside false f b o h k = absurd (true≢false (sym h))

past : (n m : ℕ) (o : Option Place) → Ok m ≡ walked n o → o ≡ None
past n m None h = refl
past n m (Some u) h = absurd (cc)

stopped : (n : ℕ) (u : Place) (o : Option Place) → Err u ≡ walked n o → o ≡ Some u
stopped n u None h = absurd (cc)
stopped n u (Some v) h = cc

module _ (root : Tree) (taken : Taken) (done : Place → Bool) where
  left_out : (u : Place) → is_left done u ≡ false → is_permitted root taken done u ≡ false
  left_out u h = dropped (due_in taken 0 root u) (not (done u)) (earlier_done root taken done u (events taken 0 root))
      (not (is_body u.kind && update_is_open taken done 0 root)) h

  pub none_left : (n m : ℕ) → Ok m ≡ walked n (first_place (is_left done) (events taken 0 root)) → None ≡ canonical root taken done
  none_left n m h = sym (none_first (is_left done) (is_permitted root taken done) (events taken 0 root) left_out
      (past n m (first_place (is_left done) (events taken 0 root)) h))

  pub first_left : (n : ℕ) (u : Place) → Err u ≡ walked n (first_place (is_left done) (events taken 0 root)) →
      (is_body u.kind && update_is_open taken done 0 root) ≡ false → Some u ≡ canonical root taken done
  first_left n u h k =
      let s = stopped n u (first_place (is_left done) (events taken 0 root)) h in
      let w = first_where (Due taken 0 root) (is_left done) u (events taken 0 root) (listed_due taken root 0) s in
      sym (some_first (is_left done) (is_permitted root taken done) u (events taken 0 root) left_out
      (all_four (due_in taken 0 root u) (not (done u)) (earlier_done root taken done u (events taken 0 root))
      (is_body u.kind && update_is_open taken done 0 root)
      w.0.due w.1 (free_first (is_before taken 0 root) done u (events taken 0 root) (listed_ordered taken root 0) s) k) s)

  pub first_beside : update_is_open taken done 0 root ≡ true → first_place (is_free_beside root taken done) (events taken 0 root) ≡ canonical root taken done
  first_beside h = same_first (Due taken 0 root) (is_free_beside root taken done) (is_permitted root taken done) (events taken 0 root)
      (listed_due taken root 0)
      (λ u d. sym (beside (due_in taken 0 root u) (is_free root taken done u) (is_body u.kind) (update_is_open taken done 0 root) d.due h))

  pub first_next : (n : ℕ) (u : Place) → Err u ≡ walked n (first_place (is_left done) (events taken 0 root)) → is_body u.kind ≡ false →
      Some u ≡ canonical root taken done
  first_next n u h k = first_left n u h (ap (λ z. z && update_is_open taken done 0 root) k)

  pub body_next : (n : ℕ) (u : Place) → Err u ≡ walked n (first_place (is_left done) (events taken 0 root)) → update_is_open taken done 0 root ≡ false →
      Some u ≡ canonical root taken done
  body_next n u h k = first_left n u h (and_false (is_body u.kind) (update_is_open taken done 0 root) k)

  err_of : (n : ℕ) (o : Option Place) → result_err (walked n o) ≡ o
  err_of n None = refl
  err_of n (Some u) = refl

  pub beside_next : (n : ℕ) (r : Result ℕ Place) → r ≡ walked n (first_place (is_free_beside root taken done) (events taken 0 root)) →
      update_is_open taken done 0 root ≡ true → result_err r ≡ canonical root taken done
  beside_next n r h k = ap result_err h ∙ (err_of n (first_place (is_free_beside root taken done) (events taken 0 root)) ∙ first_beside k)
