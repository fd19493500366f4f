-- The items that a trace has of the events of an open full expression, and that a finding which tells no pair leaves them quiet.
use Rattle.std.proofs.Common.{◌≡◌, ◌≢◌, ℕ, zero, suc, ◌+◌, ◌<◌, ◌≤◌, Bool, true, false, not, ◌&&◌, ◌||◌, ◌==◌, if◌then◌else◌, true≢false, List, [], ◌∷◌}
use Rattle.std.proofs.Common.{◌++◌, length, Option, Some, None, refl, sym, ap, ap₂, ◌∙◌, subst, ◌⊎◌, inl, inr, arith}
use Rattle.std.proofs.lemmas.Bool.Decides.{nat_tests}
use Rattle.ub_base.specs.Frames.{Path}
use Rattle.ub_base.specs.declared.clause.Kind.{Kind}
use Rattle.ub_base.specs.declared.clause.Kind.TheVariants.{Val, Eff, Body}
use Rattle.ub_base.specs.declared.names.Item.{Item}
use Rattle.addr_map.specs.declared.map.Row.{Row}
use Rattle.c_typed.specs.declared.tree.Place.{Place}
use Rattle.c_typed.specs.Tree.{size}
use Rattle.c_typed.specs.Order.{place, same_place, is_body, has, is_due}
use Rattle.c_typed.specs.Decide.{is_before, first_place}
use Rattle.c_model.specs.World.{World}
use Rattle.c_model.specs.Runs.{Entry}
use Rattle.addr_map.specs.Conflict.{conflicts_with as clash_one, some_conflict as conflict}
use Rattle.c_model.specs.Findings.{same_path, is_under, items_under, items_of}
use Rattle.c_model.specs.Moments.{Open, is_of, items_by, places_from}
use Rattle.c_model.specs.FirstFinding.{quarrels, first_or, pair_among, due_only, with_items, least_pair}
use Rattle.c_model.proofs.Decided.{has_due}
use Rattle.c_model.proofs.Listed.{same_place_eq, same_place_itself}
use Rattle.c_model.proofs.FramesKeep.{due_lt}
use Rattle.order_laws.proofs.Permitted.{and_b, or_cases, or_a, or_b, first_none}
use Rattle.order_laws.proofs.Traces.{path_is, path_refl, conflict_swap}

neither : (a b : Bool) → a ≡ false → b ≡ false → (a || b) ≡ false
neither false b h k = k
neither true b h k = absurd (cc)

or_l : (a b : Bool) → (a || b) ≡ false → a ≡ false
or_l false b h = refl
or_l true b h = absurd (cc)

or_r : (a b : Bool) → (a || b) ≡ false → b ≡ false
or_r false b h = h
or_r true b h = absurd (cc)

module _ (rows : List Row) where
  -- items that have no more conflicts than others
  abbrev pub Sub : List Item → List Item → Type 0
  Sub is js = (ks : List Item) → conflict rows js ks ≡ false → conflict rows is ks ≡ false

  pub joined_free : (is js ks : List Item) → conflict rows is ks ≡ false → conflict rows js ks ≡ false → conflict rows (is ++ js) ks ≡ false
  joined_free [] js ks h k = k
  joined_free (i ∷ is) js ks h k = neither (clash_one rows i ks) _ (or_l (clash_one rows i ks) _ h) (joined_free is js ks (or_r (clash_one rows i ks) _ h) k)

  pub left_free : (is js ks : List Item) → conflict rows (is ++ js) ks ≡ false → conflict rows is ks ≡ false
  left_free [] js ks h = refl
  left_free (i ∷ is) js ks h = neither (clash_one rows i ks) _ (or_l (clash_one rows i ks) _ h) (left_free is js ks (or_r (clash_one rows i ks) _ h))

  pub right_free : (is js ks : List Item) → conflict rows (is ++ js) ks ≡ false → conflict rows js ks ≡ false
  right_free [] js ks h = h
  right_free (i ∷ is) js ks h = right_free is js ks (or_r (clash_one rows i ks) _ h)

  -- a longer trace has more items
  grows : (trace : List Entry) (x e : Entry) (u : Place) → Sub (items_of trace e u) (items_of (x ∷ trace) e u)
  grows trace x e u ks = go (is_body u.kind)
    where
      p : Path
      p = (e.turn, u.node) ∷ e.path

      go : (b : Bool) → conflict rows (e.items ++ (if b then items_under p (x ∷ trace) else [])) ks ≡ false
          → conflict rows (e.items ++ (if b then items_under p trace else [])) ks ≡ false
      go true h =
          joined_free e.items (items_under p trace) ks (left_free e.items (items_under p (x ∷ trace)) ks h)
          (right_free (if is_under x.path p then x.items else []) (items_under p trace) ks (right_free e.items (items_under p (x ∷ trace)) ks h))
      go false h = h

  -- the entry of an event, whose items the trace has
  pub record Logged (trace : List Entry) (path : Path) (turn : ℕ) (u : Place) (is : List Item) : Type 0 where
    pub entry : Entry
    pub found : (all : List Entry) → items_by all trace path turn u ≡ items_of all entry u
    pub of_path : entry.path ≡ path
    pub of_turn : entry.turn ≡ turn
    pub sub : Sub is (items_of trace entry u)

  passed : (b : Bool) (x y : List Item) → b ≡ false → (if b then x else y) ≡ y
  passed false x y e = refl
  passed true x y e = absurd (cc)

  taken : (b : Bool) (x y : List Item) → b ≡ true → (if b then x else y) ≡ x
  taken true x y e = refl
  taken false x y e = absurd (cc)

  pub logged_on : (trace : List Entry) (path : Path) (turn : ℕ) (u : Place) (is : List Item) (x : Entry) → is_of path turn u x ≡ false
      → Logged trace path turn u is → Logged (x ∷ trace) path turn u is
  logged_on trace path turn u is x other l = record {
    entry = l.entry;
    found = λ all. passed (is_of path turn u x) (items_of all x u) (items_by all trace path turn u) other ∙ l.found all;
    of_path = l.of_path;
    of_turn = l.of_turn;
    sub = λ ks h. l.sub ks (grows trace x l.entry u ks h);
  }

  eq_self : (n : ℕ) → (n == n) ≡ true
  eq_self n = grind (arith, nat_tests)

  is_this : (path : Path) (turn : ℕ) (u : Place) (x : Entry) → x.path ≡ path → x.turn ≡ turn → x.place ≡ Some u → is_of path turn u x ≡ true
  is_this path turn u x p t at =
      ap (λ o. is_of path turn u (record x { place = o })) at
      ∙ and_b _ _ (subst (λ z. same_path x.path z ≡ true) p (path_refl x.path))
      (and_b _ _ (subst (λ z. (x.turn == z) ≡ true) t (eq_self x.turn)) (same_place_itself u))

  first_false : (a b : Bool) → a ≡ false → (a && b) ≡ false
  first_false false b h = refl
  first_false true b h = absurd (cc)

  last_false : (a b c : Bool) → c ≡ false → (a && (b && c)) ≡ false
  last_false true true c h = h
  last_false true false c h = refl
  last_false false b c h = refl

  pub other_frame : (path : Path) (turn : ℕ) (u : Place) (x : Entry) → length path < length x.path → is_of path turn u x ≡ false
  other_frame path turn u x l = first_false (same_path x.path path) _ (go (same_path x.path path) refl)
    where
      go : (b : Bool) → same_path x.path path ≡ b → same_path x.path path ≡ false
      go false e = e
      go true e = (let k = ap length (path_is x.path path e) in absurd (omega (arith, k, l)))

  pub other_place : (path : Path) (turn : ℕ) (u w : Place) (x : Entry) → x.place ≡ Some w → u ≢ w → is_of path turn u x ≡ false
  other_place path turn u w x at ne =
      ap (λ o. is_of path turn u (record x { place = o })) at ∙ last_false (same_path x.path path) (x.turn == turn) (same_place u w) (go (same_place u w) refl)
    where
      go : (b : Bool) → same_place u w ≡ b → same_place u w ≡ false
      go false e = e
      go true e = absurd (ne (same_place_eq u w e))

  pub logged_new : (trace : List Entry) (path : Path) (turn : ℕ) (u : Place) (x : Entry) → x.path ≡ path → x.turn ≡ turn → x.place ≡ Some u
      → Logged (x ∷ trace) path turn u x.items
  logged_new trace path turn u x p t at = record {
    entry = x;
    found = λ all. taken (is_of path turn u x) (items_of all x u) (items_by all trace path turn u) (is_this path turn u x p t at);
    of_path = p;
    of_turn = t;
    sub = λ ks h. left_free x.items (if is_body u.kind then items_under ((x.turn, u.node) ∷ x.path) (x ∷ trace) else []) ks h;
  }

  -- a body that waits has the items of the frames that it started
  pub logged_more : (trace : List Entry) (path : Path) (turn : ℕ) (u : Place) (js : List Item) (x : Entry) → is_body u.kind ≡ true →
      is_of path turn u x ≡ false
      → is_under x.path ((turn, u.node) ∷ path) ≡ true → Logged trace path turn u js → Logged (x ∷ trace) path turn u (js ++ x.items)
  logged_more trace path turn u js x ub other under l = record {
    entry = l.entry;
    found = λ all. passed (is_of path turn u x) (items_of all x u) (items_by all trace path turn u) other ∙ l.found all;
    of_path = l.of_path;
    of_turn = l.of_turn;
    sub = λ ks h. joined_free js x.items ks (l.sub ks (grows trace x l.entry u ks h)) (own ks h);
  }
    where
      q : Path
      q = (l.entry.turn, u.node) ∷ l.entry.path

      below : is_under x.path q ≡ true
      below = subst (λ z. is_under x.path ((z, u.node) ∷ l.entry.path) ≡ true) (sym l.of_turn)
          (subst (λ z. is_under x.path ((turn, u.node) ∷ z) ≡ true) (sym l.of_path) under)

      of_body : (b : Bool) (ks : List Item) → b ≡ true → conflict rows (l.entry.items ++ (if b then items_under q (x ∷ trace) else [])) ks ≡ false
          → conflict rows (items_under q (x ∷ trace)) ks ≡ false
      of_body true ks e h = right_free l.entry.items (items_under q (x ∷ trace)) ks h
      of_body false ks e h = absurd (cc)

      of_frame : (b : Bool) (ks : List Item) → b ≡ true → conflict rows ((if b then x.items else []) ++ items_under q trace) ks ≡ false
          → conflict rows x.items ks ≡ false
      of_frame true ks e h = left_free x.items (items_under q trace) ks h
      of_frame false ks e h = absurd (cc)

      own : (ks : List Item) → conflict rows (items_of (x ∷ trace) l.entry u) ks ≡ false → conflict rows x.items ks ≡ false
      own ks h = of_frame (is_under x.path q) ks below (of_body (is_body u.kind) ks ub h)

  -- two logged events whose items in the trace have no conflict
  pub logged_apart : (trace : List Entry) (path : Path) (turn : ℕ) (u v : Place) (is js : List Item) → Logged trace path turn u is →
      Logged trace path turn v js
      → conflict rows (items_by trace trace path turn u) (items_by trace trace path turn v) ≡ false → conflict rows is js ≡ false
  logged_apart trace path turn u v is js a b h =
      let one = a.sub (items_of trace b.entry v) (ap₂ (conflict rows) (sym (a.found trace)) (sym (b.found trace)) ∙ h) in
      swapped js is (b.sub is (swapped is (items_of trace b.entry v) one))
    where
      swapped : (xs ys : List Item) → conflict rows xs ys ≡ false → conflict rows ys xs ≡ false
      swapped xs ys h = go (conflict rows ys xs) refl
        where
          go : (c : Bool) → conflict rows ys xs ≡ c → conflict rows ys xs ≡ false
          go false e = e
          go true e = absurd (true≢false (sym (conflict_swap rows ys xs e) ∙ h))

-- what a finding that tells no pair says
none_first : (test : Place → Place → Bool) (u : Place) (o : Option Place) (p : Option (Place × Place)) → first_or u o p ≡ None → (o ≡ None) × (p ≡ None)
none_first test u None p h = (refl, h)
none_first test u (Some v) p h = absurd (cc)

pub pair_none : (test : Place → Place → Bool) (us : List Place) (u v : Place) → pair_among test us ≡ None → has us u ≡ true → has us v ≡ true → u ≢ v
    → (test u v ≡ false) ⊎ (test v u ≡ false)
pair_none test [] u v h a b ne = absurd (cc)
pair_none test (w ∷ us) u v h a b ne =
    let n = none_first test w (first_place (test w) us) (pair_among test us) h in
    go n.0 (or_cases (same_place u w) (has us u) a) (or_cases (same_place v w) (has us v) b) (λ p q. pair_none test us u v n.1 p q ne)
  where
    go : first_place (test w) us ≡ None → (same_place u w ≡ true) ⊎ (has us u ≡ true) → (same_place v w ≡ true) ⊎ (has us v ≡ true)
        → (has us u ≡ true → has us v ≡ true → (test u v ≡ false) ⊎ (test v u ≡ false)) → (test u v ≡ false) ⊎ (test v u ≡ false)
    go f (inl p) (inl q) later = absurd (ne (same_place_eq u w p ∙ sym (same_place_eq v w q)))
    go f (inl p) (inr q) later = inl (subst (λ z. test z v ≡ false) (sym (same_place_eq u w p)) (first_none (test w) us v f q))
    go f (inr p) (inl q) later = inr (subst (λ z. test z u ≡ false) (sym (same_place_eq v w q)) (first_none (test w) us u f p))
    go f (inr p) (inr q) later = later p q

among_due : (o : Open) (us : List Place) (u : Place) → is_due o.tree o.taken u ≡ true → has us u ≡ true → has (due_only o us) u ≡ true
among_due o [] u d h = h
among_due o (w ∷ us) u d h = go (is_due o.tree o.taken w) refl (or_cases (same_place u w) (has us u) h) (among_due o us u d)
  where
    go : (b : Bool) → is_due o.tree o.taken w ≡ b → (same_place u w ≡ true) ⊎ (has us u ≡ true) → (has us u ≡ true → has (due_only o us) u ≡ true)
        → has (if b then w ∷ due_only o us else due_only o us) u ≡ true
    go true e (inl p) later = or_a _ _ p
    go true e (inr p) later = or_b _ _ (later p)
    go false e (inl p) later = absurd (true≢false (sym (subst (λ z. is_due o.tree o.taken z ≡ true) (same_place_eq u w p) d) ∙ e))
    go false e (inr p) later = later p

same_number : (a b : ℕ) → (a ≡ b) ⊎ (a ≢ b)
same_number a b = grind arith

among_places : (k n : ℕ) (u : Place) → k ≤ u.node → u.node < k + n → has (places_from k n) u ≡ true
among_places k zero u l r = absurd (omega (arith, l, r))
among_places k (suc n) u l r = elim (same_number u.node k) [
  | inl e ↦ by_kind u.kind refl e
  | inr ne ↦ or_b (same_place u (place k Val)) _ (or_b (same_place u (place k Eff)) _ (or_b (same_place u (place k Body)) _
      (among_places (suc k) n u (omega (arith, l, ne)) (omega (arith, r)))))
]
  where
    is : (c : Kind) → u.kind ≡ c → u.node ≡ k → same_place u (place k c) ≡ true
    is c ek en = subst (λ z. same_place u z ≡ true) (λ i. record { node = en i; kind = ek i }) (same_place_itself u)

    by_kind : (c : Kind) → u.kind ≡ c → u.node ≡ k → has (places_from k (suc n)) u ≡ true
    by_kind Val ek en = or_a (same_place u (place k Val)) _ (is Val ek en)
    by_kind Eff ek en = or_b (same_place u (place k Val)) _ (or_a (same_place u (place k Eff)) _ (is Eff ek en))
    by_kind Body ek en = or_b (same_place u (place k Val)) _ (or_b (same_place u (place k Eff)) _ (or_a (same_place u (place k Body)) _ (is Body ek en)))

module _ (world : World) (trace : List Entry) where
  pub none_here : (test : Open → Place → Place → Bool) (o : Open) (os : List Open) → least_pair world trace test (o ∷ os) ≡ None
      → (pair_among (test o) (due_only o (places_from 0 (size o.tree))) ≡ None) × (least_pair world trace test os ≡ None)
  none_here test o os h = go (pair_among (test o) (due_only o (places_from 0 (size o.tree)))) h
    where
      go : (p : Option (Place × Place)) → with_items world trace o p (least_pair world trace test os) ≡ None
          → (p ≡ None) × (least_pair world trace test os ≡ None)
      go None h = (refl, h)
      go (Some p) h = absurd (cc)

  pub quiet_open : (o : Open) → pair_among (quarrels world.rows o) (due_only o (places_from 0 (size o.tree))) ≡ None → (u v : Place)
      → is_due o.tree o.taken u ≡ true → is_due o.tree o.taken v ≡ true → u ≢ v
      → is_before o.taken 0 o.tree u v ≡ false → is_before o.taken 0 o.tree v u ≡ false → o.shows u v ≡ true → o.shows v u ≡ true
      → conflict world.rows (o.items u) (o.items v) ≡ false
  quiet_open o h u v du dv ne b c s t =
      go (pair_none (quarrels world.rows o) (due_only o (places_from 0 (size o.tree))) u v h
      (among_due o (places_from 0 (size o.tree)) u du (among_places 0 (size o.tree) u (omega arith) (in_tree u du)))
      (among_due o (places_from 0 (size o.tree)) v dv (among_places 0 (size o.tree) v (omega arith) (in_tree v dv))) ne)
    where
      in_tree : (w : Place) → is_due o.tree o.taken w ≡ true → w.node < 0 + size o.tree
      in_tree w d = due_lt o.taken o.tree 0 w (sym (has_due o.taken o.tree 0 w) ∙ d)

      rest : (a d s e : Bool) → a ≡ false → d ≡ false → s ≡ true → (not (a || d) && (s && e)) ≡ false → e ≡ false
      rest false false true e x y z h = h
      rest true d s e x y z h = absurd (cc)
      rest false true s e x y z h = absurd (cc)
      rest false false false e x y z h = absurd (cc)

      back : conflict world.rows (o.items v) (o.items u) ≡ false → conflict world.rows (o.items u) (o.items v) ≡ false
      back h = other (conflict world.rows (o.items u) (o.items v)) refl
        where
          other : (x : Bool) → conflict world.rows (o.items u) (o.items v) ≡ x → conflict world.rows (o.items u) (o.items v) ≡ false
          other false e = e
          other true e = absurd (true≢false (sym (conflict_swap world.rows (o.items u) (o.items v) e) ∙ h))

      go : (quarrels world.rows o u v ≡ false) ⊎ (quarrels world.rows o v u ≡ false) → conflict world.rows (o.items u) (o.items v) ≡ false
      go (inl q) = rest (is_before o.taken 0 o.tree u v) (is_before o.taken 0 o.tree v u) (o.shows u v) (conflict world.rows (o.items u) (o.items v)) b c s q
      go (inr q) = back (rest (is_before o.taken 0 o.tree v u) (is_before o.taken 0 o.tree u v) (o.shows v u) (conflict world.rows (o.items v) (o.items u))
          c b t q)
