-- A term of a tree has no event twice, whichever operands are chosen, and so has its listing as it is laid out.
use Rattle.std.proofs.Common.{
  ◌≡◌,
  ℕ,
  suc,
  ◌+◌,
  ◌<◌,
  ◌≤◌,
  Bool,
  true,
  false,
  ◌&&◌,
  ◌||◌,
  ◌==◌,
  nat_lt,
  if◌then◌else◌,
  List,
  [],
  ◌∷◌,
  ◌++◌,
  append_assoc,
  refl,
  sym,
  ap,
  ap₂,
  subst,
  ◌∙◌,
  ◌⊎◌,
  inl,
  inr,
  true≢false,
  arith,
}
use Rattle.ub_base.specs.declared.clause.Kind.{Kind}
use Rattle.ub_base.specs.declared.clause.Kind.TheVariants.{Val, Eff, Body}
use Rattle.ub_base.specs.Names.{same_kind}
use Rattle.c_typed.specs.declared.tree.Place.{Place}
use Rattle.c_typed.specs.declared.class.Class.{Class}
use Rattle.c_typed.specs.declared.class.Class.TheVariants.{Object, Constant, Plain, Store, Update, Choice, Comma, Call, Isolated}
use Rattle.c_typed.specs.Tree as tree
use Rattle.c_typed.specs.Tree.{Tree, Trees, size, sizes}
use Rattle.c_typed.specs.Order.{place, same_place, has}
use Rattle.core_ir.specs.Term.{Term, Terms, none, more, pure, act, unseq, weak, strong, choose, atomic, indet, invoke, terms_from}
use Rattle.elaborate.specs.Terms.{term_for, terms_for, node_term, choice_of, comma_of}
use Rattle.elaborate.proofs.Once.{Unique}
use Rattle.elaborate.proofs.Ranges.{or_cases, or_b, eq_of, has_cases, has_itself}
use Rattle.run_layout.specs.Listings.{Entry, event, operand, one, continuation, flat, all_flat, within}

-- the events among entries, whether or not they are passed over
abbrev pub places : List Entry → List Place
places [] = []
places (event p ∷ es) = p ∷ places es
places (operand node index count ∷ es) = places es

abbrev mutual
  -- the events of a term, whichever operands are chosen
  pub every : Term → List Place
  every (pure n) = []
  every (act n k) = place n k ∷ []
  every (unseq ts) = every_of ts
  every (weak a b) = every a ++ every b
  every (strong a b) = every a ++ every b
  every (choose n test first second) = every test ++ (every first ++ every second)
  every (atomic a) = every a
  every (indet a) = every a
  every (invoke n) = place n Body ∷ []

  pub every_of : Terms → List Place
  every_of none = []
  every_of (more t ts) = every t ++ every_of ts

pub places_append : (xs ys : List Entry) → places (xs ++ ys) ≡ places xs ++ places ys
places_append [] ys = refl
places_append (event p ∷ xs) ys = ap (λ z. p ∷ z) (places_append xs ys)
places_append (operand node index count ∷ xs) ys = places_append xs ys

within_append : (n : ℕ) (xs ys : List Place) → within n (xs ++ ys) ≡ within n xs ++ within n ys
within_append n [] ys = refl
within_append n (p ∷ xs) ys = step (nat_lt p.node n) (within_append n xs ys)
  where
    step : (b : Bool) → within n (xs ++ ys) ≡ within n xs ++ within n ys
        → (if b then p ∷ within n (xs ++ ys) else within n (xs ++ ys)) ≡ (if b then p ∷ within n xs else within n xs) ++ within n ys
    step true h = ap (λ z. p ∷ z) h
    step false h = h

places_one : (count : ℕ) (p : Place) → places (one count p) ≡ within count (p ∷ [])
places_one count p = go (nat_lt p.node count)
  where
    go : (b : Bool) → places (if b then event p ∷ [] else []) ≡ (if b then p ∷ [] else [])
    go true = refl
    go false = refl

-- two parts, one after the other
two_parts : (count : ℕ) (a b : List Entry) (xs ys : List Place) → places a ≡ within count xs → places b ≡ within count ys →
    places (a ++ b) ≡ within count (xs ++ ys)
two_parts count a b xs ys p q = places_append a b ∙ ap₂ (λ x y. x ++ y) p q ∙ sym (within_append count xs ys)

mutual
  pub places_of : (count : ℕ) (t : Term) → places (flat count t) ≡ within count (every t)
  places_of count (pure n) = refl
  places_of count (act n k) = places_one count (place n k)
  places_of count (unseq ts) = all_places count ts
  places_of count (weak a b) = two_parts count (flat count a) (flat count b) (every a) (every b) (places_of count a) (places_of count b)
  places_of count (strong a b) = two_parts count (flat count a) (flat count b) (every a) (every b) (places_of count a) (places_of count b)
  places_of count (choose n test first second) =
      two_parts count (flat count test) (continuation n 1 (flat count first) ++ continuation n 2 (flat count second)) (every test)
      (every first ++ every second) (places_of count test)
      (two_parts count (continuation n 1 (flat count first)) (continuation n 2 (flat count second)) (every first) (every second)
      (places_of count first) (places_of count second))
  places_of count (atomic a) = places_of count a
  places_of count (indet a) = places_of count a
  places_of count (invoke n) = places_one count (place n Body)

  all_places : (count : ℕ) (ts : Terms) → places (all_flat count ts) ≡ within count (every_of ts)
  all_places count none = refl
  all_places count (more t ts) = two_parts count (flat count t) (all_flat count ts) (every t) (every_of ts) (places_of count t) (all_places count ts)

-- ---- no event twice
unique_append : (us vs : List Place) → Unique us → Unique vs → ((w : Place) → has us w ≡ true → has vs w ≡ true → ⊥) → Unique (us ++ vs)
unique_append [] vs a b f = b
unique_append (u ∷ us) vs a b f = (
  λ h. elim (has_cases us vs u h) [ inl x ↦ a.0 x | inr x ↦ f u (has_itself u us) x ],
  unique_append us vs a.1 b (λ w x y. f w (or_b (same_place w u) _ x) y),
)

-- events of nodes from one number on up to another
abbrev Fine : (a b : ℕ) → List Place → Type 0
Fine a b us = (a ≤ b) × Unique us × ((w : Place) → has us w ≡ true → (a ≤ w.node) × (w.node < b))

-- and of this node besides
abbrev Kept : (k a b : ℕ) → List Place → Type 0
Kept k a b us = (a ≤ b) × Unique us × ((w : Place) → has us w ≡ true → (w.node ≡ k) ⊎ ((a ≤ w.node) × (w.node < b)))

nothing : (a b : ℕ) → a ≤ b → Fine a b []
nothing a b h = (h, tt, λ w g. absurd (true≢false (sym g)))

join : (a m b : ℕ) (us vs : List Place) → Fine a m us → Fine m b vs → Fine a b (us ++ vs)
join a m b us vs f g = (
  (let x = f.0 in let y = g.0 in omega (arith, x, y)),
  unique_append us vs f.1 g.1 (λ w h k. let x = f.2 w h in let y = g.2 w k in let p = x.1 in let q = y.0 in omega (arith, p, q)),
  λ w h. elim (has_cases us vs w h) [
    | inl i ↦ (let x = f.2 w i in let y = g.0 in (x.0, let p = x.1 in omega (arith, p, y)))
    | inr i ↦ (let x = g.2 w i in let y = f.0 in (let p = x.0 in omega (arith, p, y), x.1))
  ],
)

behind : (k a m b : ℕ) (us vs : List Place) → k < a → Fine a m us → Kept k m b vs → Kept k a b (us ++ vs)
behind k a m b us vs l f g = (
  (let x = f.0 in let y = g.0 in omega (arith, x, y)),
  unique_append us vs f.1 g.1
      (λ w h j. let x = f.2 w h in let p = x.0 in let q = x.1 in
      elim (g.2 w j) [ inl e ↦ omega (arith, p, e, l) | inr y ↦ (let r = y.0 in omega (arith, q, r)) ]),
  λ w h. elim (has_cases us vs w h) [
    | inl i ↦ (let x = f.2 w i in let y = g.0 in inr (x.0, let p = x.1 in omega (arith, p, y)))
    | inr i ↦ (elim (g.2 w i) [ inl e ↦ inl e | inr x ↦ (let y = f.0 in inr (let p = x.0 in omega (arith, p, y), x.1)) ])
  ],
)

whole : (k b : ℕ) (us : List Place) → Kept k (suc k) b us → Fine k b us
whole k b us g = (
  (let x = g.0 in omega (arith, x)),
  g.1,
  λ w h. elim (g.2 w h) [
    | inl e ↦ (let x = g.0 in (omega (arith, e), omega (arith, e, x)))
    | inr x ↦ (let p = x.0 in (omega (arith, p), x.1))
  ],
)

own_one : (k b : ℕ) (kind : Kind) → Kept k b b (place k kind ∷ [])
own_one k b kind = (
  omega arith,
  (λ h. true≢false (sym h), tt),
  λ w h. elim (or_cases (same_place w (place k kind)) false h) [ inl e ↦ inl (eq_of w.node k (and_first _ _ e)) | inr e ↦ absurd (true≢false (sym e)) ],
)
  where
    and_first : (x y : Bool) → (x && y) ≡ true → x ≡ true
    and_first true y e = refl
    and_first false y e = e

own_two : (k b : ℕ) (x y : Kind) → (same_place (place k x) (place k y) ≡ false) → Kept k b b (place k x ∷ (place k y ∷ []))
own_two k b x y apart =
    let f = own_one k b x in
    let g = own_one k b y in (
      omega arith,
      (λ h. elim (or_cases (same_place (place k x) (place k y)) false h) [ inl e ↦ true≢false (sym e ∙ apart) | inr e ↦ true≢false (sym e) ], g.1),
      λ w h. elim (or_cases (same_place w (place k x)) _ h) [ inl e ↦ f.2 w (ap (λ z. z || false) e) | inr e ↦ g.2 w e ],
    )

different : (k : ℕ) (x y : Kind) → same_kind x y ≡ false → same_place (place k x) (place k y) ≡ false
different k x y h = ap (λ z. (k == k) && z) h ∙ and_false (k == k)
  where
    and_false : (b : Bool) → (b && false) ≡ false
    and_false true = refl
    and_false false = refl

-- ---- terms of operands, one behind the other
abbrev Fines : (a b : ℕ) → List Term → Type 0
Fines a b [] = a ≤ b
Fines a b (t ∷ ts) = (m : ℕ) × Fine a m (every t) × Fines m b ts

in_order : (a b : ℕ) (ts : List Term) → Fines a b ts → a ≤ b
in_order a b [] f = f
in_order a b (t ∷ ts) f = let x = f.1.0 in let y = in_order f.0 b ts f.2 in omega (arith, x, y)

wider : (a m b : ℕ) (us : List Place) → Fine a m us → m ≤ b → Fine a b us
wider a m b us f h = (
  (let x = f.0 in omega (arith, x, h)),
  f.1,
  λ w g. let x = f.2 w g in (x.0, let p = x.1 in omega (arith, p, h)),
)

side_by_side : (a b : ℕ) (ts : List Term) → Fines a b ts → Fine a b (every_of (terms_from ts))
side_by_side a b [] f = nothing a b f
side_by_side a b (t ∷ ts) f = join a f.0 b (every t) (every_of (terms_from ts)) f.1 (side_by_side f.0 b ts f.2)

of_choice : (k a b : ℕ) (ts : List Term) → Fines a b ts → Fine a b (every (choice_of k ts))
of_choice k a b [] f = nothing a b f
of_choice k a b (t ∷ []) f = join a f.0 b (every t) [] f.1 (nothing f.0 b f.2)
of_choice k a b (t ∷ (u ∷ [])) f =
    join a f.0 b (every t) (every u ++ []) f.1 (join f.0 f.2.0 b (every u) [] f.2.1 (nothing f.2.0 b f.2.2))
of_choice k a b (t ∷ (u ∷ (v ∷ ts))) f =
    join a f.0 b (every t) (every u ++ every v) f.1
    (join f.0 f.2.0 b (every u) (every v) f.2.1
    (wider f.2.0 f.2.2.0 b (every v) f.2.2.1 (in_order f.2.2.0 b ts f.2.2.2)))

of_comma : (k a b : ℕ) (ts : List Term) → k < a → Fines a b ts → Kept k a b (every (comma_of k ts))
of_comma k a b [] l f = behind k a b b [] (place k Val ∷ []) l (nothing a b f) (own_one k b Val)
of_comma k a b (t ∷ []) l f = behind k a f.0 b (every t) (place k Val ∷ []) l f.1
    (behind k f.0 b b [] (place k Val ∷ []) (let x = f.1.0 in omega (arith, x, l)) (nothing f.0 b f.2) (own_one k b Val))
of_comma k a b (t ∷ (u ∷ ts)) l f =
    behind k a f.0 b (every t) (every (comma_of k (u ∷ ts))) l f.1 (of_comma k f.0 b (u ∷ ts) (let x = f.1.0 in omega (arith, x, l)) f.2)

of_node : (k b : ℕ) (class : Class) (ts : List Term) → Fines (suc k) b ts → Kept k (suc k) b (every (node_term k class ts))
of_node k b Object ts f = (in_order (suc k) b ts f, tt, λ w h. absurd (true≢false (sym h)))
of_node k b Constant ts f = (in_order (suc k) b ts f, tt, λ w h. absurd (true≢false (sym h)))
of_node k b Plain ts f = behind k (suc k) b b (every_of (terms_from ts)) (place k Val ∷ []) (omega arith) (side_by_side (suc k) b ts f) (own_one k b Val)
of_node k b Store ts f = behind k (suc k) b b (every_of (terms_from ts)) (place k Val ∷ (place k Eff ∷ [])) (omega arith) (side_by_side (suc k) b ts f)
    (own_two k b Val Eff (different k Val Eff refl))
of_node k b Update ts f = behind k (suc k) b b (every_of (terms_from ts)) (place k Val ∷ (place k Eff ∷ [])) (omega arith) (side_by_side (suc k) b ts f)
    (own_two k b Val Eff (different k Val Eff refl))
of_node k b Choice ts f = behind k (suc k) b b (every (choice_of k ts)) (place k Val ∷ []) (omega arith) (of_choice k (suc k) b ts f) (own_one k b Val)
of_node k b Comma ts f = of_comma k (suc k) b ts (omega arith) f
of_node k b Call ts f = subst (Kept k (suc k) b) (sym (append_assoc (every_of (terms_from ts)) (place k Body ∷ []) (place k Val ∷ [])))
    (behind k (suc k) b b (every_of (terms_from ts)) (place k Body ∷ (place k Val ∷ [])) (omega arith) (side_by_side (suc k) b ts f)
    (own_two k b Body Val (different k Body Val refl)))
of_node k b Isolated ts f = (
  in_order (suc k) b ts f,
  (own_two k b Body Val (different k Body Val refl)).1,
  λ w h. elim ((own_two k b Body Val (different k Body Val refl)).2 w h)
      [ inl e ↦ inl e | inr x ↦ (let p = x.0 in let q = x.1 in absurd (omega (arith, p, q))) ],
)

mutual
  fine : (t : Tree) (k : ℕ) → Fine k (k + size t) (every (term_for k t))
  fine (tree.node class ts) k = whole k (k + suc (sizes ts)) (every (term_for k (tree.node class ts)))
      (of_node k (k + suc (sizes ts)) class (terms_for (suc k) ts) (subst (λ z. Fines (suc k) z (terms_for (suc k) ts)) (omega arith) (fine_all ts (suc k))))

  fine_all : (ts : Trees) (m : ℕ) → Fines m (m + sizes ts) (terms_for m ts)
  fine_all tree.none m = omega arith
  fine_all (tree.more t ts) m =
      (m + size t, fine t m, subst (λ z. Fines (m + size t) z (terms_for (m + size t) ts)) (omega arith) (fine_all ts (m + size t)))

or_left : (a b : Bool) → a ≡ true → (a || b) ≡ true
or_left true b e = refl
or_left false b e = absurd (true≢false (sym e))

within_has : (n : ℕ) (us : List Place) (w : Place) → has (within n us) w ≡ true → has us w ≡ true
within_has n [] w h = h
within_has n (u ∷ us) w h = step (nat_lt u.node n) (within_has n us w) h
  where
    step : (b : Bool) → (has (within n us) w ≡ true → has us w ≡ true) → has (if b then u ∷ within n us else within n us) w ≡ true → has (u ∷ us) w ≡ true
    step true f h = elim (or_cases (same_place w u) _ h) [ inl e ↦ or_left (same_place w u) _ e | inr e ↦ or_b (same_place w u) _ (f e) ]
    step false f h = or_b (same_place w u) _ (f h)

unique_within : (n : ℕ) (us : List Place) → Unique us → Unique (within n us)
unique_within n [] a = tt
unique_within n (u ∷ us) a = step (nat_lt u.node n) (λ h. a.0 (within_has n us u h)) (unique_within n us a.1)
  where
    step : (b : Bool) → (has (within n us) u ≡ true → ⊥) → Unique (within n us) → Unique (if b then u ∷ within n us else within n us)
    step true f g = (f, g)
    step false f g = g

-- no event stands twice in the listing of a tree
pub unique_places : (count : ℕ) (t : Tree) → Unique (places (flat count (term_for 0 t)))
unique_places count t = subst Unique (sym (places_of count (term_for 0 t))) (unique_within count (every (term_for 0 t)) (fine t 0).1)
