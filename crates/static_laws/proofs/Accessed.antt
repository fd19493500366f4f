-- The accesses of a full expression are those of its nodes, and the events of the model's expression that can touch anything.
use Rattle.std.proofs.Common.{◌≡◌, ℕ, zero, suc, ◌+◌, ◌-◌, ◌<◌, ◌≤◌, Bool, true, false, not, ◌&&◌, ◌||◌, nat_lt, if◌then◌else◌, List, [], ◌∷◌, ◌++◌, map}
use Rattle.std.proofs.Common.{length, slice_get}
use Rattle.std.proofs.Common.{Option, Some, None, refl, sym, ap, ◌∙◌, subst, ◌⊎◌, inl, inr, arith, true≢false}
use Rattle.std.proofs.lemmas.Bool.Decides.{nat_tests}
use Rattle.std.specs.Prelude.{◌^◌, ℤ, unsigned_abs, ◌==◌}
use Rattle.ub_base.specs.declared.clause.Kind.{Kind}
use Rattle.ub_base.specs.declared.clause.Kind.TheVariants.{Val, Eff, Body}
use Rattle.ub_base.specs.declared.names.ObjName.{ObjName}
use Rattle.c_types.specs.declared.kind.IntKind.{IntKind}
use Rattle.c_types.specs.declared.kind.IntKind.TheVariants as kinds
use Rattle.c_types.specs.Layout.{bytes}
use Rattle.c_types.specs.Types.{CType}
use Rattle.c_typed.specs.declared.tree.Access.{Access}
use Rattle.c_typed.specs.declared.tree.Access.TheVariants as access
use Rattle.c_typed.specs.declared.tree.Change.{Change}
use Rattle.c_typed.specs.declared.tree.Change.TheVariants as change
use Rattle.c_typed.specs.declared.tree.Place.{Place}
use Rattle.c_typed.specs.declared.tree.Slot.{Slot}
use Rattle.c_typed.specs.declared.tree.Node.{Node}
use Rattle.c_typed.specs.declared.tree.Node.TheOpen as shape
use Rattle.c_typed.specs.declared.tree.Node.TheOpen.{Node-F}
use Rattle.c_typed.specs.declared.tree.Typed.{Typed, out-Typed}
use Rattle.c_typed.specs.declared.program.Program.{Program}
use Rattle.c_typed.specs.Tree.{tree_of, trees_of, size, sizes}
use Rattle.mem_spec.specs.Agreement.{bytes_of_kind}
use Rattle.c_model.specs.Program as model
use Rattle.c_model.specs.Program.{Head, Expr, expr, Exprs}
use Rattle.c_model.specs.World.{World}
use Rattle.c_model.specs.Nodes.{width_of, change_access}
use Rattle.c_model.specs.Steps.{Scene, at_node, name_of}
use Rattle.c_model.proofs.Ranks.{and_l, and_r}
use Rattle.static_places.specs.declared.places.FixedBase.TheVariants as base
use Rattle.static_places.specs.Preorder.{joined, nodes_of}
use Rattle.static_places.specs.Fixed.{Spot, fixed_place}
use Rattle.static_places.proofs.Preordered.{nodes_at}
use Rattle.static_seq.specs.declared.accesses.MemoryAccess.{MemoryAccess}
use Rattle.static_seq.specs.Accesses.{length_of, changed_length, spot_of, through, listed, accesses_by, node_accesses, accesses_from, next}
use Rattle.static_seq.specs.Parted.{accesses}
use Rattle.program_view.specs.Trees.{is_pointer, expr_of, exprs_of}
use Rattle.static_laws.specs.Apart.{is_whole, stores_whole_by, stores_whole_at, stores_whole}
use Rattle.static_laws.specs.Low.{is_low, all_low}
use Rattle.static_laws.specs.NeverRaces.{IsAmong}
use Rattle.static_laws.proofs.Reach.{Site, Reach, reach, reach_by, store_limit}
use Rattle.static_laws.proofs.Sites.{first_site}
use Rattle.static_laws.proofs.Frames.{list_name, reach_at}
use Rattle.program_view.proofs.Seen.{node_in, operands_in, own_type, head_in, expr_at, by_size}
use Rattle.static_laws.proofs.Numbered.{seen, get_left, get_right, nodes_length, node_there}
use Rattle.static_laws.proofs.Places.{site_in, site_is}

-- lists
pub there : (xs : List Typed) (i : ℕ) (t : Typed) → slice_get xs i ≡ Some t → i < length xs
there [] zero t e = absurd (cc)
there [] (suc i) t e = absurd (cc)
there (x ∷ xs) zero t e = omega arith
there (x ∷ xs) (suc i) t e = (let r = there xs i t e in omega (arith, r))

pub gets : (xs : List Typed) (i : ℕ) → i < length xs → (t : Typed) × (slice_get xs i ≡ Some t)
gets [] i h = absurd (omega (arith, h))
gets (x ∷ xs) zero h = (x, refl)
gets (x ∷ xs) (suc i) h = gets xs i (omega (arith, h))

pub among_left : (xs ys : List MemoryAccess) (a : MemoryAccess) → IsAmong xs a → IsAmong (xs ++ ys) a
among_left [] ys a h = absurd h
among_left (x ∷ xs) ys a (inl e) = inl e
among_left (x ∷ xs) ys a (inr h) = inr (among_left xs ys a h)

pub among_right : (xs ys : List MemoryAccess) (a : MemoryAccess) → IsAmong ys a → IsAmong (xs ++ ys) a
among_right [] ys a h = h
among_right (x ∷ xs) ys a h = inr (among_right xs ys a h)

pub among_either : (xs ys : List MemoryAccess) (a : MemoryAccess) → IsAmong (xs ++ ys) a → IsAmong xs a ⊎ IsAmong ys a
among_either [] ys a h = inr h
among_either (x ∷ xs) ys a (inl e) = inl (inl e)
among_either (x ∷ xs) ys a (inr h) = elim (among_either xs ys a h) [
  | inl k ↦ inl (inr k)
  | inr k ↦ inr k
]

-- the nodes of a node of a tree stand together
abbrev Together : List Typed → Type 0
Together whole = (i : ℕ) (t : Typed) → slice_get whole i ≡ Some t → (j : ℕ) → j < length (nodes_of t) → slice_get whole (i + j) ≡ slice_get (nodes_of t) j

together_among : (n : ℕ) → ((u : Typed) → size (tree_of u) ≤ n → Together (nodes_of u)) → (ts : List Typed) → sizes (trees_of ts) ≤ n
    → (i : ℕ) (t : Typed) → slice_get (joined (map nodes_of ts)) i ≡ Some t → (j : ℕ) → j < length (nodes_of t)
    → slice_get (joined (map nodes_of ts)) (i + j) ≡ slice_get (nodes_of t) j
together_among n f [] l i t e j h = absurd (let r = there [] i t e in omega (arith, r))
together_among n f (c ∷ cs) l i t e j h =
    go (nat_lt i (length (nodes_of c))) refl (f c (omega (arith, l))) (together_among n f cs (omega (arith, l)))
  where
    rest : List Typed
    rest = joined (map nodes_of cs)

    go : (b : Bool) → nat_lt i (length (nodes_of c)) ≡ b → Together (nodes_of c) → Together rest
        → slice_get (nodes_of c ++ rest) (i + j) ≡ slice_get (nodes_of t) j
    go true q here later =
        let k : i < length (nodes_of c) = grind (arith, nat_tests, q) in
        let e2 = sym (get_left (nodes_of c) rest i k) ∙ e in
        let r = here i t e2 j h in
        let x = gets (nodes_of t) j h in
        let s = there (nodes_of c) (i + j) x.0 (r ∙ x.1) in
        get_left (nodes_of c) rest (i + j) s ∙ r
    go false q here later =
        let k : length (nodes_of c) ≤ i = grind (arith, nat_tests, q) in
        let e2 = sym (get_right (nodes_of c) rest i (i - length (nodes_of c)) (omega (arith, k))) ∙ e in
        let r = later (i - length (nodes_of c)) t e2 j h in
        get_right (nodes_of c) rest (i + j) (i - length (nodes_of c) + j) (omega (arith, k)) ∙ r

pub together : (t : Typed) → Together (nodes_of t)
together = by_size (λ t. Together (nodes_of t)) (λ t f.
    subst Together (sym (nodes_at t)) (at_root t (together_among (sizes (trees_of (operands_in t))) f (operands_in t) (omega arith))))
  where
    at_root : (t : Typed) → Together (joined (map nodes_of (operands_in t))) → (i : ℕ) (u : Typed)
        → slice_get (t ∷ joined (map nodes_of (operands_in t))) i ≡ Some u → (j : ℕ) → j < length (nodes_of u)
        → slice_get (t ∷ joined (map nodes_of (operands_in t))) (i + j) ≡ slice_get (nodes_of u) j
    at_root t f zero u e j h =
        let k : t ≡ u = cc in
        let z : 0 + j ≡ j = omega arith in
        ap (slice_get (t ∷ joined (map nodes_of (operands_in t)))) z
        ∙ (ap (λ z. slice_get z j) (sym (nodes_at t)) ∙ ap (λ z. slice_get (nodes_of z) j) k)
    at_root t f (suc i) u e j h =
        let z : suc i + j ≡ suc (i + j) = omega arith in
        ap (slice_get (t ∷ joined (map nodes_of (operands_in t)))) z ∙ f i u e j h

module _ (p : Program) (function : ℕ) where
  low_at : (ts : List Typed) (i : ℕ) (t : Typed) → all_low p function ts ≡ true → slice_get ts i ≡ Some t → is_low (fixed_place p function t) ≡ true
  low_at [] i t h e = absurd (let r = there [] i t e in omega (arith, r))
  low_at (x ∷ xs) zero t h e = (let k : x ≡ t = cc in subst (λ z. is_low (fixed_place p function z) ≡ true) k (and_l (is_low (fixed_place p function x)) _ h))
  low_at (x ∷ xs) (suc i) t h e = low_at xs i t (and_r (is_low (fixed_place p function x)) _ h) e

  low_all : (ts : List Typed) → ((i : ℕ) (t : Typed) → slice_get ts i ≡ Some t → is_low (fixed_place p function t) ≡ true) → all_low p function ts ≡ true
  low_all [] f = refl
  low_all (x ∷ xs) f = both (is_low (fixed_place p function x)) _ (f 0 x refl) (low_all xs (λ i t e. f (suc i) t e))
    where
      both : (a b : Bool) → a ≡ true → b ≡ true → (a && b) ≡ true
      both true b h k = k
      both false b h k = h

  -- each node of a tree with low places has low places
  pub low_below : (root : Typed) (i : ℕ) (t : Typed) → all_low p function (nodes_of root) ≡ true → slice_get (nodes_of root) i ≡ Some t
      → all_low p function (nodes_of t) ≡ true
  low_below root i t h e =
      low_all (nodes_of t) (λ j u g. low_at (nodes_of root) (i + j) u h (together root i t e j (there (nodes_of t) j u g) ∙ g))

  -- numbers of accesses

  pub listed_at : (ts : List Typed) (n i : ℕ) (t : Typed) (a : MemoryAccess) → n + length ts < 2 ^ 32 → slice_get ts i ≡ Some t
      → IsAmong (node_accesses p function (n + i) t) a → IsAmong (accesses_from p function n ts) a
  listed_at [] n i t a l e h = absurd (let r = there [] i t e in omega (arith, r))
  listed_at (x ∷ xs) n zero t a l e h =
      let k : x ≡ t = cc in
      let z : n + 0 ≡ n = omega arith in
      among_left (node_accesses p function n x) (accesses_from p function (next n) xs) a
      (subst (λ y. IsAmong (node_accesses p function n y) a) (sym k) (subst (λ m. IsAmong (node_accesses p function m t) a) z h))
  listed_at (x ∷ xs) n (suc i) t a l e h =
      let r = there xs i t e in
      let z : next n ≡ suc n = omega (arith, l, r) in
      let w : n + suc i ≡ next n + i = omega (arith, z) in
      among_right (node_accesses p function n x) (accesses_from p function (next n) xs) a
      (listed_at xs (next n) i t a (omega (arith, z, l)) e (subst (λ m. IsAmong (node_accesses p function m t) a) w h))

  -- which node an access is of
  pub record AtNode (ts : List Typed) (n : ℕ) (a : MemoryAccess) : Type 0 where
    pub index : ℕ
    pub node : Typed
    pub there : slice_get ts index ≡ Some node
    pub own : IsAmong (node_accesses p function (n + index) node) a

  pub node_of_access : (ts : List Typed) (n : ℕ) (a : MemoryAccess) → n + length ts < 2 ^ 32 → IsAmong (accesses_from p function n ts) a → AtNode ts n a
  node_of_access [] n a l h = absurd h
  node_of_access (x ∷ []) n a l h = elim (among_either (node_accesses p function n x) [] a h) [
    | inl k ↦ (let z : n ≡ n + 0 = omega arith in
        record { index = 0; node = x; there = refl; own = subst (λ m. IsAmong (node_accesses p function m x) a) z k })
    | inr k ↦ absurd k
  ]
  node_of_access (x ∷ y ∷ xs) n a l h = elim (among_either (node_accesses p function n x) (accesses_from p function (next n) (y ∷ xs)) a h) [
    | inl k ↦ (let z : n ≡ n + 0 = omega arith in
        record { index = 0; node = x; there = refl; own = subst (λ m. IsAmong (node_accesses p function m x) a) z k })
    | inr k ↦ deeper (node_of_access (y ∷ xs) (next n) a (omega (arith, number, l)) k)
  ]
    where
      number : next n ≡ suc n
      number = omega (arith, l)

      deeper : AtNode (y ∷ xs) (next n) a → AtNode (x ∷ y ∷ xs) n a
      deeper r = record {
        index = suc r.index;
        node = r.node;
        there = r.there;
        own = subst (λ m. IsAmong (node_accesses p function m r.node) a) (omega (arith, number)) r.own;
      }

  module _ (world : World) (sized : Bool) (f : Scene) where
    -- an access and what its event can touch
    pub record Link (d : Node-F Node Typed) (n : ℕ) (a : MemoryAccess) (r : Reach) : Type 0 where
      pub writes : a.writes ≡ r.writes
      pub site : (s : Spot) → a.spot ≡ Some s → r.site ≡ Some (site_in p function world f s)
      pub limit : (sized || not (a.writes && stores_whole_by d)) ≡ true → r.limit ≡ Some a.length
      pub node : a.at.place.node ≡ n

    kind_width : (k : IntKind) → bytes_of_kind k ≡ bytes k
    kind_width kinds.Bool = refl
    kind_width _ = refl

    width_is : (how : Access) → width_of how ≡ length_of how
    width_is (access.Integer k) = kind_width k
    width_is access.Pointer = refl
    width_is access.Function = refl
    width_is (access.Whole size align) = refl

    change_width : (c : Change) → width_of (change_access c) ≡ changed_length c
    change_width (change.Integer op kind work) = kind_width kind
    change_width (change.Pointer size subtract) = refl

    limit_is : (how : Access) → (sized || not (is_whole how)) ≡ true → store_limit sized how ≡ Some (length_of how)
    limit_is (access.Integer k) h = ap Some (kind_width k)
    limit_is access.Pointer h = refl
    limit_is access.Function h = refl
    limit_is (access.Whole size align) h = known sized h
      where
        known : (s : Bool) → (s || false) ≡ true → (if s then Some size else None) ≡ Some size
        known true h = refl
        known false h = absurd (true≢false (sym h))

    change_limit : (c : Change) → store_limit sized (change_access c) ≡ Some (changed_length c)
    change_limit (change.Integer op kind work) = ap Some (kind_width kind)
    change_limit (change.Pointer size subtract) = refl

    abbrev FirstLink : Typed → Type 0
    FirstLink t = (s : Spot) → spot_of p function (slice_get (out-Typed t).children 0) ≡ Some s
        → first_site world f (exprs_of (operands_in t)) ≡ Some (site_in p function world f s)

    abbrev Links : Node-F Node Typed → ℕ → Typed → CType → MemoryAccess → Type 0
    Links d n t ty a =
        (r : Reach) × (reach_by sized (head_in d ty) (first_site world f (exprs_of (operands_in t)))
        (list_name world f (head_in d ty)) a.at.place.kind ≡ Some r)
        × Link d n a r

    list_spot : (slot : Slot) (s : Spot) → ◌≡◌ {A = Option Spot} (Some (base.Slot slot, 0)) (Some s)
        → ◌≡◌ {A = Option Site} (Some (name_of world f slot, 0)) (Some (site_in p function world f s))
    list_spot slot s h = (let k : ◌≡◌ {A = Spot} (base.Slot slot, 0) s = cc in ap (λ z. Some (site_in p function world f z)) k)

    link_by : (d : Node-F Node Typed) (n : ℕ) (t : Typed) (ty : CType) (a : MemoryAccess) → FirstLink t → IsAmong (accesses_by p function n t d) a →
        Links d n t ty a
    link_by (shape.Load how) n t ty a k (inl e) =
        subst (Links (shape.Load how) n t ty) e (
          reach false (first_site world f (exprs_of (operands_in t))) (Some (width_of how)),
          refl,
          record { writes = refl; site = k; limit = λ h. ap Some (width_is how); node = refl },
        )
    link_by (shape.Load how) n t ty a k (inr e) = absurd e
    link_by (shape.Assign first how) n t ty a k (inl e) =
        subst (Links (shape.Assign first how) n t ty) e (
          reach true (first_site world f (exprs_of (operands_in t))) (store_limit sized how),
          refl,
          record { writes = refl; site = k; limit = λ h. limit_is how h; node = refl },
        )
    link_by (shape.Assign first how) n t ty a k (inr e) = absurd e
    link_by (shape.Update c old) n t ty a k (inl e) =
        subst (Links (shape.Update c old) n t ty) e (
          reach false (first_site world f (exprs_of (operands_in t))) (Some (width_of (change_access c))),
          refl,
          record { writes = refl; site = k; limit = λ h. ap Some (change_width c); node = refl },
        )
    link_by (shape.Update c old) n t ty a k (inr (inl e)) =
        subst (Links (shape.Update c old) n t ty) e (
          reach true (first_site world f (exprs_of (operands_in t))) (store_limit sized (change_access c)),
          refl,
          record { writes = refl; site = k; limit = λ h. change_limit c; node = refl },
        )
    link_by (shape.Update c old) n t ty a k (inr (inr e)) = absurd e
    link_by (shape.List slot cs) n t ty a k (inl e) =
        subst (Links (shape.List slot cs) n t ty) e (
          reach true (Some (name_of world f slot, 0)) (Some (2 ^ 64 - 1)),
          refl,
          record { writes = refl; site = list_spot slot; limit = λ h. refl; node = refl },
        )
    link_by (shape.List slot cs) n t ty a k (inr e) = absurd e
    link_by _ n t ty a k h = absurd h

    constant_reach : (z : ℤ) (ty : CType) (s : Option Site) (x : ObjName) (k : Kind) → reach_by sized (head_in (shape.Const z) ty) s x k ≡ None
    constant_reach z ty s x k = go (is_pointer ty && (unsigned_abs z == 0))
      where
        go : (b : Bool) → reach_by sized (if b then model.Null else model.Number z) s x k ≡ None
        go true = refl
        go false = refl

    -- an access at a place
    abbrev AccessAt : Node-F Node Typed → ℕ → Typed → Kind → Type 0
    AccessAt d n t k = (a : MemoryAccess) × IsAmong (accesses_by p function n t d) a × (a.at.place.node ≡ n) × (a.at.place.kind ≡ k)

    access_by : (d : Node-F Node Typed) (n : ℕ) (t : Typed) (ty : CType) (s : Option Site) (x : ObjName) (k : Kind) (r : Reach)
        → reach_by sized (head_in d ty) s x k ≡ Some r → AccessAt d n t k
    access_by (shape.Load how) n t ty s x Val r h = (through p function n t Val false (length_of how), inl refl, refl, refl)
    access_by (shape.Assign first how) n t ty s x Eff r h = (through p function n t Eff true (length_of how), inl refl, refl, refl)
    access_by (shape.Update c old) n t ty s x Val r h = (through p function n t Val false (changed_length c), inl refl, refl, refl)
    access_by (shape.Update c old) n t ty s x Eff r h = (through p function n t Eff true (changed_length c), inr (inl refl), refl, refl)
    access_by (shape.List slot cs) n t ty s x Eff r h = (listed n t slot, inl refl, refl, refl)
    access_by (shape.Const z) n t ty s x k r h = absurd (let c = constant_reach z ty s x k in cc (c, h))
    access_by _ n t ty s x Val r h = absurd (cc)
    access_by _ n t ty s x Eff r h = absurd (cc)
    access_by _ n t ty s x Body r h = absurd (cc)

    first_link : (ty : Typed) (cs : List Typed) → all_low p function (joined (map nodes_of cs)) ≡ true → (s : Spot) →
        spot_of p function (slice_get cs 0) ≡ Some s
        → first_site world f (exprs_of cs) ≡ Some (site_in p function world f s)
    first_link t [] lo s h = absurd (cc)
    first_link t (c ∷ cs) lo s h = site_is p function world f c (left (nodes_of c) (joined (map nodes_of cs)) lo) s h
      where
        left : (xs ys : List Typed) → all_low p function (xs ++ ys) ≡ true → all_low p function xs ≡ true
        left xs ys h = low_all xs (λ i u e. low_at (xs ++ ys) i u h (get_left xs ys i (there xs i u e) ∙ e))

    module _ (root : Typed) (few : size (tree_of root) < 2 ^ 32) (lo : all_low p function (nodes_of root) ≡ true) where
      node_low : (i : ℕ) (t : Typed) → slice_get (nodes_of root) i ≡ Some t → FirstLink t
      node_low i t e =
          first_link t (operands_in t)
          (and_r (is_low (fixed_place p function t)) _ (subst (λ z. all_low p function z ≡ true) (nodes_at t) (low_below root i t lo e)))

      -- the reach of the event at a node
      reach_there : (i : ℕ) (t : Typed) (k : Kind) → slice_get (nodes_of root) i ≡ Some t
          → reach_at world sized f k (at_node 0 (expr_of root) i)
          ≡ reach_by sized (head_in (node_in t) (own_type t)) (first_site world f (exprs_of (operands_in t)))
          (list_name world f (head_in (node_in t) (own_type t))) k
      reach_there i t k e =
          ap (reach_at world sized f k) (node_there root i) ∙
          (ap (λ o. reach_at world sized f k (seen o)) e ∙ ap (λ x. reach_at world sized f k (Some x)) (expr_at t))

      short : 0 + length (nodes_of root) < 2 ^ 32
      short = (let n = nodes_length root in omega (arith, n, few))

      -- each access of the list has its event's reach
      pub record Linked (a : MemoryAccess) : Type 0 where
        pub reach : Reach
        pub is_reach : reach_at world sized f a.at.place.kind (at_node 0 (expr_of root) a.at.place.node) ≡ Some reach
        pub writes : a.writes ≡ reach.writes
        pub site : (s : Spot) → a.spot ≡ Some s → reach.site ≡ Some (site_in p function world f s)
        pub limit : (sized || not (stores_whole root a)) ≡ true → reach.limit ≡ Some a.length

      pub linked : (a : MemoryAccess) → IsAmong (accesses p function root) a → Linked a
      linked a h =
          let at = node_of_access (nodes_of root) 0 a short h in
          let zero_on : 0 + at.index ≡ at.index = omega arith in
          let own = subst (λ m. IsAmong (node_accesses p function m at.node) a) zero_on at.own in
          let l = link_by (node_in at.node) at.index at.node (own_type at.node) a (node_low at.index at.node at.there) own in
          let n = l.2.node in
          record {
            reach = l.0;
            is_reach = ap (λ z. reach_at world sized f a.at.place.kind (at_node 0 (expr_of root) z)) n ∙
                (reach_there at.index at.node a.at.place.kind at.there ∙ l.1);
            writes = l.2.writes;
            site = l.2.site;
            limit = λ w. l.2.limit (subst (λ o. (sized || not (a.writes && stores_whole_at o)) ≡ true) (ap (slice_get (nodes_of root)) n ∙ at.there) w);
          }

      -- and each event with a reach an access of the list
      pub access_of : (u : Place) (r : Reach) → reach_at world sized f u.kind (at_node 0 (expr_of root) u.node) ≡ Some r
          → (a : MemoryAccess) × IsAmong (accesses p function root) a × (a.at.place ≡ u)
      access_of u r h = go (slice_get (nodes_of root) u.node) refl
        where
          go : (o : Option Typed) → slice_get (nodes_of root) u.node ≡ o → (a : MemoryAccess) × IsAmong (accesses p function root) a × (a.at.place ≡ u)
          go None e = absurd (let k = ap (reach_at world sized f u.kind) (node_there root u.node ∙ ap seen e) in cc (k, h))
          go (Some t) e =
              let k = sym (reach_there u.node t u.kind e) ∙ h in
              let a = access_by (node_in t) u.node t (own_type t) (first_site world f (exprs_of (operands_in t)))
              (list_name world f (head_in (node_in t) (own_type t))) u.kind r k in
              let z : u.node ≡ 0 + u.node = omega arith in (
                a.0,
                listed_at (nodes_of root) 0 u.node t a.0 short e (subst (λ m. IsAmong (node_accesses p function m t) a.0) z a.1),
                (λ i. record { node = a.2 i; kind = a.3 i }),
              )
