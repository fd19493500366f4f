-- Case by case, two events of a full expression whose accesses are apart don't race.
use Rattle.std.proofs.Common.{◌≡◌, ℕ, zero, suc, ◌+◌, ◌-◌, ◌<◌, ◌≤◌, min, max, Bool, true, false, not, ◌&&◌, ◌||◌, nat_lt, if◌then◌else◌, List, [], ◌∷◌, length}
use Rattle.std.proofs.Common.{slice_get}
use Rattle.std.proofs.Common.{Option, Some, None, is_some, refl, sym, ap, ◌∙◌, subst, ◌⊎◌, inl, inr, arith, true≢false}
use Rattle.std.proofs.lemmas.Bool.Decides.{nat_tests}
use Rattle.std.specs.Prelude.{◌^◌, ◌==◌, nat_le}
use Rattle.ub_base.specs.declared.names.Frame.{Frame}
use Rattle.ub_base.specs.declared.names.Item.{Item}
use Rattle.ub_base.specs.declared.names.Item.TheVariants.{Read, Write, Born, Dies, Alive, Expose, Lookup, Narrow, Input, Output, Ending, Any}
use Rattle.ub_base.specs.declared.names.ObjName.{ObjName}
use Rattle.ub_base.specs.declared.names.ObjName.TheVariants as object
use Rattle.ub_base.specs.Names.{same_object}
use Rattle.ub_base.proofs.NameLemmas.{same_object_is}
use Rattle.addr_map.specs.declared.map.Row.{Row}
use Rattle.addr_map.specs.Rows.{row_of}
use Rattle.addr_map.specs.Conflict.{overlap, conflicts_one, items_conflict, stands_at, is_access}
use Rattle.c_types.specs.Types.{CType}
use Rattle.c_typed.specs.declared.class.Class.TheVariants.{Choice}
use Rattle.c_typed.specs.declared.tree.Place.{Place}
use Rattle.c_typed.specs.declared.tree.Slot.{Slot}
use Rattle.c_typed.specs.declared.tree.Slot.TheVariants as slot
use Rattle.c_typed.specs.declared.tree.Node.{Node}
use Rattle.c_typed.specs.declared.tree.Node.TheOpen as shape
use Rattle.c_typed.specs.declared.tree.Node.TheOpen.{Node-F}
use Rattle.c_typed.specs.declared.tree.Typed.{Typed, out-Typed}
use Rattle.c_typed.specs.declared.program.Program.{Program}
use Rattle.c_typed.specs.Tree as plain
use Rattle.c_typed.specs.Tree.{size, sizes, trees_of}
use Rattle.c_typed.specs.Order.{Taken, IsApart, goes, is_choice}
use Rattle.c_typed.specs.Decide.{due_in, is_before}
use Rattle.c_model.specs.Program as model
use Rattle.c_model.specs.Program.{Head, And, Or, Cond, Expr, expr, Exprs, none, more, tree_of, head_class}
use Rattle.c_model.specs.World.{World}
use Rattle.c_model.specs.Steps.{Scene, Begun, taken_by, at_node, name_of, turn_of}
use Rattle.c_model.specs.ChoiceLaws.{IsReached}
use Rattle.c_model.proofs.Ranks.{and_l, and_r, or_cases, eq_eq, lt_lt, ge_lt}
use Rattle.c_model.proofs.Decided.{and_b}
use Rattle.static_places.specs.declared.places.FixedBase.{FixedBase}
use Rattle.static_places.specs.declared.places.FixedBase.TheVariants as base
use Rattle.static_places.specs.Preorder.{nodes_of}
use Rattle.static_places.specs.Fixed.{Spot}
use Rattle.static_places.specs.Private.{same_slot}
use Rattle.static_seq.specs.declared.accesses.MemoryAccess.{MemoryAccess}
use Rattle.static_seq.specs.Accesses.{next}
use Rattle.static_seq.specs.Choices.{count, count_in, operand_count, is_in_last, is_in_second, node_of, spared_by, spared_where, spared_of, parts_at}
use Rattle.static_seq.specs.Choices.{in_branches}
use Rattle.static_seq.specs.Parted.{both_read, sequenced, same_base, are_distant, distant, accesses}
use Rattle.program_view.specs.Trees.{expr_of, exprs_of}
use Rattle.static_laws.specs.Apart.{other_bases, other_objects, stores_whole, other_bytes, has_branches_by, all_branch}
use Rattle.static_laws.specs.Low.{all_low}
use Rattle.static_laws.specs.NeverRaces.{AreRows, IsAmong}
use Rattle.static_laws.proofs.Reach.{Reach, Until, AtSite, Touches, InReach}
use Rattle.static_laws.proofs.Frames.{Falls, one_turn, reach_at, Knows}
use Rattle.static_laws.proofs.Races.{RaceAt}
use Rattle.program_view.proofs.Seen.{node_in, operands_in, own_type, head_in, expr_at, size_at, same_tree}
use Rattle.static_laws.proofs.Inside.{fits, due_inside, pass, take_it, goes_is}
use Rattle.static_laws.proofs.Ordered.{Later}
use Rattle.static_laws.proofs.Completed.{completed, filled, or_filled, ordered_now}
use Rattle.static_laws.proofs.Numbered.{seen, nodes_length, node_there}
use Rattle.static_laws.proofs.Places.{base_name, site_in}
use Rattle.static_laws.proofs.Accessed.{Linked, linked}

-- where an access lies
pub data Lies : Item → Bool → ObjName → ℕ → ℕ → Type 0 where
  reads : (x : ObjName) (a n : ℕ) → Lies (Read x a n) false x a n
  writes : (x : ObjName) (a n : ℕ) → Lies (Write x a n) true x a n

pub record Lying (rows : List Row) (r : Reach) (i : Item) : Type 0 where
  pub writing : Bool
  pub object : ObjName
  pub from : ℕ
  pub count : ℕ
  pub lies : Lies i writing object from count
  pub touches : Touches rows r object from count
  pub allowed : writing ≡ true → r.writes ≡ true

lying : (rows : List Row) (r : Reach) (i : Item) → InReach rows (Some r) i → is_access i ≡ true → Lying rows r i
lying rows r (Read x a n) h k =
    record { writing = false; object = x; from = a; count = n; lies = reads x a n; touches = h; allowed = λ e. absurd (true≢false (sym e)) }
lying rows r (Write x a n) h k = record { writing = true; object = x; from = a; count = n; lies = writes x a n; touches = h.1; allowed = λ e. h.0 }
lying rows r (Born x) h k = absurd (true≢false (sym k))
lying rows r (Dies x) h k = absurd (true≢false (sym k))
lying rows r (Alive x) h k = absurd (true≢false (sym k))
lying rows r (Expose x) h k = absurd (true≢false (sym k))
lying rows r (Lookup a) h k = absurd (true≢false (sym k))
lying rows r (Narrow e x) h k = absurd (true≢false (sym k))
lying rows r Input h k = absurd (true≢false (sym k))
lying rows r Output h k = absurd (true≢false (sym k))
lying rows r Ending h k = absurd (true≢false (sym k))
lying rows r Any h k = absurd (true≢false (sym k))

pub some_reach : (rows : List Row) (o : Option Reach) (i : Item) → InReach rows o i → is_access i ≡ true → (r : Reach) × (o ≡ Some r)
some_reach rows (Some r) i h k = (r, refl)
some_reach rows None (Read x a n) h k = absurd h
some_reach rows None (Write x a n) h k = absurd h
some_reach rows None (Born x) h k = absurd (true≢false (sym k))
some_reach rows None (Dies x) h k = absurd (true≢false (sym k))
some_reach rows None (Alive x) h k = absurd (true≢false (sym k))
some_reach rows None (Expose x) h k = absurd (true≢false (sym k))
some_reach rows None (Lookup a) h k = absurd (true≢false (sym k))
some_reach rows None (Narrow e x) h k = absurd (true≢false (sym k))
some_reach rows None Input h k = absurd (true≢false (sym k))
some_reach rows None Output h k = absurd (true≢false (sym k))
some_reach rows None Ending h k = absurd (true≢false (sym k))
some_reach rows None Any h k = absurd (true≢false (sym k))

-- two accesses that conflict: one of them writes, and they share a byte of one object
pub record Meets (x y : ObjName) (a n b m : ℕ) (v w : Bool) : Type 0 where
  pub object : x ≡ y
  pub first : a < b + m
  pub second : b < a + n
  pub write : (v || w) ≡ true

overlaps : (a n b m : ℕ) → overlap a n b m ≡ true → (a < b + m) × (b < a + n)
overlaps a n b m h = (let k : max a b < min (a + n) (b + m) = grind (arith, nat_tests, h) in (omega (arith, k), omega (arith, k)))

shares : (x y : ObjName) (a n b m : ℕ) → (same_object x y && overlap a n b m) ≡ true → (x ≡ y) × ((a < b + m) × (b < a + n))
shares x y a n b m h = (same_object_is x y (and_l (same_object x y) _ h), overlaps a n b m (and_r (same_object x y) _ h))

meets : (stands : ObjName → ℕ → Bool) (i j : Item) (v w : Bool) (x y : ObjName) (a n b m : ℕ) → Lies i v x a n → Lies j w y b m
    → items_conflict stands i j ≡ true → Meets x y a n b m v w
meets stands _ _ _ _ _ _ _ _ _ _ (reads x a n) (reads y b m) h = absurd (true≢false (sym h))
meets stands _ _ _ _ _ _ _ _ _ _ (reads x a n) (writes y b m) h =
    let s = shares y x b m a n h in
    record { object = sym s.0; first = s.1.1; second = s.1.0; write = refl }
meets stands _ _ _ _ _ _ _ _ _ _ (writes x a n) (reads y b m) h = elim (or_cases (same_object x y && overlap a n b m) false h) [
  | inl k ↦ (let s = shares x y a n b m k in record { object = s.0; first = s.1.0; second = s.1.1; write = refl })
  | inr k ↦ absurd (true≢false (sym k))
]
meets stands _ _ _ _ _ _ _ _ _ _ (writes x a n) (writes y b m) h = elim (or_cases (same_object x y && overlap a n b m) _ h) [
  | inl k ↦ (let s = shares x y a n b m k in record { object = s.0; first = s.1.0; second = s.1.1; write = refl })
  | inr k ↦ (let s = shares y x b m a n k in record { object = sym s.0; first = s.1.1; second = s.1.0; write = refl })
]

-- two events of a full expression that race, in either order
pub record Pair (world : World) (sized : Bool) (f : Scene) (b : Begun) (root : Typed) (z w : Place) : Type 0 where
  pub first : Item
  pub second : Item
  pub in_first : InReach world.rows (reach_at world sized f z.kind (at_node 0 (expr_of root) z.node)) first
  pub in_second : InReach world.rows (reach_at world sized f w.kind (at_node 0 (expr_of root) w.node)) second
  pub is_first : is_access first ≡ true
  pub is_second : is_access second ≡ true
  pub conflict : items_conflict (stands_at world.rows) first second ≡ true
  pub reached_first : IsReached world f b z
  pub reached_second : IsReached world f b w
  pub apart : IsApart (tree_of b.root) (taken_by world f b) z w

or_swap : (a b : Bool) → (a || b) ≡ true → (b || a) ≡ true
or_swap true true h = refl
or_swap true false h = refl
or_swap false true h = refl
or_swap false false h = h

module _ (world : World) (sized : Bool) (f : Scene) (b : Begun) (root : Typed) (is : b.root ≡ expr_of root) where
  pub pair_of : Knows world sized → (u v : Place) → RaceAt world f b u v → Pair world sized f b root u v
  pair_of knows u v r = record {
    first = (r.clash sized knows).first;
    second = (r.clash sized knows).second;
    in_first = subst (λ e. InReach world.rows (reach_at world sized f u.kind (at_node 0 e u.node)) (r.clash sized knows).first) is
        (r.clash sized knows).in_first;
    in_second = subst (λ e. InReach world.rows (reach_at world sized f v.kind (at_node 0 e v.node)) (r.clash sized knows).second) is
        (r.clash sized knows).in_second;
    is_first = (r.clash sized knows).accesses.0;
    is_second = (r.clash sized knows).accesses.1;
    conflict = (r.clash sized knows).conflict;
    reached_first = record { due = r.next.due; earlier = r.next.earlier };
    reached_second = r.sound.closed v r.given;
    apart = r.apart;
  }

  pub pair_back : (u v : Place) → Pair world sized f b root u v → Pair world sized f b root v u
  pair_back u v p = record {
    first = p.second;
    second = p.first;
    in_first = p.in_second;
    in_second = p.in_first;
    is_first = p.is_second;
    is_second = p.is_first;
    conflict = or_swap (conflicts_one (stands_at world.rows) p.first p.second) (conflicts_one (stands_at world.rows) p.second p.first) p.conflict;
    reached_first = p.reached_second;
    reached_second = p.reached_first;
    apart = record { not_before = p.apart.not_after; not_after = p.apart.not_before };
  }

module _ (world : World) (rows : AreRows world.rows) (f : Scene) (n : ℕ) (falls : Falls n f.blocks) (p : Program) (function : ℕ) where
  -- two bases whose objects are one are one, where the object has a row
  absent : (frame : Frame) (turn decl : ℕ) → turn ≡ 0 → is_some (row_of world.rows (object.Auto frame turn decl)) ≡ true → ⊥
  absent frame turn decl e h =
      (let k = rows.none_at_0 frame decl in
      let g = subst (λ t. is_some (row_of world.rows (object.Auto frame t decl)) ≡ true) e h in
      true≢false (sym g ∙ ap is_some k))

  same_slots : (s t : Slot) → name_of world f s ≡ name_of world f t → is_some (row_of world.rows (name_of world f s)) ≡ true → same_slot s t ≡ true
  same_slots (slot.Static k) (slot.Static l) e h = (let q : k ≡ l = cc in eq_eq k l q)
  same_slots (slot.Static k) (slot.Auto c d) e h = absurd (cc)
  same_slots (slot.Auto a k) (slot.Static l) e h = absurd (cc)
  same_slots (slot.Auto a k) (slot.Auto c l) e h =
      let t : turn_of f.blocks a ≡ turn_of f.blocks c = cc in
      let q : k ≡ l = cc in
      elim (one_turn n f.blocks a c falls t) [
        | inl s ↦ and_b (a == c) (k == l) (eq_eq a c s) (eq_eq k l q)
        | inr z ↦ absurd (absent (record { 0 = world.number f.home }) (turn_of f.blocks a) k z h)
      ]

  same_bases : (s t : FixedBase) → base_name p function world f s ≡ base_name p function world f t
      → is_some (row_of world.rows (base_name p function world f s)) ≡ true → same_base s t ≡ true
  same_bases (base.Slot s) (base.Slot t) e h = same_slots s t e h
  same_bases (base.Literal k) (base.Literal l) e h = (let q : k ≡ l = cc in eq_eq k l q)
  same_bases (base.Slot (slot.Static k)) (base.Literal l) e h = absurd (cc)
  same_bases (base.Slot (slot.Auto a k)) (base.Literal l) e h = absurd (cc)
  same_bases (base.Literal k) (base.Slot (slot.Static l)) e h = absurd (cc)
  same_bases (base.Literal k) (base.Slot (slot.Auto c l)) e h = absurd (cc)

  module _ (sized : Bool) (b : Begun) (root : Typed) (few : size (plain.tree_of root) < 2 ^ 32) (lo : all_low p function (nodes_of root) ≡ true)
      (z w : Place) (pair : Pair world sized f b root z w) (x y : MemoryAccess) (x_in : IsAmong (accesses p function root) x)
      (y_in : IsAmong (accesses p function root) y)
      (at_z : x.at.place ≡ z) (at_w : y.at.place ≡ w) where
    abbrev linked_x : Linked p function world sized f root few lo x
    linked_x = linked p function world sized f root few lo x x_in

    abbrev linked_y : Linked p function world sized f root few lo y
    linked_y = linked p function world sized f root few lo y y_in

    lying_x : Lying world.rows linked_x.reach pair.first
    lying_x =
        lying world.rows linked_x.reach pair.first
        (subst (λ o. InReach world.rows o pair.first) linked_x.is_reach
        (subst (λ q. InReach world.rows (reach_at world sized f q.kind (at_node 0 (expr_of root) q.node)) pair.first) (sym at_z) pair.in_first)) pair.is_first

    lying_y : Lying world.rows linked_y.reach pair.second
    lying_y =
        lying world.rows linked_y.reach pair.second
        (subst (λ o. InReach world.rows o pair.second) linked_y.is_reach
        (subst (λ q. InReach world.rows (reach_at world sized f q.kind (at_node 0 (expr_of root) q.node)) pair.second)
        (sym at_w) pair.in_second)) pair.is_second

    met : Meets lying_x.object lying_y.object lying_x.from lying_x.count lying_y.from lying_y.count lying_x.writing lying_y.writing
    met = meets (stands_at world.rows) pair.first pair.second lying_x.writing lying_y.writing lying_x.object lying_y.object lying_x.from lying_x.count
        lying_y.from lying_y.count lying_x.lies lying_y.lies pair.conflict

    -- 1
    not_false : (c : Bool) → not c ≡ true → c ≡ false
    not_false false h = refl
    not_false true h = absurd (cc)

    unwritten : (c : Bool) (r a : Bool) → (c ≡ true → r ≡ true) → a ≡ r → not a ≡ true → c ≡ false
    unwritten false r a k e h = refl
    unwritten true r a k e h = absurd (true≢false (sym (e ∙ k refl) ∙ not_false a h))

    neither : (c d : Bool) → c ≡ false → d ≡ false → (c || d) ≡ true → ⊥
    neither false false h k q = true≢false (sym q)
    neither true d h k q = true≢false h
    neither false true h k q = true≢false k

    pub both_reads : both_read x y ≡ true → ⊥
    both_reads h =
        neither lying_x.writing lying_y.writing
        (unwritten lying_x.writing linked_x.reach.writes x.writes lying_x.allowed linked_x.writes (and_l (not x.writes) _ h))
        (unwritten lying_y.writing linked_y.reach.writes y.writes lying_y.allowed linked_y.writes (and_r (not x.writes) _ h)) met.write

    -- 4
    at_site : (r : Reach) (s : Spot) (o : ObjName) (a c : ℕ) → r.site ≡ Some (site_in p function world f s) → AtSite r.site r.limit o a c
        → (o ≡ base_name p function world f s.0) × ((s.1 ≤ a) × Until r.limit s.1 (a + c))
    at_site r s o a c e h = subst (λ q. AtSite q r.limit o a c) e h

    one_base : (s t : Spot) → x.spot ≡ Some s → y.spot ≡ Some t → same_base s.0 t.0 ≡ true
    one_base s t hs ht =
        let a = at_site linked_x.reach s lying_x.object lying_x.from lying_x.count (linked_x.site s hs) lying_x.touches.1 in
        let c = at_site linked_y.reach t lying_y.object lying_y.from lying_y.count (linked_y.site t ht) lying_y.touches.1 in
        same_bases s.0 t.0 (sym a.0 ∙ (met.object ∙ c.0)) (subst (λ q. is_some (row_of world.rows q) ≡ true) a.0 lying_x.touches.0)

    pub objects_differ : other_objects x y ≡ true → ⊥
    objects_differ h = go x.spot y.spot refl refl h
      where
        go : (o q : Option Spot) → x.spot ≡ o → y.spot ≡ q → other_bases o q ≡ true → ⊥
        go None q e g h = true≢false (sym h)
        go (Some s) None e g h = true≢false (sym h)
        go (Some s) (Some t) e g h = true≢false (sym (one_base s t e g) ∙ not_false (same_base s.0 t.0) h)

    until : (limit : Option ℕ) (l o end : ℕ) → limit ≡ Some l → Until limit o end → end ≤ o + l
    until limit l o end e h = subst (λ q. Until q o end) e h

    limits_l : (s c d : Bool) → (s || not (c || d)) ≡ true → (s || not c) ≡ true
    limits_l true c d h = refl
    limits_l false false d h = refl
    limits_l false true d h = absurd (cc)

    limits_r : (s c d : Bool) → (s || not (c || d)) ≡ true → (s || not d) ≡ true
    limits_r true c d h = refl
    limits_r false false d h = h
    limits_r false true d h = absurd (cc)

    beyond : (s t a c d e l m : ℕ) → s ≤ a → a + c ≤ s + l → t ≤ d → d + e ≤ t + m → a < d + e → d < a + c
        → (nat_le (s + l) t ≡ true) ⊎ (nat_le (t + m) s ≡ true) → ⊥
    beyond s t a c d e l m ha hb hc hd i j (inl k) = (let q : s + l ≤ t = grind (arith, nat_tests, k) in omega (arith, ha, hb, hc, hd, i, j, q))
    beyond s t a c d e l m ha hb hc hd i j (inr k) = (let q : t + m ≤ s = grind (arith, nat_tests, k) in omega (arith, ha, hb, hc, hd, i, j, q))

    pub bytes_differ : other_bytes sized root x y ≡ true → ⊥
    bytes_differ h = go x.spot y.spot refl refl (and_l (distant x y) _ h)
      where
        whole : (sized || not (stores_whole root x || stores_whole root y)) ≡ true
        whole = and_r (distant x y) _ h

        go : (o q : Option Spot) → x.spot ≡ o → y.spot ≡ q → are_distant o x.length q y.length ≡ true → ⊥
        go None q e g h = true≢false (sym h)
        go (Some s) None e g h = true≢false (sym h)
        go (Some s) (Some t) e g h = elim (or_cases (not (same_base s.0 t.0)) _ h) [
          | inl k ↦ true≢false (sym (one_base s t e g) ∙ not_false (same_base s.0 t.0) k)
          | inr k ↦ apart_bytes s t e g (or_cases (nat_le (s.1 + x.length) t.1) _ k)
        ]
          where
            apart_bytes : (s t : Spot) → x.spot ≡ Some s → y.spot ≡ Some t
                → (nat_le (s.1 + x.length) t.1 ≡ true) ⊎ (nat_le (t.1 + y.length) s.1 ≡ true) → ⊥
            apart_bytes s t e g k =
                let a = at_site linked_x.reach s lying_x.object lying_x.from lying_x.count (linked_x.site s e) lying_x.touches.1 in
                let c = at_site linked_y.reach t lying_y.object lying_y.from lying_y.count (linked_y.site t g) lying_y.touches.1 in
                let l = linked_x.limit (limits_l sized (stores_whole root x) (stores_whole root y) whole) in
                let m = linked_y.limit (limits_r sized (stores_whole root x) (stores_whole root y) whole) in
                beyond s.1 t.1 lying_x.from lying_x.count lying_y.from lying_y.count x.length y.length a.1.0
                (until linked_x.reach.limit x.length s.1 (lying_x.from + lying_x.count) l a.1.1) c.1.0
                (until linked_y.reach.limit y.length t.1 (lying_y.from + lying_y.count) m c.1.1) met.first met.second k

-- numbers of operands
all_small : (root : Typed) (i : ℕ) (t : Typed) → size (plain.tree_of root) < 2 ^ 32 → slice_get (nodes_of root) i ≡ Some t
    → (i + size (plain.tree_of t) ≤ size (plain.tree_of root)) × (at_node 0 (expr_of root) i ≡ Some (expr_of t))
all_small root i t few e =
    let q = node_there root i ∙ ap seen e in
    let r = (fits (expr_of root) 0 i (expr_of t) q).1 in
    let a = ap size (same_tree root) in
    let c = ap size (same_tree t) in
    (omega (arith, r, a, c), q)

count_is : (t : Typed) → size (plain.tree_of t) < 2 ^ 32 → count t ≡ size (plain.tree_of t)
count_is t h = omega (arith, h)

-- 3. A `?:` among the nodes, in whose branches the two stand
record Branches (ts : List Typed) (n u v : ℕ) : Type 0 where
  index : ℕ
  node : Typed
  at : slice_get ts index ≡ Some node
  parts : parts_at node (n + index) u v (node_of node) ≡ true

branches_in : (ts : List Typed) (n u v : ℕ) → n + length ts < 2 ^ 32 → in_branches ts n u v ≡ true → Branches ts n u v
branches_in [] n u v l h = absurd (true≢false (sym h))
branches_in (t ∷ []) n u v l h = elim (or_cases (parts_at t n u v (node_of t)) false h) [
  | inl k ↦ (let z : n ≡ n + 0 = omega arith in record { index = 0; node = t; at = refl; parts = subst (λ m. parts_at t m u v (node_of t) ≡ true) z k })
  | inr k ↦ absurd (true≢false (sym k))
]
branches_in (t ∷ s ∷ ts) n u v l h = elim (or_cases (parts_at t n u v (node_of t)) _ h) [
  | inl k ↦ (let z : n ≡ n + 0 = omega arith in record { index = 0; node = t; at = refl; parts = subst (λ m. parts_at t m u v (node_of t) ≡ true) z k })
  | inr k ↦ deeper (branches_in (s ∷ ts) (next n) u v (omega (arith, number, l)) k)
]
  where
    number : next n ≡ suc n
    number = omega (arith, l)

    deeper : Branches (s ∷ ts) (next n) u v → Branches (t ∷ s ∷ ts) n u v
    deeper r = record {
      index = suc r.index;
      node = r.node;
      at = r.at;
      parts = subst (λ m. parts_at r.node m u v (node_of r.node) ≡ true) (omega (arith, number)) r.parts;
    }

branches_at : (ts : List Typed) (i : ℕ) (t : Typed) → all_branch ts ≡ true → slice_get ts i ≡ Some t
    → has_branches_by (node_of t) (length (out-Typed t).children) ≡ true
branches_at [] zero t h e = absurd (cc)
branches_at [] (suc i) t h e = absurd (cc)
branches_at (x ∷ xs) zero t h e =
    (let k : x ≡ t = cc in
    subst (λ z. has_branches_by (node_of z) (length (out-Typed z).children) ≡ true) k (and_l (has_branches_by (node_of x) (length (out-Typed x).children)) _ h))
branches_at (x ∷ xs) (suc i) t h e = branches_at xs i t (and_r (has_branches_by (node_of x) (length (out-Typed x).children)) _ h) e

module _ (taken : Taken) (i : ℕ) (a c d : Expr) (q : Place) where
  abbrev three : plain.Trees
  three = plain.more (tree_of a) (plain.more (tree_of c) (plain.more (tree_of d) plain.none))

  abbrev conditional : plain.Tree
  conditional = plain.node Choice three

  -- an event of the second operand is due only where that is chosen
  second_due : suc i + size (tree_of a) ≤ q.node → q.node < suc i + size (tree_of a) + size (tree_of c) → due_in taken i conditional q ≡ true
      → taken i ≡ Some 1
  second_due l u h =
      let h1 = pass taken q (q.node == i) _ _ (grind (arith, nat_tests, l)) h in
      let h2 = pass taken q (nat_lt q.node (suc i + size (tree_of a))) _ _ (ge_lt q.node (suc i + size (tree_of a)) l) h1 in
      let h3 = take_it taken q (nat_lt q.node (suc i + size (tree_of a) + size (tree_of c))) _ _
      (lt_lt q.node (suc i + size (tree_of a) + size (tree_of c)) u) h2 in
      goes_is (taken i) 0 (and_l (goes Choice (taken i) 1) _ h3)

  third_due : suc i + size (tree_of a) + size (tree_of c) ≤ q.node → q.node < suc i + size (tree_of a) + size (tree_of c) + size (tree_of d)
      → due_in taken i conditional q ≡ true → taken i ≡ Some 2
  third_due l u h =
      let h1 = pass taken q (q.node == i) _ _ (grind (arith, nat_tests, l)) h in
      let h2 = pass taken q (nat_lt q.node (suc i + size (tree_of a))) _ _ (ge_lt q.node (suc i + size (tree_of a)) (omega (arith, l))) h1 in
      let h3 = pass taken q (nat_lt q.node (suc i + size (tree_of a) + size (tree_of c))) _ _
      (ge_lt q.node (suc i + size (tree_of a) + size (tree_of c)) l) h2 in
      let h4 = take_it taken q (nat_lt q.node (suc i + size (tree_of a) + size (tree_of c) + size (tree_of d))) _ _
      (lt_lt q.node (suc i + size (tree_of a) + size (tree_of c) + size (tree_of d)) u) h3 in
      goes_is (taken i) 1 (and_l (goes Choice (taken i) 2) _ h4)

module _ (taken : Taken) (root : Typed) (few : size (plain.tree_of root) < 2 ^ 32) (i : ℕ) (t : Typed) (at : slice_get (nodes_of root) i ≡ Some t) where
  -- a `?:` with three operands
  three_parts : (o : Node-F Node Typed) (cs : List Typed) → node_in t ≡ o → o ≡ shape.Cond → operands_in t ≡ cs → (length cs == 3) ≡ true → (u v : Place)
      → due_in taken 0 (tree_of (expr_of root)) u ≡ true → due_in taken 0 (tree_of (expr_of root)) v ≡ true
      → is_in_second t i u.node ≡ true → is_in_last t 2 i v.node ≡ true → ⊥
  three_parts o [] ot oc e h u v du dv hu hv = absurd (grind (arith, nat_tests, h))
  three_parts o (c0 ∷ []) ot oc e h u v du dv hu hv = absurd (grind (arith, nat_tests, h))
  three_parts o (c0 ∷ c1 ∷ []) ot oc e h u v du dv hu hv = absurd (grind (arith, nat_tests, h))
  three_parts o (c0 ∷ c1 ∷ c2 ∷ c3 ∷ cs) ot oc e h u v du dv hu hv = absurd (grind (arith, nat_tests, h))
  three_parts o (c0 ∷ c1 ∷ c2 ∷ []) ot oc e h u v du dv hu hv =
      let small = all_small root i t few at in
      let fit = small.0 in
      let tree : tree_of (expr_of t) ≡ conditional taken i (expr_of c0) (expr_of c1) (expr_of c2) u =
      ap tree_of (expr_at t)
      ∙ (ap (λ n. tree_of (expr (head_in n (own_type t)) (own_type t) (out-Typed t).line (exprs_of (operands_in t)))) (ot ∙ oc)
      ∙ ap (λ cs. tree_of (expr Cond (own_type t) (out-Typed t).line (exprs_of cs))) e) in
      let s0 = ap size (same_tree c0) in
      let s1 = ap size (same_tree c1) in
      let s2 = ap size (same_tree c2) in
      let whole = size_at t ∙ ap (λ cs. suc (sizes (trees_of cs))) e in
      let model_size = ap size (same_tree t) in
      let n = count_is t (omega (arith, fit, few)) in
      let m0 : operand_count t 0 ≡ size (plain.tree_of c0) = ap (λ cs. count_in (slice_get cs 0)) e ∙ count_is c0 (omega (arith, fit, few, whole)) in
      let m2 : operand_count t 2 ≡ size (plain.tree_of c2) = ap (λ cs. count_in (slice_get cs 2)) e ∙ count_is c2 (omega (arith, fit, few, whole)) in
      let ul : i + 1 + operand_count t 0 ≤ u.node = grind (arith, nat_tests, and_l (nat_le (i + 1 + operand_count t 0) u.node) _ hu) in
      let uu : u.node < i + count t - operand_count t 2 = grind (arith, nat_tests, and_r (nat_le (i + 1 + operand_count t 0) u.node) _ hu) in
      let vl : i + count t - operand_count t 2 ≤ v.node = grind (arith, nat_tests, and_l (nat_le (i + count t - operand_count t 2) v.node) _ hv) in
      let vu : v.node < i + count t = grind (arith, nat_tests, and_r (nat_le (i + count t - operand_count t 2) v.node) _ hv) in
      let iu = due_inside taken u (expr_of root) 0 i (expr_of t) small.1 (omega (arith, ul)) (omega (arith, uu, n, model_size)) du in
      let iv = due_inside taken v (expr_of root) 0 i (expr_of t) small.1 (omega (arith, vl, n, m2, whole)) (omega (arith, vu, n, model_size)) dv in
      let one = second_due taken i (expr_of c0) (expr_of c1) (expr_of c2) u (omega (arith, ul, m0, s0)) (omega (arith, uu, n, m2, whole, s0, s1, s2))
      (subst (λ z. due_in taken i z u ≡ true) tree iu) in
      let two = third_due taken i (expr_of c0) (expr_of c1) (expr_of c2) v (omega (arith, vl, n, m2, whole, s0, s1, s2))
      (omega (arith, vu, n, whole, s0, s1, s2)) (subst (λ z. due_in taken i z v ≡ true) tree iv) in
      one_two (sym one ∙ two)
    where
      one_two : ◌≡◌ {A = Option ℕ} (Some 1) (Some 2) → ⊥
      one_two e = (let k : ◌≡◌ {A = ℕ} 1 2 = cc in omega (arith, k))

  either_parts : (o : Node-F Node Typed) → node_in t ≡ o → has_branches_by o (length (operands_in t)) ≡ true → (u v : Place)
      → due_in taken 0 (tree_of (expr_of root)) u ≡ true → due_in taken 0 (tree_of (expr_of root)) v ≡ true → parts_at t i u.node v.node o ≡ true → ⊥
  either_parts shape.Cond e h u v du dv k = elim (or_cases (is_in_second t i u.node && is_in_last t 2 i v.node) _ k) [
    | inl j ↦ three_parts shape.Cond (operands_in t) e refl refl h u v du dv (and_l (is_in_second t i u.node) _ j) (and_r (is_in_second t i u.node) _ j)
    | inr j ↦ three_parts shape.Cond (operands_in t) e refl refl h v u dv du (and_l (is_in_second t i v.node) _ j) (and_r (is_in_second t i v.node) _ j)
  ]
  either_parts _ e h u v du dv k = absurd (true≢false (sym k))

pub branches_apart : (taken : Taken) (root : Typed) → size (plain.tree_of root) < 2 ^ 32 → all_branch (nodes_of root) ≡ true → (u v : Place)
    → due_in taken 0 (tree_of (expr_of root)) u ≡ true → due_in taken 0 (tree_of (expr_of root)) v ≡ true
    → in_branches (nodes_of root) 0 u.node v.node ≡ true → ⊥
branches_apart taken root few br u v du dv h =
    let n = nodes_length root in
    let r = branches_in (nodes_of root) 0 u.node v.node (omega (arith, n, few)) h in
    let z : 0 + r.index ≡ r.index = omega arith in
    either_parts taken root few r.index r.node r.at (node_in r.node) refl (branches_at (nodes_of root) r.index r.node br r.at) u v du dv
    (subst (λ m. parts_at r.node m u.node v.node (node_of r.node) ≡ true) z r.parts)

abbrev one_if : Bool → Option ℕ
one_if b = if b then Some 1 else None

-- 2. What the sparing choice chooses, each completed choice of a run chooses, as far as the two events are concerned.
module _ (world : World) (f : Scene) (b : Begun) (root : Typed) (is : b.root ≡ expr_of root) (few : size (plain.tree_of root) < 2 ^ 32) (u v : ℕ) (x y : Place)
    (stands : ((u ≡ x.node) × (v ≡ y.node)) ⊎ ((u ≡ y.node) × (v ≡ x.node))) where
  abbrev spared : Taken
  spared = spared_of (nodes_of root) u v

  abbrev Behind : ℕ → Expr → ℕ → Type 0
  Behind n a count = Later spared (completed world f b) x y n a count x ⊎ Later spared (completed world f b) x y n a count y

  -- a node in the second operand stands behind the first one
  behind : (n : ℕ) (t c : Typed) (cs : List Typed) (m : ℕ) → size (plain.tree_of t) < 2 ^ 32 → operands_in t ≡ c ∷ cs → is_in_last t 1 n m ≡ true
      → (suc n + size (tree_of (expr_of c)) ≤ m) × (m < n + size (tree_of (expr_of t)))
  behind n t c cs m small e h =
      let whole = size_at t ∙ ap (λ ds. suc (sizes (trees_of ds))) e in
      let sc = ap size (same_tree c) in
      let st = ap size (same_tree t) in
      let k = count_is t small in
      let less = bounded cs in
      let l : n + count t - operand_count t 1 ≤ m = grind (arith, nat_tests, and_l (nat_le (n + count t - operand_count t 1) m) _ h) in
      let r : m < n + count t = grind (arith, nat_tests, and_r (nat_le (n + count t - operand_count t 1) m) _ h) in
      let o : operand_count t 1 ≡ count_in (slice_get (c ∷ cs) 1) = ap (λ ds. count_in (slice_get ds 1)) e in
      (omega (arith, l, k, whole, sc, less, o), omega (arith, r, k, st))
    where
      bounded : (cs : List Typed) → count_in (slice_get (c ∷ cs) 1) ≤ sizes (trees_of cs)
      bounded [] = omega arith
      bounded (d ∷ ds) = omega arith

  chosen_by : (n : ℕ) (t c : Typed) (cs : List Typed) → size (plain.tree_of t) < 2 ^ 32 → operands_in t ≡ c ∷ cs
      → is_some (one_if (is_in_last t 1 n u || is_in_last t 1 n v)) ≡ true → Behind n (expr_of c) (size (tree_of (expr_of t)))
  chosen_by n t c cs small e h = go (is_in_last t 1 n u) (is_in_last t 1 n v) refl refl h
    where
      at_u : is_in_last t 1 n u ≡ true → Behind n (expr_of c) (size (tree_of (expr_of t)))
      at_u k = elim stands [
        | inl s ↦ inl (behind n t c cs x.node small e (subst (λ m. is_in_last t 1 n m ≡ true) s.0 k))
        | inr s ↦ inr (behind n t c cs y.node small e (subst (λ m. is_in_last t 1 n m ≡ true) s.0 k))
      ]

      at_v : is_in_last t 1 n v ≡ true → Behind n (expr_of c) (size (tree_of (expr_of t)))
      at_v k = elim stands [
        | inl s ↦ inr (behind n t c cs y.node small e (subst (λ m. is_in_last t 1 n m ≡ true) s.1 k))
        | inr s ↦ inl (behind n t c cs x.node small e (subst (λ m. is_in_last t 1 n m ≡ true) s.1 k))
      ]

      go : (p q : Bool) → is_in_last t 1 n u ≡ p → is_in_last t 1 n v ≡ q → is_some (one_if (p || q)) ≡ true
          → Behind n (expr_of c) (size (tree_of (expr_of t)))
      go true q k l h = at_u k
      go false true k l h = at_v l
      go false false k l h = absurd (true≢false (sym h))

  completed_some : (n : ℕ) (ty : CType) (line : ℕ) (a : Expr) (es : Exprs) → at_node 0 b.root n ≡ Some (expr Cond ty line (more a es))
      → is_some (completed world f b n) ≡ true
  completed_some n ty line a es e = go (taken_by world f b n)
    where
      filled_one : is_some (filled (at_node 0 b.root n)) ≡ true
      filled_one = ap (λ o. is_some (filled o)) e

      go : (o : Option ℕ) → is_some (or_filled o (filled (at_node 0 b.root n))) ≡ true
      go None = filled_one
      go (Some j) = refl

  -- by the node
  fact_by : (n : ℕ) (t : Typed) (d : Node-F Node Typed) (ts : List Typed) (h : Head) (ty : CType) (line : ℕ) (a : Expr) (es : Exprs)
      → size (plain.tree_of t) < 2 ^ 32 → at_node 0 b.root n ≡ Some (expr h ty line (more a es)) → expr_of t ≡ expr h ty line (more a es) → operands_in t ≡ ts
      → head_in d (own_type t) ≡ h → exprs_of ts ≡ more a es
      → is_some (spared_by t n u v d) ≡ true
      → (is_some (completed world f b n) ≡ true) ⊎ Behind n a (size (tree_of (expr h ty line (more a es))))
  fact_by n t d [] h ty line a es small at et ot hd eo s = absurd (cc)
  fact_by n t shape.And (c ∷ cs) h ty line a es small at et ot hd eo s =
      let k : expr_of c ≡ a = cc in
      inr (subst (λ z. Behind n a (size (tree_of z))) et (subst (λ z. Behind n z (size (tree_of (expr_of t)))) k (chosen_by n t c cs small ot s)))
  fact_by n t shape.Or (c ∷ cs) h ty line a es small at et ot hd eo s =
      let k : expr_of c ≡ a = cc in
      inr (subst (λ z. Behind n a (size (tree_of z))) et (subst (λ z. Behind n z (size (tree_of (expr_of t)))) k (chosen_by n t c cs small ot s)))
  fact_by n t shape.Cond (c ∷ cs) h ty line a es small at et ot hd eo s =
      inl (completed_some n ty line a es (subst (λ z. at_node 0 b.root n ≡ Some (expr z ty line (more a es))) (sym hd) at))
  fact_by n t _ (c ∷ cs) h ty line a es small at et ot hd eo s = absurd (true≢false (sym s))

  heads : (h g : Head) (ty uy : CType) (line l : ℕ) (es ds : Exprs) → expr h ty line es ≡ expr g uy l ds → (h ≡ g) × (es ≡ ds)
  heads h g ty uy line l es ds e = ((let k : h ≡ g = cc in k), (let k : es ≡ ds = cc in k))

  pub facts : (n : ℕ) (h : Head) (ty : CType) (line : ℕ) (a : Expr) (es : Exprs) → at_node 0 b.root n ≡ Some (expr h ty line (more a es))
      → is_choice (head_class h (model.trees_of (more a es))) ≡ true → is_some (spared n) ≡ true
      → (is_some (completed world f b n) ≡ true) ⊎ Behind n a (size (tree_of (expr h ty line (more a es))))
  facts n h ty line a es e c s = go (slice_get (nodes_of root) n) refl
    where
      et : at_node 0 (expr_of root) n ≡ Some (expr h ty line (more a es))
      et = subst (λ z. at_node 0 z n ≡ Some (expr h ty line (more a es))) is e

      go : (o : Option Typed) → slice_get (nodes_of root) n ≡ o
          → (is_some (completed world f b n) ≡ true) ⊎ Behind n a (size (tree_of (expr h ty line (more a es))))
      go None q = absurd (let k = node_there root n ∙ ap seen q in cc (k, et))
      go (Some t) q =
          let at = node_there root n ∙ ap seen q in
          let same : expr_of t ≡ expr h ty line (more a es) = (let k : Some (expr_of t) ≡ Some (expr h ty line (more a es)) = sym at ∙ et in cc) in
          let hs = heads (head_in (node_in t) (own_type t)) h (own_type t) ty (out-Typed t).line line (exprs_of (operands_in t)) (more a es)
          (sym (expr_at t) ∙ same) in
          let fit = (all_small root n t few q).0 in
          fact_by n t (node_in t) (operands_in t) h ty line a es (omega (arith, fit, few)) e same refl hs.0 hs.1
          (subst (λ o. is_some (spared_where o n u v) ≡ true) q s)

pub sequenced_apart : (world : World) (sized : Bool) (f : Scene) (b : Begun) (root : Typed) → b.root ≡ expr_of root → size (plain.tree_of root) < 2 ^ 32 →
    (z w : Place)
    → Pair world sized f b root z w → (x y : MemoryAccess) → x.at.place ≡ z → y.at.place ≡ w → sequenced root x y ≡ true → ⊥
sequenced_apart world sized f b root is few z w pair x y ez ew h = elim (or_cases (is_before taken 0 (plain.tree_of root) x.at.place y.at.place) _ h) [
  | inl k ↦ pair.apart.not_before
      (ordered_now world f b z w pair.reached_first.due pair.reached_second taken (facts world f b root is few u v z w (inl (nz, nw)))
      (subst (λ q. is_before taken 0 q z w ≡ true) tree (subst (λ q. is_before taken 0 (plain.tree_of root) z q ≡ true) ew
      (subst (λ q. is_before taken 0 (plain.tree_of root) q y.at.place ≡ true) ez k))))
  | inr k ↦ pair.apart.not_after
      (ordered_now world f b w z pair.reached_second.due pair.reached_first taken (facts world f b root is few u v w z (inr (nz, nw)))
      (subst (λ q. is_before taken 0 q w z ≡ true) tree (subst (λ q. is_before taken 0 (plain.tree_of root) w q ≡ true) ez
      (subst (λ q. is_before taken 0 (plain.tree_of root) q x.at.place ≡ true) ew k))))
]
  where
    u : ℕ
    u = x.at.place.node

    v : ℕ
    v = y.at.place.node

    taken : Taken
    taken = spared_of (nodes_of root) u v

    nz : u ≡ z.node
    nz = ap (λ q. q.node) ez

    nw : v ≡ w.node
    nw = ap (λ q. q.node) ew

    tree : plain.tree_of root ≡ tree_of b.root
    tree = sym (same_tree root) ∙ ap tree_of (sym is)
