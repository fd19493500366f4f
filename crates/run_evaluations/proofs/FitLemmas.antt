-- The rules of a typed tree's nodes fit its tree.
use Rattle.std.proofs.Common.{◌≡◌, ◌⊎◌, inl, inr, ⊎_elim, ℕ, zero, suc, ◌≤◌, ◌<◌, ◌+◌, ◌-◌, ◌^◌, min, nat_lt, ◌==◌, Bool, true, false, not, ◌&&◌, ◌||◌, List}
use Rattle.std.proofs.Common.{[], ◌∷◌, ◌++◌}
use Rattle.std.proofs.Common.{length, map, refl, sym, ap, ◌∙◌, arith, Option, Some, None, subst, if◌then◌else◌, length-append}
use Rattle.std.specs.Prelude.{slice_get, is_some}
use Rattle.std.specs.List.{list_all}
use Rattle.std.proofs.lemmas.Option.{slice_get_within, same_Some}
use Rattle.ub_base.proofs.Tests.{if_true, if_false, less_is, less_test, not_less_test, number_other, number_self, and_parts, or_cases}
use Rattle.c_typed.specs.declared.tree.Conversion.{Conversion}
use Rattle.c_typed.specs.declared.tree.Conversion.TheVariants as conversion
use Rattle.c_typed.specs.declared.tree.Node.{Node, fold-Node, fold-roll-Node, map-Node, out-Node, roll-out-Node}
use Rattle.c_typed.specs.declared.tree.Node.TheOpen as shape
use Rattle.c_typed.specs.declared.tree.Node.TheOpen.{Node-F, Typed-F}
use Rattle.c_typed.specs.declared.tree.Typed.{Typed, out-Typed, fold-Typed, fold_out-Typed}
use Rattle.c_typed.specs.declared.class.Class.{Class}
use Rattle.c_typed.specs.declared.class.Class.TheVariants as class
use Rattle.c_typed.specs.Tree.{Tree, Trees, node, none, more, size, sizes, class_of, operands, tree_of, trees_of, first_class, class_over, conversion_class}
use Rattle.c_typed.specs.Tree.{is_quiet_class, member_class, node_class, typed_tree}
use Rattle.c_typed.specs.Order.{Taken}
use Rattle.evaluation_log.specs.declared.rules.Rule.{Rule}
use Rattle.evaluation_log.specs.declared.rules.Rule.TheVariants as rules
use Rattle.evaluation_log.specs.declared.rules.Rules.{Rules}
use Rattle.evaluation_log.specs.Kept.{is_unsequenced}
use Rattle.evaluation_log.specs.Ruled.{NodeRule, TreeRules, node_rule, tree_rules, rules_of, rules_among, last_among}
use Rattle.evaluation_log.specs.Sides.{Side, side, sides_from}
use Rattle.evaluation_log.specs.Ways.{rule_in, rule_or_open}
use Rattle.evaluation_log.proofs.KeptLemmas.{before_or_past}
use Rattle.evaluation_log.proofs.RuledLemmas.{own_rule, rules_here}
use Rattle.evaluation_log.proofs.WholeLemmas.{get_left, get_right}
use Rattle.run_evaluations.specs.Fitting.{Listing, no_listing, node_listing, tree_listing, has_none, has_lists_alone, RulesFit}
use Rattle.run_evaluations.specs.Scopes.{Scope, IsRuled, ListsAreAlone, part_in, part_among, part_of, last_number}
use Rattle.run_evaluations.specs.Shows.{FitsRules}
use Rattle.run_evaluations.proofs.PartLemmas.{by_test, number_is, not_less_is, among_range, size_some}

-- ---- a typed tree that is opened
abbrev node_in : Typed → Node-F Node Typed
node_in t = out-Node (out-Typed t).node

abbrev kids : Typed → List Typed
kids t = (out-Typed t).children

abbrev class_fold : Node → Trees → Class
class_fold = fold-Node (Trees → Class) Tree node_class typed_tree

abbrev class_in : Node-F Node Typed → Trees → Class
class_in d = node_class (map-Node Node Typed (Trees → Class) Tree class_fold tree_of d)

tree_at : (t : Typed) → tree_of t ≡ node (class_in (node_in t) (trees_of (kids t))) (trees_of (kids t))
tree_at t =
    let n = (out-Typed t).node in
    fold_out-Typed (Trees → Class) Tree node_class typed_tree t
    ∙ (ap (λ z. node (class_fold z (trees_of (kids t))) (trees_of (kids t))) (sym (roll-out-Node n))
    ∙ ap (λ (g : Trees → Class). node (g (trees_of (kids t))) (trees_of (kids t))) (fold-roll-Node (Trees → Class) Tree node_class typed_tree (out-Node n)))

size_at : (t : Typed) → size (tree_of t) ≡ suc (sizes (trees_of (kids t)))
size_at t = ap size (tree_at t)

abbrev rule_at : Node-F Node Typed → ℕ → Rule
rule_at d = node_rule (map-Node Node Typed NodeRule TreeRules own_rule rules_of d)

rules_at : (t : Typed) (k : ℕ) → rules_of t k ≡
    rule_at (node_in t) (min (last_among (map rules_of (kids t)) (suc k) k) (2 ^ 32 - 1)) ∷ rules_among (map rules_of (kids t)) (suc k)
rules_at t k =
    let n = (out-Typed t).node in
    let l = min (last_among (map rules_of (kids t)) (suc k) k) (2 ^ 32 - 1) in
    rules_here t k
    ∙ (ap (λ z. own_rule z l ∷ rules_among (map rules_of (kids t)) (suc k)) (sym (roll-out-Node n))
    ∙ ap (λ (g : NodeRule). g l ∷ rules_among (map rules_of (kids t)) (suc k)) (fold-roll-Node NodeRule TreeRules node_rule tree_rules (out-Node n)))

abbrev listing : Typed → Listing
listing = fold-Typed Listing Listing node_listing tree_listing

abbrev listing_fold : Node → Listing
listing_fold = fold-Node Listing Listing node_listing tree_listing

abbrev listing_in : Node-F Node Typed → Listing
listing_in d = node_listing (map-Node Node Typed Listing Listing listing_fold listing d)

abbrev listing_with : Listing → List Listing → Listing
listing_with own below = record {
  lists =
      ((not own.lists || list_all (λ (l : Listing). l.listed) below) && (not own.listed || has_none below))
      && list_all (λ (l : Listing). l.lists) below;
  listed = own.listed && has_none below;
}

listing_at : (t : Typed) → listing t ≡ listing_with (listing_in (node_in t)) (map listing (kids t))
listing_at t =
    let n = (out-Typed t).node in
    fold_out-Typed Listing Listing node_listing tree_listing t
    ∙ (ap (λ z. listing_with (listing_fold z) (map listing (kids t))) (sym (roll-out-Node n))
    ∙ ap (λ z. listing_with z (map listing (kids t))) (fold-roll-Node Listing Listing node_listing tree_listing (out-Node n)))

by_size : (P : Typed → Type 0) → ((t : Typed) → ((u : Typed) → size (tree_of u) ≤ sizes (trees_of (kids t)) → P u) → P t) → (t : Typed) → P t
by_size P step t = go (size (tree_of t)) t (omega arith)
  where
    go : (n : ℕ) (t : Typed) → size (tree_of t) ≤ n → P t
    go zero t h = absurd (let l = size_some (tree_of t) in omega (arith, l, h))
    go (suc n) t h = step t (λ u k. go n u (let e = size_at t in omega (arith, e, h, k)))

-- ---- as many rules as nodes
count_among : (us : List Typed) (m : ℕ) → ((u : Typed) → size (tree_of u) ≤ sizes (trees_of us) → (k : ℕ) → length (rules_of u k) ≡ size (tree_of u)) →
    length (rules_among (map rules_of us) m) ≡ sizes (trees_of us)
count_among [] m each = refl
count_among (u ∷ us) m each =
    let a = each u (omega arith) m in
    let b = count_among us (m + length (rules_of u m)) (λ v h. each v (omega (arith, h))) in
    let e = length-append (rules_of u m) (rules_among (map rules_of us) (m + length (rules_of u m))) in
    omega (arith, a, b, e)

rule_count : (t : Typed) (k : ℕ) → length (rules_of t k) ≡ size (tree_of t)
rule_count = by_size (λ t. (k : ℕ) → length (rules_of t k) ≡ size (tree_of t)) (λ t each k.
    let a = ap length (rules_at t k) in
    let b = count_among (kids t) (suc k) each in
    let e = size_at t in
    omega (arith, a, b, e))

last_is : (us : List Typed) (m l : ℕ) → last_among (map rules_of us) m l ≡ last_number m (trees_of us) l
last_is [] m l = refl
last_is (u ∷ us) m l =
    last_is us (m + length (rules_of u m)) m ∙ ap (λ z. last_number (m + z) (trees_of us) m) (rule_count u m)

last_low : (ts : Trees) (m l : ℕ) → l ≤ m → last_number m ts l ≤ m + sizes ts
last_low none m l le = omega (arith, le)
last_low (more t ts) m l le = let r = last_low ts (m + size t) m (omega arith) in omega (arith, r)

-- ---- the rule of the root
abbrev comma_number : Rule → ℕ
comma_number (rules.Comma l) = l
comma_number _ = 0

pub record RootFits (c : Class) (own : Listing) (r : Rule) (last : ℕ) : Type 0 where
  pub closed : r ≡ rules.Closed → (c ≡ class.Call) ⊎ ((own.lists ≡ true) ⊎ (own.listed ≡ true))
  pub choice : r ≡ rules.Choice → c ≡ class.Choice
  pub comma : (l : ℕ) → r ≡ rules.Comma l → (c ≡ class.Comma) × (l ≡ last)
  pub free : (c ≡ class.Choice → ⊥) → (c ≡ class.Comma → ⊥) → is_unsequenced r ≡ true
  pub listed : c ≡ class.Isolated → own.listed ≡ true
  pub exact : is_unsequenced r ≡ true → (c ≡ class.Choice → ⊥) × (c ≡ class.Comma → ⊥)

conversion_other : (c : Conversion) (o : Option Class) → conversion_class c o ≡ class.Isolated → ⊥
conversion_other (conversion.Integer k) None h = absurd (cc)
conversion_other (conversion.Integer k) (Some c) h = go (is_quiet_class c) h
  where
    go : (b : Bool) → (if b then class.Constant else class.Plain) ≡ class.Isolated → ⊥
    go true e = absurd (cc)
    go false e = absurd (cc)
conversion_other _ o h = absurd (cc)

member_other : (o : Option Class) → member_class o ≡ class.Isolated → ⊥
member_other None h = absurd (cc)
member_other (Some class.Object) h = absurd (cc)
member_other (Some _) h = absurd (cc)

conversion_plain : (c : Conversion) (o : Option Class) → (conversion_class c o ≡ class.Choice → ⊥) × (conversion_class c o ≡ class.Comma → ⊥)
conversion_plain (conversion.Integer k) None = (λ h. absurd (cc), λ h. absurd (cc))
conversion_plain (conversion.Integer k) (Some c) = (λ h. go (is_quiet_class c) h, λ h. on (is_quiet_class c) h)
  where
    go : (b : Bool) → (if b then class.Constant else class.Plain) ≡ class.Choice → ⊥
    go true e = absurd (cc)
    go false e = absurd (cc)

    on : (b : Bool) → (if b then class.Constant else class.Plain) ≡ class.Comma → ⊥
    on true e = absurd (cc)
    on false e = absurd (cc)
conversion_plain _ o = (λ h. absurd (cc), λ h. absurd (cc))

member_plain : (o : Option Class) → (member_class o ≡ class.Choice → ⊥) × (member_class o ≡ class.Comma → ⊥)
member_plain None = (λ h. absurd (cc), λ h. absurd (cc))
member_plain (Some class.Object) = (λ h. absurd (cc), λ h. absurd (cc))
member_plain (Some _) = (λ h. absurd (cc), λ h. absurd (cc))

open_fits : (c : Class) (own : Listing) (last : ℕ) → (c ≡ class.Isolated → ⊥) → (c ≡ class.Choice → ⊥) × (c ≡ class.Comma → ⊥) →
    RootFits c own rules.Open last
open_fits c own last other plain = record {
  closed = λ h. absurd (cc);
  choice = λ h. absurd (cc);
  comma = λ l h. absurd (cc);
  free = λ a b. refl;
  listed = λ h. absurd (other h);
  exact = λ h. plain;
}

choice_fits : (own : Listing) (last : ℕ) → RootFits class.Choice own rules.Choice last
choice_fits own last = record {
  closed = λ h. absurd (cc);
  choice = λ h. refl;
  comma = λ l h. absurd (cc);
  free = λ a b. absurd (a refl);
  listed = λ h. absurd (cc);
  exact = λ h. absurd (cc);
}

root_fits : (z : Node-F Node Typed) (ts : Trees) (last : ℕ) → RootFits (class_in z ts) (listing_in z) (rule_at z last) last
root_fits shape.And ts last = choice_fits no_listing last
root_fits shape.Or ts last = choice_fits no_listing last
root_fits shape.Cond ts last = choice_fits no_listing last
root_fits shape.Comma ts last = record {
  closed = λ h. absurd (cc);
  choice = λ h. absurd (cc);
  comma = λ l h. (refl, sym (ap comma_number h));
  free = λ a b. absurd (b refl);
  listed = λ h. absurd (cc);
  exact = λ h. absurd (cc);
}
root_fits (shape.Call discarded) ts last = record {
  closed = λ h. inl refl;
  choice = λ h. absurd (cc);
  comma = λ l h. absurd (cc);
  free = λ a b. refl;
  listed = λ h. absurd (cc);
  exact = λ h. (λ e. absurd (cc), λ e. absurd (cc));
}
root_fits (shape.List object bytes) ts last = record {
  closed = λ h. inr (inl refl);
  choice = λ h. absurd (cc);
  comma = λ l h. absurd (cc);
  free = λ a b. refl;
  listed = λ h. absurd (cc);
  exact = λ h. (λ e. absurd (cc), λ e. absurd (cc));
}
root_fits (shape.Isolated tree) ts last = record {
  closed = λ h. inr (inr refl);
  choice = λ h. absurd (cc);
  comma = λ l h. absurd (cc);
  free = λ a b. refl;
  listed = λ h. refl;
  exact = λ h. (λ e. absurd (cc), λ e. absurd (cc));
}
root_fits (shape.Conv c) ts last = open_fits (conversion_class c (first_class ts)) no_listing last (conversion_other c (first_class ts))
    (conversion_plain c (first_class ts))
root_fits (shape.Member offset) ts last = open_fits (member_class (first_class ts)) no_listing last (member_other (first_class ts))
    (member_plain (first_class ts))
root_fits z ts last = open_fits (class_in z ts) (listing_in z) last (λ h. absurd (cc)) (λ h. absurd (cc), λ h. absurd (cc))

-- ---- lists and their initializers
has_nothing : (us : List Typed) → has_none (map listing us) ≡ true → trees_of us ≡ none
has_nothing [] h = refl
has_nothing (u ∷ us) h = absurd (cc)

listed_other : (z : Node-F Node Typed) (ts : Trees) → (listing_in z).listed ≡ true → class_in z ts ≡ class.Isolated
listed_other (shape.Isolated tree) ts h = refl
listed_other _ ts h = absurd (cc)

listed_tree : (u : Typed) → (listing u).listed ≡ true → tree_of u ≡ node class.Isolated none
listed_tree u h =
    let p = and_parts (listing_in (node_in u)).listed (has_none (map listing (kids u))) (sym (ap (λ (l : Listing). l.listed) (listing_at u)) ∙ h) in
    tree_at u ∙ (ap (λ z. node z (trees_of (kids u))) (listed_other (node_in u) (trees_of (kids u)) p.0)
    ∙ ap (λ z. node class.Isolated z) (has_nothing (kids u) p.1))

all_listed : (us : List Typed) (m i : ℕ) (d : Side) → list_all (λ (l : Listing). l.listed) (map listing us) ≡ true →
    slice_get (sides_from m (trees_of us)) i ≡ Some d → d.tree ≡ node class.Isolated none
all_listed [] m i d h at = absurd (cc)
all_listed (u ∷ us) m zero d h at =
    let p = and_parts (listing u).listed (list_all (λ (l : Listing). l.listed) (map listing us)) h in
    ap (λ (z : Side). z.tree) (sym (same_Some (side m (tree_of u)) d at)) ∙ listed_tree u p.0
all_listed (u ∷ us) m (suc i) d h at =
    all_listed us (m + size (tree_of u)) i d (and_parts (listing u).listed (list_all (λ (l : Listing). l.listed) (map listing us)) h).1 at

no_side : (m i : ℕ) (d : Side) (ts : Trees) → ts ≡ none → slice_get (sides_from m ts) i ≡ Some d → ⊥
no_side m i d ts e at = absurd (let z : None ≡ Some d = sym (ap (λ us. slice_get (sides_from m us) i) e) ∙ at in cc)

-- ---- the rule of a node
pub record NodeFits (n : ℕ) (c : Class) (ts : Trees) (r : Rule) : Type 0 where
  pub closed : r ≡ rules.Closed → (c ≡ class.Call) ⊎
      ((i : ℕ) (d : Side) → slice_get (sides_from (suc n) ts) i ≡ Some d → d.tree ≡ node class.Isolated none)
  pub choice : r ≡ rules.Choice → c ≡ class.Choice
  pub comma : (l : ℕ) → r ≡ rules.Comma l → (c ≡ class.Comma) × (l ≡ last_number (suc n) ts n)
  pub free : (c ≡ class.Choice → ⊥) → (c ≡ class.Comma → ⊥) → is_unsequenced r ≡ true
  pub alone : c ≡ class.Isolated → ts ≡ none
  pub exact : is_unsequenced r ≡ true → (c ≡ class.Choice → ⊥) × (c ≡ class.Comma → ⊥)

abbrev Fits : Typed → Type 0
Fits t = (k : ℕ) → k + size (tree_of t) < 2 ^ 32 → (listing t).lists ≡ true → (n : ℕ) (c : Class) (ts : Trees) →
    part_in k (tree_of t) n ≡ Some (node c ts) → (r : Rule) × (slice_get (rules_of t k) (n - k) ≡ Some r) × NodeFits n c ts r

implied : (a b : Bool) → (not a || b) ≡ true → a ≡ true → b ≡ true
implied true b h e = h
implied false b h e = absurd (cc)

fits_among : (us : List Typed) (m : ℕ) → ((u : Typed) → size (tree_of u) ≤ sizes (trees_of us) → Fits u) → m + sizes (trees_of us) < 2 ^ 32 →
    list_all (λ (l : Listing). l.lists) (map listing us) ≡ true → (n : ℕ) (c : Class) (ts : Trees) → part_among m (trees_of us) n ≡ Some (node c ts) →
    (r : Rule) × (slice_get (rules_among (map rules_of us) m) (n - m) ≡ Some r) × NodeFits n c ts r
fits_among [] m each small all n c ts h = absurd (cc)
fits_among (u ∷ us) m each small all n c ts h =
    let p = and_parts (listing u).lists (list_all (λ (l : Listing). l.lists) (map listing us)) all in
    let count = rule_count u m in
    by_test (nat_lt n (m + size (tree_of u)))
    (λ less.
    let r = each u (omega arith) m (omega (arith, small)) p.0 n c ts (sym (if_true _ _ _ less) ∙ h) in (
      r.0,
      get_left (rules_of u m) (rules_among (map rules_of us) (m + length (rules_of u m))) (n - m) (slice_get_within (rules_of u m) (n - m) r.0 r.1) ∙ r.1,
      r.2,
    ))
    (λ past.
    let low = not_less_is n (m + size (tree_of u)) past in
    let r = fits_among us (m + size (tree_of u)) (λ v e. each v (omega (arith, e))) (omega (arith, small)) p.1 n c ts (sym (if_false _ _ _ past) ∙ h) in (
      r.0,
      ap (slice_get (rules_of u m ++ rules_among (map rules_of us) (m + length (rules_of u m)))) (omega (arith, low, count))
          ∙ (get_right (rules_of u m) (rules_among (map rules_of us) (m + length (rules_of u m))) (n - (m + size (tree_of u)))
          ∙ (ap (λ z. slice_get (rules_among (map rules_of us) (m + z)) (n - (m + size (tree_of u)))) count ∙ r.1)),
      r.2,
    ))

fits : (t : Typed) → Fits t
fits = by_size Fits (λ t each k small all n c ts h.
    let z = node_in t in
    let us = kids t in
    let below = trees_of us in
    let size_is = size_at t in
    let last = min (last_among (map rules_of us) (suc k) k) (2 ^ 32 - 1) in
    let lists = ap (λ (l : Listing). l.lists) (listing_at t) in
    let p = and_parts ((not (listing_in z).lists || list_all (λ (l : Listing). l.listed) (map listing us)) && (not (listing_in z).listed || has_none
    (map listing us))) (list_all (λ (l : Listing). l.lists) (map listing us)) (sym lists ∙ all) in
    let q = and_parts (not (listing_in z).lists || list_all (λ (l : Listing). l.listed) (map listing us)) (not (listing_in z).listed || has_none
    (map listing us)) p.0 in
    let root = root_fits z below last in
    let here = ap (λ x. part_in k x n) (sym (tree_at t)) ∙ h in
    by_test (n == k)
    (λ own.
    let n_is = number_is n k own in
    let first : n - k ≡ 0 = omega (arith, n_is) in
    let e = same_Some (node (class_in z below) below) (node c ts) (sym (if_true _ _ _ own) ∙ here) in
    let c_is : class_in z below ≡ c = ap class_of e in
    let ts_is : below ≡ ts = ap operands e in
    let low = last_low below (suc k) k (omega arith) in
    let l = last_is us (suc k) k in
    let last_one : last ≡ last_number (suc n) ts n =
    (let least : last ≡ last_number (suc k) below k = omega (arith, l, low, small, size_is) in
    least ∙ (λ i. last_number (suc (sym n_is i)) (ts_is i) (sym n_is i))) in (
      rule_at z last,
      ap (slice_get (rules_of t k)) first ∙ ap (λ xs. slice_get xs 0) (rules_at t k),
      record {
        closed = λ is. ⊎_elim (λ call. inl (sym c_is ∙ call))
            (⊎_elim
            (λ list. inr (λ i d at. all_listed us (suc n) i d (implied (listing_in z).lists _ q.0 list)
            (ap (λ x. slice_get (sides_from (suc n) x) i) ts_is ∙ at)))
            (λ listed. inr (λ i d at. absurd (no_side (suc n) i d ts (sym ts_is ∙ has_nothing us (implied (listing_in z).listed _ q.1 listed)) at))))
            (root.closed is);
        choice = λ is. sym c_is ∙ root.choice is;
        comma = λ x is. let r = root.comma x is in (sym c_is ∙ r.0, r.1 ∙ last_one);
        free = λ a b. root.free (λ e. a (sym c_is ∙ e)) (λ e. b (sym c_is ∙ e));
        alone = λ is. sym ts_is ∙ has_nothing us (implied (listing_in z).listed _ q.1 (root.listed (c_is ∙ is)));
        exact = λ h. let x = root.exact h in (λ e. x.0 (c_is ∙ e), λ e. x.1 (c_is ∙ e));
      },
    ))
    (λ other.
    let g : part_among (suc k) below n ≡ Some (node c ts) = sym (if_false _ _ _ other) ∙ here in
    let low = (among_range (suc k) below n (node c ts) g).low in
    let after : n - k ≡ suc (n - suc k) = omega (arith, low) in
    let r = fits_among us (suc k) each (omega (arith, small, size_is)) p.1 n c ts g in (
      r.0,
      ap (λ xs. slice_get xs (n - k)) (rules_at t k)
          ∙ (ap (slice_get (rule_at z last ∷ rules_among (map rules_of us) (suc k))) after ∙ r.1),
      r.2,
    )))

pub rules_fit : RulesFit
rules_fit root list taken listed small alone = (
  record {
    ruled = λ n c ts h.
        let r = fits root 0 (omega (arith, small)) alone n c ts h in
        let is = rule_is n r.0 r.1 in
        subst (λ (x : Rule). IsRuled (record { tree = tree_of root; taken = taken }) n c ts x (is_some (taken n))) is (record {
          there = h;
          closed = r.2.closed;
          choice = λ e. (r.2.choice e, refl);
          comma = r.2.comma;
        });
    free = λ n c ts h a b.
        let r = fits root 0 (omega (arith, small)) alone n c ts h in
        ap is_unsequenced (sym (rule_is n r.0 r.1)) ∙ r.2.free a b;
  },
  λ n ts h. (fits root 0 (omega (arith, small)) alone n class.Isolated ts h).2.alone refl,
  λ n free c ts h.
      let r = fits root 0 (omega (arith, small)) alone n c ts h in
      r.2.exact (ap is_unsequenced (rule_is n r.0 r.1) ∙ free),
)
  where
    rule_is : (n : ℕ) (r : Rule) → slice_get (rules_of root 0) (n - 0) ≡ Some r → r ≡ rule_in list n
    rule_is n r h =
        sym (ap rule_or_open (ap (λ xs. slice_get xs n) listed ∙ (ap (slice_get (rules_of root 0)) (omega arith) ∙ h)))
