-- Ranges taken away, and one put in place of others.
use Rattle.std.proofs.Common.{
  ◌≡◌,
  ◌≢◌,
  ℕ,
  ◌+◌,
  ◌<◌,
  ◌≤◌,
  Bool,
  true,
  false,
  cond,
  ◌&&◌,
  refl,
  sym,
  ap,
  ◌∙◌,
  subst,
  arith,
  List,
  [],
  ◌∷◌,
  length,
  Some,
  None,
  Option,
  is_some,
  btree_map_len,
}
use Rattle.std.specs.Prelude.{nat_le, ◌==◌}
use Rattle.std.specs.Ordering.{is_eq}
use Rattle.std.specs.Cmp.{both_ways}
use Rattle.std.specs.Map.{lookup}
use Rattle.std.specs.BTreeMap.{BTreeMap, get, is_at}
use Rattle.std.proofs.lemmas.Bool.Decides.{nat_tests}
use Rattle.ub_base.specs.declared.names.ObjName.{ObjName}
use Rattle.ub_base.specs.Names.{same_object}
use Rattle.ub_base.proofs.NameLemmas.{same_object_is, same_object_refl}
use Rattle.footprint.specs.Ranges.{start_cmp, end_at, begins_in, Without, Joins}
use Rattle.std.proofs.lemmas.Cmp.{tied_itself}
use Rattle.footprint.proofs.RangeStarts.{start_total, start_exact, is_equal, and_left, and_right}

pub begins_own : (x : ObjName) (from last f : ℕ) → from ≤ f → f ≤ last → begins_in x from last x f ≡ true
begins_own x from last f le to = grind (arith, nat_tests, same_object_refl)

pub begins_is : (x : ObjName) (from last : ℕ) (y : ObjName) (f : ℕ) → begins_in x from last y f ≡ true → (x ≡ y) × (from ≤ f) × (f ≤ last)
begins_is x from last y f h =
    let own = same_object_is x y (and_left _ _ h) in
    let bounds : (nat_le from f && nat_le f last) ≡ true = and_right (same_object x y) _ h in
    (own, grind (arith, nat_tests), grind (arith, nat_tests))

other_start_by : (b : Bool) (x : ObjName) (from last g : ℕ) (y : ObjName) (f : ℕ) → is_eq (start_cmp (x, g) (y, f)) ≡ b → from ≤ g → g ≤ last →
    begins_in x from last y f ≡ false → b ≡ false
other_start_by false x from last g y f e le to h = refl
other_start_by true x from last g y f e le to h =
    let key : (x, g) ≡ (y, f) = start_exact (x, g) (y, f) (is_equal _ e) in
    let own : begins_in x from last y f ≡ true = subst (λ (k : ObjName × ℕ). begins_in x from last k.0 k.1 ≡ true) key (begins_own x from last g le to) in
    absurd (cc)

pub other_start : (x : ObjName) (from last g : ℕ) (y : ObjName) (f : ℕ) → from ≤ g → g ≤ last → begins_in x from last y f ≡ false →
    is_eq (start_cmp (x, g) (y, f)) ≡ false
other_start x from last g y f le to h = other_start_by _ x from last g y f refl le to h

-- what a removal leaves outside
pub outside_kept : (ends : BTreeMap (ObjName × ℕ) ℕ) (o was : Option ℕ) (x : ObjName) (from last g : ℕ) (y : ObjName) (f : ℕ) →
    o ≡ cond (is_eq (start_cmp (x, g) (y, f))) None (end_at ends y f) → from ≤ g → g ≤ last → begins_in x from last y f ≡ false → end_at ends y f ≡ was →
    o ≡ was
outside_kept ends o was x from last g y f step le to h before =
    step ∙ ap (λ b. cond b None (end_at ends y f)) (other_start x from last g y f le to h) ∙ before

pub fewer : (n m count end : ℕ) (o : Option ℕ) (e : ℕ) → o ≡ Some e → n + cond (is_some o) 1 0 ≡ m → m + count ≡ end → n + (count + 1) ≡ end
fewer n m count end o e h step sum =
    let one : n + 1 ≡ m = subst (λ (p : Option ℕ). n + cond (is_some p) 1 0 ≡ m) h step in
    omega arith

without_by : (b : Bool) (old new : BTreeMap (ObjName × ℕ) ℕ) (x : ObjName) (from last : ℕ) (y : ObjName) (f : ℕ) → begins_in x from last y f ≡ b →
    (b ≡ false → end_at new y f ≡ end_at old y f) → ((g : ℕ) → from ≤ g → g ≤ last → end_at new x g ≡ None) → end_at new y f ≡ cond b None (end_at old y f)
without_by false old new x from last y f h out none = out refl
without_by true old new x from last y f h out none =
    let facts = begins_is x from last y f h in
    subst (λ (z : ObjName). end_at new z f ≡ None) facts.0 (none f facts.1 facts.2)

pub without : (old new : BTreeMap (ObjName × ℕ) ℕ) (x : ObjName) (from last : ℕ) →
    ((y : ObjName) (f : ℕ) → begins_in x from last y f ≡ false → end_at new y f ≡ end_at old y f) → ((g : ℕ) → from ≤ g → g ≤ last → end_at new x g ≡ None) →
    Without old new x from last
without old new x from last out none y f = without_by (begins_in x from last y f) old new x from last y f refl (out y f) none

pub none_left : (ends : BTreeMap (ObjName × ℕ) ℕ) (x : ObjName) (count end : ℕ) → btree_map_len ends + count ≡ end → end ≤ count →
    (g : ℕ) → end_at ends x g ≡ None
none_left ends x count end sum done g = empty ends.entries (omega arith)
  where
    empty : (es : List ((ObjName × ℕ) × ℕ)) → length es ≡ 0 → lookup (is_at (start_cmp (x, g))) es ≡ None
    empty [] h = refl
    empty (e ∷ es) h = absurd (omega arith)

none_or : (o : Option ℕ) → ((e : ℕ) → o ≡ Some e → ⊥) → o ≡ None
none_or None h = refl
none_or (Some e) h = absurd (h e refl)

pub none_before : (ends : BTreeMap (ObjName × ℕ) ℕ) (x : ObjName) (from last next : ℕ) → last < next →
    ((f g : ℕ) → from ≤ f → end_at ends x f ≡ Some g → next ≤ f) → (g : ℕ) → from ≤ g → g ≤ last → end_at ends x g ≡ None
none_before ends x from last next lt first g le to =
    none_or (end_at ends x g) (λ e got. let late = first g e le got in absurd (omega arith))

-- ---- one range in place of others
joins_by : (a b : Bool) (old new : BTreeMap (ObjName × ℕ) ℕ) (x : ObjName) (from end : ℕ) (y : ObjName) (f : ℕ) (mid new_end : Option ℕ) →
    (same_object x y && (f == from)) ≡ a → begins_in x (from + 1) end y f ≡ b
    → mid ≡ cond a (Some end) (end_at old y f) → new_end ≡ cond b None mid → from < end →
    new_end ≡ cond a (Some end) (cond (begins_in x from end y f) None (end_at old y f))
joins_by true true old new x from end y f mid new_end ha hb hm hn lt =
    let own = begins_is x (from + 1) end y f hb in
    let at : (f == from) ≡ true = and_right (same_object x y) _ ha in
    let e : f ≡ from = grind (arith, nat_tests) in
    absurd (omega (arith, own.1, e))
joins_by true false old new x from end y f mid new_end ha hb hm hn lt = hn ∙ hm
joins_by false true old new x from end y f mid new_end ha hb hm hn lt =
    let own = begins_is x (from + 1) end y f hb in
    let in_it : begins_in x from end y f ≡ true = subst (λ (z : ObjName). begins_in x from end z f ≡ true) own.0
    (begins_own x from end f (omega (arith, own.1)) own.2) in
    hn ∙ ap (λ c. cond c None (end_at old y f)) (sym in_it)
joins_by false false old new x from end y f mid new_end ha hb hm hn lt =
    hn ∙ hm ∙ ap (λ c. cond c None (end_at old y f)) (sym (out_by (begins_in x from end y f) refl))
  where
    out_by : (c : Bool) → begins_in x from end y f ≡ c → c ≡ false
    out_by false h = refl
    out_by true h =
        let own = begins_is x from end y f h in
        at_or (f == from) refl own
      where
        at_or : (d : Bool) → (f == from) ≡ d → (x ≡ y) × (from ≤ f) × (f ≤ end) → true ≡ false
        at_or true hd own =
            let same : same_object x y ≡ true = subst (λ (z : ObjName). same_object x z ≡ true) own.0 (same_object_refl x) in
            let both : (same_object x y && (f == from)) ≡ true = ap (λ p. p && (f == from)) same ∙ hd in
            absurd (cc)
        at_or false hd own =
            let ne : f ≢ from = grind (arith, nat_tests) in
            let later : begins_in x (from + 1) end y f ≡ true = subst (λ (z : ObjName). begins_in x (from + 1) end z f ≡ true) own.0
            (begins_own x (from + 1) end f (omega (arith, own.1, ne)) own.2) in
            absurd (cc)

key_is : (x : ObjName) (from : ℕ) (y : ObjName) (f : ℕ) → is_eq (start_cmp (x, from) (y, f)) ≡ (same_object x y && (f == from))
key_is x from y f = both_ways _ _ there back
  where
    there : is_eq (start_cmp (x, from) (y, f)) ≡ true → (same_object x y && (f == from)) ≡ true
    there h =
        let key : (x, from) ≡ (y, f) = start_exact (x, from) (y, f) (is_equal _ h) in
        subst (λ (k : ObjName × ℕ). (same_object x k.0 && (k.1 == from)) ≡ true) key (grind (arith, nat_tests, same_object_refl))

    back : (same_object x y && (f == from)) ≡ true → is_eq (start_cmp (x, from) (y, f)) ≡ true
    back h =
        let own = same_object_is x y (and_left _ _ h) in
        let at : (f == from) ≡ true = and_right (same_object x y) _ h in
        let e : from ≡ f = grind (arith, nat_tests) in
        subst (λ (k : ObjName × ℕ). is_eq (start_cmp (x, from) k) ≡ true) (λ j. (own j, e j)) (ap is_eq (tied_itself start_total (x, from)))

pub joins : (old mid new : BTreeMap (ObjName × ℕ) ℕ) (x : ObjName) (from end : ℕ) →
    ((q : ObjName × ℕ) → get start_cmp mid q ≡ cond (is_eq (start_cmp (x, from) q)) (Some end) (get start_cmp old q)) → Without mid new x (from + 1) end →
    from < end → Joins old new x from end
joins old mid new x from end put taken lt y f =
    joins_by _ _ old new x from end y f (end_at mid y f) (end_at new y f) refl refl
    (put (y, f) ∙ ap (λ c. cond c (Some end) (end_at old y f)) (key_is x from y f)) (taken y f) lt
