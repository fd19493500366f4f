-- Provenances by their numbers.
use Rattle.std.proofs.Common.{
  ◌≡◌,
  ℕ,
  zero,
  suc,
  ◌+◌,
  ◌-◌,
  ◌<◌,
  ◌≤◌,
  Bool,
  true,
  false,
  ◌&&◌,
  cond,
  refl,
  sym,
  ap,
  ◌∙◌,
  subst,
  arith,
  List,
  [],
  ◌∷◌,
  ◌++◌,
  length,
  take,
  length-append,
  Option,
  Some,
  None,
}
use Rattle.std.specs.Prelude.{IfSome, is_some, slice_index_or}
use Rattle.std.specs.declared.cmp.Ordering.{Ordering}
use Rattle.std.specs.declared.cmp.Ordering.TheVariants.{Less, Equal, Greater}
use Rattle.std.specs.Ordering.{is_eq, ordering_then}
use Rattle.std.specs.BTreeMap.{BTreeMap, get, is_at}
use Rattle.std.specs.Map.{lookup}
use Rattle.ub_base.specs.declared.names.ObjName.{ObjName}
use Rattle.ub_base.specs.Names.{same_event, same_object}
use Rattle.ub_base.proofs.NameLemmas.{tie_event, tie_object, same_event_is, same_event_refl, same_object_is, same_object_refl}
use Rattle.exposure.specs.declared.prov.Prov.{Prov}
use Rattle.exposure.specs.declared.prov.Prov.TheVariants.{Empty, Whole, Either}
use Rattle.mem_spec.specs.Acts.{same_prov}
use Rattle.mem_objects.specs.Cells.{prov_numbered}
use Rattle.mem_objects.specs.Made.{prov_cmp, is_ambiguous, HasNumber, AreNumbered, Extends}

-- ---- two provenances tie in their order exactly where they are one
eq_then : (o p : Ordering) → is_eq (ordering_then o p) ≡ is_eq o && is_eq p
eq_then Less p = refl
eq_then Equal p = refl
eq_then Greater p = refl

ties : (o p : Ordering) (b c : Bool) → is_eq o ≡ b → is_eq p ≡ c → is_eq (ordering_then o p) ≡ b && c
ties o p b c e f = rw (eq_then, e, f)

tie_prov : (p q : Prov) → is_eq (prov_cmp p q) ≡ same_prov p q
tie_prov Empty Empty = refl
tie_prov (Whole x) (Whole y) = tie_object x y
tie_prov (Either d x y) (Either e z w) = ties _ _ _ _ (tie_event d e) (ties _ _ _ _ (tie_object x z) (tie_object y w))
tie_prov _ _ = refl

both : (a b : Bool) → (a && b) ≡ true → (a ≡ true) × (b ≡ true)
both true b h = (refl, h)
both false b h = absurd (cc)

pub same_prov_is : (p q : Prov) → same_prov p q ≡ true → p ≡ q
same_prov_is Empty Empty h = refl
same_prov_is (Whole x) (Whole y) h = ap Whole (same_object_is x y h)
same_prov_is (Either d x y) (Either e z w) h =
    let ids = both (same_event d e) (same_object x z && same_object y w) h in
    let names = both (same_object x z) (same_object y w) ids.1 in
    let i = same_event_is d e ids.0 in
    let a = same_object_is x z names.0 in
    let b = same_object_is y w names.1 in
    λ k. Either (i k) (a k) (b k)
same_prov_is _ _ h = absurd (cc)

pub same_prov_refl : (p : Prov) → same_prov p p ≡ true
same_prov_refl Empty = refl
same_prov_refl (Whole x) = same_object_refl x
same_prov_refl (Either d x y) = rw (same_event_refl d, same_object_refl x, same_object_refl y) refl

-- ---- numbers
nth_more : (ps more : List Prov) (n : ℕ) → n < length ps → slice_index_or (ps ++ more) n Empty ≡ slice_index_or ps n Empty
nth_more [] more n e = absurd (omega arith)
nth_more (q ∷ ps) more zero e = refl
nth_more (q ∷ ps) more (suc n) e = nth_more ps more n (omega arith)

pub prov_more : (ps more : List Prov) (n : ℕ) → n ≤ length ps → prov_numbered (ps ++ more) n ≡ prov_numbered ps n
prov_more ps more zero e = refl
prov_more ps more (suc n) e = nth_more ps more n (omega arith)

nth_last : (ps : List Prov) (p : Prov) → slice_index_or (ps ++ p ∷ []) (length ps) Empty ≡ p
nth_last [] p = refl
nth_last (q ∷ ps) p = nth_last ps p

pub prov_last : (ps : List Prov) (p : Prov) (n : ℕ) → n ≡ length ps + 1 → prov_numbered (ps ++ p ∷ []) n ≡ p
prov_last ps p zero e = absurd (omega arith)
prov_last ps p (suc n) e = subst (λ (k : ℕ). slice_index_or (ps ++ p ∷ []) k Empty ≡ p) (omega arith) (nth_last ps p)

-- a provenance that isn't the empty one keeps its number
nth_stays : (t : Bool) (ps more : List Prov) (n : ℕ) (p : Prov) → same_prov p Empty ≡ false → slice_index_or ps n Empty ≡ p →
    slice_index_or (ps ++ more) n Empty ≡ p
nth_stays t [] more n p some e = absurd (clash (subst (λ (q : Prov). same_prov q Empty ≡ false) (sym e) some))
  where
    clash : true ≡ false → ⊥
    clash h = cc
nth_stays t (q ∷ ps) more zero p some e = e
nth_stays t (q ∷ ps) more (suc n) p some e = nth_stays t ps more n p some e

empty_clash : same_prov Empty Empty ≡ false → ⊥
empty_clash h = cc

pub number_stays : (ps more : List Prov) (n : ℕ) (p : Prov) → same_prov p Empty ≡ false → prov_numbered ps n ≡ p → prov_numbered (ps ++ more) n ≡ p
number_stays ps more zero p some e = absurd (empty_clash (subst (λ (q : Prov). same_prov q Empty ≡ false) (sym e) some))
number_stays ps more (suc n) p some e = nth_stays true ps more n p some e

pub has_number_more : (ps qs : List Prov) (p : Prov) → same_prov p Empty ≡ false → Extends ps qs → HasNumber ps p → HasNumber qs p
has_number_more ps qs p some more has = subst (λ (l : List Prov). HasNumber l p) (sym more.1) (has.0, number_stays ps more.0 has.0 p some has.1)

-- ---- the numbers of ambiguities
pub numbered_some : (numbers : BTreeMap Prov ℕ) (ps : List Prov) (p : Prov) (r : Option ℕ) → AreNumbered numbers ps → get prov_cmp numbers p ≡ r →
    IfSome r (λ n. prov_numbered ps n ≡ p)
numbered_some numbers ps p None s e = tt
numbered_some numbers ps p (Some n) s e = s.there p n e

pub numbered_same : (old new : BTreeMap Prov ℕ) (ps : List Prov) → new.entries ≡ old.entries → AreNumbered old ps → AreNumbered new ps
numbered_same old new ps e s = record {
  there = λ p n g. s.there p n (sym (same_get p) ∙ g);
  only = λ p n g. s.only p n (sym (same_get p) ∙ g);
  found = λ p amb has. ap is_some (same_get p) ∙ s.found p amb has;
}
  where
    same_get : (p : Prov) → get prov_cmp new p ≡ get prov_cmp old p
    same_get p = ap (λ (es : List (Prov × ℕ)). lookup (is_at (prov_cmp p)) es) e

ambiguous_some : (p : Prov) → is_ambiguous p ≡ true → same_prov p Empty ≡ false
ambiguous_some Empty amb = absurd (cc)
ambiguous_some (Whole x) amb = absurd (cc)
ambiguous_some (Either id past start) amb = refl

-- what isn't the last of the list is there before it
nth_before : (ps : List Prov) (q p : Prov) (n : ℕ) → same_prov p Empty ≡ false → same_prov q p ≡ false → slice_index_or (ps ++ q ∷ []) n Empty ≡ p →
    slice_index_or ps n Empty ≡ p
nth_before [] q p zero some other e = absurd (clash (subst (λ (r : Prov). same_prov q r ≡ false) (sym e) other) (same_prov_refl q))
  where
    clash : same_prov q q ≡ false → same_prov q q ≡ true → ⊥
    clash f t = cc
nth_before [] q p (suc n) some other e = e
nth_before (r ∷ ps) q p zero some other e = e
nth_before (r ∷ ps) q p (suc n) some other e = nth_before ps q p n some other e

before : (ps : List Prov) (q p : Prov) (n : ℕ) → same_prov p Empty ≡ false → same_prov q p ≡ false → prov_numbered (ps ++ q ∷ []) n ≡ p →
    prov_numbered ps n ≡ p
before ps q p zero some other e = e
before ps q p (suc n) some other e = nth_before ps q p n some other e

-- a new object's provenance at the end
whole_other : (x : ObjName) (p : Prov) → is_ambiguous p ≡ true → same_prov (Whole x) p ≡ false
whole_other x Empty amb = absurd (cc)
whole_other x (Whole y) amb = absurd (cc)
whole_other x (Either id past start) amb = refl

pub numbered_object : (numbers : BTreeMap Prov ℕ) (ps : List Prov) (x : ObjName) → AreNumbered numbers ps → AreNumbered numbers (ps ++ Whole x ∷ [])
numbered_object numbers ps x s = record {
  there = λ p n e. number_stays ps (Whole x ∷ []) n p (ambiguous_some p (s.only p n e)) (s.there p n e);
  only = s.only;
  found = λ p amb has. s.found p amb (has.0, before ps (Whole x) p has.0 (ambiguous_some p amb) (whole_other x p amb) has.1);
}

pub numbered_dropped : (numbers : BTreeMap Prov ℕ) (ps : List Prov) (x : ObjName) → AreNumbered numbers (ps ++ Whole x ∷ []) → AreNumbered numbers ps
numbered_dropped numbers ps x s = record {
  there = λ p n e. before ps (Whole x) p n (ambiguous_some p (s.only p n e)) (whole_other x p (s.only p n e)) (s.there p n e);
  only = s.only;
  found = λ p amb has. s.found p amb (has.0, number_stays ps (Whole x ∷ []) has.0 p (ambiguous_some p amb) has.1);
}

taken_before : (ps : List Prov) (p : Prov) → take (length ps) (ps ++ p ∷ []) ≡ ps
taken_before [] p = refl
taken_before (q ∷ ps) p = ap (λ (l : List Prov). q ∷ l) (taken_before ps p)

pub last_dropped : (ps left olds : List Prov) (p : Prov) (n : ℕ) → olds ≡ ps ++ p ∷ [] → n ≡ length olds → left ≡ take (n - 1) olds → left ≡ ps
last_dropped ps left olds p n is count taken =
    let one : length (ps ++ p ∷ []) ≡ length ps + 1 = length-append ps (p ∷ []) in
    let before_it : n - 1 ≡ length ps = omega (arith, count, ap length is, one) in
    taken ∙ ap (λ (k : ℕ). take k olds) before_it ∙ ap (λ (l : List Prov). take (length ps) l) is ∙ taken_before ps p

-- a new ambiguity at the end
some_is : (a b : ℕ) → Some a ≡ Some b → a ≡ b
some_is a b h = cc

there_split : (b : Bool) (ps : List Prov) (p q : Prov) (n m : ℕ) (rest : Option ℕ) → same_prov p q ≡ b → n ≡ length ps + 1 → cond b (Some n) rest ≡ Some m →
    (rest ≡ Some m → same_prov q Empty ≡ false) → (rest ≡ Some m → prov_numbered ps m ≡ q) → prov_numbered (ps ++ p ∷ []) m ≡ q
there_split true ps p q n m rest same at e some old = prov_last ps p m (sym (some_is n m e) ∙ at) ∙ same_prov_is p q same
there_split false ps p q n m rest same at e some old = number_stays ps (p ∷ []) m q (some e) (old e)

only_split : (b : Bool) (p q : Prov) (n m : ℕ) (rest : Option ℕ) → same_prov p q ≡ b → is_ambiguous p ≡ true → cond b (Some n) rest ≡ Some m →
    (rest ≡ Some m → is_ambiguous q ≡ true) → is_ambiguous q ≡ true
only_split true p q n m rest same amb e old = subst (λ (r : Prov). is_ambiguous r ≡ true) (same_prov_is p q same) amb
only_split false p q n m rest same amb e old = old e

found_split : (b : Bool) (n : ℕ) (rest : Option ℕ) → (b ≡ false → is_some rest ≡ true) → is_some (cond b (Some n) rest) ≡ true
found_split true n rest old = refl
found_split false n rest old = old refl

pub numbered_ambiguity : (old new : BTreeMap Prov ℕ) (ps : List Prov) (p : Prov) (n : ℕ) → is_ambiguous p ≡ true → n ≡ length ps + 1 →
    ((q : Prov) → get prov_cmp new q ≡ cond (is_at (prov_cmp p) q) (Some n) (get prov_cmp old q)) → AreNumbered old ps → AreNumbered new (ps ++ p ∷ [])
numbered_ambiguity old new ps p n amb at puts s =
    let here : (q : Prov) → get prov_cmp new q ≡ cond (same_prov p q) (Some n) (get prov_cmp old q) = λ q.
    puts q ∙ ap (λ (b : Bool). cond b (Some n) (get prov_cmp old q)) (tie_prov p q) in
    record {
      there = λ q m e. there_split (same_prov p q) ps p q n m (get prov_cmp old q) refl at (sym (here q) ∙ e) (λ h. ambiguous_some q (s.only q m h))
          (s.there q m);
      only = λ q m e. only_split (same_prov p q) p q n m (get prov_cmp old q) refl amb (sym (here q) ∙ e) (s.only q m);
      found = λ q amb' has. ap is_some (here q) ∙ found_split (same_prov p q) n (get prov_cmp old q)
          (λ other. s.found q amb' (has.0, before ps p q has.0 (ambiguous_some q amb') other has.1));
    }

pub extends_none : (ps : List Prov) → Extends ps ps
extends_none ps = ([], sym (append_none ps))
  where
    append_none : (qs : List Prov) → qs ++ [] ≡ qs
    append_none [] = refl
    append_none (q ∷ qs) = ap (λ (rs : List Prov). q ∷ rs) (append_none qs)
