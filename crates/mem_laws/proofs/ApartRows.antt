-- Rows that stand apart, and more such rows.
use Rattle.std.proofs.Common.{◌≡◌, ℕ, ◌+◌, ◌<◌, ◌≤◌, ◌⊎◌, inl, inr, Bool, true, false, List, [], ◌∷◌, Option, Some, None, is_some, cond, refl, sym, ap, ◌∙◌}
use Rattle.std.proofs.Common.{subst, arith}
use Rattle.std.proofs.lemmas.Bool.Decides.{nat_tests}
use Rattle.ub_base.specs.declared.names.ObjName.{ObjName}
use Rattle.ub_base.specs.Names.{same_object}
use Rattle.addr_map.specs.declared.map.Row.{Row}
use Rattle.addr_map.specs.Rows.{first_row, row_of, contains, is_past, name_of}
use Rattle.addr_map.specs.Sound.{Above, Apart, AllSized, EachFound, AreApart}
use Rattle.mem_laws.specs.MoreRows.{ApartExtend}

abbrev In : Row → List Row → Type 0
In r [] = ⊥
In r (s ∷ rs) = (r ≡ s) ⊎ In r rs

-- ---- what the first row that passes a test is
first_if : (b : Bool) (test : Row → Bool) (s : Row) (rs : List Row) (r : Row) → test s ≡ b → cond b (Some s) (first_row test rs) ≡ Some r →
    (first_row test rs ≡ Some r → In r rs × (test r ≡ true)) → In r (s ∷ rs) × (test r ≡ true)
first_if true test s rs r e h next =
    let same : s ≡ r = cc in
    (inl (sym same), subst (λ (x : Row). test x ≡ true) same e)
first_if false test s rs r e h next =
    let behind = next h in
    (inr behind.0, behind.1)

first_in : (test : Row → Bool) (rows : List Row) (r : Row) → first_row test rows ≡ Some r → In r rows × (test r ≡ true)
first_in test [] r h = absurd (cc)
first_in test (s ∷ rs) r h = first_if (test s) test s rs r refl h (first_in test rs r)

above_in : (n : ℕ) (rs : List Row) (r : Row) → Above n rs → In r rs → n ≤ r.base
above_in n [] r above is = absurd is
above_in n (s ∷ rs) r above (inl e) = subst (λ (x : Row). n ≤ x.base) (sym e) above.0
above_in n (s ∷ rs) r above (inr is) = above_in n rs r above.1 is

sized_in : (rs : List Row) (r : Row) → AllSized rs → In r rs → 0 < r.size
sized_in [] r sized is = absurd is
sized_in (s ∷ rs) r sized (inl e) = subst (λ (x : Row). 0 < x.size) (sym e) sized.0
sized_in (s ∷ rs) r sized (inr is) = sized_in rs r sized.1 is

named_in : (rows rs : List Row) (r : Row) → EachFound rows rs → In r rs → row_of rows r.name ≡ Some r
named_in rows [] r named is = absurd is
named_in rows (s ∷ rs) r named (inl e) = subst (λ (x : Row). row_of rows x.name ≡ Some x) (sym e) named.0
named_in rows (s ∷ rs) r named (inr is) = named_in rows rs r named.1 is

-- ---- a test that no two rows pass which stand apart
abbrev Excludes : (Row → Bool) → Type 0
Excludes test = (r s : Row) → r.base + r.size ≤ s.base → 0 < s.size → test r ≡ true → test s ≡ true → ⊥

took : (b : Bool) (s : Row) (o : Option Row) → b ≡ true → cond b (Some s) o ≡ Some s
took true s o e = refl
took false s o e = absurd (cc)

passed : (b : Bool) (s : Row) (o : Option Row) → (b ≡ true → ⊥) → cond b (Some s) o ≡ o
passed true s o h = absurd (h refl)
passed false s o h = refl

only : (test : Row → Bool) → Excludes test → (rows : List Row) (r : Row) → Apart rows → AllSized rows → In r rows → test r ≡ true →
    first_row test rows ≡ Some r
only test ex [] r apart sized is t = absurd is
only test ex (s ∷ rs) r apart sized (inl e) t =
    took (test s) s (first_row test rs) (subst (λ (x : Row). test x ≡ true) e t) ∙ ap (λ (x : Row). Some x) (sym e)
only test ex (s ∷ rs) r apart sized (inr is) t =
    passed (test s) s (first_row test rs) (λ on. ex s r (above_in (s.base + s.size) rs r apart.0 is) (sized_in rs r sized.1 is) on t)
    ∙ only test ex rs r apart.1 sized.1 is t

one_contains : (a : ℕ) → Excludes (λ r. contains r a)
one_contains a r s lt some on also = grind (arith, nat_tests)

one_past : (a : ℕ) → Excludes (λ r. is_past r a)
one_past a r s lt some on also = grind (arith, nat_tests)

-- ---- what is found among the fewer and among more
name_some : (o : Option Row) (x : ObjName) → name_of o ≡ Some x → (r : Row) × (o ≡ Some r) × (r.name ≡ x)
name_some None x h = absurd (cc)
name_some (Some r) x h = (r, refl, cc)

some_of : (o : Option Row) → is_some o ≡ true → (r : Row) × (o ≡ Some r)
some_of None h = absurd (cc)
some_of (Some r) h = (r, refl)

same_of : (r s : Row) → Some r ≡ Some s → r ≡ s
same_of r s e = cc

module _ (few more : List Row) (less : AreApart few) (all : AreApart more) (sub : (x : ObjName) (r : Row) → row_of few x ≡ Some r → row_of more x ≡ Some r)
    (test : Row → Bool) (ex : Excludes test) where
  found : (x : ObjName) → name_of (first_row test few) ≡ Some x → name_of (first_row test more) ≡ Some x
  found x h =
      let r = name_some (first_row test few) x h in
      let here = first_in test few r.0 r.1 in
      let row : row_of more r.0.name ≡ Some r.0 = sub r.0.name r.0 (named_in few few r.0 less.named here.0) in
      let there = first_in (λ (s : Row). same_object s.name r.0.name) more r.0 row in
      ap name_of (only test ex more r.0 all.apart all.sized there.0 here.1) ∙ ap (λ (y : ObjName). Some y) r.2

  found_back : (x : ObjName) → is_some (row_of few x) ≡ true → name_of (first_row test more) ≡ Some x → name_of (first_row test few) ≡ Some x
  found_back x is h =
      let s = name_some (first_row test more) x h in
      let there = first_in test more s.0 s.1 in
      let r = some_of (row_of few x) is in
      let own : row_of more x ≡ Some s.0 = subst (λ (y : ObjName). row_of more y ≡ Some s.0) s.2 (named_in more more s.0 all.named there.0) in
      let same : r.0 ≡ s.0 = same_of r.0 s.0 (sym (sub x r.0 r.1) ∙ own) in
      let here = first_in (λ (t : Row). same_object t.name x) few r.0 r.1 in
      ap name_of (only test ex few r.0 less.apart less.sized here.0 (subst (λ (t : Row). test t ≡ true) (sym same) there.1))
      ∙ ap (λ (t : Row). Some t.name) same ∙ ap (λ (y : ObjName). Some y) s.2

pub apart_extend : ApartExtend
apart_extend few more less all sub = record {
  rows = sub;
  covering = λ a. found few more less all sub (λ r. contains r a) (one_contains a);
  covered = λ a. found_back few more less all sub (λ r. contains r a) (one_contains a);
  passing = λ a. found few more less all sub (λ r. is_past r a) (one_past a);
  passed = λ a. found_back few more less all sub (λ r. is_past r a) (one_past a);
}
