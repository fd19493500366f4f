-- The rows of a sound map stand apart, and each is the one of its name.
use Rattle.std.proofs.Common.{◌≡◌, ℕ, ◌+◌, ◌<◌, ◌≤◌, Bool, true, false, cond, refl, sym, ◌∙◌, subst, arith, List, [], ◌∷◌, Option, Some}
use Rattle.std.specs.BTreeMap.{BTreeMap}
use Rattle.ub_base.specs.declared.names.ObjName.{ObjName}
use Rattle.ub_base.specs.Names.{same_object}
use Rattle.ub_base.proofs.NameLemmas.{same_object_is, same_object_refl}
use Rattle.addr_map.specs.declared.map.Row.{Row}
use Rattle.addr_map.specs.Rows.{is_lawful, row_of}
use Rattle.addr_map.specs.Sound.{rows_in, Above, Apart, EachHeld, EachFound, AreApart, IsMap, IsSound}
use Rattle.addr_map.proofs.RowLists.{size_of_lawful}
use Rattle.addr_map.proofs.Last.{sized_of_held}

some_is : (a b : ℕ) → Some a ≡ Some b → a ≡ b
some_is a b h = cc

same_base : (bases : ObjName → Option ℕ) (r s : Row) → bases r.name ≡ Some r.base → bases s.name ≡ Some s.base →
    same_object r.name s.name ≡ true → r.base ≡ s.base
same_base bases r s one two same =
    some_is r.base s.base (sym one ∙ subst (λ (y : ObjName). bases y ≡ Some s.base) (sym (same_object_is r.name s.name same)) two)

-- rows whose bases differ have other names
other_if : (t : Bool) (bases : ObjName → Option ℕ) (r s : Row) → same_object r.name s.name ≡ t → bases r.name ≡ Some r.base →
    bases s.name ≡ Some s.base → r.base < s.base → t ≡ false
other_if true bases r s same one two lt = absurd (omega (arith, same_base bases r s one two same))
other_if false bases r s same one two lt = refl

behind : (base size next : ℕ) → 0 < size → base + size ≤ next → base < next
behind base size next some le = omega (arith)

found_behind : (bases : ObjName → Option ℕ) (r : Row) (all rs : List Row) → bases r.name ≡ Some r.base → 0 < r.size →
    Above (r.base + r.size) rs → EachHeld bases rs → EachFound all rs → EachFound (r ∷ all) rs
found_behind bases r all [] at some above held found = tt
found_behind bases r all (s ∷ rs) at some above held found = (
  rw (other_if (same_object r.name s.name) bases r s refl at held.0.0 (behind r.base r.size s.base some above.0)) found.0,
  found_behind bases r all rs at some above.1 held.1 found.1,
)

own_name : (r : Row) (rs : List Row) → row_of (r ∷ rs) r.name ≡ Some r
own_name r rs = rw (same_object_refl r.name) refl

each_found : (bases : ObjName → Option ℕ) (rs : List Row) → Apart rs → EachHeld bases rs → EachFound rs rs
each_found bases [] apart held = tt
each_found bases (r ∷ rs) apart held =
    (own_name r rs, found_behind bases r rs rs held.0.0 (size_of_lawful r held.0.1) apart.0 held.1 (each_found bases rs apart.1 held.1))

pub apart_rows : (rows : BTreeMap ℕ Row) (bases : ObjName → Option ℕ) (free : ℕ) → IsSound rows bases free → AreApart (rows_in rows.entries)
apart_rows rows bases free s = record {
  apart = s.apart;
  sized = sized_of_held bases (rows_in rows.entries) s.held;
  named = each_found bases (rows_in rows.entries) s.apart s.held;
}

-- each row that has a name keeps its own rules
lawful_if : (same : Bool) (s r : Row) (rest : Option Row) → is_lawful s ≡ true → (rest ≡ Some r → is_lawful r ≡ true) → cond same (Some s) rest ≡ Some r →
    is_lawful r ≡ true
lawful_if true s r rest own below at = let same : s ≡ r = cc (at) in subst (λ (z : Row). is_lawful z ≡ true) same own
lawful_if false s r rest own below at = below at

lawful_of_held : (bases : ObjName → Option ℕ) (rs : List Row) → EachHeld bases rs → (x : ObjName) (r : Row) → row_of rs x ≡ Some r → is_lawful r ≡ true
lawful_of_held bases [] held x r at = absurd (cc (at))
lawful_of_held bases (s ∷ rs) held x r at =
    lawful_if (same_object s.name x) s r (row_of rs x) held.0.1 (lawful_of_held bases rs held.1 x r) at

pub is_map : (rows : BTreeMap ℕ Row) (bases : ObjName → Option ℕ) (free : ℕ) → IsSound rows bases free → IsMap (rows_in rows.entries)
is_map rows bases free s = record { apart = apart_rows rows bases free s; lawful = lawful_of_held bases (rows_in rows.entries) s.held }
