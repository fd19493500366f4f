-- How the store of a memory changes with its objects.
use Rattle.std.proofs.Common.{
  max,
  ◌≡◌,
  ℕ,
  zero,
  suc,
  ◌+◌,
  ◌≤◌,
  Bool,
  true,
  false,
  cond,
  refl,
  sym,
  ap,
  ◌∙◌,
  subst,
  arith,
  List,
  [],
  ◌∷◌,
  ◌++◌,
  get_or,
  set,
  map,
  Option,
  Some,
  None,
}
use Rattle.std.specs.Prelude.{nat_lt, is_some, option_map}
use Rattle.ub_base.specs.declared.names.Item.TheVariants.{Expose}
use Rattle.ub_base.specs.declared.names.ObjName.{ObjName}
use Rattle.ub_base.specs.Names.{same_object}
use Rattle.ub_base.proofs.NameLemmas.{same_object_is}
use Rattle.addr_map.specs.declared.map.Row.{Row}
use Rattle.addr_map.specs.Rows.{row_of, first_row, insert_row, free_of, row_at}
use Rattle.exposure.specs.declared.prov.Prov.{Prov}
use Rattle.exposure.specs.Cells.{kept_in}
use Rattle.c_types.specs.declared.ty.Ty.{Ty}
use Rattle.mem_spec.specs.Store.{Store, fresh, dead, buried, shown}
use Rattle.mem_spec.specs.Script.{Done, run, touched}
use Rattle.mem_spec.specs.Acts.{show_each}
use Rattle.mem_spec.specs.Streams.{Io}
use Rattle.mem_objects.specs.Held.{Held, held_of, changed, emptied, killed, uncovered}
use Rattle.mem_objects.specs.Memory.{Kept, store_of, life_in, is_shown, tagged_in_object, IsRowOf, HaveRows, uncovered_each}

-- a change that keeps names
abbrev pub KeepsNames : (Held → Held) → Type 0
KeepsNames f = (h : Held) → (f h).name ≡ h.name

same_name : (f : Held → Held) (h : Held) (y : ObjName) → (f h).name ≡ h.name → same_object (f h).name y ≡ same_object h.name y
same_name f h y e = ap (λ (x : ObjName). same_object x y) e

same_split : (b : Bool) (f : Held → Held) (h : Held) (x : ObjName) (rest rest' : Option Held) → b ≡ same_object h.name x →
    (f h).name ≡ h.name → rest ≡ option_map f rest' → cond (same_object (cond b (f h) h).name x) (Some (cond b (f h) h)) rest ≡ option_map f
    (cond b (Some h) rest')
same_split true f h x rest rest' e names next = rw (same_name f h x names, ← e) refl
same_split false f h x rest rest' e names next = rw (← e) next

pub held_same : (f : Held → Held) (hs : List Held) (x : ObjName) → KeepsNames f → held_of (changed f x hs) x ≡ option_map f (held_of hs x)
held_same f [] x names = refl
held_same f (h ∷ hs) x names = same_split (same_object h.name x) f h x (held_of (changed f x hs) x) (held_of hs x) refl (names h) (held_same f hs x names)

apart : (x y z : ObjName) → same_object z x ≡ true → same_object x y ≡ false → same_object z y ≡ false
apart x y z e other = subst (λ (w : ObjName). same_object w y ≡ false) (sym (same_object_is z x e)) other

other_split : (b : Bool) (f : Held → Held) (h : Held) (x y : ObjName) (rest rest' : Option Held) → b ≡ same_object h.name x →
    (f h).name ≡ h.name → same_object x y ≡ false → rest ≡ rest' → cond (same_object (cond b (f h) h).name y) (Some (cond b (f h) h)) rest ≡ cond
    (same_object h.name y) (Some h) rest'
other_split true f h x y rest rest' e names other next = rw (same_name f h y names, apart x y h.name (sym e) other) next
other_split false f h x y rest rest' e names other next = ap (λ (o : Option Held). cond (same_object h.name y) (Some h) o) next

pub held_other : (f : Held → Held) (hs : List Held) (x y : ObjName) → KeepsNames f → same_object x y ≡ false → held_of (changed f x hs) y ≡ held_of hs y
held_other f [] x y names other = refl
held_other f (h ∷ hs) x y names other = other_split (same_object h.name x) f h x y (held_of (changed f x hs) y) (held_of hs y) refl (names h) other
    (held_other f hs x y names other)

part_split : {A : Type 0} (s : Bool) (part g : Option Held → A) (f : Held → Held) (hs : List Held) (x y : ObjName) → KeepsNames f →
    ((o : Option Held) → part (option_map f o) ≡ g o) → same_object x y ≡ s →
    part (held_of (changed f x hs) y) ≡ cond s (g (held_of hs x)) (part (held_of hs y))
part_split {A} true part g f hs x y names gives e =
    subst (λ (z : ObjName). part (held_of (changed f x hs) z) ≡ g (held_of hs x)) (same_object_is x y e)
    (ap part (held_same f hs x names) ∙ gives (held_of hs x))
part_split false part g f hs x y names gives e = ap part (held_other f hs x y names e)

-- what a change makes of a part of each object
pub part_changed : {A : Type 0} (part g : Option Held → A) (f : Held → Held) (hs : List Held) (x y : ObjName) → KeepsNames f →
    ((o : Option Held) → part (option_map f o) ≡ g o) → part (held_of (changed f x hs) y) ≡ cond (same_object x y) (g (held_of hs x)) (part (held_of hs y))
part_changed part g f hs x y names gives = part_split (same_object x y) part g f hs x y names gives refl

kept_split : {A : Type 0} (s : Bool) (part : Option Held → A) (f : Held → Held) (hs : List Held) (x y : ObjName) → KeepsNames f →
    ((o : Option Held) → part (option_map f o) ≡ part o) → same_object x y ≡ s → part (held_of (changed f x hs) y) ≡ part (held_of hs y)
kept_split true part f hs x y names keeps e =
    subst (λ (z : ObjName). part (held_of (changed f x hs) z) ≡ part (held_of hs z)) (same_object_is x y e)
    (ap part (held_same f hs x names) ∙ keeps (held_of hs x))
kept_split false part f hs x y names keeps e = ap part (held_other f hs x y names e)

pub part_kept : {A : Type 0} (part : Option Held → A) (f : Held → Held) (hs : List Held) (x y : ObjName) → KeepsNames f →
    ((o : Option Held) → part (option_map f o) ≡ part o) → part (held_of (changed f x hs) y) ≡ part (held_of hs y)
part_kept part f hs x y names keeps = kept_split (same_object x y) part f hs x y names keeps refl

-- ---- death
life_killed : (o : Option Held) → life_in (option_map killed o) ≡ dead (life_in o)
life_killed None = refl
life_killed (Some h) = refl

shown_killed : (o : Option Held) → is_shown (option_map killed o) ≡ is_shown o
shown_killed None = refl
shown_killed (Some h) = refl

bytes_killed : (ps : List Prov) (ts : List Ty) (at : ℕ) (o : Option Held) → tagged_in_object ps ts (option_map killed o) at ≡ fresh
bytes_killed ps ts at None = refl
bytes_killed ps ts at (Some h) = refl

pub buried_is : (m : Kept) (x : ObjName) (io : Io) → store_of (record m { objects = changed killed x m.objects }) io ≡ buried (store_of m io) x
buried_is m x io = λ i. record {
  life = λ y. part_changed life_in (λ o. dead (life_in o)) killed m.objects x y (λ h. refl) life_killed i;
  exposed = λ y. part_kept is_shown killed m.objects x y (λ h. refl) shown_killed i;
  bytes = λ y at. part_changed (λ o. tagged_in_object m.origins m.types o at) (λ o. fresh) killed m.objects x y (λ h. refl)
      (bytes_killed m.origins m.types at) i;
  kept = λ e. kept_in m.cells e;
  input = io.input;
  position = io.position;
  output = io.output;
  created = m.created;
}

-- ---- exposure
life_uncovered : (o : Option Held) → life_in (option_map uncovered o) ≡ life_in o
life_uncovered None = refl
life_uncovered (Some h) = refl

shown_uncovered : (o : Option Held) → is_shown (option_map uncovered o) ≡ is_some (life_in o)
shown_uncovered None = refl
shown_uncovered (Some h) = refl

bytes_uncovered : (ps : List Prov) (ts : List Ty) (at : ℕ) (o : Option Held) → tagged_in_object ps ts (option_map uncovered o) at ≡ tagged_in_object ps ts o at
bytes_uncovered ps ts at None = refl
bytes_uncovered ps ts at (Some h) = refl

pub shown_is : (m : Kept) (x : ObjName) (io : Io) → store_of (record m { objects = changed uncovered x m.objects }) io ≡ shown (store_of m io) x
shown_is m x io = λ i. record {
  life = λ y. part_kept life_in uncovered m.objects x y (λ h. refl) life_uncovered i;
  exposed = λ y. part_changed is_shown (λ o. is_some (life_in o)) uncovered m.objects x y (λ h. refl) shown_uncovered i;
  bytes = λ y at. part_kept (λ o. tagged_in_object m.origins m.types o at) uncovered m.objects x y (λ h. refl) (bytes_uncovered m.origins m.types at) i;
  kept = λ e. kept_in m.cells e;
  input = io.input;
  position = io.position;
  output = io.output;
  created = m.created;
}

pub shows_each : (rows : List Row) (m : Kept) (xs : List ObjName) (io : Io) →
    run rows (show_each xs) (store_of m io) ≡ Done tt (map Expose xs) (store_of (record m { objects = uncovered_each xs m.objects }) io)
shows_each rows m [] io = refl
shows_each rows m (x ∷ xs) io =
    ap (λ (s : Store). touched (Expose x) (run rows (show_each xs) s)) (sym (shown_is m x io)) ∙ ap (touched (Expose x))
    (shows_each rows (record m { objects = changed uncovered x m.objects }) xs io)

-- ---- the rows of objects stay
row_keeps : (o : Option Row) (h g : Held) → g.base ≡ h.base → g.size ≡ h.size → IsRowOf o h → IsRowOf o g
row_keeps None h g base size is = is
row_keeps (Some r) h g base size is = (is.0 ∙ sym base, is.1 ∙ sym size)

row_split : (b : Bool) (rows : List Row) (f : Held → Held) (h : Held) →
    ((h : Held) → IsRowOf (row_of rows h.name) h → IsRowOf (row_of rows (f h).name) (f h)) → IsRowOf (row_of rows h.name) h →
    IsRowOf (row_of rows (cond b (f h) h).name) (cond b (f h) h)
row_split true rows f h keeps is = keeps h is
row_split false rows f h keeps is = is

pub rows_changed : (rows : List Row) (f : Held → Held) (x : ObjName) (hs : List Held) →
    ((h : Held) → IsRowOf (row_of rows h.name) h → IsRowOf (row_of rows (f h).name) (f h)) → HaveRows rows hs → HaveRows rows (changed f x hs)
rows_changed rows f x [] keeps have = tt
rows_changed rows f x (h ∷ hs) keeps have = (row_split (same_object h.name x) rows f h keeps have.0, rows_changed rows f x hs keeps have.1)

pub rows_killed : (rows : List Row) (x : ObjName) (hs : List Held) → HaveRows rows hs → HaveRows rows (changed killed x hs)
rows_killed rows x hs have = rows_changed rows killed x hs (λ h is. row_keeps (row_of rows h.name) h (killed h) refl refl is) have

pub rows_emptied : (rows : List Row) (x : ObjName) (hs : List Held) → HaveRows rows hs → HaveRows rows (changed emptied x hs)
rows_emptied rows x hs have = rows_changed rows emptied x hs (λ h is. row_keeps (row_of rows h.name) h (emptied h) refl refl is) have

pub rows_uncovered : (rows : List Row) (x : ObjName) (hs : List Held) → HaveRows rows hs → HaveRows rows (changed uncovered x hs)
rows_uncovered rows x hs have = rows_changed rows uncovered x hs (λ h is. row_keeps (row_of rows h.name) h (uncovered h) refl refl is) have

pub rows_set : (rows : List Row) (hs : List Held) (k : ℕ) (d new : Held) → new ≡ record d { cells = new.cells } → d ≡ get_or hs k d → HaveRows rows hs →
    HaveRows rows (set hs k new)
rows_set rows [] k d new e at have = tt
rows_set rows (h ∷ hs) zero d new e at have =
    let name : h.name ≡ new.name = sym (ap (λ (g : Held). g.name) e ∙ ap (λ (g : Held). g.name) at) in
    let base : new.base ≡ h.base = ap (λ (g : Held). g.base) e ∙ ap (λ (g : Held). g.base) at in
    let size : new.size ≡ h.size = ap (λ (g : Held). g.size) e ∙ ap (λ (g : Held). g.size) at in
    (subst (λ (x : ObjName). IsRowOf (row_of rows x) new) name (row_keeps (row_of rows h.name) h new base size have.0), have.1)
rows_set rows (h ∷ hs) (suc k) d new e at have = (have.0, rows_set rows hs k d new e at have.1)

-- ---- a new row
inserted_split : (t : Bool) (test : Row → Bool) (r s : Row) (rs : List Row) → test r ≡ false → first_row test (insert_row r rs) ≡ first_row test rs →
    first_row test (cond t (r ∷ s ∷ rs) (s ∷ insert_row r rs)) ≡ first_row test (s ∷ rs)
inserted_split true test r s rs e next = rw e refl
inserted_split false test r s rs e next = ap (λ (o : Option Row). cond (test s) (Some s) o) next

pub inserted_other : (test : Row → Bool) (r : Row) (rs : List Row) → test r ≡ false → first_row test (insert_row r rs) ≡ first_row test rs
inserted_other test r [] e = rw e refl
inserted_other test r (s ∷ rs) e = inserted_split (nat_lt r.base s.base) test r s rs e (inserted_other test r rs e)

inserted_same_split : (t : Bool) (test : Row → Bool) (r s : Row) (rs : List Row) → test r ≡ true → test s ≡ false →
    first_row test (insert_row r rs) ≡ Some r → first_row test (cond t (r ∷ s ∷ rs) (s ∷ insert_row r rs)) ≡ Some r
inserted_same_split true test r s rs e f next = rw e refl
inserted_same_split false test r s rs e f next = rw f next

row_parts : (b : Bool) (s : Row) (rest : Option Row) → cond b (Some s) rest ≡ None → (b ≡ false) × (rest ≡ None)
row_parts true s rest e = absurd (cc)
row_parts false s rest e = (refl, e)

pub inserted_same : (test : Row → Bool) (r : Row) (rs : List Row) → test r ≡ true → first_row test rs ≡ None → first_row test (insert_row r rs) ≡ Some r
inserted_same test r [] e none = rw e refl
inserted_same test r (s ∷ rs) e none =
    let parts = row_parts (test s) s (first_row test rs) none in
    inserted_same_split (nat_lt r.base s.base) test r s rs e parts.0 (inserted_same test r rs e parts.1)

unnamed : (t : Bool) (rows : List Row) (r : Row) (h : Held) → same_object r.name h.name ≡ t → row_of rows r.name ≡ None → IsRowOf (row_of rows h.name) h →
    t ≡ false
unnamed true rows r h same none is =
    absurd (subst (λ (o : Option Row). IsRowOf o h) (subst (λ (x : ObjName). row_of rows x ≡ None) (same_object_is r.name h.name same) none) is)
unnamed false rows r h same none is = refl

pub rows_inserted : (rows : List Row) (r : Row) (hs : List Held) → row_of rows r.name ≡ None → HaveRows rows hs → HaveRows (insert_row r rows) hs
rows_inserted rows r [] none have = tt
rows_inserted rows r (h ∷ hs) none have = (
  subst (λ (o : Option Row). IsRowOf o h)
      (sym (inserted_other (λ s. same_object s.name h.name) r rows (unnamed (same_object r.name h.name) rows r h refl none have.0))) have.0,
  rows_inserted rows r hs none have.1,
)

row_is : (a b : Row) → Some a ≡ Some b → a ≡ b
row_is a b h = cc

end_split : (t : Bool) (r s : Row) (rest : Option Row) (n : ℕ) → cond t (Some s) rest ≡ Some r →
    (rest ≡ Some r → r.base + r.size ≤ n) → r.base + r.size ≤ max (s.base + s.size) n
end_split true r s rest n e next =
    let is : s ≡ r = row_is s r e in
    let base : s.base ≡ r.base = ap (λ (q : Row). q.base) is in
    let size : s.size ≡ r.size = ap (λ (q : Row). q.size) is in
    omega (arith, base, size)
end_split false r s rest n e next = omega (arith, next e)

pub end_of_row : (test : Row → Bool) (r : Row) (rows : List Row) → first_row test rows ≡ Some r → r.base + r.size ≤ free_of rows
end_of_row test r [] e = absurd (cc)
end_of_row test r (s ∷ rs) e = end_split (test s) r s (first_row test rs) (free_of rs) e (end_of_row test r rs)

test_split : (t : Bool) (test : Row → Bool) (r s : Row) (rest : Option Row) → test s ≡ t → cond t (Some s) rest ≡ Some r →
    (rest ≡ Some r → test r ≡ true) → test r ≡ true
test_split true test r s rest same e next = subst (λ (q : Row). test q ≡ true) (row_is s r e) same
test_split false test r s rest same e next = next e

pub passes_row : (test : Row → Bool) (r : Row) (rows : List Row) → first_row test rows ≡ Some r → test r ≡ true
passes_row test r [] e = absurd (cc)
passes_row test r (s ∷ rs) e = test_split (test s) test r s (first_row test rs) refl e (passes_row test r rs)

pub row_has_name : (rows : List Row) (x : ObjName) (r : Row) → row_of rows x ≡ Some r → r.name ≡ x
row_has_name rows x r e = same_object_is r.name x (passes_row (λ s. same_object s.name x) r rows e)

pub row_as : (rows : List Row) (x : ObjName) (r : Row) (size align : ℕ) → row_of rows x ≡ Some r → r.size ≡ size → r.align ≡ align →
    row_of rows x ≡ Some (row_at x r.base size align)
row_as rows x r size align e s a =
    let n = row_has_name rows x r e in
    e ∙ ap Some (λ i. record { name = n i; base = r.base; size = s i; align = a i })

rows_added : (rows : List Row) (hs : List Held) (h : Held) → HaveRows rows hs → IsRowOf (row_of rows h.name) h → HaveRows rows (hs ++ h ∷ [])
rows_added rows [] h have is = (is, tt)
rows_added rows (g ∷ hs) h have is = (have.0, rows_added rows hs h have.1 is)

pub rows_created : (rows : List Row) (hs : List Held) (h : Held) (align : ℕ) → HaveRows rows hs →
    row_of rows h.name ≡ Some (row_at h.name h.base h.size align) → HaveRows rows (hs ++ h ∷ [])
rows_created rows hs h align have e = rows_added rows hs h have (subst (λ (o : Option Row). IsRowOf o h) (sym e) (refl, refl))
