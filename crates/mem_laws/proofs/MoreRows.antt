-- What a script does under more rows.
use Rattle.std.proofs.Common.{◌≡◌, ℕ, ◌==◌, Bool, true, false, not, ◌&&◌, List, Option, Some, None, is_some, if◌then◌else◌, refl, sym, ap}
use Rattle.std.proofs.Common.{ap₂, ◌∙◌, subst}
use Rattle.ub_base.specs.declared.names.Event.{Event}
use Rattle.ub_base.specs.declared.names.ObjName.{ObjName}
use Rattle.ub_base.specs.declared.clause.Clause.TheVariants.{InvalidPointer, DeadObject, OutOfBounds}
use Rattle.ub_base.specs.Names.{same_object}
use Rattle.ub_base.proofs.NameLemmas.{same_object_is}
use Rattle.addr_map.specs.declared.map.Row.{Row}
use Rattle.addr_map.specs.Rows.{row_of, covers, past}
use Rattle.exposure.specs.declared.prov.Prov.{Prov}
use Rattle.exposure.specs.declared.prov.Prov.TheVariants.{Empty, Whole, Either}
use Rattle.mem_spec.specs.Store.{Store, Life, is_live, dead, can_find, findable}
use Rattle.mem_spec.specs.Script.{Touch, Ask, Get, Put, Bear, Bury, Show, Find, Settle, Take, Print, Answer, item_of, refuses, refused, answer, left, Script}
use Rattle.mem_spec.specs.Script.{Give, Raise, Finish, Exceed, Misplace, Do, Act, touched, run, touch, require, ◌>>=◌, ◌>>◌}
use Rattle.mem_spec.specs.Acts.{Accessed, access, object_of, in_row, offset_in, is_aligned}
use Rattle.mem_laws.specs.MoreRows.{Extends, StandIn, BearsIn, AreIn}

module _ (few more : List Row) (ext : Extends few more) where
  -- ---- what is found by an address
  live_created : (o : Option Life) → is_live o ≡ true → is_some o ≡ true
  live_created (Some l) h = refl
  live_created None h = absurd (cc)

  and_right : (a b : Bool) → a && b ≡ true → b ≡ true
  and_right true b h = h
  and_right false b h = absurd (cc)

  can_stand : (s : Store) → StandIn few s → (x : ObjName) → can_find s x ≡ true → is_some (row_of few x) ≡ true
  can_stand s st x h = st x (live_created (s.life x) (and_right (s.exposed x) (is_live (s.life x)) h))

  not_some : (y : ObjName) → None ≡ Some y → ⊥
  not_some y e = cc

  found_none : (s : Store) → StandIn few s → (y : ObjName) (b : Bool) → can_find s y ≡ b → (is_some (row_of few y) ≡ true → ⊥)
      → (if b then Some y else None) ≡ None
  found_none s st y true e other = absurd (other (can_stand s st y e))
  found_none s st y false e other = refl

  same_found : (s : Store) → StandIn few s → (f g : Option ObjName) → ((x : ObjName) → f ≡ Some x → g ≡ Some x)
      → ((x : ObjName) → is_some (row_of few x) ≡ true → g ≡ Some x → f ≡ Some x) → findable s g ≡ findable s f
  same_found s st (Some x) g there back = ap (findable s) (there x refl)
  same_found s st None None there back = refl
  same_found s st None (Some y) there back = found_none s st y (can_find s y) refl (λ row. not_some y (back y row refl))

  -- ---- a touch
  same_answer : (t : Touch) (s : Store) → StandIn few s → answer more t s ≡ answer few t s
  same_answer (Find a) s st =
      ap₂ (λ (x y : Option ObjName). (x, y)) (same_found s st (covers few a) (covers more a) (ext.covering a) (ext.covered a))
      (same_found s st (past few a) (past more a) (ext.passing a) (ext.passed a))
  same_answer (Ask x) s st = refl
  same_answer (Get x a n) s st = refl
  same_answer (Put x a bs) s st = refl
  same_answer (Bear x size kind declared) s st = refl
  same_answer (Bury x) s st = refl
  same_answer (Show x) s st = refl
  same_answer (Settle id x c) s st = refl
  same_answer Take s st = refl
  same_answer (Print to bs) s st = refl

  -- what it creates has a row
  abbrev HasRow : Touch → Type 0
  HasRow (Bear x size kind declared) = is_some (row_of few x) ≡ true
  HasRow _ = Unit {0}

  born_stands : (s : Store) → StandIn few s → (x y : ObjName) (l : Life) (b : Bool) → same_object x y ≡ b → is_some (row_of few x) ≡ true
      → is_some (if b then Some l else s.life y) ≡ true → is_some (row_of few y) ≡ true
  born_stands s st x y l true e row h = subst (λ (z : ObjName). is_some (row_of few z) ≡ true) (same_object_is x y e) row
  born_stands s st x y l false e row h = st y h

  dead_created : (o : Option Life) → is_some (dead o) ≡ true → is_some o ≡ true
  dead_created (Some l) h = refl
  dead_created None h = absurd (cc)

  buried_stands : (s : Store) → StandIn few s → (x y : ObjName) (b : Bool) → same_object x y ≡ b
      → is_some (if b then dead (s.life x) else s.life y) ≡ true → is_some (row_of few y) ≡ true
  buried_stands s st x y true e h =
      subst (λ (z : ObjName). is_some (row_of few z) ≡ true) (same_object_is x y e) (st x (dead_created (s.life x) h))
  buried_stands s st x y false e h = st y h

  stays : (t : Touch) (s : Store) → StandIn few s → HasRow t → StandIn few (left t s)
  stays (Bear x size kind declared) s st row = λ y h. born_stands s st x y _ (same_object x y) refl row h
  stays (Bury x) s st row = λ y h. buried_stands s st x y (same_object x y) refl h
  stays (Ask x) s st row = st
  stays (Get x a n) s st row = st
  stays (Put x a bs) s st row = st
  stays (Show x) s st row = st
  stays (Find a) s st row = st
  stays (Settle id x c) s st row = st
  stays Take s st row = st
  stays (Print to bs) s st row = st

  -- ---- a script
  module _ (V : Type 0) where
    row_born : (t : Touch) (k : Answer t → Script V) → BearsIn few (Do t k) → HasRow t
    row_born (Bear x size kind declared) k b = b.0
    row_born (Ask x) k b = tt
    row_born (Get x a n) k b = tt
    row_born (Put x a bs) k b = tt
    row_born (Bury x) k b = tt
    row_born (Show x) k b = tt
    row_born (Find a) k b = tt
    row_born (Settle id x c) k b = tt
    row_born Take k b = tt
    row_born (Print to bs) k b = tt

    bears_next : (t : Touch) (k : Answer t → Script V) → BearsIn few (Do t k) → (r : Answer t) → BearsIn few (k r)
    bears_next (Bear x size kind declared) k b r = b.1 r
    bears_next (Ask x) k b r = b r
    bears_next (Get x a n) k b r = b r
    bears_next (Put x a bs) k b r = b r
    bears_next (Bury x) k b r = b r
    bears_next (Show x) k b r = b r
    bears_next (Find a) k b r = b r
    bears_next (Settle id x c) k b r = b r
    bears_next Take k b r = b r
    bears_next (Print to bs) k b r = b r

    pub run_same : (p : Script V) (s : Store) → StandIn few s → BearsIn few p → run more p s ≡ run few p s
    run_same (Give v) s st b = refl
    run_same (Raise c) s st b = refl
    run_same (Finish n) s st b = refl
    run_same (Exceed c n) s st b = refl
    run_same Misplace s st b = refl
    run_same (Do t k) s st b =
        ap (λ (a : Act V). if refuses t s then refused t else touched (item_of t) a)
        (ap (λ (r : Answer t). run more (k r) (left t s)) (same_answer t s st)
        ∙ run_same (k (answer few t s)) (left t s) (stays t s st (row_born t k b)) (bears_next t k b (answer few t s)))

  -- ---- an access
  pub row_same : (x : ObjName) (o : Option Row) → row_of few x ≡ o → is_some o ≡ true → row_of more x ≡ row_of few x
  row_same x (Some r) e h = ext.rows x r e ∙ sym e
  row_same x None e h = absurd (cc)

  module _ (len align a : ℕ) where
    -- the checks of an access once its object is known
    abbrev reached : Option Row → ObjName → Script Accessed
    reached row x = do
      life ← touch (Ask x)
      require (is_live life) DeadObject
      require (in_row row a len) OutOfBounds
      require (is_aligned align a) InvalidPointer
      Give (record { object = x; from = offset_in row a; life = life })

    picked : (id : Event) (past start : ObjName) (first second : Bool) (k l : ObjName → Script Accessed) → k past ≡ l past → k start ≡ l start
        → ((if first then touch (Settle id past OutOfBounds) >> Give past
        else (if second then touch (Settle id start OutOfBounds) >> Give start else Raise OutOfBounds)) >>= k)
        ≡ ((if first then touch (Settle id past OutOfBounds) >> Give past
        else (if second then touch (Settle id start OutOfBounds) >> Give start else Raise OutOfBounds)) >>= l)
    picked id past start true second k l e f = ap (λ (z : Script Accessed). Do (Settle id past OutOfBounds) (λ u. z)) e
    picked id past start false true k l e f = ap (λ (z : Script Accessed). Do (Settle id start OutOfBounds) (λ u. z)) f
    picked id past start false false k l e f = refl

    objects_same : (prov : Prov) → AreIn few prov
        → (object_of more len a prov >>= (λ x. reached (row_of more x) x)) ≡ (object_of few len a prov >>= (λ x. reached (row_of few x) x))
    objects_same Empty in_few = refl
    objects_same (Whole x) in_few = ap (λ (row : Option Row). reached row x) (row_same x (row_of few x) refl in_few)
    objects_same (Either id past start) in_few =
        let e = row_same past (row_of few past) refl in_few.0 in
        let f = row_same start (row_of few start) refl in_few.1 in
        ap₂ (λ (first second : Bool).
        (if first then touch (Settle id past OutOfBounds) >> Give past
        else (if second then touch (Settle id start OutOfBounds) >> Give start else Raise OutOfBounds)) >>= (λ x. reached (row_of more x) x))
        (ap (λ (row : Option Row). in_row row a len) e) (ap (λ (row : Option Row). in_row row a len) f)
        ∙ picked id past start (in_row (row_of few past) a len) (in_row (row_of few start) a len) (λ x. reached (row_of more x) x)
        (λ x. reached (row_of few x) x) (ap (λ (row : Option Row). reached row past) e) (ap (λ (row : Option Row). reached row start) f)

    pub access_same : (prov : Prov) → AreIn few prov → access more len align a prov ≡ access few len align a prov
    access_same prov in_few = ap (λ (z : Script Accessed). require (not (a == 0)) InvalidPointer >> z) (objects_same prov in_few)
