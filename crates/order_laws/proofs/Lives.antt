-- An object that was born is known from then on, and is born once.
use Rattle.std.proofs.Common.{◌≡◌, Bool, true, false, ◌||◌, if◌then◌else◌, List, [], ◌∷◌, Option, Some, None, is_some, refl, sym, subst}
use Rattle.ub_base.specs.declared.names.ObjName.{ObjName}
use Rattle.ub_base.specs.declared.names.Item.{Item}
use Rattle.ub_base.specs.Names.{same_object}
use Rattle.ub_base.proofs.NameLemmas.{same_object_is}
use Rattle.addr_map.specs.declared.map.Row.{Row}
use Rattle.mem_spec.specs.Store.{Store, Life, dead}
use Rattle.mem_spec.specs.Script.{Touch, Ask, Get, Put, Bear, Bury, Show, Find, Settle, Take, Print, item_of, refuses, answer, left, Script, Give, Raise}
use Rattle.mem_spec.specs.Script.{Finish, Exceed, Misplace, Do, Done, run}
use Rattle.mem_laws.specs.Frame.{gives, bears}
use Rattle.mem_laws.proofs.Scripts.{Stepped, stepped}
use Rattle.machine_laws.specs.ToldConflicts.{bear}

abbrev Knows : Store → ObjName → Type 0
Knows s x = is_some (s.life x) ≡ true

some_if : (b : Bool) (o p : Option Life) → is_some o ≡ true → is_some p ≡ true → is_some (if b then o else p) ≡ true
some_if true o p h k = h
some_if false o p h k = k

dead_known : (o : Option Life) → is_some o ≡ true → is_some (dead o) ≡ true
dead_known None h = h
dead_known (Some l) h = refl

touch_knows : (t : Touch) (s : Store) (x : ObjName) → Knows s x → Knows (left t s) x
touch_knows (Bear y size kind declared) s x h = some_if (same_object y x) (Some (record { live = true; kind = kind; declared = declared })) (s.life x) refl h
touch_knows (Bury y) s x h = go (same_object y x) refl
  where
    go : (b : Bool) → same_object y x ≡ b → is_some (if b then dead (s.life y) else s.life x) ≡ true
    go true e = dead_known (s.life y) (subst (λ z. is_some (s.life z) ≡ true) (sym (same_object_is y x e)) h)
    go false e = h
touch_knows (Ask y) s x h = h
touch_knows (Get y a n) s x h = h
touch_knows (Put y a bs) s x h = h
touch_knows (Show y) s x h = h
touch_knows (Find a) s x h = h
touch_knows (Settle id y c) s x h = h
touch_knows Take s x h = h
touch_knows (Print to bs) s x h = h

-- a birth makes its object known, and none was known before
touch_born : (t : Touch) (s : Store) (x : ObjName) → bears (item_of t) x ≡ true → refuses t s ≡ false → (is_some (s.life x) ≡ false) × Knows (left t s) x
touch_born (Bear y size kind declared) s x b r =
    let e = same_object_is y x b in (
      subst (λ z. is_some (s.life z) ≡ false) e r,
      subst (λ c. is_some (if c then Some (record { live = true; kind = kind; declared = declared }) else s.life x) ≡ true) (sym b) refl,
    )
touch_born (Bury y) s x b r = absurd (cc)
touch_born (Ask y) s x b r = absurd (cc)
touch_born (Get y a n) s x b r = absurd (cc)
touch_born (Put y a bs) s x b r = absurd (cc)
touch_born (Show y) s x b r = absurd (cc)
touch_born (Find a) s x b r = absurd (cc)
touch_born (Settle id y c) s x b r = absurd (cc)
touch_born Take s x b r = absurd (cc)
touch_born (Print to bs) s x b r = absurd (cc)

module _ {V : Type 0} (map : List Row) where
  pub run_knows : (sc : Script V) (s s1 : Store) (v : V) (is : List Item) (x : ObjName) → run map sc s ≡ Done v is s1 → Knows s x → Knows s1 x
  run_knows (Give w) s s1 v is x h k = let e : s ≡ s1 = cc in subst (λ z. Knows z x) e k
  run_knows (Raise c) s s1 v is x h k = absurd (cc)
  run_knows (Finish n) s s1 v is x h k = absurd (cc)
  run_knows (Exceed c n) s s1 v is x h k = absurd (cc)
  run_knows Misplace s s1 v is x h k = absurd (cc)
  run_knows (Do t f) s s1 v is x h k =
      let st = stepped (refuses t s) t (item_of t) (run map (f (answer map t s)) (left t s)) (gives v) is s1 h in
      run_knows (f (answer map t s)) (left t s) s1 v st.rest x st.done (touch_knows t s x k)

  pub run_born : (sc : Script V) (s s1 : Store) (v : V) (is : List Item) (x : ObjName) → run map sc s ≡ Done v is s1 → bear bears is x ≡ true
      → (is_some (s.life x) ≡ false) × Knows s1 x
  run_born (Give w) s s1 v is x h b = let e : [] ≡ is = cc in let b2 = subst (λ z. bear bears z x ≡ true) (sym e) b in absurd (cc (b2))
  run_born (Raise c) s s1 v is x h b = absurd (cc)
  run_born (Finish n) s s1 v is x h b = absurd (cc)
  run_born (Exceed c n) s s1 v is x h b = absurd (cc)
  run_born Misplace s s1 v is x h b = absurd (cc)
  run_born (Do t f) s s1 v is x h b =
      let st = stepped (refuses t s) t (item_of t) (run map (f (answer map t s)) (left t s)) (gives v) is s1 h in
      let b2 : bear bears (item_of t ∷ st.rest) x ≡ true = subst (λ z. bear bears z x ≡ true) st.items b in
      go (bears (item_of t) x) refl st b2
      (λ c. run_born (f (answer map t s)) (left t s) s1 v st.rest x st.done c)
      (run_knows (f (answer map t s)) (left t s) s1 v st.rest x st.done)
    where
      before : (b : Bool) → is_some (s.life x) ≡ b → is_some ((left t s).life x) ≡ false → is_some (s.life x) ≡ false
      before false e n = e
      before true e n = (let k = touch_knows t s x e in absurd (cc (k, n)))

      go : (c : Bool) → bears (item_of t) x ≡ c → (st : Stepped (refuses t s) (item_of t) (run map (f (answer map t s)) (left t s)) (gives v) is s1)
          → (bears (item_of t) x || bear bears st.rest x) ≡ true
          → (bear bears st.rest x ≡ true → (is_some ((left t s).life x) ≡ false) × Knows s1 x) → (Knows (left t s) x → Knows s1 x)
          → (is_some (s.life x) ≡ false) × Knows s1 x
      go true e st b later knows = (let a = touch_born t s x e st.went in (a.0, knows a.1))
      go false e st b later knows =
          (let a = later (subst (λ z. (z || bear bears st.rest x) ≡ true) e b) in (before (is_some (s.life x)) refl a.0, a.1))
