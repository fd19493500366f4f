-- The scripts of events and of control steps ask whether an object lives before they read or write it.
use Rattle.std.proofs.Common.{◌≡◌, ℕ, Bool, true, false, not, ◌&&◌, ◌||◌, if◌then◌else◌, List, [], ◌∷◌, length, Option, refl, sym, ap, ◌∙◌, subst}
use Rattle.std.specs.Prelude.{◌==◌, ◌+◌, ◌^◌, min, max}
use Rattle.ub_base.specs.declared.clause.Clause.{Clause}
use Rattle.ub_base.specs.declared.clause.Clause.TheVariants.{InvalidPointer, OutOfBounds, DeadObject, StoreToLiteral, StoreToConst, EffectiveType}
use Rattle.ub_base.specs.declared.names.ObjName.{ObjName}
use Rattle.ub_base.specs.declared.names.Item.{Item}
use Rattle.ub_base.specs.declared.names.Item.TheVariants.{Read, Write, Born, Dies, Alive, Expose, Lookup, Narrow, Input, Output}
use Rattle.ub_base.proofs.NameLemmas.{same_object_refl}
use Rattle.addr_map.specs.declared.map.Row.{Row}
use Rattle.addr_map.specs.Rows.{row_of}
use Rattle.exposure.specs.declared.prov.Prov.{Prov}
use Rattle.exposure.specs.declared.prov.Prov.TheVariants.{Empty, Whole, Either}
use Rattle.mem_spec.specs.Store.{Store, TaggedByte, Life, is_live}
use Rattle.mem_spec.specs.Script.{Touch, Ask, Get, Put, Bear, Bury, Show, Find, Settle, Take, Print, refuses, answer, left, Script, Give, Raise, Finish}
use Rattle.mem_spec.specs.Script.{Exceed, Misplace, Do, ◌>>=◌, ◌>>◌, Done, run, require, touch, Ended}
use Rattle.mem_spec.specs.Acts.{Accessed, Seen, in_row, offset_in, is_aligned, declared_of, is_literal, is_constant, suits_store, stored_from, object_of}
use Rattle.mem_spec.specs.Acts.{access as access_act, check_writable, store}
use Rattle.mem_laws.specs.Frame.{gives, finishes, any_of}
use Rattle.mem_laws.proofs.Scripts.{stepped}
use Rattle.order_laws.specs.StrictItems.{asks, all_backed}
use Rattle.order_laws.specs.StoreParts.{counted_after}
use Rattle.order_laws.specs.Asking.{Post, Anything, Asked}

-- what was asked before was asked now
abbrev pub More : List Item → List Item → Type 0
More bs cs = (x : ObjName) → any_of (λ j. asks j x) bs ≡ true → any_of (λ j. asks j x) cs ≡ true

or_right : (a b : Bool) → b ≡ true → (a || b) ≡ true
or_right true b h = refl
or_right false b h = h

pub more_one : (i : Item) (bs : List Item) → More bs (i ∷ bs)
more_one i bs = λ x h. or_right (asks i x) (any_of (λ j. asks j x) bs) h

after_one : (i : Item) (bs cs : List Item) → More (i ∷ bs) cs → More bs cs
after_one i bs cs m = λ x h. m x (more_one i bs x h)

pub bind : {A B : Type 0} → (rows : List Row) (x : Script A) (k : A → Script B) (bs : List Item) (Q : A → List Item → Type 0) (R : B → List Item → Type 0)
    → Post rows x bs Q → ((v : A) (cs : List Item) → More bs cs → Q v cs → Post rows (k v) cs R) → Post rows (x >>= k) bs R
bind rows (Give v) k bs Q R h g = g v bs (λ x m. m) h
bind rows (Raise c) k bs Q R h g = tt
bind rows (Finish n) k bs Q R h g = h
bind rows (Exceed c n) k bs Q R h g = tt
bind rows Misplace k bs Q R h g = tt
bind rows (Do (Get x a n) f) k bs Q R (h, hf) g = (
  h,
  (λ r. bind rows (f r) k (Read x a n ∷ bs) Q R (hf r)
      (λ v cs m q. g v cs (after_one (Read x a n) bs cs m) q)),
)
bind rows (Do (Put x a ds) f) k bs Q R (h, hf) g = (
  h,
  (λ r. bind rows (f r) k (Write x a (length ds) ∷ bs) Q R (hf r)
      (λ v cs m q. g v cs (after_one (Write x a (length ds)) bs cs m) q)),
)
bind rows (Do (Ask x) f) k bs Q R h g = λ r. bind rows (f r) k (Alive x ∷ bs) Q R (h r) (λ v cs m q. g v cs (after_one (Alive x) bs cs m) q)
bind rows (Do (Bear x size kind declared) f) k bs Q R (h, hf) g =
    (h, (λ r. bind rows (f r) k (Born x ∷ bs) Q R (hf r) (λ v cs m q. g v cs (after_one (Born x) bs cs m) q)))
bind rows (Do (Bury x) f) k bs Q R h g = λ r. bind rows (f r) k (Dies x ∷ bs) Q R (h r) (λ v cs m q. g v cs (after_one (Dies x) bs cs m) q)
bind rows (Do (Show x) f) k bs Q R h g = λ r. bind rows (f r) k (Expose x ∷ bs) Q R (h r) (λ v cs m q. g v cs (after_one (Expose x) bs cs m) q)
bind rows (Do (Find a) f) k bs Q R h g = λ r. bind rows (f r) k (Lookup a ∷ bs) Q R (h r) (λ v cs m q. g v cs (after_one (Lookup a) bs cs m) q)
bind rows (Do (Settle id x c) f) k bs Q R h g = λ r. bind rows (f r) k (Narrow id x ∷ bs) Q R (h r) (λ v cs m q. g v cs (after_one (Narrow id x) bs cs m) q)
bind rows (Do Take f) k bs Q R h g = λ r. bind rows (f r) k (Input ∷ bs) Q R (h r) (λ v cs m q. g v cs (after_one Input bs cs m) q)
bind rows (Do (Print to ds) f) k bs Q R h g = λ r. bind rows (f r) k (Output ∷ bs) Q R (h r) (λ v cs m q. g v cs (after_one Output bs cs m) q)

and_both : (a b : Bool) → a ≡ true → b ≡ true → (a && b) ≡ true
and_both true b h k = k
and_both false b h k = h

-- one more item
more_here : (i : Item) (is bs cs ds : List Item) → is ≡ i ∷ cs → More bs ds → More is ds → More (i ∷ bs) ds
more_here i is bs cs ds e m n = λ x h. go x (asks i x) refl h
  where
    go : (x : ObjName) (b : Bool) → asks i x ≡ b → (asks i x || any_of (λ j. asks j x) bs) ≡ true → any_of (λ j. asks j x) ds ≡ true
    go x true a h = n x (subst (λ z. any_of (λ j. asks j x) z ≡ true) (sym e) (ap (λ b. b || any_of (λ j. asks j x) cs) a))
    go x false a h = m x (subst (λ b. (b || any_of (λ j. asks j x) bs) ≡ true) a h)

more_rest : (i : Item) (is cs ds : List Item) → is ≡ i ∷ cs → More is ds → More cs ds
more_rest i is cs ds e n = λ x h. n x (subst (λ z. any_of (λ j. asks j x) z ≡ true) (sym e) (more_one i cs x h))

-- so the items of an act are backed
module _ {V : Type 0} (rows : List Row) where
  pub sound : (x : Script V) (bs ds : List Item) (s : Store) (v : V) (is : List Item) (s1 : Store) → Asked rows x bs → More bs ds → More is ds
      → run rows x s ≡ Done v is s1 → all_backed ds is ≡ true
  sound (Give w) bs ds s v is s1 h m n e = (let k : [] ≡ is = cc in subst (λ z. all_backed ds z ≡ true) k refl)
  sound (Raise c) bs ds s v is s1 h m n e = absurd (cc)
  sound (Finish k) bs ds s v is s1 h m n e = absurd (cc)
  sound (Exceed c k) bs ds s v is s1 h m n e = absurd (cc)
  sound Misplace bs ds s v is s1 h m n e = absurd (cc)
  sound (Do (Get x a k) f) bs ds s v is s1 (h, hf) m n e =
      let st = stepped false (Get x a k) (Read x a k) (run rows (f (answer rows (Get x a k) s)) s) (gives v) is s1 e in
      subst (λ z. all_backed ds z ≡ true) (sym st.items) (and_both _ _ (m x h)
      (sound (f (answer rows (Get x a k) s)) (Read x a k ∷ bs) ds s v st.rest s1 (hf (answer rows (Get x a k) s))
      (more_here (Read x a k) is bs st.rest ds st.items m n) (more_rest (Read x a k) is st.rest ds st.items n) st.done))
  sound (Do (Put x a cs) f) bs ds s v is s1 (h, hf) m n e =
      let st = stepped false (Put x a cs) (Write x a (length cs)) (run rows (f tt) (left (Put x a cs) s)) (gives v) is s1 e in
      subst (λ z. all_backed ds z ≡ true) (sym st.items) (and_both _ _ (m x h)
      (sound (f tt) (Write x a (length cs) ∷ bs) ds (left (Put x a cs) s) v st.rest s1 (hf tt)
      (more_here (Write x a (length cs)) is bs st.rest ds st.items m n) (more_rest (Write x a (length cs)) is st.rest ds st.items n) st.done))
  sound (Do (Ask x) f) bs ds s v is s1 h m n e =
      let st = stepped (refuses (Ask x) s) (Ask x) (Alive x) (run rows (f (answer rows (Ask x) s)) (left (Ask x) s)) (gives v) is s1 e in
      subst (λ z. all_backed ds z ≡ true) (sym st.items)
      (sound (f (answer rows (Ask x) s)) (Alive x ∷ bs) ds (left (Ask x) s) v st.rest s1 (h (answer rows (Ask x) s))
      (more_here (Alive x) is bs st.rest ds st.items m n) (more_rest (Alive x) is st.rest ds st.items n) st.done)
  sound (Do (Bear x size kind declared) f) bs ds s v is s1 (z, h) m n e =
      let st = stepped (refuses (Bear x size kind declared) s) (Bear x size kind declared) (Born x)
      (run rows (f (answer rows (Bear x size kind declared) s)) (left (Bear x size kind declared) s)) (gives v) is s1 e in
      subst (λ z. all_backed ds z ≡ true) (sym st.items)
      (sound (f (answer rows (Bear x size kind declared) s)) (Born x ∷ bs) ds (left (Bear x size kind declared) s) v st.rest s1
      (h (answer rows (Bear x size kind declared) s)) (more_here (Born x) is bs st.rest ds st.items m n) (more_rest (Born x) is st.rest ds st.items n)
      st.done)
  sound (Do (Bury x) f) bs ds s v is s1 h m n e =
      let st = stepped (refuses (Bury x) s) (Bury x) (Dies x) (run rows (f (answer rows (Bury x) s)) (left (Bury x) s)) (gives v) is s1 e in
      subst (λ z. all_backed ds z ≡ true) (sym st.items)
      (sound (f (answer rows (Bury x) s)) (Dies x ∷ bs) ds (left (Bury x) s) v st.rest s1 (h (answer rows (Bury x) s))
      (more_here (Dies x) is bs st.rest ds st.items m n) (more_rest (Dies x) is st.rest ds st.items n) st.done)
  sound (Do (Show x) f) bs ds s v is s1 h m n e =
      let st = stepped (refuses (Show x) s) (Show x) (Expose x) (run rows (f (answer rows (Show x) s)) (left (Show x) s)) (gives v) is s1 e in
      subst (λ z. all_backed ds z ≡ true) (sym st.items)
      (sound (f (answer rows (Show x) s)) (Expose x ∷ bs) ds (left (Show x) s) v st.rest s1 (h (answer rows (Show x) s))
      (more_here (Expose x) is bs st.rest ds st.items m n) (more_rest (Expose x) is st.rest ds st.items n) st.done)
  sound (Do (Find a) f) bs ds s v is s1 h m n e =
      let st = stepped (refuses (Find a) s) (Find a) (Lookup a) (run rows (f (answer rows (Find a) s)) (left (Find a) s)) (gives v) is s1 e in
      subst (λ z. all_backed ds z ≡ true) (sym st.items)
      (sound (f (answer rows (Find a) s)) (Lookup a ∷ bs) ds (left (Find a) s) v st.rest s1 (h (answer rows (Find a) s))
      (more_here (Lookup a) is bs st.rest ds st.items m n) (more_rest (Lookup a) is st.rest ds st.items n) st.done)
  sound (Do (Settle id x c) f) bs ds s v is s1 h m n e =
      let st = stepped (refuses (Settle id x c) s) (Settle id x c) (Narrow id x) (run rows (f (answer rows (Settle id x c) s)) (left (Settle id x c) s))
      (gives v) is s1 e in
      subst (λ z. all_backed ds z ≡ true) (sym st.items)
      (sound (f (answer rows (Settle id x c) s)) (Narrow id x ∷ bs) ds (left (Settle id x c) s) v st.rest s1 (h (answer rows (Settle id x c) s))
      (more_here (Narrow id x) is bs st.rest ds st.items m n) (more_rest (Narrow id x) is st.rest ds st.items n) st.done)
  sound (Do (Take) f) bs ds s v is s1 h m n e =
      let st = stepped (refuses (Take) s) (Take) (Input) (run rows (f (answer rows (Take) s)) (left (Take) s)) (gives v) is s1 e in
      subst (λ z. all_backed ds z ≡ true) (sym st.items)
      (sound (f (answer rows (Take) s)) (Input ∷ bs) ds (left (Take) s) v st.rest s1 (h (answer rows (Take) s))
      (more_here (Input) is bs st.rest ds st.items m n) (more_rest (Input) is st.rest ds st.items n) st.done)
  sound (Do (Print to cs) f) bs ds s v is s1 h m n e =
      let st = stepped (refuses (Print to cs) s) (Print to cs) (Output) (run rows (f (answer rows (Print to cs) s)) (left (Print to cs) s)) (gives v) is s1 e in
      subst (λ z. all_backed ds z ≡ true) (sym st.items)
      (sound (f (answer rows (Print to cs) s)) (Output ∷ bs) ds (left (Print to cs) s) v st.rest s1 (h (answer rows (Print to cs) s))
      (more_here (Output) is bs st.rest ds st.items m n) (more_rest (Output) is st.rest ds st.items n) st.done)

  -- and what it creates is what its births count
  pub counted : (x : Script V) (bs : List Item) (s : Store) (v : V) (is : List Item) (s1 : Store) → Asked rows x bs → run rows x s ≡ Done v is s1
      → s1.created ≡ counted_after rows is s.created
  counted (Give w) bs s v is s1 h e =
      let k : [] ≡ is = cc in
      let t : s1 ≡ s = cc in
      subst (λ z. s1.created ≡ counted_after rows z s.created) k (ap (λ u. u.created) t)
  counted (Raise c) bs s v is s1 h e = absurd (cc)
  counted (Finish k) bs s v is s1 h e = absurd (cc)
  counted (Exceed c k) bs s v is s1 h e = absurd (cc)
  counted Misplace bs s v is s1 h e = absurd (cc)
  counted (Do (Bear x size kind declared) f) bs s v is s1 (z, h) e =
      let t : Touch = Bear x size kind declared in
      let st = stepped (refuses t s) t (Born x) (run rows (f tt) (left t s)) (gives v) is s1 e in
      let a = counted (f tt) (Born x ∷ bs) (left t s) v st.rest s1 (h tt) st.done in
      a ∙ (ap (λ n. counted_after rows st.rest (min (s.created + max n 16) (2 ^ 62))) z ∙ ap (λ l. counted_after rows l s.created) (sym st.items))
  counted (Do (Ask x) f) bs s v is s1 h e =
      let st = stepped (refuses (Ask x) s) (Ask x) (Alive x) (run rows (f (answer rows (Ask x) s)) (left (Ask x) s)) (gives v) is s1 e in
      counted (f (answer rows (Ask x) s)) (Alive x ∷ bs) (left (Ask x) s) v st.rest s1 (h (answer rows (Ask x) s)) st.done
      ∙ ap (λ l. counted_after rows l s.created) (sym st.items)
  counted (Do (Get x a k) f) bs s v is s1 (z, h) e =
      let st = stepped (refuses (Get x a k) s) (Get x a k) (Read x a k) (run rows (f (answer rows (Get x a k) s)) (left (Get x a k) s)) (gives v) is s1 e in
      counted (f (answer rows (Get x a k) s)) (Read x a k ∷ bs) (left (Get x a k) s) v st.rest s1 (h (answer rows (Get x a k) s)) st.done
      ∙ ap (λ l. counted_after rows l s.created) (sym st.items)
  counted (Do (Put x a cs) f) bs s v is s1 (z, h) e =
      let st = stepped (refuses (Put x a cs) s) (Put x a cs) (Write x a (length cs)) (run rows (f (answer rows (Put x a cs) s)) (left (Put x a cs) s))
      (gives v) is s1 e in
      counted (f (answer rows (Put x a cs) s)) (Write x a (length cs) ∷ bs) (left (Put x a cs) s) v st.rest s1 (h (answer rows (Put x a cs) s)) st.done
      ∙ ap (λ l. counted_after rows l s.created) (sym st.items)
  counted (Do (Bury x) f) bs s v is s1 h e =
      let st = stepped (refuses (Bury x) s) (Bury x) (Dies x) (run rows (f (answer rows (Bury x) s)) (left (Bury x) s)) (gives v) is s1 e in
      counted (f (answer rows (Bury x) s)) (Dies x ∷ bs) (left (Bury x) s) v st.rest s1 (h (answer rows (Bury x) s)) st.done
      ∙ ap (λ l. counted_after rows l s.created) (sym st.items)
  counted (Do (Show x) f) bs s v is s1 h e =
      let st = stepped (refuses (Show x) s) (Show x) (Expose x) (run rows (f (answer rows (Show x) s)) (left (Show x) s)) (gives v) is s1 e in
      counted (f (answer rows (Show x) s)) (Expose x ∷ bs) (left (Show x) s) v st.rest s1 (h (answer rows (Show x) s)) st.done
      ∙ ap (λ l. counted_after rows l s.created) (sym st.items)
  counted (Do (Find a) f) bs s v is s1 h e =
      let st = stepped (refuses (Find a) s) (Find a) (Lookup a) (run rows (f (answer rows (Find a) s)) (left (Find a) s)) (gives v) is s1 e in
      counted (f (answer rows (Find a) s)) (Lookup a ∷ bs) (left (Find a) s) v st.rest s1 (h (answer rows (Find a) s)) st.done
      ∙ ap (λ l. counted_after rows l s.created) (sym st.items)
  counted (Do (Settle id x c) f) bs s v is s1 h e =
      let st = stepped (refuses (Settle id x c) s) (Settle id x c) (Narrow id x) (run rows (f (answer rows (Settle id x c) s)) (left (Settle id x c) s))
      (gives v) is s1 e in
      counted (f (answer rows (Settle id x c) s)) (Narrow id x ∷ bs) (left (Settle id x c) s) v st.rest s1 (h (answer rows (Settle id x c) s)) st.done
      ∙ ap (λ l. counted_after rows l s.created) (sym st.items)
  counted (Do (Take) f) bs s v is s1 h e =
      let st = stepped (refuses (Take) s) (Take) (Input) (run rows (f (answer rows (Take) s)) (left (Take) s)) (gives v) is s1 e in
      counted (f (answer rows (Take) s)) (Input ∷ bs) (left (Take) s) v st.rest s1 (h (answer rows (Take) s)) st.done
      ∙ ap (λ l. counted_after rows l s.created) (sym st.items)
  counted (Do (Print to cs) f) bs s v is s1 h e =
      let st = stepped (refuses (Print to cs) s) (Print to cs) (Output) (run rows (f (answer rows (Print to cs) s)) (left (Print to cs) s)) (gives v) is s1 e in
      counted (f (answer rows (Print to cs) s)) (Output ∷ bs) (left (Print to cs) s) v st.rest s1 (h (answer rows (Print to cs) s)) st.done
      ∙ ap (λ l. counted_after rows l s.created) (sym st.items)

  -- and it doesn't end the run
  pub never_ends : (x : Script V) (bs : List Item) (s : Store) (n : ℕ) (is : List Item) (s1 : Store) → Asked rows x bs → run rows x s ≡ Ended n is s1 → ⊥
  never_ends (Give w) bs s n is s1 h e = cc
  never_ends (Raise c) bs s n is s1 h e = cc
  never_ends (Finish k) bs s n is s1 h e = h
  never_ends (Exceed c k) bs s n is s1 h e = cc
  never_ends Misplace bs s n is s1 h e = cc
  never_ends (Do (Ask x) f) bs s n is s1 h e =
      let st = stepped (refuses (Ask x) s) (Ask x) (Alive x) (run rows (f (answer rows (Ask x) s)) (left (Ask x) s)) (finishes n) is s1 e in
      never_ends (f (answer rows (Ask x) s)) (Alive x ∷ bs) (left (Ask x) s) n st.rest s1 (h (answer rows (Ask x) s)) st.done
  never_ends (Do (Get x a k) f) bs s n is s1 (z, h) e =
      let st = stepped (refuses (Get x a k) s) (Get x a k) (Read x a k) (run rows (f (answer rows (Get x a k) s)) (left (Get x a k) s)) (finishes n) is s1 e in
      never_ends (f (answer rows (Get x a k) s)) (Read x a k ∷ bs) (left (Get x a k) s) n st.rest s1 (h (answer rows (Get x a k) s)) st.done
  never_ends (Do (Put x a cs) f) bs s n is s1 (z, h) e =
      let st = stepped (refuses (Put x a cs) s) (Put x a cs) (Write x a (length cs)) (run rows (f (answer rows (Put x a cs) s)) (left (Put x a cs) s))
      (finishes n) is s1 e in
      never_ends (f (answer rows (Put x a cs) s)) (Write x a (length cs) ∷ bs) (left (Put x a cs) s) n st.rest s1 (h (answer rows (Put x a cs) s)) st.done
  never_ends (Do (Bear x size kind declared) f) bs s n is s1 (z, h) e =
      let st = stepped (refuses (Bear x size kind declared) s) (Bear x size kind declared) (Born x)
      (run rows (f (answer rows (Bear x size kind declared) s)) (left (Bear x size kind declared) s)) (finishes n) is s1 e in
      never_ends (f (answer rows (Bear x size kind declared) s)) (Born x ∷ bs) (left (Bear x size kind declared) s) n st.rest s1
      (h (answer rows (Bear x size kind declared) s)) st.done
  never_ends (Do (Bury x) f) bs s n is s1 h e =
      let st = stepped (refuses (Bury x) s) (Bury x) (Dies x) (run rows (f (answer rows (Bury x) s)) (left (Bury x) s)) (finishes n) is s1 e in
      never_ends (f (answer rows (Bury x) s)) (Dies x ∷ bs) (left (Bury x) s) n st.rest s1 (h (answer rows (Bury x) s)) st.done
  never_ends (Do (Show x) f) bs s n is s1 h e =
      let st = stepped (refuses (Show x) s) (Show x) (Expose x) (run rows (f (answer rows (Show x) s)) (left (Show x) s)) (finishes n) is s1 e in
      never_ends (f (answer rows (Show x) s)) (Expose x ∷ bs) (left (Show x) s) n st.rest s1 (h (answer rows (Show x) s)) st.done
  never_ends (Do (Find a) f) bs s n is s1 h e =
      let st = stepped (refuses (Find a) s) (Find a) (Lookup a) (run rows (f (answer rows (Find a) s)) (left (Find a) s)) (finishes n) is s1 e in
      never_ends (f (answer rows (Find a) s)) (Lookup a ∷ bs) (left (Find a) s) n st.rest s1 (h (answer rows (Find a) s)) st.done
  never_ends (Do (Settle id x c) f) bs s n is s1 h e =
      let st = stepped (refuses (Settle id x c) s) (Settle id x c) (Narrow id x) (run rows (f (answer rows (Settle id x c) s)) (left (Settle id x c) s))
      (finishes n) is s1 e in
      never_ends (f (answer rows (Settle id x c) s)) (Narrow id x ∷ bs) (left (Settle id x c) s) n st.rest s1 (h (answer rows (Settle id x c) s)) st.done
  never_ends (Do (Take) f) bs s n is s1 h e =
      let st = stepped (refuses (Take) s) (Take) (Input) (run rows (f (answer rows (Take) s)) (left (Take) s)) (finishes n) is s1 e in
      never_ends (f (answer rows (Take) s)) (Input ∷ bs) (left (Take) s) n st.rest s1 (h (answer rows (Take) s)) st.done
  never_ends (Do (Print to cs) f) bs s n is s1 h e =
      let st = stepped (refuses (Print to cs) s) (Print to cs) (Output) (run rows (f (answer rows (Print to cs) s)) (left (Print to cs) s)) (finishes n) is s1 e
      in
      never_ends (f (answer rows (Print to cs) s)) (Output ∷ bs) (left (Print to cs) s) n st.rest s1 (h (answer rows (Print to cs) s)) st.done

pub need : {V : Type 0} → (rows : List Row) (b : Bool) (c : Clause) (t : Script V) (bs : List Item) (Q : V → List Item → Type 0) → Post rows t bs Q
    → Post rows (require b c >> t) bs Q
need rows true c t bs Q h = h
need rows false c t bs Q h = tt

pub needs : (rows : List Row) (b : Bool) (c : Clause) (bs : List Item) → Asked rows (require b c) bs
needs rows true c bs = tt
needs rows false c bs = tt

pub when : {V : Type 0} → (rows : List Row) (b : Bool) (x y : Script V) (bs : List Item) (Q : V → List Item → Type 0) → Post rows x bs Q → Post rows y bs Q
    → Post rows (if b then x else y) bs Q
when rows true x y bs Q h k = h
when rows false x y bs Q h k = k

object_asks : (rows : List Row) (len a : ℕ) (p : Prov) (bs : List Item) → Asked rows (object_of rows len a p) bs
object_asks rows len a Empty bs = tt
object_asks rows len a (Whole x) bs = tt
object_asks rows len a (Either id past start) bs =
    when rows (in_row (row_of rows past) a len) (touch (Settle id past OutOfBounds) >> Give past)
    (if in_row (row_of rows start) a len then touch (Settle id start OutOfBounds) >> Give start else Raise OutOfBounds) bs Anything (λ r. tt)
    (when rows (in_row (row_of rows start) a len) (touch (Settle id start OutOfBounds) >> Give start) (Raise OutOfBounds) bs Anything (λ r. tt) tt)

-- the object of an access was asked for
abbrev pub Known : Accessed → List Item → Type 0
Known at cs = any_of (λ j. asks j at.object) cs ≡ true

abbrev aligned_at : List Row → ℕ → ℕ → ObjName → Option Life → Script Accessed
aligned_at rows align a x life = require (is_aligned align a) InvalidPointer >> Give (record { object = x; from = offset_in (row_of rows x) a; life = life })

abbrev bounded_at : List Row → ℕ → ℕ → ℕ → ObjName → Option Life → Script Accessed
bounded_at rows len align a x life = require (in_row (row_of rows x) a len) OutOfBounds >> aligned_at rows align a x life

abbrev asked_at : List Row → ℕ → ℕ → ℕ → ObjName → Script Accessed
asked_at rows len align a x = touch (Ask x) >>= (λ life. require (is_live life) DeadObject >> bounded_at rows len align a x life)

pub access_asks : (rows : List Row) (len align a : ℕ) (p : Prov) (bs : List Item) → Post rows (access_act rows len align a p) bs Known
access_asks rows len align a p bs =
    need rows (not (a == 0)) InvalidPointer (object_of rows len a p >>= asked_at rows len align a) bs Known
    (bind rows (object_of rows len a p) (asked_at rows len align a) bs Anything Known (object_asks rows len a p bs)
    (λ x cs m q. λ life. need rows (is_live life) DeadObject (bounded_at rows len align a x life) (Alive x ∷ cs) Known
    (need rows (in_row (row_of rows x) a len) OutOfBounds (aligned_at rows align a x life) (Alive x ∷ cs) Known
    (need rows (is_aligned align a) InvalidPointer (Give (record { object = x; from = offset_in (row_of rows x) a; life = life })) (Alive x ∷ cs) Known
    (ap (λ b. b || any_of (λ j. asks j x) cs) (same_object_refl x))))))

pub writable_asks : (rows : List Row) (b : Bool) (life : Option Life) (bs : List Item) → Asked rows (check_writable b life) bs
writable_asks rows true life bs = tt
writable_asks rows false life bs =
    need rows (not (is_literal life)) StoreToLiteral (require (not (is_constant life)) StoreToConst) bs Anything
    (needs rows (not (is_constant life)) StoreToConst bs)

abbrev put_at : Bool → Seen → List TaggedByte → Accessed → Script (Unit {0})
put_at first via bs at = check_writable first at.life >> touch (Put at.object at.from (stored_from (declared_of at.life) via 0 bs))

pub store_asks : (rows : List Row) (first : Bool) (via : Seen) (align a : ℕ) (p : Prov) (ds : List TaggedByte) (bs : List Item)
    → Asked rows (store rows first via align a p ds) bs
store_asks rows first via align a p ds bs =
    bind rows (access_act rows (length ds) align a p) (λ at. require (suits_store via (declared_of at.life) at.from) EffectiveType >> put_at first via ds
    at) bs Known Anything
    (access_asks rows (length ds) align a p bs)
    (λ at cs m k. need rows (suits_store via (declared_of at.life) at.from) EffectiveType (put_at first via ds at) cs Anything
    (bind rows (check_writable first at.life) (λ u. touch (Put at.object at.from (stored_from (declared_of at.life) via 0 ds))) cs Anything Anything
    (writable_asks rows first at.life cs) (λ u es n q. (n at.object k, (λ r. tt)))))
