-- Whole acts, from the laws of single touches.
use Rattle.std.proofs.Common.{◌≡◌, ℕ, Bool, true, false, ◌||◌, List, [], ◌∷◌, length, if◌then◌else◌, refl, sym, ap, ◌∙◌, subst, ap₂, true≢false}
use Rattle.ub_base.specs.declared.clause.Clause.{Clause}
use Rattle.ub_base.specs.declared.clause.Cause.{Cause}
use Rattle.ub_base.specs.declared.names.ObjName.{ObjName}
use Rattle.ub_base.specs.declared.names.Item.{Item}
use Rattle.ub_base.specs.declared.names.Item.TheVariants as item
use Rattle.ub_base.specs.declared.names.Item.TheVariants.{Read, Write, Born, Dies, Alive, Expose, Lookup, Narrow, Input, Output, Any}
use Rattle.ub_base.specs.Names.{same_object}
use Rattle.addr_map.specs.declared.map.Row.{Row}
use Rattle.addr_map.specs.Conflict.{conflicts_with}
use Rattle.mem_spec.specs.Store.{Store}
use Rattle.mem_spec.specs.Script.{Touch, Ask, Get, Put, Bear, Bury, Show, Find, Settle, Take, Print, item_of, refuses, refused, answer, left, Script}
use Rattle.mem_spec.specs.Script.{Give, Raise, Finish, Exceed, Misplace, Do, Act, Done, Raised, Ended, Outside, Unplaced, touched, run}
use Rattle.mem_laws.specs.Frame.{ActEnd, gives, finishes, acted, Diff, any_of, bears, ends_life, interferes, interferes_with, some_interference}
use Rattle.mem_laws.proofs.Touches.{diff_refl, diff_trans, diff_left, diff_right, Extra, same_answer, same_refuses, left_diff, changes, or_left, or_right}
use Rattle.mem_laws.proofs.Touches.{or_both, or_true', same_flip}

module _ {V : Type 0} where
  -- what the first touch of an act did, and how the act ended
  pub record Stepped (b : Bool) (i : Item) (a : Act V) (e : ActEnd V) (is : List Item) (s1 : Store) : Type 0 where
    pub went : b ≡ false
    pub rest : List Item
    pub items : is ≡ i ∷ rest
    pub done : a ≡ acted e rest s1

  not_acted : (c : Clause) (e : ActEnd V) (is : List Item) (s1 : Store) → Raised c ≡ acted e is s1 → ⊥
  not_acted c (gives v) is s1 h = cc
  not_acted c (finishes n) is s1 h = cc

  pub not_placed : (e : ActEnd V) (is : List Item) (s1 : Store) → Unplaced ≡ acted e is s1 → ⊥
  not_placed (gives v) is s1 h = cc
  not_placed (finishes n) is s1 h = cc

  not_within : (c : Cause) (n : ℕ) (e : ActEnd V) (is : List Item) (s1 : Store) → Outside c n ≡ acted e is s1 → ⊥
  not_within c n (gives v) is s1 h = cc
  not_within c n (finishes m) is s1 h = cc

  not_done : (t : Touch) (e : ActEnd V) (is : List Item) (s1 : Store) → refused t ≡ acted e is s1 → ⊥
  not_done (Settle id x c) e is s1 h = not_acted c e is s1 h
  not_done (Ask x) e is s1 h = not_placed e is s1 h
  not_done (Get x a n) e is s1 h = not_placed e is s1 h
  not_done (Put x a bs) e is s1 h = not_placed e is s1 h
  not_done (Bear x size kind declared) e is s1 h = not_placed e is s1 h
  not_done (Bury x) e is s1 h = not_placed e is s1 h
  not_done (Show x) e is s1 h = not_placed e is s1 h
  not_done (Find a) e is s1 h = not_placed e is s1 h
  not_done Take e is s1 h = not_placed e is s1 h
  not_done (Print to bs) e is s1 h = not_placed e is s1 h

  pub stepped : (b : Bool) (t : Touch) (i : Item) (a : Act V) (e : ActEnd V) (is : List Item) (s1 : Store)
      → (if b then refused t else touched i a) ≡ acted e is s1 → Stepped b i a e is s1
  stepped true t i a e is s1 h = absurd (not_done t e is s1 h)
  stepped false t i (Done w js s2) (gives v) is s1 h =
      let e0 : w ≡ v = cc in
      let e1 : i ∷ js ≡ is = cc in
      let e2 : s2 ≡ s1 = cc in
      record { went = refl; rest = js; items = sym e1; done = ap₂ (λ x y. Done x js y) e0 e2 }
  stepped false t i (Done w js s2) (finishes n) is s1 h = absurd (cc)
  stepped false t i (Ended n js s2) (gives v) is s1 h = absurd (cc)
  stepped false t i (Ended n js s2) (finishes m) is s1 h =
      let e0 : n ≡ m = cc in
      let e1 : i ∷ js ≡ is = cc in
      let e2 : s2 ≡ s1 = cc in
      record { went = refl; rest = js; items = sym e1; done = ap₂ (λ x y. Ended x js y) e0 e2 }
  stepped false t i (Raised d) e is s1 h = absurd (not_acted d e is s1 h)
  stepped false t i (Outside c n) e is s1 h = absurd (not_within c n e is s1 h)
  stepped false t i Unplaced e is s1 h = absurd (not_placed e is s1 h)

module _ (map : List Row) where
  clash_of : (i : Item) (js : List Item) → interferes_with map i js ≡ false → conflicts_with map i js ≡ false
  clash_of i [] h = refl
  clash_of i (j ∷ js) h = or_both _ _ (or_left _ _ (or_left _ _ h)) (clash_of i js (or_right _ _ h))

  free_if : (b : Bool) (f : Item → Bool) (it i : Item) (rest : Bool) → f i ≡ b → (f i ≡ true → interferes map it i ≡ true) → interferes map it i ≡ false
      → rest ≡ false → b || rest ≡ false
  free_if false f it i rest e g h r = r
  free_if true f it i rest e g h r = absurd (true≢false (sym (g e) ∙ h))

  free_of : (f : Item → Bool) (it : Item) (j : List Item) → ((i : Item) → f i ≡ true → interferes map it i ≡ true) → interferes_with map it j ≡ false
      → any_of f j ≡ false
  free_of f it [] g h = refl
  free_of f it (i ∷ j) g h = free_if (f i) f it i (any_of f j) refl (g i) (or_left _ _ h) (free_of f it j g (or_right _ _ h))

  read_bears : (x : ObjName) (a n : ℕ) (i : Item) → bears i x ≡ true → interferes map (Read x a n) i ≡ true
  read_bears x a n (Born y) h = h
  read_bears x a n _ h = absurd (cc)

  read_ends : (x : ObjName) (a n : ℕ) (i : Item) → ends_life i x ≡ true → interferes map (Read x a n) i ≡ true
  read_ends x a n (Dies y) h = h
  read_ends x a n _ h = absurd (cc)

  write_bears : (x : ObjName) (a n : ℕ) (i : Item) → bears i x ≡ true → interferes map (Write x a n) i ≡ true
  write_bears x a n (Born y) h = h
  write_bears x a n _ h = absurd (cc)

  born_bears : (x : ObjName) (i : Item) → bears i x ≡ true → interferes map (Born x) i ≡ true
  born_bears x (Born y) h = or_true' map (same_object x y) _ (same_flip map y x h)
  born_bears x _ h = absurd (cc)

  extra_of : (t : Touch) (j : List Item) → interferes_with map (item_of t) j ≡ false → Extra map t j
  extra_of (Get x a n) j h = (free_of _ (Read x a n) j (read_bears x a n) h, free_of _ (Read x a n) j (read_ends x a n) h)
  extra_of (Put x a bs) j h = free_of _ (Write x a (length bs)) j (write_bears x a (length bs)) h
  extra_of (Bear x size kind declared) j h = free_of _ (Born x) j (born_bears x) h
  extra_of _ j h = tt

  module _ (V : Type 0) where
    touched_acted : (i : Item) (e : ActEnd V) (is : List Item) (s1 : Store) → touched i (acted e is s1) ≡ acted e (i ∷ is) s1
    touched_acted i (gives v) is s1 = refl
    touched_acted i (finishes n) is s1 = refl

    go_on : (b : Bool) (t : Touch) (i : Item) (a : Act V) (e : ActEnd V) (is : List Item) (s1 : Store) → b ≡ false → a ≡ acted e is s1
        → (if b then refused t else touched i a) ≡ acted e (i ∷ is) s1
    go_on true t i a e is s1 h k = absurd (cc)
    go_on false t i a e is s1 h k = ap (touched i) k ∙ touched_acted i e is s1

    -- how an act without a touch ended: nothing changed, and it does the same in each store
    record Still (sc : Script V) (s : Store) (e : ActEnd V) (is : List Item) (s1 : Store) : Type 0 where
      same : s ≡ s1
      does : (u : Store) → run map sc u ≡ acted e is u

    still_give : (w : V) (s : Store) (e : ActEnd V) (is : List Item) (s1 : Store) → Done w [] s ≡ acted e is s1 → Still (Give w) s e is s1
    still_give w s (gives v) is s1 h =
        let e0 : w ≡ v = cc in
        let e1 : [] ≡ is = cc in
        record { same = cc; does = λ u. ap₂ (λ x y. Done x y u) e0 e1 }
    still_give w s (finishes n) is s1 h = absurd (cc)

    still_finish : (n : ℕ) (s : Store) (e : ActEnd V) (is : List Item) (s1 : Store) → Ended n (item.Ending ∷ []) s ≡ acted e is s1 → Still (Finish n) s e is s1
    still_finish n s (gives v) is s1 h = absurd (cc)
    still_finish n s (finishes m) is s1 h =
        let e0 : n ≡ m = cc in
        let e1 : item.Ending ∷ [] ≡ is = cc in
        record { same = cc; does = λ u. ap₂ (λ x y. Ended x y u) e0 e1 }

    still_same : (sc : Script V) (s u s1 : Store) (e : ActEnd V) (is j : List Item) → Still sc s e is s1 → Diff j s u
        → (u1 : Store) × (run map sc u ≡ acted e is u1) × Diff j s1 u1
    still_same sc s u s1 e is j st d = (u, st.does u, subst (λ z. Diff j z u) st.same d)

    -- an act ends in the same way with the same items, and changes the same, in a store that differs by what doesn't conflict
    pub script_same : (sc : Script V) (s u s1 : Store) (e : ActEnd V) (is j : List Item) → run map sc s ≡ acted e is s1 → Diff j s u
        → some_interference map is j ≡ false → (u1 : Store) × (run map sc u ≡ acted e is u1) × Diff j s1 u1
    script_same (Give w) s u s1 e is j h d fr = still_same (Give w) s u s1 e is j (still_give w s e is s1 h) d
    script_same (Raise c) s u s1 e is j h d fr = absurd (not_acted c e is s1 h)
    script_same (Finish n) s u s1 e is j h d fr = still_same (Finish n) s u s1 e is j (still_finish n s e is s1 h) d
    script_same (Exceed c n) s u s1 e is j h d fr = absurd (not_within c n e is s1 h)
    script_same Misplace s u s1 e is j h d fr = absurd (not_placed e is s1 h)
    script_same (Do t k) s u s1 e is j h d fr =
        let st = stepped (refuses t s) t (item_of t) (run map (k (answer map t s)) (left t s)) e is s1 h in
        let fr' : some_interference map (item_of t ∷ st.rest) j ≡ false = subst (λ z. some_interference map z j ≡ false) st.items fr in
        let here = or_left _ _ fr' in
        let cl = clash_of (item_of t) j here in
        let ex = extra_of t j here in
        let ea = same_answer map t s u j d cl ex in
        let er = same_refuses map t s u j d cl ex in
        let dl = left_diff map t s u j d cl ex in
        let ih = script_same (k (answer map t s)) (left t s) (left t u) s1 e st.rest j st.done dl (or_right _ _ fr') in
        let g = go_on (refuses t u) t (item_of t) (run map (k (answer map t u)) (left t u)) e st.rest ih.0 (sym er ∙ st.went)
        (subst (λ z. run map (k z) (left t u) ≡ acted e st.rest ih.0) ea ih.1) in
        (ih.0, subst (λ z. run map (Do t k) u ≡ acted e z ih.0) (sym st.items) g, ih.2)

    still_changes : (sc : Script V) (s s1 : Store) (e : ActEnd V) (is : List Item) → Still sc s e is s1 → Diff is s s1
    still_changes sc s s1 e is st = subst (λ z. Diff is s z) st.same (diff_refl is s)

    pub script_changes : (sc : Script V) (s s1 : Store) (e : ActEnd V) (is : List Item) → run map sc s ≡ acted e is s1 → Diff is s s1
    script_changes (Give w) s s1 e is h = still_changes (Give w) s s1 e is (still_give w s e is s1 h)
    script_changes (Raise c) s s1 e is h = absurd (not_acted c e is s1 h)
    script_changes (Finish n) s s1 e is h = still_changes (Finish n) s s1 e is (still_finish n s e is s1 h)
    script_changes (Exceed c n) s s1 e is h = absurd (not_within c n e is s1 h)
    script_changes Misplace s s1 e is h = absurd (not_placed e is s1 h)
    script_changes (Do t k) s s1 e is h =
        let st = stepped (refuses t s) t (item_of t) (run map (k (answer map t s)) (left t s)) e is s1 h in
        let a = diff_left (item_of t ∷ []) st.rest s (left t s) (changes map t s st.went) in
        let b = diff_right (item_of t ∷ []) st.rest (left t s) s1 (script_changes (k (answer map t s)) (left t s) s1 e st.rest st.done) in
        subst (λ z. Diff z s s1) (sym st.items) (diff_trans (item_of t ∷ st.rest) s (left t s) s1 a b)
