-- What acts leave so stays so, and what they create is counted.
use Rattle.std.proofs.Common.{◌≡◌, Bool, true, false, not, ◌&&◌, ◌||◌, if◌then◌else◌, List, [], ◌∷◌, ◌++◌, Option, Some, None, is_some, ◌⊎◌, inl, inr}
use Rattle.std.proofs.Common.{refl, sym, ap, ◌∙◌, subst, true≢false, append_assoc, append-nil}
use Rattle.ub_base.specs.declared.names.Event.{Event}
use Rattle.ub_base.specs.declared.names.ObjName.{ObjName}
use Rattle.ub_base.specs.declared.names.Item.{Item}
use Rattle.ub_base.specs.declared.names.Item.TheVariants.{Born, Narrow}
use Rattle.ub_base.specs.Names.{same_event, same_object}
use Rattle.ub_base.proofs.NameLemmas.{same_object_is, same_event_is}
use Rattle.addr_map.specs.declared.map.Row.{Row}
use Rattle.exposure.specs.Cells.{is_other}
use Rattle.mem_spec.specs.Store.{Life, Store, dead}
use Rattle.mem_spec.specs.Script.{Touch, Ask, Get, Put, Bear, Bury, Show, Find, Settle, Take, Print, item_of, refuses, answer, left, Script, Give, Raise}
use Rattle.mem_spec.specs.Script.{Finish, Exceed, Misplace, Do, Done, run}
use Rattle.mem_laws.specs.Frame.{gives, bears, shows, any_of}
use Rattle.mem_laws.proofs.Scripts.{stepped}
use Rattle.order_laws.specs.StoreParts.{Fact, was_shown, was_settled, settles_to, says, same_truth, is_the, is_so}
use Rattle.order_laws.proofs.StoreMeet.{shown_joined, by_and}

-- of what the items say
abbrev pub Holds : List Item → Store → Type 0
Holds is s = (x : Fact) → says is x ≡ true → is_so x s ≡ true

abbrev step : Item → ObjName → Bool → Bool
step i x b = not (bears i x) && (shows i x || b)

last_shown : (j : List Item) (i : Item) (x : ObjName) → says (j ++ i ∷ []) (was_shown x) ≡ true → step i x (says j (was_shown x)) ≡ true
last_shown j i x h = sym (shown_joined [] j (i ∷ []) x false) ∙ h

any_last : (f : Item → Bool) (j : List Item) (i : Item) → any_of f (j ++ i ∷ []) ≡ true → (f i ≡ true) ⊎ (any_of f j ≡ true)
any_last f [] i h = go (f i) refl h
  where
    go : (b : Bool) → f i ≡ b → (b || false) ≡ true → (f i ≡ true) ⊎ (any_of f [] ≡ true)
    go true e h = inl e
    go false e h = absurd (cc)
any_last f (k ∷ j) i h = go (f k) h (any_last f j i)
  where
    go : (b : Bool) → (b || any_of f (j ++ i ∷ [])) ≡ true → (any_of f (j ++ i ∷ []) ≡ true → (f i ≡ true) ⊎ (any_of f j ≡ true))
        → (f i ≡ true) ⊎ ((b || any_of f j) ≡ true)
    go true h later = inr refl
    go false h later = later h

same_truth_self : (b : Bool) → same_truth b b ≡ true
same_truth_self true = refl
same_truth_self false = refl

still_some : (o : Option Life) → is_some (dead o) ≡ is_some o
still_some None = refl
still_some (Some l) = refl

-- where the item neither bears nor shows, and the touch changes neither life nor exposure
abbrev Shown : List Item → Touch → Store → ObjName → Type 0
Shown j t s x = says (j ++ item_of t ∷ []) (was_shown x) ≡ true → is_so (was_shown x) (left t s) ≡ true

shown_holds : (t : Touch) (s : Store) (j : List Item) (x : ObjName) → (says j (was_shown x) ≡ true → is_so (was_shown x) s ≡ true) → Shown j t s x
shown_holds (Bear y size kind declared) s j x h k = go (same_object y x) (last_shown j (Born y) x k)
  where
    go : (b : Bool) → (not b && (false || says j (was_shown x))) ≡ true
        → same_truth (if b then false else s.exposed x) (is_some (if b then Some (record { live = true; kind = kind; declared = declared }) else s.life x))
        ≡ true
    go true e = absurd (cc)
    go false e = h e
shown_holds (Bury y) s j x h k = go (same_object y x) refl
  where
    go : (b : Bool) → same_object y x ≡ b → same_truth (s.exposed x) (is_some (if b then dead (s.life y) else s.life x)) ≡ true
    go true e = ap (same_truth (s.exposed x)) (subst (λ z. is_some (dead (s.life y)) ≡ is_some (s.life z)) (same_object_is y x e) (still_some (s.life y)))
        ∙ h (last_shown j (item_of (Bury y)) x k)
    go false e = h (last_shown j (item_of (Bury y)) x k)
shown_holds (Show y) s j x h k = go (same_object y x) refl (last_shown j (item_of (Show y)) x k)
  where
    go : (b : Bool) → same_object y x ≡ b → (b || says j (was_shown x)) ≡ true
        → same_truth (if b then is_some (s.life y) else s.exposed x) (is_some (s.life x)) ≡ true
    go true e n = subst (λ z. same_truth (is_some (s.life y)) (is_some (s.life z)) ≡ true) (same_object_is y x e) (same_truth_self (is_some (s.life y)))
    go false e n = h n
shown_holds (Ask y) s j x h k = h (last_shown j (item_of (Ask y)) x k)
shown_holds (Get y a n) s j x h k = h (last_shown j (item_of (Get y a n)) x k)
shown_holds (Put y a bs) s j x h k = h (last_shown j (item_of (Put y a bs)) x k)
shown_holds (Find a) s j x h k = h (last_shown j (item_of (Find a)) x k)
shown_holds (Settle e y c) s j x h k = h (last_shown j (item_of (Settle e y c)) x k)
shown_holds Take s j x h k = h (last_shown j (item_of Take) x k)
shown_holds (Print to bs) s j x h k = h (last_shown j (item_of (Print to bs)) x k)

not_other : (o : Option ObjName) (x y : ObjName) → is_the o x ≡ true → is_other o y ≡ false → same_object y x ≡ true
not_other None x y h k = absurd (cc)
not_other (Some z) x y h k = go (same_object z y) refl k
  where
    go : (b : Bool) → same_object z y ≡ b → not b ≡ false → same_object y x ≡ true
    go true e n = subst (λ w. same_object w x ≡ true) (same_object_is z y e) h
    go false e n = absurd (cc)

none_settled : (f : Item → Bool) (i : Item) (j : List Item) → f i ≡ false → any_of f (j ++ i ∷ []) ≡ true → any_of f j ≡ true
none_settled f i j h k = go (any_last f j i k)
  where
    go : (f i ≡ true) ⊎ (any_of f j ≡ true) → any_of f j ≡ true
    go (inl e) = absurd (true≢false (sym e ∙ h))
    go (inr e) = e

settled_holds : (t : Touch) (s : Store) (j : List Item) (e : Event) (x : ObjName) → refuses t s ≡ false
    → (says j (was_settled e x) ≡ true → is_so (was_settled e x) s ≡ true)
    → says (j ++ item_of t ∷ []) (was_settled e x) ≡ true → is_so (was_settled e x) (left t s) ≡ true
settled_holds (Settle d y c) s j e x r h k = go (same_event d e) refl (any_last (λ i. settles_to i e x) j (Narrow d y) k)
  where
    go : (b : Bool) → same_event d e ≡ b → ((same_event d e && same_object y x) ≡ true) ⊎ (any_of (λ i. settles_to i e x) j ≡ true)
        → is_the (if b then Some y else s.kept e) x ≡ true
    go true q (inl n) = (by_and [] (same_event d e) (same_object y x) n).1
    go true q (inr n) = not_other (s.kept e) x y (h n) (subst (λ z. is_other (s.kept z) y ≡ false) (same_event_is d e q) r)
    go false q (inl n) = absurd (true≢false (sym (by_and [] (same_event d e) (same_object y x) n).0 ∙ q))
    go false q (inr n) = h n
settled_holds (Bear y size kind declared) s j e x r h k = h (none_settled (λ i. settles_to i e x) (Born y) j refl k)
settled_holds (Bury y) s j e x r h k = h (none_settled (λ i. settles_to i e x) (item_of (Bury y)) j refl k)
settled_holds (Show y) s j e x r h k = h (none_settled (λ i. settles_to i e x) (item_of (Show y)) j refl k)
settled_holds (Ask y) s j e x r h k = h (none_settled (λ i. settles_to i e x) (item_of (Ask y)) j refl k)
settled_holds (Get y a n) s j e x r h k = h (none_settled (λ i. settles_to i e x) (item_of (Get y a n)) j refl k)
settled_holds (Put y a bs) s j e x r h k = h (none_settled (λ i. settles_to i e x) (item_of (Put y a bs)) j refl k)
settled_holds (Find a) s j e x r h k = h (none_settled (λ i. settles_to i e x) (item_of (Find a)) j refl k)
settled_holds Take s j e x r h k = h (none_settled (λ i. settles_to i e x) (item_of Take) j refl k)
settled_holds (Print to bs) s j e x r h k = h (none_settled (λ i. settles_to i e x) (item_of (Print to bs)) j refl k)

-- one touch
pub touch_holds : (t : Touch) (s : Store) (j : List Item) → refuses t s ≡ false → Holds j s → Holds (j ++ item_of t ∷ []) (left t s)
touch_holds t s j r h (was_shown x) k = shown_holds t s j x (h (was_shown x)) k
touch_holds t s j r h (was_settled e x) k = settled_holds t s j e x r (h (was_settled e x)) k

module _ {V : Type 0} (map : List Row) where
  -- what was left so by an act that gives a value
  pub run_holds : (sc : Script V) (s s1 : Store) (v : V) (is j : List Item) → run map sc s ≡ Done v is s1 → Holds j s → Holds (j ++ is) s1
  run_holds (Give w) s s1 v is j h k =
      let e : s ≡ s1 = cc in
      let n : [] ≡ is = cc in
      subst (λ z. Holds (j ++ z) s1) n (subst (λ z. Holds z s1) (sym (append-nil j)) (subst (λ z. Holds j z) e k))
  run_holds (Raise c) s s1 v is j h k = absurd (cc)
  run_holds (Finish n) s s1 v is j h k = absurd (cc)
  run_holds (Exceed c n) s s1 v is j h k = absurd (cc)
  run_holds Misplace s s1 v is j h k = absurd (cc)
  run_holds (Do t f) s s1 v is j h k =
      let st = stepped (refuses t s) t (item_of t) (run map (f (answer map t s)) (left t s)) (gives v) is s1 h in
      let a = run_holds (f (answer map t s)) (left t s) s1 v st.rest (j ++ item_of t ∷ []) st.done (touch_holds t s j st.went k) in
      subst (λ z. Holds (j ++ z) s1) (sym st.items) (subst (λ z. Holds z s1) (append_assoc j (item_of t ∷ []) st.rest) a)
