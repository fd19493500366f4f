-- Objects in a list against objects by their names.
use Rattle.std.proofs.Common.{
  Bor,
  ◌⊎◌,
  inl,
  inr,
  ◌≡◌,
  ℕ,
  zero,
  suc,
  ◌<◌,
  ◌≤◌,
  Bool,
  true,
  false,
  cond,
  refl,
  sym,
  ap,
  ◌∙◌,
  subst,
  arith,
  List,
  [],
  ◌∷◌,
  ◌++◌,
  length,
  get_or,
  set,
  slice_get,
  Option,
  Some,
  None,
}
use Rattle.std.specs.Option.{option_and_then, option_copied, IfSome}
use Rattle.std.specs.HashMap as hash
use Rattle.std.specs.HashMap.{HashMap}
use Rattle.std.specs.Map.{lookup}
use Rattle.ub_base.specs.declared.names.ObjName.{ObjName}
use Rattle.ub_base.specs.Names.{same_object}
use Rattle.ub_base.proofs.NameLemmas.{same_object_is, same_object_refl}
use Rattle.addr_map.specs.Sound.{object_eq}
use Rattle.addr_map.proofs.RowLists.{eq_object}
use Rattle.mem_objects.specs.Held.{Held, held_of, changed, emptied, killed, uncovered, name_at, Fits, AllFit, IsIndexed}

-- an object is at most at one place
abbrev pub Once : List Held → ObjName → ℕ → Type 0
Once hs x k = (j : ℕ) → name_at hs j ≡ Some x → j ≡ k

abbrev pub Nowhere : List Held → ObjName → Type 0
Nowhere hs x = (j : ℕ) → name_at hs j ≡ Some x → ⊥

some_is : {X : Type 0} (a b : X) → Some a ≡ Some b → a ≡ b
some_is a b h = cc

pub named_at : (hs : List Held) (k : ℕ) (h : Held) → slice_get hs k ≡ Some h → name_at hs k ≡ Some h.name
named_at [] k h e = absurd (cc)
named_at (g ∷ hs) zero h e = ap (λ (x : Held). Some x.name) (some_is g h e)
named_at (g ∷ hs) (suc k) h e = named_at hs k h e

pub there_at : (hs : List Held) (k : ℕ) (x : ObjName) → name_at hs k ≡ Some x → k < length hs
there_at [] k x e = absurd (cc)
there_at (h ∷ hs) zero x e = omega arith
there_at (h ∷ hs) (suc k) x e = omega (arith, there_at hs k x e)

same_if : (x y : ObjName) → x ≡ y → same_object x y ≡ true
same_if x y e = subst (λ (z : ObjName). same_object x z ≡ true) e (same_object_refl x)

other_if : (t : Bool) (x y : ObjName) → same_object x y ≡ t → (x ≡ y → ⊥) → t ≡ false
other_if true x y e never = absurd (never (same_object_is x y e))
other_if false x y e never = refl

pred_is : (j k : ℕ) → suc j ≡ suc k → j ≡ k
pred_is j k e = omega arith

not_first : (k : ℕ) → 0 ≡ suc k → ⊥
not_first k e = omega arith

-- the object at the place of a name is the object of that name
pub found_is : (hs : List Held) (k : ℕ) (x : ObjName) → name_at hs k ≡ Some x → Once hs x k → held_of hs x ≡ slice_get hs k
found_is [] k x e once = absurd (cc)
found_is (h ∷ hs) zero x e once = rw (same_if h.name x (some_is h.name x e)) refl
found_is (h ∷ hs) (suc k) x e once =
    rw (other_if (same_object h.name x) h.name x refl (λ same. not_first k (once 0 (ap Some same))))
    (found_is hs k x e (λ j at. pred_is j k (once (suc j) at)))

pub none_is : (hs : List Held) (x : ObjName) → Nowhere hs x → held_of hs x ≡ None
none_is [] x never = refl
none_is (h ∷ hs) x never =
    rw (other_if (same_object h.name x) h.name x refl (λ same. never 0 (ap Some same))) (none_is hs x (λ j at. never (suc j) at))

pub changed_none : (f : Held → Held) (hs : List Held) (x : ObjName) → Nowhere hs x → changed f x hs ≡ hs
changed_none f [] x never = refl
changed_none f (h ∷ hs) x never =
    rw (other_if (same_object h.name x) h.name x refl (λ same. never 0 (ap Some same)), changed_none f hs x (λ j at. never (suc j) at)) refl

-- a change by name is one at the place
pub changed_is : (f : Held → Held) (hs : List Held) (k : ℕ) (x : ObjName) (d : Held) → name_at hs k ≡ Some x → Once hs x k →
    changed f x hs ≡ set hs k (f (get_or hs k d))
changed_is f [] k x d e once = absurd (cc)
changed_is f (h ∷ hs) zero x d e once =
    rw (same_if h.name x (some_is h.name x e), changed_none f hs x (λ j at. not_first j (sym (once (suc j) at)))) refl
changed_is f (h ∷ hs) (suc k) x d e once =
    rw (
      other_if (same_object h.name x) h.name x refl (λ same. not_first k (once 0 (ap Some same))),
      changed_is f hs k x d e (λ j at. pred_is j k (once (suc j) at)),
    ) refl

name_split : (b : Bool) (f : Held → Held) (h : Held) → (f h).name ≡ h.name → (cond b (f h) h).name ≡ h.name
name_split true f h e = e
name_split false f h e = refl

pub changed_names : (f : Held → Held) (hs : List Held) (x : ObjName) (k : ℕ) → ((h : Held) → (f h).name ≡ h.name) → name_at (changed f x hs) k ≡ name_at hs k
changed_names f [] x k names = refl
changed_names f (h ∷ hs) x zero names = ap Some (name_split (same_object h.name x) f h (names h))
changed_names f (h ∷ hs) x (suc k) names = changed_names f hs x k names

fit_split : (b : Bool) (f : Held → Held) (h : Held) → Fits h → Fits (f h) → Fits (cond b (f h) h)
fit_split true f h old new = new
fit_split false f h old new = old

pub changed_fit : (f : Held → Held) (hs : List Held) (x : ObjName) → ((h : Held) → Fits h → Fits (f h)) → AllFit hs → AllFit (changed f x hs)
changed_fit f [] x fits all = tt
changed_fit f (h ∷ hs) x fits all = (fit_split (same_object h.name x) f h all.0 (fits h all.0), changed_fit f hs x fits all.1)

pub once_at : (indices : ObjName → Option ℕ) (hs : List Held) (x : ObjName) (k : ℕ) → IsIndexed indices hs → name_at hs k ≡ Some x → Once hs x k
once_at indices hs x k s e = λ j at. some_is j k (sym (s.found x j at) ∙ s.found x k e)

none_some : (j : ℕ) (o : Option ℕ) → o ≡ None → o ≡ Some j → ⊥
none_some j o e f = cc

none_held : (h : Held) (o : Option Held) → o ≡ None → o ≡ Some h → ⊥
none_held h o e f = cc

pub nowhere_at : (indices : ObjName → Option ℕ) (hs : List Held) (x : ObjName) → IsIndexed indices hs → indices x ≡ None → Nowhere hs x
nowhere_at indices hs x s e = λ j at. none_some j (indices x) e (s.found x j at)

pub indexed_changed : (f : Held → Held) (indices : ObjName → Option ℕ) (hs : List Held) (x : ObjName) → ((h : Held) → (f h).name ≡ h.name) →
    ((h : Held) → Fits h → Fits (f h)) → IsIndexed indices hs → IsIndexed indices (changed f x hs)
indexed_changed f indices hs x names fits s = record {
  there = λ y k e. changed_names f hs x k names ∙ s.there y k e;
  found = λ y k e. s.found y k (sym (changed_names f hs x k names) ∙ e);
  fit = changed_fit f hs x fits s.fit;
}

pub look_up_is : (indices : ObjName → Option ℕ) (hs : List Held) (x : ObjName) (at : Option ℕ) → IsIndexed indices hs → indices x ≡ at →
    held_of hs x ≡ option_and_then (λ k. slice_get hs k) at
look_up_is indices hs x None s e = none_is hs x (nowhere_at indices hs x s e)
look_up_is indices hs x (Some k) s e = found_is hs k x (s.there x k e) (once_at indices hs x k s (s.there x k e))

pub set_changed : (f : Held → Held) (hs : List Held) (k : ℕ) (x : ObjName) (d new : Held) → name_at hs k ≡ Some x → Once hs x k → d ≡ get_or hs k d →
    new ≡ f d → set hs k new ≡ changed f x hs
set_changed f hs k x d new e once at is =
    sym (changed_is f hs k x d e once ∙ ap (λ (h : Held). set hs k (f h)) (sym at) ∙ ap (λ (h : Held). set hs k h) (sym is))

pub indexed_set : (f : Held → Held) (indices : ObjName → Option ℕ) (hs : List Held) (k : ℕ) (x : ObjName) (d new : Held) →
    ((h : Held) → (f h).name ≡ h.name) → ((h : Held) → Fits h → Fits (f h)) → IsIndexed indices hs → name_at hs k ≡ Some x → d ≡ get_or hs k d → new ≡ f d →
    IsIndexed indices (set hs k new)
indexed_set f indices hs k x d new names fits s e at is =
    subst (λ (l : List Held). IsIndexed indices l) (sym (set_changed f hs k x d new e (once_at indices hs x k s e) at is))
    (indexed_changed f indices hs x names fits s)

absent_parts : (b : Bool) (h : Held) (rest : Option Held) → cond b (Some h) rest ≡ None → (b ≡ false) × (rest ≡ None)
absent_parts true h rest e = absurd (cc)
absent_parts false h rest e = (refl, e)

pub changed_absent : (f : Held → Held) (hs : List Held) (x : ObjName) → held_of hs x ≡ None → changed f x hs ≡ hs
changed_absent f [] x e = refl
changed_absent f (h ∷ hs) x e =
    let parts = absent_parts (same_object h.name x) h (held_of hs x) e in
    rw (parts.0, changed_absent f hs x parts.1) refl

pub emptied_fits : (h : Held) → Fits h → Fits (emptied h)
emptied_fits h fits = (fits.0, omega arith)

pub killed_fits : (h : Held) → Fits h → Fits (killed h)
killed_fits h fits = (fits.0, omega arith)

pub uncovered_fits : (h : Held) → Fits h → Fits (uncovered h)
uncovered_fits h fits = fits

-- ---- an object at the end
pub added_name : (hs : List Held) (h : Held) (k : ℕ) (x : ObjName) → name_at (hs ++ h ∷ []) k ≡ Some x → (name_at hs k ≡ Some x) ⊎
    ((k ≡ length hs) × (h.name ≡ x))
added_name [] h zero x e = inr (refl, some_is h.name x e)
added_name [] h (suc k) x e = absurd (cc)
added_name (g ∷ hs) h zero x e = inl e
added_name (g ∷ hs) h (suc k) x e = added_next (added_name hs h k x e)
  where
    added_next : (name_at hs k ≡ Some x) ⊎ ((k ≡ length hs) × (h.name ≡ x)) → (name_at hs k ≡ Some x) ⊎ ((suc k ≡ suc (length hs)) × (h.name ≡ x))
    added_next (inl a) = inl a
    added_next (inr b) = inr (omega (arith, b.0), b.1)

pub added_old : (hs : List Held) (h : Held) (k : ℕ) (x : ObjName) → name_at hs k ≡ Some x → name_at (hs ++ h ∷ []) k ≡ Some x
added_old [] h k x e = absurd (cc)
added_old (g ∷ hs) h zero x e = e
added_old (g ∷ hs) h (suc k) x e = added_old hs h k x e

pub added_last : (hs : List Held) (h : Held) → name_at (hs ++ h ∷ []) (length hs) ≡ Some h.name
added_last [] h = refl
added_last (g ∷ hs) h = added_last hs h

pub added_fit : (hs : List Held) (h : Held) → AllFit hs → Fits h → AllFit (hs ++ h ∷ [])
added_fit [] h all fits = (fits, tt)
added_fit (g ∷ hs) h all fits = (all.0, added_fit hs h all.1 fits)

-- ---- each object fits
abbrev pub FitsIn : Option Held → Type 0
FitsIn None = Unit {0}
FitsIn (Some h) = Fits h

pub fits_at : (hs : List Held) (k : ℕ) → AllFit hs → FitsIn (slice_get hs k)
fits_at [] k all = tt
fits_at (h ∷ hs) zero all = all.0
fits_at (h ∷ hs) (suc k) all = fits_at hs k all.1

fits_seen : (r : Option (Bor Held)) (o : Option Held) → option_copied r ≡ o → FitsIn o → IfSome r (λ object. Fits object.now)
fits_seen None o e fits = tt
fits_seen (Some b) None e fits = absurd (cc)
fits_seen (Some b) (Some h) e fits = subst (λ (g : Held). Fits g) (sym (some_is b.now h e)) fits

pub fits_got : (hs : List Held) (k : ℕ) (r : Option (Bor Held)) → AllFit hs → option_copied r ≡ slice_get hs k → IfSome r (λ object. Fits object.now)
fits_got hs k r all e = fits_seen r (slice_get hs k) e (fits_at hs k all)

-- ---- an object at a place is replaced by one of its name
put_name : (hs : List Held) (k j : ℕ) (d new : Held) → new.name ≡ (get_or hs k d).name → name_at (set hs k new) j ≡ name_at hs j
put_name [] k j d new e = refl
put_name (h ∷ hs) zero zero d new e = ap Some e
put_name (h ∷ hs) zero (suc j) d new e = refl
put_name (h ∷ hs) (suc k) zero d new e = refl
put_name (h ∷ hs) (suc k) (suc j) d new e = put_name hs k j d new e

put_fit : (hs : List Held) (k : ℕ) (new : Held) → Fits new → AllFit hs → AllFit (set hs k new)
put_fit [] k new fits all = tt
put_fit (h ∷ hs) zero new fits all = (fits, all.1)
put_fit (h ∷ hs) (suc k) new fits all = (all.0, put_fit hs k new fits all.1)

pub indexed_put : (indices : ObjName → Option ℕ) (hs : List Held) (k : ℕ) (d new : Held) → IsIndexed indices hs → new.name ≡ (get_or hs k d).name → Fits new →
    IsIndexed indices (set hs k new)
indexed_put indices hs k d new s e fits = record {
  there = λ y j g. put_name hs k j d new e ∙ s.there y j g;
  found = λ y j g. s.found y j (sym (put_name hs k j d new e) ∙ g);
  fit = put_fit hs k new fits s.fit;
}

pub got_is : (hs : List Held) (k : ℕ) (h d : Held) → slice_get hs k ≡ Some h → get_or hs k d ≡ h
got_is [] k h d e = absurd (cc)
got_is (g ∷ hs) zero h d e = some_is g h e
got_is (g ∷ hs) (suc k) h d e = got_is hs k h d e

pub gone_at : (hs : List Held) (k : ℕ) → length hs ≤ k → slice_get hs k ≡ None
gone_at [] k e = refl
gone_at (g ∷ hs) zero e = absurd (omega arith)
gone_at (g ∷ hs) (suc k) e = gone_at hs k (omega arith)

pub not_gone : {A : Type 0} (hs : List Held) (k : ℕ) (h : Held) → length hs ≤ k → slice_get hs k ≡ Some h → A
not_gone hs k h e f = absurd (none_held h (slice_get hs k) (gone_at hs k e) f)

-- ---- a new object at the end
first_none : (b : Bool) (h : Held) (rest : Option Held) → cond b (Some h) rest ≡ None → b ≡ true → ⊥
first_none true h rest e t = absurd (cc)
first_none false h rest e t = cc

nowhere_from : (hs : List Held) (x : ObjName) → held_of hs x ≡ None → Nowhere hs x
nowhere_from [] x e j at = absurd (cc)
nowhere_from (h ∷ hs) x e zero at = first_none (same_object h.name x) h (held_of hs x) e (same_if h.name x (some_is h.name x at))
nowhere_from (h ∷ hs) x e (suc j) at = nowhere_from hs x (absent_parts (same_object h.name x) h (held_of hs x) e).1 j at

-- a place at a name
abbrev pub Places : (ObjName → Option ℕ) → (ObjName → Option ℕ) → ObjName → ℕ → Type 0
Places old new x n = (y : ObjName) → new y ≡ cond (object_eq x y) (Some n) (old y)

there_split : (b : Bool) (hs : List Held) (h : Held) (x y : ObjName) (k : ℕ) (rest : Option ℕ) → same_object x y ≡ b → h.name ≡ x →
    cond b (Some (length hs)) rest ≡ Some k → (rest ≡ Some k → name_at hs k ≡ Some y) → name_at (hs ++ h ∷ []) k ≡ Some y
there_split true hs h x y k rest same name e old =
    subst (λ (j : ℕ). name_at (hs ++ h ∷ []) j ≡ Some y) (some_is (length hs) k e) (added_last hs h ∙ ap Some (name ∙ same_object_is x y same))
there_split false hs h x y k rest same name e old = added_old hs h k y (old e)

found_split : (b : Bool) (hs : List Held) (h : Held) (x y : ObjName) (k : ℕ) (rest : Option ℕ) → same_object x y ≡ b → h.name ≡ x → Nowhere hs x →
    (name_at hs k ≡ Some y) ⊎ ((k ≡ length hs) × (h.name ≡ y)) → (name_at hs k ≡ Some y → rest ≡ Some k) → cond b (Some (length hs)) rest ≡ Some k
found_split true hs h x y k rest same name never (inl e) old = absurd (never k (e ∙ ap Some (sym (same_object_is x y same))))
found_split false hs h x y k rest same name never (inl e) old = old e
found_split true hs h x y k rest same name never (inr e) old = ap Some (sym e.0)
found_split false hs h x y k rest other name never (inr e) old = absurd (not_same (same_if x y (sym name ∙ e.1)) other)
  where
    not_same : same_object x y ≡ true → same_object x y ≡ false → ⊥
    not_same t f = cc

pub indexed_added : (old new : ObjName → Option ℕ) (hs : List Held) (h : Held) (n : ℕ) → IsIndexed old hs → Places old new h.name n → n ≡ length hs →
    held_of hs h.name ≡ None → Fits h → IsIndexed new (hs ++ h ∷ [])
indexed_added old new hs h n s places is none fits =
    let at : (y : ObjName) → new y ≡ cond (same_object h.name y) (Some (length hs)) (old y) = λ y.
    places y ∙ ap (λ (b : Bool). cond b (Some n) (old y)) (eq_object h.name y) ∙ ap
    (λ (m : ℕ). cond (same_object h.name y) (Some m) (old y)) is in
    record {
      there = λ y k e. there_split (same_object h.name y) hs h h.name y k (old y) refl refl (sym (at y) ∙ e) (s.there y k);
      found = λ y k e. at y ∙ found_split (same_object h.name y) hs h h.name y k (old y) refl refl (nowhere_from hs h.name none)
          (added_name hs h k y e) (s.found y k);
      fit = added_fit hs h s.fit fits;
    }

pub indexed_same : {S : Type 0} (old new : HashMap ObjName ℕ S) (hs : List Held) → new.entries ≡ old.entries → IsIndexed (hash.get object_eq old) hs →
    IsIndexed (hash.get object_eq new) hs
indexed_same old new hs e s = subst (λ (es : List (ObjName × ℕ)). IsIndexed (λ y. lookup (object_eq y) es) hs) (sym e) s
