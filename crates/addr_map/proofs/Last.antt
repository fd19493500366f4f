-- The last row that begins early enough.
use Rattle.std.proofs.Common.{◌≡◌, ℕ, ◌+◌, ◌-◌, ◌≤◌, ◌<◌, Bool, true, false, cond, refl, sym, ap, ◌∙◌, subst, arith, List, [], ◌∷◌, ◌++◌, Some, None, Option}
use Rattle.std.specs.Prelude.{◌==◌, ◌^◌, nat_lt, nat_le, is_some}
use Rattle.std.specs.List.{filter}
use Rattle.std.proofs.lemmas.Bool.Decides.{nat_tests}
use Rattle.ub_base.specs.declared.names.ObjName.{ObjName}
use Rattle.addr_map.specs.declared.map.Row.{Row}
use Rattle.addr_map.specs.Rows.{first_row, contains, is_past, overlaps}
use Rattle.addr_map.specs.Sound.{rows_in, Keyed, Above, Apart, AllSized, EachHeld, or_else, last_row, inside_of, ending_of, reaches}
use Rattle.addr_map.specs.Rows.{covers, past}
use Rattle.addr_map.proofs.RowLists.{size_of_lawful, end_of_lawful}

cons_is : (e f : ℕ × Row) (es fs : List (ℕ × Row)) → e ∷ es ≡ f ∷ fs → (e ≡ f) × (es ≡ fs)
cons_is e f es fs h = (cc, cc)

none_if : (b : Bool) (e : ℕ × Row) (es : List (ℕ × Row)) (r : Row) (rest : Option Row) → cond b (e ∷ es) es ≡ [] → rest ≡ None →
    (b ≡ true → ⊥) → cond b (or_else rest r) rest ≡ None
none_if true e es r rest h n never = absurd (never refl)
none_if false e es r rest h n never = n

kept_none : (b : Bool) (e : ℕ × Row) (es : List (ℕ × Row)) → cond b (e ∷ es) es ≡ [] → (b ≡ true → ⊥) × (es ≡ [])
kept_none true e es h = absurd (cc)
kept_none false e es h = (λ t. absurd (cc), h)

pub last_none : (test : ℕ → Bool) (es : List (ℕ × Row)) → Keyed es → filter (λ e. test e.0) es ≡ [] → last_row test (rows_in es) ≡ None
last_none test [] keyed h = refl
last_none test (e ∷ es) keyed h =
    let parts = kept_none (test e.0) e (filter (λ e. test e.0) es) h in
    subst (λ (n : ℕ). cond (test n) (or_else (last_row test (rows_in es)) e.1) (last_row test (rows_in es)) ≡ None) (sym keyed.0)
    (none_if (test e.0) e (filter (λ e. test e.0) es) e.1 (last_row test (rows_in es)) h (last_none test es keyed.1 parts.1) parts.0)

last_step : (b : Bool) (f : ℕ × Row) (fs t : List (ℕ × Row)) (e : ℕ × Row) (rest : Option Row) → cond b (f ∷ fs) fs ≡ t ++ e ∷ [] →
    ((u : List (ℕ × Row)) → fs ≡ u ++ e ∷ [] → rest ≡ Some e.1) → (fs ≡ [] → rest ≡ None) → cond b (or_else rest f.1) rest ≡ Some e.1
last_step true f fs [] e rest h some none =
    let parts : (f ≡ e) × (fs ≡ []) = cons_is f e fs [] h in
    rw (none parts.1) (ap (λ (x : ℕ × Row). Some x.1) parts.0)
last_step true f fs (g ∷ u) e rest h some none =
    let parts : (f ≡ g) × (fs ≡ u ++ e ∷ []) = cons_is f g fs (u ++ e ∷ []) h in
    rw (some u parts.1) refl
last_step false f fs t e rest h some none = some t h

not_ended : (t : List (ℕ × Row)) (e : ℕ × Row) (o : Option Row) → [] ≡ t ++ e ∷ [] → o ≡ Some e.1
not_ended [] e o h = absurd (cc)
not_ended (g ∷ t) e o h = absurd (cc)

pub last_some : (test : ℕ → Bool) (es t : List (ℕ × Row)) (e : ℕ × Row) → Keyed es → filter (λ f. test f.0) es ≡ t ++ e ∷ [] →
    last_row test (rows_in es) ≡ Some e.1
last_some test [] t e keyed h = not_ended t e None h
last_some test (f ∷ es) t e keyed h =
    subst (λ (n : ℕ). cond (test n) (or_else (last_row test (rows_in es)) f.1) (last_row test (rows_in es)) ≡ Some e.1) (sym keyed.0)
    (last_step (test f.0) f (filter (λ f. test f.0) es) t e (last_row test (rows_in es)) h (λ u g. last_some test es u e keyed.1 g)
    (λ g. last_none test es keyed.1 g))

first_step : (b : Bool) (f : ℕ × Row) (fs : List (ℕ × Row)) (e : ℕ × Row) (t : List (ℕ × Row)) (rest : Option Row) → cond b (f ∷ fs) fs ≡ e ∷ t →
    (fs ≡ e ∷ t → rest ≡ Some e.1) → cond b (Some f.1) rest ≡ Some e.1
first_step true f fs e t rest h more = ap (λ (x : ℕ × Row). Some x.1) (cons_is f e fs t h).0
first_step false f fs e t rest h more = more h

-- the first row whose base passes the test
pub first_some : (test : ℕ → Bool) (es : List (ℕ × Row)) (e : ℕ × Row) (t : List (ℕ × Row)) → Keyed es → filter (λ f. test f.0) es ≡ e ∷ t →
    first_row (λ r. test r.base) (rows_in es) ≡ Some e.1
first_some test [] e t keyed h = absurd (cc)
first_some test (f ∷ es) e t keyed h =
    subst (λ (n : ℕ). cond (test n) (Some f.1) (first_row (λ r. test r.base) (rows_in es)) ≡ Some e.1) (sym keyed.0)
    (first_step (test f.0) f (filter (λ f. test f.0) es) e t (first_row (λ r. test r.base) (rows_in es)) h (λ g. first_some test es e t keyed.1 g))

first_none_step : (b : Bool) (r : Row) (rest : Option Row) → (b ≡ true → ⊥) → rest ≡ None → cond b (Some r) rest ≡ None
first_none_step true r rest never h = absurd (never refl)
first_none_step false r rest never h = h

pub first_none : (test : ℕ → Bool) (es : List (ℕ × Row)) → Keyed es → filter (λ f. test f.0) es ≡ [] → first_row (λ r. test r.base) (rows_in es) ≡ None
first_none test [] keyed h = refl
first_none test (f ∷ es) keyed h =
    let parts = kept_none (test f.0) f (filter (λ f. test f.0) es) h in
    subst (λ (n : ℕ). cond (test n) (Some f.1) (first_row (λ r. test r.base) (rows_in es)) ≡ None) (sym keyed.0)
    (first_none_step (test f.0) f.1 (first_row (λ r. test r.base) (rows_in es)) parts.0 (first_none test es keyed.1 parts.1))

pub record IsLater (test : ℕ → Bool) (n : ℕ) (s : Row) : Type 0 where
  pub passes : test s.base ≡ true
  pub above : n ≤ s.base

some_row : (r s : Row) → Some r ≡ Some s → r ≡ s
some_row r s h = cc

later_if : (b : Bool) (test : ℕ → Bool) (n : ℕ) (r s : Row) (later : Option Row) → test r.base ≡ b → n ≤ r.base → cond b (or_else later r) later ≡ Some s →
    (later ≡ Some s → IsLater test n s) → IsLater test n s
later_if true test n r s None e le h more = subst (λ (x : Row). IsLater test n x) (some_row r s h) (record { passes = e; above = le })
later_if true test n r s (Some q) e le h more = more h
later_if false test n r s later e le h more = more h

pub later : (test : ℕ → Bool) (n : ℕ) (rs : List Row) (s : Row) → Above n rs → last_row test rs ≡ Some s → IsLater test n s
later test n [] s above h = absurd (cc)
later test n (r ∷ rs) s above h =
    later_if (test r.base) test n r s (last_row test rs) refl above.0 h (λ g. later test n rs s above.1 g)

starts_later : (r : Row) (a : ℕ) → nat_le r.base a ≡ false → contains r a ≡ false
starts_later r a h = grind (arith, nat_tests)

ends_sooner : (r s : Row) (a : ℕ) → r.base + r.size ≤ s.base → nat_le s.base a ≡ true → contains r a ≡ false
ends_sooner r s a le h = grind (arith, nat_tests)

by_offset : (r : Row) (a : ℕ) → nat_le r.base a ≡ true → contains r a ≡ nat_lt (a - r.base) r.size
by_offset r a h = grind (arith, nat_tests)

inside_step : (b : Bool) (r : Row) (a : ℕ) (found rest : Option Row) → nat_le r.base a ≡ b →
    ((s : Row) → found ≡ Some s → IsLater (λ c. nat_le c a) (r.base + r.size) s) → rest ≡ inside_of a found →
    cond (contains r a) (Some r) rest ≡ inside_of a (cond b (or_else found r) found)
inside_step false r a found rest e facts h = rw (starts_later r a e) h
inside_step true r a None rest e facts h = rw (by_offset r a e, h) refl
inside_step true r a (Some s) rest e facts h =
    rw (ends_sooner r s a (facts s refl).above (facts s refl).passes) h

pub inside_is : (a : ℕ) (rs : List Row) → Apart rs → first_row (λ r. contains r a) rs ≡ inside_of a (last_row (λ c. nat_le c a) rs)
inside_is a [] apart = refl
inside_is a (r ∷ rs) apart =
    inside_step (nat_le r.base a) r a (last_row (λ c. nat_le c a) rs) (first_row (λ r. contains r a) rs) refl
    (λ s h. later (λ c. nat_le c a) (r.base + r.size) rs s apart.0 h) (inside_is a rs apart.1)

not_begun : (r : Row) (a : ℕ) → 0 < r.size → nat_lt r.base a ≡ false → is_past r a ≡ false
not_begun r a some h = grind (arith, nat_tests)

passed_before : (r s : Row) (a : ℕ) → r.base + r.size ≤ s.base → nat_lt s.base a ≡ true → is_past r a ≡ false
passed_before r s a le h = grind (arith, nat_tests)

past_offset : (r : Row) (a : ℕ) → nat_lt r.base a ≡ true → is_past r a ≡ ((a - r.base) == r.size)
past_offset r a h = grind (arith, nat_tests)

ending_step : (b : Bool) (r : Row) (a : ℕ) (found rest : Option Row) → 0 < r.size → nat_lt r.base a ≡ b →
    ((s : Row) → found ≡ Some s → IsLater (λ c. nat_lt c a) (r.base + r.size) s) → rest ≡ ending_of a found →
    cond (is_past r a) (Some r) rest ≡ ending_of a (cond b (or_else found r) found)
ending_step false r a found rest some e facts h = rw (not_begun r a some e) h
ending_step true r a None rest some e facts h = rw (past_offset r a e, h) refl
ending_step true r a (Some s) rest some e facts h =
    rw (passed_before r s a (facts s refl).above (facts s refl).passes) h

pub ending_is : (a : ℕ) (rs : List Row) → Apart rs → AllSized rs → first_row (λ r. is_past r a) rs ≡ ending_of a (last_row (λ c. nat_lt c a) rs)
ending_is a [] apart sized = refl
ending_is a (r ∷ rs) apart sized =
    ending_step (nat_lt r.base a) r a (last_row (λ c. nat_lt c a) rs) (first_row (λ r. is_past r a) rs) sized.0 refl
    (λ s h. later (λ c. nat_lt c a) (r.base + r.size) rs s apart.0 h) (ending_is a rs apart.1 sized.1)

behind_end : (r x : Row) → nat_lt r.base (x.base + x.size) ≡ false → overlaps r x ≡ false
behind_end r x h = grind (arith, nat_tests)

before_end : (r x : Row) → nat_lt r.base (x.base + x.size) ≡ true → overlaps r x ≡ nat_lt x.base (r.base + r.size)
before_end r x h = grind (arith, nat_tests)

reach_on : (r s x : Row) → r.base + r.size ≤ s.base → overlaps r x ≡ true → nat_lt x.base (s.base + s.size) ≡ true
reach_on r s x le h = grind (arith, nat_tests)

some_or : (o : Bool) (r : Row) (rest : Option Row) → is_some rest ≡ false → is_some (cond o (Some r) rest) ≡ o
some_or true r rest h = refl
some_or false r rest h = h

some_if : (o : Bool) (r : Row) (rest : Option Row) (t : Bool) → (o ≡ true → t ≡ true) → is_some rest ≡ t → is_some (cond o (Some r) rest) ≡ t
some_if true r rest t up h = sym (up refl)
some_if false r rest t up h = h

overlap_step : (b : Bool) (r x : Row) (found rest : Option Row) → nat_lt r.base (x.base + x.size) ≡ b →
    ((s : Row) → found ≡ Some s → IsLater (λ c. nat_lt c (x.base + x.size)) (r.base + r.size) s) → is_some rest ≡ reaches x found →
    is_some (cond (overlaps r x) (Some r) rest) ≡ reaches x (cond b (or_else found r) found)
overlap_step false r x found rest e facts h = rw (behind_end r x e) h
overlap_step true r x None rest e facts h = some_or (overlaps r x) r rest h ∙ before_end r x e
overlap_step true r x (Some s) rest e facts h =
    some_if (overlaps r x) r rest (nat_lt x.base (s.base + s.size)) (reach_on r s x (facts s refl).above) h

pub overlaps_is : (x : Row) (rs : List Row) → Apart rs → is_some (first_row (λ s. overlaps s x) rs) ≡ reaches x (last_row (λ c. nat_lt c (x.base + x.size)) rs)
overlaps_is x [] apart = refl
overlaps_is x (r ∷ rs) apart =
    overlap_step (nat_lt r.base (x.base + x.size)) r x (last_row (λ c. nat_lt c (x.base + x.size)) rs) (first_row (λ s. overlaps s x) rs) refl
    (λ s h. later (λ c. nat_lt c (x.base + x.size)) (r.base + r.size) rs s apart.0 h) (overlaps_is x rs apart.1)

pub sized_of_held : (bases : ObjName → Option ℕ) (rs : List Row) → EachHeld bases rs → AllSized rs
sized_of_held bases [] held = tt
sized_of_held bases (r ∷ rs) held = (size_of_lawful r held.0.1, sized_of_held bases rs held.1)

within_if : (b : Bool) (r s : Row) (found : Option Row) → r.base + r.size ≤ 2 ^ 47 → cond b (or_else found r) found ≡ Some s →
    (found ≡ Some s → s.base + s.size ≤ 2 ^ 47) → s.base + s.size ≤ 2 ^ 47
within_if true r s None le h more = subst (λ (x : Row). x.base + x.size ≤ 2 ^ 47) (some_row r s h) le
within_if true r s (Some q) le h more = more h
within_if false r s found le h more = more h

pub last_within : (test : ℕ → Bool) (bases : ObjName → Option ℕ) (rs : List Row) (s : Row) → EachHeld bases rs → last_row test rs ≡ Some s →
    s.base + s.size ≤ 2 ^ 47
last_within test bases [] s held h = absurd (cc)
last_within test bases (r ∷ rs) s held h =
    within_if (test r.base) r s (last_row test rs) (end_of_lawful r held.0.1) h (λ g. last_within test bases rs s held.1 g)

passes_if : (b : Bool) (test : ℕ → Bool) (r s : Row) (found : Option Row) → test r.base ≡ b → cond b (or_else found r) found ≡ Some s →
    (found ≡ Some s → test s.base ≡ true) → test s.base ≡ true
passes_if true test r s None e h more = subst (λ (x : Row). test x.base ≡ true) (some_row r s h) e
passes_if true test r s (Some q) e h more = more h
passes_if false test r s found e h more = more h

pub last_passes : (test : ℕ → Bool) (rs : List Row) (s : Row) → last_row test rs ≡ Some s → test s.base ≡ true
last_passes test [] s h = absurd (cc)
last_passes test (r ∷ rs) s h = passes_if (test r.base) test r s (last_row test rs) refl h (λ g. last_passes test rs s g)

pub covers_none : (a : ℕ) (rs : List Row) → Apart rs → last_row (λ c. nat_le c a) rs ≡ None → covers rs a ≡ None
covers_none a rs apart h = rw (inside_is a rs apart, h) refl

pub covers_in : (a : ℕ) (rs : List Row) (r : Row) → Apart rs → last_row (λ c. nat_le c a) rs ≡ Some r → a - r.base < r.size → covers rs a ≡ Some r.name
covers_in a rs r apart h lt =
    let t : nat_lt (a - r.base) r.size ≡ true = grind (arith, nat_tests) in
    rw (inside_is a rs apart, h, t) refl

pub covers_out : (a : ℕ) (rs : List Row) (r : Row) → Apart rs → last_row (λ c. nat_le c a) rs ≡ Some r → r.size ≤ a - r.base → covers rs a ≡ None
covers_out a rs r apart h le =
    let t : nat_lt (a - r.base) r.size ≡ false = grind (arith, nat_tests) in
    rw (inside_is a rs apart, h, t) refl

pub past_none : (a : ℕ) (rs : List Row) → Apart rs → AllSized rs → last_row (λ c. nat_lt c a) rs ≡ None → past rs a ≡ None
past_none a rs apart sized h = rw (ending_is a rs apart sized, h) refl

pub past_in : (a : ℕ) (rs : List Row) (r : Row) → Apart rs → AllSized rs → last_row (λ c. nat_lt c a) rs ≡ Some r → a - r.base ≡ r.size →
    past rs a ≡ Some r.name
past_in a rs r apart sized h e =
    let t : ((a - r.base) == r.size) ≡ true = grind (arith, nat_tests) in
    rw (ending_is a rs apart sized, h, t) refl

pub past_out : (a : ℕ) (rs : List Row) (r : Row) → Apart rs → AllSized rs → last_row (λ c. nat_lt c a) rs ≡ Some r →
    (a - r.base ≡ r.size → ⊥) → past rs a ≡ None
past_out a rs r apart sized h ne =
    let t : ((a - r.base) == r.size) ≡ false = grind (arith, nat_tests) in
    rw (ending_is a rs apart sized, h, t) refl
