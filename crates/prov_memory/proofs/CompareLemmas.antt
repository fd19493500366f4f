-- What comparisons of pointers settle.
use Rattle.std.proofs.Common.{◌≡◌, ◌<◌, Bool, true, false, cond, refl, sym, ap, ◌∙◌, subst, arith, List, [], ◌∷◌, ◌++◌, length, Option, Some, None}
use Rattle.std.specs.Prelude.{Result, Ok, Err, not}
use Rattle.ub_base.specs.declared.clause.Clause.{Clause}
use Rattle.ub_base.specs.declared.names.Event.{Event}
use Rattle.ub_base.specs.declared.names.Item.{Item}
use Rattle.ub_base.specs.declared.names.Item.TheVariants.{Narrow}
use Rattle.ub_base.specs.declared.names.ObjName.{ObjName}
use Rattle.ub_base.specs.Names.{same_event}
use Rattle.ub_base.proofs.NameLemmas.{same_event_is, same_object_refl}
use Rattle.addr_map.specs.declared.map.Row.{Row}
use Rattle.exposure.specs.declared.prov.Prov.{Prov}
use Rattle.exposure.specs.declared.prov.Prov.TheVariants.{Empty, Whole, Either}
use Rattle.exposure.specs.Cells.{Cells, kept_in, has_cell, is_other}
use Rattle.mem_spec.specs.Store.{Store, settled}
use Rattle.mem_spec.specs.Script.{Act, Done, Raised, Settle, touch, ◌>>◌, run, touched}
use Rattle.mem_spec.specs.Acts.{settle_to, settle_common}
use Rattle.mem_spec.specs.Streams.{Io, silent}
use Rattle.mem_objects.specs.Memory.{Kept, store_of}
use Rattle.mem_objects.specs.Made.{Settling, CanSettle, settling_items, after_settling, IsMade}
use Rattle.prov_memory.specs.Comparing.{settling_of, both_settlings, common_settling}
use Rattle.mem_objects.proofs.SettleLemmas.{done_is}

-- what an act does that settles twice
abbrev pub both_outcome : Result (Settling × Settling) Clause → Store → Act (Unit {0})
both_outcome (Ok p) s = Done tt (settling_items p.0 ++ settling_items p.1) (after_settling p.1 (after_settling p.0 s))
both_outcome (Err c) s = Raised c

-- an ambiguity that was just settled to the object isn't settled to another
lost_after : (b : Bool) (cells : Cells) (d e : Event) (x : ObjName) → same_event d e ≡ b → is_other (kept_in cells d) x ≡ false →
    is_other (cond b (Some x) (kept_in cells e)) x ≡ is_other (kept_in cells e) x
lost_after true cells d e x same free =
    ap not (same_object_refl x) ∙ sym (subst (λ (i : Event). is_other (kept_in cells i) x ≡ false) (same_event_is d e same) free)
lost_after false cells d e x same free = refl

-- one settling
to_one : (t : Bool) (rows : List Row) (s : Store) (id : Event) (x : ObjName) (c : Clause) → is_other (s.kept id) x ≡ t →
    run rows (touch (Settle id x c)) s ≡ both_outcome (both_settlings (Ok None) (cond t (Err c) (Ok (Some (id, x))))) s
to_one true rows s id x c e = rw e refl
to_one false rows s id x c e = rw e refl

one_run : (rows : List Row) (m : Kept) (io : Io) (q : Prov) (x : ObjName) (c : Clause) →
    run rows (settle_to q x c) (store_of m io) ≡ both_outcome (both_settlings (Ok None) (settling_of m.cells q x c)) (store_of m io)
one_run rows m io Empty x c = refl
one_run rows m io (Whole y) x c = refl
one_run rows m io (Either e past start) x c = to_one (is_other (kept_in m.cells e) x) rows (store_of m io) e x c refl

-- a second settling, after the first
second_to : (t : Bool) (rows : List Row) (m : Kept) (io : Io) (d e : Event) (x : ObjName) (c : Clause) → is_other (kept_in m.cells d) x ≡ false →
    is_other (kept_in m.cells e) x ≡ t → touched (Narrow d x) (run rows (touch (Settle e x c)) (settled (store_of m io) d x)) ≡ both_outcome
    (both_settlings (Ok (Some (d, x))) (cond t (Err c) (Ok (Some (e, x))))) (store_of m io)
second_to true rows m io d e x c free is =
    let now : is_other (cond (same_event d e) (Some x) (kept_in m.cells e)) x ≡ true = lost_after (same_event d e) m.cells d e x refl free ∙ is in
    rw now refl
second_to false rows m io d e x c free is =
    let now : is_other (cond (same_event d e) (Some x) (kept_in m.cells e)) x ≡ false = lost_after (same_event d e) m.cells d e x refl free ∙ is in
    rw now refl

second_run : (rows : List Row) (m : Kept) (io : Io) (d : Event) (q : Prov) (x : ObjName) (c : Clause) → is_other (kept_in m.cells d) x ≡ false →
    touched (Narrow d x) (run rows (settle_to q x c) (settled (store_of m io) d x)) ≡ both_outcome
    (both_settlings (Ok (Some (d, x))) (settling_of m.cells q x c)) (store_of m io)
second_run rows m io d Empty x c free = refl
second_run rows m io d (Whole y) x c free = refl
second_run rows m io d (Either e past start) x c free = second_to (is_other (kept_in m.cells e) x) rows m io d e x c free refl

first_to : (t : Bool) (rows : List Row) (m : Kept) (io : Io) (d : Event) (q : Prov) (x : ObjName) (c : Clause) → is_other (kept_in m.cells d) x ≡ t →
    run rows (touch (Settle d x c) >> settle_to q x c) (store_of m io) ≡ both_outcome
    (both_settlings (cond t (Err c) (Ok (Some (d, x)))) (settling_of m.cells q x c)) (store_of m io)
first_to true rows m io d q x c e = rw e refl
first_to false rows m io d q x c e = rw e (second_run rows m io d q x c e)

pub common_run : (rows : List Row) (m : Kept) (xs : List ObjName) (p q : Prov) (c : Clause) (io : Io) →
    run rows (settle_common xs p q c) (store_of m io) ≡ both_outcome (common_settling m.cells xs p q c) (store_of m io)
common_run rows m [] p q c io = refl
common_run rows m (x ∷ []) Empty q c io = one_run rows m io q x c
common_run rows m (x ∷ []) (Whole y) q c io = one_run rows m io q x c
common_run rows m (x ∷ []) (Either d past start) q c io = first_to (is_other (kept_in m.cells d) x) rows m io d q x c refl
common_run rows m (x ∷ y ∷ zs) p q c io = refl

-- ---- what is settled has its cell and is free, the second after the first
abbrev pub kept_after : Settling → Cells → Event → Option ObjName
kept_after None cells e = kept_in cells e
kept_after (Some p) cells e = cond (same_event p.0 e) (Some p.1) (kept_in cells e)

abbrev pub IsFreeAfter : Settling → Cells → Settling → Type 0
IsFreeAfter k cells None = Unit {0}
IsFreeAfter k cells (Some p) = is_other (kept_after k cells p.0) p.1 ≡ false

record AreFine (cells : Cells) (k l : Settling) : Type 0 where
  first : CanSettle cells k
  second : CanSettle cells l
  after : IsFreeAfter k cells l

abbrev Fine : Cells → Result (Settling × Settling) Clause → Type 0
Fine cells (Ok p) = AreFine cells p.0 p.1
Fine cells (Err c) = Unit {0}

fine_to : (t : Bool) (cells : Cells) (e : Event) (x : ObjName) (c : Clause) → is_other (kept_in cells e) x ≡ t → has_cell cells e ≡ true →
    Fine cells (both_settlings (Ok None) (cond t (Err c) (Ok (Some (e, x)))))
fine_to true cells e x c is has = tt
fine_to false cells e x c is has = record { first = tt; second = (has, is); after = is }

fine_one : (m : Kept) (q : Prov) (x : ObjName) (c : Clause) → IsMade m q → Fine m.cells (both_settlings (Ok None) (settling_of m.cells q x c))
fine_one m Empty x c made = record { first = tt; second = tt; after = tt }
fine_one m (Whole y) x c made = record { first = tt; second = tt; after = tt }
fine_one m (Either e past start) x c made = fine_to (is_other (kept_in m.cells e) x) m.cells e x c refl made.0

fine_next_to : (t : Bool) (cells : Cells) (d e : Event) (x : ObjName) (c : Clause) → has_cell cells d ≡ true → is_other (kept_in cells d) x ≡ false →
    has_cell cells e ≡ true → is_other (kept_in cells e) x ≡ t → Fine cells (both_settlings (Ok (Some (d, x))) (cond t (Err c) (Ok (Some (e, x)))))
fine_next_to true cells d e x c has free has' is = tt
fine_next_to false cells d e x c has free has' is =
    record { first = (has, free); second = (has', is); after = lost_after (same_event d e) cells d e x refl free ∙ is }

fine_next : (m : Kept) (d : Event) (q : Prov) (x : ObjName) (c : Clause) → has_cell m.cells d ≡ true → is_other (kept_in m.cells d) x ≡ false → IsMade m q →
    Fine m.cells (both_settlings (Ok (Some (d, x))) (settling_of m.cells q x c))
fine_next m d Empty x c has free made = record { first = (has, free); second = tt; after = tt }
fine_next m d (Whole y) x c has free made = record { first = (has, free); second = tt; after = tt }
fine_next m d (Either e past start) x c has free made = fine_next_to (is_other (kept_in m.cells e) x) m.cells d e x c has free made.0 refl

fine_first_to : (t : Bool) (m : Kept) (d : Event) (q : Prov) (x : ObjName) (c : Clause) → has_cell m.cells d ≡ true → is_other (kept_in m.cells d) x ≡ t →
    IsMade m q → Fine m.cells (both_settlings (cond t (Err c) (Ok (Some (d, x)))) (settling_of m.cells q x c))
fine_first_to true m d q x c has is made = tt
fine_first_to false m d q x c has is made = fine_next m d q x c has is made

fine_common : (m : Kept) (xs : List ObjName) (p q : Prov) (c : Clause) → IsMade m p → IsMade m q → Fine m.cells (common_settling m.cells xs p q c)
fine_common m [] p q c a b = tt
fine_common m (x ∷ []) Empty q c a b = fine_one m q x c b
fine_common m (x ∷ []) (Whole y) q c a b = fine_one m q x c b
fine_common m (x ∷ []) (Either d past start) q c a b = fine_first_to (is_other (kept_in m.cells d) x) m d q x c a.0 refl b
fine_common m (x ∷ y ∷ zs) p q c a b = record { first = tt; second = tt; after = tt }

kept_after_is : (k : Settling) (m : Kept) (io : Io) (e : Event) → (after_settling k (store_of m io)).kept e ≡ kept_after k m.cells e
kept_after_is None m io e = refl
kept_after_is (Some p) m io e = refl

can_mid : (k l : Settling) (old mid : Kept) → IsFreeAfter k old.cells l → CanSettle old.cells l →
    ((e : Event) → has_cell mid.cells e ≡ has_cell old.cells e) → ((e : Event) → kept_in mid.cells e ≡ kept_after k old.cells e) → CanSettle mid.cells l
can_mid k None old mid free can cells kept = tt
can_mid k (Some p) old mid free can cells kept = (cells p.0 ∙ can.0, ap (λ (o : Option ObjName). is_other o p.1) (kept p.0) ∙ free)

short : (k : Settling) → length (settling_items k) < 32
short None = omega arith
short (Some p) = omega arith

nothing : Io
nothing = record { input = []; position = 0; output = silent }

pub common_done : (old mid new : Kept) (xs : List ObjName) (p q : Prov) (c : Clause) (r : Result (Settling × Settling) Clause) (k l : Settling)
    (start first second : List Item) → record mid { cells = [] } ≡ record old { cells = [] } → record new { cells = [] } ≡ record mid { cells = [] } →
    ((e : Event) → has_cell mid.cells e ≡ has_cell old.cells e) → r ≡ common_settling old.cells xs p q c → r ≡ Ok (k, l) → start ≡ [] →
    (length start < 32 → first ≡ start ++ settling_items k) → (length first < 32 → second ≡ first ++ settling_items l) →
    (CanSettle old.cells k → (io : Io) → store_of mid io ≡ after_settling k (store_of old io)) →
    (CanSettle mid.cells l → (io : Io) → store_of new io ≡ after_settling l (store_of mid io)) → IsMade old p → IsMade old q →
    (io : Io) → run new.rows (settle_common xs p q c) (store_of old io) ≡ Done tt second (store_of new io)
common_done old mid new xs p q c r k l start first second rest rest' cells is ok none noted noted' left left' a b io =
    let fine : AreFine old.cells k l = subst (λ (w : Result (Settling × Settling) Clause). Fine old.cells w) (sym is ∙ ok) (fine_common old xs p q c a b) in
    let mid_is : (jo : Io) → store_of mid jo ≡ after_settling k (store_of old jo) = left fine.first in
    let kept : (e : Event) → kept_in mid.cells e ≡ kept_after k old.cells e = λ e.
    ap (λ (s : Store). s.kept e) (mid_is nothing) ∙ kept_after_is k old nothing e in
    let can : CanSettle mid.cells l = can_mid k l old mid fine.after fine.second cells kept in
    let one : first ≡ settling_items k = noted (rw none (omega arith)) ∙ ap (λ (is : List Item). is ++ settling_items k) none in
    let two : second ≡ settling_items k ++ settling_items l = noted' (rw one (short k)) ∙ ap (λ (is : List Item). is ++ settling_items l) one in
    let rows : new.rows ≡ old.rows = ap (λ (m : Kept). m.rows) rest' ∙ ap (λ (m : Kept). m.rows) rest in
    ap (λ (rs : List Row). run rs (settle_common xs p q c) (store_of old io)) rows
    ∙ common_run old.rows old xs p q c io
    ∙ ap (λ (w : Result (Settling × Settling) Clause). both_outcome w (store_of old io)) (sym is ∙ ok)
    ∙ done_is tt tt (settling_items k ++ settling_items l) second (after_settling l (after_settling k (store_of old io))) (store_of new io) refl (sym two)
    (sym (left' can io ∙ ap (after_settling l) (mid_is io)))

pub common_raised : (m : Kept) (xs : List ObjName) (p q : Prov) (c d : Clause) (r : Result (Settling × Settling) Clause) →
    r ≡ common_settling m.cells xs p q c → r ≡ Err d → (io : Io) → run m.rows (settle_common xs p q c) (store_of m io) ≡ Raised d
common_raised m xs p q c d r is err io =
    common_run m.rows m xs p q c io ∙ ap (λ (w : Result (Settling × Settling) Clause). both_outcome w (store_of m io)) (sym is ∙ err)
