-- What arithmetic and comparisons of pointers settle.
use Rattle.std.proofs.Common.{◌≡◌, ℕ, ◌<◌, Bool, true, false, cond, refl, sym, ap, ◌∙◌, subst, arith, List, [], ◌∷◌, ◌++◌, length, Some, None, ℤ, pos, ◌+ℤ◌}
use Rattle.std.specs.Prelude.{Result, Ok, Err, IsErrAnd, is_some}
use Rattle.ub_base.specs.declared.clause.Clause.{Clause}
use Rattle.ub_base.specs.declared.clause.Clause.TheVariants.{OutOfBounds}
use Rattle.ub_base.specs.declared.names.Event.{Event}
use Rattle.ub_base.specs.declared.names.Item.{Item}
use Rattle.ub_base.specs.declared.names.ObjName.{ObjName}
use Rattle.addr_map.specs.declared.map.Row.{Row}
use Rattle.addr_map.specs.Rows.{row_of}
use Rattle.exposure.specs.declared.prov.Prov.{Prov}
use Rattle.exposure.specs.declared.prov.Prov.TheVariants.{Empty, Whole, Either}
use Rattle.exposure.specs.Cells.{Cells, kept_in, has_cell, is_other}
use Rattle.mem_spec.specs.Store.{Store}
use Rattle.mem_spec.specs.Script.{Act, Done, Raised, Give, Settle, touch, require, ◌>>◌, run}
use Rattle.mem_spec.specs.Acts.{in_bounds, settle_by, shift}
use Rattle.mem_spec.specs.Streams.{Io}
use Rattle.mem_objects.specs.Held.{held_of}
use Rattle.mem_objects.specs.Memory.{Kept, store_of}
use Rattle.mem_objects.specs.Made.{Settling, settling_by, shift_settling, CanSettle, settling_items, after_settling, IsMade, HasNumber}

-- what an act does that settles and gives a value
abbrev pub outcome : {V : Type 0} → Result Settling Clause → V → Store → Act V
outcome (Ok k) v s = Done v (settling_items k) (after_settling k s)
outcome (Err c) v s = Raised c

to_run : {V : Type 0} (t : Bool) (rows : List Row) (s : Store) (id : Event) (x : ObjName) (c : Clause) (v : V) → is_other (s.kept id) x ≡ t →
    run rows (touch (Settle id x c) >> Give v) s ≡ outcome (cond t (Err c) (Ok (Some (id, x)))) v s
to_run true rows s id x c v e = rw e refl
to_run false rows s id x c v e = rw e refl

by_run : {V : Type 0} (b d : Bool) (rows : List Row) (m : Kept) (io : Io) (id : Event) (past start : ObjName) (c : Clause) (v : V) →
    run rows (settle_by b d id past start c >> Give v) (store_of m io) ≡ outcome (settling_by b d m.cells id past start c) v (store_of m io)
by_run true true rows m io id past start c v = refl
by_run true false rows m io id past start c v = to_run (is_other (kept_in m.cells id) past) rows (store_of m io) id past c v refl
by_run false true rows m io id past start c v = to_run (is_other (kept_in m.cells id) start) rows (store_of m io) id start c v refl
by_run false false rows m io id past start c v = refl

require_run : {V : Type 0} (t : Bool) (rows : List Row) (s : Store) (c : Clause) (v : V) →
    run rows (require t c >> Give v) s ≡ outcome (cond t (Ok None) (Err c)) v s
require_run true rows s c v = refl
require_run false rows s c v = refl

pub shift_run : (rows : List Row) (m : Kept) (a : ℕ) (prov : Prov) (by : ℤ) (io : Io) →
    run rows (shift rows a prov by) (store_of m io) ≡ outcome (shift_settling rows m.cells (pos a +ℤ by) prov) (pos a +ℤ by) (store_of m io)
shift_run rows m a Empty by io = refl
shift_run rows m a (Whole x) by io = require_run (in_bounds (row_of rows x) (pos a +ℤ by)) rows (store_of m io) OutOfBounds (pos a +ℤ by)
shift_run rows m a (Either id past start) by io =
    by_run (in_bounds (row_of rows past) (pos a +ℤ by)) (in_bounds (row_of rows start) (pos a +ℤ by)) rows m io id past start OutOfBounds (pos a +ℤ by)

-- ---- what is settled has its cell and is free
abbrev fine : Settling → Result Settling Clause
fine k = Ok k

abbrev refused : Clause → Result Settling Clause
refused c = Err c

ok_is : (a b : Settling) → fine a ≡ fine b → a ≡ b
ok_is a b h = cc

clash : (c : Clause) (k : Settling) → refused c ≡ fine k → ⊥
clash c k h = cc

not_ok : {A : Type 0} (c : Clause) (k : Settling) → refused c ≡ fine k → A
not_ok c k h = absurd (clash c k h)

can_to : (t : Bool) (cells : Cells) (id : Event) (x : ObjName) (c : Clause) (k : Settling) → is_other (kept_in cells id) x ≡ t → has_cell cells id ≡ true →
    cond t (Err c) (Ok (Some (id, x))) ≡ Ok k → CanSettle cells k
can_to true cells id x c k e has h = not_ok c k h
can_to false cells id x c k e has h = subst (λ (s : Settling). CanSettle cells s) (ok_is (Some (id, x)) k h) (has, e)

can_by : (b d : Bool) (cells : Cells) (id : Event) (past start : ObjName) (c : Clause) (k : Settling) → has_cell cells id ≡ true →
    settling_by b d cells id past start c ≡ Ok k → CanSettle cells k
can_by true true cells id past start c k has h = subst (λ (s : Settling). CanSettle cells s) (ok_is None k h) tt
can_by true false cells id past start c k has h = can_to (is_other (kept_in cells id) past) cells id past c k refl has h
can_by false true cells id past start c k has h = can_to (is_other (kept_in cells id) start) cells id start c k refl has h
can_by false false cells id past start c k has h = not_ok c k h

can_require : (t : Bool) (cells : Cells) (c : Clause) (k : Settling) → cond t (Ok None) (Err c) ≡ Ok k → CanSettle cells k
can_require true cells c k h = subst (λ (s : Settling). CanSettle cells s) (ok_is None k h) tt
can_require false cells c k h = not_ok c k h

pub can_shift : (rows : List Row) (m : Kept) (a : ℤ) (prov : Prov) (k : Settling) → IsMade m prov → shift_settling rows m.cells a prov ≡ Ok k →
    CanSettle m.cells k
can_shift rows m a Empty k made h = not_ok OutOfBounds k h
can_shift rows m a (Whole x) k made h = can_require (in_bounds (row_of rows x) a) m.cells OutOfBounds k h
can_shift rows m a (Either id past start) k made h = can_by (in_bounds (row_of rows past) a) (in_bounds (row_of rows start) a) m.cells id past start
    OutOfBounds k made.0 h

pub done_is : {V : Type 0} (v w : V) (is js : List Item) (s u : Store) → v ≡ w → is ≡ js → s ≡ u → Done v is s ≡ Done w js u
done_is v w is js s u e f g = λ i. Done (e i) (f i) (g i)

-- ---- what settling leaves
pub shift_done : (old new : Kept) (a b : ℕ) (prov : Prov) (by : ℤ) (r : Result Settling Clause) (k : Settling) (start items : List Item) →
    record new { cells = [] } ≡ record old { cells = [] } → r ≡ shift_settling old.rows old.cells (pos a +ℤ by) prov → r ≡ Ok k → IsMade old prov →
    pos b ≡ pos a +ℤ by → start ≡ [] → (length start < 32 → items ≡ start ++ settling_items k) →
    (CanSettle old.cells k → (io : Io) → store_of new io ≡ after_settling k (store_of old io)) →
    (io : Io) → run new.rows (shift new.rows a prov by) (store_of old io) ≡ Done (pos b) items (store_of new io)
shift_done old new a b prov by r k start items rest is ok made to none noted left io =
    let rows : new.rows ≡ old.rows = ap (λ (m : Kept). m.rows) rest in
    let settles : shift_settling old.rows old.cells (pos a +ℤ by) prov ≡ Ok k = sym is ∙ ok in
    let listed : items ≡ settling_items k = noted (rw none (omega arith)) ∙ ap (λ (l : List Item). l ++ settling_items k) none in
    ap (λ (rs : List Row). run rs (shift rs a prov by) (store_of old io)) rows
    ∙ shift_run old.rows old a prov by io
    ∙ ap (λ (q : Result Settling Clause). outcome q (pos a +ℤ by) (store_of old io)) settles
    ∙ done_is (pos a +ℤ by) (pos b) (settling_items k) items (after_settling k (store_of old io)) (store_of new io) (sym to) (sym listed)
    (sym (left (can_shift old.rows old (pos a +ℤ by) prov k made settles) io))

pub shift_raised : (m : Kept) (a : ℕ) (prov : Prov) (by : ℤ) (r : Result Settling Clause) (c : Clause) →
    r ≡ shift_settling m.rows m.cells (pos a +ℤ by) prov → r ≡ Err c → (io : Io) → run m.rows (shift m.rows a prov by) (store_of m io) ≡ Raised c
shift_raised m a prov by r c is err io =
    shift_run m.rows m a prov by io ∙ ap (λ (q : Result Settling Clause). outcome q (pos a +ℤ by) (store_of m io)) (sym is ∙ err)

pub stays_made : (old new : Kept) → record new { cells = [] } ≡ record old { cells = [] } → ((e : Event) → has_cell new.cells e ≡ has_cell old.cells e) →
    (p : Prov) → IsMade old p → IsMade new p
stays_made old new rest cells Empty made = tt
stays_made old new rest cells (Whole x) made = ap (λ (m : Kept). is_some (held_of m.objects x)) rest ∙ made
stays_made old new rest cells (Either id past start) made = (
  cells id ∙ made.0,
  (
    subst (λ (ps : List Prov). HasNumber ps (Either id past start)) (sym (ap (λ (m : Kept). m.origins) rest)) made.1.0,
    (
      ap (λ (m : Kept). is_some (held_of m.objects past)) rest ∙ made.1.1.0,
      ap (λ (m : Kept). is_some (held_of m.objects start)) rest ∙ made.1.1.1,
    ),
  ),
)

pub append_none : (is : List Item) → is ≡ is ++ []
append_none [] = refl
append_none (i ∷ is) = ap (λ (js : List Item). i ∷ js) (append_none is)

-- what `?` hands over
pub err_is : {T : Type 0} (r : Result T Clause) (c : Clause) → IsErrAnd r (λ w. w ≡ c) → r ≡ Err c
err_is (Ok v) c h = absurd h
err_is (Err w) c h = ap Err h
