-- Stores as acts of nodes.
use Rattle.std.proofs.Common.{◌≡◌, ℕ, Bool, true, false, not, refl, sym, ap, subst, ◌∙◌, List, []}
use Rattle.std.specs.Prelude.{Result, Ok, Err, OnOk, IfErr}
use Rattle.std.proofs.lemmas.List.{append-nil}
use Rattle.ub_base.specs.declared.clause.Clause.{Clause}
use Rattle.ub_base.specs.declared.clause.Clause.TheVariants.{OverlappingAssignment}
use Rattle.ub_base.specs.declared.names.Item.{Item}
use Rattle.ub_base.specs.declared.names.Event.{Event}
use Rattle.addr_map.specs.declared.map.Row.{Row}
use Rattle.c_types.specs.Types.{CType}
use Rattle.c_typed.specs.declared.tree.Access.{Access}
use Rattle.mem_spec.specs.Store.{Store}
use Rattle.mem_spec.specs.Script.{Script, Act, Give, Done, Raised, run, require, ◌>>◌}
use Rattle.mem_objects.specs.declared.answer.MemFault.{MemFault}
use Rattle.mem_objects.specs.declared.answer.MemFault.TheVariants as faults
use Rattle.mem_objects.specs.declared.value.Value.{Value as Held}
use Rattle.mem_objects.specs.declared.value.Value.TheVariants as values
use Rattle.mem_objects.specs.Loads.{IfRaise}
use Rattle.mem_objects.specs.Cells.{Loaded}
use Rattle.mem_objects.specs.Made.{IsMade}
use Rattle.mem_objects.specs.Memory.{Kept}
use Rattle.mem_objects.specs.Pieces.{IsMadeValue}
use Rattle.mem_objects.proofs.AccessLemmas.{done_then, raised_then, raised_first}
use Rattle.c_model.specs.Values.{Value, Nothing, Pointer, pointer_of}
use Rattle.c_model.specs.Nodes.{load, put_whole}
use Rattle.run_values.specs.Views.{value_in}

-- ---- what holds where a call succeeds, or where it raises
pub ok_then : {V E : Type 0} (r : Result V E) (P Q : Type 0) → (P → Q) → OnOk r P → OnOk r Q
ok_then (Ok v) P Q f p = f p
ok_then (Err e) P Q f p = tt

pub err_then : {V E : Type 0} (r : Result V E) (P Q : E → Type 0) → ((e : E) → P e → Q e) → IfErr r P → IfErr r Q
err_then (Ok v) P Q f p = tt
err_then (Err e) P Q f p = f e p

pub raise_then : (e : MemFault) (P Q : Clause → Type 0) → ((c : Clause) → P c → Q c) → IfRaise e P → IfRaise e Q
raise_then (faults.Raise c) P Q f p = f c p
raise_then faults.NoMemory P Q f p = tt

pub faults_then : {V : Type 0} (r : Result V MemFault) (P Q : Clause → Type 0) → ((c : Clause) → P c → Q c) → IfErr r (λ e. IfRaise e P)
    → IfErr r (λ e. IfRaise e Q)
faults_then (Ok v) P Q f p = tt
faults_then (Err e) P Q f p = raise_then e P Q f p

-- .. under what the caller knows
pub ok_under : {V E : Type 0} (r : Result V E) (C P Q : Type 0) → (C → OnOk r P) → (C → P → Q) → OnOk r (C → Q)
ok_under (Ok v) C P Q f g = λ c. g c (f c)
ok_under (Err e) C P Q f g = tt

pub err_under : {V E : Type 0} (r : Result V E) (C : Type 0) (P Q : E → Type 0) → (C → IfErr r P) → ((e : E) → C → P e → Q e) → IfErr r (λ e. C → Q e)
err_under (Ok v) C P Q f g = tt
err_under (Err e) C P Q f g = λ c. g e c (f c)

-- ---- a pointer that was made
pub made_pointer : (m : Kept) (v : Held) (p : Pointer) → p ≡ pointer_of (value_in m v) → IsMadeValue m v → IsMade m p.prov
made_pointer m (values.Ptr a prov) p e made = rw e made
made_pointer m (values.Int z) p e made = rw e tt
made_pointer m (values.Func a) p e made = rw e tt
made_pointer m (values.Block b) p e made = rw e tt
made_pointer m values.Missing p e made = rw e tt
made_pointer m values.Nothing p e made = rw e tt

-- ---- a value that is no structure or union isn't stored as a whole
pub put_none : (m : Kept) (rows : List Row) (first : Bool) (size align : ℕ) (p : Pointer) (v : Held) (s : Store)
    → ((b : Loaded) → v ≡ values.Block b → ⊥) → run rows (put_whole rows first size align p (value_in m v)) s ≡ Done Nothing [] s
put_none m rows first size align p (values.Block b) s other = absurd (other b refl)
put_none m rows first size align p (values.Int z) s other = refl
put_none m rows first size align p (values.Ptr a prov) s other = refl
put_none m rows first size align p (values.Func a) s other = refl
put_none m rows first size align p values.Missing s other = refl
put_none m rows first size align p values.Nothing s other = refl

-- ---- a store that gives nothing
pub done_nothing : (rows : List Row) (p : Script (Unit {0})) (s t : Store) (items : List Item) → run rows p s ≡ Done tt items t →
    run rows (p >> Give Nothing) s ≡ Done Nothing items t
done_nothing rows p s t items e =
    done_then rows p (λ (u : Unit {0}). Give Nothing) s t t tt Nothing items [] e refl ∙ ap (λ (js : List Item). Done Nothing js t) (append-nil items)

pub raised_nothing : (rows : List Row) (p : Script (Unit {0})) (s : Store) (c : Clause) → run rows p s ≡ Raised c → run rows (p >> Give Nothing) s ≡ Raised c
raised_nothing rows p s c e = raised_first rows p (λ (u : Unit {0}). Give Nothing) s c e

-- ---- a store that is checked for an inexact overlap
abbrev checked : Bool → Script Value
checked b = require (not b) OverlappingAssignment >> Give Nothing

pub apart_done : (rows : List Row) (p : Script (Unit {0})) (b : Bool) (s t : Store) (items : List Item) → b ≡ false → run rows p s ≡ Done tt items t →
    run rows (p >> (require (not b) OverlappingAssignment >> Give Nothing)) s ≡ Done Nothing items t
apart_done rows p true s t items is e = absurd (cc)
apart_done rows p false s t items is e =
    done_then rows p (λ (u : Unit {0}). checked false) s t t tt Nothing items [] e refl ∙ ap (λ (js : List Item). Done Nothing js t) (append-nil items)

pub overlap_raised : (rows : List Row) (p : Script (Unit {0})) (b : Bool) (s t : Store) (items : List Item) → b ≡ true → run rows p s ≡ Done tt items t →
    run rows (p >> (require (not b) OverlappingAssignment >> Give Nothing)) s ≡ Raised OverlappingAssignment
overlap_raised rows p false s t items is e = absurd (cc)
overlap_raised rows p true s t items is e = raised_then rows p (λ (u : Unit {0}). checked true) s t tt items OverlappingAssignment e refl

pub unstored_raised : (rows : List Row) (p : Script (Unit {0})) (b : Bool) (s : Store) (c : Clause) → run rows p s ≡ Raised c →
    run rows (p >> (require (not b) OverlappingAssignment >> Give Nothing)) s ≡ Raised c
unstored_raised rows p b s c e = raised_first rows p (λ (u : Unit {0}). checked b) s c e

-- a load by an access is that of the access that it is
pub loaded_by : (rows : List Row) (who : Event) (a b : Access) (ty : CType) (p : Pointer) (s : Store) (o : Act Value) → a ≡ b →
    run rows (load rows who b ty p) s ≡ o → run rows (load rows who a ty p) s ≡ o
loaded_by rows who a b ty p s o e did = subst (λ (x : Access). run rows (load rows who x ty p) s ≡ o) (sym e) did
