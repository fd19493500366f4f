-- What acts of memory are as acts of nodes.
use Rattle.std.proofs.Common.{◌≡◌, ℕ, Bool, true, false, not, refl, ap, ◌∙◌, subst, List, []}
use Rattle.std.specs.Prelude.{Result, Ok, Err, IfOk, IfErr}
use Rattle.std.proofs.lemmas.List.{append-nil}
use Rattle.ub_base.specs.declared.clause.Clause.{Clause}
use Rattle.ub_base.specs.declared.names.Item.{Item}
use Rattle.addr_map.specs.declared.map.Row.{Row}
use Rattle.exposure.specs.declared.prov.Prov.{Prov}
use Rattle.mem_spec.specs.Store.{Store}
use Rattle.mem_spec.specs.Script.{Script, Give, Act, Done, Raised, run, require, ◌>>=◌, ◌>>◌}
use Rattle.mem_spec.specs.Streams.{Io}
use Rattle.mem_objects.specs.Memory.{Kept}
use Rattle.mem_objects.proofs.AccessLemmas.{done_then, raised_first}
use Rattle.c_model.specs.Values.{Value, Ptr}
use Rattle.mem_objects.specs.declared.answer.MemFault.{MemFault}
use Rattle.mem_objects.specs.declared.answer.MemFault.TheVariants as faults
use Rattle.mem_objects.specs.declared.value.Value.{Value as Held}
use Rattle.mem_objects.specs.declared.value.Value.TheVariants as values
use Rattle.mem_objects.specs.Loads.{IfPointer, IfRaise}
use Rattle.run_values.specs.Views.{value_in}

-- ---- an act whose value is made into another
pub done_give : {A B : Type 0} (rows : List Row) (p : Script A) (f : A → B) (s t : Store) (v : A) (items : List Item) → run rows p s ≡ Done v items t →
    run rows (p >>= (λ w. Give (f w))) s ≡ Done (f v) items t
done_give rows p f s t v items e =
    done_then rows p (λ w. Give (f w)) s t t v (f v) items [] e refl ∙ ap (λ (js : List Item). Done (f v) js t) (append-nil items)

pub raised_give : {A B : Type 0} (rows : List Row) (p : Script A) (f : A → B) (s : Store) (c : Clause) → run rows p s ≡ Raised c →
    run rows (p >>= (λ w. Give (f w))) s ≡ Raised c
raised_give rows p f s c e = raised_first rows p (λ w. Give (f w)) s c e

-- ---- what a node requires
pub required : {V : Type 0} (rows : List Row) (b : Bool) (c : Clause) (k : Script V) (s : Store) → b ≡ false →
    run rows (require (not b) c >> k) s ≡ run rows k s
required rows b c k s e = rw e refl

pub not_required : {V : Type 0} (rows : List Row) (b : Bool) (c : Clause) (k : Script V) (s : Store) → b ≡ true →
    run rows (require (not b) c >> k) s ≡ Raised c
not_required rows b c k s e = rw e refl

-- ---- under the rows that an act leaves as they were
pub under : {V : Type 0} (old new : List Row) (p : List Row → Script V) (s : Store) (a : Act V) → new ≡ old → run new (p new) s ≡ a → run old (p old) s ≡ a
under old new p s a same e = subst (λ (rows : List Row). run rows (p rows) s ≡ a) same e

pub rows_rest : (old new : Kept) → record new { cells = [] } ≡ record old { cells = [] } → new.rows ≡ old.rows
rows_rest old new rest = ap (λ (m : Kept). m.rows) rest

-- ---- a load of a pointer
abbrev pub as_pointer : ℕ × Prov → Value
as_pointer q = Ptr q.0 q.1

-- what a load of a pointer ensures
abbrev pub GivesPointer : Result Held MemFault → (H K : Type 0) → List Row → Script (ℕ × Prov) → (Io → Store) → List Item → (Io → Store) → Type 0
GivesPointer r H K rows p s items t = IfOk r (λ v. IfPointer v (λ a q. H → K → (io : Io) → run rows p (s io) ≡ Done (a, q) items (t io)))

pub pointer_given : (r : Result Held MemFault) (H K : Type 0) (rows : List Row) (p : Script (ℕ × Prov)) (s : Io → Store) (new : Kept) (items : List Item)
    (t : Io → Store) → GivesPointer r H K rows p s items t →
    IfOk r (λ v. H → K → (io : Io) → run rows (p >>= (λ q. Give (Ptr q.0 q.1))) (s io) ≡ Done (value_in new v) items (t io))
pointer_given (Err e) H K rows p s new items t gives = tt
pointer_given (Ok (values.Ptr a q)) H K rows p s new items t gives = λ h k io. done_give rows p as_pointer (s io) (t io) (a, q) items (gives h k io)
pointer_given (Ok (values.Int z)) H K rows p s new items t gives = absurd gives
pointer_given (Ok (values.Func a)) H K rows p s new items t gives = absurd gives
pointer_given (Ok (values.Block b)) H K rows p s new items t gives = absurd gives
pointer_given (Ok values.Missing) H K rows p s new items t gives = absurd gives
pointer_given (Ok values.Nothing) H K rows p s new items t gives = absurd gives

pub raise_given : {A B : Type 0} (e : MemFault) (rows : List Row) (p : Script A) (f : A → B) (s : Io → Store) →
    IfRaise e (λ c. (io : Io) → run rows p (s io) ≡ Raised c) → IfRaise e (λ c. (io : Io) → run rows (p >>= (λ v. Give (f v))) (s io) ≡ Raised c)
raise_given (faults.Raise c) rows p f s raises = λ io. raised_give rows p f (s io) c (raises io)
raise_given faults.NoMemory rows p f s raises = tt

pub fault_given : {A B V : Type 0} (r : Result V MemFault) (rows : List Row) (p : Script A) (f : A → B) (s : Io → Store) →
    IfErr r (λ e. IfRaise e (λ c. (io : Io) → run rows p (s io) ≡ Raised c)) →
    IfErr r (λ e. IfRaise e (λ c. (io : Io) → run rows (p >>= (λ v. Give (f v))) (s io) ≡ Raised c))
fault_given (Ok v) rows p f s raises = tt
fault_given (Err e) rows p f s raises = raise_given e rows p f s raises
