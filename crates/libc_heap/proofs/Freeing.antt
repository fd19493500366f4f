-- Lemmas on the death of allocated objects.
use Rattle.std.proofs.Common.{◌≡◌, ℕ, zero, suc, Bool, true, false, List, [], ◌∷◌, ◌++◌, refl, ap, sym, subst, ◌∙◌}
use Rattle.std.specs.Prelude.{Ok, not}
use Rattle.ub_base.specs.declared.clause.Clause.{Clause}
use Rattle.ub_base.specs.declared.names.Item.{Item}
use Rattle.ub_base.specs.declared.names.Item.TheVariants.{Dies, Narrow}
use Rattle.ub_base.specs.declared.names.Event.{Event}
use Rattle.ub_base.specs.declared.names.ObjName.{ObjName}
use Rattle.addr_map.specs.declared.map.Row.{Row}
use Rattle.addr_map.specs.Rows.{row_of}
use Rattle.exposure.specs.declared.prov.Prov.TheVariants.{Whole, Either}
use Rattle.exposure.specs.Cells.{kept_in, is_other}
use Rattle.mem_spec.specs.Store.{Store, buried, settled}
use Rattle.mem_spec.specs.Script.{Done, run}
use Rattle.mem_spec.specs.Acts.{kill}
use Rattle.mem_spec.specs.Streams.{Io}
use Rattle.mem_objects.specs.Held.{held_of}
use Rattle.mem_objects.specs.Memory.{Kept, store_of, life_in}
use Rattle.libc_spec.specs.Library.{is_heap_start, free}
use Rattle.libc_arguments.specs.Answers.{Does}
use Rattle.libc_heap.proofs.Allocating.{does_same}

done_store : {V : Type 0} (v w : V) (is js : List Item) (s u : Store) → Done v is s ≡ Done w js u → s ≡ u
done_store v w is js s u e = cc

freed_is : (a : ℕ) (x : ObjName) (c : Clause) (rows : List Row) (s : Store) → (a ≡ 0 → ⊥) → is_heap_start (row_of rows x) a (s.life x) ≡ true →
    run rows (free rows a (Whole x) c) s ≡ Done tt (Dies x ∷ []) (buried s x)
freed_is zero x c rows s h e = absurd (h refl)
freed_is (suc a) x c rows s h e = rw e refl

-- the object of the pointer dies
pub freed_whole : (a : ℕ) (x : ObjName) (c : Clause) (old new : Kept) (is : List Item) (io : Io) → (a ≡ 0 → ⊥) →
    is_heap_start (row_of old.rows x) a (life_in (held_of old.objects x)) ≡ true → new.rows ≡ old.rows →
    run new.rows (kill x) (store_of old io) ≡ Done tt is (store_of new io) →
    Does (λ u. u) (Ok tt) is (store_of new io) (run new.rows (free new.rows a (Whole x) c) (store_of old io))
freed_whole a x c old new is io h e rows k =
    let e' : is_heap_start (row_of new.rows x) a (life_in (held_of old.objects x)) ≡ true =
    subst (λ (rs : List Row). is_heap_start (row_of rs x) a (life_in (held_of old.objects x)) ≡ true) (sym rows) e in
    does_same (λ u. u) (Ok tt) is (store_of new io) (run new.rows (free new.rows a (Whole x) c) (store_of old io)) (Done tt is (store_of new io))
    (freed_is a x c new.rows (store_of old io) h e' ∙ k) (refl, refl, refl)

freed_start_is : (a : ℕ) (id : Event) (past x : ObjName) (c : Clause) (rows : List Row) (s : Store) →
    (a ≡ 0 → ⊥) → is_heap_start (row_of rows x) a (s.life x) ≡ true → is_other (s.kept id) x ≡ false →
    run rows (free rows a (Either id past x) c) s ≡ Done tt (Narrow id x ∷ Dies x ∷ []) (buried (settled s id x) x)
freed_start_is zero id past x c rows s h e o = absurd (h refl)
freed_start_is (suc a) id past x c rows s h e o = rw (o, e) refl

-- the object that an ambiguous pointer may begin dies
pub freed_start : (a : ℕ) (id : Event) (past x : ObjName) (c : Clause) (old mid new : Kept) (is js : List Item) (io : Io) → (a ≡ 0 → ⊥) →
    is_heap_start (row_of old.rows x) a (life_in (held_of old.objects x)) ≡ true → is_other (kept_in old.cells id) x ≡ false →
    store_of mid io ≡ settled (store_of old io) id x → new.rows ≡ old.rows →
    run new.rows (kill x) (store_of mid io) ≡ Done tt js (store_of new io) → is ≡ Narrow id x ∷ Dies x ∷ [] →
    Does (λ u. u) (Ok tt) is (store_of new io) (run new.rows (free new.rows a (Either id past x) c) (store_of old io))
freed_start a id past x c old mid new is js io h e o settles rows k items =
    let e' : is_heap_start (row_of new.rows x) a (life_in (held_of old.objects x)) ≡ true =
    subst (λ (rs : List Row). is_heap_start (row_of rs x) a (life_in (held_of old.objects x)) ≡ true) (sym rows) e in
    let q : buried (store_of mid io) x ≡ store_of new io = done_store tt tt (Dies x ∷ []) js (buried (store_of mid io) x) (store_of new io) k in
    does_same (λ u. u) (Ok tt) is (store_of new io) (run new.rows (free new.rows a (Either id past x) c) (store_of old io))
    (Done tt (Narrow id x ∷ Dies x ∷ []) (buried (settled (store_of old io) id x) x))
    (freed_start_is a id past x c new.rows (store_of old io) h e' o) (refl, items, sym q ∙ ap (λ (s : Store). buried s x) settles)

not_other : (b : Bool) → true ≡ not b → b ≡ false
not_other true e = absurd (cc)
not_other false e = refl

-- an ambiguity that could be settled wasn't settled to another object
pub settled_here : (r b : Bool) → r ≡ true → r ≡ not b → b ≡ false
settled_here r b t e = not_other b (sym t ∙ e)

-- two items that are added to none
pub two_items : (old one two : List Item) (i j : Item) → old ≡ [] → one ≡ old ++ i ∷ [] → two ≡ one ++ j ∷ [] → two ≡ i ∷ j ∷ []
two_items old one two i j e f g = g ∙ ap (λ (is : List Item). is ++ j ∷ []) (f ∙ ap (λ (is : List Item). is ++ i ∷ []) e)

-- what only differs in its cells
pub rows_of_rest : (new old : Kept) → record new { cells = [] } ≡ record old { cells = [] } → new.rows ≡ old.rows
rows_of_rest new old e = ap (λ (m : Kept). m.rows) e
