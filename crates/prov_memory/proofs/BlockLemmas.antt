-- Loads of structures and unions.
use Rattle.std.proofs.Common.{◌≡◌, ℕ, ◌+◌, ◌≤◌, refl, sym, ap, ap₂, ◌∙◌, subst, arith, List, [], ◌∷◌, ◌++◌, length, slice_get, Option, Some}
use Rattle.std.specs.Prelude.{option_map, ◌^◌}
use Rattle.ub_base.specs.declared.clause.Clause.{Clause}
use Rattle.ub_base.specs.declared.names.Item.{Item}
use Rattle.ub_base.specs.declared.names.Item.TheVariants.{Alive, Read}
use Rattle.exposure.specs.declared.prov.Prov.{Prov}
use Rattle.exposure.specs.Cells.{Cells}
use Rattle.c_types.specs.Shapes.{form_of}
use Rattle.mem_objects.specs.declared.cell.Cell.{Cell}
use Rattle.mem_objects.specs.declared.accessed.Accessed.{Accessed as Found}
use Rattle.mem_spec.specs.Store.{Store, TaggedByte}
use Rattle.mem_spec.specs.Script.{Script, Give, Get, Done, Raised, run, touch, ◌>>=◌}
use Rattle.mem_spec.specs.Acts.{Accessed, access, declared_of, retagged, load_block}
use Rattle.mem_spec.specs.Streams.{Io}
use Rattle.mem_objects.specs.Held.{Held, held_of}
use Rattle.mem_objects.specs.Memory.{Kept, HasCell, store_of, life_in}
use Rattle.mem_objects.specs.Made.{CanSettle, after_settling, settling_items}
use Rattle.mem_objects.specs.Access.{CanSettleOf, IsReached, reached, bytes_in}
use Rattle.mem_objects.specs.Stores.{tagged_all}
use Rattle.mem_objects.specs.Tags.{AddsTypes, AreTagged, CellsTagged, IsTaken}
use Rattle.mem_objects.proofs.AccessLemmas.{done_then, raised_first}
use Rattle.mem_objects.proofs.WriteLemmas.{Makes}
use Rattle.prov_memory.proofs.LoadLemmas.{range_is}
use Rattle.mem_objects.proofs.TagLemmas.{store_adds, all_tagged_adds}

abbrev pub block_in : ℕ → Accessed → Script (List TaggedByte)
block_in size at = do
  bs ← touch (Get at.object at.from size)
  Give (retagged (declared_of at.life) at.from bs)

pub block_unreached : (m : Kept) (size align a : ℕ) (prov : Prov) (c : Clause) →
    ((io : Io) → run m.rows (access m.rows size align a prov) (store_of m io) ≡ Raised c) →
    (io : Io) → run m.rows (load_block m.rows size align a prov) (store_of m io) ≡ Raised c
block_unreached m size align a prov c raises io = raised_first m.rows (access m.rows size align a prov) (block_in size) (store_of m io) c (raises io)

block_read : (m : Kept) (f : Found) (h : Held) (size : ℕ) (io : Io) → held_of m.objects f.name ≡ Some h →
    run m.rows (block_in size (reached m.objects f)) (after_settling f.settles (store_of m io)) ≡ Done
    (retagged (option_map form_of h.declared) f.from (bytes_in m h f.from size)) (Read f.name f.from size ∷ []) (after_settling f.settles (store_of m io))
block_read m f h size io e =
    let s = after_settling f.settles (store_of m io) in
    ap (λ (o : Option Held). run m.rows (block_in size (record { object = f.name; from = f.from; life = life_in o })) s) e
    ∙ ap (λ (bs : List TaggedByte). Done (retagged (option_map form_of h.declared) f.from bs) (Read f.name f.from size ∷ []) s)
    (range_is m io f.settles f.name h f.from size e)

-- what the bytes of a range are, where the memory is as it was
abbrev pub Takes : Kept → Kept → Found → ℕ → List Cell → Type 0
Takes m mid f size cs = f.from + size ≤ 2 ^ 47 → AreTagged m → (h : Held) → slice_get m.objects f.object ≡ Some h →
    IsTaken m mid h (option_map form_of h.declared) f.from size cs

abbrev pub SettlesIn : Cells → Cells → Found → Type 0
SettlesIn old new f = CanSettle old f.settles → (k : Kept) → k.cells ≡ old →
    (io : Io) → store_of (record k { cells = new }) io ≡ after_settling f.settles (store_of k io)

taken_by : (old acc mid : Kept) (f : Found) (size : ℕ) (cs : List Cell) → acc ≡ old → (r : IsReached old.objects f size) → Takes acc mid f size cs →
    AreTagged old → IsTaken old mid r.object (option_map form_of r.object.declared) f.from size cs
taken_by old acc mid f size cs same r taken known =
    let range : f.from + size ≤ 2 ^ 47 = omega (arith, r.range, r.fits.0) in
    subst (λ (k : Kept). Takes k mid f size cs) same taken range known r.object r.there

pub block_done : (old acc mid new : Kept) (f : Found) (size align a : ℕ) (prov : Prov) (cs : List Cell) (items : List Item) → acc ≡ old →
    Makes old f size align a prov → (r : IsReached old.objects f size) → CanSettleOf old prov f.settles → AddsTypes acc mid → Takes acc mid f size cs →
    record new { cells = [] } ≡ record mid { cells = [] } → SettlesIn mid.cells new.cells f → items ≡ (settling_items f.settles ++ Alive f.name ∷ []) ++
    Read f.name f.from size ∷ [] → HasCell old prov → AreTagged old → (io : Io) →
    run old.rows (load_block old.rows size align a prov) (store_of old io) ≡ Done (tagged_all new cs) items (store_of new io)
block_done old acc mid new f size align a prov cs items same makes r can adds taken rest settles noted has known io =
    let p : AddsTypes old mid = subst (λ (k : Kept). AddsTypes k mid) same adds in
    let t = taken_by old acc mid f size cs same r taken known in
    let middle = after_settling f.settles (store_of old io) in
    let bs = retagged (option_map form_of r.object.declared) f.from (bytes_in old r.object f.from size) in
    let value : tagged_all new cs ≡ bs = ap (λ (k : Kept). tagged_all k cs) rest ∙ t.bytes in
    let free : CanSettle mid.cells f.settles = subst (λ (cells : Cells). CanSettle cells f.settles) (sym (ap (λ (k : Kept). k.cells) p.1)) (can has) in
    let new_is : new ≡ record mid { cells = new.cells } = ap (λ (k : Kept). record k { cells = new.cells }) rest in
    let end : store_of new io ≡ middle = ap (λ (k : Kept). store_of k io) new_is ∙ settles free mid refl io ∙ ap (after_settling f.settles)
    (store_adds old mid p known io) in
    done_then old.rows (access old.rows size align a prov) (block_in size) (store_of old io) middle middle (reached old.objects f) bs
    (settling_items f.settles ++ Alive f.name ∷ []) (Read f.name f.from size ∷ []) (makes io) (block_read old f r.object size io r.held)
    ∙ ap₂ (λ (v : List TaggedByte) (s : Store). Done v ((settling_items f.settles ++ Alive f.name ∷ []) ++ Read f.name f.from size ∷ []) s) (sym value)
    (sym end)
    ∙ ap (λ (js : List Item). Done (tagged_all new cs) js (store_of new io)) (sym noted)

pub block_tagged : (old acc mid new : Kept) → acc ≡ old → AddsTypes acc mid → record new { cells = [] } ≡ record mid { cells = [] } → AreTagged old →
    AreTagged new
block_tagged old acc mid new same adds rest known =
    subst (λ (k : Kept). AreTagged k) (sym rest) (all_tagged_adds old mid (subst (λ (k : Kept). AddsTypes k mid) same adds) known)

pub block_cells : (old acc mid new : Kept) (f : Found) (size : ℕ) (cs : List Cell) → acc ≡ old →
    (r : IsReached old.objects f size) → Takes acc mid f size cs → record new { cells = [] } ≡ record mid { cells = [] } → AreTagged old →
    CellsTagged (length new.types) cs
block_cells old acc mid new f size cs same r taken rest known =
    subst (λ (k : Kept). CellsTagged (length k.types) cs) (sym rest) (taken_by old acc mid f size cs same r taken known).tags
