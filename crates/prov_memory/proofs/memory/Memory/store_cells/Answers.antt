use Rattle.std.proofs.Common.{◌≡◌, ◌++◌, ◌∷◌, [], ◌∙◌, ap, subst}
use Rattle.std.specs.Prelude.{slice_get, Err, Ok}
use Rattle.std.proofs.lemmas.Result.{err_from_is_err_and}
use Rattle.ub_base.specs.declared.names.Item.TheVariants.{Alive}
use Rattle.mem_spec.specs.Acts.{Seen}
use Rattle.mem_objects.specs.Held.{held_of, changed, holding}
use Rattle.mem_objects.specs.Memory.{Kept, life_in}
use Rattle.mem_objects.specs.Made.{settling_items}
use Rattle.mem_objects.specs.Stores.{Sees, checked_store}
use Rattle.mem_objects.proofs.ActLemmas.{noted_after}
use Rattle.mem_objects.proofs.WriteLemmas.{access_fails, store_raises, store_done, store_known, stored_by, few}
use Rattle.mem_objects.proofs.SoundLemmas.{stored_made, stored_sound}
use Rattle.prov_memory.proofs.ShowLemmas.{besides_after, besides_put}
use Rattle.prov_memory.proofs.KeepLemmas.{keeps_then, keeps_same, keeps_written}
use Rattle.prov_memory.proofs.memory.Memory.store_cells.Goals as goal

pub returns-in_err-found-clause-raises : goal.returns-in_err-found-clause-raises
returns-in_err-found-clause-raises c =
    let p = err_from_is_err_and c.from_residual.result c.from_residual.ensures.1 in
    rw (p.1, p.2) (λ seen sees. access_fails c.args.self.now c.args.first seen c.args.align c.args.addr c.args.prov c.args.cells.now c.in_err-found.field-0.0
    c.in_err-found.ensures.raises)

pub returns-in_err-check_store-clause-raises : goal.returns-in_err-check_store-clause-raises
returns-in_err-check_store-clause-raises c =
    let p = err_from_is_err_and c.from_residual-in_err-check_store.result c.from_residual-in_err-check_store.ensures.1 in
    let f = c.in_ok-found.found in
    let checked : (seen : Seen) → Sees c.args.self.now c.args.via seen →
    Err c.in_err-check_store.field-0.0 ≡ checked_store c.args.first seen (life_in (held_of c.args.self.now.objects f.name)) f.from =
    subst (λ (k : Kept). (seen : Seen) → Sees k c.args.via seen → Err c.in_err-check_store.field-0.0 ≡ checked_store c.args.first seen
    (life_in (held_of k.objects f.name)) f.from) c.access.ensures.same c.in_err-check_store.ensures in
    rw (p.1, p.2) (λ seen sees. store_raises c.args.self.now f c.args.first seen c.args.align c.args.addr c.args.prov c.args.cells.now
    c.in_err-check_store.field-0.0 c.in_ok-found.ensures.exact c.in_ok-found.ensures.found (checked seen sees))

pub returns-clause-exact : goal.returns-clause-exact
returns-clause-exact c = λ has short seen sees.
    let m = c.args.self.now in
    let f = c.in_ok-found.found in
    let r = c.in_ok-found.ensures.found in
    let w = c.write.ensures.written r.object (ap (λ (k : Kept). slice_get k.objects f.object) c.access.ensures.same ∙ r.there) in
    let checked : Ok tt ≡ checked_store c.args.first seen (life_in (held_of m.objects f.name)) f.from =
    subst (λ (k : Kept). (seen : Seen) → Sees k c.args.via seen → Ok tt ≡ checked_store c.args.first seen (life_in (held_of k.objects f.name)) f.from)
    c.access.ensures.same c.in_ok-check_store.ensures seen sees in
    let first : c.access.new.t ≡ settling_items f.settles ++ Alive f.name ∷ [] = c.in_ok-found.ensures.items c.clear.ensures in
    let noted = noted_after c.access.new.t c.write.new.t (settling_items f.settles ++ Alive f.name ∷ []) _ first (few f.settles f.name) c.write.ensures.items
    in
    store_done m c.settle.new.self f w.0 c.args.first c.args.via seen c.args.align c.args.addr c.args.prov c.args.cells.now c.write.new.t
    c.in_ok-found.ensures.exact r c.in_ok-found.ensures.settles checked
    (stored_by m c.access.new.self c.write.new.self c.settle.new.self f w.0 r.object.name c.access.ensures.same w.1 r.name c.settle.ensures.rest
    c.settle.ensures.store) w.2 noted has short sees

pub returns-clause-known : goal.returns-clause-known
returns-clause-known c = λ known cells.
    let m = c.args.self.now in
    let f = c.in_ok-found.found in
    let r = c.in_ok-found.ensures.found in
    let w = c.write.ensures.written r.object (ap (λ (k : Kept). slice_get k.objects f.object) c.access.ensures.same ∙ r.there) in
    store_known m c.settle.new.self f w.0 c.args.via c.args.cells.now r
    (stored_by m c.access.new.self c.write.new.self c.settle.new.self f w.0 r.object.name c.access.ensures.same w.1 r.name c.settle.ensures.rest
    c.settle.ensures.store) w.2 known cells

pub returns-clause-made : goal.returns-clause-made
returns-clause-made c =
    let r = c.in_ok-found.ensures.found in
    let w = c.write.ensures.written r.object (ap (λ (k : Kept). slice_get k.objects c.in_ok-found.found.object) c.access.ensures.same ∙ r.there) in
    stored_made c.args.self.now c.access.new.self c.write.new.self c.settle.new.self w.0 r.object.name c.access.ensures.same w.1 c.settle.ensures.rest
    c.settle.ensures.cells

pub returns-clause-sound : goal.returns-clause-sound
returns-clause-sound c = λ s cells.
    let r = c.in_ok-found.ensures.found in
    let w = c.write.ensures.written r.object (ap (λ (k : Kept). slice_get k.objects c.in_ok-found.found.object) c.access.ensures.same ∙ r.there) in
    stored_sound c.args.self.now c.access.new.self c.write.new.self c.settle.new.self w.0 r.object.name c.access.ensures.same w.1 c.settle.ensures.rest
    c.settle.ensures.cells (returns-clause-known c s.known cells) s

pub returns-clause-rows : goal.returns-clause-rows
returns-clause-rows c =
    let r = c.in_ok-found.ensures.found in
    let w = c.write.ensures.written r.object (ap (λ (k : Kept). slice_get k.objects c.in_ok-found.found.object) c.access.ensures.same ∙ r.there) in
    ap (λ (k : Kept). k.rows) c.settle.ensures.rest ∙ ap (λ (k : Kept). k.rows) w.1 ∙ ap (λ (k : Kept). k.rows) c.access.ensures.same

pub returns-clause-rest : goal.returns-clause-rest
returns-clause-rest c =
    let r = c.in_ok-found.ensures.found in
    let w = c.write.ensures.written r.object (ap (λ (k : Kept). slice_get k.objects c.in_ok-found.found.object) c.access.ensures.same ∙ r.there) in
    besides_after c.args.self.now c.access.new.self c.settle.new.self c.access.ensures.same
    (besides_put c.access.new.self c.write.new.self c.settle.new.self _ w.1 c.settle.ensures.rest)

pub returns-clause-kept : goal.returns-clause-kept
returns-clause-kept c = λ numbered known tagged.
    let m = c.args.self.now in
    let f = c.in_ok-found.found in
    let r = c.in_ok-found.ensures.found in
    let same = c.access.ensures.same in
    let w = c.write.ensures.written r.object (ap (λ (k : Kept). slice_get k.objects f.object) same ∙ r.there) in
    let put : c.write.new.self ≡ record m { objects = changed (holding w.0.cells) r.object.name m.objects } =
    w.1 ∙ ap (λ (k : Kept). record k { objects = changed (holding w.0.cells) r.object.name k.objects }) same in
    keeps_then m c.write.new.self c.settle.new.self
    (keeps_written m c.write.new.self r.object w.0 r.object.name f.object f.from c.args.via c.args.cells.now r.there put w.2 numbered known tagged)
    c.settle.ensures.kept

pub returns-in_err-found-clause-kept : goal.returns-in_err-found-clause-kept
returns-in_err-found-clause-kept c = λ numbered known tagged. keeps_same c.args.self.now c.access.new.self c.access.ensures.same

pub returns-in_err-check_store-clause-kept : goal.returns-in_err-check_store-clause-kept
returns-in_err-check_store-clause-kept c = λ numbered known tagged. keeps_same c.args.self.now c.access.new.self c.access.ensures.same
