use Rattle.std.proofs.Common.{refl, ap, ◌∙◌}
use Rattle.c_types.specs.declared.tags.Extent.{Extent}
use Rattle.c_types.specs.Types.{qualified_of}
use Rattle.run_objects.specs.Extents.{extent_of}
use Rattle.run_layout.specs.Blocks.{access_by}
use Rattle.run_code.proofs.Blocked.{object_added, qual_form, qual_type}
use Rattle.run_code.proofs.draft.Draft.object.Goals as goal

pub returns-clause-fit : goal.returns-clause-fit
returns-clause-fit c = λ p h. c.add_object.ensures.fit p (c.add_store.ensures.fit p c.access_of.ensures.fits h)

pub returns-clause-added : goal.returns-clause-added
returns-clause-added c =
    let tags = c.args.tags.now in
    let same = qual_type c.args.qual.now in
    let extent = c.extent-extent.ensures ∙ ap (extent_of tags) same in
    object_added tags (qualified_of c.args.qual.now) c.args.self.now.expressions.tables c.add_store.new.self.tables c.add_object.new.self.tables _ _
    c.in_ok-add_object.ensures.added c.add_store.ensures.objects c.add_object.ensures.stores c.in_ok-store.ensures.at
    (ap (λ (e : Extent). e.size) extent) (ap (λ (e : Extent). e.align) extent) c.is_constant.ensures
    (qual_form tags c.args.qual.now _ c.in_ok-shape.ensures) (c.access_of.ensures.exact ∙ ap (access_by tags) same) refl same
