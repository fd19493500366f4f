use Rattle.std.proofs.Common.{◌∙◌, ap, sym}
use Rattle.std.specs.Prelude.{slice_get, List}
use Rattle.mem_objects.specs.Held.{Held}
use Rattle.mem_objects.proofs.HeldLemmas.{fits_got}
use Rattle.mem_objects.proofs.objects.Objects.get.Goals as goal

pub returns-clause-fit : goal.returns-clause-fit
returns-clause-fit c =
    fits_got c.self.inside.list.items c.args.at c.item.result c.self.invariant.fit
    (c.item.ensures ∙ ap (λ (hs : List Held). slice_get hs c.args.at) (sym c.self.view_is))
