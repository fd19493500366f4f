use Rattle.std.proofs.Common.{arith, ◌≡◌, ◌+◌, ℕ, suc, List, [], None, length, slice_get, sym, ap, subst, ◌∙◌}
use Rattle.c_typed.specs.Tree.{tree_of, size}
use Rattle.elaborate.specs.Expressions.{own_trees}
use Rattle.std.proofs.lemmas.List.Elements.{All-nil}
use Rattle.run_layout.specs.EventActs.{AreEntries, AreGrown}
use Rattle.run_layout.specs.declared.expressions.Laid.{Laid}
use Rattle.run_layout.specs.declared.tables.Tables.{Tables}
use Rattle.run_layout.specs.Listings.{entries_of}
use Rattle.run_layout.specs.OfTrees.{flat_of, AreOfTerms}
use Rattle.run_layout.specs.Numbered.{AreAdded, AreNodes}
use Rattle.run_layout.specs.declared.nodes.NodeInfo.{NodeInfo}
use Rattle.run_layout.specs.Fitting.{RootFits, NodesFit, AreFit}
use Rattle.run_layout.proofs.Collected.{nodes_added}
use Rattle.run_code.proofs.FittingLemmas.{always}
use Rattle.run_layout.specs.Functions.{AddsExpression}
use Rattle.run_code.proofs.Entries.{on_ok}
use Rattle.run_layout.specs.Initializers.{HaveNumbers}
use Rattle.run_layout.specs.Rooms.{AreRoomed, IsRoomedBy}
use Rattle.run_code.proofs.Owned.{numbers_had}
use Rattle.run_code.proofs.Roomed.{roomed_by}
use Rattle.run_layout.proofs.Grown.{entries_grown, grown_both}
use Rattle.run_code.proofs.draft.Draft.expression.Goals as goal

pub add_expression-requires-clause-laid_out : goal.add_expression-requires-clause-laid_out
add_expression-requires-clause-laid_out c =
    let firsts = c.args.self.now.function.objects.first.items in
    let old = c.listing.new.self.expressions.tables in
    let tables = c.chosen.new.self.expressions.tables in
    let root = c.args.root.now in
    let added : AreAdded firsts None root [] c.collect.new.nodes.items =
    subst (λ old. AreAdded firsts None root old c.collect.new.nodes.items) c.new-nodes.ensures.items c.in_ok-collect.ensures.added in
    let same : c.deref.result.now ≡ c.deref-3.result.now = c.deref.ensures.value ∙ sym c.deref-3.ensures.value in
    let laid : AreEntries firsts old c.deref.result.now c.in_ok-entries.entries.items =
    subst (λ fs. AreEntries fs old c.deref.result.now c.in_ok-entries.entries.items) c.in_ok-entries.ensures.objects c.in_ok-entries.ensures.due in
    let grown : AreEntries firsts tables c.deref.result.now c.in_ok-entries.entries.items =
    entries_grown firsts old tables c.deref.result.now c.in_ok-entries.entries.items c.in_ok-chosen.ensures.grown laid in
    let nodes : AreNodes firsts root c.collect.new.nodes.items = nodes_added firsts root c.collect.new.nodes.items added in
    let whole : AreNodes firsts root c.deref-2.result.now = subst (AreNodes firsts root) (sym c.deref-2.ensures.value) nodes in (
      firsts,
      subst (AreNodes firsts root) (sym c.deref-3.ensures.value) nodes,
      subst (AreEntries firsts tables c.deref-3.result.now) (sym c.deref-4.ensures.value)
          (subst (λ ns. AreEntries firsts tables ns c.in_ok-entries.entries.items) same grown),
      c.in_ok-chosen.ensures.chosen firsts None whole.each whole.top,
    )

pub returns-clause-added : goal.returns-clause-added
returns-clause-added c =
    let firsts = c.args.self.now.function.objects.first.items in
    let old = c.listing.new.self.expressions.tables in
    let tables = c.chosen.new.self.expressions.tables in
    let root = c.args.root.now in
    let added : AreAdded firsts None root [] c.collect.new.nodes.items =
    subst (λ old. AreAdded firsts None root old c.collect.new.nodes.items) c.new-nodes.ensures.items c.in_ok-collect.ensures.added in
    let same : c.deref.result.now ≡ c.deref-3.result.now = c.deref.ensures.value ∙ sym c.deref-3.ensures.value in
    let laid : AreEntries firsts old c.deref.result.now c.in_ok-entries.entries.items =
    subst (λ fs. AreEntries fs old c.deref.result.now c.in_ok-entries.entries.items) c.in_ok-entries.ensures.objects c.in_ok-entries.ensures.due in
    let grown : AreEntries firsts tables c.deref.result.now c.in_ok-entries.entries.items =
    entries_grown firsts old tables c.deref.result.now c.in_ok-entries.entries.items c.in_ok-chosen.ensures.grown laid in
    let nodes : AreNodes firsts root c.collect.new.nodes.items = nodes_added firsts root c.collect.new.nodes.items added in
    let whole : AreNodes firsts root c.deref-2.result.now = subst (AreNodes firsts root) (sym c.deref-2.ensures.value) nodes in
    let before : c.chosen.new.self.expressions.laid ≡ c.args.self.now.expressions.laid = c.in_ok-chosen.ensures.kept ∙ c.in_ok-entries.ensures.kept in
    let next : c.in_ok-number_with.field-0 ≡ suc (length c.chosen.new.self.expressions.laid.all.items) =
    omega (arith, c.in_ok-number_with.ensures.sum, c.in_ok-next_number.ensures, ap (λ (l : Laid). length l.all.items) before) in
    let numbers : HaveNumbers (suc (length c.chosen.new.self.expressions.laid.all.items)) (own_trees root) c.deref-3.result.now =
    subst (HaveNumbers (suc (length c.chosen.new.self.expressions.laid.all.items)) (own_trees root)) (sym c.deref-3.ensures.value)
    (subst (λ (n : ℕ). HaveNumbers n (own_trees root) c.collect.new.nodes.items) next
    (numbers_had c.in_ok-number_with.field-0 c.collect.new.counts.initializers (own_trees root) c.new-nodes.result.items c.collect.new.nodes.items
    c.new-nodes.ensures.items c.in_ok-collect.ensures.owned)) in
    on_ok c.add_expression.result _ _
    (λ a. subst (λ (l : Laid). AddsExpression firsts root c.add_expression.new.self.tables l c.add_expression.new.self.laid) before
    (subst (λ (t : Tables). AddsExpression firsts root t c.chosen.new.self.expressions.laid c.add_expression.new.self.laid)
    (sym c.add_expression.ensures.tables) a))
    (c.add_expression.ensures.added firsts (subst (AreNodes firsts root) (sym c.deref-3.ensures.value) nodes)
    (subst (AreEntries firsts tables c.deref-3.result.now) (sym c.deref-4.ensures.value)
    (subst (λ ns. AreEntries firsts tables ns c.in_ok-entries.entries.items) same grown)) (c.in_ok-chosen.ensures.chosen firsts None whole.each whole.top)
    numbers)

pub returns-clause-listed : goal.returns-clause-listed
returns-clause-listed c = λ h.
    let firsts = c.args.self.now.function.objects.first.items in
    let root = c.args.root.now in
    let terms = c.args.terms.now in
    let added : AreAdded firsts None root [] c.collect.new.nodes.items =
    subst (λ old. AreAdded firsts None root old c.collect.new.nodes.items) c.new-nodes.ensures.items c.in_ok-collect.ensures.added in
    let nodes : AreNodes firsts root c.collect.new.nodes.items = nodes_added firsts root c.collect.new.nodes.items added in
    let kept : c.chosen.new.self.expressions.laid ≡ c.args.self.now.expressions.laid = c.in_ok-chosen.ensures.kept ∙ c.in_ok-entries.ensures.kept in
    c.add_expression.ensures.listed terms (subst (AreOfTerms terms) (sym kept) h)
    (ap entries_of c.deref-4.ensures.value
    ∙ (c.in_ok-entries.ensures.listed
    ∙ (ap (λ n. flat_of n (slice_get terms (length c.args.self.now.expressions.laid.all.items))) (ap length c.deref.ensures.value ∙ nodes.count)
    ∙ ap (λ (l : Laid). flat_of (size (tree_of root)) (slice_get terms (length l.all.items))) (sym kept))))

pub returns-clause-fit : goal.returns-clause-fit
returns-clause-fit c = λ p h t.
    let none : NodesFit p c.new-nodes.result.items =
    subst (NodesFit p) (sym c.new-nodes.ensures.items) (All-nil (λ (x : NodeInfo). RootFits p x.tree.now)) in
    let nodes : NodesFit p c.deref.result.now = subst (NodesFit p) (sym c.deref.ensures.value) (c.in_ok-collect.ensures.fit p h none) in
    always c.add_expression.result _ (subst (AreFit p) (sym c.add_expression.ensures.tables)
    (c.in_ok-chosen.ensures.fit p (c.in_ok-entries.ensures.fit p nodes t)))

pub add_expression-requires-clause-roomed : goal.add_expression-requires-clause-roomed
add_expression-requires-clause-roomed c =
    let nodes = c.collect.new.nodes.items in
    let olds = c.collect.new.counts.olds in
    let from : AreRoomed 0 nodes 0 olds =
    subst (λ (ns : List NodeInfo). AreRoomed (length ns) nodes 0 olds) c.new-nodes.ensures.items c.in_ok-collect.ensures.rooms in
    let rooms : c.in_ok-rooms.rooms ≡ length nodes + olds = omega (arith, c.in_ok-rooms.ensures.sum, c.in_ok-number_of.ensures) in
    subst (λ ns. IsRoomedBy ns c.in_ok-rooms.rooms) (sym c.deref-3.ensures.value)
    (roomed_by nodes olds c.in_ok-rooms.rooms rooms c.in_ok-rooms.ensures.few from)

pub returns-clause-grown : goal.returns-clause-grown
returns-clause-grown c =
    always c.add_expression.result _ (subst (λ (t : Tables). AreGrown c.args.self.now.expressions.tables t) (sym c.add_expression.ensures.tables)
    (grown_both _ _ _ c.in_ok-entries.ensures.grown c.in_ok-chosen.ensures.grown))

pub returns-clause-objects : goal.returns-clause-objects
returns-clause-objects c = always c.add_expression.result _ (c.in_ok-chosen.ensures.objects ∙ c.in_ok-entries.ensures.objects)
