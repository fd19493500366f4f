use Rattle.std.proofs.Common.{rules, arith, sym, subst, ◌≡◌, ◌∙◌, ap, ℕ, List, [], ◌∷◌, ◌++◌, ◌+◌, ◌-◌, length, map, drop}
use Rattle.std.proofs.Math.ListN.{set}
use Rattle.std.proofs.lemmas.List.{length-append}
use Rattle.core_ir.specs.Term.{term_of, terms_from}
use Rattle.run_layout.specs.declared.steps.Listed.{Listed}
use Rattle.run_layout.specs.declared.steps.Listed.TheVariants.{Operand}
use Rattle.run_layout.specs.Listings.{Entry, operand, entries_of, continuation, flat, all_flat}
use Rattle.run_code.proofs.Entries.{two_parts, part_more, choice_parts, pair_flat, choice_flat, parts_left, split, continued_by}
use Rattle.run_layout.specs.EventActs.{AreEntries}
use Rattle.run_code.proofs.Entries.{on_ok}
use Rattle.run_layout.proofs.Grown.{entries_pushed, entries_set, grown_both}
use Rattle.run_code.proofs.draft.Draft.+term.Goals as goal

pub continuation-returns-clause-listing : goal.continuation-returns-clause-listing
continuation-returns-clause-listing t c =
    let old : List Listed = c.args.entries.now.items in
    let first : Listed = Operand c.args.node c.args.operand 0 in
    let part : List Entry = flat (length c.args.nodes.now) (term_of c.args.core.now) in
    let told : entries_of c.term.new.entries.items ≡ entries_of (old ++ first ∷ []) ++ part =
    c.in_ok-term.ensures.listing ∙ ap (λ z. entries_of z ++ part) c.in_ok-push.ensures.items in
    let count : length c.term.new.entries.items ≡ length old + 1 + length part =
    split (old ++ first ∷ []) c.term.new.entries.items part told ∙ ap (λ z. z + length part) (length-append old (first ∷ [])) in
    let at : c.len-at.result ≡ length old = search rules in
    let end : c.len.result ≡ length c.term.new.entries.items = search rules in
    ap (λ z. entries_of (set c.term.new.entries.items z (Operand c.args.node c.args.operand (c.len.result - c.len-at.result - 1)))) at
    ∙ continued_by old c.term.new.entries.items first (Operand c.args.node c.args.operand (c.len.result - c.len-at.result - 1)) c.args.node c.args.operand
    part told
    (ap (operand c.args.node c.args.operand) (omega (arith, count, end, at)))

pub term-loop-part-preserved : goal.term-loop-part-preserved
term-loop-part-preserved t c = (
  part_more (flat (length c.args.nodes.now) (term_of c.part-item.result))
      (all_flat (length c.args.nodes.now) (terms_from (map term_of (drop (c.loop-part.part-index + 1) c.as_slice-part-items.result.now))))
      (all_flat (length c.args.nodes.now) (terms_from (map term_of (drop c.loop-part.part-index c.as_slice-part-items.result.now)))) _ _ _
      (parts_left (length c.args.nodes.now) c.as_slice-part-items.result.now c.loop-part.part-index c.part-item.result c.loop-part-test.true c.part-item.is)
      c.in_ok-term-in-Unseq.ensures.listing c.loop-part.invariant.0,
  c.in_ok-term-in-Unseq.ensures.objects ∙ c.loop-part.invariant.1,
  λ h. c.in_ok-term-in-Unseq.ensures.due (c.loop-part.invariant.2 h),
  c.in_ok-term-in-Unseq.ensures.kept ∙ c.loop-part.invariant.3,
  λ p n h. c.in_ok-term-in-Unseq.ensures.fit p n (c.loop-part.invariant.4 p n h),
  grown_both _ _ _ c.loop-part.invariant.5 c.in_ok-term-in-Unseq.ensures.grown,
)

pub term-returns-in_ok-continuation-in-Choose-clause-listing : goal.term-returns-in_ok-continuation-in-Choose-clause-listing
term-returns-in_ok-continuation-in-Choose-clause-listing t c =
    let n : ℕ = length c.args.nodes.now in
    let whole : flat n (term_of c.args.core.now) ≡ flat n (term_of c.get.result.now) ++
    (continuation c.in-Choose.number 1 (flat n (term_of c.get-in-Choose.result.now)) ++
    continuation c.in-Choose.number 2 (flat n (term_of c.get-in-Choose-2.result.now))) =
    choice_flat n c.args.core.now c.in-Choose.number c.get.result.now c.get-in-Choose.result.now c.get-in-Choose-2.result.now (search rules) in
    choice_parts c.continuation-in-Choose.result (flat n (term_of c.get.result.now))
    (continuation c.in-Choose.number 1 (flat n (term_of c.get-in-Choose.result.now)))
    (continuation c.in-Choose.number 2 (flat n (term_of c.get-in-Choose-2.result.now))) _ _ _ _ _
    whole c.in_ok-term-in-Choose.ensures.listing c.in_ok-continuation-in-Choose.ensures.listing c.continuation-in-Choose.ensures.listing

pub term-returns-in_ok-term-in-Weak-clause-listing : goal.term-returns-in_ok-term-in-Weak-clause-listing
term-returns-in_ok-term-in-Weak-clause-listing t c =
    let whole : flat (length c.args.nodes.now) (term_of c.args.core.now) ≡ flat (length c.args.nodes.now) (term_of c.get-in-Weak.result.now) ++
    flat (length c.args.nodes.now) (term_of c.get-in-Weak-2.result.now) =
    pair_flat (length c.args.nodes.now) c.args.core.now c.get-in-Weak.result.now c.get-in-Weak-2.result.now
    (rw (c.get-in-Weak.ensures, c.get-in-Weak-2.ensures) c.in-Weak.is) in
    two_parts c.term-in-Weak-2.result (flat (length c.args.nodes.now) (term_of c.get-in-Weak.result.now))
    (flat (length c.args.nodes.now) (term_of c.get-in-Weak-2.result.now)) _ _ _ _
    whole c.in_ok-term-in-Weak.ensures.listing c.term-in-Weak-2.ensures.listing

pub continuation-returns-clause-due : goal.continuation-returns-clause-due
continuation-returns-clause-due t c = λ h.
    let firsts = c.args.self.now.function.objects.first.items in
    let tables = c.args.self.now.expressions.tables in
    let pushed : AreEntries firsts tables c.args.nodes.now c.push.new.self.items =
    subst (AreEntries firsts tables c.args.nodes.now) (sym c.in_ok-push.ensures.items)
    (entries_pushed firsts tables c.args.nodes.now c.args.entries.now.items c.args.node c.args.operand 0 h) in
    entries_set c.term.new.self.function.objects.first.items c.term.new.self.expressions.tables c.args.nodes.now c.term.new.entries.items c.len-at.result
    c.args.node c.args.operand
    (c.len.result - c.len-at.result - 1) (c.in_ok-term.ensures.due pushed)

pub term-returns-in_ok-continuation-in-Choose-clause-objects : goal.term-returns-in_ok-continuation-in-Choose-clause-objects
term-returns-in_ok-continuation-in-Choose-clause-objects t c =
    on_ok c.continuation-in-Choose.result _ _ (λ e. e ∙ (c.in_ok-continuation-in-Choose.ensures.objects ∙ c.in_ok-term-in-Choose.ensures.objects))
    c.continuation-in-Choose.ensures.objects

pub term-returns-in_ok-continuation-in-Choose-clause-due : goal.term-returns-in_ok-continuation-in-Choose-clause-due
term-returns-in_ok-continuation-in-Choose-clause-due t c = λ h.
    c.continuation-in-Choose.ensures.due (c.in_ok-continuation-in-Choose.ensures.due (c.in_ok-term-in-Choose.ensures.due h))

pub term-returns-in_ok-term-in-Weak-clause-objects : goal.term-returns-in_ok-term-in-Weak-clause-objects
term-returns-in_ok-term-in-Weak-clause-objects t c = on_ok c.term-in-Weak-2.result _ _ (λ e. e ∙ c.in_ok-term-in-Weak.ensures.objects)
    c.term-in-Weak-2.ensures.objects

pub term-returns-in_ok-term-in-Weak-clause-due : goal.term-returns-in_ok-term-in-Weak-clause-due
term-returns-in_ok-term-in-Weak-clause-due t c = λ h. c.term-in-Weak-2.ensures.due (c.in_ok-term-in-Weak.ensures.due h)

pub term-returns-in_ok-continuation-in-Choose-clause-kept : goal.term-returns-in_ok-continuation-in-Choose-clause-kept
term-returns-in_ok-continuation-in-Choose-clause-kept t c =
    on_ok c.continuation-in-Choose.result _ _ (λ e. e ∙ (c.in_ok-continuation-in-Choose.ensures.kept ∙ c.in_ok-term-in-Choose.ensures.kept))
    c.continuation-in-Choose.ensures.kept

pub term-returns-in_ok-term-in-Weak-clause-kept : goal.term-returns-in_ok-term-in-Weak-clause-kept
term-returns-in_ok-term-in-Weak-clause-kept t c = on_ok c.term-in-Weak-2.result _ _ (λ e. e ∙ c.in_ok-term-in-Weak.ensures.kept)
    c.term-in-Weak-2.ensures.kept

pub term-returns-in_ok-continuation-in-Choose-clause-fit : goal.term-returns-in_ok-continuation-in-Choose-clause-fit
term-returns-in_ok-continuation-in-Choose-clause-fit t c = λ p n h.
    c.continuation-in-Choose.ensures.fit p n (c.in_ok-continuation-in-Choose.ensures.fit p n (c.in_ok-term-in-Choose.ensures.fit p n h))

pub term-returns-in_ok-term-in-Weak-clause-fit : goal.term-returns-in_ok-term-in-Weak-clause-fit
term-returns-in_ok-term-in-Weak-clause-fit t c = λ p n h. c.term-in-Weak-2.ensures.fit p n (c.in_ok-term-in-Weak.ensures.fit p n h)

pub term-returns-in_ok-continuation-in-Choose-clause-grown : goal.term-returns-in_ok-continuation-in-Choose-clause-grown
term-returns-in_ok-continuation-in-Choose-clause-grown t c =
    on_ok c.continuation-in-Choose.result _ _
    (λ e. grown_both _ _ _ (grown_both _ _ _ c.in_ok-term-in-Choose.ensures.grown c.in_ok-continuation-in-Choose.ensures.grown) e)
    c.continuation-in-Choose.ensures.grown

pub term-returns-in_ok-term-in-Weak-clause-grown : goal.term-returns-in_ok-term-in-Weak-clause-grown
term-returns-in_ok-term-in-Weak-clause-grown t c =
    on_ok c.term-in-Weak-2.result _ _ (λ e. grown_both _ _ _ c.in_ok-term-in-Weak.ensures.grown e) c.term-in-Weak-2.ensures.grown
