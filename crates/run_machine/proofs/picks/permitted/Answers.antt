use Rattle.std.proofs.Common.{rules, ◌≡◌, refl, sym, ap, subst, ◌∙◌, inl, inr}
use Rattle.std.specs.Borrow.{Bor}
use Rattle.std.specs.Option.{IfSome}
use Rattle.run_layout.specs.Named.{IsDueOf}
use Rattle.run_layout.specs.declared.whole.Code.{Code}
use Rattle.run_listing.specs.Along.{part_of, IsListed}
use Rattle.run_state.specs.declared.machine.Machine.{Machine}
use Rattle.run_answers.specs.Picks.{ComesNext, Decides, Permits, Strays}
use Rattle.run_answers.proofs.Parts.{named_listed}
use Rattle.run_machine.proofs.Picked.{strays_code}
use Rattle.run_machine.proofs.picks.permitted.Goals as goal

pub returns-then-eq-clause-permits : goal.returns-then-eq-clause-permits
returns-then-eq-clause-permits c =
    let m = c.args.machine.now in
    let s = c.in-Some.stage in
    let same : c.in-Some-2.due.now.place ≡ c.args.place = search rules in
    subst (λ u. Permits m u _) same
    (c.law_picks.ensures.next m s (c.in-Some-2.count, c.in-Some-2.due) c.in-Some.is c.if-stage.true
    (subst (ComesNext m s) c.in-Some-2.is c.in_ok-count.ensures.next))

pub returns-then-eq-clause-named : goal.returns-then-eq-clause-named
returns-then-eq-clause-named c =
    subst (λ (m : Machine). IsDueOf m.image.code.now.tables c.in-Some-2.due.now) (sym c.move_on.ensures)
    (subst (λ n. IfSome n (λ f. IsDueOf c.args.machine.now.image.code.now.tables f.1.now)) c.in-Some-2.is c.in_ok-count.ensures.named)

pub returns-in_default-due_of-clause-permits : goal.returns-in_default-due_of-clause-permits
returns-in_default-due_of-clause-permits c =
    let m = c.args.machine.now in
    let s = c.in-Some.stage in
    let part = c.part.ensures ∙ ap (λ es. part_of es s.first s.end) c.deref.ensures.value in
    c.law_picks.ensures.unlisted m s c.args.place c.in-Some.is
    (λ due listed. c.in_default-due_of.ensures.none due (subst (λ es. IsListed es due) (sym part) listed))

pub returns-then-branch-clause-permits : goal.returns-then-branch-clause-permits
returns-then-branch-clause-permits c =
    c.law_picks.ensures.decided c.args.machine.now c.in-Some.stage c.args.place _ c.in-Some.is
    (subst (Decides c.args.machine.now c.in-Some.stage c.args.place) c.if-branch.true c.in_ok-strays.ensures.permitted)

pub returns-then-branch-clause-named : goal.returns-then-branch-clause-named
returns-then-branch-clause-named c =
    let m = c.args.machine.now in
    let s = c.in-Some.stage in
    let part = c.part.ensures ∙ ap (λ es. part_of es s.first s.end) c.deref.ensures.value in
    let code = m.image.code.now in
    subst (λ (k : Bor Code). IsDueOf k.now.tables c.in-Some-due_of.due.now)
    (sym (strays_code s.straight m s c.strays.new.machine c.in_ok-strays.field-0 c.in_ok-strays.ensures.state))
    (named_listed code.tables code.listing.items c.part.result.now s.first s.end c.in-Some-due_of.due.now part code.named c.in-Some-due_of.ensures.listed)

pub returns-else-branch-clause-permits : goal.returns-else-branch-clause-permits
returns-else-branch-clause-permits c =
    c.law_picks.ensures.decided c.args.machine.now c.in-Some.stage c.args.place _ c.in-Some.is
    (subst (Decides c.args.machine.now c.in-Some.stage c.args.place) c.if-branch.false c.in_ok-strays.ensures.permitted)

pub returns-then-eq-clause-reaches : goal.returns-then-eq-clause-reaches
returns-then-eq-clause-reaches c = record {
  stage = c.in-Some.stage;
  open_so = c.in-Some.is;
  way = inl (record {
    straight = c.if-stage.true;
    count = c.in-Some-2.count;
    due = c.in-Some-2.due;
    is = refl;
    comes = subst (ComesNext c.args.machine.now c.in-Some.stage) c.in-Some-2.is c.in_ok-count.ensures.next;
    moved = c.move_on.ensures;
  });
}

pub returns-then-branch-clause-reaches : goal.returns-then-branch-clause-reaches
returns-then-branch-clause-reaches c =
    let m = c.args.machine.now in
    let s = c.in-Some.stage in
    let part = c.part.ensures ∙ ap (λ es. part_of es s.first s.end) c.deref.ensures.value in record {
      stage = s;
      open_so = c.in-Some.is;
      way = inr (
        subst (λ es. IsListed es c.in-Some-due_of.due.now) part c.in-Some-due_of.ensures.listed,
        subst (Strays m s c.strays.new.machine) c.if-branch.true c.in_ok-strays.ensures.state,
      );
    }
