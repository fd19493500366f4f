use Rattle.evaluation_log.specs.declared.sought.Sought.TheVariants.{Any}
use Rattle.evaluation_log.specs.Clashes.{NoneBetween}
use Rattle.evaluation_log.specs.Kept.{AllBelow}
use Rattle.evaluation_log.specs.declared.level.Level.{Level}
use Rattle.evaluation_log.proofs.LooseLemmas.{if_none_by, none_at}
use Rattle.evaluation_log.proofs.KeptLemmas.{between_alike, sorted_alike}
use Rattle.std.proofs.Common.{refl, sym, ◌∙◌, arith, subst, List}
use Rattle.run_evaluations.proofs.ToldLemmas.{full_after, one_after}
use Rattle.run_evaluations.proofs.KeptLemmas.{same_self, same_after}
use Rattle.run_evaluations.proofs.WholeLemmas.{kept_made_one, kept_feet, kept_several}
use Rattle.evaluation_log.proofs.WholeLemmas.{kept_from, not_none, length_alike}
use Rattle.run_evaluations.proofs.LooseWholeLemmas.{right_same}
use Rattle.evaluation_log.specs.Kept.{is_unsequenced}
use Rattle.run_evaluations.proofs.FirstLemmas.{once_alike, rising_alike, several_first}
use Rattle.run_evaluations.proofs.open.Evaluations.several_done.Goals as goal

pub returns-then-branch-clause-none : goal.returns-then-branch-clause-none
returns-then-branch-clause-none c = λ open_rule kept.
    let same = c.has_conflict.ensures.same in
    if_none_by c.in_ok-found.found
    (NoneBetween Any c.args.under.map.now c.args.self.now.segments.items c.args.self.now.events.items c.args.self.now.items.items c.args.at)
    (λ e. between_alike c.args.under.map.now c.args.self.now.segments.items c.has_conflict.new.self.segments.items c.args.self.now.events.items
    c.has_conflict.new.self.events.items c.args.self.now.items.items c.has_conflict.new.self.items.items c.args.at same.alike same.events same.items
    (none_at _ c.in_ok-found.found e (c.in_ok-found.ensures.none
    (sorted_alike c.args.self.now.segments.items c.has_conflict.new.self.segments.items c.args.self.now.events.items
    c.has_conflict.new.self.events.items c.args.at same.alike same.events kept.sorted))))

pub returns-then-not-is_unsequenced-clause-kept : goal.returns-then-not-is_unsequenced-clause-kept
returns-then-not-is_unsequenced-clause-kept c = λ w below.
    let j = c.join.ensures in
    kept_made_one c.args.self.now c.args.self.now c.join.new.self c.args.at (same_self c.args.self.now) (λ g n. refl) j.rest j.joined below
    (omega (arith, c.requires, c.args.self.now.segments.ok.0)) (λ f h. not_none _ f _ j.foot h) w

pub returns-in_err-has_conflict-clause-kept : goal.returns-in_err-has_conflict-clause-kept
returns-in_err-has_conflict-clause-kept c = λ w below.
    kept_feet c.args.self.now c.has_conflict.new.self c.args.at c.has_conflict.ensures.same
    (c.has_conflict.ensures.feet (kept_from c.args.self.now.segments.items c.args.self.now.events.items c.args.self.now.items.items
    c.args.self.now.large.items c.args.self.now.levels.items w c.args.at)) w

pub join-requires-then-branch : goal.join-requires-then-branch
join-requires-then-branch c =
    let n = length_alike c.has_conflict.new.self.segments.items c.args.self.now.segments.items c.has_conflict.ensures.same.alike in
    omega (arith, n, c.has_conflict.new.self.segments.ok.0, c.args.self.now.segments.ok.0, c.requires)

pub returns-then-branch-clause-kept : goal.returns-then-branch-clause-kept
returns-then-branch-clause-kept c = λ w below.
    let a = c.args.self.now in
    let b = c.has_conflict.new.self in
    let j = c.join-then-branch.ensures in
    let same = c.has_conflict.ensures.same in
    let n = length_alike b.segments.items a.segments.items same.alike in
    kept_made_one b b c.join-then-branch.new.self c.args.at (same_self b) (λ g n. refl) j.rest j.joined
    (subst (λ (ls : List Level). AllBelow ls c.args.at) (sym same.levels) below) (omega (arith, n, c.requires, a.segments.ok.0))
    (λ f h. not_none _ f _ j.foot h)
    (kept_feet a b c.args.at same (c.has_conflict.ensures.feet (kept_from a.segments.items a.events.items a.items.items a.large.items
    a.levels.items w c.args.at)) w)

pub returns-in_err-found-clause-kept : goal.returns-in_err-found-clause-kept
returns-in_err-found-clause-kept c = λ w below.
    kept_feet c.args.self.now c.has_conflict.new.self c.args.at c.has_conflict.ensures.same
    (c.has_conflict.ensures.feet (kept_from c.args.self.now.segments.items c.args.self.now.events.items c.args.self.now.items.items
    c.args.self.now.large.items c.args.self.now.levels.items w c.args.at)) w

pub returns-in_err-found-clause-loose : goal.returns-in_err-found-clause-loose
returns-in_err-found-clause-loose c = λ w below r. right_same c.args.self.now c.has_conflict.new.self c.has_conflict.ensures.same r

pub join-requires-2 : goal.join-requires-2
join-requires-2 c =
    let n = length_alike c.has_conflict.new.self.segments.items c.args.self.now.segments.items c.has_conflict.ensures.same.alike in
    let m = length_alike c.take_foot-foot.new.self.segments.items c.has_conflict.new.self.segments.items c.take_foot-foot.ensures.taken.same.alike in
    omega (arith, n, m, c.take_foot-foot.new.self.segments.ok.0, c.args.self.now.segments.ok.0, c.requires)

pub returns-clause-kept : goal.returns-clause-kept
returns-clause-kept c = λ w below.
    let k = kept_from c.args.self.now.segments.items c.args.self.now.events.items c.args.self.now.items.items c.args.self.now.large.items
    c.args.self.now.levels.items w c.args.at in
    kept_several c.args.self.now c.has_conflict.new.self c.take_foot-foot.new.self c.join-2.new.self c.args.at c.has_conflict.ensures.same
    (c.has_conflict.ensures.feet k) c.take_foot-foot.ensures.taken c.join-2.ensures.rest c.join-2.ensures.joined below
    (omega (arith, c.requires, c.args.self.now.segments.ok.0))
    (λ f h. c.in_ok-has_conflict.ensures.whole k c.if-branch.false f (sym c.take_foot-foot.ensures.given ∙ sym c.join-2.ensures.foot ∙ h)) w

pub returns-then-not-is_unsequenced-clause-loose : goal.returns-then-not-is_unsequenced-clause-loose
returns-then-not-is_unsequenced-clause-loose c = λ w below r. c.join.ensures.loose w.kept.sorted below r

pub returns-in_err-has_conflict-clause-loose : goal.returns-in_err-has_conflict-clause-loose
returns-in_err-has_conflict-clause-loose c = λ w below r. right_same c.args.self.now c.has_conflict.new.self c.has_conflict.ensures.same r

pub returns-then-branch-clause-loose : goal.returns-then-branch-clause-loose
returns-then-branch-clause-loose c = λ w below r.
    let a = c.args.self.now in
    let b = c.has_conflict.new.self in
    let same = c.has_conflict.ensures.same in
    c.join-then-branch.ensures.loose
    (sorted_alike a.segments.items b.segments.items a.events.items b.events.items 0 same.alike same.events w.kept.sorted)
    (subst (λ (ls : List Level). AllBelow ls c.args.at) (sym same.levels) below)
    (right_same a b same r)

pub returns-clause-loose : goal.returns-clause-loose
returns-clause-loose c = λ w below r.
    let a = c.args.self.now in
    let t = c.take_foot-foot.new.self in
    let same = same_after a c.has_conflict.new.self t c.has_conflict.ensures.same c.take_foot-foot.ensures.taken.same in
    c.join-2.ensures.loose
    (sorted_alike a.segments.items t.segments.items a.events.items t.events.items 0 same.alike same.events w.kept.sorted)
    (subst (λ (ls : List Level). AllBelow ls c.args.at) (sym same.levels) below)
    (right_same a t same r)

pub returns-clause-none : goal.returns-clause-none
returns-clause-none c = λ open_rule kept. c.in_ok-has_conflict.ensures.none kept c.if-branch.false

pub returns-then-not-is_unsequenced-clause-one : goal.returns-then-not-is_unsequenced-clause-one
returns-then-not-is_unsequenced-clause-one c =
    let j = c.join.ensures in
    let a = c.args.self.now in
    (one_after a a c.join.new.self c.args.node c.args.at (same_self a) j.rest j.joined.count j.others j.joined.begins j.own, j.full)

pub returns-clause-one : goal.returns-clause-one
returns-clause-one c =
    let a = c.args.self.now in
    let t = c.take_foot-foot.new.self in
    let same = same_after a c.has_conflict.new.self t c.has_conflict.ensures.same c.take_foot-foot.ensures.taken.same in
    let j = c.join-2.ensures in (
      one_after a t c.join-2.new.self c.args.node c.args.at same j.rest j.joined.count j.others j.joined.begins j.own,
      full_after a t c.join-2.new.self c.args.at c.args.node c.args.rule c.args.chosen same j.full,
    )

pub returns-then-branch-clause-one : goal.returns-then-branch-clause-one
returns-then-branch-clause-one c =
    let a = c.args.self.now in
    let b = c.has_conflict.new.self in
    let same = c.has_conflict.ensures.same in
    let d = c.join-then-branch.new.self in
    let j = c.join-then-branch.ensures in (
      one_after a b d c.args.node c.args.at same j.rest j.joined.count j.others j.joined.begins j.own,
      full_after a b d c.args.at c.args.node c.args.rule c.args.chosen same j.full,
    )

pub returns-then-branch-clause-first : goal.returns-then-branch-clause-first
returns-then-branch-clause-first c = λ kept rising once.
    let a = c.args.self.now in
    let b = c.has_conflict.new.self in
    let same = c.has_conflict.ensures.same in
    several_first c.args.under.frames.now c.args.under.map.now a.segments.items b.segments.items a.events.items b.events.items a.items.items b.items.items
    a.levels.items b.levels.items c.args.at c.in_ok-found.found (is_unsequenced c.args.rule) (sym c.is_unsequenced.ensures ∙ c.if-not-is_unsequenced.false)
    same.alike same.events same.items same.levels
    (c.in_ok-found.ensures.first
    (sorted_alike a.segments.items b.segments.items a.events.items b.events.items c.args.at same.alike same.events kept.sorted)
    (rising_alike a.segments.items b.segments.items a.events.items b.events.items c.args.at same.alike same.events rising)
    (once_alike a.segments.items b.segments.items a.events.items b.events.items c.args.at same.alike same.events once))
