use Rattle.run_evaluations.proofs.FrameLemmas.{below_all, follow_under}
use Rattle.std.proofs.Common.{◌≡◌, ◌∙◌, sym, ap, subst, ℕ, List, Some, None}
use Rattle.std.proofs.lemmas.Option.{same_Some}
use Rattle.c_typed.specs.Tree.{tree_of}
use Rattle.evaluation_log.specs.Ways.{above_in, IsRising}
use Rattle.run_evaluations.specs.Shows.{NoneOfWay, NonePending}
use Rattle.run_evaluations.specs.Ways.{AreOnWay, NoneOnWay, NoneAtEnd}
use Rattle.evaluation_log.specs.Sides.{first_loud, free_by, lefts_in, rights_in}
use Rattle.evaluation_search.specs.First.{IsFirstOf}
use Rattle.run_evaluations.specs.First.{IsTopPair}
use Rattle.run_evaluations.proofs.BesideLemmas.{first_at_end, given_first}
use Rattle.run_evaluations.proofs.EndFirstLemmas.{order, way_told}
use Rattle.run_evaluations.proofs.PendingLemmas.{ended_none, here_is, logged_last}
use Rattle.evaluation_log.proofs.LooseLemmas.{first_none, none_at, if_none_by}
use Rattle.evaluation_log.proofs.WayLemmas.{in_rising}
use Rattle.run_evaluations.proofs.open.Evaluations.ended.Goals as goal

pub returns-in_default-clause-none : goal.returns-in_default-clause-none
returns-in_default-clause-none c = λ w room last at. absurd (let e : None ≡ Some last.node = c.in_default.ensures last at in cc)

pub returns-clause-none : goal.returns-clause-none
returns-clause-none c = λ w room.
    if_none_by c.first_of.result (NoneAtEnd c.args.map.now c.args.rules.now (tree_of c.args.root.now) c.args.self.now) (λ e last at.
    let r = first_none _ c.in_ok-beside.beside c.in_ok-open.open (sym c.first_of.ensures.first ∙ e) in
    let tree = tree_of c.args.root.now in
    let t : c.in-Some.target ≡ last.node = same_Some _ _ (c.in-Some.ensures last at) in
    let way = c.in_ok-way.ensures.above room in
    subst (λ (xs : List ℕ). NoneOnWay c.args.map.now c.args.rules.now xs c.args.self.now) (way ∙ ap (λ n. above_in 0 tree n) t)
    (none_at _ c.in_ok-open.open r.1 (c.in_ok-open.ensures.none w (subst IsRising (sym way) (in_rising 0 tree c.in-Some.target)))))

pub returns-in_default-clause-follows : goal.returns-in_default-clause-follows
returns-in_default-clause-follows c = λ t ts f. below_all c.args.self.now t ts f

pub returns-clause-follows : goal.returns-clause-follows
returns-clause-follows c = λ t ts f.
    let w = f.holds.kept in
    let r = f.holds.loose in
    let e = c.found_on_way.ensures in
    follow_under c.args.self.now c.found_on_way.new.self t ts (e.kept w) (e.loose w r) (e.under w r) f

pub returns-in_default-clause-apart : goal.returns-in_default-clause-apart
returns-in_default-clause-apart c = λ t ts last f tell. absurd (
    let l = logged_last c.args.map.now c.args.self.now t ts f (tree_of c.args.root.now) c.args.rules.now last tell in
    let e : None ≡ Some l.0.node = c.in_default.ensures l.0 l.1 in cc)

pub returns-clause-apart : goal.returns-clause-apart
returns-clause-apart c = λ t ts last f tell.
    let rows = c.args.map.now in
    let a = c.args.self.now in
    let tree = tree_of c.args.root.now in
    let rules = c.args.rules.now in
    if_none_by c.first_of.result (NoneOfWay rows t last.place.node × NonePending rows t last) (λ e.
    let r = first_none _ c.in_ok-beside.beside c.in_ok-open.open (sym c.first_of.ensures.first ∙ e) in
    let l = logged_last rows a t ts f tree rules last tell in
    let target : c.in-Some.target ≡ l.0.node = same_Some _ _ (c.in-Some.ensures l.0 l.1) in
    let way = c.in_ok-way.ensures in
    ended_none rows a t ts f tree rules last tell _ _ _ c.in-Some.target (target ∙ l.2) c.or.ensures (way.before tell.small) (way.behind tell.small)
    (none_at _ c.in_ok-beside.beside r.0 c.in_ok-beside.ensures.none)
    (none_at _ c.first_of.result e (returns-clause-none c f.holds.kept tell.small)))

pub returns-in_default-clause-first : goal.returns-in_default-clause-first
returns-in_default-clause-first c = λ t ts last f tell free once. absurd (
    let l = logged_last c.args.map.now c.args.self.now t ts f (tree_of c.args.root.now) c.args.rules.now last tell in
    let e : None ≡ Some l.0.node = c.in_default.ensures l.0 l.1 in cc)

pub returns-clause-first : goal.returns-clause-first
returns-clause-first c = λ t ts last f tell free once.
    let frames = c.args.frames.now in
    let rows = c.args.map.now in
    let a = c.args.self.now in
    let tree = tree_of c.args.root.now in
    let rules = c.args.rules.now in
    let l = logged_last rows a t ts f tree rules last tell in
    let own = here_is rows a t ts f tree rules last tell in
    let target : c.in-Some.target ≡ last.place.node = same_Some _ _ (c.in-Some.ensures l.0 l.1) ∙ l.2 in
    let way = c.in_ok-way.ensures in
    let above = way.above tell.small in
    let ways = c.in_ok-open.open in
    let found = c.in_ok-open.ensures.first f.holds.kept (subst IsRising (sym above) (in_rising 0 tree c.in-Some.target))
    (order frames rows a t ts f rules tell.fits last tell.top tree tell.same own.0 own.1 free tell.still once) in
    first_at_end frames rows a t ts f tree rules last tell free once c.in_ok-beside.beside ways c.first_of.result c.first_of.ensures.first
    (given_first frames rows a t ts f tree rules last tell free once l.0 l.1 _ _ _ c.in_ok-beside.beside c.or.ensures
    (way.before tell.small ∙ (λ i. first_loud (lefts_in (free_by rules) 0 (sym tell.same i) (target i))))
    (way.behind tell.small ∙ (λ i. first_loud (rights_in (free_by rules) 0 (sym tell.same i) (target i))))
    (c.in_ok-beside.ensures.first l.0 l.1))
    (way_told frames rows a t ts f rules tell.fits last tell.top tree tell.same own.0 own.1 free tell.still c.in-Some.target target ways
    (subst (λ (xs : List ℕ). IsFirstOf frames (IsTopPair frames rows a (AreOnWay rules xs a 0)) ways) above found))
