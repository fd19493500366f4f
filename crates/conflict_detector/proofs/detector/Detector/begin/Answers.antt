use Rattle.std.proofs.Common.{◌∙◌, inl, inr, refl, sym, subst, arith}
use Rattle.std.proofs.lemmas.Option.{same_Some}
use Rattle.run_evaluations.specs.Told.{begun}
use Rattle.conflict_detector.specs.Examined.{IsNumbered, IsQuietRoot}
use Rattle.conflict_detector.proofs.Known.{quiet_known}
use Rattle.conflict_detector.proofs.Leaving.{started_top}
use Rattle.conflict_detector.proofs.Moved.{begun_as, begun_turn, some_within}
use Rattle.conflict_detector.proofs.detector.Detector.begin.Goals as goal

pub returns-in_default-clause-starts : goal.returns-in_default-clause-starts
returns-in_default-clause-starts c = λ roots b last numbered i. absurd (c.in_default.ensures.none refl b last)

pub returns-in_default-clause-begins : goal.returns-in_default-clause-begins
returns-in_default-clause-begins c = λ roots b t ts s last numbered r none. absurd (c.in_default.ensures.none refl b last)

pub returns-then-self-gt0-clause-starts : goal.returns-then-self-gt0-clause-starts
returns-then-self-gt0-clause-starts c = λ roots b last numbered i. absurd (let z = i.none in omega (arith, z, c.if-self-gt0.true))

pub returns-then-self-gt0-clause-begins : goal.returns-then-self-gt0-clause-begins
returns-then-self-gt0-clause-begins c = λ roots b t ts s last numbered r none.
    let same = same_Some c.in-Some.begun.now b (sym c.in-Some.ensures.some ∙ last) in
    begun_turn roots c.in-Some.begun.now b s t ts _ same (record {
      known = c.in_ok-examine.ensures.right roots r.known (subst (λ z. IsNumbered roots z.tree z.root.now) (sym same) numbered);
      some = r.some;
      started = started_top t (begun c.in-Some.begun.now.turn s t) ts r.started;
      follows = record { follows = c.begin.ensures.follows t ts s r.follows.follows none; names = r.follows.names };
    })

pub returns-then-is_quiet-clause-starts : goal.returns-then-is_quiet-clause-starts
returns-then-is_quiet-clause-starts c = λ roots b last numbered i.
    let same = same_Some c.in-Some.begun.now b (sym c.in-Some.ensures.some ∙ last) in
    let own = subst (λ z. IsNumbered roots z.tree z.root.now) (sym same) numbered in
    let known = c.in_ok-examine.ensures.right roots i.known own in
    inr (
      record { known = known; none = i.none; main = i.main; bare = i.bare; follows = i.follows },
      subst (λ z. IsQuietRoot z.root.now) same
          (quiet_known roots c.in-Some.begun.now.tree c.in-Some.begun.now.root.now c.examine.new.self known own (sym c.is_quiet.ensures ∙ c.if-is_quiet.true)),
    )

pub returns-then-is_quiet-clause-begins : goal.returns-then-is_quiet-clause-begins
returns-then-is_quiet-clause-begins c = λ roots b t ts s last numbered r none. absurd (let some = r.some in omega (arith, some, c.if-self-gt0.false))

pub returns-clause-starts : goal.returns-clause-starts
returns-clause-starts c = λ roots b last numbered i.
    let same = same_Some c.in-Some.begun.now b (sym c.in-Some.ensures.some ∙ last) in
    let own = subst (λ z. IsNumbered roots z.tree z.root.now) (sym same) numbered in
    inl (begun_as roots c.in-Some.begun.now b _ same
    (c.in_ok-start.ensures.starts roots (some_within c.args.v.now.begun.now b _ _ last refl refl)
    (record { known = c.in_ok-examine.ensures.right roots i.known own; none = i.none; main = i.main; bare = i.bare; follows = i.follows })))

pub returns-clause-begins : goal.returns-clause-begins
returns-clause-begins c = λ roots b t ts s last numbered r none. absurd (let some = r.some in omega (arith, some, c.if-self-gt0.false))
