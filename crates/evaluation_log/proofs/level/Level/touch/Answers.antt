use Rattle.std.proofs.Common.{inl, refl, ◌∙◌, arith}
use Rattle.std.proofs.lemmas.Option.{slice_get_within}
use Rattle.evaluation_log.proofs.KeepLemmas.{itself, after}
use Rattle.evaluation_log.proofs.RememberedLemmas.{each_next, one_after}
use Rattle.evaluation_log.proofs.TouchLemmas.{only_next, only_all}
use Rattle.evaluation_log.proofs.level.Level.touch.Goals as goal

pub loop-item-init : goal.loop-item-init
loop-item-init c = record {
  keeps = itself c.args.self.now.foot;
  cut = refl;
  frame = refl;
  turn = refl;
  only = λ i h. inl h;
  known = λ known. known;
  others = λ other item ne w. w;
  has = λ known p item less. absurd (omega (arith, less));
}

pub loop-item-preserved : goal.loop-item-preserved
loop-item-preserved c =
    let items = c.args.items.now in
    let i = c.loop-item.item-index in
    let within = c.loop-item-test.true in
    let end = c.loop-item.auto.item-index-end in
    record {
      keeps = after c.args.self.now.foot c.loop-item.self.foot c.touch_one.new.self.foot c.loop-item.invariant.keeps c.in_ok-touch_one.ensures.keeps;
      cut = c.touch_one.ensures.cut ∙ c.loop-item.invariant.cut;
      frame = c.touch_one.ensures.frame ∙ c.loop-item.invariant.frame;
      turn = c.touch_one.ensures.turn ∙ c.loop-item.invariant.turn;
      only = only_next items i _ c.args.self.now.foot c.loop-item.self.foot c.touch_one.new.self.foot (omega (arith, within, end))
          c.in_ok-touch_one.ensures.only c.loop-item.invariant.only;
      known = λ known. c.in_ok-touch_one.ensures.known (c.loop-item.invariant.known known);
      others = one_after c.args.known.now c.loop-item.known c.touch_one.new.known c.args.self.now.frame c.loop-item.self.frame
          c.loop-item.invariant.frame c.loop-item.invariant.others c.touch_one.ensures.others;
      has = λ known. each_next items i _ c.loop-item.self.foot c.touch_one.new.self.foot (omega (arith, within, end)) c.in_ok-touch_one.ensures.keeps
          (c.in_ok-touch_one.ensures.has (c.loop-item.invariant.known known)) (c.loop-item.invariant.has known);
    }

pub returns-in_err-touch_one-clause-cut : goal.returns-in_err-touch_one-clause-cut
returns-in_err-touch_one-clause-cut c = c.touch_one.ensures.cut ∙ c.loop-item.invariant.cut

pub returns-in_err-touch_one-clause-frame : goal.returns-in_err-touch_one-clause-frame
returns-in_err-touch_one-clause-frame c = c.touch_one.ensures.frame ∙ c.loop-item.invariant.frame

pub returns-in_err-touch_one-clause-turn : goal.returns-in_err-touch_one-clause-turn
returns-in_err-touch_one-clause-turn c = c.touch_one.ensures.turn ∙ c.loop-item.invariant.turn

pub returns-in_err-touch_one-clause-others : goal.returns-in_err-touch_one-clause-others
returns-in_err-touch_one-clause-others c =
    one_after c.args.known.now c.loop-item.known c.touch_one.new.known c.args.self.now.frame c.loop-item.self.frame c.loop-item.invariant.frame
    c.loop-item.invariant.others c.touch_one.ensures.others

pub returns-clause-has : goal.returns-clause-has
returns-clause-has c = λ known p item e.
    let outside = c.loop-item-test.false in
    let end = c.loop-item.auto.item-index-end in
    let within = slice_get_within c.args.items.now p item e in
    c.loop-item.invariant.has known p item (omega (arith, outside, end, within)) e

pub returns-clause-only : goal.returns-clause-only
returns-clause-only c =
    let outside = c.loop-item-test.false in
    let end = c.loop-item.auto.item-index-end in
    only_all c.args.items.now c.loop-item.item-index c.args.self.now.foot c.loop-item.self.foot (omega (arith, outside, end)) c.loop-item.invariant.only
