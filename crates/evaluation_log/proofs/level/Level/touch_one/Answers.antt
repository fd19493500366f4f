use Rattle.std.proofs.Common.{refl, sym, subst}
use Rattle.std.proofs.lemmas.Result.{on_ok_weaker}
use Rattle.ub_base.specs.declared.names.Frame.{Frame}
use Rattle.footprint.specs.Holds.{holds, stands_for}
use Rattle.evaluation_log.specs.Remembered.{AreKnown}
use Rattle.evaluation_log.proofs.KeptLemmas.{or_left}
use Rattle.evaluation_log.proofs.KeepLemmas.{itself}
use Rattle.evaluation_log.proofs.RememberedLemmas.{known_after, known_noted, of_one}
use Rattle.evaluation_log.proofs.level.Level.touch_one.Goals as goal

pub returns-in-Dies-clause-known : goal.returns-in-Dies-clause-known
returns-in-Dies-clause-known c =
    on_ok_weaker c.bury.result
    (λ keeps known. subst (λ (f : Frame). AreKnown c.args.known.now f c.bury.new.self.foot) (sym c.bury.ensures.frame)
    (known_after c.args.known.now c.args.self.now.frame c.args.self.now.foot c.bury.new.self.foot keeps known)) c.bury.ensures.keeps

pub returns-then-note : goal.returns-then-note
returns-then-note c = record {
  keeps = on_ok_weaker c.take.result (λ kept. kept.0) c.take.ensures.kept;
  cut = c.take.ensures.cut;
  frame = c.take.ensures.frame;
  turn = c.take.ensures.turn;
  only = c.take.ensures.only;
  known = on_ok_weaker c.take.result
      (λ kept known. subst (λ (f : Frame). AreKnown c.note.new.self f c.take.new.self.foot) (sym c.take.ensures.frame)
      (known_noted c.args.known.now c.note.new.self c.args.self.now.frame c.args.item c.args.self.now.foot c.take.new.self.foot c.note.ensures.noted
      kept.0 kept.1 known)) c.take.ensures.kept;
  others = of_one c.args.known.now c.note.new.self c.args.self.now.frame c.args.item c.note.ensures.noted;
  has = on_ok_weaker c.take.result (λ kept known. kept.1) c.take.ensures.kept;
}

pub returns : goal.returns
returns c = record {
  keeps = itself c.args.self.now.foot;
  cut = refl;
  frame = refl;
  turn = refl;
  only = λ i h. or_left (holds c.args.self.now.foot i) (stands_for c.args.item i) h;
  known = λ known.
      known_noted c.args.known.now c.note.new.self c.args.self.now.frame c.args.item c.args.self.now.foot c.args.self.now.foot c.note.ensures.noted
      (itself c.args.self.now.foot) (known c.args.item (c.note.ensures.known c.if-note.false)) known;
  others = of_one c.args.known.now c.note.new.self c.args.self.now.frame c.args.item c.note.ensures.noted;
  has = λ known. known c.args.item (c.note.ensures.known c.if-note.false);
}
