use Rattle.std.proofs.Common.{◌∷◌, [], refl}
use Rattle.conflict_detector.proofs.Leaving.{begins_in, is_named}
use Rattle.conflict_detector.proofs.frames.RecordedFrames.record.Goals as goal

pub returns-then-is_top : goal.returns-then-is_top
returns-then-is_top c = record {
  follows = λ m s f bare.
      begins_in m c.args.frame c.args.turn s _ (is_named c.args.self.now m [] c.args.frame f (c.is_top.ensures.yes c.if-is_top.true))
      (record { follows = c.begin.ensures.follows m [] s f.follows bare; names = f.names });
}

pub returns : goal.returns
returns c = record {
  follows = λ m s f bare.
      let e = c.in_ok-enter.ensures.follows (m ∷ []) f in
      (m ∷ [], bare, record { follows = c.begin-2.ensures.follows _ (m ∷ []) s e.follows refl; names = e.names });
}
