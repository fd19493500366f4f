use Rattle.std.proofs.Common.{◌∙◌, ◌∷◌, refl, sym, subst}
use Rattle.std.proofs.lemmas.Option.{same_Some}
use Rattle.evaluation_search.specs.First.{IsFirst}
use Rattle.run_evaluations.specs.First.{AreOfNode, IsConflictIn}
use Rattle.run_evaluations.specs.Shows.{NoneOfNode}
use Rattle.conflict_detector.specs.Complete.{IsConflictDone}
use Rattle.conflict_detector.specs.Recorded.{IsRecording}
use Rattle.conflict_detector.specs.Shown.{IsShown}
use Rattle.conflict_detector.proofs.Rules.{lists_shown}
use Rattle.conflict_detector.proofs.Sees.{if_none, if_some, ordered, sees_seen, seen_some}
use Rattle.conflict_detector.proofs.detector.Detector.logged_done.Goals as goal

pub returns-in_default-clause-follows : goal.returns-in_default-clause-follows
returns-in_default-clause-follows c = λ b t ts kind last shown tells done own gather. absurd (c.in_default.ensures.none refl b last)

pub returns-in_default-clause-first : goal.returns-in_default-clause-first
returns-in_default-clause-first c = λ b t ts kind last shown tells done own gather. absurd (c.in_default.ensures.none refl b last)

pub returns-in_default-found-clause-follows : goal.returns-in_default-found-clause-follows
returns-in_default-found-clause-follows c = λ b t ts kind last shown tells done own gather. record {
  known = tells.known;
  some = tells.some;
  started = tells.started;
  follows = record { follows = c.in_ok-found.ensures.follows (t ∷ ts) tells.follows.but; names = tells.follows.names };
}

pub returns-in_default-found-clause-first : goal.returns-in_default-found-clause-first
returns-in_default-found-clause-first c = λ b t ts kind last shown tells done own gather.
    let roots = c.args.roots.now in
    let now = c.in-Some.begun.now in
    let same = same_Some b now (sym last ∙ c.in-Some.ensures.some) in
    let s = subst (λ z. IsShown roots z t) same shown in
    let lists = lists_shown roots b t c.args.self.now.known shown tells.rules in
    if_none c.in_ok-found.found (NoneOfNode c.args.v.now.map.now t c.args.node)
    (c.in_ok-found.ensures.apart t ts tells.follows.but own lists (ordered roots now t s)) c.in_default-found.is

pub returns-clause-follows : goal.returns-clause-follows
returns-clause-follows c = λ b t ts kind last shown tells done own gather.
    let roots = c.args.roots.now in
    let now = c.in-Some.begun.now in
    let frames = c.args.v.now.frames.now in
    let rows = c.args.v.now.map.now in
    let same = same_Some b now (sym last ∙ c.in-Some.ensures.some) in
    let s = subst (λ z. IsShown roots z t) same shown in
    let lists = lists_shown roots b t c.args.self.now.known shown tells.rules in
    let first = if_some c.in_ok-found.found (IsFirst frames (IsConflictIn frames rows t (AreOfNode t c.args.node)))
    (c.in_ok-found.ensures.first t ts tells.follows.but own lists (ordered roots now t s)) c.in-Some-found.found c.in-Some-found.is in
    seen_some frames (IsConflictDone frames rows t c.args.node) (IsRecording roots (t ∷ ts) _) c.in_ok-seen.seen
    (c.in_ok-seen.ensures.first t ts tells.known s
    (record { follows = c.in_ok-found.ensures.follows (t ∷ ts) tells.follows.but; names = tells.follows.names }) done gather first)

pub returns-clause-first : goal.returns-clause-first
returns-clause-first c = λ b t ts kind last shown tells done own gather.
    let roots = c.args.roots.now in
    let now = c.in-Some.begun.now in
    let frames = c.args.v.now.frames.now in
    let rows = c.args.v.now.map.now in
    let same = same_Some b now (sym last ∙ c.in-Some.ensures.some) in
    let s = subst (λ z. IsShown roots z t) same shown in
    let lists = lists_shown roots b t c.args.self.now.known shown tells.rules in
    let first = if_some c.in_ok-found.found (IsFirst frames (IsConflictIn frames rows t (AreOfNode t c.args.node)))
    (c.in_ok-found.ensures.first t ts tells.follows.but own lists (ordered roots now t s)) c.in-Some-found.found c.in-Some-found.is in
    sees_seen frames (IsConflictDone frames rows t c.args.node) (NoneOfNode rows t c.args.node) c.in_ok-seen.seen
    (c.in_ok-seen.ensures.first t ts tells.known s
    (record { follows = c.in_ok-found.ensures.follows (t ∷ ts) tells.follows.but; names = tells.follows.names }) done gather first)
