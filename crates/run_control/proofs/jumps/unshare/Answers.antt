use Rattle.std.proofs.Common.{◌≡◌, ℕ, ◌-◌, List, [], ◌++◌, take, sym, ◌∙◌, ap}
use Rattle.std.proofs.lemmas.List.{append-nil}
use Rattle.c_model.specs.Control.{unshared}
use Rattle.run_control.specs.Links.{outwards_in}
use Rattle.run_control.proofs.Arrivals.{unshared_none}
use Rattle.run_control.proofs.jumps.unshare.Goals as goal

none_left : {A : Type 0} (xs ys : List A) (n : ℕ) → xs ≡ ys ++ [] → ys ≡ take (n - 1) xs → n ≡ 0 → xs ≡ []
none_left xs ys n e f z = e ∙ (append-nil ys ∙ (f ∙ ap (λ k. take (k - 1) xs) z))

pub returns-clause-entered : goal.returns-clause-entered
returns-clause-entered c = λ m.
    let none : c.loop-a.left.items ≡ [] =
    none_left c.loop-a.left.items c.pop.new.self.items _ c.in_default.ensures.items c.in_default.ensures.rest c.in_default.ensures.cases.0 in
    sym (ap (λ bs. unshared (outwards_in m c.loop-a.entered.items) (outwards_in m bs)) none ∙ unshared_none (outwards_in m c.loop-a.entered.items))
    ∙ c.loop-a.invariant.1 m
