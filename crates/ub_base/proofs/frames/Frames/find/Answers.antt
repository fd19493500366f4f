use Rattle.std.proofs.Common.{ap, ◌+◌, ◌-◌, ℕ, ◌≡◌, Some, slice_get, position, sym, ◌∙◌, arith, false}
use Rattle.std.specs.List.{list_any}
use Rattle.std.proofs.lemmas.Option.{slice_get_within}
use Rattle.ub_base.proofs.FrameLemmas.{same_row, slice_get-position, absent-list_any}
use Rattle.ub_base.proofs.frames.Frames.find.Goals as goal

add_sub : (n : ℕ) → (n + 1) - 1 ≡ n
add_sub n = omega arith

pub returns-in-Some-clause-some : goal.returns-in-Some-clause-some
returns-in-Some-clause-some c =
    let h : position (λ y. same_row (c.args.parent, c.args.turn, c.args.node) y) c.self.inside.rows.keys ≡ Some c.in-Some.at = sym c.in-Some.ensures.index in
    let at = slice_get-position _ c.self.inside.rows.keys c.in-Some.at h in (
      omega arith,
      rw (← c.self.view_is) (omega (arith, slice_get_within c.self.inside.rows.keys c.in-Some.at _ at)),
      rw (← c.self.view_is) (ap (slice_get c.self.inside.rows.keys) (add_sub c.in-Some.at) ∙ at),
    )

pub returns-in-None-clause-none : goal.returns-in-None-clause-none
returns-in-None-clause-none c h =
    let none : list_any (λ y. same_row (c.args.parent, c.args.turn, c.args.node) y) c.self.inside.rows.keys ≡ false = sym c.in-None.ensures.found in
    absent-list_any _ c.self.inside.rows.keys none (rw c.self.view_is h)
