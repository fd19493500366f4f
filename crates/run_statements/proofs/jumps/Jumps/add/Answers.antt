use Rattle.std.proofs.Common.{◌∙◌, ◌++◌, ◌∷◌, [], ℕ, ap, map, refl, Vec, Global}
use Rattle.run_control.specs.declared.targets.Found.{Found}
use Rattle.run_statements.specs.declared.jumps.Jumps.{Jumps}
use Rattle.run_statements.proofs.Casing.{add_body, add_none}
use Rattle.run_statements.proofs.Jumping.{is_none_of, jumps_for_body, jumps_for_none}
use Rattle.run_statements.proofs.jumps.Jumps.add.Goals as goal

pub returns-in_default : goal.returns-in_default
returns-in_default c = λ bodies has.
    let new : Jumps = record c.args.self.now { labels = c.push.new.self } in
    add_none c.args.self.now new bodies c.args.body (is_none_of c.args.body c.in_default.not-Some) refl refl refl
    (jumps_for_none c.args.self.now new c.new.result bodies c.args.body c.in_default.not-Some refl c.in_ok-push.ensures.items c.new.ensures.items) has

pub returns : goal.returns
returns c = λ bodies has.
    let new : Jumps = record {
      links = c.targets_of.new.links;
      labels = c.push-2.new.self;
      cases = c.add_cases.new.self.cases;
      owners = c.add_cases.new.self.owners;
    } in
    add_body c.args.self.now c.add_cases.new.self new bodies c.args.body c.in-Some.body c.deref.result.now c.switches_of.new.found.items
    c.new-switches.result.items c.in-Some.is refl c.in_ok-targets_of.ensures.older c.in_ok-targets_of.ensures.longer c.in_ok-add_cases.ensures.cases
    c.deref.ensures.value c.new-switches.ensures.items c.in_ok-switches_of.ensures
    (c.in_ok-add_cases.ensures.owners
    ∙ ap (λ (n : ℕ). c.args.self.now.owners.items ++ map (λ s. n) c.deref.result.now) (c.len-function.ensures ∙ c.args.self.now.labels.ok.0))
    (jumps_for_body c.args.self.now new c.add_cases.new.self.links.items c.in_ok-targets_of.field-0 bodies c.args.body c.in-Some.body c.in-Some.is
    c.in_ok-add_cases.ensures.older c.in_ok-add_cases.ensures.longer c.in_ok-targets_of.ensures.older c.in_ok-targets_of.ensures.longer
    (c.in_ok-push-2.ensures.items ∙ ap (λ (v : Vec (Vec Found Global) Global). v.items ++ c.in_ok-targets_of.field-0 ∷ []) c.in_ok-add_cases.ensures.labels)
    c.in_ok-targets_of.ensures.finds c.in_ok-targets_of.ensures.range) has
