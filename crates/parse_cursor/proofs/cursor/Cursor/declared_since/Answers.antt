use Rattle.std.proofs.Common.{map, drop, ap, sym, subst, ◌∙◌}
use Rattle.std.specs.Prelude.{All}
use Rattle.parse_cursor.specs.Declarations.{IsWithin, said}
use Rattle.parse_cursor.specs.declared.scope.Named.{Named}
use Rattle.parse_cursor.proofs.Cursors.{said_since, within_since}
use Rattle.parse_cursor.proofs.cursor.Cursor.declared_since.Goals as goal

pub returns : goal.returns
returns c = record {
  since =
      ap (map said) c.in_ok-found.ensures
      ∙ ap (λ xs. map said (map (λ (x : Named). x.declared) xs)) c.since.ensures
      ∙ said_since c.self.inside.scope.names c.args.count
      ∙ ap (λ v. drop c.args.count v.names) c.self.view_is;
  within =
      let all = within_since c.self.inside.tokens.now c.self.inside.at c.self.inside.spelled.items c.self.inside.scope c.self.inside.prototype.items
      c.args.count c.self.invariant in
      subst (All (IsWithin c.args.self.now.tokens)) (sym (c.in_ok-found.ensures ∙ ap (map (λ (x : Named). x.declared)) c.since.ensures))
      (subst (λ v. All (IsWithin v.tokens) (map (λ (x : Named). x.declared) (drop c.args.count c.self.inside.scope.names))) c.self.view_is all);
  memory = tt;
}
