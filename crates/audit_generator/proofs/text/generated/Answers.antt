use Rattle.std.proofs.Common.{codes, ◌++◌, ◌≤◌, ◌^◌, length, List, ℕ, sym, subst, ◌≡◌, ◌∙◌, ap, append_assoc, arith, refl}
use Rattle.audit_generator.specs.Text.{lines, text}
use Rattle.audit_generator.proofs.Sizes.{next_lines, next_draw, whole_size}
use Rattle.audit_generator.proofs.text.generated.Goals as goal

pub loop-line-preserved : goal.loop-line-preserved
loop-line-preserved c = record {
  out = next_lines c.args.seed c.loop-line._line c.loop-line.x c.loop-line.out c.put_line.new.out
      (codes "unsigned a[8]={1,2,3,4,5,6,7,8};\nint main(void){\n") c.loop-line.invariant.out c.loop-line.invariant.draw c.in_ok-x.ensures.text;
  draw = next_draw c.args.seed c.loop-line._line c.loop-line.x c.in_ok-x.x c.loop-line.invariant.draw c.in_ok-x.ensures.last;
  within = c.in_ok-x.ensures.within;
}

pub returns-clause-within : goal.returns-clause-within
returns-clause-within c =
    whole_size c.args.seed c.loop-line._line c.args.count c.loop-line.out c.append.new.self (codes "unsigned a[8]={1,2,3,4,5,6,7,8};\nint main(void){\n")
    (codes "return (int)(a[0]&127u);\n}\n")
    (omega arith) c.loop-line.invariant.out c.in_ok-append.ensures.ok refl c.requires.count
