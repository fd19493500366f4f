use Rattle.std.proofs.Common.{◌≡◌, ◌≤◌, ◌++◌, codes}
use Rattle.audit_generator.specs.Text.{lines, draw_before}
use Rattle.audit_generator.proofs.text.generated.Given as goal

abbrev pub invariant-loop-line : goal.invariant-loop-line
invariant-loop-line l = record {
  out : l.out ≡ codes "unsigned a[8]={1,2,3,4,5,6,7,8};\nint main(void){\n" ++ lines l.seed l._line;
  draw : l.x ≡ draw_before l.seed l._line;
  within : l.x ≤ 65536;
}
