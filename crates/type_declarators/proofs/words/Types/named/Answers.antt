use Rattle.std.proofs.Common.{◌≡◌, ap, ◌∙◌, sym, rules}
use Rattle.std.specs.Prelude.{Some, if◌then◌else◌, ◌++◌}
use Rattle.c_types.specs.Types.{CType, type_of, int, void}
use Rattle.c_types.specs.declared.ty.Ty as TheTy
use Rattle.c_types.specs.declared.ty.Ty.TheVariants as ty
use Rattle.type_declarators.specs.Keywords.{named_by, kind_rows, truth_rows}
use Rattle.type_declarators.proofs.Named.{first_rows}
use Rattle.type_declarators.proofs.words.Types.named.Goals as goal

pub returns-in-Some : goal.returns-in-Some
returns-in-Some c =
    let e : type_of (ty.Int c.in-Some.kind) ≡ int c.in-Some.kind = search (rules, TheTy.the_lemmas) in
    ap (λ (t : CType). Some t) e
    ∙ first_rows c.args.self (int c.in-Some.kind) kind_rows truth_rows c.in-Some.ensures
    ∙ sym (ap (λ b. if b then Some void else named_by c.args.self (kind_rows ++ truth_rows)) (sym c.is_same.ensures ∙ c.if-is_same.false))
