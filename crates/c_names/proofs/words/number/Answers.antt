use Rattle.std.proofs.Common.{◌≡◌, ◌∙◌, sym, subst, true≢false, IsUtf8, decimal}
use Rattle.std.specs.Str.Parse.{ParsesUnsigned}
use Rattle.std.proofs.lemmas.Str.{IsUtf8-from_ascii}
use Rattle.std.proofs.lemmas.Fmt.{IsAscii-decimal}
use Rattle.std.proofs.lemmas.Slice.Eq.{slice_eq-Decides}
use Rattle.std.proofs.lemmas.Bool.Decides.{Decides-eqb}
use Rattle.c_names.proofs.Cuts.{IsNoNumber-from_parse, IsNoNumber-from_other}
use Rattle.c_names.proofs.words.number.Goals as goal

pub returns-in_default : goal.returns-in_default
returns-in_default c n h e = c.in_default.ensures.cases.0 (subst IsUtf8 e (IsUtf8-from_ascii (decimal n) (IsAscii-decimal n h)))

pub returns-in_default-parse : goal.returns-in_default-parse
returns-in_default-parse c =
    IsNoNumber-from_parse c.args.text.now c.parse.result c.in_default-parse.field-0
    (subst (λ t. ParsesUnsigned 64 10 t c.parse.result) c.in-Ok.ensures.cases.0 c.parse.ensures.value.0) c.in_default-parse.is

pub returns-else-eq : goal.returns-else-eq
returns-else-eq c =
    IsNoNumber-from_other c.args.text.now c.parse.result c.in-Ok-parse.value
    (subst (λ t. ParsesUnsigned 64 10 t c.parse.result) c.in-Ok.ensures.cases.0 c.parse.ensures.value.0) c.in-Ok-parse.is
    (λ same. true≢false (sym ((slice_eq-Decides Decides-eqb _ _ _ c.eq.ensures).1 (c.as_bytes.ensures.value ∙ c.format.ensures.text ∙ same)) ∙ c.if-eq.false))
