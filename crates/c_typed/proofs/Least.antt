-- `int main(void) {}` is lawful.
use Rattle.std.specs.Prelude.{slice_get, is_some, ◌⊎◌}
use Rattle.std.proofs.Common.{inl, ◌≡◌, ℕ, ◌<◌, ◌^◌, List, [], ◌∷◌, length, Some, None, Option, refl, sym, subst, ap, arith}
use Rattle.std.specs.List.{All}
use Rattle.std.proofs.lemmas.List.Elements.{All-nil, All-cons}
use Rattle.c_types.specs.Types.{int, Signature, none, signature_of}
use Rattle.c_types.specs.declared.kind.IntKind.TheVariants.{Int}
use Rattle.c_types.specs.declared.library.LibFunc.{LibFunc}
use Rattle.c_typed.specs.declared.statement.Body.{Body}
use Rattle.c_typed.specs.declared.program.Function.{Function}
use Rattle.c_typed.specs.declared.program.Program.{Program}
use Rattle.c_typed.specs.Sites.{Expression, expressions, summary, Summary, SwitchRow, BlockRow}
use Rattle.c_typed.specs.Least.{lone_block, LeastIsLawful}
use Rattle.c_typed.specs.Lawful.{
  There,
  Where,
  HasBody,
  IsMainType,
  fixed,
  FunctionIsLawful,
  IsUsual,
  BodyIsLawful,
  LibraryFits,
  IsExternal,
  BeginsWith,
  StatementsAreLawful,
  BlockIsLawful,
  SwitchIsLawful,
  ExpressionIsLawful,
  StaticIsLawful,
  AreBytes,
  HasBytes,
  IsComplete,
}

none_twice : {X : Type 0} (R : X → X → Type 0) (i j : ℕ) (d : X) → i < j → j < 0 → ⊥
none_twice R i j d a b = omega arith

block : (p : Program) → BlockIsLawful p.tags (record { number = 0; objects = []; declares = [] })
block p = record { objects = All-nil _; declared = All-nil _; few = omega arith }

statements : (p : Program) → StatementsAreLawful p.tags lone_block
statements p = record {
  numbered = (refl, tt);
  blocks = All-cons (BlockIsLawful p.tags) _ [] (block p) (All-nil _);
  few_blocks = omega arith;
  switches = All-nil _;
  no_case = refl;
  no_default = refl;
  no_break = refl;
  no_continue = refl;
  distinct = λ i j d a b. absurd (none_twice ◌≡◌ i j d a b);
  defined = All-nil _;
}

body_of :
    (p : Program) (s : Signature) (b : Body) → s ≡ fixed (int Int) [] → expressions b ≡ [] → summary b ≡ lone_block →
    BodyIsLawful p s b
body_of p s b sig ex su = record {
  begins = subst (λ (z : Signature). BeginsWith z.params (summary b).blocks) (sym sig) (subst (λ (z : Summary). BeginsWith none z.blocks) (sym su) tt);
  not_variadic = ap (λ (z : Signature). z.variadic) sig;
  statements = subst (StatementsAreLawful p.tags) (sym su) (statements p);
  full = subst (All (ExpressionIsLawful p s)) (sym ex) (All-nil _);
  few = subst (λ (es : List Expression). length es < 2 ^ 32) (sym ex) (omega arith);
}

pub least_is_lawful : LeastIsLawful
least_is_lawful p f b fs ss ls ts m sig lib bod ex su h = record {
  main = subst (λ (xs : List Function). There (slice_get xs p.main) HasBody) (sym fs)
      (subst (λ (n : ℕ). There (slice_get (f ∷ []) n) HasBody) (sym m) (ap is_some bod));
  main_type = subst (λ (xs : List Function). There (slice_get xs p.main) (λ g. IsMainType (signature_of g.ty))) (sym fs)
      (subst (λ (n : ℕ). There (slice_get (f ∷ []) n) (λ g. IsMainType (signature_of g.ty))) (sym m) (inl sig));
  functions = subst (All (FunctionIsLawful p)) (sym fs) (All-cons (FunctionIsLawful p) f [] (record {
    usual = subst IsUsual (sym sig) (tt, tt);
    body = subst (Where (BodyIsLawful p (signature_of f.ty))) (sym bod) (body_of p (signature_of f.ty) b sig ex su);
    library = subst (Where (LibraryFits f)) (sym lib) tt;
    height = h;
  }) (All-nil _));
  library = subst (All IsExternal) (sym fs) (All-cons IsExternal f [] (subst (Where (λ (l : LibFunc). f.body ≡ None)) (sym lib) tt) (All-nil _));
  literals = subst (All HasBytes) (sym ls) (All-nil _);
  bytes = subst (All AreBytes) (sym ls) (All-nil _);
  complete = subst (All (IsComplete p.tags)) (sym ss) (All-nil _);
  statics = subst (All (StaticIsLawful p)) (sym ss) (All-nil _);
  numbered = record {
    functions = rw fs (omega arith);
    statics = rw ss (omega arith);
    literals = rw ls (omega arith);
    tags = rw ts (omega arith);
  };
}
