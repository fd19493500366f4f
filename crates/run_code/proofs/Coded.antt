-- Which functions have code.
use Rattle.std.proofs.Common.{◌≡◌, ◌≤◌, ℕ, zero, suc, List, [], ◌∷◌, length, take, Option, Some, None, slice_get, refl, sym, subst, ◌∙◌}
use Rattle.std.proofs.lemmas.List.{take_all}
use Rattle.c_typed.specs.declared.program.Function.{Function}
use Rattle.c_typed.specs.declared.statement.Block.{Block}
use Rattle.run_statements.specs.declared.numbers.Numbers.{Numbers}
use Rattle.run_layout.specs.declared.steps.FunctionCode.{FunctionCode}
use Rattle.run_layout.specs.declared.whole.Code.{Code}
use Rattle.run_layout.specs.Roots.{block_in, HaveCode}
use Rattle.run_code.specs.Statements.{IsCodeOf, AreCodeOf}

abbrev CodeAt : List (Option FunctionCode) → ℕ → Type 0
CodeAt cs n = (c : FunctionCode) × (slice_get cs n ≡ Some (Some c))

abbrev BlockAt : List Function → ℕ → Type 0
BlockAt fs n = (f : Function) × (slice_get fs n ≡ Some f) × (b : Block) × (block_in f.body ≡ Some b)

of_block : (ns : Numbers) (o : Option Block) (b : Block) (c : Option FunctionCode) → o ≡ Some b → IsCodeOf ns o c → (d : FunctionCode) × (c ≡ Some d)
of_block ns None b c e h = absurd (cc)
of_block ns (Some x) b None e h = absurd h
of_block ns (Some x) b (Some d) e h = (d, refl)

of_code : (ns : Numbers) (o : Option Block) (c : FunctionCode) → IsCodeOf ns o (Some c) → (b : Block) × (o ≡ Some b)
of_code ns None c h = absurd h
of_code ns (Some b) c h = (b, refl)

defined : (ns : Numbers) (fs : List Function) (cs : List (Option FunctionCode)) (n : ℕ) (f : Function) (b : Block) → AreCodeOf ns fs cs
    → slice_get fs n ≡ Some f → block_in f.body ≡ Some b → CodeAt cs n
defined ns [] cs zero f b h at is = absurd (cc)
defined ns [] cs (suc n) f b h at is = absurd (cc)
defined ns (g ∷ fs) [] n f b h at is = absurd h
defined ns (g ∷ fs) (c ∷ cs) zero f b h at is =
    let same : g ≡ f = cc in
    let d = of_block ns (block_in f.body) b c is (subst (λ (x : Function). IsCodeOf ns (block_in x.body) c) same h.0) in
    let e = d.1 in (d.0, cc)
defined ns (g ∷ fs) (c ∷ cs) (suc n) f b h at is = defined ns fs cs n f b h.1 at is

only : (ns : Numbers) (fs : List Function) (cs : List (Option FunctionCode)) (n : ℕ) (c : FunctionCode) → AreCodeOf ns fs cs
    → slice_get cs n ≡ Some (Some c) → BlockAt fs n
only ns [] [] zero c h at = absurd (cc)
only ns [] [] (suc n) c h at = absurd (cc)
only ns [] (d ∷ cs) n c h at = absurd h
only ns (g ∷ fs) [] n c h at = absurd h
only ns (g ∷ fs) (d ∷ cs) zero c h at =
    let same : d ≡ Some c = cc in
    let b = of_code ns (block_in g.body) c (subst (IsCodeOf ns (block_in g.body)) same h.0) in
    (g, refl, b.0, b.1)
only ns (g ∷ fs) (d ∷ cs) (suc n) c h at = only ns fs cs n c h.1 at

-- where all functions were gone through
pub all_coded : (ns : Numbers) (fs items : List Function) (i : ℕ) (cs ds : List (Option FunctionCode)) → length items ≤ i → items ≡ fs → ds ≡ cs
    → AreCodeOf ns (take i items) cs → AreCodeOf ns fs ds
all_coded ns fs items i cs ds end is same h =
    subst (AreCodeOf ns fs) (sym same) (subst (λ (z : List Function). AreCodeOf ns z cs) (take_all i items end ∙ is) h)

pub have_code : (ns : Numbers) (fs : List Function) (code : Code) → AreCodeOf ns fs code.functions.items → HaveCode fs code
have_code ns fs code h = record {
  defined = λ n f b at is. defined ns fs code.functions.items n f b h at is;
  only = λ n c. only ns fs code.functions.items n c.0 h c.1;
}
