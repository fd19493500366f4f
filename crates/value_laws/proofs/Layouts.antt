-- Compatible types have one size.
use Rattle.std.proofs.Common.{◌∙◌, ◌≡◌, false, List, refl, sym, ap, subst}
use Rattle.c_types.specs.declared.tags.Tag.{Tag}
use Rattle.c_types.specs.Types.{CType, void, int, enumeration, pointer, array, struct, union, function, Params, none, more, Compatible, EachMatches}
use Rattle.value_laws.specs.Sizes.{Keeps}
use Rattle.value_laws.specs.Parameters.{Passes, AreKept}
use Rattle.c_typed.specs.Lawful.{IsNoArray, AreNoArrays}
use Rattle.value_laws.specs.Layouts.{laid_out, IsUsual, CallKeeps}
use Rattle.value_laws.proofs.Frames.{keeps_itself}

module _ (tags : List Tag) where
  one_size : (a b : CType) → IsNoArray a → Compatible a b → laid_out tags a ≡ laid_out tags b
  one_size void void n m = refl
  one_size (int j) (int k) n m = ap (λ z. laid_out tags (int z)) m
  one_size (int j) (enumeration t) n m = ap (λ z. laid_out tags (int z)) m
  one_size (enumeration t) (int k) n m = ap (λ z. laid_out tags (int z)) (sym m)
  one_size (enumeration t) (enumeration u) n m = refl
  one_size (pointer c a) (pointer d b) n m = refl
  one_size (struct t) (struct u) n m = ap (λ z. laid_out tags (struct z)) m
  one_size (union t) (union u) n m = ap (λ z. laid_out tags (union z)) m
  one_size (function r ps v) (function s qs w) n m = refl
  one_size (array c a k) b n m = absurd n
  one_size _ _ n m = absurd m

  params_kept : (ps qs : Params) → AreNoArrays ps → EachMatches false ps qs → AreKept (laid_out tags) qs ps
  params_kept none none n m = tt
  params_kept (more c a ps) (more d b qs) n m = (
    subst (Keeps (laid_out tags b)) (sym (one_size a b n.0 m.0)) (keeps_itself (laid_out tags b)),
    params_kept ps qs n.1 m.1,
  )
  params_kept none (more d b qs) n m = absurd m
  params_kept (more c a ps) none n m = absurd m

  pub call_keeps : (fun by : CType) → IsUsual fun → Compatible fun by → CallKeeps (laid_out tags) fun by
  call_keeps (function r ps v) (function s qs w) u m = record {
    gives = subst (Keeps (laid_out tags r)) (one_size r s u.0 m.0) (keeps_itself (laid_out tags r));
    takes = λ e. subst (λ z. Passes (laid_out tags) (function s qs z) (function r ps v)) (sym e ∙ m.2) (params_kept ps qs u.1 m.1);
  }
  call_keeps (function r ps v) void u m = absurd m
  call_keeps (function r ps v) (int k) u m = absurd m
  call_keeps (function r ps v) (enumeration t) u m = absurd m
  call_keeps (function r ps v) (pointer c t) u m = absurd m
  call_keeps (function r ps v) (array c t k) u m = absurd m
  call_keeps (function r ps v) (struct t) u m = absurd m
  call_keeps (function r ps v) (union t) u m = absurd m
  call_keeps void by u m = absurd u
  call_keeps (int k) by u m = absurd u
  call_keeps (enumeration t) by u m = absurd u
  call_keeps (pointer c t) by u m = absurd u
  call_keeps (array c t k) by u m = absurd u
  call_keeps (struct t) by u m = absurd u
  call_keeps (union t) by u m = absurd u
