-- The composite of two compatible types is compatible with both.
use Rattle.std.proofs.Common.{ℕ, false, Option, Some, None, refl}
use Rattle.c_types.specs.Types.{
  CType,
  Params,
  void,
  int,
  enumeration,
  pointer,
  array,
  struct,
  union,
  function,
  none,
  more,
  Matches,
  EachMatches,
  SizesAgree,
  known_count,
  composite,
  composites,
}

same_size : (m : Option ℕ) → SizesAgree m m
same_size None = tt
same_size (Some m) = refl

first_size : (m n : Option ℕ) → SizesAgree (known_count m n) m
first_size (Some m) n = refl
first_size None None = tt
first_size None (Some n) = tt

second_size : (m n : Option ℕ) → SizesAgree m n → SizesAgree (known_count m n) n
second_size (Some m) n h = h
second_size None n h = same_size n

mutual
  same : (a : CType) → Matches false a a
  same void = tt
  same (int k) = refl
  same (enumeration n) = refl
  same (pointer c a) = (refl, same a)
  same (array c a n) = (refl, same a, same_size n)
  same (struct n) = refl
  same (union n) = refl
  same (function r ps v) = (same r, each_same ps, refl)

  each_same : (ps : Params) → EachMatches false ps ps
  each_same none = tt
  each_same (more c a ps) = (same a, each_same ps)

mutual
  pub first : (a b : CType) → Matches false a b → Matches false (composite a b) a
  first (pointer c a) (pointer d b) h = (refl, first a b h.1)
  first (array c a m) (array d b n) h = (refl, first a b h.1, first_size m n)
  first (function r ps v) (function s qs w) h = (first r s h.0, each_first ps qs h.1, refl)
  first a b h = same a

  each_first : (ps qs : Params) → EachMatches false ps qs → EachMatches false (composites ps qs) ps
  each_first (more c a ps) (more d b qs) h = (first a b h.0, each_first ps qs h.1)
  each_first ps qs h = each_same ps

mutual
  pub second : (a b : CType) → Matches false a b → Matches false (composite a b) b
  second (pointer c a) (pointer d b) h = (h.0, second a b h.1)
  second (array c a m) (array d b n) h = (h.0, second a b h.1, second_size m n h.2)
  second (function r ps v) (function s qs w) h = (second r s h.0, each_second ps qs h.1, h.2)
  second a b h = h

  each_second : (ps qs : Params) → EachMatches false ps qs → EachMatches false (composites ps qs) qs
  each_second (more c a ps) (more d b qs) h = (second a b h.0, each_second ps qs h.1)
  each_second ps qs h = h
