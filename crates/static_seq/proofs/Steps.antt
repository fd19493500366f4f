-- Steps of the loops over accesses, roots and functions.
use Rattle.std.proofs.Common.{
  ◌≡◌,
  ℕ,
  zero,
  suc,
  ◌+◌,
  ◌<◌,
  Bool,
  true,
  false,
  not,
  ◌&&◌,
  ◌||◌,
  List,
  [],
  ◌∷◌,
  ◌++◌,
  length,
  drop,
  get_or,
  slice_get,
  Some,
  None,
  Bor,
  refl,
  sym,
  ap,
  subst,
  ◌∙◌,
  append_assoc,
  arith,
}
use Rattle.std.specs.List.{All}
use Rattle.std.proofs.lemmas.List.Elements.{All-get_or}
use Rattle.ub_base.proofs.Tests.{if_true}
use Rattle.c_typed.specs.declared.tree.Typed.{Typed}
use Rattle.c_typed.specs.declared.program.Program.{Program}
use Rattle.static_places.specs.Preorder.{tree_at, trees_at}
use Rattle.static_seq.specs.declared.accesses.MemoryAccess.{MemoryAccess}
use Rattle.static_seq.specs.declared.verdicts.Verdict.{Verdict}
use Rattle.static_seq.specs.Accesses.{some_writes, next}
use Rattle.static_seq.specs.Parted.{first_beside, first_pair, or_pair}
use Rattle.static_seq.specs.Verdicts.{Counts, verdict_of, verdicts_from}

pub dropped : {A : Type 0} → (xs : List A) (i : ℕ) (x : A) → i < length xs → x ≡ get_or xs i x → drop i xs ≡ x ∷ drop (i + 1) xs
dropped {A} xs i x h e =
    let next : suc i ≡ i + 1 = omega arith in
    go xs i h e ∙ ap (λ z. x ∷ drop z xs) next
  where
    go : (xs : List A) (i : ℕ) → i < length xs → x ≡ get_or xs i x → drop i xs ≡ x ∷ drop (suc i) xs
    go [] i h e = absurd (omega (arith, h))
    go (y ∷ ys) zero h e = ap (λ z. z ∷ ys) (sym e)
    go (y ∷ ys) (suc i) h e = go ys i (omega (arith, h)) e

neither_left : (x y : Bool) → (x || y) ≡ false → x ≡ false
neither_left false y h = refl
neither_left true y h = h

neither_right : (x y : Bool) → (x || y) ≡ false → y ≡ false
neither_right false y h = h
neither_right true y h = absurd (cc)

unwritten : (x y z : Bool) → x ≡ false → y ≡ false → ((not x && not y) || z) ≡ true
unwritten false false z h g = refl
unwritten true y z h g = absurd (cc)
unwritten false true z h g = absurd (cc)

module _ (p : Program) (function : ℕ) (root : Typed) where
  beside_reads : (a : MemoryAccess) (bs : List MemoryAccess) → a.writes ≡ false → some_writes bs ≡ false → first_beside p function root a bs ≡ None
  beside_reads a [] h g = refl
  beside_reads a (b ∷ bs) h g =
      if_true _ _ _ (unwritten a.writes b.writes _ h (neither_left b.writes (some_writes bs) g))
      ∙ beside_reads a bs h (neither_right b.writes (some_writes bs) g)

  -- reads alone
  pub only_reads : (as_list : List MemoryAccess) → some_writes as_list ≡ false → first_pair p function root as_list ≡ None
  only_reads [] h = refl
  only_reads (a ∷ rest) h =
      ap (λ z. or_pair a.at z (first_pair p function root rest))
      (beside_reads a rest (neither_left a.writes (some_writes rest) h) (neither_right a.writes (some_writes rest) h))
      ∙ only_reads rest (neither_right a.writes (some_writes rest) h)

pub length-trees : (roots : List (Bor Typed)) → length (trees_at roots) ≡ length roots
length-trees [] = refl
length-trees (r ∷ rs) = ap (λ z. suc z) (length-trees rs)

get_or-trees : (roots : List (Bor Typed)) (i : ℕ) (x : Bor Typed) → get_or (trees_at roots) i x.now ≡ (get_or roots i x).now
get_or-trees [] i x = refl
get_or-trees (r ∷ rs) zero x = refl
get_or-trees (r ∷ rs) (suc i) x = get_or-trees rs i x

pub counts_at : (roots : List (Bor Typed)) (i : ℕ) (x : Bor Typed) → i < length roots → x ≡ get_or roots i x → All Counts (trees_at roots) → Counts x.now
counts_at roots i x h e all =
    let l = length-trees roots in
    subst Counts (get_or-trees roots i x ∙ sym (ap tree_at e)) (All-get_or Counts (trees_at roots) i x.now (omega (arith, h, l)) all)

-- one verdict more
pub said_more : (p : Program) (function x : ℕ) (roots : List (Bor Typed)) (i : ℕ) (r : Bor Typed) (old new whole : List Verdict) (v : Verdict)
    → i < length roots → r ≡ get_or roots i r → v ≡ verdict_of p function x r.now → new ≡ old ++ v ∷ []
    → old ++ verdicts_from p function x (trees_at (drop i roots)) ≡ whole
    → new ++ verdicts_from p function (next x) (trees_at (drop (i + 1) roots)) ≡ whole
said_more p function x roots i r old new whole v h e q n w =
    let rest = verdicts_from p function (next x) (trees_at (drop (i + 1) roots)) in
    ap (λ z. z ++ rest) n
    ∙ (append_assoc old (v ∷ []) rest
    ∙ (ap (λ z. old ++ (z ∷ rest)) q ∙ (ap (λ z. old ++ verdicts_from p function x (trees_at z)) (sym (dropped roots i r h e)) ∙ w)))

pub slice_trees : (roots : List (Bor Typed)) (i : ℕ) (x : Bor Typed) → i < length roots → x ≡ get_or roots i x → slice_get (trees_at roots) i ≡ Some x.now
slice_trees [] i x h e = absurd (omega (arith, h))
slice_trees (r ∷ rs) zero x h e = ap (λ z. Some (tree_at z)) (sym e)
slice_trees (r ∷ rs) (suc i) x h e = slice_trees rs i x (omega (arith, h)) e
