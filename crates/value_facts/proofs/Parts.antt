-- What the parts of library functions that are alike everywhere give is small, and leaves small bytes.
use Rattle.std.proofs.Common.{arith, ◌≡◌, ◌+◌, ◌<◌, ◌≤◌, ◌^◌, ℕ, zero, suc, ◌==◌, Bool, true, false, if◌then◌else◌}
use Rattle.std.proofs.Common.{List, [], ◌∷◌, length, map, Option, Some, None, refl, subst, ℤ, pos, negsuc, unsigned_abs}
use Rattle.std.specs.Prelude.{nat_lt}
use Rattle.std.proofs.lemmas.Int.{ints}
use Rattle.std.proofs.lemmas.List.{length-append}
use Rattle.std.proofs.lemmas.List.Elements.{All-nil, All-cons, All-head, All-tail, All-append, All-map}
use Rattle.ub_base.specs.declared.clause.Clause.{Clause}
use Rattle.ub_base.specs.declared.clause.Clause.TheVariants.{Indeterminate}
use Rattle.ub_base.specs.declared.names.Event.{Event}
use Rattle.ub_base.specs.declared.names.ObjName.{ObjName}
use Rattle.exposure.specs.declared.prov.Prov.{Prov}
use Rattle.exposure.specs.declared.prov.Prov.TheVariants.{Empty, Whole, Either}
use Rattle.mem_spec.specs.Acts as acts
use Rattle.mem_spec.specs.Acts.{Accessed, argument, argument_in, argument_object, base_in, check_writable, copy_between, create, declared_of, has_place}
use Rattle.mem_spec.specs.Acts.{in_row}
use Rattle.mem_spec.specs.Acts.{offset_in, retagged, settle_by, show_pieces, size_in, stored_from, the_one_in, whole}
use Rattle.mem_spec.specs.Script.{Script, Give, Raise, Finish, Exceed, Misplace, Do, ◌>>=◌, ◌>>◌}
use Rattle.mem_spec.specs.Store.{TaggedByte}
use Rattle.libc_spec.specs.Library as lib
use Rattle.libc_spec.specs.Library.{LibValue, Text, address_in, argument_at, behind, bytes_at, check_target, ends_in_zero, heap_kind, heap_name, integer_in}
use Rattle.libc_spec.specs.Library.{is_given}
use Rattle.libc_spec.specs.Library.{is_heap_start, new_object, number_of_byte, numbers, order_of, overlap, place_of, pointer_behind, prov_in, read_numbers}
use Rattle.libc_spec.specs.Library.{size_of_value, start_object, text, text_at, text_from, until_zero, without_zero, write_numbers}
use Rattle.value_facts.specs.Held.{AreBytes}
use Rattle.value_facts.specs.Small.{IsSmallByte}
use Rattle.value_facts.proofs.Accesses.{AreSmallBytes, IsFew, require_then, retagged_small, show_pieces_so, stored_small, writable_so}
use Rattle.value_facts.proofs.Scripts.{Any, GivesSo, after_so, then_so}

-- ---- arguments and values
abbrev pub IsSmallLib : LibValue → Type 0
IsSmallLib (lib.number z) = unsigned_abs z < 2 ^ 64
IsSmallLib (lib.pointer a p) = a < 2 ^ 64
IsSmallLib lib.nothing = Unit {0}

abbrev pub AreSmallLib : List LibValue → Type 0
AreSmallLib [] = Unit {0}
AreSmallLib (v ∷ vs) = IsSmallLib v × AreSmallLib vs

pub argument_small : (vs : List LibValue) (i : ℕ) → AreSmallLib vs → IsSmallLib (argument_at vs i)
argument_small [] i h = tt
argument_small (v ∷ vs) zero h = h.0
argument_small (v ∷ vs) (suc i) h = argument_small vs i h.1

pub address_few : (v : LibValue) → IsSmallLib v → address_in v < 2 ^ 64
address_few (lib.number z) h = omega arith
address_few (lib.pointer a p) h = h
address_few lib.nothing h = omega arith

-- ---- more of scripts
pub any_of : {V : Type 0} (P : V → Type 0) (p : Script V) → GivesSo P p → GivesSo Any p
any_of P (Give v) h = tt
any_of P (Raise c) h = tt
any_of P (Finish n) h = tt
any_of P (Exceed c n) h = tt
any_of P Misplace h = tt
any_of P (Do t k) h = (h.0, λ a g. any_of P (k a) (h.1 a g))

pub when_so : {V : Type 0} (P : V → Type 0) (b : Bool) (p q : Script V) → (b ≡ true → GivesSo P p) → (b ≡ false → GivesSo P q)
    → GivesSo P (if b then p else q)
when_so P true p q h g = h refl
when_so P false p q h g = g refl

pub when : {V : Type 0} (P : V → Type 0) (b : Bool) (p q : Script V) → GivesSo P p → GivesSo P q → GivesSo P (if b then p else q)
when P b p q h g = when_so P b p q (λ e. h) (λ e. g)

-- ---- parts that are alike everywhere
pub plain_small : (ns : List ℕ) → AreBytes ns → AreSmallBytes (map lib.plain ns)
plain_small [] h = All-nil IsSmallByte
plain_small (n ∷ ns) h =
    All-cons IsSmallByte (lib.plain n) (map lib.plain ns) (All-head (λ n. n < 256) n ns h) (plain_small ns (All-tail (λ n. n < 256) n ns h))

pub numbers_small : (bs : List TaggedByte) → AreSmallBytes bs → AreBytes (numbers bs)
numbers_small bs h = All-map (λ n. n < 256) number_of_byte bs h

-- bytes that were read are the numbers of these
abbrev pub AreNumbersOf : List TaggedByte → List ℕ → Type 0
AreNumbersOf bs ns = ns ≡ numbers bs

pub numbers_so : (bs : List TaggedByte) → GivesSo (AreNumbersOf bs) (read_numbers bs)
numbers_so bs =
    require_then (AreNumbersOf bs) (acts.all_written bs) Indeterminate (show_pieces bs >> Give (numbers bs)) (λ e.
    after_so (AreNumbersOf bs) (show_pieces bs) (Give (numbers bs)) (show_pieces_so bs) refl)

pub target_so : (n : ℕ) (o : Option Accessed) → GivesSo Any (check_target n o)
target_so zero None = tt
target_so zero (Some at) = tt
target_so (suc n) None = tt
target_so (suc n) (Some at) = writable_so false at.life

pub written_so : (ns : List ℕ) (o : Option Accessed) → AreBytes ns → GivesSo Any (write_numbers ns o)
written_so [] None h = tt
written_so [] (Some at) h = tt
written_so (n ∷ ns) None h = tt
written_so (n ∷ ns) (Some at) h =
    (stored_small (declared_of at.life) acts.bytes 0 (map lib.plain (n ∷ ns)) (plain_small (n ∷ ns) h), λ a g. tt)

pub read_so : (n : ℕ) (o : Option Accessed) → GivesSo AreSmallBytes (bytes_at n o)
read_so zero None = All-nil IsSmallByte
read_so zero (Some at) = All-nil IsSmallByte
read_so (suc n) None = All-nil IsSmallByte
read_so (suc n) (Some at) = (tt, λ bs g. g.1)

pub copied_so : (n : ℕ) (o p : Option Accessed) → GivesSo Any (copy_between n o p)
copied_so zero None None = tt
copied_so zero None (Some p) = tt
copied_so zero (Some o) None = tt
copied_so zero (Some o) (Some p) = tt
copied_so (suc n) None None = tt
copied_so (suc n) None (Some p) = tt
copied_so (suc n) (Some o) None = tt
copied_so (suc n) (Some o) (Some p) =
    then_so Any Any (check_writable false o.life) _ (writable_so false o.life) (λ u any. (
      tt,
      λ bs g. (
        stored_small (declared_of o.life) whole 0 (retagged (declared_of p.life) p.from bs) (retagged_small (declared_of p.life) p.from bs g.1),
        λ a h. tt,
      ),
    ))

-- a string up to its zero has at most so many bytes
abbrev pub EndsWithin : ℕ → Option (List TaggedByte) → Type 0
EndsWithin n None = Unit {0}
EndsWithin n (Some bs) = AreSmallBytes bs × (length bs ≤ n)

pub behind_so : (n : ℕ) (bs : List TaggedByte) (more : Option (List TaggedByte)) → (length bs ≡ 1) × AreSmallBytes bs → EndsWithin n more
    → EndsWithin (suc n) (behind bs more)
behind_so n bs None g h = tt
behind_so n bs (Some more) g h =
    let l = length-append bs more in
    let one = g.0 in
    let rest = h.1 in
    (All-append IsSmallByte bs more g.1 h.0, omega (arith, l, one, rest))

pub zero_so : (n : ℕ) (x : ObjName) (from : ℕ) → GivesSo (EndsWithin n) (until_zero n x from)
zero_so zero x from = tt
zero_so (suc n) x from = (
  tt,
  λ bs g. when (EndsWithin (suc n)) (ends_in_zero bs) (Give (Some bs)) (until_zero n x (suc from) >>= (λ more. Give (behind bs more)))
      (g.1, (let l = g.0 in omega (arith, l)))
      (then_so (EndsWithin n) (EndsWithin (suc n)) (until_zero n x (suc from)) (λ more. Give (behind bs more)) (zero_so n x (suc from))
      (λ more h. behind_so n bs more g h)),
)

pub settle_so : (b c : Bool) (id : Event) (past start : ObjName) (k : Clause) → GivesSo Any (settle_by b c id past start k)
settle_so true true id past start k = tt
settle_so true false id past start k = (tt, λ a g. tt)
settle_so false true id past start k = (tt, λ a g. tt)
settle_so false false id past start k = tt

pub started_so : (p : Prov) (c : Clause) → GivesSo Any (start_object p c)
started_so Empty c = tt
started_so (Whole x) c = tt
started_so (Either id past start) c = (tt, λ a g. tt)

pub order_small : (xs ys : List ℕ) → IsFew (order_of xs ys)
order_small [] [] = omega arith
order_small [] (y ∷ ys) = omega arith
order_small (x ∷ xs) [] = omega arith
order_small (x ∷ xs) (y ∷ ys) = go (nat_lt x y) (nat_lt y x) (order_small xs ys)
  where
    go : (b c : Bool) → IsFew (order_of xs ys) → IsFew (if b then negsuc 0 else (if c then pos 1 else order_of xs ys))
    go true c rest = omega arith
    go false true rest = omega arith
    go false false rest = rest

abbrev pub IsBelow : ℕ → Option ℕ → Type 0
IsBelow n None = Unit {0}
IsBelow n (Some i) = i < n

pub place_below : (c i : ℕ) (ns : List ℕ) → IsBelow (i + length ns) (place_of c i ns)
place_below c i [] = tt
place_below c i (n ∷ ns) =
    go (n == c) (subst (λ (k : ℕ). IsBelow k (place_of c (suc i) ns))
    (let e : suc i + length ns ≡ i + suc (length ns) = omega arith in e) (place_below c (suc i) ns))
  where
    go : (b : Bool) → IsBelow (i + length (n ∷ ns)) (place_of c (suc i) ns) → IsBelow (i + length (n ∷ ns)) (if b then Some i else place_of c (suc i) ns)
    go true rest = omega arith
    go false rest = rest

pub low_below : (z : ℤ) → lib.low_byte z < 256
low_below z = grind (arith, ints)

pub map_length : {A B : Type 0} (f : A → B) (xs : List A) → length (map f xs) ≡ length xs
map_length f [] = refl
map_length f (x ∷ xs) = let l = map_length f xs in omega (arith, l)
