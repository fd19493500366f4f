-- Two names tie in their order exactly where they are one.
use Rattle.std.proofs.Common.{◌≡◌, ℕ, Bool, true, ◌&&◌, refl, sym, ◌∙◌, arith}
use Rattle.std.specs.declared.cmp.Ordering.{Ordering}
use Rattle.std.specs.declared.cmp.Ordering.TheVariants.{Less, Equal, Greater}
use Rattle.std.proofs.lemmas.Bool.Decides.{nat_tests}
use Rattle.std.specs.Prelude.{◌==◌}
use Rattle.std.specs.Ordering.{nat_cmp, is_eq, ordering_then}
use Rattle.std.specs.Cmp.{unsigned_ties}
use Rattle.ub_base.specs.declared.clause.Kind.{Kind}
use Rattle.ub_base.specs.declared.clause.Kind.TheVariants.{Val, Eff, Body}
use Rattle.ub_base.specs.declared.names.Event.{Event}
use Rattle.ub_base.specs.declared.names.ObjName.{ObjName}
use Rattle.ub_base.specs.declared.names.ObjName.TheVariants.{Static, Lit, Argv, Arg, Auto, Heap}
use Rattle.ub_base.specs.Names.{same_kind, same_event, same_object}
use Rattle.ub_base.specs.NameOrders.{kind_cmp, event_cmp, object_cmp}
use Rattle.ub_base.proofs.Tests.{and_parts, number_is}

pub same_object_refl : (x : ObjName) → same_object x x ≡ true
same_object_refl (Static k) = grind (arith, nat_tests)
same_object_refl (Lit k) = grind (arith, nat_tests)
same_object_refl Argv = refl
same_object_refl (Arg k) = grind (arith, nat_tests)
same_object_refl (Auto f t k) = grind (arith, nat_tests)
same_object_refl (Heap f t k) = grind (arith, nat_tests)

pub same_object_is : (x y : ObjName) → same_object x y ≡ true → x ≡ y
same_object_is (Static k) (Static l) h = grind (arith, nat_tests)
same_object_is (Lit k) (Lit l) h = grind (arith, nat_tests)
same_object_is Argv Argv h = refl
same_object_is (Arg k) (Arg l) h = grind (arith, nat_tests)
same_object_is (Auto f t k) (Auto g u l) h = grind (arith, nat_tests)
same_object_is (Heap f t k) (Heap g u l) h = grind (arith, nat_tests)
same_object_is _ _ h = absurd (cc)

pub is_eq-then : (o p : Ordering) → is_eq (ordering_then o p) ≡ is_eq o && is_eq p
is_eq-then Less p = refl
is_eq-then Equal p = refl
is_eq-then Greater p = refl

pub then_ties : (o p : Ordering) (b c : Bool) → is_eq o ≡ b → is_eq p ≡ c → is_eq (ordering_then o p) ≡ b && c
then_ties o p b c e f = rw (is_eq-then, e, f)

pub numbers_tie : (m n : ℕ) → is_eq (nat_cmp m n) ≡ (m == n)
numbers_tie m n = sym (unsigned_ties m n)

three_ties : (a b c d e f : ℕ) → is_eq (ordering_then (nat_cmp a b) (ordering_then (nat_cmp c d) (nat_cmp e f))) ≡ (a == b) && ((c == d) && (e == f))
three_ties a b c d e f =
    then_ties _ _ _ _ (numbers_tie a b) (then_ties _ _ _ _ (numbers_tie c d) (numbers_tie e f))

pub tie_object : (x y : ObjName) → is_eq (object_cmp x y) ≡ same_object x y
tie_object (Static k) (Static l) = sym (unsigned_ties k l)
tie_object (Lit k) (Lit l) = sym (unsigned_ties k l)
tie_object Argv Argv = refl
tie_object (Arg k) (Arg l) = sym (unsigned_ties k l)
tie_object (Auto f t k) (Auto g u l) = three_ties f.0 g.0 t u k l
tie_object (Heap f t k) (Heap g u l) = three_ties f.0 g.0 t u k l
tie_object _ _ = refl

pub same_kind_refl : (k : Kind) → same_kind k k ≡ true
same_kind_refl Val = refl
same_kind_refl Eff = refl
same_kind_refl Body = refl

pub same_kind_is : (j k : Kind) → same_kind j k ≡ true → j ≡ k
same_kind_is Val Val h = refl
same_kind_is Eff Eff h = refl
same_kind_is Body Body h = refl
same_kind_is _ _ h = absurd (cc)

pub same_event_refl : (e : Event) → same_event e e ≡ true
same_event_refl e = grind (arith, nat_tests, same_kind_refl e.kind)

pub same_event_is : (d e : Event) → same_event d e ≡ true → d ≡ e
same_event_is d e h =
    let frames = and_parts _ _ h in
    let turns = and_parts _ _ frames.1 in
    let nodes = and_parts _ _ turns.1 in
    let f = number_is _ _ frames.0 in
    let t = number_is _ _ turns.0 in
    let n = number_is _ _ nodes.0 in
    let k = same_kind_is _ _ nodes.1 in
    λ i. record { frame = record { 0 = f i }; turn = t i; node = n i; kind = k i }

kind_ties : (j k : Kind) → is_eq (kind_cmp j k) ≡ same_kind j k
kind_ties Val Val = refl
kind_ties Eff Eff = refl
kind_ties Body Body = refl
kind_ties _ _ = refl

pub tie_event : (d e : Event) → is_eq (event_cmp d e) ≡ same_event d e
tie_event d e =
    then_ties _ _ _ _ (numbers_tie d.frame.0 e.frame.0)
    (then_ties _ _ _ _ (numbers_tie d.turn e.turn) (then_ties _ _ _ _ (numbers_tie d.node e.node) (kind_ties d.kind e.kind)))
