-- Moves of pointers: their distances, and what a script gives that ends with a value.
use Rattle.std.proofs.Common.{◌≡◌, ℕ, zero, suc, ◌*◌, ◌^◌, ◌%◌, to_z, of_z, ◌<◌, refl, sym, ap, ◌∙◌, arith, ℤ, pos, negsuc, ◌+ℤ◌, ◌*ℤ◌, neg_ℤ, ◌<ℤ◌}
use Rattle.std.proofs.Common.{List, [], ◌∷◌}
use Rattle.std.specs.Ordering.{int_cmp, nat_cmp, MatchOrdering}
use Rattle.std.specs.Cmp.{int_ranks}
use Rattle.std.specs.declared.cmp.Ordering.{Ordering}
use Rattle.std.specs.declared.cmp.Ordering.TheVariants as order
use Rattle.std.specs.Int.{w128, int_wrap}
use Rattle.std.specs.Int.RustNames.{FitsSigned}
use Rattle.c_typed.specs.declared.tree.RelOp.{RelOp}
use Rattle.c_typed.specs.declared.tree.RelOp.TheVariants as relation
use Rattle.c_model.specs.Nodes.{in_order}
use Rattle.run_acts.specs.Scripts.{holds_in}
use Rattle.run_acts.specs.Updates.{IsNear}
use Rattle.std.proofs.lemmas.Bool.Decides.{nat_tests}
use Rattle.std.proofs.lemmas.Int.{ints, int_wrap_fits, wrapping_mul_is}
use Rattle.ub_base.specs.declared.names.Item.{Item}
use Rattle.addr_map.specs.declared.map.Row.{Row}
use Rattle.exposure.specs.declared.prov.Prov.{Prov}
use Rattle.exposure.specs.declared.prov.Prov.TheVariants.{Empty, Whole, Either}
use Rattle.mem_spec.specs.Store.{Store}
use Rattle.mem_spec.specs.Script.{Script, Give, Act, Done, Raised, Ended, Outside, Unplaced, run, touched, require, ◌>>◌}
use Rattle.ub_base.specs.declared.clause.Clause.TheVariants.{OutOfBounds}
use Rattle.addr_map.specs.Rows.{row_of}
use Rattle.mem_spec.specs.Acts.{shift, settle_by, in_bounds}
use Rattle.mem_objects.proofs.AccessLemmas.{before, after, run_bind}

-- ---- what a script gives that ends with a value
abbrev pub value_done : {V : Type 0} → V → Act V → V
value_done d (Done v is s) = v
value_done d _ = d

touched_gives : {V : Type 0} (d : V) (i : Item) (a : Act V) → value_done d (touched i a) ≡ value_done d a
touched_gives d i (Done w is s) = refl
touched_gives d i (Raised c) = refl
touched_gives d i (Ended n is s) = refl
touched_gives d i (Outside c n) = refl
touched_gives d i Unplaced = refl

before_gives : {V : Type 0} (d v : V) (is js : List Item) (s : Store) → value_done d (before is (Done v js s)) ≡ v
before_gives d v [] js s = refl
before_gives d v (i ∷ is) js s = touched_gives d i (before is (Done v js s)) ∙ before_gives d v is js s

after_gives : {A V : Type 0} (rows : List Row) (v : V) (a : Act A) → value_done v (after rows (λ (w : A). Give v) a) ≡ v
after_gives rows v (Done w js t) = before_gives v v js [] t
after_gives rows v (Raised c) = refl
after_gives rows v (Ended n is s) = refl
after_gives rows v (Outside c n) = refl
after_gives rows v Unplaced = refl

pub given_value : {A V : Type 0} (rows : List Row) (p : Script A) (v z : V) (s t : Store) (is : List Item) → run rows (p >> Give v) s ≡ Done z is t → z ≡ v
given_value {A} rows p v z s t is e =
    sym (ap (value_done v) e) ∙ ap (value_done v) (run_bind rows p (λ (w : A). Give v) s) ∙ after_gives rows v (run rows p s)

pub shift_value : (rows : List Row) (a : ℕ) (prov : Prov) (by z : ℤ) (s t : Store) (is : List Item) → run rows (shift rows a prov by) s ≡ Done z is t →
    z ≡ pos a +ℤ by
shift_value rows a Empty by z s t is e = sym (ap (value_done (pos a +ℤ by)) e)
shift_value rows a (Whole x) by z s t is e =
    given_value {A = Unit {0}} rows (require (in_bounds (row_of rows x) (pos a +ℤ by)) OutOfBounds) (pos a +ℤ by) z s t is e
shift_value rows a (Either id past start) by z s t is e =
    given_value {A = Unit {0}} rows
    (settle_by (in_bounds (row_of rows past) (pos a +ℤ by)) (in_bounds (row_of rows start) (pos a +ℤ by)) id past start OutOfBounds)
    (pos a +ℤ by) z s t is e

-- ---- the order of two numbers
pub unsigned_order : (a b : ℕ) → nat_cmp a b ≡ int_cmp (pos a) (pos b)
unsigned_order a b = grind (arith, nat_tests, ints)

holds_by : (op : RelOp) (o : Ordering) (a b : ℤ) → MatchOrdering o (a <ℤ b) (a ≡ b) (b <ℤ a) → holds_in op o ≡ in_order op a b
holds_by relation.Less order.Less a b h = grind (arith, ints, nat_tests, h)
holds_by relation.Less order.Equal a b h = grind (arith, ints, nat_tests, h)
holds_by relation.Less order.Greater a b h = grind (arith, ints, nat_tests, h)
holds_by relation.Greater order.Less a b h = grind (arith, ints, nat_tests, h)
holds_by relation.Greater order.Equal a b h = grind (arith, ints, nat_tests, h)
holds_by relation.Greater order.Greater a b h = grind (arith, ints, nat_tests, h)
holds_by relation.LessEq order.Less a b h = grind (arith, ints, nat_tests, h)
holds_by relation.LessEq order.Equal a b h = grind (arith, ints, nat_tests, h)
holds_by relation.LessEq order.Greater a b h = grind (arith, ints, nat_tests, h)
holds_by relation.GreaterEq order.Less a b h = grind (arith, ints, nat_tests, h)
holds_by relation.GreaterEq order.Equal a b h = grind (arith, ints, nat_tests, h)
holds_by relation.GreaterEq order.Greater a b h = grind (arith, ints, nat_tests, h)

pub holds_in_order : (op : RelOp) (a b : ℤ) → holds_in op (int_cmp a b) ≡ in_order op a b
holds_in_order op a b = holds_by op (int_cmp a b) a b (int_ranks a b)

-- ---- so many bytes as elements
near_product : (size n : ℕ) → size * n < 2 ^ 127 → n * size < 2 ^ 127
near_product size n lt = omega (arith, lt)

opposite_fits : (n : ℕ) → n < 2 ^ 127 → FitsSigned w128 (neg_ℤ (pos n))
opposite_fits zero lt = record { sfits = omega (arith, lt) }
opposite_fits (suc n) lt = record { sfits = omega (arith, lt) }

pub near_fits : (size : ℕ) (i : ℤ) → IsNear size i → FitsSigned w128 (i *ℤ pos size)
near_fits size (pos n) near = record { sfits = near_product size n near }
near_fits size (negsuc n) near = opposite_fits (suc n * size) (near_product size (suc n) near)

size_fits : (n : ℕ) → n < 2 ^ 64 → FitsSigned w128 (pos n)
size_fits n lt = record { sfits = omega (arith, lt) }

product_comm : (m n : ℕ) → m * n ≡ n * m
product_comm m n = omega arith

opposite_comm : (m n : ℕ) → m ≡ n → neg_ℤ (pos m) ≡ neg_ℤ (pos n)
opposite_comm m n e = ap (λ (k : ℕ). neg_ℤ (pos k)) e

times_comm : (size : ℕ) (i : ℤ) → pos size *ℤ i ≡ i *ℤ pos size
times_comm size (pos n) = ap pos (product_comm size n)
times_comm size (negsuc n) = opposite_comm (size * suc n) (suc n * size) (product_comm size (suc n))

pub product_of : (size : ℕ) (i f : ℤ) → f ≡ pos size → size < 2 ^ 64 → FitsSigned w128 i → IsNear size i →
    to_z w128 ((of_z w128 f * of_z w128 i) % 2 ^ 128) ≡ i *ℤ pos size
product_of size i f is lt fits near =
    rw is (wrapping_mul_is w128 (pos size) i (size_fits size lt) fits ∙ ap (int_wrap w128) (times_comm size i)
    ∙ int_wrap_fits w128 (i *ℤ pos size) (near_fits size i near))
