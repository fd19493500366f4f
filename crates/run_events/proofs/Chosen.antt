-- What is chosen with a choice, one operand after the other.
use Rattle.std.proofs.Common.{◌≡◌, ◌≢◌, ◌==◌, ℕ, zero, suc, Bool, true, false, refl, sym, ap, ◌∙◌, subst, arith}
use Rattle.std.proofs.Common.{List, [], ◌∷◌, ◌++◌, length, set, Option, Some, None, slice_get}
use Rattle.std.specs.Prelude.{Err, Ok, OnOk, Result, if◌then◌else◌}
use Rattle.std.specs.Vec.{with_item}
use Rattle.std.proofs.lemmas.Bool.Decides.{nat_tests}
use Rattle.std.proofs.lemmas.Option.{same_Some}
use Rattle.c_typed.specs.Order.{Taken}
use Rattle.mem_objects.specs.declared.value.Value.{Value as Kept_value}
use Rattle.mem_objects.specs.Memory.{Kept}
use Rattle.c_model.specs.Values.{truth}
use Rattle.seq_order.specs.Marked.{taken_in}
use Rattle.run_values.specs.Views.{value_in}
use Rattle.run_layout.specs.declared.steps.Choice.{Choice}
use Rattle.run_layout.specs.declared.steps.Way.{Way}
use Rattle.run_layout.specs.declared.whole.Code.{Code}
use Rattle.run_layout.specs.Chosen.{by_way, with_chosen}
use Rattle.run_layout.specs.InRange.{part_of, way_of}
use Rattle.run_state.specs.declared.machine.Machine.{Machine}
use Rattle.run_state.specs.declared.watch.Begun.{Begun}
use Rattle.run_state.specs.Operands.{operand_in}
use Rattle.run_answers.specs.Choices.{HasChosen}
use Rattle.run_answers.specs.Ways.{Chooses, made_by}

pub on_ok : {A E : Type 0} (r : Result A E) (P Q : Type 0) → OnOk r P → (P → Q) → OnOk r Q
on_ok (Ok x) P Q h f = f h
on_ok (Err e) P Q h f = tt

-- ---- one operand
got_set : {A : Type 0} (xs : List A) (i : ℕ) (x y : A) → slice_get xs i ≡ Some x → slice_get (set xs i y) i ≡ Some y
got_set [] i x y at = absurd (cc)
got_set (z ∷ zs) zero x y at = refl
got_set (z ∷ zs) (suc i) x y at = got_set zs i x y at

got_other : {A : Type 0} (xs : List A) (i j : ℕ) (y : A) → j ≢ i → slice_get (set xs i y) j ≡ slice_get xs j
got_other [] i j y ne = refl
got_other (z ∷ zs) zero zero y ne = absurd (ne refl)
got_other (z ∷ zs) zero (suc j) y ne = refl
got_other (z ∷ zs) (suc i) zero y ne = refl
got_other (z ∷ zs) (suc i) (suc j) y ne = got_other zs i j y (λ e. ne (ap suc e))

same_test : (a b : ℕ) → (a == b) ≡ (b == a)
same_test a b = go (a == b) (b == a) refl refl
  where
    go : (s t : Bool) → (a == b) ≡ s → (b == a) ≡ t → s ≡ t
    go true true e f = refl
    go false false e f = refl
    go true false e f = absurd (let is : a ≡ b = grind (arith, nat_tests, e) in let t : (b == a) ≡ true = grind (arith, nat_tests, is) in cc)
    go false true e f = absurd (let is : b ≡ a = grind (arith, nat_tests, f) in let t : (a == b) ≡ true = grind (arith, nat_tests, is) in cc)

pub taken_at : {A E : Type 0} (r : Result A E) (m : Machine) (b : Begun) (at node operand : ℕ) (choices : List (Option ℕ)) →
    at ≡ length m.below.items → slice_get m.begun.items at ≡ Some b →
    OnOk r ((n : ℕ) → taken_in choices n ≡ (if n == node then Some operand else taken_in b.taken n)) →
    OnOk r (HasChosen m ((node, operand) ∷ []) (record m { begun = with_item m.begun at (record b { taken = choices }) }))
taken_at r m b at node operand choices height there chosen =
    on_ok r _ _ chosen (λ by. record {
      rest = refl;
      others = λ j z ne is. got_other m.begun.items at j (record b { taken = choices }) (λ e. ne (e ∙ height)) ∙ is;
      taken = λ z is.
          let same : b ≡ z = same_Some b z (sym there ∙ ap (slice_get m.begun.items) height ∙ is) in (
            choices,
            ap (slice_get (set m.begun.items at (record b { taken = choices }))) (sym height)
                ∙ got_set m.begun.items at b (record b { taken = choices }) there ∙ ap (λ (x : Begun). Some (record x { taken = choices })) same,
            λ n. by n ∙ ap (λ (t : Bool). if t then Some operand else taken_in b.taken n) (same_test n node)
                ∙ ap (λ (x : Begun). if node == n then Some operand else taken_in x.taken n) same,
          );
    })

-- ---- one after the other
pub none_chosen : (m : Machine) → HasChosen m [] m
none_chosen m = record { rest = refl; others = λ j b ne is. is; taken = λ b is. (b.taken, is, λ n. refl) }

one_last : (cs : List (ℕ × ℕ)) (c : ℕ × ℕ) (t : Taken) (n : ℕ) → with_chosen (cs ++ c ∷ []) t n ≡ (if c.0 == n then Some c.1 else with_chosen cs t n)
one_last [] c t n = refl
one_last (d ∷ ds) c t n = one_last ds c (λ k. if d.0 == k then Some d.1 else t k) n

pub one_more : (old middle new : Machine) (cs : List (ℕ × ℕ)) (c : ℕ × ℕ) → HasChosen old cs middle → HasChosen middle (c ∷ []) new →
    HasChosen old (cs ++ c ∷ []) new
one_more old middle new cs c a d =
    let same : length middle.below.items ≡ length old.below.items = ap (λ (x : Machine). length x.below.items) a.rest in
    record {
      rest = d.rest ∙ ap (λ (x : Machine). record x { begun = new.begun }) a.rest;
      others = λ j b ne is. d.others j b (λ eq. ne (eq ∙ same)) (a.others j b ne is);
      taken = λ b is.
          let first = a.taken b is in
          let second = d.taken (record b { taken = first.0 })
          (subst (λ (k : ℕ). slice_get middle.begun.items k ≡ Some (record b { taken = first.0 })) (sym same) first.1) in (
            second.0,
            subst (λ (k : ℕ). slice_get new.begun.items k ≡ Some (record b { taken = second.0 })) same second.1,
            λ n.
                second.2 n ∙ ap (λ (o : Option ℕ). if c.0 == n then Some c.1 else o) (first.2 n) ∙ sym (one_last cs c (taken_in b.taken) n),
          );
    }

both_chosen : (old mid new : Machine) (c : ℕ × ℕ) (cs : List (ℕ × ℕ)) → HasChosen old (c ∷ []) mid → HasChosen mid cs new → HasChosen old (c ∷ cs) new
both_chosen old mid new c cs a b =
    let height : length mid.below.items ≡ length old.below.items = ap (λ (k : Machine). length k.below.items) a.rest in
    record {
      rest = b.rest ∙ ap (λ (k : Machine). record k { begun = new.begun }) a.rest;
      others = λ j z ne at. b.others j z (λ eq. ne (eq ∙ height)) (a.others j z ne at);
      taken = λ z at.
          let one = a.taken z at in
          let two = b.taken (record z { taken = one.0 }) (ap (slice_get mid.begun.items) height ∙ one.1) in
          let same : ◌≡◌ {A = Taken} (λ n. taken_in one.0 n) (with_chosen (c ∷ []) (taken_in z.taken)) =
          λ i n. one.2 n i in (
            two.0,
            ap (slice_get new.begun.items) (sym height) ∙ two.1,
            λ n. two.2 n ∙ ap (λ (t : Taken). with_chosen cs t n) same,
          );
    }

module _ (code : Code) (number : ℕ) (old : Machine) (k : Choice) (w : Way) (t : Bool) (at : slice_get code.tables.choices.items number ≡ Some k)
    (way : (c : Choice) → slice_get code.tables.choices.items number ≡ Some c → w ≡ way_of c t)
    (true_so : (h : Kept_value) → operand_in old k.test ≡ Some h → (m : Kept) → t ≡ truth (value_in m h)) where
  by_value : (c : Choice) (h : Kept_value) → slice_get code.tables.choices.items number ≡ Some c → operand_in old c.test ≡ Some h
      → w ≡ way_of c (truth (value_in old.memory h))
  by_value c h there is =
      way c there
      ∙ ap (way_of c) (true_so h (ap (λ (x : Choice). operand_in old x.test) (same_Some k c (sym at ∙ there)) ∙ is) old.memory)

  pub chooses_none : w.operand ≡ None → Chooses code number old old
  chooses_none none c h there is =
      let by = by_value c h there is in
      subst (λ (o : Option ℕ). HasChosen old (by_way c.node o (λ i. part_of code.tables.chosen.items (way_of c (truth (value_in old.memory h))).chosen)) old)
      (sym none ∙ ap (λ (x : Way). x.operand) by) (none_chosen old)

  pub chooses_some : (mid new : Machine) (i : ℕ) (cs : List (ℕ × ℕ)) → w.operand ≡ Some i → cs ≡ part_of code.tables.chosen.items w.chosen
      → HasChosen old ((k.node, i) ∷ []) mid → HasChosen mid cs new → Chooses code number old new
  chooses_some mid new i cs some entries first later c h there is =
      let by = by_value c h there is in
      let all : (k.node, i) ∷ cs ≡ made_by code.tables c (truth (value_in old.memory h)) =
      ap (λ (l : List (ℕ × ℕ)). (k.node, i) ∷ l) entries
      ∙ ap (λ (o : Option ℕ). by_way k.node o (λ j. part_of code.tables.chosen.items w.chosen)) (sym some)
      ∙ ap (λ (x : Way). by_way k.node x.operand (λ j. part_of code.tables.chosen.items x.chosen)) by
      ∙ ap (λ (x : Choice). by_way x.node (way_of c (truth (value_in old.memory h))).operand
      (λ j. part_of code.tables.chosen.items (way_of c (truth (value_in old.memory h))).chosen)) (same_Some k c (sym at ∙ there)) in
      subst (λ (l : List (ℕ × ℕ)). HasChosen old l new) all (both_chosen old mid new (k.node, i) cs first later)
