-- The choices that are made as soon as a tree is due, node by node.
use Rattle.std.proofs.Common.{arith, ◌≡◌, ◌<◌, ◌≤◌, ◌+◌, Bool, true, false, if◌then◌else◌, ℕ, zero, suc, pos, List, [], ◌∷◌, ◌++◌, length, map, take, drop}
use Rattle.std.proofs.Common.{Option, Some, None, slice_get, refl, sym, ap, subst, ◌∙◌, append_assoc, length-append}
use Rattle.std.proofs.lemmas.List.{append-nil}
use Rattle.c_typed.specs.declared.tree.Node.{Node, out-Node}
use Rattle.c_typed.specs.declared.tree.Node.TheOpen as shape
use Rattle.c_typed.specs.declared.tree.Node.TheOpen.{Node-F}
use Rattle.c_typed.specs.declared.tree.Typed.{Typed, out-Typed, roll-out-Typed, para-roll-Typed}
use Rattle.c_typed.specs.Tree.{tree_of, trees_of, size, sizes}
use Rattle.c_model.specs.Program.{And, Or, Cond}
use Rattle.c_model.specs.Values.{Int}
use Rattle.run_layout.specs.Branches.{Chooses}
use Rattle.run_layout.specs.declared.nodes.NodeInfo.{NodeInfo}
use Rattle.run_layout.specs.declared.steps.Operand.{Operand}
use Rattle.run_layout.specs.declared.steps.Range.{Range}
use Rattle.run_layout.specs.InRange.{part_of}
use Rattle.run_layout.specs.Resolved.{resolved}
use Rattle.run_layout.specs.Numbered.{IsAt, AreBelow, AreNoted}
use Rattle.run_layout.specs.Choosing.{chooses}
use Rattle.run_layout.proofs.Collected.{size_of}
use Rattle.run_layout.specs.AtOnce.{truth_of, takes, is_known, takes_first, own_choice, Chosen, in_operand, in_all, from_operand, first_evaluated, of_choice}
use Rattle.run_layout.specs.AtOnce.{of_node, node_itself, of_tree, chosen_of, operand_number, chosen_in, Lists}

abbrev pair : List ℕ → Typed → Typed × Chosen
pair firsts t = (t, chosen_of firsts t)

abbrev pairs : List ℕ → List Typed → List (Typed × Chosen)
pairs firsts = map (pair firsts)

abbrev pub node_at : Typed → Node-F Node Typed
node_at t = out-Node (out-Typed t).node

by_root : (firsts : List ℕ) (t : Typed) (k : ℕ) → chosen_of firsts t k ≡ of_node firsts (node_at t) k (pairs firsts (out-Typed t).children)
by_root firsts t k =
    ap (λ u. chosen_of firsts u k) (sym (roll-out-Typed t))
    ∙ ap (λ (f : Chosen). f k) (para-roll-Typed (Unit {0}) Chosen node_itself (of_tree firsts) (out-Typed t))

in_one : (firsts : List ℕ) (ts : List Typed) (i m : ℕ) → in_operand (pairs firsts ts) i m ≡ chosen_in firsts ts i m
in_one firsts [] i m = refl
in_one firsts (t ∷ ts) zero m = refl
in_one firsts (t ∷ ts) (suc i) m = in_one firsts ts i (m + size (tree_of t))

-- those of all operands from one on
abbrev pub chosen_from : List ℕ → List Typed → ℕ → List (ℕ × ℕ)
chosen_from firsts [] m = []
chosen_from firsts (t ∷ ts) m = chosen_of firsts t m ++ chosen_from firsts ts (m + size (tree_of t))

in_each : (firsts : List ℕ) (ts : List Typed) (m : ℕ) → in_all (pairs firsts ts) m ≡ chosen_from firsts ts m
in_each firsts [] m = refl
in_each firsts (t ∷ ts) m = ap (λ z. chosen_of firsts t m ++ z) (in_each firsts ts (m + size (tree_of t)))

-- of a node that doesn't choose, those of all its operands
pub of_others : (firsts : List ℕ) (t : Typed) (k : ℕ) → chooses (node_at t) ≡ false → chosen_of firsts t k ≡ chosen_from firsts (out-Typed t).children (suc k)
of_others firsts t k e =
    by_root firsts t k
    ∙ (ap (λ b. if b then of_choice firsts (node_at t) k (pairs firsts (out-Typed t).children) else in_all (pairs firsts (out-Typed t).children) (suc k)) e
    ∙ in_each firsts (out-Typed t).children (suc k))

-- of a node that chooses, those with the operand that it evaluates first
abbrev pub from_first : List ℕ → ℕ → Option ℕ → List Typed → List (ℕ × ℕ)
from_first firsts k None ts = []
from_first firsts k (Some i) ts = own_choice k i ++ chosen_in firsts ts i (suc k)

from_same : (firsts : List ℕ) (k : ℕ) (o : Option ℕ) (ts : List Typed) → from_operand k o (pairs firsts ts) ≡ from_first firsts k o ts
from_same firsts k None ts = refl
from_same firsts k (Some i) ts = ap (λ z. own_choice k i ++ z) (in_one firsts ts i (suc k))

choice_same : (firsts : List ℕ) (d : Node-F Node Typed) (k : ℕ) (ts : List Typed) → of_choice firsts d k (pairs firsts ts) ≡
    from_first firsts k (first_evaluated firsts d k (slice_get ts 0)) ts
choice_same firsts d k [] = refl
choice_same firsts d k (t ∷ ts) = from_same firsts k (takes_first d (resolved firsts t (suc k))) (t ∷ ts)

pub of_choices : (firsts : List ℕ) (t : Typed) (k : ℕ) → chooses (node_at t) ≡ true
    → chosen_of firsts t k ≡ from_first firsts k (first_evaluated firsts (node_at t) k (slice_get (out-Typed t).children 0)) (out-Typed t).children
of_choices firsts t k e =
    by_root firsts t k
    ∙ (ap (λ b. if b then of_choice firsts (node_at t) k (pairs firsts (out-Typed t).children) else in_all (pairs firsts (out-Typed t).children) (suc k)) e
    ∙ choice_same firsts (node_at t) k (out-Typed t).children)

-- the operand that the definitions choose
pub taken : (d : Node-F Node Typed) (test : Bool) (o : Option ℕ) → Chooses d test o → chooses d ≡ true → o ≡ takes d test
taken shape.And true o h e = h And refl (Int (pos 1)) [] refl
taken shape.And false o h e = h And refl (Int (pos 0)) [] refl
taken shape.Or true o h e = h Or refl (Int (pos 1)) [] refl
taken shape.Or false o h e = h Or refl (Int (pos 0)) [] refl
taken shape.Cond true o h e = h Cond refl (Int (pos 1)) [] refl
taken shape.Cond false o h e = h Cond refl (Int (pos 0)) [] refl
taken _ test o h e = absurd (cc)

-- what a choice evaluates first, by whether its test is known
pub first_unknown : (d : Node-F Node Typed) (o : Operand) → is_known o ≡ false → takes_first d o ≡ Some 0
first_unknown d o e = ap (λ b. if b then takes d (truth_of o) else Some 0) e

pub first_known : (d : Node-F Node Typed) (o : Operand) → is_known o ≡ true → takes_first d o ≡ takes d (truth_of o)
first_known d o e = ap (λ b. if b then takes d (truth_of o) else Some 0) e

same_node : (nodes : List NodeInfo) (n : ℕ) (x y : NodeInfo) → slice_get nodes n ≡ Some x → slice_get nodes n ≡ Some y → x ≡ y
same_node nodes n x y e f = cc

-- what is noted of the node of this number, which is the root of this tree
pub noted_next : (firsts : List ℕ) (nodes : List NodeInfo) (at : ℕ) (parent : Option ℕ) (t : Typed) (x : NodeInfo) → AreNoted firsts nodes
    → IsAt nodes at parent t → slice_get nodes at ≡ Some x → x.next ≡ at + size (tree_of t)
noted_next firsts nodes at parent t x noted here there =
    let tree : x.tree.now ≡ t = ap (λ (y : NodeInfo). y.tree.now) (same_node nodes at x here.0 there here.1) ∙ here.2 in
    (noted at x there).next ∙ ap (λ u. at + size (tree_of u)) tree

pub noted_operand : (firsts : List ℕ) (nodes : List NodeInfo) (at : ℕ) (parent : Option ℕ) (t : Typed) (x : NodeInfo) → AreNoted firsts nodes
    → IsAt nodes at parent t → slice_get nodes at ≡ Some x → x.operand ≡ resolved firsts t at
noted_operand firsts nodes at parent t x noted here there =
    let tree : x.tree.now ≡ t = ap (λ (y : NodeInfo). y.tree.now) (same_node nodes at x here.0 there here.1) ∙ here.2 in
    (noted at x there).operand ∙ ap (λ u. resolved firsts u at) tree

pub noted_below : (firsts : List ℕ) (nodes : List NodeInfo) (at : ℕ) (parent : Option ℕ) (t : Typed) → AreNoted firsts nodes
    → IsAt nodes at parent t → AreBelow nodes at (suc at) (out-Typed t).children
noted_below firsts nodes at parent t noted here =
    subst (λ (u : Typed). AreBelow nodes at (suc at) (out-Typed u).children) here.2 (noted at here.0 here.1).below

pub not_there : (nodes : List NodeInfo) (at : ℕ) (parent : Option ℕ) (t : Typed) → IsAt nodes at parent t → slice_get nodes at ≡ None → ⊥
not_there nodes at parent t here none = cc (here.1, none)

-- an operand among those of its node
pub operand_there : (nodes : List NodeInfo) (parent m : ℕ) (ts : List Typed) (i : ℕ) (t : Typed) → AreBelow nodes parent m ts → slice_get ts i ≡ Some t
    → IsAt nodes (operand_number ts i m) (Some parent) t
operand_there nodes parent m [] zero t h e = absurd (cc)
operand_there nodes parent m [] (suc i) t h e = absurd (cc)
operand_there nodes parent m (u ∷ ts) zero t h e = let same : u ≡ t = cc in subst (IsAt nodes m (Some parent)) same h.0
operand_there nodes parent m (u ∷ ts) (suc i) t h e = operand_there nodes parent (m + size (tree_of u)) ts i t h.1 e

pub chosen_there : (firsts : List ℕ) (ts : List Typed) (i m : ℕ) (t : Typed) → slice_get ts i ≡ Some t → chosen_in firsts ts i m ≡
    chosen_of firsts t (operand_number ts i m)
chosen_there firsts [] zero m t e = absurd (cc)
chosen_there firsts [] (suc i) m t e = absurd (cc)
chosen_there firsts (u ∷ ts) zero m t e = let same : u ≡ t = cc in ap (λ x. chosen_of firsts x m) same
chosen_there firsts (u ∷ ts) (suc i) m t e = chosen_there firsts ts i (m + size (tree_of u)) t e

pub chosen_none : (firsts : List ℕ) (ts : List Typed) (i m : ℕ) → slice_get ts i ≡ None → chosen_in firsts ts i m ≡ []
chosen_none firsts [] i m e = refl
chosen_none firsts (u ∷ ts) zero m e = absurd (cc)
chosen_none firsts (u ∷ ts) (suc i) m e = chosen_none firsts ts i (m + size (tree_of u)) e

pub number_first : (ts : List Typed) (m : ℕ) → operand_number ts 0 m ≡ m
number_first [] m = refl
number_first (t ∷ ts) m = refl

-- the test of a node that chooses
pub test_there : (firsts : List ℕ) (nodes : List NodeInfo) (number at : ℕ) (parent : Option ℕ) (root t : Typed) → AreNoted firsts nodes
    → IsAt nodes number parent root → Some t ≡ slice_get (out-Typed root).children 0 → at ≡ suc number → IsAt nodes at (Some number) t
test_there firsts nodes number at parent root t noted here e n =
    subst (λ m. IsAt nodes m (Some number) t) (number_first (out-Typed root).children (suc number) ∙ sym n)
    (operand_there nodes number (suc number) (out-Typed root).children 0 t (noted_below firsts nodes number parent root noted here) (sym e))

pub by_test : (firsts : List ℕ) (nodes : List NodeInfo) (number at : ℕ) (parent : Option ℕ) (root t : Typed) (x : NodeInfo) → AreNoted firsts nodes
    → IsAt nodes number parent root → Some t ≡ slice_get (out-Typed root).children 0 → at ≡ suc number → slice_get nodes at ≡ Some x
    → first_evaluated firsts (node_at root) number (slice_get (out-Typed root).children 0) ≡ takes_first (node_at root) x.operand
by_test firsts nodes number at parent root t x noted here e n there =
    ap (first_evaluated firsts (node_at root) number) (sym e)
    ∙ ap (takes_first (node_at root)) (ap (resolved firsts t) (sym n)
    ∙ sym (noted_operand firsts nodes at (Some number) t x noted (test_there firsts nodes number at parent root t noted here e n) there))

-- the number of the operand behind the one with this number
pub one_further : (nodes : List NodeInfo) (parent m : ℕ) (ts : List Typed) (i at next : ℕ) → AreBelow nodes parent m ts → i < length ts
    → at ≡ operand_number ts i m → ((t : Typed) → IsAt nodes at (Some parent) t → next ≡ at + size (tree_of t)) → next ≡ operand_number ts (suc i) m
one_further nodes parent m [] i at next b l e f = absurd (omega (arith, l))
one_further nodes parent m (t ∷ []) zero at next b l e f =
    f t (subst (λ n. IsAt nodes n (Some parent) t) (sym e) b.0) ∙ ap (λ n. n + size (tree_of t)) e
one_further nodes parent m (t ∷ (u ∷ ts)) zero at next b l e f =
    f t (subst (λ n. IsAt nodes n (Some parent) t) (sym e) b.0) ∙ ap (λ n. n + size (tree_of t)) e
one_further nodes parent m (t ∷ ts) (suc i) at next b l e f = one_further nodes parent (m + size (tree_of t)) ts i at next b.1 (omega (arith, l)) e f

-- one operand more was gone through
pub one_passed : (firsts : List ℕ) (nodes : List NodeInfo) (parent at next : ℕ) (left rest : List Typed) (t : Typed) (old new all : List (ℕ × ℕ))
    → left ≡ t ∷ rest → AreBelow nodes parent at left → ((u : Typed) → IsAt nodes at (Some parent) u → next ≡ at + size (tree_of u))
    → (IsAt nodes at (Some parent) t → new ≡ old ++ chosen_of firsts t at) → old ++ chosen_from firsts left at ≡ all
    → (new ++ chosen_from firsts rest next ≡ all) × AreBelow nodes parent next rest
one_passed firsts nodes parent at next left rest t old new all e below further made so_far =
    let here : AreBelow nodes parent at (t ∷ rest) = subst (AreBelow nodes parent at) e below in
    let step = further t here.0 in (
      ap (λ z. z ++ chosen_from firsts rest next) (made here.0)
          ∙ (append_assoc old (chosen_of firsts t at) (chosen_from firsts rest next)
          ∙ (ap (λ n. old ++ (chosen_of firsts t at ++ chosen_from firsts rest n)) step ∙ (ap (λ z. old ++ chosen_from firsts z at) (sym e) ∙ so_far))),
      subst (λ n. AreBelow nodes parent n rest) (sym step) here.1,
    )

-- the choices of a node that chooses, where its operand is there and where it isn't
pub one_chosen : (firsts : List ℕ) (root t : Typed) (k i at : ℕ) (old pushed new : List (ℕ × ℕ)) → chooses (node_at root) ≡ true
    → Some i ≡ first_evaluated firsts (node_at root) k (slice_get (out-Typed root).children 0) → slice_get (out-Typed root).children i ≡ Some t
    → at ≡ operand_number (out-Typed root).children i (suc k) → pushed ≡ old ++ own_choice k i → new ≡ pushed ++ chosen_of firsts t at
    → new ≡ old ++ chosen_of firsts root k
one_chosen firsts root t k i at old pushed new c f there n p m =
    m ∙ (ap (λ z. z ++ chosen_of firsts t at) p
    ∙ (append_assoc old (own_choice k i) (chosen_of firsts t at)
    ∙ ap (λ z. old ++ z) (ap (λ z. own_choice k i ++ chosen_of firsts t z) n
    ∙ (ap (λ z. own_choice k i ++ z) (sym (chosen_there firsts (out-Typed root).children i (suc k) t there))
    ∙ (ap (λ z. from_first firsts k z (out-Typed root).children) f ∙ sym (of_choices firsts root k c))))))

pub none_chosen : (firsts : List ℕ) (root : Typed) (k : ℕ) (old : List (ℕ × ℕ)) → chooses (node_at root) ≡ true
    → None ≡ first_evaluated firsts (node_at root) k (slice_get (out-Typed root).children 0) → old ≡ old ++ chosen_of firsts root k
none_chosen firsts root k old c f =
    sym (append-nil old) ∙ ap (λ z. old ++ z) (ap (λ z. from_first firsts k z (out-Typed root).children) f ∙ sym (of_choices firsts root k c))

pub nothing_there : (firsts : List ℕ) (root : Typed) (k i : ℕ) (old pushed : List (ℕ × ℕ)) → chooses (node_at root) ≡ true
    → Some i ≡ first_evaluated firsts (node_at root) k (slice_get (out-Typed root).children 0) → slice_get (out-Typed root).children i ≡ None
    → pushed ≡ old ++ own_choice k i → pushed ≡ old ++ chosen_of firsts root k
nothing_there firsts root k i old pushed c f none p =
    p ∙ ap (λ z. old ++ z) (sym (append-nil (own_choice k i))
    ∙ (ap (λ z. own_choice k i ++ z) (sym (chosen_none firsts (out-Typed root).children i (suc k) none))
    ∙ (ap (λ z. from_first firsts k z (out-Typed root).children) f ∙ sym (of_choices firsts root k c))))

-- an operand has fewer nodes than its node
in_drop : (ts rest : List Typed) (i : ℕ) (t : Typed) → drop i ts ≡ t ∷ rest → size (tree_of t) ≤ sizes (trees_of ts)
in_drop [] rest zero t e = absurd (cc)
in_drop [] rest (suc i) t e = absurd (cc)
in_drop (u ∷ ts) rest zero t e = let same : u ≡ t = cc in subst (λ v. size (tree_of v) ≤ sizes (trees_of (u ∷ ts))) same (omega arith)
in_drop (u ∷ ts) rest (suc i) t e = let l = in_drop ts rest i t e in omega (arith, l)

at_operand : (ts : List Typed) (i : ℕ) (t : Typed) → slice_get ts i ≡ Some t → size (tree_of t) ≤ sizes (trees_of ts)
at_operand [] zero t e = absurd (cc)
at_operand [] (suc i) t e = absurd (cc)
at_operand (u ∷ ts) zero t e = let same : u ≡ t = cc in subst (λ v. size (tree_of v) ≤ sizes (trees_of (u ∷ ts))) same (omega arith)
at_operand (u ∷ ts) (suc i) t e = let l = at_operand ts i t e in omega (arith, l)

pub operand_smaller : (root t : Typed) (i : ℕ) → slice_get (out-Typed root).children i ≡ Some t → size (tree_of t) < size (tree_of root)
operand_smaller root t i e = let l = at_operand (out-Typed root).children i t e in omega (arith, l, size_of root)

pub child_smaller : (root t : Typed) (ts rest : List Typed) (i : ℕ) → ts ≡ (out-Typed root).children → drop i ts ≡ t ∷ rest
    → size (tree_of t) < size (tree_of root)
child_smaller root t ts rest i same e =
    let l = in_drop ts rest i t e in
    omega (arith, l, size_of root, ap (λ us. sizes (trees_of us)) same)

-- the table is longer than a range in it
pub front_whole : {A : Type 0} (xs ys : List A) → ((n : ℕ) (x : A) → slice_get xs n ≡ Some x → slice_get ys n ≡ Some x) → (zs : List A) × (ys ≡ xs ++ zs)
front_whole [] ys f = (ys, refl)
front_whole (x ∷ xs) [] f = let no = f 0 x refl in absurd (cc)
front_whole (x ∷ xs) (y ∷ ys) f =
    let at = f 0 x refl in
    let same : y ≡ x = cc in
    let rest = front_whole xs ys (λ n z h. f (suc n) z h) in
    (rest.0, ap (λ z. z ∷ ys) same ∙ ap (λ z. x ∷ z) rest.1)

pub front_longer : {A : Type 0} (xs ys : List A) → ((n : ℕ) (x : A) → slice_get xs n ≡ Some x → slice_get ys n ≡ Some x) → length xs ≤ length ys
front_longer xs ys f = let more = front_whole xs ys f in omega (arith, ap length more.1 ∙ length-append xs more.0)

take_front : {A : Type 0} (xs zs : List A) (n : ℕ) → n ≤ length xs → take n (xs ++ zs) ≡ take n xs
take_front xs zs zero l = refl
take_front [] zs (suc n) l = absurd (omega (arith, l))
take_front (x ∷ xs) zs (suc n) l = ap (λ z. x ∷ z) (take_front xs zs n (omega (arith, l)))

part_front : {A : Type 0} (xs zs : List A) (first count : ℕ) → first + count ≤ length xs → take count (drop first (xs ++ zs)) ≡ take count (drop first xs)
part_front xs zs zero count l = take_front xs zs count (omega (arith, l))
part_front [] zs (suc first) count l = absurd (omega (arith, l))
part_front (x ∷ xs) zs (suc first) count l = part_front xs zs first count (omega (arith, l))

pub lists_grown : (old new : List (ℕ × ℕ)) (r : Range) (all : List (ℕ × ℕ)) → ((n : ℕ) (x : ℕ × ℕ) → slice_get old n ≡ Some x → slice_get new n ≡ Some x)
    → Lists old r all → Lists new r all
lists_grown old new r all f h =
    let more = front_whole old new f in
    let longer = front_longer old new f in
    record {
      within = omega (arith, h.within, longer);
      entries = ap (λ z. part_of z r) more.1 ∙ (part_front old more.0 r.first r.count h.within ∙ h.entries);
    }

pub lists_none : (table : List (ℕ × ℕ)) (r : Range) (all : List (ℕ × ℕ)) → r.first ≡ 0 → r.count ≡ 0 → all ≡ [] → Lists table r all
lists_none table r all f c e = record {
  within = omega (arith, f, c);
  entries = ap (λ n. take n (drop r.first table)) c ∙ sym e;
}
