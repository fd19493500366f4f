-- The strings of the arguments of `main`: where they stand, and that they are filled.
use Rattle.std.proofs.Common.{◌≡◌, ℕ, zero, suc, ◌+◌, ◌<◌, refl, sym, ap, ◌∙◌, subst, arith, List, [], ◌∷◌, ◌++◌, length, map, take, get_or, false}
use Rattle.ub_base.specs.declared.names.ObjName.{ObjName}
use Rattle.ub_base.specs.declared.names.ObjName.TheVariants as names
use Rattle.exposure.specs.declared.prov.Prov.TheVariants.{Whole}
use Rattle.mem_objects.specs.Keeps.{Keeps}
use Rattle.mem_objects.specs.Memory.{Kept}
use Rattle.c_model.specs.Nodes.{plain_byte}
use Rattle.c_model.specs.Program.{Standing}
use Rattle.c_model.specs.Values.{address_after, Pointer as Place}
use Rattle.run_standing.specs.declared.initial.Argument.{Argument}
use Rattle.run_values.specs.declared.values.Pointer.{Pointer}
use Rattle.run_values.specs.Contents.{Stands}
use Rattle.run_standing.specs.Standing.{text, arguments, IsArgument, AreArguments, ArgumentAdded, AllFilled}
use Rattle.run_standing.specs.Starting.{Puts}
use Rattle.run_values.specs.Views.{pointer_at}
use Rattle.run_standing.proofs.Filled.{filled_behind, text_filled}
use Rattle.run_standing.proofs.Stands.{argument_next, take_each}
use Rattle.run_values.proofs.Placed.{stands_still}

pub argument_added : (m : Kept) (old new : List Argument) (b bs : List ℕ) (p : Pointer) (k a : ℕ) → bs ≡ b ++ 0 ∷ [] →
    pointer_at p ≡ record { address = address_after a 0; prov = Whole (names.Arg k) } → Stands m (names.Arg k) a → k ≡ length old →
    new ≡ old ++ record { text = bs; place = p } ∷ [] → ArgumentAdded m b old new
argument_added m old new b bs p k a is at stands count added = (
  record { text = bs; place = p },
  added,
  subst (λ (n : ℕ). IsArgument m n b (record { text = bs; place = p })) count (record { text = is; base = a; at = at; stands = stands }),
)

pub argument_still : (old new : Kept) (k : ℕ) (b : List ℕ) (a : Argument) → Keeps old new → IsArgument old k b a → IsArgument new k b a
argument_still old new k b a keeps is = record {
  text = is.text;
  base = is.base;
  at = is.at;
  stands = stands_still old new (names.Arg k) is.base keeps is.stands;
}

arguments_behind : (old new : Kept) (k n : ℕ) (bs : List (List ℕ)) (xs : List Argument) (b : List ℕ) (a : Argument) → Keeps old new → n ≡ k + length xs →
    AreArguments old k bs xs → IsArgument new n b a → AreArguments new k (bs ++ b ∷ []) (xs ++ a ∷ [])
arguments_behind old new k n [] [] b a keeps e are one =
    let here : n ≡ k = omega (arith, e) in
    (subst (λ (j : ℕ). IsArgument new j b a) here one, tt)
arguments_behind old new k n [] (x ∷ xs) b a keeps e are one = absurd are
arguments_behind old new k n (c ∷ bs) [] b a keeps e are one = absurd are
arguments_behind old new k n (c ∷ bs) (x ∷ xs) b a keeps e are one =
    (argument_still old new k c x keeps are.0, arguments_behind old new (suc k) n bs xs b a keeps (omega (arith, e)) are.1 one)

word_next : (xs : List (List ℕ)) (i : ℕ) (x : List ℕ) → i < length xs → x ≡ get_or xs i x → take (suc i) xs ≡ take i xs ++ x ∷ []
word_next [] i x lt is = absurd (omega (arith, lt))
word_next (y ∷ ys) zero x lt is = ap (λ z. z ∷ []) (sym is)
word_next (y ∷ ys) (suc i) x lt is = ap (λ zs. y ∷ zs) (word_next ys i x (omega (arith, lt)) is)

every_word : (xs : List (List ℕ)) (n : ℕ) → n ≡ length xs → take n xs ≡ xs
every_word [] n e = let none : n ≡ 0 = omega (arith, e) in rw none refl
every_word (x ∷ xs) zero e = absurd (omega (arith, e))
every_word (x ∷ xs) (suc n) e = ap (λ ys. x ∷ ys) (every_word xs n (omega (arith, e)))

pub argument_more : (old new : Kept) (words : List (List ℕ)) (i j : ℕ) (b : List ℕ) (xs after : List Argument) → Keeps old new → j ≡ suc i →
    i < length words → b ≡ get_or words i b → AreArguments old 0 (take i words) xs → ArgumentAdded new b xs after → AreArguments new 0 (take j words) after
argument_more old new words i j b xs after keeps next lt is are added =
    subst (λ (ws : List (List ℕ)). AreArguments new 0 ws after) (sym (word_next words i b lt is) ∙ ap (λ (n : ℕ). take n words) (sym next))
    (subst (λ (ys : List Argument). AreArguments new 0 (take i words ++ b ∷ []) ys) (sym added.1)
    (arguments_behind old new 0 (length xs) (take i words) xs b added.0 keeps (omega arith) are added.2))

pub argument_words : (m : Kept) (words : List (List ℕ)) (n : ℕ) (xs : List Argument) → n ≡ length words → AreArguments m 0 (take n words) xs →
    AreArguments m 0 words xs
argument_words m words n xs e are = subst (λ (ws : List (List ℕ)). AreArguments m 0 ws xs) (every_word words n e) are

-- ---- filled
pub at_argument : (m : Kept) (k n i : ℕ) (words : List (List ℕ)) (xs : List Argument) (a : Argument) → n ≡ k + i → i < length xs → a ≡ get_or xs i a →
    AreArguments m k words xs → (b : List ℕ) × (i < length words) × (b ≡ get_or words i b) × IsArgument m n b a
at_argument m k n i [] [] a e lt is are = absurd (omega (arith, lt))
at_argument m k n i [] (x ∷ xs) a e lt is are = absurd are
at_argument m k n i (b ∷ words) [] a e lt is are = absurd are
at_argument m k n zero (b ∷ words) (x ∷ xs) a e lt is are =
    let here : k ≡ n = omega (arith, e) in
    (b, omega arith, refl, subst (λ (j : ℕ). IsArgument m j b a) here (subst (λ (y : Argument). IsArgument m k b y) (sym is) are.0))
at_argument m k n (suc i) (b ∷ words) (x ∷ xs) a e lt is are =
    let there = at_argument m (suc k) n i words xs a (omega (arith, e)) (omega (arith, lt)) is are.1 in
    (there.0, omega (arith, there.1), there.2, there.3)

pub argument_count : (m : Kept) (k : ℕ) (words : List (List ℕ)) (xs : List Argument) → AreArguments m k words xs → length xs ≡ length words
argument_count m k [] [] are = refl
argument_count m k [] (x ∷ xs) are = absurd are
argument_count m k (b ∷ words) [] are = absurd are
argument_count m k (b ∷ words) (x ∷ xs) are = ap suc (argument_count m (suc k) words xs are.1)

pub arguments_filled : (old now new : Kept) (words : List (List ℕ)) (xs : List Argument) (i : ℕ) (a : Argument) (bs : List ℕ) → Keeps old now → Keeps now new →
    AreArguments old 0 words xs → i < length xs → a ≡ get_or xs i a → bs ≡ a.text →
    ((x : ObjName) → a.place.prov ≡ Whole x → Puts now new x (address_after a.place.addr 0) (map plain_byte bs)) →
    AllFilled old now (take i (arguments 0 words)) → AllFilled old new (take (i + 1) (arguments 0 words))
arguments_filled old now new words xs i a bs first keeps are lt is same puts all =
    let there = at_argument old 0 i i words xs a (omega arith) lt is are in
    let one = there.3 in
    let held : bs ≡ there.0 ++ 0 ∷ [] = same ∙ one.text in
    let address : a.place.addr ≡ address_after one.base 0 = ap (λ (q : Place). q.address) one.at in
    let put : Puts now new (names.Arg i) (address_after (address_after one.base 0) 0) (map plain_byte (there.0 ++ 0 ∷ [])) =
    subst (λ (c : ℕ). Puts now new (names.Arg i) (address_after c 0) (map plain_byte (there.0 ++ 0 ∷ []))) address
    (subst (λ (cs : List ℕ). Puts now new (names.Arg i) (address_after a.place.addr 0) (map plain_byte cs)) held
    (puts (names.Arg i) (ap (λ (q : Place). q.prov) one.at))) in
    let next : suc i ≡ i + 1 = omega arith in
    subst (λ (os : List Standing). AllFilled old new os)
    (sym (argument_next 0 i i words there.0 (omega arith) there.1 there.2) ∙ ap (λ (j : ℕ). take j (arguments 0 words)) next)
    (filled_behind old now new (take i (arguments 0 words)) (text (names.Arg i) false (there.0 ++ 0 ∷ [])) keeps all
    (text_filled old now new (names.Arg i) false (there.0 ++ 0 ∷ []) one.base first keeps one.stands put))

pub all_arguments_filled : (old new : Kept) (words : List (List ℕ)) (xs : List Argument) (n : ℕ) → n ≡ length xs → AreArguments old 0 words xs →
    AllFilled old new (take n (arguments 0 words)) → AllFilled old new (arguments 0 words)
all_arguments_filled old new words xs n e are all =
    subst (λ (os : List Standing). AllFilled old new os) (take_each 0 n words (e ∙ argument_count old 0 words xs are)) all

pub none_are : (m : Kept) (words : List (List ℕ)) (xs : List Argument) → xs ≡ [] → AreArguments m 0 (take 0 words) xs
none_are m [] xs e = subst (λ (ys : List Argument). AreArguments m 0 [] ys) (sym e) tt
none_are m (w ∷ words) xs e = subst (λ (ys : List Argument). AreArguments m 0 [] ys) (sym e) tt

pub none_filled_of : (m : Kept) (words : List (List ℕ)) → AllFilled m m (take 0 (arguments 0 words))
none_filled_of m [] = λ rows stay io. refl
none_filled_of m (w ∷ words) = λ rows stay io. refl
