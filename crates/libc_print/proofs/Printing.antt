-- Lemmas on the text of a call: its format is read and then printed.
use Rattle.std.proofs.Common.{◌≡◌, ℕ, suc, ◌-◌, false, List, [], ◌∷◌, length, take, Err, refl, sym, ap, ◌∙◌, arith}
use Rattle.ub_base.specs.declared.clause.Cause.{Cause}
use Rattle.ub_base.specs.declared.names.Item.{Item}
use Rattle.addr_map.specs.declared.map.Row.{Row}
use Rattle.exposure.specs.declared.prov.Prov.{Prov}
use Rattle.mem_objects.specs.declared.answer.LibAnswer.{LibAnswer}
use Rattle.mem_objects.specs.declared.answer.LibAnswer.TheVariants as answers
use Rattle.mem_spec.specs.Script.{Script, ◌>>=◌, Act, Outside, touched, run}
use Rattle.mem_spec.specs.Streams.{Io}
use Rattle.mem_objects.specs.Memory.{Kept, store_of}
use Rattle.libc_spec.specs.Library.{Text, text, read_numbers, without_zero}
use Rattle.libc_spec.specs.Print.{Argument, text_of}
use Rattle.libc_arguments.specs.declared.arguments.Range.{Range}
use Rattle.libc_arguments.specs.Parts.{after, Gives, Follows, ReadsAll, bytes_of, text_in}
use Rattle.libc_arguments.proofs.Scripts.{then, behind, run_then}
use Rattle.libc_arguments.proofs.Parts.{then_raises, raises_then}
use Rattle.libc_arguments.proofs.Reading.{reads_follow}
use Rattle.libc_print.specs.Runs.{Prints, printed_text}

-- ---- the format without its zero
pub popped : (ns : List ℕ) → take (length ns - 1) ns ≡ without_zero ns
popped [] = refl
popped (n ∷ []) = let e : 1 - 1 ≡ 0 = search arith in ap (λ (k : ℕ). take k (n ∷ [])) e
popped (n ∷ m ∷ ns) =
    let e : suc (suc (length ns)) - 1 ≡ suc (suc (length ns) - 1) = search arith in
    ap (λ (k : ℕ). take k (n ∷ m ∷ ns)) e ∙ ap (λ (l : List ℕ). n ∷ l) (popped (m ∷ ns))

length_without : (n : ℕ) (ns : List ℕ) → length (n ∷ ns) ≡ suc (length (without_zero (n ∷ ns)))
length_without n [] = refl
length_without n (m ∷ ns) = ap suc (length_without m ns)

pub text_without : (rows : List Row) (ns fs : List ℕ) (as' : List Argument) → fs ≡ without_zero ns →
    text_of (suc (length fs)) rows 0 fs as' ≡ text_of (length ns) rows 0 (without_zero ns) as'
text_without rows [] fs as' e = rw e refl
text_without rows (n ∷ ns) fs as' e =
    ap (λ (l : List ℕ). text_of (suc (length l)) rows 0 l as') e ∙ ap (λ (k : ℕ). text_of k rows 0 (without_zero (n ∷ ns)) as') (sym (length_without n ns))

-- ---- a limit that is passed ends a script
behind_passes : {B : Type 0} (is : List Item) (c : Cause) (n : ℕ) → behind {V = B} is (Outside c n) ≡ Outside c n
behind_passes [] c n = refl
behind_passes {B = B} (i ∷ is) c n = ap (touched i) (behind_passes {B = B} is c n)

pub then_passes : (q : _) (A B : Type 0) (m : Kept) (io : Io) (old mid : List Item) (p : Script A) (v : A) (k : A → Script B) (c : Cause) (n : ℕ) →
    Gives q A m io old mid p v → run m.rows (k v) (after mid (store_of m io)) ≡ Outside c n → run m.rows (p >>= k) (after old (store_of m io)) ≡ Outside c n
then_passes q A B m io old mid p v k c n f e =
    run_then m.rows p k (after old (store_of m io)) ∙ ap (λ (act : Act A). then act (λ a u. run m.rows (k a) u)) f.done ∙ ap
    (behind f.items) e ∙ behind_passes f.items c n

-- ---- the text of a call
abbrev pub with_numbers : List Row → List Argument → List ℕ → Script (List ℕ)
with_numbers rows as' ns = text_of (length ns) rows 0 (without_zero ns) as'

abbrev pub with_format : List Row → List Argument → Text → Script (List ℕ)
with_format rows as' s = read_numbers s.bytes >>= with_numbers rows as'

pub no_format : {A : Type 0} (items : A → List ℕ) (e : LibAnswer) (m : Kept) (io : Io) (old mid new : List Item) (a : ℕ) (p : Prov) (as' : List Argument) →
    Follows {A = Range} {V = Text} false (text_in m) (Err e) m io old mid (text m.rows a p) → Prints items (Err e) m io old new (printed_text m.rows a p as')
no_format items answers.NoMemory m io old mid new a p as' h = tt
no_format items (answers.Raise c) m io old mid new a p as' h = raises_then Text (List ℕ) m.rows (after old (store_of m io)) (text m.rows a p)
    (with_format m.rows as') c h
no_format items e m io old mid new a p as' h = absurd h

pub no_numbers : {A : Type 0} (items : A → List ℕ) (e : LibAnswer) (m : Kept) (io : Io) (old mid end new : List Item) (a : ℕ) (p : Prov) (as' : List Argument)
    (r : Range) →
    Gives false Text m io old mid (text m.rows a p) (text_in m r) → ReadsAll items (Err e) (bytes_of m r) mid end →
    Prints items (Err e) m io old new (printed_text m.rows a p as')
no_numbers items answers.NoMemory m io old mid end new a p as' r g h = tt
no_numbers items (answers.Raise c) m io old mid end new a p as' r g h =
    then_raises false Text (List ℕ) m io old mid (text m.rows a p) (text_in m r) (with_format m.rows as') c g
    (raises_then (List ℕ) (List ℕ) m.rows (after mid (store_of m io)) (read_numbers (bytes_of m r)) (with_numbers m.rows as') c
    (reads_follow items (Err (answers.Raise c)) m io mid end (bytes_of m r) h))
no_numbers items e m io old mid end new a p as' r g h = absurd h
