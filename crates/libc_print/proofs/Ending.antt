-- Lemmas on the end of a call that prints: the stream, and what its items settle and expose.
use Rattle.std.proofs.Common.{◌≡◌, ℕ, ◌+◌, ◌≤◌, ◌^◌, false, cond, List, [], ◌∷◌, ◌++◌, length, refl, ap, sym, subst, ◌∙◌, pos}
use Rattle.std.specs.Prelude.{Result, Ok, Err, nat_lt}
use Rattle.ub_base.specs.declared.clause.Cause.{Cause}
use Rattle.ub_base.specs.declared.clause.Cause.TheVariants.{Output as PastOutput}
use Rattle.ub_base.specs.declared.names.Item.{Item}
use Rattle.ub_base.specs.declared.names.Item.TheVariants.{Output}
use Rattle.addr_map.specs.declared.map.Row.{Row}
use Rattle.exposure.specs.declared.prov.Prov.{Prov}
use Rattle.mem_objects.specs.declared.value.Value.TheVariants.{Int}
use Rattle.mem_objects.specs.declared.answer.LibAnswer.{LibAnswer}
use Rattle.mem_objects.specs.declared.answer.LibAnswer.TheVariants as answers
use Rattle.mem_spec.specs.Store.{Store}
use Rattle.mem_spec.specs.Script.{Script, ◌>>=◌, Act, Done, Outside, run}
use Rattle.mem_spec.specs.declared.stream.Stream.{Stream}
use Rattle.mem_spec.specs.Streams.{Io, printed_to, total}
use Rattle.mem_objects.specs.Memory.{Kept, store_of}
use Rattle.libc_spec.specs.Library.{LibValue, number, pointer, pointer_in, address_in, prov_in, argument_at, text, read_numbers, joined}
use Rattle.libc_spec.specs.Print.{Argument, print_to}
use Rattle.libc_arguments.specs.Answers.{Answers, AreWithin}
use Rattle.libc_arguments.specs.Parts.{after, CanFollow, Gives}
use Rattle.libc_arguments.proofs.Scripts.{then, run_then, behind_done, run_same, run_twice}
use Rattle.libc_arguments.proofs.Answering.{answers_of, address_is}
use Rattle.libc_arguments.proofs.Parts.{raises_then, bare_after, after_append, follow_append, joined_append}
use Rattle.libc_arguments.proofs.Printing.{wrote, after_wrote, follow_wrote, total_printed, past_split, past_act}
use Rattle.libc_print.specs.Runs.{Prints, printed_text}
use Rattle.libc_print.specs.Calls.{put_out, printing, limited}
use Rattle.libc_print.proofs.Printing.{with_format, with_numbers}

-- ---- the bytes are printed
prints : (m : Kept) (rows : List Row) (io : Io) (is : List Item) (bs : List ℕ) (to : Stream) (script : List Row → Script (List ℕ)) → rows ≡ m.rows →
    (g : Gives false (List ℕ) m io [] is (script m.rows) bs) →
    run rows (printing to (script rows)) (store_of m io)
    ≡ Done (number (pos (length bs))) (g.items ++ Output ∷ []) (wrote to (after is (store_of m io)) bs)
prints m rows io is bs to script same g =
    ap (λ (rs : List Row). run rs (printing to (script rs)) (store_of m io)) same
    ∙ run_then m.rows (script m.rows) (put_out to) (store_of m io)
    ∙ ap (λ (act : Act (List ℕ)). then act (λ v u. run m.rows (put_out to v) u)) g.done
    ∙ behind_done g.items (Output ∷ []) (number (pos (length bs))) (wrote to (after is (store_of m io)) bs)

-- what the call settles and exposes took effect
pub print_gives : (m new : Kept) (io out : Io) (is js : List Item) (bs : List ℕ) (to : Stream) (script : List Row → Script (List ℕ)) →
    AreWithin io → total io.output + length bs ≤ 2 ^ 24 → Gives false (List ℕ) m io [] is (script m.rows) bs →
    js ≡ is ++ Output ∷ [] → out ≡ record io { output = printed_to to bs io.output } → new.rows ≡ m.rows →
    ((io : Io) → CanFollow m.cells js (store_of m io) → store_of new io ≡ after js (store_of m io)) →
    Answers (answers.Value (Int (pos (length bs)))) js (store_of new out) (limited (run new.rows (printing to (script new.rows)) (store_of m io)))
print_gives m new io out is js bs to script within fits g more put rows settled =
    let end : Io = record io { output = printed_to to bs io.output } in
    let items : js ≡ joined (g.items ++ Output ∷ []) = more ∙ ap (λ (ks : List Item). ks ++ Output ∷ []) g.added ∙ sym
    (joined_append g.items (Output ∷ []) refl) in
    let able : CanFollow m.cells js (store_of m end) = subst (λ (ks : List Item). CanFollow m.cells ks (store_of m end)) (sym more)
    (follow_append m.cells is (Output ∷ []) (store_of m end) (follow_wrote m.cells is to (store_of m io) bs (g.able tt)) (tt, tt)) in
    let store : store_of new out ≡ wrote to (after is (store_of m io)) bs =
    ap (store_of new) put ∙ settled end able ∙ ap (λ (ks : List Item). after ks (store_of m end)) more ∙ after_append is (Output ∷ [])
    (store_of m end) ∙ after_wrote is to (store_of m io) bs in
    let size : total (printed_to to bs io.output) ≤ 2 ^ 24 = subst (λ (n : ℕ). n ≤ 2 ^ 24) (sym (total_printed to bs io.output)) fits in
    subst (λ (act : Act LibValue). Answers (answers.Value (Int (pos (length bs)))) js (store_of new out) (limited act))
    (sym (prints m new.rows io is bs to script rows g))
    (answers_of (Ok (Int (pos (length bs)))) js (store_of new out)
    (Done (number (pos (length bs))) (joined (g.items ++ Output ∷ [])) (wrote to (after is (store_of m io)) bs))
    (subst (λ (o : Io). total o.output ≤ 2 ^ 24) (sym put) size) (refl, items, store))

-- what is printed would pass its limit
pub print_past : (m : Kept) (io : Io) (is : List Item) (bs : List ℕ) (to : Stream) (script : List Row → Script (List ℕ)) (e : LibAnswer)
    (r : Result (Unit {0}) LibAnswer) → Gives false (List ℕ) m io [] is (script m.rows) bs → r ≡ Err e →
    r ≡ cond (nat_lt (2 ^ 24) (total io.output + length bs)) (Err (answers.Outside PastOutput (total io.output + length bs))) (Ok tt) →
    Answers e is (store_of m io) (limited (run m.rows (printing to (script m.rows)) (store_of m io)))
print_past m io is bs to script e r g err past =
    let q = past_split (nat_lt (2 ^ 24) (total io.output + length bs)) (total io.output + length bs) e r err past in
    let size : total (wrote to (after is (store_of m io)) bs).output ≡ total io.output + length bs =
    ap (λ (u : Store). total (printed_to to bs u.output)) (bare_after is (store_of m io)) ∙ total_printed to bs io.output in
    let act : limited (run m.rows (printing to (script m.rows)) (store_of m io)) ≡ Outside PastOutput (total io.output + length bs) =
    ap limited (prints m m.rows io is bs to script refl g) ∙ past_act (total io.output + length bs) (number (pos (length bs)))
    (joined (g.items ++ Output ∷ [])) (wrote to (after is (store_of m io)) bs) size q.0 in
    subst (λ (a : LibAnswer). Answers a is (store_of m io) (limited (run m.rows (printing to (script m.rows)) (store_of m io)))) (sym q.1)
    (subst (λ (act : Act LibValue). Answers (answers.Outside PastOutput (total io.output + length bs)) is (store_of m io) act) (sym act) (refl, refl))

-- ---- the text isn't there
pub passes_then : (A B : Type 0) (rows : List Row) (s : Store) (p : Script A) (k : A → Script B) (c : Cause) (n : ℕ) →
    run rows p s ≡ Outside c n → run rows (p >>= k) s ≡ Outside c n
passes_then A B rows s p k c n e = run_then rows p k s ∙ ap (λ (act : Act A). then act (λ a u. run rows (k a) u)) e

pub print_fails : {A : Type 0} (items : A → List ℕ) (e : LibAnswer) (m : Kept) (io : Io) (is : List Item) (to : Stream) (script : Script (List ℕ)) →
    Prints items (Err e) m io [] is script →
    Answers e is (store_of m io) (limited (run m.rows (printing to script) (store_of m io)))
print_fails items answers.NoMemory m io is to script h = tt
print_fails items (answers.Raise c) m io is to script h =
    subst (λ (act : Act LibValue). Answers (answers.Raise c) is (store_of m io) (limited act))
    (sym (raises_then (List ℕ) LibValue m.rows (store_of m io) script (put_out to) c h)) refl
print_fails items (answers.Outside c n) m io is to script h =
    subst (λ (act : Act LibValue). Answers (answers.Outside c n) is (store_of m io) (limited act))
    (sym (passes_then (List ℕ) LibValue m.rows (store_of m io) script (put_out to) c n h)) (refl, refl)
print_fails items e m io is to script h = absurd h

-- ---- the definition of a call that prints to a stream
print_is : (to : Stream) (rows : List Row) (format : LibValue) (as' : List Argument) (s : Store) →
    run rows (printing to (printed_text rows (address_in format) (prov_in format) as')) s ≡ run rows (print_to to rows format as') s
print_is to rows format as' s =
    run_twice rows (text rows (address_in format) (prov_in format)) (with_format rows as') (put_out to) s
    ∙ run_same rows (text rows (address_in format) (prov_in format)) (λ t. with_format rows as' t >>= put_out to)
    (λ t. read_numbers t.bytes >>= (λ ns. with_numbers rows as' ns >>= put_out to)) s
    (λ t u. run_twice rows (read_numbers t.bytes) (with_numbers rows as') (put_out to) u)

pub print_called : (to : Stream) (rows : List Row) (vs : List LibValue) (i : ℕ) (as' : List Argument) (a : ℕ) (p : Prov) (s t : Store) (is : List Item)
    (e : LibAnswer) → pointer a p ≡ pointer_in (argument_at vs i) →
    Answers e is t (limited (run rows (printing to (printed_text rows a p as')) s)) →
    Answers e is t (limited (run rows (print_to to rows (argument_at vs i) as') s))
print_called to rows vs i as' a p s t is e same h =
    let q = address_is a (address_in (argument_at vs i)) p (prov_in (argument_at vs i)) same in
    subst (λ (act : Act LibValue). Answers e is t (limited act)) (print_is to rows (argument_at vs i) as' s)
    (subst (λ (b : ℕ). Answers e is t (limited (run rows (printing to (printed_text rows b (prov_in (argument_at vs i)) as')) s))) q.0
    (subst (λ (r : Prov). Answers e is t (limited (run rows (printing to (printed_text rows a r as')) s))) q.1 h))
