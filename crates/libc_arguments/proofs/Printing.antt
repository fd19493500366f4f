-- Lemmas on calls that print.
use Rattle.std.proofs.Common.{
  ◌≡◌,
  ℕ,
  suc,
  ◌+◌,
  ◌-◌,
  ◌≤◌,
  ◌^◌,
  Bool,
  true,
  false,
  cond,
  List,
  [],
  ◌∷◌,
  ◌++◌,
  length,
  length-append,
  take,
  refl,
  ap,
  sym,
  subst,
  ◌∙◌,
  arith,
  pos,
}
use Rattle.std.specs.Prelude.{Result, Ok, Err, nat_lt}
use Rattle.ub_base.specs.declared.clause.Cause.TheVariants.{Output as PastOutput}
use Rattle.ub_base.specs.declared.names.Item.{Item}
use Rattle.ub_base.specs.declared.names.Item.TheVariants.{Read, Write, Born, Dies, Alive, Expose, Lookup, Narrow, Input, Output, Ending, Any}
use Rattle.ub_base.specs.declared.names.Event.{Event}
use Rattle.addr_map.specs.declared.map.Row.{Row}
use Rattle.exposure.specs.declared.prov.Prov.{Prov}
use Rattle.exposure.specs.Cells.{Cells}
use Rattle.c_types.specs.declared.library.LibFunc.TheVariants.{Puts}
use Rattle.mem_objects.specs.declared.value.Value.TheVariants.{Int}
use Rattle.mem_objects.specs.declared.answer.LibAnswer.{LibAnswer}
use Rattle.mem_objects.specs.declared.answer.LibAnswer.TheVariants as answers
use Rattle.mem_spec.specs.Store.{Store}
use Rattle.mem_spec.specs.Script.{Script, Give, ◌>>=◌, Act, Done, Outside, run}
use Rattle.mem_spec.specs.declared.stream.Stream.{Stream}
use Rattle.mem_spec.specs.declared.stream.Stream.TheVariants as streams
use Rattle.mem_spec.specs.Streams.{Io, Outputs, printed_to, total}
use Rattle.mem_objects.specs.Memory.{Kept, store_of}
use Rattle.libc_spec.specs.Library.{
  LibValue,
  number,
  pointer,
  pointer_in,
  address_in,
  prov_in,
  argument_at,
  Text,
  text,
  read_numbers,
  without_zero,
  puts,
  joined,
  called,
  output_within,
}
use Rattle.libc_arguments.specs.Seen.{value_seen}
use Rattle.libc_arguments.specs.Answers.{Answers, AreWithin}
use Rattle.libc_arguments.specs.Parts.{effect, after, CanDo, CanFollow, Gives, Follows, line, line_at, printed, printing, limited}
use Rattle.libc_arguments.proofs.Scripts.{then, run_then, behind_done, run_same, run_twice}
use Rattle.libc_arguments.proofs.Answering.{answers_of, address_is}
use Rattle.libc_arguments.proofs.Parts.{err_follows, bare_after, after_append, follow_append, joined_append}
use Rattle.libc_arguments.proofs.Finishing.{finish_fails}

-- all but the last byte
without_last : (ns : List ℕ) → take (length ns - 1) ns ≡ without_zero ns
without_last [] = refl
without_last (n ∷ []) = refl
without_last (n ∷ m ∷ ns) =
    let e : length (n ∷ m ∷ ns) - 1 ≡ suc (length (m ∷ ns) - 1) = omega arith in
    ap (λ (k : ℕ). take k (n ∷ m ∷ ns)) e ∙ ap (λ (ms : List ℕ). n ∷ ms) (without_last (m ∷ ns))

pub line_is : (ns ms ls : List ℕ) → ms ≡ take (length ns - 1) ns → ls ≡ ms ++ 10 ∷ [] → ls ≡ line ns
line_is ns ms ls less more = more ∙ ap (λ (ks : List ℕ). ks ++ 10 ∷ []) (less ∙ without_last ns)

abbrev pub line_value : Text → List ℕ → List ℕ
line_value s ns = line ns

-- ---- the streams beside what items settle and expose
abbrev pub wrote : Stream → Store → List ℕ → Store
wrote to s bs = record s { output = printed_to to bs s.output }

effect_wrote : (i : Item) (to : Stream) (s : Store) (bs : List ℕ) → effect i (wrote to s bs) ≡ wrote to (effect i s) bs
effect_wrote (Read y a n) to s bs = refl
effect_wrote (Write y a n) to s bs = refl
effect_wrote (Born y) to s bs = refl
effect_wrote (Dies y) to s bs = refl
effect_wrote (Alive y) to s bs = refl
effect_wrote (Expose y) to s bs = refl
effect_wrote (Lookup b) to s bs = refl
effect_wrote (Narrow id y) to s bs = refl
effect_wrote Input to s bs = refl
effect_wrote Output to s bs = refl
effect_wrote Ending to s bs = refl
effect_wrote Any to s bs = refl

pub after_wrote : (is : List Item) (to : Stream) (s : Store) (bs : List ℕ) → after is (wrote to s bs) ≡ wrote to (after is s) bs
after_wrote [] to s bs = refl
after_wrote (i ∷ is) to s bs = ap (after is) (effect_wrote i to s bs) ∙ after_wrote is to (effect i s) bs

do_wrote : (cells : Cells) (i : Item) (to : Stream) (s : Store) (bs : List ℕ) → CanDo cells i s → CanDo cells i (wrote to s bs)
do_wrote cells (Read y a n) to s bs h = h
do_wrote cells (Write y a n) to s bs h = h
do_wrote cells (Born y) to s bs h = h
do_wrote cells (Dies y) to s bs h = h
do_wrote cells (Alive y) to s bs h = h
do_wrote cells (Expose y) to s bs h = h
do_wrote cells (Lookup b) to s bs h = h
do_wrote cells (Narrow id y) to s bs h = h
do_wrote cells Input to s bs h = h
do_wrote cells Output to s bs h = h
do_wrote cells Ending to s bs h = h
do_wrote cells Any to s bs h = h

pub follow_wrote : (cells : Cells) (is : List Item) (to : Stream) (s : Store) (bs : List ℕ) → CanFollow cells is s → CanFollow cells is (wrote to s bs)
follow_wrote cells [] to s bs h = tt
follow_wrote cells (i ∷ is) to s bs h = (
  do_wrote cells i to s bs h.0,
  subst (λ (u : Store). CanFollow cells is u) (sym (effect_wrote i to s bs))
      (follow_wrote cells is to (effect i s) bs h.1),
)

-- the bytes of both streams grow by what is printed
pub total_printed : (to : Stream) (bs : List ℕ) (o : Outputs) → total (printed_to to bs o) ≡ total o + length bs
total_printed streams.Output bs o =
    let e : length (o.standard ++ bs) ≡ length o.standard + length bs = length-append o.standard bs in
    omega (arith, e)
total_printed streams.Errors bs o =
    let e : length (o.errors ++ bs) ≡ length o.errors + length bs = length-append o.errors bs in
    omega (arith, e)

-- ---- the end of a call that prints
prints : (m : Kept) (rows : List Row) (io : Io) (is : List Item) (bs : List ℕ) (script : List Row → Script (List ℕ)) → rows ≡ m.rows →
    (g : Gives false (List ℕ) m io [] is (script m.rows) bs) →
    run rows (printing (script rows)) (store_of m io) ≡ Done (number (pos 1)) (g.items ++ Output ∷ []) (wrote streams.Output (after is (store_of m io)) bs)
prints m rows io is bs script same g =
    ap (λ (rs : List Row). run rs (printing (script rs)) (store_of m io)) same
    ∙ run_then m.rows (script m.rows) printed (store_of m io)
    ∙ ap (λ (act : Act (List ℕ)). then act (λ v u. run m.rows (printed v) u)) g.done
    ∙ behind_done g.items (Output ∷ []) (number (pos 1)) (wrote streams.Output (after is (store_of m io)) bs)

after_store : (is : List Item) (m : Kept) (io : Io) (bs : List ℕ) →
    after is (store_of m (record io { output = printed_to streams.Output bs io.output })) ≡ wrote streams.Output
    (after is (store_of m io)) bs
after_store is m io bs = after_wrote is streams.Output (store_of m io) bs

-- the bytes are printed, and what the call settles and exposes took effect
pub print_gives : (m new : Kept) (io out : Io) (is js : List Item) (bs : List ℕ) (script : List Row → Script (List ℕ)) → AreWithin io →
    total io.output + length bs ≤ 2 ^ 24 → Gives false (List ℕ) m io [] is (script m.rows) bs →
    js ≡ is ++ Output ∷ [] → out ≡ record io { output = printed_to streams.Output bs io.output } → new.rows ≡ m.rows →
    ((io : Io) → CanFollow m.cells js (store_of m io) → store_of new io ≡ after js (store_of m io)) →
    Answers (answers.Value (Int (pos 1))) js (store_of new out) (limited (store_of m io) (run new.rows (printing (script new.rows)) (store_of m io)))
print_gives m new io out is js bs script within fits g more put rows settled =
    let end : Io = record io { output = printed_to streams.Output bs io.output } in
    let items : js ≡ joined (g.items ++ Output ∷ []) = more ∙ ap (λ (ks : List Item). ks ++ Output ∷ []) g.added ∙ sym
    (joined_append g.items (Output ∷ []) refl) in
    let able : CanFollow m.cells js (store_of m end) = subst (λ (ks : List Item). CanFollow m.cells ks (store_of m end)) (sym more)
    (follow_append m.cells is (Output ∷ []) (store_of m end) (follow_wrote m.cells is streams.Output (store_of m io) bs (g.able tt)) (tt, tt)) in
    let store : store_of new out ≡ wrote streams.Output (after is (store_of m io)) bs =
    ap (store_of new) put ∙ settled end able ∙ ap (λ (ks : List Item). after ks (store_of m end)) more ∙ after_append is (Output ∷ [])
    (store_of m end) ∙ after_store is m io bs in
    let size : total (printed_to streams.Output bs io.output) ≤ 2 ^ 24 = subst (λ (n : ℕ). n ≤ 2 ^ 24)
    (sym (total_printed streams.Output bs io.output)) fits in
    subst (λ (act : Act LibValue). Answers (answers.Value (Int (pos 1))) js (store_of new out) (limited (store_of m io) act))
    (sym (prints m new.rows io is bs script rows g))
    (answers_of (Ok (Int (pos 1))) js (store_of new out)
    (Done (number (pos 1)) (joined (g.items ++ Output ∷ [])) (wrote streams.Output (after is (store_of m io)) bs))
    (subst (λ (o : Io). total o.output ≤ 2 ^ 24) (sym put) size) (refl, items, store))

-- the output would pass its limit
pub past_split : (b : Bool) (n : ℕ) (e : LibAnswer) (r : Result (Unit {0}) LibAnswer) → r ≡ Err e → r ≡ cond b (Err (answers.Outside PastOutput n)) (Ok tt) →
    (b ≡ true) × (e ≡ answers.Outside PastOutput n)
past_split true n e r err h = (refl, cc)
past_split false n e r err h = absurd (cc)

pub past_act : (n : ℕ) (v : LibValue) (is : List Item) (u : Store) → total u.output ≡ n → nat_lt (2 ^ 24) n ≡ true →
    output_within (Done v is u) ≡ Outside PastOutput n
past_act n v is u size past = ap (λ (k : ℕ). cond (nat_lt (2 ^ 24) k) (Outside PastOutput k) (Done v is u)) size ∙ ap
    (λ (b : Bool). cond b (Outside PastOutput n) (Done v is u)) past

pub print_past : (m : Kept) (io : Io) (is : List Item) (bs : List ℕ) (script : List Row → Script (List ℕ)) (e : LibAnswer) (r : Result (Unit {0}) LibAnswer) →
    Gives false (List ℕ) m io [] is (script m.rows) bs → r ≡ Err e →
    r ≡ cond (nat_lt (2 ^ 24) (total io.output + length bs)) (Err (answers.Outside PastOutput (total io.output + length bs))) (Ok tt) →
    Answers e is (store_of m io) (limited (store_of m io) (run m.rows (printing (script m.rows)) (store_of m io)))
print_past m io is bs script e r g err past =
    let q = past_split (nat_lt (2 ^ 24) (total io.output + length bs)) (total io.output + length bs) e r err past in
    let size : total (wrote streams.Output (after is (store_of m io)) bs).output ≡ total io.output + length bs =
    ap (λ (u : Store). total (printed_to streams.Output bs u.output)) (bare_after is (store_of m io))
    ∙ total_printed streams.Output bs io.output in
    let act : limited (store_of m io) (run m.rows (printing (script m.rows)) (store_of m io)) ≡ Outside PastOutput (total io.output + length bs) =
    ap (limited (store_of m io)) (prints m m.rows io is bs script refl g) ∙ past_act (total io.output + length bs) (number (pos 1))
    (joined (g.items ++ Output ∷ [])) (wrote streams.Output (after is (store_of m io)) bs) size q.0 in
    subst (λ (a : LibAnswer). Answers a is (store_of m io) (limited (store_of m io) (run m.rows (printing (script m.rows)) (store_of m io)))) (sym q.1)
    (subst (λ (act : Act LibValue). Answers (answers.Outside PastOutput (total io.output + length bs)) is (store_of m io) act) (sym act) (refl, refl))

-- ---- puts
puts_is : (rows : List Row) (a : ℕ) (p : Prov) (s : Store) → run rows (printing (line_at rows a p)) s ≡ run rows (puts rows a p) s
puts_is rows a p s =
    run_twice rows (text rows a p) (λ t. read_numbers t.bytes >>= (λ ns. Give (line ns))) printed s
    ∙ run_same rows (text rows a p) (λ t. (read_numbers t.bytes >>= (λ ns. Give (line ns))) >>= printed)
    (λ t. read_numbers t.bytes >>= (λ ns. printed (line ns))) s
    (λ t u. run_twice rows (read_numbers t.bytes) (λ ns. Give (line ns)) printed u)

pub puts_called : (rows : List Row) (vs : List LibValue) (who : Event) (a : ℕ) (p : Prov) (s t : Store) (is : List Item) (e : LibAnswer) →
    pointer a p ≡ pointer_in (argument_at vs 0) →
    Answers e is t (limited s (run rows (printing (line_at rows a p)) s)) → Answers e is t (called rows Puts vs who s)
puts_called rows vs who a p s t is e same h =
    let q = address_is a (address_in (argument_at vs 0)) p (prov_in (argument_at vs 0)) same in
    subst (λ (b : ℕ). Answers e is t (limited s (run rows (puts rows b (prov_in (argument_at vs 0))) s))) q.0
    (subst (λ (r : Prov). Answers e is t (limited s (run rows (puts rows a r) s))) q.1
    (subst (λ (act : Act LibValue). Answers e is t (limited s act)) (puts_is rows a p s) h))

-- the string isn't read
pub puts_fails : {A : Type 0} (seen : A → List ℕ) (m : Kept) (io : Io) (is : List Item) (a : ℕ) (p : Prov) (e : LibAnswer) →
    Follows false seen (Err e) m io [] is (line_at m.rows a p) →
    Answers e is (store_of m io) (limited (store_of m io) (run m.rows (printing (line_at m.rows a p)) (store_of m io)))
puts_fails seen m io is a p e h =
    finish_fails e m io is (λ rows. printing (line_at rows a p))
    (err_follows false false (List ℕ) LibValue seen value_seen e m io [] is is (line_at m.rows a p) printed h)
