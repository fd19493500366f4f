-- Lemmas on the bytes of a range, read one after the other.
use Rattle.std.proofs.Common.{◌≡◌, ℕ, suc, ◌+◌, ◌-◌, ◌<◌, ◌≤◌, Bool, true, ◌&&◌, List, [], ◌∷◌, ◌++◌, map, append_assoc, ap, sym, subst, ◌∙◌, arith}
use Rattle.std.specs.Prelude.{Result, Ok, Err}
use Rattle.std.proofs.lemmas.List.{append-nil, map-append}
use Rattle.ub_base.specs.declared.names.Item.{Item}
use Rattle.ub_base.specs.declared.names.Item.TheVariants.{Expose}
use Rattle.mem_objects.specs.declared.answer.LibAnswer.{LibAnswer}
use Rattle.mem_objects.specs.declared.answer.LibAnswer.TheVariants as answers
use Rattle.mem_spec.specs.Store.{TaggedByte, range_from}
use Rattle.mem_spec.specs.Acts.{is_written, all_written, origins_in}
use Rattle.mem_objects.specs.Loads.{origins_of}
use Rattle.mem_spec.specs.Script.{Raised}
use Rattle.mem_spec.specs.Streams.{Io}
use Rattle.mem_objects.specs.Memory.{Kept, store_of}
use Rattle.libc_spec.specs.Library.{numbers, number_of_byte, read_numbers}
use Rattle.libc_arguments.specs.Parts.{after, Gives, Follows, ReadsByte, ReadsAll}
use Rattle.libc_arguments.proofs.Parts.{numbers_given, numbers_raised}

-- what the bytes from the offset on add to what was read gives what all of them give
pub record ReadsRest (f : ℕ → TaggedByte) (from len offset : ℕ) (ns : List ℕ) (old now : List Item) : Type 0 where
  pub written : all_written (range_from f (from + offset) (len - offset)) ≡ all_written (range_from f from len)
  pub numbers : ns ++ numbers (range_from f (from + offset) (len - offset)) ≡ numbers (range_from f from len)
  pub items : now ++ map Expose (origins_of (range_from f (from + offset) (len - offset))) ≡ old ++ map Expose (origins_of (range_from f from len))

rest_next : (f : ℕ → TaggedByte) (from len offset : ℕ) → offset < len →
    range_from f (from + offset) (len - offset) ≡ f (from + offset) ∷ range_from f (from + (offset + 1)) (len - (offset + 1))
rest_next f from len offset lt =
    let e : len - offset ≡ suc (len - (offset + 1)) = omega arith in
    let a : suc (from + offset) ≡ from + (offset + 1) = omega arith in
    ap (range_from f (from + offset)) e ∙ ap (λ (k : ℕ). f (from + offset) ∷ range_from f k (len - (offset + 1))) a

-- one byte more
pub rest_goes_on : (f : ℕ → TaggedByte) (from len offset at n : ℕ) (ns ms : List ℕ) (old now new : List Item) → offset < len → at ≡ from + offset →
    ReadsByte (Ok n) (f at) now new → ms ≡ ns ++ n ∷ [] →
    ReadsRest f from len offset ns old now → ReadsRest f from len (offset + 1) ms old new
rest_goes_on f from len offset at n ns ms old now new lt place byte more r =
    let step = rest_next f from len offset lt in
    let same : f at ≡ f (from + offset) = ap f place in
    record {
      written =
          ap (λ (w : Bool). w && all_written (range_from f (from + (offset + 1)) (len - (offset + 1))))
          (sym (sym (ap (λ (c : TaggedByte). is_written c.byte) same) ∙ byte.0))
          ∙ ap all_written (sym step) ∙ r.written;
      numbers =
          ap (λ (ks : List ℕ). ks ++ numbers (range_from f (from + (offset + 1)) (len - (offset + 1))))
          (more ∙ ap (λ (k : ℕ). ns ++ k ∷ []) (byte.1 ∙ ap number_of_byte same))
          ∙ append_assoc ns (number_of_byte (f (from + offset)) ∷ []) (numbers (range_from f (from + (offset + 1)) (len - (offset + 1))))
          ∙ ap (λ (bs : List TaggedByte). ns ++ numbers bs) (sym step) ∙ r.numbers;
      items =
          ap (λ (is : List Item). is ++ map Expose (origins_of (range_from f (from + (offset + 1)) (len - (offset + 1)))))
          (byte.2 ∙ ap (λ (c : TaggedByte). now ++ map Expose (origins_in c.byte)) same)
          ∙ append_assoc now (map Expose (origins_in (f (from + offset)).byte))
          (map Expose (origins_of (range_from f (from + (offset + 1)) (len - (offset + 1)))))
          ∙ ap (λ (is : List Item). now ++ is) (sym
          (map-append Expose (origins_in (f (from + offset)).byte) (origins_of (range_from f (from + (offset + 1)) (len - (offset + 1))))))
          ∙ ap (λ (bs : List TaggedByte). now ++ map Expose (origins_of bs)) (sym step) ∙ r.items;
    }

-- all bytes were read
pub rest_none : {A : Type 0} (items : A → List ℕ) (v : A) (f : ℕ → TaggedByte) (from len offset : ℕ) (old now : List Item) → len ≤ offset →
    ReadsRest f from len offset (items v) old now → ReadsAll items (Ok v) (range_from f from len) old now
rest_none items v f from len offset old now le r =
    let e : len - offset ≡ 0 = omega arith in (
      sym r.written ∙ ap (λ (n : ℕ). all_written (range_from f (from + offset) n)) e,
      sym (append-nil (items v)) ∙ ap (λ (n : ℕ). items v ++ numbers (range_from f (from + offset) n)) (sym e) ∙ r.numbers,
      sym (append-nil now) ∙ ap (λ (n : ℕ). now ++ map Expose (origins_of (range_from f (from + offset) n))) (sym e) ∙ r.items,
    )

-- a byte isn't read
pub rest_fails : {A : Type 0} (items : A → List ℕ) (e : LibAnswer) (f : ℕ → TaggedByte) (from len offset at : ℕ) (ns : List ℕ) (old now mid new : List Item) →
    offset < len → at ≡ from + offset → ReadsByte (Err e) (f at) now mid →
    ReadsRest f from len offset ns old now → ReadsAll items (Err e) (range_from f from len) old new
rest_fails items answers.NoMemory f from len offset at ns old now mid new lt place byte r = tt
rest_fails items (answers.Raise c) f from len offset at ns old now mid new lt place byte r = (
  byte.0,
  sym r.written ∙ ap all_written (rest_next f from len offset lt)
      ∙ ap (λ (w : Bool). w && all_written (range_from f (from + (offset + 1)) (len - (offset + 1))))
      (sym (ap (λ (c : TaggedByte). is_written c.byte) (ap f place)) ∙ byte.1),
)
rest_fails items e f from len offset at ns old now mid new lt place byte r = absurd byte

-- the numbers of the bytes are read as the script reads them
pub reads_follow : {A : Type 0} (items : A → List ℕ) (r : Result A LibAnswer) (m : Kept) (io : Io) (old new : List Item) (bs : List TaggedByte) →
    ReadsAll items r bs old new → Follows true items r m io old new (read_numbers bs)
reads_follow items (Ok v) m io old new bs h = subst (λ (ns : List ℕ). Gives true (List ℕ) m io old new (read_numbers bs) ns) (sym h.1)
    (numbers_given m io old new bs h.0 h.2)
reads_follow items (Err answers.NoMemory) m io old new bs h = tt
reads_follow items (Err (answers.Raise c)) m io old new bs h = numbers_raised m.rows bs (after old (store_of m io)) h.1 ∙ ap Raised (sym h.0)
reads_follow items (Err e) m io old new bs h = absurd h
