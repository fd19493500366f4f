-- Lemmas on the value of a call, which is a number.
use Rattle.std.proofs.Common.{◌≡◌, ℕ, Bool, true, false, cond, not, List, length, Option, refl, arith}
use Rattle.std.specs.Prelude.{ℤ, pos, ◌^◌, ◌≤◌}
use Rattle.std.specs.Ordering.{int_eq}
use Rattle.ub_base.specs.declared.names.Item.{Item}
use Rattle.ub_base.specs.declared.clause.Clause.TheVariants.{LibraryArgument}
use Rattle.addr_map.specs.declared.map.Row.{Row}
use Rattle.mem_spec.specs.declared.stream.Stream.{Stream}
use Rattle.mem_spec.specs.declared.stream.Stream.TheVariants as streams
use Rattle.mem_spec.specs.Store.{Store}
use Rattle.mem_spec.specs.Script.{Script, Raise, require, run}
use Rattle.mem_objects.specs.declared.answer.LibAnswer.{LibAnswer}
use Rattle.mem_objects.specs.Memory.{Kept}
use Rattle.libc_spec.specs.Library.{LibValue, address_in, prov_in, text, read_numbers, without_zero, write_numbers, in_ranges}
use Rattle.libc_spec.specs.Print.{Argument, text_of, print_to, printf, printed_by}
use Rattle.libc_spec.specs.Formatted.{
  noting,
  overlaps,
  room,
  ended,
  placed,
  store_text,
  fprintf,
  sprintf,
  printed_to_by,
  stored_by,
}
use Rattle.libc_arguments.specs.Answers.{AreWithin, Answers, GivesMade}
use Rattle.libc_arguments.proofs.Living.{no_streams}
use Rattle.mem_spec.specs.Streams.{total, silent}
use Rattle.libc_arguments.proofs.Keeping.{Only, OnDone, Made, only_then, only_run, ranges_done, output_done, answers_made}

print_made : (m : Kept) (to : Stream) (rows : List Row) (format : LibValue) (as' : List Argument) → Only (Made m) (print_to to rows format as')
print_made m to rows format as' =
    only_then (Made m) (text rows (address_in format) (prov_in format)) _ (λ s.
    only_then (Made m) (read_numbers s.bytes) _ (λ ns.
    only_then (Made m) (text_of (length ns) rows 0 (without_zero ns) as') _ (λ bytes. λ u. tt)))

either_made : (m : Kept) (b : Bool) (p q : Script LibValue) → Only (Made m) p → Only (Made m) q → Only (Made m) (cond b p q)
either_made m true p q h g = h
either_made m false p q h g = g

written_made : (m : Kept) (rows : List Row) (stream : ℤ) (format : LibValue) (as' : List Argument) → Only (Made m) (fprintf rows stream format as')
written_made m rows stream format as' =
    either_made m (int_eq stream (pos 1)) (print_to streams.Output rows format as') _ (print_made m streams.Output rows format as')
    (either_made m (int_eq stream (pos 2)) (print_to streams.Errors rows format as') (Raise LibraryArgument) (print_made m streams.Errors rows format as') tt)

stored_made : (m : Kept) (rows : List Row) (most : Option ℕ) (to format : LibValue) (as' : List Argument) → Only (Made m) (sprintf rows most to format as')
stored_made m rows most to format as' =
    only_then (Made m) (noting (placed rows most to format as')) (store_text most) (λ p.
    only_then (Made m) (require (not (overlaps p.value.at (room most (length p.value.bytes)) p.items)) LibraryArgument) _ (λ u.
    only_then (Made m) (write_numbers (ended (room most (length p.value.bytes)) p.value.bytes) p.value.at) _ (λ w. tt)))

done_made : (m : Kept) (rows : List Row) (p : Script LibValue) (s : Store) → Only (Made m) p → OnDone (Made m) (in_ranges (run rows p s))
done_made m rows p s h = ranges_done (Made m) (run rows p s) (only_run (Made m) rows p s h)

-- ---- calls
pub printed_gives : (m : Kept) (a : LibAnswer) (is : List Item) (u s : Store) (rows : List Row) (format : LibValue) (as' : List Argument) →
    Answers a is u (printed_by rows format as' s) → GivesMade m a
printed_gives m a is u s rows format as' h =
    answers_made m a is u (printed_by rows format as' s) h
    (output_done (Made m) (in_ranges (run rows (printf rows format as') s))
    (done_made m rows (printf rows format as') s (print_made m streams.Output rows format as')))

written_gives : (m : Kept) (a : LibAnswer) (is : List Item) (u s : Store) (rows : List Row) (stream : ℤ) (format : LibValue) (as' : List Argument) →
    Answers a is u (printed_to_by rows stream format as' s) → GivesMade m a
written_gives m a is u s rows stream format as' h =
    answers_made m a is u (printed_to_by rows stream format as' s) h
    (output_done (Made m) (in_ranges (run rows (fprintf rows stream format as') s))
    (done_made m rows (fprintf rows stream format as') s (written_made m rows stream format as')))

-- the same of a stream that is told by an equation
pub written_by : {z y : ℤ} (m : Kept) (a : LibAnswer) (is : List Item) (u s : Store) (rows : List Row) → z ≡ y → (format : LibValue)
    (as' : List Argument) → Answers a is u (printed_to_by rows z format as' s) → GivesMade m a
written_by {z = z} m a is u s rows e format as' h = written_gives m a is u s rows z format as' h

pub stored_gives : (m : Kept) (a : LibAnswer) (is : List Item) (u s : Store) (rows : List Row) (most : Option ℕ) (to format : LibValue)
    (as' : List Argument) → Answers a is u (stored_by rows most to format as' s) → GivesMade m a
stored_gives m a is u s rows most to format as' h =
    answers_made m a is u (stored_by rows most to format as' s) h
    (output_done (Made m) (in_ranges (run rows (sprintf rows most to format as') s))
    (done_made m rows (sprintf rows most to format as') s (stored_made m rows most to format as')))

-- ---- nothing was printed
none_within : (n : ℕ) → n ≡ 0 → n ≤ 2 ^ 24
none_within n e = omega arith

pub silent_within : AreWithin no_streams
silent_within = none_within (total silent) refl
