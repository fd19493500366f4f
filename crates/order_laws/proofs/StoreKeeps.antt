-- The acts of a program keep the laws of the store.
use Rattle.std.proofs.Common.{◌≡◌, ℕ, ◌+◌, ◌^◌, min, Bool, true, false, ◌||◌, List, [], ◌∷◌, ◌++◌, Option, is_some, refl, sym, ap, ap₂, ◌∙◌, arith}
use Rattle.ub_base.specs.declared.names.Event.{Event}
use Rattle.ub_base.specs.declared.names.ObjName.{ObjName}
use Rattle.ub_base.specs.declared.names.Item.{Item}
use Rattle.ub_base.specs.declared.names.Item.TheVariants.{Born}
use Rattle.exposure.specs.Cells.{is_other}
use Rattle.mem_spec.specs.Streams.{Outputs}
use Rattle.mem_spec.specs.Store.{TaggedByte, Life, Store}
use Rattle.mem_spec.specs.Script.{Done, run}
use Rattle.addr_map.specs.Conflict.{conflicts_one, stands_at}
use Rattle.mem_laws.specs.Frame as items
use Rattle.mem_laws.specs.Frame.{gives, any_of, bears, ends_life, shows, writes, settles, settles_away, takes, prints, life_conflict, interferes}
use Rattle.mem_laws.specs.Frame.{interferes_with, some_interference}
use Rattle.mem_laws.proofs.Scripts.{script_same, script_changes}
use Rattle.c_model.specs.World.{World}
use Rattle.c_model.specs.Values.{Value}
use Rattle.c_model.specs.Steps.{Local, Pick, does}
use Rattle.c_model.specs.Machine as machine
use Rattle.c_model.specs.Machine.{Machine, Does, Diff, Apart, alter, clash_one, clash_any, count_all}
use Rattle.c_model.specs.MachineLaws.{StoreLaws}
use Rattle.c_model.specs.ModelMachine.{done_by, frame_machine}
use Rattle.order_laws.specs.StoreParts.{Part, life_of, is_known, is_exposed, byte_of, is_found, kept_for, kept_away, the_input, the_position, the_output}
use Rattle.order_laws.specs.StoreParts.{Seen, a_life, a_truth, a_byte, an_object, some_bytes, some_outputs, a_number, look, alters, Fact, was_shown}
use Rattle.order_laws.specs.StoreParts.{was_settled}
use Rattle.order_laws.specs.StoreParts.{counts, store_parts}
use Rattle.order_laws.specs.StoreParts.{counted_after}
use Rattle.order_laws.specs.Asking.{ActsCount}
use Rattle.order_laws.proofs.ProgramTold.{done_was}
use Rattle.order_laws.proofs.StoreMeet.{any_or, any_first, any_second, lives_interfere, bytes_interfere, takes_interfere, prints_interfere, same_by}
use Rattle.order_laws.proofs.StoreMeet.{same_exposed}
use Rattle.order_laws.proofs.StoreMeet.{same_kept}
use Rattle.order_laws.proofs.StoreHolds.{run_holds}

or_swap : (a b : Bool) → (a || b) ≡ (b || a)
or_swap true true = refl
or_swap true false = refl
or_swap false true = refl
or_swap false false = refl

min_swap : (n a b : ℕ) → min (min (n + a) (2 ^ 62) + b) (2 ^ 62) ≡ min (min (n + b) (2 ^ 62) + a) (2 ^ 62)
min_swap n a b = omega arith

life_is : (a b : Option Life) → a_life a ≡ a_life b → a ≡ b
life_is a b h = cc

truth_is : (a b : Bool) → a_truth a ≡ a_truth b → a ≡ b
truth_is a b h = cc

byte_is : (a b : TaggedByte) → a_byte a ≡ a_byte b → a ≡ b
byte_is a b h = cc

object_is : (a b : Option ObjName) → an_object a ≡ an_object b → a ≡ b
object_is a b h = cc

bytes_are : (a b : List ℕ) → some_bytes a ≡ some_bytes b → a ≡ b
bytes_are a b h = cc

outputs_are : (a b : Outputs) → some_outputs a ≡ some_outputs b → a ≡ b
outputs_are a b h = cc

number_is : (a b : ℕ) → a_number a ≡ a_number b → a ≡ b
number_is a b h = cc

store_is : (s t : Store) → ((x : ObjName) → s.life x ≡ t.life x) → ((x : ObjName) → s.exposed x ≡ t.exposed x)
    → ((x : ObjName) (b : ℕ) → s.bytes x b ≡ t.bytes x b)
    → ((e : Event) → s.kept e ≡ t.kept e) → s.input ≡ t.input → s.position ≡ t.position → s.output ≡ t.output → s.created ≡ t.created → s ≡ t
store_is s t l x b k i p o c = λ j. record {
  life = λ y. l y j;
  exposed = λ y. x y j;
  bytes = λ y n. b y n j;
  kept = λ e. k e j;
  input = i j;
  position = p j;
  output = o j;
  created = c j;
}

module _ (world : World) where
  abbrev M : Machine Local Pick Value Store Item Part Seen Fact
  M = frame_machine world (store_parts world.rows)

  alter_any : (j : List Item) (p : Part) → alter M j p ≡ any_of (λ i. alters i p) j
  alter_any [] p = refl
  alter_any (i ∷ j) p = ap (λ b. alters i p || b) (alter_any j p)

  one_any : (i : Item) (js : List Item) → clash_one M i js ≡ interferes_with world.rows i js
  one_any i [] = refl
  one_any i (j ∷ js) = ap (λ b. interferes world.rows i j || b) (one_any i js)

  apart_any : (is js : List Item) → clash_any M is js ≡ some_interference world.rows is js
  apart_any [] js = refl
  apart_any (i ∷ is) js = ap₂ (λ a b. a || b) (one_any i js) (apart_any is js)

  -- the two ways of saying that stores differ only in what items alter
  at : (j : List Item) (s t : Store) → Diff M j s t → (p : Part) → any_of (λ i. alters i p) j ≡ false → look p s ≡ look p t
  at j s t d p h = d p (alter_any j p ∙ h)

  to_items : (j : List Item) (s t : Store) → Diff M j s t → items.Diff j s t
  to_items j s t d = record {
    life = λ x a b. life_is (s.life x) (t.life x) (at j s t d (life_of x) (any_or (λ i. bears i x) (λ i. ends_life i x) j a b));
    known = λ x a. truth_is (is_some (s.life x)) (is_some (t.life x)) (at j s t d (is_known x) a);
    exposed = λ x a b. truth_is (s.exposed x) (t.exposed x) (at j s t d (is_exposed x) (any_or (λ i. bears i x) (λ i. shows i x) j a b));
    bytes = λ x b a e w. byte_is (s.bytes x b) (t.bytes x b)
        (at j s t d (byte_of x b) (any_or (λ i. bears i x) (λ i. ends_life i x || writes i x b) j a (any_or (λ i. ends_life i x) (λ i. writes i x b) j e w)));
    found = λ x a b. truth_is _ _ (at j s t d (is_found x) (any_or (λ i. shows i x) (λ i. ends_life i x) j a b));
    other = λ e x a. truth_is (is_other (s.kept e) x) (is_other (t.kept e) x) (at j s t d (kept_away e x) a);
    kept = λ e a. object_is (s.kept e) (t.kept e) (at j s t d (kept_for e) a);
    input = bytes_are s.input t.input (at j s t d the_input (none j));
    position = λ a. number_is s.position t.position (at j s t d the_position a);
    output = λ a. outputs_are s.output t.output (at j s t d the_output a);
  }
    where
      none : (j : List Item) → any_of (λ i. false) j ≡ false
      none [] = refl
      none (i ∷ j) = none j

  of_items : (j : List Item) (s t : Store) → items.Diff j s t → (p : Part) → any_of (λ i. alters i p) j ≡ false → look p s ≡ look p t
  of_items j s t d (life_of x) h = ap a_life (d.life x (any_first (λ i. bears i x) (λ i. ends_life i x) j h)
      (any_second (λ i. bears i x) (λ i. ends_life i x) j h))
  of_items j s t d (is_known x) h = ap a_truth (d.known x h)
  of_items j s t d (is_exposed x) h = ap a_truth (d.exposed x (any_first (λ i. bears i x) (λ i. shows i x) j h)
      (any_second (λ i. bears i x) (λ i. shows i x) j h))
  of_items j s t d (byte_of x b) h =
      let e = any_second (λ i. bears i x) (λ i. ends_life i x || writes i x b) j h in
      ap a_byte (d.bytes x b (any_first (λ i. bears i x) (λ i. ends_life i x || writes i x b) j h) (any_first (λ i. ends_life i x) (λ i. writes i x b) j e)
      (any_second (λ i. ends_life i x) (λ i. writes i x b) j e))
  of_items j s t d (is_found x) h = ap a_truth (d.found x (any_first (λ i. shows i x) (λ i. ends_life i x) j h)
      (any_second (λ i. shows i x) (λ i. ends_life i x) j h))
  of_items j s t d (kept_for e) h = ap an_object (d.kept e h)
  of_items j s t d (kept_away e x) h = ap a_truth (d.other e x h)
  of_items j s t d the_input h = ap some_bytes d.input
  of_items j s t d the_position h = ap a_number (d.position h)
  of_items j s t d the_output h = ap some_outputs (d.output h)

  to_diff : (j : List Item) (s t : Store) → items.Diff j s t → Diff M j s t
  to_diff j s t d = λ p h. of_items j s t d p (sym (alter_any j p) ∙ h)

  ran : (f : Local) (p : Pick) (s : Store) (v : Value) (is : List Item) (s1 : Store) → Does M f p s v is s1
      → run world.rows (does world f f.begun p) s ≡ Done v is s1
  ran f p s v is s1 h = done_was (run world.rows (does world f f.begun p) s) v is s1 h

  elsewhere : (f : Local) (p : Pick) (s t : Store) (v : Value) (is : List Item) (s1 : Store) (j : List Item) → Does M f p s v is s1 → Diff M j s t
      → Apart M is j
      → (t1 : Store) × Does M f p t v is t1 × Diff M j s1 t1
  elsewhere f p s t v is s1 j h d a =
      let n = script_same world.rows Value (does world f f.begun p) s t s1 (gives v) is j (ran f p s v is s1 h) (to_items j s t d) (sym (apart_any is j) ∙ a)
      in
      (n.0, ap done_by n.1, to_diff j s1 n.0 n.2)

  interferes_sym : (i j : Item) → interferes world.rows i j ≡ false → interferes world.rows j i ≡ false
  interferes_sym i j h = sym (ap₂ (λ a b. a || b) (or_swap (conflicts_one (stands_at world.rows) i j) (conflicts_one (stands_at world.rows) j i))
      (or_swap (life_conflict i j) (life_conflict j i))) ∙ h

  meet : (i j : List Item) (s t : Store) → Apart M i j → Diff M i s t → Diff M j s t → machine.Holds M (i ++ j) s → machine.Holds M (j ++ i) t
      → s.created ≡ t.created → s ≡ t
  meet i j s t a d e h k c = store_is s t lives exposed bytes kept (dj.input) position output c
    where
      m : some_interference world.rows i j ≡ false
      m = sym (apart_any i j) ∙ a

      dj : items.Diff j s t
      dj = to_items j s t e

      by : (p : Part) → ((x y : Item) → alters x p ≡ true → alters y p ≡ true → interferes world.rows x y ≡ true) → look p s ≡ look p t
      by p f = same_by world.rows p i j s t f m (at i s t d p) (at j s t e p)

      lives : (x : ObjName) → s.life x ≡ t.life x
      lives x = life_is (s.life x) (t.life x) (by (life_of x) (lives_interfere world.rows x))

      exposed : (x : ObjName) → s.exposed x ≡ t.exposed x
      exposed x = same_exposed world.rows i j s t x m (at i s t d (is_exposed x)) (at j s t e (is_exposed x)) (h (was_shown x)) (k (was_shown x)) (lives x)

      bytes : (x : ObjName) (b : ℕ) → s.bytes x b ≡ t.bytes x b
      bytes x b = byte_is (s.bytes x b) (t.bytes x b) (by (byte_of x b) (bytes_interfere world.rows x b))

      kept : (e' : Event) → s.kept e' ≡ t.kept e'
      kept e' = same_kept world.rows i j s t e' m (at i s t d (kept_for e')) (at j s t e (kept_for e')) (λ x. h (was_settled e' x)) (λ x. k (was_settled e' x))

      position : s.position ≡ t.position
      position = number_is s.position t.position (by the_position (takes_interfere world.rows))

      output : s.output ≡ t.output
      output = outputs_are s.output t.output (by the_output (prints_interfere world.rows))

  counts_swap : (i j : Item) (n : ℕ) → counts world.rows i (counts world.rows j n) ≡ counts world.rows j (counts world.rows i n)
  counts_swap (Born x) (Born y) n = min_swap n _ _
  counts_swap (Born x) _ n = refl
  counts_swap _ (Born y) n = refl
  counts_swap _ _ n = refl

  holds_nil : (s : Store) → machine.Holds M [] s
  holds_nil s (was_shown x) h = absurd (cc)
  holds_nil s (was_settled e x) h = absurd (cc)

  pub store_laws : ActsCount world → StoreLaws M
  store_laws count = record {
    elsewhere = elsewhere;
    changes = λ f p s v is s1 h. to_diff is s s1 (script_changes world.rows Value (does world f f.begun p) s s1 (gives v) is (ran f p s v is s1 h));
    clash_sym = interferes_sym;
    holds_nil = holds_nil;
    holds_next = λ f p s v is s1 j h k. run_holds world.rows (does world f f.begun p) s s1 v is j (ran f p s v is s1 h) k;
    adds = λ f p s v is s1 h. count f p s v is s1 (ran f p s v is s1 h) ∙ sym (all_counts is s.created);
    counts_swap = counts_swap;
    meet = meet;
  }
    where
      all_counts : (is : List Item) (n : ℕ) → count_all M is n ≡ counted_after world.rows is n
      all_counts [] n = refl
      all_counts (i ∷ is) n = all_counts is (counts world.rows i n)
