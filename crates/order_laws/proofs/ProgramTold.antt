-- Of a program's frames the conflicts that the findings tell are enough.
use Rattle.std.proofs.Common.{◌≡◌, ℕ, Bool, true, false, ◌||◌, List, [], ◌∷◌, ◌++◌, ◌&&◌, Some, is_some, refl, sym, ap, ap₂, ◌∙◌}
use Rattle.ub_base.specs.declared.names.ObjName.{ObjName}
use Rattle.ub_base.specs.declared.names.Item.{Item}
use Rattle.ub_base.specs.declared.names.Item.TheVariants.{Read, Write, Ending}
use Rattle.mem_spec.specs.Store.{Store}
use Rattle.mem_spec.specs.Script.{Act, Done, Raised, Ended, Outside, Unplaced, run}
use Rattle.mem_laws.specs.Frame.{any_of, bears, interferes, interferes_with, some_interference}
use Rattle.c_model.specs.World.{World}
use Rattle.c_model.specs.Values.{Value}
use Rattle.c_model.specs.Steps.{Local, Pick, does}
use Rattle.addr_map.specs.Conflict.{conflicts_with as told_one, some_conflict as conflict}
use Rattle.c_model.specs.Findings.{clash}
use Rattle.c_model.specs.Machine as machine
use Rattle.c_model.specs.Machine.{Did, Machine, Does}
use Rattle.c_model.specs.ModelMachine.{done_by, frame_machine}
use Rattle.order_laws.specs.FrameEnds.{weight, frame_ends, program_machine}
use Rattle.machine_laws.specs.ToldConflicts.{telling, Tells}
use Rattle.order_laws.specs.StrictItems.{asks, backed_by, all_backed, backed}
use Rattle.order_laws.specs.StoreParts.{Part, Seen, Fact, store_parts}
use Rattle.order_laws.specs.Asking.{ActsAsk}
use Rattle.machine_laws.proofs.Depth.{was}
use Rattle.order_laws.proofs.ItemsTell.{told_is_enough, stricter}
use Rattle.order_laws.proofs.Lives.{run_knows, run_born}

did_same : (d e : Did Value Store Item) → Some d ≡ Some e → d ≡ e
did_same d e h = cc

pub done_was : (a : Act Value) (v : Value) (is : List Item) (s1 : Store) → done_by a ≡ Some (record { value = v; items = is; store = s1 }) → a ≡ Done v is s1
done_was (Done w js t) v is s1 h =
    let e = did_same _ _ h in ap (λ d. Done d.value d.items d.store) e
done_was (Raised c) v is s1 h = absurd (cc)
done_was (Ended n js t) v is s1 h = absurd (cc)
done_was (Outside c n) v is s1 h = absurd (cc)
done_was Unplaced v is s1 h = absurd (cc)

-- backed lists joined
or_right : (a b : Bool) → b ≡ true → (a || b) ≡ true
or_right true b h = refl
or_right false b h = h

and_both : (a b : Bool) → a ≡ true → b ≡ true → (a && b) ≡ true
and_both true b h k = k
and_both false b h k = h

and_l : (a b : Bool) → (a && b) ≡ true → a ≡ true
and_l true b h = refl
and_l false b h = h

and_r : (a b : Bool) → (a && b) ≡ true → b ≡ true
and_r true b h = h
and_r false b h = absurd (cc)

any_left : (f : Item → Bool) (is js : List Item) → any_of f is ≡ true → any_of f (is ++ js) ≡ true
any_left f [] js h = absurd (cc)
any_left f (i ∷ is) js h = go (f i) h (any_left f is js)
  where
    go : (b : Bool) → (b || any_of f is) ≡ true → (any_of f is ≡ true → any_of f (is ++ js) ≡ true) → (b || any_of f (is ++ js)) ≡ true
    go true h k = refl
    go false h k = k h

any_right : (f : Item → Bool) (is js : List Item) → any_of f js ≡ true → any_of f (is ++ js) ≡ true
any_right f [] js h = h
any_right f (i ∷ is) js h = or_right (f i) (any_of f (is ++ js)) (any_right f is js h)

by_more : (is js : List Item) (i : Item) → ((x : ObjName) → any_of (λ j. asks j x) is ≡ true → any_of (λ j. asks j x) js ≡ true) → backed_by is i ≡ true
    → backed_by js i ≡ true
by_more is js (Read x a n) f h = f x h
by_more is js (Write x a n) f h = f x h
by_more is js Ending f h = h
by_more is js _ f h = refl

all_more : (is js ks : List Item) → ((x : ObjName) → any_of (λ j. asks j x) is ≡ true → any_of (λ j. asks j x) js ≡ true) → all_backed is ks ≡ true
    → all_backed js ks ≡ true
all_more is js [] f h = refl
all_more is js (k ∷ ks) f h =
    and_both (backed_by js k) (all_backed js ks) (by_more is js k f (and_l (backed_by is k) (all_backed is ks) h))
    (all_more is js ks f (and_r (backed_by is k) (all_backed is ks) h))

all_joined : (all is js : List Item) → all_backed all is ≡ true → all_backed all js ≡ true → all_backed all (is ++ js) ≡ true
all_joined all [] js h k = k
all_joined all (i ∷ is) js h k =
    and_both (backed_by all i) (all_backed all (is ++ js)) (and_l (backed_by all i) (all_backed all is) h)
    (all_joined all is js (and_r (backed_by all i) (all_backed all is) h) k)

backed_both : (is js : List Item) → backed is ≡ true → backed js ≡ true → backed (is ++ js) ≡ true
backed_both is js h k =
    all_joined (is ++ js) is js
    (all_more is (is ++ js) is (λ x. any_left (λ j. asks j x) is js) h)
    (all_more js (is ++ js) js (λ x. any_right (λ j. asks j x) is js) k)

module _ (world : World) where
  abbrev base : Machine Local Pick Value Store Item Part Seen Fact
  base = frame_machine world (store_parts world.rows)

  abbrev M : Machine (Local × ℕ) Pick Value Store Item Part Seen Fact
  M = program_machine world (store_parts world.rows)

  abbrev T : Machine (Local × ℕ) Pick Value Store Item Part Seen Fact
  T = telling M (clash world.rows)

  one_strict : (i : Item) (js : List Item) → machine.clash_one M i js ≡ interferes_with world.rows i js
  one_strict i [] = refl
  one_strict i (j ∷ js) = ap (λ b. interferes world.rows i j || b) (one_strict i js)

  any_strict : (is js : List Item) → machine.clash_any M is js ≡ some_interference world.rows is js
  any_strict [] js = refl
  any_strict (i ∷ is) js = ap₂ (λ a b. a || b) (one_strict i js) (any_strict is js)

  one_told : (i : Item) (js : List Item) → machine.clash_one T i js ≡ told_one world.rows i js
  one_told i [] = refl
  one_told i (j ∷ js) = ap (λ b. clash world.rows i j || b) (one_told i js)

  pub any_told : (is js : List Item) → machine.clash_any T is js ≡ conflict world.rows is js
  any_told [] js = refl
  any_told (i ∷ is) js = ap₂ (λ a b. a || b) (one_told i js) (any_told is js)

  ran : (f : Local × ℕ) (p : Pick) (s : Store) (v : Value) (is : List Item) (s1 : Store) → Does M f p s v is s1
      → run world.rows (does world f.0 f.0.begun p) s ≡ Done v is s1
  ran f p s v is s1 h =
      done_was (run world.rows (does world f.0 f.0.begun p) s) v is s1
      (was base (frame_ends world) weight world.limits.depth f.1 (base.move f.0 p) (base.does f.0 p s) (record { value = v; items = is; store = s1 }) h)

  pub tells : ActsAsk world → Tells M (clash world.rows) bears (λ x s. is_some (s.life x)) backed
  tells asked = record {
    stricter = λ i j h. stricter world.rows i j h;
    backed_nil = refl;
    backed_joined = backed_both;
    backed_act = λ f p s v is s1 h. asked f.0 p s v is s1 (ran f p s v is s1 h);
    born_new = λ f p s v is s1 x h b. run_born world.rows (does world f.0 f.0.begun p) s s1 v is x (ran f p s v is s1 h) b;
    lives_on = λ f p s v is s1 x h k. run_knows world.rows (does world f.0 f.0.begun p) s s1 v is x (ran f p s v is s1 h) k;
    apart = λ is js bi bj once h. any_strict is js ∙ told_is_enough world.rows is js bi bj once (sym (any_told is js) ∙ h);
  }
