-- Picks that don't conflict change places.
use Rattle.std.proofs.Common.{◌≡◌, ◌<◌, ℕ, Bool, true, false, not, ◌||◌, List, Option, Some, is_some, sym, ap, ◌∙◌, true≢false, arith}
use Rattle.ub_base.specs.declared.clause.Kind.TheVariants.{Val}
use Rattle.ub_base.specs.declared.names.Item.{Item}
use Rattle.ub_base.specs.declared.names.ObjName.{ObjName}
use Rattle.c_typed.specs.Order.{place, is_body}
use Rattle.mem_spec.specs.Store.{Store}
use Rattle.addr_map.specs.Conflict.{some_conflict as conflict}
use Rattle.c_model.specs.Program.{tree_of}
use Rattle.c_model.specs.Values.{Value}
use Rattle.c_model.specs.World.{World}
use Rattle.c_model.specs.Steps.{Local, Pick, Ev, taken_by}
use Rattle.c_model.specs.Findings.{clash}
use Rattle.c_model.specs.ModelMachine.{nodes, none_open}
use Rattle.c_model.specs.Machine.{Machine, Evaluation, act, value, its, Does, Made, Apart}
use Rattle.machine_laws.proofs.Swaps.{acts_swap, steps_swap, evaluations_swap, update_first}
use Rattle.c_model.proofs.FramesKeep.{none_get, due_lt}
use Rattle.order_laws.specs.StrictItems.{backed}
use Rattle.order_laws.specs.StoreParts.{Part, Seen, Fact, store_parts}
use Rattle.machine_laws.specs.ToldConflicts.{Tells}
use Rattle.order_laws.specs.FrameEnds.{program_machine, program_ends}
use Rattle.order_laws.specs.Asking.{LibraryAsked}
use Rattle.machine_laws.specs.Orders.{Stopped}
use Rattle.order_laws.specs.Passes.{TwoFramesSwap, TwoStepsSwap, BodyPasses, UpdatePasses, UpdateIsWhole}
use Rattle.mem_laws.specs.Frame.{bears}
use Rattle.machine_laws.proofs.Told.{backed_in, born_in, not_again_in}
use Rattle.order_laws.proofs.ProgramTold.{any_told, tells}
use Rattle.order_laws.proofs.ProgramAsks.{acts_ask}
use Rattle.order_laws.proofs.ProgramLaws.{keeps}
use Rattle.order_laws.proofs.Permitted.{picks_agree}

-- told conflicts are all
module _ (world : World) (asked : LibraryAsked world) where
  abbrev M : Machine (Local × ℕ) Pick Value Store Item Part Seen Fact
  M = program_machine world (store_parts world.rows)

  abbrev E : Local × ℕ → Pick → Store → Option (Stopped ℕ Store Item)
  E = program_ends world (store_parts world.rows)

  told : Tells M (clash world.rows) bears (λ x s. is_some (s.life x)) backed
  told = tells world (acts_ask world asked)

  acts_apart : (f g : Local × ℕ) (p q : Pick) (v w : Value) (is js : List Item) (s s1 s2 : Store) → Does M f p s v is s1 → Does M g q s1 w js s2
      → conflict world.rows is js ≡ false → Apart M is js
  acts_apart f g p q v w is js s s1 s2 a b free =
      told.apart is js (told.backed_act f p s v is s1 a) (told.backed_act g q s1 w js s2 b)
      (λ x bx by. true≢false (sym (told.born_new f p s v is s1 x a bx).1 ∙ (told.born_new g q s1 w js s2 x b by).0)) (any_told world is js ∙ free)

  abbrev Lives : ObjName → Store → Type 0
  Lives x s = is_some (s.life x) ≡ true

  -- also where other acts come between them
  made_apart : (f g : Local × ℕ) (p q : Pick) (b c : Evaluation Pick Value Item) (s s1 s2 s3 : Store) → ((x : ObjName) → Lives x s1 → Lives x s2)
      → Made M b f p s s1 → Made M c g q s2 s3
      → conflict world.rows (its b) (its c) ≡ false → Apart M (its b) (its c)
  made_apart f g p q b c s s1 s2 s3 on hb hc free =
      told.apart (its b) (its c) (backed_in M E (clash world.rows) bears (λ x s. is_some (s.life x)) backed told b f p s s1 hb)
      (backed_in M E (clash world.rows) bears (λ x s. is_some (s.life x)) backed told c g q s2 s3 hc)
      (λ x bx by. not_again_in M E (clash world.rows) bears (λ x s. is_some (s.life x)) backed told c g q s2 s3 x hc
      (on x (born_in M E (clash world.rows) bears (λ x s. is_some (s.life x)) backed told b f p s s1 x hb bx)) by)
      (any_told world (its b) (its c) ∙ free)

pub two_frames_swap : TwoFramesSwap
two_frames_swap world asked f g p q v w is js s s1 s2 a b free =
    acts_swap (program_machine world (store_parts world.rows)) (keeps world asked).0 f g p q v w is js s s1 s2 a b
    (acts_apart world asked f g p q v w is js s s1 s2 a b free)

pub two_steps_swap : TwoStepsSwap
two_steps_swap world asked f p q v w is js s s1 s2 rp rq ne a b free =
    let m = program_machine world (store_parts world.rows) in
    steps_swap m (keeps world asked).0 (keeps world asked).1 f p q v w is js s s1 s2 rp rq ne a b
    (acts_apart world asked f (m.next f p v) p q v w is js s s1 s2 a b free)

pub body_passes : BodyPasses
body_passes world asked f p q b c s s1 s2 rp rq ne hb hc free =
    let m = program_machine world (store_parts world.rows) in
    evaluations_swap m (keeps world asked).0 (keeps world asked).1 f p q b c s s1 s2 rp rq ne hb hc
    (made_apart world asked f (m.next f p (value b)) p q b c s s1 s1 s2 (λ x l. l) hb hc free)

pub update_passes : UpdatePasses
update_passes world asked f p q b v w is js s s1 s2 s3 rp rq ne op hb hv hw free1 free2 =
    let m = program_machine world (store_parts world.rows) in
    update_first m (keeps world asked).0 (keeps world asked).1 (keeps world asked).3 f p q b v w is js s s1 s2 s3 rp rq ne op hb hv hw
    (made_apart world asked f (m.next f p (value b)) p q b (act v is) s s1 s1 s2 (λ x l. l) hb hv free1)
    (made_apart world asked f (m.next (m.next f p (value b)) q v) p (m.half q) b (act w js) s s1 s2 s3
    (λ x l. (told world asked).lives_on (m.next f p (value b)) q s1 v is s2 x hv.1 l) hb hw free2)

pub update_is_whole : UpdateIsWhole
update_is_whole world f e u m closed up gv ge ub may =
    let a = (picks_agree world (record f { begun = Some e }) (Ev u) closed).0 may in
    true≢false (sym (none_get e (starts (is_body u.kind) ub a.1) m in_tree up gv) ∙ ap is_some ge)
  where
    starts : (b : Bool) → b ≡ true → (not b || none_open e) ≡ true → none_open e ≡ true
    starts true h k = k
    starts false h k = absurd (cc)

    in_tree : m < nodes e
    in_tree = (let k = due_lt (taken_by world f.scene e) (tree_of e.root) 0 (place m Val) (closed (place m Val) gv).due in omega (arith, k))
