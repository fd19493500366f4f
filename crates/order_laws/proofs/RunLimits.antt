-- The limits on created bytes and output: what a script leaves is at least what it found, so limits that hold at the end held before.
use Rattle.std.proofs.Common.{◌≡◌, ℕ, suc, ◌+◌, ◌^◌, ◌<◌, ◌≤◌, min, max, Bool, true, false, nat_lt, if◌then◌else◌, List, [], ◌∷◌, length, Option, Some}
use Rattle.std.proofs.Common.{None, is_some, refl, subst, length-append, arith}
use Rattle.std.proofs.lemmas.Bool.Decides.{nat_tests}
use Rattle.ub_base.specs.declared.clause.Cause.{Cause}
use Rattle.ub_base.specs.declared.clause.Cause.TheVariants.{Depth, Created, Output}
use Rattle.ub_base.specs.declared.names.ObjName.{ObjName}
use Rattle.ub_base.specs.declared.names.Item.{Item}
use Rattle.addr_map.specs.declared.map.Row.{Row}
use Rattle.addr_map.specs.Rows.{row_of}
use Rattle.mem_spec.specs.Store.{Store}
use Rattle.mem_spec.specs.declared.stream.Stream.{Stream}
use Rattle.mem_spec.specs.declared.stream.Stream.TheVariants as streams
use Rattle.mem_spec.specs.Streams.{Outputs, printed_to, total}
use Rattle.mem_spec.specs.Script.{Touch, Ask, Get, Put, Bear, Bury, Show, Find, Settle, Take, Print, item_of, refuses, answer, left, Script, Give, Raise}
use Rattle.mem_spec.specs.Script.{Finish, Exceed, Misplace, Do, ◌>>◌, touch, run}
use Rattle.mem_spec.specs.Acts.{has_place, base_in}
use Rattle.mem_laws.specs.Frame.{ActEnd, gives, finishes, acted}
use Rattle.mem_laws.proofs.Scripts.{not_placed, stepped}
use Rattle.c_model.specs.Program.{Decl}
use Rattle.c_model.specs.World.{World}
use Rattle.c_model.specs.Values.{Value}
use Rattle.c_model.specs.Control.{Todo, Enter, ready_work}
use Rattle.c_model.specs.Steps.{Scene, Local, Begun, Pick, Control, Ev, auto_name, object_kind, pass_all, bear_all, control_act, does}
use Rattle.c_model.specs.Runs.{State, created_after, too_many, block_passes, enter_passes, limit_passed}

touch_grows : (t : Touch) (s : Store) (l : ℕ) → l < 2 ^ 62 → (left t s).created ≤ l → s.created ≤ l
touch_grows (Bear x size kind declared) s l b h = omega (arith, b, h)
touch_grows (Ask x) s l b h = h
touch_grows (Get x a n) s l b h = h
touch_grows (Put x a bs) s l b h = h
touch_grows (Bury x) s l b h = h
touch_grows (Show x) s l b h = h
touch_grows (Find a) s l b h = h
touch_grows (Settle id x c) s l b h = h
touch_grows Take s l b h = h
touch_grows (Print to bs) s l b h = h

-- what is printed leaves nothing out
total_grows : (to : Stream) (bs : List ℕ) (o : Outputs) (l : ℕ) → total (printed_to to bs o) ≤ l → total o ≤ l
total_grows streams.Output bs o l h = let e = length-append o.standard bs in omega (arith, e, h)
total_grows streams.Errors bs o l h = let e = length-append o.errors bs in omega (arith, e, h)

touch_prints : (t : Touch) (s : Store) (l : ℕ) → total (left t s).output ≤ l → total s.output ≤ l
touch_prints (Print to bs) s l h = total_grows to bs s.output l h
touch_prints (Bear x size kind declared) s l h = h
touch_prints (Ask x) s l h = h
touch_prints (Get x a n) s l h = h
touch_prints (Put x a bs) s l h = h
touch_prints (Bury x) s l h = h
touch_prints (Show x) s l h = h
touch_prints (Find a) s l h = h
touch_prints (Settle id x c) s l h = h
touch_prints Take s l h = h

-- a store within limits
pub record Within (created output : ℕ) (s : Store) : Type 0 where
  pub created_at_most : s.created ≤ created
  pub output_at_most : total s.output ≤ output

module _ {V : Type 0} (map : List Row) where
  pub script_grows : (sc : Script V) (s : Store) (e : ActEnd V) (is : List Item) (s1 : Store) (c o : ℕ) → c < 2 ^ 62 → run map sc s ≡ acted e is s1
      → Within c o s1 → Within c o s
  script_grows (Give v) s (gives x) is s1 c o b h w = (let e : s1 ≡ s = cc in subst (Within c o) e w)
  script_grows (Give v) s (finishes n) is s1 c o b h w = absurd (cc)
  script_grows (Raise d) s (gives v) is s1 c o b h w = absurd (cc)
  script_grows (Raise d) s (finishes n) is s1 c o b h w = absurd (cc)
  script_grows (Finish n) s (finishes m) is s1 c o b h w = (let e : s1 ≡ s = cc in subst (Within c o) e w)
  script_grows (Finish n) s (gives x) is s1 c o b h w = absurd (cc)
  script_grows (Exceed d n) s (gives v) is s1 c o b h w = absurd (cc)
  script_grows (Exceed d n) s (finishes m) is s1 c o b h w = absurd (cc)
  script_grows Misplace s (gives v) is s1 c o b h w = absurd (cc)
  script_grows Misplace s (finishes n) is s1 c o b h w = absurd (cc)
  script_grows (Do t k) s e is s1 c o b h w =
      let st = stepped (refuses t s) t (item_of t) (run map (k (answer map t s)) (left t s)) e is s1 h in
      let r = script_grows (k (answer map t s)) (left t s) e st.rest s1 c o b st.done w in
      record { created_at_most = touch_grows t s c b r.created_at_most; output_at_most = touch_prints t s o r.output_at_most }

at_most : (a b : ℕ) → a ≤ b → nat_lt b a ≡ false
at_most a b h = grind (arith, nat_tests, h)

module _ (world : World) (small : world.limits.created < 2 ^ 62) where
  abbrev pub Fits : Store → Type 0
  Fits s = Within world.limits.created world.limits.output s

  -- the objects of a block that was entered within the limit count as much
  bears_within : (f : Scene) (turn k : ℕ) (ds : List Decl) (rest : Script Value) (s : Store) (e : ActEnd Value) (is : List Item) (s1 : Store)
      → run world.rows (bear_all world f turn k ds rest) s ≡ acted e is s1 → Fits s1 → created_after s.created ds ≤ world.limits.created
  bears_within f turn k [] rest s e is s1 h w = (script_grows world.rows rest s e is s1 world.limits.created world.limits.output small h w).created_at_most
  bears_within f turn k (d ∷ ds) rest s e is s1 h w =
      go (has_place (row_of world.rows (auto_name world f turn k)) d.size d.align) h (λ js u r. bears_within f turn (suc k) ds rest u e js s1 r w)
    where
      x : ObjName
      x = auto_name world f turn k

      t : Touch
      t = Bear x d.size (object_kind d.constant) d.form

      go : (b : Bool) → run world.rows ((if b then touch t >> Give (base_in (row_of world.rows x)) else Misplace) >> bear_all world f turn (suc k) ds rest)
          s ≡ acted e is s1
          → ((js : List Item) (u : Store) → run world.rows (bear_all world f turn (suc k) ds rest) u ≡ acted e js s1
          → created_after u.created ds ≤ world.limits.created)
          → created_after (min (s.created + max d.size 16) (2 ^ 62)) ds ≤ world.limits.created
      go false h later = absurd (not_placed e is s1 h)
      go true h later = (let st = stepped (refuses t s) t (item_of t) (run world.rows (bear_all world f turn (suc k) ds rest) (left t s)) e is s1 h in later
          st.rest (left t s) st.done)

  none_many : (n : ℕ) → n ≤ world.limits.created → too_many world.limits n ≡ None
  none_many n h = go (nat_lt world.limits.created n) (at_most n world.limits.created h)
    where
      go : (b : Bool) → b ≡ false → if◌then◌else◌ {A = Option (Cause × ℕ)} b (Some (Created, n)) None ≡ None
      go false e = refl
      go true e = absurd (cc)

  block_within : (f : Local) (t : Todo) (s : Store) (e : ActEnd Value) (is : List Item) (s1 : Store)
      → run world.rows (control_act world f t) s ≡ acted e is s1 → Fits s1
      → block_passes world.limits s t ≡ None
  block_within f (Enter b ds ∷ rest) s e is s1 h w =
      none_many (created_after s.created ds) (bears_within f.scene (suc f.scene.turn) 0 ds (pass_all world f.scene (suc f.scene.turn) 0 ds f.arguments) s e
      is s1 h w)
  block_within f [] s e is s1 h w = refl
  block_within f (_ ∷ rest) s e is s1 h w = refl

  enter_in : (f : Local) (o : Option Begun) (p : Pick) (s : Store) (e : ActEnd Value) (is : List Item) (s1 : Store)
      → run world.rows (does world f o p) s ≡ acted e is s1 → Fits s1
      → p ≡ Control → (if is_some o then None else block_passes world.limits s (ready_work f.todo)) ≡ None
  enter_in f (Some b) p s e is s1 h w c = refl
  enter_in f None Control s e is s1 h w c = block_within f (ready_work f.todo) s e is s1 h w
  enter_in f None (Ev u) s e is s1 h w c = absurd (cc)

  -- what is done within the limits passes none before
  pub enters_within : (st : State) (p : Pick) (e : ActEnd Value) (is : List Item) (s1 : Store)
      → run world.rows (does world st.top st.top.begun p) st.store ≡ acted e is s1 → Fits s1
      → enter_passes world.limits st p ≡ None
  enters_within st (Ev u) e is s1 h w = refl
  enters_within st Control e is s1 h w = enter_in st.top st.top.begun Control st.store e is s1 h w refl

  -- nor behind
  pub none_passed : (depth : ℕ) (s : Store) → depth ≤ world.limits.depth → Fits s → limit_passed world.limits depth s ≡ None
  none_passed depth s d w =
      go (nat_lt world.limits.depth depth) (nat_lt world.limits.created s.created) (nat_lt world.limits.output (total s.output))
      (at_most depth world.limits.depth d)
      (at_most s.created world.limits.created w.created_at_most) (at_most (total s.output) world.limits.output w.output_at_most)
    where
      go : (a b c : Bool) → a ≡ false → b ≡ false → c ≡ false
          → if◌then◌else◌ {A = Option (Cause × ℕ)} a (Some (Depth, depth)) (if◌then◌else◌ {A = Option (Cause × ℕ)} b (Some (Created, s.created))
          (if◌then◌else◌ {A = Option (Cause × ℕ)} c (Some (Output, total s.output)) None)) ≡ None
      go false false false x y z = refl
      go true b c x y z = absurd (cc)
      go false true c x y z = absurd (cc)
      go false false true x y z = absurd (cc)
