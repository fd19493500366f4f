-- Lemmas on the lives of objects where items take effect.
use Rattle.std.proofs.Common.{◌≡◌, ℕ, zero, suc, ◌+◌, ◌<◌, Bool, true, false, ◌||◌, drop, List, [], ◌∷◌, length, refl, ap, sym, ◌∙◌, arith, Ok, Err}
use Rattle.std.specs.Prelude.{slice_index_or, Result, OnErr}
use Rattle.ub_base.specs.declared.names.Item.{Item}
use Rattle.ub_base.specs.declared.names.Item.TheVariants.{Expose}
use Rattle.ub_base.specs.declared.names.ObjName.{ObjName}
use Rattle.exposure.specs.declared.prov.Prov.TheVariants.{Whole}
use Rattle.mem_spec.specs.Store.{Store, shown}
use Rattle.mem_spec.specs.Script.{Done, run}
use Rattle.mem_spec.specs.Acts.{expose}
use Rattle.mem_objects.specs.Keeps.{Keeps}
use Rattle.prov_memory.proofs.KeepLemmas.{keeps_then}
use Rattle.mem_spec.specs.Streams.{Io, silent}
use Rattle.mem_objects.specs.Memory.{Kept, store_of}
use Rattle.mem_objects.specs.Tags.{AreTagged}
use Rattle.libc_arguments.specs.Parts.{IsSettled}
use Rattle.libc_arguments.specs.Writes.{LiveOn, has_expose, is_expose}
use Rattle.libc_arguments.proofs.Settling.{SettlesRest, settles_on}

done_store : {V : Type 0} (v w : V) (is js : List Item) (s u : Store) → Done v is s ≡ Done w js u → s ≡ u
done_store v w is js s u e = cc

abbrev pub no_streams : Io
no_streams = record { input = []; position = 0; output = silent }

-- an object is exposed
pub expose_lives : (m new : Kept) (x : ObjName) (is : List Item) →
    ((io : Io) → run new.rows (expose (Whole x)) (store_of m io) ≡ Done tt is (store_of new io)) → LiveOn m new
expose_lives m new x is e y = ap (λ (s : Store). s.life y)
    (sym (done_store tt tt (Expose x ∷ []) is (shown (store_of m no_streams) x) (store_of new no_streams) (e no_streams)))

-- the rest of the items leads to where all lead, and each object lives as before
pub record SettlesAlive (old now : Kept) (all rest : List Item) : Type 0 where
  pub settles : SettlesRest old now all rest
  pub lives : LiveOn old now
  pub tagged : has_expose all ≡ false → AreTagged old → AreTagged now
  pub keeps : Keeps old now

or_false_left : (a b : Bool) → a || b ≡ false → a ≡ false
or_false_left true b h = absurd (cc)
or_false_left false b h = refl

or_false_right : (a b : Bool) → a || b ≡ false → b ≡ false
or_false_right true b h = absurd (cc)
or_false_right false b h = h

exposes_none : (is : List Item) (k : ℕ) (d : Item) → k < length is → has_expose is ≡ false → is_expose (slice_index_or is k d) ≡ false
exposes_none [] k d h none = absurd (omega (arith, h))
exposes_none (i ∷ is) zero d h none = or_false_left (is_expose i) (has_expose is) none
exposes_none (i ∷ is) (suc k) d h none = exposes_none is k d (omega (arith, h)) (or_false_right (is_expose i) (has_expose is) none)

pub alive_on : (old now new : Kept) (all : List Item) (k : ℕ) (d : Item) → k < length all → SettlesAlive old now all (drop k all) →
    IsSettled now new (slice_index_or all k d) → LiveOn now new →
    (is_expose (slice_index_or all k d) ≡ false → AreTagged now → AreTagged new) → Keeps now new → SettlesAlive old new all (drop (k + 1) all)
alive_on old now new all k d h r one lives tagged keeps = record {
  settles = settles_on old now new all k d h r.settles one;
  lives = λ x. lives x ∙ r.lives x;
  tagged = λ none t. tagged (exposes_none all k d h none) (r.tagged none t);
  keeps = keeps_then old now new r.keeps keeps;
}

-- what is kept by one call and then by another, where the second fails
pub failed_after : {V E : Type 0} (r : Result V E) (a b c : Kept) → Keeps a b → Keeps b c → OnErr r (Keeps a c)
failed_after (Ok v) a b c h g = tt
failed_after (Err e) a b c h g = keeps_then a b c h g
