-- What is told of files decides what is fetched.
use Rattle.std.proofs.Common.{
  ◌≡◌,
  ◌⊎◌,
  ℕ,
  ◌<◌,
  ◌≤◌,
  List,
  [],
  ◌∷◌,
  length,
  Bool,
  true,
  false,
  Option,
  Some,
  None,
  inl,
  inr,
  refl,
  sym,
  ap,
  ◌∙◌,
  le-leb,
  if◌then◌else◌,
}
use Rattle.std.proofs.lemmas.Bool.{lt-leb}
use Rattle.std.specs.Prelude.{nat_le}
use Rattle.ub_base.specs.Causes.{Rose}
use Rattle.ub_base.specs.Held.{Held, bytes_under, fetched}
use Rattle.ub_base.specs.declared.files.Fetched.{Fetched}
use Rattle.ub_base.specs.declared.files.Fetched.TheVariants.{Whole, TooLong, Absent}
use Rattle.audit_sources.specs.Role.{most}
use Rattle.audit_sources.specs.Fetching.{
  AreHeld,
  Fails,
  FailsFirst,
  HasInput,
  IsUnread,
  IsWhole,
  Misses,
  Stops,
  certificate_wanted,
  check_wanted,
  input_wanted,
  wanted,
}
use Rattle.audit_sources.specs.declared.fetch.FetchFault.{FetchFault}
use Rattle.audit_sources.specs.declared.fetch.FetchFault.TheVariants as Fault
use Rattle.audit_sources.specs.declared.role.Role.{Role}
use Rattle.audit_sources.specs.declared.role.Role.TheVariants.{Source, Certificate, Input}

whole_by : (fits : Bool) (text got : List ℕ) → Whole got ≡ (if fits then Whole text else TooLong) → got ≡ text
whole_by true text got e = cc
whole_by false text got e = cc

-- what is fetched of a held file
of_held : (files : Held) (file : Role × List ℕ) (text : Option (List ℕ)) (got : Fetched) → bytes_under files file.1 ≡ text
    → got ≡ fetched (bytes_under files file.1) (most file.0) → got ≡ fetched text (most file.0)
of_held files file text got there is = is ∙ ap (λ o. fetched o (most file.0)) there

pub whole_is : (files : Held) (file : Role × List ℕ) (text got : List ℕ) → bytes_under files file.1 ≡ Some text → IsWhole (Some files) file got → got ≡ text
whole_is files file text got there whole = whole_by (nat_le (length text) (most file.0)) text got (of_held files file (Some text) (Whole got) there whole)

is_whole : (text : List ℕ) (limit : ℕ) → length text ≤ limit → fetched (Some text) limit ≡ Whole text
is_whole text limit within = let fits : nat_le (length text) limit ≡ true = le-leb _ _ within in rw fits refl

is_too_long : (text : List ℕ) (limit : ℕ) → limit < length text → fetched (Some text) limit ≡ TooLong
is_too_long text limit beyond = let fits : nat_le (length text) limit ≡ false = lt-leb _ _ beyond in rw fits refl

too_long_is_not_whole : (text : List ℕ) → TooLong ≡ Whole text → ⊥
too_long_is_not_whole text e = cc

absent_is_not_too_long : TooLong ≡ Absent → ⊥
absent_is_not_too_long e = cc

absent_is_not_whole : (text : List ℕ) → Whole text ≡ Absent → ⊥
absent_is_not_whole text e = cc

none_is_not_some : (text : List ℕ) (o : Option (List ℕ)) → o ≡ None → o ≡ Some text → ⊥
none_is_not_some text o none some = cc

same_files : (a b : Held) → Some a ≡ Some b → a ≡ b
same_files a b e = cc

-- a held file isn't unread where no read failed
not_unread : (files : Held) (name text : List ℕ) (before now : ℕ) → bytes_under files name ≡ Some text → (Rose before now → ⊥)
    → IsUnread (Some files) name before now → ⊥
not_unread files name text before now there calm (inr rose) = calm rose
not_unread files name text before now there calm (inl lacks) =
    let same : files ≡ lacks.0 = same_files files lacks.0 lacks.1 in
    none_is_not_some text (bytes_under files name) (ap (λ fs. bytes_under fs name) same ∙ lacks.2) there

not_missed : (files : Held) (before now : ℕ) (file : Role × List ℕ) (text : List ℕ) (fault : FetchFault) → bytes_under files file.1 ≡ Some text
    → length text ≤ most file.0 → (Rose before now → ⊥) → Misses (Some files) before now file fault → fault ≡ Fault.NoMemory
not_missed files before now file text Fault.ReadFault there within calm misses = absurd (not_unread files file.1 text before now there calm misses)
not_missed files before now file text (Fault.TooLong role) there within calm misses =
    absurd (too_long_is_not_whole text (of_held files file (Some text) TooLong there misses.1 ∙ is_whole text (most file.0) within))
not_missed files before now file text Fault.NoMemory there within calm misses = refl

-- files that are held within their limits stop for want of memory alone
pub not_stopped : (files : Held) (before now : ℕ) (wanted : List (Role × List ℕ)) (fault : FetchFault) → AreHeld files wanted → (Rose before now → ⊥)
    → Stops (Some files) before now wanted fault → fault ≡ Fault.NoMemory
not_stopped files before now [] fault held calm stops = absurd stops
not_stopped files before now (file ∷ rest) fault held calm (inl misses) =
    not_missed files before now file held.0.0 fault held.0.1 held.0.2 calm misses
not_stopped files before now (file ∷ rest) fault held calm (inr r) = not_stopped files before now rest fault held.1 calm r.2

absent_whole : (files : Held) (file : Role × List ℕ) (got : List ℕ) → bytes_under files file.1 ≡ None → IsWhole (Some files) file got → ⊥
absent_whole files file got none whole = absent_is_not_whole got (of_held files file None (Whole got) none whole)

too_long_whole : (files : Held) (file : Role × List ℕ) (text got : List ℕ) → bytes_under files file.1 ≡ Some text → most file.0 < length text
    → IsWhole (Some files) file got → ⊥
too_long_whole files file text got there beyond whole =
    too_long_is_not_whole got (sym (of_held files file (Some text) (Whole got) there whole ∙ is_too_long text (most file.0) beyond))

absent_misses : (files : Held) (before now : ℕ) (file : Role × List ℕ) (fault : FetchFault) → bytes_under files file.1 ≡ None
    → Misses (Some files) before now file fault → (fault ≡ Fault.NoMemory) ⊎ (fault ≡ Fault.ReadFault)
absent_misses files before now file Fault.ReadFault none misses = inr refl
absent_misses files before now file (Fault.TooLong role) none misses = absurd (absent_is_not_too_long (of_held files file None TooLong none misses.1))
absent_misses files before now file Fault.NoMemory none misses = inl refl

too_long_misses : (files : Held) (before now : ℕ) (file : Role × List ℕ) (text : List ℕ) (fault : FetchFault) → bytes_under files file.1 ≡ Some text
    → (Rose before now → ⊥) → Misses (Some files) before now file fault → (fault ≡ Fault.NoMemory) ⊎ (fault ≡ Fault.TooLong file.0)
too_long_misses files before now file text Fault.ReadFault there calm misses = absurd (not_unread files file.1 text before now there calm misses)
too_long_misses files before now file text (Fault.TooLong role) there calm misses = inr (ap (λ r. Fault.TooLong r) misses.0)
too_long_misses files before now file text Fault.NoMemory there calm misses = inl refl

as_role : (file : Role × List ℕ) (role : Role) (got : FetchFault) → role ≡ file.0 → (got ≡ Fault.NoMemory) ⊎ (got ≡ Fault.TooLong file.0)
    → (got ≡ Fault.NoMemory) ⊎ (got ≡ Fault.TooLong role)
as_role file role got same (inl memory) = inl memory
as_role file role got same (inr is) = inr (is ∙ ap (λ r. Fault.TooLong r) (sym same))

-- a file that fails isn't fetched, and is missed for that
fails_whole : (files : Held) (file : Role × List ℕ) (fault : FetchFault) (got : List ℕ) → Fails files file fault → IsWhole (Some files) file got → ⊥
fails_whole files file Fault.ReadFault got fails whole = absent_whole files file got fails whole
fails_whole files file (Fault.TooLong role) got fails whole = too_long_whole files file fails.1 got fails.2 fails.3 whole
fails_whole files file Fault.NoMemory got fails whole = fails

fails_misses : (files : Held) (before now : ℕ) (file : Role × List ℕ) (fault got : FetchFault) → Fails files file fault → (Rose before now → ⊥)
    → Misses (Some files) before now file got → (got ≡ Fault.NoMemory) ⊎ (got ≡ fault)
fails_misses files before now file Fault.ReadFault got fails calm misses = absent_misses files before now file got fails misses
fails_misses files before now file (Fault.TooLong role) got fails calm misses =
    as_role file role got fails.0 (too_long_misses files before now file fails.1 got fails.2 calm misses)
fails_misses files before now file Fault.NoMemory got fails calm misses = absurd fails

-- the first file that fails stops them
pub fails_stops : (files : Held) (before now : ℕ) (wanted : List (Role × List ℕ)) (fault got : FetchFault) → FailsFirst files wanted fault
    → (Rose before now → ⊥) → Stops (Some files) before now wanted got → (got ≡ Fault.NoMemory) ⊎ (got ≡ fault)
fails_stops files before now [] fault got fails calm stops = absurd fails
fails_stops files before now (file ∷ rest) fault got (inl fails) calm (inl misses) = fails_misses files before now file fault got fails calm misses
fails_stops files before now (file ∷ rest) fault got (inl fails) calm (inr r) = absurd (fails_whole files file fault r.0 fails r.1)
fails_stops files before now (file ∷ rest) fault got (inr held) calm (inl misses) =
    inl (not_missed files before now file held.0.0 got held.0.1 held.0.2 calm misses)
fails_stops files before now (file ∷ rest) fault got (inr held) calm (inr r) = fails_stops files before now rest fault got held.1 calm r.2

-- where one fails, not all are fetched
input_fails : (files : Held) (input : Option (List ℕ)) (fault : FetchFault) (bytes : List ℕ) → FailsFirst files (input_wanted input) fault
    → HasInput (Some files) input bytes → ⊥
input_fails files None fault bytes fails has = fails
input_fails files (Some name) fault bytes (inl fails) has = fails_whole files (Input, name) fault bytes fails has
input_fails files (Some name) fault bytes (inr none) has = none.1

pub audit_fails : (files : Held) (source : List ℕ) (input : Option (List ℕ)) (fault : FetchFault) (text bytes : List ℕ)
    → FailsFirst files (wanted source input) fault → IsWhole (Some files) (Source, source) text → HasInput (Some files) input bytes → ⊥
audit_fails files source input fault text bytes (inl fails) whole has = fails_whole files (Source, source) fault text fails whole
audit_fails files source input fault text bytes (inr behind) whole has = input_fails files input fault bytes behind.1 has

certificate_fails : (files : Held) (certificate : List ℕ) (input : Option (List ℕ)) (fault : FetchFault) (given bytes : List ℕ)
    → FailsFirst files (certificate_wanted certificate input) fault → IsWhole (Some files) (Certificate, certificate) given
    → HasInput (Some files) input bytes → ⊥
certificate_fails files certificate input fault given bytes (inl fails) whole has = fails_whole files (Certificate, certificate) fault given fails whole
certificate_fails files certificate input fault given bytes (inr behind) whole has = input_fails files input fault bytes behind.1 has

pub check_fails : (files : Held) (source certificate : List ℕ) (input : Option (List ℕ)) (fault : FetchFault) (text given bytes : List ℕ)
    → FailsFirst files (check_wanted source certificate input) fault → IsWhole (Some files) (Source, source) text
    → IsWhole (Some files) (Certificate, certificate) given → HasInput (Some files) input bytes → ⊥
check_fails files source certificate input fault text given bytes (inl fails) whole keeps has = fails_whole files (Source, source) fault text fails whole
check_fails files source certificate input fault text given bytes (inr behind) whole keeps has =
    certificate_fails files certificate input fault given bytes behind.1 keeps has
