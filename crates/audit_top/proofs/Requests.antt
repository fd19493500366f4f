-- What words ask for is one request.
use Rattle.std.proofs.Common.{
  ◌≡◌,
  ℕ,
  ◌≤◌,
  ◌<◌,
  max,
  min,
  List,
  map,
  string_bytes,
  codes,
  get_or,
  Option,
  Some,
  None,
  Result,
  Ok,
  Err,
  IfOk,
  refl,
  ap,
  sym,
  subst,
  ◌∙◌,
  arith,
  option_copied,
}
use Rattle.std.specs.Str.Parse.{ParsesUnsigned}
use Rattle.std.specs.Result.{result_unwrap_or}
use Rattle.clap.specs.Walk.{Row, one_of}
use Rattle.command.specs.Asked.{IsAudit, IsCheck, IsRequest, IsSelf, Spells, named}
use Rattle.command.specs.declared.request.AuditRequest.{AuditRequest}
use Rattle.command.specs.declared.request.CheckRequest.{CheckRequest}
use Rattle.command.specs.declared.request.SelfRequest.{SelfRequest}
use Rattle.command.specs.declared.request.Request.{Request}
use Rattle.command.specs.declared.request.Request.TheVariants.{Audit, Check, SelfAudit}
use Rattle.audit_top.specs.Words.{Asks, IsBounded, TakesWords}

-- a spelled number keeps its bounds
spells_within : (least most : ℕ) (text : Option (List ℕ)) (number : ℕ) → least ≤ most → Spells least most text number → (least ≤ number) × (number ≤ most)
spells_within least most None number below is = (omega arith, omega arith)
spells_within least most (Some text) number below h = let is = h.2 in (omega arith, omega arith)

bounded : (found : List ℕ × List Row) (request : Request) → IsRequest found request → IsBounded request
bounded found (Audit request) is = spells_within 1 100000000 (one_of (codes "steps") found.1) request.steps (omega arith) is.1.steps
bounded found (Check request) is = tt
bounded found (SelfAudit request) is =
    let seed = spells_within 0 65536 (one_of (codes "SEED") found.1) request.seed (omega arith) is.1.seed in
    let lines = spells_within 1 20000 (one_of (codes "N") found.1) request.lines (omega arith) is.1.lines in
    (seed.1, lines.0, lines.1)

-- what is read of the words keeps its bounds
pub read_bounded : {E : Type 0} (found : List ℕ × List Row) (read : Result Request E) → IfOk read (IsRequest found) → IfOk read IsBounded
read_bounded found (Ok request) is = bounded found request is
read_bounded found (Err e) is = is

-- words that ask for something are taken
pub asks_taken : (words : List (List ℕ)) (request : Request) → Asks words request → TakesWords words
unfolding Asks
asks_taken words request asks = asks.0

-- two readings of a number are equal
one_reading : (text : List ℕ) (a b : Result ℕ (Unit {0})) → ParsesUnsigned 64 10 text a → ParsesUnsigned 64 10 text b →
    result_unwrap_or a 0 ≡ result_unwrap_or b 0
one_reading text (Ok a) (Ok b) p q = p.1 ∙ sym q.1
one_reading text (Ok a) (Err e) p q = absurd (q p.0)
one_reading text (Err e) (Ok b) p q = absurd (p q.0)
one_reading text (Err d) (Err e) p q = refl

spells_one : (least most : ℕ) (text : Option (List ℕ)) (a b : ℕ) → Spells least most text a → Spells least most text b → a ≡ b
spells_one least most None a b p q = p ∙ sym q
spells_one least most (Some text) a b p q = p.2 ∙ (ap (λ n. max (min n most) least) (one_reading text p.0 q.0 p.1 q.1) ∙ sym q.2)

-- two requests for an audit agree
pub record SameAudit (a b : AuditRequest) : Type 0 where
  pub file : a.file.now ≡ b.file.now
  pub input : option_copied a.input ≡ option_copied b.input
  pub steps : a.steps ≡ b.steps
  pub cert : option_copied a.cert ≡ option_copied b.cert

same_audit : (rows : List Row) (a b : AuditRequest) → IsAudit rows a → IsAudit rows b → SameAudit a b
same_audit rows a b p q = record {
  file = p.file ∙ sym q.file;
  input = p.input ∙ sym q.input;
  steps = spells_one 1 100000000 (one_of (codes "steps") rows) a.steps b.steps p.steps q.steps;
  cert = p.cert ∙ sym q.cert;
}

-- and two requests for a check
pub record SameCheck (a b : CheckRequest) : Type 0 where
  pub file : a.file.now ≡ b.file.now
  pub cert : a.cert.now ≡ b.cert.now
  pub input : option_copied a.input ≡ option_copied b.input

same_check : (rows : List Row) (a b : CheckRequest) → IsCheck rows a → IsCheck rows b → SameCheck a b
same_check rows a b p q = record { file = p.file ∙ sym q.file; cert = p.cert ∙ sym q.cert; input = p.input ∙ sym q.input }

-- names that begin with different letters differ
differs : (a b : List ℕ) → (get_or a 0 0 ≡ get_or b 0 0 → ⊥) → a ≡ b → ⊥
differs a b apart same = apart (ap (λ (l : List ℕ). get_or l 0 0) same)

apart : (m n : ℕ) → m < n → m ≡ n → ⊥
apart m n below same = absurd (omega arith)

audit_is_not_check : codes "audit" ≡ codes "check" → ⊥
audit_is_not_check = differs _ _ (apart 97 99 (omega arith))

audit_is_not_self : codes "audit" ≡ codes "self" → ⊥
audit_is_not_self = differs _ _ (apart 97 115 (omega arith))

check_is_not_self : codes "check" ≡ codes "self" → ⊥
check_is_not_self = differs _ _ (apart 99 115 (omega arith))

audit_in : (found : List ℕ × List Row) (a : AuditRequest) (r : Request) → IsRequest found (Audit a) → IsRequest found r
    → (b : AuditRequest) × (r ≡ Audit b) × SameAudit a b
audit_in found a (Audit b) p q = (b, refl, same_audit found.1 a b p.1 q.1)
audit_in found a (Check b) p q = absurd (audit_is_not_check (sym p.0 ∙ q.0))
audit_in found a (SelfAudit b) p q = absurd (audit_is_not_self (sym p.0 ∙ q.0))

check_in : (found : List ℕ × List Row) (a : CheckRequest) (r : Request) → IsRequest found (Check a) → IsRequest found r
    → (b : CheckRequest) × (r ≡ Check b) × SameCheck a b
check_in found a (Audit b) p q = absurd (audit_is_not_check (sym q.0 ∙ p.0))
check_in found a (Check b) p q = (b, refl, same_check found.1 a b p.1 q.1)
check_in found a (SelfAudit b) p q = absurd (check_is_not_self (sym p.0 ∙ q.0))

pub one_audit : (words : List (List ℕ)) (a : AuditRequest) (r : Request) → Asks words (Audit a) → Asks words r
    → (b : AuditRequest) × (r ≡ Audit b) × SameAudit a b
unfolding Asks
one_audit words a r p q = audit_in (named words) a r p.1 q.1

pub one_check : (words : List (List ℕ)) (a : CheckRequest) (r : Request) → Asks words (Check a) → Asks words r
    → (b : CheckRequest) × (r ≡ Check b) × SameCheck a b
unfolding Asks
one_check words a r p q = check_in (named words) a r p.1 q.1
