-- What a told file without faults is answered.
use Rattle.std.proofs.Common.{
  ◌≡◌,
  ◌⊎◌,
  ℕ,
  ◌<◌,
  ◌≤◌,
  List,
  length,
  Option,
  Some,
  None,
  Result,
  Ok,
  Err,
  arith,
  refl,
  ap,
  sym,
  subst,
  ◌∙◌,
  inl,
  inr,
  option_copied,
}
use Rattle.ub_base.specs.Causes.{Rose}
use Rattle.ub_base.specs.Held.{Held, bytes_under}
use Rattle.ub_base.specs.Sink.{Gains}
use Rattle.first_form.proofs.ReadTokens.{lexes_unique}
use Rattle.first_form.proofs.Sentences.{unit_unique}
use Rattle.first_form.specs.Grammar.{Spells}
use Rattle.first_form.specs.declared.tree.ReturnUnit.{ReturnUnit}
use Rattle.first_form.specs.Form.{IsFirstForm}
use Rattle.audit_sources.proofs.Told.{audit_fails, check_fails, fails_stops, not_stopped, whole_is}
use Rattle.audit_sources.specs.Fetching.{AreHeld, FailsFirst, HasInput, IsWhole, Stops, check_wanted, wanted}
use Rattle.audit_sources.specs.declared.fetch.FetchFault.{FetchFault}
use Rattle.audit_sources.specs.declared.fetch.FetchFault.TheVariants as Fault
use Rattle.audit_sources.specs.declared.role.Role.{Role}
use Rattle.audit_sources.specs.declared.role.Role.TheVariants.{Source, Certificate}
use Rattle.command.specs.declared.request.AuditRequest.{AuditRequest}
use Rattle.command.specs.declared.request.CheckRequest.{CheckRequest}
use Rattle.command.specs.declared.request.Request.{Request}
use Rattle.command.specs.declared.request.Request.TheVariants.{Audit, Check, SelfAudit}
use Rattle.c_ast.specs.Nest.{nest_of}
use Rattle.c_grammar.specs.Grammar.{SpellsUnit}
use Rattle.c_lex.specs.TokenText.{TokenText}
use Rattle.c_lex.specs.Tokens.{lexed}
use Rattle.c_lex.specs.declared.token.Token.{Token}
use Rattle.c_lex.specs.declared.token.LexFault.{LexFault}
use Rattle.audit_verdict.specs.Answer.{HasNoForm, HasNoTree, HasTokens, HasTree, HasVerdict, Refuses, RefusesEarly, verdict}
use Rattle.audit_verdict.specs.Cause.{AuditCause, Disk, IsJudged, IsStopped, Leaves, TextCause, UsesForm, stopped}
use Rattle.audit_verdict.specs.Report.{Ends, EndsWith, report, status}
use Rattle.audit_verdict.specs.declared.answer.Answer.{Answer}
use Rattle.audit_verdict.specs.declared.answer.Answer.TheVariants.{
  Clean,
  Undefined,
  Found,
  Generated,
  GeneratedRefused,
  Checked,
  Bad,
  Usage,
  TooLong,
  Refused,
  CertificateTooLong,
  NotKept,
  ReadFault,
  NoMemory,
}
use Rattle.audit_verdict.specs.declared.answer.Refusal.{Refusal}
use Rattle.audit_verdict.specs.declared.answer.Refusal.TheVariants.{Stray, OpenLiteral, BadNumber, TooDeep, TooHigh, Syntax, NotTyped}
use Rattle.audit_top.specs.Cause.{CertificateCause, CheckCause, HasCause, IsWeighed, RequestCause, StopsCheck, WordsCause}
use Rattle.audit_top.specs.Told.{IsAsked, IsCheckAsked, IsCheckGiven, IsGiven}
use Rattle.audit_top.specs.Words.{Asks, TakesWords}
use Rattle.audit_top.proofs.Requests.{SameAudit, SameCheck, asks_taken, one_audit, one_check}

-- this holds, unless memory ran out
abbrev pub Only : Answer → Type 0 → Type 0
Only answer P = (answer ≡ NoMemory) ⊎ P

-- this is the answer, unless memory ran out
abbrev pub IsOnly : Answer → Answer → Type 0
IsOnly answer wanted = Only answer (answer ≡ wanted)

-- a text has one tree
form_unique : (text : List ℕ) (u v : ReturnUnit) → IsFirstForm text u → IsFirstForm text v → u ≡ v
form_unique text u v a b =
    let same = lexes_unique text a.0 b.0 a.1 b.1 in
    unit_unique text b.0 u v (subst (λ tokens. Spells text tokens u) same a.2) b.2

same_list : (a b : List Token) → ◌≡◌ {A = Result (List Token) LexFault} (Ok a) (Ok b) → a ≡ b
same_list a b e = cc

not_both : (fault : LexFault) (list : List Token) → ◌≡◌ {A = Result (List Token) LexFault} (Err fault) (Ok list) → ⊥
not_both fault list e = cc

-- tokens that refuse a text aren't those of a text that is read on
not_read_on : (tokens : Result (List Token) LexFault) (s : Refusal) → HasTokens tokens → RefusesEarly tokens s → ⊥
not_read_on tokens (Stray b) p q = not_both _ p.0 (sym q ∙ p.1)
not_read_on tokens (OpenLiteral b) p q = not_both _ p.0 (sym q ∙ p.1)
not_read_on tokens (BadNumber b) p q = not_both _ p.0 (sym q ∙ p.1)
not_read_on tokens (TooDeep b) p q =
    let same = ap nest_of (same_list p.0 q.0 (sym p.1 ∙ q.1)) in let count = q.2 in let deep = q.3 in let flat = p.2 in absurd (omega arith)
not_read_on tokens (TooHigh b) p q = q
not_read_on tokens (Syntax t l) p q = q
not_read_on tokens (NotTyped l) p q = q

-- a text that has a tree, or none, has tokens
tree_tokens : (text : List ℕ) → HasTree text → HasTokens (lexed text)
tree_tokens text tree = (tree.0.list, tree.1.1, tree.1.2)

no_tree_tokens : (text : List ℕ) → HasNoTree text → HasTokens (lexed text)
no_tree_tokens text none = (none.0.list, none.1.1, none.1.2)

-- a text is refused early for one reason
early_unique : (text : List ℕ) (r s : Refusal) → Refuses text r → RefusesEarly (lexed text) s → r ≡ s
early_unique text (Stray a) (Stray b) p q = let e = sym p ∙ q in cc
early_unique text (Stray a) (OpenLiteral b) p q = let e = sym p ∙ q in absurd (cc)
early_unique text (Stray a) (BadNumber b) p q = let e = sym p ∙ q in absurd (cc)
early_unique text (Stray a) (TooDeep b) p q = absurd (not_both _ q.0 (sym p ∙ q.1))
early_unique text (Stray a) (TooHigh b) p q = absurd q
early_unique text (Stray a) (Syntax u m) p q = absurd q
early_unique text (Stray a) (NotTyped m) p q = absurd q
early_unique text (OpenLiteral a) (Stray b) p q = let e = sym p ∙ q in absurd (cc)
early_unique text (OpenLiteral a) (OpenLiteral b) p q = let e = sym p ∙ q in cc
early_unique text (OpenLiteral a) (BadNumber b) p q = let e = sym p ∙ q in absurd (cc)
early_unique text (OpenLiteral a) (TooDeep b) p q = absurd (not_both _ q.0 (sym p ∙ q.1))
early_unique text (OpenLiteral a) (TooHigh b) p q = absurd q
early_unique text (OpenLiteral a) (Syntax u m) p q = absurd q
early_unique text (OpenLiteral a) (NotTyped m) p q = absurd q
early_unique text (BadNumber a) (Stray b) p q = let e = sym p ∙ q in absurd (cc)
early_unique text (BadNumber a) (OpenLiteral b) p q = let e = sym p ∙ q in absurd (cc)
early_unique text (BadNumber a) (BadNumber b) p q = let e = sym p ∙ q in cc
early_unique text (BadNumber a) (TooDeep b) p q = absurd (not_both _ q.0 (sym p ∙ q.1))
early_unique text (BadNumber a) (TooHigh b) p q = absurd q
early_unique text (BadNumber a) (Syntax u m) p q = absurd q
early_unique text (BadNumber a) (NotTyped m) p q = absurd q
early_unique text (TooDeep a) (Stray b) p q = absurd (not_both _ p.0 (sym q ∙ p.1))
early_unique text (TooDeep a) (OpenLiteral b) p q = absurd (not_both _ p.0 (sym q ∙ p.1))
early_unique text (TooDeep a) (BadNumber b) p q = absurd (not_both _ p.0 (sym q ∙ p.1))
early_unique text (TooDeep a) (TooDeep b) p q =
    let same = same_list p.0 q.0 (sym p.1 ∙ q.1) in ap TooDeep (p.2 ∙ ap nest_of same ∙ sym q.2)
early_unique text (TooDeep a) (TooHigh b) p q = absurd q
early_unique text (TooDeep a) (Syntax u m) p q = absurd q
early_unique text (TooDeep a) (NotTyped m) p q = absurd q
early_unique text (TooHigh a) s p q = absurd (not_read_on (lexed text) s (tree_tokens text p.typed.tree) q)
early_unique text (Syntax t l) s p q = absurd (not_read_on (lexed text) s (no_tree_tokens text p) q)
early_unique text (NotTyped l) s p q = absurd (not_read_on (lexed text) s (tree_tokens text p) q)

words_only : (words : List (List ℕ)) (answer : Answer) (P : Type 0) → TakesWords words → WordsCause words answer → Only answer P
words_only words (Clean s) P taken why = absurd why
words_only words (Undefined c l) P taken why = absurd why
words_only words (Found s b) P taken why = absurd why
words_only words (Generated m s b) P taken why = absurd why
words_only words (GeneratedRefused m r) P taken why = absurd why
words_only words (Checked v) P taken why = absurd why
words_only words (Bad b) P taken why = absurd why
words_only words Usage P taken why = absurd (why taken)
words_only words (TooLong role) P taken why = absurd why
words_only words (Refused r) P taken why = absurd why
words_only words CertificateTooLong P taken why = absurd why
words_only words NotKept P taken why = absurd why
words_only words ReadFault P taken why = absurd why
words_only words NoMemory P taken why = inl refl

-- memory ran out, a file stopped the audit, or its text was judged
abbrev Ways : Disk → Disk → AuditRequest → Answer → Type 0
Ways old new request answer =
    (answer ≡ NoMemory) ⊎ (((fault : FetchFault) × (answer ≡ stopped fault) × IsStopped old new request fault) ⊎ IsJudged old new request answer)

audit_stops : (old new : Disk) (request : AuditRequest) (answer : Answer) → AuditCause old new request answer → Ways old new request answer
audit_stops old new request (Clean s) cause = inr (inr cause)
audit_stops old new request (Undefined c l) cause = inr (inr cause)
audit_stops old new request (Found s b) cause = inr (inr cause)
audit_stops old new request (Generated m s b) cause = inr (inr cause)
audit_stops old new request (GeneratedRefused m r) cause = inr (inr cause)
audit_stops old new request (Checked v) cause = inr (inr cause)
audit_stops old new request (Bad b) cause = inr (inr cause)
audit_stops old new request Usage cause = inr (inr cause)
audit_stops old new request (TooLong role) cause = inr (inl (Fault.TooLong role, refl, cause))
audit_stops old new request (Refused r) cause = inr (inr cause)
audit_stops old new request CertificateTooLong cause = inr (inr cause)
audit_stops old new request NotKept cause = inr (inr cause)
audit_stops old new request ReadFault cause = inr (inl (Fault.ReadFault, refl, cause))
audit_stops old new request NoMemory cause = inl refl

-- the verdict is the only answer to a text of the first form that decides
text_verdict : (request : AuditRequest) (before now : ℕ) (text : List ℕ) (unit : ReturnUnit) (answer : Answer) → UsesForm request → IsFirstForm text unit
    → TextCause request before now text answer → IsOnly answer (verdict unit)
text_verdict request before now text unit (Clean s) uses form why = inr (why.1.is ∙ ap verdict (form_unique text why.1.unit unit why.1.form form))
text_verdict request before now text unit (Undefined c l) uses form why = inr (why.1.is ∙ ap verdict (form_unique text why.1.unit unit why.1.form form))
text_verdict request before now text unit (Found s b) uses form why = absurd (why.0.run uses unit form)
text_verdict request before now text unit (Generated m s b) uses form why = absurd why
text_verdict request before now text unit (GeneratedRefused m r) uses form why = absurd why
text_verdict request before now text unit (Checked v) uses form why = absurd why
text_verdict request before now text unit (Bad b) uses form why = absurd why
text_verdict request before now text unit Usage uses form why = absurd why
text_verdict request before now text unit (TooLong role) uses form why = absurd why
text_verdict request before now text unit (Refused r) uses form why = absurd (why.0 uses unit form)
text_verdict request before now text unit CertificateTooLong uses form why = absurd (why.run uses unit form)
text_verdict request before now text unit NotKept uses form why = absurd (why.0.run uses unit form)
text_verdict request before now text unit ReadFault uses form why = absurd why
text_verdict request before now text unit NoMemory uses form why = inl refl

-- its refusal is the only answer to a text that its tokens refuse
text_refused : (request : AuditRequest) (before now : ℕ) (text : List ℕ) (refusal : Refusal) (answer : Answer) → HasNoForm text
    → RefusesEarly (lexed text) refusal → TextCause request before now text answer → IsOnly answer (Refused refusal)
text_refused request before now text refusal (Clean s) none early why = absurd (none why.1.unit why.1.form)
text_refused request before now text refusal (Undefined c l) none early why = absurd (none why.1.unit why.1.form)
text_refused request before now text refusal (Found s b) none early why =
    absurd (not_read_on (lexed text) refusal (tree_tokens text why.0.runnable.typed.tree) early)
text_refused request before now text refusal (Generated m s b) none early why = absurd why
text_refused request before now text refusal (GeneratedRefused m r) none early why = absurd why
text_refused request before now text refusal (Checked v) none early why = absurd why
text_refused request before now text refusal (Bad b) none early why = absurd why
text_refused request before now text refusal Usage none early why = absurd why
text_refused request before now text refusal (TooLong role) none early why = absurd why
text_refused request before now text refusal (Refused r) none early why = inr (ap Refused (early_unique text r refusal why.1 early))
text_refused request before now text refusal CertificateTooLong none early why =
    absurd (not_read_on (lexed text) refusal (tree_tokens text why.runnable.typed.tree) early)
text_refused request before now text refusal NotKept none early why =
    absurd (not_read_on (lexed text) refusal (tree_tokens text why.0.runnable.typed.tree) early)
text_refused request before now text refusal ReadFault none early why = absurd why
text_refused request before now text refusal NoMemory none early why = inl refl

is_stopped : (answer wanted : Answer) (fault : FetchFault) → answer ≡ stopped fault → (fault ≡ Fault.NoMemory) ⊎
    (stopped fault ≡ wanted) → IsOnly answer wanted
is_stopped answer wanted fault is (inl memory) = inl (is ∙ ap stopped memory)
is_stopped answer wanted fault is (inr same) = inr (is ∙ same)

by_fault : (fault wanted : FetchFault) → (fault ≡ Fault.NoMemory) ⊎ (fault ≡ wanted) → (fault ≡ Fault.NoMemory) ⊎ (stopped fault ≡ stopped wanted)
by_fault fault wanted (inl memory) = inl memory
by_fault fault wanted (inr same) = inr (ap stopped same)

stopped_way : (old new : Disk) (request : AuditRequest) (files : Held) (fault : FetchFault) (answer : Answer) → old.held ≡ Some files
    → FailsFirst files (wanted request.file.now (option_copied request.input)) fault → (Rose old.reads new.reads → ⊥) → Ways old new request answer
    → IsOnly answer (stopped fault)
stopped_way old new request files fault answer told fails calm (inl memory) = inl memory
stopped_way old new request files fault answer told fails calm (inr (inl f)) =
    is_stopped answer (stopped fault) f.0 f.1
    (by_fault f.0 fault (fails_stops files old.reads new.reads (wanted request.file.now (option_copied request.input)) fault f.0 fails calm
    (subst (λ h. Stops h old.reads new.reads (wanted request.file.now (option_copied request.input)) f.0) told f.2)))
stopped_way old new request files fault answer told fails calm (inr (inr j)) =
    absurd (audit_fails files request.file.now (option_copied request.input) fault j.text j.bytes fails
    (subst (λ h. IsWhole h (Source, request.file.now) j.text) told j.source)
    (subst (λ h. HasInput h (option_copied request.input) j.bytes) told j.input))

-- the text that is judged is the one that is held
judged_why : (old new : Disk) (request : AuditRequest) (files : Held) (text : List ℕ) (answer : Answer) → old.held ≡ Some files
    → bytes_under files request.file.now ≡ Some text → IsJudged old new request answer → TextCause request old.writes new.writes text answer
judged_why old new request files text answer told there j =
    subst (λ t. TextCause request old.writes new.writes t answer)
    (whole_is files (Source, request.file.now) text j.text there (subst (λ h. IsWhole h (Source, request.file.now) j.text) told j.source)) j.why

given_way : (old new : Disk) (request : AuditRequest) (files : Held) (text : List ℕ) (answer : Answer) (P : Type 0) → old.held ≡ Some files
    → AreHeld files (wanted request.file.now (option_copied request.input)) → bytes_under files request.file.now ≡ Some text
    → (Rose old.reads new.reads → ⊥) → (TextCause request old.writes new.writes text answer → Only answer P)
    → Ways old new request answer → Only answer P
given_way old new request files text answer P told all there calm only (inl memory) = inl memory
given_way old new request files text answer P told all there calm only (inr (inl f)) =
    inl (f.1 ∙ ap stopped (not_stopped files old.reads new.reads (wanted request.file.now (option_copied request.input)) f.0 all calm
    (subst (λ h. Stops h old.reads new.reads (wanted request.file.now (option_copied request.input)) f.0) told f.2)))
given_way old new request files text answer P told all there calm only (inr (inr j)) =
    only (judged_why old new request files text answer told there j)

-- The cause of the words is that of their audit, or memory ran out.
audit_of : (words : List (List ℕ)) (old new : Disk) (request : AuditRequest) (answer : Answer) (P : Type 0)
    → Asks words (Audit request) → HasCause words old new answer
    → ((own : AuditRequest) → SameAudit request own → AuditCause old new own answer → Only answer P) → Only answer P
audit_of words old new request answer P asks (inl w) only =
    words_only words answer P (asks_taken words (Audit request) asks) w.0
audit_of words old new request answer P asks (inr h) only =
    let one = one_audit words request h.request asks h.asked in
    let why : RequestCause old new (Audit one.0) answer = subst (λ r. RequestCause old new r answer) one.1 h.why in
    only one.0 one.2 why.0

pub only_stopped : (words : List (List ℕ)) (old new : Disk) (request : AuditRequest) (files : Held) (fault : FetchFault) (answer : Answer)
    → IsAsked words old.held request files → FailsFirst files (wanted request.file.now (option_copied request.input)) fault
    → (Rose old.reads new.reads → ⊥) → HasCause words old new answer → IsOnly answer (stopped fault)
only_stopped words old new request files fault answer h fails calm cause =
    audit_of words old new request answer (answer ≡ stopped fault) h.asked cause
    (λ own same why. stopped_way old new own files fault answer h.told
    (subst (λ i. FailsFirst files (wanted own.file.now i) fault) same.input
    (subst (λ n. FailsFirst files (wanted n (option_copied request.input)) fault) same.file fails))
    calm (audit_stops old new own answer why))

only_given : (words : List (List ℕ)) (old new : Disk) (request : AuditRequest) (files : Held) (text : List ℕ) (answer : Answer) (P : Type 0)
    → IsGiven words old.held request files text → (Rose old.reads new.reads → ⊥) → HasCause words old new answer
    → ((own : AuditRequest) → SameAudit request own → TextCause own old.writes new.writes text answer → Only answer P)
    → Only answer P
only_given words old new request files text answer P h calm cause only =
    audit_of words old new request answer P h.call.asked cause
    (λ own same why. given_way old new own files text answer P h.call.told
    (subst (λ i. AreHeld files (wanted own.file.now i)) same.input (subst (λ n. AreHeld files (wanted n (option_copied request.input))) same.file h.all))
    (subst (λ n. bytes_under files n ≡ Some text) same.file h.source) calm (only own same) (audit_stops old new own answer why))

uses_same : (a b : AuditRequest) → SameAudit a b → UsesForm a → UsesForm b
uses_same a b same uses = (subst (λ n. 5 ≤ n) same.steps uses.0, subst (λ c. c ≡ None) same.cert uses.1)

pub only_verdict : (words : List (List ℕ)) (old new : Disk) (request : AuditRequest) (files : Held) (text : List ℕ) (unit : ReturnUnit) (answer : Answer)
    → IsGiven words old.held request files text → (Rose old.reads new.reads → ⊥) → UsesForm request → IsFirstForm text unit
    → HasCause words old new answer → IsOnly answer (verdict unit)
only_verdict words old new request files text unit answer h calm uses form cause =
    only_given words old new request files text answer (answer ≡ verdict unit) h calm cause
    (λ own same why. text_verdict own old.writes new.writes text unit answer (uses_same request own same uses) form why)

pub only_refused : (words : List (List ℕ)) (old new : Disk) (request : AuditRequest) (files : Held) (text : List ℕ) (refusal : Refusal) (answer : Answer)
    → IsGiven words old.held request files text → (Rose old.reads new.reads → ⊥) → HasNoForm text → RefusesEarly (lexed text) refusal
    → HasCause words old new answer → IsOnly answer (Refused refusal)
only_refused words old new request files text refusal answer h calm none early cause =
    only_given words old new request files text answer (answer ≡ Refused refusal) h calm cause
    (λ own same why. text_refused own old.writes new.writes text refusal answer none early why)

-- two lists of tokens of one text are one
one_text : (a b : TokenText) → a.source ≡ b.source → a.list ≡ b.list → a ≡ b
one_text a b source list i = record { source = source i; list = list i }

-- a text whose tokens spell no tree has none
not_both_trees : (text : List ℕ) → HasTree text → HasNoTree text → ⊥
not_both_trees text tree none =
    let same = one_text tree.0 none.0 (tree.1.0 ∙ sym none.1.0) (same_list tree.0.list none.0.list (sym tree.1.1 ∙ none.1.1)) in
    none.2 tree.2.0 (subst (SpellsUnit tree.2.0) same tree.2.1)

-- the answer refuses the syntax
abbrev pub IsSyntax : Answer → Type 0
IsSyntax answer = (token : ℕ) × (line : ℕ) × (answer ≡ Refused (Syntax token line))

syntax_refused : (text : List ℕ) (refusal : Refusal) → HasNoTree text → Refuses text refusal → IsSyntax (Refused refusal)
syntax_refused text (Stray a) none why = absurd (not_both _ _ (sym why ∙ none.1.1))
syntax_refused text (OpenLiteral a) none why = absurd (not_both _ _ (sym why ∙ none.1.1))
syntax_refused text (BadNumber a) none why = absurd (not_both _ _ (sym why ∙ none.1.1))
syntax_refused text (TooDeep a) none why =
    let same = ap nest_of (same_list why.0 none.0.list (sym why.1 ∙ none.1.1)) in let count = why.2 in let deep = why.3 in let flat = none.1.2 in absurd
    (omega arith)
syntax_refused text (TooHigh a) none why = absurd (not_both_trees text why.typed.tree none)
syntax_refused text (Syntax t l) none why = (t, l, refl)
syntax_refused text (NotTyped l) none why = absurd (not_both_trees text why none)

-- such a refusal is the only answer to a text whose tokens spell no tree
text_syntax : (request : AuditRequest) (before now : ℕ) (text : List ℕ) (answer : Answer) → HasNoForm text → HasNoTree text
    → TextCause request before now text answer → Only answer (IsSyntax answer)
text_syntax request before now text (Clean s) form none why = absurd (form why.1.unit why.1.form)
text_syntax request before now text (Undefined c l) form none why = absurd (form why.1.unit why.1.form)
text_syntax request before now text (Found s b) form none why = absurd (not_both_trees text why.0.runnable.typed.tree none)
text_syntax request before now text (Generated m s b) form none why = absurd why
text_syntax request before now text (GeneratedRefused m r) form none why = absurd why
text_syntax request before now text (Checked v) form none why = absurd why
text_syntax request before now text (Bad b) form none why = absurd why
text_syntax request before now text Usage form none why = absurd why
text_syntax request before now text (TooLong role) form none why = absurd why
text_syntax request before now text (Refused r) form none why = inr (syntax_refused text r none why.1)
text_syntax request before now text CertificateTooLong form none why = absurd (not_both_trees text why.runnable.typed.tree none)
text_syntax request before now text NotKept form none why = absurd (not_both_trees text why.0.runnable.typed.tree none)
text_syntax request before now text ReadFault form none why = absurd why
text_syntax request before now text NoMemory form none why = inl refl

pub only_syntax : (words : List (List ℕ)) (old new : Disk) (request : AuditRequest) (files : Held) (text : List ℕ) (answer : Answer)
    → IsGiven words old.held request files text → (Rose old.reads new.reads → ⊥) → HasNoForm text → HasNoTree text
    → HasCause words old new answer → Only answer (IsSyntax answer)
only_syntax words old new request files text answer h calm form none cause =
    only_given words old new request files text answer (IsSyntax answer) h calm cause
    (λ own same why. text_syntax own old.writes new.writes text answer form none why)

-- memory ran out, a file stopped the check, or its certificate was weighed
abbrev CheckWays : Disk → Disk → CheckRequest → Answer → Type 0
CheckWays old new request answer =
    (answer ≡ NoMemory) ⊎ (((fault : FetchFault) × (answer ≡ stopped fault) × StopsCheck old new request fault) ⊎ IsWeighed old request answer)

check_stops : (old new : Disk) (request : CheckRequest) (answer : Answer) → CheckCause old new request answer → CheckWays old new request answer
check_stops old new request (Clean s) cause = inr (inr cause)
check_stops old new request (Undefined c l) cause = inr (inr cause)
check_stops old new request (Found s b) cause = inr (inr cause)
check_stops old new request (Generated m s b) cause = inr (inr cause)
check_stops old new request (GeneratedRefused m r) cause = inr (inr cause)
check_stops old new request (Checked v) cause = inr (inr cause)
check_stops old new request (Bad b) cause = inr (inr cause)
check_stops old new request Usage cause = inr (inr cause)
check_stops old new request (TooLong role) cause = inr (inl (Fault.TooLong role, refl, cause))
check_stops old new request (Refused r) cause = inr (inr cause)
check_stops old new request CertificateTooLong cause = inr (inr cause)
check_stops old new request NotKept cause = inr (inr cause)
check_stops old new request ReadFault cause = inr (inl (Fault.ReadFault, refl, cause))
check_stops old new request NoMemory cause = inl refl

abbrev files_of : CheckRequest → List (Role × List ℕ)
files_of request = check_wanted request.file.now request.cert.now (option_copied request.input)

check_stopped_way : (old new : Disk) (request : CheckRequest) (files : Held) (fault : FetchFault) (answer : Answer) → old.held ≡ Some files
    → FailsFirst files (files_of request) fault → (Rose old.reads new.reads → ⊥) → CheckWays old new request answer → IsOnly answer (stopped fault)
check_stopped_way old new request files fault answer told fails calm (inl memory) = inl memory
check_stopped_way old new request files fault answer told fails calm (inr (inl f)) =
    is_stopped answer (stopped fault) f.0 f.1 (by_fault f.0 fault (fails_stops files old.reads new.reads (files_of request) fault f.0 fails calm
    (subst (λ h. Stops h old.reads new.reads (files_of request) f.0) told f.2)))
check_stopped_way old new request files fault answer told fails calm (inr (inr w)) =
    absurd (check_fails files request.file.now request.cert.now (option_copied request.input) fault w.text w.certificate w.bytes fails
    (subst (λ h. IsWhole h (Source, request.file.now) w.text) told w.source)
    (subst (λ h. IsWhole h (Certificate, request.cert.now) w.certificate) told w.given)
    (subst (λ h. HasInput h (option_copied request.input) w.bytes) told w.input))

-- its refusal is the only answer to a source that its tokens refuse
weighed_refused : (source text : List ℕ) (refusal : Refusal) (answer : Answer) → RefusesEarly (lexed source) refusal → CertificateCause source text answer
    → IsOnly answer (Refused refusal)
weighed_refused source text refusal (Clean s) early why = absurd why.1
weighed_refused source text refusal (Undefined c l) early why = absurd why.1
weighed_refused source text refusal (Found s b) early why = absurd why.1
weighed_refused source text refusal (Generated m s b) early why = absurd why.1
weighed_refused source text refusal (GeneratedRefused m r) early why = absurd why.1
weighed_refused source text refusal (Checked v) early why = absurd (not_read_on (lexed source) refusal (tree_tokens source why.0.1.typed.tree) early)
weighed_refused source text refusal (Bad b) early why = absurd (not_read_on (lexed source) refusal (tree_tokens source why.0.1.typed.tree) early)
weighed_refused source text refusal Usage early why = absurd why.1
weighed_refused source text refusal (TooLong role) early why = absurd why.1
weighed_refused source text refusal (Refused r) early why = inr (ap Refused (early_unique source r refusal why early))
weighed_refused source text refusal CertificateTooLong early why = absurd why.1
weighed_refused source text refusal NotKept early why = absurd why.1
weighed_refused source text refusal ReadFault early why = absurd why.1
weighed_refused source text refusal NoMemory early why = inl refl

-- the source that is weighed is the one that is held
weighed_why : (old : Disk) (request : CheckRequest) (files : Held) (text : List ℕ) (answer : Answer) (w : IsWeighed old request answer) → old.held ≡ Some files
    → bytes_under files request.file.now ≡ Some text → CertificateCause text w.certificate answer
weighed_why old request files text answer w told there =
    subst (λ t. CertificateCause t w.certificate answer)
    (whole_is files (Source, request.file.now) text w.text there (subst (λ h. IsWhole h (Source, request.file.now) w.text) told w.source)) w.why

check_refused_way : (old new : Disk) (request : CheckRequest) (files : Held) (text : List ℕ) (refusal : Refusal) (answer : Answer) → old.held ≡ Some files
    → AreHeld files (files_of request) → bytes_under files request.file.now ≡ Some text → (Rose old.reads new.reads → ⊥)
    → RefusesEarly (lexed text) refusal → CheckWays old new request answer → IsOnly answer (Refused refusal)
check_refused_way old new request files text refusal answer told all there calm early (inl memory) = inl memory
check_refused_way old new request files text refusal answer told all there calm early (inr (inl f)) =
    inl (f.1 ∙ ap stopped (not_stopped files old.reads new.reads (files_of request) f.0 all calm
    (subst (λ h. Stops h old.reads new.reads (files_of request) f.0) told f.2)))
check_refused_way old new request files text refusal answer told all there calm early (inr (inr w)) =
    weighed_refused text w.certificate refusal answer early (weighed_why old request files text answer w told there)

-- The cause of the words is that of their check, or memory ran out.
check_of : (words : List (List ℕ)) (old new : Disk) (request : CheckRequest) (answer : Answer) (P : Type 0)
    → Asks words (Check request) → HasCause words old new answer
    → ((own : CheckRequest) → SameCheck request own → CheckCause old new own answer → Only answer P) → Only answer P
check_of words old new request answer P asks (inl w) only =
    words_only words answer P (asks_taken words (Check request) asks) w.0
check_of words old new request answer P asks (inr h) only =
    let one = one_check words request h.request asks h.asked in
    let why : RequestCause old new (Check one.0) answer = subst (λ r. RequestCause old new r answer) one.1 h.why in
    only one.0 one.2 why.0

files_same : (a b : CheckRequest) → SameCheck a b → files_of a ≡ files_of b
files_same a b same i = check_wanted (same.file i) (same.cert i) (same.input i)

pub only_check_stopped : (words : List (List ℕ)) (old new : Disk) (request : CheckRequest) (files : Held) (fault : FetchFault) (answer : Answer)
    → IsCheckAsked words old.held request files → FailsFirst files (files_of request) fault → (Rose old.reads new.reads → ⊥)
    → HasCause words old new answer → IsOnly answer (stopped fault)
only_check_stopped words old new request files fault answer h fails calm cause =
    check_of words old new request answer (answer ≡ stopped fault) h.asked cause
    (λ own same why. check_stopped_way old new own files fault answer h.told (subst (λ fs. FailsFirst files fs fault) (files_same request own same) fails)
    calm (check_stops old new own answer why))

pub only_check_refused : (words : List (List ℕ)) (old new : Disk) (request : CheckRequest) (files : Held) (text : List ℕ) (refusal : Refusal) (answer : Answer)
    → IsCheckGiven words old.held request files text → (Rose old.reads new.reads → ⊥) → RefusesEarly (lexed text) refusal
    → HasCause words old new answer → IsOnly answer (Refused refusal)
only_check_refused words old new request files text refusal answer h calm early cause =
    check_of words old new request answer (answer ≡ Refused refusal) h.call.asked cause
    (λ own same why. check_refused_way old new own files text refusal answer h.call.told
    (subst (λ fs. AreHeld files fs) (files_same request own same) h.all) (subst (λ n. bytes_under files n ≡ Some text) same.file h.source)
    calm early (check_stops old new own answer why))

-- what an audit without certificate leaves
leaves_all : (old new : Option Held) (answer : Answer) → Leaves None old new answer → new ≡ old
leaves_all old new (Clean s) leaves = leaves
leaves_all old new (Undefined c l) leaves = leaves
leaves_all old new (Found s b) leaves = leaves
leaves_all old new (Generated m s b) leaves = leaves
leaves_all old new (GeneratedRefused m r) leaves = leaves
leaves_all old new (Checked v) leaves = leaves
leaves_all old new (Bad b) leaves = leaves
leaves_all old new Usage leaves = leaves
leaves_all old new (TooLong role) leaves = leaves
leaves_all old new (Refused r) leaves = leaves
leaves_all old new CertificateTooLong leaves = leaves
leaves_all old new NotKept leaves = leaves
leaves_all old new ReadFault leaves = leaves
leaves_all old new NoMemory leaves = leaves

pub stays : (words : List (List ℕ)) (old new : Disk) (request : AuditRequest) (answer : Answer) → Asks words (Audit request)
    → option_copied request.cert ≡ None → HasCause words old new answer → new.held ≡ old.held
stays words old new request answer asks none (inl w) = w.1
stays words old new request answer asks none (inr h) =
    let one = one_audit words request h.request asks h.asked in
    let why : RequestCause old new (Audit one.0) answer = subst (λ r. RequestCause old new r answer) one.1 h.why in
    leaves_all old.held new.held answer (subst (λ c. Leaves c old.held new.held answer) (sym one.2.cert ∙ none) why.1)

-- so the call ends with it
pub ends_with : (old new : Option (List ℕ)) (before now result : ℕ) (answer wanted : Answer) → Ends old new before now result answer
    → (Rose before now → ⊥) → IsOnly answer wanted → EndsWith old new result wanted
ends_with old new before now result answer wanted (inr failed) calm only = absurd (calm failed.2)
ends_with old new before now result answer wanted (inl put) calm (inl out) = inl (put.0 ∙ ap status out)
ends_with old new before now result answer wanted (inl put) calm (inr same) =
    inr (put.0 ∙ ap status same, subst (λ a. Gains old new (report a)) same put.1)

-- so the call ends with a refusal of the syntax
pub ends_with_syntax : (old new : Option (List ℕ)) (before now result : ℕ) (answer : Answer) → Ends old new before now result answer
    → (Rose before now → ⊥) → Only answer (IsSyntax answer) → (token : ℕ) × (line : ℕ) × EndsWith old new result (Refused (Syntax token line))
ends_with_syntax old new before now result answer ends calm (inl memory) =
    (0, 0, ends_with old new before now result answer (Refused (Syntax 0 0)) ends calm (inl memory))
ends_with_syntax old new before now result answer ends calm (inr so) =
    (so.0, so.1, ends_with old new before now result answer (Refused (Syntax so.0 so.1)) ends calm (inr so.2))
