-- What the answer to a value says of the text that has it.
use Rattle.std.proofs.Common.{
  ◌≡◌,
  ℕ,
  List,
  [],
  length,
  Option,
  Some,
  None,
  option_and_then,
  Result,
  Ok,
  Err,
  IfOk,
  IfErr,
  inl,
  inr,
  sym,
  ap,
  subst,
  ◌∙◌,
  codes,
}
use Rattle.serde_json.specs.Data.{Data}
use Rattle.ub_base.specs.Frames as frames
use Rattle.addr_map.specs.declared.map.Row.{Row}
use Rattle.certificate.specs.declared.cert.Cert.{Cert}
use Rattle.certificate.specs.declared.cert.CertFault.{CertFault}
use Rattle.certificate.specs.declared.cert.CertFault.TheVariants.{NotJson, BadShape, NoMemory}
use Rattle.certificate.specs.declared.cert.Field.{Field}
use Rattle.certificate.specs.declared.cert.Field.TheVariants as field
use Rattle.certificate.specs.declared.cert.Segment.{Segment}
use Rattle.certificate_text.specs.declared.words.Verdict.{Verdict}
use Rattle.certificate.specs.declared.cert.Version.{Version}
use Rattle.certificate.specs.declared.cert.Version.TheVariants.{One, Two}
use Rattle.certificate.specs.Form.{HasForm, IsInForm}
use Rattle.certificate_text.specs.Reading.{
  more_frames,
  map_in,
  order_in,
  claim_in,
  list_at,
  need,
  with_claim,
  parts_in,
  cert_in,
  Answers,
  IsJsonOf,
  States,
  IsRefused,
}
use Rattle.certificate_text.proofs.Forms.{cert_form}

pub answer_states : (text : List ℕ) (d : Data) (r : Result Cert CertFault) → IsJsonOf text d → Answers (cert_in d) r → IfOk r (States text)
answer_states text d (Ok c) json stated =
    let form = cert_form d c stated in
    record { value = d; version = form.0; json = json; numbered = form.1; stated = stated; form = form.2 }
answer_states text d (Err e) json stated = tt

in_form : (version : Version) (c : Cert) → HasForm version c → IsInForm c
in_form One c form = inl form
in_form Two c form = inr form

pub answer_has_form : (d : Data) (r : Result Cert CertFault) → Answers (cert_in d) r → IfOk r IsInForm
answer_has_form d (Ok c) stated = let form = cert_form d c stated in in_form form.0 c form.2
answer_has_form d (Err e) stated = tt

pub answer_refuses : (text : List ℕ) (d : Data) (r : Result Cert CertFault) → IsJsonOf text d → Answers (cert_in d) r → IfErr r (IsRefused text)
answer_refuses text d (Ok c) json stated = tt
answer_refuses text d (Err NotJson) json stated = absurd stated
answer_refuses text d (Err (BadShape wrong)) json stated = (d, json, stated)
answer_refuses text d (Err NoMemory) json stated = tt

-- ---- one part after another

step_ok : {A B : Type 0} (wrong : Field) (o : Option A) (x : A) (rest : A → Result B Field) → need wrong o (λ y. Ok y) ≡ Ok x → need wrong o rest ≡ rest x
step_ok wrong None x rest h = absurd (cc)
step_ok wrong (Some y) x rest h = let same : y ≡ x = cc in ap rest same

step_err : {A B : Type 0} (wrong : Field) (o : Option A) (rest : A → Result B Field) (e : CertFault) → Answers {A = A} (need wrong o (λ y. Ok y)) (Err e)
    → Answers {A = B} (need wrong o rest) (Err e)
step_err wrong o rest NotJson h = h
step_err wrong o rest NoMemory h = tt
step_err wrong None rest (BadShape w) h = let same : wrong ≡ w = cc in ap (λ f. Err f) same
step_err wrong (Some x) rest (BadShape w) h = absurd (cc)

abbrev frames_of : Data → Option (List frames.Row)
frames_of d = option_and_then (more_frames []) (list_at (codes "frames") d)

abbrev rows_of : Version → ℕ → Data → Option (List Row)
rows_of version count d = option_and_then (map_in version count) (list_at (codes "map") d)

abbrev order_of : Version → Verdict → Data → Option (List Segment)
order_of version verdict d = option_and_then (order_in version verdict) (list_at (codes "order") d)

abbrev from_order : Version → Verdict → Data → List frames.Row → List Row → Result Cert Field
from_order version verdict d rows map =
    need field.Order (order_of version verdict d) (λ order. with_claim rows map order (claim_in verdict (length rows) d))

abbrev from_map : Version → Verdict → Data → List frames.Row → Result Cert Field
from_map version verdict d rows = need field.Map (rows_of version (length rows) d) (from_order version verdict d rows)

pub map_refused : (version : Version) (verdict : Verdict) (d : Data) (rows : List frames.Row) (count : ℕ) (e : CertFault)
    → need field.Frames (frames_of d) (λ y. Ok y) ≡ Ok rows → count ≡ length rows → Answers (need field.Map (rows_of version count d) (λ y. Ok y)) (Err e)
    → Answers (parts_in version verdict d) (Err e)
map_refused version verdict d rows count e framed counted refused =
    let A : Result Cert Field → Type 0 = λ r. Answers r (Err e) in
    let R : ℕ → Type 0 = λ n. Answers (need field.Map (rows_of version n d) (λ y. Ok y)) (Err e) in
    subst A (sym (step_ok field.Frames (frames_of d) rows (from_map version verdict d) framed))
    (step_err field.Map (rows_of version (length rows) d) (from_order version verdict d rows) e (subst R counted refused))

pub order_refused : (version : Version) (verdict : Verdict) (d : Data) (rows : List frames.Row) (map : List Row) (count : ℕ) (e : CertFault)
    → need field.Frames (frames_of d) (λ y. Ok y) ≡ Ok rows → count ≡ length rows → need field.Map (rows_of version count d) (λ y. Ok y) ≡ Ok map
    → Answers (need field.Order (order_of version verdict d) (λ y. Ok y)) (Err e) → Answers (parts_in version verdict d) (Err e)
order_refused version verdict d rows map count e framed counted mapped refused =
    let A : Result Cert Field → Type 0 = λ r. Answers r (Err e) in
    let M : ℕ → Type 0 = λ n. need field.Map (rows_of version n d) (λ y. Ok y) ≡ Ok map in
    subst A (sym (step_ok field.Frames (frames_of d) rows (from_map version verdict d) framed
    ∙ step_ok field.Map (rows_of version (length rows) d) map (from_order version verdict d rows) (subst M counted mapped)))
    (step_err field.Order (order_of version verdict d) (λ order. with_claim rows map order (claim_in verdict (length rows) d)) e refused)
