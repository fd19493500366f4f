-- The certificate is built of the rows, the marks and the numbers.
use Rattle.std.proofs.Common.{◌≡◌, length, map, subst, rules}
use Rattle.certificate_making.specs.Marking.{kept_marks, named_frames}
use Rattle.certificate_making.specs.Numbering.{IsNumbered, renamed_row}
use Rattle.certificate_making.proofs.Made.{built, built_form, built_needed, built_paths, built_rows}
use Rattle.certificate_making.proofs.make.of_audit.Goals as goal

pub returns-clause-rows : goal.returns-clause-rows
returns-clause-rows c = λ rises.
    let third : c.deref-3.result.now ≡ c.in_ok-rows.rows.items = search rules in
    built_rows c.args.map.now c.in_ok-rows.rows.items c.in_ok-renamed_rows.field-0 c.in_ok-frames.numbering.numbers.items c.in_ok-frames.numbering.count
    (c.in_ok-rows.ensures rises)
    (subst (λ rs. c.in_ok-renamed_rows.field-0 ≡ map (renamed_row c.in_ok-frames.numbering.numbers.items c.in_ok-frames.numbering.count) rs) third
    c.in_ok-renamed_rows.ensures)

pub returns-clause-paths : goal.returns-clause-paths
returns-clause-paths c = λ of.
    let rows = c.in_ok-rows.rows.items in
    let marks = c.in_ok-marks.marks.items in
    let first : c.deref.result.now ≡ c.in_ok-rows.rows.items = search rules in
    let second : c.deref-2.result.now ≡ c.in_ok-marks.marks.items = search rules in
    let third : c.deref-3.result.now ≡ c.in_ok-rows.rows.items = search rules in
    let b = built c.args.frames.now c.args.map.now rows c.args.claim marks c.in_ok-frames.frames c.in_ok-frames.numbering.numbers.items
    c.in_ok-frames.numbering.count c.in_ok-renamed_rows.field-0 c.claim.result c.in_ok-frames.ensures.all c.in_ok-frames.ensures.rows
    (c.in_ok-rows.ensures of.rises)
    (subst (λ rs. marks ≡ kept_marks c.args.frames.now (named_frames rs c.args.claim)) first c.in_ok-marks.ensures)
    (subst (λ ms. IsNumbered c.args.frames.now ms (length c.args.frames.now) c.in_ok-frames.frames c.in_ok-frames.numbering.numbers.items) second
    c.in_ok-frames.ensures.numbers)
    c.in_ok-frames.ensures.count
    (subst (λ rs. c.in_ok-renamed_rows.field-0 ≡ map (renamed_row c.in_ok-frames.numbering.numbers.items c.in_ok-frames.numbering.count) rs) third
    c.in_ok-renamed_rows.ensures)
    c.claim.ensures in
    built_paths c.args.frames.now c.args.map.now c.args.claim c.in_ok-frames.frames c.in_ok-renamed_rows.field-0 c.claim.result b of

pub returns-clause-needed : goal.returns-clause-needed
returns-clause-needed c = λ of.
    let rows = c.in_ok-rows.rows.items in
    let marks = c.in_ok-marks.marks.items in
    let first : c.deref.result.now ≡ c.in_ok-rows.rows.items = search rules in
    let second : c.deref-2.result.now ≡ c.in_ok-marks.marks.items = search rules in
    let third : c.deref-3.result.now ≡ c.in_ok-rows.rows.items = search rules in
    let b = built c.args.frames.now c.args.map.now rows c.args.claim marks c.in_ok-frames.frames c.in_ok-frames.numbering.numbers.items
    c.in_ok-frames.numbering.count c.in_ok-renamed_rows.field-0 c.claim.result c.in_ok-frames.ensures.all c.in_ok-frames.ensures.rows
    (c.in_ok-rows.ensures of.rises)
    (subst (λ rs. marks ≡ kept_marks c.args.frames.now (named_frames rs c.args.claim)) first c.in_ok-marks.ensures)
    (subst (λ ms. IsNumbered c.args.frames.now ms (length c.args.frames.now) c.in_ok-frames.frames c.in_ok-frames.numbering.numbers.items) second
    c.in_ok-frames.ensures.numbers)
    c.in_ok-frames.ensures.count
    (subst (λ rs. c.in_ok-renamed_rows.field-0 ≡ map (renamed_row c.in_ok-frames.numbering.numbers.items c.in_ok-frames.numbering.count) rs) third
    c.in_ok-renamed_rows.ensures)
    c.claim.ensures in
    built_needed c.args.frames.now c.args.map.now c.args.claim c.in_ok-frames.frames c.in_ok-renamed_rows.field-0 c.claim.result b of

pub returns-clause-form : goal.returns-clause-form
returns-clause-form c = λ of form.
    let rows = c.in_ok-rows.rows.items in
    let marks = c.in_ok-marks.marks.items in
    let first : c.deref.result.now ≡ c.in_ok-rows.rows.items = search rules in
    let second : c.deref-2.result.now ≡ c.in_ok-marks.marks.items = search rules in
    let third : c.deref-3.result.now ≡ c.in_ok-rows.rows.items = search rules in
    let b = built c.args.frames.now c.args.map.now rows c.args.claim marks c.in_ok-frames.frames c.in_ok-frames.numbering.numbers.items
    c.in_ok-frames.numbering.count c.in_ok-renamed_rows.field-0 c.claim.result c.in_ok-frames.ensures.all c.in_ok-frames.ensures.rows
    (c.in_ok-rows.ensures of.rises)
    (subst (λ rs. marks ≡ kept_marks c.args.frames.now (named_frames rs c.args.claim)) first c.in_ok-marks.ensures)
    (subst (λ ms. IsNumbered c.args.frames.now ms (length c.args.frames.now) c.in_ok-frames.frames c.in_ok-frames.numbering.numbers.items) second
    c.in_ok-frames.ensures.numbers)
    c.in_ok-frames.ensures.count
    (subst (λ rs. c.in_ok-renamed_rows.field-0 ≡ map (renamed_row c.in_ok-frames.numbering.numbers.items c.in_ok-frames.numbering.count) rs) third
    c.in_ok-renamed_rows.ensures)
    c.claim.ensures in
    built_form c.args.frames.now c.args.map.now c.args.picks c.args.claim c.in_ok-frames.frames c.in_ok-renamed_rows.field-0 c.claim.result
    c.in_ok-order_of.field-0 b c.in_ok-order_of.ensures form
