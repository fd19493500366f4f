use Rattle.std.proofs.Common.{◌∙◌, ap, length, replicate}
use Rattle.mem_objects.specs.Pieces.{seen}
use Rattle.run_standing.proofs.Content.{zeros_seen, plain_seen, cells_known, cells_tagged}
use Rattle.run_values.proofs.Results.{given_then}
use Rattle.run_standing.proofs.contents.content.Goals as goal

pub returns-in-Zeros-clause-bytes : goal.returns-in-Zeros-clause-bytes
returns-in-Zeros-clause-bytes c =
    let m = c.args.m.now in
    rw c.in-Zeros.is (λ named can. given_then c.zeros.result _ _ (λ b e. ap (seen m) e ∙ zeros_seen m c.in-Zeros.count) c.zeros.ensures)

pub returns-in-Zeros-clause-known : goal.returns-in-Zeros-clause-known
returns-in-Zeros-clause-known c = λ named can.
    given_then c.zeros.result _ _ (λ b e. cells_known (length c.args.m.now.origins) b.cells (replicate c.in-Zeros.count 0) e) c.zeros.ensures

pub returns-in-Zeros-clause-tagged : goal.returns-in-Zeros-clause-tagged
returns-in-Zeros-clause-tagged c = λ named can.
    given_then c.zeros.result _ _ (λ b e. cells_tagged (length c.args.m.now.types) b.cells (replicate c.in-Zeros.count 0) e) c.zeros.ensures

pub returns-in-Bytes-clause-bytes : goal.returns-in-Bytes-clause-bytes
returns-in-Bytes-clause-bytes c =
    let m = c.args.m.now in
    rw (c.in-Bytes.is, ← c.as_slice.ensures)
    (λ named can. given_then c.written.result _ _ (λ b e. ap (seen m) e ∙ plain_seen m c.as_slice.result.now) c.written.ensures)

pub returns-in-Bytes-clause-known : goal.returns-in-Bytes-clause-known
returns-in-Bytes-clause-known c = λ named can.
    given_then c.written.result _ _ (λ b e. cells_known (length c.args.m.now.origins) b.cells c.as_slice.result.now e) c.written.ensures

pub returns-in-Bytes-clause-tagged : goal.returns-in-Bytes-clause-tagged
returns-in-Bytes-clause-tagged c = λ named can.
    given_then c.written.result _ _ (λ b e. cells_tagged (length c.args.m.now.types) b.cells c.as_slice.result.now e) c.written.ensures

pub returns-in-Address-clause-bytes : goal.returns-in-Address-clause-bytes
returns-in-Address-clause-bytes c =
    let m = c.args.m.now in
    rw c.in-Address.is (λ named can.
    given_then c.bytes_of.result _ _ (λ b e. e ∙ c.address-value.ensures.bytes m can)
    (c.bytes_of.ensures.bytes named (c.address-value.ensures.made m can).made))

pub returns-in-Address-clause-known : goal.returns-in-Address-clause-known
returns-in-Address-clause-known c =
    let m = c.args.m.now in
    rw c.in-Address.is (λ named can.
    let is = c.address-value.ensures.made m can in
    c.bytes_of.ensures.known named is.made is.known)

pub returns-in-Address-clause-tagged : goal.returns-in-Address-clause-tagged
returns-in-Address-clause-tagged c =
    let m = c.args.m.now in
    rw c.in-Address.is (λ named can. c.bytes_of.ensures.tagged (c.address-value.ensures.made m can).tagged)
