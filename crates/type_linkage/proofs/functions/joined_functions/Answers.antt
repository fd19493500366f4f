use Rattle.std.proofs.Common.{◌≡◌, ap, ◌∙◌, sym}
use Rattle.std.specs.Option.{option_map, option_copied}
use Rattle.std.proofs.lemmas.Option.{same_Some, none-some}
use Rattle.c_types.specs.Types.{type_of, signature_of, composite_signature}
use Rattle.type_linkage.proofs.FunctionRows.{joined_signature, if_weaker}
use Rattle.type_linkage.proofs.functions.joined_functions.Goals as goal

pub returns-in-Some : goal.returns-in-Some
returns-in-Some c =
    let whole = composite_signature (signature_of c.args.old.now) (signature_of c.args.new.now) in
    let e = same_Some (signature_of c.in-Some.joined.now) whole
    (sym (ap (λ o. option_map signature_of (option_copied o)) c.in-Some.is)
    ∙ joined_signature (signature_of c.args.old.now) (signature_of c.args.new.now) (type_of c.in_ok-first.first) (type_of c.in_ok-second.second)
    (type_of c.in_ok-joined.joined) (option_copied c.as_function.result) c.in_ok-first.ensures c.in_ok-second.ensures c.in_ok-joined.ensures
    c.as_function.ensures) in
    if_weaker c.copied_function.result (λ f. signature_of f ≡ signature_of c.in-Some.joined.now) (λ f. signature_of f ≡ whole) (λ f is. is ∙ e)
    c.copied_function.ensures

-- the composite of two function types is one
pub returns : goal.returns
returns c =
    absurd (none-some (composite_signature (signature_of c.args.old.now) (signature_of c.args.new.now))
    (sym (ap (λ o. option_map signature_of (option_copied o)) c.in-None.is)
    ∙ joined_signature (signature_of c.args.old.now) (signature_of c.args.new.now) (type_of c.in_ok-first.first) (type_of c.in_ok-second.second)
    (type_of c.in_ok-joined.joined) (option_copied c.as_function.result) c.in_ok-first.ensures c.in_ok-second.ensures c.in_ok-joined.ensures
    c.as_function.ensures))
