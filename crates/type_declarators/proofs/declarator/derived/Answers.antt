use Rattle.std.proofs.Common.{ap, ◌∙◌, map}
use Rattle.c_types.specs.Types.{qualified_of}
use Rattle.typing_env.specs.Seen.{tag_seen}
use Rattle.typing_words.specs.Words.{derived, limited, limited_type}
use Rattle.type_declarators.specs.Parts.{parts_seen}
use Rattle.type_declarators.proofs.Applied.{none_derived, some_derived}
use Rattle.type_declarators.proofs.Standing.{finds_same}
use Rattle.type_declarators.proofs.declarator.derived.Goals as goal

pub returns-then-is_empty : goal.returns-then-is_empty
returns-then-is_empty c fits =
    none_derived (map tag_seen (c.args.state.now).tags) c.args.parts.items c.as_slice.result.now (qualified_of c.args.base) c.is_empty.result
    c.is_empty.ensures c.as_slice.ensures.value c.if-is_empty.true

pub returns-in-Ok : goal.returns-in-Ok
returns-in-Ok c fits =
    let tags = map tag_seen (c.args.state.now).tags in
    finds_same qualified_of (derived tags (parts_seen c.args.parts.items) (qualified_of c.args.base)) (limited_type (qualified_of c.in-Ok.qual))
    c.limited.result
    (some_derived tags c.args.parts.items c.as_slice.result.now (qualified_of c.args.base) c.is_empty.result
    c.is_empty.ensures c.as_slice.ensures.value c.if-is_empty.false ∙ ap limited (c.in-Ok.ensures fits)) c.limited.ensures

pub returns-in-Err : goal.returns-in-Err
returns-in-Err c fits other =
    some_derived (map tag_seen (c.args.state.now).tags) c.args.parts.items c.as_slice.result.now (qualified_of c.args.base) c.is_empty.result
    c.is_empty.ensures c.as_slice.ensures.value c.if-is_empty.false ∙ ap limited (c.in-Err.ensures fits other)
