use Rattle.std.proofs.Common.{ap, sym, ◌∙◌, refl, map, Some}
use Rattle.c_types.specs.Types.{type_of}
use Rattle.typing_env.specs.Seen.{member_seen, tag_seen}
use Rattle.typing_words.specs.Words.{plain, tagged}
use Rattle.type_scope.specs.Known.{known_by}
use Rattle.type_scope.specs.declared.state.State.{State}
use Rattle.type_declarators.proofs.Completing.{closed, not_closed, may_parts, completed_seen}
use Rattle.type_declarators.proofs.ConstantsKept.{closed_constants}
use Rattle.type_declarators.proofs.NamesNoted.{closed_noted, noted_at, row_at}
use Rattle.type_declarators.proofs.NamesTold.{completed_distinct}
use Rattle.type_declarators.proofs.tag.close.Goals as goal

pub returns-in-Ok-clause-reads : goal.returns-in-Ok-clause-reads
returns-in-Ok-clause-reads c has n env =
    let was = known_by n c.args.source.now c.args.state.now env in
    let tags = map tag_seen (c.args.state.now).tags in
    let may = may_parts (c.args.state.now).tags c.args.number c.args.list.members (sym c.in-Ok.ensures.value) in
    closed c.args.kind c.args.number (c.args.state.now).tags c.args.list.members was refl
    (completed_distinct c.args.source.now tags c.args.number (map member_seen c.args.list.members) c.args.list.symbols.items has.named may.0 may.1
    ∙ has.apart)
    (sym c.in-Ok.ensures.value)
    ∙ ap (λ ts. Some (plain (tagged c.args.kind c.args.number), record was { tags = map tag_seen ts })) (sym c.in-Ok.ensures.done)
    ∙ ap (λ ty. Some (plain ty, record was { tags = map tag_seen c.completed.new.tags })) (sym c.tagged_type.ensures)
    ∙ ap (λ (s : State). Some (plain (type_of c.tagged_type.result), known_by n c.args.source.now s env)) (sym c.note_row.ensures.rest)

pub returns-clause-reads : goal.returns-clause-reads
returns-clause-reads c has n env other =
    not_closed c.args.kind c.args.number (c.args.state.now).tags c.args.list.members (known_by n c.args.source.now c.args.state.now env) refl
    (sym c.in-Err.ensures.value)

pub returns-in-Ok-clause-symbols : goal.returns-in-Ok-clause-symbols
returns-in-Ok-clause-symbols c has noted =
    let tags = map tag_seen (c.args.state.now).tags in
    let ms = map member_seen c.args.list.members in
    let may = may_parts (c.args.state.now).tags c.args.number c.args.list.members (sym c.in-Ok.ensures.value) in
    closed_noted c.args.source.now c.args.state.now c.note_row.new.state c.args.number ms c.args.list.symbols.items
    (ap (λ (s : State). map tag_seen s.tags) c.note_row.ensures.rest ∙ ap (map tag_seen) c.in-Ok.ensures.done
    ∙ sym (completed_seen (c.args.state.now).tags c.args.number c.args.list.members))
    has.named may.0 may.1 c.note_row.ensures.count
    (c.note_row.ensures.row (noted_at c.args.source.now c.args.state.now c.args.number ms noted may.1))
    c.note_row.ensures.others noted

pub returns-in-Ok-clause-constants : goal.returns-in-Ok-clause-constants
returns-in-Ok-clause-constants c has noted =
    let tags = map tag_seen (c.args.state.now).tags in
    let ms = map member_seen c.args.list.members in
    let may = may_parts (c.args.state.now).tags c.args.number c.args.list.members (sym c.in-Ok.ensures.value) in
    closed_constants c.args.state.now c.note_row.new.state c.args.number ms c.args.list.constant
    (ap (λ (s : State). map tag_seen s.tags) c.note_row.ensures.rest ∙ ap (map tag_seen) c.in-Ok.ensures.done
    ∙ sym (completed_seen (c.args.state.now).tags c.args.number c.args.list.members))
    has may.0 may.1 c.note_row.ensures.count
    (c.note_row.ensures.constant (row_at c.args.state.now c.args.number ms noted.rows may.1))
    c.note_row.ensures.others noted
