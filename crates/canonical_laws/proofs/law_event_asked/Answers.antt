use Rattle.control_laws.proofs.Laws.{laws_of}
use Rattle.canonical_laws.proofs.Asked.{event_asked}
use Rattle.canonical_laws.proofs.law_event_asked.Goals as goal

pub returns : goal.returns
returns c =
    event_asked (record {
      laws =
          laws_of c.law_view.ensures.text c.law_blocks.ensures.stand c.law_blocks.ensures.there c.law_blocks.ensures.expressions c.law_labels.ensures
          c.law_named.ensures.placed c.law_views.ensures c.law_named.ensures.root c.law_asked.ensures.code c.law_asked.ensures.labels;
      opens = record {
        stands = c.law_open_frame.ensures;
        trees = c.law_trees.ensures;
        constants = c.law_constants.ensures;
        lists = c.law_small_values.ensures.lists;
        none = c.law_unresulted.ensures.while_open;
      };
      event = c.law_next.ensures.events;
      initializer = c.law_next.ensures.initializers;
      call = c.law_next.ensures.calls;
      library = c.law_library_calls.ensures.next;
      follows = c.law_picks.ensures.follows;
    })
