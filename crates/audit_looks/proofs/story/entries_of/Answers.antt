use Rattle.audit_looks.proofs.story.entries_of.Goals as goal

pub returns : goal.returns
returns c = record {
  picks = c.picks_of-picks.result;
  frames = c.in_ok-told.told.frames;
  named = c.in_ok-told.told.named;
  places = c.in_ok-told.told.map;
  calls = c.in_ok-told.told.calls;
  ran = c.in_ok-told.told.ran;
  entries = c.in_ok-told.told.entries;
  same = c.in_ok-told.ensures.named;
  told = c.in_ok-told.ensures.told;
  counted = c.in_ok-told.ensures.counted;
  within = c.in_ok-told.ensures.within;
  started = c.in_ok-told.ensures.started;
  page = c.in_ok-text.ensures;
}
