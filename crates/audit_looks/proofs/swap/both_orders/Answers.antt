use Rattle.audit_looks.proofs.swap.both_orders.Goals as goal

pub returns : goal.returns
returns c = record {
  swapped = c.in_ok-swapped.swapped;
  turn = c.in_ok-swapped.ensures.turn;
  chosen = c.in_ok-swapped.ensures.chosen;
  permitted = c.in_ok-swapped.ensures.permitted;
  second_first = c.in_ok-swapped.ensures.second_first;
  differs = c.in_ok-swapped.ensures.differs;
  code = c.swap_status-status.ensures;
  page = c.in_ok-text.ensures;
}
