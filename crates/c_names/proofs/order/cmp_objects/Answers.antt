use Rattle.std.proofs.Common.{◌≡◌, refl}
use Rattle.std.specs.Ordering.{nat_cmp, ordering_then}
use Rattle.c_names.specs.Orders.{frame_cmp, object_cmp, object_rank, place_frame, place_turn, place_number}
use Rattle.c_names.proofs.OrderLemmas.{objects_from}
use Rattle.c_names.proofs.order.cmp_objects.Goals as goal

pub returns : goal.returns
returns c =
    let a = c.args.a.now in
    let b = c.args.b.now in
    let whole : ordering_then (ordering_then (ordering_then (nat_cmp (object_rank a) (object_rank b))
    (frame_cmp c.args.frames.now (place_frame a) (place_frame b))) (nat_cmp (place_turn a) (place_turn b)))
    (nat_cmp (place_number a) (place_number b)) ≡ object_cmp c.args.frames.now a b =
    objects_from c.args.frames.now a b (place_frame a) (place_frame b) (place_turn a) (place_turn b) (place_number a)
    (place_number b) refl refl refl refl refl refl in
    cc
