-- What an index of objects gives.
use Rattle.std.proofs.Common.{◌≡◌, ℕ, List, Option, Some, None}
use Rattle.std.specs.Prelude.{IfSome}
use Rattle.ub_base.specs.declared.names.ObjName.{ObjName}
use Rattle.mem_objects.specs.Held.{Held, name_at, IsIndexed}

pub there_is : (indices : ObjName → Option ℕ) (hs : List Held) (x : ObjName) (at : Option ℕ) → IsIndexed indices hs → indices x ≡ at →
    IfSome at (λ k. name_at hs k ≡ Some x)
there_is indices hs x None s e = tt
there_is indices hs x (Some k) s e = s.there x k e
