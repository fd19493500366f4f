-- What a pick does to the frames.
-- a pick stays in its frame, enters a new frame, or ends its frame
pub data Move (F : Type 0) : Type 0 where
  Stay : Move F
  Start : F → Move F
  End : Move F
