-- Calls that read or write, with a device before and after the call.
--   Reads, reads      a call that reads: its reader, and whatever owns it
--   Writes, writes    a call that writes: its writer
use Rattle.std.specs.Prelude.{ℕ, List, Option}

-- a call that reads from a reader, in the states before and after it of whatever owns the reader
pub record Reads (I H : Type 0) : Type 1 where
  -- the bytes that the reader has left, where they are known
  pub remaining : I → Option (List ℕ)
  -- a read in the first state failed and left the second
  pub fails : I → I → Type 0
  -- before the call
  pub old : H
  -- after the call
  pub new : H

abbrev pub reads : {I H : Type 0} → (I → Option (List ℕ)) → (I → I → Type 0) → H → H → Reads I H
reads remaining fails old new = record { remaining = remaining; fails = fails; old = old; new = new }

-- a call that writes to a writer
pub record Writes (W : Type 0) : Type 1 where
  -- the bytes that were written so far, where they are known
  pub contents : W → Option (List ℕ)
  -- a write in the first state failed and left the second
  pub fails : W → W → Type 0
  -- before the call
  pub old : W
  -- after the call
  pub new : W

abbrev pub writes : {W : Type 0} → (W → Option (List ℕ)) → (W → W → Type 0) → W → W → Writes W
writes contents fails old new = record { contents = contents; fails = fails; old = old; new = new }
