-- No read has failed so far, none has found the end unless one did before, no room was lacking unless it was before, and what was
-- read stands in `bytes`, whose length grows.
use Rattle.std.proofs.Common.{◌≡◌, ◌-◌, ◌^◌, false, vec_len}
use Rattle.std.specs.Io.KnownBytes.{Consumes}
use Rattle.ndl_session.specs.devices.Watched.{device, has_ended, has_failed, lacks_room, IsReadInTime}
use Rattle.ndl_session.proofs.devices.read_write.read_whole.Given as goal

abbrev pub invariant-loop-bytes : goal.invariant-loop-bytes
invariant-loop-bytes g l = record {
  intact : has_failed l.reader ≡ false;
  unended : has_ended l.initial.reader ≡ false → has_ended l.reader ≡ false;
  in_time : IsReadInTime l.initial.reader l.reader;
  room : lacks_room l.initial.reader ≡ false → lacks_room l.reader ≡ false;
  read : Consumes (g.R.Read.remaining (device l.initial.reader)) (g.R.Read.remaining (device l.reader)) l.bytes.items;
}

abbrev pub decreases-loop-bytes : goal.decreases-loop-bytes
decreases-loop-bytes g l = 2 ^ 64 - vec_len l.bytes
