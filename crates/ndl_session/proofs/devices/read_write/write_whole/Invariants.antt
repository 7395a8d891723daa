-- No write has failed so far, none came late, and the first `written` bytes of the text went out.
use Rattle.std.proofs.Common.{◌≡◌, ◌≤◌, ◌-◌, false, length, take}
use Rattle.std.specs.Io.KnownBytes.{Appends}
use Rattle.ndl_session.specs.devices.Watched.{device, has_failed, IsWrittenInTime}
use Rattle.ndl_session.proofs.devices.read_write.write_whole.Given as goal

abbrev pub invariant-loop-written : goal.invariant-loop-written
invariant-loop-written g l = record {
  intact : has_failed l.writer ≡ false;
  in_time : IsWrittenInTime l.initial.writer l.writer;
  within : l.written ≤ length l.text;
  went_out : Appends (g.W.Write.contents (device l.initial.writer)) (g.W.Write.contents (device l.writer)) (take l.written l.text);
}

abbrev pub decreases-loop-written : goal.decreases-loop-written
decreases-loop-written g l = length l.text - l.written
