use Rattle.std.proofs.Common.{arith, ◌∙◌}
use Rattle.std.proofs.lemmas.List.{take_rest, length-drop}
use Rattle.ndl_session.proofs.Pieces.{Appends-more, some_taken}
use Rattle.ndl_session.proofs.devices.read_write.write_whole.Goals as goal

pub loop-written-preserved : goal.loop-written-preserved
loop-written-preserved g c =
    let before = c.loop-written.invariant in
    let written = c.in-Ok.ensures in
    record {
      intact = some_taken _ c.in-Ok.taken _ c.if-taken-gt0.true written.failed;
      in_time = record {
        late = written.in_time.late ∙ before.in_time.late;
        room = written.in_time.room ∙ before.in_time.room;
        no_room = written.in_time.no_room ∙ before.in_time.no_room;
      };
      within = omega (arith, simp (take_rest, length-drop) at written.bound);
      went_out = Appends-more _ _ _ _ _ _ before.went_out written.bytes;
    }
