-- What a clause reads of a watched device, which writes fail, which reads find the end, which calls come late, and whether what
-- it gave has found no room.
use Rattle.std.specs.Prelude.{◌≡◌, ℕ, Bool, true, false, not, ◌==◌, ◌&&◌, ◌||◌, Option, Some, Ok, Err, Result}
use Rattle.std.specs.Prelude.{List, [], length, codes, refl}
use Rattle.std.specs.Io.KnownBytes.{IsAtEnd}
use Rattle.std.proofs.lemmas.Bool.{true≢false, false≢true}
use Rattle.ndl_session.specs.declared.devices.watched.Watched.{Watched}

-- the device that is watched
abbrev pub device : {T : Type 0} → Watched T → T
device w = w.inner

-- whether a read or a write of the device has failed so far
abbrev pub has_failed : {T : Type 0} → Watched T → Bool
has_failed w = w.failed

-- whether a read of the device has found the end of its input so far
abbrev pub has_ended : {T : Type 0} → Watched T → Bool
has_ended w = w.ended

-- whether a call of the device came late so far
abbrev pub was_used_late : {T : Type 0} → Watched T → Bool
was_used_late w = w.used_late

-- whether an allocation for bytes that the device gave has failed so far
abbrev pub lacks_room : {T : Type 0} → Watched T → Bool
lacks_room w = w.lacks_room

-- whether a read of the device came after such a failed allocation so far
abbrev pub was_read_without_room : {T : Type 0} → Watched T → Bool
was_read_without_room w = w.read_without_room

-- a read comes late after a failure, and after the end of the input
abbrev pub is_late_read : {T : Type 0} → Watched T → Bool
is_late_read w = has_failed w || has_ended w

-- a write, and a flush, come late after a failure
abbrev pub is_late_write : {T : Type 0} → Watched T → Bool
is_late_write w = has_failed w

-- a read finds the end of the input where it gives no byte to a buffer that has room
abbrev pub is_end : {E : Type 0} → Result ℕ E → List ℕ → Bool
is_end (Ok given) buffer = (given == 0) && not (length buffer == 0)
is_end (Err e) buffer = false

-- a write fails where it answers an error, and where it takes no byte of a piece that has some
abbrev pub is_failed_write : {E : Type 0} → Result ℕ E → List ℕ → Bool
is_failed_write (Ok taken) piece = (taken == 0) && not (length piece == 0)
is_failed_write (Err e) piece = true

-- a reader is read in time: no read comes late unless one had found the end before, nor without room unless room was lacking before
pub record IsReadInTime {T : Type 0} (old new : Watched T) : Type 0 where
  pub late : has_ended old ≡ false → was_used_late new ≡ was_used_late old
  pub room : lacks_room old ≡ false → was_read_without_room new ≡ was_read_without_room old

-- a writer is written in time: no write comes late, and it is told of no room
pub record IsWrittenInTime {T : Type 0} (old new : Watched T) : Type 0 where
  pub late : was_used_late new ≡ was_used_late old
  pub room : lacks_room new ≡ lacks_room old
  pub no_room : was_read_without_room new ≡ was_read_without_room old

-- a reader is read to its end: nothing remains unread, where it is known what does
pub record IsReadToEnd {T : Type 0} (unread : Option (List ℕ)) (reader : Watched T) : Type 0 where
  pub nothing : IsAtEnd unread
  pub ended : has_ended reader ≡ true

-- examples, where a number stands for a device and for an error
abbrev after_failure : Watched ℕ
after_failure = record { inner = 7; failed = true; ended = false; used_late = false; lacks_room = false; read_without_room = false }

abbrev after_end : Watched ℕ
after_end = record { inner = 7; failed = false; ended = true; used_late = false; lacks_room = false; read_without_room = false }

abbrev after_failed_allocation : Watched ℕ
after_failed_allocation =
    record { inner = 7; failed = false; ended = false; used_late = false; lacks_room = true; read_without_room = false }

device_seven : device after_failure ≡ 7
device_seven = refl

failure_is_kept : has_failed after_failure ≡ true
failure_is_kept = refl

end_is_kept : has_ended after_end ≡ true
end_is_kept = refl

not_used_late_yet : was_used_late after_end ≡ false
not_used_late_yet = refl

room_is_lacked : lacks_room after_failed_allocation ≡ true
room_is_lacked = refl

room_after_end : lacks_room after_end ≡ false
room_after_end = refl

not_read_without_room_yet : was_read_without_room after_failed_allocation ≡ false
not_read_without_room_yet = refl

read_after_failure : is_late_read after_failure ≡ true
read_after_failure = refl

write_after_failure : is_late_write after_failure ≡ true
write_after_failure = refl

read_after_end : is_late_read after_end ≡ true
read_after_end = refl

write_after_end : is_late_write after_end ≡ false
write_after_end = refl

no_byte_given : is_end {E = ℕ} (Ok 0) (codes "ab") ≡ true
no_byte_given = refl

no_byte_to_no_room : is_end {E = ℕ} (Ok 0) [] ≡ false
no_byte_to_no_room = refl

error_is_no_end : is_end {E = ℕ} (Err 5) (codes "ab") ≡ false
error_is_no_end = refl

one_byte_taken : is_failed_write {E = ℕ} (Ok 1) (codes "ab") ≡ false
one_byte_taken = refl

no_byte_taken : is_failed_write {E = ℕ} (Ok 0) (codes "ab") ≡ true
no_byte_taken = refl

no_byte_of_none : is_failed_write {E = ℕ} (Ok 0) [] ≡ false
no_byte_of_none = refl

error_at_no_byte : is_failed_write {E = ℕ} (Err 5) [] ≡ true
error_at_no_byte = refl

abbrev used_late : Watched ℕ
used_late = record after_end { used_late = true }

late_for_good : IsReadInTime used_late used_late
late_for_good = record { late = λ unended. refl; room = λ room. refl }

read_again_after_the_end : IsReadInTime after_end used_late
read_again_after_the_end = record { late = λ unended. absurd (true≢false unended); room = λ room. refl }

read_after_a_failure : IsReadInTime after_failure (record after_failure { used_late = true }) → ⊥
read_after_a_failure in_time = true≢false (in_time.late refl)

written_after_a_failure : IsWrittenInTime after_failure (record after_failure { used_late = true }) → ⊥
written_after_a_failure in_time = true≢false in_time.late

nothing_unread : IsReadToEnd (Some []) after_end
nothing_unread = record { nothing = refl; ended = refl }

end_not_found : IsReadToEnd (Some []) after_failure → ⊥
end_not_found read = false≢true read.ended
