-- Where a position lies so many steps on, or back.
use Rattle.std.proofs.Common.{◌≡◌, ℕ, suc, ◌+◌, ◌*◌, ap, sym, ◌∙◌, ℤ, pos, negsuc, neg_ℤ, ◌+ℤ◌, ◌*ℤ◌}
use Rattle.std.proofs.Math.IntN.{*ℤ-negsuc, +ℤ-neg_ℤ_cancel, *ℤ_comm}
use Rattle.nd_base.proofs.Laws.Times.{times_neg, times_sum, times_times}

-- so many steps on
pub times_up : (first j k : ℕ) (s : ℤ) → pos (first + j * k) *ℤ s ≡ (pos first *ℤ s) +ℤ (pos j *ℤ (s *ℤ pos k))
times_up first j k s =
    times_sum first (j * k) s
    ∙ ap (λ x. (pos first *ℤ s) +ℤ x) (sym (times_times j k s) ∙ ap (λ x. pos j *ℤ x) (*ℤ_comm (pos k) s))

-- so many steps back
pub times_down : (last j k : ℕ) (s : ℤ) → (pos (last + j * suc k) *ℤ s) +ℤ (pos j *ℤ (s *ℤ negsuc k)) ≡ pos last *ℤ s
times_down last j k s =
    let forth = times_up last j (suc k) s in
    let back : pos j *ℤ (s *ℤ negsuc k) ≡ neg_ℤ (pos j *ℤ (s *ℤ pos (suc k))) = ap (λ x. pos j *ℤ x) (*ℤ-negsuc s k)
    ∙ times_neg j (s *ℤ pos (suc k)) in
    ap (λ x. x +ℤ (pos j *ℤ (s *ℤ negsuc k))) forth ∙ ap (λ x. ((pos last *ℤ s) +ℤ (pos j *ℤ (s *ℤ pos (suc k)))) +ℤ x) back
    ∙ +ℤ-neg_ℤ_cancel (pos last *ℤ s) (pos j *ℤ (s *ℤ pos (suc k)))
