-- Laws of two axes as one: where one stride has the coordinates of both, and which stride does; an axis of length at most 1 adds nothing to
-- another one (short_taken, into_short), and else it goes on where that one ends (steps_on, steps_on_from_fit).
use Rattle.std.proofs.Common.{◌≡◌, ◌⊎◌, ℕ, ◌≤◌, ◌<◌, ℤ, pos, ◌*ℤ◌, true, inl, inr, refl, arith}
use Rattle.std.specs.Bool.{Decides}
use Rattle.std.specs.Ordering.{int_eq}
use Rattle.std.proofs.lemmas.Bool.{cases_lt, le-leb, lt-leb}
use Rattle.std.proofs.lemmas.Bool.Decides.{Decides-int_eq, nat_tests}
use Rattle.nd_shape.specs.Merge.{IsMergedStride, MergeFits, merge_fits, merged_stride}
pub use Rattle.nd_shape.proofs.MergedStride.{short_taken, into_short, steps_on, steps_on_from_fit}

-- why a merge fits, and which stride the merged axis has
pub record FewTaken (take_len : ℕ) (take_stride : ℤ) (into_len : ℕ) (into_stride : ℤ) : Type 0 where
  pub few : take_len ≤ 1
  pub stride : merged_stride take_len take_stride into_len into_stride ≡ into_stride

pub record IntoFew (take_len : ℕ) (take_stride : ℤ) (into_len : ℕ) (into_stride : ℤ) : Type 0 where
  pub more : 1 < take_len
  pub few : into_len ≤ 1
  pub stride : merged_stride take_len take_stride into_len into_stride ≡ take_stride

pub record StepsOn (take_len : ℕ) (take_stride : ℤ) (into_len : ℕ) (into_stride : ℤ) : Type 0 where
  pub taken : 1 < take_len
  pub into : 1 < into_len
  pub on : take_stride ≡ pos into_len *ℤ into_stride
  pub stride : merged_stride take_len take_stride into_len into_stride ≡ into_stride

abbrev pub HowItFits : ℕ → ℤ → ℕ → ℤ → Type 0
HowItFits take_len take_stride into_len into_stride =
    FewTaken take_len take_stride into_len into_stride
    ⊎ (IntoFew take_len take_stride into_len into_stride ⊎ StepsOn take_len take_stride into_len into_stride)

module _ (take_len : ℕ) (take_stride : ℤ) (into_len : ℕ) (into_stride : ℤ) where
  pub how_it_fits : merge_fits take_len take_stride into_len into_stride ≡ true → HowItFits take_len take_stride into_len into_stride
  how_it_fits h =
      elim (cases_lt 1 take_len) [
        | inr few ↦ inl (record {
          few = few;
          stride = grind (arith, nat_tests);
        })
        | inl more ↦ elim (cases_lt 1 into_len) [
          | inr few ↦ inr (inl (record {
            more = more;
            few = few;
            stride = grind (arith, nat_tests);
          }))
          | inl into ↦
              let on : int_eq take_stride (pos into_len *ℤ into_stride) ≡ true = rw (lt-leb take_len 1 more, lt-leb into_len 1 into) at h in
              inr (inr (record {
                taken = more;
                into = into;
                on = (Decides-int_eq take_stride (pos into_len *ℤ into_stride)).0 on;
                stride = grind (arith, nat_tests);
              }))
        ]
      ]

  -- where it fits, the stride of the merged axis has every coordinate of both
  pub merged_stride_serves : merge_fits take_len take_stride into_len into_stride ≡ true
      → IsMergedStride take_len take_stride into_len into_stride (merged_stride take_len take_stride into_len into_stride)
  merged_stride_serves h =
      elim (how_it_fits h) [
        | inl k ↦ rw k.stride (short_taken take_len take_stride into_len into_stride k.few)
        | inr k ↦ elim k [
          | inl k ↦ rw k.stride (into_short take_len take_stride into_len into_stride k.few)
          | inr k ↦ rw k.stride (steps_on take_len take_stride into_len into_stride k.on)
        ]
      ]

  -- the test answers where some stride does
  pub merge_fits-Decides : Decides (merge_fits take_len take_stride into_len into_stride)
      (MergeFits take_len take_stride into_len into_stride)
  merge_fits-Decides = (
    λ h. (merged_stride take_len take_stride into_len into_stride, merged_stride_serves h),
    λ fits.
        elim (cases_lt 1 take_len) [
          | inr few ↦ rw (le-leb take_len 1 few) refl
          | inl more ↦ elim (cases_lt 1 into_len) [
            | inr short ↦ rw (lt-leb take_len 1 more, le-leb into_len 1 short) refl
            | inl long ↦ rw (lt-leb take_len 1 more, lt-leb into_len 1 long)
                ((Decides-int_eq take_stride (pos into_len *ℤ into_stride)).1
                (steps_on_from_fit take_len take_stride into_len into_stride more long fits))
          ]
        ],
  )
