-- Groups that are cut where an item begins past all of its group: what is known of those so far, and one more.
use Rattle.std.proofs.Common.{◌≡◌, ◌≢◌, ℕ, ◌+◌, ◌<◌, ◌≤◌, ◌⊎◌, inl, inr, below_more, arith, sym, ◌∙◌, subst}
use Rattle.std.proofs.lemmas.Bool.{cases_lt}

-- items by the numbers of their groups, where they begin and where they end
module _ (group start end : ℕ → ℕ) (count : ℕ) where
  -- they stand group after group, and in each of them by where they begin
  abbrev pub Sorted : Type 0
  Sorted = (i j : ℕ) → i < j → j < count → (group i < group j) ⊎ ((group i ≡ group j) × (start i ≤ start j))

  -- two were in different groups, or the one ends before the other begins
  abbrev pub ArePart : ℕ → ℕ → Type 0
  ArePart i j = (group i ≢ group j) ⊎ (end i ≤ start j)

  -- the first `index` items in new groups, up to one that had the number last, and ends at reach or before
  pub record CutSoFar (index : ℕ) (new : ℕ → ℕ) (number last reach : ℕ) : Type 0 where
    pub under : (i : ℕ) → i < index → new i ≤ number
    pub in_order : (j : ℕ) → j < index → (i : ℕ) → i < j → new i ≤ new j
    pub parted : (j : ℕ) → j < index → (i : ℕ) → i < j → new i ≢ new j → ArePart i j
    pub here : (i : ℕ) → i < index → new i ≡ number → (group i ≡ last) × (end i ≤ reach)
    pub past : (i j : ℕ) → i < index → index ≤ j → j < count → new i ≢ number → ArePart i j
    pub before : (j : ℕ) → index ≤ j → j < count → last ≤ group j

  -- the new numbers with one more
  pub record OneMore (index : ℕ) (new more : ℕ → ℕ) (number : ℕ) : Type 0 where
    pub same : (i : ℕ) → i < index → more i ≡ new i
    pub at : more index ≡ number
    pub below : index < count

  module _ (sorted : Sorted) (index : ℕ) (new more : ℕ → ℕ) (number last reach : ℕ) (so_far : CutSoFar index new number last reach) where
    -- one that was in another group, or begins past all of its group, is parted from all before it, as all after it are
    apart_from_group : (group index ≢ last) ⊎ (reach ≤ start index) → index < count → (i j : ℕ) → i < index → new i ≡ number
        → index ≤ j → j < count → ArePart i j
    apart_from_group cuts below i j before is after under =
        let known = so_far.here i before is in
        let later = so_far.before index (omega arith) below in
        elim (cases_lt index j) [
          | inl more ↦ elim (sorted index j more under) [
            | inl less ↦ inl (λ e. omega (arith, e, known.0, later, less))
            | inr same ↦ elim cuts [
              | inl other ↦ inl (λ e. other (omega (arith, e, known.0, later, same.0)))
              | inr past ↦ inr (omega (arith, known.1, past, same.1))
            ]
          ]
          | inr at ↦ elim cuts [
            | inl other ↦ inl (λ e. other (subst (λ k. group k ≡ last) {x = j} (omega (arith, at, after)) (sym e ∙ known.0)))
            | inr past ↦ inr (subst (λ k. end i ≤ start k) {x = index} (omega (arith, at, after)) (omega (arith, known.1, past)))
          ]
        ]

    apart_from_all : (group index ≢ last) ⊎ (reach ≤ start index) → index < count → (i j : ℕ) → i < index → index ≤ j → j < count
        → ArePart i j
    apart_from_all cuts below i j before after under = elim (cases_lt (new i) number) [
      | inl less ↦ so_far.past i j before after under (λ e. omega (arith, e, less))
      | inr at ↦ apart_from_group cuts below i j before (omega (arith, at, so_far.under i before)) after under
    ]

    -- a group begins
    pub new_group : (group index ≢ last) ⊎ (reach ≤ start index) → OneMore index new more (number + 1) → (far : ℕ) → end index ≤ far
        → CutSoFar (index + 1) more (number + 1) (group index) far
    new_group cuts one far reaches =
        let low : (i : ℕ) → i < index → more i ≤ number = λ i before. omega (arith, one.same i before, so_far.under i before) in
        record {
          under = below_more (λ i. more i ≤ number + 1) index (λ i before. omega (arith, low i before)) (omega (arith, one.at));
          in_order = below_more (λ j. (i : ℕ) → i < j → more i ≤ more j) index
              (λ j below i before.
              omega (arith, one.same j below, one.same i (omega (arith, before, below)), so_far.in_order j below i before))
              (λ i before. omega (arith, low i before, one.at));
          parted = below_more (λ j. (i : ℕ) → i < j → more i ≢ more j → ArePart i j) index
              (λ j below i before ne. so_far.parted j below i before
              (λ e. ne (one.same i (omega (arith, before, below)) ∙ e ∙ sym (one.same j below))))
              (λ i before ne. apart_from_all cuts one.below i index before (omega arith) one.below);
          here = below_more (λ i. more i ≡ number + 1 → (group i ≡ group index) × (end i ≤ far)) index
              (λ i before is. absurd (omega (arith, low i before, is))) (λ is. (omega arith, reaches));
          past = λ i j before after under ne. elim (cases_lt i index) [
            | inl below ↦ apart_from_all cuts one.below i j below (omega (arith, after)) under
            | inr at ↦ absurd (ne (subst (λ k. more k ≡ number + 1) {x = index} (omega (arith, at, before)) one.at))
          ];
          before = λ j after under. elim (sorted index j (omega (arith, after)) under) [
            | inl less ↦ omega (arith, less)
            | inr same ↦ omega (arith, same.0)
          ];
        }

    -- one more of the same group
    pub same_group : group index ≡ last → OneMore index new more number → (far : ℕ) → reach ≤ far → end index ≤ far
        → CutSoFar (index + 1) more number last far
    same_group is_last one far further reaches = record {
      under = below_more (λ i. more i ≤ number) index (λ i before. omega (arith, one.same i before, so_far.under i before))
          (omega (arith, one.at));
      in_order = below_more (λ j. (i : ℕ) → i < j → more i ≤ more j) index
          (λ j below i before. omega (arith, one.same j below, one.same i (omega (arith, before, below)), so_far.in_order j below i before))
          (λ i before. omega (arith, one.same i before, so_far.under i before, one.at));
      parted = below_more (λ j. (i : ℕ) → i < j → more i ≢ more j → ArePart i j) index
          (λ j below i before ne. so_far.parted j below i before
          (λ e. ne (one.same i (omega (arith, before, below)) ∙ e ∙ sym (one.same j below))))
          (λ i before ne. so_far.past i index before (omega arith) one.below
          (λ e. ne (one.same i before ∙ e ∙ sym one.at)));
      here = below_more (λ i. more i ≡ number → (group i ≡ last) × (end i ≤ far)) index
          (λ i before is. let known = so_far.here i before (sym (one.same i before) ∙ is) in (known.0, omega (arith, known.1, further)))
          (λ is. (is_last, reaches));
      past = λ i j before after under ne. elim (cases_lt i index) [
        | inl below ↦ so_far.past i j below (omega (arith, after)) under (λ e. ne (one.same i below ∙ e))
        | inr at ↦ absurd (ne (subst (λ k. more k ≡ number) {x = index} (omega (arith, at, before)) one.at))
      ];
      before = λ j after under. so_far.before j (omega (arith, after)) under;
    }
