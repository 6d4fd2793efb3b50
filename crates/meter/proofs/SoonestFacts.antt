-- A tree over the keys of numbers.
use Rattle.std.proofs.Common.{◌≡◌, ◌≢◌, ℕ, zero, suc, ◌+◌, ◌-◌, ◌*◌, ◌/◌, ◌%◌, ◌≤◌, ◌<◌, min, List, length, set, replicate, ap, inl, inr, arith, refl, sym, ◌∙◌, subst}
use Rattle.std.proofs.lemmas.Bool.{cases_eq, cases_lt}
use Rattle.std.proofs.lemmas.List.{length-set, get_or-set_same, get_or-set_other, length-replicate, get_or-replicate}
use Rattle.meter.specs.Soonests.{number_of, AreNodesBut, IsClimbing, IsRenewed, AreKeys, IsSoonest, IsLeastNumber, IsFirst, left_to}
use Rattle.meter.proofs.PlaceFacts.{sum_changed}

-- the leaf has its key
pub climb_begun : (tree : List ℕ) (leaf key : ℕ) → length tree ≤ 2 * leaf → leaf < length tree → AreNodesBut tree 1 →
    IsClimbing tree leaf key leaf key (set tree leaf key)
climb_begun tree leaf key high within nodes = record {
  low = omega arith;
  within = within;
  count = length-set tree leaf key;
  is = get_or-set_same tree leaf key 0 within;
  leaves = λ k h. refl;
  nodes = λ i h l ne nf. omega (
    arith,
    length-set tree leaf key,
    nodes i h (omega (arith, length-set tree leaf key)) (λ e. omega arith) (λ e. omega arith),
    get_or-set_other tree leaf i key 0 (λ e. omega (arith, length-set tree leaf key)),
    get_or-set_other tree leaf (2 * i) key 0 ne,
    get_or-set_other tree leaf (2 * i + 1) key 0 nf,
  );
}

-- the node above is right
pub climbed_one : (before : List ℕ) (leaf key at least s m : ℕ) (now : List ℕ) → length before % 2 ≡ 0 → 1 < at → s + at ≡ 4 * (at / 2) + 1 →
    m ≡ min least (number_of now s) → IsClimbing before leaf key at least now → IsClimbing before leaf key (at / 2) m (set now (at / 2) m)
climbed_one before leaf key at least s m now even high es em is =
    let up = at / 2 in
    let in_now : up < length now = omega (arith, is.within, is.count) in
    let here : number_of (set now up m) up ≡ m = get_or-set_same now up m 0 in_now in
    let two : min (number_of now (2 * up)) (number_of now (2 * up + 1)) ≡ m = elim (cases_eq at (2 * up)) [
      | inl e ↦
          let f : s ≡ 2 * up + 1 = omega (arith, es, e) in
          omega (arith, em, is.is, ap (number_of now) e, ap (number_of now) f)
      | inr ne ↦
          let e : at ≡ 2 * up + 1 = omega arith in
          let f : s ≡ 2 * up = omega (arith, es, e) in
          omega (arith, em, is.is, ap (number_of now) e, ap (number_of now) f)
    ] in
    record {
      low = omega arith;
      within = omega (arith, is.within);
      count = length-set now up m ∙ is.count;
      is = here;
      leaves = λ k h. get_or-set_other now up k m 0 (λ e. omega (arith, is.within)) ∙ is.leaves k h;
      nodes = λ i h l ne nf. elim (cases_eq i up) [
        | inl e ↦ subst (λ w. number_of (set now up m) w ≡ min (number_of (set now up m) (2 * w)) (number_of (set now up m) (2 * w + 1))) (sym e)
            (omega (
              arith,
              here,
              two,
              get_or-set_other now up (2 * up) m 0 (λ q. omega arith),
              get_or-set_other now up (2 * up + 1) m 0 (λ q. omega arith),
            ))
        | inr other ↦ omega (
          arith,
          is.nodes i h (omega (arith, length-set now up m)) (λ q. omega arith) (λ q. omega arith),
          get_or-set_other now up i m 0 other,
          get_or-set_other now up (2 * i) m 0 ne,
          get_or-set_other now up (2 * i + 1) m 0 nf,
        )
      ];
    }

-- at the root
pub climbed : (before : List ℕ) (leaf key at least : ℕ) (now : List ℕ) → at ≤ 1 → IsClimbing before leaf key at least now → IsRenewed before leaf key now
climbed before leaf key at least now low is =
    let e : at ≡ 1 = omega (arith, is.low) in
    record { count = is.count; leaves = is.leaves; nodes = subst (AreNodesBut now) e is.nodes }

-- one number replaced
pub soonest_set : (numbers tree : List ℕ) → IsSoonest numbers tree → (k number : ℕ) → k < length numbers → (after : List ℕ) →
    IsRenewed tree (length numbers + k) (number * 1024 + k) after → IsSoonest (set numbers k number) after
soonest_set numbers tree is k number b after new =
    let n = length-set numbers k number in
    record {
      some = omega (arith, n, is.some);
      few = omega (arith, n, is.few);
      count = omega (arith, n, is.count, new.count);
      keys = λ j l.
          let key = number * 1024 + k in
          let leaf : number_of after (length numbers + j) ≡ number_of (set tree (length numbers + k) key) (length numbers + j) =
          new.leaves (length numbers + j) (omega (arith, is.count)) in
          let place : number_of after (length (set numbers k number) + j) ≡ number_of after (length numbers + j) = ap (λ w. number_of after (w + j)) n in
          elim (cases_eq j k) [
            | inl e ↦ omega (
              arith,
              e,
              place,
              leaf,
              ap (λ w. number_of (set tree (length numbers + k) key) (length numbers + w)) e,
              get_or-set_same tree (length numbers + k) key 0 (omega (arith, is.count)),
              ap (number_of (set numbers k number)) e,
              get_or-set_same numbers k number 0 b,
            )
            | inr ne ↦ omega (
              arith,
              place,
              leaf,
              get_or-set_other tree (length numbers + k) (length numbers + j) key 0 (λ e. omega arith),
              get_or-set_other numbers k j number 0 ne,
              is.keys j (omega (arith, n)),
            )
          ];
      nodes = new.nodes;
    }

-- the keys of the first k places stand on the leaves
pub record IsPlanting (n k : ℕ) (tree : List ℕ) : Type 0 where
  pub count : length tree ≡ 2 * n
  pub keys : AreKeys (replicate n 0) tree k
  pub nodes : AreNodesBut tree 1

pub plant_begun : (count : ℕ) (tree : List ℕ) → tree ≡ replicate (2 * count) 0 → IsPlanting count 0 tree
plant_begun count tree e =
    let n : length tree ≡ 2 * count = ap length e ∙ length-replicate (2 * count) 0 in
    let zeros : (i : ℕ) → i < 2 * count → number_of tree i ≡ 0 = λ i l. ap (λ (xs : List ℕ). number_of xs i) e ∙ get_or-replicate (2 * count) i 0 0 l in
    record {
      count = n;
      keys = λ k l. absurd (omega arith);
      nodes = λ i h l ne nf. omega (arith, n, zeros i (omega (arith, n)), zeros (2 * i) (omega (arith, n)), zeros (2 * i + 1) (omega (arith, n)));
    }

pub planted_one : (count k : ℕ) (tree after : List ℕ) → k < count → IsPlanting count k tree → IsRenewed tree (count + k) k after →
    IsPlanting count (k + 1) after
planted_one count k tree after b is new =
    let n : length {A = ℕ} (replicate count 0) ≡ count = length-replicate count 0 in
    record {
      count = omega (arith, is.count, new.count);
      keys = λ j l.
          let place : number_of after (length {A = ℕ} (replicate count 0) + j) ≡ number_of after (count + j) = ap (λ w. number_of after (w + j)) n in
          let before : number_of tree (length {A = ℕ} (replicate count 0) + j) ≡ number_of tree (count + j) = ap (λ w. number_of tree (w + j)) n in
          let zero_at = get_or-replicate {A = ℕ} count j 0 0 (omega arith) in
          let leaf : number_of after (count + j) ≡ number_of (set tree (count + k) k) (count + j) = new.leaves (count + j) (omega (arith, is.count)) in
          elim (cases_eq j k) [
            | inl e ↦ omega (
              arith,
              e,
              place,
              leaf,
              zero_at,
              ap (λ w. number_of (set tree (count + k) k) (count + w)) e,
              get_or-set_same tree (count + k) k 0 (omega (arith, is.count)),
            )
            | inr ne ↦ omega (
              arith,
              place,
              before,
              leaf,
              zero_at,
              get_or-set_other tree (count + k) (count + j) k 0 (λ e. omega arith),
              is.keys j (omega arith),
            )
          ];
      nodes = new.nodes;
    }

pub planted : (count k : ℕ) (tree : List ℕ) → 0 < count → count ≤ 1000 → count ≤ k → IsPlanting count k tree → IsSoonest (replicate count 0) tree
planted count k tree some few all is =
    let n : length {A = ℕ} (replicate count 0) ≡ count = length-replicate count 0 in
    record {
      some = omega (arith, n);
      few = omega (arith, n);
      count = omega (arith, n, is.count);
      keys = λ j l. is.keys j (omega (arith, n));
      nodes = is.nodes;
    }

module _ (numbers tree : List ℕ) (is : IsSoonest numbers tree) where
  -- no node is below the root
  root_low : (d i : ℕ) → i ≤ d → 1 ≤ i → i < length tree → number_of tree 1 ≤ number_of tree i
  root_low zero i h low l = absurd (omega arith)
  root_low (suc d) i h low l = elim (cases_eq i 1) [
    | inl e ↦ omega (arith, ap (number_of tree) e)
    | inr ne ↦
        let up = i / 2 in
        let above = root_low d up (omega arith) (omega arith) (omega arith) in
        let node = is.nodes up (omega arith) (omega (arith, is.count)) (λ e. omega arith) (λ e. omega arith) in
        elim (cases_eq i (2 * up)) [
          | inl e ↦ omega (arith, above, node, ap (number_of tree) e)
          | inr odd ↦
              let e : i ≡ 2 * up + 1 = omega arith in
              omega (arith, above, node, ap (number_of tree) e)
        ]
  ]

  -- each node is the key of a number
  key_there : (d i : ℕ) → length tree ≤ i + d → 1 ≤ i → i < length tree → (k : ℕ) × (k < length numbers) × (number_of tree i ≡ number_of numbers k * 1024 + k)
  key_there zero i h low l = absurd (omega arith)
  key_there (suc d) i h low l = elim (cases_lt i (length numbers)) [
    | inr leaf ↦
        let place : i ≡ length numbers + (i - length numbers) = omega arith in
        let within : i - length numbers < length numbers = omega (arith, is.count) in
        (i - length numbers, within, ap (number_of tree) place ∙ is.keys (i - length numbers) within)
    | inl inner ↦
        let node = is.nodes i low (omega (arith, is.count)) (λ e. omega arith) (λ e. omega arith) in
        elim (cases_lt (number_of tree (2 * i)) (number_of tree (2 * i + 1))) [
          | inl less ↦
              let there = key_there d (2 * i) (omega arith) (omega arith) (omega (arith, is.count)) in
              (there.0, there.1, omega (arith, node, there.2))
          | inr more ↦
              let there = key_there d (2 * i + 1) (omega arith) (omega arith) (omega (arith, is.count)) in
              (there.0, there.1, omega (arith, node, there.2))
        ]
  ]

  -- no number is below the root's
  number_low : (m : ℕ) → m < length numbers → number_of tree 1 / 1024 ≤ number_of numbers m
  number_low m l = omega (
    arith,
    is.few,
    is.keys m l,
    root_low (length numbers + m) (length numbers + m) (omega arith) (omega (arith, is.some)) (omega (arith, is.count)),
  )

  pub least_there : IsLeastNumber numbers (number_of tree 1 / 1024)
  least_there =
      let there = key_there (length tree) 1 (omega arith) (omega arith) (omega (arith, is.count, is.some)) in
      record {
        least = number_low;
        stands = record { at = there.0; within = there.1; is = omega (arith, there.1, there.2, is.few) };
      }

  pub first_there : IsFirst numbers (number_of tree 1 % 1024)
  first_there =
      let there = key_there (length tree) 1 (omega arith) (omega arith) (omega (arith, is.count, is.some)) in
      let e : number_of tree 1 % 1024 ≡ there.0 = omega (arith, there.1, there.2, is.few) in
      subst (IsFirst numbers) (sym e) (record {
        within = there.1;
        least = λ m l. omega (arith, number_low m l, there.1, there.2, is.few);
      })

-- one of the numbers passed x, and the others stayed
pub fewer_left : (before after : List ℕ) (x o n : ℕ) → o < n → number_of before o ≤ x → x < number_of after o →
    ((k : ℕ) → k < n → k ≢ o → number_of after k ≡ number_of before k) → left_to after x n < left_to before x n
fewer_left before after x o n b low high same = omega (
  arith,
  sum_changed (λ k. x + 1 - number_of before k) (λ k. x + 1 - number_of after k) n o b
      (λ k l ne. ap (λ w. x + 1 - w) (same k l ne)),
)
