-- A sheet with another priority is valid.
use Rattle.std.proofs.Common.{◌≡◌, ◌≢◌, ℕ, ◌<◌, ◌≤◌, List, [], ◌++◌, length, get_or, take, drop, refl, sym, ap, ◌∙◌, subst, inl, inr, arith}
use Rattle.std.specs.List.{refill}
use Rattle.std.proofs.Math.ListN.{set}
use Rattle.std.proofs.lemmas.Bool.{cases_eq}
use Rattle.std.proofs.lemmas.List.{get_or-set_same, get_or-set_other, length-set, drop_all, take_all, append-nil, get_or_default}
use Rattle.lists.specs.Limits.{greatest_number}
use Rattle.task_sheet.specs.SheetParts.{SheetParts}
use Rattle.task_sheet.specs.Sheets.{no_task, task_at, IsTask, IsValidSheet}
use Rattle.task_sheet.specs.Priorities.{prioritized, with_priority, with_fp}
use Rattle.task_sheet.specs.declared.tasks.Task.{Task}

pub task_prioritized : (t : Task) (p : ℕ) → IsTask t → p ≤ greatest_number → IsTask (prioritized t p)
task_prioritized t p is high = record {
  name = is.name;
  cost_low = is.cost_low;
  cost_high = is.cost_high;
  deadline_low = is.deadline_low;
  deadline_high = is.deadline_high;
  priority_high = high;
  jitter_high = is.jitter_high;
  point = is.point;
  curve = is.curve;
  cut = is.cut;
}

module _ (sheet : SheetParts) (i p : ℕ) (in_range : i < length sheet.tasks) where
  pub task_there : task_at (with_priority sheet i p) i ≡ prioritized (task_at sheet i) p
  task_there = get_or-set_same sheet.tasks i (prioritized (task_at sheet i) p) no_task in_range

  pub task_elsewhere : (k : ℕ) → k ≢ i → task_at (with_priority sheet i p) k ≡ task_at sheet k
  task_elsewhere k other = get_or-set_other sheet.tasks i k (prioritized (task_at sheet i) p) no_task other

  pub tasks_count : length (with_priority sheet i p).tasks ≡ length sheet.tasks
  tasks_count = length-set sheet.tasks i (prioritized (task_at sheet i) p)

  same_name : (k : ℕ) → (task_at (with_priority sheet i p) k).name ≡ (task_at sheet k).name
  same_name k = elim (cases_eq k i) [
    | inl e ↦
        ap (λ (w : ℕ). (task_at (with_priority sheet i p) w).name) e ∙ ap (λ (t : Task). t.name) task_there ∙
        ap (λ (w : ℕ). (task_at sheet w).name) (sym e)
    | inr other ↦ ap (λ (t : Task). t.name) (task_elsewhere k other)
  ]

  each_valid : IsValidSheet sheet → p ≤ greatest_number → (k : ℕ) → k < length sheet.tasks → IsTask (task_at (with_priority sheet i p) k)
  each_valid ok high k b = elim (cases_eq k i) [
    | inl e ↦
        subst (λ (w : ℕ). IsTask (task_at (with_priority sheet i p) w)) (sym e)
        (subst IsTask (sym task_there) (task_prioritized (task_at sheet i) p (ok.each i in_range) high))
    | inr other ↦ subst IsTask (sym (task_elsewhere k other)) (ok.each k b)
  ]

  pub valid_with_priority : IsValidSheet sheet → p ≤ greatest_number → IsValidSheet (with_priority sheet i p)
  valid_with_priority ok high = record {
    supply = ok.supply;
    some = omega (arith, ok.some, tasks_count);
    few = omega (arith, ok.few, tasks_count);
    each = λ k b. each_valid ok high k (omega (arith, b, tasks_count));
    distinct = λ k l lt b e. ok.distinct k l lt (omega (arith, b, tasks_count)) (sym (same_name k) ∙ e ∙ same_name l);
  }

pub valid_with_fp : (sheet : SheetParts) → IsValidSheet sheet → IsValidSheet (with_fp sheet)
valid_with_fp sheet ok = record { supply = ok.supply; some = ok.some; few = ok.few; each = λ i b. ok.each i b; distinct = λ i k l b. ok.distinct i k l b }

-- a whole list in the place of one of the same length
pub refill_whole : {X : Type 0} (xs ws : List X) → length ws ≡ length xs → refill (length xs) xs ws ≡ ws
refill_whole xs ws e =
    let none : drop (length ws) xs ≡ [] = drop_all (length ws) xs (omega (arith, e)) in
    ap (λ (rest : List _). take (length xs) (ws ++ rest)) none ∙ ap (take (length xs)) (append-nil ws) ∙ take_all (length xs) ws (omega (arith, e))

-- the sheet is valid once the slice is given back
pub given_back_valid : (sheet : SheetParts) (now : List Task) (i p : ℕ) (d : Task) → IsValidSheet sheet → now ≡ sheet.tasks → i < length sheet.tasks →
    p ≤ greatest_number →
    IsValidSheet (record {
      policy = sheet.policy;
      supply = sheet.supply;
      tasks = refill (length sheet.tasks) sheet.tasks (set now i (prioritized (get_or now i d) p));
    })
given_back_valid sheet now i p d ok same b high =
    let same_task : get_or now i d ≡ task_at sheet i = ap (λ (ts : List Task). get_or ts i d) same ∙ get_or_default sheet.tasks i d no_task b in
    let changed : set now i (prioritized (get_or now i d) p) ≡ (with_priority sheet i p).tasks =
    ap (λ (ts : List Task). set ts i (prioritized (get_or now i d) p)) same ∙
    ap (λ (t : Task). set sheet.tasks i (prioritized t p)) same_task in
    let whole : refill (length sheet.tasks) sheet.tasks (set now i (prioritized (get_or now i d) p)) ≡ (with_priority sheet i p).tasks =
    ap (refill (length sheet.tasks) sheet.tasks) changed ∙ refill_whole sheet.tasks (with_priority sheet i p).tasks (tasks_count sheet i p b) in
    subst (λ (ts : List Task). IsValidSheet (record { policy = sheet.policy; supply = sheet.supply; tasks = ts })) (sym whole)
    (valid_with_priority sheet i p b ok high)
