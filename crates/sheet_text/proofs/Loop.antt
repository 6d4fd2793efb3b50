use Rattle.std.proofs.Common.{◌≡◌, ℕ, ◌+◌, ◌<◌, ◌≤◌, true, false, List, [], ◌∷◌, ◌++◌, ◌∙◌, sym, refl, inl, inr, get_or, Result, Ok, length}
use Rattle.std.proofs.Common.{length-append, map, drop, String, Global, string_bytes, append_assoc, add-zero, zero-add, arith}
use Rattle.std.specs.Prelude.{bytes_eq}
use Rattle.std.specs.List.{list_any}
use Rattle.std.proofs.lemmas.Bool.{cases_lt, le-leb}
use Rattle.std.proofs.lemmas.List.{append-nil, get_or_append_left, get_or_at}
use Rattle.toml.specs.declared.value.Value.{Value}
use Rattle.toml.specs.View.{view, items_view}
use Rattle.toml.proofs.Views.{items_view-drop}
use Rattle.curve.specs.Validity.{IsCurve}
use Rattle.task_sheet.specs.declared.tasks.PolicyKind.{PolicyKind}
use Rattle.task_sheet.specs.declared.tasks.Task.{Task}
use Rattle.task_sheet.specs.declared.refusal.SheetRefusal.{SheetRefusal}
use Rattle.task_sheet.specs.Rules.{is_name, is_in_range, is_priority_point, most_jitter, cut_rule, task_rule, tasks_rule}
use Rattle.task_sheet.specs.Sheets.{no_task}
use Rattle.task_sheet.proofs.RuleFacts.{both_hold}
use Rattle.sheet_text.specs.TaskRows.{task_of, tasks_after, names_of}

-- what stands between two tasks
pub record Stands (policy : PolicyKind) (tasks : List Task) (names : List (String Global)) (i : ℕ) (items : List Value) : Type 0 where
  pub within : i ≤ length items
  pub counted : length tasks ≡ i
  pub named : map string_bytes names ≡ names_of tasks
  pub rules : tasks_rule 0 [] tasks ≡ Ok tt
  pub curves : (k : ℕ) → k < length tasks → IsCurve (get_or tasks k no_task).curve
  pub goes_on : tasks_after policy tasks (items_view (drop i items)) ≡ tasks_after policy [] (items_view items)

goes_on : (policy : PolicyKind) (done : List Task) (t : Task) (i : ℕ) (items : List Value) (v : Value)
    (total : Result (List Task) SheetRefusal) → i < length items → task_of policy (length done) (names_of done) (view (get_or items i v)) ≡ Ok t →
    tasks_after policy done (items_view (drop i items)) ≡ total → tasks_after policy (done ++ t ∷ []) (items_view (drop (i + 1) items)) ≡ total
unfolding tasks_after
goes_on policy done t i items v total within read so_far =
    let step = items_view-drop items i v within in
    let one : tasks_after policy done (items_view (drop i items)) ≡ tasks_after policy (done ++ t ∷ [])
    (items_view (drop (i + 1) items)) = rw (step, read) refl in
    sym one ∙ so_far

pub next_goes_on : (policy : PolicyKind) (tasks : List Task) (names : List (String Global)) (n i : ℕ) (items : List Value)
    (t : Task) (v : Value) → Stands policy tasks names i items → i < length items → v ≡ get_or items i v → n ≡ length tasks →
    task_of policy n (map string_bytes names) (view v) ≡ Ok t →
    tasks_after policy (tasks ++ t ∷ []) (items_view (drop (i + 1) items)) ≡ tasks_after policy [] (items_view items)
next_goes_on policy tasks names n i items t v before within here count read =
    let again : task_of policy (length tasks) (names_of tasks) (view (get_or items i v)) ≡ Ok t = rw (← before.named, ← here, ← count) read in
    goes_on policy tasks t i items v _ within again before.goes_on

tasks_rule-push : (n : ℕ) (names : List (List ℕ)) (ts : List Task) (t : Task) → tasks_rule n names ts ≡ Ok tt →
    task_rule (n + length ts) (names ++ names_of ts) t ≡ Ok tt → tasks_rule n names (ts ++ t ∷ []) ≡ Ok tt
tasks_rule-push n names [] t before this =
    let again : task_rule n names t ≡ Ok tt = rw (add-zero, append-nil) at this in
    rw again refl
tasks_rule-push n names (x ∷ ts) t before this =
    let parts : (task_rule n names x ≡ Ok tt) × (tasks_rule (n + 1) (names ++ x.name ∷ []) ts ≡ Ok tt) = both_hold _ _ _ before in
    let place : n + 1 + length ts ≡ n + length (x ∷ ts) = omega arith in
    let rest : tasks_rule (n + 1) (names ++ x.name ∷ []) (ts ++ t ∷ []) ≡ Ok tt =
    tasks_rule-push (n + 1) (names ++ x.name ∷ []) ts t parts.1 (rw (place, append_assoc) this) in
    rw (parts.0, rest) refl

pub next_rules : (tasks : List Task) (names : List (String Global)) (n : ℕ) (t : Task) → map string_bytes names ≡ names_of tasks →
    tasks_rule 0 [] tasks ≡ Ok tt → n ≡ length tasks → task_rule n (map string_bytes names) t ≡ Ok tt → tasks_rule 0 [] (tasks ++ t ∷ []) ≡ Ok tt
next_rules tasks names n t same before count this = tasks_rule-push 0 [] tasks t before (rw (zero-add, ← same, ← count) this)

pub next_curves : (tasks : List Task) (t : Task) → ((k : ℕ) → k < length tasks → IsCurve (get_or tasks k no_task).curve) →
    IsCurve t.curve → (k : ℕ) → k < length (tasks ++ t ∷ []) → IsCurve (get_or (tasks ++ t ∷ []) k no_task).curve
next_curves tasks t before this k l = elim (cases_lt k (length tasks)) [
  | inl c ↦ rw (get_or_append_left tasks (t ∷ []) no_task k c) (before k c)
  | inr c ↦
      let last : length tasks ≡ k = omega (arith, length-append tasks (t ∷ [])) in
      rw (get_or_at tasks t [] no_task k last) this
]

-- what the rows of a task show is its rule
pub task_rule_from : (n : ℕ) (names : List (List ℕ)) (t : Task) → is_name t.name ≡ true →
    list_any (bytes_eq t.name) names ≡ false → is_in_range t.cost ≡ true → is_in_range t.deadline ≡ true →
    t.priority ≤ 1000000000 → t.jitter ≤ most_jitter → is_priority_point t.point ≡ true → cut_rule n t.cost t.cut ≡ Ok tt →
    task_rule n names t ≡ Ok tt
unfolding task_rule
task_rule_from n names t plain fresh cost deadline priority jitter point cut =
    rw (plain, fresh, cost, deadline, le-leb t.priority 1000000000 priority, le-leb t.jitter most_jitter jitter, point, cut) refl
