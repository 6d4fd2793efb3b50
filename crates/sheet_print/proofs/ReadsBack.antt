-- What is printed reads again.
use Rattle.std.proofs.Common.{◌≡◌, ℕ, ℤ, pos, negsuc, ◌+◌, ◌<◌, ◌≤◌, true, zero, suc, List, [], ◌∷◌, ◌++◌, length, length-append, get_or, map, codes}
use Rattle.std.proofs.Common.{refl, ◌∙◌, arith, append_assoc, Some, None, Ok}
use Rattle.std.proofs.lemmas.Bool.{and_from, le-leb}
use Rattle.std.proofs.lemmas.List.{append-nil, map_push}
use Rattle.toml.specs.Text.{are_tables}
use Rattle.toml.specs.Data.{Data, string, table, get}
use Rattle.toml.specs.View.{items_of}
use Rattle.lists.specs.Ranges.{is_between}
use Rattle.curve.specs.declared.prefix.Step.{Step}
use Rattle.curve.specs.CurveValue.{Curve}
use Rattle.curve.specs.Validity.{IsCurve}
use Rattle.curve.proofs.CurveFacts.{curve_passes}
use Rattle.task_sheet.specs.declared.tasks.PolicyKind.{PolicyKind}
use Rattle.task_sheet.specs.declared.tasks.PolicyKind.TheVariants.{Fp, Edf, Fifo, Gel, Elf}
use Rattle.task_sheet.specs.declared.tasks.SupplySpec.{SupplySpec}
use Rattle.task_sheet.specs.declared.tasks.SupplySpec.TheVariants.{Unit as Whole, Promised}
use Rattle.task_sheet.specs.declared.tasks.Cut.{Cut}
use Rattle.task_sheet.specs.declared.tasks.Cut.TheVariants.{Full, Never, Fixed, Floating}
use Rattle.task_sheet.specs.declared.tasks.Task.{Task}
use Rattle.task_sheet.specs.declared.refusal.Place.{Place}
use Rattle.task_sheet.specs.declared.refusal.Place.TheVariants as places
use Rattle.task_sheet.specs.SheetParts.{SheetParts}
use Rattle.task_sheet.specs.Rules.{is_in_range, is_priority_point, most_jitter, supply_rule, cut_rule, task_rule, tasks_rule}
use Rattle.task_sheet.specs.Sheets.{parts_of, no_task, IsValidSheet}
use Rattle.task_sheet.specs.Words.{policy_word}
use Rattle.task_sheet.proofs.RuleFacts.{both_hold, holds_means, positive_from, positive_high, cut_passes, promise_passes, task_means, tasks_from_valid}
use Rattle.sheet_text.specs.Documents.{knows_only, number_of, all_of, items_count}
use Rattle.sheet_text.specs.SupplyRows.{promised_rule, given_rule}
use Rattle.sheet_text.specs.CurveRows.{step_of, curve_rule}
use Rattle.sheet_text.specs.CutRows.{segmented_rule, preemption_rule}
use Rattle.sheet_text.specs.TaskRows.{task_keys, name_rule, jitter_rule, point_rule, numbers_rule, names_of, task_of, tasks_after}
use Rattle.sheet_text.specs.SheetRows.{policy_rule, sheet_of}
use Rattle.sheet_print.specs.Printed.{number_data, step_data, curve_data, cut_data, task_data, promise_data, sheet_data}

numbers_again : (xs : List ℕ) → all_of number_of (items_of (map number_data xs)) ≡ Some xs
numbers_again [] = refl
numbers_again (x ∷ xs) = rw (numbers_again xs) refl

steps_again : (xs : List Step) → all_of step_of (items_of (map step_data xs)) ≡ Some xs
steps_again [] = refl
steps_again (x ∷ xs) = rw (steps_again xs) refl

curve_again : (place : Place) (c : Curve) → IsCurve c → curve_rule place (curve_data c) ≡ Ok c
unfolding curve_rule
curve_again place c ok =
    let horizon : is_between 1 1000000000 c.horizon ≡ true = positive_from c.horizon ok.horizon_low ok.horizon_high in
    rw (horizon, steps_again c.steps, curve_passes c ok) refl

cut_again : (n cost : ℕ) (cut : Cut) → cut_rule n cost cut ≡ Ok tt → preemption_rule n cost (Some (cut_data cut)) ≡ Ok cut
unfolding segmented_rule
cut_again n cost Full h = refl
cut_again n cost Never h = refl
cut_again n cost (Fixed segments) h = rw (numbers_again segments, h) refl
cut_again n cost (Floating longest) h = rw h refl

up_to : (most n : ℕ) → n ≤ most → is_between 0 most n ≡ true
up_to most n h = and_from _ _ (le-leb 0 n (omega arith)) (le-leb n most h)

-- a value that has these members is read as the task
task_shown : (policy : PolicyKind) (n : ℕ) (names : List (List ℕ)) (t : Task) (d : Data) → task_rule n names t ≡ Ok tt →
    IsCurve t.curve → knows_only task_keys d ≡ true →
    get (codes "name") d ≡ Some (string t.name) → get (codes "cost") d ≡ Some (number_data t.cost) →
    get (codes "deadline") d ≡ Some (number_data t.deadline) → get (codes "priority") d ≡ Some (number_data t.priority) →
    jitter_rule (places.Task n) (get (codes "jitter") d) ≡ Ok t.jitter → point_rule (places.Task n) (get (codes "point") d) ≡ Ok t.point →
    get (codes "period") d ≡ None → get (codes "curve") d ≡ Some (curve_data t.curve) → get (codes "preemption") d ≡ Some (cut_data t.cut) →
    task_of policy n names d ≡ Ok t
unfolding task_of name_rule numbers_rule
task_shown policy n names t d rule valid known name cost deadline priority jitter point period curve cut =
    let means = task_means n names t rule in
    let high = up_to 1000000000 t.priority means.priority in
    let fits = cut_again n t.cost t.cut (cut_passes n t.cost t.cut (positive_high t.cost means.cost) means.cut) in
    rw (
      known,
      name,
      means.name,
      means.fresh,
      cost,
      means.cost,
      deadline,
      means.deadline,
      priority,
      high,
      jitter,
      point,
      period,
      curve,
      curve_again _ t.curve valid,
      cut,
      fits,
    ) refl

-- the task with this jitter and this priority point
abbrev with_both : Task → ℕ → ℤ → Task
with_both t j q = record t { jitter = j; point = q }

-- with any jitter and any priority point, which are printed where they are not 0
both_again : (policy : PolicyKind) (n : ℕ) (names : List (List ℕ)) (t : Task) (j : ℕ) (q : ℤ) →
    is_between 0 most_jitter j ≡ true → is_priority_point q ≡ true → task_rule n names (with_both t j q) ≡ Ok tt → IsCurve t.curve →
    task_of policy n names (task_data (with_both t j q)) ≡ Ok (with_both t j q)
both_again policy n names t zero (pos zero) late near rule curve = task_shown policy n names _ _ rule curve refl refl refl refl refl refl refl refl refl refl
both_again policy n names t zero (pos (suc q)) late near rule curve =
    task_shown policy n names _ _ rule curve refl refl refl refl refl refl (rw near refl) refl refl refl
both_again policy n names t zero (negsuc q) late near rule curve =
    task_shown policy n names _ _ rule curve refl refl refl refl refl refl (rw near refl) refl refl refl
both_again policy n names t (suc j) (pos zero) late near rule curve =
    task_shown policy n names _ _ rule curve refl refl refl refl refl (rw late refl) refl refl refl refl
both_again policy n names t (suc j) (pos (suc q)) late near rule curve =
    task_shown policy n names _ _ rule curve refl refl refl refl refl (rw late refl) (rw near refl) refl refl refl
both_again policy n names t (suc j) (negsuc q) late near rule curve =
    task_shown policy n names _ _ rule curve refl refl refl refl refl (rw late refl) (rw near refl) refl refl refl

task_again : (policy : PolicyKind) (n : ℕ) (names : List (List ℕ)) (t : Task) → task_rule n names t ≡ Ok tt → IsCurve t.curve →
    task_of policy n names (task_data t) ≡ Ok t
task_again policy n names t rule curve =
    let means = task_means n names t rule in
    both_again policy n names t t.jitter t.point (up_to most_jitter t.jitter means.jitter) means.point rule curve

tasks_again : (policy : PolicyKind) (done ts : List Task) → tasks_rule (length done) (names_of done) ts ≡ Ok tt →
    ((i : ℕ) → i < length ts → IsCurve (get_or ts i no_task).curve) → tasks_after policy done (items_of (map task_data ts)) ≡ Ok (done ++ ts)
unfolding tasks_after
tasks_again policy done [] rules curves = rw append-nil refl
tasks_again policy done (t ∷ ts) rules curves =
    let parts : (task_rule (length done) (names_of done) t ≡ Ok tt) ×
    (tasks_rule (length done + 1) (names_of done ++ t.name ∷ []) ts ≡ Ok tt) = both_hold _ _ _ rules in
    let again : task_of policy (length done) (names_of done) (task_data t) ≡ Ok t =
    task_again policy (length done) (names_of done) t parts.0 (curves 0 (omega arith)) in
    let names : names_of (done ++ t ∷ []) ≡ names_of done ++ t.name ∷ [] = map_push (λ (x : Task). x.name) done t in
    let count : length (done ++ t ∷ []) ≡ length done + 1 = length-append done (t ∷ []) in
    let rest : tasks_after policy (done ++ t ∷ []) (items_of (map task_data ts)) ≡ Ok ((done ++ t ∷ []) ++ ts) =
    tasks_again policy (done ++ t ∷ []) ts (rw (names, count) parts.1) (λ i l. curves (suc i) (omega arith)) in
    rw again (rest ∙ rw append_assoc refl)

policy_again : (p : PolicyKind) → policy_rule (string (policy_word p)) ≡ Ok p
policy_again Fp = refl
policy_again Edf = refl
policy_again Fifo = refl
policy_again Gel = refl
policy_again Elf = refl

promise_again : (horizon : ℕ) (times : List ℕ) → supply_rule (Promised horizon times) ≡ Ok tt →
    given_rule (promise_data horizon times) ≡ Ok (Promised horizon times)
unfolding given_rule promised_rule
promise_again horizon times h =
    let first = both_hold _ _ _ (both_hold _ _ _ h).0 in
    let positive : is_in_range horizon ≡ true = holds_means _ _ first.0 in
    rw (positive, numbers_again times, h) refl

tables : (ts : List Task) → are_tables (items_of (map task_data ts)) ≡ true
tables [] = refl
tables (t ∷ ts) = tables ts

many : (ts : List Task) → items_count (items_of (map task_data ts)) ≡ length ts
many [] = refl
many (t ∷ ts) = omega (arith, many ts)

-- a sheet's document says that sheet
pub document_again : (p : PolicyKind) (s : SupplySpec) (ts : List Task) → supply_rule s ≡ Ok tt →
    is_between 1 256 (length ts) ≡ true → tasks_rule 0 [] ts ≡ Ok tt → ((i : ℕ) → i < length ts → IsCurve (get_or ts i no_task).curve) →
    sheet_of (table (sheet_data (parts_of p s ts))) ≡ Ok (parts_of p s ts)
unfolding sheet_of
document_again p Whole ts supply count rules curves = rw (policy_again p, tables ts, many ts, count, tasks_again p [] ts rules curves) refl
document_again p (Promised horizon times) ts supply count rules curves =
    rw (policy_again p, promise_again horizon times supply, tables ts, many ts, count, tasks_again p [] ts rules curves) refl

pub sheet_again : (s : SheetParts) → IsValidSheet s → sheet_of (table (sheet_data s)) ≡ Ok s
sheet_again s valid =
    let count = and_from _ _ (le-leb 1 (length s.tasks) valid.some) (le-leb (length s.tasks) 256 valid.few) in
    document_again s.policy s.supply s.tasks (promise_passes s.supply valid.supply) count (tasks_from_valid s valid) (λ i l. (valid.each i l).curve)
