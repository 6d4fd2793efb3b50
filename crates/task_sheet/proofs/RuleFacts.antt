use Rattle.std.proofs.Common.{◌≡◌, ◌≢◌, ℕ, zero, suc, ◌+◌, ◌*◌, ◌<◌, ◌≤◌, ◌||◌, Bool, true, false, not, refl, sym, ◌∙◌, List, [], ◌∷◌, ◌++◌, length}
use Rattle.std.proofs.Common.{get_or, sum, arith, Result, Ok, Err}
use Rattle.std.specs.Prelude.{bytes_eq}
use Rattle.std.specs.List.{list_all, list_any}
use Rattle.std.proofs.lemmas.Bool.{false_from_ne_true, leb-true, le-leb, eqb-true, eq-eqb, and_parts, and_from}
use Rattle.std.proofs.lemmas.Bool.Decides.{not_from_Decides}
use Rattle.std.proofs.lemmas.Slice.Eq.{bytes_eq-Decides}
use Rattle.std.proofs.lemmas.List.Folds.{list_any-append}
use Rattle.std.proofs.lemmas.List.Sums.{sum_by-cons}
use Rattle.lists.specs.Limits.{greatest_number, most_tasks}
use Rattle.curve.specs.Validity.{IsCurve}
use Rattle.task_sheet.specs.declared.tasks.PolicyKind.{PolicyKind}
use Rattle.task_sheet.specs.declared.tasks.SupplySpec.{SupplySpec}
use Rattle.task_sheet.specs.declared.tasks.SupplySpec.TheVariants.{Unit as Whole, Promised}
use Rattle.task_sheet.specs.declared.tasks.Cut.{Cut}
use Rattle.task_sheet.specs.declared.tasks.Cut.TheVariants.{Full, Never, Fixed, Floating}
use Rattle.task_sheet.specs.declared.tasks.Task.{Task}
use Rattle.task_sheet.specs.declared.refusal.SheetRefusal.{SheetRefusal}
use Rattle.task_sheet.specs.SheetParts.{SheetParts}
use Rattle.task_sheet.specs.Refusing.{◌>>=◌, holds}
use Rattle.task_sheet.specs.Rules.{is_in_range, is_name, is_priority_point, most_jitter, supply_rule, cut_rule, task_rule, tasks_rule, sheet_check_of}
use Rattle.task_sheet.specs.Sheets.{parts_of, no_task, CutFits, IsPromise, IsTask, IsValidSheet}

pub holds_means : (b : Bool) (e : SheetRefusal) → holds b e ≡ Ok tt → b ≡ true
holds_means true e h = refl
holds_means false e h = absurd (cc)

pub both_hold : {B : Type 0} (r : Result (Unit {0}) SheetRefusal) (f : Unit {0} → Result B SheetRefusal) (y : B) →
    (r >>= f) ≡ Ok y → (r ≡ Ok tt) × (f tt ≡ Ok y)
both_hold (Ok x) f y h = (refl, h)
both_hold (Err e) f y h = absurd (cc)

pub holds_then : {B : Type 0} (b : Bool) (e : SheetRefusal) (f : Unit {0} → Result B SheetRefusal) → b ≡ true → (holds b e >>= f) ≡ f tt
holds_then b e f h = rw h refl

pub positive_low : (n : ℕ) → is_in_range n ≡ true → 1 ≤ n
positive_low n h = leb-true 1 n (and_parts _ _ h).0

pub positive_high : (n : ℕ) → is_in_range n ≡ true → n ≤ greatest_number
positive_high n h = leb-true n greatest_number (and_parts _ _ h).1

pub positive_from : (n : ℕ) → 1 ≤ n → n ≤ greatest_number → is_in_range n ≡ true
positive_from n h k = and_from _ _ (le-leb 1 n h) (le-leb n greatest_number k)

-- numbers in range have a sum
pub sum_positive : (xs : List ℕ) → list_all is_in_range xs ≡ true → sum xs ≤ length xs * greatest_number
sum_positive [] h = omega arith
sum_positive (x ∷ xs) h =
    let parts = and_parts _ _ h in
    rw (sum_by-cons (λ (n : ℕ). n) x xs) (omega (arith, positive_high x parts.0, sum_positive xs parts.1))

cut_means : (n cost : ℕ) (cut : Cut) → cut_rule n cost cut ≡ Ok tt → CutFits cost cut
cut_means n cost Full h = tt
cut_means n cost Never h = tt
cut_means n cost (Fixed segments) h =
    let parts = both_hold _ _ _ h in
    (holds_means _ _ parts.0, eqb-true (sum segments) cost (holds_means _ _ parts.1))
cut_means n cost (Floating longest) h =
    let parts = both_hold _ _ _ h in
    (positive_low longest (holds_means _ _ parts.0), leb-true longest cost (holds_means _ _ parts.1))

pub cut_passes : (n cost : ℕ) (cut : Cut) → cost ≤ greatest_number → CutFits cost cut → cut_rule n cost cut ≡ Ok tt
cut_passes n cost Full h f = refl
cut_passes n cost Never h f = refl
cut_passes n cost (Fixed segments) h f = rw (f.0, eq-eqb (sum segments) cost f.1) refl
cut_passes n cost (Floating longest) h f = rw (positive_from longest f.0 (omega (arith, f.1)), le-leb longest cost f.1) refl

promise_means : (supply : SupplySpec) → supply_rule supply ≡ Ok tt → IsPromise supply
promise_means Whole h = tt
promise_means (Promised horizon times) h =
    let last = both_hold _ _ _ h in
    let parts = both_hold _ _ _ last.0 in
    let low = holds_means _ _ parts.0 in
    (positive_low horizon low, positive_high horizon low, holds_means _ _ parts.1, holds_means _ _ last.1)

pub promise_passes : (supply : SupplySpec) → IsPromise supply → supply_rule supply ≡ Ok tt
promise_passes Whole h = refl
promise_passes (Promised horizon times) h = rw (positive_from horizon h.0 h.1, h.2, h.3) refl

-- what the rule of a task says
pub record TaskPasses (names : List (List ℕ)) (t : Task) : Type 0 where
  pub name : is_name t.name ≡ true
  pub fresh : list_any (bytes_eq t.name) names ≡ false
  pub cost : is_in_range t.cost ≡ true
  pub deadline : is_in_range t.deadline ≡ true
  pub priority : t.priority ≤ greatest_number
  pub jitter : t.jitter ≤ most_jitter
  pub point : is_priority_point t.point ≡ true
  pub cut : CutFits t.cost t.cut

not_false : (b : Bool) → not b ≡ true → b ≡ false
not_false true h = absurd (cc)
not_false false h = refl

pub task_means : (n : ℕ) (names : List (List ℕ)) (t : Task) → task_rule n names t ≡ Ok tt → TaskPasses names t
unfolding task_rule
task_means n names t h =
    let a = both_hold _ _ _ h in
    let b = both_hold _ _ _ a.0 in
    let c = both_hold _ _ _ b.0 in
    let d = both_hold _ _ _ c.0 in
    let e = both_hold _ _ _ d.0 in
    let f = both_hold _ _ _ e.0 in
    let g = both_hold _ _ _ f.0 in
    record {
      name = holds_means _ _ g.0;
      fresh = not_false _ (holds_means _ _ g.1);
      cost = holds_means _ _ f.1;
      deadline = holds_means _ _ e.1;
      priority = leb-true t.priority greatest_number (holds_means _ _ d.1);
      jitter = leb-true t.jitter most_jitter (holds_means _ _ c.1);
      point = holds_means _ _ b.1;
      cut = cut_means n t.cost t.cut a.1;
    }

pub task_passes : (n : ℕ) (names : List (List ℕ)) (t : Task) → TaskPasses names t → task_rule n names t ≡ Ok tt
unfolding task_rule
task_passes n names t p =
    let priority = le-leb t.priority greatest_number p.priority in
    let jitter = le-leb t.jitter most_jitter p.jitter in
    rw (p.name, p.fresh, p.cost, p.deadline, priority, jitter, p.point, cut_passes n t.cost t.cut (positive_high t.cost p.cost) p.cut) refl

task_from : (names : List (List ℕ)) (t : Task) → IsCurve t.curve → TaskPasses names t → IsTask t
task_from names t curve p = record {
  name = p.name;
  cost_low = positive_low t.cost p.cost;
  cost_high = positive_high t.cost p.cost;
  deadline_low = positive_low t.deadline p.deadline;
  deadline_high = positive_high t.deadline p.deadline;
  priority_high = p.priority;
  jitter_high = p.jitter;
  point = p.point;
  curve = curve;
  cut = p.cut;
}

task_back : (names : List (List ℕ)) (t : Task) → list_any (bytes_eq t.name) names ≡ false → IsTask t → TaskPasses names t
task_back names t fresh p = record {
  name = p.name;
  fresh = fresh;
  cost = positive_from t.cost p.cost_low p.cost_high;
  deadline = positive_from t.deadline p.deadline_low p.deadline_high;
  priority = p.priority_high;
  jitter = p.jitter_high;
  point = p.point;
  cut = p.cut;
}

-- the tasks after some names: each is a task, of a name that none before it has
pub record TasksPass (names : List (List ℕ)) (ts : List Task) : Type 0 where
  pub each : (i : ℕ) → i < length ts → IsTask (get_or ts i no_task)
  pub fresh : (i : ℕ) → i < length ts → list_any (bytes_eq (get_or ts i no_task).name) names ≡ false
  pub distinct : (i k : ℕ) → i < k → k < length ts → (get_or ts i no_task).name ≢ (get_or ts k no_task).name

pub or_parts : (a b : Bool) → (a || b) ≡ false → (a ≡ false) × (b ≡ false)
or_parts true b h = absurd (cc)
or_parts false b h = (refl, h)

fresh_before : (q name : List ℕ) (names : List (List ℕ)) → list_any (bytes_eq q) (names ++ name ∷ []) ≡ false →
    (list_any (bytes_eq q) names ≡ false) × (q ≢ name)
fresh_before q name names h =
    let parts = or_parts _ _ (sym (list_any-append (bytes_eq q) names (name ∷ [])) ∙ h) in
    (parts.0, not_from_Decides (bytes_eq q name) (bytes_eq-Decides q name) (or_parts _ _ parts.1).0)

fresh_after : (q name : List ℕ) (names : List (List ℕ)) → list_any (bytes_eq q) names ≡ false → (q ≢ name) → list_any (bytes_eq q) (names ++ name ∷ []) ≡ false
fresh_after q name names h ne =
    let differ : bytes_eq q name ≡ false = false_from_ne_true (bytes_eq q name) (λ t. ne ((bytes_eq-Decides q name).0 t)) in
    list_any-append (bytes_eq q) names (name ∷ []) ∙ rw (h, differ) refl

each_from : (names : List (List ℕ)) (t : Task) (ts : List Task) → IsTask t → TasksPass (names ++ t.name ∷ []) ts → (i : ℕ) →
    i < length (t ∷ ts) → IsTask (get_or (t ∷ ts) i no_task)
each_from names t ts first rest zero l = first
each_from names t ts first rest (suc i) l = rest.each i (omega arith)

fresh_from : (names : List (List ℕ)) (t : Task) (ts : List Task) → list_any (bytes_eq t.name) names ≡ false →
    TasksPass (names ++ t.name ∷ []) ts → (i : ℕ) → i < length (t ∷ ts) →
    list_any (bytes_eq (get_or (t ∷ ts) i no_task).name) names ≡ false
fresh_from names t ts first rest zero l = first
fresh_from names t ts first rest (suc i) l = (fresh_before _ t.name names (rest.fresh i (omega arith))).0

distinct_from : (names : List (List ℕ)) (t : Task) (ts : List Task) → TasksPass (names ++ t.name ∷ []) ts → (i k : ℕ) → i < k → k < length (t ∷ ts) →
    (get_or (t ∷ ts) i no_task).name ≢ (get_or (t ∷ ts) k no_task).name
distinct_from names t ts rest i zero l m = absurd (omega arith)
distinct_from names t ts rest zero (suc k) l m = λ e. (fresh_before _ t.name names (rest.fresh k (omega arith))).1 (sym e)
distinct_from names t ts rest (suc i) (suc k) l m = rest.distinct i k (omega arith) (omega arith)

pub tasks_mean : (n : ℕ) (names : List (List ℕ)) (ts : List Task) →
    ((i : ℕ) → i < length ts → IsCurve (get_or ts i no_task).curve) → tasks_rule n names ts ≡ Ok tt → TasksPass names ts
tasks_mean n names [] curves h = record {
  each = λ i l. absurd (omega arith);
  fresh = λ i l. absurd (omega arith);
  distinct = λ i k l m. absurd (omega arith);
}
tasks_mean n names (t ∷ ts) curves h =
    let parts = both_hold _ _ _ h in
    let first = task_means n names t parts.0 in
    let rest : TasksPass (names ++ t.name ∷ []) ts = tasks_mean (n + 1) (names ++ t.name ∷ []) ts (λ i l. curves (suc i) (omega arith)) parts.1 in
    record {
      each = λ i l. each_from names t ts (task_from names t (curves 0 (omega arith)) first) rest i l;
      fresh = λ i l. fresh_from names t ts first.fresh rest i l;
      distinct = λ i k l m. distinct_from names t ts rest i k l m;
    }

pub tasks_pass : (n : ℕ) (names : List (List ℕ)) (ts : List Task) → TasksPass names ts → tasks_rule n names ts ≡ Ok tt
tasks_pass n names [] p = refl
tasks_pass n names (t ∷ ts) p =
    let first : task_rule n names t ≡ Ok tt = task_passes n names t (task_back names t (p.fresh 0 (omega arith)) (p.each 0 (omega arith))) in
    let rest : tasks_rule (n + 1) (names ++ t.name ∷ []) ts ≡ Ok tt = tasks_pass (n + 1) (names ++ t.name ∷ []) ts (record {
      each = λ i l. p.each (suc i) (omega arith);
      fresh = λ i l. fresh_after _ t.name names (p.fresh (suc i) (omega arith)) (λ e. p.distinct 0 (suc i) (omega arith) (omega arith) (sym e));
      distinct = λ i k l m. p.distinct (suc i) (suc k) (omega arith) (omega arith);
    }) in
    rw (first, rest) refl

-- parts that keep the rules, with curves that are valid, are a valid sheet
pub valid_from_rules : (p : PolicyKind) (s : SupplySpec) (ts : List Task) → ((i : ℕ) → i < length ts → IsCurve (get_or ts i no_task).curve) →
    supply_rule s ≡ Ok tt → 1 ≤ length ts → length ts ≤ most_tasks → tasks_rule 0 [] ts ≡ Ok tt →
    IsValidSheet (parts_of p s ts)
valid_from_rules p s ts curves supply some few tasks =
    let parts = tasks_mean 0 [] ts curves tasks in
    record { supply = promise_means s supply; some = some; few = few; each = parts.each; distinct = parts.distinct }

pub tasks_from_valid : (s : SheetParts) → IsValidSheet s → tasks_rule 0 [] s.tasks ≡ Ok tt
tasks_from_valid s valid = tasks_pass 0 [] s.tasks (record { each = valid.each; fresh = λ i l. refl; distinct = valid.distinct })

pub rules_from_valid : (p : PolicyKind) (s : SupplySpec) (ts : List Task) → IsValidSheet (parts_of p s ts) → sheet_check_of p s ts ≡ Ok (parts_of p s ts)
unfolding sheet_check_of
rules_from_valid p s ts valid =
    let tasks : tasks_rule 0 [] ts ≡ Ok tt = tasks_from_valid _ valid in
    rw (promise_passes s valid.supply, and_from _ _ (le-leb 1 (length ts) valid.some) (le-leb (length ts) most_tasks valid.few), tasks) refl
