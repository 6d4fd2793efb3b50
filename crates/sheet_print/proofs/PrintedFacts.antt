use Rattle.std.proofs.Common.{◌≡◌, ℕ, ℤ, pos, negsuc, ◌<◌, ◌≤◌, ◌^◌, true, zero, suc, List, [], ◌∷◌, length, get_or, map, String, Global}
use Rattle.std.proofs.Common.{string_bytes, nat_cmp, Ordering, Less, Equal, Greater, refl, arith}
use Rattle.std.specs.Ordering.{match_ordering}
use Rattle.std.specs.Cmp.Lexicographic.{slice_cmp}
use Rattle.std.specs.String.{string_cmp}
use Rattle.std.specs.BTreeMap.{insert_entry}
use Rattle.std.specs.List.{list_all}
use Rattle.std.proofs.lemmas.Bool.{and_parts}
use Rattle.toml.specs.declared.value.Value.{Value}
use Rattle.toml.specs.Data.{members_depth, items_depth, depth}
use Rattle.toml.specs.View.{view, items_of, members_view}
use Rattle.curve.specs.declared.prefix.Step.{Step}
use Rattle.curve.specs.Validity.{is_step}
use Rattle.task_sheet.specs.declared.tasks.PolicyKind.{PolicyKind}
use Rattle.task_sheet.specs.declared.tasks.SupplySpec.{SupplySpec}
use Rattle.task_sheet.specs.declared.tasks.SupplySpec.TheVariants.{Unit as Whole, Promised}
use Rattle.task_sheet.specs.declared.tasks.Cut.{Cut}
use Rattle.task_sheet.specs.declared.tasks.Cut.TheVariants.{Full, Never, Fixed, Floating}
use Rattle.task_sheet.specs.declared.tasks.Task.{Task}
use Rattle.task_sheet.specs.Rules.{is_in_range, are_in_range}
use Rattle.task_sheet.proofs.RuleFacts.{positive_high}
use Rattle.sheet_print.specs.Printed.{put, number_data, step_data, cut_data, task_data, sheet_data}

abbrev pub MapEntry : Type 0
MapEntry = String Global × Value

put_in : (o : Ordering) (k : List ℕ) (key : String Global) (v : Value) (e : MapEntry) (es : List MapEntry) →
    o ≡ slice_cmp nat_cmp k (string_bytes e.0) → string_bytes key ≡ k → members_view (insert_entry string_cmp es key v) ≡ put k (view v) (members_view es) →
    members_view (match_ordering o ((key, v) ∷ e ∷ es) ((e.0, v) ∷ es) (e ∷ insert_entry string_cmp es key v)) ≡ put k (view v) (members_view (e ∷ es))
put_in Less k key v e es at same more = rw (← at, same) refl
put_in Equal k key v e es at same more = rw (← at) refl
put_in Greater k key v e es at same more = rw (← at, more) refl

-- an entry put into a map is a member put among the members
pub put_entry : (k : List ℕ) (key : String Global) (v : Value) (es : List MapEntry) → string_bytes key ≡ k →
    members_view (insert_entry string_cmp es key v) ≡ put k (view v) (members_view es)
put_entry k key v [] same = rw same refl
put_entry k key v (e ∷ es) same = put_in (string_cmp key e.0) k key v e es (rw same refl) same (put_entry k key v es same)

each_positive : (xs : List ℕ) (i d : ℕ) → list_all is_in_range xs ≡ true → i < length xs → get_or xs i d ≤ 1000000000
each_positive [] i d h l = absurd (omega arith)
each_positive (x ∷ xs) zero d h l = positive_high x (and_parts _ _ h).0
each_positive (x ∷ xs) (suc i) d h l = each_positive xs i d (and_parts _ _ h).1 (omega arith)

pub number_fits : (xs : List ℕ) (i d : ℕ) → are_in_range 1000 xs ≡ true → i < length xs → get_or xs i d < 2 ^ 63
number_fits xs i d h l = omega (arith, each_positive xs i d (and_parts _ _ h).1 l)

pub step_at : (xs : List Step) (i : ℕ) (d : Step) → list_all is_step xs ≡ true → i < length xs → is_step (get_or xs i d) ≡ true
step_at [] i d h l = absurd (omega arith)
step_at (x ∷ xs) zero d h l = (and_parts _ _ h).0
step_at (x ∷ xs) (suc i) d h l = step_at xs i d (and_parts _ _ h).1 (omega arith)

-- what is printed nests little

flat_numbers : (xs : List ℕ) → items_depth (items_of (map number_data xs)) ≡ 0
flat_numbers [] = refl
flat_numbers (x ∷ xs) = omega (arith, flat_numbers xs)

flat_steps : (xs : List Step) → items_depth (items_of (map step_data xs)) ≤ 1
flat_steps [] = omega arith
flat_steps (x ∷ xs) = omega (arith, flat_steps xs)

flat_cut : (cut : Cut) → depth (cut_data cut) ≤ 2
flat_cut Full = omega arith
flat_cut Never = omega arith
flat_cut (Fixed segments) = omega (arith, flat_numbers segments)
flat_cut (Floating longest) = omega arith

flat_task : (t : Task) (j : ℕ) (q : ℤ) → depth (task_data (record t { jitter = j; point = q })) ≤ 4
flat_task t zero (pos zero) = omega (arith, flat_cut t.cut, flat_steps t.curve.steps)
flat_task t zero (pos (suc q)) = omega (arith, flat_cut t.cut, flat_steps t.curve.steps)
flat_task t zero (negsuc q) = omega (arith, flat_cut t.cut, flat_steps t.curve.steps)
flat_task t (suc j) (pos zero) = omega (arith, flat_cut t.cut, flat_steps t.curve.steps)
flat_task t (suc j) (pos (suc q)) = omega (arith, flat_cut t.cut, flat_steps t.curve.steps)
flat_task t (suc j) (negsuc q) = omega (arith, flat_cut t.cut, flat_steps t.curve.steps)

flat_tasks : (ts : List Task) → items_depth (items_of (map task_data ts)) ≤ 4
flat_tasks [] = omega arith
flat_tasks (t ∷ ts) = omega (arith, flat_tasks ts, flat_task t t.jitter t.point)

pub flat_sheet : (p : PolicyKind) (s : SupplySpec) (ts : List Task) → members_depth (sheet_data (record { policy = p; supply = s; tasks = ts })) ≤ 80
flat_sheet p Whole ts = omega (arith, flat_tasks ts)
flat_sheet p (Promised horizon times) ts = omega (arith, flat_tasks ts, flat_numbers times)
