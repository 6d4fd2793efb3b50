-- The document that is printed for a sheet.
use Rattle.std.specs.Prelude.{ℕ, ℤ, zero, suc, pos, negsuc, codes, List, map}
use Rattle.std.specs.Ordering.{nat_cmp, match_ordering}
use Rattle.std.specs.Cmp.Lexicographic.{slice_cmp}
use Rattle.toml.specs.Data.{Data, string, integer, array, table, no_items, item, Members, no_members, member}
use Rattle.toml.specs.View.{items_of}
use Rattle.curve.specs.declared.prefix.Step.{Step}
use Rattle.curve.specs.CurveValue.{Curve}
use Rattle.task_sheet.specs.declared.tasks.SupplySpec.{SupplySpec}
use Rattle.task_sheet.specs.declared.tasks.SupplySpec.TheVariants.{Unit as Whole, Promised}
use Rattle.task_sheet.specs.declared.tasks.Cut.{Cut}
use Rattle.task_sheet.specs.declared.tasks.Cut.TheVariants.{Full, Never, Fixed, Floating}
use Rattle.task_sheet.specs.declared.tasks.Task.{Task}
use Rattle.task_sheet.specs.SheetParts.{SheetParts}
use Rattle.task_sheet.specs.Words.{policy_word}

-- the members with this value at a key, in the order of the keys
abbrev pub put : List ℕ → Data → Members → Members
put k d no_members = member k d no_members
put k d (member l e ms) = match_ordering (slice_cmp nat_cmp k l) (member k d (member l e ms)) (member l d ms) (member l e (put k d ms))

-- what a list, a number, a step and so on are printed as
abbrev pub array_data : {X : Type 0} → (X → Data) → List X → Data
array_data show xs = array (items_of (map show xs))

abbrev pub number_data : ℕ → Data
number_data n = integer (pos n)

abbrev pub step_data : Step → Data
step_data s = array (item (number_data s.time) (item (number_data s.value) no_items))

abbrev pub curve_data : Curve → Data
curve_data c = table (member (codes "horizon") (number_data c.horizon) (member (codes "steps") (array_data step_data c.steps) no_members))

abbrev pub cut_data : Cut → Data
cut_data Full = string (codes "full")
cut_data Never = string (codes "never")
cut_data (Fixed segments) = table (member (codes "fixed") (array_data number_data segments) no_members)
cut_data (Floating longest) = table (member (codes "floating") (number_data longest) no_members)

-- the members with the jitter, if it is above 0
abbrev pub put_jitter : ℕ → Members → Members
put_jitter zero ms = ms
put_jitter (suc n) ms = put (codes "jitter") (number_data (suc n)) ms

-- the members with the priority point, if it is not 0
abbrev pub put_point : ℤ → Members → Members
put_point (pos zero) ms = ms
put_point (pos (suc n)) ms = put (codes "point") (integer (pos (suc n))) ms
put_point (negsuc n) ms = put (codes "point") (integer (negsuc n)) ms

-- the members of a task, but for its jitter and its priority point
abbrev pub plain_data : Task → Members
plain_data t =
    member (codes "cost") (number_data t.cost)
    (member (codes "curve") (curve_data t.curve)
    (member (codes "deadline") (number_data t.deadline)
    (member (codes "name") (string t.name)
    (member (codes "preemption") (cut_data t.cut)
    (member (codes "priority") (number_data t.priority) no_members)))))

abbrev pub task_data : Task → Data
task_data t = table (put_point t.point (put_jitter t.jitter (plain_data t)))

abbrev pub promise_data : ℕ → List ℕ → Data
promise_data horizon times = table (member (codes "horizon") (number_data horizon) (member (codes "times") (array_data number_data times) no_members))

-- the members with what is promised of the processor, if anything is
abbrev pub put_promise : SupplySpec → Members → Members
put_promise Whole ms = ms
put_promise (Promised horizon times) ms = put (codes "supply") (promise_data horizon times) ms

-- the members of a sheet's document
abbrev pub sheet_data : SheetParts → Members
sheet_data s =
    put_promise s.supply
    (member (codes "policy") (string (policy_word s.policy))
    (member (codes "task") (array_data task_data s.tasks) no_members))
