-- Demands and best certificates computed at sheets with priority points.
use Rattle.std.proofs.Common.{◌≡◌, ℕ, [], ◌∷◌, Ok, refl}
use Rattle.curve.specs.Curves.{value_of, alpha_of}
use Rattle.task_sheet.specs.Sheets.{no_task}
use Rattle.policy.specs.Policies.{edf_meaning}
use Rattle.policy_more.specs.PointPolicies.{gel_meaning, elf_meaning}
use Rattle.demand.specs.Demand.{own_of, others_of, blocking_of, need_of, window_need_of}
use Rattle.search_space.specs.Points.{is_point}
use Rattle.solver.specs.Points.{points_below}
use Rattle.solver.specs.Outcome.{least_to, best_points, best_of_window, first_entries, best_of}
use Rattle.bound_tests.specs.PointSheets.{gel_sheet, gel_cert, elf_sheet, elf_cert, need_at, best_at}

pub gel_needs : (need_at gel_meaning gel_sheet 0 0 2 ∷ need_at gel_meaning gel_sheet 0 2 4 ∷ need_at gel_meaning gel_sheet 1 0 4 ∷
    need_at gel_meaning gel_sheet 1 2 4 ∷ []) ≡ (2 ∷ 4 ∷ 4 ∷ 4 ∷ [])
unfolding need_of own_of others_of blocking_of alpha_of value_of no_task
gel_needs = refl

pub gel_best : best_at gel_meaning gel_sheet ≡ Ok gel_cert
unfolding best_of first_entries best_of_window best_points least_to points_below is_point window_need_of need_of own_of others_of
    blocking_of alpha_of value_of no_task
gel_best = refl

pub edf_best : best_at edf_meaning gel_sheet ≡ Ok gel_cert
unfolding best_of first_entries best_of_window best_points least_to points_below is_point window_need_of need_of own_of others_of
    blocking_of alpha_of value_of no_task
edf_best = refl

pub elf_needs : (need_at elf_meaning elf_sheet 0 0 1 ∷ need_at elf_meaning elf_sheet 1 0 3 ∷ need_at elf_meaning elf_sheet 1 2 6 ∷
    need_at elf_meaning elf_sheet 2 0 6 ∷ []) ≡ (1 ∷ 3 ∷ 6 ∷ 6 ∷ [])
unfolding need_of own_of others_of blocking_of alpha_of value_of no_task
elf_needs = refl

pub elf_best : best_at elf_meaning elf_sheet ≡ Ok elf_cert
unfolding best_of first_entries best_of_window best_points least_to points_below is_point window_need_of need_of own_of others_of
    blocking_of alpha_of value_of no_task
elf_best = refl
