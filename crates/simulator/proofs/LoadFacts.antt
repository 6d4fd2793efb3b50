-- The segments of a new job.
use Rattle.std.proofs.Common.{◌≡◌, ℕ, suc, ◌+◌, ◌-◌, ◌<◌, ◌≤◌, true, List, [], ◌∷◌, ◌++◌, length, get_or, drop, sum, subst, refl, sym, ◌∙◌, ap, inl}
use Rattle.std.proofs.Common.{inr, arith, leb, add-one, append_assoc, drop-cons}
use Rattle.std.specs.List.{list_all}
use Rattle.std.proofs.lemmas.Bool.{cases_Bool, and_parts, leb-true}
use Rattle.std.proofs.lemmas.List.Folds.{list_all_at}
use Rattle.lists.specs.Ranges.{is_between}
use Rattle.task_sheet.specs.declared.tasks.Cut.TheVariants.{Fixed}
use Rattle.task_sheet.specs.Rules.{is_in_range}
use Rattle.task_sheet.specs.Sheets.{CutFits}
use Rattle.simulated_run.specs.declared.mode.Mode.{Mode}
use Rattle.simulated_run.specs.declared.mode.Mode.TheVariants.{Dense, Seed}
use Rattle.simulated_run.specs.Words.{next, after}
use Rattle.simulated_run.specs.Jobs.{drawn_segments, drawn_cost, segments_by}
use Rattle.simulator.specs.declared.loads.Load.{Load}
use Rattle.simulator.specs.Loads.{IsLoad}
use Rattle.simulated_run.proofs.JobFacts.{drawn_length, drawn_sum_high}

-- one more segment is drawn
pub drawn_next : (gs done : List ℕ) (i d state : ℕ) → i < length gs →
    done ++ (drawn_cost (get_or gs i d) state ∷ []) ++ drawn_segments (drop (i + 1) gs) (next state) ≡ done ++ drawn_segments (drop i gs) state
drawn_next gs done i d state h =
    let e : drop i gs ≡ get_or gs i d ∷ drop (i + 1) gs = rw add-one (drop-cons gs i d h) in
    append_assoc done (drawn_cost (get_or gs i d) state ∷ []) (drawn_segments (drop (i + 1) gs) (next state)) ∙
    ap (λ (l : List ℕ). done ++ drawn_segments l state) (sym e)

pub after_next : (n i state : ℕ) → i < n → after (n - (i + 1)) (next state) ≡ after (n - i) state
after_next n i state h =
    let e : n - i ≡ suc (n - (i + 1)) = omega arith in
    ap (λ (k : ℕ). after k state) (sym e)

pub positive_at : (gs : List ℕ) (i d : ℕ) → list_all is_in_range gs ≡ true → i < length gs → (1 ≤ get_or gs i d) × (get_or gs i d ≤ 1000000000)
positive_at gs i d h b = elim (cases_Bool (is_in_range (get_or gs i d))) [
  | inl t ↦
      let p = and_parts (leb 1 (get_or gs i d)) (leb (get_or gs i d) 1000000000) t in
      (leb-true 1 (get_or gs i d) p.0, leb-true (get_or gs i d) 1000000000 p.1)
  | inr f ↦ absurd (let e = list_all_at is_in_range gs i d b f in cc)
]

-- the task's segments, of a valid cut
pub positive_of : (most : ℕ) (gs : List ℕ) → CutFits most (Fixed gs) → list_all is_in_range gs ≡ true
positive_of most gs f = (and_parts (is_between 1 1000 (length gs)) (list_all is_in_range gs) f.0).1

pub fixed_length : (mode : Mode) (gs : List ℕ) (cost state : ℕ) → length (segments_by mode (Fixed gs) cost state) ≡ length gs
fixed_length Dense gs cost state = refl
fixed_length (Seed seed) gs cost state = drawn_length gs state

pub drawn_small : (most : ℕ) (gs : List ℕ) (state : ℕ) → CutFits most (Fixed gs) → sum (drawn_segments gs state) ≤ most
drawn_small most gs state f = omega (arith, drawn_sum_high gs state (positive_of most gs f), f.1)

pub drawn_more : (gs done all longer : List ℕ) (i d cost state later : ℕ) → i < length gs →
    cost ≡ drawn_cost (get_or gs i d) state → later ≡ next state → longer ≡ done ++ cost ∷ [] →
    done ++ drawn_segments (drop i gs) state ≡ all → longer ++ drawn_segments (drop (i + 1) gs) later ≡ all
drawn_more gs done all longer i d cost state later h e f g k = let n = drawn_next gs done i d state h in cc

pub after_more : (n i state later last : ℕ) → i < n → later ≡ next state → after (n - i) state ≡ last → after (n - (i + 1)) later ≡ last
after_more n i state later last h e k = ap (λ (s : ℕ). after (n - (i + 1)) s) e ∙ (after_next n i state h ∙ k)

-- the load that a seed draws for fixed segments
pub drawn_load : (mode : Mode) (seed most state spare : ℕ) (gs : List ℕ) (load : Load) → mode ≡ Seed seed →
    length gs ≤ spare → load.cost ≡ sum load.segs.items → load.segs.items ≡ drawn_segments gs state →
    IsLoad mode (Fixed gs) most state spare load
drawn_load mode seed most state spare gs load e few cost segs =
    let done : IsLoad (Seed seed) (Fixed gs) most state spare load =
    record { cost = cost ∙ ap sum segs; segs = segs; few = omega (arith, ap length segs, drawn_length gs state) } in
    subst (λ (m : Mode). IsLoad m (Fixed gs) most state spare load) (sym e) done
