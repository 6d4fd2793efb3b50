-- The terms of a point: the sums that K7 and K8 judge, written out.
use Rattle.std.specs.Prelude.{◌≡◌, ℕ, ◌==◌, ◌&&◌, Bool, true, Option, Some, None}
use Rattle.task_sheet.specs.SheetParts.{SheetParts}
use Rattle.policy.specs.PolicyMeaning.{PolicyMeaning}
use Rattle.preemption.specs.CutMeaning.{CutMeaning}
use Rattle.demand.specs.Demand.{blocking_of, own_of, others_of, need_of}
use Rattle.certificate.specs.declared.cert.Terms.{Terms}

-- the terms of the point (a, x) of task i
abbrev pub terms_of : PolicyMeaning → CutMeaning → SheetParts → ℕ → ℕ → ℕ → Terms
terms_of p m sheet i a x =
    record { blocking = blocking_of p m sheet i a; own = own_of m sheet i a; others = others_of p sheet i a x; need = need_of p m sheet i a x }

abbrev pub are_same : Terms → Terms → Bool
are_same t u = t.blocking == u.blocking && (t.own == u.own && (t.others == u.others && t.need == u.need))

-- K10: what is told of the terms of the point (a, x), if anything, is so
abbrev pub tells_terms : PolicyMeaning → CutMeaning → SheetParts → ℕ → ℕ → ℕ → Option Terms → Bool
tells_terms p m sheet i a x None = true
tells_terms p m sheet i a x (Some told) = are_same told (terms_of p m sheet i a x)

-- the same as a fact
abbrev pub TellsTerms : PolicyMeaning → CutMeaning → SheetParts → ℕ → ℕ → ℕ → Option Terms → Type 0
TellsTerms p m sheet i a x None = Unit {0}
TellsTerms p m sheet i a x (Some told) = told ≡ terms_of p m sheet i a x
