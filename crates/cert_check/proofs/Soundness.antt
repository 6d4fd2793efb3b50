use Rattle.std.proofs.Common.{◌≡◌, ℕ, ◌+◌, ◌<◌, ◌≤◌, Bool, true, false, List, Option, None, Some, Result, Ok, Err, length, get_or, map, refl, sym, subst, arith}
use Rattle.std.proofs.lemmas.List.{get_or-map, length-map}
use Rattle.std.proofs.lemmas.List.Elements.{All-get_or}
use Rattle.certificate.specs.declared.cert.Cert.{Cert}
use Rattle.certificate.specs.declared.cert.Entry.{Entry}
use Rattle.poet_io.specs.declared.text_refusal.TextRefusal.{TextRefusal}
use Rattle.poet_io.specs.declared.text_refusal.TextRefusal.TheVariants.{Line, Memory}
use Rattle.poet_io.specs.Texts.{IsReading, HaveOneReading}
use Rattle.poet_io.proofs.TextFacts.{reading_is}
use Rattle.certificate.specs.Text.{IsWithinGrammar, IsEntry, text_of, cert_format}
use Rattle.certificate.specs.Parsing.{cert_of_text}
use Rattle.conditions.specs.declared.failed.Failed.{Failed}
use Rattle.abstract_rta.specs.Bounds.{PointsBound}
use Rattle.conditions.specs.Conditions.{entry_at, no_entry, failed_of}
use Rattle.conditions.specs.Meets.{IsInTime, pairs_of, CertMeets, FailedMeans}
use Rattle.conditions.proofs.MeetFacts.{pairs_count}
use Rattle.policy.specs.PolicyMeaning.{PolicyMeaning}
use Rattle.preemption.specs.CutMeaning.{CutMeaning}
use Rattle.preemption.specs.CutLaws.{Serves}
use Rattle.schedule_laws.specs.Bounded.{IsBounded}
use Rattle.task_sheet.specs.SheetParts.{SheetParts}
use Rattle.task_sheet.specs.declared.tasks.Task.{Task}
use Rattle.task_sheet.specs.Sheets.{no_task, task_at, IsValidSheet}
use Rattle.run_model.specs.Runs.{job_at}
use Rattle.run_model.proofs.ServiceFacts.{service_le}
use Rattle.cert_check.specs.Verdicts.{bounds_of, judged_as, verdict_by, cert_verdict_of, AreInTime, AreSound, IsBoundedBy}
use Rattle.cert_check.specs.Laws.{MeetingIsAccepted, AcceptedIsSound}

module _ (p : PolicyMeaning) (m : CutMeaning) (sbf : ℕ → ℕ) (sheet : SheetParts) where
  -- what is bounded by a number is bounded by a greater one
  later_bound : (i bound later : ℕ) → bound ≤ later → IsBounded p m sbf sheet i bound → IsBounded p m sbf sheet i later
  later_bound i bound later le bounded run complies j listed of within =
      omega (
        arith,
        bounded run complies j listed of (omega arith),
        service_le run j ((job_at run j).arrival + bound) ((job_at run j).arrival + later) (omega arith) within,
      )

  in_time_by : (deadlines : Bool) (bound : ℕ → ℕ) → ((i : ℕ) → i < length sheet.tasks → IsBounded p m sbf sheet i (bound i)) →
      ((i : ℕ) → i < length sheet.tasks → IsInTime sheet deadlines i (bound i)) → AreInTime p m sbf sheet deadlines
  in_time_by false bound bounded in_time = tt
  in_time_by true bound bounded in_time = λ i lt.
      let is : get_or (map (λ (t : Task). t.deadline) sheet.tasks) i 0 ≡ (task_at sheet i).deadline =
      get_or-map (λ (t : Task). t.deadline) sheet.tasks i no_task 0 lt in
      subst (λ w. IsBounded p m sbf sheet i w) (sym is) (later_bound i (bound i) (task_at sheet i).deadline (in_time i lt) (bounded i lt))

  -- the bounds of a certificate that meets the conditions are sound
  pub sound : (deadlines : Bool) (cert : Cert) → PointsBound p m sbf → FailedMeans p m sbf → IsValidSheet sheet → Serves m sheet → IsWithinGrammar cert →
      failed_of p m sbf sheet deadlines cert ≡ None → AreSound p m sbf sheet deadlines (bounds_of cert)
  sound deadlines cert law means valid served within none =
      let meets : CertMeets p m sbf sheet deadlines cert = (means sheet deadlines cert).0 none in
      let holds : (i : ℕ) → i < length sheet.tasks → IsBounded p m sbf sheet i (entry_at cert i).bound = λ i lt.
      let fits : IsEntry (entry_at cert i) = All-get_or IsEntry cert.entries i no_entry (omega (arith, meets.count)) within.entries in
      let task = meets.tasks i lt in
      let e : Entry = entry_at cert i in
      let some : 1 ≤ length (pairs_of e.points) = omega (arith, fits.some, pairs_count e.points) in
      law sheet valid served i e.window e.bound (pairs_of e.points) lt task.covers task.window some task.points
      in
      record {
        count = simp length-map meets.count;
        bounded = λ i lt.
            let is : get_or (bounds_of cert) i 0 ≡ (entry_at cert i).bound =
            get_or-map (λ (e : Entry). e.bound) cert.entries i no_entry 0 (omega (arith, meets.count)) in
            subst (λ w. IsBounded p m sbf sheet i w) (sym is) (holds i lt);
        in_time = in_time_by deadlines (λ i. (entry_at cert i).bound) holds (λ i lt. (meets.tasks i lt).in_time);
      }

module _ (p : PolicyMeaning) (m : CutMeaning) (sbf : ℕ → ℕ) where
  pub accepts : HaveOneReading cert_format cert_of_text → MeetingIsAccepted p m sbf
  unfolding cert_verdict_of
  accepts one sheet deadlines cert within none =
      let reads : cert_of_text (text_of cert) ≡ Ok cert = reading_is cert_format cert_of_text one (text_of cert) (Ok cert)
      (record { within = within; text = refl }) in
      rw (reads, none) refl

  module _ (law : PointsBound p m sbf) (means : FailedMeans p m sbf) (sheet : SheetParts) (valid : IsValidSheet sheet)
      (served : Serves m sheet) (deadlines : Bool) where
    judged_holds : (cert : Cert) → IsWithinGrammar cert → (failed : Option Failed) →
        failed_of p m sbf sheet deadlines cert ≡ failed → IsBoundedBy p m sbf sheet deadlines (judged_as cert failed)
    judged_holds cert within None none = sound p m sbf sheet deadlines cert law means valid served within none
    judged_holds cert within (Some failed) e = tt

    pub read_holds : (bytes : List ℕ) (r : Result Cert TextRefusal) → IsReading cert_format bytes r →
        IsBoundedBy p m sbf sheet deadlines (verdict_by (failed_of p m sbf sheet deadlines) r)
    read_holds bytes (Ok cert) parses = judged_holds cert parses.within (failed_of p m sbf sheet deadlines cert) refl
    read_holds bytes (Err (Line line)) r = tt
    read_holds bytes (Err Memory) r = tt

  pub holds : PointsBound p m sbf → FailedMeans p m sbf → HaveOneReading cert_format cert_of_text → AcceptedIsSound p m sbf
  unfolding cert_verdict_of
  holds law means one sheet valid served deadlines bytes bounds e =
      subst (IsBoundedBy p m sbf sheet deadlines) e (read_holds law means sheet valid served deadlines bytes (cert_of_text bytes) (one.exists bytes))
