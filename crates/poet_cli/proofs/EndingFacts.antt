-- What the top call says, from how its command ended and how that was told.
use Rattle.std.proofs.Common.{◌≡◌, ◌≢◌, ℕ, ◌≤◌, ◌⊎◌, ◌↔◌, inl, inr, List, Ok, Err, IsOk, IfOk, IfErr, refl}
use Rattle.std.proofs.Common.{sym, ◌∙◌, ap, arith}
use Rattle.poet_io.specs.Faults.{Rose}
use Rattle.poet_io.specs.Shelves.{Files, IfTold, IsTold}
use Rattle.poet_io.specs.Sinks.{Appended}
use Rattle.poet_io.proofs.Telling.{if_told_map, if_told_any, is_told_map, if_told_from, stayed_appended}
use Rattle.poet_text.specs.declared.printed.Printed.{Printed}
use Rattle.poet_text.specs.declared.printed.Printed.TheVariants.{Done, JudgedNo}
use Rattle.poet_text.specs.declared.refusal.Source.{Source}
use Rattle.poet_text.specs.declared.refusal.Refusal.{Refusal}
use Rattle.poet_text.specs.declared.refusal.Refusal.TheVariants.{Usage, Read, Sheet, Text, Limit, Points, Jobs, Segments, LongUpgrade, Memory}
use Rattle.poet_text.specs.Refusals.{refusal_status, line_of, write_failed}
use Rattle.poet_text.specs.Endings.{Ending, printed_status, ending_status, out_text, IsSound}
use Rattle.poet_text.specs.Tellings.{Outlets, ToldText, ToldFault, ToldLine, Told}
use Rattle.poet_cli.specs.Readings.{ShelfAt}
use Rattle.poet_cli.specs.Origins.{WasPrinted}
use Rattle.poet_cli.proofs.FoundFacts.{Denied, Found}
use Rattle.poet_cli.specs.Clauses.{Answers}

pub printed_few : (p : Printed) → printed_status p ≤ 1
printed_few (Done text) = omega arith
printed_few (JudgedNo text) = omega arith

is_ok_here : (p : Printed) → IsOk {T = Printed} {E = Refusal} (Ok p)
is_ok_here p = refl

module _ (answer : Files → Ending) (may : Refusal → Type 0) (before now : ShelfAt) (s t : Outlets) (status : ℕ) where
  abbrev pub Says : Type 0
  Says = Answers answer may (record { shelf = before; sinks = s }) (record { shelf = now; sinks = t }) status

  abbrev Same : Files → Type 0
  Same x = (status ≡ ending_status (answer x)) × Appended s.out t.out (out_text (answer x))

  text_answers : (p : Printed) → IfTold before.files (λ x. answer x ≡ Ok p) → ToldText p s t status → Says
  text_answers p got wrote =
      let few = printed_few p in
      let same : IfTold before.files Same = if_told_map before.files (λ x. answer x ≡ Ok p) Same (λ x e. rw e (wrote.status_is, wrote.text_is)) got in
      record {
        answer_is = λ a b c. same;
        read_cause = λ h. absurd (omega (arith, few, wrote.status_is, h));
        write_cause = λ h. absurd (omega (arith, few, wrote.status_is, h));
        write_part = λ h. absurd (omega (arith, few, wrote.status_is, h));
        silent_out = λ l n. absurd (omega (arith, few, wrote.status_is, l));
        silent_err = λ l. wrote.silent;
        few = omega (arith, few, wrote.status_is);
        says_why = λ l. absurd (omega (arith, few, wrote.status_is, l));
        complete = λ a b. if_told_map before.files Same _ (λ x e. inr e) same;
      }

  fault_answers : (p : Printed) → IfTold before.files (λ x. answer x ≡ Ok p) → ToldFault p s t status → Says
  fault_answers p got wrote =
      record {
        answer_is = λ a b c. absurd (b wrote.status_is);
        read_cause = λ h. absurd (omega (arith, wrote.status_is, h));
        write_cause = λ h. wrote.cause;
        write_part = λ h. if_told_map before.files (λ x. answer x ≡ Ok p) _ (λ x e. rw e (is_ok_here p, wrote.part)) got;
        silent_out = λ l n. absurd (n wrote.status_is);
        silent_err = λ l. absurd (omega (arith, wrote.status_is, l));
        few = omega (arith, wrote.status_is);
        says_why = λ l. record {
          line = write_failed;
          one_line = wrote.line;
          refusal_is = λ n. absurd (n wrote.status_is);
          usage_line = λ h. absurd (omega (arith, wrote.status_is, h));
          read_line = λ h. absurd (omega (arith, wrote.status_is, h));
          write_line = λ h. refl;
          refusal_line = λ l m. absurd (omega (arith, wrote.status_is, l, m));
          memory_line = λ h. absurd (omega (arith, wrote.status_is, h));
        };
        complete = λ a b. absurd (b wrote.cause);
      }

  -- a refusal that the files tell
  plain_answers : (r : Refusal) → may r → IfTold before.files (λ x. answer x ≡ Err r) → 2 ≤ refusal_status r →
      refusal_status r ≤ 7 → refusal_status r ≢ 3 → refusal_status r ≢ 4 →
      (refusal_status r ≡ 2 → r ≡ Usage) → ToldLine r s t status → Says
  plain_answers r m got low high no_read no_write is_usage wrote =
      let same : IfTold before.files Same = if_told_map before.files (λ x. answer x ≡ Err r) Same
      (λ x e. rw e (wrote.status_is, stayed_appended s.out t.out wrote.silent)) got in
      record {
        answer_is = λ a b c. same;
        read_cause = λ h. absurd (no_read (sym wrote.status_is ∙ h));
        write_cause = λ h. absurd (no_write (sym wrote.status_is ∙ h));
        write_part = λ h. absurd (no_write (sym wrote.status_is ∙ h));
        silent_out = λ l n. wrote.silent;
        silent_err = λ l. absurd (omega (arith, wrote.status_is, low, l));
        few = omega (arith, wrote.status_is, high);
        says_why = λ l. record {
          line = line_of r;
          one_line = wrote.line_is;
          refusal_is = λ n. record { refusal = r; may_be = m; status_is = wrote.status_is; line_is = refl };
          usage_line = λ h. ap line_of (is_usage (sym wrote.status_is ∙ h));
          read_line = λ h. absurd (no_read (sym wrote.status_is ∙ h));
          write_line = λ h. absurd (no_write (sym wrote.status_is ∙ h));
          refusal_line = λ l m. if_told_map before.files (λ x. answer x ≡ Err r) _ (λ x e. rw e refl) got;
          memory_line = λ h. absurd (omega (arith, wrote.status_is, high, h));
        };
        complete = λ a b. if_told_map before.files Same _ (λ x e. inr e) same;
      }

  read_answers : (which : Source) → may (Read which) →
      Rose before.faults now.faults ⊎ IsTold before.files (λ x. answer x ≡ Err (Read which)) → ToldLine (Read which) s t status → Says
  read_answers which m d wrote =
      record {
        answer_is = λ a b c. absurd (a wrote.status_is);
        read_cause = λ h. elim d [ inl rose ↦ inl rose | inr e ↦ inr (is_told_map before.files (λ x. answer x ≡ Err (Read which)) _ (λ x e. rw e refl) e) ];
        write_cause = λ h. absurd (omega (arith, wrote.status_is, h));
        write_part = λ h. absurd (omega (arith, wrote.status_is, h));
        silent_out = λ l n. wrote.silent;
        silent_err = λ l. absurd (omega (arith, wrote.status_is, l));
        few = omega (arith, wrote.status_is);
        says_why = λ l. record {
          line = line_of (Read which);
          one_line = wrote.line_is;
          refusal_is = λ n. record { refusal = Read which; may_be = m; status_is = wrote.status_is; line_is = refl };
          usage_line = λ h. absurd (omega (arith, wrote.status_is, h));
          read_line = λ h. record {
            source = which;
            line_is = refl;
            may_fail = m;
            no_fault = λ n. elim d [ inl rose ↦ absurd (n rose) | inr e ↦ if_told_from before.files (λ x. answer x ≡ Err (Read which)) _ (λ x e. rw e refl) e ];
          };
          write_line = λ h. absurd (omega (arith, wrote.status_is, h));
          refusal_line = λ l m. absurd (omega (arith, wrote.status_is, l, m));
          memory_line = λ h. absurd (omega (arith, wrote.status_is, h));
        };
        complete = λ a b. elim d [
          | inl rose ↦ absurd (a rose)
          | inr e ↦ if_told_from before.files (λ x. answer x ≡ Err (Read which)) _
              (λ x e. rw e (inr (wrote.status_is, stayed_appended s.out t.out wrote.silent))) e
        ];
      }

  memory_answers : may Memory → ToldLine Memory s t status → Says
  memory_answers m wrote =
      record {
        answer_is = λ a b c. absurd (c wrote.status_is);
        read_cause = λ h. absurd (omega (arith, wrote.status_is, h));
        write_cause = λ h. absurd (omega (arith, wrote.status_is, h));
        write_part = λ h. absurd (omega (arith, wrote.status_is, h));
        silent_out = λ l n. wrote.silent;
        silent_err = λ l. absurd (omega (arith, wrote.status_is, l));
        few = omega (arith, wrote.status_is);
        says_why = λ l. record {
          line = line_of Memory;
          one_line = wrote.line_is;
          refusal_is = λ n. record { refusal = Memory; may_be = m; status_is = wrote.status_is; line_is = refl };
          usage_line = λ h. absurd (omega (arith, wrote.status_is, h));
          read_line = λ h. absurd (omega (arith, wrote.status_is, h));
          write_line = λ h. absurd (omega (arith, wrote.status_is, h));
          refusal_line = λ l m. absurd (omega (arith, wrote.status_is, l, m));
          memory_line = λ h. refl;
        };
        complete = λ a b. if_told_any before.files _ (λ x. inl wrote.status_is);
      }

  refused_answers : (r : Refusal) → may r → Denied answer before.files before.faults now.faults r → ToldLine r s t status → Says
  refused_answers Usage m d wrote = plain_answers Usage m d (omega arith) (omega arith) (λ e. absurd (omega (arith, e)))
      (λ e. absurd (omega (arith, e))) (λ e. refl) wrote
  refused_answers (Read which) m d wrote = read_answers which m d wrote
  refused_answers (Sheet e) m d wrote = plain_answers (Sheet e) m d (omega arith) (omega arith) (λ e. absurd (omega (arith, e)))
      (λ e. absurd (omega (arith, e))) (λ e. absurd (omega (arith, e))) wrote
  refused_answers (Text which line) m d wrote = plain_answers (Text which line) m d (omega arith) (omega arith)
      (λ e. absurd (omega (arith, e))) (λ e. absurd (omega (arith, e))) (λ e. absurd (omega (arith, e))) wrote
  refused_answers (Limit which) m d wrote = plain_answers (Limit which) m d (omega arith) (omega arith)
      (λ e. absurd (omega (arith, e))) (λ e. absurd (omega (arith, e))) (λ e. absurd (omega (arith, e))) wrote
  refused_answers (Points name) m d wrote = plain_answers (Points name) m d (omega arith) (omega arith)
      (λ e. absurd (omega (arith, e))) (λ e. absurd (omega (arith, e))) (λ e. absurd (omega (arith, e))) wrote
  refused_answers Jobs m d wrote = plain_answers Jobs m d (omega arith) (omega arith) (λ e. absurd (omega (arith, e)))
      (λ e. absurd (omega (arith, e))) (λ e. absurd (omega (arith, e))) wrote
  refused_answers Segments m d wrote = plain_answers Segments m d (omega arith) (omega arith) (λ e. absurd (omega (arith, e)))
      (λ e. absurd (omega (arith, e))) (λ e. absurd (omega (arith, e))) wrote
  refused_answers LongUpgrade m d wrote = plain_answers LongUpgrade m d (omega arith) (omega arith) (λ e. absurd (omega (arith, e)))
      (λ e. absurd (omega (arith, e))) (λ e. absurd (omega (arith, e))) wrote
  refused_answers Memory m d wrote = memory_answers m wrote

  -- the clause `answers`
  pub answers_from : (ending : Ending) → Found answer before.files before.faults now.faults ending → IfErr ending may → Told ending s t status → Says
  answers_from (Ok p) found can (inl wrote) = text_answers p found wrote
  answers_from (Ok p) found can (inr wrote) = fault_answers p found wrote
  answers_from (Err r) found can wrote = refused_answers r can found wrote

usage_is : (r : Refusal) → refusal_status r ≡ 2 → r ≡ Usage
usage_is Usage e = refl
usage_is (Read which) e = absurd (omega (arith, e))
usage_is (Sheet refusal) e = absurd (omega (arith, e))
usage_is (Text which line) e = absurd (omega (arith, e))
usage_is (Limit which) e = absurd (omega (arith, e))
usage_is (Points name) e = absurd (omega (arith, e))
usage_is Jobs e = absurd (omega (arith, e))
usage_is Segments e = absurd (omega (arith, e))
usage_is LongUpgrade e = absurd (omega (arith, e))
usage_is Memory e = absurd (omega (arith, e))

-- status 2 is the refusal of words outside the grammar
usage_from : (ending : Ending) (s t : Outlets) (status : ℕ) → Told ending s t status → status ≡ 2 → ending ≡ Err Usage
usage_from (Ok p) s t status (inl wrote) e = absurd (omega (arith, printed_few p, wrote.status_is, e))
usage_from (Ok p) s t status (inr wrote) e = absurd (omega (arith, wrote.status_is, e))
usage_from (Err r) s t status wrote e = ap (λ x. Err x) (usage_is r (sym wrote.status_is ∙ e))

usage_to : (ending : Ending) (s t : Outlets) (status : ℕ) → Told ending s t status → ending ≡ Err Usage → status ≡ 2
usage_to (Ok p) s t status wrote e = absurd (cc)
usage_to (Err r) s t status wrote e =
    let same : r ≡ Usage = cc in
    wrote.status_is ∙ ap refusal_status same

-- the clause `usage`
pub usage_told : {P : Type 0} (ending : Ending) (s t : Outlets) (status : ℕ) → Told ending s t status → (ending ≡ Err Usage) ↔ P → status ≡ 2 ↔ P
usage_told ending s t status wrote same = (λ e. same.0 (usage_from ending s t status wrote e), λ p. usage_to ending s t status wrote (same.1 p))

refusal_low : (r : Refusal) → 2 ≤ refusal_status r
refusal_low Usage = omega arith
refusal_low (Read which) = omega arith
refusal_low (Sheet refusal) = omega arith
refusal_low (Text which line) = omega arith
refusal_low (Limit which) = omega arith
refusal_low (Points name) = omega arith
refusal_low Jobs = omega arith
refusal_low Segments = omega arith
refusal_low LongUpgrade = omega arith
refusal_low Memory = omega arith

-- the clause `headline`
pub holds_told : (P Q : List ℕ → Type 0) (ending : Ending) (s t : Outlets) (status : ℕ) → Told ending s t status →
    IfOk ending (IsSound P Q) → status ≡ 0 → WasPrinted s.out t.out P
holds_told P Q (Ok (Done text)) s t status (inl wrote) sound e = record { text = text; written = wrote.text_is; holds = sound }
holds_told P Q (Ok (Done text)) s t status (inr wrote) sound e = absurd (omega (arith, wrote.status_is, e))
holds_told P Q (Ok (JudgedNo text)) s t status (inl wrote) sound e = absurd (omega (arith, wrote.status_is, e))
holds_told P Q (Ok (JudgedNo text)) s t status (inr wrote) sound e = absurd (omega (arith, wrote.status_is, e))
holds_told P Q (Err r) s t status wrote sound e = absurd (omega (arith, refusal_low r, wrote.status_is, e))

-- the clause `objection`
pub fails_told : (P Q : List ℕ → Type 0) (ending : Ending) (s t : Outlets) (status : ℕ) → Told ending s t status →
    IfOk ending (IsSound P Q) → status ≡ 1 → WasPrinted s.out t.out Q
fails_told P Q (Ok (JudgedNo text)) s t status (inl wrote) sound e = record { text = text; written = wrote.text_is; holds = sound }
fails_told P Q (Ok (JudgedNo text)) s t status (inr wrote) sound e = absurd (omega (arith, wrote.status_is, e))
fails_told P Q (Ok (Done text)) s t status (inl wrote) sound e = absurd (omega (arith, wrote.status_is, e))
fails_told P Q (Ok (Done text)) s t status (inr wrote) sound e = absurd (omega (arith, wrote.status_is, e))
fails_told P Q (Err r) s t status wrote sound e = absurd (omega (arith, refusal_low r, wrote.status_is, e))

-- a file that could not be read is why the status is 3
pub read_told : (ending : Ending) (s t : Outlets) (status : ℕ) → Told ending s t status → status ≡ 3 → (which : Source) × (ending ≡ Err (Read which))
read_told (Ok p) s t status (inl wrote) e = absurd (omega (arith, printed_few p, wrote.status_is, e))
read_told (Ok p) s t status (inr wrote) e = absurd (omega (arith, wrote.status_is, e))
read_told (Err (Read which)) s t status wrote e = (which, refl)
read_told (Err Usage) s t status wrote e = absurd (omega (arith, wrote.status_is, e))
read_told (Err (Sheet refusal)) s t status wrote e = absurd (omega (arith, wrote.status_is, e))
read_told (Err (Text which line)) s t status wrote e = absurd (omega (arith, wrote.status_is, e))
read_told (Err (Limit which)) s t status wrote e = absurd (omega (arith, wrote.status_is, e))
read_told (Err (Points name)) s t status wrote e = absurd (omega (arith, wrote.status_is, e))
read_told (Err Jobs) s t status wrote e = absurd (omega (arith, wrote.status_is, e))
read_told (Err Segments) s t status wrote e = absurd (omega (arith, wrote.status_is, e))
read_told (Err LongUpgrade) s t status wrote e = absurd (omega (arith, wrote.status_is, e))
read_told (Err Memory) s t status wrote e = absurd (omega (arith, wrote.status_is, e))
