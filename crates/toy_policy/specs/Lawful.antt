-- the proof that the order of the numbers keeps the laws of a policy; nothing here is to be believed
use Rattle.std.proofs.Common.{◌≡◌, ◌+◌, Bool, true, false, cond, sym, ap, subst, inl, arith, ltb}
use Rattle.std.proofs.lemmas.Int.{ints}
use Rattle.std.proofs.lemmas.Bool.Decides.{nat_tests}
use Rattle.task_sheet.specs.SheetParts.{SheetParts}
use Rattle.task_sheet.specs.Sheets.{task_at, IsValidSheet}
use Rattle.policy.specs.declared.keys.Cap.TheVariants.{Nothing, All}
use Rattle.policy.specs.PolicyLaws.{IsLawfulPolicy, Admits}
use Rattle.policy.specs.Lawful.{same_cap, no_limit}
use Rattle.toy_policy.specs.Numbered.{by_number_meaning}

-- the order of the numbers keeps the laws
pub by_number_lawful : (sheet : SheetParts) → IsValidSheet sheet → IsLawfulPolicy by_number_meaning sheet
by_number_lawful sheet ok = record {
  own_class = λ i b. grind (arith, nat_tests);
  higher_class = λ k j b c h. grind (arith, ints, nat_tests);
  class_closed = λ i k j a b c h e. grind (arith, ints, nat_tests);
  in_order = λ k j b c e h. grind (arith, ints, nat_tests);
  capped = λ start a k j b c tk tj ne e h l.
      let t : ltb k.task j.task ≡ true = grind (arith, ints, nat_tests) in
      subst (λ w. Admits (cond w All Nothing) start (k.arrival + (task_at sheet k.task).jitter)) (sym t) tt;
  blocks = λ start a k j b c tk tj ne e h l. grind (arith, ints, nat_tests);
  cap_grows = λ i o a b c d ne h. same_cap (ltb o i);
  block_falls = λ i o a b c d ne h e. e;
  cap_limited = λ i o a b c ne h. no_limit (ltb o i);
  cap_class = λ i o a b c ne e.
      let t : ltb o i ≡ false = grind (arith, nat_tests) in
      ap (λ (w : Bool). cond w All Nothing) t;
  outside_delays = λ i o b c e. grind (arith, nat_tests);
  block_delays = λ i o a b c ne e. inl e;
}
