-- `fields::pull_two_digits`: the byte behind two digits decides; of anything else the width does.
use Rattle.std.proofs.Common.{sym, ◌∙◌, inl, inr, arith}
use borrow.Author.Tests.{ne_eqb}
use Rattle.fields.specs.Fields.{two_digits}
use Rattle.fields.proofs.Pairs.{pair_short, pair_last, pair_got, pair_wide, pair_bad}
use Rattle.fields.proofs.pull_two_digits.Goals.{else-is_digit-via-then-is_digit+else-is_digit-2, else-is_digit-via-else-is_digit}
use Rattle.fields.proofs.pull_two_digits.Goals as goal

pub returns-then-s-lt2 : goal.returns-then-s-lt2
returns-then-s-lt2 c = pair_short _ _ c.if-s-lt2.true

pub returns-then-s-eq2 : goal.returns-then-s-eq2
returns-then-s-eq2 c = rw c.pair-value.ensures (pair_last _ _ c.if-s-eq2.true (cc) cc)

pub returns-then-is_delimiter : goal.returns-then-is_delimiter
returns-then-is_delimiter c = rw c.pair-value.ensures (pair_got _ _ (omega arith) (cc) (cc) cc)

pub returns-then-is_digit-2 : goal.returns-then-is_digit-2
returns-then-is_digit-2 c = pair_wide _ _ (omega arith) (cc) (cc) cc

pub returns-then-find-eq2 : goal.returns-then-find-eq2
returns-then-find-eq2 c =
    pair_bad _ _ (omega arith) (sym c.find.ensures.value ∙ c.if-find-eq2.true)
    (elim c.else-is_digit.branch [
      | else-is_digit-via-then-is_digit+else-is_digit-2 w ↦ inr (sym w.is_digit-then-is_digit.ensures ∙ w.if-is_digit-2.false)
      | else-is_digit-via-else-is_digit w ↦ inl (sym c.is_digit.ensures ∙ w.if-is_digit.false)
    ])

pub returns-else-find-eq2 : goal.returns-else-find-eq2
unfolding two_digits
returns-else-find-eq2 c = rw (← c.find.ensures.value, ne_eqb c.find.result 2 (λ w. omega arith))
