-- `digits::put_number`: the last nine digits are those of the remainder by 10^9 (`digits_low`, `digits_split`).
use Rattle.std.proofs.Common.{◌∙◌, arith}
use Rattle.digits.proofs.Stores.{sets_append}
use Rattle.digits.proofs.Decimal.{digits_length, digits_low, digits_split}
use Rattle.digits.proofs.put_number.Goals as goal

pub returns-then-width-le9 : goal.returns-then-width-le9
returns-then-width-le9 c =
    c.put_digits-then-width-le9.ensures ∙ rw (c.split_last_nine-split.ensures.1, digits_low c.args.width 9 c.args.n c.if-width-le9.true)

pub returns-else-width-le9 : goal.returns-else-width-le9
returns-else-width-le9 c =
    let e = c.split_last_nine-split.ensures in
    c.put_digits-else-width-le9-2.ensures ∙ rw (c.put_digits-else-width-le9.ensures, e.0, e.1, digits_split 9 c.args.width c.args.n (omega arith), sets_append, digits_length)
