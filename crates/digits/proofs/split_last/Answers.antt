-- `digits::split_last`: the product is the quotient (`rounded_up`).
use native.Mathlib.Nat.{div-mul-le_self}
use Rattle.digits.proofs.Product.{rounded_up}
use Rattle.digits.proofs.split_last.Goals as goal

pub overflow_sub-result : goal.overflow_sub-result
overflow_sub-result g c = rw (rounded_up g.row.DIVISOR g.row.FACTOR c.args.n c.requires.small c.requires.rounded_up.0 c.requires.rounded_up.1).0 (div-mul-le_self c.args.n g.row.DIVISOR)

pub returns : goal.returns
returns g c = rounded_up g.row.DIVISOR g.row.FACTOR c.args.n c.requires.small c.requires.rounded_up.0 c.requires.rounded_up.1
