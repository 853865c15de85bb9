-- `integers::sub_parts`: with a borrow, or with none.
use Rattle.std.proofs.Common.{ℕ, ◌-ℤ◌, arith, rules, w64, SFits, to_z, of_z, pos}
use Rattle.integers.specs.Integers.{Proper}
use Rattle.integers.specs.declared.Parts.{Parts}
use Rattle.integers.proofs.Machine.{signed, Known, known}
use Rattle.integers.proofs.Floor.{Quotients, quotients, diff_floor}
use Rattle.integers.proofs.sub_parts.Goals as goal

-- two quotients, and their difference as the machine makes it
record MachineDifference (a b : Parts) : Type 0 where
  both : Quotients a b
  difference : Known w64 (to_z w64 (of_z w64 a.quotient) -ℤ to_z w64 (of_z w64 b.quotient))

machine_difference : {k : ℕ} (a b : Parts) → Proper k a × Proper k b → SFits w64 a.quotient → SFits w64 b.quotient → MachineDifference a b
machine_difference a b p f g = let two = quotients a b f g in record { both = two; difference = known (omega (arith, signed)) }

pub returns-then-b-a : goal.returns-then-b-a
returns-then-b-a c =
    let made = machine_difference c.args.a c.args.b c.requires (search rules) (search rules) in
    diff_floor c.args.divisor c.args.a c.args.b 0 (omega (arith, signed)) (omega arith) (omega arith)

pub returns : goal.returns
returns c =
    let made = machine_difference c.args.a c.args.b c.requires (search rules) (search rules) in
    let f : SFits w64 (to_z w64 (of_z w64 (to_z w64 (of_z w64 c.args.a.quotient) -ℤ to_z w64 (of_z w64 c.args.b.quotient))) -ℤ pos 1) = omega (arith, signed) in
    diff_floor c.args.divisor c.args.a c.args.b 1 (omega (arith, signed, known f)) (omega arith) (omega arith)
