-- `integers::add_parts`: with a carry, or with none.
use Rattle.std.proofs.Common.{ℕ, ◌+ℤ◌, arith, rules, w64, SFits, to_z, of_z}
use Rattle.integers.specs.Integers.{Proper}
use Rattle.integers.specs.declared.Parts.{Parts}
use Rattle.integers.proofs.Machine.{signed, Known, known}
use Rattle.integers.proofs.Floor.{Quotients, quotients, sum_floor}
use Rattle.integers.proofs.add_parts.Goals as goal

-- two quotients, and their sum as the machine makes it
record MachineSum (a b : Parts) : Type 0 where
  both : Quotients a b
  sum : Known w64 (to_z w64 (of_z w64 a.quotient) +ℤ to_z w64 (of_z w64 b.quotient))

machine_sum : {k : ℕ} (a b : Parts) → Proper k a × Proper k b → SFits w64 a.quotient → SFits w64 b.quotient → MachineSum a b
machine_sum a b p f g = let two = quotients a b f g in record { both = two; sum = known (omega (arith, signed)) }

pub returns-then-rest-divisor : goal.returns-then-rest-divisor
returns-then-rest-divisor c =
    let made = machine_sum c.args.a c.args.b c.requires (search rules) (search rules) in
    sum_floor c.args.divisor c.args.a c.args.b 0 (omega (arith, signed)) (omega arith) (omega arith)

pub overflow_add-result : goal.overflow_add-result
overflow_add-result c = let made = machine_sum c.args.a c.args.b c.requires (search rules) (search rules) in omega (arith, signed)

pub returns : goal.returns
returns c =
    let made = machine_sum c.args.a c.args.b c.requires (search rules) (search rules) in
    sum_floor c.args.divisor c.args.a c.args.b 1 (omega (arith, signed, known (overflow_add-result (search)))) (omega arith) (omega arith)
