-- `moments::from_year_0`: the sum itself, where it fits; else the parts of the exact sum.
use Rattle.std.proofs.Common.{ap, subst, ◌∙◌, arith, rules, pos, ◌+ℤ◌, to_z-of_z, w64, SFits}
use Rattle.integers.proofs.Machine.{two}
use Rattle.integers.proofs.Floor.{PartsOf, of_split, of_add, proper}
use Rattle.moments.proofs.from_year_0.Goals as goal

pub returns-in-Some-checked_add : goal.returns-in-Some-checked_add
returns-in-Some-checked_add c =
    let f = c.ranges.seconds in
    let g = c.ranges.epoch in
    let h : SFits w64 c.in-Some.sum = search rules in
    let s = (simp (to_z-of_z, f, g) at c.in-Some.ensures).1 in
    let t = (simp (to_z-of_z, h) at c.in-Some-checked_add.ensures).1 in
    let p = c.floor_split.result in
    subst (λ z. PartsOf 12622780800 z p) (t ∙ ap (λ z. z +ℤ pos 62167219200) s) (of_split {n = c.in-Some-checked_add.sum} {p = p} (search rules) c.floor_split.ensures)

pub add_parts-requires : goal.add_parts-requires
add_parts-requires c =
    let f = two c.ranges.seconds c.ranges.epoch in
    let s : PartsOf 12622780800 (c.args.seconds +ℤ c.args.epoch) c.add_parts-sum.result = of_add (of_split c.ranges.seconds c.floor_split-2.ensures) (of_split c.ranges.epoch c.floor_split-3.ensures) c.add_parts-sum.ensures in
    (proper _ s (omega arith) (omega arith) (omega arith), proper _ c.floor_split-4.ensures (omega arith) (omega arith) (omega arith))

pub returns : goal.returns
returns c =
    let s : PartsOf 12622780800 (c.args.seconds +ℤ c.args.epoch) c.add_parts-sum.result = of_add (of_split c.ranges.seconds c.floor_split-2.ensures) (of_split c.ranges.epoch c.floor_split-3.ensures) c.add_parts-sum.ensures in
    of_add s c.floor_split-4.ensures c.add_parts.ensures
