-- `durations::add`: a wrapped sum below the old seconds is one turn off, any other is exact (`added`).
use Rattle.std.proofs.Common.{◌≡◌, ℤ, ℕ, ◌+◌, ◌/◌, ◌%◌, ◌+ℤ◌, ap, ◌∙◌, sym, arith, to_z-of_z, w64, SFits, to_z, of_z, rules}
use Rattle.integers.specs.Integers.{checked}
use Rattle.integers.proofs.Signed.{add_law}
use Rattle.integers.proofs.Machine.{signed, read_pos}
use Rattle.integers.proofs.Sums.{is_checked}
use Rattle.integers.proofs.Wrapped.{Added, added}
use Rattle.errors.specs.Refusals.{gives}
use Rattle.seconds.specs.Counts.{representable}
use Rattle.seconds.proofs.Checks.{given, one_good, both_good, bad_nanos, not_representable}
use Rattle.durations.specs.Durations as Durations
use Rattle.durations.proofs.Nanos.{sum_law, time_none, time_parts}
use Rattle.durations.proofs.add.Goals as goal
use Rattle.durations.proofs.add.Goals.{After-wrapping_add_unsigned-sum, After-checked_add}

-- what is known once the seconds have wrapped
facts : (c : After-wrapping_add_unsigned-sum) → Added c.args.secs c.args.dsecs c.wrapping_add_unsigned-sum.result
facts c = added c.ranges.secs (search rules) (simp (to_z-of_z, c.ranges.secs) at c.wrapping_add_unsigned-sum.ensures)

module _ (c : After-checked_add) where
  abbrev carry : ℕ
  carry = (c.args.nanos + c.args.dnanos) / 1000000000

  abbrev later : ℤ
  later = to_z w64 (of_z w64 c.wrapping_add_unsigned-sum.result) +ℤ to_z w64 carry

  sum : c.checked_add.result ≡ checked later
  sum = is_checked _ _ c.checked_add.ensures

  meant : representable later (gives (later, (c.args.nanos + c.args.dnanos) % 1000000000)) ≡ Durations.added c.args.secs c.args.nanos c.args.dsecs c.args.dnanos
  unfolding Durations.added
  meant =
      let n = c.in_ok-check_nanos.ensures in
      let m = c.in_ok-check_nanos-2.ensures in
      let l = sum_law c.args.secs c.args.nanos c.args.dsecs c.args.dnanos in
      let k = facts (search) in
      let s = k.stays (omega (arith, signed)) in
      let r = read_pos w64 carry (omega arith) in
      sym (time_parts _ _ _ (omega arith) (omega (arith, signed, add_law (to_z w64 (of_z w64 c.wrapping_add_unsigned-sum.result)) (to_z w64 carry)))) ∙ sym (both_good n m)

pub returns-in_err-check_nanos : goal.returns-in_err-check_nanos
unfolding Durations.added
returns-in_err-check_nanos c = bad_nanos _ _ c.args.nanos c.from_residual.result _ c.from_residual.ensures.1 c.in_err-check_nanos.ensures

pub returns-in_err-check_nanos-2 : goal.returns-in_err-check_nanos-2
unfolding Durations.added
returns-in_err-check_nanos-2 c =
    bad_nanos _ _ c.args.dnanos c.from_residual-in_err-check_nanos-2.result _ c.from_residual-in_err-check_nanos-2.ensures.1 c.in_err-check_nanos-2.ensures
    ∙ sym (one_good c.in_ok-check_nanos.ensures)

pub returns-then-sum-secs : goal.returns-then-sum-secs
unfolding Durations.added
returns-then-sum-secs c =
    let n = c.in_ok-check_nanos.ensures in
    let m = c.in_ok-check_nanos-2.ensures in
    let l = sum_law c.args.secs c.args.nanos c.args.dsecs c.args.dnanos in
    let k = facts (search) in
    let w = k.wraps (omega (arith, signed)) in
    time_none _ (omega (arith, signed)) ∙ sym (both_good n m)

pub returns-in_err-later : goal.returns-in_err-later
returns-in_err-later c =
    let e = c.in_err-later.ensures in
    let r = c.from_residual-in_err-later in
    not_representable _ _ _ (sum (search)) r.result _ r.ensures.1 e.value e.ok_part ∙ meant (search)

pub returns : goal.returns
returns c =
    let form : ℤ → ℤ × ℕ = λ x. (x, (c.args.nanos + c.args.dnanos) % 1000000000) in
    let f : SFits w64 c.in_ok-later.later = search rules in
    ap (λ x. gives (form x)) (to_z-of_z {w = w64} f) ∙ given _ (sum (search)) form c.in_ok-later.ensures.ok_part ∙ meant (search)
