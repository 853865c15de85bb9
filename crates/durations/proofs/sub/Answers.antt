-- `durations::sub`: a wrapped difference above the old seconds is one turn off, any other is exact (`taken`).
use Rattle.std.proofs.Common.{◌≡◌, ℤ, ℕ, ◌+◌, ◌-◌, ◌/◌, ◌%◌, pos, ◌-ℤ◌, ap, ◌∙◌, sym, arith, to_z-of_z, w64, SFits, to_z, of_z, rules}
use Rattle.integers.specs.Integers.{checked}
use Rattle.integers.proofs.Signed.{diff_law}
use Rattle.integers.proofs.Machine.{signed, read_pos}
use Rattle.integers.proofs.Sums.{is_checked}
use Rattle.integers.proofs.Wrapped.{Taken, taken}
use Rattle.errors.specs.Refusals.{gives}
use Rattle.seconds.specs.Counts.{representable}
use Rattle.seconds.proofs.Checks.{given, one_good, both_good, bad_nanos, not_representable}
use Rattle.durations.specs.Durations as Durations
use Rattle.durations.proofs.Nanos.{difference_law, time_none, time_parts}
use Rattle.durations.proofs.sub.Goals as goal
use Rattle.durations.proofs.sub.Goals.{After-wrapping_sub_unsigned-difference, After-checked_sub}

-- what is known once the seconds have wrapped
facts : (c : After-wrapping_sub_unsigned-difference) → Taken c.args.secs c.args.dsecs c.wrapping_sub_unsigned-difference.result
facts c = taken c.ranges.secs (search rules) (simp (to_z-of_z, c.ranges.secs) at c.wrapping_sub_unsigned-difference.ensures)

module _ (c : After-checked_sub) where
  abbrev rest : ℕ
  rest = c.args.nanos + 1000000000 - c.args.dnanos

  abbrev earlier : ℤ
  earlier = to_z w64 (of_z w64 c.wrapping_sub_unsigned-difference.result) -ℤ to_z w64 (1 - rest / 1000000000)

  difference : c.checked_sub.result ≡ checked earlier
  difference = is_checked _ _ c.checked_sub.ensures

  meant : representable earlier (gives (earlier, rest % 1000000000)) ≡ Durations.taken c.args.secs c.args.nanos c.args.dsecs c.args.dnanos
  unfolding Durations.taken
  meant =
      let n = c.in_ok-check_nanos.ensures in
      let m = c.in_ok-check_nanos-2.ensures in
      let l = difference_law c.args.secs c.args.nanos (pos c.args.dsecs) c.args.dnanos in
      let k = facts (search) in
      let s = k.stays (omega (arith, signed)) in
      let r = read_pos w64 (1 - rest / 1000000000) (omega arith) in
      sym (time_parts _ _ _ (omega arith) (omega (arith, signed, diff_law (to_z w64 (of_z w64 c.wrapping_sub_unsigned-difference.result)) (to_z w64 (1 - rest / 1000000000))))) ∙ sym (both_good n m)

pub returns-in_err-check_nanos : goal.returns-in_err-check_nanos
unfolding Durations.taken
returns-in_err-check_nanos c = bad_nanos _ _ c.args.nanos c.from_residual.result _ c.from_residual.ensures.1 c.in_err-check_nanos.ensures

pub returns-in_err-check_nanos-2 : goal.returns-in_err-check_nanos-2
unfolding Durations.taken
returns-in_err-check_nanos-2 c =
    bad_nanos _ _ c.args.dnanos c.from_residual-in_err-check_nanos-2.result _ c.from_residual-in_err-check_nanos-2.ensures.1 c.in_err-check_nanos-2.ensures
    ∙ sym (one_good c.in_ok-check_nanos.ensures)

pub returns-then-secs-difference : goal.returns-then-secs-difference
unfolding Durations.taken
returns-then-secs-difference c =
    let n = c.in_ok-check_nanos.ensures in
    let m = c.in_ok-check_nanos-2.ensures in
    let l = difference_law c.args.secs c.args.nanos (pos c.args.dsecs) c.args.dnanos in
    let k = facts (search) in
    let w = k.wraps (omega (arith, signed)) in
    time_none _ (omega (arith, signed)) ∙ sym (both_good n m)

pub returns-in_err-earlier : goal.returns-in_err-earlier
returns-in_err-earlier c =
    let e = c.in_err-earlier.ensures in
    let r = c.from_residual-in_err-earlier in
    not_representable _ _ _ (difference (search)) r.result _ r.ensures.1 e.value e.ok_part ∙ meant (search)

pub returns : goal.returns
returns c =
    let form : ℤ → ℤ × ℕ = λ x. (x, (c.args.nanos + 1000000000 - c.args.dnanos) % 1000000000) in
    let f : SFits w64 c.in_ok-earlier.earlier = search rules in
    ap (λ x. gives (form x)) (to_z-of_z {w = w64} f) ∙ given _ (difference (search)) form c.in_ok-earlier.ensures.ok_part ∙ meant (search)
