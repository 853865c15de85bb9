-- `integers::checked_sum`: the two tests tell whether an i64 holds the exact sum.
use Rattle.std.proofs.Common.{◌≡◌, ap, ◌∙◌, subst, pos, ◌+ℤ◌, ◌-ℤ◌, ℤ, arith, to_z-of_z, SFits, of_z, to_z, w64, rules}
use Rattle.std.specs.Int.{w128}
use Rattle.std.specs.Prelude.{Some, None}
use Rattle.integers.specs.Integers.{checked}
use Rattle.integers.proofs.Machine.{signed, known, fit}
use Rattle.integers.proofs.Sums.{inside, not_held, exact_if, none_if}
use Rattle.integers.proofs.checked_sum.Goals as goal
use Rattle.integers.proofs.checked_sum.Goals.{After-exact_sum-exact, then-exact-lt-LOW-via-then-exact-lt-LOW, then-exact-lt-LOW-via-else-exact-lt-LOW+then-exact-gt-TOP}

module _ (c : After-exact_sum-exact) where
  abbrev z : ℤ
  z = c.args.a +ℤ pos c.args.more +ℤ c.args.b -ℤ c.args.less

  is : c.exact_sum-exact.result ≡ z
  is = simp (to_z-of_z, c.ranges.a, c.ranges.b, c.ranges.less) at c.exact_sum-exact.ensures

  wide : SFits w128 c.exact_sum-exact.result
  wide = search rules

pub returns-then-exact-lt-LOW : goal.returns-then-exact-lt-LOW
returns-then-exact-lt-LOW c =
    subst (λ x. None ≡ checked x) (is (search))
    (none_if c.exact_sum-exact.result (not_held c.exact_sum-exact.result λ f. elim c.then-exact-lt-LOW.branch [
      | then-exact-lt-LOW-via-then-exact-lt-LOW w ↦ omega (arith, signed, w.if-exact-lt-LOW.true, known (wide (search)), known f)
      | then-exact-lt-LOW-via-else-exact-lt-LOW+then-exact-gt-TOP w ↦ omega (arith, signed, w.if-exact-gt-TOP.true, known (wide (search)), known f)
    ]))

pub returns : goal.returns
returns c =
    let x = c.exact_sum-exact.result in
    let w = wide (search) in
    let f : SFits w64 x = fit w64 x (omega (arith, signed, c.if-exact-lt-LOW.false, c.if-exact-gt-TOP.false, known w)) in
    subst (λ y. Some (to_z w64 (of_z w64 (to_z w128 (of_z w128 x)))) ≡ checked y) (is (search))
    (ap Some (ap (λ y. to_z w64 (of_z w64 y)) (to_z-of_z w) ∙ to_z-of_z f) ∙ exact_if x (inside x f))
