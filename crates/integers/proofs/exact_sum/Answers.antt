-- `integers::exact_sum`: an i128 holds every partial sum.
use Rattle.std.proofs.Common.{◌≡◌, ap, ◌∙◌, ◌^◌, ◌<◌, ℕ, pos, ◌+ℤ◌, ◌-ℤ◌, ℤ, arith, to_z-of_z, SFits, of_z, to_z, w64, subst, sym}
use Rattle.std.specs.Int.{w128}
use Rattle.integers.proofs.Signed.{add_law, diff_law}
use Rattle.integers.proofs.Machine.{known, fit}
use Rattle.integers.proofs.exact_sum.Goals as goal
use Rattle.integers.proofs.exact_sum.Goals.{After-from-4}

-- the machine's number is z
back : {x z : ℤ} → x ≡ z → SFits w128 z → to_z w128 (of_z w128 x) ≡ z
back e f = ap (λ y. to_z w128 (of_z w128 y)) e ∙ to_z-of_z f

-- of a sum
plus : {x y a b : ℤ} → x ≡ a → y ≡ b → SFits w128 (a +ℤ b) → to_z w128 (of_z w128 (x +ℤ y)) ≡ a +ℤ b
plus {y = y} {a = a} e h f = back (ap (λ x. x +ℤ y) e ∙ ap (λ y. a +ℤ y) h) f

wide : {z : ℤ} → SFits w64 z → SFits w128 z
wide {z} f = fit w128 z (omega (arith, known f))

three : {x y z a b : ℤ} {m : ℕ} → x ≡ a → y ≡ pos m → z ≡ b → SFits w64 a → m < 2 ^ 64 → SFits w64 b
    → to_z w128 (of_z w128 (to_z w128 (of_z w128 (to_z w128 (of_z w128 x) +ℤ to_z w128 (of_z w128 y))) +ℤ to_z w128 (of_z w128 z))) ≡ a +ℤ pos m +ℤ b
three {a = a} {b = b} {m = m} e h k f l g =
    plus (plus (back e (wide f)) (back h (fit w128 (pos m) (omega arith))) (fit w128 (a +ℤ pos m) (omega (arith, known f, add_law a (pos m))))) (back k (wide g))
    (fit w128 (a +ℤ pos m +ℤ b) (omega (arith, known f, known g, add_law a (pos m), add_law (a +ℤ pos m) b)))

four : {a b c : ℤ} {m : ℕ} → SFits w64 a → m < 2 ^ 64 → SFits w64 b → SFits w64 c → SFits w128 (a +ℤ pos m +ℤ b -ℤ c)
four {a} {b} {c} {m} f l g h =
    fit w128 (a +ℤ pos m +ℤ b -ℤ c) (omega (arith, known f, known g, known h, add_law a (pos m), add_law (a +ℤ pos m) b, diff_law (a +ℤ pos m +ℤ b) c))

both : {x y a b : ℤ} → x ≡ a → y ≡ b → x -ℤ y ≡ a -ℤ b
both {y = y} {a = a} e h = ap (λ x. x -ℤ y) e ∙ ap (λ y. a -ℤ y) h

module _ (c : After-from-4) where
  taken : to_z w128 (of_z w128 (to_z w128 (of_z w128 (to_z w128 (of_z w128 c.from.result) +ℤ to_z w128 (of_z w128 c.from-2.result))) +ℤ to_z w128 (of_z w128 c.from-3.result))) -ℤ to_z w128 (of_z w128 c.from-4.result) ≡ c.args.a +ℤ pos c.args.more +ℤ c.args.b -ℤ c.args.less
  taken =
      both
      (three (c.from.ensures ∙ to_z-of_z c.ranges.a) c.from-2.ensures (c.from-3.ensures ∙ to_z-of_z c.ranges.b) c.ranges.a c.ranges.more.fits c.ranges.b)
      (back (c.from-4.ensures ∙ to_z-of_z c.ranges.less) (wide c.ranges.less))

  fits : SFits w128 (c.args.a +ℤ pos c.args.more +ℤ c.args.b -ℤ c.args.less)
  fits = four c.ranges.a c.ranges.more.fits c.ranges.b c.ranges.less

pub overflow_sub-result : goal.overflow_sub-result
overflow_sub-result c = subst (SFits w128) (sym (taken (search))) (fits (search))

pub returns : goal.returns
returns c = back (taken (search)) (fits (search))
