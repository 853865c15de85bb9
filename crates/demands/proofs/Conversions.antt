-- Document 02, ask 5: a conversion is refused only for its result. A change of epoch keeps the moment, and what was converted
-- comes back.
use mathlib.Core.Path.{◌≡◌, refl, sym, ap, ◌∙◌}
use mathlib.Core.Bool.{Bool, true, false}
use mathlib.Core.List.{[]}
use mathlib.Core.Logic.{◌↔◌}
use Prim.Native.Nat.{ℕ, ◌/◌, ◌%◌, ◌<◌}
use native.Mathlib.Omega.{arith}
use lib.Dec.{ltb}
use lib.IntN.{ℤ, pos, ◌+ℤ◌, ◌-ℤ◌}
use borrow.Author.Tests.{lt-ltb, ltb-true}
use Rattle.integers.specs.Integers.{is_i64}
use Rattle.integers.proofs.Signed.{plus≡, minus≡, eq_z, add_law, diff_law}
use Rattle.errors.specs.Refusals.{gives, refuses, refusal}
use Rattle.errors.proofs.Outcomes.{gives_one, passed, refuses_not}
use Rattle.moments.specs.Moments.{moment_at}
use Rattle.counts.specs.Counts.{representable, from_unix, to_unix, over_epoch}
use Rattle.demands.specs.Values.{I64, Timestamp, ReadsTheSame}
use Rattle.demands.proofs.DatesWalked.{one_moment}
use Rattle.demands.proofs.GivenWhen.{over_epoch_10_exactly}

-- what a - less + more is, told without a difference
sum_is : (a less more r : ℤ) → (a -ℤ less +ℤ more ≡ r) ↔ (r +ℤ less ≡ more +ℤ a)
sum_is a less more r =
    let sum = add_law (a -ℤ less) more in
    let difference = diff_law a less in
    let left = add_law r less in
    let right = add_law more a in
    (λ e. eq_z _ _ (omega (arith, plus≡ e, minus≡ e)), λ e. eq_z _ _ (omega (arith, plus≡ e, minus≡ e)))

-- ---- Change of epoch
module _ (old new secs : ℤ) (nanos : ℕ) where
  -- A timestamp is moved to a count over the new epoch exactly if that count is an i64 and, by the walk, reads as the same
  -- moment; the nanoseconds stay.
  pub moved_exactly : (secs' : ℤ) (nanos' : ℕ)
      → (over_epoch old new secs nanos ≡ gives (secs', nanos')) ↔ (ReadsTheSame old secs new secs' × (nanos' ≡ nanos) × (nanos < 1000000000))
  unfolding over_epoch
  moved_exactly secs' nanos' = (there, back)
    where
      there : over_epoch old new secs nanos ≡ gives (secs', nanos') → ReadsTheSame old secs new secs' × (nanos' ≡ nanos) × (nanos < 1000000000)
      there e =
          let p = passed _ (refusal 11 []) _ e in
          let q = passed _ (refusal 10 []) _ p.1 in
          let m = ap (λ x. x.0) (gives_one q.1) in
          (record { secs_fit = sym (ap is_i64 m) ∙ q.0; walked = ap moment_at ((sum_is old new secs secs').0 m) }, sym (ap (λ x. x.1) (gives_one q.1)), ltb-true nanos 1000000000 p.0)

      back : ReadsTheSame old secs new secs' × (nanos' ≡ nanos) × (nanos < 1000000000) → over_epoch old new secs nanos ≡ gives (secs', nanos')
      back (r, e, n) = rw (lt-ltb nanos 1000000000 n, (sum_is old new secs secs').1 (one_moment r.walked), r.secs_fit, e)

  -- It is refused with 10 exactly if no count over the new epoch reads so.
  pub not_moved : (over_epoch old new secs nanos ≡ refuses (refusal 10 [])) ↔ ((nanos < 1000000000) × ((secs' : ℤ) → ReadsTheSame old secs new secs' → ⊥))
  not_moved = (there, λ (n, f). (over_epoch_10_exactly secs nanos old new).1 (n, go f (is_i64 moved) refl))
    where
      moved : ℤ
      moved = old -ℤ new +ℤ secs

      there : over_epoch old new secs nanos ≡ refuses (refusal 10 []) → (nanos < 1000000000) × ((secs' : ℤ) → ReadsTheSame old secs new secs' → ⊥)
      there e = let n = ((over_epoch_10_exactly secs nanos old new).0 e).0 in (n, λ secs' r. refuses_not (sym e ∙ (moved_exactly secs' nanos).1 (r, refl, n)))

      go : ((secs' : ℤ) → ReadsTheSame old secs new secs' → ⊥) → (b : Bool) → is_i64 moved ≡ b → is_i64 moved ≡ false
      go f true e = absurd (f moved (record { secs_fit = e; walked = ap moment_at ((sum_is old new secs moved).0 refl) }))
      go f false e = e

-- There and back gives the timestamp again.
pub moved_back : (old new : ℤ) {secs secs' : ℤ} {nanos nanos' : ℕ} → Timestamp secs nanos → over_epoch old new secs nanos ≡ gives (secs', nanos') → over_epoch new old secs' nanos' ≡ gives (secs, nanos)
moved_back old new {secs} {secs'} {nanos} {nanos'} t e =
    let (r, n, h) = (moved_exactly old new secs nanos secs' nanos').0 e in
    (moved_exactly new old secs' nanos' secs nanos).1 (record { secs_fit = t.secs_fit; walked = sym r.walked }, sym n, rw n h)

-- ---- Unix seconds
-- with no whole second in the nanoseconds, the one sum is the other, turned round
unix_is : (epoch leap secs unix : ℤ) (nanos : ℕ) → nanos < 1000000000 → (secs -ℤ leap +ℤ epoch ≡ unix) ↔ (unix +ℤ pos (nanos / 1000000000) +ℤ leap -ℤ epoch ≡ secs)
unix_is epoch leap secs unix nanos h =
    let carry = pos (nanos / 1000000000) in
    let to-unix = add_law (secs -ℤ leap) epoch in
    let less-leap = diff_law secs leap in
    let from-unix = diff_law (unix +ℤ carry +ℤ leap) epoch in
    let with-leap = add_law (unix +ℤ carry) leap in
    let carried = add_law unix carry in
    (λ e. eq_z _ _ (omega (arith, plus≡ e, minus≡ e)), λ e. eq_z _ _ (omega (arith, plus≡ e, minus≡ e)))

module _ (epoch leap : ℤ) {secs unix : ℤ} {nanos : ℕ} where
  -- A timestamp comes back from its Unix seconds with the same leap offset,
  pub back_from_unix : Timestamp secs nanos → to_unix epoch secs nanos leap ≡ gives unix → from_unix epoch unix nanos leap ≡ gives (secs, nanos)
  unfolding to_unix from_unix
  back_from_unix t e =
      let p = passed (ltb nanos 1000000000) (refusal 11 []) (representable (secs -ℤ leap +ℤ epoch) (gives (secs -ℤ leap +ℤ epoch))) e in
      let q = gives_one (passed (is_i64 (secs -ℤ leap +ℤ epoch)) (refusal 10 []) (gives (secs -ℤ leap +ℤ epoch)) p.1).1 in
      let r : nanos % 1000000000 ≡ nanos = omega (arith, t.nanos_to) in
      rw ((unix_is epoch leap secs unix nanos t.nanos_to).0 q, r, t.secs_fit)

  -- and so do Unix seconds with no whole second in their nanoseconds from their timestamp.
  pub back_to_unix : I64 unix → nanos < 1000000000 → {nanos' : ℕ} → from_unix epoch unix nanos leap ≡ gives (secs, nanos') → to_unix epoch secs nanos' leap ≡ gives unix
  unfolding to_unix from_unix
  back_to_unix u n {nanos'} e =
      let sum = unix +ℤ pos (nanos / 1000000000) +ℤ leap -ℤ epoch in
      let q = gives_one (passed (is_i64 sum) (refusal 10 []) (gives (sum, nanos % 1000000000)) e).1 in
      let r : nanos' < 1000000000 = omega (arith, ap (λ x. x.1) q) in
      rw (lt-ltb nanos' 1000000000 r, (unix_is epoch leap secs unix nanos n).1 (ap (λ x. x.0) q), u)
