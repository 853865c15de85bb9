-- What lies at an exact count of nanoseconds, and that it is what the sums and differences answer.
use mathlib.Core.Path.{◌≡◌, refl, sym, ap, ◌∙◌}
use mathlib.Core.Bool.{Bool, true, false}
use mathlib.Core.List.{[]}
use mathlib.Core.Logic.{◌↔◌}
use Prim.Native.Nat.{ℕ, ◌+◌, ◌*◌, ◌/◌, ◌%◌, ◌^◌, ◌<◌}
use native.Mathlib.Omega.{arith}
use lib.IntN.{ℤ, pos, negsuc, ◌+ℤ◌, ◌-ℤ◌}
use borrow.Author.Tests.{lt-ltb}
use Rattle.integers.specs.Integers.{Floor, is_i64, floor_div, floor_mod}
use Rattle.integers.proofs.Signed.{plus, minus, apart}
use Rattle.integers.proofs.Machine.{known}
use Rattle.integers.proofs.Floor.{floor_law, floor_one}
use Rattle.errors.specs.Refusals.{gives, refuses, refusal}
use Rattle.errors.proofs.Outcomes.{gives_one, passed, refuses_not}
use Rattle.counts.specs.Counts.{exact, time_at, duration_at, added, taken, since}
use Rattle.durations.proofs.Nanos.{difference_law}
use Rattle.demands.specs.Values.{I64, Timestamp, Duration, TimeLiesAt, DurationLiesAt}
use Rattle.demands.proofs.Integers.{fits}

-- ---- timestamps
at_floor : {s : ℤ} {n : ℕ} (z : ℤ) → n < 1000000000 → exact s n ≡ z → Floor 1000000000 z s n
unfolding exact
at_floor z h e = record { whole = sym e; small = h }

floor_at : (z : ℤ) → exact (floor_div 1000000000 z) (floor_mod 1000000000 z) ≡ z
unfolding exact
floor_at z = sym (floor_law 1000000000 z (omega arith)).whole

here : (z : ℤ) → I64 (floor_div 1000000000 z) → Timestamp (floor_div 1000000000 z) (floor_mod 1000000000 z)
here z f = record { secs_fit = f; nanos_to = (floor_law 1000000000 z (omega arith)).small }

module _ (z : ℤ) where
  time_value : (secs : ℤ) (nanos : ℕ) → (time_at z ≡ gives (secs, nanos)) ↔ (Timestamp secs nanos × (exact secs nanos ≡ z))
  unfolding time_at
  time_value secs nanos = (there, back)
    where
      q : ℤ
      q = floor_div 1000000000 z

      r : ℕ
      r = floor_mod 1000000000 z

      there : time_at z ≡ gives (secs, nanos) → Timestamp secs nanos × (exact secs nanos ≡ z)
      there e =
          let p = passed (is_i64 q) (refusal 10 []) (gives (q, r)) e in
          let a : q ≡ secs = ap (λ x. x.0) (gives_one p.1) in
          let b : r ≡ nanos = ap (λ x. x.1) (gives_one p.1) in
          rw (← a, ← b) (here z p.0, floor_at z)

      back : Timestamp secs nanos × (exact secs nanos ≡ z) → time_at z ≡ gives (secs, nanos)
      back (t, e) =
          let o = floor_one (floor_law 1000000000 z (omega arith)) (at_floor z t.nanos_to e) in
          rw (o.0, o.1, t.secs_fit)

  time_none : (time_at z ≡ refuses (refusal 10 [])) ↔ ((secs : ℤ) (nanos : ℕ) → Timestamp secs nanos → exact secs nanos ≡ z → ⊥)
  unfolding time_at
  time_none = (λ e secs nanos t f. refuses_not (sym e ∙ (time_value secs nanos).1 (t, f)), λ f. go f (is_i64 (floor_div 1000000000 z)) refl)
    where
      go : ((secs : ℤ) (nanos : ℕ) → Timestamp secs nanos → exact secs nanos ≡ z → ⊥) → (b : Bool) → is_i64 (floor_div 1000000000 z) ≡ b → time_at z ≡ refuses (refusal 10 [])
      go f true e = absurd (f (floor_div 1000000000 z) (floor_mod 1000000000 z) (here z e) (floor_at z))
      go f false e = rw e

  pub time_lies : TimeLiesAt z (time_at z)
  time_lies = record { value = time_value; none = time_none }

-- ---- durations: a count below 2^64 seconds
duration_value : (z : ℤ) → plus z < 2 ^ 64 * 1000000000 → (secs nanos : ℕ) → (duration_at z ≡ gives (secs, nanos)) ↔ (Duration secs nanos × (exact (pos secs) nanos ≡ z))
unfolding duration_at exact
duration_value (pos n) h secs nanos = (there, back)
  where
    there : duration_at (pos n) ≡ gives (secs, nanos) → Duration secs nanos × (exact (pos secs) nanos ≡ pos n)
    there e =
        let a : n / 1000000000 ≡ secs = ap (λ x. x.0) (gives_one e) in
        let b : n % 1000000000 ≡ nanos = ap (λ x. x.1) (gives_one e) in
        (record { secs_fit = omega arith; nanos_to = omega arith }, ap pos (omega arith))

    back : Duration secs nanos × (exact (pos secs) nanos ≡ pos n) → duration_at (pos n) ≡ gives (secs, nanos)
    back (d, e) =
        let i : secs * 1000000000 + nanos ≡ n = ap plus e in
        let a : n / 1000000000 ≡ secs = omega (arith, d.nanos_to) in
        let b : n % 1000000000 ≡ nanos = omega (arith, d.nanos_to) in
        λ k. gives (a k, b k)
duration_value (negsuc n) h secs nanos = (λ e. absurd (refuses_not e), λ p. absurd (omega (arith, ap plus p.1, ap minus p.1)))

duration_none : (z : ℤ) → plus z < 2 ^ 64 * 1000000000 → (duration_at z ≡ refuses (refusal 10 [])) ↔ ((secs nanos : ℕ) → Duration secs nanos → exact (pos secs) nanos ≡ z → ⊥)
unfolding duration_at exact
duration_none z h = (λ e secs nanos t f. refuses_not (sym e ∙ (duration_value z h secs nanos).1 (t, f)), λ f. go z h f)
  where
    go : (z : ℤ) → plus z < 2 ^ 64 * 1000000000 → ((secs nanos : ℕ) → Duration secs nanos → exact (pos secs) nanos ≡ z → ⊥) → duration_at z ≡ refuses (refusal 10 [])
    go (pos n) h f = absurd (f (n / 1000000000) (n % 1000000000) (record { secs_fit = omega arith; nanos_to = omega arith }) (ap pos (omega arith)))
    go (negsuc n) h f = refl

duration_lies : (z : ℤ) → plus z < 2 ^ 64 * 1000000000 → DurationLiesAt z (duration_at z)
duration_lies z h = record { value = duration_value z h; none = duration_none z h }

-- ---- the entries
module _ {secs : ℤ} {nanos : ℕ} {dsecs dnanos : ℕ} (t : Timestamp secs nanos) (d : Duration dsecs dnanos) where
  pub added_lies : TimeLiesAt (exact secs nanos +ℤ exact (pos dsecs) dnanos) (added secs nanos dsecs dnanos)
  unfolding added
  added_lies = rw (lt-ltb nanos 1000000000 t.nanos_to, lt-ltb dnanos 1000000000 d.nanos_to) (time_lies (exact secs nanos +ℤ exact (pos dsecs) dnanos))

  pub taken_lies : TimeLiesAt (exact secs nanos -ℤ exact (pos dsecs) dnanos) (taken secs nanos dsecs dnanos)
  unfolding taken
  taken_lies = rw (lt-ltb nanos 1000000000 t.nanos_to, lt-ltb dnanos 1000000000 d.nanos_to) (time_lies (exact secs nanos -ℤ exact (pos dsecs) dnanos))

pub since_lies : {secs secs' : ℤ} {nanos nanos' : ℕ} → Timestamp secs nanos → Timestamp secs' nanos' → DurationLiesAt (exact secs nanos -ℤ exact secs' nanos') (since secs nanos secs' nanos')
unfolding since
since_lies {secs} {secs'} {nanos} {nanos'} t t' =
    let k = known (fits secs t.secs_fit) in
    let k' = known (fits secs' t'.secs_fit) in
    let z = exact secs nanos -ℤ exact secs' nanos' in
    rw (lt-ltb nanos 1000000000 t.nanos_to, lt-ltb nanos' 1000000000 t'.nanos_to)
    (duration_lies z (omega (arith, difference_law secs nanos secs' nanos', apart z, k.top, k.low, k'.top, k'.low, t.nanos_to, t'.nanos_to)))
