-- Timestamps and durations as exact counts of nanoseconds: which one lies at a count, and when none does.
use Rattle.std.proofs.Common.{◌≡◌, ℕ, suc, ◌+◌, ◌-◌, ◌*◌, ◌/◌, ◌%◌, ◌<◌, ◌≤◌, max, [], ℤ, pos, negsuc, ◌+ℤ◌, ◌-ℤ◌, ◌*ℤ◌, nat_abs, refl, subst, arith, Bool, true, false, cond, ltb, eqb, ltb-true, ltb-false, Option, Some, None, int_cmp, nat_cmp}
use Rattle.std.specs.Prelude.{SomeIff}
use Rattle.std.specs.Ordering.{ordering_then}
use Rattle.std.proofs.lemmas.Bool.{eqb-true, eqb-false}
use native.Mathlib.Decide.{dec_lt}
use lib.Signed.{lt_z}
use Rattle.integers.specs.Integers.{floor_div}
use Rattle.integers.proofs.Signed.{plus, minus, Is, apart, size_law, add_law, diff_law, times_law, lt_true, lt_false, true_lt, false_lt}
use Rattle.integers.proofs.Sums.{outside}
use Rattle.integers.proofs.Floor.{floor_law, floor_one, splits, to_floor}
use Rattle.errors.specs.Refusals.{refusal, gives, refuses}
use Rattle.seconds.specs.Counts.{representable}
use Rattle.durations.specs.Durations.{exact, time_at, duration_at, order}
use Rattle.std.specs.declared.cmp.Ordering.TheVariants.{Less, Equal, Greater}

-- as `omega` reads it
pub exact_law : (secs : ℤ) (nanos : ℕ) → Is (exact secs nanos) (plus secs * 1000000000 + nanos) (minus secs * 1000000000)
unfolding exact
exact_law secs nanos = omega (arith, add_law (secs *ℤ pos 1000000000) (pos nanos), times_law secs 1000000000)

pub sum_law : (secs : ℤ) (nanos dsecs dnanos : ℕ) → Is (exact secs nanos +ℤ exact (pos dsecs) dnanos) (plus secs * 1000000000 + nanos + dsecs * 1000000000 + dnanos) (minus secs * 1000000000)
sum_law s n d m = omega (arith, add_law (exact s n) (exact (pos d) m), exact_law s n, exact_law (pos d) m)

pub difference_law : (s : ℤ) (n : ℕ) (s' : ℤ) (n' : ℕ) → Is (exact s n -ℤ exact s' n') (plus s * 1000000000 + n + minus s' * 1000000000) (minus s * 1000000000 + plus s' * 1000000000 + n')
difference_law s n s' n' = omega (arith, diff_law (exact s n) (exact s' n'), exact_law s n, exact_law s' n')

-- ---- the timestamp at a count, by its seconds and nanoseconds, whether they are in range or not
pub time_parts : (s : ℤ) (n : ℕ) (z : ℤ) → n ≤ 999999999 → plus z + minus s * 1000000000 ≡ plus s * 1000000000 + n + minus z → time_at z ≡ representable s (gives (s, n))
unfolding time_at
time_parts s n z h e =
    let o = floor_one (floor_law 1000000000 z (omega arith)) (to_floor {q = s} {r = n} e (omega arith)) in
    rw (o.0, o.1) refl

-- p - m is past the last timestamp, or before the first
abbrev pub Past : ℕ → ℕ → Type 0
Past p m = 9223372036854775808000000000 < max (suc p - m) (m - p)

pub time_none : (z : ℤ) → Past (plus z) (minus z) → refuses (refusal 10 []) ≡ time_at z
unfolding time_at
time_none z h =
    let f = floor_law 1000000000 z (omega arith) in
    rw (outside (floor_div 1000000000 z) (omega (arith, splits f, f.small)))

-- ---- the duration at a count
pub duration_at_lem : {s n : ℕ} (z : ℤ) → n ≤ 999999999 → plus z ≡ s * 1000000000 + n + minus z → gives (s, n) ≡ duration_at z
unfolding duration_at
duration_at_lem {s} {n} (pos m) h e =
    let p : s ≡ m / 1000000000 = omega arith in
    let q : n ≡ m % 1000000000 = omega arith in
    λ i. gives (p i, q i)
duration_at_lem {s} {n} (negsuc m) h e = absurd (omega arith)

pub duration_none : (z : ℤ) → plus z < minus z → refuses (refusal 10 []) ≡ duration_at z
unfolding duration_at
duration_none (pos m) h = absurd (omega arith)
duration_none (negsuc m) h = refl

-- ---- the order of two counts
module _ (y z : ℤ) where
  pub is_less : plus y + minus z < plus z + minus y → Less ≡ order y z
  unfolding order
  is_less h = rw (true_lt y z h)

  pub is_greater : plus z + minus y < plus y + minus z → Greater ≡ order y z
  unfolding order
  is_greater h = rw (false_lt y z (omega arith), true_lt z y h)

  pub is_equal : plus y + minus z ≡ plus z + minus y → Equal ≡ order y z
  unfolding order
  is_equal h = rw (false_lt y z (omega arith), false_lt z y (omega arith))

-- by seconds, and then by nanoseconds
pub order_parts : (s : ℤ) (n : ℕ) (s' : ℤ) (n' : ℕ) → n < 1000000000 → n' < 1000000000 → ordering_then (int_cmp s s') (nat_cmp n n') ≡ order (exact s n) (exact s' n')
order_parts s n s' n' h k = go (lt_z s s') refl (lt_z s' s) refl (ltb n n') refl (eqb n n') refl
  where
    go : (a : Bool) → lt_z s s' ≡ a → (b : Bool) → lt_z s' s ≡ b → (c : Bool) → ltb n n' ≡ c → (d : Bool) → eqb n n' ≡ d
        → ordering_then (cond a Less (cond b Greater Equal)) (cond c Less (cond d Equal Greater)) ≡ order (exact s n) (exact s' n')
    go true e b f c g d i = is_less _ _ (omega (arith, exact_law s n, exact_law s' n', lt_true s s' e))
    go false e true f c g d i = is_greater _ _ (omega (arith, exact_law s n, exact_law s' n', lt_true s' s f))
    go false e false f true g d i = is_less _ _ (omega (arith, exact_law s n, exact_law s' n', lt_false s s' e, lt_false s' s f, ltb-true n n' g))
    go false e false f false g true i = is_equal _ _ (omega (arith, exact_law s n, exact_law s' n', lt_false s s' e, lt_false s' s f, eqb-true n n' i))
    go false e false f false g false i = is_greater _ _ (last (dec_lt n' n))
      where
        last : Dec (n' < n) → plus (exact s' n') + minus (exact s n) < plus (exact s n) + minus (exact s' n')
        last (yes l) = omega (arith, exact_law s n, exact_law s' n', lt_false s s' e, lt_false s' s f)
        last (no l) = absurd (eqb-false n n' i (omega (arith, ltb-false n n' g)))

-- ---- how far a timestamp lies behind an earlier one
pub behind : (s s' : ℤ) → plus s' + minus s ≤ plus s + minus s' → nat_abs (s -ℤ s') + plus s' + minus s ≡ plus s + minus s'
behind s s' h = omega (arith, diff_law s s', size_law (s -ℤ s'), apart (s -ℤ s'))

pub no_value : {A : Type 0} {P : Type 0} (v : A) (r : Option A) → SomeIff r P v → r ≡ None → P → ⊥
no_value {P = P} v r h e = subst (λ o. SomeIff o P v) e h

pub the_value : {A : Type 0} {P : Type 0} {v x : A} (r : Option A) → SomeIff r P v → r ≡ Some x → P × (x ≡ v)
the_value {P = P} {v = v} r h e = subst (λ o. SomeIff o P v) e h
