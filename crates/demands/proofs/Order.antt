-- What a comparison says, and that an earlier timestamp reads as an earlier moment over one epoch.
use mathlib.Core.Path.{◌≡◌, refl, sym, ap, subst}
use mathlib.Core.Logic.{◌↔◌}
use Prim.Native.Nat.{ℕ, ◌<◌}
use native.Mathlib.Omega.{arith}
use lib.IntN.{ℤ, ◌+ℤ◌}
use lib.Signed.{◌<ℤ◌}
use borrow.Author.Tests.{lt-ltb, ltb-true}
use Rattle.integers.specs.Integers.{Floor}
use Rattle.integers.proofs.Signed.{plus, minus, less, to_less, true_lt, false_lt, add_law, Tri, before, same, after, triℤ}
use Rattle.integers.proofs.Floor.{floor_one, floor_order}
use Rattle.errors.specs.Refusals.{refusal, gives}
use Rattle.errors.proofs.Outcomes.{gives_one, passed}
use Rattle.moments.specs.Moments.{moment_at}
use Rattle.moments.proofs.Moments.{moment_order}
use Rattle.counts.specs.Counts.{exact, order, compared}
use Rattle.std.specs.declared.cmp.Ordering.{Ordering}
use Rattle.std.specs.declared.cmp.Ordering.TheVariants.{Less, Equal, Greater}
use Rattle.demands.specs.Values.{EarlierReading, by_moment, by_nanos, Stand, Read}

split : (secs : ℤ) (nanos : ℕ) → nanos < 1000000000 → Floor 1000000000 (exact secs nanos) secs nanos
unfolding exact
split secs nanos h = record { whole = refl; small = h }

shifted : {a b : ℤ} (epoch : ℤ) → a <ℤ b → (a +ℤ epoch) <ℤ (b +ℤ epoch)
shifted {a} {b} epoch h = to_less _ _ (omega (arith, less h, add_law a epoch, add_law b epoch))

module _ (epoch secs secs' : ℤ) (nanos nanos' : ℕ) where
  pub earlier : nanos < 1000000000 → nanos' < 1000000000 → exact secs nanos <ℤ exact secs' nanos' → EarlierReading (moment_at (secs +ℤ epoch)) nanos (moment_at (secs' +ℤ epoch)) nanos'
  earlier h h' l = go (floor_order (split secs nanos h) (split secs' nanos' h') l)
    where
      go : Tri (secs <ℤ secs') ((secs ≡ secs') × (nanos < nanos')) ⊥ → EarlierReading (moment_at (secs +ℤ epoch)) nanos (moment_at (secs' +ℤ epoch)) nanos'
      go (before k) = by_moment (moment_order _ _ (shifted epoch k))
      go (same e) = by_nanos (ap (λ s. moment_at (s +ℤ epoch)) e.0) e.1
      go (after b) = absurd b

-- ---- what a comparison says
stand_order : (o : Ordering) (y z : ℤ) → Stand o y z → order y z ≡ o
unfolding order
stand_order Less y z h = rw (true_lt y z (less h))
stand_order Equal y z h = rw (false_lt y z (omega (arith, ap plus h, ap minus h)), false_lt z y (omega (arith, ap plus h, ap minus h)))
stand_order Greater y z h = rw (false_lt y z (omega (arith, less h)), true_lt z y (less h))

order_stand : (y z : ℤ) → Stand (order y z) y z
order_stand y z = go (triℤ y z)
  where
    at : (o : Ordering) → Stand o y z → Stand (order y z) y z
    at o h = subst (λ x. Stand x y z) (sym (stand_order o y z h)) h

    go : Tri (y <ℤ z) (y ≡ z) (z <ℤ y) → Stand (order y z) y z
    go (before h) = at Less h
    go (same h) = at Equal h
    go (after h) = at Greater h

module _ (secs secs' : ℤ) (nanos nanos' : ℕ) where
  pub compares : (o : Ordering) → (compared secs nanos secs' nanos' ≡ gives o) ↔ ((nanos < 1000000000) × (nanos' < 1000000000) × Stand o (exact secs nanos) (exact secs' nanos'))
  unfolding compared
  compares o = (there, λ (h, h', s). rw (lt-ltb nanos 1000000000 h, lt-ltb nanos' 1000000000 h') (ap gives (stand_order o _ _ s)))
    where
      there : compared secs nanos secs' nanos' ≡ gives o → (nanos < 1000000000) × (nanos' < 1000000000) × Stand o (exact secs nanos) (exact secs' nanos')
      there e =
          let a = passed _ (refusal 11 _) _ e in
          let b = passed _ (refusal 11 _) _ a.1 in
          (ltb-true nanos 1000000000 a.0, ltb-true nanos' 1000000000 b.0, subst (λ x. Stand x (exact secs nanos) (exact secs' nanos')) (gives_one b.1) (order_stand (exact secs nanos) (exact secs' nanos')))

pub reads : (epoch secs secs' : ℤ) (nanos nanos' : ℕ) (o : Ordering) → nanos < 1000000000 → nanos' < 1000000000 → Stand o (exact secs nanos) (exact secs' nanos')
    → Read o (moment_at (secs +ℤ epoch)) nanos (moment_at (secs' +ℤ epoch)) nanos'
reads epoch secs secs' nanos nanos' Less h h' s = earlier epoch secs secs' nanos nanos' h h' s
reads epoch secs secs' nanos nanos' Equal h h' s =
    let e = floor_one (split secs nanos h) (subst (λ z. Floor 1000000000 z secs' nanos') (sym s) (split secs' nanos' h')) in
    (ap (λ z. moment_at (z +ℤ epoch)) e.0, e.1)
reads epoch secs secs' nanos nanos' Greater h h' s = earlier epoch secs' secs nanos' nanos h' h s
