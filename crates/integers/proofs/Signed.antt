-- An integer as two natural numbers, of which one is 0: z is plus z - minus z. `omega` reads ℕ alone, and each operation
-- and test on integers is linear arithmetic in these two.
use Rattle.std.proofs.Common.{◌≡◌, ℕ, zero, suc, ◌+◌, ◌-◌, ◌*◌, ◌/◌, ◌%◌, ◌<◌, ◌≤◌, min, Bool, true, false, cond, T, ltb, ℤ, pos, negsuc, ◌+ℤ◌, ◌-ℤ◌, ◌*ℤ◌, neg_ℤ, nat_abs, ◌<ℤ◌, sym, refl, ap, subst, arith, ltb-false, ltb-true, le-ltb, lt-ltb, leb-true}
use native.Mathlib.Decide.{dec_lt}
use native.Mathlib.Nat.{zero-div, zero-mod}
use lib.IntN.{sub_ℕ, suc_ℤ}
use lib.Signed.{lt_z, le_z, quot_z, rem_z}

abbrev pub plus : ℤ → ℕ
plus (pos n) = n
plus (negsuc n) = 0

abbrev pub minus : ℤ → ℕ
minus (pos n) = 0
minus (negsuc n) = suc n

-- z is p - m
abbrev pub Is : ℤ → ℕ → ℕ → Type 0
Is z p m = plus z + m ≡ p + minus z

pub apart : (z : ℤ) → min (plus z) (minus z) ≡ 0
apart (pos n) = omega arith
apart (negsuc n) = omega arith

pub neg_size : (n : ℕ) → (plus (neg_ℤ (pos n)) ≡ 0) × (minus (neg_ℤ (pos n)) ≡ n)
neg_size zero = (refl, refl)
neg_size (suc n) = (refl, refl)

-- ---- equality
pub eq_z : (a b : ℤ) → plus a + minus b ≡ plus b + minus a → a ≡ b
eq_z (pos a) (pos b) h = ap pos (omega arith)
eq_z (pos a) (negsuc b) h = absurd (omega arith)
eq_z (negsuc a) (pos b) h = absurd (omega arith)
eq_z (negsuc a) (negsuc b) h = ap negsuc (omega arith)

pub plus≡ : {a b : ℤ} → a ≡ b → plus a ≡ plus b
plus≡ h = ap plus h

pub minus≡ : {a b : ℤ} → a ≡ b → minus a ≡ minus b
minus≡ h = ap minus h

-- ---- operations
cond_ind : (c : Bool) (x y : ℤ) (P : ℤ → Type 0) → (c ≡ true → P x) → (c ≡ false → P y) → P (cond c x y)
cond_ind true x y P f g = f refl
cond_ind false x y P f g = g refl

sub_law : (a b : ℕ) → Is (sub_ℕ a b) a b
sub_law a b =
    cond_ind (ltb a b) (negsuc (b - suc a)) (pos (a - b)) (λ z. Is z a b) (λ t. omega (arith, ltb-true)) (λ t. omega (arith, ltb-false))

pub neg_law : (a : ℤ) → Is (neg_ℤ a) (minus a) (plus a)
neg_law (pos zero) = omega arith
neg_law (pos (suc n)) = omega arith
neg_law (negsuc n) = omega arith

pub add_law : (a b : ℤ) → Is (a +ℤ b) (plus a + plus b) (minus a + minus b)
add_law (pos a) (pos b) = omega arith
add_law (pos a) (negsuc b) = omega (arith, sub_law a (suc b))
add_law (negsuc a) (pos b) = omega (arith, sub_law b (suc a))
add_law (negsuc a) (negsuc b) = omega arith

pub diff_law : (a b : ℤ) → Is (a -ℤ b) (plus a + minus b) (minus a + plus b)
diff_law a b = omega (arith, add_law a (neg_ℤ b), neg_law b)

pub times_law : (a : ℤ) (k : ℕ) → Is (a *ℤ pos k) (plus a * k) (minus a * k)
times_law (pos a) k = omega arith
times_law (negsuc a) k = omega (arith, neg_law (pos (suc a * k)))

pub suc_law : (a : ℤ) → Is (suc_ℤ a) (plus a + 1) (minus a)
suc_law (pos n) = omega arith
suc_law (negsuc zero) = omega arith
suc_law (negsuc (suc n)) = omega arith

-- toward zero, as the machine divides
pub quot_law : (a : ℤ) (k : ℕ) → Is (quot_z a (pos k)) (plus a / k) (minus a / k)
quot_law (pos a) k = rw zero-div (omega arith)
quot_law (negsuc a) k = rw zero-div (omega (arith, neg_law (pos (suc a / k))))

pub rem_law : (a : ℤ) (k : ℕ) → Is (rem_z a (pos k)) (plus a % k) (minus a % k)
rem_law (pos a) k = rw zero-mod (omega arith)
rem_law (negsuc a) k = rw zero-mod (omega (arith, neg_law (pos (suc a % k))))

pub size_law : (a : ℤ) → nat_abs a ≡ plus a + minus a
size_law (pos n) = omega arith
size_law (negsuc n) = omega arith

-- ---- the machine's tests, to facts and from them
pub lt_true : (a b : ℤ) → lt_z a b ≡ true → plus a + minus b < plus b + minus a
lt_true (pos a) (pos b) h = omega (arith, ltb-true)
lt_true (pos a) (negsuc b) h = absurd (subst T (sym h) tt)
lt_true (negsuc a) (pos b) h = omega arith
lt_true (negsuc a) (negsuc b) h = omega (arith, ltb-true)

pub le_true : (a b : ℤ) → le_z a b ≡ true → plus a + minus b ≤ plus b + minus a
le_true (pos a) (pos b) h = omega (arith, leb-true)
le_true (pos a) (negsuc b) h = absurd (subst T (sym h) tt)
le_true (negsuc a) (pos b) h = omega arith
le_true (negsuc a) (negsuc b) h = omega (arith, leb-true)

pub lt_false : (a b : ℤ) → lt_z a b ≡ false → plus b + minus a ≤ plus a + minus b
lt_false (pos a) (pos b) h = omega (arith, ltb-false)
lt_false (pos a) (negsuc b) h = omega arith
lt_false (negsuc a) (pos b) h = absurd (subst T h tt)
lt_false (negsuc a) (negsuc b) h = omega (arith, ltb-false)

pub true_lt : (a b : ℤ) → plus a + minus b < plus b + minus a → lt_z a b ≡ true
true_lt (pos a) (pos b) h = lt-ltb a b (omega arith)
true_lt (pos a) (negsuc b) h = absurd (omega arith)
true_lt (negsuc a) (pos b) h = refl
true_lt (negsuc a) (negsuc b) h = lt-ltb b a (omega arith)

pub false_lt : (a b : ℤ) → plus b + minus a ≤ plus a + minus b → lt_z a b ≡ false
false_lt (pos a) (pos b) h = le-ltb a b (omega arith)
false_lt (pos a) (negsuc b) h = refl
false_lt (negsuc a) (pos b) h = absurd (omega arith)
false_lt (negsuc a) (negsuc b) h = le-ltb b a (omega arith)

-- ---- the order
holds : (b : Bool) → T b → b ≡ true
holds true t = refl
holds false t = absurd t

pub less : {a b : ℤ} → a <ℤ b → plus a + minus b < plus b + minus a
less {a} {b} h = lt_true a b (holds (lt_z a b) h.lt)

pub to_less : (a b : ℤ) → plus a + minus b < plus b + minus a → a <ℤ b
to_less a b h = record { lt = subst T (sym (true_lt a b h)) tt }

-- two numbers compare in three ways
pub data Tri (A B C : Type 0) : Type 0 where
  before : A → Tri A B C
  same : B → Tri A B C
  after : C → Tri A B C

pub tri : (a b : ℕ) → Tri (a < b) (a ≡ b) (b < a)
tri a b = go (dec_lt a b) (dec_lt b a)
  where
    go : Dec (a < b) → Dec (b < a) → Tri (a < b) (a ≡ b) (b < a)
    go (yes h) k = before h
    go (no h) (yes k) = after k
    go (no h) (no k) = same (omega arith)

pub triℤ : (a b : ℤ) → Tri (a <ℤ b) (a ≡ b) (b <ℤ a)
triℤ a b = go (tri (plus a + minus b) (plus b + minus a))
  where
    go : Tri (plus a + minus b < plus b + minus a) (plus a + minus b ≡ plus b + minus a) (plus b + minus a < plus a + minus b) → Tri (a <ℤ b) (a ≡ b) (b <ℤ a)
    go (before h) = before (to_less a b h)
    go (same h) = same (eq_z a b h)
    go (after h) = after (to_less b a h)
