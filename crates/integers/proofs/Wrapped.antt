-- Two's complement in exact integers: a wrapped number is the number but for whole turns of 2^64.
use Rattle.std.proofs.Common.{◌≡◌, ℕ, suc, ◌+◌, ◌-◌, ◌*◌, ◌/◌, ◌%◌, ◌^◌, ◌<◌, ◌≤◌, ℤ, pos, negsuc, refl, ◌+ℤ◌, ◌-ℤ◌, sym, ap, ◌∙◌, subst, arith, w64, SFits, to_z, of_z}
use native.Mathlib.Decide.{dec_lt}
use mir.ValLaws.{to_z-Fits}
use Rattle.integers.specs.Integers.{Floor, floor_div, floor_mod, wrapped}
use Rattle.integers.proofs.Signed.{plus, minus, add_law, diff_law}
use Rattle.integers.proofs.Machine.{Known, known, read_pos, read_neg}
use Rattle.integers.proofs.Floor.{floor_law, floor_one, splits, to_floor}

turns : (z : ℤ) → Floor (2 ^ 64) z (floor_div (2 ^ 64) z) (floor_mod (2 ^ 64) z)
turns z = floor_law (2 ^ 64) z (omega arith)

-- a number's bits are what is left of it
pub bits_mod : {z : ℤ} → SFits w64 z → of_z w64 z ≡ floor_mod (2 ^ 64) z
unfolding floor_mod
bits_mod {z = pos n} f = omega (arith, f.sfits)
bits_mod {z = negsuc n} f = omega (arith, f.sfits)

pub small_mod : (n : ℕ) → n < 2 ^ 64 → floor_mod (2 ^ 64) (pos n) ≡ n
unfolding floor_mod
small_mod n h = omega arith

-- the machine's wrapping sum and difference of what is left
pub mod_add : {b u : ℕ} (x : ℤ) (d : ℕ) → b ≡ floor_mod (2 ^ 64) x → u ≡ (b + d) % 2 ^ 64 → u ≡ floor_mod (2 ^ 64) (x +ℤ pos d)
mod_add {b} {u} x d e h =
    let q = floor_div (2 ^ 64) x in
    let l = add_law q (pos ((b + d) / 2 ^ 64)) in
    (floor_one (to_floor {q = q +ℤ pos ((b + d) / 2 ^ 64)} {r = u} (omega (arith, add_law x (pos d), splits (turns x))) (omega arith)) (turns (x +ℤ pos d))).1

pub mod_sub : {a b u : ℕ} (x y : ℤ) → b ≡ floor_mod (2 ^ 64) x → a ≡ floor_mod (2 ^ 64) y → u < 2 ^ 64 → (u + a) % 2 ^ 64 ≡ b → u ≡ floor_mod (2 ^ 64) (x -ℤ y)
mod_sub {a} {b} {u} x y e f k h =
    let p = floor_div (2 ^ 64) x in
    let q = floor_div (2 ^ 64) y in
    let t = (u + a) / 2 ^ 64 in
    let l = diff_law p q in
    let m = diff_law (p -ℤ q) (pos t) in
    (floor_one (to_floor {q = p -ℤ q -ℤ pos t} {r = u} (omega (arith, diff_law x y, splits (turns x), splits (turns y))) k) (turns (x -ℤ y))).1

-- std's wrapping sum and difference
pub wrapping_add : (x : ℤ) (d : ℕ) → SFits w64 x → to_z w64 ((of_z w64 x + d) % 2 ^ 64) ≡ wrapped (x +ℤ pos d)
unfolding wrapped
wrapping_add x d f = ap (to_z w64) (mod_add x d (bits_mod f) refl)

pub wrapping_sub : (x : ℤ) (d : ℕ) → SFits w64 x → d < 2 ^ 64 → to_z w64 ((of_z w64 x + (2 ^ 64 - d)) % 2 ^ 64) ≡ wrapped (x -ℤ pos d)
unfolding wrapped
wrapping_sub x d f h = ap (to_z w64) (mod_sub x (pos d) (bits_mod f) (sym (small_mod d h)) (omega arith) (omega (arith, bits_mod f, (turns x).small)))

-- r is z but for whole turns, and fits
record Turned (z r : ℤ) : Type 0 where
  fits : SFits w64 r
  up : ℕ
  down : ℕ
  is : plus z + minus r + 2 ^ 64 * down ≡ plus r + minus z + 2 ^ 64 * up

turned : (z : ℤ) → Turned z (wrapped z)
unfolding wrapped
turned z = go (dec_lt (floor_mod (2 ^ 64) z) (2 ^ 63))
  where
    u : ℕ
    u = floor_mod (2 ^ 64) z

    q : ℤ
    q = floor_div (2 ^ 64) z

    go : Dec (floor_mod (2 ^ 64) z < 2 ^ 63) → Turned z (to_z w64 (floor_mod (2 ^ 64) z))
    go (yes h) =
        record { fits = to_z-Fits w64 u (omega (arith, (turns z).small)); up = plus q; down = minus q; is = omega (arith, splits (turns z), read_pos w64 u h) }
    go (no h) =
        record { fits = to_z-Fits w64 u (omega (arith, (turns z).small)); up = suc (plus q); down = minus q; is = omega (arith, splits (turns z), read_neg w64 u (omega arith) (turns z).small) }

-- ---- what a caller is handed of a wrapping sum r of x and d: r has not fallen and is exact, or it has, and lies one turn below
pub record Added (x : ℤ) (d : ℕ) (r : ℤ) : Type 0 where
  pub old : Known w64 x
  pub new : Known w64 r
  pub stays : plus x + minus r ≤ plus r + minus x → plus r + minus x ≡ plus x + d + minus r
  pub wraps : plus r + minus x < plus x + minus r → plus r + minus x + 2 ^ 64 ≡ plus x + d + minus r

pub added : {x r : ℤ} {d : ℕ} → SFits w64 x → d < 2 ^ 64 → r ≡ to_z w64 ((of_z w64 x + d) % 2 ^ 64) → Added x d r
added {x} {r} {d} f h e =
    let t = subst (λ z. Turned (x +ℤ pos d) z) (sym (e ∙ wrapping_add x d f)) (turned (x +ℤ pos d)) in
    let o = known f in
    let n = known t.fits in
    let l = add_law x (pos d) in
    record { old = o; new = n; stays = omega arith; wraps = omega arith }

-- the same of a wrapping difference
pub record Taken (x : ℤ) (d : ℕ) (r : ℤ) : Type 0 where
  pub old : Known w64 x
  pub new : Known w64 r
  pub stays : plus r + minus x ≤ plus x + minus r → plus r + minus x + d ≡ plus x + minus r
  pub wraps : plus x + minus r < plus r + minus x → plus r + minus x + d ≡ plus x + minus r + 2 ^ 64

pub taken : {x r : ℤ} {d : ℕ} → SFits w64 x → d < 2 ^ 64 → r ≡ to_z w64 ((of_z w64 x + (2 ^ 64 - d)) % 2 ^ 64) → Taken x d r
taken {x} {r} {d} f h e =
    let t = subst (λ z. Turned (x -ℤ pos d) z) (sym (e ∙ wrapping_sub x d f h)) (turned (x -ℤ pos d)) in
    let o = known f in
    let n = known t.fits in
    let l = diff_law x (pos d) in
    record { old = o; new = n; stays = omega arith; wraps = omega arith }
