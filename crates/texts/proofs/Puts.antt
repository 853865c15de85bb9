-- Texts written one behind the other, numbers and HEX.
use mathlib.Core.Path.{◌≡◌, refl, sym, ◌∙◌}
use mathlib.Core.Bool.{Bool, true, false, cond}
use mathlib.Core.List.{List, [], ◌∷◌, ◌++◌, append_assoc}
use Prim.Native.Nat.{ℕ, zero, suc, ◌+◌, ◌*◌, ◌-◌, ◌/◌, ◌%◌, ◌^◌, ◌<◌, ◌≤◌}
use native.Mathlib.Nat.{pow-suc}
use native.Mathlib.Omega.{arith}
use lib.Dec.{ltb}
use lib.IntN.{ℤ, pos, negsuc}
use lib.ListN.{length, length-append}
use lib.Seq.{sets-eq, drop-drop}
use Rattle.std.specs.Prelude.{unsigned_abs}
use Rattle.std.specs.Int.{is_negative}
use borrow.Rule.Slice.PartMut.{put_mid}
use borrow.Author.Tests.{ltb-true, lt-ltb, le-ltb}
use Rattle.digits.proofs.Stores.{sets_append}
use Rattle.texts.specs.Texts.{in_places, natural, integer, Put}
use Rattle.texts.specs.Hex.{digit_pairs}

pub put_on : {s l m : List ℕ} {at r q : ℕ} {text more : List ℕ} → Put s at text l r → Put l r more m q → Put s at (text ++ more) m q
put_on {s} {at = at} {text = text} {more = more} a b =
    record { line = b.line ∙ rw (a.line, a.place) (sym (sets_append s at text more)); place = b.place ∙ rw length-append (omega (arith, a.place)) }

-- a part of a line that a text was copied into
pub put_part : (s : List ℕ) (at : ℕ) (text : List ℕ) {part : List ℕ} → at + length text ≤ length s → part ≡ text → Put s at text (put_mid at (at + length text - at) s part) (at + length text)
put_part s at text h e = let k : at + length text - at ≡ length text = omega arith in rw (e, k) (record { line = rw (drop-drop, ← append_assoc) (sym (sets-eq text s at h)); place = refl })

pub put_none : (s : List ℕ) (at : ℕ) → Put s at [] s at
put_none s at = record { line = refl; place = omega arith }

-- ---- a number's digits
fewer : (k n : ℕ) → length (in_places k n) ≤ k
unfolding in_places
fewer zero n = omega arith
fewer (suc k) n = go (ltb n 10) (fewer k (n / 10))
  where
    go : (b : Bool) → length (in_places k (n / 10)) ≤ k → length (cond b ((48 + n) ∷ []) (in_places k (n / 10) ++ ((48 + n % 10) ∷ []))) ≤ suc k
    go true h = omega arith
    go false h = rw length-append (omega arith)

-- a place more than its digits take changes nothing
enough : (k n : ℕ) → n < 10 ^ suc k → in_places (suc (suc k)) n ≡ in_places (suc k) n
unfolding in_places
enough zero n h = rw (lt-ltb n 10 h)
enough (suc k) n h = rw (enough k (n / 10) (omega (arith, rw pow-suc at h)))

pub natural_one : (n : ℕ) → n < 10 → natural n ≡ (48 + n) ∷ []
unfolding natural in_places
natural_one n h = rw (lt-ltb n 10 h)

pub natural_more : (n : ℕ) → n < 2 ^ 64 → 10 ≤ n → (natural n ≡ natural (n / 10) ++ ((48 + n % 10) ∷ [])) × (length (natural (n / 10)) ≤ 19)
unfolding natural in_places
natural_more n h g = let e = enough 18 (n / 10) (omega arith) in (rw (le-ltb n 10 g, e), rw e (fewer 19 (n / 10)))

-- a number by its size
pub integer_above : (z : ℤ) → is_negative z ≡ false → integer z ≡ natural (unsigned_abs z)
unfolding integer
integer_above (pos n) e = refl
integer_above (negsuc n) e = let k : ◌≡◌ {A = ℕ} 0 1 = cc in absurd (omega arith)

pub integer_below : (z : ℤ) → is_negative z ≡ true → integer z ≡ 45 ∷ natural (unsigned_abs z)
unfolding integer
integer_below (pos n) e = absurd (omega (arith, ltb-true n 0 e))
integer_below (negsuc n) e = refl

-- ---- HEX
pub pairs_length : (s : List ℕ) → length (digit_pairs s) ≡ 2 * length s
unfolding digit_pairs
pairs_length [] = refl
pairs_length (b ∷ s) = omega (arith, pairs_length s)
