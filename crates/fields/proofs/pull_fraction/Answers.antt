-- `fields::pull_fraction`: place by place, then the digits past nine.
use Rattle.std.proofs.Common.{rules, Option, Some, None, is_some, ltb, ltb-false, get_or, true, take, drop, length, length-drop, ◌-◌, List, [], ◌∷◌, ◌&&◌, ap, ◌≡◌, ℕ, ◌+◌, ◌*◌, ◌^◌, ◌≤◌, refl, sym, ◌∙◌, arith}
use native.Mathlib.Nat.{pow-suc, pow-le-pow_right}
use native.Mathlib.Numerals.{add-one}
use borrow.Author.Tests.{tests}
use Rattle.std.proofs.lemmas.Iterator.{YieldsList-from_slice}
use Rattle.std.proofs.lemmas.Iterator.Search.{all_from_yields_List}
use Rattle.std.specs.List.{list_all}
use lib.Seq.{take_all}
use Rattle.decimals.specs.Numbers.{is_digit, all_digits}
use Rattle.decimals.proofs.Values.{Digit, is_digit_lem, digits_end, digits_bad, digits_more}
use Rattle.fields.proofs.Tenths.{placed_start, placed_end, placed_more, placed_past, no_fraction, bad_fraction, good_fraction}
use Rattle.fields.proofs.pull_fraction.Goals.{else-digits-gt9-via-then-digits-gt9+else-not-all, else-digits-gt9-via-else-digits-gt9, in-Some+else-not-is_digit, in_default}
use Rattle.fields.proofs.pull_fraction.Goals as goal

low : (i : ℕ) → i ≤ 8 → 10 ^ i ≤ 100000000
low i h = pow-le-pow_right {n = 10} (omega arith) {j = 8} (omega arith)

pub returns-then-is_empty : goal.returns-then-is_empty
returns-then-is_empty c = no_fraction _ _ (search rules)

pub loop-i-init : goal.loop-i-init
loop-i-init c = record {
  in_value = omega arith;
  digits = refl;
  value = placed_start _;
}

pub overflow_mul-nano : goal.overflow_mul-nano
overflow_mul-nano c = omega (arith, low c.loop-i.i (omega arith))

pub returns-then-not-is_digit : goal.returns-then-not-is_digit
returns-then-not-is_digit c =
    let l = c.loop-i in
    let at = c.in-Some.ensures.lookup.3 in
    bad_fraction _ _ (search rules) (l.invariant.digits ∙ digits_bad _ l.i at.0 (rw (← at.1 0) (sym c.is_digit.ensures ∙ c.if-not-is_digit.true)))

pub overflow_sub-x : goal.overflow_sub-x
overflow_sub-x c = omega (arith, is_digit_lem (sym c.is_digit.ensures ∙ c.if-not-is_digit.false))

pub overflow_add-nano : goal.overflow_add-nano
overflow_add-nano c = omega (arith, is_digit_lem (sym c.is_digit.ensures ∙ c.if-not-is_digit.false), low c.loop-i.i (omega arith))

-- a `get` that finds nothing is past the end
past : {A : Type 0} (i n : ℕ) (o : Option A) → ((x : A) → o ≡ Some x → ⊥) → is_some o ≡ ltb i n → n ≤ i
past i n (Some x) h e = absurd (h x refl)
past i n None h e = ltb-false i n (sym e)

pub loop-i-preserved : goal.loop-i-preserved
loop-i-preserved c =
    let l = c.loop-i in
    let i = l.i in
    let s = c.args.digits.now in
    let p : 10 ^ (i + 1) ≡ 10 ^ i * 10 = rw add-one (pow-suc 10 i) in
    elim c.match-get.branch [
      | in-Some+else-not-is_digit w ↦
          let at = w.in-Some.ensures.lookup.3 in
          let x : Digit (get_or s i 0) = rw (← at.1 0) (is_digit_lem (sym w.is_digit.ensures ∙ w.if-not-is_digit.false)) in
          rw (w.nano-is, w.from-nano.ensures, at.1 0) record {
            in_value = omega (arith, x.high);
            digits = l.invariant.digits ∙ digits_more s i at.0 x.is;
            value = l.invariant.value ∙ placed_more l.nano s i (omega arith) at.0;
          }
      | in_default w ↦
          let end = past i (length s) _ w.in_default.not-Some c.get.ensures.lookup.0 in
          rw w.nano-is record {
            in_value = omega arith;
            digits = l.invariant.digits ∙ digits_end s i end ∙ sym (digits_end s (i + 1) (omega arith));
            value = l.invariant.value ∙ placed_past l.nano s i (omega arith) end;
          }
    ]

all_digits_is : (s : List ℕ) → all_digits s ≡ list_all is_digit s
unfolding all_digits
all_digits_is [] = refl
all_digits_is (x ∷ s) = ap (λ b. is_digit x && b) (all_digits_is s)

whole : (s : List ℕ) → take (length s - 9) (drop 9 s) ≡ drop 9 s
whole s = take_all (length s - 9) (drop 9 s) (omega (arith, length-drop 9 s))

pub returns-then-not-all : goal.returns-then-not-all
returns-then-not-all c =
    let s = c.args.digits.now in
    let nine : c.loop-i.i ≡ 9 = omega arith in
    let found : c.all.result ≡ list_all is_digit (drop 9 s) =
    all_from_yields_List is_digit _ _ c.all.result c.all.ensures.ran (YieldsList-from_slice (drop 9 s) (cc (whole s))) (λ x b q k. search (rules, tests)) in
    bad_fraction _ _ (search rules) (c.loop-i.invariant.digits ∙ rw nine (all_digits_is (drop 9 s)) ∙ sym found ∙ c.if-not-all.true)

pub returns : goal.returns
returns c =
    let s = c.args.digits.now in
    let l = c.loop-i in
    let nine : l.i ≡ 9 = omega arith in
    let good : all_digits (drop 9 s) ≡ true =
    elim c.else-digits-gt9.branch [
      | else-digits-gt9-via-then-digits-gt9+else-not-all w ↦
          let found : w.all.result ≡ list_all is_digit (drop 9 s) =
          all_from_yields_List is_digit _ _ w.all.result w.all.ensures.ran (YieldsList-from_slice (drop 9 s) (cc (whole s))) (λ x b q k. search (rules, tests)) in
          all_digits_is (drop 9 s) ∙ sym found ∙ w.if-not-all.false
      | else-digits-gt9-via-else-digits-gt9 w ↦ digits_end s 9 (omega arith)
    ] in
    good_fraction _ _ (search rules) (l.invariant.digits ∙ rw nine good) (l.invariant.value ∙ rw nine (placed_end _ _))
