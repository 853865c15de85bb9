-- Demand 1, the table of refusals: each is given exactly when document 01 says so, in both directions.
use mathlib.Core.Path.{◌≡◌, refl, sym, ap, subst, ◌∙◌}
use mathlib.Core.Bool.{Bool, true, false, ◌&&◌, and-eq-true_iff}
use mathlib.Core.List.{List, [], ◌∷◌}
use mathlib.Core.Logic.{◌⊎◌, inl, inr, ⊎_elim, ◌↔◌}
use Prim.Native.Nat.{ℕ, ◌+◌, ◌-◌, ◌/◌, ◌<◌, ◌≤◌}
use native.Mathlib.Omega.{arith}
use lib.Dec.{leb, ltb}
use lib.IntN.{ℤ, pos, negsuc, ◌+ℤ◌, ◌-ℤ◌}
use lib.ListN.{length}
use borrow.Author.Tests.{leb-true, leb-false, ltb-true, ltb-false, lt-ltb}
use Rattle.std.specs.Prelude.{Option}
use Rattle.integers.specs.Integers.{is_i64, floor_div, floor_mod}
use Rattle.errors.specs.Refusals.{Refusal, refusal, Outcome, gives, refuses, refuses_in_range_error, check}
use Rattle.errors.proofs.Outcomes.{refuses_one, refuses_not}
use Rattle.calendar.specs.Walk.{Valid, date, month_length}
use Rattle.moments.specs.Moments.{ValidTime, seconds_of}
use Rattle.counts.specs.Counts.{representable, good_nanos, with_nanos, new_time, date_time_secs, from_date_time, to_unix, from_unix, over_epoch, exact, time_at, duration_at, added, taken, since, order, compared}
use Rattle.printer.specs.Display.{time_text, displayed}
use Rattle.demands.specs.Values.{LeavesI64, moment}
use Rattle.demands.specs.GivenWhen as When
use Rattle.demands.specs.GivenWhen.{DateRefused, PrintRefused}
use Rattle.demands.proofs.DatesOrder.{month_first, day_second, hour_third, minute_fourth, second_fifth, nanosecond_sixth}
use Rattle.demands.proofs.DatesUnreached.{refused}
use Rattle.demands.proofs.NanosFirst.{first, either}
use Rattle.demands.proofs.Lent.{bad_nanos, start_outside, no_room, printed}

-- a check that refused: its own test failed, or what comes then refused
refused_by : {A : Type 0} {q : Refusal} (b : Bool) (r : Refusal) (o : Outcome A) → check b r o ≡ refuses q → ((b ≡ false) × (r ≡ q)) ⊎ ((b ≡ true) × (o ≡ refuses q))
refused_by true r o e = inr (refl, e)
refused_by false r o e = inl (refl, refuses_one e)

-- ---- Dates
-- a number that is not from 1 to n
outside : (k n : ℕ) → (leb 1 k && leb k n) ≡ false → (k < 1) ⊎ (n < k)
outside k n e = go (leb 1 k) refl e
  where
    go : (b : Bool) → leb 1 k ≡ b → (b && leb k n) ≡ false → (k < 1) ⊎ (n < k)
    go true f g = inr (leb-false k n g)
    go false f g = inl (leb-false 1 k f)

without_nanos : {q : Refusal} (nanos : ℕ) (o : Outcome ℤ) → with_nanos nanos o ≡ refuses q → o ≡ refuses q
without_nanos nanos (gives x) e = absurd (refuses_not (sym e))
without_nanos nanos (refuses r) e = ap refuses (refuses_one e)
without_nanos nanos (refuses_in_range_error r) e = let z : ◌≡◌ {A = ℕ} 0 1 = cc in absurd (omega arith)

module _ (epoch year : ℤ) (month day hour min sec nano : ℕ) where
  -- Calendar fields are refused by a number and its value exactly if the table says so: the first field that is bad, or 6.
  pub date_refused_exactly : (q : Refusal) → (from_date_time epoch year month day hour min sec nano ≡ refuses q) ↔ DateRefused epoch year month day hour min sec nano q
  unfolding from_date_time date_time_secs
  date_refused_exactly q = (there, back q)
    where
      back : (q : Refusal) → DateRefused epoch year month day hour min sec nano q → from_date_time epoch year month day hour min sec nano ≡ refuses q
      back q (When.bad_month h) = month_first epoch year month day hour min sec nano h
      back q (When.bad_day a b h) = day_second epoch year month day hour min sec nano a b h
      back q (When.bad_hour v h) = hour_third epoch year month day hour min sec nano v h
      back q (When.bad_minute v a h) = minute_fourth epoch year month day hour min sec nano v a h
      back q (When.bad_second v a b h) = second_fifth epoch year month day hour min sec nano v a b h
      back q (When.bad_nanosecond v a b c h) = nanosecond_sixth epoch year month day hour min sec nano v a b c h
      back q (When.out_of_range v t n h) = (refused epoch year month day hour min sec nano v t n).1 h

      count : ℤ
      count = seconds_of (moment year month day hour min sec) -ℤ epoch

      there : from_date_time epoch year month day hour min sec nano ≡ refuses q → DateRefused epoch year month day hour min sec nano q
      there e = ⊎_elim
          (λ p. subst (DateRefused epoch year month day hour min sec nano) p.1 (When.bad_month (outside month 12 p.0))) (λ m.
          let mm = (and-eq-true_iff (leb 1 month) (leb month 12)).0 m.0 in
          let m1 = leb-true 1 month mm.0 in
          let m2 = leb-true month 12 mm.1 in
          ⊎_elim
          (λ p. subst (DateRefused epoch year month day hour min sec nano) p.1 (When.bad_day m1 m2 (outside day (month_length year month) p.0))) (λ d.
          let dd = (and-eq-true_iff (leb 1 day) (leb day (month_length year month))).0 d.0 in
          let v : Valid (date year month day) = record { month_from = m1; month_to = m2; day_from = leb-true 1 day dd.0; day_to = leb-true day (month_length year month) dd.1 } in
          ⊎_elim
          (λ p. subst (DateRefused epoch year month day hour min sec nano) p.1 (When.bad_hour v (leb-false hour 23 p.0))) (λ h.
          let h1 = leb-true hour 23 h.0 in
          ⊎_elim
          (λ p. subst (DateRefused epoch year month day hour min sec nano) p.1 (When.bad_minute v h1 (leb-false min 59 p.0))) (λ i.
          let i1 = leb-true min 59 i.0 in
          ⊎_elim
          (λ p. subst (DateRefused epoch year month day hour min sec nano) p.1 (When.bad_second v h1 i1 (leb-false sec 59 p.0))) (λ s.
          let s1 = leb-true sec 59 s.0 in
          ⊎_elim
          (λ p. subst (DateRefused epoch year month day hour min sec nano) p.1 (When.bad_nanosecond v h1 i1 s1 (ltb-false nano 1000000000 p.0))) (λ n.
          let n1 = ltb-true nano 1000000000 n.0 in
          let t : ValidTime (moment year month day hour min sec).time = record { hour_to = h1; minute_to = i1; second_to = s1 } in
          ⊎_elim
          (λ p. subst (DateRefused epoch year month day hour min sec nano) p.1 (When.out_of_range v t n1 ((refused epoch year month day hour min sec nano v t n1).0 (e ∙ ap refuses (sym p.1))))) (λ z.
          absurd (refuses_not (sym z.1)))
          (refused_by (is_i64 count) (refusal 6 []) (gives count) n.1))
          (refused_by (ltb nano 1000000000) (refusal 5 (pos nano ∷ [])) _ s.1))
          (refused_by (leb sec 59) (refusal 4 (pos sec ∷ [])) _ i.1))
          (refused_by (leb min 59) (refusal 3 (pos min ∷ [])) _ h.1))
          (refused_by (leb hour 23) (refusal 2 (pos hour ∷ [])) _ d.1))
          (refused_by (leb 1 day && leb day (month_length year month)) (refusal 1 (pos day ∷ [])) _ m.1))
          (refused_by (leb 1 month && leb month 12) (refusal 0 (pos month ∷ [])) _ (without_nanos nano (date_time_secs epoch year month day hour min sec nano) e))

-- ---- Bad nanoseconds
-- nothing but a check of nanoseconds refuses with 11
not_11 : {A : Type 0} (b : Bool) (o : Outcome A) → (o ≡ refuses (refusal 11 []) → ⊥) → check b (refusal 10 []) o ≡ refuses (refusal 11 []) → ⊥
not_11 b o h e = ⊎_elim (λ p. absurd (omega (arith, ap (λ r. r.number) p.1))) (λ p. h p.1) (refused_by b (refusal 10 []) o e)

sum_not : {A : Type 0} (z : ℤ) (x : A) → representable z (gives x) ≡ refuses (refusal 11 []) → ⊥
sum_not z x = not_11 (is_i64 z) (gives x) (λ e. refuses_not (sym e))

time_not : (z : ℤ) → time_at z ≡ refuses (refusal 11 []) → ⊥
unfolding time_at
time_not z = sum_not (floor_div 1000000000 z) (floor_div 1000000000 z, floor_mod 1000000000 z)

duration_not : (z : ℤ) → duration_at z ≡ refuses (refusal 11 []) → ⊥
unfolding duration_at
duration_not (pos n) e = refuses_not (sym e)
duration_not (negsuc n) e = omega (arith, ap (λ r. r.number) (refuses_one e))

one : {A : Type 0} (nanos : ℕ) (o : Outcome A) → (o ≡ refuses (refusal 11 []) → ⊥) → (good_nanos nanos o ≡ refuses (refusal 11 [])) ↔ (1000000000 ≤ nanos)
one nanos o h = (λ e. ⊎_elim (λ p. ltb-false nanos 1000000000 p.0) (λ p. absurd (h p.1)) (refused_by _ _ _ e), first nanos o)

two : {A : Type 0} (nanos nanos' : ℕ) (o : Outcome A) → (o ≡ refuses (refusal 11 []) → ⊥) → (good_nanos nanos (good_nanos nanos' o) ≡ refuses (refusal 11 [])) ↔ ((1000000000 ≤ nanos) ⊎ (1000000000 ≤ nanos'))
two nanos nanos' o h =
    (λ e. ⊎_elim (λ p. inl (ltb-false nanos 1000000000 p.0)) (λ p. inr ((one nanos' o h).0 p.1)) (refused_by _ _ _ e), either nanos nanos' o)

module _ (secs : ℤ) (nanos : ℕ) where
  -- 11 is given exactly if a given timestamp or duration has 10^9 nanoseconds or more: by new,
  pub new_11_exactly : (new_time secs nanos ≡ refuses (refusal 11 [])) ↔ (1000000000 ≤ nanos)
  unfolding new_time
  new_11_exactly = one nanos _ (λ e. refuses_not (sym e))

  -- to Unix,
  pub to_unix_11_exactly : (epoch leap : ℤ) → (to_unix epoch secs nanos leap ≡ refuses (refusal 11 [])) ↔ (1000000000 ≤ nanos)
  unfolding to_unix
  to_unix_11_exactly epoch leap = one nanos _ (sum_not (secs -ℤ leap +ℤ epoch) (secs -ℤ leap +ℤ epoch))

  -- over another epoch,
  pub over_epoch_11_exactly : (old new : ℤ) → (over_epoch old new secs nanos ≡ refuses (refusal 11 [])) ↔ (1000000000 ≤ nanos)
  unfolding over_epoch
  over_epoch_11_exactly old new = one nanos _ (sum_not (old -ℤ new +ℤ secs) (old -ℤ new +ℤ secs, nanos))

  -- with a duration added or taken,
  pub added_11_exactly : (dsecs dnanos : ℕ) → (added secs nanos dsecs dnanos ≡ refuses (refusal 11 [])) ↔ ((1000000000 ≤ nanos) ⊎ (1000000000 ≤ dnanos))
  unfolding added
  added_11_exactly dsecs dnanos = two nanos dnanos _ (time_not (exact secs nanos +ℤ exact (pos dsecs) dnanos))

  pub taken_11_exactly : (dsecs dnanos : ℕ) → (taken secs nanos dsecs dnanos ≡ refuses (refusal 11 [])) ↔ ((1000000000 ≤ nanos) ⊎ (1000000000 ≤ dnanos))
  unfolding taken
  taken_11_exactly dsecs dnanos = two nanos dnanos _ (time_not (exact secs nanos -ℤ exact (pos dsecs) dnanos))

  -- and of two timestamps differenced or compared.
  pub since_11_exactly : (secs' : ℤ) (nanos' : ℕ) → (since secs nanos secs' nanos' ≡ refuses (refusal 11 [])) ↔ ((1000000000 ≤ nanos) ⊎ (1000000000 ≤ nanos'))
  unfolding since
  since_11_exactly secs' nanos' = two nanos nanos' _ (duration_not (exact secs nanos -ℤ exact secs' nanos'))

  pub compared_11_exactly : (secs' : ℤ) (nanos' : ℕ) → (compared secs nanos secs' nanos' ≡ refuses (refusal 11 [])) ↔ ((1000000000 ≤ nanos) ⊎ (1000000000 ≤ nanos'))
  unfolding compared
  compared_11_exactly secs' nanos' = two nanos nanos' (gives (order (exact secs nanos) (exact secs' nanos'))) (λ e. refuses_not (sym e))

-- ---- Conversions
leaves : {A : Type 0} (z : ℤ) (x : A) → (representable z (gives x) ≡ refuses (refusal 10 [])) ↔ LeavesI64 z
leaves z x = (λ e. ⊎_elim (λ p. p.0) (λ p. absurd (refuses_not (sym p.1))) (refused_by (is_i64 z) (refusal 10 []) (gives x) e), λ n. rw n)

good_then : {A Then : Type 0} (nanos : ℕ) (o : Outcome A) → (o ≡ refuses (refusal 10 [])) ↔ Then → (good_nanos nanos o ≡ refuses (refusal 10 [])) ↔ ((nanos < 1000000000) × Then)
good_then nanos o h = (
  λ e. ⊎_elim (λ p. absurd (omega (arith, ap (λ r. r.number) p.1))) (λ p. (ltb-true nanos 1000000000 p.0, h.0 p.1)) (refused_by (ltb nanos 1000000000) (refusal 11 []) o e),
  λ (n, t). rw (lt-ltb nanos 1000000000 n) (h.1 t),
)

-- 10 is given exactly if the exact sum leaves i64: of Unix to timestamp,
pub from_unix_10_exactly : (epoch unix : ℤ) (nanos : ℕ) (leap : ℤ) → (from_unix epoch unix nanos leap ≡ refuses (refusal 10 [])) ↔ LeavesI64 (unix +ℤ pos (nanos / 1000000000) +ℤ leap -ℤ epoch)
unfolding from_unix
from_unix_10_exactly epoch unix nanos leap = leaves (unix +ℤ pos (nanos / 1000000000) +ℤ leap -ℤ epoch) _

module _ (secs : ℤ) (nanos : ℕ) where
  -- of timestamp to Unix, after 11,
  pub to_unix_10_exactly : (epoch leap : ℤ) → (to_unix epoch secs nanos leap ≡ refuses (refusal 10 [])) ↔ ((nanos < 1000000000) × LeavesI64 (secs -ℤ leap +ℤ epoch))
  unfolding to_unix
  to_unix_10_exactly epoch leap = good_then nanos _ (leaves (secs -ℤ leap +ℤ epoch) _)

  -- and of a change of epoch, after 11.
  pub over_epoch_10_exactly : (old new : ℤ) → (over_epoch old new secs nanos ≡ refuses (refusal 10 [])) ↔ ((nanos < 1000000000) × LeavesI64 (old -ℤ new +ℤ secs))
  unfolding over_epoch
  over_epoch_10_exactly old new = good_then nanos _ (leaves (old -ℤ new +ℤ secs) _)

-- ---- Printing
module _ (secs : ℤ) (nanos : ℕ) (epoch : ℤ) (precision : Option ℕ) (line : List ℕ) (at : ℕ) where
  -- Printing is refused by a number exactly if the table says so: 11, then 12, then 13.
  pub print_refused_exactly : (q : Refusal) → ((displayed secs nanos epoch precision line at).0 ≡ refuses q) ↔ PrintRefused secs nanos epoch precision line at q
  print_refused_exactly q = (λ e. go (ltb nanos 1000000000) (ltb (length line) at) (ltb (length line - at) (length (time_text secs nanos epoch precision))) refl refl refl e, back q)
    where
      back : (q : Refusal) → PrintRefused secs nanos epoch precision line at q → (displayed secs nanos epoch precision line at).0 ≡ refuses q
      back q (When.bad_nanos h) = ap (λ x. x.0) (bad_nanos secs nanos epoch precision line at h)
      back q (When.start_outside h k) = ap (λ x. x.0) (start_outside secs nanos epoch precision line at h k)
      back q (When.no_room h k l) = ap (λ x. x.0) (no_room secs nanos epoch precision line at h k l)

      go : (a b c : Bool) → ltb nanos 1000000000 ≡ a → ltb (length line) at ≡ b → ltb (length line - at) (length (time_text secs nanos epoch precision)) ≡ c → (displayed secs nanos epoch precision line at).0 ≡ refuses q → PrintRefused secs nanos epoch precision line at q
      go false b c f g h e =
          let n = ltb-false nanos 1000000000 f in
          subst (PrintRefused secs nanos epoch precision line at) (refuses_one (sym (ap (λ x. x.0) (bad_nanos secs nanos epoch precision line at n)) ∙ e)) (When.bad_nanos n)
      go true true c f g h e =
          let n = ltb-true nanos 1000000000 f in
          let k = ltb-true (length line) at g in
          subst (PrintRefused secs nanos epoch precision line at) (refuses_one (sym (ap (λ x. x.0) (start_outside secs nanos epoch precision line at n k)) ∙ e)) (When.start_outside n k)
      go true false true f g h e =
          let n = ltb-true nanos 1000000000 f in
          let k = ltb-false (length line) at g in
          let l : length line < at + length (time_text secs nanos epoch precision) = omega (arith, ltb-true (length line - at) (length (time_text secs nanos epoch precision)) h) in
          subst (PrintRefused secs nanos epoch precision line at) (refuses_one (sym (ap (λ x. x.0) (no_room secs nanos epoch precision line at n k l)) ∙ e)) (When.no_room n k l)
      go true false false f g h e =
          let n = ltb-true nanos 1000000000 f in
          let l : at + length (time_text secs nanos epoch precision) ≤ length line = omega (arith, ltb-false (length line) at g, ltb-false (length line - at) (length (time_text secs nanos epoch precision)) h) in
          absurd (refuses_not (sym e ∙ ap (λ x. x.0) (printed secs nanos epoch precision line at n l)))
