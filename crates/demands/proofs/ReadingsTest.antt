-- A row of the table, tested by computing, and that a row which passes holds. A printed date may lie too far for the walk: the
-- test reads it off the row's own text, and counts it by the closed formula.
use mathlib.Core.Path.{◌≡◌, refl, ap, ◌∙◌}
use mathlib.Core.Bool.{Bool, true, false, ◌&&◌}
use mathlib.Core.List.{List, [], ◌∷◌}
use Prim.Native.Nat.{ℕ, ◌^◌, ◌<◌}
use lib.Dec.{T, eqb, ltb, eqb→eq, ltb→lt}
use lib.IntN.{ℤ, pos, negsuc}
use mir.Facts.{and_yes}
use borrow.Author.Tests.{lt-ltb}
use Rattle.std.specs.Prelude.{None}
use Rattle.integers.specs.Integers.{is_i64, floor_div, floor_mod}
use Rattle.calendar.specs.Walk.{divides, is_leap, month_row, month_length}
use Rattle.calendar.specs.Closed.{leap_years, year_start, sum_to, day_of_year, day_number}
use Rattle.moments.specs.Moments.{second_of_day, seconds_of}
use Rattle.counts.specs.Counts.{date_time_secs, from_date_time, from_unix, over_epoch, exact, time_at, added}
use Rattle.decimals.specs.Numbers.{begins_with, is_digit, all_digits, decimal_after, number}
use Rattle.fields.specs.Fields as Fields
use Rattle.stages.specs.Text as Text
use Rattle.reader.specs.Stamp.{read_text, year_limit}
use Rattle.digits.specs.Digits as Digits
use Rattle.printed_parts.specs.Text as Parts
use Rattle.printer.specs.Text as Printed
use Rattle.errors.specs.Refusals.{Refusal, Outcome, gives, refuses, refuses_in_range_error}
use Rattle.moments.specs.declared.Moment.{Moment}
use Rattle.stages.specs.Text.{Parsed, parsed}
use Rattle.std.specs.Prelude.{Ok, Err}
use Rattle.printer.specs.Text.{text}
use Rattle.printer.specs.Lent.{answer, line_after}
use Rattle.printer.specs.Display.{instant, time_text, displayed}
use Rattle.demands.specs.Values.{moment}
use Rattle.texts.specs.Texts.{bytes}
use Rattle.demands.specs.Readings.{Reading, prints, counts, reads, adds, converts, moves, Holds, AllHold, readings}
use Rattle.demands.specs.OurReadings.{ours}
use Rattle.demands.proofs.DatesWalked.{accepted}

-- ---- equality that computes
abbrev sameℤ : ℤ → ℤ → Bool
sameℤ (pos m) (pos n) = eqb m n
sameℤ (pos m) (negsuc n) = false
sameℤ (negsuc m) (pos n) = false
sameℤ (negsuc m) (negsuc n) = eqb m n

same_ℤ : (x y : ℤ) → T (sameℤ x y) → x ≡ y
same_ℤ (pos m) (pos n) t = ap pos (eqb→eq m n t)
same_ℤ (pos m) (negsuc n) t = absurd t
same_ℤ (negsuc m) (pos n) t = absurd t
same_ℤ (negsuc m) (negsuc n) t = ap negsuc (eqb→eq m n t)

abbrev same_list : {A : Type 0} → (A → A → Bool) → List A → List A → Bool
same_list f [] [] = true
same_list f [] (y ∷ ys) = false
same_list f (x ∷ xs) [] = false
same_list f (x ∷ xs) (y ∷ ys) = f x y && same_list f xs ys

same_list_lem : {A : Type 0} (f : A → A → Bool) → ((x y : A) → T (f x y) → x ≡ y) → (xs ys : List A) → T (same_list f xs ys) → xs ≡ ys
same_list_lem f h [] [] t = refl
same_list_lem f h [] (y ∷ ys) t = absurd t
same_list_lem f h (x ∷ xs) [] t = absurd t
same_list_lem f h (x ∷ xs) (y ∷ ys) t =
    let b = and_yes (f x y) (same_list f xs ys) t in
    let p = h x y b.0 in
    let q = same_list_lem f h xs ys b.1 in
    λ i. p i ∷ q i

abbrev same_refusal : Refusal → Refusal → Bool
same_refusal r q = eqb r.number q.number && same_list sameℤ r.values q.values

same_refusal_lem : (r q : Refusal) → T (same_refusal r q) → r ≡ q
same_refusal_lem r q t =
    let b = and_yes (eqb r.number q.number) (same_list sameℤ r.values q.values) t in
    let n = eqb→eq r.number q.number b.0 in
    let v = same_list_lem sameℤ same_ℤ r.values q.values b.1 in
    λ i. record { number = n i; values = v i }

abbrev same : Outcome (ℤ × ℕ) → Outcome (ℤ × ℕ) → Bool
same (gives x) (gives y) = sameℤ x.0 y.0 && eqb x.1 y.1
same (gives x) (refuses q) = false
same (gives x) (refuses_in_range_error q) = false
same (refuses r) (gives y) = false
same (refuses r) (refuses q) = same_refusal r q
same (refuses r) (refuses_in_range_error q) = false
same (refuses_in_range_error r) (gives y) = false
same (refuses_in_range_error r) (refuses q) = false
same (refuses_in_range_error r) (refuses_in_range_error q) = same_refusal r q

same_outcome : (o p : Outcome (ℤ × ℕ)) → T (same o p) → o ≡ p
same_outcome (gives x) (gives y) t =
    let b = and_yes (sameℤ x.0 y.0) (eqb x.1 y.1) t in
    let p = same_ℤ x.0 y.0 b.0 in
    let q = eqb→eq x.1 y.1 b.1 in
    λ i. gives (p i, q i)
same_outcome (gives x) (refuses q) t = absurd t
same_outcome (gives x) (refuses_in_range_error q) t = absurd t
same_outcome (refuses r) (gives y) t = absurd t
same_outcome (refuses r) (refuses q) t = ap refuses (same_refusal_lem r q t)
same_outcome (refuses r) (refuses_in_range_error q) t = absurd t
same_outcome (refuses_in_range_error r) (gives y) t = absurd t
same_outcome (refuses_in_range_error r) (refuses q) t = absurd t
same_outcome (refuses_in_range_error r) (refuses_in_range_error q) t = ap refuses_in_range_error (same_refusal_lem r q t)

-- ---- the test
-- the fields that a row's text says count the row's seconds, and print as the row's text
abbrev prints_as : ℤ → ℤ → ℕ → List ℕ → Parsed → Bool
prints_as epoch secs nanos said (Ok f) =
    same (from_date_time epoch f.year f.month f.day f.hour f.min f.sec f.nano) (gives (secs, nanos))
    && same_list eqb (text (instant (moment f.year f.month f.day f.hour f.min f.sec) nanos) None) said
prints_as epoch secs nanos said (Err e) = false

abbrev pub passes : Reading → Bool
passes (prints epoch secs nanos said) = ltb nanos 1000000000 && prints_as epoch secs nanos (bytes said) (parsed (10 ^ 12) (bytes said))
passes (counts epoch year month day hour min sec nano said) = same (from_date_time epoch year month day hour min sec nano) said
passes (reads epoch said outcome) = same (read_text year_limit epoch (bytes said)) outcome
passes (adds secs nanos dsecs dnanos said) = same (added secs nanos dsecs dnanos) said
passes (converts epoch unix nanos leap said) = same (from_unix epoch unix nanos leap) said
passes (moves old new secs nanos said) = same (over_epoch old new secs nanos) said

-- ---- a row that passes holds
text_of : (epoch secs : ℤ) (nanos : ℕ) (said : List ℕ) (p : Parsed) → T (prints_as epoch secs nanos said p) → time_text secs nanos epoch None ≡ said
unfolding time_text
text_of epoch secs nanos said (Err e) t = absurd t
text_of epoch secs nanos said (Ok f) t =
    let o = from_date_time epoch f.year f.month f.day f.hour f.min f.sec f.nano in
    let m = moment f.year f.month f.day f.hour f.min f.sec in
    let b = and_yes (same o (gives (secs, nanos))) (same_list eqb (text (instant m nanos) None) said) t in
    let a = (accepted epoch f.year f.month f.day f.hour f.min f.sec f.nano secs nanos).0 (same_outcome o (gives (secs, nanos)) b.0) in
    ap (λ (x : Moment). text (instant x nanos) None) a.0.walked ∙ same_list_lem eqb eqb→eq (text (instant m nanos) None) said b.1

line_of : (epoch secs : ℤ) (nanos : ℕ) (said : List ℕ) → nanos < 1000000000 → time_text secs nanos epoch None ≡ said → (line : List ℕ) (at : ℕ) → displayed secs nanos epoch None line at ≡ (answer line at said, line_after line at said)
unfolding displayed
line_of epoch secs nanos said h e line at = rw (lt-ltb nanos 1000000000 h, e)

pub holds : (r : Reading) → T (passes r) → Holds r
holds (prints epoch secs nanos said) t =
    let b = and_yes (ltb nanos 1000000000) (prints_as epoch secs nanos (bytes said) (parsed (10 ^ 12) (bytes said))) t in
    line_of epoch secs nanos (bytes said) (ltb→lt nanos 1000000000 b.0) (text_of epoch secs nanos (bytes said) (parsed (10 ^ 12) (bytes said)) b.1)
holds (counts epoch year month day hour min sec nano said) t = same_outcome (from_date_time epoch year month day hour min sec nano) said t
holds (reads epoch said outcome) t = same_outcome (read_text year_limit epoch (bytes said)) outcome t
holds (adds secs nanos dsecs dnanos said) t = same_outcome (added secs nanos dsecs dnanos) said t
holds (converts epoch unix nanos leap said) t = same_outcome (from_unix epoch unix nanos leap) said t
holds (moves old new secs nanos said) t = same_outcome (over_epoch old new secs nanos) said t

-- ---- the whole table by one test
abbrev pub all_pass : List Reading → Bool
all_pass [] = true
all_pass (r ∷ rows) = passes r && all_pass rows

pub all_hold : (rows : List Reading) → T (all_pass rows) → AllHold rows
all_hold [] t = tt
all_hold (r ∷ rows) t = let b = and_yes (passes r) (all_pass rows) t in (holds r b.0, all_hold rows b.1)

-- EVERY ROW PASSES, as the prover computes it: those marked P, and the others
pub all_pass_lem : T (all_pass readings && all_pass ours)
unfolding is_i64 floor_div floor_mod divides is_leap month_row month_length leap_years year_start sum_to day_of_year day_number second_of_day seconds_of date_time_secs from_date_time from_unix over_epoch exact time_at added begins_with is_digit all_digits decimal_after number Fields.is_delimiter Fields.width Fields.two_digits Fields.nanoseconds Fields.fraction Fields.seconds Text.field Text.from_month Text.from_year Text.without_sign Text.parsed read_text Digits.digits Digits.width_from Digits.width Parts.year_text Parts.trim Parts.fraction_text Printed.fields_text Printed.text
all_pass_lem = tt
