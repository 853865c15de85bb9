-- `reader::date_time::parse_date_time`: the short way; else the sign and the year, and `parse_from_month` reads the rest.
use Rattle.std.proofs.Common.{◌≡◌, Bool, Option, Err, List, ℕ, ◌+◌, ◌<◌, ◌≤◌, length, take, drop, sym, ap, ◌∙◌, arith, w64, to_z-of_z, lt-ltb, le-ltb, le-leb}
use Rattle.std.proofs.lemmas.Bool.{lt-leb}
use Rattle.integers.proofs.Machine.{known64}
use Rattle.errors.specs.declared.ParseDateTimeError.TheVariants.{InvalidFieldValue}
use Rattle.decimals.specs.Numbers.{begins_with, number, on_number}
use Rattle.decimals.proofs.Values.{number_small}
use Rattle.fields.specs.Fields.{width}
use Rattle.fields.specs.declared.Delimiter.TheVariants.{Hyphen}
use Rattle.stages.specs.Text.{parsed, from_year, from_month, with_sign, without_sign}
use Rattle.reader.proofs.date_time.parse_date_time.Goals as goal

year_wide : (limit : ℕ) (s rest : List ℕ) (negative : Bool) (n : ℕ) (read : Option ℕ)
    → negative ≡ begins_with 45 s → rest ≡ without_sign s → n ≡ width Hyphen rest → n < length rest → 4 ≤ n
    → read ≡ number limit (take n rest)
    → parsed limit s ≡ on_number read (Err InvalidFieldValue) λ size. from_month (with_sign negative size) (drop (n + 1) rest)
unfolding parsed from_year
year_wide limit s rest negative n read b r w h k e = rw (← r, ← w, lt-ltb _ _ h, le-leb 4 _ k, e, ← b)

pub returns-then-text-n : goal.returns-then-text-n
unfolding parsed from_year
returns-then-text-n c = rw (← c.skip_sign-text.ensures, ← c.find-n.ensures.value, le-ltb _ _ c.if-text-n.true)

pub returns-then-n-lt4 : goal.returns-then-n-lt4
unfolding parsed from_year
returns-then-n-lt4 c = rw (← c.skip_sign-text.ensures, ← c.find-n.ensures.value, lt-ltb _ _ c.if-text-n.false, lt-leb 4 c.find-n.result (omega arith))

pub returns-in_default : goal.returns-in_default
returns-in_default c =
    rw (year_wide _ _ _ _ _ _ c.begins_with-negative.ensures c.skip_sign-text.ensures c.find-n.ensures.value c.if-text-n.false (omega arith) c.parse_number.ensures, c.in_default.is)

pub with_sign-year-requires : goal.with_sign-year-requires
with_sign-year-requires c = let v = number_small _ _ (sym c.parse_number.ensures ∙ c.in-Some.is) in omega arith

pub returns : goal.returns
returns c =
    let y = c.with_sign-year in
    rw (year_wide _ _ _ _ _ _ c.begins_with-negative.ensures c.skip_sign-text.ensures c.find-n.ensures.value c.if-text-n.false (omega arith) c.parse_number.ensures, c.in-Some.is, ← y.ensures, ← c.skip.ensures)
    (c.parse_from_month.ensures ∙ ap (λ z. from_month z c.skip.result.now) (to_z-of_z {w = w64} (known64 y.result y.type_inv).self))
