-- The year that a text says is within the limit.
use mathlib.Core.Path.{◌≡◌, refl, sym, subst}
use mathlib.Core.Bool.{Bool, true, false}
use mathlib.Core.List.{List}
use Prim.Native.Nat.{ℕ, zero, suc, ◌≤◌}
use native.Mathlib.Omega.{arith}
use lib.Dec.{leb}
use lib.IntN.{ℤ, nat_abs}
use Rattle.errors.specs.declared.ParseDateTimeError.{ParseDateTimeError}
use Rattle.errors.specs.declared.ParseDateTimeError.TheVariants.{MissingField, InvalidFieldWidth, InvalidFieldValue}
use Rattle.decimals.specs.Numbers.{begins_with, number, on_number}
use Rattle.fields.specs.Fields.{unless, width, before, delimited, behind, two_digits, seconds}
use Rattle.std.specs.Prelude.{Option, Some, None, Result, Ok, Err}
use Rattle.fields.specs.declared.Delimiter.{Delimiter}
use Rattle.fields.specs.declared.Delimiter.TheVariants.{Hyphen}
use Rattle.fields.specs.declared.Field.{Field}
use Rattle.fields.specs.declared.Seconds.{Seconds}
use Rattle.decimals.proofs.Values.{number_small}
use Rattle.dates.specs.declared.DateTime.{DateTime}
use Rattle.stages.specs.Text.{Parsed, on_field, field, on_seconds, from_month, with_sign, from_year, without_sign, parsed}

-- the size of the year, where there is one
pub data Within (limit : ℕ) : Parsed → Type 0 where
  refused : {e : ParseDateTimeError} → Within limit (Err e)
  said : {f : DateTime} → nat_abs f.year ≤ limit → Within limit (Ok f)

module _ {limit : ℕ} where
  on_field_lem : (f : Result Field ParseDateTimeError) (next : ℕ → Parsed) → ((v : ℕ) → Within limit (next v)) → Within limit (on_field f next)
  on_field_lem (Ok (Field.Got v)) next h = h v
  on_field_lem (Ok (Field.Last v)) next h = refused
  on_field_lem (Err e) next h = refused

  a_field : (d : Delimiter) (s : List ℕ) (next : ℕ → List ℕ → Parsed) → ((v : ℕ) (s : List ℕ) → Within limit (next v s)) → Within limit (field d s next)
  unfolding field
  a_field d s next h = on_field_lem (two_digits d s) (λ v. next v (behind d s)) (λ v. h v (behind d s))

  on_seconds_lem : (x : Result Seconds ParseDateTimeError) (next : ℕ → ℕ → Parsed) → ((a b : ℕ) → Within limit (next a b)) → Within limit (on_seconds x next)
  on_seconds_lem (Ok x) next h = h x.sec x.nano
  on_seconds_lem (Err e) next h = refused

  from_month_lem : (year : ℤ) (s : List ℕ) → nat_abs year ≤ limit → Within limit (from_month year s)
  unfolding from_month
  from_month_lem year s h =
      a_field _ s _ λ month s.
      a_field _ s _ λ day s.
      a_field _ s _ λ hour s.
      a_field _ s _ λ min s.
      on_seconds_lem (seconds s) _ λ sec nano.
      said h

  on_number_lem : (n : Option ℕ) (p : Parsed) (next : ℕ → Parsed) → Within limit p → ((v : ℕ) → n ≡ Some v → Within limit (next v)) → Within limit (on_number n p next)
  on_number_lem (Some v) p next h k = k v refl
  on_number_lem None p next h k = h

  unless_within : (b : Bool) (p q : Parsed) → Within limit p → Within limit q → Within limit (unless b p q)
  unless_within true p q h k = k
  unless_within false p q h k = h

sign_size : (negative : Bool) (n : ℕ) → nat_abs (with_sign negative n) ≡ n
sign_size true zero = refl
sign_size true (suc n) = refl
sign_size false n = refl

pub year_within : (limit : ℕ) (s : List ℕ) → Within limit (parsed limit s)
unfolding parsed from_year
year_within limit s =
    let r = without_sign s in
    let year = with_sign (begins_with 45 s) in
    unless_within (delimited Hyphen r) (Err MissingField) _ refused
    (unless_within (leb 4 (width Hyphen r)) (Err InvalidFieldWidth) _ refused
    (on_number_lem (number limit (before Hyphen r)) (Err InvalidFieldValue) (λ size. from_month (year size) (behind Hyphen r)) refused
    λ v e. from_month_lem (year v) (behind Hyphen r) (subst (λ n. n ≤ limit) (sym (sign_size (begins_with 45 s) v)) (number_small limit (before Hyphen r) e))))

-- as a caller has it
pub within_limit : {limit : ℕ} {p : Parsed} {f : DateTime} → Within limit p → p ≡ Ok f → nat_abs f.year ≤ limit
within_limit refused e = let z : ◌≡◌ {A = ℕ} 0 1 = cc in absurd (omega arith)
within_limit {limit} {f = f} (said {f = g} h) e =
    let y : g ≡ f = cc in
    subst (λ (d : DateTime). nat_abs d.year ≤ limit) y h
