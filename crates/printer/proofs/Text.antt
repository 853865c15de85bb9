-- The whole text: how long it is, and that its parts written in turn make it.
use mathlib.Core.Path.{◌≡◌, refl, sym, ap, ◌∙◌}
use mathlib.Core.List.{List, ◌++◌}
use Prim.Native.Nat.{ℕ, ◌+◌, ◌≤◌}
use native.Mathlib.Nat.{zero-add}
use native.Mathlib.Omega.{arith}
use lib.ListN.{length, length-append}
use lib.Seq.{sets}
use Rattle.std.specs.Prelude.{Option}
use Rattle.digits.specs.Digits.{digits, field}
use Rattle.digits.proofs.Stores.{sets_append}
use Rattle.printed_parts.specs.Text.{dash, year_text, fraction_text}
use Rattle.printed_parts.proofs.Lengths.{year_bound, fraction_bound}
use Rattle.printer.specs.declared.Instant.{Instant}
use Rattle.printer.specs.Text.{space, colon, fields_text, text, Ranged}

pub fields_length : (t : Instant) → length (fields_text t) ≡ 15
unfolding fields_text digits
fields_length t = refl

pub text_length : (t : Instant) (p : Option ℕ) → length (text t p) ≡ length (year_text t.moment.date.year) + 15 + length (fraction_text p t.nanos)
unfolding text
text_length t p =
    length-append (year_text t.moment.date.year ++ fields_text t) _
    ∙ ap (λ n. n + length (fraction_text p t.nanos)) (length-append (year_text t.moment.date.year) (fields_text t) ∙ rw fields_length)

-- a text is its parts
pub text_of : (t : Instant) (p : Option ℕ) {y f : List ℕ} → y ≡ year_text t.moment.date.year → f ≡ fraction_text p t.nanos → y ++ fields_text t ++ f ≡ text t p
unfolding text
text_of t p y f = rw (y, f)

-- the five fields, each in its place
pub fields_in_turn : (s : List ℕ) (at : ℕ) (t : Instant)
    → sets
    (sets (sets (sets (sets s at (field dash t.moment.date.month)) (at + 3) (field dash t.moment.date.day)) (at + 6) (field space t.moment.time.hour)) (at + 9) (field colon t.moment.time.minute))
    (at + 12)
    (field colon t.moment.time.second)
    ≡ sets s at (fields_text t)
unfolding fields_text digits
fields_in_turn s at t = sym (simp sets_append)

-- three texts in a row
pub three : (s a b c : List ℕ) → sets (sets (sets s 0 a) (length a) b) (length a + length b) c ≡ sets s 0 (a ++ b ++ c)
three s a b c = sym (sets_append s 0 (a ++ b) c ∙ rw (sets_append s 0 a b, zero-add (length a), length-append, zero-add (length a + length b)))

-- the longest text
pub text_bound : (t : Instant) (p : Option ℕ) → Ranged t → length (text t p) ≤ 38
text_bound t p r = omega (arith, text_length t p, year_bound t.moment.date.year r.year, fraction_bound p t.nanos)
