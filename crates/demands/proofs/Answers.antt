-- No two answers of an entry say the same.
use mathlib.Core.Path.{◌≡◌, ap, sym}
use Prim.Native.Nat.{ℕ}
use native.Mathlib.Omega.{arith}
use lib.IntN.{ℤ}
use Rattle.errors.specs.Refusals.{gives, of_parse}
use Rattle.errors.specs.declared.ParseDateTimeError.{ParseDateTimeError}
use Rattle.errors.specs.declared.ParseDateTimeError.TheVariants.{MissingField, InvalidFieldWidth, InvalidFieldValue, RangeError}
use Rattle.errors.proofs.One.{count_one, date_time_one, parse_one}
use Rattle.errors.proofs.Outcomes.{gives_one, refuses_not, refuses_one}
use Rattle.counts.specs.declared.TaiTime.{TaiTime}
use Rattle.std.specs.declared.cmp.Ordering.{Ordering}
use Rattle.errors.specs.Refusals.{Refusal, says, of_count, of_date_time}
use Rattle.errors.specs.declared.CountError.{CountError}
use Rattle.errors.specs.declared.DateTimeError.{DateTimeError}
use Rattle.seconds.specs.declared.UnixSeconds.{UnixSeconds}
use Rattle.durations.specs.declared.Duration.{Duration}
use Rattle.counts.specs.Said.{pair, said_time, said_secs, said_date_time, said_unix, said_duration, said_ordering}
use Rattle.std.specs.Prelude.{Result, Ok, Err}
use Rattle.reader.specs.Stamp.{said_read}

-- where no two values have one form, and no two errors one refusal
says_one : {T E B : Type 0} (form : T → B) (of : E → Refusal) → ((x y : T) → form x ≡ form y → x ≡ y) → ((x y : E) → of x ≡ of y → x ≡ y) → (a b : Result T E) → says form of a ≡ says form of b → a ≡ b
says_one form of f g (Ok x) (Ok y) e = ap Ok (f x y (gives_one e))
says_one form of f g (Ok x) (Err y) e = absurd (refuses_not (sym e))
says_one form of f g (Err x) (Ok y) e = absurd (refuses_not e)
says_one form of f g (Err x) (Err y) e = ap Err (g x y (refuses_one e))

same_time : (t t' : TaiTime) → pair t ≡ pair t' → t ≡ t'
same_time t t' p = λ i. record { secs = (p i).0; nanos = (p i).1 }

pub time_one : (a b : Result TaiTime CountError) → said_time a ≡ said_time b → a ≡ b
time_one = says_one pair of_count same_time count_one

pub date_time_answer_one : (a b : Result TaiTime DateTimeError) → said_date_time a ≡ said_date_time b → a ≡ b
date_time_answer_one = says_one pair of_date_time same_time date_time_one

pub secs_one : (a b : Result ℤ DateTimeError) → said_secs a ≡ said_secs b → a ≡ b
secs_one = says_one (λ secs. secs) of_date_time (λ x y e. e) date_time_one

pub unix_one : (a b : Result UnixSeconds CountError) → said_unix a ≡ said_unix b → a ≡ b
unix_one = says_one (λ u. u.0) of_count (λ u v p i. record { 0 = p i }) count_one

pub duration_one : (a b : Result Duration CountError) → said_duration a ≡ said_duration b → a ≡ b
duration_one = says_one (λ d. (d.secs, d.nanos)) of_count (λ d d' p i. record { secs = (p i).0; nanos = (p i).1 }) count_one

pub ordering_one : (a b : Result Ordering CountError) → said_ordering a ≡ said_ordering b → a ≡ b
ordering_one = says_one (λ o. o) of_count (λ x y e. e) count_one

parse_not : (e : ParseDateTimeError) {x : ℤ × ℕ} → of_parse e ≡ gives x → ⊥
parse_not MissingField h = refuses_not h
parse_not InvalidFieldWidth h = refuses_not h
parse_not InvalidFieldValue h = refuses_not h
parse_not (RangeError e) h = let z : ◌≡◌ {A = ℕ} 0 1 = cc in omega arith

pub read_one : (a b : Result TaiTime ParseDateTimeError) → said_read a ≡ said_read b → a ≡ b
read_one (Ok t) (Ok t') e = ap Ok (same_time t t' (gives_one e))
read_one (Ok t) (Err f) e = absurd (parse_not f (sym e))
read_one (Err f) (Ok t) e = absurd (parse_not f e)
read_one (Err f) (Err g) e = ap Err (parse_one (ℤ × ℕ) f g e)
