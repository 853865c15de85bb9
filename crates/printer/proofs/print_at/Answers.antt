-- `printer::print_at`: the parts are those of the stamp's text, so the length is that text's, and the part of the line from the place on, put back, has it in front.
use Rattle.std.proofs.Common.{◌≡◌, ℕ, ◌+◌, ◌≤◌, ℤ, to_z, of_z, ◌∙◌, ap, arith, length, w64, SFits, to_z-of_z, rules, List, Option}
use Rattle.digits.proofs.Stores.{put_back}
use Rattle.errors.specs.Refusals.{gives}
use Rattle.printed_parts.specs.Text.{year_text, fraction_text}
use Rattle.printer.specs.declared.Instant.{Instant}
use Rattle.printer.specs.Text.{text, Ranged}
use Rattle.printer.proofs.Text.{text_length, text_of, text_bound}
use Rattle.printer.proofs.Lent.{outside, narrow, room}
use Rattle.printer.proofs.print_at.Goals as goal

-- the year's part is that of the stamp's text
year_is : {y : ℤ} {s : List ℕ} → SFits w64 y → s ≡ year_text (to_z w64 (of_z w64 y)) → s ≡ year_text y
year_is f e = rw (to_z-of_z {w = w64} f) at e

-- the length is the text's, and so is what stands before the fraction
record Sized (t : Instant) (p : Option ℕ) (year all : ℕ) : Type 0 where
  year_size : year ≡ length (year_text t.moment.date.year)
  size : all ≡ length (text t p)
  bound : length (text t p) ≤ 38

sized : (t : Instant) (p : Option ℕ) {year fraction : ℕ} {y f : List ℕ} → Ranged t → y ≡ year_text t.moment.date.year → f ≡ fraction_text p t.nanos
    → year ≡ length y → fraction ≡ length f → Sized t p year (year + 15 + fraction)
sized t p r e g l m =
    let a = l ∙ ap length e in
    record { year_size = a; size = omega (arith, a, m, ap length g, text_length t p); bound = text_bound t p r }

pub returns-then-line-at : goal.returns-then-line-at
returns-then-line-at c = let r = outside _ _ _ c.if-line-at.true in record { answered = r.0; written = r.1 }

pub overflow_add-without_fraction : goal.overflow_add-without_fraction
overflow_add-without_fraction c =
    let f : SFits w64 c.args.t.moment.date.year = search rules in
    let l = c.part_length-without_fraction.ensures ∙ ap length (year_is f c.year_part-year.ensures) in
    omega (arith, text_length c.args.t c.args.precision, text_bound c.args.t c.args.precision c.requires)

pub overflow_add-length : goal.overflow_add-length
overflow_add-length c =
    let f : SFits w64 c.args.t.moment.date.year = search rules in
    let k = sized c.args.t c.args.precision c.requires (year_is f c.year_part-year.ensures) c.fraction_part-fraction.ensures c.part_length-without_fraction.ensures c.part_length.ensures in
    omega (arith, k.size, k.bound)

pub overflow_cast-result : goal.overflow_cast-result
overflow_cast-result c =
    let f : SFits w64 c.args.t.moment.date.year = search rules in
    let k = sized c.args.t c.args.precision c.requires (year_is f c.year_part-year.ensures) c.fraction_part-fraction.ensures c.part_length-without_fraction.ensures c.part_length.ensures in
    omega (arith, k.size, k.bound)

pub returns-then-room-length : goal.returns-then-room-length
returns-then-room-length c =
    let f : SFits w64 c.args.t.moment.date.year = search rules in
    let k = sized c.args.t c.args.precision c.requires (year_is f c.year_part-year.ensures) c.fraction_part-fraction.ensures c.part_length-without_fraction.ensures c.part_length.ensures in
    let r = narrow c.args.line.now c.args.at (text c.args.t c.args.precision) k.size c.if-line-at.false c.if-room-length.true in
    record { answered = r.0; written = r.1 }

pub returns : goal.returns
returns c =
    let f : SFits w64 c.args.t.moment.date.year = search rules in
    let k = sized c.args.t c.args.precision c.requires (year_is f c.year_part-year.ensures) c.fraction_part-fraction.ensures c.part_length-without_fraction.ensures c.part_length.ensures in
    let a = c.args in
    let h = c.if-line-at.false in
    let e = k.size in
    let g = rw e at c.if-room-length.false in
    let r = room a.line.now a.at (text a.t a.precision) h g in
    let q = text_of a.t a.precision (year_is f c.year_part-year.ensures) c.fraction_part-fraction.ensures in
    record { answered = ap gives e ∙ r.0; written = put_back a.line.now a.at _ _ h g (c.put_text.ensures ∙ rw q) ∙ r.1 }
