-- `stages::usual::parse_usual`: each field stands in its place.
use Rattle.std.proofs.Common.{◌≡◌, ℕ, ◌+◌, ◌*◌, ◌≤◌, drop, arith, w64, to_z, of_z, ℤ, pos, ◌+ℤ◌, ◌*ℤ◌, ◌∙◌, ◌<◌, Ok}
use Rattle.std.proofs.lemmas.Int.{ints, to_z-of_z}
use Rattle.std.proofs.lemmas.Result.{err_from_is_err_and}
use Rattle.fields.specs.Fields.{seconds}
use Rattle.stages.specs.Text.{on_seconds, parsed}
use Rattle.stages.proofs.Shape.{usual_parsed, seconds_last, seconds_more}
use Rattle.stages.proofs.usual.parse_usual.Goals.{After-pair-sec}
use Rattle.stages.proofs.usual.parse_usual.Goals as goal

-- the year as the machine makes it of its two pairs
abbrev machine_year : ℤ → ℤ → ℤ
machine_year p q = to_z w64 (of_z w64 (to_z w64 (of_z w64 (to_z w64 (of_z w64 p) *ℤ pos 100)) +ℤ to_z w64 (of_z w64 q)))

year : (p q : ℕ) → p < 256 → q < 256 → machine_year (pos p) (pos q) ≡ pos (p * 100 + q)
year p q h k = grind (arith, ints, to_z-of_z)

found : (c : After-pair-sec) (limit : ℕ) → 9999 ≤ limit
    → parsed limit c.args.text.now
    ≡ on_seconds (seconds (drop 17 c.args.text.now)) λ sec nano. Ok (record { year = machine_year c.from-hundreds.result c.from-rest.result; month = c.pair-month.result; day = c.pair-day.result; hour = c.pair-hour.result; min = c.pair-min.result; sec = sec; nano = nano })
found c limit h =
    usual_parsed _ c.requires limit h ∙ rw (c.from-hundreds.ensures, c.from-rest.ensures, year _ _ c.pair.type_inv c.pair-2.type_inv, c.pair.ensures, c.pair-2.ensures, c.pair-month.ensures, c.pair-day.ensures, c.pair-hour.ensures, c.pair-min.ensures)

pub returns-then-text-eq19 : goal.returns-then-text-eq19
returns-then-text-eq19 c = λ limit h. rw (found (goal.at.returns-then-text-eq19 c).After-pair-sec limit h, seconds_last _ c.requires c.if-text-eq19.true, ← c.pair-sec.ensures)

pub returns-in_err-sec : goal.returns-in_err-sec
returns-in_err-sec c = λ limit h.
    let p = err_from_is_err_and c.from_residual.result c.from_residual.ensures.1 in
    rw (p.1, p.2, found (goal.at.returns-in_err-sec c).After-pair-sec limit h, seconds_more _ c.requires c.if-text-eq19.false, ← c.pair-sec.ensures, ← c.skip.ensures, ← c.pull_fraction.ensures, c.in_err-sec.was)

pub returns-in_ok-sec : goal.returns-in_ok-sec
returns-in_ok-sec c = λ limit h.
    rw (found (goal.at.returns-in_ok-sec c).After-pair-sec limit h, seconds_more _ c.requires c.if-text-eq19.false, ← c.pair-sec.ensures, ← c.skip.ensures, ← c.pull_fraction.ensures, c.in_ok-sec.was)
