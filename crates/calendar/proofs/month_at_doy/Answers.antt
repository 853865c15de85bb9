-- `calendar::month_at_doy`: the rule of the months (`month_rule`).
use Rattle.std.proofs.Common.{◌≡◌, ◌+◌, ◌-◌, ◌≤◌, cond, ltb, sym, ap, ◌∙◌, arith, lt-ltb, le-ltb}
use mir.Val.{bool_byte}
use Rattle.calendar.proofs.Years.{some_length}
use Rattle.calendar.proofs.Months.{month_rule}
use Rattle.calendar.proofs.month_at_doy.Goals as goal
use Rattle.calendar.proofs.month_at_doy.Goals.{Joined-doy-lacking-lt61, then-doy-lacking-lt61, else-doy-lacking-lt61}

pub overflow_add-doy : goal.overflow_add-doy
overflow_add-doy c = omega (arith, some_length c.args.leap)

pub overflow_add-even : goal.overflow_add-even
overflow_add-even c = omega (arith, some_length c.args.leap)

-- an evened day is below 369
even_top : (c : Joined-doy-lacking-lt61) → c.if-doy-lacking-lt61.even ≤ 368
even_top c =
    let l = some_length c.args.leap in
    elim c.if-doy-lacking-lt61.branch [ then-doy-lacking-lt61 w ↦ omega arith | else-doy-lacking-lt61 w ↦ omega arith ]

pub overflow_mul-result : goal.overflow_mul-result
overflow_mul-result c = omega (arith, even_top (search))

pub overflow_add-result : goal.overflow_add-result
overflow_add-result c = omega (arith, even_top (search))

pub returns : goal.returns
returns c =
    let n = c.args.doy in
    let l = 2 - bool_byte c.args.leap in
    let even : c.if-doy-lacking-lt61.even ≡ cond (ltb (n + l) 61) n (n + l) =
    elim c.if-doy-lacking-lt61.branch [
      | then-doy-lacking-lt61 w ↦ w.even-is ∙ ap (λ t. cond t n (n + l)) (sym (lt-ltb (n + l) 61 w.if-doy-lacking-lt61.true))
      | else-doy-lacking-lt61 w ↦ w.even-is ∙ ap (λ t. cond t n (n + l)) (sym (le-ltb (n + l) 61 w.if-doy-lacking-lt61.false))
    ] in
    rw even (month_rule c.args.leap c.args.doy c.requires)
