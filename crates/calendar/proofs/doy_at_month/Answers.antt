-- `calendar::doy_at_month`: the rule of the starts (`start_rule`).
use Rattle.std.proofs.Common.{◌+◌, ◌-◌, ◌*◌, ◌/◌, cond, sym, ap, ◌∙◌, arith, lt-ltb, le-ltb}
use mir.Val.{bool_byte}
use Rattle.calendar.proofs.Months.{start_rule}
use Rattle.calendar.proofs.doy_at_month.Goals as goal

pub returns-then-index-lt2 : goal.returns-then-index-lt2
returns-then-index-lt2 c =
    let k = c.args.index in
    let b = c.args.leap in
    ap (λ t. cond t ((k * 489 + 8) / 16) ((k * 489 + 8) / 16 - 2 + bool_byte b)) (sym (lt-ltb k 2 (omega arith))) ∙ start_rule b k c.requires

pub returns-else-index-lt2 : goal.returns-else-index-lt2
returns-else-index-lt2 c =
    let k = c.args.index in
    let b = c.args.leap in
    ap (λ t. cond t ((k * 489 + 8) / 16) ((k * 489 + 8) / 16 - 2 + bool_byte b)) (sym (le-ltb k 2 (omega arith))) ∙ start_rule b k c.requires
