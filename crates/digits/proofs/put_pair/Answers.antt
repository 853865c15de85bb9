-- `digits::put_pair`: the two bytes are the two digits (`pair_bytes`).
use Rattle.std.proofs.Common.{◌≡◌, ◌/◌, ◌∙◌, ap, length, arith}
use Rattle.digits.specs.Digits.{digits}
use Rattle.digits.proofs.Stores.{part_anew}
use Rattle.digits.proofs.Decimal.{digits_length, pair_bytes}
use Rattle.digits.proofs.put_pair.Goals as goal
use Rattle.std.proofs.lemmas.List.Edits.{sets}

pub returns : goal.returns
returns c =
    let n = c.args.n in
    let t : c.split_last_digit-tens.result.rest ≡ n / 10 = c.split_last_digit-tens.ensures.0 in
    let b : c.copy_from_slice.new.self ≡ digits 2 n = c.copy_from_slice.ensures.after ∙ c.to_le_bytes.ensures ∙ rw t (pair_bytes n (omega arith)) in
    part_anew c.args.s.now c.args.at _ _ (omega arith) (omega (arith, ap length b, digits_length 2 n)) ∙ ap (sets c.args.s.now c.args.at) b
