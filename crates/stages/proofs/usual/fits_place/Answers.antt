-- `stages::usual::fits_place`: any other place is a digit's.
use Rattle.std.proofs.Common.{ne_eqb, arith}
use Rattle.stages.specs.Usual.{fits_byte}
use Rattle.stages.proofs.Shape.{shape_at}
use Rattle.stages.proofs.usual.fits_place.Goals as goal

pub returns-in_default : goal.returns-in_default
unfolding fits_byte
returns-in_default c =
    rw (
      shape_at _,
      ne_eqb c.args.place 4 (λ e. grind arith),
      ne_eqb c.args.place 7 (λ e. grind arith),
      ne_eqb c.args.place 10 (λ e. grind arith),
      ne_eqb c.args.place 13 (λ e. grind arith),
      ne_eqb c.args.place 16 (λ e. grind arith),
    )
    c.is_digit.ensures
