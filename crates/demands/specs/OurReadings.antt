-- Readings beside those marked P: one of the longest texts, the latest timestamp, document 01's two of Unix seconds, one of
-- them as 02 amends it, 02's change of epoch (ask 5), and where the named epochs start.
use Rattle.std.specs.Prelude.{List, [], ◌∷◌, ℤ, pos, neg_ℤ, ◌+ℤ◌}
use Prim.Native.String.{String}
use Rattle.errors.specs.Refusals.{gives}
use Rattle.counts.specs.Constants.{earliest, latest, named_epochs}
use Rattle.demands.specs.Readings.{Reading, prints, converts, moves}

-- a row for each epoch: what its start is printed as (an epoch without a text would have the empty one, which nothing prints)
abbrev pub starts : List ℤ → List String → List Reading
starts [] texts = []
starts (epoch ∷ epochs) [] = prints epoch (pos 0) 0 "" ∷ starts epochs []
starts (epoch ∷ epochs) (text ∷ texts) = prints epoch (pos 0) 0 text ∷ starts epochs texts

-- a sign, twelve digits of a year and nine of a fraction
abbrev pub longest_text : String
longest_text = "-292277022657-01-27 08:29:52.999999999"

abbrev pub ours : List Reading
ours =
    prints (pos 0) earliest.0 999999999 longest_text ∷
    prints (pos 0) latest.0 latest.1 "292277026596-12-04 15:30:07.999999999" ∷
    converts (pos 0) (pos 0) 4294967295 (pos 0) (gives (pos 4, 294967295)) ∷
    converts (pos 0) latest.0 1000000000 (neg_ℤ (pos 1)) (gives (latest.0, 0)) ∷
    moves earliest.0 (pos 1) (pos 5) 0 (gives (earliest.0 +ℤ pos 4, 0)) ∷
    starts named_epochs
    ("1970-01-01 00:00:00" ∷ "1980-01-06 00:00:19" ∷ "1999-08-22 00:00:19" ∷ "2006-01-01 00:00:33" ∷ "1958-01-01 00:00:00" ∷ "1972-01-01 00:00:00" ∷ [])
