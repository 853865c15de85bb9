-- The constants that belong to the types: document 01, "What we take from the crate" and "Parts".
use Rattle.std.specs.Prelude.{List, [], ◌∷◌, ℕ, ◌^◌, ◌-◌, ℤ, pos, neg_ℤ}
use Rattle.counts.specs.declared.constants.Constants.{Constants}

-- the epoch itself, and the first and the last timestamp that an i64 and nine digits hold
abbrev pub start : ℤ × ℕ
start = (pos 0, 0)

abbrev pub earliest : ℤ × ℕ
earliest = (neg_ℤ (pos (2 ^ 63)), 0)

abbrev pub latest : ℤ × ℕ
latest = (pos (2 ^ 63 - 1), 10 ^ 9 - 1)

-- MonotonicTime, GpsTime, GstTime, BdtTime, Tai1958Time, Tai1972Time
abbrev pub named_epochs : List ℤ
named_epochs = pos 0 ∷ pos 315964819 ∷ pos 935280019 ∷ pos 1136073633 ∷ neg_ℤ (pos 378691200) ∷ pos 63072000 ∷ []

-- what the code's constants are, in this order
abbrev pub said_constants : Constants → List (ℤ × ℕ) × List ℤ
said_constants c = (
  (c.start.secs, c.start.nanos) ∷ (c.earliest.secs, c.earliest.nanos) ∷ (c.latest.secs, c.latest.nanos) ∷ [],
  c.monotonic.0 ∷ c.gps.0 ∷ c.gst.0 ∷ c.bdt.0 ∷ c.tai1958.0 ∷ c.tai1972.0 ∷ [],
)

-- the three timestamps
abbrev pub ends : List (ℤ × ℕ)
ends = start ∷ earliest ∷ latest ∷ []
