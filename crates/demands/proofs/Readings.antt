-- The readings of document 01 that are marked P, one table (specs/Readings.antt) and one claim about all its rows; and others.
use mir.Facts.{and_yes}
use Rattle.demands.specs.Readings.{readings, AllHold}
use Rattle.demands.specs.OurReadings.{ours}
use Rattle.demands.proofs.ReadingsTest.{all_pass, all_hold, all_pass_lem}

-- Every reading holds: what is printed, what a date counts, what a text reads as and what a sum is are as the row says.
pub every_reading : AllHold readings
every_reading = all_hold readings (and_yes (all_pass readings) (all_pass ours) all_pass_lem).0

-- So do ours: each named epoch starts as it should, the latest timestamp and one of the longest texts are printed so, and what
-- leaves i64 on the way and comes back is answered (02, ask 5).
pub our_readings : AllHold ours
our_readings = all_hold ours (and_yes (all_pass readings) (all_pass ours) all_pass_lem).1
