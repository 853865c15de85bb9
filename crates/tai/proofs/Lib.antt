mod Wrote
