-- Different timestamps print differently.
use mathlib.Core.Path.{◌≡◌, sym, ap, ◌∙◌}
use Prim.Native.Nat.{ℕ, ◌^◌}
use native.Mathlib.Omega.{arith}
use lib.IntN.{ℤ}
use Rattle.std.specs.Prelude.{None}
use Rattle.errors.proofs.Outcomes.{gives_one}
use Rattle.moments.proofs.Moments.{year_within}
use Rattle.reader.specs.Stamp.{read_text}
use Rattle.printer.specs.Display.{time_text}
use Rattle.demands.specs.Values.{I64, Timestamp}
use Rattle.demands.proofs.Integers.{fits}
use Rattle.demands.proofs.RoundTrip.{back}

-- DIFFERENT TIMESTAMPS PRINT DIFFERENTLY: a reader of any year would give each back
pub one_text : (epoch : ℤ) {secs secs' : ℤ} {nanos nanos' : ℕ} → I64 epoch → Timestamp secs nanos → Timestamp secs' nanos'
    → time_text secs nanos epoch None ≡ time_text secs' nanos' epoch None → (secs ≡ secs') × (nanos ≡ nanos')
one_text epoch {secs} {secs'} {nanos} {nanos'} f t t' e =
    let w = year_within secs epoch (fits secs t.secs_fit) (fits epoch f) in
    let w' = year_within secs' epoch (fits secs' t'.secs_fit) (fits epoch f) in
    let p = gives_one (sym (back (10 ^ 12) secs nanos epoch t (omega arith) (omega arith)) ∙ ap (read_text (10 ^ 12) epoch) e ∙ back (10 ^ 12) secs' nanos' epoch t' (omega arith) (omega arith)) in
    (ap (λ z. z.0) p, ap (λ z. z.1) p)
