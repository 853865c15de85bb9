-- What an answer says whose error `?` handed on.
use mathlib.Core.Path.{◌≡◌, ap}
use Rattle.std.specs.Prelude.{Result, Ok, Err, IsErrAnd}
use Rattle.errors.specs.Refusals.{Refusal, refuses, says}

-- an error that `?` hands on
pub handed_on : {A B E : Type 0} (form : A → B) (refusal_of : E → Refusal) (r : Result A E) (e : E) → IsErrAnd r (λ y. y ≡ e) → says form refusal_of r ≡ refuses (refusal_of e)
handed_on form refusal_of (Ok x) e h = absurd h
handed_on form refusal_of (Err y) e h = ap (λ e. refuses (refusal_of e)) h
