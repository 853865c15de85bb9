-- What `answered` hands on is said as the entry's outcome.
use mathlib.Core.Path.{◌≡◌, ap, ◌∙◌}
use mathlib.Core.List.{List}
use Prim.Native.Nat.{ℕ}
use Rattle.std.specs.Prelude.{Result, Ok, Err, MatchResult, IsOkAnd, IsErrAnd}
use Rattle.errors.specs.Refusals.{Refusal, gives, refuses, says}
use Rattle.errors.specs.Told.{told}
use Rattle.errors.specs.declared.refusal.Refusal as Code
use Rattle.texts.specs.Texts.{natural}
use Rattle.answers.specs.Answers.{line}
use Rattle.answers.specs.Said.{said_text}
use Rattle.answers.specs.declared.said.Said.{Said}

-- an error that is handed on as the refusal that it is
abbrev pub told_as : {E : Type 0} → (E → Refusal) → E → Code.Refusal → Type 0
told_as of e r = told {A = ℕ} r ≡ refuses (of e)

-- what `answered` promises: a value is handed on in a form, an error as a refusal
abbrev pub Handed : {T E : Type 0} → (T → Said) → (E → Code.Refusal → Type 0) → Result T E → Result Said Code.Refusal → Type 0
Handed form refused a r = MatchResult a (λ t. IsOkAnd r (λ s. s ≡ form t)) (λ e. IsErrAnd r (refused e))

-- of values that are said in a form, and errors that are refusals
pub said_line : {T E B : Type 0} (form : T → B) (text : B → List ℕ) (handed : T → Said) (of : E → Refusal) → ((t : T) → said_text (Ok (handed t)) ≡ line text (gives (form t)))
    → (a : Result T E) (r : Result Said Code.Refusal) → Handed handed (told_as of) a r → said_text r ≡ line text (says form of a)
said_line form text handed of said (Ok t) (Ok s) h = ap (λ s. said_text (Ok s)) h ∙ said t
said_line form text handed of said (Ok t) (Err x) h = absurd h
said_line form text handed of said (Err e) (Ok s) h = absurd h
said_line form text handed of said (Err e) (Err x) h = ap (line natural) h
