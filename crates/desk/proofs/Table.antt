-- The table of verbs as the code goes over it.
use mathlib.Core.Path.{◌≡◌, refl, sym, ◌∙◌}
use mathlib.Core.Bool.{cond}
use mathlib.Core.List.{List, [], ◌∷◌, map}
use Prim.Native.Nat.{ℕ, ◌≤◌}
use lib.ListN.{length, take, drop}
use borrow.Author.Tests.{le-ltb}
use Rattle.std.specs.Prelude.{Option, Some, None}
use Rattle.texts.specs.Texts.{bytes, alike}
use Rattle.words.specs.Words.{word_length, rest_at}
use Rattle.words.specs.Places.{kinds_of, tail_of, fits, given}
use Rattle.words.proofs.ByRow.{by_word_lem}
use Rattle.words.proofs.Places.{by_place}
use Rattle.answers.specs.Answers.{malformed}
use Rattle.desk.specs.declared.verbs.Verb.{Verb}
use Rattle.desk.specs.declared.verbs.Verb.TheVariants.{Print, Line, New, Date, Unix, ToUnix, Epoch, Add, Sub, Since, Compare, Read, ReadHex}
use Rattle.desk.specs.Verbs.{Row, row, row_of, rows, verbs, word_in, verb_of, asked_by, answer_of, by_verb}
use Rattle.desk.specs.Answers.{answer_text}

-- what is answered to the verb that was found
abbrev pub of_verb : List ℕ → Option Verb → List ℕ
of_verb s (Some verb) = cond (fits (kinds_of (asked_by verb)) (tail_of (asked_by verb)) s) (answer_of verb s) malformed
of_verb s None = malformed

-- what is answered to a word, its row gone over by places
abbrev pub placed : List ℕ → List ℕ → List Row → List ℕ
placed word s [] = malformed
placed word s (row verb asks answer ∷ more) = cond (alike word (bytes verb)) (cond (fits (kinds_of asks) (tail_of asks) s) (given asks answer 0 s) malformed) (placed word s more)

by_verb_lem : (word s : List ℕ) (table : List Row) → placed word s table ≡ by_verb word s table
unfolding rest_at
by_verb_lem word s [] = refl
by_verb_lem word s (row verb asks answer ∷ more) = rw (by_place asks answer malformed 0 s, by_verb_lem word s more)

named : (word s : List ℕ) → of_verb s (verb_of word) ≡ placed word s rows
unfolding verb_of answer_of
named word s = by_word_lem (of_verb s) word None (map (λ verb. (word_in (row_of verb), Some verb)) verbs)

pub answer_by_lem : (s : List ℕ) {verb : Option Verb} → length s ≤ 65535 → verb ≡ verb_of (take (word_length s) s) → answer_text s ≡ of_verb (drop (word_length s) s) verb
unfolding answer_text
answer_by_lem s h e =
    let word = take (word_length s) s in
    let rest = drop (word_length s) s in
    rw (le-ltb 65535 (length s) h, e) (sym (named word rest ∙ by_verb_lem word rest rows))

-- each verb is found by the word of its row
pub by_its_word : (verb : Verb) → verb_of (bytes (word_in (row_of verb))) ≡ Some verb
unfolding verb_of
by_its_word Print = refl
by_its_word Line = refl
by_its_word New = refl
by_its_word Date = refl
by_its_word Unix = refl
by_its_word ToUnix = refl
by_its_word Epoch = refl
by_its_word Add = refl
by_its_word Sub = refl
by_its_word Since = refl
by_its_word Compare = refl
by_its_word Read = refl
by_its_word ReadHex = refl
