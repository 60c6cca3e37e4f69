-- The numbers of the refusals.
use Rattle.std.specs.Prelude.{ℕ, Result, Ok, Err}
use Rattle.model.specs.declared.Refusal.{Refusal}
use Rattle.model.specs.declared.Refusal.TheVariants.{Unsound, ShortAnswer, Unreadable, HalfGiven, NoRight, PastDate, NoRow, IsMarker, Locked, DateTooLate, NumbersSpent, TableFull, ShortForPage}

-- the number that a refusal has in an answer; 0 stands for none
abbrev pub number_of : Refusal → ℕ
number_of Unsound = 1
number_of ShortAnswer = 2
number_of Unreadable = 3
number_of HalfGiven = 4
number_of NoRight = 5
number_of PastDate = 6
number_of NoRow = 7
number_of IsMarker = 8
number_of Locked = 9
number_of DateTooLate = 10
number_of NumbersSpent = 11
number_of TableFull = 12
number_of ShortForPage = 13

-- 0, or the number of the refusal
abbrev pub code_of : {A : Type 0} → Result A Refusal → ℕ
code_of (Ok x) = 0
code_of (Err e) = number_of e

-- go on with the value where there is one, as `?` does
infixl 10 ◌>>=◌
abbrev pub ◌>>=◌ : {A B E : Type 0} → Result A E → (A → Result B E) → Result B E
Ok x >>= f = f x
Err e >>= f = Err e
