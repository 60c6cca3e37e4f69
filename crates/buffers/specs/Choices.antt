-- The two forms in which readers, refusals and verbs are defined: a test, and a value that may be missing.
use Rattle.std.specs.Prelude.{ℕ, Bool, true, false, Option, Some, None, option_and_then}
-- if, then, else
pub use Rattle.std.specs.Prelude.{cond as pick}

-- go on with the value where there is one, else the given result
abbrev pub then_some : {A B : Type 0} → Option A → B → (A → B) → B
then_some None missing f = missing
then_some (Some a) missing f = f a

-- go on with the value where there is one, as `?` and `let .. else` do
infixl 10 ◌>>=◌
abbrev pub ◌>>=◌ : {A B : Type 0} → Option A → (A → Option B) → Option B
o >>= f = option_and_then f o

-- there is a value
abbrev pub is_some : {A : Type 0} → Option A → Bool
is_some None = false
is_some (Some a) = true

-- the value, 0 where it is missing
abbrev pub or_zero : Option ℕ → ℕ
or_zero None = 0
or_zero (Some n) = n
