-- 01, program `bucketrun`: what is printed of a line.
use Rattle.std.specs.Prelude.{ℕ, List, [], ◌∷◌, ◌++◌, eqb, take}
use Rattle.buffers.specs.Choices.{pick}
use Rattle.buffers.specs.Texts.{bytes}
use Rattle.text.specs.Printing.{digits}
use Rattle.outcome.specs.Outcome.{Outcome}

-- `no`, tab, number, line feed
abbrev pub refusal_text : ℕ → List ℕ
refusal_text n = (bytes "no" ++ (9 ∷ [])) ++ (digits n ++ (10 ∷ []))

-- the answer of an accepted line, else its refusal
abbrev pub printed : ℕ → List ℕ → List ℕ
printed number answer = pick (eqb number 0) answer (refusal_text number)

-- what is printed of an outcome, whose answer stands at the buffer's start
abbrev pub printed_of : Outcome → List ℕ
printed_of o = printed o.number (take o.len o.answer)
