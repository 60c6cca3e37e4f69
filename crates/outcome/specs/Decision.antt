-- What the definitions decide of a request on a bucket: the first refusal that holds, or the rows and the answer that the line leaves.
use Rattle.std.specs.Prelude.{ℕ, List, [], ◌∷◌}
use Rattle.buffers.specs.Choices.{pick}
use Rattle.calendar.specs.declared.Now.{Now}
use Rattle.model.specs.Rows.{Row}
use Rattle.model.specs.Settings.{Bucket}
use Rattle.model.specs.Requests.{Rights, Verb, Request}
use Rattle.model.specs.Time.{now_of}
use Rattle.model.specs.Effects.{added, rows_after}
use Rattle.model.specs.Retries.{meant}
use Rattle.model.specs.Refusals.{Check, table_checks, verb_checks}
use Rattle.model.specs.Answers.{reply}
use Rattle.answers.specs.Text.{answer_text}

-- What an accepted line leaves in the table, the version numbers that it takes, and its answer.
pub record Effect : Type 0 where
  pub rows : List Row
  pub taken : ℕ
  pub text : List ℕ

pub data Decision : Type 0 where
  refuses : ℕ → Decision
  does : Effect → Decision

-- The first condition that holds refuses.
abbrev pub decide : List Check → Effect → Decision
decide [] e = does e
decide (x ∷ xs) e = pick x.holds (refuses x.number) (decide xs e)

abbrev pub effect : Bucket → Now → Rights → Verb → Effect
effect b now who v = record { rows = rows_after b now v; taken = added b now v; text = answer_text (reply b now who v) }

-- By refusals 7 to 12.
abbrev pub table_decision : ℕ → Bucket → Now → Rights → Verb → Decision
table_decision c b now who v = decide (table_checks c b now v) (effect b now who v)

-- By refusals 4, 5, 13 and 6 of the verb as it is written, then 7 to 12 of what it means.
abbrev pub decision : ℕ → Bucket → Request → Decision
decision c b q =
    let now = now_of b q.context in
    decide (verb_checks c b now q.context q.verb) (effect b now q.context.who (meant b.rows q.verb))
