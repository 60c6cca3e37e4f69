-- What a verdict of the code stands for, and what a plan needs to be carried out.
use Rattle.std.specs.Prelude.{ℕ, ◌+◌, ◌≤◌, ◌<◌, ◌≡◌, List, [], length, take, set}
use Rattle.buffers.specs.Choices.{then_some}
use Rattle.buffers.specs.Lists.{total}
use Rattle.text.specs.Fields.{part_of}
use Rattle.model.specs.declared.Fate.{Fate}
use Rattle.model.specs.Rows.{Row}
use Rattle.model.specs.Settings.{spent_number}
use Rattle.model.specs.Sweep.{marks, removes, carried_out}
use Rattle.table.specs.Places.{row_from}
use Rattle.table.specs.Changes.{insert_at, remove_at}
use Rattle.search.specs.Places as places
use Rattle.answers.specs.Meaning.{text_of, Printable}
use Rattle.judge.specs.declared.Change.{Change}
use Rattle.judge.specs.declared.Change.TheVariants.{Keep, Insert, Rewrite, Remove, Sweep}
use Rattle.judge.specs.declared.Plan.{Plan}
use Rattle.model.specs.declared.Refusal.{Refusal}
use Rattle.model.specs.Refusal.{number_of}
use Rattle.std.specs.Prelude.{Result, Ok, Err}
use Rattle.outcome.specs.Decision.{Effect, Decision, refuses, does}

-- ## Verdicts

-- the key of the row at a position
abbrev pub key_here : List Row → ℕ → List ℕ
key_here xs i = then_some (places.nth_row xs i) [] (λ x. x.key)

-- what is judged, beside the verdict: the line, the next number, now, and the fates of a sweep
pub record Judged : Type 0 where
  pub line : List ℕ
  pub next : ℕ
  pub now : ℕ
  pub fates : List Fate

-- the rows that a change leaves
abbrev pub change_means : Judged → List Row → Change → List Row
change_means j xs Keep = xs
change_means j xs (Insert i n k) = insert_at i (row_from n (part_of j.line k)) xs
change_means j xs (Rewrite i n) = set xs i (row_from n (key_here xs i))
change_means j xs (Remove i) = remove_at i xs
change_means j xs (Sweep gone new) = carried_out j.now j.next (take (length xs) j.fates) xs

-- the version numbers that a change takes
abbrev pub change_takes : Change → ℕ
change_takes Keep = 0
change_takes (Insert i n k) = 1
change_takes (Rewrite i n) = 0
change_takes (Remove i) = 0
change_takes (Sweep gone new) = new

-- what a plan leaves in the table, the version numbers that it takes, and its answer
abbrev pub plan_means : Judged → List Row → Plan → Effect
plan_means j xs p = record { rows = change_means j xs p.change; taken = change_takes p.change; text = text_of p.answer }

abbrev pub verdict_means : Judged → List Row → Result Plan Refusal → Decision
verdict_means j xs (Err e) = refuses (number_of e)
verdict_means j xs (Ok p) = does (plan_means j xs p)

-- ## What a plan needs

-- A change that a table of capacity c with these rows can carry out.
abbrev pub Changeable : Judged → ℕ → List Row → Change → Type 0
Changeable j c xs Keep = Unit
Changeable j c xs (Insert i n k) = (i ≤ length xs) × (length xs < c) × (length (part_of j.line k) ≤ 63) × (k.start + k.len ≤ length j.line) × (j.next < spent_number)
Changeable j c xs (Rewrite i n) = i < length xs
Changeable j c xs (Remove i) = i < length xs
Changeable j c xs (Sweep gone new) =
    (gone ≡ total removes (take (length xs) j.fates)) × (new ≡ total marks (take (length xs) j.fates))
    × (length xs + new ≤ c + gone) × (gone ≤ length xs) × (j.next + new ≤ spent_number) × (length xs ≤ length j.fates)

abbrev pub Feasible : Judged → ℕ → List Row → Result Plan Refusal → Type 0
Feasible j c xs (Err e) = (1 ≤ number_of e) × (number_of e ≤ 12)
Feasible j c xs (Ok p) = Changeable j c xs p.change × Printable p.answer

-- A verdict that is the decision, and that can be carried out.
pub record Judges (j : Judged) (c : ℕ) (xs : List Row) (r : Result Plan Refusal) (d : Decision) : Type 0 where
  pub is : verdict_means j xs r ≡ d
  pub feasible : Feasible j c xs r
