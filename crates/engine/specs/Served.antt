-- What a call returned and left, as an outcome; what its parts ask, and what they come to with any entries.
use Rattle.model.specs.declared.Fate.{Fate}
use Rattle.std.specs.Prelude.{ℕ, ◌≤◌, ◌≡◌, true, List, length}
use Rattle.std.specs.Prelude.{None}
use Rattle.calendar.specs.declared.Now.{Now}
use Rattle.model.specs.Requests as model
use Rattle.model.specs.Refusals.{least_room}
use Rattle.settings.specs.declared.Rule.{Rule}
use Rattle.settings.specs.declared.Settings.{Settings}
use Rattle.settings.specs.declared.State.{State}
use Rattle.settings.specs.Bytes.{rules_of}
use Rattle.settings.specs.Meaning.{settings_mean, prefixes_are}
use Rattle.settings.specs.State.{settings_by}
use Rattle.table.specs.Layout.{rows_of, capacity, Holds}
use Rattle.table.specs.Contents.{contents}
use Rattle.bucket.specs.Whole.{Lent, lent, whole}
use Rattle.request.specs.declared.Verb.{Verb}
use Rattle.screen.specs.Screen.{screened_line}
use Rattle.judge.specs.declared.Plan.{Plan}
use Rattle.model.specs.declared.Refusal.{Refusal}
use Rattle.std.specs.Prelude.{Result, Ok, Err}
use Rattle.model.specs.Refusal.{number_of}
use Rattle.judge.specs.Meaning.{verdict_means, Feasible}
use Rattle.judge.specs.State.{rows_in, Ready}
use Rattle.apply.specs.Applied.{judged}
use Rattle.outcome.specs.Outcome.{Outcome, refused}
use Rattle.outcome.specs.Steps.{done}
use Rattle.engine.specs.declared.Done.{Done}
use Rattle.engine.specs.declared.Counted.{Counted}
use Rattle.engine.specs.declared.Served.{Served}

-- What a call returned and left, with these rules: a refusal is told by its number, and leaves the state as it was.
abbrev pub outcome_by : State → Result Done Refusal → List Rule → List ℕ → List ℕ → List ℕ → Outcome
outcome_by s (Ok d) rules numbers keys answer = record { number = 0; len = d.len; bucket = lent (settings_by d.state rules) numbers keys; answer = answer }
outcome_by s (Err e) rules numbers keys answer = refused (number_of e) (lent (settings_by s rules) numbers keys) answer

-- with these entries
abbrev pub outcome_from : State → Result Done Refusal → List ℕ → List ℕ → List ℕ → List ℕ → Outcome
outcome_from s r entries numbers keys answer = outcome_by s r (rules_of entries) numbers keys answer

-- with the settings by value
abbrev pub served_outcome : Settings → Result Served Refusal → List ℕ → List ℕ → List ℕ → Outcome
served_outcome s (Ok r) numbers keys answer = record { number = 0; len = r.len; bucket = lent r.settings numbers keys; answer = answer }
served_outcome s (Err e) numbers keys answer = refused (number_of e) (lent s numbers keys) answer

-- what was served, without its count
abbrev pub uncounted : Result Counted Refusal → Result Done Refusal
uncounted (Ok c) = Ok c.done
uncounted (Err e) = Err e

-- the count; what is refused has none
abbrev pub count_of : Result Counted Refusal → ℕ
count_of (Ok c) = c.comparisons
count_of (Err e) = 0

-- the state at another time, with other used rows and another next number
abbrev pub with_progress : State → ℕ → ℕ → ℕ → State
with_progress s time used next = record { time = time; used = used; next = next; mode = s.mode; count = s.count; unit = s.unit }

-- an answer of this length was written, and of the state the time alone became now
abbrev pub answered_with : State → ℕ → Now → Done
answered_with s len when = record { len = len; state = with_progress s when.stamp s.used s.next }

-- The bucket is whole, and the line passes the screen: it says this verb, and this is its now.
pub record Passing (b : Lent) (line answer : List ℕ) (v : Verb) (when : Now) : Type 0 where
  pub is_whole : whole b ≡ true
  pub passes : Ok (record { verb = v; when = when }) ≡ screened_line (settings_mean b.settings).config b.settings.time line (length answer)

-- ## A plan

-- The state is ready, the plan can be carried out on it, and there is room for the answer.
pub record CanCarryOut (s : State) (numbers keys line answer : List ℕ) (p : Plan) (now : ℕ) (fates : List Fate) : Type 0 where
  pub ready : Ready s (contents numbers keys s.used)
  pub held : Holds (capacity keys) (rows_in s numbers keys) numbers keys
  pub feasible : Feasible (judged line s.next now fates) (capacity keys) (rows_in s numbers keys) (Ok p)
  pub room : least_room ≤ length answer

-- With any rules whose prefixes are as they are written, what is returned and left is the plan's decision, done, where the verb sets nothing.
pub record CarriedOut (s : State) (numbers keys line answer : List ℕ) (p : Plan) (now : ℕ) (fates : List Fate) (r : Done) (numbers' keys' answer' : List ℕ) : Type 0 where
  pub is : (rules : List Rule) (u : model.Verb) → prefixes_are rules ≡ true → model.setting_of u ≡ None
      → outcome_by s (Ok r) rules numbers' keys' answer' ≡ done (lent (settings_by s rules) numbers keys) now u answer (verdict_means (judged line s.next now fates) (rows_of numbers keys s.used) (Ok p))
