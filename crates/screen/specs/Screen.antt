-- What refuses a line before the table is looked at, by the definitions of the model.
use Rattle.std.specs.Prelude.{ℕ, ◌≡◌, Bool, true, ◌&&◌, List}
use Rattle.buffers.specs.Choices.{pick, is_some}
use Rattle.model.specs.Settings.{Config}
use Rattle.model.specs.Requests as model
use Rattle.model.specs.Refusals.{half_given, lacks_right, short_for_page, past_date, least_room}
use Rattle.model.specs.Time.{now_at}
use Rattle.settings.specs.declared.State.{State}
use Rattle.fields.specs.declared.Rights.{Rights}
use Rattle.fields.specs.declared.Terms.{Terms}
use Rattle.fields.specs.Meaning.{rights_means}
use Rattle.request.specs.declared.Request.{Request}
use Rattle.request.specs.Grammar.{request_in}
use Rattle.request.specs.Meaning.{verb_means}
use Rattle.screen.specs.declared.Passed.{Passed}
use Rattle.model.specs.declared.Refusal.{Refusal}
use Rattle.model.specs.declared.Refusal.TheVariants.{ShortAnswer, Unreadable, HalfGiven, NoRight, ShortForPage, PastDate}
use Rattle.model.specs.Refusal.{◌>>=◌}
use Rattle.std.specs.Prelude.{Result, Ok, Err, ok_or, nat_lt, if◌then◌else◌}

-- PUT's rights: w; also t if a mode is given, h if a hold is given
unfoldable pub may_put : Rights → Terms → Bool
may_put a t = a.w && (pick (is_some t.retention.mode) a.t true && pick (is_some t.hold) a.h true)

-- the first of a line's own fields that refuses it
unfoldable pub screened : Config → model.Rights → ℕ → ℕ → model.Verb → Result (Unit {0}) Refusal
screened s who room now v =
    if half_given v then Err HalfGiven
    else (if lacks_right s who v then Err NoRight
    else (if short_for_page room v then Err ShortForPage
    else (if past_date now v then Err PastDate else Ok tt)))

-- ## A line

-- the same of a request
abbrev pub request_refusal : Config → ℕ → List ℕ → ℕ → Request → Result (Unit {0}) Refusal
request_refusal s time line room q = screened s (rights_means q.rights) room (now_at time q.clock).stamp (verb_means line q.verb)

-- what a line comes to
unfoldable pub screened_line : Config → ℕ → List ℕ → ℕ → Result Passed Refusal
screened_line s time line room =
    if nat_lt room least_room then Err ShortAnswer
    else (do
      q ← ok_or (request_in line) Unreadable
      _ ← request_refusal s time line room q
      Ok (record { verb = q.verb; when = now_at time q.clock }))

-- the line comes to this, whatever the config: no right depends on it
pub record Screens (s : State) (line : List ℕ) (room : ℕ) (r : Result Passed Refusal) : Type 0 where
  pub is : (config : Config) → r ≡ screened_line config s.time line room
