-- 01, "The lock clause": its words over a history, which is a bucket to begin with and the accepted lines since, each by what it means, and the claim.
use Rattle.std.specs.Prelude.{ℕ, ◌≤◌, ◌<◌, max, ◌≡◌, ◌⊎◌, Bool, true, false, not, ◌&&◌, ◌||◌, List, [], ◌∷◌, ◌++◌, eqb}
use Rattle.std.specs.Prelude.{Option, Some, None}
use Rattle.buffers.specs.Choices.{pick, then_some, is_some}
use Rattle.buffers.specs.Lists.{keep, first, all}
use Rattle.model.specs.Rows.{Row, is_data, governance, compliance}
use Rattle.model.specs.Settings.{Bucket, sound}
use Rattle.model.specs.Requests.{Retention, Verb, Put, Copy, Retain, Hold, AddMarker, DeleteVersion, Set, Sweep, Ask, Heard, is_the, terms_of, bypass_of}
use Rattle.model.specs.Time.{now_of, default_end}
use Rattle.model.specs.Effects.{row_of}
use Rattle.model.specs.Refusals.{named_row}
use Rattle.model.specs.Run.{Event, run, line_events}

-- ## The history

-- The bucket to begin with, fresh or carried over, and the accepted lines since, in order.
pub record History : Type 0 where
  pub begun : Bucket
  pub lines : List Event

abbrev pub since : Bucket → List Event → History
since b es = record { begun = b; lines = es }

-- ## Time

-- The largest clock reading of the lines, or this time where it is larger.
abbrev pub time_from : ℕ → List Event → ℕ
time_from t [] = t
time_from t (e ∷ es) = max e.request.context.clock (time_from t es)

-- The bucket's time: the largest clock reading of the accepted lines, or the time that it began with where that is larger, 0 when fresh.
abbrev pub time_after : History → ℕ
time_after h = time_from h.begun.settings.time h.lines

-- The line's now, from which creation and dates are taken.
abbrev pub line_now : Event → ℕ
line_now e = (now_of e.before e.request.context).stamp

-- ## Names

-- *Names* (01): by its number, or by `-` where that is the key's current version before the line.
abbrev pub names_in : List Row → ℕ → Verb → Bool
names_in xs v w = then_some (named_row xs w) false (λ x. eqb x.number v)

abbrev pub names : ℕ → Event → Bool
names v e = names_in e.before.rows v e.request.verb

-- ## Made with

-- What a version is made with.
pub record Making : Type 0 where
  pub key : List ℕ
  pub body : ℕ
  pub size : ℕ
  pub created : ℕ

abbrev pub making_of : Row → Making
making_of x = record { key = x.key; body = x.body; size = x.size; created = x.created }

-- ## Carried over (M-106)

-- The rows with this version number.
abbrev pub versions : ℕ → List Row → List Row
versions v xs = keep (λ x. eqb x.number v) xs

-- The data row of this number that the bucket begins with.
abbrev pub carried : Bucket → ℕ → Option Row
carried b v = first is_data (versions v b.rows)

-- It counts as made with what it holds,
abbrev pub carried_making : Bucket → ℕ → Option Making
carried_making b v = then_some (carried b v) None (λ x. Some (making_of x))

-- as put under its mode until its date,
abbrev pub carried_under : Bucket → ℕ → ℕ → ℕ → Bool
carried_under b mode d v = then_some (carried b v) false (λ x. eqb x.mode mode && eqb x.until d)

-- and as put on hold where its hold is on.
abbrev pub carried_on_hold : Bucket → ℕ → Bool
carried_on_hold b v = then_some (carried b v) false (λ x. eqb x.hold 1)

-- ## Made by

-- The line is a PUT or COPY, no retry, and answers this number.
abbrev pub answers : ℕ → Event → Bool
answers v e = e.answered v

-- *Made with* (01), by what the versions before the line were made with: a PUT gives body and length, in a COPY they are those its source version was made with.
abbrev pub making_by : (ℕ → Option Making) → Event → Verb → Option Making
making_by earlier e (Put k body size t) = Some (record { key = k; body = body; size = size; created = line_now e })
making_by earlier e (Copy n k t) =
    then_some (row_of e.before.rows n) None (λ x.
    then_some (earlier x.number) None (λ m. Some (record { key = k; body = m.body; size = m.size; created = line_now e })))
making_by earlier e (Retain n r y) = None
making_by earlier e (Hold n on) = None
making_by earlier e (AddMarker k y) = None
making_by earlier e (DeleteVersion k v y) = None
making_by earlier e (Set s) = None
making_by earlier e Sweep = None
making_by earlier e (Ask q) = None

-- What each version is made with after one line more: the line that first answers its number decides.
abbrev pub making_after : (ℕ → Option Making) → Event → ℕ → Option Making
making_after earlier e v = then_some (earlier v) (pick (answers v e) (making_by earlier e e.request.verb) None) (λ m. Some m)

abbrev pub making_from : (ℕ → Option Making) → List Event → ℕ → Option Making
making_from earlier [] v = earlier v
making_from earlier (e ∷ es) v = making_from (making_after earlier e) es v

abbrev pub made_with : History → ℕ → Option Making
made_with h v = making_from (carried_making h.begun) h.lines v

-- *Made by* (01): after the history `early`, this is the accepted PUT or COPY that first answers the number.
abbrev pub makes : History → ℕ → Event → Bool
makes early v e = answers v e && not (is_some (made_with early v))

-- ## Puts under a mode until D, puts on hold, takes off hold, bypasses

-- It gives both; or it gives no mode while the default has that mode, and D is now plus its period.
abbrev pub gives : ℕ → ℕ → Event → Retention → Bool
gives mode d e r =
    (is_the mode r.mode && is_the d r.date)
    || (not (is_some r.mode) && (eqb e.before.settings.config.default.mode mode && eqb (default_end e.before.settings.config (line_now e)) d))

-- RETAIN's mode and date.
abbrev pub retain_fields : Verb → Option Retention
retain_fields (Put k body size t) = None
retain_fields (Copy n k t) = None
retain_fields (Retain n r y) = Some r
retain_fields (Hold n on) = None
retain_fields (AddMarker k y) = None
retain_fields (DeleteVersion k v y) = None
retain_fields (Set s) = None
retain_fields Sweep = None
retain_fields (Ask q) = None

-- *Puts under a mode until D* (01): the line that makes it, or a RETAIN naming it with that mode and D.
abbrev pub puts_under : History → ℕ → ℕ → ℕ → Event → Bool
puts_under early mode d v e =
    then_some (terms_of e.request.verb)
    (then_some (retain_fields e.request.verb) false (λ r. names v e && (is_the mode r.mode && is_the d r.date)))
    (λ t. makes early v e && gives mode d e t.retention)

abbrev pub is_on : Option Bool → Bool
is_on None = false
is_on (Some on) = on

-- HOLD's ON (true) or OFF (false).
abbrev pub hold_field : Verb → Option Bool
hold_field (Put k body size t) = None
hold_field (Copy n k t) = None
hold_field (Retain n r y) = None
hold_field (Hold n on) = Some on
hold_field (AddMarker k y) = None
hold_field (DeleteVersion k v y) = None
hold_field (Set s) = None
hold_field Sweep = None
hold_field (Ask q) = None

-- *Puts on hold* (01): the line that makes it with hold ON, or a HOLD ON naming it.
abbrev pub puts_on_hold : History → ℕ → Event → Bool
puts_on_hold early v e =
    then_some (terms_of e.request.verb)
    (then_some (hold_field e.request.verb) false (λ on. names v e && on))
    (λ t. makes early v e && is_on t.hold)

-- A HOLD OFF.
abbrev pub hold_off : Verb → Bool
hold_off w = then_some (hold_field w) false not

-- A HOLD OFF naming the version.
abbrev pub takes_off_hold : ℕ → Event → Bool
takes_off_hold v e = names v e && hold_off e.request.verb

-- A RETAIN or DELETE with bypass naming the version.
abbrev pub bypasses : ℕ → Event → Bool
bypasses v e = names v e && bypass_of e.request.verb

-- ## The claim

-- The numbers of the rows all differ.
abbrev pub distinct : List Row → Bool
distinct [] = true
distinct (x ∷ xs) = all (λ y. not (eqb y.number x.number)) xs && distinct xs

-- The table holds the version number exactly once, as data with the key, body, length and creation that it was made with, and under this lock.
pub record Held (b : Bucket) (h : History) (v : ℕ) (Lock : Row → Type 0) : Type 0 where
  pub row : Row
  pub once : versions v b.rows ≡ row ∷ []
  pub is_data : row.kind ≡ 1
  pub unaltered : made_with h v ≡ Some (making_of row)
  pub lock : Lock row

abbrev pub InCompliance : ℕ → Row → Type 0
InCompliance d x = (x.mode ≡ compliance) × (d ≤ x.until)

abbrev pub InGovernance : ℕ → Row → Type 0
InGovernance d x = ((x.mode ≡ governance) ⊎ (x.mode ≡ compliance)) × (d ≤ x.until)

abbrev pub OnHold : Row → Type 0
OnHold x = x.hold ≡ 1

-- No line of these does this.
abbrev pub none_of : (Event → Bool) → List Event → Bool
none_of p es = all (λ e. not (p e)) es

-- How a version came under a lock, `late` being the lines since: it was carried over so, or a line after the lines `early` put it so.
pub data Placed (h : History) (carries : Bucket → Bool) (puts : History → Event → Bool) (late : List Event) : Type 0 where
  carried_over : carries h.begun ≡ true → late ≡ h.lines → Placed h carries puts late
  by_line : (early : List Event) (e : Event) → h.lines ≡ early ++ e ∷ late → puts (since h.begun early) e ≡ true → Placed h carries puts late

-- The version was put under the mode until D,
abbrev pub PutUnder : ℕ → ℕ → ℕ → History → List Event → Type 0
PutUnder mode d v h late = Placed h (λ b. carried_under b mode d v) (λ early e. puts_under early mode d v e) late

-- or on hold.
abbrev pub PutOnHold : ℕ → History → List Event → Type 0
PutOnHold v h late = Placed h (λ b. carried_on_hold b v) (λ early e. puts_on_hold early v e) late

-- What a history left in the bucket.
pub record Kept (b : Bucket) (h : History) : Type 0 where
  -- Under COMPLIANCE until D: while the bucket's time is before D.
  pub in_compliance : (v d : ℕ) (late : List Event)
      → PutUnder compliance d v h late
      → time_after h < d
      → Held b h v (InCompliance d)
  -- Under GOVERNANCE until D: while that is so, and no later line bypasses it.
  pub in_governance : (v d : ℕ) (late : List Event)
      → PutUnder governance d v h late
      → none_of (bypasses v) late ≡ true
      → time_after h < d
      → Held b h v (InGovernance d)
  -- On hold: while no later line takes it off hold.
  pub on_hold : (v : ℕ) (late : List Event)
      → PutOnHold v h late
      → none_of (takes_off_hold v) late ≡ true
      → Held b h v OnHold

-- The lock clause: a sound bucket of any capacity whose version numbers all differ, as a fresh one's do, and any list of lines.
abbrev pub LockClause : Type 0
LockClause = (c : ℕ) (b : Bucket) → sound c b ≡ true → distinct b.rows ≡ true → (ls : List Heard) → Kept (run c b ls) (since b (line_events c b ls))

-- A row carried over counts so after any lines: as made with what it holds, as put under its mode until its date, and as put on hold where its hold is on (M-106).
pub record Counts (b : Bucket) (es : List Event) (x : Row) : Type 0 where
  pub made : made_with (since b es) x.number ≡ Some (making_of x)
  pub under : PutUnder x.mode x.until x.number (since b es) es
  pub was_put_on_hold : x.hold ≡ 1 → PutOnHold x.number (since b es) es

-- Each data row does, where the numbers all differ.
abbrev pub EachCounts : Type 0
EachCounts = (b : Bucket) → distinct b.rows ≡ true → (xs ys : List Row) (x : Row) → b.rows ≡ xs ++ x ∷ ys → x.kind ≡ 1 → (es : List Event) → Counts b es x
