-- 01, "The twelve refusals", and 13 for LIST: the conditions, and the list of them in their order. 1 to 6 and 13 look at the verb as it is written, 7 to 12 at what it means.
use Rattle.std.specs.Prelude.{ℕ, ◌+◌, ◌*◌, ◌≡◌, Bool, true, false, not, ◌&&◌, List, [], ◌∷◌, ◌++◌, leb, ltb}
use Rattle.std.specs.Prelude.{Option, None}
use Rattle.buffers.specs.Choices.{pick, then_some, is_some}
use Rattle.buffers.specs.Lists.{all}
use Rattle.calendar.specs.declared.Now.{Now}
use Rattle.calendar.specs.Calendar.{latest}
use Rattle.model.specs.Rows.{Row, is_marker}
use Rattle.model.specs.Settings.{Config, Bucket, has_default, spent_number, fits, sound}
use Rattle.model.specs.Requests.{Letter, reading, writing, deleting, retaining, holding, bypassing, configuring, Rights, has, Retention, Terms, Setting, DefaultRetention, LifecycleRule, Get, ListVersions, Report, Repeat, Verb, Put, Copy, Retain, Hold, AddMarker, DeleteVersion, Set, Sweep, Ask, Context, Heard, unreadable, says, room_of, name_of, page_of, terms_of, retention_of, setting_of, in_range}
use Rattle.model.specs.Time.{now_of, default_end}
use Rattle.model.specs.Locks.{locked, admits}
use Rattle.model.specs.Effects.{row_of, added, rows_after}
use Rattle.model.specs.Retries.{meant}
use Rattle.model.specs.declared.Refusal.{Refusal}
use Rattle.model.specs.declared.Refusal.TheVariants.{Unsound, ShortAnswer, Unreadable, HalfGiven, NoRight, PastDate, NoRow, IsMarker, Locked, DateTooLate, NumbersSpent, TableFull, ShortForPage}
use Rattle.model.specs.Refusal.{number_of}

-- ## 2. The answer buffer is too short

-- The least length of an answer buffer.
abbrev pub least_room : ℕ
least_room = 256

-- ## 3. A field is outside its range

abbrev pub out_of_range : Context → Verb → Bool
out_of_range g v = not (leb g.clock latest && in_range v)

-- ## 4. Exactly one of mode and date (or period) is `-`

abbrev pub one_of : Bool → Bool → Bool
one_of true y = not y
one_of false y = y

abbrev pub setting_half : Setting → Bool
setting_half (DefaultRetention m p) = one_of (is_some m) (is_some p)
setting_half (LifecycleRule i u) = false

abbrev pub retention_half : Retention → Bool
retention_half r = one_of (is_some r.mode) (is_some r.date)

-- DEFAULT by mode and period, every other verb by mode and date.
unfoldable pub half_given : Verb → Bool
half_given v = then_some (setting_of v) (retention_half (retention_of v)) setting_half

-- ## 5. A needed right is missing

-- A letter that a line needs, and the key that it is needed for; verbs without a key need it for the empty key.
pub record Need : Type 0 where
  pub letter : Letter
  pub key : List ℕ

abbrev pub need : Letter → List ℕ → Need
need l k = record { letter = l; key = k }

abbrev pub need_if : Bool → Letter → List ℕ → List Need → List Need
need_if given l k ns = pick given (need l k ∷ ns) ns

-- PUT's rights: w; also t if a mode is given, h if a hold is given.
abbrev pub put_needs : List ℕ → Terms → List Need
put_needs k t = need writing k ∷ need_if (is_some t.retention.mode) retaining k (need_if (is_some t.hold) holding k [])

-- Bypass yes always needs right b. No line says `Repeat`: a retry's rights are asked of the PUT as it is written.
unfoldable pub needs : Verb → List Need
needs (Put k body size t) = put_needs k t
needs (Copy n k t) = need reading n.key ∷ put_needs k t
needs (Retain n r y) = need retaining n.key ∷ need_if y bypassing n.key []
needs (Hold n on) = need holding n.key ∷ []
needs (AddMarker k y) = need deleting k ∷ need_if y bypassing k []
needs (DeleteVersion k v y) = need deleting k ∷ need_if y bypassing k []
needs (Set s) = need configuring [] ∷ []
needs Sweep = need configuring [] ∷ []
needs (Ask (Get n)) = need reading n.key ∷ []
needs (Ask (ListVersions p)) = need reading [] ∷ []
needs (Ask (Report prefix)) = need reading [] ∷ []
needs (Ask (Repeat v)) = []

-- The letter is held for the key.
unfoldable pub granted : Config → Rights → Letter → List ℕ → Bool
granted s who l k = has who l

unfoldable pub lacks_right : Config → Rights → Verb → Bool
lacks_right s who v = not (all (λ n. granted s who n.letter n.key) (needs v))

-- ## 13. The answer buffer is too short for the page, checked after 5

-- What a row's line may take of an answer buffer.
abbrev pub row_room : ℕ
row_room = 256

-- What a page of so many rows may take.
abbrev pub page_room : ℕ → ℕ
page_room count = least_room + row_room * count

unfoldable pub short_for_page : ℕ → Verb → Bool
short_for_page room v = then_some (page_of v) false (λ p. ltb room (page_room p.count))

-- ## 6. A given date is not after now

-- A date that is given, and not after now.
abbrev pub is_past : ℕ → Option ℕ → Bool
is_past now d = then_some d false (λ t. leb t now)

unfoldable pub past_date : ℕ → Verb → Bool
past_date now v = is_past now (retention_of v).date

-- ## 7. The named key or version has no row

unfoldable pub missing : List Row → Verb → Bool
missing xs v = then_some (name_of v) false (λ n. not (is_some (row_of xs n)))

-- ## 8. That row is a marker (GET, COPY, RETAIN, HOLD)

abbrev pub removes_version : Verb → Bool
removes_version (Put k body size t) = false
removes_version (Copy n k t) = false
removes_version (Retain n r y) = false
removes_version (Hold n on) = false
removes_version (AddMarker k y) = false
removes_version (DeleteVersion k v y) = true
removes_version (Set s) = false
removes_version Sweep = false
removes_version (Ask q) = false

-- The row that a verb names.
abbrev pub named_row : List Row → Verb → Option Row
named_row xs v = then_some (name_of v) None (λ n. row_of xs n)

unfoldable pub names_marker : List Row → Verb → Bool
names_marker xs v = pick (removes_version v) false (then_some (named_row xs v) false is_marker)

-- ## 9. The row is locked (DELETE), or RETAIN's rule doesn't admit the change

abbrev pub bars : Verb → ℕ → Row → Bool
bars (Put k body size t) now x = false
bars (Copy n k t) now x = false
bars (Retain n r y) now x = not (admits now y x r)
bars (Hold n on) now x = false
bars (AddMarker k y) now x = false
bars (DeleteVersion k v y) now x = locked now y x
bars (Set s) now x = false
bars Sweep now x = false
bars (Ask q) now x = false

unfoldable pub barred : List Row → ℕ → Verb → Bool
barred xs now v = then_some (named_row xs v) false (λ x. bars v now x)

-- ## 10. A date from the default would exceed the last instant

-- No mode is given, and there is a default whose period ends after the last instant.
abbrev pub default_too_late : Config → ℕ → Retention → Bool
default_too_late s now r = not (is_some r.mode) && (has_default s.default && ltb latest (default_end s now))

unfoldable pub too_late : Config → ℕ → Verb → Bool
too_late s now v = then_some (terms_of v) false (λ t. default_too_late s now t.retention)

-- ## 11. The line needs more version numbers than are left

unfoldable pub spends : Bucket → Now → Verb → Bool
spends b now v = ltb spent_number (b.settings.next + added b now v)

-- ## 12. Used rows, less those removed, plus those added, exceed c

unfoldable pub full : ℕ → Bucket → Now → Verb → Bool
full c b now v = not (fits c b.settings.config (rows_after b now v))

-- ## The list

-- A condition with its number.
pub record Check : Type 0 where
  pub number : ℕ
  pub holds : Bool

abbrev pub check : Refusal → Bool → Check
check e h = record { number = number_of e; holds = h }

-- The number of the first that holds, or 0.
abbrev pub first_of : List Check → ℕ
first_of [] = 0
first_of (x ∷ xs) = pick x.holds x.number (first_of xs)

-- The condition of this number holds, and none before it in the list.
pub record FirstHolds (xs : List Check) (n : ℕ) : Type 0 where
  pub before : List Check
  pub after : List Check
  pub at : xs ≡ before ++ (record { number = n; holds = true } ∷ after)
  pub none_before : all (λ x. not x.holds) before ≡ true

-- The conditions that are decided without the table.
abbrev pub field_checks : Config → Rights → ℕ → ℕ → Verb → List Check
field_checks s who room now v =
    check HalfGiven (half_given v)
    ∷ check NoRight (lacks_right s who v)
    ∷ check ShortForPage (short_for_page room v)
    ∷ check PastDate (past_date now v)
    ∷ []

-- The conditions on the table and the settings.
abbrev pub table_checks : ℕ → Bucket → Now → Verb → List Check
table_checks c b now v =
    check NoRow (missing b.rows v)
    ∷ check IsMarker (names_marker b.rows v)
    ∷ check Locked (barred b.rows now.judge v)
    ∷ check DateTooLate (too_late b.settings.config now.stamp v)
    ∷ check NumbersSpent (spends b now v)
    ∷ check TableFull (full c b now v)
    ∷ []

-- The conditions on a verb whose fields are in their ranges: on the verb as it is written, then on what it means.
abbrev pub verb_checks : ℕ → Bucket → Now → Context → Verb → List Check
verb_checks c b now g v = field_checks b.settings.config g.who g.room now.stamp v ++ table_checks c b now (meant b.rows v)

-- The conditions on what the line says.
abbrev pub request_checks : ℕ → Bucket → Heard → List Check
request_checks c b (unreadable room) = check Unreadable true ∷ []
request_checks c b (says q) =
    check Unreadable (out_of_range q.context q.verb) ∷ verb_checks c b (now_of b q.context) q.context q.verb

-- The largest number of a refusal.
abbrev pub last_refusal : ℕ
last_refusal = 13

-- The conditions in their order; whether the whole is sound is told apart, since buffers hold more than the bucket.
abbrev pub checks : Bool → ℕ → Bucket → Heard → List Check
checks whole c b l = check Unsound (not whole) ∷ check ShortAnswer (ltb (room_of l) least_room) ∷ request_checks c b l

-- The refusal: the first condition that holds, or 0.
unfoldable pub refusal : ℕ → Bucket → Heard → ℕ
refusal c b l = first_of (checks (sound c b) c b l)
